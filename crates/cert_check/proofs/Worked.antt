-- Definitions on worked values: a store to which a key is asked that is solved, and then once more, when the entry
-- decides it.
use Rattle.std.proofs.Common.{◌≡◌, ◌≢◌, ℕ, List, [], ◌∷◌, ℤ, pos, true, arith, refl}
use Rattle.std.proofs.lemmas.List.Elements.{All-nil}
use Rattle.lin_model.specs.declared.op.Op.TheVariants.{Le, Ge}
use Rattle.lin_model.specs.KeyAtom.{PlainKeyAtom}
use Rattle.lin_model.specs.Bounded.{variable}
use Rattle.cert_check.specs.declared.entry.Entry.{Entry}
use Rattle.cert_check.specs.declared.entry.Entry.TheVariants.{Sat}
use Rattle.cert_check.specs.declared.reply.Reply.TheVariants.{Hit, Solved}
use Rattle.cert_check.specs.declared.saved.Saved.TheVariants.{Off}
use Rattle.cert_check.specs.Decides.{Decides, IsChecked}
use Rattle.cert_check.specs.Machine.{CoreState, Turn, begun, kept, seat_of, MayBegin, MayCome, MayKeep, after}
use Rattle.cert_check.specs.Logs.{IsLegalLog, entries_after, replayed, start}
use Rattle.cert_check.specs.Replies.{Stands}
use Rattle.cert_check.specs.Seats.{SeatState, SeatTerms}
use Rattle.cert_check.specs.Asks.{Asks}
use Rattle.cert_check.proofs.SettleLemmas.{covers_itself}

-- `v0 <= c` and `v0 >= c`
abbrev at_most : ℤ → PlainKeyAtom
at_most c = record { form = variable 0; op = Le; constant = c }

abbrev at_least : ℤ → PlainKeyAtom
at_least c = record { form = variable 0; op = Ge; constant = c }

-- the key of `x` over 0 to 10 with `2*x <= 7` and `x >= 3`, and its entry
abbrev three : List PlainKeyAtom
three = at_most (pos 3) ∷ at_least (pos 3) ∷ []

abbrev entry : Entry
entry = Sat (record { key = three; point = pos 3 ∷ [] })

-- seat 0 solves the key, and its entry is kept at place 0
abbrev log : List Turn
log = begun 0 three 0 ∷ kept 0 0 entry ∷ []

-- after it there is the one entry, and no flight
check_entries : entries_after [] log ≡ entry ∷ []
check_entries = refl

check_flights : (replayed (start []) log).flights ≡ []
check_flights = refl

-- the flight may begin, and may end so
abbrev flying : CoreState
flying = after (start []) (begun 0 three 0)

check_begin : MayBegin (start []) 0 three 0
check_begin = record {
  up_to_date = refl;
  undecided = All-nil (λ e. ¬ Decides e three);
  free_seat = All-nil (λ f. f.seat ≢ 0);
  free_key = All-nil (λ f. f.key ≢ three);
}

check_keep : MayKeep flying 0 0 entry
check_keep = record {
  key = three;
  flying = (0, record { seat = 0; key = three }, omega arith, refl, refl);
  decides = covers_itself three;
  room = omega arith;
  at_end = refl;
}

check_legal : IsLegalLog [] log (entry ∷ [])
check_legal = record { possible = (check_begin, (check_keep, tt)); leads = refl }

-- on the same key no flight may begin any more, whatever was seen
no_more : (seen : ℕ) → ¬ MayCome (replayed (start []) log) (begun 1 three seen)
no_more seen may = may.undecided 0 entry (omega arith) (covers_itself three)

-- nor a second entry be kept for the flight that has ended
no_second : ¬ MayCome (replayed (start []) log) (kept 0 1 entry)
no_second may = absurd (omega (arith, may.flying.2))

-- what is replied to seat 0, and then to seat 1
check_solved : IsChecked entry → Stands log (entry ∷ []) 0 7 three (Solved entry 0 1 Off)
check_solved checked = record {
  is_kept = record {
    seen = 0;
    flown = record {
      before = [];
      between = [];
      behind = [];
      parts = refl;
      alone = All-nil (λ turn. seat_of turn ≢ 0);
    };
    undecided = All-nil (λ e. ¬ Decides e three);
    there = refl;
    later = omega arith;
    counted = omega arith;
    within = omega arith;
  };
  decides = covers_itself three;
  checked = checked;
}

check_hit : IsChecked entry → Stands log (entry ∷ []) 1 7 three (Hit entry 0 1)
check_hit checked = record {
  seen = record {
    within = omega arith;
    first = record { here = covers_itself three; before = All-nil (λ e. ¬ Decides e three) };
  };
  there = refl;
  checked = checked;
}

-- seat 0 before the first ask and after it
abbrev terms : SeatTerms
terms = record { number = 0; opening = []; off = true }

abbrev fresh : SeatState
fresh = record { terms = terms; log = []; seen = 0; wrotes = [] }

abbrev asked : SeatState
asked = record { terms = terms; log = log; seen = 1; wrotes = [] }

check_asks : IsChecked entry → Asks 7 three (Solved entry 0 1 Off) fresh asked
check_asks checked = record {
  began = 0;
  call = record {
    looked = omega arith;
    gains = record {
      grows = record { terms = refl; turns = log; log = refl; writes = []; wrotes = refl; no_less = omega arith };
      own_turns = refl;
      own_writes = refl;
    };
    sound = record { legal = check_legal; within = omega arith; idle = All-nil (λ f. f.seat ≢ 0) };
    from = omega arith;
    to = omega arith;
  };
  start = tt;
  stands = check_solved checked;
  saves = (λ off. refl, λ is. refl);
}
