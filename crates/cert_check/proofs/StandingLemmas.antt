-- Replies that stand for a log stand for every longer one.
use Rattle.std.proofs.Common.{◌≡◌, ℕ, suc, zero, ◌≤◌, ◌∙◌, List, [], ◌∷◌, ◌++◌, length, take, Some, arith, sym, ap}
use Rattle.std.proofs.Common.{subst}
use Rattle.std.specs.List.{slice_get}
use Rattle.std.proofs.lemmas.List.{append_assoc, length-append}
use Rattle.lin_model.specs.KeyAtom.{PlainKeyAtom}
use Rattle.cert_check.specs.declared.entry.Entry.{Entry}
use Rattle.cert_check.specs.declared.reply.Reply.TheVariants.{Hit, Solved, Unkept, Spent}
use Rattle.cert_check.specs.Decides.{NoneDecides, IsFirstDeciding}
use Rattle.cert_check.specs.Machine.{Turn, kept, unkept, spent}
use Rattle.cert_check.specs.Logs.{entries_after}
use Rattle.cert_check.specs.Replies.{HasFlown, IsFirstSeen, IsHit, IsSolved, IsUnkept, IsSpent}
use Rattle.cert_check.specs.Laws.{GoesOnTo, RepliesGoOnStanding}
use Rattle.cert_check.proofs.LogLemmas.{first_ones_stay, legal_full, legal_stays}

-- what stands at a place stays there when the list grows
pub stays_there : {X : Type 0} (xs ys : List X) (i : ℕ) (x : X) → slice_get xs i ≡ Some x → slice_get (xs ++ ys) i ≡ Some x
stays_there [] ys i x there = absurd (cc)
stays_there (y ∷ xs) ys zero x there = there
stays_there (y ∷ xs) ys (suc i) x there = stays_there xs ys i x there

-- the same, of entries that go on
pub there_later : (entries later : List Entry) (i : ℕ) (e : Entry) → GoesOnTo entries later → slice_get entries i ≡ Some e
    → slice_get later i ≡ Some e
there_later entries later i e goes there =
    subst (λ (es : List Entry). slice_get es i ≡ Some e) (sym goes.at_end) (stays_there entries goes.new i e there)

-- there are no fewer
no_fewer : (entries later : List Entry) (n : ℕ) → GoesOnTo entries later → n ≤ length entries → n ≤ length later
no_fewer entries later n goes within =
    subst (λ (es : List Entry). n ≤ length es) (sym goes.at_end) (omega (arith, length-append entries goes.new))

-- a flight stays in the log
HasFlown-longer : (log more : List Turn) (seat : ℕ) (key : List PlainKeyAtom) (seen : ℕ) (end : Turn)
    → HasFlown log seat key seen end → HasFlown (log ++ more) seat key seen end
HasFlown-longer log more seat key seen end flown = record {
  before = flown.before;
  between = flown.between;
  behind = flown.behind ++ more;
  parts = ap (λ (ts : List Turn). ts ++ more) flown.parts ∙ append_assoc _ (end ∷ flown.behind) more;
  alone = flown.alone;
}

-- what entries that go on keep
module _ (entries later : List Entry) (key : List PlainKeyAtom) (goes : GoesOnTo entries later) where
  first_later : (place n : ℕ) → IsFirstSeen entries key place n → IsFirstSeen later key place n
  first_later place n seen = record {
    within = no_fewer entries later n goes seen.within;
    first = subst (λ (es : List Entry). IsFirstDeciding es key (Some place))
        (sym (first_ones_stay entries later n goes seen.within)) seen.first;
  }

  hit_later : (e : Entry) (place n : ℕ) → IsHit entries key e place n → IsHit later key e place n
  hit_later e place n hit = record {
    seen = first_later place n hit.seen;
    there = there_later entries later place e goes hit.there;
    checked = hit.checked;
  }

  none_later : (n : ℕ) → n ≤ length entries → NoneDecides (take n entries) key → NoneDecides (take n later) key
  none_later n within none = subst (λ (es : List Entry). NoneDecides es key)
      (sym (first_ones_stay entries later n goes within)) none

  -- and a longer log with them
  module _ (log more : List Turn) (seat : ℕ) where
    solved_later : (e : Entry) (place n : ℕ) → IsSolved log entries seat key e place n
        → IsSolved (log ++ more) later seat key e place n
    solved_later e place n solved =
        let at = solved.is_kept in
        record {
          is_kept = record {
            seen = at.seen;
            flown = HasFlown-longer log more seat key at.seen (kept seat place e) at.flown;
            undecided = none_later at.seen (omega (arith, at.later, at.counted, at.within)) at.undecided;
            there = there_later entries later place e goes at.there;
            later = at.later;
            counted = at.counted;
            within = no_fewer entries later n goes at.within;
          };
          decides = solved.decides;
          checked = solved.checked;
        }

    spent_later : (budget : ℕ) (tree : _) (n : ℕ) → IsSpent log entries seat budget key tree n
        → IsSpent (log ++ more) later seat budget key tree n
    spent_later budget tree n s = record {
      flown = HasFlown-longer log more seat key n (spent seat) s.flown;
      within = no_fewer entries later n goes s.within;
      undecided = none_later n s.within s.undecided;
      open_tree = s.open_tree;
    }

-- an entry for which there was no room
unkept_later : (entries later : List Entry) (log more : List Turn) (seat : ℕ) (key : List PlainKeyAtom) (e : Entry)
    (n : ℕ) → later ≡ entries → IsUnkept log entries seat key e n → IsUnkept (log ++ more) later seat key e n
unkept_later entries later log more seat key e n same unkept_ =
    let away = unkept_.turned_away in
    record {
      turned_away = record {
        seen = away.seen;
        flown = HasFlown-longer log more seat key away.seen (unkept seat) away.flown;
        undecided = subst (λ (es : List Entry). NoneDecides (take away.seen es) key) (sym same) away.undecided;
        later = away.later;
        all = away.all;
        full = ap (λ (es : List Entry). length es) same ∙ away.full;
      };
      decides = unkept_.decides;
      checked = unkept_.checked;
    }

pub replies_go_on : RepliesGoOnStanding
replies_go_on opening later log more seat budget key (Hit e place n) long stands =
    hit_later (entries_after opening log) later key (legal_stays opening later log more long) e place n stands
replies_go_on opening later log more seat budget key (Solved e place n saved) long stands =
    solved_later (entries_after opening log) later key (legal_stays opening later log more long) log more seat e place n
    stands
replies_go_on opening later log more seat budget key (Unkept e n saved) long stands =
    unkept_later (entries_after opening log) later log more seat key e n
    (legal_full opening later log more long stands.turned_away.full) stands
replies_go_on opening later log more seat budget key (Spent tree n) long stands =
    spent_later (entries_after opening log) later key (legal_stays opening later log more long) log more seat budget tree
    n stands
