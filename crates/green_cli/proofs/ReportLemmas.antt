-- The report of a session that was answered over a store.
use Rattle.std.proofs.Common.{◌≡◌, ℕ, suc, ◌+◌, ◌∙◌, Bool, true, false, cond, ◌==◌, List, [], ◌∷◌, ◌++◌, length, filter, arith, length-append}
use Rattle.std.proofs.Common.{refl, sym, ap, subst}
use Rattle.std.proofs.Common.{Result, Ok, Err}
use Rattle.std.specs.Prelude.{IfOk}
use Rattle.std.specs.List.{All, AllZip}
use Rattle.std.proofs.lemmas.List.Elements.{All-head, All-tail}
use Rattle.lin_model.specs.Conditions.{PlainCondition}
use Rattle.lin_model.specs.KeyAtom.{PlainKeyAtom}
use Rattle.cert_check.specs.declared.entry.Entry.{Entry}
use Rattle.cert_check.specs.declared.event.Event.{Event}
use Rattle.cert_check.specs.declared.reply.Reply.{Reply}
use Rattle.cert_check.specs.declared.reply.Reply.TheVariants.{Hit, Solved, Unkept, Spent}
use Rattle.cert_check.specs.declared.saved.Saved.TheVariants.{At, Fault, Full, Off}
use Rattle.cert_check.specs.declared.wrote.Wrote.{Wrote}
use Rattle.cert_check.specs.Laws.{FlightsBeginRightly}
use Rattle.cert_check.specs.Logs.{IsLegalLog}
use Rattle.cert_check.specs.Machine.{Turn}
use Rattle.cert_check.specs.Replies.{Stands, StandsFor}
use Rattle.cert_check.specs.Runs.{AreTurnsOfAll, FlightsAreCounted as EachFlightIsCounted, flights_of, flown_in}
use Rattle.cert_check.specs.Runs.{writes_of_all}
use Rattle.cert_check.specs.Seats.{SeatState, SeatTerms, writer_of, wrotes_of}
use Rattle.journal.specs.Journals.{PlainJournal, list_of, saved_in}
use Rattle.pipeline.specs.declared.answers.Answer.{Answer}
use Rattle.pipeline.specs.Answers.{IsRightAnswer}
use Rattle.pipeline.specs.Runs.{AnsweringKeepsAnswers, AnswersAll, AreRightFor, KeepsAnswers, parts_of}
use Rattle.store_core.specs.Cores.{PlainCore, log_of, started}
use Rattle.shared_store.specs.Local.{IsJournalOf, IsOwn, seat_of_both}
use Rattle.green_cli.specs.declared.outcome.Report.{Report}
use Rattle.green_cli.specs.Answered.{AreRight, IsLogOfSeat, IsLogOfStore, IsRightReport, LogIsLegal, is_saved, says}
use Rattle.green_cli.specs.Answered.{in_order, seat_after}
use Rattle.green_cli.specs.AnswersText.{HaveAnswers}
use Rattle.green_cli.proofs.RunLemmas.{each_right, right_so, zip_so}

-- ---- what was saved is counted

count_saved : (replies : List Reply) → length (saved_in (writes_of_all 0 replies)) ≡ length (filter (says is_saved) replies)
unfolding saved_in
count_saved [] = refl
count_saved (Hit entry place n ∷ replies) = count_saved replies
count_saved (Solved entry place n (At at) ∷ replies) = ap (λ (m : ℕ). suc m) (count_saved replies)
count_saved (Solved entry place n Fault ∷ replies) = count_saved replies
count_saved (Solved entry place n Full ∷ replies) = count_saved replies
count_saved (Solved entry place n Off ∷ replies) = count_saved replies
count_saved (Unkept entry n (At at) ∷ replies) = ap (λ (m : ℕ). suc m) (count_saved replies)
count_saved (Unkept entry n Fault ∷ replies) = count_saved replies
count_saved (Unkept entry n Full ∷ replies) = count_saved replies
count_saved (Unkept entry n Off ∷ replies) = count_saved replies
count_saved (Spent tree n ∷ replies) = count_saved replies

-- writes of the seat alone are the seat's
all_own : (wrotes : List Wrote) → All (λ w. writer_of w ≡ 0) wrotes → wrotes_of 0 wrotes ≡ wrotes
all_own [] all = refl
all_own (w ∷ wrotes) all =
    ap (λ (b : Bool). cond b (w ∷ wrotes_of 0 wrotes) (wrotes_of 0 wrotes))
    (ap (λ (n : ℕ). n == 0) (All-head (λ (w : Wrote). writer_of w ≡ 0) w wrotes all))
    ∙ ap (λ (ws : List Wrote). w ∷ ws) (all_own wrotes (All-tail (λ (w : Wrote). writer_of w ≡ 0) w wrotes all))

-- ---- the report

-- what a run leaves over a store that began with these entries, whose journal had written nothing
module _ {D : Type 0} (count : EachFlightIsCounted) (begins : FlightsBeginRightly) (budget : ℕ)
    (session : List (List PlainCondition)) (answers : List (List Answer)) (opening : List Entry)
    (before after : PlainJournal D) (core : PlainCore) (saved : ℕ) (none : before.wrotes ≡ [])
    (own : IsOwn core) (of_core : IsJournalOf core after) (shape : HaveAnswers session answers)
    (run : AnswersAll budget (in_order session) (in_order answers) (seat_of_both (started opening) before)
    (seat_of_both core after))
    (kept : KeepsAnswers budget (in_order session) (in_order answers) (seat_of_both (started opening) before)
    (seat_of_both core after))
    (counted : saved + length opening ≡ length (list_of after))
  where
    abbrev log : List Turn
    log = log_of core

    abbrev entries : List Entry
    entries = core.state.entries

    abbrev parts : List Reply
    parts = parts_of (in_order answers)

    abbrev stands : List PlainKeyAtom → Reply → Type 0
    stands key reply = Stands log entries 0 budget key reply

    abbrev report : Report
    report = record {
      session = session;
      answers = answers;
      log = core.events;
      entries = entries;
      saved = saved;
    }

    right_in_order : AreRightFor stands (in_order session) (in_order answers) kept.keys
    right_in_order = subst
        (λ (es : List Entry). AreRightFor (λ key reply. Stands log es 0 budget key reply) (in_order session)
        (in_order answers) kept.keys) own.is_core.legal.leads kept.right

    right_each : AreRight 0 budget report
    right_each = zip_so
        (λ queries script. AllZip (λ q answer. IsRightAnswer stands q answer) queries script)
        (λ queries script. AllZip (λ q answer. IsRightAnswer (StandsFor core.events entries 0 budget) q answer) queries
        script)
        (λ queries script. zip_so (λ q answer. IsRightAnswer stands q answer)
        (λ q answer. IsRightAnswer (StandsFor core.events entries 0 budget) q answer)
        (right_so stands (StandsFor core.events entries 0 budget)
        (λ key reply here. record { log = log; is_log = own.is_core.told; stands = here })) queries script)
        session answers (each_right stands session answers kept.keys shape right_in_order)

    -- the core began with these entries, and the journal is on where it was
    opening_is : core.opening ≡ opening
    opening_is = ap (λ (t : SeatTerms). t.opening) kept.keeps.gains.grows.terms

    off_is : after.off ≡ before.off
    off_is = ap (λ (t : SeatTerms). t.off) kept.keeps.gains.grows.terms

    -- the journal wrote for the replies alone
    pub wrotes_are : after.wrotes ≡ writes_of_all 0 parts
    wrotes_are =
        sym (all_own after.wrotes of_core.own)
        ∙ (kept.keeps.gains.own_writes
        ∙ ap (λ (ws : List Wrote). wrotes_of 0 ws ++ writes_of_all 0 parts) none)

    legal : IsLegalLog opening log entries
    legal = subst (λ (es : List Entry). IsLegalLog es log entries) opening_is own.is_core.legal

    of_store : IsLogOfStore opening report log
    of_store = record {
      is_log = own.is_core.told;
      legal = legal;
      began = λ front behind seat n key turns. begins opening entries front behind seat key n
          (subst (λ (all : List Turn). IsLegalLog opening all entries) turns legal);
    }

    of_seat : IsLogOfSeat 0 budget opening report log
    of_seat = record {
      keys = kept.keys;
      right = right_in_order;
      turns = subst (λ (turns : List Turn). AreTurnsOfAll 0 kept.keys parts turns)
          (sym kept.keeps.gains.own_turns) kept.keeps.turns;
      seen = kept.keeps.seen;
    }

    -- the seat as it began, and as it is now
    seat_began : seat_of_both (started opening) before ≡ seat_after 0 opening before.off [] opening []
    seat_began = ap (λ (ws : List Wrote). seat_after 0 opening before.off [] opening ws) none

    seat_ended : seat_of_both core after ≡ seat_after 0 opening before.off log entries (writes_of_all 0 parts)
    seat_ended =
        ap (λ (es : List Entry). seat_after 0 es after.off log entries after.wrotes) opening_is
        ∙ (ap (λ (off : Bool). seat_after 0 opening off log entries after.wrotes) off_is
        ∙ ap (λ (ws : List Wrote). seat_after 0 opening before.off log entries ws) wrotes_are)

    log_is_legal : LogIsLegal 0 budget opening before.off report
    log_is_legal = record {
      log = log;
      of_store = of_store;
      of_seat = of_seat;
      alone = own.own;
      answered = subst (λ (seat : SeatState). AnswersAll budget (in_order session) (in_order answers)
          (seat_after 0 opening before.off [] opening []) seat) seat_ended
          (subst (λ (seat : SeatState). AnswersAll budget (in_order session) (in_order answers) seat
          (seat_of_both core after)) seat_began run);
    }

    flights : flights_of 0 core.events ≡ flown_in parts
    flights =
        let counts = count budget kept.keys parts (seat_of_both (started opening) before) (seat_of_both core after)
        kept.keeps in
        omega (arith, counts, ap (λ (events : List Event). flights_of 0 events) own.is_core.told.tells)

    -- as many were saved as the journal's list has more
    saved_is : saved ≡ length (filter (says is_saved) parts)
    saved_is =
        let long = length-append after.opening (saved_in after.wrotes) in
        let began = ap (λ (es : List Entry). length es) (of_core.opening ∙ opening_is) in
        let written = ap (λ (ws : List Wrote). length (saved_in ws)) wrotes_are in
        omega (arith, counted, long, began, written, count_saved parts)

    pub right_report : IsRightReport budget opening before.off report
    right_report = record {
      answers = right_each;
      log = log_is_legal;
      flights = flights;
      saves = kept.keeps.save;
      saved = saved_is;
    }

    -- a report of these parts is that report
    report_is : (made : Report) → (made.session ≡ session) × (made.answers ≡ answers) × (made.log ≡ core.events)
        × (made.entries ≡ core.state.entries) × (made.saved ≡ saved) → made ≡ report
    report_is made p =
        let of : List (List PlainCondition) → List (List Answer) → List Event → List Entry → ℕ → Report =
        λ qs as_ log es n. record { session = qs; answers = as_; log = log; entries = es; saved = n } in
        ap (λ (qs : List (List PlainCondition)). of qs made.answers made.log made.entries made.saved) p.0
        ∙ (ap (λ (as_ : List (List Answer)). of session as_ made.log made.entries made.saved) p.1
        ∙ (ap (λ (events : List Event). of session answers events made.entries made.saved) p.2
        ∙ (ap (λ (es : List Entry). of session answers core.events es made.saved) p.3
        ∙ ap (λ (n : ℕ). of session answers core.events core.state.entries n) p.4)))

    pub reported : (made : Report) → (made.session ≡ session) × (made.answers ≡ answers) × (made.log ≡ core.events)
        × (made.entries ≡ core.state.entries) × (made.saved ≡ saved)
        → IsRightReport budget opening before.off made
    reported made p = subst (λ (r : Report). IsRightReport budget opening before.off r) (sym (report_is made p)) right_report

pub ok_weaker : {T E : Type 0} (P Q : T → Type 0) (r : Result T E) → ((t : T) → P t → Q t) → IfOk r P → IfOk r Q
ok_weaker P Q (Ok t) so p = so t p
ok_weaker P Q (Err e) so p = tt

pub of_ok : {T E : Type 0} (P : T → Type 0) (r : Result T E) (t : T) → r ≡ Ok t → IfOk r P → P t
of_ok {T} {E} P r t is h = subst (λ (x : Result T E). IfOk x P) is h
