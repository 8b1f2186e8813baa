-- What follows of a call that solved its session, or was refused.
use Rattle.std.proofs.Common.{◌≡◌, ◌≢◌, ◌⊎◌, ℕ, ◌≤◌, ◌+◌, Bool, true, false, true≢false, List, [], ◌++◌, length}
use Rattle.std.proofs.Common.{length-append, Option, None, Some, arith, refl, sym, ap, subst, ◌∙◌, inl, inr, ⊎_elim}
use Rattle.std.specs.Prelude.{if◌then◌else◌}
use Rattle.std.specs.Option.{IfSome}
use Rattle.clap.specs.Words.{Text as Name}
use Rattle.outside.specs.Counts.{Rose}
use Rattle.outside.specs.States.{DiskState, SourceState}
use Rattle.lin_model.specs.Conditions.{PlainCondition}
use Rattle.cert_check.specs.declared.entry.Entry.{Entry}
use Rattle.cert_check.specs.Replies.{StandsFor}
use Rattle.journal.specs.Recovery.{IsForeign}
use Rattle.session_text.specs.Laws.{SpelledHasNoFault}
use Rattle.session_text.specs.Sessions.{SpellsSession}
use Rattle.pipeline.specs.Laws.{SufficientDecides}
use Rattle.green_cli.specs.Call.{Call, Change}
use Rattle.green_cli.specs.Input.{Consumes, Drains, GivesSession, TakesAtMost, max_input, session_cause}
use Rattle.green_cli.specs.Answered.{IsRightReport}
use Rattle.green_cli.specs.Solve.{IsDoneOrStarved, IsSolved, NoDeviceFails, SolveIsRefused, Solves, StoreCanBeOpened, SufficesFor}
use Rattle.green_cli.specs.Solve.{UsesStore, is_off, solve_cause}
use Rattle.green_cli.specs.Statuses.{has_full, has_lost, has_unknown, run_status, status_of}
use Rattle.green_cli.specs.Stores.{CanBeOpened}
use Rattle.green_cli.specs.declared.fault.Fault.{Fault}
use Rattle.green_cli.specs.declared.fault.Fault.TheVariants.{Usage, Text, Read, Disk, NoMemory, NotJournal, TooLong}
use Rattle.green_cli.specs.declared.outcome.Report.{Report}
use Rattle.green_cli.proofs.EnoughLemmas.{none_unknown}
use Rattle.green_cli.proofs.LostLemmas.{lost_full_or_fault, off_loses_none}
use Rattle.green_cli.proofs.RefusalLemmas.{fault_not_unknown}
use Rattle.green_cli.proofs.RunLemmas.{have_answers}

-- ---- statuses of what was done

-- 0, 3, or 4 where an entry was lost
pub run_status_is : (report : Report) → (run_status report ≡ 0) ⊎ (run_status report ≡ 3)
    ⊎ ((run_status report ≡ 4) × (has_lost report.answers ≡ true))
run_status_is report = go (has_lost report.answers) (has_unknown report.answers)
  where
    status : Bool → Bool → ℕ
    status lost unknown = if lost then 4 else if unknown then 3 else 0

    go : (lost unknown : Bool) → (status lost unknown ≡ 0) ⊎ (status lost unknown ≡ 3)
        ⊎ ((status lost unknown ≡ 4) × (lost ≡ true))
    go true unknown = inr (inr (refl, refl))
    go false true = inr (inl refl)
    go false false = inl refl

-- 3 tells that a query is unknown, and that nothing was lost
pub run_status_unknown : (report : Report) → run_status report ≡ 3
    → (has_unknown report.answers ≡ true) × (has_lost report.answers ≡ false)
run_status_unknown report = go (has_lost report.answers) (has_unknown report.answers)
  where
    status : Bool → Bool → ℕ
    status lost unknown = if lost then 4 else if unknown then 3 else 0

    go : (lost unknown : Bool) → status lost unknown ≡ 3 → (unknown ≡ true) × (lost ≡ false)
    go true unknown e = absurd (omega (arith, e))
    go false true e = (refl, refl)
    go false false e = absurd (omega (arith, e))

-- ---- what a source that gives a session, and doesn't fail, may be refused for

-- what was taken is no longer than what was there
taken_within : (all bytes : List ℕ) (new : Option (List ℕ)) → Consumes (Some all) new bytes → length bytes ≤ length all
taken_within all bytes new taken = omega (arith, ap length taken.1, length-append bytes taken.0)

-- nothing but want of memory
pub session_only_memory : SpelledHasNoFault → (source : Change SourceState) (fault : Fault) → GivesSession source.before
    → ¬ Rose source.before.faults source.after.faults → session_cause source fault → fault ≡ NoMemory
session_only_memory law source (Text fault) gives same cause =
    let read : gives.bytes ≡ cause.bytes =
    (subst (λ (o : Option (List ℕ)). Drains o source.after.left cause.bytes) gives.told cause.read.whole).0 in
    let spells : SpellsSession cause.bytes gives.session =
    subst (λ (bytes : List ℕ). SpellsSession bytes gives.session) read gives.spells in
    absurd (law cause.bytes gives.session spells fault.kind cause.placed.place cause.placed.fault)
session_only_memory law source Read gives same cause = absurd (same cause.rose)
session_only_memory law source Disk gives same cause = absurd cause
session_only_memory law source NoMemory gives same cause = refl
session_only_memory law source NotJournal gives same cause = absurd cause
session_only_memory law source TooLong gives same cause =
    let taken = taken_within gives.bytes cause.bytes source.after.left
    (subst (λ (o : Option (List ℕ)). Consumes o source.after.left cause.bytes) gives.told cause.given) in
    absurd (omega (arith, taken, cause.long, gives.short))
session_only_memory law source Usage gives same cause = absurd cause

-- a file that can be opened is no foreign one
pub opens_none_foreign : (disk : DiskState) → CanBeOpened disk → IfSome disk.content IsForeign → ⊥
opens_none_foreign disk can foreign =
    can.own (subst (λ (content : Option (List ℕ)). IfSome content IsForeign) can.told foreign)

-- ---- one call

module _ {D : Type 0} (state : D → DiskState) (budget : ℕ) (call : Call D) where
  only_memory : (store : Option Name) → SpelledHasNoFault → (fault : Fault) → GivesSession call.source.before
      → StoreCanBeOpened state store call → NoDeviceFails state call → solve_cause state store call fault
      → fault ≡ NoMemory
  only_memory None law Usage gives can none cause =
      session_only_memory law call.source Usage gives none.others.source cause
  only_memory None law (Text fault) gives can none cause =
      session_only_memory law call.source (Text fault) gives none.others.source cause
  only_memory None law Read gives can none cause =
      session_only_memory law call.source Read gives none.others.source cause
  only_memory None law Disk gives can none cause = absurd cause
  only_memory None law NoMemory gives can none cause = refl
  only_memory None law NotJournal gives can none cause = absurd cause
  only_memory None law TooLong gives can none cause =
      session_only_memory law call.source TooLong gives none.others.source cause
  only_memory (Some name) law Usage gives can none cause =
      session_only_memory law call.source Usage gives none.others.source cause
  only_memory (Some name) law (Text fault) gives can none cause =
      session_only_memory law call.source (Text fault) gives none.others.source cause
  only_memory (Some name) law Read gives can none cause =
      session_only_memory law call.source Read gives none.others.source cause
  only_memory (Some name) law Disk gives can none cause = absurd (none.disk cause.1.rose)
  only_memory (Some name) law NoMemory gives can none cause = refl
  only_memory (Some name) law NotJournal gives can none cause =
      absurd (opens_none_foreign (state call.disk.before) can cause.1.foreign)
  only_memory (Some name) law TooLong gives can none cause =
      session_only_memory law call.source TooLong gives none.others.source cause

  -- where no disk failed, nothing is lost but for want of room
  full_where_lost : (store : Option Name) (opening : List Entry) → UsesStore state store opening call
      → IsRightReport budget opening (is_off store) call.report
      → ¬ Rose (state call.disk.before).faults (state call.disk.after).faults
      → has_lost call.report.answers ≡ true → has_full call.report.answers ≡ true
  full_where_lost None opening uses right none lost =
      absurd (true≢false (sym lost ∙ off_loses_none opening call.report right.saves))
  full_where_lost (Some name) opening uses right none lost =
      ⊎_elim (λ full. full) (λ fault. absurd (none (omega (arith, uses.saves.faults, fault))))
      (lost_full_or_fault call.report lost)

  done : (store : Option Name) → IsSolved state store budget call → NoDeviceFails state call → IsDoneOrStarved call
  done store solved none =
      ⊎_elim
      (λ whole. ⊎_elim (λ zero. inl (whole.1 ∙ zero))
      (λ rest. ⊎_elim (λ three. inr (inl (whole.1 ∙ three)))
      (λ four. inr (inr (inl (
        whole.1 ∙ four.0,
        full_where_lost store solved.opening solved.uses solved.report none.disk four.1,
      )))) rest)
      (run_status_is call.report))
      (λ cut. absurd (none.others.sink cut.0.rose)) solved.result

-- ---- the whole promise

module _ {D : Type 0} (state : D → DiskState) (store : Option Name) (budget : ℕ) (call : Call D) where
  solved_not_unknown : SufficientDecides → IsSolved state store budget call → SufficesFor budget call.report
      → call.status ≢ 3
  solved_not_unknown law solved suffices three =
      let shape = have_answers (StandsFor call.report.log call.report.entries 0 budget) call.report.session
      call.report.answers solved.report.answers in
      ⊎_elim
      (λ whole. none_unknown law budget call.report solved.opening (is_off store) solved.report.log shape suffices
      (run_status_unknown call.report (sym whole.1 ∙ three)).0)
      (λ cut. absurd (omega (arith, cut.1, three))) solved.result

  -- what follows of a session that was answered, or of a call that was refused
  pub solves_so : SpelledHasNoFault → SufficientDecides
      → IsSolved state store budget call ⊎ SolveIsRefused state store call → call.other.after ≡ call.other.before
      → TakesAtMost (max_input + 1) call.source → Solves state store budget call
  solves_so spelled enough outcome other bounded = record {
    outcome = outcome;
    other = other;
    bounded = bounded;
    complete = λ gives can none. ⊎_elim (λ solved. done state budget call store solved none)
        (λ refused. inr (inr (inr (refused.refused.writes.number
        ∙ ap status_of (only_memory state budget call store spelled refused.refused.fault gives can none
        refused.refused.reason.0))))) outcome;
    sufficient = λ suffices. ⊎_elim (λ solved. solved_not_unknown enough solved suffices)
        (λ refused. fault_not_unknown refused.refused.fault call.status refused.refused.writes.number) outcome;
  }
