-- What the statuses of `solve` tell.
use Rattle.std.proofs.Common.{◌≡◌, ◌≢◌, ◌⊎◌, ◌≤◌, ℕ, Bool, true, false, List, length}
use Rattle.std.proofs.Common.{Option, Some, None, length-append, true≢false, arith, sym, ap, subst, ◌∙◌, inl, inr, refl}
use Rattle.std.proofs.Common.{⊎_elim, ◌++◌, take, take_at, take-take}
use Rattle.std.specs.Prelude.{if◌then◌else◌}
use Rattle.clap.specs.Words.{Text as Name}
use Rattle.outside.specs.States.{DiskState}
use Rattle.cert_check.specs.declared.entry.Entry.{Entry}
use Rattle.journal.specs.declared.limits.TheConstants.{HEADER, MAX_FILE}
use Rattle.journal.specs.Files.{GoesOnWith, frames_of}
use Rattle.journal.specs.Recovery.{IsForeign, RecoversTo}
use Rattle.lin_model.specs.Conditions.{PlainCondition}
use Rattle.lin_text.specs.declared.fault.SessionFault.{SessionFault}
use Rattle.session_text.specs.Laws.{SpelledHasNoFault}
use Rattle.session_text.specs.Sessions.{SpellsSession}
use Rattle.std.specs.Option.{IfSome}
use Rattle.green_cli.specs.Call.{Call}
use Rattle.green_cli.specs.Input.{Consumes, Drains, GivesSession, InputIsTooLong, InputWasRead, ReadFailed, WasRead}
use Rattle.green_cli.specs.Input.{session_cause}
use Rattle.green_cli.specs.Lines.{line_of}
use Rattle.green_cli.specs.Solve.{IsSolved, SolveIsRefused, Solves, UsesStore, solve_cause}
use Rattle.green_cli.specs.StatusLaws.{GivesNoSession, GivesTooMuch, IsAnswered, IsForeignTo, IsWhole, NamesFault}
use Rattle.green_cli.specs.StatusLaws.{NamesStore, SourceHolds, StatusesOfSolve, text_of}
use Rattle.green_cli.specs.Statuses.{IsCutOff, Takes, Writes, has_lost, has_unknown, run_status, status_of}
use Rattle.green_cli.specs.Stores.{IsNoJournal, OpeningFailed}
use Rattle.green_cli.specs.declared.fault.Fault.{Fault}
use Rattle.green_cli.specs.declared.fault.Fault.TheVariants.{Usage, Text as OfText, Read, Disk, NoMemory, NotJournal, TooLong}
use Rattle.green_cli.specs.declared.outcome.Report.{Report}
use Rattle.green_cli.proofs.CompleteLemmas.{run_status_is, run_status_unknown, session_only_memory}

pub fault_not_answered : (fault : Fault) (status : ℕ) → status ≡ status_of fault → IsAnswered status → ⊥
fault_not_answered Usage status number answered = grind (arith, number, answered)
fault_not_answered (OfText fault) status number answered = grind (arith, number, answered)
fault_not_answered Read status number answered = grind (arith, number, answered)
fault_not_answered Disk status number answered = grind (arith, number, answered)
fault_not_answered NoMemory status number answered = grind (arith, number, answered)
fault_not_answered NotJournal status number answered = grind (arith, number, answered)
fault_not_answered TooLong status number answered = grind (arith, number, answered)

-- ---- the status of what was done

lost_status : (report : Report) → has_lost report.answers ≡ true → run_status report ≡ 4
lost_status report lost = ap (λ (b : Bool). if b then 4 else if has_unknown report.answers then 3 else 0) lost

unknown_status : (report : Report) → has_lost report.answers ≡ false → has_unknown report.answers ≡ true
    → run_status report ≡ 3
unknown_status report kept unknown =
    ap (λ (b : Bool). if b then 4 else if has_unknown report.answers then 3 else 0) kept
    ∙ ap (λ (b : Bool). if b then 3 else 0) unknown

lost_there : (report : Report) → run_status report ≡ 4 → has_lost report.answers ≡ true
lost_there report e =
    ⊎_elim (λ zero. absurd (omega (arith, e, zero)))
    (⊎_elim (λ three. absurd (omega (arith, e, three))) (λ four. four.1)) (run_status_is report)

-- ---- what was read

-- what was read of a source that tells its bytes
read_is : {D : Type 0} (call : Call D) (all bytes : List ℕ) → call.source.before.left ≡ Some all
    → WasRead call.source bytes → all ≡ bytes
read_is call all bytes told read =
    (subst (λ (o : Option (List ℕ)). Drains o call.source.after.left bytes) told read.whole).0

-- and what was taken of it
taken_is : {D : Type 0} (call : Call D) (all bytes : List ℕ) → call.source.before.left ≡ Some all
    → Consumes call.source.before.left call.source.after.left bytes → length bytes ≤ length all
taken_is call all bytes told taken =
    let front = subst (λ (o : Option (List ℕ)). Consumes o call.source.after.left bytes) told taken in
    omega (arith, ap length front.1, length-append bytes front.0)

-- ---- a file that is no journal

-- the header of a file that goes on behind it
header_first : (file : List ℕ) (entries : List Entry) (rest : List ℕ) → GoesOnWith file entries rest
    → take (length HEADER) file ≡ HEADER
header_first file entries rest goes =
    sym (take-take (length HEADER) MAX_FILE file (omega arith))
    ∙ (ap (take (length HEADER)) goes.spelled ∙ take_at HEADER (frames_of entries ++ rest) (length HEADER) refl)

-- recovers to nothing, not even to no entries
pub foreign_recovers : (file : List ℕ) (entries : List Entry) → IsForeign file → RecoversTo file entries → ⊥
foreign_recovers file entries foreign recovers =
    ⊎_elim (λ none. omega (arith, none.unbegun.short, foreign.long))
    (λ journal. foreign.other (header_first file entries recovers.0 journal.parts)) recovers.1

-- ---- one call

module _ {D : Type 0} (state : D → DiskState) (call : Call D) where
  -- the input was refused, the disk failed in the opening, or the file is no journal
  abbrev Because : Option Name → Fault → Type 0
  Because store Disk = NamesStore store (OpeningFailed (state call.disk.before) (state call.disk.after))
  Because store NotJournal = NamesStore store (IsNoJournal (state call.disk.before) (state call.disk.after))
  Because store fault = session_cause call.source fault

  because : (store : Option Name) (fault : Fault) → solve_cause state store call fault → Because store fault
  because None Usage cause = cause
  because None (OfText fault) cause = cause
  because None Read cause = cause
  because None Disk cause = cause
  because None NoMemory cause = cause
  because None NotJournal cause = cause
  because None TooLong cause = cause
  because (Some name) Usage cause = cause
  because (Some name) (OfText fault) cause = cause
  because (Some name) Read cause = cause
  because (Some name) Disk cause = cause.1
  because (Some name) NoMemory cause = cause
  because (Some name) NotJournal cause = cause.1
  because (Some name) TooLong cause = cause

module _ {D : Type 0} (state : D → DiskState) (store : Option Name) (budget : ℕ) (call : Call D)
    (spelled : SpelledHasNoFault) (solves : Solves state store budget call) where
  solved_answered : IsSolved state store budget call → IsAnswered call.status
  solved_answered solved =
      ⊎_elim
      (λ whole. ⊎_elim (λ zero. inl (whole.1 ∙ zero))
      (⊎_elim (λ three. inr (inl (whole.1 ∙ three))) (λ four. inr (inr (inl (whole.1 ∙ four.0)))))
      (run_status_is call.report))
      (λ cut. inr (inr (inr cut.1))) solved.result

  answered_solved : IsAnswered call.status → IsSolved state store budget call
  answered_solved answered =
      ⊎_elim (λ solved. solved)
      (λ refused. absurd (fault_not_answered refused.refused.fault call.status refused.refused.writes.number answered))
      solves.outcome

  other_refused : ¬ IsAnswered call.status → SolveIsRefused state store call
  other_refused other = ⊎_elim (λ solved. absurd (other (solved_answered solved))) (λ refused. refused) solves.outcome

  -- what was written whole has the status of the run, and what wasn't has 13
  whole_result : IsWhole call.status → Takes (text_of call.report) call.sink × (call.status ≡ run_status call.report)
  whole_result written =
      let answered : IsAnswered call.status = ⊎_elim (λ zero. inl zero)
      (⊎_elim (λ three. inr (inl three)) (λ four. inr (inr (inl four)))) written in
      ⊎_elim (λ whole. whole) (λ cut. absurd (grind (arith, cut.1, written))) (answered_solved answered).result

  cut_off : call.status ≡ 13 → IsCutOff (text_of call.report) call.sink
  cut_off failed =
      ⊎_elim
      (λ whole. absurd (⊎_elim (λ zero. omega (arith, failed, whole.1, zero))
      (⊎_elim (λ three. omega (arith, failed, whole.1, three)) (λ four. omega (arith, failed, whole.1, four.0)))
      (run_status_is call.report)))
      (λ cut. cut.0) (answered_solved (inr (inr (inr failed)))).result

  lost_so : call.status ≡ 4 → (has_lost call.report.answers ≡ true) × (call.status ≢ 13)
  lost_so four =
      (lost_there call.report (sym (whole_result (inr (inr four))).1 ∙ four), λ e. omega (arith, e, four))

  lost_alone : (has_lost call.report.answers ≡ true) × (call.status ≢ 13) → call.status ≡ 4
  lost_alone lost =
      ⊎_elim
      (λ solved. ⊎_elim (λ whole. whole.1 ∙ lost_status call.report lost.0) (λ cut. absurd (lost.1 cut.1))
      solved.result)
      (λ refused. absurd (true≢false (sym lost.0 ∙ ap has_lost refused.refused.nothing.answers))) solves.outcome

  unknown_so : call.status ≡ 3 → (has_unknown call.report.answers ≡ true) × (has_lost call.report.answers ≡ false)
      × (call.status ≢ 13)
  unknown_so three =
      let told = run_status_unknown call.report (sym (whole_result (inr (inl three))).1 ∙ three) in
      (told.0, told.1, λ e. omega (arith, e, three))

  unknown_alone : (has_unknown call.report.answers ≡ true) × (has_lost call.report.answers ≡ false)
      × (call.status ≢ 13) → call.status ≡ 3
  unknown_alone unknown =
      ⊎_elim
      (λ solved. ⊎_elim (λ whole. whole.1 ∙ unknown_status call.report unknown.1 unknown.0)
      (λ cut. absurd (unknown.2 cut.1)) solved.result)
      (λ refused. absurd (true≢false (sym unknown.0 ∙ ap has_unknown refused.refused.nothing.answers))) solves.outcome

  -- ---- a call that was refused, by its status

  refused_with : (n : ℕ) → call.status ≡ n → ¬ IsAnswered n
      → (fault : Fault) × (Because state call store fault × ((n ≡ status_of fault) × Writes (line_of fault) call.sink))
  refused_with n is other =
      let refused = (other_refused (λ answered. other (subst IsAnswered is answered))).refused in (
        refused.fault,
        (
          because state call store refused.fault refused.reason.0,
          (sym is ∙ refused.writes.number, refused.writes.line),
        ),
      )

  not_usage : call.status ≢ 10
  not_usage ten = let r = refused_with 10 ten (λ a. grind (arith, a)) in go r.0 r.1.0 r.1.1.0
    where
      go : (fault : Fault) → Because state call store fault → 10 ≡ status_of fault → ⊥
      go Usage cause number = cause
      go (OfText fault) cause number = omega (arith, number)
      go Read cause number = omega (arith, number)
      go Disk cause number = omega (arith, number)
      go NoMemory cause number = omega (arith, number)
      go NotJournal cause number = omega (arith, number)
      go TooLong cause number = omega (arith, number)

  text_fault : call.status ≡ 11 → NamesFault call
  unfolding line_of
  text_fault eleven = let r = refused_with 11 eleven (λ a. grind (arith, a)) in go r.0 r.1.0 r.1.1.0 r.1.1.1
    where
      go : (fault : Fault) → Because state call store fault → 11 ≡ status_of fault → Writes (line_of fault) call.sink
          → NamesFault call
      go Usage cause number line = absurd (omega (arith, number))
      go (OfText fault) cause number line = record { fault = fault; faulty = cause; line = line }
      go Read cause number line = absurd (omega (arith, number))
      go Disk cause number line = absurd (omega (arith, number))
      go NoMemory cause number line = absurd (omega (arith, number))
      go NotJournal cause number line = absurd (omega (arith, number))
      go TooLong cause number line = absurd (omega (arith, number))

  read_fault : call.status ≡ 12 → ReadFailed call.source
  read_fault twelve = let r = refused_with 12 twelve (λ a. grind (arith, a)) in go r.0 r.1.0 r.1.1.0
    where
      go : (fault : Fault) → Because state call store fault → 12 ≡ status_of fault → ReadFailed call.source
      go Usage cause number = absurd (omega (arith, number))
      go (OfText fault) cause number = absurd (omega (arith, number))
      go Read cause number = cause
      go Disk cause number = absurd (omega (arith, number))
      go NoMemory cause number = absurd (omega (arith, number))
      go NotJournal cause number = absurd (omega (arith, number))
      go TooLong cause number = absurd (omega (arith, number))

  disk_fault : call.status ≡ 14 → NamesStore store (OpeningFailed (state call.disk.before) (state call.disk.after))
  disk_fault is = let r = refused_with 14 is (λ a. grind (arith, a)) in go r.0 r.1.0 r.1.1.0
    where
      go : (fault : Fault) → Because state call store fault → 14 ≡ status_of fault
          → NamesStore store (OpeningFailed (state call.disk.before) (state call.disk.after))
      go Usage cause number = absurd (omega (arith, number))
      go (OfText fault) cause number = absurd (omega (arith, number))
      go Read cause number = absurd (omega (arith, number))
      go Disk cause number = cause
      go NoMemory cause number = absurd (omega (arith, number))
      go NotJournal cause number = absurd (omega (arith, number))
      go TooLong cause number = absurd (omega (arith, number))

  journal_fault : call.status ≡ 17 → NamesStore store (IsNoJournal (state call.disk.before) (state call.disk.after))
  journal_fault is = let r = refused_with 17 is (λ a. grind (arith, a)) in go r.0 r.1.0 r.1.1.0
    where
      go : (fault : Fault) → Because state call store fault → 17 ≡ status_of fault
          → NamesStore store (IsNoJournal (state call.disk.before) (state call.disk.after))
      go Usage cause number = absurd (omega (arith, number))
      go (OfText fault) cause number = absurd (omega (arith, number))
      go Read cause number = absurd (omega (arith, number))
      go Disk cause number = absurd (omega (arith, number))
      go NoMemory cause number = absurd (omega (arith, number))
      go NotJournal cause number = cause
      go TooLong cause number = absurd (omega (arith, number))

  long_fault : call.status ≡ 18 → InputIsTooLong call.source
  long_fault is = let r = refused_with 18 is (λ a. grind (arith, a)) in go r.0 r.1.0 r.1.1.0
    where
      go : (fault : Fault) → Because state call store fault → 18 ≡ status_of fault → InputIsTooLong call.source
      go Usage cause number = absurd (omega (arith, number))
      go (OfText fault) cause number = absurd (omega (arith, number))
      go Read cause number = absurd (omega (arith, number))
      go Disk cause number = absurd (omega (arith, number))
      go NoMemory cause number = absurd (omega (arith, number))
      go NotJournal cause number = absurd (omega (arith, number))
      go TooLong cause number = cause

  no_session : (session : List (List PlainCondition)) → GivesNoSession call.source.before
      → InputWasRead call.source session → ⊥
  no_session session gives input =
      gives.none session
      (subst (λ (bytes : List ℕ). SpellsSession bytes session)
      (sym (read_is call gives.bytes input.bytes gives.told input.read)) input.spells)

  faulty_alone : GivesNoSession call.source.before → SourceHolds call → (call.status ≡ 11) ⊎ (call.status ≡ 16)
  faulty_alone gives holds =
      ⊎_elim (λ solved. absurd (no_session call.report.session gives solved.input))
      (λ refused. go store refused.refused.fault refused.refused.reason.0 refused.refused.writes.number) solves.outcome
    where
      go : (named : Option Name) (fault : Fault) → solve_cause state named call fault → call.status ≡ status_of fault
          → (call.status ≡ 11) ⊎ (call.status ≡ 16)
      go None Usage cause number = absurd cause
      go None (OfText fault) cause number = inl number
      go None Read cause number = absurd (holds cause.rose)
      go None Disk cause number = absurd cause
      go None NoMemory cause number = inr number
      go None NotJournal cause number = absurd cause
      go None TooLong cause number = absurd (omega (arith, taken_is call gives.bytes cause.bytes gives.told cause.given, cause.long, gives.short))
      go (Some name) Usage cause number = absurd cause
      go (Some name) (OfText fault) cause number = inl number
      go (Some name) Read cause number = absurd (holds cause.rose)
      go (Some name) Disk cause number = absurd (no_session cause.0.session gives cause.0.input)
      go (Some name) NoMemory cause number = inr number
      go (Some name) NotJournal cause number = absurd (no_session cause.0.session gives cause.0.input)
      go (Some name) TooLong cause number = absurd (omega (arith, taken_is call gives.bytes cause.bytes gives.told cause.given, cause.long, gives.short))

  not_so_much : (bytes : List ℕ) → GivesTooMuch call.source.before → WasRead call.source bytes → ⊥
  not_so_much bytes gives read =
      omega (arith, ap length (read_is call gives.bytes bytes gives.told read), read.short, gives.long)

  long_alone : GivesTooMuch call.source.before → SourceHolds call → (call.status ≡ 18) ⊎ (call.status ≡ 16)
  long_alone gives holds =
      ⊎_elim (λ solved. absurd (not_so_much solved.input.bytes gives solved.input.read))
      (λ refused. go store refused.refused.fault refused.refused.reason.0 refused.refused.writes.number) solves.outcome
    where
      go : (named : Option Name) (fault : Fault) → solve_cause state named call fault → call.status ≡ status_of fault
          → (call.status ≡ 18) ⊎ (call.status ≡ 16)
      go None Usage cause number = absurd cause
      go None (OfText fault) cause number = absurd (not_so_much cause.bytes gives cause.read)
      go None Read cause number = absurd (holds cause.rose)
      go None Disk cause number = absurd cause
      go None NoMemory cause number = inr number
      go None NotJournal cause number = absurd cause
      go None TooLong cause number = inl number
      go (Some name) Usage cause number = absurd cause
      go (Some name) (OfText fault) cause number = absurd (not_so_much cause.bytes gives cause.read)
      go (Some name) Read cause number = absurd (holds cause.rose)
      go (Some name) Disk cause number = absurd (not_so_much cause.0.input.bytes gives cause.0.input.read)
      go (Some name) NoMemory cause number = inr number
      go (Some name) NotJournal cause number = absurd (not_so_much cause.0.input.bytes gives cause.0.input.read)
      go (Some name) TooLong cause number = inl number

  -- a session that is told is read, or memory runs out
  session_there : GivesSession call.source.before → SourceHolds call → (fault : Fault) → session_cause call.source fault
      → fault ≡ NoMemory
  session_there gives holds fault cause = session_only_memory spelled call.source fault gives holds cause

  -- nor is a foreign file opened
  foreign_alone : GivesSession call.source.before → SourceHolds call → NamesStore store (IsForeignTo state call)
      → (call.status ≡ 17) ⊎ (call.status ≡ 16)
  foreign_alone gives holds foreign =
      ⊎_elim (λ solved. absurd (not_opened store solved.opening foreign solved.uses))
      (λ refused. go store foreign refused.refused.fault refused.refused.reason.0 refused.refused.writes.number)
      solves.outcome
    where
      of_text_no_memory : (fault : SessionFault) → OfText fault ≡ NoMemory → ⊥
      of_text_no_memory fault e = cc e

      too_long_no_memory : TooLong ≡ NoMemory → ⊥
      too_long_no_memory e = cc e

      not_opened : (named : Option Name) (opening : List Entry) → NamesStore named (IsForeignTo state call)
          → UsesStore state named opening call → ⊥
      not_opened None opening foreign uses = foreign
      not_opened (Some name) opening foreign uses =
          foreign_recovers foreign.tells.file opening foreign.tells.foreign
          (subst (λ (content : Option (List ℕ)). IfSome content (λ file. RecoversTo file opening)) foreign.tells.told
          uses.began.recovered)

      go : (named : Option Name) → NamesStore named (IsForeignTo state call) → (fault : Fault)
          → solve_cause state named call fault → call.status ≡ status_of fault
          → (call.status ≡ 17) ⊎ (call.status ≡ 16)
      go None foreign fault cause number = absurd foreign
      go (Some name) foreign Usage cause number = absurd cause
      go (Some name) foreign (OfText fault) cause number =
          absurd (of_text_no_memory fault (session_there gives holds (OfText fault) cause))
      go (Some name) foreign Read cause number = absurd (holds cause.rose)
      go (Some name) foreign Disk cause number = absurd (foreign.holds cause.1.rose)
      go (Some name) foreign NoMemory cause number = inr number
      go (Some name) foreign NotJournal cause number = inl number
      go (Some name) foreign TooLong cause number = absurd (too_long_no_memory (session_there gives holds TooLong cause))

  pub solve_statuses : StatusesOfSolve state store budget call
  solve_statuses = record {
    answered = (answered_solved, solved_answered);
    refused = other_refused;
    whole = λ whole. (whole_result whole).0;
    lost = (lost_so, lost_alone);
    unknown = (unknown_so, unknown_alone);
    cut_off = cut_off;
    usage = not_usage;
    faulty = text_fault;
    is_faulty = faulty_alone;
    read_failed = read_fault;
    disk_failed = disk_fault;
    no_journal = journal_fault;
    too_long = long_fault;
    is_too_long = long_alone;
    is_no_journal = foreign_alone;
  }
