-- What a session that was read comes to, by how its store was opened.
use Rattle.std.proofs.Common.{◌≡◌, ◌⊎◌, inl, inr, ⊎_elim, ℕ, Bool, true, false, List, [], ◌++◌, length, Option, None, Some}
use Rattle.std.proofs.Common.{refl, sym, ap, ◌∙◌, subst, append-nil}
use Rattle.clap.specs.Words.{Text}
use Rattle.lin_model.specs.Conditions.{PlainCondition}
use Rattle.cert_check.specs.declared.entry.Entry.{Entry}
use Rattle.cert_check.specs.declared.wrote.Wrote.{Wrote}
use Rattle.outside.specs.States.{DiskState, SinkState, SourceState}
use Rattle.journal.specs.Journals.{JournalOrigin, PlainJournal, saved_in}
use Rattle.journal.specs.Laws.{FramesStand, FrontsAreRecovered, NoRoomStays, OneListIsRecovered}
use Rattle.green_cli.specs.AnswersText.{answers_text}
use Rattle.green_cli.specs.Answered.{IsRightReport}
use Rattle.green_cli.specs.Call.{Call, Change, change}
use Rattle.green_cli.specs.Ends.{AnswersOver, Closes, EndsOver, EndsSession, OpensInVain, RefusesWith, RunsSession, StarvesOver}
use Rattle.green_cli.specs.Input.{InputWasRead}
use Rattle.green_cli.specs.Opened.{FailsToOpenStore, IsFileOpened, IsNoFileOpened, IsOpened}
use Rattle.green_cli.specs.Solve.{IsSolved, LeavesStore, SolveIsRefused, UsesStore, is_off, solve_cause}
use Rattle.green_cli.specs.declared.fault.Fault.{Fault}
use Rattle.green_cli.specs.declared.fault.Fault.TheVariants.{Usage, Text as OfText, Read, Disk, NoMemory, NotJournal, TooLong}
use Rattle.green_cli.specs.declared.outcome.Outcome.{Outcome}
use Rattle.green_cli.specs.declared.store.Opened.{Opened}
use Rattle.green_cli.proofs.SavesLemmas.{named_after, old_kept, saves_survive}
use Rattle.green_cli.proofs.StoreLemmas.{saved_none}

-- the call that ended so
abbrev pub call_of : {D : Type 0} → Change SourceState → Change SinkState → D → Change D → Outcome D → Call D
call_of source sink disk other done = record {
  source = source;
  sink = sink;
  disk = change disk done.disk;
  other = other;
  status = done.status;
  report = done.report;
}

-- ---- without a file

module _ {D : Type 0} (state : D → DiskState) (disk : D) (opened : Opened D)
    (is : IsNoFileOpened state disk opened) where
  none_opened : opened.recovered.entries.items ≡ []
  none_opened =
      is.started.list
      ∙ (ap (λ (ws : List Wrote). opened.journal.opening ++ saved_in ws) is.started.no_writes
      ∙ (ap (λ (l : List Entry). opened.journal.opening ++ l) saved_none
      ∙ (append-nil opened.journal.opening ∙ (is.started.kept.how.0 is.off).empty)))

  untouched_after : (journal : PlainJournal D) (after : D) → Closes state opened journal after → after ≡ disk
  untouched_after journal after closes =
      let off : journal.off ≡ true = ap (λ (o : JournalOrigin D). o.off) closes.origin ∙ is.off in
      closes.closed
      ∙ ((closes.kept.how.0 off).untouched
      ∙ (ap (λ (o : JournalOrigin D). o.made) closes.origin ∙ is.untouched))

-- ---- over what was opened

opened_off : {D : Type 0} (state : D → DiskState) (store : Option Text) (disk : D) (opened : Opened D)
    → IsOpened state store disk opened → opened.journal.off ≡ is_off store
opened_off state None disk opened is = is.off
opened_off state (Some name) disk opened is = is.on

module _ {D : Type 0} (fronts : FrontsAreRecovered) (one : OneListIsRecovered) (frames : FramesStand)
    (stays : NoRoomStays) (state : D → DiskState) (budget : ℕ) (session : List (List PlainCondition))
    (source : Change SourceState) (sink : Change SinkState) (disk : D) (other : Change D) (done : Outcome D) where
  uses : (store : Option Text) (opened : Opened D) → IsOpened state store disk opened
      → AnswersOver state budget session opened sink done
      → UsesStore state store opened.recovered.entries.items (call_of source sink disk other done)
  uses None opened is answers = record {
    nothing = none_opened state disk opened is;
    untouched = untouched_after state disk opened is answers.journal done.disk answers.closes;
  }
  uses (Some name) opened is answers = record {
    began = is.began;
    named = named_after state name disk opened is answers.journal done.disk answers.closes;
    saves = saves_survive state name disk opened is answers.journal done.disk answers.closes fronts frames stays
        done.report answers.wrotes;
  }

  solved_so : (store : Option Text) (opened : Opened D) → IsOpened state store disk opened
      → InputWasRead source session → AnswersOver state budget session opened sink done
      → IsSolved state store budget (call_of source sink disk other done)
  solved_so store opened is input answers = record {
    input = subst (InputWasRead source) (sym answers.session_is) input;
    opening = opened.recovered.entries.items;
    uses = uses store opened is answers;
    report = subst (λ (off : Bool). IsRightReport budget opened.recovered.entries.items off done.report)
        (opened_off state store disk opened is) answers.right;
    result = answers.result;
  }

  starved_leaves : (store : Option Text) (opened : Opened D) → IsOpened state store disk opened
      → StarvesOver state opened sink done → LeavesStore state store (call_of source sink disk other done) NoMemory
  starved_leaves None opened is starves =
      untouched_after state disk opened is starves.journal done.disk starves.closes
  starved_leaves (Some name) opened is starves =
      old_kept state name disk opened is starves.journal done.disk starves.closes fronts one

  memory_cause : (store : Option Text) → solve_cause state store (call_of source sink disk other done) NoMemory
  memory_cause None = tt
  memory_cause (Some name) = tt

  starved_so : (store : Option Text) (opened : Opened D) → IsOpened state store disk opened
      → StarvesOver state opened sink done → SolveIsRefused state store (call_of source sink disk other done)
  starved_so store opened is starves = record {
    refused = record {
      fault = NoMemory;
      reason = (memory_cause store, starved_leaves store opened is starves);
      writes = starves.refuses.writes;
      nothing = starves.refuses.nothing;
    };
  }

  open_cause : (store : Option Text) (fault : Fault) → InputWasRead source session
      → FailsToOpenStore state store disk done.disk fault
      → solve_cause state store (call_of source sink disk other done) fault
      × LeavesStore state store (call_of source sink disk other done) fault
  open_cause None fault input fails = absurd fails
  open_cause (Some name) Usage input fails = absurd fails
  open_cause (Some name) (OfText fault) input fails = absurd fails
  open_cause (Some name) Read input fails = absurd fails
  open_cause (Some name) Disk input fails = ((record { session = session; input = input }, fails), tt)
  open_cause (Some name) NoMemory input fails = (tt, fails)
  open_cause (Some name) NotJournal input fails = ((record { session = session; input = input }, fails), tt)
  open_cause (Some name) TooLong input fails = absurd fails

  -- the session was answered, or the call was refused
  pub ended : (store : Option Text) → InputWasRead source session
      → EndsSession state store budget session sink disk done
      → IsSolved state store budget (call_of source sink disk other done)
      ⊎ SolveIsRefused state store (call_of source sink disk other done)
  ended store input ends =
      ⊎_elim
      (λ runs. ⊎_elim (λ answers. inl (solved_so store runs.opened runs.is_opened input answers))
      (λ starves. inr (starved_so store runs.opened runs.is_opened starves)) runs.ends)
      (λ vain. inr (record {
        refused = record {
          fault = vain.fault;
          reason = open_cause store vain.fault input vain.fails;
          writes = vain.refuses.writes;
          nothing = vain.refuses.nothing;
        };
      }))
      ends
