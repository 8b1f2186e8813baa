-- What the replies of a report say of a journal, and what a crash then leaves of its file.
use Rattle.std.specs.Prelude.{◌≡◌, ◌≢◌, ◌⊎◌, ℕ, ◌+◌, ◌-◌, ◌^◌, ◌≤◌, min, Bool, true, false, IfSome, List, ◌++◌, length, take, drop}
use Rattle.std.specs.List.{All, list_any, Contains}
use Rattle.cert_check.specs.declared.entry.Entry.{Entry}
use Rattle.cert_check.specs.declared.wrote.Wrote.{Wrote}
use Rattle.cert_check.specs.declared.wrote.Wrote.TheVariants.{At, Fault, Full}
use Rattle.cert_check.specs.Runs.{writes_of_all}
use Rattle.entry_codec.specs.Frames.{frame_of}
use Rattle.outside.specs.Runs.{IsSettled}
use Rattle.outside.specs.States.{DiskState}
use Rattle.journal.specs.Files.{BeginsWith, HasNoRoom}
use Rattle.journal.specs.Journals.{faults_in, saved_in}
use Rattle.journal.specs.Recovery.{HoldsAtLeast, RecoversTo}
use Rattle.green_cli.specs.Answered.{all_parts}
use Rattle.green_cli.specs.declared.outcome.Report.{Report}

-- what the journal did for the replies, in order; they are those of seat 0
abbrev pub writes_in : Report → List Wrote
writes_in report = writes_of_all 0 (all_parts report)

-- the entries of the file: those of its opening, and behind them those whose replies tell that they were saved
abbrev pub entries_saved : List Entry → Report → List Entry
entries_saved opening report = opening ++ saved_in (writes_in report)

-- a reply's entry that was saved has its frame at the byte that the reply tells
abbrev pub HasFrame : List ℕ → Wrote → Type 0
HasFrame file (At seat at entry) = take (length (frame_of entry)) (drop at file) ≡ frame_of entry
HasFrame file (Fault seat) = Unit {0}
HasFrame file (Full seat entry) = Unit {0}

-- The file recovers to entries that begin with the opening ones and those that were saved, and has the frame of each of
-- these at its byte.
pub record HoldsSaved (opening : List Entry) (report : Report) (file : List ℕ) : Type 0 where
  pub entries : HoldsAtLeast file (entries_saved opening report)
  pub frames : All (HasFrame file) (writes_in report)

-- for an entry that wasn't saved for want of room there is none behind those that were
abbrev pub IsRightlyFull : List Entry → Wrote → Type 0
IsRightlyFull saved (At seat at entry) = Unit {0}
IsRightlyFull saved (Fault seat) = Unit {0}
IsRightlyFull saved (Full seat entry) = HasNoRoom saved entry

-- What is reported saved survives a crash as the call returns, if nothing was pending on the disk that was handed in and
-- it keeps its rules. The disk failed at least as often as replies tell.
pub record SavesSurvive (opening : List Entry) (report : Report) (before after : DiskState) : Type 0 where
  pub images : IsSettled before → (image : List ℕ) → after.may_leave image → HoldsSaved opening report image
  pub faults : min (before.faults + faults_in (writes_in report)) (2 ^ 64 - 1) ≤ after.faults
  pub full : All (IsRightlyFull (entries_saved opening report)) (writes_in report)

-- As the call returns a crash leaves a file that recovers to entries that begin with those that the file had, if nothing
-- was pending on the disk that was handed in.
abbrev pub OldEntriesSurvive : DiskState → DiskState → Type 0
OldEntriesSurvive before after = IsSettled before → IfSome before.content (λ file. (entries : List Entry)
    → RecoversTo file entries → (image : List ℕ) → after.may_leave image → HoldsAtLeast image entries)
