-- What the statuses tell of the words.
use Rattle.std.proofs.Common.{◌≡◌, ◌≢◌, ◌⊎◌, ℕ, List, arith, subst, inl, inr, ⊎_elim}
use Rattle.clap.specs.Words.{Text}
use Rattle.outside.specs.States.{DiskState}
use Rattle.session_text.specs.Laws.{SpelledHasNoFault}
use Rattle.green_cli.specs.Call.{Call}
use Rattle.green_cli.specs.Commands.{Does, DoesAsAsked, words_cause}
use Rattle.green_cli.specs.Laws.{CommandsAreUnique}
use Rattle.green_cli.specs.StatusLaws.{StatusesOfWords}
use Rattle.green_cli.specs.Statuses.{IsRefused, status_of}
use Rattle.green_cli.specs.Words.{AreCommand, IsCommand}
use Rattle.green_cli.specs.declared.fault.Fault.{Fault}
use Rattle.green_cli.specs.declared.fault.Fault.TheVariants.{Usage, Text as OfText, Read, Disk, NoMemory, NotJournal, TooLong}
use Rattle.green_cli.specs.declared.words.Command.{Command}
use Rattle.green_cli.specs.declared.words.Command.TheVariants.{Solve, Dump}
use Rattle.green_cli.proofs.DumpStatusLemmas.{dump_statuses}
use Rattle.green_cli.proofs.StatusLemmas.{solve_statuses}

module _ {D : Type 0} (state : D → DiskState) (words : List Text) (call : Call D) where
  command_not_usage : SpelledHasNoFault → (command : Command) → Does state command call → call.status ≢ 10
  command_not_usage spelled (Solve store budget) solves = (solve_statuses state store budget call spelled solves).usage
  command_not_usage spelled (Dump store) dumps = λ ten.
      absurd (grind (arith, ten, (dump_statuses state store call dumps).others))

  refused_usage : IsRefused (words_cause words) call → call.status ≡ 10 → ¬ AreCommand words
  refused_usage refused ten = go refused.fault refused.reason refused.writes.number
    where
      go : (fault : Fault) → words_cause words fault → call.status ≡ status_of fault → ¬ AreCommand words
      go Usage cause number = cause
      go (OfText fault) cause number = absurd cause
      go Read cause number = absurd cause
      go Disk cause number = absurd cause
      go NoMemory cause number = absurd (omega (arith, ten, number))
      go NotJournal cause number = absurd cause
      go TooLong cause number = absurd cause

  refused_status : IsRefused (words_cause words) call → (call.status ≡ 10) ⊎ (call.status ≡ 16)
  refused_status refused = go refused.fault refused.reason refused.writes.number
    where
      go : (fault : Fault) → words_cause words fault → call.status ≡ status_of fault
          → (call.status ≡ 10) ⊎ (call.status ≡ 16)
      go Usage cause number = inl number
      go (OfText fault) cause number = absurd cause
      go Read cause number = absurd cause
      go Disk cause number = absurd cause
      go NoMemory cause number = inr number
      go NotJournal cause number = absurd cause
      go TooLong cause number = absurd cause

  asked_refused : (command : Command) → IsCommand words command → IsRefused (words_cause words) call
      → call.status ≡ 16
  asked_refused command asked refused = go refused.fault refused.reason refused.writes.number
    where
      go : (fault : Fault) → words_cause words fault → call.status ≡ status_of fault → call.status ≡ 16
      go Usage cause number = absurd (cause (record { command = command; asked = asked }))
      go (OfText fault) cause number = absurd cause
      go Read cause number = absurd cause
      go Disk cause number = absurd cause
      go NoMemory cause number = number
      go NotJournal cause number = absurd cause
      go TooLong cause number = absurd cause

  asked_done : CommandsAreUnique → DoesAsAsked state words call → (command : Command) → IsCommand words command
      → Does state command call ⊎ (call.status ≡ 16)
  asked_done unique does command asked =
      ⊎_elim (λ refuses. inr (asked_refused command asked refuses.refused))
      (λ done. inl (subst (λ (c : Command). Does state c call) (unique words done.command command done.asked asked)
      done.does))
      does

  pub words_statuses : SpelledHasNoFault → CommandsAreUnique → DoesAsAsked state words call
      → StatusesOfWords state words call
  words_statuses spelled unique does = record {
    usage = λ ten. ⊎_elim (λ refuses. refused_usage refuses.refused ten)
        (λ done. absurd (command_not_usage spelled done.command done.does ten)) does;
    is_usage = λ none. ⊎_elim (λ refuses. (refuses, refused_status refuses.refused))
        (λ done. absurd (none (record { command = done.command; asked = done.asked }))) does;
    does = asked_done unique does;
  }
