-- What the program promises, whatever the words.
use Rattle.std.specs.Prelude.{◌≡◌, ◌⊎◌, List}
use Rattle.clap.specs.Words.{Text}
use Rattle.outside.specs.States.{DiskState}
use Rattle.green_cli.specs.Call.{Call, KeepsDisks}
use Rattle.green_cli.specs.Dump.{Dumps}
use Rattle.green_cli.specs.Solve.{Solves}
use Rattle.green_cli.specs.Statuses.{IsRefused}
use Rattle.green_cli.specs.Words.{AreCommand, IsCommand}
use Rattle.green_cli.specs.declared.fault.Fault.{Fault}
use Rattle.green_cli.specs.declared.fault.Fault.TheVariants.{Usage, NoMemory}
use Rattle.green_cli.specs.declared.words.Command.{Command}
use Rattle.green_cli.specs.declared.words.Command.TheVariants.{Solve, Dump}

-- what each command does
abbrev pub Does : {D : Type 0} → (D → DiskState) → Command → Call D → Type 0
Does state (Solve store budget) call = Solves state store budget call
Does state (Dump store) call = Dumps state store call

-- why words are refused; want of memory needs no cause
abbrev pub words_cause : List Text → Fault → Type 0
words_cause words Usage = ¬ AreCommand words
words_cause words NoMemory = Unit {0}
words_cause words _ = ⊥

-- the words were refused before anything was read: status 10 or 16
pub record RefusesWords {D : Type 0} (words : List Text) (call : Call D) : Type 0 where
  pub refused : IsRefused (words_cause words) call
  pub unread : call.source.after ≡ call.source.before
  pub disks : KeepsDisks call

-- the words ask for a command, and it was done
pub record DoesCommand {D : Type 0} (state : D → DiskState) (words : List Text) (call : Call D) : Type 0 where
  pub command : Command
  pub asked : IsCommand words command
  pub does : Does state command call

-- the program did what the words ask for, or refused them
abbrev pub DoesAsAsked : {D : Type 0} → (D → DiskState) → List Text → Call D → Type 0
DoesAsAsked state words call = RefusesWords words call ⊎ DoesCommand state words call
