-- What the words of a command line keep, and lines that are written out.
use Rattle.std.specs.Prelude.{◌≡◌, List, [], ◌∷◌, Some, None, codes}
use Rattle.clap.specs.Words.{Text}
use Rattle.green_cli.specs.declared.words.Command.{Command}
use Rattle.green_cli.specs.declared.words.Command.TheVariants.{Solve, Dump}
use Rattle.green_cli.specs.Words.{AreCommand, IsCommand}

-- words ask for one command at most
abbrev pub CommandsAreUnique : Type 0
CommandsAreUnique = (words : List Text) (one other : Command) → IsCommand words one → IsCommand words other
    → one ≡ other

-- `solve` asks for no store and the usual budget, and `solve --budget 7` and `solve --budget=007` for 7
pub record LinesAsk : Type 0 where
  pub alone : IsCommand (codes "solve" ∷ []) (Solve None 4096)
  pub apart : IsCommand (codes "solve" ∷ codes "--budget" ∷ codes "7" ∷ []) (Solve None 7)
  pub joined : IsCommand (codes "solve" ∷ codes "--budget=007" ∷ []) (Solve None 7)

-- a store is named before the budget, behind it and alone, by a word or in one with the option; its name may be empty
pub record LinesName : Type 0 where
  pub before : IsCommand (codes "solve" ∷ codes "--store" ∷ codes "F" ∷ codes "--budget" ∷ codes "7" ∷ [])
      (Solve (Some (codes "F")) 7)
  pub behind : IsCommand (codes "solve" ∷ codes "--budget=7" ∷ codes "--store=F" ∷ []) (Solve (Some (codes "F")) 7)
  pub alone : IsCommand (codes "solve" ∷ codes "--store" ∷ codes "F" ∷ []) (Solve (Some (codes "F")) 4096)
  pub empty : IsCommand (codes "solve" ∷ codes "--store" ∷ [] ∷ []) (Solve (Some []) 4096)
  pub nothing_joined : IsCommand (codes "solve" ∷ codes "--store=" ∷ []) (Solve (Some []) 4096)
  pub dump : IsCommand (codes "dump" ∷ codes "--store" ∷ codes "F" ∷ []) (Dump (codes "F"))
  pub dump_joined : IsCommand (codes "dump" ∷ codes "--store=F" ∷ []) (Dump (codes "F"))
  pub dump_empty : IsCommand (codes "dump" ∷ codes "--store" ∷ [] ∷ []) (Dump [])

-- no words, a budget of 0, two budgets, and a call for help ask for nothing
pub record LinesAskNothing : Type 0 where
  pub none : ¬ AreCommand []
  pub zero : ¬ AreCommand (codes "solve" ∷ codes "--budget" ∷ codes "0" ∷ [])
  pub twice : ¬ AreCommand (codes "solve" ∷ codes "--budget=5" ∷ codes "--budget=6" ∷ [])
  pub help : ¬ AreCommand (codes "solve" ∷ codes "--help" ∷ [])

-- nor do `dump` without a store or with a budget, `--store` without a name, and two stores
pub record LinesNameNothing : Type 0 where
  pub unnamed : ¬ AreCommand (codes "dump" ∷ [])
  pub budget : ¬ AreCommand (codes "dump" ∷ codes "--store" ∷ codes "F" ∷ codes "--budget" ∷ codes "1" ∷ [])
  pub ends : ¬ AreCommand (codes "solve" ∷ codes "--store" ∷ [])
  pub twice : ¬ AreCommand (codes "solve" ∷ codes "--store" ∷ codes "F" ∷ codes "--store" ∷ codes "F" ∷ [])
  pub dump_ends : ¬ AreCommand (codes "dump" ∷ codes "--store" ∷ [])
  pub dump_twice : ¬ AreCommand (codes "dump" ∷ codes "--store=F" ∷ codes "--store=G" ∷ [])
  pub dump_help : ¬ AreCommand (codes "dump" ∷ codes "--help" ∷ [])
