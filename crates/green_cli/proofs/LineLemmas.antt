-- Budgets that are written out, and what words ask for by their first.
use Rattle.std.proofs.Common.{◌≡◌, ◌≢◌, ℕ, List, Some, None, sym, ◌∙◌, arith, refl, codes, Option}
use Rattle.std.specs.Prelude.{slice_get}
use Rattle.clap.specs.Words.{Text}
use Rattle.green_cli.specs.Words.{AreCommand, AsksToDump, AsksToSolve, IsCommand, SpellsBudget}
use Rattle.green_cli.specs.declared.words.Command.{Command}
use Rattle.green_cli.specs.declared.words.Command.TheVariants.{Solve, Dump}

pub seven : SpellsBudget (codes "7") 7
seven = record {
  number = record { digits = (omega arith, (omega arith, tt)); short = omega arith; value = refl };
  some = omega arith;
  few = omega arith;
}

pub also_seven : SpellsBudget (codes "007") 7
also_seven = record {
  number = record {
    digits =
        (omega arith, (omega arith, (omega arith, (omega arith, tt))));
    short = omega arith;
    value = refl;
  };
  some =
      omega arith;
  few = omega arith;
}

-- words that ask for something and begin with `solve` ask to solve
pub solve_asked : (words : List Text) → slice_get words 0 ≡ Some (codes "solve") → AreCommand words
    → (store : Option Text) × (splits : ℕ) × AsksToSolve words store splits
solve_asked words first asked = go asked.command asked.asked
  where
    go : (command : Command) → IsCommand words command
        → (store : Option Text) × (splits : ℕ) × AsksToSolve words store splits
    go (Solve store splits) h = (store, splits, h)
    go (Dump store) h = let other : Some (codes "solve") ≡ Some (codes "dump") = sym first ∙ h.first in cc

-- those that begin with `dump` ask to dump
pub dump_asked : (words : List Text) → slice_get words 0 ≡ Some (codes "dump") → AreCommand words
    → (store : Text) × AsksToDump words store
dump_asked words first asked = go asked.command asked.asked
  where
    go : (command : Command) → IsCommand words command → (store : Text) × AsksToDump words store
    go (Solve store splits) h = let other : Some (codes "dump") ≡ Some (codes "solve") = sym first ∙ h.first in cc
    go (Dump store) h = (store, h)

-- words that ask for something are some
pub some_asked : (words : List Text) → AreCommand words → slice_get words 0 ≢ None
some_asked words asked = go asked.command asked.asked
  where
    go : (command : Command) → IsCommand words command → slice_get words 0 ≢ None
    go (Solve store splits) h e = let none : Some (codes "solve") ≡ None = sym h.first ∙ e in cc
    go (Dump store) h e = let none : Some (codes "dump") ≡ None = sym h.first ∙ e in cc
