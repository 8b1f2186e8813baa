-- What a reader of the code answers, against what reading gives.
use Rattle.std.specs.Prelude.{◌≡◌, ℕ, Result, Ok, Err}
use Rattle.entry_codec.specs.declared.fault.ReadFault.{ReadFault}
use Rattle.entry_codec.specs.declared.fault.ReadFault.TheVariants.{Bad, NoMemory}

-- the fault is the one that reading gives; want of memory says nothing
abbrev pub Fails : {A : Type 0} → ReadFault → Result A ℕ → Type 0
Fails (Bad left) read = read ≡ Err left
Fails NoMemory read = Unit {0}

-- what was answered, seen so, is what reading gives, unless memory ran out
abbrev pub Gives : {X A : Type 0} → (X → A) → Result X ReadFault → Result A ℕ → Type 0
Gives see (Ok x) read = read ≡ Ok (see x)
Gives see (Err fault) read = Fails fault read
