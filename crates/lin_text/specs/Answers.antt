-- The answers of a reader that refuses.
use Rattle.std.specs.Prelude.{◌≡◌, ℕ, Bool, ◌⊎◌, List}
use Rattle.lin_text.specs.declared.fault.TextFault.{TextFault}
use Rattle.lin_text.specs.declared.fault.TextKind.{TextKind}
use Rattle.lin_text.specs.declared.fault.TextKind.TheVariants.{NoMemory}
use Rattle.lin_text.specs.declared.refusal.ReadError.{ReadError}
use Rattle.lin_text.specs.declared.refusal.ReadError.TheVariants as errors
use Rattle.lin_text.specs.Lines.{line_number, column}
use Rattle.lin_text.specs.Queries.{HasFault}

-- `NoMemory`, or it is such a fault
abbrev pub IsErrorOf : {K : Type 0} → (K → ℕ → Type 0) → ReadError K → Type 0
IsErrorOf Has errors.NoMemory = Unit {0}
IsErrorOf Has (errors.Fault f) = Has f.kind f.at

-- such a fault of this kind, told by the line and the column of its place in the whole input
pub record IsToldAt {K : Type 0} (Has : K → ℕ → Type 0) (bytes : List ℕ) (kind : K) (l c : ℕ) : Type 0 where
  pub place : ℕ
  pub fault : Has kind place
  pub line : l ≡ line_number bytes place
  pub column : c ≡ column bytes place

-- the kind that tells want of memory, at no place
pub record IsToldNowhere {K : Type 0} (memory k : K) (l c : ℕ) : Type 0 where
  pub kind : k ≡ memory
  pub line : l ≡ 0
  pub column : c ≡ 0

-- `NoMemory`, or it is the fault of the text from a place on
abbrev pub IsReadError : Bool → List ℕ → ℕ → ReadError TextKind → Type 0
IsReadError in_proof bytes at = IsErrorOf (HasFault in_proof bytes at)

-- the fault of the query that begins at a place, with its line and column in the whole input
abbrev pub IsPlaced : Bool → List ℕ → ℕ → TextFault → Type 0
IsPlaced in_proof bytes at f = IsToldAt (HasFault in_proof bytes at) bytes f.kind f.line f.column

-- `NoMemory`, at no place
abbrev pub IsNoMemory : TextFault → Type 0
IsNoMemory f = IsToldNowhere NoMemory f.kind f.line f.column

-- what is answered: `NoMemory`, or the fault of the query
abbrev pub IsFault : Bool → List ℕ → ℕ → TextFault → Type 0
IsFault in_proof bytes at f = IsNoMemory f ⊎ IsPlaced in_proof bytes at f
