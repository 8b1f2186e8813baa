-- The answers of `read_session` where it refuses.
use Rattle.std.specs.Prelude.{ℕ, ◌⊎◌, List}
use Rattle.lin_text.specs.declared.fault.SessionFault.{SessionFault}
use Rattle.lin_text.specs.declared.fault.SessionKind.TheVariants.{NoMemory}
use Rattle.lin_text.specs.Answers.{IsToldAt, IsToldNowhere}
use Rattle.session_text.specs.Faults.{HasFault}

-- the fault of the text, with its line and column in the whole input
abbrev pub IsPlaced : List ℕ → SessionFault → Type 0
IsPlaced bytes f = IsToldAt (HasFault bytes) bytes f.kind f.line f.column

-- `NoMemory`, at no place
abbrev pub IsNoMemory : SessionFault → Type 0
IsNoMemory f = IsToldNowhere NoMemory f.kind f.line f.column

-- what is answered: `NoMemory`, or the fault of the text
abbrev pub IsFault : List ℕ → SessionFault → Type 0
IsFault bytes f = IsNoMemory f ⊎ IsPlaced bytes f
