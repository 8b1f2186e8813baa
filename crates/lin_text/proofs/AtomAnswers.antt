-- What the reader of an atom answers where it refuses.
use Rattle.std.proofs.Common.{◌≡◌, ℕ, sym, subst}
use Rattle.std.specs.Prelude.{Result, Ok, Err, IsErrAnd, IfOk, IfErr}
use Rattle.lin_text.specs.declared.fault.TextKind.{TextKind}
use Rattle.lin_text.specs.declared.refusal.Fault.{Fault}
use Rattle.lin_text.specs.declared.refusal.ReadError.{ReadError}
use Rattle.lin_text.specs.declared.refusal.ReadError.TheVariants as errors
use Rattle.lin_text.specs.Answers.{IsErrorOf}

-- a fault of a part that is handed on
pub handed_on : {X : Type 0} (r : Result X (ReadError TextKind)) (f : Fault TextKind) (Has : TextKind → ℕ → Type 0)
    → IsErrAnd r (λ e. e ≡ errors.Fault f) → Has f.kind f.at → IfErr r (IsErrorOf Has)
handed_on (Ok x) f Has h has = tt
handed_on (Err e) f Has h has = subst (λ (d : ReadError TextKind). IsErrorOf Has d) (sym h) has

-- a part that was refused gives nothing
pub none_given : {X E : Type 0} (r : Result X E) (P : E → Type 0) (Q : X → Type 0) → IsErrAnd r P → IfOk r Q
none_given (Ok x) P Q h = absurd h
none_given (Err e) P Q h = tt

-- an error of a part that is handed on
pub error_in_line : {X : Type 0} (r : Result X (ReadError TextKind)) (e : ReadError TextKind)
    (Has Gets : TextKind → ℕ → Type 0) → IsErrAnd r (λ d. d ≡ e) → ((k : TextKind) (p : ℕ) → Has k p → Gets k p)
    → IsErrorOf Has e → IfErr r (IsErrorOf Gets)
error_in_line (Ok x) e Has Gets h leads has = tt
error_in_line (Err d) errors.NoMemory Has Gets h leads has =
    subst (λ (c : ReadError TextKind). IsErrorOf Gets c) (sym h) tt
error_in_line (Err d) (errors.Fault f) Has Gets h leads has =
    subst (λ (c : ReadError TextKind). IsErrorOf Gets c) (sym h) (leads f.kind f.at has)
