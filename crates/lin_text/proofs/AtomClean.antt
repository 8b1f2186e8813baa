-- No fault stands at a token of what was read, unless the whole isn't canonical.
use Rattle.std.proofs.Common.{◌≡◌, ◌≤◌, false, List, [], ◌∷◌, ◌++◌, Some}
use Rattle.std.proofs.Common.{ap, subst, ◌∙◌, append_assoc, arith, inl, inr}
use Rattle.lin_model.specs.declared.form.FormTerm.{FormTerm}
use Rattle.lin_text.specs.declared.atom_step.State.{State}
use Rattle.lin_text.specs.declared.atom_step.State.TheVariants as states
use Rattle.lin_text.specs.declared.fault.TextKind.{TextKind}
use Rattle.lin_text.specs.declared.fault.TextKind.TheVariants as kinds
use Rattle.lin_text.specs.Pieces.{Piece, bad}
use Rattle.lin_text.specs.KeyAtomTexts.{BeginsUncanonical, StandsInAtom}
use Rattle.lin_text.specs.AtomSteps.{run}
use Rattle.lin_text.proofs.AtomPlaces.{AreAtomPieces, run-pieces, run-front}
use Rattle.lin_text.proofs.AtomCounts.{begun, too_many}
use Rattle.lin_text.proofs.AtomTrees.{begins, full_front}

-- the tokens from one of them on
pieces-at : (front : List Piece) (q : Piece) (mid : List Piece) → AreAtomPieces (front ++ q ∷ mid)
    → AreAtomPieces (q ∷ mid)
pieces-at [] q mid h = h
pieces-at (f ∷ front) q mid h = pieces-at front q mid h.1

-- what was read is a token
not_bad : (q : Piece) (mid : List Piece) → AreAtomPieces (q ∷ mid) → q ≡ bad → ⊥
not_bad q mid h is = (subst (λ (p : Piece). AreAtomPieces (p ∷ mid)) is h).0

-- no fault stands at a token that was read
pub no_stand : (front : List Piece) (q : Piece) (mid after : List Piece) (terms : List FormTerm) (s : State)
    → run [] (states.Item false) (front ++ q ∷ mid) ≡ Some (terms, s) → begun terms s ≤ 64
    → (front ≡ [] → BeginsUncanonical (q ∷ after) → ⊥) → (k : TextKind) → StandsInAtom front q after k → ⊥
no_stand front q mid after terms s e few canonical kinds.TooManyTerms h =
    let there = run-front [] terms (states.Item false) s front (q ∷ mid) e in
    let full = full_front front there.0 there.1 there.2 h.0 in
    let more = too_many there.0 terms there.1 s q mid full.1 full.0 h.1 there.3 in
    omega (arith, few, more)
no_stand front q mid after terms s e few canonical kinds.Token h =
    not_bad q mid (pieces-at front q mid (run-pieces [] terms (states.Item false) s (front ++ q ∷ mid) e)) h
no_stand front q mid after terms s e few canonical kinds.Syntax (inl h) =
    let there = run-front [] terms (states.Item false) s (front ++ q ∷ []) mid
    (ap (run [] (states.Item false)) (append_assoc front (q ∷ []) mid) ∙ e) in
    h (begins (front ++ q ∷ []) there.0 there.1 there.2)
no_stand front q mid after terms s e few canonical kinds.Syntax (inr h) = canonical h.0 h.1
no_stand front q mid after terms s e few canonical kinds.TooManyVars h = h
no_stand front q mid after terms s e few canonical kinds.TooManyAtoms h = h
no_stand front q mid after terms s e few canonical kinds.NumberTooLarge h = h
no_stand front q mid after terms s e few canonical kinds.UnknownName h = h
no_stand front q mid after terms s e few canonical kinds.NameTwice h = h
no_stand front q mid after terms s e few canonical kinds.EmptyRange h = h
no_stand front q mid after terms s e few canonical kinds.NoMemory h = h
