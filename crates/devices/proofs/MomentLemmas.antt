-- The moments of a disk in memory, as far back as the beginning of a call.
use Rattle.std.proofs.Common.{◌⊎◌, inl, inr, ⊎_elim, ℕ, ◌+◌, ◌≤◌, List, [], ◌∷◌, length, sym, ap, subst}
use Rattle.std.proofs.Common.{arith}
use Rattle.std.proofs.lemmas.Bool.{cases_lt}
use Rattle.devices.specs.Steps.{call_of, before_step, MightHaveLeft, Past, began}
use Rattle.devices.specs.MemDisk.{MayBeLeft}
use Rattle.devices.specs.MemDiskFacts.{MightHaveLeft-earlier}
use Rattle.devices.specs.declared.step.Step.{Step}
use Rattle.devices.proofs.StepLemmas.{began-stops, began-goes}

-- what was left as a call began might have been left since then
pub left_as_began : (file : List ℕ) (steps : List Step) (call : ℕ) (image : List ℕ)
    → MayBeLeft (began file steps call) image → MightHaveLeft file steps (length (began file steps call).steps) image
left_as_began file [] call image left = (omega arith, left)
left_as_began file (step ∷ older) call image left =
    let Since : Past → Type 0 = λ p. MayBeLeft p image → MightHaveLeft file (step ∷ older) (length p.steps) image in
    elim (cases_lt (call_of step) call) [
      | inl earlier ↦ subst Since (sym (began-stops file step older call earlier)) (λ here. inl (omega arith, here)) left
      | inr later ↦ subst Since (sym (began-goes file step older call later))
          (λ there. inr (left_as_began (before_step step file) older call image there)) left
    ]

-- going back leaves no more steps
began_shorter : (file : List ℕ) (steps : List Step) (call : ℕ) → length (began file steps call).steps ≤ length steps
began_shorter file [] call = omega arith
began_shorter file (step ∷ older) call =
    elim (cases_lt (call_of step) call) [
      | inl earlier ↦ omega (arith, ap (λ (p : Past). length p.steps) (began-stops file step older call earlier))
      | inr later ↦ omega (
        arith,
        ap (λ (p : Past). length p.steps) (began-goes file step older call later),
        began_shorter (before_step step file) older call,
      )
    ]

-- a later call began no earlier
pub began_later : (file : List ℕ) (steps : List Step) (call later : ℕ) → call ≤ later
    → length (began file steps call).steps ≤ length (began file steps later).steps
began_later file [] call later le = omega arith
began_later file (step ∷ older) call later le =
    elim (cases_lt (call_of step) later) [
      | inl earlier ↦ omega (
        arith,
        ap (λ (p : Past). length p.steps) (began-stops file step older later earlier),
        began_shorter file (step ∷ older) call,
      )
      | inr goes ↦ omega (
        arith,
        ap (λ (p : Past). length p.steps) (began-goes file step older later goes),
        ap (λ (p : Past). length p.steps) (began-goes file step older call (omega arith)),
        began_later (before_step step file) older call later le,
      )
    ]

-- what a crash within a call may leave, a crash since the call began might have left
pub left_since_began : (file : List ℕ) (steps : List Step) (call : ℕ) (image : List ℕ)
    → MayBeLeft (began file steps call) image ⊎ MayBeLeft (began file steps (call + 1)) image
    → MightHaveLeft file steps (length (began file steps call).steps) image
left_since_began file steps call image left =
    ⊎_elim (left_as_began file steps call image)
    (λ ended. MightHaveLeft-earlier file steps _ _ image (began_later file steps call (call + 1) (omega arith))
    (left_as_began file steps (call + 1) image ended)) left
