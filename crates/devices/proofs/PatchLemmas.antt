-- Patches of files: in two parts, and taken back.
use Rattle.std.proofs.Common.{◌≡◌, inl, inr, ℕ, ◌+◌, ◌-◌, ◌<◌, ◌≤◌, List, ◌++◌, length, take, drop, min, refl, sym, ap, ◌∙◌, arith}
use Rattle.std.proofs.Common.{length-take, length-drop, take-append-drop, take_at}
use Rattle.std.proofs.Common.{take_all, drop-drop}
use Rattle.std.proofs.lemmas.Bool.{cases_lt}
use Rattle.outside.specs.Crash.{patched}
use Rattle.outside.specs.TornFacts.{length-patched, patched-parts, take-patched, drop-patched}
use Rattle.devices.specs.PastWrite.{write_over}
use Rattle.devices.specs.Steps.{before_write, CanUndo}
use Rattle.devices.specs.declared.step.Step.TheVariants.{Write}

module _ (file : List ℕ) (at done : ℕ) (written : List ℕ) (within : at ≤ length file) (long : length written ≡ done) where
  -- in front of the patch
  front_same : take at (patched file at written) ≡ take at file
  front_same =
      let here : at ≡ min at (length file) = omega arith in
      ap (λ (n : ℕ). take n (patched file at written)) here ∙ take-patched file at written

  -- a patch within the file, and what it overwrote put back
  back_within : done ≤ length file - at
      → patched (patched file at written) at (take done (drop at file)) ≡ file
  back_within fits =
      let old : length (take done (drop at file)) ≡ done =
      omega (arith, length-take done (drop at file), length-drop at file) in
      patched-parts (patched file at written) at (take done (drop at file))
      ∙ ap (λ (n : ℕ). take at (patched file at written)
      ++ (take done (drop at file) ++ drop (at + n) (patched file at written))) old
      ∙ ap (λ (rest : List ℕ). take at (patched file at written) ++ (take done (drop at file) ++ rest))
      (drop-patched file at done written (omega arith) ∙ sym (drop-drop done at file))
      ∙ ap (λ (rest : List ℕ). take at (patched file at written) ++ rest) (take-append-drop done (drop at file))
      ∙ ap (λ (front : List ℕ). front ++ drop at file) front_same
      ∙ take-append-drop at file

  -- a patch that passes the end, and the file's end put back
  back_past : length file - at < done
      → take (length file) (patched (patched file at written) at (take done (drop at file))) ≡ file
  back_past past =
      let old : take done (drop at file) ≡ drop at file = take_all done (drop at file) (omega (arith, length-drop at file)) in
      let rest = drop (at + length (take done (drop at file))) (patched file at written) in
      ap (λ (f : List ℕ). take (length file) f)
      (ap (λ (o : List ℕ). take at (patched file at written) ++ o ++ rest) old
      ∙ ap (λ (front : List ℕ). front ++ drop at file ++ rest) front_same
      ∙ ap (λ (f : List ℕ). f ++ rest) (take-append-drop at file))
      ∙ take_at file rest (length file) refl

  -- what a patch overwrote, put back, and the file cut to its length
  pub taken_back : take (length file) (patched (patched file at written) at (take done (drop at file))) ≡ file
  taken_back = elim (cases_lt (length file - at) done) [
    | inl past ↦ back_past past
    | inr fits ↦ ap (take (length file)) (back_within fits) ∙ take_all (length file) file (omega arith)
  ]

-- before a write over the file there was the file
pub before-write_over : (file : List ℕ) (call at : ℕ) (piece : List ℕ) (done : ℕ) → at ≤ length file → done ≤ length piece
    → before_write (write_over file call at piece done) (patched file at (take done piece)) ≡ file
before-write_over file call at piece done within fits =
    taken_back file at done (take done piece) within (omega (arith, length-take done piece))

-- a write over the file can be taken back
pub CanUndo-write_over : (file : List ℕ) (call at : ℕ) (piece : List ℕ) (done : ℕ) → at ≤ length file → done ≤ length piece
    → CanUndo (Write (write_over file call at piece done)) (patched file at (take done piece))
CanUndo-write_over file call at piece done within fits = (
  within,
  omega (
    arith,
    length-patched file at (take done piece),
    length-take done piece,
    length-take done (drop at file),
    length-drop at file,
  ),
)
