-- What a disk in memory remembers after a call: of the calls before, and of this one.
use Rattle.std.proofs.Common.{◌≡◌, ℕ, ◌<◌, ◌≤◌, List, ◌∷◌, length, take, Option, None, Some, refl, ap, ◌∙◌, subst}
use Rattle.std.proofs.Common.{arith}
use Rattle.outside.specs.Counts.{raised}
use Rattle.outside.specs.Crash.{patched}
use Rattle.devices.specs.PastWrite.{write_over}
use Rattle.devices.specs.Steps.{call_of, before_step, Past, began, step_in, piece_of, with_front, AreOrdered}
use Rattle.devices.specs.MemDisk.{MemDiskState, as_began}
use Rattle.devices.specs.MemDiskCalls.{KeepsFile, HasNoPiece, HasPiece, Remembers, Syncs}
use Rattle.devices.specs.declared.step.Step.{Step}
use Rattle.devices.specs.declared.step.Step.TheVariants.{Write, Sync}
use Rattle.devices.proofs.PatchLemmas.{before-write_over}
use Rattle.devices.proofs.StepLemmas.{began-goes, began-ordered, step_in-here, step_in-behind, step_in-ordered}

-- the images of a call that took this step and began so
image_alike : (step step' : Option Step) (p p' : Past) (kept : ℕ) → step ≡ step' → p ≡ p'
    → with_front step kept p.file ≡ with_front step' kept p'.file
image_alike step step' p p' kept same began =
    ap (λ (s : Option Step). with_front s kept p.file) same ∙ ap (λ (b : Past). with_front step' kept b.file) began

-- a call that is counted was preceded by the steps of before
pub ordered_before : (old begun : MemDiskState) (calls listed : ℕ)
    → begun ≡ record old { calls = calls; listed = listed } → AreOrdered old.calls begun.steps
    → AreOrdered old.calls old.steps
ordered_before old begun calls listed is ordered =
    subst (λ (disk : MemDiskState). AreOrdered old.calls disk.steps) is ordered

module _ (old new : MemDiskState) (ordered : AreOrdered old.calls old.steps) (counted : new.calls ≡ raised old.calls) where
  -- of a call that kept the file there is no step
  module _ (kept : KeepsFile old new) where
    kept_began : (call : ℕ) → as_began new call ≡ as_began old call
    kept_began call =
        ap (λ (file : List ℕ). began file new.steps call) kept.bytes
        ∙ ap (λ (steps : List Step). began old.bytes steps call) kept.steps

    kept_step : (call : ℕ) → step_in new.steps call ≡ step_in old.steps call
    kept_step call = ap (λ (steps : List Step). step_in steps call) kept.steps

    kept_this : old.calls < new.calls → as_began new old.calls ≡ record { file = old.bytes; steps = old.steps }
    kept_this this = kept_began old.calls ∙ began-ordered old.bytes old.steps old.calls (omega arith) ordered

    no_step : old.calls < new.calls → step_in new.steps old.calls ≡ None
    no_step this = kept_step old.calls ∙ step_in-ordered old.steps old.calls (omega arith) ordered

    kept_no_piece : HasNoPiece old new
    kept_no_piece = record {
      piece = λ this. ap piece_of (no_step this);
      image = λ this front.
          image_alike _ None _ (record { file = old.bytes; steps = old.steps }) front (no_step this) (kept_this this);
    }

  pub KeepsFile-remembers : KeepsFile old new → Remembers old new
  KeepsFile-remembers kept = record {
    this = kept_this kept;
    before = λ call earlier. kept_began kept call;
    steps = λ call earlier. kept_step kept call;
    no_piece = kept_no_piece;
  }

  -- a call that took a step
  module _ (step : Step) (took : new.steps ≡ step ∷ old.steps) (by_this : call_of step ≡ old.calls)
      (was : before_step step new.bytes ≡ old.bytes) where
    step_began : (call : ℕ) → call ≤ old.calls → as_began new call ≡ as_began old call
    step_began call earlier =
        ap (λ (steps : List Step). began new.bytes steps call) took
        ∙ began-goes new.bytes step old.steps call (omega arith)
        ∙ ap (λ (file : List ℕ). began file old.steps call) was

    step_this : old.calls < new.calls → as_began new old.calls ≡ record { file = old.bytes; steps = old.steps }
    step_this this = step_began old.calls (omega arith) ∙ began-ordered old.bytes old.steps old.calls (omega arith) ordered

    pub step_is : step_in new.steps old.calls ≡ Some step
    step_is = ap (λ (steps : List Step). step_in steps old.calls) took ∙ step_in-here step old.steps old.calls by_this

    pub step_image : old.calls < new.calls → (kept : ℕ)
        → with_front (step_in new.steps old.calls) kept (as_began new old.calls).file ≡ with_front (Some step) kept old.bytes
    step_image this kept =
        image_alike _ (Some step) _ (record { file = old.bytes; steps = old.steps }) kept step_is (step_this this)

    pub step_remembers : Remembers old new
    step_remembers = record {
      this = step_this;
      before = λ call earlier. step_began call (omega arith);
      steps = λ call earlier.
          ap (λ (steps : List Step). step_in steps call) took
          ∙ step_in-behind step old.steps call (λ same. omega arith);
      no_piece = kept_no_piece;
    }

  -- a write remembers its piece
  module _ (at : ℕ) (piece : List ℕ) (done : ℕ) (within : at ≤ length old.bytes) (fits : done ≤ length piece)
      (bytes : new.bytes ≡ patched old.bytes at (take done piece))
      (steps : new.steps ≡ Write (write_over old.bytes old.calls at piece done) ∷ old.steps) where
    write_undone : before_step (Write (write_over old.bytes old.calls at piece done)) new.bytes ≡ old.bytes
    write_undone =
        ap (before_step (Write (write_over old.bytes old.calls at piece done))) bytes
        ∙ before-write_over old.bytes old.calls at piece done within fits

    pub write_has_piece : HasPiece old new at piece
    write_has_piece = record {
      piece = λ this. ap piece_of (step_is (Write (write_over old.bytes old.calls at piece done)) steps refl write_undone);
      image = step_image (Write (write_over old.bytes old.calls at piece done)) steps refl write_undone;
    }

    pub write_remembers : Remembers old new
    write_remembers = step_remembers (Write (write_over old.bytes old.calls at piece done)) steps refl write_undone

  -- a sync has none
  module _ (bytes : new.bytes ≡ old.bytes) (steps : new.steps ≡ Sync old.calls ∷ old.steps) where
    pub sync_syncs : Syncs old new
    sync_syncs = record {
      bytes = bytes;
      steps = steps;
      no_piece = record {
        piece = λ this. ap piece_of (step_is (Sync old.calls) steps refl bytes);
        image = step_image (Sync old.calls) steps refl bytes;
      };
    }

    pub sync_remembers : Remembers old new
    sync_remembers = step_remembers (Sync old.calls) steps refl bytes
