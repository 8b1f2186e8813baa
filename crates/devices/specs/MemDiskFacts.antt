-- What a disk in memory tells fits together, and what it tells of a call stays.
use Rattle.std.proofs.Common.{◌≡◌, inl, inr, ⊎_elim, ℕ, ◌<◌, ◌≤◌, List, [], ◌∷◌, length, Option, refl, ap, ◌∙◌, arith}
use Rattle.outside.specs.Crash.{IsConsistent}
use Rattle.devices.specs.Steps.{before_step, MayLeave, MightHaveLeft, Past, step_in, piece_of, with_front}
use Rattle.devices.specs.MemDisk.{MemDiskState, mem_disk, as_began, piece_in, image_in}
use Rattle.devices.specs.MemDiskCalls.{Remembers}
use Rattle.devices.specs.declared.step.Step.{Step}
use Rattle.devices.specs.declared.step.Step.TheVariants.{Write, Sync}

-- a crash may leave the file
pub MayLeave-file : (file : List ℕ) (steps : List Step) → MayLeave file steps file
MayLeave-file file [] = refl
MayLeave-file file (Sync call ∷ older) = refl
MayLeave-file file (Write write ∷ older) = inl refl

-- this moment is one of those since an earlier one
pub MightHaveLeft-now : (file : List ℕ) (steps : List Step) (t : ℕ) (image : List ℕ) → t ≤ length steps
    → MayLeave file steps image → MightHaveLeft file steps t image
MightHaveLeft-now file [] t image before left = (before, left)
MightHaveLeft-now file (step ∷ older) t image before left = inl (before, left)

-- there is no moment since one that is yet to come
pub MightHaveLeft-within : (file : List ℕ) (steps : List Step) (t : ℕ) (image : List ℕ)
    → MightHaveLeft file steps t image → t ≤ length steps
MightHaveLeft-within file [] t image left = left.0
MightHaveLeft-within file (step ∷ older) t image left =
    ⊎_elim (λ here. here.0)
    (λ there. omega (arith, MightHaveLeft-within (before_step step file) older t image there)) left

-- since this moment there is no other
pub MightHaveLeft-only_now : (file : List ℕ) (steps : List Step) (image : List ℕ)
    → MightHaveLeft file steps (length steps) image → MayLeave file steps image
MightHaveLeft-only_now file [] image left = left.1
MightHaveLeft-only_now file (step ∷ older) image left =
    ⊎_elim (λ here. here.1)
    (λ there. absurd (omega (
      arith,
      MightHaveLeft-within (before_step step file) older (length (step ∷ older)) image there,
    ))) left

-- what might have been left since a moment might have been left since an earlier one
pub MightHaveLeft-earlier : (file : List ℕ) (steps : List Step) (t u : ℕ) (image : List ℕ) → t ≤ u
    → MightHaveLeft file steps u image → MightHaveLeft file steps t image
MightHaveLeft-earlier file [] t u image le left = (omega (arith, left.0), left.1)
MightHaveLeft-earlier file (step ∷ older) t u image le left =
    ⊎_elim (λ here. inl (omega (arith, here.0), here.1))
    (λ there. inr (MightHaveLeft-earlier (before_step step file) older t u image le there)) left

pub mem_disk_is_consistent : (disk : MemDiskState) → IsConsistent (mem_disk disk)
mem_disk_is_consistent disk = record {
  tells = λ rules. refl;
  tells_content = λ rules. refl;
  may_stay = λ rules. MayLeave-file disk.bytes disk.steps;
  counts_now = λ rules t image before left. MightHaveLeft-now disk.bytes disk.steps t image before left;
  only_now = λ rules image left. MightHaveLeft-only_now disk.bytes disk.steps image left;
  since_earlier = λ rules t later image le within left.
      MightHaveLeft-earlier disk.bytes disk.steps t later image le left;
}

-- a call of before has the piece that it had
pub Remembers-piece_in : (old new : MemDiskState) (call : ℕ) → Remembers old new → call < old.calls
    → piece_in new call ≡ piece_in old call
Remembers-piece_in old new call remembers earlier = ap piece_of (remembers.steps call earlier)

-- a call of before has the images that it had
pub Remembers-image_in : (old new : MemDiskState) (call kept : ℕ) → Remembers old new → call < old.calls
    → image_in new call kept ≡ image_in old call kept
Remembers-image_in old new call kept remembers earlier =
    ap (λ (step : Option Step). with_front step kept (as_began new call).file) (remembers.steps call earlier)
    ∙ ap (λ (past : Past). with_front (step_in old.steps call) kept past.file) (remembers.before call earlier)
