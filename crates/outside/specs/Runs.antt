-- Runs of calls on a disk: what a crash at any moment of one might have left, and what is as before where the calls only
-- looked.
use Rattle.std.specs.Prelude.{◌≡◌, ◌⊎◌, ◌↔◌, ℕ, ◌≤◌, List, IsTrue}
use Rattle.outside.specs.States.{DiskState}
use Rattle.outside.specs.Crash.{Synced, Torn}

-- the disk keeps the rules, and nothing is pending: a crash leaves what a read gives
pub record IsSettled (disk : DiskState) : Type 0 where
  pub rules : IsTrue disk.keeps_rules
  pub synced : Synced disk.content disk.may_leave

-- Between old and new a disk that keeps the rules went through moments at each of which a crash leaves an image that
-- has P. Of a crash since an earlier moment this says that it leaves what it might have left before, or such an image.
pub record LeavesOnly (old new : DiskState) (P : List ℕ → Type 0) : Type 0 where
  pub rules : IsTrue new.keeps_rules
  pub later : old.moment ≤ new.moment
  pub each : (image : List ℕ) → new.left_since old.moment image → P image
  pub earlier : (t : ℕ) (image : List ℕ) → t ≤ old.moment
      → new.left_since t image → old.left_since t image ⊎ P image
  pub keeps : (t : ℕ) (image : List ℕ) → t ≤ old.moment → old.left_since t image → new.left_since t image

-- a write of n bytes from `at` on may make this image of one that a crash might have left before
abbrev pub IsTornFrom : DiskState → ℕ → ℕ → List ℕ → Type 0
IsTornFrom old at n image = (from : List ℕ) × old.may_leave from × Torn at n from image

-- no image has come since old
pub record HasSamePast (old new : DiskState) : Type 0 where
  pub later : old.moment ≤ new.moment
  pub since : (t : ℕ) (image : List ℕ) → t ≤ old.moment → new.left_since t image ↔ old.left_since t image

-- The calls between old and new only looked at the file, as `len` and `read_at` do.
pub record OnlyLooks (old new : DiskState) : Type 0 where
  pub name : new.name ≡ old.name
  pub content : new.content ≡ old.content
  pub telling : new.tells_images ≡ old.tells_images
  pub rules : new.keeps_rules ≡ old.keeps_rules
  pub images : IsTrue old.tells_images → (image : List ℕ) → new.may_leave image ↔ old.may_leave image
  pub past : IsTrue old.keeps_rules → HasSamePast old new
  pub faults : old.faults ≤ new.faults
