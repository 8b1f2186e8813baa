-- What the calls of a disk do to its file, and what a crash may leave of it.
use Rattle.std.specs.Prelude.{◌≡◌, ◌⊎◌, ◌↔◌, ℕ, ◌+◌, ◌-◌, ◌≤◌, min, max, List, ◌++◌, length, take, drop, ⊤, Option}
use Rattle.std.specs.Prelude.{None, Some, IsTrue, IsSome, IfSome}
use Rattle.outside.specs.States.{DiskState}

-- a write may begin here: not past the end of the file, where that is told
abbrev pub IsWithin : Option (List ℕ) → ℕ → Type 0
IsWithin content at = IfSome content (λ file. at ≤ length file)

-- the answer is the length of the file
abbrev pub IsLengthOf : Option (List ℕ) → ℕ → Type 0
IsLengthOf content n = IfSome content (λ file. n ≡ length file)

-- n bytes of the file from `at` on fill the front of the buffer, fewer than it holds only at the file's end
abbrev pub ReadsAt : Option (List ℕ) → ℕ → List ℕ → ℕ → Type 0
ReadsAt None at buf n = ⊤
ReadsAt (Some file) at buf n = (n ≡ min (length buf) (length file - at)) × (take n buf ≡ take n (drop at file))

-- the file with these bytes from `at` on
abbrev pub patched : List ℕ → ℕ → List ℕ → List ℕ
patched file at bytes = take at file ++ bytes ++ drop (at + length bytes) file

-- the file has these bytes from `at` on, and is otherwise as it was
abbrev pub WritesAt : Option (List ℕ) → Option (List ℕ) → ℕ → List ℕ → Type 0
WritesAt None new at bytes = new ≡ None
WritesAt (Some file) new at bytes = new ≡ Some (patched file at bytes)

-- Any bytes in the range of n bytes from `at` on and past the old end, which may have moved as far as the range
-- reaches. All else is as it was. A list stands for bytes; numbers above 255 are not left out, so what is said of every
-- image is said of more than there are.
pub record Torn (at n : ℕ) (old new : List ℕ) : Type 0 where
  pub before : take (min at (length old)) new ≡ take at old
  pub after : drop (at + n) new ≡ drop (at + n) old
  pub no_shorter : length old ≤ length new
  pub no_longer : length new ≤ max (length old) (at + n)

-- the file was torn in this range
abbrev pub TearsAt : Option (List ℕ) → Option (List ℕ) → ℕ → ℕ → Type 0
TearsAt None new at n = new ≡ None
TearsAt (Some file) new at n = (torn : List ℕ) × Torn at n file torn × (new ≡ Some torn)

-- nothing is pending: a crash leaves what a read gives, where that is told, and nothing else
abbrev pub Synced : Option (List ℕ) → (List ℕ → Type 0) → Type 0
Synced content may_leave = IfSome content (λ file. (image : List ℕ) → may_leave image ↔ (image ≡ file))

-- each new image is an old one after a step
abbrev pub Follows : (List ℕ → List ℕ → Type 0) → (List ℕ → Type 0) → (List ℕ → Type 0) → Type 0
Follows step old new = (image : List ℕ) → new image → (from : List ℕ) × old from × step from image

-- What a disk tells of its file is as before: what a read gives, the images that a crash may leave now, and those of
-- each moment up to this one.
pub record Looks (old new : DiskState) : Type 0 where
  pub content : new.content ≡ old.content
  pub images : IsTrue old.tells_images → (image : List ℕ) → new.may_leave image ↔ old.may_leave image
  pub past : IsTrue old.tells_images → (t : ℕ) (image : List ℕ) → t ≤ old.moment
      → new.left_since t image ↔ old.left_since t image

-- Time goes on: a crash since t might have left what it might have left before, or what it may leave now.
pub record Elapses (old new : DiskState) : Type 0 where
  pub later : old.moment ≤ new.moment
  pub nothing_else : (t : ℕ) (image : List ℕ) → t ≤ old.moment
      → new.left_since t image → old.left_since t image ⊎ new.may_leave image
  pub keeps : (t : ℕ) (image : List ℕ) → t ≤ old.moment → old.left_since t image → new.left_since t image

-- What every call leaves: whether the disk tells its images and whether they keep the rules; and if they do, time
-- goes on.
pub record GoesOn (old new : DiskState) : Type 0 where
  pub telling : new.tells_images ≡ old.tells_images
  pub rules : new.keeps_rules ≡ old.keeps_rules
  pub time : IsTrue old.keeps_rules → Elapses old new

-- What a disk tells fits together. One whose images keep the rules tells them, and its content, which is always one of
-- the images that a crash may leave. This moment is one of those since an earlier one, and since this one there is no
-- other. What was left since a moment was left since each earlier one.
pub record IsConsistent (disk : DiskState) : Type 0 where
  pub tells : IsTrue disk.keeps_rules → IsTrue disk.tells_images
  pub tells_content : IsTrue disk.keeps_rules → IsSome disk.content
  pub may_stay : IsTrue disk.keeps_rules → IfSome disk.content disk.may_leave
  pub counts_now : IsTrue disk.keeps_rules → (t : ℕ) (image : List ℕ) → t ≤ disk.moment
      → disk.may_leave image → disk.left_since t image
  pub only_now : IsTrue disk.keeps_rules → (image : List ℕ)
      → disk.left_since disk.moment image → disk.may_leave image
  pub since_earlier : IsTrue disk.keeps_rules → (t later : ℕ) (image : List ℕ) → t ≤ later → later ≤ disk.moment
      → disk.left_since later image → disk.left_since t image
