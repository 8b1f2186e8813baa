-- Places of a tree of keys.
use Rattle.std.specs.Prelude.{◌≡◌, ◌≢◌, ℕ, ◌<◌, Option, Some, None, List, [], ◌∷◌, ◌++◌, length, take, drop, slice_index_or}
use Rattle.std.specs.Int.RustNames.{bit_or}
use Rattle.key_tree.specs.declared.kid.Kid.{Kid}
use Rattle.key_tree.specs.Prints.{IsWithin}

-- a place: the branches that begin there, in the order of their atoms; beside each a mask of all that its atom and those
-- behind the place that it leads to may imply; the first number that was held there, if any; and a mask of all that the
-- atoms behind it may imply
pub record PlainPlace : Type 0 where
  pub kids : List Kid
  pub masks : List ℕ
  pub number : Option ℕ
  pub below : ℕ

-- what stands for a place where there is none
abbrev pub no_place : PlainPlace
no_place = record { kids = []; masks = []; number = None; below = 0 }

-- the place with a kid put at this position and this mask beside it
abbrev pub with_kid : ℕ → Kid → ℕ → PlainPlace → PlainPlace
with_kid at kid mask place =
    record {
      kids = take at place.kids ++ kid ∷ drop at place.kids;
      masks = take at place.masks ++ mask ∷ drop at place.masks;
      number = place.number;
      below = place.below;
    }

-- the first number, if there is one, or else this
abbrev pub first_number : Option ℕ → ℕ → Option ℕ
first_number None number = Some number
first_number (Some first) number = Some first

-- the place where this number came to be held
abbrev pub with_number : ℕ → PlainPlace → PlainPlace
with_number number place =
    record { kids = place.kids; masks = place.masks; number = first_number place.number number; below = place.below }

-- no two of the kids lead to one place
abbrev pub AreApart : List Kid → Type 0
AreApart kids = (j k : ℕ) (c d : Kid) → j < k → k < length kids
    → (slice_index_or kids j c).place ≢ (slice_index_or kids k d).place

-- Among the first so many kids, the masks of those that lead to this place got these bits. No mask lost a bit.
pub record AreKidsWidened (kids : List Kid) (place behind : ℕ) (olds news : List ℕ) (count : ℕ) : Type 0 where
  pub counts : length news ≡ length olds
  pub grow : (k m : ℕ) → IsWithin (slice_index_or olds k m) (slice_index_or news k m)
  pub have : (k : ℕ) (d : Kid) (m : ℕ) → k < count → (slice_index_or kids k d).place ≡ place
      → IsWithin behind (slice_index_or news k m)

-- the place with bits added to its mask, and others to those of its kids that lead to this one
pub record IsWidened (kid behind mask : ℕ) (old new : PlainPlace) : Type 0 where
  pub kids : new.kids ≡ old.kids
  pub number : new.number ≡ old.number
  pub below : new.below ≡ bit_or old.below mask
  pub masks : AreKidsWidened old.kids kid behind old.masks new.masks (length old.kids)

-- places of which one was widened
pub record AreWidened (place kid behind mask : ℕ) (olds news : List PlainPlace) : Type 0 where
  pub places : length news ≡ length olds
  pub here : IsWidened kid behind mask (slice_index_or olds place no_place) (slice_index_or news place no_place)
  pub elsewhere : (p : ℕ) → p ≢ place → slice_index_or news p no_place ≡ slice_index_or olds p no_place
