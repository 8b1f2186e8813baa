-- Boxes: bounds, and the sides that splits by atoms `form != c` added on the way from the root.
use Rattle.std.specs.Prelude.{ℕ, ℤ, pos, ◌+ℤ◌, ◌-ℤ◌, Bool, true, false, Option, IfSome, List, [], ◌∷◌, ◌++◌, slice_get}
use Rattle.std.specs.List.{All}
use Rattle.std.specs.Option.{option_map}
use Rattle.lin_model.specs.declared.op.Op.{Op}
use Rattle.lin_model.specs.declared.op.Op.TheVariants.{Le, Ge, Eq, Ne}
use Rattle.lin_model.specs.KeyAtom.{PlainKeyAtom, KeyAtomHolds}
use Rattle.refutation.specs.declared.side.Side.{Side}
use Rattle.refutation.specs.Bounds.{PlainBounds, key_bounds, with_lower, with_upper, IsWithin}

-- a box, with its sides in order from the root
pub record PlainBox : Type 0 where
  pub bounds : PlainBounds
  pub sides : List Side

-- the box that a key begins with
abbrev pub root_box : List PlainKeyAtom → PlainBox
root_box key = record { bounds = key_bounds key; sides = [] }

-- the atom `form <= c - 1`, or `form >= c + 1`, beside `form != c`
abbrev pub beside : PlainKeyAtom → Bool → PlainKeyAtom
beside a false = record { form = a.form; op = Le; constant = a.constant -ℤ pos 1 }
beside a true = record { form = a.form; op = Ge; constant = a.constant +ℤ pos 1 }

-- what a side says, where its atom exists
abbrev pub side_atom : List PlainKeyAtom → Side → Option PlainKeyAtom
side_atom key side = option_map (λ a. beside a side.upper) (slice_get key side.atom)

-- the point lies in the box: within its bounds, and on each of its sides
pub record IsInBox (key : List PlainKeyAtom) (box : PlainBox) (point : List ℤ) : Type 0 where
  pub within : IsWithin box.bounds point
  pub on_sides : All (λ side. IfSome (side_atom key side) (λ a. KeyAtomHolds a point)) box.sides

-- the op of an atom `form != c`
abbrev pub is_ne_op : Op → Bool
is_ne_op Le = false
is_ne_op Ge = false
is_ne_op Eq = false
is_ne_op Ne = true

-- the atom is one `form != c`
abbrev pub is_ne : PlainKeyAtom → Bool
is_ne a = is_ne_op a.op

-- ---- the two halves of a split

-- the half with the variable at most at the cut
abbrev pub left_half : PlainBox → ℕ → ℤ → PlainBox
left_half box v cut = record { bounds = with_upper box.bounds v cut; sides = box.sides }

-- the half with the variable above the cut
abbrev pub right_half : PlainBox → ℕ → ℤ → PlainBox
right_half box v cut = record { bounds = with_lower box.bounds v (cut +ℤ pos 1); sides = box.sides }

-- the half of a box on one side of an atom `form != c`
abbrev pub on_side : PlainBox → ℕ → Bool → PlainBox
on_side box i upper = record { bounds = box.bounds; sides = box.sides ++ record { atom = i; upper = upper } ∷ [] }
