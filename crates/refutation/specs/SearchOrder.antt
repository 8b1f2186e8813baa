-- The order of the search: the node that a box asks for.
use Rattle.std.specs.Prelude.{ℕ, suc, ℤ, pos, ◌+ℤ◌, ◌-ℤ◌, Bool, if◌then◌else◌, ◌==◌, int_lt, Option, Some, None, List}
use Rattle.std.specs.Prelude.{[], ◌∷◌, map}
use Rattle.std.specs.List.{list_any, range_with_len}
use Rattle.std.specs.Option.{unwrap_or, option_map, option_map_or}
use Rattle.lin_model.specs.declared.form.FormTerm.{FormTerm}
use Rattle.lin_model.specs.Form.{form_value}
use Rattle.lin_model.specs.KeyAtom.{PlainKeyAtom}
use Rattle.lin_model.specs.Key.{key_width}
use Rattle.lin_model.specs.Test.{passes}
use Rattle.lin_model.specs.Quotients.{floor_div}
use Rattle.refutation.specs.declared.node.Node.{Node}
use Rattle.refutation.specs.declared.node.Node.TheVariants.{Split, NeSplit}
use Rattle.refutation.specs.Bounds.{PlainBounds, lower_of, upper_of}
use Rattle.refutation.specs.Box.{PlainBox, is_ne}
use Rattle.refutation.specs.Cut.{PlainCut, cut}

-- the lower side of a variable; the search asks only where it is there
abbrev pub lower_or_zero : PlainBounds → ℕ → ℤ
lower_or_zero b v = unwrap_or (lower_of b v) (pos 0)

-- the upper side, likewise
abbrev pub upper_or_zero : PlainBounds → ℕ → ℤ
upper_or_zero b v = unwrap_or (upper_of b v) (pos 0)

-- the point with every variable of the key at its lower side
unfoldable pub lowest_corner : List PlainKeyAtom → PlainBounds → List ℤ
lowest_corner key b = map (lower_or_zero b) (range_with_len 0 (key_width key))

-- an atom and its number in the key
pub record Numbered : Type 0 where
  pub number : ℕ
  pub atom : PlainKeyAtom

-- the first of the atoms, numbered from i, that the point fails
abbrev pub first_failing : ℕ → List PlainKeyAtom → List ℤ → Option Numbered
first_failing i [] point = None
first_failing i (a ∷ atoms) point =
    if passes a.op a.constant (form_value a.form point) then first_failing (suc i) atoms point else Some
    (record { number = i; atom = a })

-- a split above the box is by this atom
abbrev pub was_split : PlainBox → ℕ → Bool
was_split box i = list_any (λ side. side.atom == i) box.sides

-- the cut of a variable, where it is a lower bound: the half below it is closed by the atom
abbrev pub raising_split : ℕ → Option PlainCut → Option Node
raising_split v None = None
raising_split v (Some c) = if c.upper then None else Some (Split v (c.value -ℤ pos 1))

-- the cut of a variable, where it is an upper bound: the half above it is closed by the atom
abbrev pub lowering_split : ℕ → Option PlainCut → Option Node
lowering_split v None = None
lowering_split v (Some c) = if c.upper then Some (Split v c.value) else None

-- the first node that one of the terms gives
abbrev pub first_node : (FormTerm → Option Node) → List FormTerm → Option Node
first_node of [] = None
first_node of (t ∷ ts) = option_map_or Some (of t) (first_node of ts)

-- the split of the first variable whose lower side the atom raises
abbrev pub first_raising : PlainBounds → PlainKeyAtom → Option Node
first_raising b a = first_node (λ t. raising_split t.var (cut b a t.var)) a.form

-- the split of the first variable whose upper side the atom lowers
abbrev pub first_lowering : PlainBounds → PlainKeyAtom → Option Node
first_lowering b a = first_node (λ t. lowering_split t.var (cut b a t.var)) a.form

-- how far apart the sides of a variable are
abbrev pub spread : PlainBounds → ℕ → ℤ
spread b v = upper_or_zero b v -ℤ lower_or_zero b v

-- the widest of the variable v and those of the terms, the first among equals
abbrev pub widest_from : PlainBounds → ℕ → List FormTerm → ℕ
widest_from b v [] = v
widest_from b v (t ∷ ts) = widest_from b (if int_lt (spread b v) (spread b t.var) then t.var else v) ts

-- the widest variable of the terms, the first among equals
abbrev pub widest : PlainBounds → List FormTerm → ℕ
widest b [] = 0
widest b (t ∷ ts) = widest_from b t.var ts

-- the middle of the two sides, rounded down
abbrev pub middle : PlainBounds → ℕ → ℤ
middle b v = floor_div (lower_or_zero b v +ℤ upper_or_zero b v) 2

-- the split in half of the form's widest variable
abbrev pub split_in_half : PlainBounds → List FormTerm → Node
split_in_half b form = Split (widest b form) (middle b (widest b form))

-- the first cut that raises a lower side, else the first that lowers an upper side, else the split in half
abbrev pub split_by : PlainBounds → PlainKeyAtom → Node
split_by b a =
    option_map_or (λ n. n) (first_raising b a) (option_map_or (λ n. n) (first_lowering b a) (split_in_half b a.form))

-- the node for a box whose lowest corner fails this atom first
abbrev pub node_for : PlainBox → Numbered → Node
node_for box f =
    if is_ne f.atom then (if was_split box f.number then split_in_half box.bounds f.atom.form else NeSplit f.number)
    else split_by box.bounds f.atom

-- the node that the box asks for, None where its lowest corner satisfies the key
unfoldable pub step : List PlainKeyAtom → PlainBox → Option Node
step key box = option_map (node_for box) (first_failing 0 key (lowest_corner key box.bounds))
