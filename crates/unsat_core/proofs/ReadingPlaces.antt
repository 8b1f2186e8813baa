-- The atoms of a key and the sides of a box by the numbers among the chosen atoms.
use Rattle.std.proofs.Common.{◌≡◌, ℕ, zero, suc, ◌<◌, Bool, true, false, cond, List, [], ◌∷◌, length, take}
use Rattle.std.proofs.Common.{slice_get, option_map, option_and_then, All, map, refl, ap, ◌∙◌, arith}
use Rattle.std.proofs.lemmas.Bool.{eq-eqb}
use Rattle.std.proofs.lemmas.List.Sums.{sum_by-cons}
use Rattle.std.proofs.lemmas.List.Elements.{All-head, All-tail}
use Rattle.lin_model.specs.KeyAtom.{PlainKeyAtom}
use Rattle.refutation.specs.declared.leaf.On.{On}
use Rattle.refutation.specs.declared.leaf.On.TheVariants.{Atom as OnAtom, Side as OnSide}
use Rattle.refutation.specs.declared.side.Side.{Side}
use Rattle.refutation.specs.Box.{PlainBox, beside, side_atom}
use Rattle.refutation.specs.Chosen.{chosen}
use Rattle.refutation.specs.Leaf.{named}
use Rattle.unsat_core.specs.Cores.{IsChosen}
use Rattle.unsat_core.specs.Renumbered.{on_names, new_number, renumbered_on}

-- ---- what is kept

-- the atom of this number is chosen, or the key has none
abbrev pub IsKept : List PlainKeyAtom → List Bool → ℕ → Type 0
IsKept key choice i = i < length key → IsChosen choice i

-- so is each that the test speaks of
abbrev pub AreKept : List PlainKeyAtom → List Bool → (ℕ → Bool) → Type 0
AreKept key choice test = (i : ℕ) → test i ≡ true → IsKept key choice i

-- and the atom of each side
abbrev pub HasKeptSides : List PlainKeyAtom → List Bool → List Side → Type 0
HasKeptSides key choice sides = All (λ side. IsKept key choice side.atom) sides

-- ---- new numbers

-- a side, by the new number of its atom
abbrev pub renumbered_side : List Bool → Side → Side
renumbered_side choice side = record { atom = new_number choice side.atom; upper = side.upper }

-- a box, by the new numbers of its sides' atoms
abbrev pub renumbered_box : List Bool → PlainBox → PlainBox
renumbered_box choice box = record { bounds = box.bounds; sides = map (renumbered_side choice) box.sides }

-- the first number stays
new_number-first : (choice : List Bool) → new_number choice zero ≡ zero
unfolding new_number
new_number-first choice = refl

-- and a later one counts what stands before
new_number-more : (choice : List Bool) (i : ℕ) → new_number (true ∷ choice) (suc i) ≡ suc (new_number choice i)
unfolding new_number
new_number-more choice i = omega (arith, sum_by-cons (λ (c : Bool). cond c 1 0) true (take i choice))

new_number-same : (choice : List Bool) (i : ℕ) → new_number (false ∷ choice) (suc i) ≡ new_number choice i
unfolding new_number
new_number-same choice i = omega (arith, sum_by-cons (λ (c : Bool). cond c 1 0) false (take i choice))

-- ---- what stands there

-- a kept atom stands under its new number among the chosen ones
pub chosen-at : (key : List PlainKeyAtom) (choice : List Bool) (i : ℕ) → length choice ≡ length key
    → IsKept key choice i → slice_get (chosen key choice) (new_number choice i) ≡ slice_get key i
chosen-at [] choice i same kept = refl
chosen-at (a ∷ key) [] i same kept = absurd (omega (arith, same))
chosen-at (a ∷ key) (true ∷ choice) zero same kept =
    ap (slice_get (a ∷ chosen key choice)) (new_number-first (true ∷ choice))
chosen-at (a ∷ key) (false ∷ choice) zero same kept =
    let is : false ≡ true = kept (omega arith) in absurd (cc)
chosen-at (a ∷ key) (true ∷ choice) (suc i) same kept =
    ap (slice_get (a ∷ chosen key choice)) (new_number-more choice i)
    ∙ chosen-at key choice i (omega (arith, same)) (λ lt. kept (omega (arith, lt)))
chosen-at (a ∷ key) (false ∷ choice) (suc i) same kept =
    ap (slice_get (chosen key choice)) (new_number-same choice i)
    ∙ chosen-at key choice i (omega (arith, same)) (λ lt. kept (omega (arith, lt)))

module _ (key : List PlainKeyAtom) (choice : List Bool) (same : length choice ≡ length key) where
  -- a side says the same
  side-same : (side : Side) → IsKept key choice side.atom
      → side_atom (chosen key choice) (renumbered_side choice side) ≡ side_atom key side
  side-same side kept = ap (option_map (λ a. beside a side.upper)) (chosen-at key choice side.atom same kept)

  -- the side of this number, where there is one
  sides-same : (sides : List Side) (k : ℕ) → HasKeptSides key choice sides
      → option_and_then (side_atom (chosen key choice)) (slice_get (map (renumbered_side choice) sides) k)
      ≡ option_and_then (side_atom key) (slice_get sides k)
  sides-same [] k kept = refl
  sides-same (side ∷ sides) zero kept =
      side-same side (All-head (λ s. IsKept key choice s.atom) side sides kept)
  sides-same (side ∷ sides) (suc k) kept =
      sides-same sides k (All-tail (λ s. IsKept key choice s.atom) side sides kept)

  -- what a term names is the same
  pub named-same : (sides : List Side) (on : On) → AreKept key choice (λ i. on_names i on)
      → HasKeptSides key choice sides → named (chosen key choice) (map (renumbered_side choice) sides)
      (renumbered_on choice on) ≡ named key sides on
  named-same sides (OnAtom i) kept by_sides = chosen-at key choice i same (kept i (eq-eqb i i refl))
  named-same sides (OnSide k) kept by_sides = sides-same sides k by_sides
