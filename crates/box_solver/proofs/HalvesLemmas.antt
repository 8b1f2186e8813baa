-- The halves of a box of the search are boxes of the search.
use Rattle.std.proofs.Common.{◌≡◌, ◌≢◌, ⊎_elim, ℕ, ◌+◌, ◌^◌, ◌<◌, ◌≤◌, ℤ, Bool, true, false, cond, ◌&&◌, Option, Some}
use Rattle.std.proofs.Common.{None, List}
use Rattle.std.proofs.Common.{[], ◌∷◌, ◌++◌, length, map, get_or, unsigned_abs, nat_le, nat_lt, eqb, refl, ap, sym, ◌∙◌}
use Rattle.std.proofs.Common.{subst, arith}
use Rattle.std.specs.List.{All, AllPairs, list_any}
use Rattle.std.specs.Option.{option_map_or}
use Rattle.std.proofs.lemmas.Bool.{and_from, lt-ltb, le-leb, cases_lt}
use Rattle.std.proofs.lemmas.Bool.Decides.{Decides-eqb}
use Rattle.std.proofs.lemmas.List.{get_or-map, length-map, length-append}
use Rattle.std.proofs.lemmas.List.Folds.{Any-from_list_any}
use Rattle.std.proofs.lemmas.List.Elements.{All-nil, All-cons, All-append}
use Rattle.std.proofs.lemmas.List.Quantifiers.{all_pairs_push}
use Rattle.std.proofs.lemmas.Map.Made.{IsDistinct-from_AllPairs}
use Rattle.std.proofs.lemmas.Map.Steps.{length-le_from_distinct_below}
use Rattle.std.proofs.lemmas.Option.{slice_get_past}
use Rattle.lin_model.specs.KeyAtom.{PlainKeyAtom}
use Rattle.refutation.specs.declared.node.Node.{Node}
use Rattle.refutation.specs.declared.node.Node.TheVariants.{Split, NeSplit, Combo, Fixed, Empty, Left}
use Rattle.refutation.specs.declared.side.Side.{Side}
use Rattle.refutation.specs.Box.{PlainBox, is_ne, left_half, right_half, on_side}
use Rattle.refutation.specs.Laws.{AreProperHalves, CutsLeaveProperHalves}
use Rattle.refutation.specs.Reading.{treated, names_ne}
use Rattle.box_solver.specs.Nodes.{halves}
use Rattle.box_solver.specs.Progress.{IsSearchBox}
use Rattle.box_solver.specs.Steps.{SplitsFairly}

-- ---- the halves of a cut

pub left-fits : (key : List PlainKeyAtom) (box : PlainBox) (v : ℕ) (cut : ℤ) → AreProperHalves box.bounds v cut
    → IsSearchBox key box → IsSearchBox key (left_half box v cut)
left-fits key box v cut proper s = record {
  boxed = proper.left_boxed key s.boxed;
  short = proper.left_short s.short;
  ne_sides = s.ne_sides;
  apart = s.apart;
}

pub right-fits : (key : List PlainKeyAtom) (box : PlainBox) (v : ℕ) (cut : ℤ) → AreProperHalves box.bounds v cut
    → IsSearchBox key box → IsSearchBox key (right_half box v cut)
right-fits key box v cut proper s = record {
  boxed = proper.right_boxed key s.boxed;
  short = proper.right_short s.short;
  ne_sides = s.ne_sides;
  apart = s.apart;
}

-- ---- the two sides of an atom

pub on_side-fits : (key : List PlainKeyAtom) (box : PlainBox) (i : ℕ) (upper : Bool) → names_ne key i ≡ true
    → All (λ side. side.atom ≢ i) box.sides → IsSearchBox key box → IsSearchBox key (on_side box i upper)
on_side-fits key box i upper of_key fresh s =
    let side : Side = record { atom = i; upper = upper } in
    record {
      boxed = s.boxed;
      short = s.short;
      ne_sides = All-append (λ (t : Side). names_ne key t.atom ≡ true) box.sides (side ∷ []) s.ne_sides
          (All-cons (λ (t : Side). names_ne key t.atom ≡ true) side [] of_key
          (All-nil (λ (t : Side). names_ne key t.atom ≡ true)));
      apart = all_pairs_push (λ (t u : Side). t.atom ≢ u.atom) box.sides side s.apart (λ k d lt. fresh k d lt);
    }

-- ---- either

-- both boxes that a fair split leaves are boxes of the search
pub halves-fit : CutsLeaveProperHalves → (key : List PlainKeyAtom) (box : PlainBox) (node : Node)
    → SplitsFairly key box node → IsSearchBox key box → All (IsSearchBox key) (halves node box)
halves-fit leave key box (Split v cut) f s =
    let proper = leave box.bounds v f.lo f.hi cut f.between in
    All-cons (IsSearchBox key) (left_half box v cut) (right_half box v cut ∷ []) (left-fits key box v cut proper s)
    (All-cons (IsSearchBox key) (right_half box v cut) [] (right-fits key box v cut proper s)
    (All-nil (IsSearchBox key)))
halves-fit leave key box (NeSplit i) f s =
    All-cons (IsSearchBox key) (on_side box i false) (on_side box i true ∷ [])
    (on_side-fits key box i false f.of_key f.fair s)
    (All-cons (IsSearchBox key) (on_side box i true) [] (on_side-fits key box i true f.of_key f.fair s)
    (All-nil (IsSearchBox key)))
halves-fit leave key box (Combo count) f s = absurd f
halves-fit leave key box (Fixed i) f s = absurd f
halves-fit leave key box Empty f s = absurd f
halves-fit leave key box Left f s = absurd f

-- and they take its place
lawful : (v n m : ℕ) → v < 64 → n ≤ m → (nat_lt v 64 && nat_le n m) ≡ true
lawful v n m f g = and_from (nat_lt v 64) (nat_le n m) (lt-ltb v 64 f) (le-leb n m g)

pub split-treats : CutsLeaveProperHalves → (key : List PlainKeyAtom) (box : PlainBox) (node : Node)
    → SplitsFairly key box node → IsSearchBox key box
    → treated true key box node [] ≡ Some (record { boxes = halves node box; terms = [] })
unfolding treated
split-treats leave key box (Split v cut) f s =
    let proper = leave box.bounds v f.lo f.hi cut f.between in
    ap (λ (b : Bool). cond b (Some (record { boxes = left_half box v cut ∷ right_half box v cut ∷ []; terms = [] }))
    None) (lawful v (unsigned_abs cut) (2 ^ 32) f.between.below (proper.short_cut s.short))
split-treats leave key box (NeSplit i) f s =
    ap (λ (b : Bool). cond b (Some (record { boxes = on_side box i false ∷ on_side box i true ∷ []; terms = [] })) None)
    f.of_key
split-treats leave key box (Combo count) f s = absurd f
split-treats leave key box (Fixed i) f s = absurd f
split-treats leave key box Empty f s = absurd f
split-treats leave key box Left f s = absurd f

-- ---- how many sides a box has

names-below : (key : List PlainKeyAtom) (i : ℕ) → names_ne key i ≡ true → i < length key
names-below key i h =
    ⊎_elim (λ lt. lt) (λ le. let none = ap (λ (o : Option PlainKeyAtom). option_map_or is_ne o false)
    (slice_get_past key i le) in absurd (cc)) (cases_lt i (length key))

-- the atoms of a box's sides
abbrev atoms_of : List Side → List ℕ
atoms_of sides = map (λ (side : Side). side.atom) sides

atoms-at : (sides : List Side) (k d : ℕ) → k < length sides
    → get_or (atoms_of sides) k d ≡ (get_or sides k (record { atom = d; upper = false })).atom
atoms-at sides k d lt = get_or-map (λ (side : Side). side.atom) sides k (record { atom = d; upper = false }) d lt

-- no two sides are by one atom, so there are no more than atoms
pub sides-few : (key : List PlainKeyAtom) (box : PlainBox) → IsSearchBox key box → length box.sides ≤ length key
sides-few key box s =
    let same = length-map box.sides (λ (side : Side). side.atom) in
    omega (
      arith,
      same,
      length-le_from_distinct_below (atoms_of box.sides) (length key)
          (IsDistinct-from_AllPairs Decides-eqb (atoms_of box.sides) apart) below,
    )
  where
    apart : AllPairs (λ x y. x ≢ y) (atoms_of box.sides)
    apart i j d less lt =
        let within : j < length box.sides = omega (arith, lt, length-map box.sides (λ (side : Side). side.atom)) in
        let first = atoms-at box.sides i d (omega (arith, less, within)) in
        let second = atoms-at box.sides j d within in
        λ equal. s.apart i j (record { atom = d; upper = false }) less within (sym first ∙ equal ∙ second)

    below : (q : ℕ) → list_any (eqb q) (atoms_of box.sides) ≡ true → q < length key
    below q h =
        let at = Any-from_list_any (eqb q) (atoms_of box.sides) h in
        let side : Side = record { atom = at.1; upper = false } in
        let within : at.0 < length box.sides = omega (
          arith,
          at.2,
          length-map box.sides (λ (t : Side). t.atom),
        ) in
        let is : (get_or box.sides at.0 side).atom ≡ q = sym (atoms-at box.sides at.0 at.1 within) ∙ at.3
        ∙ sym ((Decides-eqb q at.1).0 at.4) in
        names-below key q (subst (λ n. names_ne key n ≡ true) is (s.ne_sides at.0 side within))

-- and fewer where another atom splits it
pub sides-fewer : (key : List PlainKeyAtom) (box : PlainBox) (i : ℕ) → SplitsFairly key box (NeSplit i)
    → IsSearchBox key box → (i < length key) × (length box.sides < length key)
sides-fewer key box i f s =
    let more = sides-few key (on_side box i false) (on_side-fits key box i false f.of_key f.fair s) in (
      names-below key i f.of_key,
      omega (arith, more, length-append box.sides (record { atom = i; upper = false } ∷ [])),
    )
