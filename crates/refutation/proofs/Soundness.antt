-- A key that a tree refutes has no point.
use Rattle.std.proofs.Common.{◌≡◌, ℤ, true, false, ◌&&◌, Some, List, [], ◌∷◌, ◌++◌, length, take, drop, nat_le, ◌⊎◌}
use Rattle.std.proofs.Common.{inl, inr, ⊎_elim, ap, sym, ◌∙◌, subst}
use Rattle.std.proofs.lemmas.Bool.{and_parts}
use Rattle.lin_model.specs.KeyAtom.{PlainKeyAtom}
use Rattle.lin_model.specs.Key.{KeyHolds, IsKey}
use Rattle.lin_model.specs.Lists.{chosen}
use Rattle.refutation.specs.declared.leaf.LeafTerm.{LeafTerm}
use Rattle.refutation.specs.declared.node.Node.{Node}
use Rattle.refutation.specs.declared.node.Node.TheVariants.{Split, NeSplit, Combo, Fixed, Empty, Left}
use Rattle.refutation.specs.Box.{PlainBox, root_box, IsInBox, left_half, right_half, on_side}
use Rattle.refutation.specs.Leaf.{combo, fixed, empty, closes}
use Rattle.refutation.specs.Reading.{Treated, treated, is_split, names_ne, TreeReading, read_over, Refutes, HasNoPoint}
use Rattle.refutation.specs.ReadingFacts.{first_is_read}
use Rattle.refutation.proofs.Points.{root_box-has, split-covers, sides-cover}
use Rattle.refutation.proofs.ClosedBoxes.{AreNarrow, closes-none, IsKey-narrow}

-- one of the boxes has the point
SomeBox : List PlainKeyAtom → List ℤ → List PlainBox → Type 0
SomeBox key point [] = ⊥
SomeBox key point (box ∷ boxes) = IsInBox key box point ⊎ SomeBox key point boxes

SomeBox-front : (key : List PlainKeyAtom) (point : List ℤ) (xs ys : List PlainBox) → SomeBox key point xs
    → SomeBox key point (xs ++ ys)
unfolding SomeBox
SomeBox-front key point [] ys h = absurd h
SomeBox-front key point (x ∷ xs) ys h = ⊎_elim inl (λ rest. inr (SomeBox-front key point xs ys rest)) h

SomeBox-back : (key : List PlainKeyAtom) (point : List ℤ) (xs ys : List PlainBox) → SomeBox key point ys
    → SomeBox key point (xs ++ ys)
unfolding SomeBox
SomeBox-back key point [] ys h = h
SomeBox-back key point (x ∷ xs) ys h = inr (SomeBox-back key point xs ys h)

-- a point that satisfies the key is in one of the boxes that take the place of its box
treated-keeps : (key : List PlainKeyAtom) (box : PlainBox) (node : Node) (terms : List LeafTerm) (r : Treated)
    (point : List ℤ) → AreNarrow key → KeyHolds key point → IsInBox key box point
    → treated false key box node terms ≡ Some r → SomeBox key point r.boxes
unfolding treated SomeBox
treated-keeps key box (Split v cut) terms r point narrow holds h is =
    let two = chosen (is_split v cut) (record {
      boxes = left_half box v cut ∷ right_half box v cut ∷ [];
      terms = terms;
    }) r is in
    subst (λ (t : Treated). SomeBox key point t.boxes) two.1
    (⊎_elim inl (λ right. inr (inl right)) (split-covers key box v cut point h))
treated-keeps key box (NeSplit i) terms r point narrow holds h is =
    let two = chosen (names_ne key i) (record { boxes = on_side box i false ∷ on_side box i true ∷ []; terms = terms })
    r is in
    subst (λ (t : Treated). SomeBox key point t.boxes) two.1
    (⊎_elim inl (λ right. inr (inl right)) (sides-cover key box i point two.0 holds h))
treated-keeps key box (Combo count) terms r point narrow holds h is =
    let closed = chosen (nat_le count (length terms) && closes key box (combo (take count terms)))
    (record { boxes = []; terms = drop count terms }) r is in
    absurd (closes-none key box (combo (take count terms)) point narrow holds h
    (and_parts (nat_le count (length terms)) (closes key box (combo (take count terms))) closed.0).1)
treated-keeps key box (Fixed i) terms r point narrow holds h is =
    let closed = chosen (closes key box (fixed i)) (record { boxes = []; terms = terms }) r is in
    absurd (closes-none key box (fixed i) point narrow holds h closed.0)
treated-keeps key box Empty terms r point narrow holds h is =
    let closed = chosen (closes key box empty) (record { boxes = []; terms = terms }) r is in
    absurd (closes-none key box empty point narrow holds h closed.0)
treated-keeps key box Left terms r point narrow holds h is = absurd (cc)

-- where each node is read and no box is left, none of the boxes has a point that satisfies the key
reading-refutes : (key : List PlainKeyAtom) (nodes : List Node) (terms : List LeafTerm) (boxes : List PlainBox)
    (point : List ℤ)
    → AreNarrow key → KeyHolds key point → (read_over false key nodes terms boxes).rest ≡ []
    → (read_over false key nodes terms boxes).boxes ≡ [] → SomeBox key point boxes → ⊥
unfolding read_over SomeBox
reading-refutes key [] terms boxes point narrow holds no_rest no_boxes some = subst (SomeBox key point) no_boxes some
reading-refutes key (node ∷ nodes) terms [] point narrow holds no_rest no_boxes some = some
reading-refutes key (node ∷ nodes) terms (box ∷ boxes) point narrow holds no_rest no_boxes some =
    let on = first_is_read false key node nodes terms box boxes no_rest in
    let no_boxes' = ap (λ (r : TreeReading). r.boxes) (sym on.then_rest) ∙ no_boxes in
    reading-refutes key nodes on.after.terms (on.after.boxes ++ boxes) point narrow holds on.rest_read no_boxes'
    (⊎_elim (λ first. SomeBox-front key point on.after.boxes boxes
    (treated-keeps key box node terms on.after point narrow holds first on.is))
    (λ rest. SomeBox-back key point on.after.boxes boxes rest) some)

-- the theorem: a refuted key has no point
pub Refutes-no_point : (key : List PlainKeyAtom) (nodes : List Node) (terms : List LeafTerm)
    → IsKey key → Refutes key nodes terms → HasNoPoint key
unfolding SomeBox
Refutes-no_point key nodes terms is refutes point holds =
    reading-refutes key nodes terms (root_box key ∷ []) point (IsKey-narrow key is) holds refutes.no_rest
    refutes.no_boxes (inl (root_box-has key point holds))
