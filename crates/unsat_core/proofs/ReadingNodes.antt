-- One node by the new numbers, over the chosen atoms: it leaves the same of a box.
use Rattle.std.proofs.Common.{◌≡◌, ℕ, Bool, true, false, cond, ◌&&◌, nat_le, Option, Some, None, IfSome, List, []}
use Rattle.std.proofs.Common.{◌∷◌, length, take, drop, map, All, refl, sym, ap, ◌∙◌, option_map}
use Rattle.std.specs.Option.{option_map_or}
use Rattle.std.proofs.lemmas.Bool.{eq-eqb}
use Rattle.std.proofs.lemmas.List.{length-map, map-append, take-map, drop-map}
use Rattle.std.proofs.lemmas.List.Elements.{All-nil, All-cons, All-append, All-take, All-drop}
use Rattle.lin_model.specs.KeyAtom.{PlainKeyAtom}
use Rattle.refutation.specs.declared.leaf.LeafTerm.{LeafTerm}
use Rattle.refutation.specs.declared.node.Node.{Node}
use Rattle.refutation.specs.declared.node.Node.TheVariants.{Split, NeSplit, Combo, Fixed, Empty, Left}
use Rattle.refutation.specs.declared.side.Side.{Side}
use Rattle.refutation.specs.Bounds.{is_empty}
use Rattle.refutation.specs.Box.{PlainBox, is_ne, left_half, right_half, on_side}
use Rattle.refutation.specs.Chosen.{chosen}
use Rattle.refutation.specs.Leaf.{combo_closes, fixed_closes}
use Rattle.refutation.specs.Reading.{Treated, treated, closed_by, is_split, names_ne}
use Rattle.unsat_core.specs.Renumbered.{node_names, new_number, renumbered_node, renumbered_term}
use Rattle.unsat_core.proofs.ReadingPlaces.{IsKept, AreKept, HasKeptSides, renumbered_side, renumbered_box, chosen-at}
use Rattle.unsat_core.proofs.ReadingLeaves.{IsKeptTerm, combo-same, fixed-same}

-- the node names kept atoms alone
abbrev pub IsKeptNode : List PlainKeyAtom → List Bool → Node → Type 0
IsKeptNode key choice node = AreKept key choice (λ i. node_names i node)

-- each side of the box is by a kept atom
abbrev pub IsKeptBox : List PlainKeyAtom → List Bool → PlainBox → Type 0
IsKeptBox key choice box = HasKeptSides key choice box.sides

-- what a node leaves, by the new numbers
abbrev pub renumbered_left : List Bool → Treated → Treated
renumbered_left choice r =
    record { boxes = map (renumbered_box choice) r.boxes; terms = map (renumbered_term choice) r.terms }

-- what a node leaves speaks of kept atoms alone
pub record LeavesKept (key : List PlainKeyAtom) (choice : List Bool) (r : Treated) : Type 0 where
  pub boxes : All (IsKeptBox key choice) r.boxes
  pub terms : All (IsKeptTerm key choice) r.terms

-- ---- what a node leaves is kept

-- what is left where a test holds
kept_where : (key : List PlainKeyAtom) (choice : List Bool) (test : Bool) (r : Treated) → LeavesKept key choice r
    → IfSome (cond test (Some r) None) (LeavesKept key choice)
kept_where key choice true r h = h
kept_where key choice false r h = tt

-- one side more
on_side-kept : (key : List PlainKeyAtom) (choice : List Bool) (box : PlainBox) (i : ℕ) (upper : Bool)
    → IsKept key choice i → IsKeptBox key choice box → IsKeptBox key choice (on_side box i upper)
on_side-kept key choice box i upper kept by_sides =
    All-append (λ (s : Side). IsKept key choice s.atom) box.sides (record { atom = i; upper = upper } ∷ []) by_sides
    (All-cons (λ (s : Side). IsKept key choice s.atom) (record { atom = i; upper = upper }) [] kept
    (All-nil (λ (s : Side). IsKept key choice s.atom)))

-- boxes and terms that a node leaves speak of kept atoms alone
pub treated-kept : (key : List PlainKeyAtom) (choice : List Bool) (box : PlainBox) (node : Node)
    (terms : List LeafTerm) → IsKeptNode key choice node
    → All (IsKeptTerm key choice) terms → IsKeptBox key choice box
    → IfSome (treated false key box node terms) (LeavesKept key choice)
unfolding treated
treated-kept key choice box (Split v cut) terms kept by_terms by_sides =
    kept_where key choice (is_split v cut)
    (record { boxes = left_half box v cut ∷ right_half box v cut ∷ []; terms = terms })
    (record {
      boxes = All-cons (IsKeptBox key choice) (left_half box v cut) (right_half box v cut ∷ []) by_sides
          (All-cons (IsKeptBox key choice) (right_half box v cut) [] by_sides (All-nil (IsKeptBox key choice)));
      terms = by_terms;
    })
treated-kept key choice box (NeSplit i) terms kept by_terms by_sides =
    kept_where key choice (names_ne key i)
    (record { boxes = on_side box i false ∷ on_side box i true ∷ []; terms = terms })
    (record {
      boxes = All-cons (IsKeptBox key choice) (on_side box i false) (on_side box i true ∷ [])
          (on_side-kept key choice box i false (kept i (eq-eqb i i refl)) by_sides)
          (All-cons (IsKeptBox key choice) (on_side box i true) []
          (on_side-kept key choice box i true (kept i (eq-eqb i i refl)) by_sides) (All-nil (IsKeptBox key choice)));
      terms = by_terms;
    })
treated-kept key choice box (Combo count) terms kept by_terms by_sides =
    kept_where key choice (nat_le count (length terms) && combo_closes key box (take count terms))
    (record { boxes = []; terms = drop count terms })
    (record {
      boxes = All-nil (IsKeptBox key choice);
      terms = All-drop (IsKeptTerm key choice) count terms by_terms;
    })
treated-kept key choice box (Fixed i) terms kept by_terms by_sides =
    kept_where key choice (fixed_closes key box.bounds i) (record { boxes = []; terms = terms })
    (record { boxes = All-nil (IsKeptBox key choice); terms = by_terms })
treated-kept key choice box Empty terms kept by_terms by_sides =
    kept_where key choice (is_empty box.bounds) (record { boxes = []; terms = terms })
    (record { boxes = All-nil (IsKeptBox key choice); terms = by_terms })
treated-kept key choice box Left terms kept by_terms by_sides = tt

-- ---- it is the same

-- what is left where a test holds, renumbered
left_where : (choice : List Bool) (test : Bool) (r : Treated)
    → cond test (Some (renumbered_left choice r)) None ≡ option_map (renumbered_left choice) (cond test (Some r) None)
left_where choice true r = refl
left_where choice false r = refl

-- one side more, by the new number
on_side-renumbered : (choice : List Bool) (box : PlainBox) (i : ℕ) (upper : Bool)
    → on_side (renumbered_box choice box) (new_number choice i) upper ≡ renumbered_box choice (on_side box i upper)
on_side-renumbered choice box i upper =
    ap (λ (sides : List Side). record { bounds = box.bounds; sides = sides })
    (sym (map-append (renumbered_side choice) box.sides (record { atom = i; upper = upper } ∷ [])))

module _ (key : List PlainKeyAtom) (choice : List Bool) (same : length choice ≡ length key) where
  names_ne-same : (i : ℕ) → IsKept key choice i → names_ne (chosen key choice) (new_number choice i) ≡ names_ne key i
  names_ne-same i kept =
      ap (λ (o : Option PlainKeyAtom). option_map_or is_ne o false) (chosen-at key choice i same kept)

  split_ne-same : (box : PlainBox) (i : ℕ) (terms : List LeafTerm) → IsKept key choice i
      → treated false (chosen key choice) (renumbered_box choice box) (NeSplit (new_number choice i))
      (map (renumbered_term choice) terms)
      ≡ option_map (renumbered_left choice) (treated false key box (NeSplit i) terms)
  unfolding treated
  split_ne-same box i terms kept =
      ap (λ (bs : List PlainBox). cond (names_ne (chosen key choice) (new_number choice i))
      (Some (record { boxes = bs; terms = map (renumbered_term choice) terms })) None)
      (ap (λ (b : PlainBox). b ∷ on_side (renumbered_box choice box) (new_number choice i) true ∷ [])
      (on_side-renumbered choice box i false)
      ∙ ap (λ (b : PlainBox). renumbered_box choice (on_side box i false) ∷ b ∷ [])
      (on_side-renumbered choice box i true))
      ∙ ap (λ (test : Bool). cond test (Some (renumbered_left choice
      (record { boxes = on_side box i false ∷ on_side box i true ∷ []; terms = terms }))) None) (names_ne-same i kept)
      ∙ left_where choice (names_ne key i)
      (record { boxes = on_side box i false ∷ on_side box i true ∷ []; terms = terms })

  combo_node-same : (box : PlainBox) (count : ℕ) (terms : List LeafTerm) → All (IsKeptTerm key choice) terms
      → IsKeptBox key choice box
      → treated false (chosen key choice) (renumbered_box choice box) (Combo count) (map (renumbered_term choice) terms)
      ≡ option_map (renumbered_left choice) (treated false key box (Combo count) terms)
  unfolding treated
  combo_node-same box count terms kept by_sides =
      ap (λ (n : ℕ). closed_by (nat_le count n && combo_closes (chosen key choice) (renumbered_box choice box)
      (take count (map (renumbered_term choice) terms))) (drop count (map (renumbered_term choice) terms)))
      (length-map terms (renumbered_term choice))
      ∙ ap (λ (ts : List LeafTerm). closed_by (nat_le count (length terms) && combo_closes (chosen key choice)
      (renumbered_box choice box) ts) (drop count (map (renumbered_term choice) terms)))
      (take-map (renumbered_term choice) count terms)
      ∙ ap (closed_by (nat_le count (length terms) && combo_closes (chosen key choice) (renumbered_box choice box)
      (map (renumbered_term choice) (take count terms)))) (drop-map (renumbered_term choice) count terms)
      ∙ ap (λ (closed : Bool). closed_by (nat_le count (length terms) && closed)
      (map (renumbered_term choice) (drop count terms)))
      (combo-same key choice same box (take count terms) (All-take (IsKeptTerm key choice) count terms kept) by_sides)
      ∙ left_where choice (nat_le count (length terms) && combo_closes key box (take count terms))
      (record { boxes = []; terms = drop count terms })

  fixed_node-same : (box : PlainBox) (i : ℕ) (terms : List LeafTerm) → IsKept key choice i
      → treated false (chosen key choice) (renumbered_box choice box) (Fixed (new_number choice i))
      (map (renumbered_term choice) terms)
      ≡ option_map (renumbered_left choice) (treated false key box (Fixed i) terms)
  unfolding treated
  fixed_node-same box i terms kept =
      ap (λ (closed : Bool). closed_by closed (map (renumbered_term choice) terms))
      (fixed-same key choice same box.bounds i kept)
      ∙ left_where choice (fixed_closes key box.bounds i) (record { boxes = []; terms = terms })

  -- a node leaves the same of a box
  pub treated-same : (box : PlainBox) (node : Node) (terms : List LeafTerm) → IsKeptNode key choice node
      → All (IsKeptTerm key choice) terms → IsKeptBox key choice box
      → treated false (chosen key choice) (renumbered_box choice box) (renumbered_node choice node)
      (map (renumbered_term choice) terms) ≡ option_map (renumbered_left choice) (treated false key box node terms)
  unfolding treated
  treated-same box (Split v cut) terms kept by_terms by_sides =
      left_where choice (is_split v cut)
      (record { boxes = left_half box v cut ∷ right_half box v cut ∷ []; terms = terms })
  treated-same box (NeSplit i) terms kept by_terms by_sides = split_ne-same box i terms (kept i (eq-eqb i i refl))
  treated-same box (Combo count) terms kept by_terms by_sides = combo_node-same box count terms by_terms by_sides
  treated-same box (Fixed i) terms kept by_terms by_sides = fixed_node-same box i terms (kept i (eq-eqb i i refl))
  treated-same box Empty terms kept by_terms by_sides =
      left_where choice (is_empty box.bounds) (record { boxes = []; terms = terms })
  treated-same box Left terms kept by_terms by_sides = refl
