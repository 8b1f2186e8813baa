-- A tree by the new numbers, over the chosen atoms: it is read alike.
use Rattle.std.proofs.Common.{◌≡◌, Bool, false, Option, Some, None, IfSome, List, [], ◌∷◌, ◌++◌, length, map, All}
use Rattle.std.proofs.Common.{refl, sym, ap, ◌∙◌, subst, option_map}
use Rattle.std.specs.List.{list_any}
use Rattle.std.specs.Option.{option_map_or}
use Rattle.std.proofs.lemmas.Bool.{or_left, or_right}
use Rattle.std.proofs.lemmas.List.{map-append}
use Rattle.std.proofs.lemmas.List.Elements.{All-nil, All-cons, All-append, All-head, All-tail}
use Rattle.std.proofs.lemmas.List.Folds.{list_any_at}
use Rattle.lin_model.specs.KeyAtom.{PlainKeyAtom}
use Rattle.refutation.specs.declared.leaf.LeafTerm.{LeafTerm}
use Rattle.refutation.specs.declared.node.Node.{Node}
use Rattle.refutation.specs.Box.{PlainBox}
use Rattle.refutation.specs.Chosen.{chosen, chosen_box}
use Rattle.refutation.specs.Reading.{Treated, treated, TreeReading, nothing_read, behind, read_over}
use Rattle.refutation.specs.Tree.{PlainTree}
use Rattle.unsat_core.specs.Cores.{HasNamed}
use Rattle.unsat_core.specs.Laws.{ChoicesAreClosedAlike}
use Rattle.unsat_core.specs.Renumbered.{on_names, node_names, renumbered_node, renumbered_term}
use Rattle.unsat_core.proofs.ReadingPlaces.{renumbered_box}
use Rattle.unsat_core.proofs.ReadingLeaves.{IsKeptTerm}
use Rattle.unsat_core.proofs.ReadingNodes.{IsKeptNode, IsKeptBox, LeavesKept, renumbered_left, treated-same}
use Rattle.unsat_core.proofs.ReadingNodes.{treated-kept}

-- ---- one node after another

-- a reading leaves what another does, by the new numbers
pub record LeavesAlike (choice : List Bool) (old new : TreeReading) : Type 0 where
  pub rest : new.rest ≡ map (renumbered_node choice) old.rest
  pub terms : new.terms ≡ map (renumbered_term choice) old.terms
  pub boxes : new.boxes ≡ map (renumbered_box choice) old.boxes

-- the reading from these terms and boxes on, and that by the new numbers
abbrev ReadsAlike : List PlainKeyAtom → List Bool → List Node → List LeafTerm → List PlainBox → Type 0
ReadsAlike key choice nodes terms boxes =
    LeavesAlike choice (read_over false key nodes terms boxes)
    (read_over false (chosen key choice) (map (renumbered_node choice) nodes) (map (renumbered_term choice) terms)
    (map (renumbered_box choice) boxes))

-- what follows from what the first node leaves
abbrev after : List PlainKeyAtom → Node → List Node → List LeafTerm → PlainBox → List PlainBox → Option Treated
    → TreeReading
after key node nodes terms box boxes o =
    option_map_or (λ (r : Treated). behind node box (read_over false key nodes r.terms (r.boxes ++ boxes))) o
    (nothing_read (node ∷ nodes) terms (box ∷ boxes))

-- the reading goes on alike, where the rest of the nodes is read alike from whatever is kept
after-alike : (key : List PlainKeyAtom) (choice : List Bool) (node : Node) (nodes : List Node) (terms : List LeafTerm)
    (box : PlainBox) (boxes : List PlainBox)
    (o : Option Treated) → All (IsKeptBox key choice) boxes
    → IfSome o (LeavesKept key choice)
    → ((ts : List LeafTerm) (bs : List PlainBox) → All (IsKeptTerm key choice) ts → All (IsKeptBox key choice) bs
    → ReadsAlike key choice nodes ts bs)
    → LeavesAlike choice (after key node nodes terms box boxes o)
    (after (chosen key choice) (renumbered_node choice node) (map (renumbered_node choice) nodes)
    (map (renumbered_term choice) terms) (renumbered_box choice box) (map (renumbered_box choice) boxes)
    (option_map (renumbered_left choice) o))
after-alike key choice node nodes terms box boxes None by_boxes kept rest =
    record { rest = refl; terms = refl; boxes = refl }
after-alike key choice node nodes terms box boxes (Some r) by_boxes kept rest =
    let alike = rest r.terms (r.boxes ++ boxes) kept.terms
    (All-append (IsKeptBox key choice) r.boxes boxes kept.boxes by_boxes) in
    let over : TreeReading → Type 0 = LeavesAlike choice (read_over false key nodes r.terms (r.boxes ++ boxes)) in
    let same = subst (λ (bs : List PlainBox). over (read_over false (chosen key choice)
    (map (renumbered_node choice) nodes) (map (renumbered_term choice) r.terms) bs))
    (map-append (renumbered_box choice) r.boxes boxes) alike in
    record { rest = same.rest; terms = same.terms; boxes = same.boxes }

module _ (key : List PlainKeyAtom) (choice : List Bool) (one_each : length choice ≡ length key) where
  read-alike : (nodes : List Node) (terms : List LeafTerm) (boxes : List PlainBox)
      → All (IsKeptNode key choice) nodes → All (IsKeptTerm key choice) terms → All (IsKeptBox key choice) boxes
      → ReadsAlike key choice nodes terms boxes
  unfolding read_over
  read-alike [] terms boxes by_nodes by_terms by_boxes = record { rest = refl; terms = refl; boxes = refl }
  read-alike (node ∷ nodes) terms [] by_nodes by_terms by_boxes = record { rest = refl; terms = refl; boxes = refl }
  read-alike (node ∷ nodes) terms (box ∷ boxes) by_nodes by_terms by_boxes =
      let first = All-head (IsKeptNode key choice) node nodes by_nodes in
      let at = All-head (IsKeptBox key choice) box boxes by_boxes in
      subst (λ (o : Option Treated). LeavesAlike choice
      (after key node nodes terms box boxes (treated false key box node terms))
      (after (chosen key choice) (renumbered_node choice node) (map (renumbered_node choice) nodes)
      (map (renumbered_term choice) terms) (renumbered_box choice box) (map (renumbered_box choice) boxes) o))
      (sym (treated-same key choice one_each box node terms first by_terms at))
      (after-alike key choice node nodes terms box boxes (treated false key box node terms)
      (All-tail (IsKeptBox key choice) box boxes by_boxes)
      (treated-kept key choice box node terms first by_terms at)
      (λ ts bs of_terms of_boxes. read-alike nodes ts bs (All-tail (IsKeptNode key choice) node nodes by_nodes)
      of_terms of_boxes))

-- ---- whole trees

-- what a tree names is kept where it is chosen
nodes-kept : (key : List PlainKeyAtom) (tree : PlainTree) (choice : List Bool) → HasNamed key tree choice
    → All (IsKeptNode key choice) tree.nodes
nodes-kept key tree choice has = λ k d lt i names below.
    has i below (or_left (list_any (node_names i) tree.nodes) (list_any (λ (t : LeafTerm). on_names i t.on) tree.terms)
    (list_any_at (node_names i) tree.nodes k d lt names))

terms-kept : (key : List PlainKeyAtom) (tree : PlainTree) (choice : List Bool) → HasNamed key tree choice
    → All (IsKeptTerm key choice) tree.terms
terms-kept key tree choice has = λ k d lt i names below.
    has i below (or_right (list_any (node_names i) tree.nodes) (list_any (λ (t : LeafTerm). on_names i t.on) tree.terms)
    (list_any_at (λ (t : LeafTerm). on_names i t.on) tree.terms k d lt names))

-- what is mapped is empty where the list is, and only there
none_mapped : {X Y : Type 0} (f : X → Y) (xs : List X) (ys : List Y) → ys ≡ map f xs → xs ≡ [] → ys ≡ []
none_mapped f xs ys is none = is ∙ ap (map f) none

none_before : {X Y : Type 0} (f : X → Y) (xs : List X) (ys : List Y) → ys ≡ map f xs → ys ≡ [] → xs ≡ []
none_before f [] ys is none = refl
none_before f (x ∷ xs) ys is none = absurd (cc)

pub closed_alike : ChoicesAreClosedAlike
closed_alike key tree choice one_each has =
    let none : All (IsKeptBox key choice) (chosen_box key choice ∷ []) =
    All-cons (IsKeptBox key choice) (chosen_box key choice) [] (All-nil _) (All-nil (IsKeptBox key choice)) in
    let old = read_over false key tree.nodes tree.terms (chosen_box key choice ∷ []) in
    let alike = read-alike key choice one_each tree.nodes tree.terms (chosen_box key choice ∷ [])
    (nodes-kept key tree choice has) (terms-kept key tree choice has) none in (
      λ refutes. record {
        no_rest = none_before (renumbered_node choice) old.rest _ alike.rest refutes.no_rest;
        no_terms = none_before (renumbered_term choice) old.terms _ alike.terms refutes.no_terms;
        no_boxes = none_before (renumbered_box choice) old.boxes _ alike.boxes refutes.no_boxes;
      },
      λ closes. record {
        no_rest = none_mapped (renumbered_node choice) old.rest _ alike.rest closes.no_rest;
        no_terms = none_mapped (renumbered_term choice) old.terms _ alike.terms closes.no_terms;
        no_boxes = none_mapped (renumbered_box choice) old.boxes _ alike.boxes closes.no_boxes;
      },
    )
