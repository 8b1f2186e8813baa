-- Where the lowest corner of the root satisfies the key, no node can be read there, so that the corner is the answer.
use Rattle.std.proofs.Common.{◌≡◌, ℕ, ℤ, Bool, true, false, ◌&&◌, Some, List, [], ◌∷◌, ◌++◌, length, take, drop, nat_le}
use Rattle.std.proofs.Common.{refl, subst}
use Rattle.std.specs.List.{All, list_any}
use Rattle.std.proofs.lemmas.List.Elements.{All-head}
use Rattle.std.specs.Option.{IsSomeAnd}
use Rattle.std.proofs.lemmas.Bool.{and_parts}
use Rattle.lin_model.specs.KeyAtom.{PlainKeyAtom}
use Rattle.lin_model.specs.Key.{IsKey, KeyHolds}
use Rattle.lin_model.specs.Lists.{chosen}
use Rattle.refutation.specs.declared.leaf.LeafTerm.{LeafTerm}
use Rattle.refutation.specs.declared.node.Node.{Node}
use Rattle.refutation.specs.declared.node.Node.TheVariants.{Split, NeSplit, Combo, Fixed, Empty, Left}
use Rattle.refutation.specs.Bounds.{key_bounds}
use Rattle.refutation.specs.Box.{root_box}
use Rattle.refutation.specs.Laws.{RootsOfModelsStayOpen}
use Rattle.refutation.specs.Leaf.{combo, fixed, empty, closes}
use Rattle.refutation.specs.Reading.{Treated, treated, closed_by, Met, TreeReading, read_over, Refutes}
use Rattle.refutation.specs.ReadingFacts.{first_is_read}
use Rattle.refutation.specs.SearchOrder.{lowest_corner}
use Rattle.refutation.specs.SearchTree.{is_left, search_reading, first_left, KeepsOrder, IsUndecided, IsSearchTree}
use Rattle.box_solver.specs.declared.found.Found.{Found}
use Rattle.box_solver.specs.declared.found.Found.TheVariants.{Model, Refuted, Spent}
use Rattle.box_solver.specs.Answer.{IsAnswer}
use Rattle.box_solver.specs.Laws.{IsModelAt}

-- the lowest corner of the key's bounds
abbrev corner : List PlainKeyAtom → List ℤ
corner key = lowest_corner key (key_bounds key)

-- the corner is a model
abbrev CornerHolds : List PlainKeyAtom → Type 0
CornerHolds key = KeyHolds key (corner key)

-- a leaf that leaves something closed its box
leaf_closed : (b : Bool) (terms : List LeafTerm) (r : Treated) → closed_by b terms ≡ Some r → b ≡ true
leaf_closed b terms r is = (chosen b (record { boxes = []; terms = terms }) r is).0

-- a node that is read at the root is a Left
left_at_root : RootsOfModelsStayOpen → (key : List PlainKeyAtom) (node : Node) (terms : List LeafTerm) (r : Treated)
    → IsKey key → CornerHolds key → KeepsOrder key (record { node = node; box = root_box key })
    → treated true key (root_box key) node terms ≡ Some r → node ≡ Left
unfolding treated
left_at_root stay_open key (Split v cut) terms r is holds order read =
    absurd ((order refl).undecided.corner_fails holds)
left_at_root stay_open key (NeSplit i) terms r is holds order read = absurd ((order refl).undecided.corner_fails holds)
left_at_root stay_open key (Combo count) terms r is holds order read =
    let closed = leaf_closed (nat_le count (length terms) && closes key (root_box key) (combo (take count terms)))
    (drop count terms) r read in
    absurd (stay_open key (combo (take count terms)) (corner key) is holds
    (and_parts (nat_le count (length terms)) (closes key (root_box key) (combo (take count terms))) closed).1)
left_at_root stay_open key (Fixed i) terms r is holds order read =
    absurd (stay_open key (fixed i) (corner key) is holds
    (leaf_closed (closes key (root_box key) (fixed i)) terms r read))
left_at_root stay_open key Empty terms r is holds order read =
    absurd (stay_open key empty (corner key) is holds (leaf_closed (closes key (root_box key) empty) terms r read))
left_at_root stay_open key Left terms r is holds order read = refl

-- a search from the root has no node, or begins with a Left
none_or_left : RootsOfModelsStayOpen → (key : List PlainKeyAtom) (node : Node) (nodes : List Node)
    (terms : List LeafTerm)
    → IsKey key → CornerHolds key → IsSearchTree key (node ∷ nodes) terms → node ≡ Left
none_or_left stay_open key node nodes terms is holds h =
    let on = first_is_read true key node nodes terms (root_box key) [] h.no_rest in
    let here : Met = record { node = node; box = root_box key } in
    let behind_it = read_over true key nodes on.after.terms (on.after.boxes ++ []) in
    let order : All (KeepsOrder key) (here ∷ behind_it.met) = subst (λ (r : TreeReading). All (KeepsOrder key) r.met)
    on.then_rest h.in_order in
    left_at_root stay_open key node terms on.after is holds (All-head (KeepsOrder key) here behind_it.met order) on.is

pub corner-answers : RootsOfModelsStayOpen
    → (key : List PlainKeyAtom) (budget : ℕ) (found : Found) (nodes : List Node) (terms : List LeafTerm) → IsKey key
    → CornerHolds key → IsAnswer key budget found nodes terms → IsModelAt (lowest_corner key (key_bounds key)) found
unfolding read_over treated
corner-answers stay_open key budget (Model point) [] terms is holds h = h.corner
corner-answers stay_open key budget (Model point) (node ∷ nodes) terms is holds h =
    let left = none_or_left stay_open key node nodes terms is holds h.search in
    absurd (with_left node left h.no_left)
  where
    with_left : (n : Node) → n ≡ Left → list_any is_left (n ∷ nodes) ≡ false → ⊥
    with_left n same none =
        let begins : list_any is_left (Left ∷ nodes)
        ≡ false = subst (λ (m : Node). list_any is_left (m ∷ nodes) ≡ false) same none in absurd (cc)
corner-answers stay_open key budget Refuted [] terms is holds h = let none = h.refutes.no_boxes in absurd (cc)
corner-answers stay_open key budget Refuted (node ∷ nodes) terms is holds h =
    let refutes : Refutes key (Left ∷ nodes) terms = subst (λ (m : Node). Refutes key (m ∷ nodes) terms)
    (none_or_left stay_open key node nodes terms is holds h.search) h.refutes in
    let none = refutes.no_boxes in
    absurd (cc)
corner-answers stay_open key budget Spent [] terms is holds h = absurd h.open_tree.first
corner-answers stay_open key budget Spent (node ∷ nodes) terms is holds h =
    let left = none_or_left stay_open key node nodes terms is holds h.open_tree.search in
    let first : IsSomeAnd (first_left (search_reading key (Left ∷ nodes) terms).met)
    (λ (m : Met). IsUndecided key m.box) = subst
    (λ (n : Node). IsSomeAnd (first_left (search_reading key (n ∷ nodes) terms).met)
    (λ (m : Met). IsUndecided key m.box)) left h.open_tree.first in
    first.corner_fails holds
