-- Every boxed key has an answer: from each state of a search there is a node more, or the search has ended.
use Rattle.std.proofs.Common.{◌≡◌, ⊎_elim, ℕ, zero, suc, ◌+◌, ◌-◌, ◌*◌, ◌≤◌, List, [], ◌∷◌, ◌++◌, length, replicate}
use Rattle.std.proofs.Common.{refl, arith}
use Rattle.std.proofs.lemmas.Bool.{cases_lt}
use Rattle.std.proofs.lemmas.List.{length-append}
use Rattle.std.proofs.lemmas.List.Elements.{All-head}
use Rattle.lin_model.specs.KeyAtom.{PlainKeyAtom}
use Rattle.lin_model.specs.Key.{IsKey, KeyHolds}
use Rattle.lin_model.specs.Facts.{key-narrow}
use Rattle.refutation.specs.declared.leaf.LeafTerm.{LeafTerm}
use Rattle.refutation.specs.declared.node.Node.{Node}
use Rattle.refutation.specs.declared.node.Node.TheVariants.{Left}
use Rattle.refutation.specs.Box.{PlainBox, root_box}
use Rattle.refutation.specs.Boxed.{IsBoxed}
use Rattle.refutation.specs.Laws.{OpenTreesAreBelowRoom, CutsLeaveProperHalves, KeyBoundsAreShort, OneIsTried}
use Rattle.refutation.specs.Laws.{TwoAreTried}
use Rattle.refutation.specs.SearchOrder.{lowest_corner}
use Rattle.refutation.specs.SearchTree.{IsUndecided}
use Rattle.box_solver.specs.declared.found.Found.TheVariants.{Model, Refuted, Spent}
use Rattle.box_solver.specs.Laws.{HasAnswer}
use Rattle.box_solver.specs.Nodes.{leaf_node, leaf_terms, halves}
use Rattle.box_solver.specs.Progress.{IsSearchBox, HasRead}
use Rattle.box_solver.proofs.AnswerLemmas.{model-tree, refuting-tree, spent-tree}
use Rattle.box_solver.proofs.StepLemmas.{read-start, read-closed, split-inner, read-split}
use Rattle.box_solver.proofs.CornerLemmas.{corner-small}
use Rattle.box_solver.proofs.DecisionLemmas.{next_step}

-- what makes a key one that `solve` takes, with the laws of its boxes and trees
pub record IsSolvable (key : List PlainKeyAtom) : Type 0 where
  pub is_key : IsKey key
  pub boxed : IsBoxed key
  pub room : OpenTreesAreBelowRoom
  pub halves : CutsLeaveProperHalves
  pub one : OneIsTried
  pub two : TwoAreTried

-- ---- the three answers

refuted : (key : List PlainKeyAtom) (budget splits : ℕ) (nodes : List Node) (terms : List LeafTerm)
    → HasRead key splits nodes terms [] → splits ≤ budget → HasAnswer key budget
refuted key budget splits nodes terms h few = record {
  found = Refuted;
  nodes = nodes;
  terms = terms;
  answer = refuting-tree key splits budget nodes terms [] h refl few;
}

modelled : (key : List PlainKeyAtom) (budget splits : ℕ) (nodes : List Node) (terms : List LeafTerm) (box : PlainBox)
    (rest : List PlainBox) → HasRead key splits nodes terms (box ∷ rest) → splits ≤ budget
    → KeyHolds key (lowest_corner key box.bounds) → HasAnswer key budget
modelled key budget splits nodes terms box rest h few holds = record {
  found = Model (record { items = lowest_corner key box.bounds });
  nodes = nodes;
  terms = terms;
  answer = model-tree key splits budget nodes terms (box ∷ rest) box rest (lowest_corner key box.bounds) h refl few refl
      (corner-small key box.bounds (All-head (IsSearchBox key) box rest h.fit).short) holds;
}

spent : (key : List PlainKeyAtom) (budget splits : ℕ) (nodes : List Node) (terms : List LeafTerm) (box : PlainBox)
    (rest : List PlainBox) → IsSolvable key → HasRead key splits nodes terms (box ∷ rest) → splits ≡ budget
    → IsUndecided key box → HasAnswer key budget
spent key budget splits nodes terms box rest solvable h used undecided = record {
  found = Spent;
  nodes = nodes ++ replicate (length (box ∷ rest)) Left;
  terms = terms ++ [];
  answer = spent-tree key splits budget nodes terms (box ∷ rest) box rest h refl used undecided solvable.is_key
      solvable.boxed solvable.room;
}

-- ---- the search, for as long as splits and boxes are left

answer_from : (n : ℕ) (key : List PlainKeyAtom) (budget splits : ℕ) (nodes : List Node) (terms : List LeafTerm)
    (boxes : List PlainBox) → IsSolvable key → HasRead key splits nodes terms boxes → splits ≤ budget
    → 2 * (budget - splits) + length boxes ≤ n → HasAnswer key budget
answer_from n key budget splits nodes terms [] solvable h few left = refuted key budget splits nodes terms h few
answer_from zero key budget splits nodes terms (box ∷ rest) solvable h few left = absurd (omega arith)
answer_from (suc n) key budget splits nodes terms (box ∷ rest) solvable h few left =
    ⊎_elim (λ closed. answer_from n key budget splits (nodes ++ leaf_node closed.0 ∷ []) (terms ++ leaf_terms closed.0)
    rest solvable (read-closed key splits nodes terms box rest closed.0 h closed.1) few (omega (arith, left)))
    (λ open_. ⊎_elim (λ holds. modelled key budget splits nodes terms box rest h few holds)
    (λ asks. ⊎_elim (λ less. let two = (split-inner key box asks.node asks.fair).3 in
    let all = length-append (halves asks.node box) rest in
    answer_from n key budget (splits + 1) (nodes ++ asks.node ∷ []) (terms ++ []) (halves asks.node box ++ rest)
    solvable (read-split solvable.halves key splits nodes terms box rest asks.node h asks.undecided asks.fair asks.is)
    (omega (arith, less)) (omega (arith, less, left, two, all)))
    (λ used. spent key budget splits nodes terms box rest solvable h (omega (arith, used, few)) asks.undecided)
    (cases_lt splits budget)) open_)
    (next_step solvable.one solvable.two solvable.halves key box h.narrow (All-head (IsSearchBox key) box rest h.fit))

pub has_answer : (key : List PlainKeyAtom) (budget : ℕ) → IsSolvable key → KeyBoundsAreShort → HasAnswer key budget
has_answer key budget solvable short =
    answer_from (2 * budget + 1) key budget 0 [] [] (root_box key ∷ []) solvable
    (read-start key (key-narrow key solvable.is_key) solvable.boxed (short key)) (omega arith) (omega arith)
