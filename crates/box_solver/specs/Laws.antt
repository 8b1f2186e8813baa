-- That the search always has something to answer, and what it has to answer at the lowest corner.
use Rattle.std.specs.Prelude.{◌≡◌, ℕ, ℤ, List}
use Rattle.lin_model.specs.KeyAtom.{PlainKeyAtom}
use Rattle.lin_model.specs.Key.{IsKey, KeyHolds}
use Rattle.refutation.specs.declared.leaf.LeafTerm.{LeafTerm}
use Rattle.refutation.specs.declared.node.Node.{Node}
use Rattle.refutation.specs.Bounds.{key_bounds}
use Rattle.refutation.specs.Boxed.{IsBoxed}
use Rattle.refutation.specs.SearchOrder.{lowest_corner}
use Rattle.box_solver.specs.declared.found.Found.{Found}
use Rattle.box_solver.specs.declared.found.Found.TheVariants.{Model, Refuted, Spent}
use Rattle.box_solver.specs.Answer.{IsAnswer}

-- some answer with its tree is one of the key within the budget
pub record HasAnswer (key : List PlainKeyAtom) (budget : ℕ) : Type 0 where
  pub found : Found
  pub nodes : List Node
  pub terms : List LeafTerm
  pub answer : IsAnswer key budget found nodes terms

-- every boxed key has an answer, whatever the budget
abbrev pub EachHasAnswer : Type 0
EachHasAnswer = (key : List PlainKeyAtom) (budget : ℕ) → IsKey key → IsBoxed key → HasAnswer key budget

-- the answer is a model, and this point
abbrev pub IsModelAt : List ℤ → Found → Type 0
IsModelAt point (Model values) = values.items ≡ point
IsModelAt point Refuted = ⊥
IsModelAt point Spent = ⊥

-- where the lowest corner of the key's bounds satisfies the key, that corner is the answer
abbrev pub CornerIsAnswer : Type 0
CornerIsAnswer =
    (key : List PlainKeyAtom) (budget : ℕ) (found : Found) (nodes : List Node) (terms : List LeafTerm) → IsKey key
    → KeyHolds key (lowest_corner key (key_bounds key)) → IsAnswer key budget found nodes terms
    → IsModelAt (lowest_corner key (key_bounds key)) found
