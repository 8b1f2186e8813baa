-- What a search that has ended answers.
use Rattle.std.proofs.Common.{◌≡◌, ℕ, ◌^◌, ◌≤◌, ℤ, List, [], ◌∷◌, ◌++◌, length, replicate, unsigned_abs, ap, sym, ◌∙◌}
use Rattle.std.proofs.Common.{subst, arith}
use Rattle.std.specs.List.{All}
use Rattle.lin_model.specs.KeyAtom.{PlainKeyAtom}
use Rattle.lin_model.specs.Key.{KeyHolds, IsKey}
use Rattle.refutation.specs.declared.leaf.LeafTerm.{LeafTerm}
use Rattle.refutation.specs.declared.node.Node.{Node}
use Rattle.refutation.specs.declared.node.Node.TheVariants.{Left}
use Rattle.refutation.specs.Box.{PlainBox}
use Rattle.refutation.specs.Boxed.{IsBoxed}
use Rattle.refutation.specs.Laws.{OpenTreesAreBelowRoom}
use Rattle.refutation.specs.SearchOrder.{lowest_corner}
use Rattle.refutation.specs.SearchTree.{IsUndecided, IsOpenTree}
use Rattle.box_solver.specs.Answer.{IsFirstCorner, IsModelTree, IsRefutingTree, IsSpentTree}
use Rattle.box_solver.specs.Progress.{HasRead}
use Rattle.box_solver.proofs.CornerLemmas.{corner-length}
use Rattle.box_solver.proofs.ReadLemmas.{OnlyLeftAfterLeft-append}
use Rattle.box_solver.proofs.StepLemmas.{read-open, read-refutes}

pub model-tree : (key : List PlainKeyAtom) (splits budget : ℕ) (nodes : List Node) (terms : List LeafTerm)
    (boxes : List PlainBox) (box : PlainBox) (rest : List PlainBox) (point : List ℤ)
    → HasRead key splits nodes terms boxes → boxes ≡ box ∷ rest → splits ≤ budget → point ≡ lowest_corner key box.bounds
    → All (λ n. unsigned_abs n ≤ 2 ^ 32) point → KeyHolds key point → IsModelTree key budget point nodes terms
model-tree key splits budget nodes terms boxes box rest point h first few corner small holds = record {
  one_each = ap length corner ∙ corner-length key box.bounds;
  small = small;
  holds = holds;
  search = h.search;
  no_left = h.no_left;
  few = omega (arith, h.inner);
  corner = subst (λ (bs : List PlainBox). IsFirstCorner key bs point) (sym (h.left ∙ first)) corner;
}

pub refuting-tree : (key : List PlainKeyAtom) (splits budget : ℕ) (nodes : List Node) (terms : List LeafTerm)
    (boxes : List PlainBox) → HasRead key splits nodes terms boxes → boxes ≡ [] → splits ≤ budget
    → IsRefutingTree key budget nodes terms
refuting-tree key splits budget nodes terms boxes h none few = record {
  refutes = read-refutes key splits nodes terms (subst (HasRead key splits nodes terms) none h);
  search = h.search;
  few = omega (arith, h.inner);
}

pub spent-tree : (key : List PlainKeyAtom) (splits budget : ℕ) (nodes : List Node) (terms : List LeafTerm)
    (boxes : List PlainBox) (box : PlainBox) (rest : List PlainBox) → HasRead key splits nodes terms boxes
    → boxes ≡ box ∷ rest → splits ≡ budget → IsUndecided key box → IsKey key → IsBoxed key → OpenTreesAreBelowRoom
    → IsSpentTree key budget (nodes ++ replicate (length boxes) Left) (terms ++ [])
spent-tree key splits budget nodes terms boxes box rest h first spent undecided is_key boxed law =
    let before : HasRead key splits nodes terms (box ∷ rest) = subst (HasRead key splits nodes terms) first h in
    let open_tree : IsOpenTree key budget (nodes ++ replicate (length boxes) Left) (terms ++ []) = subst
    (λ (bs : List PlainBox). IsOpenTree key budget (nodes ++ replicate (length bs) Left) (terms ++ [])) (sym first)
    (subst (λ n. IsOpenTree key n (nodes ++ replicate (length (box ∷ rest)) Left) (terms ++ [])) spent
    (read-open key splits nodes terms box rest before undecided)) in
    record {
      open_tree = open_tree;
      left_alone = OnlyLeftAfterLeft-append nodes (length boxes) h.no_left;
      below_room = law key budget (nodes ++ replicate (length boxes) Left) (terms ++ []) is_key boxed open_tree;
    }
