-- Where a search stands: the region with its tree and its trail, the box at hand, and the splits so far.
use Rattle.std.proofs.Common.{◌≡◌, ◌≢◌, ℕ, ◌+◌, ◌-◌, ◌*◌, ◌<◌, ◌≤◌, ◌^◌, ℤ, true, false, Some, None, List, []}
use Rattle.std.proofs.Common.{◌∷◌, ◌++◌, length, map, get_or, replicate, unsigned_abs, eqb, refl, ap, sym, ◌∙◌, subst, arith}
use Rattle.std.specs.List.{All, list_any}
use Rattle.std.proofs.lemmas.List.{append-nil, length-append}
use Rattle.std.proofs.lemmas.List.Elements.{All-head}
use Rattle.lin_model.specs.declared.key.TheConstants.{MAX_KEY_ATOMS}
use Rattle.lin_model.specs.KeyAtom.{PlainKeyAtom}
use Rattle.lin_model.specs.Key.{IsKey, KeyHolds, key_width}
use Rattle.lin_model.specs.Facts.{key-narrow}
use Rattle.refutation.specs.declared.leaf.LeafTerm.{LeafTerm}
use Rattle.refutation.specs.declared.node.Node.{Node}
use Rattle.refutation.specs.declared.node.Node.TheVariants.{Left}
use Rattle.refutation.specs.declared.side.Side.{Side}
use Rattle.refutation.specs.Bounds.{PlainBounds, key_bounds}
use Rattle.refutation.specs.Box.{PlainBox, root_box}
use Rattle.refutation.specs.Boxed.{IsBoxed, HasShortSides}
use Rattle.refutation.specs.Laws.{CutsLeaveProperHalves, OpenTreesAreBelowRoom}
use Rattle.refutation.specs.Leaf.{PlainLeaf, Closes}
use Rattle.refutation.specs.SearchOrder.{lowest_corner, step}
use Rattle.refutation.specs.SearchTree.{IsUndecided}
use Rattle.combos.specs.Found.{box_of, StaysOpen}
use Rattle.box_solver.specs.declared.found.Found.{Found}
use Rattle.box_solver.specs.declared.found.Found.TheVariants.{Model, Refuted, Spent}
use Rattle.box_solver.specs.Answer.{Answers}
use Rattle.box_solver.specs.Nodes.{leaf_node, leaf_terms, halves, Enters}
use Rattle.box_solver.specs.Progress.{IsSearchBox, HasRead, IsAt}
use Rattle.box_solver.specs.Region.{PlainTreeRegion, TrailItem, Adds, KeepsTrail, MovesTrail, EmptiesTrail, IsReserved}
use Rattle.box_solver.specs.Region.{HasRoomFor}
use Rattle.box_solver.specs.Steps.{SplitsFairly}
use Rattle.box_solver.specs.Trail.{IsTrail, waiting, undecided, waiting_count}
use Rattle.box_solver.proofs.AnswerLemmas.{model-tree, refuting-tree, spent-tree}
use Rattle.box_solver.proofs.RegionLemmas.{adds-adds, adds-same, adds-none, room-closed, room-split}
use Rattle.box_solver.proofs.StepLemmas.{read-start, closes-few, read-closed, read-split, split-inner}
use Rattle.box_solver.proofs.TrailLemmas.{waiting-none, waiting-length}

-- the search stands at this box after so many splits: its tree leaves the box and those that wait, and there is room for
-- all that may come
pub record StandsAt (key : List PlainKeyAtom) (budget : ℕ) (base region : PlainTreeRegion) (splits : ℕ) (box : PlainBox)
    : Type 0 where
  pub at : IsAt key base region splits (undecided region.trail box)
  pub few : splits ≤ budget
  pub trail : IsTrail box.bounds region.trail
  pub room : HasRoomFor (budget - splits) (length (undecided region.trail box)) region
  pub spare : length region.trail + region.spare_trail ≡ base.spare_trail

-- ---- the start

pub stands-start : (key : List PlainKeyAtom) (budget : ℕ) (base : PlainTreeRegion) (box : PlainBox) → IsKey key
    → IsBoxed key → HasShortSides (key_bounds key) → IsReserved budget base → base.trail ≡ [] → box ≡ root_box key
    → StandsAt key budget base base 0 box
stands-start key budget base box is boxed short reserved none root =
    let alone : undecided base.trail box ≡ root_box key ∷ [] = ap (λ (bs : List PlainBox). box ∷ bs)
    (waiting-none base.trail box none) ∙ ap (λ (b : PlainBox). b ∷ []) root in
    record {
      at = subst (IsAt key base base 0) (sym alone) (record {
        nodes = [];
        terms = [];
        adds = adds-none base;
        read = read-start key (key-narrow key is) boxed short;
      });
      few = omega arith;
      trail = subst (λ (t : List TrailItem). IsTrail box.bounds t) (sym none) (λ k d lt. absurd (omega (arith, lt)));
      room = subst (λ n. HasRoomFor (budget - 0) n base) (sym (ap length alone)) (record {
        nodes = omega (arith, reserved.nodes);
        terms = omega (arith, reserved.terms);
        trail = omega (arith, reserved.trail);
      });
      spare = ap (λ (t : List TrailItem). length t + base.spare_trail) none ∙ omega arith;
    }

-- ---- the box at hand

pub stands-box : (key : List PlainKeyAtom) (budget : ℕ) (base region : PlainTreeRegion) (splits : ℕ) (box : PlainBox)
    → StandsAt key budget base region splits box → IsSearchBox key box
stands-box key budget base region splits box h =
    All-head (IsSearchBox key) box (waiting region.trail box) h.at.read.fit

-- what the code sees of it
pub box-is : (box : PlainBox) (bounds : PlainBounds) (sides : List Side) → bounds ≡ box.bounds → sides ≡ box.sides
    → box_of bounds sides ≡ box
box-is box bounds sides f g =
    ap (λ (b : PlainBounds). box_of b sides) f ∙ ap (λ (ss : List Side). box_of box.bounds ss) g

-- ---- a leaf

-- the leaf was written, and the trail is as it was
pub record IsClosedBy (region mid : PlainTreeRegion) (leaf : PlainLeaf) : Type 0 where
  pub adds : Adds region mid (leaf_node leaf ∷ []) (leaf_terms leaf)
  pub trail : KeepsTrail region mid

-- what is left then
closed-at : (key : List PlainKeyAtom) (budget : ℕ) (base region mid new : PlainTreeRegion) (splits : ℕ) (box : PlainBox)
    (leaf : PlainLeaf) (rest : List PlainBox) → StandsAt key budget base region splits box → Closes key box leaf
    → IsClosedBy region mid leaf → MovesTrail mid new → waiting mid.trail box ≡ rest → IsAt key base new splits rest
closed-at key budget base region mid new splits box leaf rest h closes wrote moves is =
    let same : waiting region.trail box ≡ rest = ap (λ (t : List TrailItem). waiting t box) (sym wrote.trail.trail) ∙ is
    in
    record {
      nodes = h.at.nodes ++ leaf_node leaf ∷ [];
      terms = h.at.terms ++ leaf_terms leaf;
      adds = adds-same base mid new (h.at.nodes ++ leaf_node leaf ∷ []) (h.at.terms ++ leaf_terms leaf)
          (adds-adds base region mid h.at.nodes (leaf_node leaf ∷ []) h.at.terms (leaf_terms leaf) h.at.adds wrote.adds)
          moves.adds_none;
      read = subst (HasRead key splits (h.at.nodes ++ leaf_node leaf ∷ []) (h.at.terms ++ leaf_terms leaf)) same
          (read-closed key splits h.at.nodes h.at.terms box (waiting region.trail box) leaf h.at.read closes);
    }

-- the trail's length and its room stay together
closed-spare : (region mid new : PlainTreeRegion) (leaf : PlainLeaf) → IsClosedBy region mid leaf → MovesTrail mid new
    → (length new.trail + new.spare_trail ≡ length region.trail + region.spare_trail)
    × (region.spare_trail ≤ new.spare_trail)
closed-spare region mid new leaf wrote moves =
    let same = ap length wrote.trail.trail in (
      omega (arith, moves.room, wrote.trail.spare_trail, same),
      omega (arith, moves.room, moves.shorter, wrote.trail.spare_trail),
    )

-- a box less
pub closed-less : (region mid new : PlainTreeRegion) (box box' : PlainBox) → KeepsTrail region mid
    → undecided new.trail box' ≡ waiting mid.trail box
    → length (undecided region.trail box) ≡ length (undecided new.trail box') + 1
closed-less region mid new box box' keeps next =
    let rest = ap length next in
    let same = ap (λ (t : List TrailItem). length (waiting t box)) keeps.trail in
    omega (arith, rest, same)

pub stands-closed : (key : List PlainKeyAtom) (budget : ℕ) (base region mid new : PlainTreeRegion) (splits : ℕ)
    (box box' : PlainBox) (leaf : PlainLeaf) → StandsAt key budget base region splits box → Closes key box leaf
    → IsClosedBy region mid leaf → MovesTrail mid new → undecided new.trail box' ≡ waiting mid.trail box → IsTrail box'.bounds new.trail
    → StandsAt key budget base new splits box'
stands-closed key budget base region mid new splits box box' leaf h closes wrote moves next trail =
    let spare = closed-spare region mid new leaf wrote moves in
    let adds = adds-same region mid new (leaf_node leaf ∷ []) (leaf_terms leaf) wrote.adds moves.adds_none in
    record {
      at = closed-at key budget base region mid new splits box leaf (undecided new.trail box') h closes wrote moves
          (sym next);
      few = h.few;
      trail = trail;
      room = room-closed (budget - splits) (length (undecided region.trail box)) (length (undecided new.trail box'))
          region new (leaf_node leaf ∷ []) (leaf_terms leaf) h.room adds refl (closes-few key box leaf closes)
          (closed-less region mid new box box' wrote.trail next) spare.1;
      spare = omega (arith, spare.0, h.spare);
    }

-- nothing waits
pub stands-refuted : (key : List PlainKeyAtom) (budget : ℕ) (base region mid new : PlainTreeRegion) (splits : ℕ)
    (box : PlainBox) (leaf : PlainLeaf) → StandsAt key budget base region splits box → Closes key box leaf
    → IsClosedBy region mid leaf → MovesTrail mid new → waiting mid.trail box ≡ [] → new.trail ≡ []
    → Answers key budget base new Refuted
stands-refuted key budget base region mid new splits box leaf h closes wrote moves none empty =
    let spare = closed-spare region mid new leaf wrote moves in
    let at = closed-at key budget base region mid new splits box leaf [] h closes wrote moves none in
    let gone = ap length empty in
    record {
      nodes = at.nodes;
      terms = at.terms;
      adds = at.adds;
      no_trail = empty;
      spare_trail = omega (arith, spare.0, h.spare, gone);
      answer = refuting-tree key splits budget at.nodes at.terms [] at.read refl h.few;
    }

-- ---- a split

-- the box has to be split
pub is_undecided : (key : List PlainKeyAtom) (box : PlainBox) → StaysOpen key box
    → ¬ KeyHolds key (lowest_corner key box.bounds) → IsUndecided key box
is_undecided key box open_ fails =
    record { not_by_one = open_.not_by_one; not_by_two = open_.not_by_two; corner_fails = fails }

-- both halves of a split
two-halves : (key : List PlainKeyAtom) (box : PlainBox) (node : Node) → SplitsFairly key box node
    → length (halves node box) ≡ 2
two-halves key box node fair = (split-inner key box node fair).3

pub split-more : (key : List PlainKeyAtom) (region new : PlainTreeRegion) (box box' : PlainBox) (node : Node)
    → SplitsFairly key box node → undecided new.trail box' ≡ halves node box ++ waiting region.trail box
    → length (undecided new.trail box') ≡ length (undecided region.trail box) + 1
split-more key region new box box' node fair next =
    let all = ap length next in
    let parts = length-append (halves node box) (waiting region.trail box) in
    let two = two-halves key box node fair in
    omega (arith, all, parts, two)

pub stands-split : CutsLeaveProperHalves → (key : List PlainKeyAtom) (budget : ℕ) (base region new : PlainTreeRegion)
    (splits : ℕ) (box box' : PlainBox) (node : Node) → StandsAt key budget base region splits box → splits ≢ budget
    → IsUndecided key box → SplitsFairly key box node → step key box ≡ Some node → Enters node region new
    → undecided new.trail box' ≡ halves node box ++ waiting region.trail box → IsTrail box'.bounds new.trail
    → StandsAt key budget base new (splits + 1) box'
stands-split leave key budget base region new splits box box' node h some open_ fair is enters next trail =
    record {
      at = record {
        nodes = h.at.nodes ++ node ∷ [];
        terms = h.at.terms ++ [];
        adds = adds-adds base region new h.at.nodes (node ∷ []) h.at.terms [] h.at.adds enters.adds;
        read = subst (HasRead key (splits + 1) (h.at.nodes ++ node ∷ []) (h.at.terms ++ [])) (sym next)
            (read-split leave key splits h.at.nodes h.at.terms box (waiting region.trail box) node h.at.read open_ fair
            is);
      };
      few = omega (arith, h.few, some);
      trail = trail;
      room = room-split (budget - splits) (budget - (splits + 1)) (length (undecided region.trail box))
          (length (undecided new.trail box')) region new node h.room enters.adds (omega (arith, h.few, some))
          (split-more key region new box box' node fair next) enters.room;
      spare = omega (arith, h.spare, enters.longer, enters.room);
    }

-- ---- the other ends

pub stands-model : (key : List PlainKeyAtom) (budget : ℕ) (base region new : PlainTreeRegion) (splits : ℕ)
    (box : PlainBox) (found : Found) (point : List ℤ) → StandsAt key budget base region splits box → Adds region new [] []
    → EmptiesTrail region new → found ≡ Model (record { items = point }) → point ≡ lowest_corner key box.bounds
    → All (λ n. unsigned_abs n ≤ 2 ^ 32) point → KeyHolds key point → Answers key budget base new found
stands-model key budget base region new splits box found point h same emptied is corner small holds =
    subst (Answers key budget base new) (sym is) (record {
      nodes = h.at.nodes;
      terms = h.at.terms;
      adds = adds-same base region new h.at.nodes h.at.terms h.at.adds same;
      no_trail = emptied.empty;
      spare_trail = emptied.room ∙ h.spare;
      answer = model-tree key splits budget h.at.nodes h.at.terms (undecided region.trail box) box
          (waiting region.trail box) point h.at.read refl h.few corner small holds;
    })

pub stands-spent : OpenTreesAreBelowRoom → (key : List PlainKeyAtom) (budget : ℕ) (base region new : PlainTreeRegion)
    (splits : ℕ) (box : PlainBox) → StandsAt key budget base region splits box
    → Adds region new (replicate (waiting_count region.trail + 1) Left) [] → EmptiesTrail region new → splits ≡ budget
    → IsUndecided key box → IsKey key → IsBoxed key → Answers key budget base new Spent
stands-spent law key budget base region new splits box h marked emptied used open_ is boxed =
    let boxes = undecided region.trail box in
    let all : waiting_count region.trail + 1 ≡ length boxes = omega (arith, waiting-length region.trail box) in
    record {
      nodes = h.at.nodes ++ replicate (length boxes) Left;
      terms = h.at.terms ++ [];
      adds = adds-adds base region new h.at.nodes (replicate (length boxes) Left) h.at.terms [] h.at.adds
          (subst (λ n. Adds region new (replicate n Left) []) all marked);
      no_trail = emptied.empty;
      spare_trail = emptied.room ∙ h.spare;
      answer = spent-tree key splits budget h.at.nodes h.at.terms boxes box (waiting region.trail box) h.at.read refl
          used open_ is boxed law;
    }

-- ---- the room for what is written

-- a leaf
pub leaf-room : (key : List PlainKeyAtom) (budget : ℕ) (base region : PlainTreeRegion) (splits : ℕ) (box : PlainBox)
    → StandsAt key budget base region splits box → (1 ≤ region.spare_nodes) × (8 ≤ region.spare_terms)
leaf-room key budget base region splits box h = (omega (arith, h.room.nodes), omega (arith, h.room.terms))

-- a split
pub split-room : (key : List PlainKeyAtom) (budget : ℕ) (base region : PlainTreeRegion) (splits : ℕ) (box : PlainBox)
    → StandsAt key budget base region splits box → splits ≢ budget
    → (1 ≤ region.spare_nodes) × (1 ≤ region.spare_trail)
split-room key budget base region splits box h some =
    (omega (arith, h.room.nodes), omega (arith, h.room.trail, h.few, some))

-- Left for each box
pub marks-room : (key : List PlainKeyAtom) (budget : ℕ) (base region : PlainTreeRegion) (splits : ℕ) (box : PlainBox)
    → StandsAt key budget base region splits box → waiting_count region.trail < region.spare_nodes
marks-room key budget base region splits box h =
    let all = waiting-length region.trail box in
    omega (arith, h.room.nodes, all)
