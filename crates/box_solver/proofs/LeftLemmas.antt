-- Left for each box that is left, one after another.
use Rattle.std.proofs.Common.{◌≡◌, ℕ, ◌+◌, ◌-◌, ◌<◌, ◌≤◌, ℤ, Bool, true, false, cond, not, List, [], ◌∷◌, ◌++◌, length}
use Rattle.std.proofs.Common.{replicate, refl, ap, sym, ◌∙◌, subst, arith}
use Rattle.std.proofs.lemmas.List.{replicate-append-replicate}
use Rattle.std.proofs.lemmas.List.Sums.{sum_by-append}
use Rattle.tree_pool.specs.Region.{WasPopped}
use Rattle.refutation.specs.declared.leaf.LeafTerm.{LeafTerm}
use Rattle.refutation.specs.declared.node.Node.{Node}
use Rattle.refutation.specs.declared.node.Node.TheVariants.{Left}
use Rattle.box_solver.specs.Region.{PlainTreeRegion, TrailItem, Adds}
use Rattle.box_solver.specs.Trail.{is_first_half, waiting_count}
use Rattle.box_solver.proofs.RegionLemmas.{adds-adds, adds-none, adds-same, popped-adds}

-- so many boxes have a Left, and the others wait on the trail
pub record LeavesOpen (old new : PlainTreeRegion) : Type 0 where
  pub count : ℕ
  pub adds : Adds old new (replicate count Left) []
  pub all : count + waiting_count new.trail ≡ waiting_count old.trail
  pub enough : waiting_count new.trail ≤ new.spare_nodes
  pub room : length new.trail + new.spare_trail ≡ length old.trail + old.spare_trail

pub left-start : (a : PlainTreeRegion) → waiting_count a.trail ≤ a.spare_nodes → LeavesOpen a a
left-start a enough =
    record { count = 0; adds = adds-none a; all = omega arith; enough = enough; room = refl }

-- what waits with the item before
count-item : (item : TrailItem) (trail : List TrailItem)
    → waiting_count (item ∷ trail) ≡ waiting_count (item ∷ []) + waiting_count trail
count-item item trail = sum_by-append (λ i. cond (is_first_half i) 1 0) (item ∷ []) trail

popped-counts : (b c : PlainTreeRegion) (item : TrailItem) → WasPopped item b c
    → (waiting_count b.trail ≡ waiting_count (item ∷ []) + waiting_count c.trail)
    × (length c.trail + c.spare_trail ≡ length b.trail + b.spare_trail)
popped-counts b c item p =
    let longer = ap length p.trail in
    (ap waiting_count p.trail ∙ count-item item c.trail, omega (arith, longer, p.spare_trail))

pub one-waits : (v : ℕ) (n : ℤ) (right : Bool) → right ≡ false → waiting_count ((v, n, right) ∷ []) ≡ 1
one-waits v n right is = ap (λ (b : Bool). waiting_count ((v, n, b) ∷ [])) is

-- the turn leads to the second half, so that no other half waits
pub left-same : (a b c : PlainTreeRegion) (item : TrailItem) → LeavesOpen a b → WasPopped item b c
    → waiting_count (item ∷ []) ≡ 0 → LeavesOpen a c
left-same a b c item h p none =
    let adds = popped-adds b c item p in
    let counts = popped-counts b c item p in
    record {
      count = h.count;
      adds = adds-same a b c (replicate h.count Left) [] h.adds adds;
      all = omega (arith, h.all, counts.0, none);
      enough = omega (arith, h.enough, counts.0, none, adds.nodes_less);
      room = omega (arith, h.room, counts.1);
    }

-- it leads to the first half, and the other one gets its Left
pub left-more : (a b c d : PlainTreeRegion) (item : TrailItem) → LeavesOpen a b → WasPopped item b c
    → waiting_count (item ∷ []) ≡ 1 → Adds c d (Left ∷ []) [] → d.trail ≡ c.trail → d.spare_trail ≡ c.spare_trail
    → LeavesOpen a d
left-more a b c d item h p one wrote same_trail same_spare =
    let adds = popped-adds b c item p in
    let counts = popped-counts b c item p in
    let kept = ap waiting_count same_trail in
    let long = ap length same_trail in
    record {
      count = h.count + 1;
      adds = subst (λ (ls : List Node). Adds a d ls []) (replicate-append-replicate h.count 1 Left)
          (adds-adds a c d (replicate h.count Left) (Left ∷ []) [] []
          (adds-same a b c (replicate h.count Left) [] h.adds adds) wrote);
      all = omega (arith, h.all, counts.0, one, kept);
      enough = omega (arith, h.enough, counts.0, one, adds.nodes_less, wrote.nodes_less, kept);
      room = omega (arith, h.room, counts.1, long, same_spare);
    }

-- there is room for one more
pub left-room : (a b c : PlainTreeRegion) (item : TrailItem) → LeavesOpen a b → WasPopped item b c
    → waiting_count (item ∷ []) ≡ 1 → 0 < c.spare_nodes
left-room a b c item h p one =
    let adds = popped-adds b c item p in
    let counts = popped-counts b c item p in
    omega (arith, h.enough, counts.0, one, adds.nodes_less)
