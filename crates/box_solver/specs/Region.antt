-- The region of a search: nodes and terms of trees, one tree behind another, and the trail.
use Rattle.std.specs.Prelude.{◌≡◌, ℕ, ◌+◌, ◌*◌, ◌≤◌, ℤ, Bool, List, [], ◌∷◌, ◌++◌, length}
use Rattle.tree_pool.specs.Region.{PlainRegion}
use Rattle.refutation.specs.declared.leaf.LeafTerm.{LeafTerm}
use Rattle.refutation.specs.declared.node.Node.{Node}

-- an item of the trail
abbrev pub TrailItem : Type 0
TrailItem = ℕ × ℤ × Bool

-- the region that trees are built in
abbrev pub PlainTreeRegion : Type 0
PlainTreeRegion = PlainRegion Node LeafTerm TrailItem

-- the new region has these nodes and terms behind those of the old one, and as much less room for more
pub record Adds (old new : PlainTreeRegion) (nodes : List Node) (terms : List LeafTerm) : Type 0 where
  pub nodes_after : new.nodes ≡ old.nodes ++ nodes
  pub terms_after : new.terms ≡ old.terms ++ terms
  pub nodes_less : new.spare_nodes + length nodes ≡ old.spare_nodes
  pub terms_less : new.spare_terms + length terms ≡ old.spare_terms

-- the trail is as it was
pub record KeepsTrail (old new : PlainTreeRegion) : Type 0 where
  pub trail : new.trail ≡ old.trail
  pub spare_trail : new.spare_trail ≡ old.spare_trail

-- nodes and terms are as they were, and the trail is no longer; what it is shorter by, it has room for
pub record MovesTrail (old new : PlainTreeRegion) : Type 0 where
  pub adds_none : Adds old new [] []
  pub shorter : length new.trail ≤ length old.trail
  pub room : length new.trail + new.spare_trail ≡ length old.trail + old.spare_trail

-- the trail has one item more, and nothing else is other than it was
pub record LengthensTrail (old new : PlainTreeRegion) : Type 0 where
  pub adds_none : Adds old new [] []
  pub longer : length new.trail ≡ length old.trail + 1
  pub room : new.spare_trail + 1 ≡ old.spare_trail

-- there is room for a search that may split so often
pub record IsReserved (splits : ℕ) (region : PlainTreeRegion) : Type 0 where
  pub nodes : 2 * splits + 1 ≤ region.spare_nodes
  pub terms : 8 * (splits + 1) ≤ region.spare_terms
  pub trail : splits ≤ region.spare_trail

-- the room that a search needs that may still split so often, and has so many boxes to decide
pub record HasRoomFor (splits boxes : ℕ) (region : PlainTreeRegion) : Type 0 where
  pub nodes : 2 * splits + boxes ≤ region.spare_nodes
  pub terms : 8 * (splits + boxes) ≤ region.spare_terms
  pub trail : splits ≤ region.spare_trail

-- the trail is empty, and what it is shorter by, it has room for
pub record EmptiesTrail (old new : PlainTreeRegion) : Type 0 where
  pub empty : new.trail ≡ []
  pub room : new.spare_trail ≡ length old.trail + old.spare_trail
