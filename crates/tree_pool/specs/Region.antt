-- Regions: three lists, and the room that is reserved for more of each.
use Rattle.std.specs.Prelude.{◌≡◌, ℕ, ◌+◌, ◌*◌, ◌≤◌, List, [], ◌∷◌}
use Rattle.tree_pool.specs.declared.region.TheConstants.{MAX_SPLITS}

-- what was pushed; the trail begins with what was pushed last. A spare says how many more may be pushed
pub record PlainRegion (N T U : Type 0) : Type 0 where
  pub nodes : List N
  pub terms : List T
  pub trail : List U
  pub spare_nodes : ℕ
  pub spare_terms : ℕ
  pub spare_trail : ℕ

-- a region in which nothing was pushed yet
abbrev pub blank : {N T U : Type 0} → ℕ → ℕ → ℕ → PlainRegion N T U
blank nodes terms trail =
    record { nodes = []; terms = []; trail = []; spare_nodes = nodes; spare_terms = terms; spare_trail = trail }

-- the item was the first of the trail, and is off it; all else is as it was
pub record WasPopped {N T U : Type 0} (item : U) (old new : PlainRegion N T U) : Type 0 where
  pub trail : old.trail ≡ item ∷ new.trail
  pub spare_trail : new.spare_trail ≡ old.spare_trail + 1
  pub rest : new ≡ record old { trail = new.trail; spare_trail = new.spare_trail }

-- the room that is reserved for as many splits as a search may have at most
pub record IsRoom (nodes terms trail : ℕ) : Type 0 where
  pub few_nodes : nodes ≤ 2 * MAX_SPLITS + 1
  pub few_terms : terms ≤ 8 * (MAX_SPLITS + 1)
  pub short_trail : trail ≤ MAX_SPLITS
