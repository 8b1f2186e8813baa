-- That entries aren't too large for frames: those with a point, and those whose trees are no larger than a search's.
use Rattle.std.specs.Prelude.{◌≡◌, ◌^◌, ◌≤◌, List, length}
use Rattle.lin_model.specs.KeyAtom.{PlainKeyAtom}
use Rattle.lin_model.specs.Key.{IsKey}
use Rattle.refutation.specs.Reading.{Refutes}
use Rattle.refutation.specs.SearchTree.{inner_count}
use Rattle.refutation.specs.Tree.{PlainTree}
use Rattle.cert_check.specs.declared.entry.Entry.TheVariants.{Sat, Unsat}
use Rattle.cert_check.specs.Decides.{IsChecked}
use Rattle.cert_check.specs.Entries.{PlainSatEntry, PlainUnsatEntry}
use Rattle.cert_check.specs.Shrunk.{IsShrunk}
use Rattle.entry_codec.specs.declared.limits.TheConstants.{MAX_BODY, MAX_NODES, MAX_CUT, MAX_LEAF_TERMS, MAX_MULTIPLIER}
use Rattle.entry_codec.specs.declared.limits.TheConstants.{MAX_SPLITS, MAX_SEARCH_NODES, MAX_SEARCH_TERMS}
use Rattle.entry_codec.specs.Frames.{IsSmallEnough}

-- a checked entry with a point isn't too large
abbrev pub PointsFit : Type 0
PointsFit = (e : PlainSatEntry) → IsChecked (Sat e) → IsSmallEnough (Sat e)

-- a tree of few nodes and terms
pub record IsSmallTree (tree : PlainTree) : Type 0 where
  pub few_nodes : length tree.nodes ≤ MAX_SEARCH_NODES
  pub few_terms : length tree.terms ≤ MAX_SEARCH_TERMS

-- a key with such a tree isn't too large
abbrev pub SmallTreesFit : Type 0
SmallTreesFit = (e : PlainUnsatEntry) → IsKey e.key → IsSmallTree e.tree → IsSmallEnough (Unsat e)

-- the entry has a core of a key by a tree of few splits, which refutes the key
pub record IsSmallCore (key : List PlainKeyAtom) (tree : PlainTree) (e : PlainUnsatEntry) : Type 0 where
  pub refutes : Refutes key tree.nodes tree.terms
  pub few : inner_count tree.nodes ≤ MAX_SPLITS
  pub shrunk : IsShrunk key tree (Unsat e)

-- such an entry isn't too large
abbrev pub SmallCoresFit : Type 0
SmallCoresFit = (key : List PlainKeyAtom) (tree : PlainTree) (e : PlainUnsatEntry) → IsKey e.key
    → IsSmallCore key tree e → IsSmallEnough (Unsat e)

-- the limits of frames, as numbers
pub record FrameLimitsAreFixed : Type 0 where
  pub body : MAX_BODY ≡ 2 ^ 24
  pub nodes : MAX_NODES ≡ 2 ^ 20
  pub cut : MAX_CUT ≡ 2 ^ 32
  pub leaf_terms : MAX_LEAF_TERMS ≡ 8
  pub multiplier : MAX_MULTIPLIER ≡ 2 ^ 31
