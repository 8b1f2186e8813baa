-- What solving a key comes to.
use Rattle.std.specs.Prelude.{◌≡◌, ℕ, ◌+◌, ◌*◌, ℤ, List, [], length}
use Rattle.lin_model.specs.Key.{KeyHolds, key_width}
use Rattle.lin_model.specs.KeyAtom.{PlainKeyAtom}
use Rattle.lin_model.specs.Point.{IsPoint}
use Rattle.refutation.specs.SearchTree.{IsOpenTree}
use Rattle.refutation.specs.declared.leaf.LeafTerm.{LeafTerm}
use Rattle.refutation.specs.declared.node.Node.{Node}
use Rattle.tree_pool.specs.Region.{blank}
use Rattle.box_solver.specs.Answer.{IsModelTree, IsRefutingTree}
use Rattle.box_solver.specs.Region.{PlainTreeRegion}
use Rattle.unsat_core.specs.Cores.{IsCoreOf}
use Rattle.cert_check.specs.declared.entry.Entry.{Entry}
use Rattle.cert_check.specs.declared.entry.Entry.TheVariants.{Sat, Unsat}
use Rattle.cert_check.specs.Decides.{Decides, IsChecked}
use Rattle.cert_check.specs.Entries.{PlainUnsatEntry}
use Rattle.shared_store.specs.declared.solving.Evidence.{Evidence}
use Rattle.shared_store.specs.declared.solving.Evidence.TheVariants.{Decided, Open}

-- a point with one value for each variable of the key, which satisfies it
pub record IsModelPoint (key : List PlainKeyAtom) (point : List ℤ) : Type 0 where
  pub is_point : IsPoint point
  pub one_each : length point ≡ key_width key
  pub holds : KeyHolds key point

-- a search of at most the budget's splits came to the point
pub record IsModelWithin (budget : ℕ) (key : List PlainKeyAtom) (point : List ℤ) : Type 0 where
  pub nodes : List Node
  pub terms : List LeafTerm
  pub tree : IsModelTree key budget point nodes terms

-- a search of at most the budget's splits refuted the key, and the entry has a core of the key by the search's tree
pub record IsCoreWithin (budget : ℕ) (key : List PlainKeyAtom) (e : PlainUnsatEntry) : Type 0 where
  pub nodes : List Node
  pub terms : List LeafTerm
  pub tree : IsRefutingTree key budget nodes terms
  pub core : IsCoreOf key (record { nodes = nodes; terms = terms }) e.key e.tree

-- a search of at most the budget's splits came to the evidence of the entry: a model of the whole key, or a tree that the
-- entry has for a core of it
abbrev pub IsFoundWithin : ℕ → List PlainKeyAtom → Entry → Type 0
IsFoundWithin budget key (Sat e) = (e.key ≡ key) × IsModelWithin budget key e.point
IsFoundWithin budget key (Unsat e) = IsCoreWithin budget key e

-- a checked entry that decides the key, to which such a search came
pub record IsEntryFor (budget : ℕ) (key : List PlainKeyAtom) (entry : Entry) : Type 0 where
  pub checked : IsChecked entry
  pub decides : Decides entry key
  pub found : IsFoundWithin budget key entry

-- what each kind of evidence says of the key
abbrev pub IsEvidence : ℕ → List PlainKeyAtom → Evidence → Type 0
IsEvidence budget key (Decided entry) = IsEntryFor budget key entry
IsEvidence budget key (Open tree) = IsOpenTree key budget tree.nodes tree.terms

-- the region that was reserved for a budget, in which nothing stands
abbrev pub IsBlank : ℕ → PlainTreeRegion → Type 0
IsBlank budget region = region ≡ blank (2 * budget + 1) (8 * (budget + 1)) budget

-- a tree stands in that region, and the trail is empty
pub record HoldsTree (budget : ℕ) (region : PlainTreeRegion) : Type 0 where
  pub nodes : region.spare_nodes + length region.nodes ≡ 2 * budget + 1
  pub terms : region.spare_terms + length region.terms ≡ 8 * (budget + 1)
  pub no_trail : region.trail ≡ []
  pub spare_trail : region.spare_trail ≡ budget
