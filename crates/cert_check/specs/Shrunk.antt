-- Entries of cores.
use Rattle.std.specs.Prelude.{List}
use Rattle.lin_model.specs.KeyAtom.{PlainKeyAtom}
use Rattle.refutation.specs.Tree.{PlainTree}
use Rattle.unsat_core.specs.Cores.{IsCoreOf}
use Rattle.cert_check.specs.declared.entry.Entry.{Entry}
use Rattle.cert_check.specs.declared.entry.Entry.TheVariants.{Sat, Unsat}
use Rattle.cert_check.specs.Decides.{Decides}

-- the entry of a core of a key that the tree refutes
abbrev pub IsShrunk : List PlainKeyAtom → PlainTree → Entry → Type 0
IsShrunk key tree (Sat e) = ⊥
IsShrunk key tree (Unsat e) = IsCoreOf key tree e.key e.tree

-- such an entry decides the key
abbrev pub ShrunkEntriesDecide : Type 0
ShrunkEntriesDecide = (key : List PlainKeyAtom) (tree : PlainTree) (e : Entry) → IsShrunk key tree e → Decides e key
