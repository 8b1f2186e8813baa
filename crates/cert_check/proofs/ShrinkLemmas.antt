-- The entry of a core has evidence, and decides the key of which it is one.
use Rattle.std.proofs.Common.{List, [], sym, subst}
use Rattle.std.specs.Prelude.{Any}
use Rattle.lin_model.specs.KeyAtom.{PlainKeyAtom}
use Rattle.atom_implies.specs.Implies.{Covers, Implies}
use Rattle.refutation.specs.Chosen.{chosen}
use Rattle.refutation.specs.Reading.{Refutes}
use Rattle.refutation.specs.Tree.{PlainTree}
use Rattle.unsat_core.specs.Cores.{IsCoreOf}
use Rattle.unsat_core.specs.Facts.{All-chosen}
use Rattle.unsat_core.specs.Renumbered.{renumbered}
use Rattle.cert_check.specs.declared.entry.Entry.TheVariants.{Sat, Unsat}
use Rattle.cert_check.specs.Laws.{EntriesDecideTheirKeys}
use Rattle.cert_check.specs.Shrunk.{ShrunkEntriesDecide}

-- the tree of a core refutes it
pub core_refuted : (key : List PlainKeyAtom) (tree : PlainTree) (core : List PlainKeyAtom) (core_tree : PlainTree)
    → IsCoreOf key tree core core_tree → Refutes core core_tree.nodes core_tree.terms
core_refuted key tree core core_tree is =
    subst (λ (t : PlainTree). Refutes core t.nodes t.terms) (sym is.adjusted)
    (subst (λ (atoms : List PlainKeyAtom). Refutes atoms (renumbered is.choice tree).nodes
    (renumbered is.choice tree).terms) (sym is.atoms) is.least.refutes)

-- a key covers each choice of its atoms
covers_chosen : EntriesDecideTheirKeys → (key : List PlainKeyAtom) (choice : _) → Covers key (chosen key choice)
covers_chosen own key choice =
    All-chosen (λ b. Any (λ a. Implies a b) key) key choice
    (own (Sat (record { key = key; point = [] })))

pub shrunk_decide : EntriesDecideTheirKeys → ShrunkEntriesDecide
shrunk_decide own key tree (Sat e) is = absurd is
shrunk_decide own key tree (Unsat e) is =
    subst (λ (atoms : List PlainKeyAtom). Covers key atoms) (sym is.atoms) (covers_chosen own key is.choice)
