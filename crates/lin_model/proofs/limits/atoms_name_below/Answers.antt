use Rattle.std.proofs.Common.{◌∙◌, sym}
use Rattle.lin_model.specs.Conditions.{AtomNamesBelow}
use Rattle.lin_model.proofs.Elements.{all_more, read_from_All}
use Rattle.lin_model.proofs.limits.atoms_name_below.Goals as goal

pub returns-then-not-atom_names_below : goal.returns-then-not-atom_names_below
returns-then-not-atom_names_below c = (
  λ e. absurd (cc),
  λ all. sym c.if-not-atom_names_below.true ∙ c.atom_names_below.ensures.1
      (read_from_All (AtomNamesBelow c.args.count) c.args.atoms.now c.loop-atom.atom-index c.atom-item.result
      c.loop-atom-test.true c.atom-item.is all),
)

pub loop-atom-preserved : goal.loop-atom-preserved
loop-atom-preserved c =
    all_more (AtomNamesBelow c.args.count) c.args.atoms.now c.loop-atom.atom-index c.atom-item.result
    c.loop-atom-test.true c.atom-item.is c.loop-atom.invariant
    (c.atom_names_below.ensures.0 c.if-not-atom_names_below.false)
