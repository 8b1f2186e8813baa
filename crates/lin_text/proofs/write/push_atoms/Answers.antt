use Rattle.std.proofs.Common.{arith}
use Rattle.std.proofs.lemmas.Grind.{common_steps}
use Rattle.std.proofs.lemmas.List.Elements.{All-more, at_read}
use Rattle.lin_model.specs.Conditions.{AtomFits}
use Rattle.lin_text.proofs.write.push_atoms.Goals as goal

pub loop-atom-preserved : goal.loop-atom-preserved
loop-atom-preserved c = record {
  text = grind (arith, common_steps);
  fits = All-more AtomFits c.args.atoms.now c.loop-atom.atom-index c.atom-item.result c.loop-atom-test.true
      c.loop-atom.invariant.fits (at_read c.args.atoms.now AtomFits c.loop-atom.atom-index c.atom-item.result
      c.loop-atom-test.true c.atom-item.is c.in_ok-push_atom.ensures.fits c.atom-item.result);
}
