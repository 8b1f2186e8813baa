use Rattle.std.proofs.Common.{pos, arith}
use Rattle.std.proofs.lemmas.Grind.{common_steps}
use Rattle.std.proofs.lemmas.List.Elements.{All-more}
use Rattle.refutation.specs.declared.leaf.LeafTerm.{LeafTerm}
use Rattle.refutation.specs.declared.leaf.On.TheVariants.{Atom as OnAtom}
use Rattle.entry_codec.specs.Writing.{HasShortSide}
use Rattle.entry_codec.proofs.write.nodes.push_leaf_terms.Goals as goal

pub loop-each-preserved : goal.loop-each-preserved
loop-each-preserved c = record {
  added = grind (arith, common_steps);
  short = All-more (λ (t : LeafTerm). HasShortSide t.on) c.args.terms.now c.loop-each.each-index
      (record { on = OnAtom 0; factor = pos 0 }) c.loop-each-test.true c.loop-each.invariant.short
      c.in_ok-push_leaf_term.ensures.short;
}
