use Rattle.std.proofs.Common.{arith, ap}
use Rattle.std.proofs.lemmas.List.Elements.{AllWithin-more, at_read}
use Rattle.lin_model.specs.KeyAtom.{PlainKeyAtom, IsCanonical}
use Rattle.lin_model.specs.Form.{form_width}
use Rattle.lin_model.proofs.KeyLemmas.{key_width-rest}
use Rattle.lin_model.proofs.key.width_of.Goals as goal

pub loop-atom-preserved : goal.loop-atom-preserved
loop-atom-preserved c = record {
  width = let rest = key_width-rest c.args.atoms.now c.loop-atom.atom-index c.atom-item.result c.loop-atom-test.true in
      let same = ap (λ (a : PlainKeyAtom). form_width a.form) c.atom-item.is in
      omega (arith, rest, same);
  within = omega arith;
  canonical = AllWithin-more IsCanonical c.args.atoms.now 0 c.loop-atom.atom-index c.loop-atom.invariant.canonical
      (at_read c.args.atoms.now IsCanonical c.loop-atom.atom-index c.atom-item.result c.loop-atom-test.true
      c.atom-item.is c.width.ensures.canonical);
}
