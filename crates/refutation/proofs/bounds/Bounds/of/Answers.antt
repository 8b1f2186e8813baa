use Rattle.std.proofs.Common.{◌∷◌, drop, ◌+◌, ap, sym, ◌∙◌, subst, drop_of_length-le}
use Rattle.std.proofs.lemmas.List.{drop_more}
use Rattle.lin_model.specs.KeyAtom.{PlainKeyAtom}
use Rattle.refutation.specs.Bounds.{AreBounds}
use Rattle.refutation.proofs.BoundsLemmas.{lead-start, lead-on, lead-end}
use Rattle.refutation.proofs.BoxedLemmas.{bounds-short}
use Rattle.refutation.proofs.bounds.Bounds.of.Goals as goal

pub loop-atom-init : goal.loop-atom-init
loop-atom-init c =
    lead-start _ _ _ c.atoms-atom-items.ensures.atoms c.unbounded-bounds.ensures.lower
    c.unbounded-bounds.ensures.upper

pub loop-atom-preserved : goal.loop-atom-preserved
loop-atom-preserved c =
    lead-on c.loop-atom.bounds c.tighten.new.self c.atom-item.result _ _ c.args.key.now
    (drop_more c.atoms-atom-items.result.now c.loop-atom.atom-index c.atom-item.result c.loop-atom-test.true
    ∙ ap (λ (a : PlainKeyAtom). a ∷ drop (c.loop-atom.atom-index + 1) c.atoms-atom-items.result.now)
    (sym c.atom-item.is)) c.tighten.ensures.lower c.tighten.ensures.upper c.loop-atom.invariant

pub returns-clause-bounds : goal.returns-clause-bounds
returns-clause-bounds c =
    lead-end c.loop-atom.bounds _ c.args.key.now
    (drop_of_length-le c.atoms-atom-items.result.now c.loop-atom-test.false)
    (subst AreBounds c.bounds.view_is c.bounds.invariant) c.loop-atom.invariant

pub returns-clause-sides : goal.returns-clause-sides
returns-clause-sides c = bounds-short _ c.args.key.now (returns-clause-bounds c)
