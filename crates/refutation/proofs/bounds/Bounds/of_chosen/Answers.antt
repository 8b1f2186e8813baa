use Rattle.std.proofs.Common.{◌≡◌, ◌<◌, List, length, get_or, refl, ap, ◌∙◌, subst, arith}
use Rattle.lin_model.specs.KeyAtom.{PlainKeyAtom}
use Rattle.refutation.specs.Bounds.{AreBounds}
use Rattle.refutation.specs.Chosen.{chosen}
use Rattle.refutation.proofs.BoundsLemmas.{lead-start, lead-end}
use Rattle.refutation.proofs.ChosenLemmas.{lead-taken, lead-passed, chosen-none}
use Rattle.refutation.proofs.bounds.Bounds.of_chosen.Goals as goal
use Rattle.refutation.proofs.bounds.Bounds.of_chosen.Goals.{then-choice-place, else-choice-place}

pub loop-place-init : goal.loop-place-init
loop-place-init c = lead-start _ _ _ refl c.unbounded-bounds.ensures.lower c.unbounded-bounds.ensures.upper

pub loop-place-preserved : goal.loop-place-preserved
loop-place-preserved c =
    let below : c.loop-place.place < length c.args.key.now =
    omega (arith, c.loop-place-test.true, ap length c.atoms-atom-items.ensures.atoms) in
    let at : c.atom-item.result ≡ get_or c.args.key.now c.loop-place.place c.atom-item.result =
    c.atom-item.is ∙ ap (λ (atoms : List PlainKeyAtom). get_or atoms c.loop-place.place c.atom-item.result)
    c.atoms-atom-items.ensures.atoms in
    elim c.if-choice-place.branch [
      | then-choice-place w ↦ lead-taken c.args.key.now c.args.choice.now c.requires c.loop-place.place
          c.atom-item.result _ c.loop-place.bounds w.tighten.new.self c.if-choice-place.bounds below at
          w.if-choice-place.true w.bounds-is w.tighten.ensures.lower w.tighten.ensures.upper c.loop-place.invariant
      | else-choice-place w ↦ lead-passed c.args.key.now c.args.choice.now c.requires c.loop-place.place
          c.atom-item.result _ c.loop-place.bounds c.if-choice-place.bounds below w.if-choice-place.false w.bounds-is
          c.loop-place.invariant
    ]

pub returns : goal.returns
returns c =
    lead-end c.loop-place.bounds _ (chosen c.args.key.now c.args.choice.now)
    (chosen-none c.args.key.now c.args.choice.now c.loop-place.place
    (omega (arith, c.loop-place-test.false, ap length c.atoms-atom-items.ensures.atoms)))
    (subst AreBounds c.bounds.view_is c.bounds.invariant) c.loop-place.invariant
