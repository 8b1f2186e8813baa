use Rattle.std.proofs.Common.{◌≡◌, ◌<◌, length, take, arith}
use Rattle.refutation.specs.Chosen.{chosen}
use Rattle.unsat_core.proofs.ChosenLemmas.{chosen-none_more, chosen-one_more}
use Rattle.unsat_core.proofs.chosen.chosen_atoms.Goals as goal
use Rattle.unsat_core.proofs.chosen.chosen_atoms.Goals.{then-choice-place+in_ok-clone+in_ok-push, else-choice-place}

pub loop-place-preserved : goal.loop-place-preserved
loop-place-preserved c =
    let within : c.loop-place.place < length c.args.choice.now = omega (arith, c.loop-place-test.true, c.requires) in
    let so_far : c.loop-place.kept.items
    ≡ chosen (take c.loop-place.place c.args.atoms.now) (take c.loop-place.place c.args.choice.now) =
    c.loop-place.invariant in
    elim c.if-choice-place.branch [
      | then-choice-place+in_ok-clone+in_ok-push w ↦ (
          let more = chosen-one_more c.args.atoms.now c.args.choice.now c.loop-place.place c.index-atoms-place.result
          c.loop-place-test.true within c.index-atoms-place.is w.if-choice-place.true in
          let pushed = w.in_ok-push.ensures.items in
          let cloned = w.in_ok-clone.ensures.cases in
          cc
          )
      | else-choice-place w ↦ (
          let more = chosen-none_more c.args.atoms.now c.args.choice.now c.loop-place.place c.index-atoms-place.result
          c.loop-place-test.true within w.if-choice-place.false in
          cc
          )
    ]
