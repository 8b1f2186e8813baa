use Rattle.std.proofs.Common.{arith, subst}
use Rattle.std.proofs.lemmas.Int.{ints}
use Rattle.refutation.specs.Walk.{IsTurn}
use Rattle.refutation.specs.declared.turn.Turn.TheVariants.{SplitLeft}
use Rattle.refutation.proofs.WalkLemmas.{split-MovesOn}
use Rattle.refutation.proofs.turn.move_on.Goals as goal

pub returns-in-SplitLeft-clause-half : goal.returns-in-SplitLeft-clause-half
returns-in-SplitLeft-clause-half c =
    let small : IsTurn (SplitLeft c.in-SplitLeft.var c.in-SplitLeft.cut c.in-SplitLeft.upper) = subst IsTurn
    c.in-SplitLeft.is c.requires in
    split-MovesOn c.args.turn c.args.bounds.now c.raise_lower.new.self c.args.sides.now.items c.in-SplitLeft.var
    c.in-SplitLeft.cut _ c.in-SplitLeft.upper c.lower-lower.result c.in-SplitLeft.is (omega (arith, ints, small.1))
    c.raise_lower.ensures.after c.lower-lower.ensures.value
