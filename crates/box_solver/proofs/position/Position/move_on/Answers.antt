use Rattle.std.proofs.Common.{FitsSigned, to_z, of_z, rules}
use Rattle.std.specs.Int.{w64}
use Rattle.std.proofs.lemmas.Int.{to_z-of_z}
use Rattle.box_solver.proofs.TrailLemmas.{cut-moved}
use Rattle.box_solver.proofs.position.Position.move_on.Goals as goal

pub returns-in-CutLeft-clause-moves : goal.returns-in-CutLeft-clause-moves
returns-in-CutLeft-clause-moves c =
    let upper = c.in-CutLeft.upper in
    let fits : FitsSigned w64 upper = search rules in
    (cut-moved c.args.turn c.cut_right.result c.args.self.now c.cut_right.new.self c.in-CutLeft.var upper
    (to_z w64 (of_z w64 upper)) c.in-CutLeft.is c.requires.sides c.cut_right.ensures.turn (to_z-of_z w64 upper fits)
    c.cut_right.ensures.half).0

pub returns-in-CutLeft-clause-sides : goal.returns-in-CutLeft-clause-sides
returns-in-CutLeft-clause-sides c =
    let upper = c.in-CutLeft.upper in
    let fits : FitsSigned w64 upper = search rules in
    (cut-moved c.args.turn c.cut_right.result c.args.self.now c.cut_right.new.self c.in-CutLeft.var upper
    (to_z w64 (of_z w64 upper)) c.in-CutLeft.is c.requires.sides c.cut_right.ensures.turn (to_z-of_z w64 upper fits)
    c.cut_right.ensures.half).1
