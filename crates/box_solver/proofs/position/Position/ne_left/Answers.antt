use Rattle.std.proofs.Common.{ap}
use Rattle.box_solver.specs.Region.{PlainTreeRegion}
use Rattle.box_solver.proofs.TrailLemmas.{ne-enters}
use Rattle.box_solver.proofs.position.Position.ne_left.Goals as goal

pub returns-clause-boxes : goal.returns-clause-boxes
returns-clause-boxes c =
    ne-enters c.args.region.now.trail c.push_trail.new.self.trail c.args.self.now
    (record { bounds = c.self.inside.bounds; sides = c.self.inside.sides.items }) c.args.atom c.item_of.result
    c.push.new.self.items c.self.view_is c.requires.atom c.item_of.ensures
    (ap (λ (r : PlainTreeRegion). r.trail) c.push_trail.ensures) c.push.ensures.items
