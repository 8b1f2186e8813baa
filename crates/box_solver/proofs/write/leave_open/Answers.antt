use Rattle.std.proofs.Common.{ap}
use Rattle.refutation.specs.declared.node.Node.TheVariants.{Left}
use Rattle.box_solver.specs.Region.{PlainTreeRegion}
use Rattle.box_solver.proofs.LeftLemmas.{one-waits, left-more, left-room}
use Rattle.box_solver.proofs.RegionLemmas.{pushed-adds}
use Rattle.box_solver.proofs.write.leave_open.Goals as goal

pub loop-in_second_half-preserved-then-not-in_second_half : goal.loop-in_second_half-preserved-then-not-in_second_half
loop-in_second_half-preserved-then-not-in_second_half c =
    let v = c.in-Some.field-0-0 in
    let n = c.in-Some.field-0-1 in
    let right = c.in-Some.in_second_half in
    let before = c.pop_trail.new.self in
    let after = c.push_node-then-not-in_second_half.new.self in
    let off = c.in-Some.ensures {u = tt} in
    let one = one-waits v n right c.if-not-in_second_half.true in
    let room = left-room c.push_node.new.self c.loop-in_second_half.region before (v, n, right)
    c.loop-in_second_half.invariant off one in
    left-more c.push_node.new.self c.loop-in_second_half.region before after (v, n, right)
    c.loop-in_second_half.invariant off one
    (pushed-adds before after Left room c.push_node-then-not-in_second_half.ensures)
    (ap (λ (r : PlainTreeRegion). r.trail) c.push_node-then-not-in_second_half.ensures)
    (ap (λ (r : PlainTreeRegion). r.spare_trail) c.push_node-then-not-in_second_half.ensures)
