use Rattle.std.proofs.Common.{Some, None, List, ◌∷◌, ap, sym, ◌∙◌, subst}
use Rattle.box_solver.specs.declared.turn.Turn.{Turn}
use Rattle.refutation.specs.Boxed.{HasShortSides}
use Rattle.refutation.specs.Box.{PlainBox}
use Rattle.box_solver.specs.Region.{PlainTreeRegion, TrailItem}
use Rattle.box_solver.specs.Trail.{IsTurn, HasCutSides, IsTrail, parent, MovesOn, waiting, undecided}
use Rattle.box_solver.proofs.RegionLemmas.{moves-popped}
use Rattle.box_solver.proofs.TrailLemmas.{popped, waiting-over, waiting-back, waiting-none, moved-kept, parent-kept}
use Rattle.box_solver.proofs.TrailLemmas.{parent-short, trail-kept, trail-push}
use Rattle.box_solver.proofs.position.Position.go_on.Goals as goal

pub turn_of-requires : goal.turn_of-requires
turn_of-requires c =
    (popped c.loop-item.self.bounds c.loop-item.region.trail c.pop_trail.new.self.trail c.in-Some.item
    (c.in-Some.ensures {u = tt}).trail c.loop-item.invariant.trail).0.limits

pub move_on-requires-clause-turn : goal.move_on-requires-clause-turn
move_on-requires-clause-turn c =
    subst IsTurn (sym c.turn_of.ensures)
    (popped c.loop-item.self.bounds c.loop-item.region.trail c.pop_trail.new.self.trail c.in-Some.item
    (c.in-Some.ensures {u = tt}).trail c.loop-item.invariant.trail).0.limits

pub move_on-requires-clause-sides : goal.move_on-requires-clause-sides
move_on-requires-clause-sides c =
    subst (HasCutSides c.loop-item.self.bounds) (sym c.turn_of.ensures)
    (popped c.loop-item.self.bounds c.loop-item.region.trail c.pop_trail.new.self.trail c.in-Some.item
    (c.in-Some.ensures {u = tt}).trail c.loop-item.invariant.trail).0.sides

pub returns-in-Some-move_on-clause-found : goal.returns-in-Some-move_on-clause-found
returns-in-Some-move_on-clause-found c =
    let next = c.in-Some-move_on.next in
    let item = c.in-Some.item in
    let box = c.loop-item.self in
    let new = c.move_on.new.self in
    let trail = c.pop_trail.new.self.trail in
    let moved = c.in-Some-move_on.ensures {u = tt} in
    λ _. ap (λ (t : List TrailItem). undecided t new)
    (ap (λ (r : PlainTreeRegion). r.trail) c.push_trail.ensures ∙ ap (λ (i : TrailItem). i ∷ trail) c.item_of.ensures)
    ∙ waiting-over trail item next box new moved.turn
    (subst (λ (t : Turn). MovesOn t (Some next) box new) c.turn_of.ensures moved.moves)
    ∙ ap (λ (t : List TrailItem). waiting t box) (sym (c.in-Some.ensures {u = tt}).trail) ∙ c.loop-item.invariant.boxes

pub returns-in-Some-move_on-clause-trail : goal.returns-in-Some-move_on-clause-trail
returns-in-Some-move_on-clause-trail c =
    let next = c.in-Some-move_on.next in
    let box = c.loop-item.self in
    let new = c.move_on.new.self in
    let trail = c.pop_trail.new.self.trail in
    let moved = c.in-Some-move_on.ensures {u = tt} in
    subst (IsTrail new.bounds)
    (sym (ap (λ (r : PlainTreeRegion). r.trail) c.push_trail.ensures
    ∙ ap (λ (i : TrailItem). i ∷ trail) c.item_of.ensures))
    (trail-push new.bounds trail next moved.turn moved.sides (trail-kept box.bounds new.bounds trail
    (moved-kept c.turn_of.result next box new moved.moves)
    (popped box.bounds c.loop-item.region.trail trail c.in-Some.item (c.in-Some.ensures {u = tt}).trail
    c.loop-item.invariant.trail).1))

pub loop-item-preserved : goal.loop-item-preserved
loop-item-preserved c =
    let item = c.in-Some.item in
    let turn = c.turn_of.result in
    let box = c.loop-item.self in
    let new = c.move_on.new.self in
    let trail = c.pop_trail.new.self.trail in
    let off = c.in-Some.ensures {u = tt} in
    let moved = (c.in_default-move_on.ensures {u = tt}).moves in
    let was = popped box.bounds c.loop-item.region.trail trail item off.trail c.loop-item.invariant.trail in
    record {
      boxes = waiting-back trail item box new (subst (λ (t : Turn). MovesOn t None box new) c.turn_of.ensures moved)
          ∙ ap (λ (t : List TrailItem). waiting t box) (sym off.trail) ∙ c.loop-item.invariant.boxes;
      trail = subst (λ (b : PlainBox). IsTrail b.bounds trail) (sym moved.1)
          (trail-kept box.bounds (parent turn box).bounds trail (parent-kept turn box) was.1);
      short = subst (λ (b : PlainBox). HasShortSides b.bounds) (sym moved.1)
          (parent-short turn box (subst IsTurn (sym c.turn_of.ensures) was.0.limits) c.loop-item.invariant.short);
      moves = moves-popped c.args.region.now c.loop-item.region c.pop_trail.new.self item c.loop-item.invariant.moves off;
    }

pub returns-clause-none : goal.returns-clause-none
returns-clause-none c =
    let none = c.in_default.ensures {u = tt} in
    λ _. (
      sym c.loop-item.invariant.boxes ∙ waiting-none c.loop-item.region.trail c.loop-item.self none.0,
      ap (λ (r : PlainTreeRegion). r.trail) none.1 ∙ none.0,
    )
