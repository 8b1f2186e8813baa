use Rattle.std.proofs.Common.{Option, Some, List, true, subst, sym, ap, ◌∙◌, arith}
use Rattle.std.proofs.lemmas.List.{nil_from_length}
use Rattle.std.proofs.lemmas.List.Elements.{All-pop}
use Rattle.refutation.specs.declared.turn.Turn.{Turn}
use Rattle.refutation.specs.Box.{PlainBox}
use Rattle.refutation.specs.Walk.{IsTurn, MovesOn, undecided}
use Rattle.refutation.proofs.WalkLemmas.{waiting-back, waiting-over, waiting-none}
use Rattle.refutation.proofs.walk.next_box.Goals as goal

pub loop-turn-preserved : goal.loop-turn-preserved
loop-turn-preserved c = record {
  turns = (All-pop IsTurn c.loop-turn.path.items c.pop.new.self.items (Some c.in-Some.turn)
      (c.in-Some.ensures {u = tt}).items c.loop-turn.invariant.turns).0;
  boxes = waiting-back c.pop.new.self.items c.loop-turn.path.items c.in-Some.turn
      (record { bounds = c.loop-turn.bounds; sides = c.loop-turn.sides.items })
      (record { bounds = c.undo.new.bounds; sides = c.undo.new.sides.items })
      (record { bounds = c.move_on.new.bounds; sides = c.move_on.new.sides.items }) _ (c.in-Some.ensures {u = tt}).items
      c.undo.ensures
      (subst (λ (n : Option Turn). MovesOn c.in-Some.turn n
      (record { bounds = c.undo.new.bounds; sides = c.undo.new.sides.items })
      (record { bounds = c.move_on.new.bounds; sides = c.move_on.new.sides.items })) c.in_default-2.is
      (c.in_ok-next.ensures {u = tt}).half) c.loop-turn.invariant.boxes;
}

pub returns-in-Some-2-clause-next : goal.returns-in-Some-2-clause-next
returns-in-Some-2-clause-next c =
    let before : PlainBox = record { bounds = c.undo.new.bounds; sides = c.undo.new.sides.items } in
    let after : PlainBox = record { bounds = c.move_on.new.bounds; sides = c.move_on.new.sides.items } in
    let moved = subst (λ (n : Option Turn). MovesOn c.in-Some.turn n before after) c.in-Some-2.is
    (c.in_ok-next.ensures {u = tt}).half in
    ap (λ (ts : List Turn). undecided true ts after) (c.in_ok-push.ensures {u = tt}).items
    ∙ waiting-over c.pop.new.self.items c.loop-turn.path.items c.in-Some.turn c.in-Some-2.next
    (record { bounds = c.loop-turn.bounds; sides = c.loop-turn.sides.items }) before after _
    (c.in-Some.ensures {u = tt}).items c.undo.ensures moved c.loop-turn.invariant.boxes

pub returns-clause-next : goal.returns-clause-next
returns-clause-next c =
    let none = nil_from_length c.loop-turn.path.items
    (omega (arith, (c.in_default.ensures {u = tt}).cases, c.loop-turn.path.ok.0)) in
    sym (waiting-none c.loop-turn.path.items (record { bounds = c.loop-turn.bounds; sides = c.loop-turn.sides.items })
    none) ∙ c.loop-turn.invariant.boxes
