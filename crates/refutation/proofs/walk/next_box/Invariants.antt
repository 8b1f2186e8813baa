use Rattle.std.proofs.Common.{◌≡◌, reverse, vec_len}
use Rattle.std.specs.List.{All}
use Rattle.refutation.specs.Walk.{IsTurn, waiting}
use Rattle.refutation.proofs.walk.next_box.Given as goal

-- what waits has stayed the same
abbrev pub invariant-loop-turn : goal.invariant-loop-turn
invariant-loop-turn l = record {
  turns : All IsTurn l.path.items;
  boxes : waiting (reverse l.path.items) (record { bounds = l.bounds; sides = l.sides.items })
      ≡ waiting (reverse l.initial.path.items) (record { bounds = l.initial.bounds; sides = l.initial.sides.items });
}

abbrev pub decreases-loop-turn : goal.decreases-loop-turn
decreases-loop-turn l = vec_len l.path
