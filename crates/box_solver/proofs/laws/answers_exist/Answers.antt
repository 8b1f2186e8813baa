use Rattle.box_solver.proofs.ExistenceLemmas.{has_answer}
use Rattle.box_solver.proofs.laws.answers_exist.Goals as goal

pub returns : goal.returns
returns c = λ key budget is boxed.
    has_answer key budget (record {
      is_key = is;
      boxed = boxed;
      room = c.open_trees_are_below_room.ensures;
      halves = c.cuts_leave_proper_halves.ensures;
      one = c.glances_try_units.ensures.one;
      two = c.glances_try_units.ensures.two;
    }) c.key_bounds_are_short.ensures
