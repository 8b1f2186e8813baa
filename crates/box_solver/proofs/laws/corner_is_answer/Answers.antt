use Rattle.box_solver.proofs.RootLemmas.{corner-answers}
use Rattle.box_solver.proofs.laws.corner_is_answer.Goals as goal

pub returns : goal.returns
returns c = corner-answers c.roots_of_models_stay_open.ensures
