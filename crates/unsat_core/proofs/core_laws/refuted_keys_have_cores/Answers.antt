use Rattle.unsat_core.proofs.CoreExists.{have_cores}
use Rattle.unsat_core.proofs.core_laws.refuted_keys_have_cores.Goals as goal

pub returns : goal.returns
returns c = have_cores c.others_can_go.ensures c.each_tree_has_one_answer.ensures
