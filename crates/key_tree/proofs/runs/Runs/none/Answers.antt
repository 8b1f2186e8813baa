use Rattle.std.proofs.Common.{◌%◌, arith}
use Rattle.std.proofs.lemmas.List.{get_or-replicate}
use Rattle.key_tree.proofs.runs.Runs.none.Goals as goal

pub returns : goal.returns
returns c = λ hash. get_or-replicate 64 (hash % 64) 0 0 (omega arith)
