use Rattle.pipeline.proofs.EachAskedLemmas.{answers_exist}
use Rattle.pipeline.proofs.laws.answers_exist.Goals as goal

pub returns : goal.returns
returns c = answers_exist record {
  slices = c.slices_exist.ensures;
  parts = c.slices_are_a_partition.ensures;
  canonicals = c.keys_exist.ensures;
  boxed = c.bounded_keys_are_boxed.ensures;
  keep = c.asking_keeps_replies.ensures;
  settle = c.replies_settle.ensures;
}
