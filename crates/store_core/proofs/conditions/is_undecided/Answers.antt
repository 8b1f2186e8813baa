use Rattle.std.proofs.lemmas.Bool.{leb-true, le-leb}
use Rattle.store_core.proofs.ConditionLemmas.{first_is_seen, seen_is_not_first}
use Rattle.store_core.proofs.conditions.is_undecided.Goals as goal

pub returns-in-Some : goal.returns-in-Some
returns-in-Some c = (
  λ few. seen_is_not_first c.args.core.now.state.entries c.args.key.now c.args.n c.in-Some.place c.in-Some.ensures
      (leb-true c.args.n c.in-Some.place few),
  λ none. le-leb c.args.n c.in-Some.place
      (first_is_seen c.args.core.now.state.entries c.args.key.now c.args.n c.in-Some.place c.in-Some.ensures none),
)
