use Rattle.std.proofs.Common.{◌≡◌, sym, subst}
use Rattle.refutation.specs.Tree.{PlainTree}
use Rattle.cert_check.specs.Shrunk.{IsShrunk}
use Rattle.shared_store.specs.Solving.{IsEntryFor}
use Rattle.shared_store.proofs.SolvingLemmas.{entry_by_core}
use Rattle.shared_store.proofs.solving.refuted.Goals as goal

pub returns : goal.returns
returns c = λ budget refuting.
    let tree : PlainTree = record { nodes = c.args.nodes.now; terms = c.args.terms.now } in
    let shrunk : IsShrunk c.args.key.now tree c.in_ok-core.core = c.in_ok-core.ensures {u = tt} in
    let is : c.in_ok-new.field-0 ≡ c.in_ok-core.core = c.in_ok-new.ensures {u = tt} in
    subst (IsEntryFor budget c.args.key.now) (sym is)
    (entry_by_core budget c.args.key.now tree c.in_ok-core.core shrunk c.key.ensures.checked
    (c.shrunk_entries_decide.ensures c.args.key.now tree c.in_ok-core.core shrunk) refuting)
