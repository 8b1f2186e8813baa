use Rattle.std.proofs.Common.{◌≡◌, rules, sym, subst}
use Rattle.cert_check.specs.declared.entry.Entry.TheVariants.{Sat}
use Rattle.shared_store.specs.Solving.{IsEntryFor}
use Rattle.shared_store.proofs.SolvingLemmas.{entry_by_model}
use Rattle.shared_store.proofs.solving.satisfied.Goals as goal

pub returns : goal.returns
returns c = λ budget within.
    let is : c.in_ok-new-in-Ok.field-0 ≡ Sat (record { key = c.args.key.now; point = c.args.values.now }) =
    search rules in
    subst (IsEntryFor budget c.args.key.now) (sym is)
    (entry_by_model c.entries_decide_their_keys.ensures budget c.args.key.now c.args.values.now c.keeps_limits.ensures
    within)
