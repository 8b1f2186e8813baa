use Rattle.std.proofs.Common.{◌≡◌, ◌++◌, ap, ◌∙◌}
use Rattle.std.proofs.lemmas.List.{drop_all}
use Rattle.cert_check.specs.declared.entry.Entry.{Entry}
use Rattle.green_cli.specs.DumpText.{entry_text}
use Rattle.green_cli.proofs.TextLemmas.{carry, done}
use Rattle.green_cli.proofs.DumpLemmas.{entries_step, entries_end}
use Rattle.green_cli.proofs.entry_text.push_entries.Goals as goal

pub loop-place-preserved : goal.loop-place-preserved
loop-place-preserved c =
    let step = entries_step c.args.entries.now c.loop-place.place c.index-entries-place.result c.loop-place-test.true
    c.index-entries-place.is in
    let grows : c.push_entry.new.out.items ≡ c.loop-place.out.items ++ entry_text c.loop-place.place
    c.index-entries-place.result =
    (c.in_ok-push_entry.ensures {u = tt})
    ∙ ap (λ (e : Entry). c.loop-place.out.items ++ entry_text c.loop-place.place e) c.get.ensures in
    carry _ _ _ _ _ _ c.loop-place.invariant step grows

pub returns : goal.returns
returns c = done _ _ _ c.loop-place.invariant
    (entries_end _ _ (drop_all c.loop-place.place c.args.entries.now c.loop-place-test.false))
