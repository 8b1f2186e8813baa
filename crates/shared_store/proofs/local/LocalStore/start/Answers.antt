use Rattle.std.proofs.Common.{◌≤◌, ◌^◌, List, length, subst, sym}
use Rattle.cert_check.specs.declared.entry.Entry.{Entry}
use Rattle.store_core.specs.Cores.{PlainCore}
use Rattle.shared_store.specs.Local.{IsStore}
use Rattle.shared_store.proofs.StartLemmas.{list_is_few, store_starts}
use Rattle.shared_store.proofs.local.LocalStore.start.Goals as goal

pub parts_of-requires-clause-entries : goal.parts_of-requires-clause-entries
parts_of-requires-clause-entries g c =
    subst (λ (es : List Entry). length es ≤ 2 ^ 20) (sym c.requires.list)
    (list_is_few g.D.Disk.state c.args.journal c.len-len.ensures.kept)

pub invariant_of-result : goal.invariant_of-result
invariant_of-result g c = (
  subst (λ (core : PlainCore). IsStore {D = g.row.D.Denot}
      (record { core = core; journal = c.args.journal; budget = c.args.budget })) (sym (c.in-Ok.ensures {u = tt}).core)
      (store_starts c.args.recovered.entries.items c.args.journal c.args.budget c.requires.list c.requires.no_writes
      (subst (λ (es : List Entry). length es ≤ 2 ^ 20) (sym c.requires.list)
      (list_is_few g.D.Disk.state c.args.journal c.len-len.ensures.kept))
      c.requires.some c.requires.few),
  (c.in-Ok.ensures {u = tt}).region,
)
