use Rattle.std.proofs.Common.{◌≡◌, ◌≢◌, ◌↔◌, ◌∷◌, [], ◌++◌, ◌∙◌, List, IsTrue, sym, ap, subst, arith}
use Rattle.std.proofs.lemmas.Result.{err_from_is_err_and}
use Rattle.cert_check.specs.declared.entry.Entry.{Entry}
use Rattle.outside.specs.RunFacts.{OnlyLooks-refl, OnlyLooks-trans}
use Rattle.journal.specs.declared.limits.TheConstants.{MAX_ENTRIES}
use Rattle.journal.specs.Reading.{rest_at}
use Rattle.journal.proofs.ScanLemmas.{said_before, IsRun, IsRun-begun, IsRun-read, cause_since, end_read, in_order_end, in_order_full, recovered_end, recovered_full}
use Rattle.journal.proofs.scanning.read_run.Goals as goal

pub loop-turn-init : goal.loop-turn-init
loop-turn-init g c = (
  subst (λ (l : List Entry). IsRun (g.D.Disk.state c.args.disk.now).content 8 l 0) (sym c.new-entries.ensures.items)
      (IsRun-begun (g.D.Disk.state c.args.disk.now).content),
  OnlyLooks-refl _,
)

pub read_next-requires : goal.read_next-requires
read_next-requires g c = c.loop-turn.invariant.0.short

pub returns-in_err-entry-clause-cause : goal.returns-in_err-entry-clause-cause
returns-in_err-entry-clause-cause g c =
    let p = err_from_is_err_and c.from_residual.result c.from_residual.ensures.1 in
    rw (p.1, p.2)
    (cause_since (g.D.Disk.state c.args.disk.now) (g.D.Disk.state c.loop-turn.disk) (g.D.Disk.state c.read_next.new.disk)
    c.loop-turn.invariant.1 _ (c.in_err-entry.ensures {u = tt}).cause)

pub returns-in_err-entry-clause-looks : goal.returns-in_err-entry-clause-looks
returns-in_err-entry-clause-looks g c = OnlyLooks-trans _ _ _ c.loop-turn.invariant.1 c.read_next.ensures.looks

pub returns-in_err-new-in-Ok-clause-looks : goal.returns-in_err-new-in-Ok-clause-looks
returns-in_err-new-in-Ok-clause-looks g c = OnlyLooks-trans _ _ _ c.loop-turn.invariant.1 c.read_next.ensures.looks

pub returns-in_err-push-in-Ok-clause-looks : goal.returns-in_err-push-in-Ok-clause-looks
returns-in_err-push-in-Ok-clause-looks g c = OnlyLooks-trans _ _ _ c.loop-turn.invariant.1 c.read_next.ensures.looks

pub returns-in-Err-clause-recovered : goal.returns-in-Err-clause-recovered
returns-in-Err-clause-recovered g c =
    let run = c.loop-turn.invariant in
    let r = c.in_ok-entry.ensures in
    let read = end_read _ _ run.1 _ _ _ run.0 c.in_ok-entry.field-0 r.read r.stands c.in-Err.end c.in-Err.is in
    recovered_end _ (record { entries = c.loop-turn.entries; end_at = c.loop-turn.at; stopped = c.stop_at.result })
    c.loop-turn._turn run.0 c.ends_exclude_frames.ensures c.in-Err.end c.loop-turn-test.true read.1 c.stop_at.ensures

pub returns-in-Err-clause-in_order : goal.returns-in-Err-clause-in_order
returns-in-Err-clause-in_order g c =
    let run = c.loop-turn.invariant in
    let r = c.in_ok-entry.ensures in
    let read = end_read _ _ run.1 _ _ _ run.0 c.in_ok-entry.field-0 r.read r.stands c.in-Err.end c.in-Err.is in
    in_order_end _ (record { entries = c.loop-turn.entries; end_at = c.loop-turn.at; stopped = c.stop_at.result })
    c.loop-turn._turn run.0 c.in-Err.end c.loop-turn-test.true read.0 c.stop_at.ensures

pub returns-in-Err-clause-looks : goal.returns-in-Err-clause-looks
returns-in-Err-clause-looks g c = OnlyLooks-trans _ _ _ c.loop-turn.invariant.1 c.read_next.ensures.looks

pub loop-turn-preserved : goal.loop-turn-preserved
loop-turn-preserved g c =
    let run = c.loop-turn.invariant in
    let r = c.in_ok-entry.ensures in
    let pushed : c.push.new.self.items ≡ c.loop-turn.entries.items ++ c.in-Ok.entry ∷ [] =
    c.in_ok-push-in-Ok.ensures.items
    ∙ ap (λ (x : Entry). c.loop-turn.entries.items ++ x ∷ []) c.in_ok-new-in-Ok.ensures in (
      IsRun-read _ _ run.1 _ _ _ run.0 c.in_ok-entry.field-0 r.read r.stands c.push.new.self.items c.in-Ok.entry
          c.in-Ok.taken c.in-Ok.is pushed,
      OnlyLooks-trans _ _ _ run.1 c.read_next.ensures.looks,
    )

pub has_more-requires : goal.has_more-requires
has_more-requires g c = c.loop-turn.invariant.0.short

pub returns-in_err-more-clause-cause : goal.returns-in_err-more-clause-cause
returns-in_err-more-clause-cause g c =
    let p = err_from_is_err_and c.from_residual-in_err-more.result c.from_residual-in_err-more.ensures.1 in
    rw (p.1, p.2)
    (cause_since (g.D.Disk.state c.args.disk.now) (g.D.Disk.state c.loop-turn.disk) (g.D.Disk.state c.has_more.new.disk)
    c.loop-turn.invariant.1 _ (c.in_err-more.ensures {u = tt}).cause)

pub returns-in_err-more-clause-looks : goal.returns-in_err-more-clause-looks
returns-in_err-more-clause-looks g c = OnlyLooks-trans _ _ _ c.loop-turn.invariant.1 c.has_more.ensures.looks

pub returns-clause-recovered : goal.returns-clause-recovered
returns-clause-recovered g c =
    let turns : c.loop-turn._turn ≡ MAX_ENTRIES = omega (arith, c.loop-turn.auto._turn-end, c.loop-turn-test.false) in
    let run = subst (IsRun (g.D.Disk.state c.args.disk.now).content c.loop-turn.at c.loop-turn.entries.items) turns
    c.loop-turn.invariant.0 in
    recovered_full (g.D.Disk.state c.args.disk.now).content
    (record { entries = c.loop-turn.entries; end_at = c.loop-turn.at; stopped = c.then_some.result }) run c.in_ok-more.more
    c.then_some.ensures
    (said_before (g.D.Disk.state c.args.disk.now).content (g.D.Disk.state c.loop-turn.disk).content
    (λ file. IsTrue c.in_ok-more.more ↔ (rest_at c.loop-turn.at file ≢ [])) c.loop-turn.invariant.1.content
    c.in_ok-more.ensures.more)

pub returns-clause-in_order : goal.returns-clause-in_order
returns-clause-in_order g c =
    let turns : c.loop-turn._turn ≡ MAX_ENTRIES = omega (arith, c.loop-turn.auto._turn-end, c.loop-turn-test.false) in
    let run = subst (IsRun (g.D.Disk.state c.args.disk.now).content c.loop-turn.at c.loop-turn.entries.items) turns
    c.loop-turn.invariant.0 in
    in_order_full (g.D.Disk.state c.args.disk.now).content
    (record { entries = c.loop-turn.entries; end_at = c.loop-turn.at; stopped = c.then_some.result }) run c.in_ok-more.more
    c.then_some.ensures

pub returns-clause-looks : goal.returns-clause-looks
returns-clause-looks g c = OnlyLooks-trans _ _ _ c.loop-turn.invariant.1 c.has_more.ensures.looks
