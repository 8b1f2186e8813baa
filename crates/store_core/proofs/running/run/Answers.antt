use Rattle.std.proofs.Common.{◌≡◌, ◌∷◌, [], ◌++◌, List, sym, subst, rules}
use Rattle.store_core.specs.declared.schedule.Done.{Done}
use Rattle.store_core.specs.Schedules.{Does, DoesAll, world_of}
use Rattle.store_core.proofs.ScheduleLemmas.{one_step_more}
use Rattle.store_core.proofs.running.run.Goals as goal

pub loop-step-preserved : goal.loop-step-preserved
loop-step-preserved c =
    let does : Does c.in-Some.step c.in_ok-take_step.field-0 (world_of c.loop-step.world)
    (world_of c.take_step.new.world) = search rules in
    let items : c.push.new.self.items ≡ c.loop-step.done.items ++ c.in_ok-take_step.field-0 ∷ [] = search rules in
    subst (λ (done : List Done).
    DoesAll (c.loop-step.yielded ++ c.in-Some.step ∷ []) done (world_of c.args.world)
    (world_of c.take_step.new.world)) (sym items)
    (one_step_more c.loop-step.yielded c.loop-step.done.items (world_of c.args.world) (world_of c.loop-step.world)
    (world_of c.take_step.new.world) c.in-Some.step c.in_ok-take_step.field-0 c.loop-step.invariant does)
