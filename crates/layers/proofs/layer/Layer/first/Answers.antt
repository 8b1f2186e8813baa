use Rattle.std.proofs.Common.{Some, length}
use Rattle.atom_implies.specs.Implies.{Covers}
use Rattle.cert_check.specs.Decides.{Decides}
use Rattle.layers.proofs.FirstLemmas.{from_start}
use Rattle.layers.proofs.LayerLemmas.{deciding_tests, satisfied_is_first, core_is_first, one_cost, both_costs}
use Rattle.layers.proofs.layer.Layer.first.Goals as goal

pub returns-in-Some-clause-first : goal.returns-in-Some-clause-first
returns-in-Some-clause-first g c =
    from_start c.args.self.now c.args.asked.now (Some c.in-Some.place)
    (satisfied_is_first c.args.self.now c.self.inside.entries.items c.self.inside.satisfied c.self.inside.refuted
    c.self.invariant c.self.view_is c.deciding_entries_settle.ensures c.args.asked.now
    (λ e. Decides e c.args.asked.now) (λ key. Covers key c.args.asked.now) (λ key. Covers c.args.asked.now key)
    (deciding_tests c.args.asked.now) (λ e decides. decides) c.in-Some.place (c.in-Some.ensures {u = tt}).first)

pub returns-in-None-clause-first : goal.returns-in-None-clause-first
returns-in-None-clause-first g c =
    from_start c.args.self.now c.args.asked.now c.first_for-in-None.result
    (core_is_first c.args.self.now c.self.inside.entries.items c.self.inside.satisfied c.self.inside.refuted
    c.self.invariant c.self.view_is (λ e. Decides e c.args.asked.now) (λ key. Covers key c.args.asked.now)
    (λ key. Covers c.args.asked.now key) (deciding_tests c.args.asked.now) c.first_for-in-None.result
    (c.in-None.ensures {u = tt}).first c.first_for-in-None.ensures.first)

pub returns-in-Some-clause-cost : goal.returns-in-Some-clause-cost
returns-in-Some-clause-cost g c nodes has =
    one_cost c.args.self.now c.self.inside.entries.items c.self.inside.satisfied c.self.inside.refuted c.self.invariant
    c.self.view_is (length c.args.asked.now) nodes c.args.steps.now _ (c.in-Some.ensures {u = tt}).cost has

pub returns-in-None-clause-cost : goal.returns-in-None-clause-cost
returns-in-None-clause-cost g c nodes has =
    both_costs c.args.self.now c.self.inside.entries.items c.self.inside.satisfied c.self.inside.refuted c.self.invariant
    c.self.view_is (length c.args.asked.now) nodes c.args.steps.now _ _ (c.in-None.ensures {u = tt}).cost
    c.first_for-in-None.ensures.cost has
