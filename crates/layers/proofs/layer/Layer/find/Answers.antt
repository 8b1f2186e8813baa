use Rattle.std.proofs.Common.{◌≡◌}
use Rattle.cert_check.specs.Decides.{key_of}
use Rattle.layers.proofs.LayerLemmas.{key_tests, own_decides, satisfied_is_first, core_is_first}
use Rattle.layers.proofs.layer.Layer.find.Goals as goal

pub returns-in-Some : goal.returns-in-Some
returns-in-Some c =
    satisfied_is_first c.args.self.now c.self.inside.entries.items c.self.inside.satisfied c.self.inside.refuted
    c.self.invariant c.self.view_is c.deciding_entries_settle.ensures c.args.key.now
    (λ e. key_of e ≡ c.args.key.now) (λ key. key ≡ c.args.key.now) (λ key. key ≡ c.args.key.now)
    (key_tests c.args.key.now) (own_decides c.entries_decide_their_keys.ensures c.args.key.now) c.in-Some.place
    (c.in-Some.ensures {u = tt})

pub returns-in-None : goal.returns-in-None
returns-in-None c =
    core_is_first c.args.self.now c.self.inside.entries.items c.self.inside.satisfied c.self.inside.refuted
    c.self.invariant c.self.view_is (λ e. key_of e ≡ c.args.key.now) (λ key. key ≡ c.args.key.now)
    (λ key. key ≡ c.args.key.now) (key_tests c.args.key.now) c.find-in-None.result (c.in-None.ensures {u = tt})
    c.find-in-None.ensures
