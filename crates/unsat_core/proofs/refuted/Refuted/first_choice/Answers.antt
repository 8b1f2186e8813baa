use Rattle.std.proofs.Common.{Bool, List, subst}
use Rattle.std.proofs.lemmas.Result.{IfOk-weaker}
use Rattle.lin_model.specs.KeyAtom.{PlainKeyAtom}
use Rattle.unsat_core.specs.Steps.{AddsBounds, PlainRefuted, Suffices}
use Rattle.unsat_core.proofs.SufficesLemmas.{Suffices-first}
use Rattle.unsat_core.proofs.refuted.Refuted.first_choice.Goals as goal

pub returns : goal.returns
returns c =
    let inside = c.self.inside in
    let plain : PlainRefuted = record {
      key = inside.key.now;
      tree = record { nodes = inside.nodes.now; terms = inside.terms.now };
    } in
    IfOk-weaker c.with_bounds.result
    (λ choice. AddsBounds c.atoms.result.now c.deref.result.now choice.items)
    (λ choice. Suffices c.args.self.now choice.items)
    (λ choice adds.
    subst (λ (r : PlainRefuted). Suffices r choice.items) c.self.view_is
    (Suffices-first c.others_can_go.ensures plain inside.named.items choice.items c.self.invariant.refutes
    c.self.invariant.named
    (subst (λ (flags : List Bool). AddsBounds inside.key.now flags choice.items) c.deref.ensures.value
    (subst (λ (key : List PlainKeyAtom). AddsBounds key c.deref.result.now choice.items) c.atoms.ensures.atoms adds))))
    c.with_bounds.ensures
