use Rattle.std.proofs.Common.{◌≡◌, length, sym, subst}
use Rattle.std.specs.Prelude.{◌↔◌, IfOk, IsTrue}
use Rattle.std.proofs.lemmas.Result.{IfOk-weaker}
use Rattle.refutation.specs.Chosen.{chosen_box, ClosesBox}
use Rattle.unsat_core.specs.Cores.{HasNamed, RefutesChosen}
use Rattle.unsat_core.specs.Steps.{PlainRefuted}
use Rattle.unsat_core.proofs.SufficesLemmas.{refutes-closes}
use Rattle.unsat_core.proofs.refuted.Refuted.closes.Goals as goal

pub returns : goal.returns
returns c =
    let choice = c.args.choice.now in
    let inside = c.self.inside in
    let plain : PlainRefuted = record {
      key = inside.key.now;
      tree = record { nodes = inside.nodes.now; terms = inside.terms.now };
    } in
    subst (λ (r : PlainRefuted). IfOk c.closes_chosen.result (λ closed. IsTrue closed
    ↔ RefutesChosen r.key r.tree choice)) c.self.view_is
    (IfOk-weaker c.closes_chosen.result
    (λ closed. IsTrue closed ↔ ClosesBox plain.key (chosen_box plain.key choice) plain.tree.nodes plain.tree.terms)
    (λ closed. IsTrue closed ↔ RefutesChosen plain.key plain.tree choice)
    (refutes-closes c.choices_are_closed_alike.ensures plain choice
    (subst (λ (r : PlainRefuted). length choice ≡ length r.key) (sym c.self.view_is) c.requires.one_each)
    (subst (λ (r : PlainRefuted). HasNamed r.key r.tree choice) (sym c.self.view_is) c.requires.named))
    c.closes_chosen.ensures)
