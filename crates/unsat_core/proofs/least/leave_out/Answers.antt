use Rattle.std.proofs.Common.{◌≡◌, true, false, get_or, set, sym, ap, ◌∙◌}
use Rattle.std.proofs.lemmas.Bool.{iff_false}
use Rattle.std.proofs.lemmas.List.{set-get_or, set-set}
use Rattle.unsat_core.specs.Renumbered.{names}
use Rattle.unsat_core.proofs.SufficesLemmas.{IsNeeded-bound}
use Rattle.unsat_core.proofs.least.leave_out.Goals as goal

pub returns : goal.returns
returns c =
    let chosen : get_or c.args.choice.now c.args.atom false ≡ true = c.if-not-choice-atom.false in
    let not_named : names c.args.refuted.now.tree c.args.atom ≡ false = cc in
    record {
      same = set-set c.args.choice.now c.args.atom false true
          ∙ (ap (set c.args.choice.now c.args.atom) (sym chosen) ∙ set-get_or c.args.choice.now c.args.atom false);
      needed = λ _. IsNeeded-bound c.args.refuted.now c.args.choice.now c.args.atom c.requires.suffices chosen
          not_named (iff_false c.in_ok-closes.ensures c.if-branch.false);
    }
