use Rattle.std.proofs.Common.{ℤ, List, sym, subst}
use Rattle.cert_check.specs.Replies.{has_core, is_spent}
use Rattle.pipeline.specs.declared.answers.Verdict.TheVariants.{Sat}
use Rattle.pipeline.specs.Asking.{IsRightFor}
use Rattle.pipeline.proofs.VerdictLemmas.{all_found, first_passes, none_passes, right_sat, right_unknown, right_unsat}
use Rattle.pipeline.proofs.verdicts.verdict_on.Goals as goal

pub returns-in-Some : goal.returns-in-Some
returns-in-Some c =
    right_unsat c.args.query.now c.args.slices.now c.args.replies.now c.in-Some.s c.requires.keyed c.requires.ends
    c.requires.settled (first_passes has_core c.args.replies.now c.in-Some.s (sym (c.in-Some.ensures {u = tt})))

pub returns-in-Some-first_spent : goal.returns-in-Some-first_spent
returns-in-Some-first_spent c =
    right_unknown c.args.query.now c.args.slices.now c.args.replies.now c.in-Some-first_spent.s c.requires.keyed
    c.requires.ends (none_passes has_core c.args.replies.now (sym (c.in_default.ensures {u = tt})))
    (first_passes is_spent c.args.replies.now c.in-Some-first_spent.s
    (sym (c.in-Some-first_spent.ensures {u = tt})))

pub values_of-requires-clause-found : goal.values_of-requires-clause-found
values_of-requires-clause-found c =
    all_found c.args.slices.now c.args.replies.now c.requires.ends c.requires.settled
    (none_passes has_core c.args.replies.now (sym (c.in_default.ensures {u = tt})))
    (none_passes is_spent c.args.replies.now (sym (c.in_default-first_spent.ensures {u = tt})))

pub returns : goal.returns
returns c =
    subst (λ (values : List ℤ). IsRightFor c.args.query.now c.args.slices.now c.args.replies.now (Sat values))
    (sym c.from_vec.ensures)
    (right_sat c.args.query.now c.args.slices.now c.args.replies.now c.in_ok-values.values.items c.requires.keyed
    (c.in_ok-values.ensures {u = tt}).holds (c.in_ok-values.ensures {u = tt}).placed)
