use Rattle.std.proofs.Common.{pos}
use Rattle.lin_text.proofs.KeyAtomLemmas.{side_text-split, joined}
use Rattle.lin_text.proofs.key_atom.push_form.Goals as goal

pub returns-in_ok-push_first_multiple-in-len1-up : goal.returns-in_ok-push_first_multiple-in-len1-up
returns-in_ok-push_first_multiple-in-len1-up c =
    joined c.push_later_multiples.result _ _ _ _ _ _ c.in_ok-push_first_multiple-in-len1-up.ensures
    (side_text-split c.args.terms.now (record { var = 0; coef = pos 0 }) c.in-len1-up.len_at_least)
    c.push_later_multiples.ensures
