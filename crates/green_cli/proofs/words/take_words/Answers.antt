use Rattle.std.proofs.Common.{map, ⊎_elim}
use Rattle.std.specs.String.{string_bytes}
use Rattle.green_cli.proofs.TakenLemmas.{taken_by, takes_by, value_by}
use Rattle.green_cli.proofs.words.take_words.Goals as goal

pub returns-in_err-try_get_matches_from-clause-usage : goal.returns-in_err-try_get_matches_from-clause-usage
returns-in_err-try_get_matches_from-clause-usage c is taken =
    let kind = rw is at c.from_residual.ensures.1 in
    ⊎_elim (λ memory. let no = memory.0 in absurd (cc)) (λ usage. usage.1) kind
    (c.in_err-try_get_matches_from.ensures.passes (takes_by _ _ taken))

pub returns-clause-taken : goal.returns-clause-taken
returns-clause-taken c =
    taken_by _ (map (λ word. string_bytes word) c.args.words.now) c.requires
    c.in_ok-try_get_matches_from.ensures.kinds

pub returns-clause-values : goal.returns-clause-values
returns-clause-values c name =
    value_by _ name (map (λ word. string_bytes word) c.args.words.now) _ c.requires
    c.in_ok-try_get_matches_from.ensures.matches
