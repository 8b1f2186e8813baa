-- The plain spelling is read back.
use Rattle.std.proofs.Common.{rules, ◌≡◌, ℕ, List, length, false, sym, subst}
use Rattle.std.proofs.lemmas.Bool.{false≢true}
use Rattle.lin_model.specs.Conditions.{IsCondition}
use Rattle.lin_text.specs.Queries.{Spells}
use Rattle.lin_text.specs.Spelling.{condition_text}
use Rattle.lin_text.proofs.write.write_query.Goals as goal

pub returns-clause-read_back : goal.returns-clause-read_back
unfolding condition_text
returns-clause-read_back c =
    let text : c.push_atoms.new.out.items ≡ condition_text c.args.c.now = search rules in
    let fits : IsCondition c.args.c.now = search rules in
    subst (λ (t : List ℕ). Spells false t 0 c.args.c.now (length t)) (sym text)
    (c.written_is_spelled.ensures false c.args.c.now fits (λ no. absurd (false≢true no)))
