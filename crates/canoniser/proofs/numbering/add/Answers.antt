use Rattle.std.proofs.Common.{ℕ, List, eqb, ap, sym, ◌∙◌}
use Rattle.std.specs.List.{list_any}
use Rattle.canoniser.proofs.GainsLemmas.{Gains-known, Gains-new}
use Rattle.canoniser.proofs.numbering.add.Goals as goal

pub returns-then-contains : goal.returns-then-contains
returns-then-contains c =
    Gains-known c.args.order.now.items c.args.var
    (ap (λ (xs : List ℕ). list_any (λ w. eqb w c.args.var) xs) (sym c.deref.ensures.value)
    ∙ sym c.contains.ensures.value ∙ c.if-contains.true)

pub returns : goal.returns
returns c =
    Gains-new c.args.order.now.items c.push.new.self.items c.args.var
    (ap (λ (xs : List ℕ). list_any (λ w. eqb w c.args.var) xs) (sym c.deref.ensures.value)
    ∙ sym c.contains.ensures.value ∙ c.if-contains.false) (c.in_ok-push.ensures {u = tt}).items
