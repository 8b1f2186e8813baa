use Rattle.std.proofs.Common.{List, ℕ, sym, subst}
use Rattle.std.specs.Prelude.{OnOk}
use Rattle.canoniser.specs.Numbering.{Gains}
use Rattle.canoniser.proofs.GainsLemmas.{Gains-none_at, one_named}
use Rattle.canoniser.proofs.numbering.add_numbered.Goals as goal

pub returns-in-None : goal.returns-in-None
returns-in-None c = Gains-none_at c.args.order.now.items c.args.atoms.now c.args.j c.in-None.ensures.lookup.3

pub returns-in-Some : goal.returns-in-Some
returns-in-Some c =
    let found = c.in-Some.ensures.lookup in
    subst (λ (vars : List ℕ). OnOk c.add_atom.result (Gains c.args.order.now.items c.add_atom.new.order.items vars))
    (sym (one_named c.args.atoms.now c.args.j c.in-Some.atom.now found.3.0 found.1)) c.add_atom.ensures
