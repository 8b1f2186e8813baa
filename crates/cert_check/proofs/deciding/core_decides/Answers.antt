use Rattle.std.proofs.Common.{List, subst, ◌↔◌}
use Rattle.std.specs.Prelude.{IsTrue}
use Rattle.lin_model.specs.KeyAtom.{PlainKeyAtom}
use Rattle.atom_implies.specs.Implies.{Covers}
use Rattle.cert_check.proofs.CoverLemmas.{turned_cost}
use Rattle.cert_check.proofs.deciding.core_decides.Goals as goal

pub returns-clause-exact : goal.returns-clause-exact
returns-clause-exact g c =
    subst (λ (key : List PlainKeyAtom). IsTrue c.covers.result ↔ Covers c.args.key.now key) c.key.ensures.key
    c.covers.ensures.exact

pub returns-clause-cost : goal.returns-clause-cost
returns-clause-cost g c = turned_cost _ _ _ _ _ c.key.ensures.key c.covers.ensures.cost
