use Rattle.std.proofs.Common.{List, subst, ◌↔◌}
use Rattle.std.specs.Prelude.{IsTrue}
use Rattle.lin_model.specs.KeyAtom.{PlainKeyAtom}
use Rattle.atom_implies.specs.Implies.{Covers}
use Rattle.cert_check.proofs.deciding.sat_decides.Goals as goal

pub returns-clause-exact : goal.returns-clause-exact
returns-clause-exact g c =
    subst (λ (key : List PlainKeyAtom). IsTrue c.covers.result ↔ Covers key c.args.key.now) c.key.ensures.key
    c.covers.ensures.exact
