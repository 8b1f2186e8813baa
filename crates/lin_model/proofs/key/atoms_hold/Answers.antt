use Rattle.std.proofs.Common.{arith, ap}
use Rattle.lin_model.specs.KeyAtom.{PlainKeyAtom}
use Rattle.lin_model.specs.Form.{form_width}
use Rattle.lin_model.proofs.KeyLemmas.{atom_within}
use Rattle.lin_model.proofs.key.atoms_hold.Goals as goal

pub holds_at-requires-clause-wide : goal.holds_at-requires-clause-wide
holds_at-requires-clause-wide c =
    omega (
      arith,
      atom_within c.args.atoms.now _ c.loop-atom.atom-index c.atom-item.result c.loop-atom-test.true
          c.requires.wide,
      ap (λ (a : PlainKeyAtom). form_width a.form) c.atom-item.is,
    )
