-- What follows from the definition of keys: for the proofs of the crates above.
use Rattle.std.proofs.Common.{◌≡◌, ◌≢◌, ℕ, pos, Bool, true, false, List, [], length, inl, inr, arith, ap, subst}
use Rattle.std.specs.Prelude.{if◌then◌else◌}
use Rattle.lin_model.specs.Conditions.{PlainCondition}
use Rattle.lin_model.specs.KeyAtom.{PlainKeyAtom}
use Rattle.lin_model.specs.Lists.{nil_from_none}
use Rattle.lin_model.specs.Test.{passes}
use Rattle.lin_model.specs.declared.atom.Atom.{Atom}
use Rattle.slicer.specs.Slices.{PlainSlice}
use Rattle.canoniser.specs.declared.atom_form.AtomForm.TheVariants.{True, False, KeyAtom}
use Rattle.canoniser.specs.Forms.{gathered, canonical_form}
use Rattle.canoniser.specs.Keys.{IsGiven, IsKeyOf}
use Rattle.canoniser.specs.Numbering.{order_of}

-- the canonical form of an atom over no variables is True or False
alone_is_no_atom : (test : Bool) (a : PlainKeyAtom) → (if test then True else False) ≢ KeyAtom a
alone_is_no_atom true a e = cc
alone_is_no_atom false a e = cc

no_key_atom : (atom : Atom) (a : PlainKeyAtom) → canonical_form [] atom ≢ KeyAtom a
unfolding canonical_form
no_key_atom atom a is =
    let gathered_atom = gathered [] atom in
    alone_is_no_atom (passes gathered_atom.op gathered_atom.constant (pos 0)) a is

-- no atom is given by a slice without variables
none_given : (c : PlainCondition) (s : PlainSlice) (a : PlainKeyAtom) → order_of c s ≡ [] → ¬ IsGiven c s a
none_given c s a none given = elim given [
  | inl any ↦ no_key_atom any.1 a (subst (λ (order : List ℕ). canonical_form order any.1 ≡ KeyAtom a) none any.4)
  | inr bound ↦ (let short : length (order_of c s) ≡ 0 = ap length none in omega (arith, bound.1))
]

-- the key of a slice without variables is empty
pub no_key : (c : PlainCondition) (s : PlainSlice) (key : List PlainKeyAtom) → order_of c s ≡ [] → IsKeyOf c s key
    → key ≡ []
no_key c s key none is = nil_from_none key (λ a has. none_given c s a none ((is.just a).0 has).one)
