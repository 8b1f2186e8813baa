-- The canonical form of an atom.
use Rattle.std.specs.Prelude.{ℕ, suc, ℤ, pos, neg_ℤ, ◌%◌, int_lt, unsigned_abs, List, [], ◌∷◌, map}
use Rattle.std.specs.Prelude.{Bool, false, if◌then◌else◌, ◌==◌, Option, Some, None}
use Rattle.std.specs.List.{filter_map}
use Rattle.std.specs.Ordering.{int_eq}
use Rattle.lin_model.specs.declared.form.FormTerm.{FormTerm}
use Rattle.lin_model.specs.declared.atom.Atom.{Atom}
use Rattle.lin_model.specs.declared.op.Op.{Op}
use Rattle.lin_model.specs.declared.op.Op.TheVariants.{Le, Ge, Eq, Ne}
use Rattle.lin_model.specs.Form.{divisor}
use Rattle.lin_model.specs.Quotients.{floor_div, ceil_div}
use Rattle.lin_model.specs.KeyAtom.{PlainKeyAtom}
use Rattle.lin_model.specs.Test.{passes}
use Rattle.canoniser.specs.declared.atom_form.AtomForm.{AtomForm}
use Rattle.canoniser.specs.declared.atom_form.AtomForm.TheVariants.{True, False, KeyAtom}
use Rattle.canoniser.specs.Gathered.{coefficient, constant, op_of, loose}

-- the terms of an atom over the variables of the list, the first of which has the number k, without coefficients 0
abbrev pub terms_from : ℕ → List ℕ → Atom → List FormTerm
terms_from k [] atom = []
terms_from k (v ∷ vs) atom =
    if int_eq (coefficient atom v) (pos 0) then terms_from (suc k) vs atom
    else record { var = k; coef = coefficient atom v } ∷ terms_from (suc k) vs atom

-- the atom as `form op constant`, its variables numbered by their places in the list
abbrev pub gathered : List ℕ → Atom → PlainKeyAtom
gathered order atom = record {
  form = terms_from 0 order atom;
  op = op_of atom.cmp;
  constant = loose atom.cmp (constant atom);
}

-- both sides times -1
abbrev pub turned_op : Op → Op
turned_op Le = Ge
turned_op Ge = Le
turned_op Eq = Eq
turned_op Ne = Ne

abbrev pub turned : PlainKeyAtom → PlainKeyAtom
turned a = record {
  form = map (λ t. record { var = t.var; coef = neg_ℤ t.coef }) a.form;
  op = turned_op a.op;
  constant = neg_ℤ a.constant;
}

-- the first coefficient is negative
abbrev pub begins_negative : List FormTerm → Bool
begins_negative [] = false
begins_negative (t ∷ ts) = int_lt t.coef (pos 0)

-- turned where the first coefficient is negative
abbrev pub oriented : PlainKeyAtom → PlainKeyAtom
oriented a = if begins_negative a.form then turned a else a

abbrev pub divides : ℕ → ℤ → Bool
divides g c = unsigned_abs c % g == 0

-- every coefficient divided by g
abbrev pub divided : ℕ → List FormTerm → List FormTerm
divided g form = map (λ t. record { var = t.var; coef = floor_div t.coef g }) form

-- an atom whose coefficients g divides, with both sides divided by it
abbrev pub reduced : ℕ → List FormTerm → Op → ℤ → AtomForm
reduced g form Le c = KeyAtom (record { form = divided g form; op = Le; constant = floor_div c g })
reduced g form Ge c = KeyAtom (record { form = divided g form; op = Ge; constant = ceil_div c g })
reduced g form Eq c =
    if divides g c then KeyAtom (record { form = divided g form; op = Eq; constant = floor_div c g }) else False
reduced g form Ne c =
    if divides g c then KeyAtom (record { form = divided g form; op = Ne; constant = floor_div c g }) else True

-- an atom without variables, whose left side is 0
abbrev pub alone : Op → ℤ → AtomForm
alone op c = if passes op c (pos 0) then True else False

-- the atom divided by the greatest common divisor of its coefficients, if it has any
abbrev pub primitive : List FormTerm → Op → ℤ → AtomForm
primitive [] op c = alone op c
primitive (t ∷ ts) op c = reduced (divisor (t ∷ ts)) (t ∷ ts) op c

abbrev pub primitive_of : PlainKeyAtom → AtomForm
primitive_of a = primitive a.form a.op a.constant

-- the canonical form of an atom over the variables of the list: its variables on the left by their places in the list,
-- the first coefficient positive, and no common divisor of the coefficients but 1
unfoldable pub canonical_form : List ℕ → Atom → AtomForm
canonical_form order atom = primitive_of (oriented (gathered order atom))

-- the canonical atom, where the form is one
abbrev pub key_atom_in : AtomForm → Option PlainKeyAtom
key_atom_in True = None
key_atom_in False = None
key_atom_in (KeyAtom a) = Some a

-- the canonical atoms of these atoms, in their order
abbrev pub key_atoms : List ℕ → List Atom → List PlainKeyAtom
key_atoms order atoms = filter_map (λ atom. key_atom_in (canonical_form order atom)) atoms
