-- Reading canonical atoms, keys and points.
use Rattle.std.specs.Prelude.{ℕ, ℤ, Bool, true, ◌&&◌, Ok, List}
use Rattle.std.specs.Option.{option_map_or}
use Rattle.std.specs.Ordering.{is_lt}
use Rattle.lin_model.specs.declared.form.FormTerm.{FormTerm}
use Rattle.lin_model.specs.AtomOrder.{compare_atoms}
use Rattle.lin_model.specs.KeyAtom.{PlainKeyAtom}
use Rattle.entry_codec.specs.Reading.{Read, ◌>>=◌, tested_at, counted_at}
use Rattle.entry_codec.specs.Atoms.{last_of}
use Rattle.entry_codec.specs.Canonical.{is_canonical}
use Rattle.entry_codec.specs.FieldReading.{op_at, atom_count_at, term_count_at, term_var_at, coefficient_at, constant_at}
use Rattle.entry_codec.specs.FieldReading.{value_count_at, value_at}

-- a term
unfoldable pub term_at : List ℕ → Read FormTerm
term_at bytes = do
  var ← term_var_at bytes
  coef ← coefficient_at var.1
  Ok (record { var = var.0; coef = coef.0 }, coef.1)

-- the terms of an atom, with their number
unfoldable pub terms_at : List ℕ → Read (List FormTerm)
terms_at = counted_at term_count_at (λ before. term_at)

-- the form and the constant of an atom
unfoldable pub form_and_constant_at : List ℕ → Read (List FormTerm × ℤ)
form_and_constant_at bytes = do
  form ← terms_at bytes
  constant ← constant_at form.1
  Ok ((form.0, constant.0), constant.1)

-- an atom, canonical or not
unfoldable pub atom_parts_at : List ℕ → Read PlainKeyAtom
atom_parts_at bytes = do
  op ← op_at bytes
  others ← form_and_constant_at op.1
  Ok (record { form = others.0.0; op = op.0; constant = others.0.1 }, others.1)

-- whether the atom comes behind the last of those before it
abbrev pub comes_behind : List PlainKeyAtom → PlainKeyAtom → Bool
comes_behind before a = option_map_or (λ last. is_lt (compare_atoms last a)) (last_of before) true

-- whether the atom is canonical and comes behind those before it
unfoldable pub fits_behind : List PlainKeyAtom → PlainKeyAtom → Bool
fits_behind before a = is_canonical a && comes_behind before a

-- an atom of a key, behind those before it
unfoldable pub atom_at : List PlainKeyAtom → List ℕ → Read PlainKeyAtom
atom_at before = tested_at (fits_behind before) atom_parts_at

-- a key
unfoldable pub key_at : List ℕ → Read (List PlainKeyAtom)
key_at = counted_at atom_count_at atom_at

-- a point of a key of this width
unfoldable pub point_at : ℕ → List ℕ → Read (List ℤ)
point_at width = counted_at (value_count_at width) (λ before. value_at)
