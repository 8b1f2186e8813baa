-- The frame of an entry, as the checker computes it.
use Rattle.std.proofs.Common.{◌≡◌, pos, [], ◌∷◌, refl}
use Rattle.lin_model.specs.declared.op.Op.TheVariants.{Le, Ge}
use Rattle.lin_model.specs.Bounded.{variable}
use Rattle.cert_check.specs.declared.entry.Entry.{Entry}
use Rattle.cert_check.specs.declared.entry.Entry.TheVariants.{Sat}
use Rattle.entry_codec.specs.Numbers.{small, short, integer}
use Rattle.entry_codec.specs.Fields.{atom_count, term_count, term_var, coefficient, constant, value_count, value, op}
use Rattle.entry_codec.specs.Fields.{body_kind}
use Rattle.entry_codec.specs.Atoms.{term, form_and_constant, atom_parts, atom, key, point}
use Rattle.entry_codec.specs.Bodies.{body_fields, body, body_bytes}
use Rattle.entry_codec.specs.Frames.{frame_of}

-- `v0 <= 3` and `v0 >= 3`, satisfied by 3
abbrev three : Entry
three = Sat (record {
  key = record { form = variable 0; op = Le; constant = pos 3 } ∷ record {
    form = variable 0;
    op = Ge;
    constant = pos 3;
  } ∷ [];
  point = pos 3 ∷ [];
})

-- a length of 50, an entry with a point, two atoms, each of one term, and one value
three_is_framed : frame_of three ≡
    50 ∷ 0 ∷ 0 ∷ 0 ∷ 1 ∷ 2 ∷ 0 ∷ 1 ∷ 1 ∷ 0 ∷ 1 ∷ 0 ∷ 0 ∷ 0 ∷ 0 ∷ 0 ∷ 0 ∷ 0 ∷ 3 ∷ 0 ∷ 0 ∷ 0 ∷ 0 ∷ 0 ∷ 0 ∷ 0 ∷ 2 ∷
    1 ∷ 0 ∷ 1 ∷ 0 ∷ 0 ∷ 0 ∷ 0 ∷ 0 ∷ 0 ∷ 0 ∷ 3 ∷ 0 ∷ 0 ∷ 0 ∷ 0 ∷ 0 ∷ 0 ∷ 0 ∷ 1 ∷ 3 ∷ 0 ∷ 0 ∷ 0 ∷ 0 ∷ 0 ∷ 0 ∷ 0 ∷ []
unfolding body_bytes body body_fields key point atom atom_parts form_and_constant term body_kind op atom_count
    term_count term_var coefficient constant value_count value small short integer
three_is_framed = refl
