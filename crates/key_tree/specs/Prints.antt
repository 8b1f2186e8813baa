-- Prints: what a walk looks at before it looks at an atom itself. Atoms of one form have one hash, and an atom can only
-- imply what its print gives.
use Rattle.std.specs.Prelude.{ℕ, ◌+◌, ◌*◌, ◌%◌, ◌^◌, ◌≤◌, pos, unsigned_abs, List, [], ◌∷◌}
use Rattle.std.specs.Int.{bit_at, int_rem_euclid}
use Rattle.std.specs.Int.RustNames.{bit_or}
use Rattle.lin_model.specs.declared.form.FormTerm.{FormTerm}
use Rattle.lin_model.specs.declared.op.Op.{Op}
use Rattle.lin_model.specs.declared.op.Op.TheVariants.{Le, Ge, Eq, Ne}
use Rattle.lin_model.specs.KeyAtom.{PlainKeyAtom}

-- the hash of the terms so far, and one term more
unfoldable pub with_term : ℕ → FormTerm → ℕ
with_term hash t = (hash * 31 + t.var * 7 + unsigned_abs (int_rem_euclid t.coef (pos 1021))) % 2 ^ 20

-- the hash of the terms so far and of these
unfoldable pub hash_from : ℕ → List FormTerm → ℕ
hash_from hash [] = hash
hash_from hash (t ∷ ts) = hash_from (with_term hash t) ts

-- the hash of a form
unfoldable pub hash_of : List FormTerm → ℕ
hash_of form = hash_from 0 form

-- a mask with one bit: of atoms of a form with this hash, whose comparison has this number
unfoldable pub kind_bit : ℕ → ℕ → ℕ
kind_bit hash kind = 2 ^ ((hash * 37 + kind * 19) % 64)

-- the bit of an atom with this comparison
unfoldable pub needs_bit : ℕ → Op → ℕ
needs_bit hash Le = kind_bit hash 0
needs_bit hash Ge = kind_bit hash 1
needs_bit hash Eq = kind_bit hash 2
needs_bit hash Ne = kind_bit hash 3

-- the bits of the atoms that an atom with this comparison may imply
unfoldable pub gives_bits : ℕ → Op → ℕ
gives_bits hash Le = bit_or (kind_bit hash 0) (kind_bit hash 3)
gives_bits hash Ge = bit_or (kind_bit hash 1) (kind_bit hash 3)
gives_bits hash Eq = bit_or (bit_or (kind_bit hash 0) (kind_bit hash 1)) (bit_or (kind_bit hash 2) (kind_bit hash 3))
gives_bits hash Ne = kind_bit hash 3

-- what has to be among the bits of whatever implies the atom
unfoldable pub needs_of : PlainKeyAtom → ℕ
needs_of a = needs_bit (hash_of a.form) a.op

-- the bits of all that the atom may imply
unfoldable pub gives_of : PlainKeyAtom → ℕ
gives_of a = gives_bits (hash_of a.form) a.op

-- each bit of the first mask is one of the second
abbrev pub IsWithin : ℕ → ℕ → Type 0
IsWithin part whole = (i : ℕ) → bit_at part i ≤ bit_at whole i
