-- Reading the fields of a body. A number beyond its field's limit is at fault, and so is a byte that is no code.
use Rattle.std.specs.Prelude.{ℕ, zero, suc, ℤ, ◌&&◌, ◌==◌, nat_lt, nat_le, unsigned_abs, Ok, Err, List, [], ◌∷◌, length}
use Rattle.lin_model.specs.declared.key.TheConstants.{MAX_KEY_ATOMS}
use Rattle.lin_model.specs.declared.key_atom.TheConstants.{MAX_KEY_VARS}
use Rattle.lin_model.specs.declared.op.Op.{Op}
use Rattle.lin_model.specs.declared.op.Op.TheVariants.{Le, Ge, Eq, Ne}
use Rattle.lin_model.specs.declared.point.TheConstants.{MAX_VALUE}
use Rattle.entry_codec.specs.declared.kind.BodyKind.{BodyKind}
use Rattle.entry_codec.specs.declared.kind.BodyKind.TheVariants.{Sat, Unsat}
use Rattle.entry_codec.specs.declared.kind.NodeKind.{NodeKind}
use Rattle.entry_codec.specs.declared.kind.NodeKind.TheVariants.{Split, NeSplit, Combo, Fixed, Empty}
use Rattle.entry_codec.specs.declared.kind.OnKind.{OnKind}
use Rattle.entry_codec.specs.declared.kind.OnKind.TheVariants.{Atom, Side}
use Rattle.entry_codec.specs.declared.limits.TheConstants.{MAX_NODES, MAX_CUT, MAX_LEAF_TERMS, MAX_MULTIPLIER}
use Rattle.entry_codec.specs.Reading.{Read, tested_at}
use Rattle.entry_codec.specs.NumberReading.{small_at, short_at, long_at, integer_at}

-- ---- of a key

-- how many atoms
unfoldable pub atom_count_at : List ℕ → Read ℕ
atom_count_at = tested_at (λ n. nat_le n MAX_KEY_ATOMS) short_at

-- how many terms an atom has
unfoldable pub term_count_at : List ℕ → Read ℕ
term_count_at = tested_at (λ n. nat_le 1 n && nat_le n MAX_KEY_VARS) small_at

-- the variable of a term
unfoldable pub term_var_at : List ℕ → Read ℕ
term_var_at = small_at

-- the coefficient of a term
unfoldable pub coefficient_at : List ℕ → Read ℤ
coefficient_at = integer_at

-- the constant of an atom
unfoldable pub constant_at : List ℕ → Read ℤ
constant_at = integer_at

-- ---- of a point

-- how many values
unfoldable pub value_count_at : ℕ → List ℕ → Read ℕ
value_count_at width = tested_at (λ n. n == width) small_at

-- a value
unfoldable pub value_at : List ℕ → Read ℤ
value_at = tested_at (λ n. nat_le (unsigned_abs n) MAX_VALUE) integer_at

-- ---- of a tree

-- how many nodes
unfoldable pub node_count_at : List ℕ → Read ℕ
node_count_at = tested_at (λ n. nat_le n MAX_NODES) long_at

-- the variable of a split
unfoldable pub split_var_at : List ℕ → Read ℕ
split_var_at = tested_at (λ n. nat_lt n MAX_KEY_VARS) small_at

-- the cut of a split
unfoldable pub cut_at : List ℕ → Read ℤ
cut_at = tested_at (λ n. nat_le (unsigned_abs n) MAX_CUT) integer_at

-- the number of an atom or a side
unfoldable pub reference_at : List ℕ → Read ℕ
reference_at = short_at

-- how many terms a combination has
unfoldable pub leaf_count_at : List ℕ → Read ℕ
leaf_count_at = tested_at (λ n. nat_le 1 n && nat_le n MAX_LEAF_TERMS) small_at

-- the factor of a combination's term
unfoldable pub factor_at : List ℕ → Read ℤ
factor_at = tested_at (λ n. nat_le (unsigned_abs n) MAX_MULTIPLIER) integer_at

-- ---- codes of one byte

-- the comparison of an atom
unfoldable pub op_at : List ℕ → Read Op
op_at [] = Err 0
op_at (suc zero ∷ rest) = Ok (Le, rest)
op_at (suc (suc zero) ∷ rest) = Ok (Ge, rest)
op_at (suc (suc (suc zero)) ∷ rest) = Ok (Eq, rest)
op_at (suc (suc (suc (suc zero))) ∷ rest) = Ok (Ne, rest)
op_at (b ∷ rest) = Err (suc (length rest))

-- what an entry is
unfoldable pub body_kind_at : List ℕ → Read BodyKind
body_kind_at [] = Err 0
body_kind_at (suc zero ∷ rest) = Ok (Sat, rest)
body_kind_at (suc (suc zero) ∷ rest) = Ok (Unsat, rest)
body_kind_at (b ∷ rest) = Err (suc (length rest))

-- what a node is
unfoldable pub node_kind_at : List ℕ → Read NodeKind
node_kind_at [] = Err 0
node_kind_at (suc zero ∷ rest) = Ok (Split, rest)
node_kind_at (suc (suc zero) ∷ rest) = Ok (NeSplit, rest)
node_kind_at (suc (suc (suc zero)) ∷ rest) = Ok (Combo, rest)
node_kind_at (suc (suc (suc (suc zero))) ∷ rest) = Ok (Fixed, rest)
node_kind_at (suc (suc (suc (suc (suc zero)))) ∷ rest) = Ok (Empty, rest)
node_kind_at (b ∷ rest) = Err (suc (length rest))

-- what a term of a combination is on
unfoldable pub on_kind_at : List ℕ → Read OnKind
on_kind_at [] = Err 0
on_kind_at (zero ∷ rest) = Ok (Atom, rest)
on_kind_at (suc zero ∷ rest) = Ok (Side, rest)
on_kind_at (b ∷ rest) = Err (suc (length rest))
