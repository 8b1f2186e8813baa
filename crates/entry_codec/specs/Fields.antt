-- The fields of a body: its numbers, each with its limit, and its codes. All else is built of these.
use Rattle.std.specs.Prelude.{◌≡◌, ℕ, ◌<◌, ◌≤◌, ℤ, unsigned_abs}
use Rattle.lin_model.specs.declared.key.TheConstants.{MAX_KEY_ATOMS}
use Rattle.lin_model.specs.declared.key_atom.TheConstants.{MAX_KEY_VARS}
use Rattle.lin_model.specs.declared.op.Op.{Op}
use Rattle.lin_model.specs.declared.point.TheConstants.{MAX_VALUE}
use Rattle.lin_model.specs.Test.{code_of}
use Rattle.entry_codec.specs.declared.kind.BodyKind.{BodyKind}
use Rattle.entry_codec.specs.declared.kind.BodyKind.TheVariants.{Sat, Unsat}
use Rattle.entry_codec.specs.declared.kind.NodeKind.{NodeKind}
use Rattle.entry_codec.specs.declared.kind.NodeKind.TheVariants.{Split, NeSplit, Combo, Fixed, Empty}
use Rattle.entry_codec.specs.declared.kind.OnKind.{OnKind}
use Rattle.entry_codec.specs.declared.kind.OnKind.TheVariants.{Atom, Side}
use Rattle.entry_codec.specs.declared.limits.TheConstants.{MAX_NODES, MAX_CUT, MAX_LEAF_TERMS, MAX_MULTIPLIER}
use Rattle.entry_codec.specs.Grammar.{Grammar, coded, tested}
use Rattle.entry_codec.specs.Numbers.{small, short, long, integer}

-- ---- of a key

-- how many atoms
unfoldable pub atom_count : Grammar ℕ
atom_count = tested (λ n. n ≤ MAX_KEY_ATOMS) short

-- how many terms an atom has
unfoldable pub term_count : Grammar ℕ
term_count = tested (λ n. (1 ≤ n) × (n ≤ MAX_KEY_VARS)) small

-- the variable of a term: its limit is the atom's
unfoldable pub term_var : Grammar ℕ
term_var = small

-- the coefficient of a term: its limit is the atom's
unfoldable pub coefficient : Grammar ℤ
coefficient = integer

-- the constant of an atom: its limit is the atom's
unfoldable pub constant : Grammar ℤ
constant = integer

-- ---- of a point

-- how many values: one for each variable of the key
unfoldable pub value_count : ℕ → Grammar ℕ
value_count width = tested (λ n. n ≡ width) small

-- a value
unfoldable pub value : Grammar ℤ
value = tested (λ n. unsigned_abs n ≤ MAX_VALUE) integer

-- ---- of a tree

-- how many nodes
unfoldable pub node_count : Grammar ℕ
node_count = tested (λ n. n ≤ MAX_NODES) long

-- the variable of a split
unfoldable pub split_var : Grammar ℕ
split_var = tested (λ n. n < MAX_KEY_VARS) small

-- the cut of a split
unfoldable pub cut : Grammar ℤ
cut = tested (λ n. unsigned_abs n ≤ MAX_CUT) integer

-- the number of an atom or a side: whether there is one is for the check
unfoldable pub reference : Grammar ℕ
reference = short

-- how many terms a combination has
unfoldable pub leaf_count : Grammar ℕ
leaf_count = tested (λ n. (1 ≤ n) × (n ≤ MAX_LEAF_TERMS)) small

-- the factor of a combination's term: whether its sign is lawful is for the check, and so is 0
unfoldable pub factor : Grammar ℤ
factor = tested (λ n. unsigned_abs n ≤ MAX_MULTIPLIER) integer

-- ---- codes of one byte

-- the comparison of an atom
unfoldable pub op : Grammar Op
op = coded code_of

-- what an entry is
abbrev pub body_code : BodyKind → ℕ
body_code Sat = 1
body_code Unsat = 2

-- the first byte of a body
unfoldable pub body_kind : Grammar BodyKind
body_kind = coded body_code

-- what a node is
abbrev pub node_code : NodeKind → ℕ
node_code Split = 1
node_code NeSplit = 2
node_code Combo = 3
node_code Fixed = 4
node_code Empty = 5

-- the first byte of a node
unfoldable pub node_kind : Grammar NodeKind
node_kind = coded node_code

-- what a term of a combination is on
abbrev pub on_code : OnKind → ℕ
on_code Atom = 0
on_code Side = 1

-- the first byte of a term of a combination
unfoldable pub on_kind : Grammar OnKind
on_kind = coded on_code
