-- Reading fields that are numbers with limits.
use Rattle.std.proofs.Common.{◌≡◌, ℕ, ◌<◌, ◌≤◌, arith}
use Rattle.std.specs.Prelude.{nat_le, nat_lt, unsigned_abs, ◌&&◌, ◌==◌}
use Rattle.std.specs.Bool.{Decides}
use Rattle.std.proofs.lemmas.Bool.Decides.{nat_tests, Decides-and, Decides-eqb, Decides-ltb}
use Rattle.lin_model.specs.declared.key.TheConstants.{MAX_KEY_ATOMS}
use Rattle.lin_model.specs.declared.key_atom.TheConstants.{MAX_KEY_VARS}
use Rattle.lin_model.specs.declared.point.TheConstants.{MAX_VALUE}
use Rattle.entry_codec.specs.declared.limits.TheConstants.{MAX_NODES, MAX_CUT, MAX_LEAF_TERMS, MAX_MULTIPLIER}
use Rattle.entry_codec.specs.Numbers.{small, short, long, integer}
use Rattle.entry_codec.specs.Fields.{atom_count, term_count, term_var, coefficient, constant, value_count, value}
use Rattle.entry_codec.specs.Fields.{node_count, split_var, cut, reference, leaf_count, factor}
use Rattle.entry_codec.specs.NumberReading.{small_at, short_at, long_at, integer_at}
use Rattle.entry_codec.specs.FieldReading.{atom_count_at, term_count_at, term_var_at, coefficient_at, constant_at}
use Rattle.entry_codec.specs.FieldReading.{value_count_at, value_at, node_count_at, split_var_at, cut_at, reference_at}
use Rattle.entry_codec.specs.FieldReading.{leaf_count_at, factor_at}
use Rattle.entry_codec.proofs.PartLaws.{Reads, Reads-tested}
use Rattle.entry_codec.proofs.NumberLaws.{Reads-small, Reads-short, Reads-long, Reads-integer}

-- ---- tests of numbers

-- at most a limit
pub Decides-at_most : (limit n : ℕ) → Decides (nat_le n limit) (n ≤ limit)
Decides-at_most limit n = (λ so. grind (arith, nat_tests), λ le. grind (arith, nat_tests))

-- from 1 to a limit
pub Decides-from_one : (limit n : ℕ) → Decides (nat_le 1 n && nat_le n limit) ((1 ≤ n) × (n ≤ limit))
Decides-from_one limit n = Decides-and (nat_le 1 n) (nat_le n limit) (Decides-at_most n 1) (Decides-at_most limit n)

-- ---- of a key

pub Reads-atom_count : Reads atom_count atom_count_at
unfolding atom_count atom_count_at
Reads-atom_count = Reads-tested short (λ n. n ≤ MAX_KEY_ATOMS) (λ n. nat_le n MAX_KEY_ATOMS) short_at (Decides-at_most MAX_KEY_ATOMS) Reads-short

pub Reads-term_count : Reads term_count term_count_at
unfolding term_count term_count_at
Reads-term_count = Reads-tested small (λ n. (1 ≤ n) × (n ≤ MAX_KEY_VARS)) (λ n. nat_le 1 n && nat_le n MAX_KEY_VARS) small_at (Decides-from_one MAX_KEY_VARS) Reads-small

pub Reads-term_var : Reads term_var term_var_at
unfolding term_var term_var_at
Reads-term_var = Reads-small

pub Reads-coefficient : Reads coefficient coefficient_at
unfolding coefficient coefficient_at
Reads-coefficient = Reads-integer

pub Reads-constant : Reads constant constant_at
unfolding constant constant_at
Reads-constant = Reads-integer

-- ---- of a point

pub Reads-value_count : (width : ℕ) → Reads (value_count width) (value_count_at width)
unfolding value_count value_count_at
Reads-value_count width =
    Reads-tested small (λ n. n ≡ width) (λ n. n == width) small_at (λ n. Decides-eqb n width) Reads-small

pub Reads-value : Reads value value_at
unfolding value value_at
Reads-value = Reads-tested integer (λ n. unsigned_abs n ≤ MAX_VALUE) (λ n. nat_le (unsigned_abs n) MAX_VALUE) integer_at (λ n. Decides-at_most MAX_VALUE (unsigned_abs n)) Reads-integer

-- ---- of a tree

pub Reads-node_count : Reads node_count node_count_at
unfolding node_count node_count_at
Reads-node_count = Reads-tested long (λ n. n ≤ MAX_NODES) (λ n. nat_le n MAX_NODES) long_at (Decides-at_most MAX_NODES) Reads-long

pub Reads-split_var : Reads split_var split_var_at
unfolding split_var split_var_at
Reads-split_var = Reads-tested small (λ n. n < MAX_KEY_VARS) (λ n. nat_lt n MAX_KEY_VARS) small_at (λ n. Decides-ltb n MAX_KEY_VARS) Reads-small

pub Reads-cut : Reads cut cut_at
unfolding cut cut_at
Reads-cut = Reads-tested integer (λ n. unsigned_abs n ≤ MAX_CUT) (λ n. nat_le (unsigned_abs n) MAX_CUT) integer_at (λ n. Decides-at_most MAX_CUT (unsigned_abs n)) Reads-integer

pub Reads-reference : Reads reference reference_at
unfolding reference reference_at
Reads-reference = Reads-short

pub Reads-leaf_count : Reads leaf_count leaf_count_at
unfolding leaf_count leaf_count_at
Reads-leaf_count = Reads-tested small (λ n. (1 ≤ n) × (n ≤ MAX_LEAF_TERMS)) (λ n. nat_le 1 n && nat_le n MAX_LEAF_TERMS) small_at (Decides-from_one MAX_LEAF_TERMS) Reads-small

pub Reads-factor : Reads factor factor_at
unfolding factor factor_at
Reads-factor = Reads-tested integer (λ n. unsigned_abs n ≤ MAX_MULTIPLIER) (λ n. nat_le (unsigned_abs n) MAX_MULTIPLIER) integer_at (λ n. Decides-at_most MAX_MULTIPLIER (unsigned_abs n)) Reads-integer
