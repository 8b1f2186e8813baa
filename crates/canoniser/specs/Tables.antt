-- The factors of a side, kept as a table of the 64 variables.
use Rattle.std.specs.Prelude.{◌≡◌, ℕ, ◌<◌, ◌≤◌, ℤ, pos, ◌-ℤ◌, unsigned_abs, List, slice_index_or}
use Rattle.lin_model.specs.Terms.{PlainTerm}
use Rattle.lin_model.specs.declared.atom.Atom.{Atom}
use Rattle.canoniser.specs.Gathered.{factor_on, coefficient}

-- the factor of the variable v
abbrev pub factor_in : List ℤ → ℕ → ℤ
factor_in table v = slice_index_or table v (pos 0)

-- the table has what the terms on each variable come to
abbrev pub AreFactors : List ℤ → List PlainTerm → Type 0
AreFactors table terms = (v : ℕ) → v < 64 → factor_in table v ≡ factor_on v terms

-- no factor is larger than n
abbrev pub AreWithin : ℕ → List ℤ → Type 0
AreWithin n table = (v : ℕ) → v < 64 → unsigned_abs (factor_in table v) ≤ n

-- the tables are those of the sides of the atom, so far as its coefficients tell
abbrev pub HaveCoefficients : List ℤ → List ℤ → Atom → Type 0
HaveCoefficients left right atom = (v : ℕ) → v < 64 → coefficient atom v ≡ factor_in left v -ℤ factor_in right v
