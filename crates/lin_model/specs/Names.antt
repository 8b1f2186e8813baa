-- What a name is made of, and the words that are none.
use Rattle.std.specs.Prelude.{ℕ, ◌≤◌, Bool, ◌||◌, ◌&&◌, nat_le, ◌==◌, List, length, slice_index, All, IsTrue, IsFalse}
use Rattle.std.specs.Prelude.{codes, bytes_eq}
use Rattle.lin_model.specs.declared.name.TheConstants.{MAX_NAME}

-- `A` to `Z` or `a` to `z`
abbrev pub is_letter : ℕ → Bool
is_letter b = (nat_le 65 b && nat_le b 90) || (nat_le 97 b && nat_le b 122)

-- `0` to `9`
abbrev pub is_digit : ℕ → Bool
is_digit b = nat_le 48 b && nat_le b 57

-- a letter, `_` or `$`
abbrev pub is_name_start : ℕ → Bool
is_name_start b = is_letter b || b == 95 || b == 36

-- what begins a name, a digit or `.`
abbrev pub is_name_byte : ℕ → Bool
is_name_byte b = is_name_start b || is_digit b || b == 46

-- the words that no variable may be called
abbrev pub is_reserved : List ℕ → Bool
is_reserved bytes =
    bytes_eq bytes (codes "green") || bytes_eq bytes (codes "executor") || bytes_eq bytes (codes "query")
    || bytes_eq bytes (codes "var") || bytes_eq bytes (codes "end")
    || bytes_eq bytes (codes "import") || bytes_eq bytes (codes "push") || bytes_eq bytes (codes "pop")
    || bytes_eq bytes (codes "least") || bytes_eq bytes (codes "greatest") || bytes_eq bytes (codes "mod")

-- a name: at most 64 bytes, the first of which begins a name, and no reserved word
pub record IsName (bytes : List ℕ) : Type 0 where
  pub short : length bytes ≤ MAX_NAME
  pub starts : IsTrue (is_name_start (slice_index bytes 0))
  pub goes_on : All (λ b. IsTrue (is_name_byte b)) bytes
  pub free : IsFalse (is_reserved bytes)
