-- Numbers of fixed width as bytes, the lowest byte first. Signed ones are two's complement in eight bytes.
use Rattle.std.specs.Prelude.{ℕ, ◌^◌, ◌<◌, ℤ, FitsSigned, List, [], ◌∷◌}
use Rattle.std.specs.Int.{w16, w32, w64, to_le_bytes, cast_unsigned}
use Rattle.entry_codec.specs.Grammar.{Grammar, field}

-- a number in one byte
unfoldable pub small : Grammar ℕ
small = field (λ n. n ∷ []) (λ n. n < 2 ^ 8)

-- a number in two bytes
unfoldable pub short : Grammar ℕ
short = field (to_le_bytes w16) (λ n. n < 2 ^ 16)

-- a number in four bytes
unfoldable pub long : Grammar ℕ
long = field (to_le_bytes w32) (λ n. n < 2 ^ 32)

-- the eight bytes of a signed number
abbrev pub integer_bytes : ℤ → List ℕ
integer_bytes n = to_le_bytes w64 (cast_unsigned w64 n)

-- a signed number in eight bytes
unfoldable pub integer : Grammar ℤ
integer = field integer_bytes (FitsSigned w64)
