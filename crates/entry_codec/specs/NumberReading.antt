-- Reading numbers of fixed width.
use Rattle.std.specs.Prelude.{ℕ, ℤ, Ok, Err, List, [], ◌∷◌, length, take, drop, nat_lt}
use Rattle.std.specs.Prelude.{if◌then◌else◌}
use Rattle.std.specs.Int.{Width, w16, w32, w64, byte_len, from_le_bytes, cast_signed}
use Rattle.entry_codec.specs.Reading.{Read, mapped_at}

-- the number in the first byte
unfoldable pub small_at : List ℕ → Read ℕ
small_at [] = Err 0
small_at (b ∷ rest) = Ok (b, rest)

-- the number in the first bytes, as many as the width has
abbrev pub number_at : Width → List ℕ → Read ℕ
number_at w bytes =
    if nat_lt (length bytes) (byte_len w) then Err (length bytes) else
    Ok (from_le_bytes w (take (byte_len w) bytes), drop (byte_len w) bytes)

-- the number in the first two bytes
unfoldable pub short_at : List ℕ → Read ℕ
short_at = number_at w16

-- the number in the first four bytes
unfoldable pub long_at : List ℕ → Read ℕ
long_at = number_at w32

-- the signed number in the first eight bytes
unfoldable pub integer_at : List ℕ → Read ℤ
integer_at = mapped_at (cast_signed w64) (number_at w64)
