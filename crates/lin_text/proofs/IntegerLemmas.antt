-- Numbers with their signs.
use Rattle.std.proofs.Common.{◌≡◌, ℤ, pos, negsuc, refl}
use Rattle.std.specs.Fmt.{signed_decimal}
use Rattle.lin_text.specs.Spelling.{integer, minus_of}

-- std spells a number with its sign as the plain spelling does
pub signed_decimal-integer : (z : ℤ) → signed_decimal z ≡ integer z
unfolding integer minus_of
signed_decimal-integer (pos n) = refl
signed_decimal-integer (negsuc n) = refl

pub ruleset integers = (signed_decimal-integer)
