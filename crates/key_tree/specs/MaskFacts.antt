-- What masks are within others: for the proofs of the crates above too.
use Rattle.std.proofs.Common.{ℕ, arith}
use Rattle.std.specs.Int.RustNames.{bit_or}
use Rattle.std.proofs.lemmas.Nat.Bits.{bit_at_or}
use Rattle.key_tree.specs.Prints.{IsWithin}

-- a mask is within itself
pub within_itself : (mask : ℕ) → IsWithin mask mask
within_itself mask i = omega arith

-- what is within a mask is within each that has it
pub within_more : (part mid whole : ℕ) → IsWithin part mid → IsWithin mid whole → IsWithin part whole
within_more part mid whole first next i = omega (arith, first i, next i)

-- each of two masks is within both
pub within_left : (a b : ℕ) → IsWithin a (bit_or a b)
within_left a b i = omega (arith, bit_at_or a b i)

pub within_right : (a b : ℕ) → IsWithin b (bit_or a b)
within_right a b i = omega (arith, bit_at_or a b i)

-- what has both has what is in either
pub within_both : (a b whole : ℕ) → IsWithin a whole → IsWithin b whole → IsWithin (bit_or a b) whole
within_both a b whole left right i = omega (arith, bit_at_or a b i, left i, right i)
