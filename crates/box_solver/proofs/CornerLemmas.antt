-- The lowest corner of a box.
use Rattle.std.proofs.Common.{◌≡◌, ℕ, ◌^◌, ◌<◌, ◌≤◌, ℤ, pos, Option, Some, None, IfSome, List, length, unsigned_abs, sym}
use Rattle.std.proofs.Common.{subst, arith}
use Rattle.std.specs.List.{All}
use Rattle.std.specs.Option.{unwrap_or}
use Rattle.std.proofs.lemmas.List.FromFn.{get_or-map-range_with_len, length-map-range_with_len}
use Rattle.lin_model.specs.KeyAtom.{PlainKeyAtom}
use Rattle.lin_model.specs.Key.{key_width}
use Rattle.refutation.specs.Bounds.{PlainBounds, lower_of}
use Rattle.refutation.specs.Boxed.{HasShortSides}
use Rattle.refutation.specs.SearchOrder.{lowest_corner, lower_or_zero}

pub corner-length : (key : List PlainKeyAtom) (b : PlainBounds) → length (lowest_corner key b) ≡ key_width key
unfolding lowest_corner
corner-length key b = length-map-range_with_len (lower_or_zero b) 0 (key_width key)

-- no value of the corner is beyond 2^32
pub corner-small : (key : List PlainKeyAtom) (b : PlainBounds) → HasShortSides b
    → All (λ n. unsigned_abs n ≤ 2 ^ 32) (lowest_corner key b)
unfolding lowest_corner
corner-small key b short k d lt =
    let within : k < key_width key = omega (arith, length-map-range_with_len (lower_or_zero b) 0 (key_width key)) in
    subst (λ n. unsigned_abs n ≤ 2 ^ 32)
    (sym (get_or-map-range_with_len (lower_or_zero b) 0 (key_width key) k k d within (omega arith)))
    (side (lower_of b k) (short.lower k))
  where
    side : (o : Option ℤ) → IfSome o (λ n. unsigned_abs n ≤ 2 ^ 32) → unsigned_abs (unwrap_or o (pos 0)) ≤ 2 ^ 32
    side None h = omega arith
    side (Some n) h = h
