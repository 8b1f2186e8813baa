-- Boxed keys: both sides of every variable are there, and no side of a key's bounds is beyond 2^32 in size. Cuts
-- between two sides.
use Rattle.std.specs.Prelude.{◌≡◌, ℕ, ◌^◌, ◌<◌, ◌≤◌, ℤ, ◌<ℤ◌, ◌≤ℤ◌, true, Some, IfSome, is_some, List, unsigned_abs}
use Rattle.lin_model.specs.KeyAtom.{PlainKeyAtom}
use Rattle.lin_model.specs.Key.{key_width}
use Rattle.refutation.specs.Bounds.{PlainBounds, lower_of, upper_of, key_bounds}

-- both sides of the variable are there
pub record HasBothSides (b : PlainBounds) (v : ℕ) : Type 0 where
  pub lower : is_some (lower_of b v) ≡ true
  pub upper : is_some (upper_of b v) ≡ true

-- every variable of the key has both sides within the bounds
abbrev pub IsBoxedIn : List PlainKeyAtom → PlainBounds → Type 0
IsBoxedIn key b = (v : ℕ) → v < key_width key → HasBothSides b v

-- every variable of the key has both sides
abbrev pub IsBoxed : List PlainKeyAtom → Type 0
IsBoxed key = IsBoxedIn key (key_bounds key)

-- no side is beyond 2^32 in size
pub record HasShortSides (b : PlainBounds) : Type 0 where
  pub lower : (v : ℕ) → IfSome (lower_of b v) (λ n. unsigned_abs n ≤ 2 ^ 32)
  pub upper : (v : ℕ) → IfSome (upper_of b v) (λ n. unsigned_abs n ≤ 2 ^ 32)

-- a cut between both sides of a variable, with room above it
pub record IsCut (b : PlainBounds) (v : ℕ) (lo hi cut : ℤ) : Type 0 where
  pub below : v < 64
  pub lower : lower_of b v ≡ Some lo
  pub upper : upper_of b v ≡ Some hi
  pub from : lo ≤ℤ cut
  pub to : cut <ℤ hi
