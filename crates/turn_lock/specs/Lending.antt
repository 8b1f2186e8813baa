-- The value that is out is lent.
use Rattle.std.specs.Borrow.{Lends, MutBor, Fml}
use denote.RattleType.{RattleType}
use Rattle.turn_lock.specs.declared.lock.Held.{Held}
use Rattle.turn_lock.specs.contracts.lock.Held.{the_row}

-- the value with the last one written behind the result
abbrev pub LendsValue : (R : RattleType) → MutBor (Held R.Denot) → MutBor R.Denot → Fml
LendsValue R s r = Lends (the_row R) R s r (λ w. record { value = w })
