-- That keys can be asked at all.
use Rattle.std.specs.Prelude.{ℕ, List}
use Rattle.lin_model.specs.Key.{IsKey}
use Rattle.lin_model.specs.KeyAtom.{PlainKeyAtom}
use Rattle.refutation.specs.Boxed.{IsBoxed}
use Rattle.cert_check.specs.declared.reply.Reply.{Reply}
use Rattle.cert_check.specs.Asks.{Asks, IsReady, EachKeyCanBeAsked}
use Rattle.cert_check.specs.Seats.{SeatState}
use Rattle.shared_store.specs.Flights.{IsSearchedWithin}

-- whatever the budget, each key that bounds its variables can be asked of each seat over checked entries
abbrev pub KeysCanBeAsked : Type 0
KeysCanBeAsked = (budget : ℕ) → EachKeyCanBeAsked budget

-- some reply to the key is lawful, comes from a search within the budget where it is no hit, and leaves such a seat
pub record CanBeSolved (budget : ℕ) (key : List PlainKeyAtom) (seat : SeatState) : Type 0 where
  pub reply : Reply
  pub later : SeatState
  pub asks : Asks budget key reply seat later
  pub ready : IsReady later
  pub searched : IsSearchedWithin budget key reply

-- each such key has such a reply of each such seat
abbrev pub KeysCanBeSolved : Type 0
KeysCanBeSolved = (budget : ℕ) (key : List PlainKeyAtom) (seat : SeatState) → IsKey key → IsBoxed key → IsReady seat
    → CanBeSolved budget key seat
