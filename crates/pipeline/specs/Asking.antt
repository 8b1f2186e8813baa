-- What is asked of a query's slices, and what the replies give.
use Rattle.std.specs.Prelude.{◌≡◌, ℕ, ◌<◌, ◌≤◌, ℤ, IsSomeAnd, List, length, map, take, Contains}
use Rattle.std.specs.List.{All, AllZip}
use Rattle.lin_model.specs.Conditions.{PlainCondition}
use Rattle.lin_model.specs.KeyAtom.{PlainKeyAtom}
use Rattle.cert_check.specs.declared.reply.Reply.{Reply}
use Rattle.cert_check.specs.Asks.{AsksAll}
use Rattle.cert_check.specs.Laws.{IsPointOf, SettledBy}
use Rattle.cert_check.specs.Replies.{point_in}
use Rattle.cert_check.specs.Runs.{AsksInVain}
use Rattle.cert_check.specs.Seats.{SeatState}
use Rattle.pipeline.specs.declared.answers.Verdict.{Verdict}
use Rattle.pipeline.specs.declared.slice_keys.SliceKey.{SliceKey}
use Rattle.pipeline.specs.Answers.{GivesValues, IsRightVerdict, NoneHasCore, OnlyLastHasCore, StopsAtCore}
use Rattle.pipeline.specs.Keyed.{AreKeyed}

-- ---- asking

-- the keys of slices
abbrev pub keys_to_ask : List SliceKey → List (List PlainKeyAtom)
keys_to_ask slices = map (λ (slice : SliceKey). slice.key) slices

-- Each of the first slices has a reply: all of them, or those up to and with the first whose reply has a core.
pub record EndsAtCore (slices : List SliceKey) (replies : List Reply) : Type 0 where
  pub few : length replies ≤ length slices
  pub core_last : OnlyLastHasCore replies
  pub all : NoneHasCore replies → length replies ≡ length slices

-- the seat is left just as by asking their keys, in order
pub record AsksUpToCore (budget : ℕ) (slices : List SliceKey) (replies : List Reply) (old new : SeatState) : Type 0
  where
    pub ends : EndsAtCore slices replies
    pub asks : AsksAll budget (take (length replies) (keys_to_ask slices)) replies old new

-- memory ran out while they were asked so
pub record StopsInVain (budget : ℕ) (slices : List SliceKey) (old new : SeatState) : Type 0 where
  pub asks : AsksInVain budget (keys_to_ask slices) old new
  pub stops : StopsAtCore asks.replies asks.mid new

-- what the replies settle
abbrev pub AreSettled : List SliceKey → List Reply → Type 0
AreSettled slices replies = AllZip SettledBy (take (length replies) (keys_to_ask slices)) replies

-- ---- points

-- the reply has a point of the slice's key
abbrev pub HasPoint : SliceKey → Reply → Type 0
HasPoint slice reply = IsSomeAnd (point_in reply) (IsPointOf slice.key)

-- it has a point with a value for each variable of the slice
abbrev pub HasWidePoint : SliceKey → Reply → Type 0
HasWidePoint slice reply = IsSomeAnd (point_in reply) (λ point. length slice.back ≤ length point)

-- the slice's variables have their values from the reply's point
abbrev pub IsPlaced : List ℤ → SliceKey → Reply → Type 0
IsPlaced values slice reply = IsSomeAnd (point_in reply) (GivesValues slice.back values)

-- the slice's variables are below a number
abbrev pub IsWithin : ℕ → SliceKey → Type 0
IsWithin n slice = All (λ v. v < n) slice.back

-- two slices have no variable in common
abbrev pub ShareNoVariable : SliceKey → SliceKey → Type 0
ShareNoVariable one other = (v : ℕ) → Contains one.back v → ¬ Contains other.back v

-- ---- the verdict

-- the query's slices have these keys, and the verdict is right where they have these replies
pub record IsRightFor (q : PlainCondition) (slices : List SliceKey) (replies : List Reply) (verdict : Verdict) : Type 0
  where
    pub keyed : AreKeyed q slices
    pub right : IsRightVerdict q keyed.are.classes verdict replies
