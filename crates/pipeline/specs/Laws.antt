-- What right answers keep.
use Rattle.std.specs.Prelude.{◌≡◌, ◌≢◌, ℕ, ◌≤◌, false, List, length, take}
use Rattle.std.specs.List.{All}
use Rattle.lin_model.specs.Conditions.{PlainCondition, IsCondition}
use Rattle.lin_model.specs.KeyAtom.{PlainKeyAtom}
use Rattle.slicer.specs.Slices.{PlainSlice, AreClasses}
use Rattle.canoniser.specs.Keys.{IsKeyOf}
use Rattle.refutation.specs.SearchTree.{room}
use Rattle.cert_check.specs.declared.entry.Entry.{Entry}
use Rattle.cert_check.specs.Asks.{EachKeyCanBeAsked, IsReady}
use Rattle.cert_check.specs.Machine.{Turn}
use Rattle.cert_check.specs.Replies.{Stands, is_spent}
use Rattle.cert_check.specs.Seats.{SeatState}
use Rattle.pipeline.specs.declared.answers.Answer.{Answer}
use Rattle.pipeline.specs.declared.answers.Verdict.TheVariants.{Unknown}
use Rattle.pipeline.specs.Answers.{AnswersQuery, IsRightAnswer, IsRightWithSaves}

-- some answer to the query is lawful, and leaves a seat of which keys can be asked
pub record HasAnswer (budget : ℕ) (q : PlainCondition) (seat : SeatState) : Type 0 where
  pub answer : Answer
  pub later : SeatState
  pub answers : AnswersQuery budget q answer seat later
  pub ready : IsReady later

-- where each key can be asked, each query has an answer
abbrev pub EachHasAnswer : Type 0
EachHasAnswer = (budget : ℕ) (q : PlainCondition) (seat : SeatState) → EachKeyCanBeAsked budget → IsCondition q
    → IsReady seat → HasAnswer budget q seat

-- an answer is right with its saves
abbrev pub AnswersAreRight : Type 0
AnswersAreRight = (budget : ℕ) (q : PlainCondition) (answer : Answer) (old new : SeatState)
    → AnswersQuery budget q answer old new → IsRightWithSaves budget new q answer

-- the key of the slice has no more room than the budget
abbrev pub HasRoomWithin : ℕ → PlainCondition → PlainSlice → Type 0
HasRoomWithin budget q slice = (key : List PlainKeyAtom) → IsKeyOf q slice key → room key ≤ budget

-- the budget is at least the room of the key of each slice that was asked: the first slices, one for each part
abbrev pub Suffices : ℕ → PlainCondition → Answer → Type 0
Suffices budget q answer = (classes : List PlainSlice) → AreClasses q classes
    → All (HasRoomWithin budget q) (take (length answer.parts) classes)

-- each slice that was asked was decided, and the query isn't unknown
pub record IsDecided (answer : Answer) : Type 0 where
  pub decided : All (λ part. is_spent part ≡ false) answer.parts
  pub told : (s : ℕ) → answer.verdict ≢ Unknown s

-- a budget that suffices decides the query
abbrev pub SufficientDecides : Type 0
SufficientDecides = (log : List Turn) (entries : List Entry) (seat budget : ℕ) (q : PlainCondition) (answer : Answer)
    → IsRightAnswer (Stands log entries seat budget) q answer → Suffices budget q answer → IsDecided answer
