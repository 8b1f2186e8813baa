-- What answering several queries, one after another, leaves.
use Rattle.std.specs.Prelude.{◌≡◌, ℕ, List, [], ◌∷◌, ◌++◌}
use Rattle.lin_model.specs.Conditions.{PlainCondition}
use Rattle.lin_model.specs.KeyAtom.{PlainKeyAtom}
use Rattle.cert_check.specs.declared.reply.Reply.{Reply}
use Rattle.cert_check.specs.Asks.{InTurn}
use Rattle.cert_check.specs.Runs.{KeepsReplies}
use Rattle.cert_check.specs.Seats.{SeatState}
use Rattle.pipeline.specs.declared.answers.Answer.{Answer}
use Rattle.pipeline.specs.Answers.{AnswersQuery, IsRightAnswer, StandsAt}

-- the seat is left just as by answering the queries in order, with these answers
abbrev pub AnswersAll : ℕ → List PlainCondition → List Answer → SeatState → SeatState → Type 0
AnswersAll budget queries answers old new = InTurn (AnswersQuery budget) queries answers old new

-- the parts of these answers, in order
abbrev pub parts_of : List Answer → List Reply
parts_of [] = []
parts_of (answer ∷ answers) = answer.parts ++ parts_of answers

-- one right answer for each query, and the keys that were asked for all of them, in order
abbrev pub AreRightFor : (List PlainKeyAtom → Reply → Type 0) → List PlainCondition → List Answer
    → List (List PlainKeyAtom) → Type 0
AreRightFor Standing [] [] keys = keys ≡ []
AreRightFor Standing [] (answer ∷ answers) keys = ⊥
AreRightFor Standing (q ∷ queries) [] keys = ⊥
AreRightFor Standing (q ∷ queries) (answer ∷ answers) keys =
    (right : IsRightAnswer Standing q answer) × (rest : List (List PlainKeyAtom)) × (keys ≡ right.keys ++ rest)
    × AreRightFor Standing queries answers rest

-- All answers are right for what the seat has seen in the end, and it gained just what their parts say.
pub record KeepsAnswers (budget : ℕ) (queries : List PlainCondition) (answers : List Answer) (old new : SeatState)
    : Type 0 where
  pub keys : List (List PlainKeyAtom)
  pub right : AreRightFor (StandsAt budget new) queries answers keys
  pub keeps : KeepsReplies budget keys (parts_of answers) old new

-- answering queries keeps their answers
abbrev pub AnsweringKeepsAnswers : Type 0
AnsweringKeepsAnswers = (budget : ℕ) (queries : List PlainCondition) (answers : List Answer) (old new : SeatState)
    → AnswersAll budget queries answers old new → KeepsAnswers budget queries answers old new
