-- Answering several queries: what one answer keeps, a run keeps.
use Rattle.std.proofs.Common.{ℕ, List, [], ◌∷◌, ◌++◌, refl, sym, subst}
use Rattle.std.specs.List.{AllZip}
use Rattle.lin_model.specs.Conditions.{PlainCondition}
use Rattle.lin_model.specs.KeyAtom.{PlainKeyAtom}
use Rattle.cert_check.specs.declared.reply.Reply.{Reply}
use Rattle.cert_check.specs.Asks.{AsksAll}
use Rattle.cert_check.specs.Laws.{RepliesGoOnStanding}
use Rattle.cert_check.specs.Logs.{IsLegalLog}
use Rattle.cert_check.specs.Machine.{Turn}
use Rattle.cert_check.specs.Replies.{Stands}
use Rattle.cert_check.specs.Runs.{AskingKeepsReplies, AsksJoin}
use Rattle.cert_check.specs.Seats.{Grows, IsSound, SeatState, SeatTerms, entries_of}
use Rattle.pipeline.specs.declared.answers.Answer.{Answer}
use Rattle.pipeline.specs.Answers.{AnswersQuery, IsRightAnswer, StandsAt}
use Rattle.pipeline.specs.Runs.{AnsweringKeepsAnswers, AnswersAll, AreRightFor, parts_of}

-- pairs of which one thing holds, where it implies another
zip_so : {A B : Type 0} (P Q : A → B → Type 0) → ((x : A) (y : B) → P x y → Q x y) → (xs : List A) (ys : List B)
    → AllZip P xs ys → AllZip Q xs ys
zip_so P Q so [] [] all = tt
zip_so P Q so [] (y ∷ ys) all = absurd all
zip_so P Q so (x ∷ xs) [] all = absurd all
zip_so P Q so (x ∷ xs) (y ∷ ys) all = (so x y all.0, zip_so P Q so xs ys all.1)

-- a right answer is right, with the same keys, in whatever way its replies stand
abbrev still_right : (P Q : List PlainKeyAtom → Reply → Type 0) (q : PlainCondition) (answer : Answer)
    → (right : IsRightAnswer P q answer) → AllZip Q right.keys answer.parts → IsRightAnswer Q q answer
still_right P Q q answer right stand = record {
  classes = right.classes;
  are = right.are;
  keys = right.keys;
  keyed = right.keyed;
  stand = stand;
  verdict = right.verdict;
}

-- what answering keeps, with the asks of all parts
record Run (budget : ℕ) (queries : List PlainCondition) (answers : List Answer) (old new : SeatState) : Type 0 where
  keys : List (List PlainKeyAtom)
  right : AreRightFor (StandsAt budget new) queries answers keys
  asks : AsksAll budget keys (parts_of answers) old new

-- by the laws of asks and of replies
module _ (keeps : AskingKeepsReplies) (join : AsksJoin) (go_on : RepliesGoOnStanding) where
  -- a reply that stood stands for what the seat has seen later
  stands_later : (budget : ℕ) (mid new : SeatState) → IsSound new → Grows mid new → (key : List PlainKeyAtom)
      (reply : Reply) → StandsAt budget mid key reply → StandsAt budget new key reply
  stands_later budget mid new later grows key reply stands =
      let legal : IsLegalLog mid.terms.opening (mid.log ++ grows.turns) (entries_of new) =
      subst (λ (log : List Turn). IsLegalLog mid.terms.opening log (entries_of new)) grows.log
      (subst (λ (t : SeatTerms). IsLegalLog t.opening new.log (entries_of new)) grows.terms later.legal) in
      let whole : Stands (mid.log ++ grows.turns) (entries_of new) mid.terms.number budget key reply =
      go_on mid.terms.opening (entries_of new) mid.log grows.turns mid.terms.number budget key reply legal stands in
      subst (λ (t : SeatTerms). Stands new.log (entries_of new) t.number budget key reply) (sym grows.terms)
      (subst (λ (log : List Turn). Stands log (entries_of new) mid.terms.number budget key reply) (sym grows.log) whole)

  -- and so do all replies of a run of asks
  stand_later : (budget : ℕ) (keys : List (List PlainKeyAtom)) (replies : List Reply) (old mid new : SeatState)
      → AsksAll budget keys replies old mid → Grows mid new → (IsSound mid → IsSound new)
      → AllZip (StandsAt budget mid) keys replies → AllZip (StandsAt budget new) keys replies
  stand_later budget [] [] old mid new asked grows sound stand = tt
  stand_later budget [] (reply ∷ replies) old mid new asked grows sound stand = absurd stand
  stand_later budget (key ∷ keys) [] old mid new asked grows sound stand = absurd stand
  stand_later budget (key ∷ keys) (reply ∷ replies) old mid new asked grows sound stand =
      let at_mid : IsSound mid = (keeps budget keys replies asked.0 mid asked.2).sound asked.1.call.sound in
      zip_so (StandsAt budget mid) (StandsAt budget new) (stands_later budget mid new (sound at_mid) grows)
      (key ∷ keys) (reply ∷ replies) stand

  -- one query was answered, and then others
  one_run : (budget : ℕ) (q : PlainCondition) (queries : List PlainCondition) (answer : Answer)
      (answers : List Answer) (old mid new : SeatState) → AnswersQuery budget q answer old mid
      → Run budget queries answers mid new → Run budget (q ∷ queries) (answer ∷ answers) old new
  one_run budget q queries answer answers old mid new one rest =
      let later = keeps budget rest.keys (parts_of answers) mid new rest.asks in
      let stand = stand_later budget one.right.keys answer.parts old mid new one.asks later.gains.grows later.sound
      one.right.stand in
      record {
        keys = one.right.keys ++ rest.keys;
        right = (
          still_right (StandsAt budget mid) (StandsAt budget new) q answer one.right stand,
          rest.keys,
          refl,
          rest.right,
        );
        asks = join budget one.right.keys rest.keys answer.parts (parts_of answers) old mid new one.asks rest.asks;
      }

  run : (budget : ℕ) (queries : List PlainCondition) (answers : List Answer) (old new : SeatState)
      → AnswersAll budget queries answers old new → Run budget queries answers old new
  run budget [] [] old new all = record { keys = []; right = refl; asks = all }
  run budget [] (answer ∷ answers) old new all = absurd all
  run budget (q ∷ queries) [] old new all = absurd all
  run budget (q ∷ queries) (answer ∷ answers) old new all =
      one_run budget q queries answer answers old all.0 new all.1 (run budget queries answers all.0 new all.2)

  pub keeps_answers : AnsweringKeepsAnswers
  keeps_answers budget queries answers old new all =
      let made = run budget queries answers old new all in
      record {
        keys = made.keys;
        right = made.right;
        keeps = keeps budget made.keys (parts_of answers) old new made.asks;
      }
