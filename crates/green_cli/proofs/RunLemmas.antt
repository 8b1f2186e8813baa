-- Answers to the queries of several executors, one executor behind the other.
use Rattle.std.proofs.Common.{◌≡◌, ℕ, ◌+◌, ◌<◌, ◌∙◌, List, [], ◌∷◌, ◌++◌, length, get_or, take, arith, refl, ap, sym}
use Rattle.std.proofs.Common.{subst}
use Rattle.std.specs.List.{AllZip}
use Rattle.std.proofs.lemmas.List.{append-nil, append_assoc, take_more}
use Rattle.std.proofs.lemmas.Slice.Zip.{AllZip-long, all_zipped_more}
use Rattle.lin_model.specs.Conditions.{PlainCondition}
use Rattle.lin_model.specs.KeyAtom.{PlainKeyAtom}
use Rattle.cert_check.specs.declared.reply.Reply.{Reply}
use Rattle.cert_check.specs.Asks.{InTurn}
use Rattle.cert_check.specs.Seats.{SeatState}
use Rattle.pipeline.specs.declared.answers.Answer.{Answer}
use Rattle.pipeline.specs.Answers.{AnswersQuery, IsRightAnswer}
use Rattle.pipeline.specs.Runs.{AnswersAll, AreRightFor}
use Rattle.green_cli.specs.Answered.{in_order}
use Rattle.green_cli.specs.AnswersText.{HaveAnswers}

-- ---- loops

-- the items up to the next, where the next was read
take_read : {X : Type 0} (xs : List X) (i : ℕ) (x : X) → i < length xs → x ≡ get_or xs i x
    → take i xs ++ x ∷ [] ≡ take (i + 1) xs
take_read {X} xs i x within is =
    let read : take (i + 1) xs ≡ take i xs ++ get_or xs i x ∷ [] = take_more xs i x within in
    rw read (ap (λ (z : X). take i xs ++ z ∷ []) is)

-- one pair more, of what is read and what is made of it
pub zip_more : {A B : Type 0} (R : A → B → Type 0) (xs : List A) (ys : List B) (i : ℕ) (x : A) (y : B) → i < length xs
    → x ≡ get_or xs i x → AllZip R (take i xs) ys → R x y → AllZip R (take (i + 1) xs) (ys ++ y ∷ [])
zip_more {A} {B} R xs ys i x y within is above here =
    subst (λ (front : List A). AllZip R front (ys ++ y ∷ [])) (take_read xs i x within is)
    (all_zipped_more R (take i xs) ys x y above here)

-- calls one after another, and then more of them
turns_joined : {X Y S : Type 0} (Does : X → Y → S → S → Type 0) (xs more : List X) (ys others : List Y)
    (old mid new : S) → InTurn Does xs ys old mid → InTurn Does more others mid new
    → InTurn Does (xs ++ more) (ys ++ others) old new
turns_joined {X} {Y} {S} Does [] more [] others old mid new first then_ =
    subst (λ (s : S). InTurn Does more others s new) first then_
turns_joined Does [] more (y ∷ ys) others old mid new first then_ = absurd first
turns_joined Does (x ∷ xs) more [] others old mid new first then_ = absurd first
turns_joined Does (x ∷ xs) more (y ∷ ys) others old mid new first then_ =
    (first.0, first.1, turns_joined Does xs more ys others first.0 mid new first.2 then_)

-- each call has an answer
turns-long : {X Y S : Type 0} (Does : X → Y → S → S → Type 0) (xs : List X) (ys : List Y) (old new : S)
    → InTurn Does xs ys old new → length xs ≡ length ys
turns-long Does [] [] old new turns = refl
turns-long Does [] (y ∷ ys) old new turns = absurd turns
turns-long Does (x ∷ xs) [] old new turns = absurd turns
turns-long Does (x ∷ xs) (y ∷ ys) old new turns = omega (arith, turns-long Does xs ys turns.0 new turns.2)

pub answers-long : (budget : ℕ) (queries : List PlainCondition) (answers : List Answer) (old new : SeatState)
    → AnswersAll budget queries answers old new → length queries ≡ length answers
answers-long budget queries answers old new all = turns-long (AnswersQuery budget) queries answers old new all

-- one query more was answered
pub answers_more : (budget : ℕ) (queries : List PlainCondition) (answers : List Answer) (i : ℕ) (q : PlainCondition)
    (answer : Answer) (old mid new : SeatState) → i < length queries → q ≡ get_or queries i q
    → AnswersAll budget (take i queries) answers old mid → AnswersQuery budget q answer mid new
    → AnswersAll budget (take (i + 1) queries) (answers ++ answer ∷ []) old new
answers_more budget queries answers i q answer old mid new within is above here =
    subst (λ (front : List PlainCondition). AnswersAll budget front (answers ++ answer ∷ []) old new)
    (take_read queries i q within is)
    (turns_joined (AnswersQuery budget) (take i queries) (q ∷ []) answers (answer ∷ []) old mid new above
    (new, here, refl))

in_order-push : {X : Type 0} (scripts : List (List X)) (script : List X)
    → in_order (scripts ++ script ∷ []) ≡ in_order scripts ++ script
in_order-push {X} [] script = append-nil script
in_order-push {X} (first ∷ scripts) script =
    ap (λ (xs : List X). first ++ xs) (in_order-push scripts script)
    ∙ sym (append_assoc first (in_order scripts) script)

-- one executor more was answered
pub scripts_more : (budget : ℕ) (executors : List (List PlainCondition)) (scripts : List (List Answer)) (i : ℕ)
    (queries : List PlainCondition) (answers : List Answer) (old mid new : SeatState) → i < length executors
    → queries ≡ get_or executors i queries
    → AnswersAll budget (in_order (take i executors)) (in_order scripts) old mid
    → AnswersAll budget queries answers mid new
    → AnswersAll budget (in_order (take (i + 1) executors)) (in_order (scripts ++ answers ∷ [])) old new
scripts_more budget executors scripts i queries answers old mid new within is above here =
    let joined = turns_joined (AnswersQuery budget) (in_order (take i executors)) queries (in_order scripts) answers old
    mid new above here in
    let pushed : AnswersAll budget (in_order (take i executors ++ queries ∷ []))
    (in_order (scripts ++ answers ∷ [])) old new =
    subst (λ (qs : List PlainCondition). AnswersAll budget qs (in_order (scripts ++ answers ∷ [])) old new)
    (sym (in_order-push (take i executors) queries))
    (subst (λ (as_ : List Answer). AnswersAll budget (in_order (take i executors) ++ queries) as_ old new)
    (sym (in_order-push scripts answers)) joined) in
    subst (λ (front : List (List PlainCondition)). AnswersAll budget (in_order front)
    (in_order (scripts ++ answers ∷ [])) old new) (take_read executors i queries within is) pushed

-- ---- right answers

-- what is right for queries one behind the other is right for both parts
parts_right : (P : List PlainKeyAtom → Reply → Type 0) (queries more : List PlainCondition)
    (answers others : List Answer) (keys : List (List PlainKeyAtom)) → length queries ≡ length answers
    → AreRightFor P (queries ++ more) (answers ++ others) keys
    → AllZip (λ q answer. IsRightAnswer P q answer) queries answers
    × ((rest : List (List PlainKeyAtom)) × AreRightFor P more others rest)
parts_right P [] more [] others keys same right = (tt, (keys, right))
parts_right P [] more (answer ∷ answers) others keys same right = absurd (omega (arith, same))
parts_right P (q ∷ queries) more [] others keys same right = absurd (omega (arith, same))
parts_right P (q ∷ queries) more (answer ∷ answers) others keys same right =
    let rest = parts_right P queries more answers others right.1 (omega (arith, same)) right.3 in
    ((right.0, rest.0), rest.1)

-- and for each executor
pub each_right : (P : List PlainKeyAtom → Reply → Type 0) (session : List (List PlainCondition))
    (answers : List (List Answer)) (keys : List (List PlainKeyAtom)) → HaveAnswers session answers
    → AreRightFor P (in_order session) (in_order answers) keys
    → AllZip (λ queries script. AllZip (λ q answer. IsRightAnswer P q answer) queries script) session answers
each_right P [] [] keys shape right = tt
each_right P [] (script ∷ answers) keys shape right = absurd shape
each_right P (queries ∷ session) [] keys shape right = absurd shape
each_right P (queries ∷ session) (script ∷ answers) keys shape right =
    let parts = parts_right P queries (in_order session) script (in_order answers) keys shape.0 right in
    (parts.0, each_right P session answers parts.1.0 shape.1 parts.1.1)

-- pairs of which one thing holds, where it implies another
pub zip_so : {A B : Type 0} (P Q : A → B → Type 0) → ((x : A) (y : B) → P x y → Q x y) → (xs : List A) (ys : List B)
    → AllZip P xs ys → AllZip Q xs ys
zip_so P Q so [] [] all = tt
zip_so P Q so [] (y ∷ ys) all = absurd all
zip_so P Q so (x ∷ xs) [] all = absurd all
zip_so P Q so (x ∷ xs) (y ∷ ys) all = (so x y all.0, zip_so P Q so xs ys all.1)

-- a right answer is right in whatever way its replies stand
pub right_so : (P Q : List PlainKeyAtom → Reply → Type 0)
    → ((key : List PlainKeyAtom) (reply : Reply) → P key reply → Q key reply)
    → (q : PlainCondition) (answer : Answer) → IsRightAnswer P q answer → IsRightAnswer Q q answer
right_so P Q so q answer right = record {
  classes = right.classes;
  are = right.are;
  keys = right.keys;
  keyed = right.keyed;
  stand = zip_so P Q so right.keys answer.parts right.stand;
  verdict = right.verdict;
}

-- right answers are one for each query
pub have_answers : (P : List PlainKeyAtom → Reply → Type 0) (session : List (List PlainCondition))
    (answers : List (List Answer))
    → AllZip (λ queries script. AllZip (λ q answer. IsRightAnswer P q answer) queries script) session answers
    → HaveAnswers session answers
have_answers P =
    zip_so (λ queries script. AllZip (λ q answer. IsRightAnswer P q answer) queries script)
    (λ queries script. length queries ≡ length script)
    (λ queries script right. sym (AllZip-long (λ q answer. IsRightAnswer P q answer) queries script right))
