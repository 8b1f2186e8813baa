-- Loops that write what is left of a list.
use Rattle.std.proofs.Common.{◌≡◌, ℕ, suc, ◌+◌, ◌<◌, List, [], ◌∷◌, ◌++◌, length, drop, get_or, ℤ, sym, ap, ◌∙◌}
use Rattle.std.proofs.Common.{append_assoc, add-one, drop-cons, refl, append-nil, codes}
use Rattle.lin_model.specs.Terms.{PlainVar}
use Rattle.lin_model.specs.Conditions.{PlainCondition}
use Rattle.lin_model.specs.Lists.{AllZip-at}
use Rattle.lin_text.specs.Spelling.{line}
use Rattle.cert_check.specs.declared.reply.Reply.{Reply}
use Rattle.pipeline.specs.declared.answers.Answer.{Answer}
use Rattle.green_cli.specs.AnswersText.{HaveAnswers, model_text, value_text, parts_text, part_text, script_text}
use Rattle.green_cli.specs.AnswersText.{answer_text, executors_text}

-- what is left begins with the item that is read
pub drop_at : {X : Type 0} (xs : List X) (i : ℕ) (x : X) → i < length xs → x ≡ get_or xs i x
    → drop i xs ≡ x ∷ drop (i + 1) xs
drop_at {X} xs i x within is =
    drop-cons xs i x within ∙ (ap (λ (y : X). y ∷ drop (suc i) xs) (sym is)
    ∙ ap (λ (n : ℕ). x ∷ drop n xs) (sym (add-one i)))

-- the text grew by a piece, and what is left shrank by it
pub carry : (out grown piece before after whole : List ℕ) → out ++ before ≡ whole → before ≡ piece ++ after
    → grown ≡ out ++ piece → grown ++ after ≡ whole
carry out grown piece before after whole so_far shrinks grows =
    ap (λ (xs : List ℕ). xs ++ after) grows
    ∙ (append_assoc out piece after ∙ (ap (λ (xs : List ℕ). out ++ xs) (sym shrinks) ∙ so_far))

pub model_step : (vars : List PlainVar) (values : List ℤ) (i : ℕ) (var : PlainVar) (value : ℤ) → i < length vars
    → var ≡ get_or vars i var → i < length values → value ≡ get_or values i value
    → model_text (drop i vars) (drop i values) ≡ value_text var value ++ model_text (drop (i + 1) vars)
    (drop (i + 1) values)
unfolding model_text
model_step vars values i var value a b c d = rw (drop_at vars i var a b, drop_at values i value c d) refl

-- no value is left
pub model_done : (vars : List PlainVar) (values : List ℤ) → values ≡ [] → model_text vars values ≡ []
unfolding model_text
model_done [] values e = refl
model_done (var ∷ vars) values e = ap (model_text (var ∷ vars)) e

pub parts_step : (parts : List Reply) (i : ℕ) (part : Reply) → i < length parts → part ≡ get_or parts i part
    → parts_text (drop i parts) ≡ part_text part ++ parts_text (drop (i + 1) parts)
unfolding parts_text
parts_step parts i part within is = rw (drop_at parts i part within is) refl

pub script_step : (queries : List PlainCondition) (answers : List Answer) (i : ℕ) (q : PlainCondition)
    (answer : Answer) → i < length queries → q ≡ get_or queries i q → i < length answers
    → answer ≡ get_or answers i answer → script_text (drop i queries) (drop i answers) ≡ line (answer_text q answer)
    ++ script_text (drop (i + 1) queries) (drop (i + 1) answers)
unfolding script_text
script_step queries answers i q answer a b c d = rw (drop_at queries i q a b, drop_at answers i answer c d) refl

-- a loop that is done
pub done : (out rest whole : List ℕ) → out ++ rest ≡ whole → rest ≡ [] → out ≡ whole
done out rest whole so_far none = sym (append-nil out) ∙ (ap (λ (xs : List ℕ). out ++ xs) (sym none) ∙ so_far)

pub model_end : (vars : List PlainVar) (values : List ℤ) → vars ≡ [] → model_text vars values ≡ []
unfolding model_text
model_end vars values e = ap (λ (xs : List PlainVar). model_text xs values) e

pub parts_end : (parts : List Reply) → parts ≡ [] → parts_text parts ≡ []
unfolding parts_text
parts_end parts e = ap (λ (xs : List Reply). parts_text xs) e

pub script_end : (queries : List PlainCondition) (answers : List Answer) → queries ≡ []
    → script_text queries answers ≡ []
unfolding script_text
script_end queries answers e = ap (λ (xs : List PlainCondition). script_text xs answers) e

pub executors_end : (executors : List (List PlainCondition)) (scripts : List (List Answer)) → executors ≡ []
    → executors_text executors scripts ≡ []
unfolding executors_text
executors_end executors scripts e = ap (λ (xs : List (List PlainCondition)). executors_text xs scripts) e

pub executors_step : (executors : List (List PlainCondition)) (scripts : List (List Answer)) (i : ℕ)
    (queries : List PlainCondition) (answers : List Answer) → i < length executors
    → queries ≡ get_or executors i queries → i < length scripts → answers ≡ get_or scripts i answers
    → executors_text (drop i executors) (drop i scripts) ≡ (line (codes "executor") ++ script_text queries answers)
    ++ executors_text (drop (i + 1) executors) (drop (i + 1) scripts)
unfolding executors_text
executors_step executors scripts i queries answers a b c d =
    rw (drop_at executors i queries a b, drop_at scripts i answers c d) refl

-- one answer for each query of the executor that is read
pub answers_read : (executors : List (List PlainCondition)) (scripts : List (List Answer)) (i : ℕ)
    (queries : List PlainCondition) (answers : List Answer) → HaveAnswers executors scripts → i < length executors
    → queries ≡ get_or executors i queries → answers ≡ get_or scripts i answers → length queries ≡ length answers
answers_read executors scripts i queries answers shape within a b =
    ap length a ∙ (AllZip-at (λ (qs : List PlainCondition) (rs : List Answer). length qs ≡ length rs) executors scripts
    i queries answers shape within ∙ ap length (sym b))
