-- Budgets that are enough for each slice that was asked.
use Rattle.std.proofs.Common.{◌≡◌, ◌≢◌, ℕ, zero, suc, ◌<◌, Bool, true, false, List, [], ◌∷◌, length, get_or, arith, refl, sym, subst}
use Rattle.std.specs.List.{AllZip, Any, list_any}
use Rattle.std.proofs.lemmas.List.Folds.{Any-from_list_any}
use Rattle.lin_model.specs.Conditions.{PlainCondition}
use Rattle.lin_model.specs.KeyAtom.{PlainKeyAtom}
use Rattle.cert_check.specs.declared.entry.Entry.{Entry}
use Rattle.cert_check.specs.declared.reply.Reply.{Reply}
use Rattle.cert_check.specs.Replies.{Stands}
use Rattle.pipeline.specs.Answers.{IsRightAnswer}
use Rattle.pipeline.specs.Laws.{Suffices, SufficientDecides}
use Rattle.pipeline.specs.declared.answers.Answer.{Answer}
use Rattle.pipeline.specs.declared.answers.Verdict.{Verdict}
use Rattle.pipeline.specs.declared.answers.Verdict.TheVariants.{Sat, UnsatAtom, UnsatSlice, Unknown}
use Rattle.green_cli.specs.Answered.{LogIsLegal}
use Rattle.green_cli.specs.AnswersText.{HaveAnswers}
use Rattle.green_cli.specs.Solve.{SufficesFor}
use Rattle.green_cli.specs.Statuses.{has_unknown, is_unknown}
use Rattle.green_cli.specs.declared.outcome.Report.{Report}
use Rattle.green_cli.proofs.RunLemmas.{each_right}

-- what two relations of the items exclude is true of none of them
none_of_zip : {A B : Type 0} (R S : A → B → Type 0) (P : B → Type 0) → ((x : A) (y : B) → R x y → S x y → P y → ⊥)
    → (xs : List A) (ys : List B) → AllZip R xs ys → AllZip S xs ys → (k : ℕ) (y : B) → k < length ys
    → get_or ys k y ≡ y → P y → ⊥
none_of_zip R S P excluded [] [] r s k y within is p = absurd (omega (arith, within))
none_of_zip R S P excluded [] (z ∷ ys) r s k y within is p = absurd r
none_of_zip R S P excluded (x ∷ xs) [] r s k y within is p = absurd r
none_of_zip R S P excluded (x ∷ xs) (z ∷ ys) r s zero y within is p = excluded x z r.0 s.0 (subst P (sym is) p)
none_of_zip R S P excluded (x ∷ xs) (z ∷ ys) r s (suc k) y within is p =
    none_of_zip R S P excluded xs ys r.1 s.1 k y (omega (arith, within)) is p

zip_excludes : {A B : Type 0} (R S : A → B → Type 0) (P : B → Type 0) → ((x : A) (y : B) → R x y → S x y → P y → ⊥)
    → (xs : List A) (ys : List B) → AllZip R xs ys → AllZip S xs ys → Any P ys → ⊥
zip_excludes R S P excluded xs ys r s any = none_of_zip R S P excluded xs ys r s any.0 any.1 any.2 any.3 any.4

verdict_known : (verdict : Verdict) → ((s : ℕ) → verdict ≢ Unknown s) → is_unknown verdict ≡ true → ⊥
verdict_known (Sat values) other unknown = cc
verdict_known (UnsatAtom atom) other unknown = cc
verdict_known (UnsatSlice slice) other unknown = cc
verdict_known (Unknown slice) other unknown = other slice refl

-- no answer is unknown
module _ (law : SufficientDecides) (budget : ℕ) (report : Report) where
  pub none_unknown : (opening : List Entry) (off : Bool) → LogIsLegal 0 budget opening off report → HaveAnswers report.session report.answers → SufficesFor budget report
      → has_unknown report.answers ≡ true → ⊥
  none_unknown opening off logged shape suffices any =
      zip_excludes (λ queries script. AllZip (λ q answer. IsRightAnswer stands q answer) queries script)
      (λ queries script. AllZip (λ q answer. Suffices budget q answer) queries script)
      (λ script. list_any (λ answer. is_unknown answer.verdict) script ≡ true)
      by_query report.session report.answers
      (each_right stands report.session report.answers logged.of_seat.keys shape logged.of_seat.right) suffices
      (Any-from_list_any _ report.answers any)
    where
      stands : List PlainKeyAtom → Reply → Type 0
      stands key reply = Stands logged.log report.entries 0 budget key reply

      by_query : (queries : List PlainCondition) (script : List Answer)
          → AllZip (λ q answer. IsRightAnswer stands q answer) queries script
          → AllZip (λ q answer. Suffices budget q answer) queries script
          → list_any (λ answer. is_unknown answer.verdict) script ≡ true → ⊥
      by_query queries script are suffice some =
          zip_excludes (λ q answer. IsRightAnswer stands q answer) (λ q answer. Suffices budget q answer)
          (λ answer. is_unknown answer.verdict ≡ true)
          (λ q answer is enough. verdict_known answer.verdict
          (law logged.log report.entries 0 budget q answer is enough).told)
          queries script are suffice (Any-from_list_any _ script some)
