-- An entry that wasn't saved met a full file, or a fault that the disk counted.
use Rattle.std.proofs.Common.{◌≡◌, ◌⊎◌, inl, inr, ⊎_elim, ℕ, ◌+◌, ◌≤◌, Bool, true, false, true≢false, ◌||◌, List, [], ◌∷◌, ◌++◌}
use Rattle.std.proofs.Common.{refl, sym, ap, ◌∙◌, arith, append_assoc, get_or}
use Rattle.std.specs.List.{All, list_any}
use Rattle.std.proofs.lemmas.List.Folds.{list_any-append, list_any_none}
use Rattle.cert_check.specs.declared.entry.Entry.{Entry}
use Rattle.cert_check.specs.declared.reply.Reply.{Reply}
use Rattle.cert_check.specs.declared.reply.Reply.TheVariants.{Hit, Solved, Unkept, Spent}
use Rattle.cert_check.specs.declared.saved.Saved.{Saved}
use Rattle.cert_check.specs.declared.saved.Saved.TheVariants.{At, Fault, Full, Off}
use Rattle.cert_check.specs.declared.wrote.Wrote.{Wrote}
use Rattle.cert_check.specs.declared.wrote.Wrote.TheVariants as wrote
use Rattle.cert_check.specs.Asks.{SavesRightly, writes_of}
use Rattle.cert_check.specs.Runs.{writes_of_all}
use Rattle.cert_check.specs.Seats.{SeatTerms}
use Rattle.journal.specs.Journals.{faults_in}
use Rattle.pipeline.specs.declared.answers.Answer.{Answer}
use Rattle.pipeline.specs.Runs.{parts_of}
use Rattle.green_cli.specs.Answered.{SavesAreRight, all_parts, in_order, says}
use Rattle.green_cli.specs.Saves.{writes_in}
use Rattle.green_cli.specs.Statuses.{has_full, has_lost, is_lost, is_full, some_part}
use Rattle.green_cli.specs.declared.outcome.Report.{Report}

-- ---- the replies of all answers

parts_of-append : (answers more : List Answer) → parts_of (answers ++ more) ≡ parts_of answers ++ parts_of more
parts_of-append [] more = refl
parts_of-append (answer ∷ answers) more =
    ap (λ (parts : List Reply). answer.parts ++ parts) (parts_of-append answers more)
    ∙ sym (append_assoc answer.parts (parts_of answers) (parts_of more))

module _ (test : Reply → Bool) where
  in_script : (script : List Answer)
      → list_any (λ answer. list_any test answer.parts) script ≡ list_any test (parts_of script)
  in_script [] = refl
  in_script (answer ∷ script) =
      ap (λ (b : Bool). list_any test answer.parts || b) (in_script script)
      ∙ sym (list_any-append test answer.parts (parts_of script))

  in_all : (answers : List (List Answer)) → some_part test answers ≡ list_any test (parts_of (in_order answers))
  in_all [] = refl
  in_all (script ∷ answers) =
      ap (λ (b : Bool). b || some_part test answers) (in_script script)
      ∙ (ap (λ (b : Bool). list_any test (parts_of script) || b) (in_all answers)
      ∙ (sym (list_any-append test (parts_of script) (parts_of (in_order answers)))
      ∙ ap (list_any test) (sym (parts_of-append script (in_order answers)))))

-- ---- what was lost

or_cases : (a b : Bool) → (a || b) ≡ true → (a ≡ true) ⊎ (b ≡ true)
or_cases true b e = inl refl
or_cases false b e = inr e

or_first : (a b : Bool) → a ≡ true → (a || b) ≡ true
or_first a b e = ap (λ (c : Bool). c || b) e

or_second : (a b : Bool) → b ≡ true → (a || b) ≡ true
or_second true b e = refl
or_second false b e = e

faults_in-append : (wrotes more : List Wrote) → faults_in (wrotes ++ more) ≡ faults_in wrotes + faults_in more
unfolding faults_in
faults_in-append [] more = omega arith
faults_in-append (wrote.At seat at entry ∷ wrotes) more = faults_in-append wrotes more
faults_in-append (wrote.Fault seat ∷ wrotes) more = omega (arith, faults_in-append wrotes more)
faults_in-append (wrote.Full seat entry ∷ wrotes) more = faults_in-append wrotes more

lost_part : (reply : Reply) → says is_lost reply ≡ true
    → (says is_full reply ≡ true) ⊎ (1 ≤ faults_in (writes_of 0 reply))
unfolding faults_in
lost_part (Hit entry place n) e = absurd (true≢false (sym e))
lost_part (Solved entry place n (At at)) e = absurd (true≢false (sym e))
lost_part (Solved entry place n Fault) e = inr (omega arith)
lost_part (Solved entry place n Full) e = inl refl
lost_part (Solved entry place n Off) e = absurd (true≢false (sym e))
lost_part (Unkept entry n (At at)) e = absurd (true≢false (sym e))
lost_part (Unkept entry n Fault) e = inr (omega arith)
lost_part (Unkept entry n Full) e = inl refl
lost_part (Unkept entry n Off) e = absurd (true≢false (sym e))
lost_part (Spent tree n) e = absurd (true≢false (sym e))

lost_among : (parts : List Reply) → list_any (says is_lost) parts ≡ true
    → (list_any (says is_full) parts ≡ true) ⊎ (1 ≤ faults_in (writes_of_all 0 parts))
lost_among [] e = absurd (true≢false (sym e))
lost_among (reply ∷ parts) e =
    let count : faults_in (writes_of 0 reply ++ writes_of_all 0 parts)
    ≡ faults_in (writes_of 0 reply) + faults_in (writes_of_all 0 parts) =
    faults_in-append (writes_of 0 reply) (writes_of_all 0 parts) in
    ⊎_elim
    (λ here. ⊎_elim (λ full. inl (or_first (says is_full reply) (list_any (says is_full) parts) full))
    (λ fault. inr (omega (arith, count, fault))) (lost_part reply here))
    (λ later. ⊎_elim (λ full. inl (or_second (says is_full reply) (list_any (says is_full) parts) full))
    (λ fault. inr (omega (arith, count, fault))) (lost_among parts later))
    (or_cases (says is_lost reply) (list_any (says is_lost) parts) e)

pub lost_full_or_fault : (report : Report) → has_lost report.answers ≡ true
    → (has_full report.answers ≡ true) ⊎ (1 ≤ faults_in (writes_in report))
lost_full_or_fault report lost =
    ⊎_elim (λ full. inl (in_all (says is_full) report.answers ∙ full)) (λ fault. inr fault)
    (lost_among (all_parts report) (sym (in_all (says is_lost) report.answers) ∙ lost))

-- ---- without a journal

off_keeps : (opening : List Entry) (reply : Reply)
    → SavesRightly (record { number = 0; opening = opening; off = true }) reply → says is_lost reply ≡ false
off_keeps opening (Hit entry place n) right = refl
off_keeps opening (Solved entry place n saved) right = ap is_lost (right.1 refl)
off_keeps opening (Unkept entry n saved) right = ap is_lost (right.1 refl)
off_keeps opening (Spent tree n) right = refl

pub off_loses_none : (opening : List Entry) (report : Report) → SavesAreRight opening true report
    → has_lost report.answers ≡ false
off_loses_none opening report right =
    in_all (says is_lost) report.answers
    ∙ list_any_none (says is_lost) (all_parts report) (λ k d within. off_keeps opening _ (right k d within))
