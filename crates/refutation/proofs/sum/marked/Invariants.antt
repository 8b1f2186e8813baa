use Rattle.std.proofs.Common.{◌≡◌, ◌≢◌, ℕ, ◌<◌, get_or}
use Rattle.std.specs.Int.{bit_at}
use Rattle.lin_model.specs.declared.form.FormTerm.{FormTerm}
use Rattle.refutation.proofs.sum.marked.Given as goal

-- a variable without a bit had none before, and none of the terms so far has it
abbrev pub invariant-loop-term : goal.invariant-loop-term
invariant-loop-term l = record {
  kept : (v : ℕ) → bit_at l.bits v ≡ 0 → bit_at l.fn.used v ≡ 0;
  apart : (v : ℕ) → bit_at l.bits v ≡ 0 → (k : ℕ) (d : FormTerm) → k < l.term-index → (get_or l.form k d).var ≢ v;
}
