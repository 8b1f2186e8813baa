use Rattle.std.proofs.Common.{◌≡◌, ℕ, ◌+◌, ◌<◌, List, [], ◌∷◌, ◌++◌, length, get_or, sym, subst, ap, ◌∙◌, arith}
use Rattle.std.proofs.lemmas.List.{length_push}
use Rattle.unsat_core.specs.Renumbered.{new_number}
use Rattle.unsat_core.proofs.NumberLemmas.{AreNumbers-all, new_number-chosen, new_number-le, new_number-out, new_number-zero}
use Rattle.unsat_core.proofs.NumberLemmas.{numbers-more}
use Rattle.unsat_core.proofs.chosen.numbers_of.Goals as goal
use Rattle.unsat_core.proofs.chosen.numbers_of.Goals.{then-is_chosen, else-is_chosen}

pub loop-is_chosen-init : goal.loop-is_chosen-init
loop-is_chosen-init c = record {
  long = ap length c.in_ok-numbers.ensures.items;
  each = λ k lt. absurd (omega arith);
  last = sym (new_number-zero c.args.choice.now);
}

pub overflow_add-count : goal.overflow_add-count
overflow_add-count c = omega (
  arith,
  c.loop-is_chosen.invariant.last,
  new_number-le c.args.choice.now c.loop-is_chosen.is_chosen-index,
  c.loop-is_chosen-test.true,
  c.requires,
)

pub loop-is_chosen-preserved : goal.loop-is_chosen-preserved
loop-is_chosen-preserved c =
    let pushed : c.push.new.self.items ≡ c.loop-is_chosen.numbers.items ++ c.loop-is_chosen.count ∷ [] =
    c.in_ok-push.ensures.items in
    record {
      long = ap length pushed ∙ (length_push c.loop-is_chosen.numbers.items c.loop-is_chosen.count
          ∙ ap (λ (n : ℕ). n + 1) c.loop-is_chosen.invariant.long);
      each = subst (λ (ns : List ℕ). (k : ℕ) → k < c.loop-is_chosen.is_chosen-index + 1
          → get_or ns k 0 ≡ new_number c.args.choice.now k) (sym pushed)
          (numbers-more c.args.choice.now c.loop-is_chosen.numbers.items c.loop-is_chosen.is_chosen-index
          c.loop-is_chosen.count c.loop-is_chosen.invariant.long c.loop-is_chosen.invariant.each
          c.loop-is_chosen.invariant.last);
      last = elim c.if-is_chosen.branch [
        | then-is_chosen w ↦
            w.count-is
            ∙ (ap (λ (n : ℕ). n + 1) c.loop-is_chosen.invariant.last
            ∙ sym (new_number-chosen c.args.choice.now c.loop-is_chosen.is_chosen-index c.loop-is_chosen-test.true
            w.if-is_chosen.true))
        | else-is_chosen w ↦
            w.count-is
            ∙ (c.loop-is_chosen.invariant.last
            ∙ sym (new_number-out c.args.choice.now c.loop-is_chosen.is_chosen-index c.loop-is_chosen-test.true
            w.if-is_chosen.false))
      ];
    }

pub returns : goal.returns
returns c =
    AreNumbers-all c.args.choice.now c.loop-is_chosen.numbers.items c.loop-is_chosen.is_chosen-index
    c.loop-is_chosen.count (omega (arith, c.loop-is_chosen-test.false, c.loop-is_chosen.auto.is_chosen-index-end))
    c.loop-is_chosen.invariant.long c.loop-is_chosen.invariant.each c.loop-is_chosen.invariant.last
