use Rattle.std.proofs.Common.{◌≡◌, ◌≢◌, ⊎_elim, ℕ, get_or, pos, ap, arith}
use Rattle.std.specs.Int.{bit_at}
use Rattle.std.proofs.lemmas.Bool.{cases_eq}
use Rattle.std.proofs.lemmas.List.{get_or_default}
use Rattle.lin_model.specs.declared.form.FormTerm.{FormTerm}
use Rattle.refutation.proofs.UsedLemmas.{marked_more, no_such_variable}
use Rattle.refutation.proofs.sum.marked.Goals as goal

abbrev no_term : FormTerm
no_term = record { var = 0; coef = pos 0 }

pub loop-term-preserved : goal.loop-term-preserved
loop-term-preserved c =
    let form = c.args.form.now in
    let i = c.loop-term.term-index in
    let two : (v : ℕ) → bit_at c.with_bit-bits.result v ≡ 0
    → (v ≢ (get_or form i no_term).var) × (bit_at c.loop-term.bits v ≡ 0) = λ v none.
    marked_more form i no_term c.loop-term.bits c.with_bit-bits.result v c.loop-term-test.true
    c.with_bit-bits.ensures.same c.with_bit-bits.ensures.others none in
    record {
      kept = λ v none. c.loop-term.invariant.kept v (two v none).1;
      apart = λ v none k d lt found. ⊎_elim (λ same. (two v none).0 (omega (
        arith,
        found,
        ap (λ (j : ℕ). (get_or form j d).var) same,
        ap (λ (t : FormTerm). t.var) (get_or_default form i d no_term c.loop-term-test.true),
      )))
          (λ other. c.loop-term.invariant.apart v (two v none).1 k d (omega (arith, lt, other)) found) (cases_eq k i);
    }

pub returns : goal.returns
returns c = λ v lt none. (
  c.loop-term.invariant.kept v none,
  no_such_variable c.args.form.now v (λ k d low.
      c.loop-term.invariant.apart v none k d (omega (arith, low, c.loop-term-test.false))),
)
