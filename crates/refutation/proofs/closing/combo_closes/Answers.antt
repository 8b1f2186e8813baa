use Rattle.std.proofs.Common.{◌≡◌, ◌<◌, ap, sym, ◌∙◌, subst, take, length, false, arith, Option, List, eqb-true, ℕ, pos}
use Rattle.std.specs.Option.{option_map_or}
use Rattle.std.proofs.Math.Seq.{take-length}
use Rattle.std.proofs.lemmas.Bool.Decides.{nat_tests}
use Rattle.refutation.specs.declared.leaf.LeafTerm.{LeafTerm}
use Rattle.refutation.specs.declared.leaf.On.TheVariants.{Atom as OnAtom}
use Rattle.refutation.specs.Box.{PlainBox}
use Rattle.refutation.specs.Leaf.{Multiple, is_positive_sum}
use Rattle.refutation.proofs.LeafLemmas.{IsSummed, IsSummed-more, IsSummed-positive, multiples_of-fails}
use Rattle.refutation.proofs.LeafLemmas.{combo_closes-empty, combo_closes-long, combo_closes-is}
use Rattle.refutation.proofs.closing.combo_closes.Goals as goal
use Rattle.refutation.proofs.closing.combo_closes.Goals.{then-is_empty-via-then-is_empty}
use Rattle.refutation.proofs.closing.combo_closes.Goals.{then-is_empty-via-else-is_empty+then-terms-gt8}

abbrev no_term : LeafTerm
no_term = record { on = OnAtom 0; factor = pos 0 }

pub returns-then-is_empty : goal.returns-then-is_empty
returns-then-is_empty c =
    elim c.then-is_empty.branch [
      | then-is_empty-via-then-is_empty w ↦ sym
          (combo_closes-empty c.args.key.now (record { bounds = c.args.bounds.now; sides = c.args.sides.now })
          c.args.terms.now (eqb-true (length c.args.terms.now) 0 (sym c.is_empty.ensures ∙ w.if-is_empty.true)))
      | then-is_empty-via-else-is_empty+then-terms-gt8 w ↦ sym
          (combo_closes-long c.args.key.now (record { bounds = c.args.bounds.now; sides = c.args.sides.now })
          c.args.terms.now (omega arith))
    ]

pub loop-term-preserved : goal.loop-term-preserved
loop-term-preserved c =
    IsSummed-more c.args.key.now c.args.sides.now c.args.terms.now c.loop-term.term-index no_term c.loop-term.sum
    c.add_term.new.sum c.add_term.result c.loop-term-test.true c.if-not-add_term.false c.loop-term.invariant
    c.add_term.ensures

pub returns-then-not-add_term : goal.returns-then-not-add_term
returns-then-not-add_term c =
    let box : PlainBox = record { bounds = c.args.bounds.now; sides = c.args.sides.now } in
    let low : 0 < length c.args.terms.now = omega arith in
    let fails = multiples_of-fails c.args.key.now c.args.sides.now c.args.terms.now c.loop-term.term-index no_term
    c.loop-term.sum c.add_term.new.sum c.add_term.result c.loop-term-test.true c.if-not-add_term.true c.add_term.ensures
    in
    sym (combo_closes-is c.args.key.now box c.args.terms.now low c.if-terms-gt8.false
    ∙ ap (λ (o : Option (List Multiple)). option_map_or (is_positive_sum c.args.bounds.now) o false) fails)

pub returns : goal.returns
returns c =
    let box : PlainBox = record { bounds = c.args.bounds.now; sides = c.args.sides.now } in
    let low : 0 < length c.args.terms.now = grind (arith, nat_tests, c.is_empty.ensures, c.if-is_empty.false) in
    let all : take c.loop-term.term-index c.args.terms.now
    ≡ c.args.terms.now = ap (λ (n : ℕ). take n c.args.terms.now) (omega arith) ∙ take-length c.args.terms.now in
    let summed = subst (λ (ts : List LeafTerm). IsSummed c.args.key.now c.args.sides.now ts c.loop-term.sum) all
    c.loop-term.invariant in
    c.is_positive.ensures ∙ IsSummed-positive c.args.key.now c.args.sides.now c.args.terms.now c.loop-term.sum
    c.args.bounds.now summed ∙ sym (combo_closes-is c.args.key.now box c.args.terms.now low c.if-terms-gt8.false)
