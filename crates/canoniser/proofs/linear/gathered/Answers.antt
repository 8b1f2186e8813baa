use Rattle.std.proofs.Common.{◌≡◌, ℕ, ◌<◌, to_z, of_z, pos, get_or, ◌-ℤ◌, ap, arith, subst}
use Rattle.std.specs.Int.{w64}
use Rattle.std.specs.List.{All}
use Rattle.std.proofs.lemmas.Int.{ints}
use Rattle.lin_model.specs.Conditions.{AtomFits}
use Rattle.lin_model.specs.Terms.{TermFits}
use Rattle.canoniser.specs.Gathered.{coefficient, constant, loose, factor_on, constants_of}
use Rattle.canoniser.specs.Forms.{gathered}
use Rattle.canoniser.proofs.LimitsLemmas.{same_parts, IsGathered-same, IsGathered-gathered}
use Rattle.canoniser.proofs.linear.gathered.Goals as goal

pub returns-clause-linear : goal.returns-clause-linear
returns-clause-linear c =
    let reads : (v : ℕ) → v < 64 → coefficient c.args.atom.now v ≡ get_or c.side_of-left.result.factors v
    (pos 0) -ℤ get_or c.side_of-right.result.factors v (pos 0) = λ v low.
    omega (
      arith,
      ints,
      c.side_of-left.ensures.factors v low,
      c.side_of-right.ensures.factors v low,
      ap (factor_on v) c.terms.ensures.terms,
      ap (factor_on v) c.terms-2.ensures.terms,
    ) in
    let whole : to_z w64 (of_z w64 c.difference.result) ≡ constant c.args.atom.now =
    omega (
      arith,
      ints,
      c.difference.ensures,
      c.side_of-left.ensures.constant,
      c.side_of-right.ensures.constant,
      c.side_of-left.ensures.small_constant,
      c.side_of-right.ensures.small_constant,
      ap constants_of c.terms.ensures.terms,
      ap constants_of c.terms-2.ensures.terms,
    ) in
    same_parts c.in_ok-form.form.items c.op_of.result _ (gathered c.args.order.now c.args.atom.now)
    (c.in_ok-form.ensures {u = tt} c.args.atom.now reads) c.op_of.ensures
    (omega (arith, ints, c.loose-constant.ensures, ap (loose c.args.atom.now.cmp) whole))

pub returns-clause-limits : goal.returns-clause-limits
returns-clause-limits c =
    let fits : AtomFits c.args.atom.now = record {
      left = c.terms.ensures.fits;
      right = c.terms-2.ensures.fits;
      left_terms = subst (All TermFits) c.terms.ensures.terms c.side_of-left.ensures.fits;
      right_terms = subst (All TermFits) c.terms-2.ensures.terms c.side_of-right.ensures.fits;
    } in
    IsGathered-same _ (gathered c.args.order.now c.args.atom.now) (returns-clause-linear c)
    (IsGathered-gathered c.args.order.now c.args.atom.now c.requires.few fits)
