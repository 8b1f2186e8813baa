use Rattle.std.proofs.Common.{length, ap, arith}
use Rattle.unsat_core.specs.Steps.{PlainRefuted}
use Rattle.unsat_core.proofs.find.find_core.Goals as goal

pub of-requires-2 : goal.of-requires-2
of-requires-2 c =
    omega (
      arith,
      ap (λ (r : PlainRefuted). length r.key) c.in_ok-refuted.ensures,
      c.in_ok-choice.ensures.one_each,
      c.keeps_limits.ensures.fits.few,
    )
