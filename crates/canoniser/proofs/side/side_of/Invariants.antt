use Rattle.std.proofs.Common.{◌≡◌, ℕ, ◌<◌, pos, take, get_or}
use Rattle.std.specs.Prelude.{All}
use Rattle.lin_model.specs.Terms.{TermFits}
use Rattle.canoniser.specs.Gathered.{factor_on, constants_of}
use Rattle.canoniser.proofs.side.side_of.Given as goal

-- the sums of the terms so far
abbrev pub invariant-loop-term : goal.invariant-loop-term
invariant-loop-term l = record {
  factors : (v : ℕ) → v < 64 → get_or l.side.factors v (pos 0) ≡ factor_on v (take l.term-index l.terms);
  constant : l.side.constant ≡ constants_of (take l.term-index l.terms);
  fits : All TermFits (take l.term-index l.terms);
}
