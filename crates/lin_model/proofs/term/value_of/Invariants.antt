use Rattle.std.proofs.Common.{◌≡◌, ◌*◌, ◌^◌, ◌≤◌, take}
use Rattle.std.specs.Prelude.{unsigned_abs}
use Rattle.lin_model.specs.Terms.{value_of}
use Rattle.lin_model.proofs.term.value_of.Given as goal

-- the sum so far is that of the terms so far, and no larger than they can make it
abbrev pub invariant-loop-term : goal.invariant-loop-term
invariant-loop-term l = record {
  so_far : l.sum ≡ value_of (take l.term-index l.terms) l.values;
  small : unsigned_abs l.sum ≤ 2 ^ 103 * l.term-index;
}
