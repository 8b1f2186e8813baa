use Rattle.std.proofs.Common.{◌≡◌, ℕ, ◌+◌, ◌*◌, ◌^◌, ◌<◌, ◌≤◌, pos, ◌+ℤ◌, ◌*ℤ◌, unsigned_abs, get_or, drop}
use Rattle.refutation.specs.Leaf.{coefficient_of}
use Rattle.refutation.proofs.sum.add_scaled.Given as goal

-- the coefficients so far, and what the terms to come add
abbrev pub invariant-loop-term : goal.invariant-loop-term
invariant-loop-term l = record {
  value : (v : ℕ) → v < 64 → get_or l.coefs v (pos 0) +ℤ (l.weight *ℤ coefficient_of (drop l.term-index l.form) v)
      ≡ get_or l.initial.coefs v (pos 0) +ℤ (l.weight *ℤ coefficient_of l.form v);
  room : (v : ℕ) → v < 64 → unsigned_abs (get_or l.coefs v (pos 0)) ≤ 2 ^ 81 + 2 ^ 71 * l.term-index;
}
