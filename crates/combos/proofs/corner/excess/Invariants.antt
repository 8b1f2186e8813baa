use Rattle.std.proofs.Common.{◌≡◌, ◌≤◌, ◌*◌, ◌^◌, ◌+ℤ◌, true, false, unsigned_abs, drop}
use Rattle.lin_model.specs.Form.{form_value}
use Rattle.combos.specs.Corner.{corner}
use Rattle.combos.proofs.corner.excess.Given as goal

-- the sums so far, and those of the terms to come
abbrev pub invariant-loop-term : goal.invariant-loop-term
invariant-loop-term l = record {
  lowest : l.lowest +ℤ form_value (drop l.term-index l.form) (corner l.bounds false)
      ≡ form_value l.form (corner l.bounds false);
  highest : l.highest +ℤ form_value (drop l.term-index l.form) (corner l.bounds true)
      ≡ form_value l.form (corner l.bounds true);
  lowest_size : unsigned_abs l.lowest ≤ 2 ^ 74 * l.term-index;
  highest_size : unsigned_abs l.highest ≤ 2 ^ 74 * l.term-index;
}
