use Rattle.std.proofs.Common.{◌≡◌, ◌≤◌, ◌*◌, ◌^◌, ◌+ℤ◌, unsigned_abs, drop}
use Rattle.lin_model.specs.Form.{form_value}
use Rattle.lin_model.proofs.key_atom.value_of.Given as goal

-- the sum so far, and that of the terms to come
abbrev pub invariant-loop-term : goal.invariant-loop-term
invariant-loop-term l =
    (l.sum +ℤ form_value (drop l.term-index l.terms) l.values ≡ form_value l.terms l.values)
    × (unsigned_abs l.sum ≤ 2 ^ 73 * l.term-index)
