use Rattle.std.proofs.Common.{◌≡◌, ◌≤◌, max, drop}
use Rattle.lin_model.specs.Form.{form_width}
use Rattle.lin_model.proofs.key_atom.width_of.Given as goal

-- the width so far, and that of the terms to come
abbrev pub invariant-loop-term : goal.invariant-loop-term
invariant-loop-term l = (max l.width (form_width (drop l.term-index l.terms)) ≡ form_width l.terms) × (l.width ≤ 64)
