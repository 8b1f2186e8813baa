use Rattle.std.proofs.Common.{◌≡◌, ◌≤◌, max, drop}
use Rattle.std.specs.List.{AllWithin}
use Rattle.lin_model.specs.KeyAtom.{IsCanonical}
use Rattle.lin_model.specs.Key.{key_width}
use Rattle.lin_model.proofs.key.width_of.Given as goal

-- the width so far, and that of the atoms to come
abbrev pub invariant-loop-atom : goal.invariant-loop-atom
invariant-loop-atom l = record {
  width : max l.width (key_width (drop l.atom-index l.atoms)) ≡ key_width l.atoms;
  within : l.width ≤ 64;
  canonical : AllWithin IsCanonical l.atoms 0 l.atom-index;
}
