use Rattle.std.proofs.Common.{◌≡◌, length}
use Rattle.combos.specs.AtCorners.{AreWorths}
use Rattle.combos.proofs.worths.Worths.of.Given as goal

-- those so far are worth what is kept
abbrev pub invariant-loop-place : goal.invariant-loop-place
invariant-loop-place l = record {
  are : AreWorths l.key (record { bounds = l.bounds; sides = l.sides }) l.worths;
  count : length l.worths.lowest.items ≡ l.place;
}
