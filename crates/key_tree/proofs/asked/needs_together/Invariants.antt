use Rattle.std.proofs.Common.{ℕ, ◌<◌, get_or}
use Rattle.lin_model.specs.KeyAtom.{PlainKeyAtom}
use Rattle.key_tree.specs.Prints.{needs_of, IsWithin}
use Rattle.key_tree.proofs.asked.needs_together.Given as goal

-- the needs so far have what each atom so far needs, and are within each mask that has
abbrev pub invariant-loop-place : goal.invariant-loop-place
invariant-loop-place l = record {
  each : (k : ℕ) (d : PlainKeyAtom) → k < l.place → IsWithin (needs_of (get_or l.atoms k d)) l.needs;
  least : (mask : ℕ) → ((k : ℕ) (d : PlainKeyAtom) → k < l.place → IsWithin (needs_of (get_or l.atoms k d)) mask)
      → IsWithin l.needs mask;
}
