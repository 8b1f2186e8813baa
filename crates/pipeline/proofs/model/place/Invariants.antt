use Rattle.std.proofs.Common.{◌≡◌, ◌<◌, ℕ, length, slice_index}
use Rattle.std.specs.List.{Contains}
use Rattle.lin_model.specs.Terms.{value_at}
use Rattle.pipeline.proofs.model.place.Given as goal

-- the variables so far have their values, and all others those that they had
abbrev pub invariant-loop-v : goal.invariant-loop-v
invariant-loop-v l = record {
  long : length l.values ≡ length l.fn.values;
  placed : (v : ℕ) → v < l.v → value_at l.values (slice_index l.back v) ≡ value_at l.point v;
  others : (w : ℕ) → (Contains l.back w → ⊥) → value_at l.values w ≡ value_at l.fn.values w;
}
