use Rattle.std.proofs.Common.{◌≡◌, ℕ, ◌<◌, false, ◌||◌, length, get_or}
use Rattle.lin_model.specs.KeyAtom.{PlainKeyAtom}
use Rattle.unsat_core.specs.Cores.{is_bound}
use Rattle.unsat_core.proofs.refuted.with_bounds.Given as goal

-- each atom so far is chosen or not as it is to be
abbrev pub invariant-loop-place : goal.invariant-loop-place
invariant-loop-place l = record {
  long : length l.choice.items ≡ l.place;
  each : (i : ℕ) (d : PlainKeyAtom) → i < l.place
      → get_or l.choice.items i false ≡ (get_or l.flags i false || is_bound (get_or l.atoms i d));
}
