use Rattle.std.proofs.Common.{◌≡◌, length, refl, arith}
use Rattle.std.proofs.lemmas.List.{same_lists}
use Rattle.lin_model.proofs.key.same_atoms.Goals as goal

pub returns : goal.returns
returns c = (
  λ _.
      let same : length c.args.a.now ≡ length c.args.b.now = omega arith in
      same_lists c.args.a.now c.args.b.now same (λ k d lt. c.loop-k.invariant k d (omega arith)),
  λ _. refl,
)
