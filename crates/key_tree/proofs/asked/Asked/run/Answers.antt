use Rattle.std.proofs.Common.{◌≤◌, List, length, ap, subst, arith}
use Rattle.std.proofs.lemmas.List.{length-map}
use Rattle.lin_model.specs.KeyAtom.{PlainKeyAtom}
use Rattle.key_tree.specs.Asked.{atom_hash}
use Rattle.key_tree.specs.Runs.{IsRunOf}
use Rattle.key_tree.proofs.RunLemmas.{run_of}
use Rattle.key_tree.proofs.asked.Asked.run.Goals as goal

pub returns-clause-run : goal.returns-clause-run
returns-clause-run c =
    subst (λ (key : List PlainKeyAtom). IsRunOf key c.args.hash c.run.result) c.self.view_is
    (run_of c.self.inside.key.now c.self.inside.hashes.items c.self.inside.runs c.args.hash c.run.result
    c.self.invariant.hashed c.self.invariant.run c.run.ensures.first c.run.ensures.end)

pub returns-clause-few : goal.returns-clause-few
returns-clause-few c =
    subst (λ (key : List PlainKeyAtom). length key ≤ 384) c.self.view_is
    (omega (
      arith,
      ap length c.self.invariant.hashed,
      length-map c.self.inside.key.now atom_hash,
      c.self.invariant.few,
    ))
