use Rattle.std.proofs.Common.{subst, sym, length}
use Rattle.std.specs.Prelude.{All, AllPairs}
use Rattle.lin_model.specs.Conditions.{PlainCondition, Differ, AtomNamesBelow}
use Rattle.lin_text.proofs.draft.Draft.into_condition.Goals as goal

pub new-requires : goal.new-requires
new-requires c = record {
  few_vars = c.self.invariant.few_vars;
  few_atoms = c.self.invariant.few_atoms;
  distinct = subst (λ (q : PlainCondition). AllPairs Differ q.vars) (sym c.self.view_is) c.requires.distinct;
  in_range = subst (λ (q : PlainCondition). All (AtomNamesBelow (length q.vars)) q.atoms)
      (sym c.self.view_is) c.requires.in_range;
}
