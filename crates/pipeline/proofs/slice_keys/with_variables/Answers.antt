use Rattle.std.proofs.Common.{List, [], ◌∷◌, ◌++◌, ap, subst, sym, ◌∙◌}
use Rattle.std.specs.List.{All}
use Rattle.std.proofs.lemmas.List.Elements.{All-append, All-nil}
use Rattle.pipeline.specs.declared.slice_keys.SliceKey.{SliceKey}
use Rattle.pipeline.specs.Keyed.{KeepsKeyLimits, keys_in}
use Rattle.pipeline.proofs.KeyedLemmas.{keys_in-push}
use Rattle.pipeline.proofs.slice_keys.with_variables.Goals as goal

pub loop-canonical-init : goal.loop-canonical-init
loop-canonical-init c = record {
  keys = c.new-keys.ensures.items;
  limits = subst (All KeepsKeyLimits) (sym c.new-keys.ensures.items) (All-nil KeepsKeyLimits);
}

pub loop-canonical-preserved : goal.loop-canonical-preserved
loop-canonical-preserved c =
    let pushed = c.in_ok-push_key.ensures {u = tt} in
    record {
      keys =
          pushed.keys
          ∙ (ap (λ (ks : List SliceKey). ks ++ keys_in (c.in-Some.canonical ∷ [])) c.loop-canonical.invariant.keys
          ∙ sym (keys_in-push c.loop-canonical.yielded c.in-Some.canonical));
      limits =
          subst (All KeepsKeyLimits) (sym pushed.keys)
          (All-append KeepsKeyLimits c.loop-canonical.keys.items (keys_in (c.in-Some.canonical ∷ []))
          c.loop-canonical.invariant.limits pushed.limits);
    }
