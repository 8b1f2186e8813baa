use Rattle.std.proofs.Common.{◌≡◌, ◌∙◌, ◌<◌, rules, false, Bool, List, [], ◌∷◌, length, ap, refl, sym, subst}
use Rattle.std.specs.Prelude.{All, replicate}
use Rattle.cert_check.specs.Decides.{IsChecked}
use Rattle.cert_check.specs.declared.entry.Entry.{Entry}
use Rattle.layers.specs.Firsts.{AreFirsts}
use Rattle.layers.specs.Halving.{IsVersion}
use Rattle.layers.proofs.HalvingLemmas.{one_version}
use Rattle.layers.proofs.FlagGrowth.{unset_firsts}
use Rattle.layers.proofs.version.Version.of.Goals as goal

pub invariant_of-result-2 : goal.invariant_of-result-2
invariant_of-result-2 c =
    let entries : List Entry = c.args.entries.items in
    let same : c.in_ok-layer.layer ≡ entries = search rules in
    let layers : c.in_ok-with_last.field-0.items ≡ c.in_ok-layer.layer ∷ [] = search rules in
    let layers_are : c.in_ok-with_last.field-0.items ≡ entries ∷ [] =
    layers ∙ ap (λ (es : List Entry). es ∷ []) same in
    let flags_are : c.in_ok-with_last-2.field-0.items ≡ c.in_ok-firsts.firsts ∷ [] = search rules in
    let unset : c.in_ok-firsts.firsts ≡ replicate (length entries) false = search rules in
    let some : 0 < length entries = search rules in
    let count : c.len-len.result ≡ length entries = search rules in (
      subst (λ (ls : List (List Entry)). IsVersion ls c.len-len.result) (sym layers_are)
          (one_version entries c.len-len.result some count c.requires
          (subst (λ (es : List Entry). All IsChecked es) same (c.in_ok-layer.ensures {u = tt}).checked)),
      subst (λ (ls : List (List Entry)). AreFirsts ls c.in_ok-with_last-2.field-0.items) (sym layers_are)
          (subst (λ (fs : List (List Bool)). AreFirsts (entries ∷ []) fs) (sym flags_are)
          (unset_firsts entries c.in_ok-firsts.firsts (length entries) unset refl)),
    )
