use Rattle.std.proofs.Common.{◌≡◌, ◌+◌, ◌*◌, ◌≤◌, ◌∙◌, ℕ, Bool, [], ◌∷◌, ◌++◌, List, length, take, drop, get_or, arith, ap, sym, subst}
use Rattle.std.specs.Prelude.{All}
use Rattle.lin_model.specs.KeyAtom.{PlainKeyAtom}
use Rattle.cert_check.specs.Decides.{IsChecked, NoneDecides, key_of}
use Rattle.cert_check.specs.declared.entry.Entry.{Entry}
use Rattle.layers.specs.Halving.{AreGrown, AreShortFrom, IsLongBefore}
use Rattle.layers.specs.Layers.{joined}
use Rattle.layers.specs.Firsts.{flags_of}
use Rattle.layers.proofs.HalvingLemmas.{added_entries, added_version}
use Rattle.layers.proofs.FlagGrowth.{added_firsts}
use Rattle.layers.proofs.UndecidedLemmas.{key_undecided}
use Rattle.layers.proofs.version.Version.add_seen.Goals as goal

-- the layers with the entry, by those that the version has
out_is : (c : goal.In_ok-layers) → c.in_ok-layers.layers.items
    ≡ take c.kept_layers-kept.result c.self.inside.layers.items
    ++ (joined (drop c.kept_layers-kept.result c.self.inside.layers.items) ++ c.args.entry ∷ []) ∷ []
out_is c =
    subst (λ (ls : List (List Entry)). c.in_ok-layers.layers.items
    ≡ take c.kept_layers-kept.result ls ++ (joined (drop c.kept_layers-kept.result ls) ++ c.args.entry ∷ []) ∷ [])
    c.deref-3.ensures.value (c.in_ok-layers.ensures {u = tt})

pub is_undecided-is_first-requires : goal.is_undecided-is_first-requires
is_undecided-is_first-requires c =
    subst (λ (key : List PlainKeyAtom). NoneDecides (take c.args.seen (joined c.args.self.now)) key)
    (sym (c.key.ensures.key ∙ ap key_of c.get.ensures))
    (key_undecided c.deciding_entries_settle.ensures c.entries_decide_their_keys.ensures (joined c.args.self.now)
    c.args.seen c.args.entry
    (subst (λ (ls : List (List Entry)). All IsChecked (joined ls)) c.self.view_is c.self.invariant.0.checked)
    (subst (λ (e : Entry). IsChecked e) c.get.ensures c.key.ensures.checked) c.requires.more)

pub invariant_of-result : goal.invariant_of-result
invariant_of-result c =
    let layers : List (List Entry) = c.self.inside.layers.items in
    let kept : ℕ = c.kept_layers-kept.result in
    let entries : joined layers ≡ joined c.args.self.now = ap (λ (ls : List (List Entry)). joined ls) c.self.view_is in
    let count = ap (λ (es : List Entry). length es) entries in
    let within : kept ≤ length layers =
    subst (λ (ls : List (List Entry)). kept ≤ length ls) c.deref.ensures.value c.kept_layers-kept.ensures.within in
    let news_are = subst (λ (fs : List (List Bool)). c.in_ok-firsts.firsts.items
    ≡ take kept fs ++ (flags_of (drop kept fs) ++ c.is_undecided-is_first.result ∷ []) ∷ [])
    c.deref-2.ensures.value (c.in_ok-firsts.ensures {u = tt}) in (
      added_version layers c.in_ok-layers.layers.items kept c.args.entry (out_is c) c.self.inside.len c.self.invariant.0
          (subst (λ (e : Entry). IsChecked e) c.get.ensures c.key.ensures.checked)
          (omega (arith, c.self.invariant.0.counted, count)) within
          (subst (λ (ls : List (List Entry)). (k : ℕ) (d : List Entry) → k + 1 ≡ kept
          → 2 * (length (joined (drop kept ls)) + 1) ≤ length (get_or ls k d)) c.deref.ensures.value
          c.kept_layers-kept.ensures.long),
      added_firsts layers c.in_ok-layers.layers.items c.self.inside.firsts.items c.in_ok-firsts.firsts.items kept
          c.args.entry c.is_undecided-is_first.result c.self.invariant.1 (out_is c) news_are
          (λ undecided.
          let none : NoneDecides (joined c.args.self.now) c.key.result.now = c.is_undecided-is_first.ensures.0 undecided in
          subst (λ (es : List Entry). NoneDecides es (key_of c.args.entry)) (sym entries)
          (subst (λ (key : List PlainKeyAtom). NoneDecides (joined c.args.self.now) key)
          (c.key.ensures.key ∙ ap key_of c.get.ensures) none)),
    )

pub returns-clause-entries : goal.returns-clause-entries
returns-clause-entries c =
    added_entries c.self.inside.layers.items c.in_ok-layers.layers.items c.kept_layers-kept.result c.args.entry (out_is c)
    ∙ ap (λ (ls : List (List Entry)). joined ls ++ c.args.entry ∷ []) c.self.view_is

pub returns-clause-grown : goal.returns-clause-grown
returns-clause-grown c =
    let kept : ℕ = c.kept_layers-kept.result in
    subst (λ (ls : List (List Entry)). AreGrown ls c.args.entry c.in_ok-layers.layers.items) c.self.view_is (record {
      kept = kept;
      within = subst (λ (ls : List (List Entry)). kept ≤ length ls) c.deref.ensures.value
          c.kept_layers-kept.ensures.within;
      layers_are = out_is c;
      long = subst (λ (ls : List (List Entry)). IsLongBefore kept ls) c.deref.ensures.value
          c.kept_layers-kept.ensures.long;
      short = subst (λ (ls : List (List Entry)). AreShortFrom kept ls) c.deref.ensures.value
          c.kept_layers-kept.ensures.short;
    })
