-- What the tries of a layer say of its entries: which is the first that decides a key, and which has the key itself.
use Rattle.std.proofs.Common.{◌≡◌, ℕ, ◌+◌, ◌*◌, ◌≤◌, ◌∙◌, List, Option, Some, None, get_or}
use Rattle.std.proofs.Common.{arith, sym, ap, subst, add-mul}
use Rattle.std.specs.Prelude.{All}
use Rattle.std.specs.List.{slice_get}
use Rattle.std.proofs.Math.Nat.{mul-le-mul_right}
use Rattle.std.proofs.lemmas.Option.{get_or_from_slice_get, slice_get_within}
use Rattle.lin_model.specs.KeyAtom.{PlainKeyAtom}
use Rattle.atom_implies.specs.Implies.{Covers}
use Rattle.cert_check.specs.declared.entry.Entry.{Entry}
use Rattle.cert_check.specs.declared.entry.Entry.TheVariants.{Sat, Unsat}
use Rattle.cert_check.specs.Decides.{Decides, IsChecked, IsFirst, key_of}
use Rattle.cert_check.specs.Laws.{DecidingEntriesSettle, EntriesDecideTheirKeys}
use Rattle.key_tree.specs.Tree.{Pair}
use Rattle.key_tree.specs.Held.{IsLeastAt, IsLeastOf, HavePrefixes}
use Rattle.layers.specs.Tries.{satisfied_keys, cores, IsLayer, LayerHasNodes}
use Rattle.layers.proofs.PairLemmas.{IsSatisfying, IsCore}
use Rattle.layers.proofs.LeastLemmas.{TestsKeys, first_satisfied, first_core}

-- a satisfied entry decides the keys that its own covers, a core those that cover it
pub deciding_tests : (q : List PlainKeyAtom)
    → TestsKeys (λ e. Decides e q) (λ key. Covers key q) (λ key. Covers q key)
deciding_tests q = record {
  satisfied_to = λ s decides. decides;
  satisfied_from = λ s covers. covers;
  core_to = λ u decides. decides;
  core_from = λ u covers. covers;
}

-- either has a key
pub key_tests : (q : List PlainKeyAtom) → TestsKeys (λ e. key_of e ≡ q) (λ key. key ≡ q) (λ key. key ≡ q)
key_tests q = record {
  satisfied_to = λ s same. same;
  satisfied_from = λ s same. same;
  core_to = λ u same. same;
  core_from = λ u same. same;
}

-- no key is decided by a checked satisfied entry and by a checked core: it would have a point and none
apart : DecidingEntriesSettle → (q : List PlainKeyAtom) (a b : Entry) → IsChecked a → IsChecked b → IsSatisfying a
    → IsCore b → Decides a q → Decides b q → ⊥
apart settle q (Sat s) (Unsat u) checked core_checked kind core_kind decides core_decides =
    settle (Unsat u) q core_checked core_decides s.point (settle (Sat s) q checked decides).holds
apart settle q (Sat s) (Sat t) checked core_checked kind core_kind decides core_decides = core_kind
apart settle q (Unsat u) b checked core_checked kind core_kind decides core_decides = kind

-- the entry that has a key decides it
pub own_decides : EntriesDecideTheirKeys → (q : List PlainKeyAtom) (e : Entry) → key_of e ≡ q → Decides e q
own_decides decide q e same = subst (λ (key : List PlainKeyAtom). Decides e key) same (decide e)

-- a layer, as its tries were read
module _ (es it : List Entry) (satisfied refuted : List Pair) (layer : IsLayer it satisfied refuted) (is : it ≡ es)
  where
    keys_are : satisfied ≡ satisfied_keys 0 es
    keys_are = layer.keys ∙ ap (satisfied_keys 0) is

    cores_are : refuted ≡ cores 0 es
    cores_are = layer.cores_are ∙ ap (cores 0) is

    checked : All IsChecked es
    checked = subst (λ (xs : List Entry). All IsChecked xs) is layer.checked

    -- an entry that stands at a place is checked
    checked_there : (n : ℕ) (a : Entry) → slice_get es n ≡ Some a → IsChecked a
    checked_there n a there =
        subst IsChecked (get_or_from_slice_get es n a a there) (checked n a (slice_get_within es n a there))

    -- a test by keys that only deciding entries pass
    module _ (settle : DecidingEntriesSettle) (q : List PlainKeyAtom) (P : Entry → Type 0)
        (Satisfied Refuted : List PlainKeyAtom → Type 0) (tests : TestsKeys P Satisfied Refuted)
        (decides : (e : Entry) → P e → Decides e q) where
      -- what was found among the satisfied keys is the first that passes
      pub satisfied_is_first : (n : ℕ) → IsLeastOf Satisfied satisfied (Some n) → IsFirst P es (Some n)
      satisfied_is_first n least =
          first_satisfied es P Satisfied Refuted tests n
          (λ a k d there kind passes lt core_kind core_passes. apart settle q a (get_or es k d) (checked_there n a there)
          (checked k d lt) kind core_kind (decides a passes) (decides (get_or es k d) core_passes))
          (subst (λ (ps : List Pair). IsLeastAt Satisfied ps n) keys_are least)

    -- and what was found among the cores, where no satisfied key was found
    pub core_is_first : (P : Entry → Type 0) (Satisfied Refuted : List PlainKeyAtom → Type 0)
        → TestsKeys P Satisfied Refuted → (o : Option ℕ) → IsLeastOf Satisfied satisfied None
        → IsLeastOf Refuted refuted o → IsFirst P es o
    core_is_first P Satisfied Refuted tests o none least =
        first_core es P Satisfied Refuted tests o
        (subst (λ (ps : List Pair). IsLeastOf Satisfied ps None) keys_are none)
        (subst (λ (ps : List Pair). IsLeastOf Refuted ps o) cores_are least)

    -- the steps of the walk among satisfied keys alone
    pub one_cost : (each nodes before after : ℕ) → ((n : ℕ) → HavePrefixes satisfied n → after ≤ before + n * each)
        → LayerHasNodes es nodes → after ≤ before + nodes * each
    one_cost each nodes before after first has =
        let one = first has.satisfied
        (subst (λ (ps : List Pair). HavePrefixes ps has.satisfied) (sym keys_are) has.of_satisfied) in
        let within : has.satisfied ≤ nodes = omega (arith, has.together) in
        omega (arith, one, mul-le-mul_right each within)

    -- and of both walks
    pub both_costs : (each nodes before mid after : ℕ) → ((n : ℕ) → HavePrefixes satisfied n → mid ≤ before + n * each)
        → ((n : ℕ) → HavePrefixes refuted n → after ≤ mid + n * each) → LayerHasNodes es nodes
        → after ≤ before + nodes * each
    both_costs each nodes before mid after first second has =
        let one = first has.satisfied
        (subst (λ (ps : List Pair). HavePrefixes ps has.satisfied) (sym keys_are) has.of_satisfied) in
        let two = second has.refuted
        (subst (λ (ps : List Pair). HavePrefixes ps has.refuted) (sym cores_are) has.of_refuted) in
        let together : nodes * each ≡ has.satisfied * each + has.refuted * each =
        ap (λ (n : ℕ). n * each) has.together ∙ add-mul has.satisfied has.refuted each in
        omega arith

    -- the layer's nodes are those of both tries
    pub both_nodes : (m n nodes : ℕ) → HavePrefixes satisfied m → HavePrefixes refuted n → nodes ≡ m + n
        → LayerHasNodes es nodes
    both_nodes m n nodes first second together = record {
      satisfied = m;
      refuted = n;
      of_satisfied = subst (λ (ps : List Pair). HavePrefixes ps m) keys_are first;
      of_refuted = subst (λ (ps : List Pair). HavePrefixes ps n) cores_are second;
      together = together;
    }
