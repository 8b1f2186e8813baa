-- Each refuted key has a core: what can go goes, one atom after another.
use Rattle.std.proofs.Common.{◌≡◌, ◌⊎◌, ℕ, zero, suc, ◌+◌, ◌<◌, Bool, false, ◌||◌, Result, Ok, Err, List, [], ◌∷◌}
use Rattle.std.proofs.Common.{length, get_or, inl, inr, refl, sym, subst, ap, ◌∙◌, arith}
use Rattle.std.proofs.lemmas.Bool.{both_ways, cases_Bool}
use Rattle.lin_model.specs.KeyAtom.{PlainKeyAtom}
use Rattle.lin_model.specs.Lists.{below_or_last}
use Rattle.refutation.specs.declared.fault.TreeFault.{TreeFault}
use Rattle.refutation.specs.declared.leaf.LeafTerm.{LeafTerm}
use Rattle.refutation.specs.declared.node.Node.{Node}
use Rattle.refutation.specs.Chosen.{chosen}
use Rattle.refutation.specs.Laws.{EachTreeHasOneAnswer, IsTreeAnswer}
use Rattle.refutation.specs.Reading.{Refutes}
use Rattle.refutation.specs.Tree.{PlainTree}
use Rattle.unsat_core.specs.Cores.{IsChosen, IsLeast, IsNeeded, RefutesChosen, is_bound, without}
use Rattle.unsat_core.specs.Laws.{OthersCanGo, RefutedKeysHaveCores}
use Rattle.unsat_core.specs.Named.{AreNamed}
use Rattle.unsat_core.specs.Renumbered.{names, renumbered}
use Rattle.unsat_core.specs.Steps.{AddsBounds, PlainRefuted, Suffices, chosen_count}
use Rattle.unsat_core.proofs.SufficesLemmas.{IsLeast-needed, IsNeeded-bound, Suffices-first, Suffices-without}
use Rattle.unsat_core.proofs.WithoutLemmas.{chosen_count-without}

-- ---- the choice to begin with

-- whether the tree names the atoms from this number on
named_from : PlainTree → ℕ → List PlainKeyAtom → List Bool
named_from tree n [] = []
named_from tree n (a ∷ key) = names tree n ∷ named_from tree (suc n) key

-- the choice of these and of the bounds
with_bounds : List PlainKeyAtom → List Bool → List Bool
with_bounds [] flags = []
with_bounds (a ∷ key) [] = is_bound a ∷ with_bounds key []
with_bounds (a ∷ key) (f ∷ flags) = (f || is_bound a) ∷ with_bounds key flags

length-named_from : (tree : PlainTree) (n : ℕ) (key : List PlainKeyAtom) → length (named_from tree n key) ≡ length key
unfolding named_from
length-named_from tree n [] = refl
length-named_from tree n (a ∷ key) = ap suc (length-named_from tree (suc n) key)

named_from-at : (tree : PlainTree) (n : ℕ) (key : List PlainKeyAtom) (i : ℕ) → i < length key
    → get_or (named_from tree n key) i false ≡ names tree (n + i)
unfolding named_from
named_from-at tree n [] i lt = absurd (omega arith)
named_from-at tree n (a ∷ key) zero lt = ap (names tree) (omega arith)
named_from-at tree n (a ∷ key) (suc i) lt =
    named_from-at tree (suc n) key i (omega arith) ∙ ap (names tree) (omega arith)

AreNamed-from : (key : List PlainKeyAtom) (tree : PlainTree) → AreNamed key tree (named_from tree 0 key)
AreNamed-from key tree = record {
  one_each = length-named_from tree 0 key;
  each = λ i lt. named_from-at tree 0 key i lt ∙ ap (names tree) (omega arith);
}

length-with_bounds : (key : List PlainKeyAtom) (flags : List Bool) → length (with_bounds key flags) ≡ length key
unfolding with_bounds
length-with_bounds [] flags = refl
length-with_bounds (a ∷ key) [] = ap suc (length-with_bounds key [])
length-with_bounds (a ∷ key) (f ∷ flags) = ap suc (length-with_bounds key flags)

with_bounds-at : (key : List PlainKeyAtom) (flags : List Bool) (i : ℕ) (d : PlainKeyAtom) → i < length key
    → get_or (with_bounds key flags) i false ≡ (get_or flags i false || is_bound (get_or key i d))
unfolding with_bounds
with_bounds-at [] flags i d lt = absurd (omega arith)
with_bounds-at (a ∷ key) [] zero d lt = refl
with_bounds-at (a ∷ key) [] (suc i) d lt = with_bounds-at key [] i d (omega arith)
with_bounds-at (a ∷ key) (f ∷ flags) zero d lt = refl
with_bounds-at (a ∷ key) (f ∷ flags) (suc i) d lt = with_bounds-at key flags i d (omega arith)

AddsBounds-with : (key : List PlainKeyAtom) (flags : List Bool) → AddsBounds key flags (with_bounds key flags)
AddsBounds-with key flags = record {
  one_each = length-with_bounds key flags;
  each = λ i d lt. with_bounds-at key flags i d lt;
}

-- ---- an atom that can go

-- a tree refutes a key, or it doesn't
refutes_or_not : EachTreeHasOneAnswer → (key : List PlainKeyAtom) (nodes : List Node) (terms : List LeafTerm)
    → Refutes key nodes terms ⊎ (¬ Refutes key nodes terms)
refutes_or_not one_answer key nodes terms =
    let one = one_answer key nodes terms in by_answer one.answer one.is one.alone
  where
    by_answer : (answer : Result (Unit {0}) TreeFault) → IsTreeAnswer key nodes terms answer
        → ((other : Result (Unit {0}) TreeFault) → IsTreeAnswer key nodes terms other → other ≡ answer)
        → Refutes key nodes terms ⊎ (¬ Refutes key nodes terms)
    by_answer (Ok u) is alone = inl is
    by_answer (Err fault) is alone = inr (λ refutes. let same = alone (Ok tt) refutes in absurd (cc))

-- a chosen atom that the tree doesn't name and without which it refutes the others
record CanGo (r : PlainRefuted) (choice : List Bool) : Type 0 where
  number : ℕ
  is_chosen : IsChosen choice number
  not_named : names r.tree number ≡ false
  refutes : RefutesChosen r.key r.tree (without choice number)

-- what the tree needs of the first n atoms
abbrev NeedsFirst : PlainRefuted → List Bool → ℕ → Type 0
NeedsFirst r choice n = (i : ℕ) → i < n → IsChosen choice i → IsNeeded r.key r.tree choice i

module _ (one_answer : EachTreeHasOneAnswer) (r : PlainRefuted) where
  -- one atom
  try_one : (choice : List Bool) (i : ℕ) → Suffices r choice
      → CanGo r choice ⊎ (IsChosen choice i → IsNeeded r.key r.tree choice i)
  try_one choice i s =
      elim (cases_Bool (get_or choice i false)) [
        | inr out ↦ inr (λ is. absurd (both_ways (get_or choice i false) out is))
        | inl is ↦ elim (cases_Bool (names r.tree i)) [
          | inl named ↦ inr (λ _. inl named)
          | inr not_named ↦ elim (refutes_or_not one_answer (chosen r.key (without choice i))
              (renumbered (without choice i) r.tree).nodes (renumbered (without choice i) r.tree).terms) [
                | inl refutes ↦
                    inl (record { number = i; is_chosen = is; not_named = not_named; refutes = refutes })
                | inr not_refuted ↦ inr (λ _. IsNeeded-bound r choice i s is not_named not_refuted)
              ]
        ]
      ]

  -- the first n atoms
  try_first : (choice : List Bool) (n : ℕ) → Suffices r choice → CanGo r choice ⊎ NeedsFirst r choice n
  try_first choice zero s = inr (λ i lt. absurd (omega arith))
  try_first choice (suc n) s =
      elim (try_first choice n s) [
        | inl goes ↦ inl goes
        | inr below ↦ elim (try_one choice n s) [
          | inl goes ↦ inl goes
          | inr here ↦ inr (λ i lt is. elim (below_or_last i n (omega arith)) [
            | inl before ↦ below i before is
            | inr same ↦ subst (λ (k : ℕ). IsNeeded r.key r.tree choice k) (sym same)
                (here (subst (λ (k : ℕ). IsChosen choice k) same is))
          ])
        ]
      ]

  -- a least choice
  record HasLeast : Type 0 where
    choice : List Bool
    least : IsLeast r.key r.tree choice

  -- from a choice of fewer than n atoms that will do
  least_below : (n : ℕ) (choice : List Bool) → chosen_count choice < n → Suffices r choice → HasLeast
  least_below zero choice few s = absurd (omega arith)
  least_below (suc n) choice few s =
      elim (try_first choice (length choice) s) [
        | inl goes ↦
            least_below n (without choice goes.number)
            (omega (arith, few, chosen_count-without choice goes.number goes.is_chosen))
            (Suffices-without r choice goes.number s goes.not_named goes.refutes)
        | inr needed ↦ record { choice = choice; least = IsLeast-needed r choice s needed }
      ]

-- each refuted key has a core
pub have_cores : OthersCanGo → EachTreeHasOneAnswer → RefutedKeysHaveCores
have_cores others one_answer key tree refutes =
    let r : PlainRefuted = record { key = key; tree = tree } in
    let flags = named_from tree 0 key in
    let choice = with_bounds key flags in
    let least = least_below one_answer r (suc (chosen_count choice)) choice (omega arith)
    (Suffices-first others r flags choice refutes (AreNamed-from key tree) (AddsBounds-with key flags)) in
    record {
      core = chosen key least.choice;
      core_tree = renumbered least.choice tree;
      is = record { choice = least.choice; least = least.least; atoms = refl; adjusted = refl };
    }
