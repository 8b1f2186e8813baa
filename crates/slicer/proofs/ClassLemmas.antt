-- The classes of linked variables, as one variable after another is looked at.
use Rattle.std.proofs.Common.{◌≡◌, ◌↔◌, ℕ, ◌+◌, ◌<◌, ◌≤◌, List, [], ◌∷◌, ◌++◌, length, get_or, ◌⊎◌, inl, inr, refl}
use Rattle.std.proofs.Common.{arith, sym, subst, ◌∙◌}
use Rattle.std.specs.Prelude.{All, Any, AllPairs, Contains}
use Rattle.std.specs.List.{HoldsAt}
use Rattle.std.proofs.lemmas.List.{get_or_default, length_push}
use Rattle.std.proofs.Math.ListN.{get_or-append}
use Rattle.std.proofs.Math.Seq.{get_or-append_seam}
use Rattle.std.proofs.lemmas.List.Elements.{All-nil, All-push, All-weaker, Contains-get_or}
use Rattle.std.proofs.lemmas.List.Quantifiers.{all_pairs_push, Any-push}
use Rattle.std.proofs.lemmas.Bool.Decides.{eqb_tells}
use Rattle.lin_model.specs.Conditions.{PlainCondition}
use Rattle.lin_model.specs.Lists.{below_or_last}
use Rattle.slicer.specs.declared.var_set.VarSet.{VarSet}
use Rattle.slicer.specs.Linked.{Linked, alone}
use Rattle.slicer.specs.Names.{Names}
use Rattle.slicer.specs.Slices.{PlainSlice, Lists, IsSliceOf, AreClasses, least}
use Rattle.slicer.specs.VarSets.{Has, Meet, AreSetsOf, IsReached}
use Rattle.slicer.proofs.ChainLemmas.{Chain-append, Chain-turned}
use Rattle.slicer.proofs.ListsLemmas.{Lists-same}
use Rattle.slicer.proofs.SetLemmas.{Linked-sets, NamesAt-sets}

-- some slice has the variable
abbrev pub InSome : List PlainSlice → ℕ → Type 0
InSome slices v = Any (λ slice. Contains slice.vars v) slices

-- the classes of the variables below a count, and which variables they have
pub record AreClassesBelow (c : PlainCondition) (count : ℕ) (slices : List PlainSlice)
    (Seen : ℕ → Type 0) : Type 0 where
  pub each : All (λ slice. IsSliceOf c (least slice) slice) slices
  pub by_least : AllPairs (λ earlier later. least earlier < least later) slices
  pub below : All (λ slice. least slice < count) slices
  pub every : (v : ℕ) → v < count → Seen v
  pub in_some : (v : ℕ) → v < length c.vars → Seen v ↔ InSome slices v

pub AreClassesBelow-none : (c : PlainCondition) (Seen : ℕ → Type 0) → ((v : ℕ) → ¬ Seen v) → AreClassesBelow c 0 [] Seen
AreClassesBelow-none c Seen void = record {
  each = All-nil (λ slice. IsSliceOf c (least slice) slice);
  by_least = λ i j d before within. absurd (omega arith);
  below = All-nil (λ slice. least slice < 0);
  every = λ v lt. absurd (omega arith);
  in_some = λ v lt. (λ has. absurd (void v has), λ some. absurd (omega (arith, some.2)));
}

-- the variable is in a slice before it
pub AreClassesBelow-seen : (c : PlainCondition) (var : ℕ) (slices : List PlainSlice) (Seen : ℕ → Type 0)
    → AreClassesBelow c var slices Seen → Seen var → AreClassesBelow c (var + 1) slices Seen
AreClassesBelow-seen c var slices Seen so_far has = record {
  each = so_far.each;
  by_least = so_far.by_least;
  below =
      All-weaker (λ (slice : PlainSlice). least slice < var) (λ slice. least slice < var + 1)
      (λ slice lt. omega arith) slices so_far.below;
  every =
      λ v lt. elim (below_or_last v var lt) [
        | inl earlier ↦ so_far.every v earlier
        | inr same ↦
            subst Seen (sym same) has
      ];
  in_some = so_far.in_some;
}

-- the first of an ascending list is in it, and none is smaller
pub first_of_ascending : (numbers : List ℕ) (n : ℕ) → AllPairs ◌<◌ numbers → Contains numbers n
    → Contains numbers (get_or numbers 0 0) × (get_or numbers 0 0 ≤ n)
first_of_ascending numbers n ascending has = (
  Contains-get_or numbers 0 0 (let within = has.1 in omega arith),
  let here : get_or numbers has.0 0 ≡ n = get_or_default numbers has.0 0 n has.1 ∙ has.2 in
      elim (eqb_tells has.0 0) [
        | inl zero ↦ (let first : get_or numbers 0 0 ≡ n =
            subst (λ (k : ℕ). get_or numbers k 0 ≡ n) zero.1 here in omega arith)
        | inr later ↦ (let ne = later.1 in let lt : get_or numbers 0 0 < get_or numbers has.0 0 =
            ascending 0 has.0 0 (omega arith) has.1 in omega arith)
      ],
)

-- a variable that no earlier slice has is the least of its class
least_is : (c : PlainCondition) (var : ℕ) (slices : List PlainSlice) (Seen : ℕ → Type 0) (slice : PlainSlice)
    → AreClassesBelow c var slices Seen → ¬ Seen var → IsSliceOf c var slice → least slice ≡ var
least_is c var slices Seen slice so_far unseen here =
    let self : Contains slice.vars var = (here.vars.just var).1 (here.declared, alone) in
    let first = first_of_ascending slice.vars var here.vars.ascending self in
    let joined = (here.vars.just (least slice)).0 first.0 in
    elim (eqb_tells (least slice) var) [
      | inl same ↦ same.1
      | inr other ↦ absurd (
          let ne = other.1 in
          let le = first.1 in
          let earlier = so_far.every (least slice) (omega arith) in
          let some = (so_far.in_some (least slice) joined.0).0 earlier in
          let before = some.1 in
          let its : IsSliceOf c (least before) before =
          subst (λ (s : PlainSlice). IsSliceOf c (least s) s) some.3 (so_far.each some.0 before some.2) in
          let chain =
          Chain-append Names c.atoms ((its.vars.just (least slice)).0 some.4).1
          (Chain-turned Names c.atoms joined.1) in
          unseen ((so_far.in_some var here.declared).1
          (some.0, before, some.2, some.3, (its.vars.just var).1 (here.declared, chain)))
          )
    ]

-- a list with one more slice has what the new one has
pub InSome-push : (slices : List PlainSlice) (slice : PlainSlice) (v : ℕ)
    → InSome (slices ++ slice ∷ []) v ↔ (InSome slices v ⊎ Contains slice.vars v)
InSome-push slices slice v = (
  λ some.
      let length_is = length_push slices slice in
      let within = some.2 in
      elim (below_or_last some.0 (length slices) (omega arith)) [
        | inl earlier ↦ inl (
          some.0,
          some.1,
          earlier,
          sym (get_or-append slices (slice ∷ []) some.1 some.0 earlier)
              ∙ some.3,
          some.4,
        )
        | inr last ↦ inr (
            let at : get_or (slices ++ slice ∷ []) (length slices) some.1 ≡ some.1 =
            subst (λ (k : ℕ). get_or (slices ++ slice ∷ []) k some.1 ≡ some.1) last some.3 in
            let is : some.1 ≡ slice = sym at ∙ get_or-append_seam slices slice [] some.1 in
            subst (λ (s : PlainSlice). Contains s.vars v) is some.4
            )
      ],
  λ one. elim one [
    | inl earlier ↦ (
        let length_is = length_push slices slice in
        let within = earlier.2 in (
          earlier.0,
          earlier.1,
          omega arith,
          get_or-append slices (slice ∷ []) earlier.1 earlier.0 earlier.2 ∙ earlier.3,
          earlier.4,
        )
        )
    | inr last ↦ Any-push (λ (s : PlainSlice). Contains s.vars v) slices slice last
  ],
)

-- the variable is the least of a class of its own
pub AreClassesBelow-more : (c : PlainCondition) (var : ℕ) (slices : List PlainSlice) (Seen After : ℕ → Type 0)
    (slice : PlainSlice) → AreClassesBelow c var slices Seen → ¬ Seen var → IsSliceOf c var slice
    → ((v : ℕ) → v < length c.vars → After v ↔ (Seen v ⊎ Contains slice.vars v))
    → AreClassesBelow c (var + 1) (slices ++ slice ∷ []) After
AreClassesBelow-more c var slices Seen After slice so_far unseen here grown =
    let is : least slice ≡ var = least_is c var slices Seen slice so_far unseen here in
    let declared = here.declared in
    record {
      each =
          All-push (λ (s : PlainSlice). IsSliceOf c (least s) s) slices slice so_far.each
          (subst (λ (v : ℕ). IsSliceOf c v slice) (sym is) here);
      by_least = all_pairs_push (λ (earlier later : PlainSlice). least earlier < least later) slices slice
          so_far.by_least (λ k d within. let lt = so_far.below k d within in omega arith);
      below = All-push (λ (s : PlainSlice). least s < var + 1) slices slice
          (All-weaker (λ (s : PlainSlice). least s < var) (λ s. least s < var + 1)
          (λ s lt. omega arith) slices so_far.below) (omega arith);
      every = λ v lt. (grown v (omega arith)).1
          (elim (below_or_last v var lt) [
            | inl earlier ↦ inl (so_far.every v earlier)
            | inr same ↦
                inr ((here.vars.just v).1 (omega arith, rw same alone))
          ]);
      in_some = λ v lt. (
        λ after. (InSome-push slices slice v).1
            (elim ((grown v lt).0 after) [ inl earlier ↦ inl ((so_far.in_some v lt).0 earlier) | inr last ↦ inr last ]),
        λ some. (grown v lt).1
            (elim ((InSome-push slices slice v).0 some) [
              | inl earlier ↦ inl ((so_far.in_some v lt).1 earlier)
              | inr last ↦ inr last
            ]),
      );
    }

-- the set that takes in what is linked with the variable has its slice's variables besides
pub grown_by_linked : (c : PlainCondition) (var : ℕ) (slice : PlainSlice) (seen linked after : VarSet)
    → IsSliceOf c var slice → ((v : ℕ) → Has linked v ↔ Linked c var v)
    → ((v : ℕ) → Has after v ↔ (Has seen v ⊎ Has linked v)) → (v : ℕ) → v < length c.vars
    → Has after v ↔ (Has seen v ⊎ Contains slice.vars v)
grown_by_linked c var slice seen linked after here exact either v lt = (
  λ has. elim ((either v).0 has) [
    | inl earlier ↦ inl earlier
    | inr last ↦
        inr ((here.vars.just v).1 (lt, (exact v).0 last))
  ],
  λ one. (either v).1
      (elim one [ inl earlier ↦ inl earlier | inr last ↦ inr ((exact v).1 ((here.vars.just v).0 last).1) ]),
)

-- once every variable was looked at, these are all classes
pub AreClasses-all : (c : PlainCondition) (slices : List PlainSlice) (Seen : ℕ → Type 0)
    → AreClassesBelow c (length c.vars) slices Seen → AreClasses c slices
AreClasses-all c slices Seen all = record {
  each = all.each;
  by_least = all.by_least;
  every = λ v lt. (all.in_some v lt).0 (all.every v lt);
}

-- the set that is reached from one variable is its class
pub reached_is_linked : (c : PlainCondition) (sets : List VarSet) (var : ℕ) (first linked : VarSet)
    → AreSetsOf c.atoms sets → ((v : ℕ) → Has first v ↔ (v ≡ var)) → ((v : ℕ) → Has linked v ↔ IsReached sets first v)
    → (v : ℕ) → Has linked v ↔ Linked c var v
reached_is_linked c sets var first linked are one exact v = (
  λ has.
      let reached = (exact v).0 has in
      let from : reached.0 ≡ var = (one reached.0).0 reached.1 in
      subst (λ (u : ℕ). Linked c u v) from ((Linked-sets c sets are reached.0 v).0 reached.2),
  λ chain. (exact v).1 (var, (one var).1 refl, (Linked-sets c sets are var v).1 chain),
)

-- the numbers that were gathered make the slice of the variable
pub IsSliceOf-gathered : (c : PlainCondition) (sets : List VarSet) (var : ℕ) (linked : VarSet) (slice : PlainSlice)
    → AreSetsOf c.atoms sets → var < length c.vars → ((v : ℕ) → Has linked v ↔ Linked c var v)
    → Lists (λ v. (v < length c.vars) × Has linked v) slice.vars
    → Lists (λ j. (j < length sets) × HoldsAt (λ set. Meet set linked) sets j) slice.atoms → IsSliceOf c var slice
IsSliceOf-gathered c sets var linked slice are declared exact vars atoms = record {
  declared = declared;
  vars = Lists-same (λ v. (v < length c.vars) × Has linked v) (λ v. (v < length c.vars) × Linked c var v) slice.vars
      (λ v. (λ has. (has.0, (exact v).0 has.1), λ chain. (chain.0, (exact v).1 chain.1))) vars;
  atoms = Lists-same (λ j. (j < length sets) × HoldsAt (λ set. Meet set linked) sets j) _ slice.atoms
      (NamesAt-sets c.atoms sets linked (Linked c var) are exact) atoms;
}
