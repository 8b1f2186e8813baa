-- The kids of a tree that grew by a chain of new places: those of each place are right.
use Rattle.std.proofs.Common.{◌≡◌, ℕ, zero, suc, ◌+◌, ◌-◌, ◌<◌, ◌≤◌, List, [], ◌∷◌, ◌++◌, length, get_or, take, drop, inl, inr}
use Rattle.std.proofs.Common.{ap, sym, subst, ◌∙◌, refl, arith}
use Rattle.std.specs.declared.cmp.Ordering.TheVariants.{Less}
use Rattle.std.proofs.lemmas.Bool.{cases_lt, cases_eq}
use Rattle.std.proofs.lemmas.List.{get_or_default}
use Rattle.std.proofs.lemmas.List.Edits.{length-insert, get_or-insert_at, get_or-insert_below, get_or-insert_above}
use Rattle.lin_model.specs.KeyAtom.{PlainKeyAtom}
use Rattle.lin_model.specs.AtomOrder.{compare_atoms}
use Rattle.key_tree.specs.declared.kid.Kid.{Kid}
use Rattle.key_tree.specs.Places.{PlainPlace, no_place}
use Rattle.key_tree.specs.Prints.{hash_of}
use Rattle.key_tree.specs.Tree.{PlainTree, TellsOfBranch, IsKidOf, AreKidsOf, place_at, branch_to}
use Rattle.key_tree.specs.Walks.{kid_atom}
use Rattle.key_tree.specs.Growth.{chain_kid}
use Rattle.key_tree.proofs.ChainLemmas.{place_links, place_last}
use Rattle.key_tree.proofs.GrownLemmas.{place_stays, place_changes, place_comes}
use Rattle.key_tree.proofs.GrownWays.{Grew, length_new, atom_new, least_new, from_first, from_next, adds}
use Rattle.key_tree.proofs.PairLemmas.{kid_stays, atom_stays, kids_stay}

module _ {old new : PlainTree} {key atoms : List PlainKeyAtom} {first : PlainKeyAtom} {front at last number : ℕ}
    (g : Grew old new key atoms first front at last number) where
  -- how many places there were
  abbrev count : ℕ
  count = length old.places

  -- the kid for the first atom
  abbrev kid : Kid
  kid = chain_kid count first number

  -- the kids of the other old places are as they were
  pub kids_elsewhere : (p : ℕ) → p < count → (p ≡ front → ⊥) → (place_at new p).kids ≡ (place_at old p).kids
  kids_elsewhere p lt other = g.same.kids p ∙ ap (λ (q : PlainPlace). q.kids) (place_stays old front at first atoms number g.within p lt other)

  -- the kids of the place where the chain begins
  abbrev put : List Kid
  put = take at (place_at old front).kids ++ kid ∷ drop at (place_at old front).kids

  -- they are its kids now
  pub kids_front : (place_at new front).kids ≡ put
  kids_front = g.same.kids front ∙ ap (λ (q : PlainPlace). q.kids) (place_changes old front at first atoms number g.within)

  -- each new place but the last has one kid
  pub kids_link : (j : ℕ) → j + 1 < length atoms
      → (place_at new (count + j)).kids ≡ chain_kid (count + (j + 1)) (get_or atoms (j + 1) first) number ∷ []
  kids_link j lt =
      g.same.kids (count + j)
      ∙ (ap (λ (q : PlainPlace). q.kids) (place_comes old front at first atoms number g.within j)
      ∙ ap (λ (q : PlainPlace). q.kids) (place_links count atoms number j no_place first lt))

  -- the last has none
  kids_last : (j : ℕ) → j + 1 ≡ length atoms → (place_at new (count + j)).kids ≡ []
  kids_last j is =
      g.same.kids (count + j)
      ∙ (ap (λ (q : PlainPlace). q.kids) (place_comes old front at first atoms number g.within j)
      ∙ ap (λ (q : PlainPlace). q.kids) (place_last count atoms number j no_place is))

  -- a kid tells of a branch of the chain
  tells_new : (j p : ℕ) (a : PlainKeyAtom) → j < length atoms → count + j ≡ p → a ≡ get_or atoms j a
      → TellsOfBranch new (chain_kid p a number)
  tells_new j p a lt at_p is =
      subst (λ (q : ℕ). TellsOfBranch new (chain_kid q a number)) at_p (record {
        some = omega (arith, g.keeps.sized);
        within = omega (arith, length_new g);
        least = sym (least_new g j lt);
        hash = ap (λ (b : PlainKeyAtom). hash_of b.form) (is ∙ sym (atom_new g j a lt));
      })

  -- the kid for the first atom is one of the place where the chain begins
  kid_first : IsKidOf new front kid
  kid_first =
      let e : count + 0 ≡ count = omega arith in
      record {
        tells = tells_new 0 count first g.some e g.first_is;
        later = g.within;
        from = subst (λ (p : ℕ). (branch_to new p).from ≡ front) e (from_first g);
      }

  -- its branch has that atom
  first_atom : (branch_to new count).atom ≡ first
  first_atom =
      let e : count + 0 ≡ count = omega arith in
      subst (λ (p : ℕ). (branch_to new p).atom ≡ first) e (atom_new g 0 first g.some ∙ sym g.first_is)

  -- a new place has the next as its kid
  kid_next : (j : ℕ) → j + 1 < length atoms
      → IsKidOf new (count + j) (chain_kid (count + (j + 1)) (get_or atoms (j + 1) first) number)
  kid_next j lt =
      let e : suc j ≡ j + 1 = omega arith in
      record {
        tells = tells_new (j + 1) (count + (j + 1)) (get_or atoms (j + 1) first) lt refl
            (get_or_default atoms (j + 1) first (get_or atoms (j + 1) first) lt);
        later = omega arith;
        from = subst (λ (i : ℕ). (branch_to new (count + i)).from ≡ count + j) e (from_next g j (omega arith));
      }

  -- the kids of a new place
  one_kid : (p : ℕ) (only : Kid) → IsKidOf new p only → AreKidsOf new p (only ∷ [])
  one_kid p only is = record {
    kids_are = the_one;
    ascend = λ j k c d before lt. absurd (omega (arith, before, lt));
  }
    where
      the_one : (k : ℕ) (d : Kid) → k < 1 → IsKidOf new p (get_or (only ∷ []) k d)
      the_one zero d lt = is
      the_one (suc k) d lt = absurd (omega (arith, lt))

  -- no kids are kids of any place
  none_of : (p : ℕ) → AreKidsOf new p []
  none_of p = record {
    kids_are = λ k d lt. absurd (omega (arith, lt));
    ascend = λ j k c d before lt. absurd (omega (arith, lt));
  }

  -- so those of each new place are right
  pub kids_new : (j : ℕ) → j < length atoms → AreKidsOf new (count + j) (place_at new (count + j)).kids
  kids_new j lt = elim (cases_lt (j + 1) (length atoms)) [
    | inl more ↦ subst (λ (kids : List Kid). AreKidsOf new (count + j) kids) (sym (kids_link j more))
        (one_kid (count + j) (chain_kid (count + (j + 1)) (get_or atoms (j + 1) first) number) (kid_next j more))
    | inr end ↦ subst (λ (kids : List Kid). AreKidsOf new (count + j) kids) (sym (kids_last j (omega arith)))
        (none_of (count + j))
  ]

  -- the kids of the place where the chain begins
  abbrev kept : List Kid
  kept = (place_at old front).kids

  -- before the position all kids are as they were
  pub put_before : (k : ℕ) (d : Kid) → k < at → get_or put k d ≡ get_or kept k d
  put_before k d lt = get_or-insert_below kept at kid d k lt g.position.within

  -- at the position is the new one
  pub put_there : (d : Kid) → get_or put at d ≡ kid
  put_there d = get_or-insert_at kept at kid d g.position.within

  -- behind it are the others
  pub put_behind : (k : ℕ) (d : Kid) → at ≤ k → get_or put (k + 1) d ≡ get_or kept k d
  put_behind k d le = get_or-insert_above kept at kid d k le g.position.within

  -- there is one more
  pub length_put : length put ≡ length kept + 1
  length_put = length-insert kept at kid g.position.within

  -- an old kid was one
  old_kid : (k : ℕ) (d : Kid) → k < length kept → IsKidOf old front (get_or kept k d)
  old_kid k d lt = (g.keeps.kids front g.within).kids_are k d lt

  -- each is a kid now
  put_is_kid : (k : ℕ) (d : Kid) → k < length put → IsKidOf new front (get_or put k d)
  put_is_kid k d lt = elim (cases_lt k at) [
    | inl before ↦ subst (λ (x : Kid). IsKidOf new front x) (sym (put_before k d before))
        (kid_stays old new key number (adds g) front (get_or kept k d)
        (old_kid k d (omega (arith, g.position.within, before))))
    | inr upto ↦ elim (cases_eq k at) [
      | inl same ↦ subst (λ (i : ℕ). IsKidOf new front (get_or put i d)) (sym same)
          (subst (λ (x : Kid). IsKidOf new front x) (sym (put_there d)) kid_first)
      | inr other ↦
          let e : k - 1 + 1 ≡ k = omega arith in
          subst (λ (i : ℕ). IsKidOf new front (get_or put i d)) e
          (subst (λ (x : Kid). IsKidOf new front x) (sym (put_behind (k - 1) d (omega arith)))
          (kid_stays old new key number (adds g) front (get_or kept (k - 1) d)
          (old_kid (k - 1) d (omega (arith, length_put, lt)))))
    ]
  ]

  -- their atoms
  abbrev atom_of : ℕ → Kid → PlainKeyAtom
  atom_of k d = (branch_to new (get_or put k d).place).atom

  -- before the position they are as they were
  atom_before : (k : ℕ) (d : Kid) → k < at → atom_of k d ≡ kid_atom old front k d
  atom_before k d lt =
      ap (λ (x : Kid). (branch_to new x.place).atom) (put_before k d lt)
      ∙ atom_stays old new key number (adds g) front (get_or kept k d) (old_kid k d (omega (arith, g.position.within, lt)))

  -- at the position it is the first atom
  atom_there : (d : Kid) → atom_of at d ≡ first
  atom_there d = ap (λ (x : Kid). (branch_to new x.place).atom) (put_there d) ∙ first_atom

  -- behind it they are those of the others
  atom_behind : (k : ℕ) (d : Kid) → at ≤ k → k < length kept → atom_of (k + 1) d ≡ kid_atom old front k d
  atom_behind k d le lt =
      ap (λ (x : Kid). (branch_to new x.place).atom) (put_behind k d le)
      ∙ atom_stays old new key number (adds g) front (get_or kept k d) (old_kid k d lt)

  -- the order of atoms that are equal to two others
  same_order : (a b x y : PlainKeyAtom) → a ≡ x → b ≡ y → compare_atoms x y ≡ Less → compare_atoms a b ≡ Less
  same_order a b x y e f less =
      ap (λ (c : PlainKeyAtom). compare_atoms c b) e ∙ (ap (λ (c : PlainKeyAtom). compare_atoms x c) f ∙ less)

  -- old kids ascend
  old_order : (j k : ℕ) (c d : Kid) → j < k → k < length kept
      → compare_atoms (kid_atom old front j c) (kid_atom old front k d) ≡ Less
  old_order j k c d before lt = (g.keeps.kids front g.within).ascend j k c d before lt

  -- the kid at a position against one behind it
  order_behind : (j k : ℕ) (c d : Kid) → j < k + 1 → at ≤ k → k < length kept
      → compare_atoms (atom_of j c) (atom_of (k + 1) d) ≡ Less
  order_behind j k c d before le lt = elim (cases_lt j at) [
    | inl left ↦ same_order (atom_of j c) (atom_of (k + 1) d) (kid_atom old front j c) (kid_atom old front k d)
        (atom_before j c left) (atom_behind k d le lt) (old_order j k c d (omega arith) lt)
    | inr upto ↦ elim (cases_eq j at) [
      | inl same ↦ subst (λ (i : ℕ). compare_atoms (atom_of i c) (atom_of (k + 1) d) ≡ Less) (sym same)
          (same_order (atom_of at c) (atom_of (k + 1) d) first (kid_atom old front k d)
          (atom_there c) (atom_behind k d le lt) (g.position.behind k d le lt))
      | inr other ↦
          let e : j - 1 + 1 ≡ j = omega arith in
          subst (λ (i : ℕ). compare_atoms (atom_of i c) (atom_of (k + 1) d) ≡ Less) e
          (same_order (atom_of (j - 1 + 1) c) (atom_of (k + 1) d) (kid_atom old front (j - 1) c) (kid_atom old front k d)
          (atom_behind (j - 1) c (omega arith) (omega arith)) (atom_behind k d le lt)
          (old_order (j - 1) k c d (omega arith) lt))
    ]
  ]

  -- all kids ascend
  put_ascends : (j k : ℕ) (c d : Kid) → j < k → k < length put → compare_atoms (atom_of j c) (atom_of k d) ≡ Less
  put_ascends j k c d before lt = elim (cases_lt k at) [
    | inl left ↦ same_order (atom_of j c) (atom_of k d) (kid_atom old front j c) (kid_atom old front k d)
        (atom_before j c (omega arith)) (atom_before k d left)
        (old_order j k c d before (omega (arith, g.position.within, left)))
    | inr upto ↦ elim (cases_eq k at) [
      | inl same ↦ subst (λ (i : ℕ). compare_atoms (atom_of j c) (atom_of i d) ≡ Less) (sym same)
          (same_order (atom_of j c) (atom_of at d) (kid_atom old front j c) first
          (atom_before j c (omega arith)) (atom_there d) (g.position.before j c (omega arith)))
      | inr other ↦
          let e : k - 1 + 1 ≡ k = omega arith in
          subst (λ (i : ℕ). compare_atoms (atom_of j c) (atom_of i d) ≡ Less) e
          (order_behind j (k - 1) c d (omega arith) (omega arith) (omega (arith, length_put, lt)))
    ]
  ]

  -- so they are right
  kids_of_front : AreKidsOf new front (place_at new front).kids
  kids_of_front =
      subst (λ (kids : List Kid). AreKidsOf new front kids) (sym kids_front)
      (record { kids_are = put_is_kid; ascend = put_ascends })

  -- those of each old place are right
  pub kids_old : (p : ℕ) → p < count → AreKidsOf new p (place_at new p).kids
  kids_old p lt = elim (cases_eq p front) [
    | inl same ↦ subst (λ (q : ℕ). AreKidsOf new q (place_at new q).kids) (sym same) kids_of_front
    | inr other ↦ subst (λ (kids : List Kid). AreKidsOf new p kids) (sym (kids_elsewhere p lt other))
        (kids_stay old new key number (adds g) p (place_at old p).kids (g.keeps.kids p lt))
  ]
