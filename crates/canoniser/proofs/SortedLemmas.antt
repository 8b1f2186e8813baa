-- Lists of atoms in order: for each list there is one of the same atoms in which each comes before all later ones.
use Rattle.std.proofs.Common.{◌≡◌, ◌↔◌, ℕ, ◌+◌, ◌<◌, ◌≤◌, zero, suc, List, [], ◌∷◌, length, get_or, Ordering, ◌⊎◌, inl}
use Rattle.std.proofs.Common.{inr, refl, sym, ap, ◌∙◌, subst, arith}
use Rattle.std.specs.declared.cmp.Ordering.TheVariants.{Less, Equal, Greater}
use Rattle.std.specs.Ordering.{ordering_reverse}
use Rattle.std.specs.List.{AllPairs, Contains}
use Rattle.std.proofs.lemmas.Bool.Decides.{eqb_tells}
use Rattle.std.proofs.lemmas.Cmp.{tied_itself}
use Rattle.std.proofs.lemmas.List.Elements.{Contains-get_or}
use Rattle.std.proofs.lemmas.List.Kept.{AllPairs-cons}
use Rattle.lin_model.specs.KeyAtom.{PlainKeyAtom}
use Rattle.lin_model.specs.AtomOrder.{compare_atoms, IsAtomOrder}
use Rattle.lin_model.specs.Key.{Ascends}
use Rattle.lin_model.specs.Lists.{Contains-cases, Contains-first, Contains-later}
use Rattle.lin_model.specs.Ordered.{in_order_head, in_order_tail, same_from_in_order}

-- the first comes before the second
abbrev IsBefore : PlainKeyAtom → PlainKeyAtom → Type 0
IsBefore a b = compare_atoms a b ≡ Less

-- each atom comes before all later ones
abbrev InOrder : List PlainKeyAtom → Type 0
InOrder atoms = AllPairs IsBefore atoms

-- where the order of atoms is total and tells them apart
module _ (order : IsAtomOrder) where
  one_way : (a b : PlainKeyAtom) → IsBefore a b → ¬ IsBefore b a
  one_way a b one other =
      let tied = tied_itself order.total a in
      let before = order.total.trans a b a one other in
      let none : ⊥ = cc in none

  before_from_greater : (x y : PlainKeyAtom) → compare_atoms x y ≡ Greater → IsBefore y x
  before_from_greater x y greater = order.total.antisymm y x ∙ ap ordering_reverse greater

  in_order_head-atoms : (x : PlainKeyAtom) (xs : List PlainKeyAtom) (a : PlainKeyAtom) → InOrder (x ∷ xs)
      → Contains xs a → IsBefore x a
  in_order_head-atoms = in_order_head IsBefore one_way

  in_order_cons : (x : PlainKeyAtom) (xs : List PlainKeyAtom) → ((a : PlainKeyAtom) → Contains xs a → IsBefore x a)
      → InOrder xs → InOrder (x ∷ xs)
  in_order_cons x xs first rest =
      AllPairs-cons IsBefore x xs (λ k d lt. first (get_or xs k d) (Contains-get_or xs k d lt)) rest

  cons_has : (x : PlainKeyAtom) (xs : List PlainKeyAtom) (a : PlainKeyAtom)
      → Contains (x ∷ xs) a ↔ ((x ≡ a) ⊎ Contains xs a)
  cons_has x xs a = (
    Contains-cases x xs a,
    λ one. elim one [
      | inl same ↦ subst (Contains (x ∷ xs)) same (Contains-first x xs)
      | inr later ↦
          Contains-later x xs a later
    ],
  )

  -- ---- an atom put in its place

  record Inserted (x : PlainKeyAtom) (xs : List PlainKeyAtom) : Type 0 where
    pub atoms : List PlainKeyAtom
    pub in_order : InOrder atoms
    pub has : (a : PlainKeyAtom) → Contains atoms a ↔ ((x ≡ a) ⊎ Contains xs a)
    pub few : length atoms ≤ suc (length xs)

  -- behind the first atom
  insert_behind : (x y : PlainKeyAtom) (ys : List PlainKeyAtom) → InOrder (y ∷ ys) → IsBefore y x → Inserted x ys
      → Inserted x (y ∷ ys)
  insert_behind x y ys in_order before rest = record {
    atoms = y ∷ rest.atoms;
    in_order = in_order_cons y rest.atoms
        (λ a has. elim ((rest.has a).0 has) [
          | inl same ↦ subst (IsBefore y) same before
          | inr later ↦
              in_order_head-atoms y ys a in_order later
        ]) rest.in_order;
    has = λ a. (
      λ has. elim ((cons_has y rest.atoms a).0 has) [
        | inl first ↦ inr ((cons_has y ys a).1 (inl first))
        | inr later ↦ elim ((rest.has a).0 later) [
          | inl same ↦ inl same
          | inr other ↦
              inr (Contains-later y ys a other)
        ]
      ],
      λ one. (cons_has y rest.atoms a).1 (elim one [
        | inl same ↦ inr ((rest.has a).1 (inl same))
        | inr other ↦ elim ((cons_has y ys a).0 other) [
          | inl first ↦ inl first
          | inr later ↦
              inr ((rest.has a).1 (inr later))
        ]
      ]),
    );
    few = omega (arith, rest.few);
  }

  insert_by : (x y : PlainKeyAtom) (ys : List PlainKeyAtom) (o : Ordering) → compare_atoms x y ≡ o → InOrder (y ∷ ys)
      → Inserted x ys → Inserted x (y ∷ ys)
  insert_by x y ys Less is in_order rest = record {
    atoms = x ∷ y ∷ ys;
    in_order = in_order_cons x (y ∷ ys)
        (λ a has. elim ((cons_has y ys a).0 has) [
          | inl first ↦ subst (IsBefore x) first is
          | inr later ↦
              order.total.trans x y a is (in_order_head-atoms y ys a in_order later)
        ]) in_order;
    has = λ a. cons_has x (y ∷ ys) a;
    few = omega arith;
  }
  insert_by x y ys Equal is in_order rest = record {
    atoms = y ∷ ys;
    in_order = in_order;
    has =
        λ a. (
          λ has. inr has,
          λ one. elim one [
            | inl same ↦ (cons_has y ys a).1 (inl (sym (order.apart x y is) ∙ same))
            | inr has ↦ has
          ],
        );
    few = omega arith;
  }
  insert_by x y ys Greater is in_order rest = insert_behind x y ys in_order (before_from_greater x y is) rest

  insert : (x : PlainKeyAtom) (xs : List PlainKeyAtom) → InOrder xs → Inserted x xs
  insert x [] in_order = record {
    atoms = x ∷ [];
    in_order = λ i j d before within. absurd (omega arith);
    has = λ a. cons_has x [] a;
    few = omega arith;
  }
  insert x (y ∷ ys) in_order =
      insert_by x y ys (compare_atoms x y) refl in_order (insert x ys (in_order_tail IsBefore one_way y ys in_order))

  -- ---- all atoms of a list

  -- the same atoms in order
  record InOrderOf (given : List PlainKeyAtom) : Type 0 where
    pub atoms : List PlainKeyAtom
    pub in_order : InOrder atoms
    pub has : (a : PlainKeyAtom) → Contains atoms a ↔ Contains given a
    pub few : length atoms ≤ length given

  put_in_order : (given : List PlainKeyAtom) → InOrderOf given
  put_in_order [] = record {
    atoms = [];
    in_order = λ i j d before within. absurd (omega arith);
    has =
        λ a. (λ has. has, λ has. has);
    few = omega arith;
  }
  put_in_order (x ∷ xs) =
      let rest = put_in_order xs in
      let all = insert x rest.atoms rest.in_order in
      record {
        atoms = all.atoms;
        in_order = all.in_order;
        has = λ a. (
          λ has. (cons_has x xs a).1
              (elim ((all.has a).0 has) [ inl same ↦ inl same | inr later ↦ inr ((rest.has a).0 later) ]),
          λ has. (all.has a).1
              (elim ((cons_has x xs a).0 has) [ inl same ↦ inl same | inr later ↦ inr ((rest.has a).1 later) ]),
        );
        few = omega (arith, rest.few, all.few);
      }

  -- the same atoms, each before the next
  pub record Sorted (given : List PlainKeyAtom) : Type 0 where
    pub atoms : List PlainKeyAtom
    pub ascends : Ascends atoms
    pub has : (a : PlainKeyAtom) → Contains atoms a ↔ Contains given a
    pub few : length atoms ≤ length given

  pub sort : (given : List PlainKeyAtom) → Sorted given
  sort given =
      let all = put_in_order given in
      record {
        atoms = all.atoms;
        ascends = λ k d lt. all.in_order k (k + 1) d (omega arith) lt;
        has = all.has;
        few =
            all.few;
      }

  -- ---- there is one such list

  before_later : (atoms : List PlainKeyAtom) → Ascends atoms → (i j : ℕ) (d : PlainKeyAtom) → i < j → j < length atoms
      → IsBefore (get_or atoms i d) (get_or atoms j d)
  before_later atoms ascends i zero d before within = absurd (omega arith)
  before_later atoms ascends i (suc k) d before within =
      let step : IsBefore (get_or atoms k d) (get_or atoms (suc k) d) =
      subst (λ (n : ℕ). IsBefore (get_or atoms k d) (get_or atoms n d)) (omega arith) (ascends k d (omega arith)) in
      elim (eqb_tells i k) [
        | inl same ↦ subst (λ (n : ℕ). IsBefore (get_or atoms n d) (get_or atoms (suc k) d)) (sym same.1) step
        | inr other ↦ (
            let ne = other.1 in
            order.total.trans (get_or atoms i d) (get_or atoms k d) (get_or atoms (suc k) d)
            (before_later atoms ascends i k d (omega arith) (omega arith)) step
            )
      ]

  pub same_from_Ascends : (one other : List PlainKeyAtom) → Ascends one → Ascends other
      → ((a : PlainKeyAtom) → Contains one a ↔ Contains other a) → one ≡ other
  same_from_Ascends one other up_one up_other same =
      same_from_in_order IsBefore one_way one other (before_later one up_one) (before_later other up_other)
      (λ a. (same a).0) (λ a. (same a).1)
