-- The strongest of given atoms: some list has just these, in order, and each given atom is implied by one of them.
use Rattle.std.proofs.Common.{◌≡◌, ◌↔◌, ◌≤◌, List, [], ◌∷◌, length, Ordering, ◌⊎◌, inl, inr, refl, sym, ap, ◌∙◌, subst}
use Rattle.std.proofs.Common.{arith}
use Rattle.std.specs.declared.cmp.Ordering.TheVariants.{Less, Equal, Greater}
use Rattle.std.specs.List.{Contains}
use Rattle.std.proofs.lemmas.Bool.{cases_Bool, both_ways}
use Rattle.std.proofs.lemmas.Cmp.{tied_itself}
use Rattle.lin_model.specs.declared.form.FormTerm.{FormTerm}
use Rattle.lin_model.specs.KeyAtom.{PlainKeyAtom}
use Rattle.lin_model.specs.AtomOrder.{compare_atoms, IsAtomOrder}
use Rattle.lin_model.specs.Key.{Ascends}
use Rattle.lin_model.specs.Lists.{Contains-cases, Contains-first, Contains-later}
use Rattle.atom_implies.specs.Implies.{Implies, Covers}
use Rattle.atom_implies.specs.Table.{table_says}
use Rattle.atom_implies.specs.Laws.{TableIsRight}
use Rattle.canoniser.specs.Keys.{IsStrongest}
use Rattle.canoniser.proofs.ImplicationLemmas.{Implies-antisym, Implies-refl, Implies-trans, IsCovered-by}
use Rattle.canoniser.proofs.ImplicationLemmas.{Covers-from_each}
use Rattle.canoniser.proofs.SortedLemmas.{sort}
use Rattle.canoniser.proofs.StrongestLemmas.{plain}

-- where the order of atoms is total and tells them apart
module _ (order : IsAtomOrder) where
  -- ---- what can be told of two atoms

  equal_by : (a b : PlainKeyAtom) (o : Ordering) → compare_atoms a b ≡ o → (a ≡ b) ⊎ ¬ (a ≡ b)
  equal_by a b Less is = inr (λ same. let tied : compare_atoms a b ≡ Equal =
      subst (λ (x : PlainKeyAtom). compare_atoms a x ≡ Equal) same (tied_itself order.total a) in let none : ⊥ =
      cc in none)
  equal_by a b Equal is = inl (order.apart a b is)
  equal_by a b Greater is = inr (λ same. let tied : compare_atoms a b ≡ Equal =
      subst (λ (x : PlainKeyAtom). compare_atoms a x ≡ Equal) same (tied_itself order.total a) in let none : ⊥ =
      cc in none)

  equal_or_not : (a b : PlainKeyAtom) → (a ≡ b) ⊎ ¬ (a ≡ b)
  equal_or_not a b = equal_by a b (compare_atoms a b) refl

  same_form_or_not : (f g : List FormTerm) → (f ≡ g) ⊎ ¬ (f ≡ g)
  same_form_or_not f g = elim (equal_or_not (plain f) (plain g)) [
    | inl same ↦ inl (ap (λ (a : PlainKeyAtom). a.form) same)
    | inr differ ↦ inr (λ same. differ (ap plain same))
  ]

  implies_or_not : TableIsRight → (a b : PlainKeyAtom) → Implies a b ⊎ ¬ Implies a b
  implies_or_not right a b = elim (same_form_or_not a.form b.form) [
    | inl same ↦ elim (cases_Bool (table_says a.op a.constant b.op b.constant)) [
      | inl says ↦ inl (record { same_form = same; tests = (right a.op a.constant b.op b.constant).0 says })
      | inr says_not ↦ inr (λ implied. both_ways (table_says a.op a.constant b.op b.constant) says_not
          ((right a.op a.constant b.op b.constant).1 implied.tests))
    ]
    | inr differ ↦ inr (λ implied. differ implied.same_form)
  ]

  -- ---- the strongest atom above another

  -- no other atom of the list implies it
  abbrev NoneImplies : List PlainKeyAtom → PlainKeyAtom → Type 0
  NoneImplies given a = (b : PlainKeyAtom) → Contains given b → Implies b a → b ≡ a

  -- it, or an atom of the list, implies it, and no other atom of the list implies that
  record Above (given : List PlainKeyAtom) (a : PlainKeyAtom) : Type 0 where
    pub atom : PlainKeyAtom
    pub among : (a ≡ atom) ⊎ Contains given atom
    pub implies : Implies atom a
    pub alone : NoneImplies given atom

  above_more : TableIsRight → (x : PlainKeyAtom) (xs : List PlainKeyAtom) (a : PlainKeyAtom) → (so_far : Above xs a)
      → Implies x so_far.atom ⊎ ¬ Implies x so_far.atom → Above (x ∷ xs) a
  above_more right x xs a so_far (inl implied) = record {
    atom = x;
    among = inr (Contains-first x xs);
    implies = Implies-trans x so_far.atom a implied so_far.implies;
    alone = λ b has stronger. elim (Contains-cases x xs b has) [
      | inl same ↦ sym same
      | inr later ↦ (
          let same : b ≡ so_far.atom = so_far.alone b later (Implies-trans b x so_far.atom stronger implied) in
          let back : Implies so_far.atom x = subst (λ (y : PlainKeyAtom). Implies y x) same stronger in
          same ∙ Implies-antisym right so_far.atom x back implied
          )
    ];
  }
  above_more right x xs a so_far (inr not_implied) = record {
    atom = so_far.atom;
    among = elim so_far.among [ inl same ↦ inl same | inr later ↦ inr (Contains-later x xs so_far.atom later) ];
    implies = so_far.implies;
    alone = λ b has stronger. elim (Contains-cases x xs b has) [
      | inl same ↦ absurd (not_implied (subst (λ (y : PlainKeyAtom). Implies y so_far.atom) (sym same) stronger))
      | inr later ↦ so_far.alone b later stronger
    ];
  }

  above : TableIsRight → (given : List PlainKeyAtom) (a : PlainKeyAtom) → Above given a
  above right [] a = record {
    atom = a;
    among = inl refl;
    implies = Implies-refl a;
    alone =
        λ b has. absurd (omega (arith, has.1));
  }
  above right (x ∷ xs) a =
      let so_far = above right xs a in
      above_more right x xs a so_far (implies_or_not right x so_far.atom)

  -- whether another atom of the list implies it
  none_implies_or_not : TableIsRight → (given : List PlainKeyAtom) (a : PlainKeyAtom)
      → NoneImplies given a ⊎ ¬ NoneImplies given a
  none_implies_or_not right given a =
      let top = above right given a in
      elim (equal_or_not a top.atom) [
        | inl same ↦ inl (subst (NoneImplies given) (sym same) top.alone)
        | inr differ ↦
            inr (λ alone. elim top.among [
              | inl same ↦ differ same
              | inr has ↦
                  differ (sym (alone top.atom has top.implies))
            ])
      ]

  -- ---- the strongest atoms

  -- the atoms of a list of which something holds
  record Kept (P : PlainKeyAtom → Type 0) (given : List PlainKeyAtom) : Type 0 where
    pub atoms : List PlainKeyAtom
    pub has : (a : PlainKeyAtom) → Contains atoms a ↔ (Contains given a × P a)
    pub few : length atoms ≤ length given

  keep : (P : PlainKeyAtom → Type 0) → ((a : PlainKeyAtom) → P a ⊎ ¬ P a) → (given : List PlainKeyAtom) → Kept P given
  keep P tell [] = record {
    atoms = [];
    has = λ a. (λ has. absurd (omega (arith, has.1)), λ both. both.0);
    few =
        omega arith;
  }
  keep P tell (x ∷ xs) =
      let rest = keep P tell xs in
      elim (tell x) [
        | inl holds ↦ record {
          atoms = x ∷ rest.atoms;
          has = λ a. (
            λ has. elim (Contains-cases x rest.atoms a has) [
              | inl same ↦ (subst (Contains (x ∷ xs)) same (Contains-first x xs), subst P same holds)
              | inr later ↦ (let both = (rest.has a).0 later in (Contains-later x xs a both.0, both.1))
            ],
            λ both. elim (Contains-cases x xs a both.0) [
              | inl same ↦ subst (Contains (x ∷ rest.atoms)) same (Contains-first x rest.atoms)
              | inr later ↦ Contains-later x rest.atoms a ((rest.has a).1 (later, both.1))
            ],
          );
          few = omega (arith, rest.few);
        }
        | inr fails ↦ record {
          atoms = rest.atoms;
          has = λ a. (
            λ has. (let both = (rest.has a).0 has in (Contains-later x xs a both.0, both.1)),
            λ both. elim (Contains-cases x xs a both.0) [
              | inl same ↦ absurd (fails (subst P (sym same) both.1))
              | inr later ↦ (rest.has a).1 (later, both.1)
            ],
          );
          few = omega (arith, rest.few);
        }
      ]

  -- the strongest of the given atoms in order, no more than there are, of which one implies each
  pub record HasStrongest (given : List PlainKeyAtom) : Type 0 where
    pub atoms : List PlainKeyAtom
    pub ascends : Ascends atoms
    pub just : (a : PlainKeyAtom) → Contains atoms a ↔ IsStrongest (Contains given) a
    pub covers : Covers atoms given
    pub few : length atoms ≤ length given

  pub strongest_exist : TableIsRight → (given : List PlainKeyAtom) → HasStrongest given
  strongest_exist right given =
      let kept = keep (NoneImplies given) (none_implies_or_not right given) given in
      let sorted = sort order kept.atoms in
      let has_both : (a : PlainKeyAtom) → Contains given a → NoneImplies given a → Contains sorted.atoms a =
      λ a has alone. (sorted.has a).1 ((kept.has a).1 (has, alone)) in
      record {
        atoms = sorted.atoms;
        ascends = sorted.ascends;
        just = λ a. (
          λ has. (let both = (kept.has a).0 ((sorted.has a).0 has) in record { one = both.0; alone = both.1 }),
          λ strongest. has_both a strongest.one strongest.alone,
        );
        covers = Covers-from_each sorted.atoms given (λ b has.
            let top = above right given b in
            let given_top : Contains given top.atom =
            elim top.among [ inl same ↦ subst (Contains given) same has | inr in_given ↦ in_given ] in
            IsCovered-by sorted.atoms top.atom b (has_both top.atom given_top top.alone) top.implies);
        few = omega (arith, kept.few, sorted.few);
      }
