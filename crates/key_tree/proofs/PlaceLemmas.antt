-- The places of a tree: ways tell them apart, and each front of a way leads to one.
use Rattle.std.proofs.Common.{◌≡◌, ℕ, zero, suc, ◌<◌, List, [], ◌∷◌, ◌++◌, length, get_or, inl, inr, refl, sym}
use Rattle.std.proofs.Common.{ap, subst, ◌∙◌, arith}
use Rattle.std.specs.declared.cmp.Ordering.TheVariants.{Less, Equal}
use Rattle.std.specs.Cmp.{IsTotalOrder, tied_itself}
use Rattle.std.proofs.lemmas.Bool.{cases_lt}
use Rattle.std.proofs.Math.Nat.{eq-or-lt_of_le}
use Rattle.std.proofs.lemmas.Cmp.{nat_cmp_total, int_cmp_total, on_total, then_total, lists_total}
use Rattle.std.proofs.lemmas.List.{append-nil, append_assoc, same_from_push, get_or-map, length-map}
use Rattle.lin_model.specs.declared.form.FormTerm.{FormTerm}
use Rattle.lin_model.specs.Test.{code_of}
use Rattle.lin_model.specs.KeyAtom.{PlainKeyAtom}
use Rattle.lin_model.specs.AtomOrder.{compare_atoms}
use Rattle.lin_model.specs.Lists.{not_nil, parted}
use Rattle.key_tree.specs.declared.kid.Kid.{Kid}
use Rattle.key_tree.specs.declared.held.Held.{Held}
use Rattle.key_tree.specs.Tree.{PlainTree, Pair, IsTree, Holds, way_to, place_at, branch_to}
use Rattle.key_tree.specs.Walks.{kid_atom}
use Rattle.key_tree.proofs.WayLemmas.{way_to_root, way_to_place}

-- the order of atoms
atoms_total : IsTotalOrder compare_atoms
atoms_total =
    then_total (on_total (λ (a : PlainKeyAtom). a.form)
    (lists_total (then_total (on_total (λ (t : FormTerm). t.var) nat_cmp_total)
    (on_total (λ (t : FormTerm). t.coef) int_cmp_total))))
    (then_total (on_total (λ (a : PlainKeyAtom). code_of a.op) nat_cmp_total)
    (on_total (λ (a : PlainKeyAtom). a.constant) int_cmp_total))

-- no atom comes before itself
pub not_before_itself : (a b : PlainKeyAtom) → a ≡ b → ¬ (compare_atoms a b ≡ Less)
not_before_itself a b same less =
    let equal : compare_atoms a a ≡ Equal = tied_itself atoms_total a in
    let e : compare_atoms a a ≡ compare_atoms a b = ap (λ (c : PlainKeyAtom). compare_atoms a c) same in
    let unequal : Less ≡ Equal = sym less ∙ (sym e ∙ equal) in
    absurd (cc)

-- what stands for a kid where there is none
abbrev pub no_kid : Kid
no_kid = record { place = 0; least = 0; hash = 0 }

-- a place has a kid with this atom
pub record HasKid (tree : PlainTree) (place : ℕ) (atom : PlainKeyAtom) : Type 0 where
  pub kid : ℕ
  pub within : kid < length (place_at tree place).kids
  pub is : (d : Kid) → kid_atom tree place kid d ≡ atom

-- the place that a branch with this atom leads to
pub record HasNext (tree : PlainTree) (place : ℕ) (atom : PlainKeyAtom) : Type 0 where
  pub next : ℕ
  pub some : 0 < next
  pub within : next < length tree.places
  pub from : (branch_to tree next).from ≡ place
  pub by : (branch_to tree next).atom ≡ atom
  pub way : (rest : List PlainKeyAtom) → way_to tree next ++ rest ≡ way_to tree place ++ atom ∷ rest

-- a place that this way leads to
pub record Reaches (tree : PlainTree) (way : List PlainKeyAtom) : Type 0 where
  pub place : ℕ
  pub within : place < length tree.places
  pub is : way_to tree place ≡ way

module _ (tree : PlainTree) (keeps : IsTree tree) where
  -- the root is a place
  pub root_within : 0 < length tree.places
  root_within = omega (arith, keeps.sized)

  -- the way to a place but the root
  pub way_of : (p : ℕ) → 0 < p → p < length tree.places
      → way_to tree p ≡ way_to tree (branch_to tree p).from ++ (branch_to tree p).atom ∷ []
  way_of p some within =
      way_to_place tree p some (omega (arith, keeps.sized)) (keeps.parents p some within).older

  -- only the root has the empty way
  pub only_root : (p : ℕ) → p < length tree.places → way_to tree p ≡ [] → p ≡ 0
  only_root zero within e = refl
  only_root (suc p) within e =
      absurd (not_nil (way_to tree (branch_to tree (suc p)).from) (branch_to tree (suc p)).atom []
      (sym (way_of (suc p) (omega arith) within) ∙ e))

  -- two kids of a place have two atoms
  pub same_kid : (p j k : ℕ) (c d : Kid) → p < length tree.places → j < length (place_at tree p).kids
      → k < length (place_at tree p).kids → kid_atom tree p j c ≡ kid_atom tree p k d → j ≡ k
  same_kid p j k c d within these those same = elim (cases_lt j k) [
    | inl before ↦ absurd (not_before_itself (kid_atom tree p j c) (kid_atom tree p k d) same
        ((keeps.kids p within).ascend j k c d before those))
    | inr rest ↦ elim (eq-or-lt_of_le rest) [
      | inl e ↦ sym e
      | inr after ↦ absurd (not_before_itself (kid_atom tree p k d) (kid_atom tree p j c) (sym same)
          ((keeps.kids p within).ascend k j d c after these))
    ]
  ]

  -- a place is a kid of the place that its branch comes from
  pub record IsKid (p place : ℕ) : Type 0 where
    pub kid : ℕ
    pub within : kid < length (place_at tree place).kids
    pub is : (d : Kid) → (get_or (place_at tree place).kids kid d).place ≡ p

  -- each place is, but the root
  pub kid_of : (p place : ℕ) → 0 < p → p < length tree.places → (branch_to tree p).from ≡ place → IsKid p place
  kid_of p place some within from =
      let parent = keeps.parents p some within in
      subst (λ (q : ℕ). IsKid p q) from (record { kid = parent.at; within = parent.within; is = parent.is })

  -- two kids of one place with one atom are the same
  one_place : (i j place : ℕ) → place < length tree.places → IsKid i place → IsKid j place
      → (branch_to tree i).atom ≡ (branch_to tree j).atom → i ≡ j
  one_place i j place within these those same =
      let atom = λ (p : ℕ). (branch_to tree p).atom in
      let e : kid_atom tree place these.kid no_kid ≡ kid_atom tree place those.kid no_kid =
      ap atom (these.is no_kid) ∙ (same ∙ sym (ap atom (those.is no_kid))) in
      let k = same_kid place these.kid those.kid no_kid no_kid within these.within those.within e in
      sym (these.is no_kid)
      ∙ (ap (λ (n : ℕ). (get_or (place_at tree place).kids n no_kid).place) k ∙ those.is no_kid)

  -- places with one way are the same, the first being below n
  apart_below : (n i j : ℕ) → i < n → i < length tree.places → j < length tree.places
      → way_to tree i ≡ way_to tree j → i ≡ j
  apart_below zero i j low these those same = absurd (omega arith)
  apart_below (suc n) zero j low these those same =
      sym (only_root j those (sym same ∙ way_to_root tree))
  apart_below (suc n) (suc i) zero low these those same =
      only_root (suc i) these (same ∙ way_to_root tree)
  apart_below (suc n) (suc i) (suc j) low these those same =
      let from = λ (p : ℕ). (branch_to tree p).from in
      let first = (keeps.parents (suc i) (omega arith) these).older in
      let second = (keeps.parents (suc j) (omega arith) those).older in
      let ends = same_from_push (way_to tree (from (suc i))) (way_to tree (from (suc j)))
      (branch_to tree (suc i)).atom (branch_to tree (suc j)).atom
      (sym (way_of (suc i) (omega arith) these) ∙ (same ∙ way_of (suc j) (omega arith) those)) in
      let origin : from (suc i) ≡ from (suc j) =
      apart_below n (from (suc i)) (from (suc j)) (omega arith) (omega arith) (omega arith) ends.0 in
      one_place (suc i) (suc j) (from (suc j)) (omega arith) (kid_of (suc i) (from (suc j)) (omega arith) these origin)
      (kid_of (suc j) (from (suc j)) (omega arith) those refl) ends.1

  -- ways tell places apart
  pub ways_apart : (i j : ℕ) → i < length tree.places → j < length tree.places → way_to tree i ≡ way_to tree j → i ≡ j
  ways_apart i j = apart_below (suc i) i j (omega arith)

  -- the way to a kid
  pub kid_way : (p k : ℕ) (d : Kid) → p < length tree.places → k < length (place_at tree p).kids
      → way_to tree (get_or (place_at tree p).kids k d).place ≡ way_to tree p ++ kid_atom tree p k d ∷ []
  kid_way p k d within those =
      let kid = (keeps.kids p within).kids_are k d those in
      way_of (get_or (place_at tree p).kids k d).place kid.tells.some kid.tells.within
      ∙ ap (λ (q : ℕ). way_to tree q ++ kid_atom tree p k d ∷ []) kid.from

  -- and what is behind it
  pub behind_kid : (p k : ℕ) (d : Kid) (rest : List PlainKeyAtom) → p < length tree.places
      → k < length (place_at tree p).kids
      → way_to tree (get_or (place_at tree p).kids k d).place ++ rest ≡ way_to tree p ++ kid_atom tree p k d ∷ rest
  behind_kid p k d rest within those =
      ap (λ (way : List PlainKeyAtom). way ++ rest) (kid_way p k d within those)
      ∙ append_assoc (way_to tree p) (kid_atom tree p k d ∷ []) rest

  -- what comes next on a way, the place that it leads to being below n
  kid_below : (n j p : ℕ) (atom : PlainKeyAtom) (rest : List PlainKeyAtom) → j < n → j < length tree.places
      → p < length tree.places → way_to tree j ≡ way_to tree p ++ atom ∷ rest → HasKid tree p atom
  kid_below zero j p atom rest low within those same = absurd (omega arith)
  kid_below (suc n) zero p atom rest low within those same =
      absurd (not_nil (way_to tree p) atom rest (sym same ∙ way_to_root tree))
  kid_below (suc n) (suc j) p atom rest low within those same =
      let last = (branch_to tree (suc j)).atom in
      let from = (branch_to tree (suc j)).from in
      let older = (keeps.parents (suc j) (omega arith) within).older in
      let parts : way_to tree p ++ atom ∷ rest ≡ way_to tree from ++ last ∷ [] =
      sym same ∙ way_of (suc j) (omega arith) within in
      elim (parted (way_to tree p) rest atom (way_to tree from) [] last parts) [
        | inl h ↦ kid_below n from p atom h.0 (omega arith) (omega arith) those h.1
        | inr h ↦ elim h [
          | inl g ↦ at_last (suc j) from p atom (omega arith) within those (omega arith) refl g.0 g.1
          | inr g ↦ absurd (not_nil g.0 atom rest (sym g.2))
        ]
      ]
    where
      at_last : (j from p : ℕ) (atom : PlainKeyAtom) → 0 < j → j < length tree.places → p < length tree.places
          → from < length tree.places → (branch_to tree j).from ≡ from → way_to tree p ≡ way_to tree from
          → atom ≡ (branch_to tree j).atom → HasKid tree p atom
      at_last j from p atom some within those older is front end =
          let kid = kid_of j p some within (is ∙ sym (ways_apart p from those older front)) in
          record {
            kid = kid.kid;
            within = kid.within;
            is = λ d. ap (λ (q : ℕ). (branch_to tree q).atom) (kid.is d) ∙ sym end;
          }

  -- what comes next on a way is the atom of a kid
  pub kid_on_way : (j p : ℕ) (atom : PlainKeyAtom) (rest : List PlainKeyAtom) → j < length tree.places
      → p < length tree.places → way_to tree j ≡ way_to tree p ++ atom ∷ rest → HasKid tree p atom
  kid_on_way j p atom rest = kid_below (suc j) j p atom rest (omega arith)

  -- and the place of that kid
  pub next_on_way : (j p : ℕ) (atom : PlainKeyAtom) (rest : List PlainKeyAtom) → j < length tree.places
      → p < length tree.places → way_to tree j ≡ way_to tree p ++ atom ∷ rest → HasNext tree p atom
  next_on_way j p atom rest within those same =
      let has = kid_on_way j p atom rest within those same in
      let is = (keeps.kids p those).kids_are has.kid no_kid has.within in
      record {
        next = (get_or (place_at tree p).kids has.kid no_kid).place;
        some = is.tells.some;
        within = is.tells.within;
        from = is.from;
        by = has.is no_kid;
        way = λ more. behind_kid p has.kid no_kid more those has.within
            ∙ ap (λ (a : PlainKeyAtom). way_to tree p ++ a ∷ more) (has.is no_kid);
      }

  -- each front of a way leads to a place
  pub front_reaches : (front rest : List PlainKeyAtom) (j p : ℕ) → j < length tree.places → p < length tree.places
      → way_to tree j ≡ way_to tree p ++ (front ++ rest) → Reaches tree (way_to tree p ++ front)
  front_reaches [] rest j p within those same =
      record { place = p; within = those; is = sym (append-nil (way_to tree p)) }
  front_reaches (a ∷ front) rest j p within those same =
      let kid = next_on_way j p a (front ++ rest) within those same in
      let end = front_reaches front rest j kid.next within kid.within (same ∙ sym (kid.way (front ++ rest))) in
      record { place = end.place; within = end.within; is = end.is ∙ kid.way front }

  -- each key that is held has a place
  pub held_reaches : (key : List PlainKeyAtom) (number : ℕ) → Holds tree key number → Reaches tree key
  held_reaches key number (k, within, is) =
      let pair = λ (h : Held). let p : Pair = record { key = way_to tree h.place; number = h.number } in p in
      let none : Held = record { place = 0; number = 0 } in
      let those : k < length tree.held = omega (arith, length-map tree.held pair) in
      let e = get_or-map pair tree.held k none (record { key = key; number = number }) those in
      record {
        place = (get_or tree.held k none).place;
        within = keeps.held k none those;
        is = ap (λ (p : Pair). p.key) (sym e ∙ is);
      }
