-- A tree that holds one more pair: what stays of each old place.
use Rattle.std.proofs.Common.{◌≡◌, ℕ, ◌<◌, ◌≤◌, ◌≢◌, Option, Some, None, List, [], ◌∷◌, ◌++◌, length, get_or, ◌⊎◌, inl, inr}
use Rattle.std.proofs.Common.{IsSomeAnd, IfSome, ap, sym, subst, ◌∙◌, arith}
use Rattle.std.specs.List.{All, Contains}
use Rattle.std.proofs.lemmas.List.Elements.{Contains-append_left, Contains-push, Contains-push_cases, All-contains}
use Rattle.lin_model.specs.KeyAtom.{PlainKeyAtom}
use Rattle.lin_model.specs.AtomOrder.{compare_atoms}
use Rattle.std.specs.declared.cmp.Ordering.TheVariants.{Less}
use Rattle.key_tree.specs.declared.branch.Branch.{Branch}
use Rattle.key_tree.specs.declared.kid.Kid.{Kid}
use Rattle.key_tree.specs.Places.{first_number}
use Rattle.key_tree.specs.Prints.{hash_of}
use Rattle.key_tree.specs.Tree.{PlainTree, Pair, IsKidOf, AreKidsOf, IsNumbered, IsLeastBehind, Holds, way_to, place_at, branch_to, pairs_of}

-- the new tree has all places and branches of the old, and holds one more pair, whose number is the greatest
pub record AddsPair (old new : PlainTree) (key : List PlainKeyAtom) (number : ℕ) : Type 0 where
  pub older : length old.places ≤ length new.places
  pub way : (p : ℕ) → p < length old.places → way_to new p ≡ way_to old p
  pub branch : (p : ℕ) → p < length old.places → branch_to new p ≡ branch_to old p
  pub pairs : pairs_of new ≡ pairs_of old ++ record { key = key; number = number } ∷ []
  pub later : All (λ p. p.number < number) (pairs_of old)

module _ (old new : PlainTree) (key : List PlainKeyAtom) (number : ℕ) (adds : AddsPair old new key number) where
  -- the pair of a key and a number
  abbrev pair_of : List PlainKeyAtom → ℕ → Pair
  pair_of k n = record { key = k; number = n }

  -- what was held is held
  pub holds_old : (k : List PlainKeyAtom) (n : ℕ) → Holds old k n → Holds new k n
  holds_old k n held =
      subst (λ (pairs : List Pair). Contains pairs (pair_of k n)) (sym adds.pairs)
      (Contains-append_left (pairs_of old) (pair_of key number ∷ []) (pair_of k n) held)

  -- and the new pair
  pub holds_new : Holds new key number
  holds_new =
      subst (λ (pairs : List Pair). Contains pairs (pair_of key number)) (sym adds.pairs)
      (Contains-push (pairs_of old) (pair_of key number))

  -- nothing else
  pub holds_cases : (k : List PlainKeyAtom) (n : ℕ) → Holds new k n → Holds old k n ⊎ ((key ≡ k) × (number ≡ n))
  holds_cases k n held =
      let there : Contains (pairs_of old ++ pair_of key number ∷ []) (pair_of k n) =
      subst (λ (pairs : List Pair). Contains pairs (pair_of k n)) adds.pairs held in
      elim (Contains-push_cases (pairs_of old) (pair_of key number) (pair_of k n) there) [
        | inl before ↦ inl before
        | inr same ↦ inr (ap (λ (p : Pair). p.key) same, ap (λ (p : Pair). p.number) same)
      ]

  -- an old number is less
  pub held_before : (k : List PlainKeyAtom) (n : ℕ) → Holds old k n → n < number
  held_before k n held = All-contains (λ p. p.number < number) (pairs_of old) (pair_of k n) adds.later held

  -- the least number behind a place stays
  pub least_stays : (p : ℕ) → p < length old.places → IsLeastBehind old p → IsLeastBehind new p
  least_stays p within is =
      let way : way_to new p ≡ way_to old p = adds.way p within in
      let number_is : (branch_to new p).least ≡ (branch_to old p).least =
      ap (λ (b : Branch). b.least) (adds.branch p within) in
      record {
        rest = is.rest;
        held = subst (λ (n : ℕ). Holds new (way_to new p ++ is.rest) n) (sym number_is)
            (subst (λ (w : List PlainKeyAtom). Holds new (w ++ is.rest) (branch_to old p).least) (sym way)
            (holds_old (way_to old p ++ is.rest) (branch_to old p).least is.held));
        least = λ more n held. subst (λ (m : ℕ). m ≤ n) (sym number_is)
            (elim (holds_cases (way_to new p ++ more) n held) [
              | inl before ↦ is.least more n (subst (λ (w : List PlainKeyAtom). Holds old (w ++ more) n) way before)
              | inr same ↦ let lt : (branch_to old p).least < number =
                  held_before (way_to old p ++ is.rest) (branch_to old p).least is.held in
                  omega (arith, same.1)
            ]);
      }

  -- the number of a place stays right where the new key isn't its way
  pub number_stays : (p : ℕ) → p < length old.places → (place_at new p).number ≡ (place_at old p).number
      → key ≢ way_to old p → IsNumbered old p → IsNumbered new p
  number_stays p within same other is =
      let way : way_to new p ≡ way_to old p = adds.way p within in
      record {
        held = subst (λ (o : Option ℕ). IfSome o (λ n. Holds new (way_to new p) n)) (sym same)
            (if_some (place_at old p).number
            (λ n held. subst (λ (w : List PlainKeyAtom). Holds new w n) (sym way) (holds_old (way_to old p) n held)) is.held);
        least = λ n held. subst (λ (o : Option ℕ). IsSomeAnd o (λ m. m ≤ n)) (sym same)
            (elim (holds_cases (way_to new p) n held) [
              | inl before ↦ is.least n (subst (λ (w : List PlainKeyAtom). Holds old w n) way before)
              | inr same ↦ absurd (other (same.0 ∙ way))
            ]);
      }
    where
      if_some : {P Q : ℕ → Type 0} (o : Option ℕ) → ((n : ℕ) → P n → Q n) → IfSome o P → IfSome o Q
      if_some None step held = tt
      if_some (Some n) step held = step n held

  -- where it is, the place has the new number unless it has one
  pub number_new : (p : ℕ) → p < length old.places
      → (place_at new p).number ≡ first_number (place_at old p).number number → key ≡ way_to old p
      → IsNumbered old p → IsNumbered new p
  number_new p within same at is =
      let way : way_to new p ≡ way_to old p = adds.way p within in
      record {
        held = subst (λ (o : Option ℕ). IfSome o (λ n. Holds new (way_to new p) n)) (sym same)
            (held_first (place_at old p).number
            (λ n held. subst (λ (w : List PlainKeyAtom). Holds new w n) (sym way) (holds_old (way_to old p) n held))
            (subst (λ (w : List PlainKeyAtom). Holds new w number) (at ∙ sym way) holds_new) is.held);
        least = λ n held. subst (λ (o : Option ℕ). IsSomeAnd o (λ m. m ≤ n)) (sym same)
            (elim (holds_cases (way_to new p) n held) [
              | inl before ↦ least_old (place_at old p).number n
                  (is.least n (subst (λ (w : List PlainKeyAtom). Holds old w n) way before))
              | inr same ↦ least_new (place_at old p).number n same.1
                  (λ m held. held_before (way_to old p) m held) is.held
            ]);
      }
    where
      held_first : {P Q : ℕ → Type 0} (o : Option ℕ) → ((n : ℕ) → P n → Q n) → Q number → IfSome o P
          → IfSome (first_number o number) Q
      held_first None step new_held held = new_held
      held_first (Some n) step new_held held = step n held

      least_old : (o : Option ℕ) (n : ℕ) → IsSomeAnd o (λ m. m ≤ n) → IsSomeAnd (first_number o number) (λ m. m ≤ n)
      least_old None n some = absurd some
      least_old (Some m) n some = some

      least_new : {P : ℕ → Type 0} (o : Option ℕ) (n : ℕ) → number ≡ n → ((m : ℕ) → P m → m < number) → IfSome o P
          → IsSomeAnd (first_number o number) (λ m. m ≤ n)
      least_new None n e before held = omega arith
      least_new (Some m) n e before held = let lt : m < number = before m held in omega arith

  -- a kid stays one
  pub kid_stays : (p : ℕ) (kid : Kid) → IsKidOf old p kid → IsKidOf new p kid
  kid_stays p kid is =
      let b : branch_to new kid.place ≡ branch_to old kid.place = adds.branch kid.place is.tells.within in
      record {
        tells = record {
          some = is.tells.some;
          within = omega (arith, is.tells.within, adds.older);
          least = is.tells.least ∙ sym (ap (λ (c : Branch). c.least) b);
          hash = is.tells.hash ∙ sym (ap (λ (c : Branch). hash_of c.atom.form) b);
        };
        later = is.later;
        from = ap (λ (c : Branch). c.from) b ∙ is.from;
      }

  -- the atom of an old kid stays
  pub atom_stays : (p : ℕ) (kid : Kid) → IsKidOf old p kid
      → (branch_to new kid.place).atom ≡ (branch_to old kid.place).atom
  atom_stays p kid is = ap (λ (c : Branch). c.atom) (adds.branch kid.place is.tells.within)

  -- and so do kids
  pub kids_stay : (p : ℕ) (kids : List Kid) → AreKidsOf old p kids → AreKidsOf new p kids
  kids_stay p kids are = record {
    kids_are = λ k d lt. kid_stays p (get_or kids k d) (are.kids_are k d lt);
    ascend = λ j k c d before lt.
        subst (λ (a : PlainKeyAtom). compare_atoms a (branch_to new (get_or kids k d).place).atom ≡ Less)
        (sym (atom_stays p (get_or kids j c) (are.kids_are j c (omega arith))))
        (subst (λ (a : PlainKeyAtom). compare_atoms (branch_to old (get_or kids j c).place).atom a ≡ Less)
        (sym (atom_stays p (get_or kids k d) (are.kids_are k d lt))) (are.ascend j k c d before lt));
  }
