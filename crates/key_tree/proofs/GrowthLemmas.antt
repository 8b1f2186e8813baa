-- A tree in which a chain of new places leads to a key that had none is a tree.
use Rattle.std.proofs.Common.{◌≡◌, ℕ, zero, suc, ◌+◌, ◌-◌, ◌<◌, ◌≤◌, ◌^◌, Option, Some, None, List, [], ◌∷◌, ◌++◌, length, get_or, take, drop, inl, inr}
use Rattle.std.proofs.Common.{IfSome, IsSomeAnd, ap, sym, subst, ◌∙◌, arith}
use Rattle.std.specs.List.{All}
use Rattle.std.proofs.lemmas.Bool.{cases_lt, cases_eq}
use Rattle.std.proofs.lemmas.List.{append_assoc, append-nil, take-append-drop}
use Rattle.std.proofs.lemmas.List.Elements.{All-push}
use Rattle.lin_model.specs.KeyAtom.{PlainKeyAtom}
use Rattle.key_tree.specs.declared.branch.Branch.{Branch}
use Rattle.key_tree.specs.declared.held.Held.{Held}
use Rattle.key_tree.specs.declared.kid.Kid.{Kid}
use Rattle.key_tree.specs.Places.{PlainPlace, no_place}
use Rattle.key_tree.specs.Tree.{PlainTree, IsTree, AreKidsOf, HasParent, IsNumbered, IsLeastBehind, Holds, way_to, place_at, branch_to}
use Rattle.key_tree.specs.Growth.{chain_kid}
use Rattle.key_tree.proofs.ChainLemmas.{place_links, place_last}
use Rattle.key_tree.proofs.GrownLemmas.{place_stays, place_changes, place_comes}
use Rattle.key_tree.proofs.GrownWays.{Grew, length_new, sized_new, branch_old, least_new, from_first, from_next, way_new}
use Rattle.key_tree.proofs.GrownWays.{none_held, key_is_new, way_goes, way_last, way_short, adds}
use Rattle.key_tree.proofs.GrownKids.{kids_elsewhere, kids_front, kids_link, put_before, put_there, put_behind, length_put, kids_old, kids_new}
use Rattle.key_tree.proofs.PairLemmas.{holds_new, holds_cases, number_stays, least_stays}

module _ {old new : PlainTree} {key atoms : List PlainKeyAtom} {first : PlainKeyAtom} {front at last number : ℕ}
    (g : Grew old new key atoms first front at last number) where
  -- how many places there were
  abbrev count : ℕ
  count = length old.places

  -- the atoms behind the first
  abbrev others : List PlainKeyAtom
  others = drop 1 atoms

  -- the kids of the place where the chain begins, and what they were
  abbrev kept : List Kid
  kept = (place_at old front).kids

  abbrev put : List Kid
  put = take at kept ++ chain_kid count first number ∷ drop at kept

  -- old numbers stay
  number_old : (p : ℕ) → p < count → (place_at new p).number ≡ (place_at old p).number
  number_old p lt = elim (cases_eq p front) [
    | inl same ↦ subst (λ (q : ℕ). (place_at new q).number ≡ (place_at old q).number) (sym same)
        (g.same.numbers front ∙ ap (λ (q : PlainPlace). q.number) (place_changes old front at first atoms number g.within))
    | inr other ↦ g.same.numbers p ∙ ap (λ (q : PlainPlace). q.number) (place_stays old front at first atoms number g.within p lt other)
  ]

  -- each new place but the last has no number
  number_link : (j : ℕ) → j + 1 < length atoms → (place_at new (count + j)).number ≡ None
  number_link j lt =
      g.same.numbers (count + j)
      ∙ (ap (λ (q : PlainPlace). q.number) (place_comes old front at first atoms number g.within j)
      ∙ ap (λ (q : PlainPlace). q.number) (place_links count atoms number j no_place first lt))

  -- the last has the new one
  number_last : (j : ℕ) → j + 1 ≡ length atoms → (place_at new (count + j)).number ≡ Some number
  number_last j is =
      g.same.numbers (count + j)
      ∙ (ap (λ (q : PlainPlace). q.number) (place_comes old front at first atoms number g.within j)
      ∙ ap (λ (q : PlainPlace). q.number) (place_last count atoms number j no_place is))

  -- the number of a new place is right
  numbered_link : (j : ℕ) → j + 1 < length atoms → IsNumbered new (count + j)
  numbered_link j lt = record {
    held = subst (λ (o : Option ℕ). IfSome o (λ n. Holds new (way_to new (count + j)) n)) (sym (number_link j lt)) tt;
    least = λ n held. absurd (none_there j n lt held);
  }
    where
      none_there : (j n : ℕ) → j + 1 < length atoms → Holds new (way_to new (count + j)) n → ⊥
      none_there j n lt held = elim (holds_cases old new key number (adds g) (way_to new (count + j)) n held) [
        | inl before ↦ none_held g (take j others ++ []) n
            (subst (λ (way : List PlainKeyAtom). Holds old way n)
            (sym (append-nil (way_to new (count + j))) ∙ way_goes g j [] (omega arith)) before)
        | inr same ↦ way_short g j lt same.0
      ]

  -- that of the last too
  numbered_last : (j : ℕ) → j + 1 ≡ length atoms → IsNumbered new (count + j)
  numbered_last j is = record {
    held = subst (λ (o : Option ℕ). IfSome o (λ n. Holds new (way_to new (count + j)) n)) (sym (number_last j is))
        (subst (λ (way : List PlainKeyAtom). Holds new way number) (sym (way_last g j is)) (holds_new old new key number (adds g)));
    least = λ n held. subst (λ (o : Option ℕ). IsSomeAnd o (λ m. m ≤ n)) (sym (number_last j is))
        (elim (holds_cases old new key number (adds g) (way_to new (count + j)) n held) [
          | inl before ↦ absurd (none_held g (take j others ++ []) n
              (subst (λ (way : List PlainKeyAtom). Holds old way n)
              (sym (append-nil (way_to new (count + j))) ∙ way_goes g j [] (omega arith)) before))
          | inr same ↦ omega (arith, same.1)
        ]);
  }

  -- that of each
  numbered_new : (j : ℕ) → j < length atoms → IsNumbered new (count + j)
  numbered_new j lt = elim (cases_lt (j + 1) (length atoms)) [
    | inl more ↦ numbered_link j more
    | inr end ↦ numbered_last j (omega arith)
  ]

  -- only the new number is held behind a new place
  least_behind : (j : ℕ) → j < length atoms → IsLeastBehind new (count + j)
  least_behind j lt =
      let whole : way_to new (count + j) ++ drop (j + 1) atoms ≡ key =
      ap (λ (way : List PlainKeyAtom). way ++ drop (j + 1) atoms) (way_new g j lt)
      ∙ (append_assoc (way_to old front) (take (j + 1) atoms) (drop (j + 1) atoms)
      ∙ (ap (λ (left : List PlainKeyAtom). way_to old front ++ left) (take-append-drop (j + 1) atoms) ∙ sym g.key_is)) in
      record {
        rest = drop (j + 1) atoms;
        held = subst (λ (n : ℕ). Holds new (way_to new (count + j) ++ drop (j + 1) atoms) n) (sym (least_new g j lt))
            (subst (λ (way : List PlainKeyAtom). Holds new way number) (sym whole) (holds_new old new key number (adds g)));
        least = λ more n held. subst (λ (m : ℕ). m ≤ n) (sym (least_new g j lt))
            (elim (holds_cases old new key number (adds g) (way_to new (count + j) ++ more) n held) [
              | inl before ↦ absurd (none_held g (take j others ++ more) n
                  (subst (λ (way : List PlainKeyAtom). Holds old way n) (way_goes g j more lt) before))
              | inr same ↦ omega (arith, same.1)
            ]);
      }

  -- a place whose branch comes from another, where it is this kid
  parent_from : (p q i : ℕ) → (branch_to new p).from ≡ q → q < p → i < length (place_at new q).kids
      → ((d : Kid) → (get_or (place_at new q).kids i d).place ≡ p) → HasParent new p
  parent_from p q i from older within is = record {
    older = subst (λ (r : ℕ). r < p) (sym from) older;
    at = i;
    within = subst (λ (r : ℕ). i < length (place_at new r).kids) (sym from) within;
    is = λ d. subst (λ (r : ℕ). (get_or (place_at new r).kids i d).place ≡ p) (sym from) (is d);
  }

  -- a kid among those of the place where the chain begins
  parent_front : (p i : ℕ) → (branch_to new p).from ≡ front → front < p → i < length put
      → ((d : Kid) → (get_or put i d).place ≡ p) → HasParent new p
  parent_front p i from older within is =
      parent_from p front i from older (subst (λ (kids : List Kid). i < length kids) (sym (kids_front g)) within)
      (λ d. subst (λ (kids : List Kid). (get_or kids i d).place ≡ p) (sym (kids_front g)) (is d))

  -- an old kid is still among them
  parent_of_front : (p i : ℕ) → (branch_to new p).from ≡ front → front < p → i < length kept
      → ((d : Kid) → (get_or kept i d).place ≡ p) → HasParent new p
  parent_of_front p i from older within is = elim (cases_lt i at) [
    | inl before ↦ parent_front p i from older (omega (arith, length_put g))
        (λ d. ap (λ (x : Kid). x.place) (put_before g i d before) ∙ is d)
    | inr behind ↦ parent_front p (i + 1) from older (omega (arith, length_put g))
        (λ d. ap (λ (x : Kid). x.place) (put_behind g i d behind) ∙ is d)
  ]

  -- each old place has its parent
  parent_old : (p : ℕ) → 0 < p → p < count → HasParent new p
  parent_old p some lt =
      let parent = g.keeps.parents p some lt in
      let from : (branch_to new p).from ≡ (branch_to old p).from = ap (λ (b : Branch). b.from) (branch_old g p lt) in
      elim (cases_eq (branch_to old p).from front) [
        | inl same ↦ parent_of_front p parent.at (from ∙ same) (subst (λ (q : ℕ). q < p) same parent.older)
            (subst (λ (q : ℕ). parent.at < length (place_at old q).kids) same parent.within)
            (λ d. subst (λ (q : ℕ). (get_or (place_at old q).kids parent.at d).place ≡ p) same (parent.is d))
        | inr other ↦
            let kids : (place_at new (branch_to old p).from).kids ≡ (place_at old (branch_to old p).from).kids =
            kids_elsewhere g (branch_to old p).from (omega (arith, parent.older)) other in
            parent_from p (branch_to old p).from parent.at from parent.older
            (subst (λ (ks : List Kid). parent.at < length ks) (sym kids) parent.within)
            (λ d. subst (λ (ks : List Kid). (get_or ks parent.at d).place ≡ p) (sym kids) (parent.is d))
      ]

  -- each new place has its parent
  parent_new : (j : ℕ) → j < length atoms → HasParent new (count + j)
  parent_new zero lt =
      let e : count + 0 ≡ count = omega arith in
      parent_front (count + 0) at (from_first g) (omega (arith, g.within)) (omega (arith, length_put g, g.position.within))
      (λ d. ap (λ (x : Kid). x.place) (put_there g d) ∙ sym e)
  parent_new (suc j) lt =
      let e : j + 1 ≡ suc j = omega arith in
      let more : j + 1 < length atoms = omega arith in
      parent_from (count + suc j) (count + j) 0 (from_next g j lt) (omega arith)
      (subst (λ (kids : List Kid). 0 < length kids) (sym (kids_link g j more)) (omega arith))
      (λ d. subst (λ (kids : List Kid). (get_or kids 0 d).place ≡ count + suc j) (sym (kids_link g j more))
      (ap (λ (i : ℕ). count + i) e))

  -- each place is old or new
  each_place : (P : ℕ → Type 0) → ((p : ℕ) → p < count → P p) → ((j : ℕ) → j < length atoms → P (count + j))
      → (p : ℕ) → p < length new.places → P p
  each_place P olds news p lt = elim (cases_lt p count) [
    | inl below ↦ olds p below
    | inr above ↦
        let e : count + (p - count) ≡ p = omega arith in
        subst P e (news (p - count) (omega (arith, length_new g)))
  ]

  -- so it is a tree
  pub grown_tree : IsTree new
  grown_tree = record {
    sized = sized_new g;
    kids = each_place (λ p. AreKidsOf new p (place_at new p).kids) (kids_old g) (kids_new g);
    parents = λ p some lt. each_place (λ q. 0 < q → HasParent new q) (λ q old_q some_q. parent_old q some_q old_q)
        (λ j new_j _. parent_new j new_j) p lt some;
    numbered = each_place (λ p. IsNumbered new p)
        (λ p old_p. number_stays old new key number (adds g) p old_p (number_old p old_p) (λ e. key_is_new g p old_p e)
        (g.keeps.numbered p old_p)) numbered_new;
    least = λ p some lt. each_place (λ q. 0 < q → IsLeastBehind new q)
        (λ q old_q some_q. least_stays old new key number (adds g) q old_q (g.keeps.least q some_q old_q))
        (λ j new_j _. least_behind j new_j) p lt some;
    masked = λ p some lt. record { atom = g.masked.atoms p some lt; behind = g.masked.behind p some lt };
    masks = λ p lt.
        let kids = g.masked.kids p lt in record { counts = kids.counts; have = kids.have; own = kids.own };
    held = subst (λ (hs : List Held). All (λ h. h.place < length new.places) hs) (sym g.held)
        (All-push (λ (h : Held). h.place < length new.places) old.held (record { place = last; number = number })
        (λ k d lt. let before : (get_or old.held k d).place < count = g.keeps.held k d lt in omega (arith, length_new g))
        (omega (arith, length_new g, g.last_is)));
    numbers = subst (λ (hs : List Held). All (λ h. h.number < 2 ^ 32) hs) (sym g.held)
        (All-push (λ (h : Held). h.number < 2 ^ 32) old.held (record { place = last; number = number }) g.keeps.numbers
        g.small);
    few = omega (arith, length_new g, g.few);
  }
