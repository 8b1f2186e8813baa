-- In a tree that grew by a chain, masks are right but for those on the way to the last place.
use Rattle.std.proofs.Common.{◌≡◌, ℕ, zero, suc, ◌+◌, ◌-◌, ◌<◌, ◌≤◌, List, [], length, get_or, inl, inr}
use Rattle.std.proofs.Common.{ap, sym, subst, ◌∙◌, arith}
use Rattle.std.specs.List.{All}
use Rattle.std.proofs.lemmas.Bool.{cases_lt, cases_eq}
use Rattle.std.proofs.lemmas.List.Elements.{All-nil}
use Rattle.std.proofs.lemmas.Nat.Bits.{bit_at-zero}
use Rattle.lin_model.specs.KeyAtom.{PlainKeyAtom}
use Rattle.key_tree.specs.declared.branch.Branch.{Branch}
use Rattle.key_tree.specs.declared.kid.Kid.{Kid}
use Rattle.key_tree.specs.Places.{AreApart, PlainPlace, no_place}
use Rattle.key_tree.specs.Prints.{gives_of, IsWithin}
use Rattle.key_tree.specs.Tree.{PlainTree, IsTree, AreMasksOf, place_at, branch_to, no_branch}
use Rattle.key_tree.specs.Growth.{bare, IsBehindMasked, IsAtomMasked, AreKidsMasked, LeadsFrom, MayWiden, chain_kid, branches_of_chain}
use Rattle.key_tree.proofs.ApartLemmas.{apart_none, apart_one, apart_put, kids_apart}
use Rattle.key_tree.proofs.ChainLemmas.{branch_first, branch_atom, branch_from, place_links, place_last}
use Rattle.key_tree.proofs.GrownLemmas.{grown_branches, grown_places, branch_stays, branch_comes, length_grown, length_grown_branches, place_stays, place_changes, place_comes}
use Rattle.key_tree.specs.MaskFacts.{within_itself}
use Rattle.key_tree.proofs.KidMaskLemmas.{masks_none, masks_stay, masks_put}
use Rattle.key_tree.proofs.ListLemmas.{All-put}

module _ (old : PlainTree) (front at : ℕ) (first : PlainKeyAtom) (atoms : List PlainKeyAtom) (last number : ℕ)
    (keeps : IsTree old) (within : front < length old.places) (some : 0 < length atoms)
    (last_is : last + 1 ≡ length old.places + length atoms) (fits : at ≤ length (place_at old front).kids)
    (first_is : first ≡ get_or atoms 0 first) where
  -- how many places there were
  abbrev count : ℕ
  count = length old.places

  -- the branches now
  abbrev branches : List Branch
  branches = grown_branches old front atoms number

  -- the places now, before masks grow
  abbrev places : List PlainPlace
  places = grown_places old front at first atoms number

  -- old branches stay
  branch_old : (p : ℕ) → p < count → branch_to (bare branches places) p ≡ branch_to old p
  branch_old = branch_stays old front atoms number keeps

  -- those of the chain come behind them
  branch_new : (j : ℕ) → branch_to (bare branches places) (count + j)
      ≡ get_or (branches_of_chain front count atoms number) j no_branch
  branch_new = branch_comes old front atoms number keeps

  -- there is one place more for each atom
  length_all : length places ≡ count + length atoms
  length_all = length_grown old front at first atoms number within

  -- each new place but the first comes from the new place before
  from_new : (j : ℕ) → suc j < length atoms → (branch_to (bare branches places) (count + suc j)).from ≡ count + j
  from_new j lt =
      ap (λ (b : Branch). b.from) (branch_new (suc j)) ∙ branch_from front count atoms number j no_branch lt

  -- new branches come from older places
  older_new : (j : ℕ) → j < length atoms → (branch_to (bare branches places) (count + j)).from < count + j
  older_new zero lt =
      let e = ap (λ (b : Branch). b.from) (branch_new 0) ∙ branch_first front count atoms number no_branch some in
      omega (arith, e, within)
  older_new (suc j) lt = omega (arith, from_new j lt)

  -- masks of old places stay
  mask_old : (p : ℕ) → p < count → (place_at (bare branches places) p).below ≡ (place_at old p).below
  mask_old p lt = elim (cases_eq p front) [
    | inl same ↦ subst (λ (q : ℕ). (get_or places q no_place).below ≡ (place_at old q).below) (sym same)
        (ap (λ (q : PlainPlace). q.below) (place_changes old front at first atoms number within))
    | inr other ↦ ap (λ (q : PlainPlace). q.below) (place_stays old front at first atoms number within p lt other)
  ]

  -- those of new places are empty
  mask_new : (j : ℕ) → j < length atoms → (place_at (bare branches places) (count + j)).below ≡ 0
  mask_new j lt =
      ap (λ (q : PlainPlace). q.below) (place_comes old front at first atoms number within j)
      ∙ elim (cases_lt (j + 1) (length atoms)) [
        | inl more ↦ ap (λ (q : PlainPlace). q.below) (place_links count atoms number j no_place first more)
        | inr end ↦ ap (λ (q : PlainPlace). q.below) (place_last count atoms number j no_place (omega arith))
      ]

  -- all branches do
  older_all : (p : ℕ) → 0 < p → p < length places → (branch_to (bare branches places) p).from < p
  older_all p p_some lt = elim (cases_lt p count) [
    | inl old_p ↦
        let e = ap (λ (b : Branch). b.from) (branch_old p old_p) in
        omega (arith, e, (keeps.parents p p_some old_p).older)
    | inr new_p ↦
        let e : count + (p - count) ≡ p = omega arith in
        subst (λ (q : ℕ). (branch_to (bare branches places) q).from < q) e
        (older_new (p - count) (omega (arith, length_all)))
  ]

  -- new places are a chain
  chain_all : (p : ℕ) → count < p → p < length places → (branch_to (bare branches places) p).from + 1 ≡ p
  chain_all p above lt =
      let e : count + suc (p - count - 1) ≡ p = omega arith in
      subst (λ (q : ℕ). (branch_to (bare branches places) q).from + 1 ≡ q) e
      (omega (arith, from_new (p - count - 1) (omega (arith, length_all))))

  -- old masks have what old atoms give
  atoms_all : (p : ℕ) → 0 < p → p < count → IsAtomMasked (bare branches places) p
  atoms_all p p_some old_p =
      let older : (branch_to old p).from < count = omega (arith, (keeps.parents p p_some old_p).older) in
      subst (λ (b : Branch). IsWithin (gives_of b.atom) (place_at (bare branches places) b.from).below)
      (sym (branch_old p old_p))
      (subst (λ (m : ℕ). IsWithin (gives_of (branch_to old p).atom) m) (sym (mask_old (branch_to old p).from older))
      (keeps.masked p p_some old_p).atom)

  -- each mask has those behind it
  behind_all : (p : ℕ) → 0 < p → p < length places → IsBehindMasked (bare branches places) p
  behind_all p p_some lt = elim (cases_lt p count) [
    | inl old_p ↦
        let older : (branch_to old p).from < count = omega (arith, (keeps.parents p p_some old_p).older) in
        subst (λ (b : Branch). IsWithin (place_at (bare branches places) p).below (place_at (bare branches places) b.from).below)
        (sym (branch_old p old_p))
        (subst (λ (m : ℕ). IsWithin m (place_at (bare branches places) (branch_to old p).from).below) (sym (mask_old p old_p))
        (subst (λ (m : ℕ). IsWithin (place_at old p).below m) (sym (mask_old (branch_to old p).from older))
        (keeps.masked p p_some old_p).behind))
    | inr new_p ↦
        let e : count + (p - count) ≡ p = omega arith in
        subst (λ (q : ℕ). IsBehindMasked (bare branches places) q) e
        (subst (λ (m : ℕ). IsWithin m
        (place_at (bare branches places) (branch_to (bare branches places) (count + (p - count))).from).below)
        (sym (mask_new (p - count) (omega (arith, length_all)))) (λ i. omega (arith, bit_at-zero i)))
  ]

  -- what is behind a kid of an old place is as it was
  behind_old : (p : ℕ) → p < count → (k : ℕ) (d : Kid) → k < length (place_at old p).kids
      → (place_at (bare branches places) (get_or (place_at old p).kids k d).place).below
      ≡ (place_at old (get_or (place_at old p).kids k d).place).below
  behind_old p lt k d those =
      mask_old (get_or (place_at old p).kids k d).place ((keeps.kids p lt).kids_are k d those).tells.within

  -- and the atom of its branch
  atom_old : (p : ℕ) → p < count → (k : ℕ) (d : Kid) → k < length (place_at old p).kids
      → (branch_to (bare branches places) (get_or (place_at old p).kids k d).place).atom
      ≡ (branch_to old (get_or (place_at old p).kids k d).place).atom
  atom_old p lt k d those =
      ap (λ (b : Branch). b.atom)
      (branch_old (get_or (place_at old p).kids k d).place ((keeps.kids p lt).kids_are k d those).tells.within)

  -- so the masks that were beside kids are right
  masks_old : (p : ℕ) → p < count → AreMasksOf (bare branches places) (place_at old p).kids (place_at old p).masks
  masks_old p lt =
      masks_stay old (bare branches places) (place_at old p).kids (place_at old p).masks (keeps.masks p lt) (behind_old p lt)
      (atom_old p lt)

  -- the kid for the first atom
  abbrev kid : Kid
  kid = chain_kid count first number

  -- behind its place there is nothing yet
  kid_empty : (place_at (bare branches places) count).below ≡ 0
  kid_empty =
      let e : count + 0 ≡ count = omega arith in
      subst (λ (p : ℕ). (place_at (bare branches places) p).below ≡ 0) e (mask_new 0 some)

  -- the mask beside a new kid has what its atom gives
  gives_new : (j : ℕ) → j < length atoms
      → IsWithin (gives_of (branch_to (bare branches places) (count + j)).atom) (gives_of (get_or atoms j first))
  gives_new j lt =
      subst (λ (a : PlainKeyAtom). IsWithin (gives_of a) (gives_of (get_or atoms j first)))
      (sym (ap (λ (b : Branch). b.atom) (branch_new j) ∙ branch_atom front count atoms number j no_branch first lt))
      (within_itself (gives_of (get_or atoms j first)))

  -- so has that beside the first
  kid_gives : IsWithin (gives_of (branch_to (bare branches places) count).atom) (gives_of first)
  kid_gives =
      let e : count + 0 ≡ count = omega arith in
      subst (λ (p : ℕ). IsWithin (gives_of (branch_to (bare branches places) p).atom) (gives_of first)) e
      (subst (λ (a : PlainKeyAtom). IsWithin (gives_of (branch_to (bare branches places) (count + 0)).atom) (gives_of a))
      (sym first_is) (gives_new 0 some))

  -- those of old places are right, also where the kid was put among the others
  kids_old : (p : ℕ) → p < count → AreKidsMasked (bare branches places) p
  kids_old p lt = elim (cases_eq p front) [
    | inl same ↦ subst (λ (q : ℕ). AreKidsMasked (bare branches places) q) (sym same)
        (subst (λ (q : PlainPlace). AreMasksOf (bare branches places) q.kids q.masks)
        (sym (place_changes old front at first atoms number within))
        (masks_put (bare branches places) (place_at old front).kids (place_at old front).masks at kid (gives_of first)
        (masks_old front within) fits kid_empty kid_gives))
    | inr other ↦ subst (λ (q : PlainPlace). AreMasksOf (bare branches places) q.kids q.masks)
        (sym (place_stays old front at first atoms number within p lt other)) (masks_old p lt)
  ]

  -- those of new places are
  kids_new : (j : ℕ) → j < length atoms → AreKidsMasked (bare branches places) (count + j)
  kids_new j lt = elim (cases_lt (j + 1) (length atoms)) [
    | inl more ↦ subst (λ (q : PlainPlace). AreMasksOf (bare branches places) q.kids q.masks)
        (sym (place_comes old front at first atoms number within j ∙ place_links count atoms number j no_place first more))
        (masks_put (bare branches places) [] [] 0 (chain_kid (count + (j + 1)) (get_or atoms (j + 1) first) number)
        (gives_of (get_or atoms (j + 1) first)) (masks_none (bare branches places)) (omega arith) (mask_new (j + 1) more)
        (gives_new (j + 1) more))
    | inr end ↦ subst (λ (q : PlainPlace). AreMasksOf (bare branches places) q.kids q.masks)
        (sym (place_comes old front at first atoms number within j ∙ place_last count atoms number j no_place (omega arith)))
        (masks_none (bare branches places))
  ]

  -- so all are
  kids_all : (p : ℕ) → p < length places → AreKidsMasked (bare branches places) p
  kids_all p lt = elim (cases_lt p count) [
    | inl old_p ↦ kids_old p old_p
    | inr new_p ↦
        let e : count + (p - count) ≡ p = omega arith in
        subst (λ (q : ℕ). AreKidsMasked (bare branches places) q) e (kids_new (p - count) (omega (arith, length_all)))
  ]

  -- a branch leads to each kid from its place
  abbrev Leads : ℕ → Kid → Type 0
  Leads p x = LeadsFrom branches p x.place

  -- to those that there were
  leads_old : (p : ℕ) → p < count → All (Leads p) (place_at old p).kids
  leads_old p lt k d those =
      let is = (keeps.kids p lt).kids_are k d those in
      record {
        some = is.tells.some;
        from = ap (λ (b : Branch). b.from) (branch_old (get_or (place_at old p).kids k d).place is.tells.within) ∙ is.from;
      }

  -- and to the one for the first atom
  leads_first : Leads front kid
  leads_first =
      let e : count + 0 ≡ count = omega arith in
      record {
        some = omega (arith, within);
        from = subst (λ (p : ℕ). (branch_to (bare branches places) p).from ≡ front) e
            (ap (λ (b : Branch). b.from) (branch_new 0) ∙ branch_first front count atoms number no_branch some);
      }

  -- so to all kids of an old place
  leads_olds : (p : ℕ) → p < count → All (Leads p) (get_or places p no_place).kids
  leads_olds p lt = elim (cases_eq p front) [
    | inl same ↦ subst (λ (q : ℕ). All (Leads q) (get_or places q no_place).kids) (sym same)
        (subst (λ (q : PlainPlace). All (Leads front) q.kids) (sym (place_changes old front at first atoms number within))
        (All-put (Leads front) (place_at old front).kids at kid fits (leads_old front within) leads_first))
    | inr other ↦ subst (λ (q : PlainPlace). All (Leads p) q.kids)
        (sym (place_stays old front at first atoms number within p lt other)) (leads_old p lt)
  ]

  -- and to the kid of a new place
  leads_new : (j : ℕ) → j < length atoms → All (Leads (count + j)) (get_or places (count + j) no_place).kids
  leads_new j lt = elim (cases_lt (j + 1) (length atoms)) [
    | inl more ↦
        let e : suc j ≡ j + 1 = omega arith in
        subst (λ (q : PlainPlace). All (Leads (count + j)) q.kids)
        (sym (place_comes old front at first atoms number within j ∙ place_links count atoms number j no_place first more))
        (All-put (Leads (count + j)) [] 0 (chain_kid (count + (j + 1)) (get_or atoms (j + 1) first) number) (omega arith)
        (All-nil (Leads (count + j))) (record {
          some = omega arith;
          from = subst (λ (i : ℕ). (branch_to (bare branches places) (count + i)).from ≡ count + j) e
              (from_new j (omega arith));
        }))
    | inr end ↦ subst (λ (q : PlainPlace). All (Leads (count + j)) q.kids)
        (sym (place_comes old front at first atoms number within j ∙ place_last count atoms number j no_place (omega arith)))
        (All-nil (Leads (count + j)))
  ]

  -- so to all
  leads_all : (p : ℕ) → p < length places → All (Leads p) (get_or places p no_place).kids
  leads_all p lt = elim (cases_lt p count) [
    | inl old_p ↦ leads_olds p old_p
    | inr new_p ↦
        let e : count + (p - count) ≡ p = omega arith in
        subst (λ (q : ℕ). All (Leads q) (get_or places q no_place).kids) e
        (leads_new (p - count) (omega (arith, length_all)))
  ]

  -- kids of an old place are apart, also where one was put among the others
  apart_old : (p : ℕ) → p < count → AreApart (get_or places p no_place).kids
  apart_old p lt = elim (cases_eq p front) [
    | inl same ↦ subst (λ (q : ℕ). AreApart (get_or places q no_place).kids) (sym same)
        (subst (λ (q : PlainPlace). AreApart q.kids) (sym (place_changes old front at first atoms number within))
        (apart_put (place_at old front).kids at kid fits
        (kids_apart old front (place_at old front).kids (keeps.kids front within))
        (λ k d those e. absurd (omega (arith, e, ((keeps.kids front within).kids_are k d those).tells.within)))))
    | inr other ↦ subst (λ (q : PlainPlace). AreApart q.kids)
        (sym (place_stays old front at first atoms number within p lt other))
        (kids_apart old p (place_at old p).kids (keeps.kids p lt))
  ]

  -- a new place has one kid at most
  apart_new : (j : ℕ) → j < length atoms → AreApart (get_or places (count + j) no_place).kids
  apart_new j lt = elim (cases_lt (j + 1) (length atoms)) [
    | inl more ↦ subst (λ (q : PlainPlace). AreApart q.kids)
        (sym (place_comes old front at first atoms number within j ∙ place_links count atoms number j no_place first more))
        (apart_one (chain_kid (count + (j + 1)) (get_or atoms (j + 1) first) number))
    | inr end ↦ subst (λ (q : PlainPlace). AreApart q.kids)
        (sym (place_comes old front at first atoms number within j ∙ place_last count atoms number j no_place (omega arith)))
        apart_none
  ]

  -- so all are
  apart_all : (p : ℕ) → p < length places → AreApart (get_or places p no_place).kids
  apart_all p lt = elim (cases_lt p count) [
    | inl old_p ↦ apart_old p old_p
    | inr new_p ↦
        let e : count + (p - count) ≡ p = omega arith in
        subst (λ (q : ℕ). AreApart (get_or places q no_place).kids) e (apart_new (p - count) (omega (arith, length_all)))
  ]

  -- so masks may be widened
  pub may_widen : MayWiden branches places last
  may_widen = record {
    sized = omega (arith, length_all, length_grown_branches old front atoms number keeps);
    is_last = omega (arith, length_all, last_is);
    older = older_all;
    next = count;
    chain = chain_all;
    atoms = λ p p_some below _. atoms_all p p_some below;
    behind = behind_all;
    kids = kids_all;
    leads = λ p k d lt those. leads_all p lt k d those;
    apart = apart_all;
  }
