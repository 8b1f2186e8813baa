-- The masks of the kids of a place.
use Rattle.std.proofs.Common.{◌≡◌, ℕ, ◌+◌, ◌-◌, ◌<◌, ◌≤◌, List, [], ◌∷◌, ◌++◌, length, get_or, set, take, drop, inl, inr}
use Rattle.std.proofs.Common.{sym, subst, ap, ◌∙◌, ◌≢◌, refl, arith}
use Rattle.std.specs.Int.RustNames.{bit_or}
use Rattle.std.proofs.lemmas.Bool.{cases_lt, cases_eq}
use Rattle.std.proofs.lemmas.List.{length-set, get_or-set_same, get_or-set_other, get_or_default}
use Rattle.std.proofs.lemmas.List.Edits.{length-insert, get_or-insert_at, get_or-insert_below, get_or-insert_above}
use Rattle.std.proofs.lemmas.Nat.Bits.{bit_at-zero}
use Rattle.key_tree.specs.declared.kid.Kid.{Kid}
use Rattle.key_tree.specs.Places.{AreApart, AreKidsWidened}
use Rattle.lin_model.specs.KeyAtom.{PlainKeyAtom}
use Rattle.key_tree.specs.Prints.{gives_of, IsWithin}
use Rattle.key_tree.specs.Tree.{PlainTree, AreMasksOf, place_at, branch_to}
use Rattle.key_tree.specs.MaskFacts.{within_itself, within_more, within_left, within_right}

-- no kids have no masks
pub masks_none : (tree : PlainTree) → AreMasksOf tree [] []
masks_none tree = record {
  counts = refl;
  have = λ k d m lt. absurd (omega (arith, lt));
  own = λ k d m lt. absurd (omega (arith, lt));
}

-- masks are right in another tree where the branch to each kid's place has the same atom and no place has more behind it
pub masks_stay : (old new : PlainTree) (kids : List Kid) (masks : List ℕ) → AreMasksOf old kids masks
    → ((k : ℕ) (d : Kid) → k < length kids
    → (place_at new (get_or kids k d).place).below ≡ (place_at old (get_or kids k d).place).below)
    → ((k : ℕ) (d : Kid) → k < length kids
    → (branch_to new (get_or kids k d).place).atom ≡ (branch_to old (get_or kids k d).place).atom)
    → AreMasksOf new kids masks
masks_stay old new kids masks are same atoms = record {
  counts = are.counts;
  have = λ k d m lt. subst (λ (b : ℕ). IsWithin b (get_or masks k m)) (sym (same k d lt)) (are.have k d m lt);
  own = λ k d m lt. subst (λ (a : PlainKeyAtom). IsWithin (gives_of a) (get_or masks k m)) (sym (atoms k d lt))
      (are.own k d m lt);
}

module _ (tree : PlainTree) (kids : List Kid) (masks : List ℕ) (at : ℕ) (kid : Kid) (mask : ℕ)
    (are : AreMasksOf tree kids masks) (within : at ≤ length kids) where
  -- the kids with one more
  abbrev more : List Kid
  more = take at kids ++ kid ∷ drop at kids

  -- the masks with one more
  abbrev wider : List ℕ
  wider = take at masks ++ mask ∷ drop at masks

  -- the position is one among the masks too
  fits : at ≤ length masks
  fits = omega (arith, are.counts, within)

  -- what holds of each kid and its mask, and of those that are put among them, holds of each afterwards
  put_all : (P : Kid → ℕ → Type 0)
      → ((k : ℕ) (d : Kid) (m : ℕ) → k < length kids → P (get_or kids k d) (get_or masks k m)) → P kid mask
      → (k : ℕ) (d : Kid) (m : ℕ) → k < length more → P (get_or more k d) (get_or wider k m)
  put_all P olds put k d m lt = elim (cases_lt k at) [
    | inl before ↦
        subst (λ (x : Kid). P x (get_or wider k m)) (sym (get_or-insert_below kids at kid d k before within))
        (subst (λ (b : ℕ). P (get_or kids k d) b) (sym (get_or-insert_below masks at mask m k before fits))
        (olds k d m (omega (arith, before, within))))
    | inr upto ↦ elim (cases_eq k at) [
      | inl same ↦ subst (λ (i : ℕ). P (get_or more i d) (get_or wider i m)) (sym same)
          (subst (λ (x : Kid). P x (get_or wider at m)) (sym (get_or-insert_at kids at kid d within))
          (subst (λ (b : ℕ). P kid b) (sym (get_or-insert_at masks at mask m fits)) put))
      | inr other ↦
          let e : k - 1 + 1 ≡ k = omega arith in
          subst (λ (i : ℕ). P (get_or more i d) (get_or wider i m)) e
          (subst (λ (x : Kid). P x (get_or wider (k - 1 + 1) m))
          (sym (get_or-insert_above kids at kid d (k - 1) (omega arith) within))
          (subst (λ (b : ℕ). P (get_or kids (k - 1) d) b)
          (sym (get_or-insert_above masks at mask m (k - 1) (omega arith) fits))
          (olds (k - 1) d m (omega (arith, length-insert kids at kid within, lt)))))
    ]
  ]

  -- masks stay right where a kid is put among the others, behind whose place there is nothing, with what its atom gives
  pub masks_put : (place_at tree kid.place).below ≡ 0 → IsWithin (gives_of (branch_to tree kid.place).atom) mask
      → AreMasksOf tree more wider
  masks_put empty given = record {
    counts = omega (arith, length-insert kids at kid within, length-insert masks at mask fits, are.counts);
    have = put_all (λ x b. IsWithin (place_at tree x.place).below b) are.have
        (subst (λ (n : ℕ). IsWithin n mask) (sym empty) (λ i. omega (arith, bit_at-zero i)));
    own = put_all (λ x b. IsWithin (gives_of (branch_to tree x.place).atom) b) are.own given;
  }

-- ---- the masks of the kids that lead to one place grow

-- no kid was looked at
pub widened_none : (kids : List Kid) (place behind : ℕ) (masks : List ℕ) → AreKidsWidened kids place behind masks masks 0
widened_none kids place behind masks = record {
  counts = refl;
  grow = λ k m. within_itself (get_or masks k m);
  have = λ k d m lt. absurd (omega (arith, lt));
}

-- one kid more that leads to another place
pub widened_other : (kids : List Kid) (place behind : ℕ) (olds news : List ℕ) (i : ℕ) (e : Kid)
    → AreKidsWidened kids place behind olds news i → i < length kids → (get_or kids i e).place ≢ place
    → AreKidsWidened kids place behind olds news (i + 1)
widened_other kids place behind olds news i e so_far lt other = record {
  counts = so_far.counts;
  grow = so_far.grow;
  have = λ k d m below same. elim (cases_eq k i) [
    | inl last ↦ absurd (other (ap (λ (x : Kid). x.place) (get_or_default kids i e d lt)
        ∙ subst (λ (j : ℕ). (get_or kids j d).place ≡ place) last same))
    | inr earlier ↦ so_far.have k d m (omega arith) same
  ];
}

-- one kid more that leads there
pub widened_more : (kids : List Kid) (place behind : ℕ) (olds news : List ℕ) (i n : ℕ)
    → AreKidsWidened kids place behind olds news i → i < length news
    → AreKidsWidened kids place behind olds (set news i (bit_or (get_or news i n) behind)) (i + 1)
widened_more kids place behind olds news i n so_far lt =
    let mask : ℕ = bit_or (get_or news i n) behind in
    let grown : (k m : ℕ) → IsWithin (get_or news k m) (get_or (set news i mask) k m) =
    λ k m. elim (cases_eq k i) [
      | inl same ↦ subst (λ (j : ℕ). IsWithin (get_or news j m) (get_or (set news i mask) j m)) (sym same)
          (subst (λ (b : ℕ). IsWithin (get_or news i m) b) (sym (get_or-set_same news i mask m lt))
          (subst (λ (b : ℕ). IsWithin b mask) (get_or_default news i n m lt) (within_left (get_or news i n) behind)))
      | inr other ↦ subst (λ (b : ℕ). IsWithin (get_or news k m) b) (sym (get_or-set_other news i k mask m other))
          (within_itself (get_or news k m))
    ] in
    record {
      counts = length-set news i mask ∙ so_far.counts;
      grow = λ k m. within_more (get_or olds k m) (get_or news k m) (get_or (set news i mask) k m) (so_far.grow k m) (grown k m);
      have = λ k d m below same. elim (cases_eq k i) [
        | inl last ↦ subst (λ (j : ℕ). IsWithin behind (get_or (set news i mask) j m)) (sym last)
            (subst (λ (b : ℕ). IsWithin behind b) (sym (get_or-set_same news i mask m lt)) (within_right (get_or news i n) behind))
        | inr earlier ↦ within_more behind (get_or news k m) (get_or (set news i mask) k m)
            (so_far.have k d m (omega arith) same) (grown k m)
      ];
    }

-- the one kid that leads there
pub widened_at : (kids : List Kid) (place behind : ℕ) (olds : List ℕ) (at n : ℕ) → AreApart kids → at < length olds
    → at < length kids → ((d : Kid) → (get_or kids at d).place ≡ place)
    → AreKidsWidened kids place behind olds (set olds at (bit_or (get_or olds at n) behind)) (length kids)
widened_at kids place behind olds at n apart lt within leads =
    let mask : ℕ = bit_or (get_or olds at n) behind in
    let here : IsWithin behind mask = within_right (get_or olds at n) behind in
    record {
      counts = length-set olds at mask;
      grow = λ k m. elim (cases_eq k at) [
        | inl same ↦ subst (λ (j : ℕ). IsWithin (get_or olds j m) (get_or (set olds at mask) j m)) (sym same)
            (subst (λ (b : ℕ). IsWithin (get_or olds at m) b) (sym (get_or-set_same olds at mask m lt))
            (subst (λ (b : ℕ). IsWithin b mask) (get_or_default olds at n m lt) (within_left (get_or olds at n) behind)))
        | inr other ↦ subst (λ (b : ℕ). IsWithin (get_or olds k m) b) (sym (get_or-set_other olds at k mask m other))
            (within_itself (get_or olds k m))
      ];
      have = λ k d m below same. elim (cases_eq k at) [
        | inl is ↦ subst (λ (j : ℕ). IsWithin behind (get_or (set olds at mask) j m)) (sym is)
            (subst (λ (b : ℕ). IsWithin behind b) (sym (get_or-set_same olds at mask m lt)) here)
        | inr other ↦ elim (cases_lt k at) [
          | inl before ↦ absurd (apart k at d d before within (same ∙ sym (leads d)))
          | inr upto ↦ absurd (apart at k d d (omega arith) below (leads d ∙ sym same))
        ]
      ];
    }
