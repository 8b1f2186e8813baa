-- No two kids of a place lead to one place.
use Rattle.std.proofs.Common.{◌≡◌, ◌≢◌, ℕ, ◌+◌, ◌-◌, ◌<◌, ◌≤◌, List, [], ◌∷◌, ◌++◌, length, get_or, take, drop, inl, inr}
use Rattle.std.proofs.Common.{sym, subst, ap, ◌∙◌, arith}
use Rattle.std.proofs.lemmas.Bool.{cases_lt, cases_eq}
use Rattle.std.proofs.lemmas.List.Edits.{length-insert, get_or-insert_at, get_or-insert_below, get_or-insert_above}
use Rattle.key_tree.specs.declared.kid.Kid.{Kid}
use Rattle.key_tree.specs.Places.{AreApart}
use Rattle.key_tree.specs.Tree.{PlainTree, AreKidsOf, branch_to}
use Rattle.key_tree.proofs.PlaceLemmas.{not_before_itself}

-- kids in the order of their atoms are apart
pub kids_apart : (tree : PlainTree) (place : ℕ) (kids : List Kid) → AreKidsOf tree place kids → AreApart kids
kids_apart tree place kids are j k c d before within same =
    not_before_itself (branch_to tree (get_or kids j c).place).atom (branch_to tree (get_or kids k d).place).atom
    (ap (λ (p : ℕ). (branch_to tree p).atom) same) (are.ascend j k c d before within)

pub apart_none : AreApart []
apart_none j k c d before within same = absurd (omega (arith, within))

pub apart_one : (kid : Kid) → AreApart (kid ∷ [])
apart_one kid j k c d before within same = absurd (omega (arith, before, within))

module _ (kids : List Kid) (at : ℕ) (kid : Kid) (within : at ≤ length kids) (apart : AreApart kids)
    (other : (k : ℕ) (d : Kid) → k < length kids → (get_or kids k d).place ≢ kid.place) where
  -- the kids with one more
  abbrev more : List Kid
  more = take at kids ++ kid ∷ drop at kids

  -- the places that the kids lead to: those before the new one, it, and those behind
  place_below : (k : ℕ) (d : Kid) → k < at → (get_or more k d).place ≡ (get_or kids k d).place
  place_below k d lt = ap (λ (x : Kid). x.place) (get_or-insert_below kids at kid d k lt within)

  place_there : (k : ℕ) (d : Kid) → k ≡ at → (get_or more k d).place ≡ kid.place
  place_there k d same =
      subst (λ (i : ℕ). (get_or more i d).place ≡ kid.place) (sym same)
      (ap (λ (x : Kid). x.place) (get_or-insert_at kids at kid d within))

  place_above : (k : ℕ) (d : Kid) → at < k → (get_or more k d).place ≡ (get_or kids (k - 1) d).place
  place_above k d lt =
      let e : k - 1 + 1 ≡ k = omega arith in
      subst (λ (i : ℕ). (get_or more i d).place ≡ (get_or kids (k - 1) d).place) e
      (ap (λ (x : Kid). x.place) (get_or-insert_above kids at kid d (k - 1) (omega arith) within))

  -- kids stay apart where one is put among them that leads elsewhere
  pub apart_put : AreApart more
  apart_put j k c d before lt same =
      let long = length-insert kids at kid within in
      elim (cases_lt j at) [
        | inl j_below ↦ elim (cases_lt k at) [
          | inl k_below ↦ apart j k c d before (omega (arith, k_below, within))
              (sym (place_below j c j_below) ∙ (same ∙ place_below k d k_below))
          | inr k_upto ↦ elim (cases_eq k at) [
            | inl k_there ↦ other j c (omega (arith, j_below, within))
                (sym (place_below j c j_below) ∙ (same ∙ place_there k d k_there))
            | inr k_other ↦ apart j (k - 1) c d (omega arith) (omega (arith, long, lt))
                (sym (place_below j c j_below) ∙ (same ∙ place_above k d (omega arith)))
          ]
        ]
        | inr j_upto ↦ elim (cases_eq j at) [
          | inl j_there ↦ other (k - 1) d (omega (arith, long, lt))
              (sym (place_above k d (omega arith)) ∙ (sym same ∙ place_there j c j_there))
          | inr j_other ↦ apart (j - 1) (k - 1) c d (omega arith) (omega (arith, long, lt))
              (sym (place_above j c (omega arith)) ∙ (same ∙ place_above k d (omega arith)))
        ]
      ]
