-- Lists that begin others, and the events of one number in them.
use Rattle.std.proofs.Common.{◌≡◌, ◌≢◌, ℕ, suc, ◌+◌, ◌≤◌, ◌==◌, Bool, cond}
use Rattle.std.proofs.Common.{List, [], ◌∷◌, ◌++◌, length, get_or, drop, arith, refl, sym, ap, subst, ◌∙◌}
use Rattle.std.proofs.Common.{append_assoc, append-nil, length-append, ne_eqb}
use Rattle.std.proofs.lemmas.List.Elements.{filter-append}
use Rattle.turn_lock.specs.Totals.{Begins}
use Rattle.turn_lock.specs.Views.{of_number}

module _ {A : Type 0} where
  pub begins_same : (xs ys : List A) → xs ≡ ys → Begins xs ys
  begins_same xs ys e = ([], append-nil xs ∙ e)

  pub begins_more : (xs ys zs : List A) → Begins xs ys → Begins xs (ys ++ zs)
  begins_more xs ys zs b = (b.0 ++ zs, sym (append_assoc xs b.0 zs) ∙ ap (λ (l : List A). l ++ zs) b.1)

  pub begins_through : (xs ys zs : List A) → Begins xs ys → Begins ys zs → Begins xs zs
  begins_through xs ys zs b c = subst (λ (l : List A). Begins xs l) c.1 (begins_more xs ys c.0 b)

  tail_eq : (x y : A) (xs ys : List A) → x ∷ xs ≡ y ∷ ys → xs ≡ ys
  tail_eq x y xs ys e = ap (λ (l : List A). drop 1 l) e

  head_eq : (x y : A) (xs ys : List A) → x ∷ xs ≡ y ∷ ys → x ≡ y
  head_eq x y xs ys e = ap (λ (l : List A). get_or l 0 x) e

  -- of two beginnings of one list the shorter begins the longer
  pub begins_shorter : (xs ys zs : List A) → Begins xs zs → Begins ys zs → length xs ≤ length ys → Begins xs ys
  begins_shorter [] ys zs b c le = (ys, refl)
  begins_shorter (x ∷ xs) [] zs b c le = absurd (omega (arith, le))
  begins_shorter (x ∷ xs) (y ∷ ys) zs b c le =
      let both : x ∷ (xs ++ b.0) ≡ y ∷ (ys ++ c.0) = b.1 ∙ sym c.1 in
      let rest = begins_shorter xs ys (ys ++ c.0) (b.0, tail_eq x y (xs ++ b.0) (ys ++ c.0) both) (c.0, refl)
      (omega (arith, le)) in
      (rest.0, λ k. head_eq x y (xs ++ b.0) (ys ++ c.0) both k ∷ rest.1 k)

  pub nothing_more : (xs ys : List A) → xs ++ ys ≡ xs → ys ≡ []
  nothing_more xs [] e = refl
  nothing_more xs (y ∷ ys) e =
      let long : length xs + suc (length ys) ≡ length xs = sym (length-append xs (y ∷ ys))
      ∙ ap (λ (l : List A). length l) e in
      absurd (omega (arith, long))

module _ {E : Type 0} (names : E → ℕ) where
  -- what lies between a list and a beginning that has all of its events of k has them too
  pub own_between : (k : ℕ) (xs ys zs : List E) → Begins xs ys → Begins ys zs
      → of_number names k zs ≡ of_number names k xs → of_number names k zs ≡ of_number names k ys
  own_between k xs ys zs b c own =
      let f : List E → List E = of_number names k in
      let first : f ys ≡ f xs ++ f b.0 = ap f (sym b.1) ∙ filter-append (λ e. names e == k) xs b.0 in
      let second : f zs ≡ f ys ++ f c.0 = ap f (sym c.1) ∙ filter-append (λ e. names e == k) ys c.0 in
      let l1 : length (f ys) ≡ length (f xs) + length (f b.0) =
      ap (λ (l : List E). length l) first ∙ length-append (f xs) (f b.0) in
      let l2 : length (f zs) ≡ length (f ys) + length (f c.0) =
      ap (λ (l : List E). length l) second ∙ length-append (f ys) (f c.0) in
      let l3 : length (f zs) ≡ length (f xs) = ap (λ (l : List E). length l) own in
      second ∙ ap (λ (l : List E). f ys ++ l) (empty (f c.0) (let n : length (f c.0) ≡ 0 = omega (
        arith,
        l1,
        l2,
        l3,
      ) in n))
      ∙ append-nil (f ys)
    where
      empty : (l : List E) → length l ≡ 0 → l ≡ []
      empty [] e = refl
      empty (x ∷ xs) e = absurd (omega (arith, e))

  -- an event that names another number is none of k
  pub one_other : (k : ℕ) (log : List E) (e : E) → names e ≢ k
      → of_number names k (log ++ e ∷ []) ≡ of_number names k log
  one_other k log e ne =
      filter-append (λ x. names x == k) log (e ∷ []) ∙ ap (λ (l : List E). of_number names k log ++ l) none
      ∙ append-nil (of_number names k log)
    where
      none : of_number names k (e ∷ []) ≡ []
      none = ap (λ (b : Bool). cond b (e ∷ []) []) (ne_eqb (names e) k ne)
