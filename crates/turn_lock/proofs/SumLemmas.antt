-- Sums over lists of which one element changes, and how often a number stands in a list.
use Rattle.std.proofs.Common.{◌≡◌, ◌≢◌, ℕ, zero, suc, ◌+◌, ◌<◌, ◌≤◌, ◌==◌, Bool, true, false, cond}
use Rattle.std.proofs.Common.{List, [], ◌∷◌, ◌++◌, length, set, arith, refl, sym, ap, ◌∙◌, eq-eqb, ne_eqb, eqb-true}
use mathlib.Core.Option.{some, some-injective, some-ne-none}
use lib.ListN.{get_elem?}
use Rattle.turn_lock.specs.Totals.{one_at, total, times, without}

module _ {A : Type 0} where
  pub total_set : (f : A → ℕ) (xs : List A) (i : ℕ) (a b : A) → get_elem? xs i ≡ some a
      → total f (set xs i b) + f a ≡ total f xs + f b
  total_set f [] i a b at = absurd (some-ne-none a (sym at))
  total_set f (x ∷ xs) zero a b at = let same : f x ≡ f a = ap f (some-injective x a at) in omega arith
  total_set f (x ∷ xs) (suc i) a b at = let rest = total_set f xs i a b at in omega arith

  pub total_same : (f : A → ℕ) (xs : List A) (i : ℕ) (a b : A) → get_elem? xs i ≡ some a → f b ≡ f a
      → total f (set xs i b) ≡ total f xs
  total_same f xs i a b at same = let both = total_set f xs i a b at in omega arith

  pub total_append : (f : A → ℕ) (xs : List A) (a : A) → total f (xs ++ a ∷ []) ≡ total f xs + f a
  total_append f [] a = omega arith
  total_append f (x ∷ xs) a = let rest = total_append f xs a in omega arith

  pub part : (f : A → ℕ) (xs : List A) (i : ℕ) (a : A) → get_elem? xs i ≡ some a → f a ≤ total f xs
  part f [] i a at = absurd (some-ne-none a (sym at))
  part f (x ∷ xs) zero a at = let same : f x ≡ f a = ap f (some-injective x a at) in omega arith
  part f (x ∷ xs) (suc i) a at = let rest = part f xs i a at in omega arith

  pub two_parts : (f : A → ℕ) (xs : List A) (i j : ℕ) (a b : A) → i ≢ j → get_elem? xs i ≡ some a
      → get_elem? xs j ≡ some b → f a + f b ≤ total f xs
  two_parts f [] i j a b apart at there = absurd (some-ne-none a (sym at))
  two_parts f (x ∷ xs) zero zero a b apart at there = absurd (apart refl)
  two_parts f (x ∷ xs) zero (suc j) a b apart at there =
      let same : f x ≡ f a = ap f (some-injective x a at) in let rest = part f xs j b there in omega arith
  two_parts f (x ∷ xs) (suc i) zero a b apart at there =
      let same : f x ≡ f b = ap f (some-injective x b there) in let rest = part f xs i a at in omega arith
  two_parts f (x ∷ xs) (suc i) (suc j) a b apart at there =
      let rest = two_parts f xs i j a b (λ e. apart (ap suc e)) at there in omega arith

  pub total_less : (f g : A → ℕ) (xs : List A) → ((j : ℕ) (x : A) → get_elem? xs j ≡ some x → f x ≤ g x)
      → total f xs ≤ total g xs
  total_less f g [] less = omega arith
  total_less f g (x ∷ xs) less =
      let here = less 0 x refl in let rest = total_less f g xs (λ j y at. less (suc j) y at) in omega arith

  -- what f is less than g at one element is missing in the sum
  pub gap : (f g : A → ℕ) (xs : List A) (i : ℕ) (a : A)
      → ((j : ℕ) (x : A) → get_elem? xs j ≡ some x → f x ≤ g x) → get_elem? xs i ≡ some a
      → total f xs + g a ≤ total g xs + f a
  gap f g [] i a less at = absurd (some-ne-none a (sym at))
  gap f g (x ∷ xs) zero a less at = let same : f x ≡ f a = ap f (some-injective x a at) in
      let same_g : g x ≡ g a = ap g (some-injective x a at) in
      let rest = total_less f g xs (λ j y there. less (suc j) y there) in omega arith
  gap f g (x ∷ xs) (suc i) a less at = let here = less 0 x refl in
      let rest = gap f g xs i a (λ j y there. less (suc j) y there) at in omega arith

abbrev number : Bool → ℕ
number b = cond b 1 0

pub hits : (t k : ℕ) → t ≡ k → one_at k t ≡ 1
hits t k e = ap number (eq-eqb t k e)

pub misses : (t k : ℕ) → t ≢ k → one_at k t ≡ 0
misses t k ne = ap number (ne_eqb t k ne)

pub times_append : (k : ℕ) (xs ys : List ℕ) → times k (xs ++ ys) ≡ times k xs + times k ys
times_append k [] ys = omega arith
times_append k (x ∷ xs) ys = let rest = times_append k xs ys in omega arith

one_at_most : (b : Bool) → cond b 1 0 ≤ 1
one_at_most true = omega arith
one_at_most false = omega arith

pub times_few : (k : ℕ) (xs : List ℕ) → times k xs ≤ length xs
times_few k [] = omega arith
times_few k (x ∷ xs) = let rest = times_few k xs in let here = one_at_most (x == k) in omega arith

same_step : (k n : ℕ) (ns : List ℕ) (b : Bool) → (n == k) ≡ b
    → (0 < times k ns → times k (without k ns) + 1 ≡ times k ns) → 0 < cond b 1 0 + times k ns
    → times k (cond b ns (n ∷ without k ns)) + 1 ≡ cond b 1 0 + times k ns
same_step k n ns true e more much = omega arith
same_step k n ns false e more much = let rest = more (let s : 0 < 0 + times k ns = much in omega arith) in
    let here : one_at k n ≡ 0 = ap number e in omega arith

-- leaving a number out leaves one less of it
pub without_same : (k : ℕ) (ns : List ℕ) → 0 < times k ns → times k (without k ns) + 1 ≡ times k ns
without_same k [] much = absurd (omega arith)
without_same k (n ∷ ns) much = same_step k n ns (n == k) refl (without_same k ns) much

other_step : (j k n : ℕ) (ns : List ℕ) (b : Bool) → (n == k) ≡ b → (n ≡ k → n ≢ j)
    → times j (without k ns) ≡ times j ns → ((n == k) ≡ true → n ≡ k)
    → times j (cond b ns (n ∷ without k ns)) ≡ one_at j n + times j ns
other_step j k n ns true e apart more is =
    let miss = misses n j (apart (is e)) in omega arith
other_step j k n ns false e apart more is = omega (arith, more)

-- and as many of each other
pub without_other : (j k : ℕ) (ns : List ℕ) → j ≢ k → times j (without k ns) ≡ times j ns
without_other j k [] apart = refl
without_other j k (n ∷ ns) apart = other_step j k n ns (n == k) refl (λ is also. apart (sym also ∙ is))
    (without_other j k ns apart) (λ is. eqb-true n k is)

length_step : (k n : ℕ) (ns : List ℕ) (b : Bool) → (0 < times k ns → length (without k ns) + 1 ≡ length ns)
    → 0 < cond b 1 0 + times k ns → length (cond b ns (n ∷ without k ns)) + 1 ≡ suc (length ns)
length_step k n ns true more much = omega arith
length_step k n ns false more much = let rest = more (let s : 0 < 0 + times k ns = much in omega arith) in omega arith

pub without_length : (k : ℕ) (ns : List ℕ) → 0 < times k ns → length (without k ns) + 1 ≡ length ns
without_length k [] much = absurd (omega arith)
without_length k (n ∷ ns) much = length_step k n ns (n == k) (without_length k ns) much
