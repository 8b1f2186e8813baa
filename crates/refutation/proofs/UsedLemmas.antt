-- A sum by the variables that are used alone: the others have the coefficient 0, and add nothing.
use Rattle.std.proofs.Common.{◌≡◌, ◌≢◌, ⊎_elim, ℕ, zero, suc, ◌+◌, ◌-◌, ◌<◌, ◌≤◌, ℤ, pos, ◌+ℤ◌, eqb, Option}
use Rattle.std.proofs.Common.{Some, None, List, [], ◌∷◌, length, get_or, drop, refl, ap, sym, ◌∙◌, subst, arith}
use Rattle.std.specs.Int.{bit_at}
use Rattle.std.proofs.lemmas.Bool.{cases_eq, cases_lt, cond-false, ne_eqb}
use Rattle.std.proofs.lemmas.Int.{ints}
use Rattle.std.proofs.lemmas.Nat.Bits.{bit_at-zero}
use Rattle.lin_model.specs.declared.form.FormTerm.{FormTerm}
use Rattle.refutation.specs.Bounds.{PlainBounds, lower_of, upper_of, add_known, scaled_side, least}
use Rattle.refutation.specs.Leaf.{coefficient_of}
use Rattle.refutation.specs.Sum.{dense_form, MarksUsed}
use Rattle.refutation.proofs.SumLemmas.{dense_step, dense_missing, dense_end}

-- the sum so far and the least value of the variables from n on are the whole
abbrev IsLeft : List ℤ → PlainBounds → ℤ → ℕ → Option ℤ → Type 0
IsLeft coefs b sum n whole = add_known (Some sum) (least (drop n (dense_form coefs)) b) ≡ whole

-- variables with the coefficient 0 are passed
skip : (coefs : List ℤ) (b : PlainBounds) (sum : ℤ) (whole : Option ℤ) (d n m : ℕ) → n + d ≡ m → m ≤ 64
    → ((v : ℕ) → n ≤ v → v < m → get_or coefs v (pos 0) ≡ pos 0) → IsLeft coefs b sum n whole
    → IsLeft coefs b sum m whole
skip coefs b sum whole zero n m is le zeros h =
    let same : n ≡ m = omega (arith, is) in subst (λ (k : ℕ). IsLeft coefs b sum k whole) same h
skip coefs b sum whole (suc d) n m is le zeros h =
    let lt : n < m = omega (arith, is) in
    let none : Some (pos 0) ≡ scaled_side (get_or coefs n (pos 0)) (lower_of b n) (upper_of b n) = sym
    (ap (λ (k : ℤ). scaled_side k (lower_of b n) (upper_of b n)) (zeros n (omega arith) lt)) in
    skip coefs b sum whole d (n + 1) m (omega (arith, is)) le (λ v low high. zeros v (omega (arith, low)) high)
    (dense_step coefs b n sum (pos 0) sum (Some (pos 0)) whole (omega (arith, lt, le)) none refl (omega (arith, ints)) h)

-- where the loop is: its turns, the bits that are left, and the sum so far
pub record IsSummedTo (coefs : List ℤ) (b : PlainBounds) (used rest turns : ℕ) (sum : ℤ) : Type 0 where
  pub next : ℕ
  pub turns_below : turns ≤ next
  pub within : next ≤ 64
  pub passed : (v : ℕ) → v < next → bit_at rest v ≡ 0
  pub kept : (v : ℕ) → next ≤ v → v < 64 → bit_at rest v ≡ bit_at used v
  pub so_far : IsLeft coefs b sum next (least (dense_form coefs) b)

add_nothing : (o : Option ℤ) → add_known (Some (pos 0)) o ≡ o
add_nothing None = refl
add_nothing (Some n) = let same : pos 0 +ℤ n ≡ n = omega (arith, ints) in ap Some same

pub summed-start : (coefs : List ℤ) (b : PlainBounds) (used : ℕ) → IsSummedTo coefs b used used 0 (pos 0)
summed-start coefs b used = record {
  next = 0;
  turns_below = omega arith;
  within = omega arith;
  passed = λ v lt. absurd (omega (arith, lt));
  kept = λ v low high. refl;
  so_far = add_nothing (least (dense_form coefs) b);
}

-- up to the lowest bit that is left nothing is added
reached : (coefs : List ℤ) (b : PlainBounds) (used rest turns : ℕ) (sum : ℤ) (var : ℕ)
    → (at : IsSummedTo coefs b used rest turns sum) → MarksUsed used coefs → at.next ≤ var → var ≤ 64
    → ((v : ℕ) → v < var → bit_at rest v ≡ 0) → IsLeft coefs b sum var (least (dense_form coefs) b)
reached coefs b used rest turns sum var at marks from le below =
    let gap : at.next + (var - at.next) ≡ var = omega (arith, from) in
    skip coefs b sum (least (dense_form coefs) b) (var - at.next) at.next var gap le
    (λ v low high. marks v (omega (arith, high, le))
    (sym (at.kept v low (omega (arith, high, le))) ∙ below v high)) at.so_far

not_passed : (coefs : List ℤ) (b : PlainBounds) (used rest turns : ℕ) (sum : ℤ) (var : ℕ)
    → (at : IsSummedTo coefs b used rest turns sum) → bit_at rest var ≡ 1 → at.next ≤ var
not_passed coefs b used rest turns sum var at set =
    ⊎_elim (λ lt. let none = at.passed var lt in absurd (omega (arith, none, set))) (λ le. le) (cases_lt var at.next)

pub summed-step : (coefs : List ℤ) (b : PlainBounds) (used rest turns : ℕ) (sum : ℤ) (var : ℕ) (value total : ℤ)
    (side : Option ℤ) (left : ℕ) → IsSummedTo coefs b used rest turns sum → MarksUsed used coefs → var < 64
    → bit_at rest var ≡ 1 → ((v : ℕ) → v < var → bit_at rest v ≡ 0)
    → side ≡ scaled_side (get_or coefs var (pos 0)) (lower_of b var) (upper_of b var) → side ≡ Some value
    → total ≡ sum +ℤ value → bit_at left var ≡ 0
    → ((v : ℕ) → v < 64 → v ≢ var → bit_at left v ≡ bit_at rest v)
    → IsSummedTo coefs b used left (turns + 1) total
summed-step coefs b used rest turns sum var value total side left at marks lt set below is known added cleared others =
    let from = not_passed coefs b used rest turns sum var at set in
    record {
      next = var + 1;
      turns_below = omega (arith, from, at.turns_below);
      within = omega (arith, lt);
      passed = λ v low. ⊎_elim (λ same. subst (λ (k : ℕ). bit_at left k ≡ 0) (sym same) cleared)
          (λ other. others v (omega (arith, low, lt)) other ∙ below v (omega (arith, low, other))) (cases_eq v var);
      kept = λ v low high. others v high (λ same. omega (arith, same, low))
          ∙ at.kept v (omega (arith, low, from)) high;
      so_far = dense_step coefs b var sum value total side (least (dense_form coefs) b) lt is known added
          (reached coefs b used rest turns sum var at marks from (omega (arith, lt)) below);
    }

pub summed-missing : (coefs : List ℤ) (b : PlainBounds) (used rest turns : ℕ) (sum : ℤ) (var : ℕ) (side : Option ℤ)
    → IsSummedTo coefs b used rest turns sum → MarksUsed used coefs → var < 64 → bit_at rest var ≡ 1
    → ((v : ℕ) → v < var → bit_at rest v ≡ 0)
    → side ≡ scaled_side (get_or coefs var (pos 0)) (lower_of b var) (upper_of b var) → side ≡ None
    → None ≡ least (dense_form coefs) b
summed-missing coefs b used rest turns sum var side at marks lt set below is missing =
    let from = not_passed coefs b used rest turns sum var at set in
    sym (dense_missing coefs b var sum side (least (dense_form coefs) b) lt is missing
    (reached coefs b used rest turns sum var at marks from (omega (arith, lt)) below))

pub summed-none_left : (coefs : List ℤ) (b : PlainBounds) (used rest turns : ℕ) (sum : ℤ)
    → IsSummedTo coefs b used rest turns sum → MarksUsed used coefs → rest ≡ 0
    → Some sum ≡ least (dense_form coefs) b
summed-none_left coefs b used rest turns sum at marks none =
    dense_end coefs b 64 sum (least (dense_form coefs) b) (omega arith)
    (reached coefs b used rest turns sum 64 at marks at.within (omega arith)
    (λ v lt. ap (λ (r : ℕ). bit_at r v) none ∙ bit_at-zero v))

pub summed-end : (coefs : List ℤ) (b : PlainBounds) (used rest turns : ℕ) (sum : ℤ)
    → IsSummedTo coefs b used rest turns sum → 64 ≤ turns → Some sum ≡ least (dense_form coefs) b
summed-end coefs b used rest turns sum at all =
    dense_end coefs b at.next sum (least (dense_form coefs) b) (omega (arith, at.turns_below, all)) at.so_far

-- ---- the variables of a form

pub no_such_variable : (form : List FormTerm) (v : ℕ)
    → ((k : ℕ) (d : FormTerm) → k < length form → (get_or form k d).var ≢ v) → coefficient_of form v ≡ pos 0
no_such_variable [] v apart = refl
no_such_variable (t ∷ ts) v apart =
    let missed = cond-false (eqb t.var v) t.coef (pos 0) (ne_eqb t.var v (apart 0 t (omega arith))) in
    let rest = no_such_variable ts v (λ k d lt. apart (suc k) d (omega (arith, lt))) in
    omega (arith, ints, missed, rest)

-- one variable more is marked
pub marked_more : (form : List FormTerm) (i : ℕ) (d : FormTerm) (bits more v : ℕ) → i < length form
    → bit_at more (get_or form i d).var ≡ 1 → ((w : ℕ) → w ≢ (get_or form i d).var → bit_at more w ≡ bit_at bits w)
    → bit_at more v ≡ 0 → (v ≢ (get_or form i d).var) × (bit_at bits v ≡ 0)
marked_more form i d bits more v lt set others none =
    let apart : v ≢ (get_or form i d).var = λ same.
    let here = ap (bit_at more) same in omega (arith, here, set, none) in
    (apart, sym (others v apart) ∙ none)
