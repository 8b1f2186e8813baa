-- The form of an atom takes every multiple of the greatest common divisor of its coefficients.
use Rattle.std.proofs.Common.{◌≡◌, ◌≢◌, ℕ, suc, ◌/◌, ◌<◌, max, Bool, true, false, List, [], ◌∷◌, get_or, map, ℤ, pos}
use Rattle.std.proofs.Common.{◌+ℤ◌, ◌*ℤ◌, neg_ℤ, unsigned_abs, inl, inr, refl, arith, ap, sym, subst, ◌∙◌}
use Rattle.std.specs.Prelude.{Contains, AllPairs, if◌then◌else◌}
use Rattle.std.specs.Int.{◌∣◌}
use Rattle.std.specs.List.{range_with_len}
use Rattle.std.specs.Ordering.{int_eq}
use Rattle.std.proofs.Math.Nat.{mul-div_cancel'}
use Rattle.std.proofs.Math.IntN.{*ℤ_comm, pos-*ℤ-pos}
use Rattle.std.proofs.lemmas.Int.{ints}
use Rattle.std.proofs.lemmas.List.FromFn.{get_or-map-range_with_len}
use Rattle.std.proofs.lemmas.List.Elements.{All-nil, All-map}
use Rattle.lin_model.specs.Terms.{value_at}
use Rattle.lin_model.specs.Form.{form_value, IsGcdOf, DividesAll}
use Rattle.lin_model.specs.KeyAtom.{PlainKeyAtom}
use Rattle.lin_model.specs.declared.atom.Atom.{Atom}
use Rattle.lin_model.specs.declared.form.FormTerm.{FormTerm}
use Rattle.lin_model.specs.Lists.{Contains-first, Contains-later, Contains-cases}
use Rattle.lin_model.specs.Integers.{times_assoc}
use Rattle.canoniser.specs.Gathered.{coefficient}
use Rattle.canoniser.specs.Forms.{terms_from, gathered, oriented, turned, begins_negative}
use Rattle.canoniser.specs.Solutions.{point_of}
use Rattle.canoniser.proofs.Arithmetic.{neg_right}
use Rattle.canoniser.proofs.LimitsLemmas.{All-chosen}
use Rattle.canoniser.proofs.SideLemmas.{weighted, form_value-gathered}
use Rattle.canoniser.proofs.MeaningLemmas.{turned-value}
use Rattle.canoniser.proofs.CombinationLemmas.{Combination, combination, total, total-same, total-scaled}

-- ---- values

-- above each number
abbrev above : List ℕ → ℕ
above [] = 0
above (v ∷ vs) = max (suc v) (above vs)

-- the list of these values
abbrev values_of : (ℕ → ℤ) → List ℕ → List ℤ
values_of x vs = map x (range_with_len 0 (above vs))

above-each : (vs : List ℕ) (v : ℕ) → Contains vs v → v < above vs
above-each [] v has = absurd (omega (arith, has.1))
above-each (w ∷ vs) v has =
    elim (Contains-cases w vs v has) [ inl same ↦ omega arith | inr behind ↦ omega (arith, above-each vs v behind) ]

value_at-values_of : (x : ℕ → ℤ) (vs : List ℕ) (v : ℕ) → Contains vs v → value_at (values_of x vs) v ≡ x v
value_at-values_of x vs v has = get_or-map-range_with_len x 0 (above vs) v v (pos 0) (above-each vs v has) (omega arith)

weighted-total : (f : ℕ → ℤ) (vs : List ℕ) (values : List ℤ)
    → weighted f vs values ≡ total f (λ v. value_at values v) vs
weighted-total f [] values = refl
weighted-total f (v ∷ vs) values = ap (λ (n : ℤ). (f v *ℤ value_at values v) +ℤ n) (weighted-total f vs values)

weighted-values_of : (f x : ℕ → ℤ) (vs : List ℕ) → weighted f vs (values_of x vs) ≡ total f x vs
weighted-values_of f x vs =
    weighted-total f vs (values_of x vs) ∙ total-same f (λ v. value_at (values_of x vs) v) x vs
    (value_at-values_of x vs)

-- ---- the multiples that a form takes

divides-terms_from : (g k : ℕ) (vs : List ℕ) (atom : Atom)
    → ((v : ℕ) → Contains vs v → g ∣ unsigned_abs (coefficient atom v)) → DividesAll g (terms_from k vs atom)
divides-terms_from g k [] atom each = All-nil (λ t. g ∣ unsigned_abs t.coef)
divides-terms_from g k (v ∷ vs) atom each =
    All-chosen (λ t. g ∣ unsigned_abs t.coef) (int_eq (coefficient atom v) (pos 0))
    (record { var = k; coef = coefficient atom v }) (terms_from (suc k) vs atom)
    (λ kept. each v (Contains-first v vs))
    (divides-terms_from g (suc k) vs atom (λ w has. each w (Contains-later v vs w has)))

divides_by : (negative : Bool) (g : ℕ) (a : PlainKeyAtom) → DividesAll g a.form
    → DividesAll g (if negative then turned a else a).form
divides_by true g a all =
    All-map (λ t. g ∣ unsigned_abs t.coef) (λ t. record { var = t.var; coef = neg_ℤ t.coef }) a.form
    (λ k d lt. subst (λ n. g ∣ n) (neg-size (get_or a.form k d).coef) (all k d lt))
  where
    neg-size : (n : ℤ) → unsigned_abs n ≡ unsigned_abs (neg_ℤ n)
    neg-size n = omega (arith, ints)
divides_by false g a all = all

-- the value at a multiple of the combination
multiple_value : (order : List ℕ) (atom : Atom) (c : Combination (coefficient atom) order) (g : ℕ) (n : ℤ)
    → c.divisor ∣ g → form_value (gathered order atom).form
    (point_of order (values_of (λ v. (pos (g / c.divisor) *ℤ n) *ℤ c.at v) order)) ≡ pos g *ℤ n
multiple_value order atom c g n divides =
    let k = g / c.divisor in
    let s = pos k *ℤ n in
    let values = values_of (λ v. s *ℤ c.at v) order in
    let whole : (pos c.divisor *ℤ pos k) ≡ pos g =
    pos-*ℤ-pos c.divisor k ∙ ap pos (mul-div_cancel' c.divisor divides) in
    form_value-gathered order atom values
    ∙ weighted-values_of (coefficient atom) (λ v. s *ℤ c.at v) order
    ∙ total-scaled (coefficient atom) c.at s order
    ∙ ap (λ (x : ℤ). s *ℤ x) c.sum
    ∙ *ℤ_comm s (pos c.divisor)
    ∙ sym (times_assoc (pos c.divisor) (pos k) n)
    ∙ ap (λ (x : ℤ). x *ℤ n) whole

-- values at which the form has this value
pub record Reaches (order : List ℕ) (form : List FormTerm) (n : ℤ) : Type 0 where
  pub values : List ℤ
  pub value : form_value form (point_of order values) ≡ n

reaches_by : (negative : Bool) (order : List ℕ) (atom : Atom) (c : Combination (coefficient atom) order) (g : ℕ) (n : ℤ)
    → c.divisor ∣ g → Reaches order (if negative then turned (gathered order atom) else gathered order atom).form
    (pos g *ℤ n)
reaches_by true order atom c g n divides =
    let values = values_of (λ v. (pos (g / c.divisor) *ℤ neg_ℤ n) *ℤ c.at v) order in record {
      values = values;
      value = turned-value (gathered order atom).form (point_of order values)
          ∙ ap neg_ℤ (multiple_value order atom c g (neg_ℤ n) divides) ∙ twice (pos g) n;
    }
  where
    twice : (a b : ℤ) → neg_ℤ (a *ℤ neg_ℤ b) ≡ a *ℤ b
    twice a b = omega (arith, ints, neg_right a b)
reaches_by false order atom c g n divides = record {
  values = values_of (λ v. (pos (g / c.divisor) *ℤ n) *ℤ c.at v) order;
  value = multiple_value order atom c g n divides;
}

-- the form takes every multiple of its greatest common divisor
pub reaches : (order : List ℕ) (atom : Atom) (g : ℕ) (n : ℤ) → AllPairs ◌≢◌ order
    → IsGcdOf (oriented (gathered order atom)).form g → Reaches order (oriented (gathered order atom)).form (pos g *ℤ n)
reaches order atom g n distinct gcd =
    let c = combination (coefficient atom) order distinct in
    let negative = begins_negative (gathered order atom).form in
    let all =
    divides_by negative c.divisor (gathered order atom) (divides-terms_from c.divisor 0 order atom c.divides) in
    reaches_by negative order atom c g n (gcd.greatest c.divisor all)
