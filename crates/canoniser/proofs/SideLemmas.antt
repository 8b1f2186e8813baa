-- What a side is worth, by the factors of the variables of a list.
use Rattle.std.proofs.Common.{◌≡◌, ◌≢◌, ℕ, suc, ◌+◌, ◌<◌, Bool, true, false, List, [], ◌∷◌, length, get_or, ℤ, pos}
use Rattle.std.proofs.Common.{◌+ℤ◌, ◌-ℤ◌, ◌*ℤ◌, neg_ℤ, inl, inr, refl, arith, ap, sym, subst, ◌∙◌}
use Rattle.std.specs.Prelude.{Option, Some, None, IfSome, Contains, AllPairs, is_some, if◌then◌else◌, ◌==◌}
use Rattle.std.specs.List.{cons_option}
use Rattle.std.specs.Ordering.{int_eq}
use Rattle.std.proofs.Math.IntN.{zero-*ℤ}
use Rattle.std.proofs.lemmas.Int.{ints}
use Rattle.std.proofs.lemmas.Bool.Decides.{nat_tests, Decides-int_eq}
use Rattle.std.proofs.lemmas.List.{get_or-map}
use Rattle.std.proofs.lemmas.List.Elements.{Contains-append_left, Contains-append_right}
use Rattle.lin_model.specs.Terms.{PlainTerm, value_at, weight, value_of}
use Rattle.lin_model.specs.Form.{form_value}
use Rattle.lin_model.specs.declared.atom.Atom.{Atom}
use Rattle.lin_model.specs.declared.form.FormTerm.{FormTerm}
use Rattle.lin_model.specs.Lists.{Contains-first, Contains-later, Contains-cases}
use Rattle.lin_model.specs.Integers.{distrib_right, only_at, only_at-other, only_at-same}
use Rattle.slicer.specs.Names.{side_vars, Names}
use Rattle.canoniser.specs.Gathered.{is_on, factor_on, constants_of, coefficient, constant}
use Rattle.canoniser.specs.Forms.{terms_from}
use Rattle.canoniser.specs.Solutions.{point_of}
use Rattle.canoniser.proofs.Arithmetic.{neg_left}

-- ---- lists of distinct numbers

pub distinct-head : (v : ℕ) (vs : List ℕ) → AllPairs ◌≢◌ (v ∷ vs) → ¬ Contains vs v
distinct-head v vs pairs has = pairs 0 (suc has.0) v (omega arith) (omega (arith, has.1)) (sym has.2)

pub distinct-tail : (v : ℕ) (vs : List ℕ) → AllPairs ◌≢◌ (v ∷ vs) → AllPairs ◌≢◌ vs
distinct-tail v vs pairs i j d before within = pairs (suc i) (suc j) d (omega arith) (omega arith)

-- ---- the sum over the variables of a list, each its factor times its value

abbrev pub weighted : (ℕ → ℤ) → List ℕ → List ℤ → ℤ
weighted f [] values = pos 0
weighted f (v ∷ vs) values = (f v *ℤ value_at values v) +ℤ weighted f vs values

zero_times : (f n : ℤ) → f ≡ pos 0 → f *ℤ n ≡ pos 0
zero_times f n e = ap (λ (x : ℤ). x *ℤ n) e ∙ zero-*ℤ n

weighted-zero : (f : ℕ → ℤ) (vs : List ℕ) (values : List ℤ) → ((v : ℕ) → Contains vs v → f v ≡ pos 0)
    → weighted f vs values ≡ pos 0
weighted-zero f [] values none = refl
weighted-zero f (v ∷ vs) values none =
    let rest = weighted-zero f vs values (λ w has. none w (Contains-later v vs w has)) in
    omega (arith, ints, zero_times (f v) (value_at values v) (none v (Contains-first v vs)), rest)

weighted-added : (f g : ℕ → ℤ) (vs : List ℕ) (values : List ℤ)
    → weighted (λ v. f v +ℤ g v) vs values ≡ weighted f vs values +ℤ weighted g vs values
weighted-added f g [] values = omega (arith, ints)
weighted-added f g (v ∷ vs) values =
    omega (arith, ints, distrib_right (f v) (g v) (value_at values v), weighted-added f g vs values)

minus_times : (a b n : ℤ) → (a -ℤ b) *ℤ n ≡ (a *ℤ n) -ℤ (b *ℤ n)
minus_times a b n =
    let sum : a -ℤ b ≡ a +ℤ neg_ℤ b = omega (arith, ints) in
    omega (arith, ints, ap (λ (x : ℤ). x *ℤ n) sum, distrib_right a (neg_ℤ b) n, neg_left b n)

weighted-minus : (f g : ℕ → ℤ) (vs : List ℕ) (values : List ℤ)
    → weighted (λ v. f v -ℤ g v) vs values ≡ weighted f vs values -ℤ weighted g vs values
weighted-minus f g [] values = omega (arith, ints)
weighted-minus f g (v ∷ vs) values =
    omega (arith, ints, minus_times (f v) (g v) (value_at values v), weighted-minus f g vs values)

-- the factor of one variable alone
weighted-one : (w : ℕ) (n : ℤ) (vs : List ℕ) (values : List ℤ) → AllPairs ◌≢◌ vs → Contains vs w
    → weighted (only_at w n) vs values ≡ n *ℤ value_at values w
weighted-one w n [] values distinct has = absurd (omega (arith, has.1))
weighted-one w n (v ∷ vs) values distinct has =
    elim (Contains-cases v vs w has) [
      | inl same ↦
          let none = weighted-zero (only_at w n) vs values
          (λ u there. only_at-other w n u
          (λ e. distinct-head v vs distinct (subst (Contains vs) (sym e ∙ sym same) there))) in
          omega (
            arith,
            ints,
            ap (λ (x : ℤ). x *ℤ value_at values v) (only_at-same w n v (sym same)),
            ap (λ (u : ℕ). n *ℤ value_at values u) same,
            none,
          )
      | inr behind ↦
          let other : w ≢ v = λ e. distinct-head v vs distinct (subst (Contains vs) e behind) in
          omega (
            arith,
            ints,
            zero_times (only_at w n v) (value_at values v) (only_at-other w n v other),
            weighted-one w n vs values (distinct-tail v vs distinct) behind,
          )
    ]

-- ---- sides

names-head : (P : ℕ → Type 0) (var : Option ℕ) (rest : List ℕ) → ((w : ℕ) → Contains (cons_option var rest) w → P w)
    → IfSome var P
names-head P None rest each = tt
names-head P (Some v) rest each = each v (Contains-first v rest)

names-tail : (P : ℕ → Type 0) (var : Option ℕ) (rest : List ℕ) → ((w : ℕ) → Contains (cons_option var rest) w → P w)
    → (w : ℕ) → Contains rest w → P w
names-tail P None rest each w has = each w has
names-tail P (Some v) rest each w has = each w (Contains-later v rest w has)

-- one term
term_value-is : (factor : ℤ) (var : Option ℕ) (vs : List ℕ) (values : List ℤ) → AllPairs ◌≢◌ vs
    → IfSome var (Contains vs) → factor *ℤ weight var values ≡ (if is_some var then pos 0 else factor) +ℤ weighted
    (λ v. if is_on var v then factor else pos 0) vs values
term_value-is factor None vs values distinct named =
    omega (arith, ints, weighted-zero (λ v. pos 0) vs values (λ v has. refl))
term_value-is factor (Some w) vs values distinct named =
    omega (arith, ints, weighted-one w factor vs values distinct named)

value_of-is : (terms : List PlainTerm) (vs : List ℕ) (values : List ℤ) → AllPairs ◌≢◌ vs
    → ((w : ℕ) → Contains (side_vars terms) w → Contains vs w)
    → value_of terms values ≡ constants_of terms +ℤ weighted (λ v. factor_on v terms) vs values
value_of-is [] vs values distinct named =
    omega (arith, ints, weighted-zero (λ v. pos 0) vs values (λ v has. refl))
value_of-is (t ∷ ts) vs values distinct named =
    let here = term_value-is t.factor t.var vs values distinct (names-head (Contains vs) t.var (side_vars ts) named) in
    let rest = value_of-is ts vs values distinct (names-tail (Contains vs) t.var (side_vars ts) named) in
    let both = weighted-added (λ v. if is_on t.var v then t.factor else pos 0) (λ v. factor_on v ts) vs values in
    omega (arith, ints, here, rest, both)

-- ---- the gathered form

-- the point has the values of the variables of the list from this place on
abbrev Reads : List ℤ → List ℤ → ℕ → List ℕ → Type 0
Reads point values k vs = (i n : ℕ) → i < length vs → n ≡ k + i → value_at point n ≡ value_at values (get_or vs i 0)

form_value-chosen : (zero_too : Bool) (t : FormTerm) (ts : List FormTerm) (point : List ℤ)
    → (zero_too ≡ true → t.coef ≡ pos 0) → form_value
    (if zero_too then ts else t ∷ ts) point ≡ (t.coef *ℤ value_at point t.var) +ℤ form_value ts point
form_value-chosen true t ts point none =
    omega (arith, ints, zero_times t.coef (value_at point t.var) (none refl))
form_value-chosen false t ts point none = refl

form_value-terms_from : (k : ℕ) (vs : List ℕ) (atom : Atom) (point values : List ℤ) → Reads point values k vs
    → form_value (terms_from k vs atom) point ≡ weighted (coefficient atom) vs values
form_value-terms_from k [] atom point values reads = refl
form_value-terms_from k (v ∷ vs) atom point values reads =
    let coef = coefficient atom v in
    let here = reads 0 k (omega arith) (omega arith) in
    let rest =
    form_value-terms_from (suc k) vs atom point values
    (λ i n within e. reads (suc i) n (omega arith) (omega arith)) in
    omega (
      arith,
      ints,
      form_value-chosen (int_eq coef (pos 0)) (record { var = k; coef = coef })
          (terms_from (suc k) vs atom) point (Decides-int_eq coef (pos 0)).0,
      ap (λ (x : ℤ). coef *ℤ x) here,
      rest,
    )

pub form_value-gathered : (order : List ℕ) (atom : Atom) (values : List ℤ)
    → form_value (terms_from 0 order atom) (point_of order values) ≡ weighted (coefficient atom) order values
form_value-gathered order atom values =
    form_value-terms_from 0 order atom (point_of order values) values
    (λ i n within e. ap (value_at (point_of order values)) (e ∙ omega arith)
    ∙ get_or-map (λ v. value_at values v) order i 0 (pos 0) within)

-- the difference of the sides
pub gathered_value : (order : List ℕ) (atom : Atom) (values : List ℤ) → AllPairs ◌≢◌ order
    → ((v : ℕ) → Names atom v → Contains order v)
    → value_of atom.left values -ℤ value_of atom.right values ≡ form_value (terms_from 0 order atom)
    (point_of order values) -ℤ constant atom
gathered_value order atom values distinct named =
    let left =
    value_of-is atom.left order values distinct
    (λ w has. named w (Contains-append_left (side_vars atom.left) (side_vars atom.right) w has)) in
    let right =
    value_of-is atom.right order values distinct
    (λ w has. named w (Contains-append_right (side_vars atom.left) (side_vars atom.right) w has)) in
    let form = form_value-gathered order atom values in
    let minus = weighted-minus (λ v. factor_on v atom.left) (λ v. factor_on v atom.right) order values in
    omega (arith, ints, left, right, form, minus)
