-- An atom with both sides times a positive number has the same canonical form.
use Rattle.std.proofs.Common.{◌≡◌, ◌≢◌, ℕ, ◌*◌, ◌/◌, ◌%◌, ◌<◌, ◌↔◌, Bool, true, List, [], ◌∷◌, get_or}
use Rattle.std.proofs.Common.{map, ℤ, pos, ◌*ℤ◌, ◌≤ℤ◌, unsigned_abs, refl, arith, eq-eqb, ap, sym, subst, ◌∙◌}
use Rattle.std.specs.Prelude.{if◌then◌else◌}
use Rattle.std.specs.Int.{◌∣◌}
use Rattle.std.specs.List.{All}
use Rattle.std.proofs.Math.Nat.{one-dvd, mul-pos, mul-div_cancel', mul-dvd-mul_left, dvd_of_mul-dvd-mul_left}
use Rattle.std.proofs.Math.IntN.{*ℤ-zero, pos-*ℤ-pos}
use Rattle.std.proofs.lemmas.Nat.Gcd.{dvd_trans, mod-eq-zero_of_dvd}
use Rattle.std.proofs.lemmas.List.{get_or-map, length-map}
use Rattle.std.proofs.lemmas.Int.{ints, unsigned_abs-mul}
use Rattle.std.proofs.lemmas.List.Elements.{All-map}
use Rattle.lin_model.specs.Facts.{Decides-passes, IsGcdOf-divisor, divisor_from_IsGcdOf}
use Rattle.lin_model.specs.Form.{divisor, DividesAll}
use Rattle.lin_model.specs.Test.{Passes, passes}
use Rattle.lin_model.specs.KeyAtom.{PlainKeyAtom}
use Rattle.lin_model.specs.declared.atom.Atom.{Atom}
use Rattle.lin_model.specs.declared.atom.Cmp.TheVariants.{Le}
use Rattle.lin_model.specs.declared.form.FormTerm.{FormTerm}
use Rattle.lin_model.specs.declared.op.Op.{Op}
use Rattle.lin_model.specs.declared.op.Op.TheVariants.{Le as AtMost, Ge as AtLeast, Eq as Equals, Ne as Differs}
use Rattle.lin_model.specs.Quotients.{floor_div, ceil_div}
use Rattle.lin_model.specs.Integers.{times_assoc}
use Rattle.canoniser.specs.declared.atom_form.AtomForm.TheVariants.{True, False, KeyAtom}
use Rattle.canoniser.specs.Forms.{gathered, oriented, divides, divided, reduced, alone, primitive, primitive_of}
use Rattle.canoniser.specs.Forms.{canonical_form}
use Rattle.canoniser.specs.Factors.{times}
use Rattle.canoniser.proofs.Arithmetic.{floor_div-above, ceil_div-below}
use Rattle.canoniser.proofs.LimitsLemmas.{gcd-positive, nonzero-oriented}
use Rattle.canoniser.proofs.MeaningLemmas.{times_same, divisor_from_test}
use Rattle.canoniser.proofs.ScalingLemmas.{scaled, Matches, same_bool, times_le, loose-matches, IsTimes}
use Rattle.canoniser.proofs.ScalingLemmas.{IsTimes-oriented}

-- ---- the greatest common divisor

divides-scaled : (m g : ℕ) (form : List FormTerm) → DividesAll g form → DividesAll (m * g) (map (scaled m) form)
divides-scaled m g form all =
    All-map (λ t. m * g ∣ unsigned_abs t.coef) (scaled m) form
    (λ k d lt. subst (λ n. m * g ∣ n) (sym (unsigned_abs-mul (pos m) (get_or form k d).coef))
    (mul-dvd-mul_left g m (all k d lt)))

divides-unscaled : (m g : ℕ) (form : List FormTerm) → 0 < m → DividesAll (m * g) (map (scaled m) form)
    → DividesAll g form
divides-unscaled m g form h all k d lt =
    let read : get_or (map (scaled m) form) k (scaled m d) ≡ scaled m (get_or form k d) =
    get_or-map (scaled m) form k d (scaled m d) lt in
    let size = unsigned_abs-mul (pos m) (get_or form k d).coef in
    let here = all k (scaled m d) (omega (arith, length-map form (scaled m))) in
    dvd_of_mul-dvd-mul_left g h (subst (λ n. m * g ∣ n) (ap (λ (t : FormTerm). unsigned_abs t.coef) read ∙ size) here)

divisor-scaled : (m : ℕ) (form : List FormTerm) → 0 < m → divisor (map (scaled m) form) ≡ m * divisor form
divisor-scaled m form h =
    let g = divisor form in
    let is = IsGcdOf-divisor form in
    let whole = divisor (map (scaled m) form) in
    let whole_is = IsGcdOf-divisor (map (scaled m) form) in
    let one : DividesAll 1 form = λ k d lt. one-dvd (unsigned_abs (get_or form k d).coef) in
    let by_m : m ∣ whole =
    subst (λ n. n ∣ whole) (omega arith) (whole_is.greatest (m * 1) (divides-scaled m 1 form one)) in
    let rest = whole / m in
    let product : m * rest ≡ whole = mul-div_cancel' m by_m in
    let unscaled : DividesAll rest form =
    divides-unscaled m rest form h (subst (λ n. DividesAll n (map (scaled m) form)) (sym product) whole_is.divides) in
    let below : rest ∣ g = is.greatest rest unscaled in
    sym (divisor_from_IsGcdOf (map (scaled m) form) (m * g) (record {
      divides = divides-scaled m g form is.divides;
      greatest = λ e all.
          dvd_trans e (whole_is.greatest e all) (subst (λ n. n ∣ m * g) product (mul-dvd-mul_left rest m below));
    }))

-- ---- quotients

-- integers with the same integers below them, or above them
same_below : (a b : ℤ) → ((w : ℤ) → (w ≤ℤ a) ↔ (w ≤ℤ b)) → a ≡ b
same_below a b both =
    let one = (both a).0 (omega (arith, ints)) in
    let other = (both b).1 (omega (arith, ints)) in
    omega (arith, ints)

same_above : (a b : ℤ) → ((w : ℤ) → (a ≤ℤ w) ↔ (b ≤ℤ w)) → a ≡ b
same_above a b both =
    let one = (both a).0 (omega (arith, ints)) in
    let other = (both b).1 (omega (arith, ints)) in
    omega (arith, ints)

product_times : (m g : ℕ) (w : ℤ) → pos (m * g) *ℤ w ≡ pos m *ℤ (pos g *ℤ w)
product_times m g w = ap (λ (x : ℤ). x *ℤ w) (sym (pos-*ℤ-pos m g)) ∙ times_assoc (pos m) (pos g) w

floor_div-times : (m g : ℕ) (c d : ℤ) → 0 < m → 0 < g → Matches AtMost m c d → floor_div d (m * g) ≡ floor_div c g
floor_div-times m g c d hm hg both =
    same_below (floor_div d (m * g)) (floor_div c g) (λ w.
    let product = product_times m g w in
    let outer = floor_div-above w d (m * g) (mul-pos hm hg) in
    let inner = floor_div-above w c g hg in
    let at = both (pos g *ℤ w) in (
      λ le. inner.1 (at.0 (let low = outer.0 le in omega (arith, ints))),
      λ le. outer.1 (let low = at.1 (inner.0 le) in omega (arith, ints)),
    ))

ceil_div-times : (m g : ℕ) (c d : ℤ) → 0 < m → 0 < g → Matches AtLeast m c d → ceil_div d (m * g) ≡ ceil_div c g
ceil_div-times m g c d hm hg both =
    same_above (ceil_div d (m * g)) (ceil_div c g) (λ w.
    let product = product_times m g w in
    let outer = ceil_div-below w d (m * g) (mul-pos hm hg) in
    let inner = ceil_div-below w c g hg in
    let at = both (pos g *ℤ w) in (
      λ le. inner.1 (at.0 (let low = outer.0 le in omega (arith, ints))),
      λ le. outer.1 (let low = at.1 (inner.0 le) in omega (arith, ints)),
    ))

divided-scaled : (m g : ℕ) (form : List FormTerm) → 0 < m → 0 < g
    → divided (m * g) (map (scaled m) form) ≡ divided g form
divided-scaled m g [] hm hg = refl
divided-scaled m g (t ∷ ts) hm hg =
    let rest = divided-scaled m g ts hm hg in
    let quotient = floor_div-times m g t.coef (pos m *ℤ t.coef) hm hg (λ n. times_le m n t.coef hm) in
    λ i. record { var = t.var; coef = quotient i } ∷ rest i

test_from_divisor : (g : ℕ) (c : ℤ) → g ∣ unsigned_abs c → divides g c ≡ true
test_from_divisor g c d = eq-eqb (unsigned_abs c % g) 0 (mod-eq-zero_of_dvd g d)

divides-times : (m g : ℕ) (c d : ℤ) → 0 < m → d ≡ pos m *ℤ c → divides (m * g) d ≡ divides g c
divides-times m g c d h e =
    let size : unsigned_abs d ≡ m * unsigned_abs c = ap unsigned_abs e ∙ unsigned_abs-mul (pos m) c in
    same_bool (divides (m * g) d) (divides g c)
    (λ yes. test_from_divisor g c
    (dvd_of_mul-dvd-mul_left g h (subst (λ n. m * g ∣ n) size (divisor_from_test (m * g) d yes))))
    (λ yes. test_from_divisor (m * g) d
    (subst (λ n. m * g ∣ n) (sym size) (mul-dvd-mul_left g m (divisor_from_test g c yes))))

reduced-times : (m g : ℕ) (form : List FormTerm) (op : Op) (c d : ℤ) → 0 < m → 0 < g → Matches op m c d
    → reduced (m * g) (map (scaled m) form) op d ≡ reduced g form op c
reduced-times m g form AtMost c d hm hg both =
    let parts = divided-scaled m g form hm hg in
    let quotient = floor_div-times m g c d hm hg both in
    λ i. KeyAtom (record { form = parts i; op = AtMost; constant = quotient i })
reduced-times m g form AtLeast c d hm hg both =
    let parts = divided-scaled m g form hm hg in
    let quotient = ceil_div-times m g c d hm hg both in
    λ i. KeyAtom (record { form = parts i; op = AtLeast; constant = quotient i })
reduced-times m g form Equals c d hm hg e =
    let parts = divided-scaled m g form hm hg in
    let quotient = floor_div-times m g c d hm hg (loose-matches Le m c d hm e) in
    let test = divides-times m g c d hm e in
    λ i. if test i then KeyAtom (record { form = parts i; op = Equals; constant = quotient i }) else False
reduced-times m g form Differs c d hm hg e =
    let parts = divided-scaled m g form hm hg in
    let quotient = floor_div-times m g c d hm hg (loose-matches Le m c d hm e) in
    let test = divides-times m g c d hm e in
    λ i. if test i then KeyAtom (record { form = parts i; op = Differs; constant = quotient i }) else True

zero_same : (m : ℕ) (c d : ℤ) → 0 < m → d ≡ pos m *ℤ c → (pos 0 ≡ d) ↔ (pos 0 ≡ c)
zero_same m c d h e = (
  λ z. times_same m (pos 0) c h (*ℤ-zero (pos m) ∙ z ∙ e),
  λ z. sym (*ℤ-zero (pos m)) ∙ ap (λ (x : ℤ). pos m *ℤ x) z ∙ sym e,
)

passes-zero : (op : Op) (m : ℕ) (c d : ℤ) → 0 < m → Matches op m c d → Passes op d (pos 0) ↔ Passes op c (pos 0)
passes-zero AtMost m c d h both =
    let at = both (pos 0) in
    let none = *ℤ-zero (pos m) in
    (λ p. at.0 (omega (arith, ints)), λ p. let q = at.1 p in omega (arith, ints))
passes-zero AtLeast m c d h both =
    let at = both (pos 0) in
    let none = *ℤ-zero (pos m) in
    (λ p. at.0 (omega (arith, ints)), λ p. let q = at.1 p in omega (arith, ints))
passes-zero Equals m c d h e = zero_same m c d h e
passes-zero Differs m c d h e =
    let same = zero_same m c d h e in
    (λ other z. other (same.1 z), λ other z. other (same.0 z))

alone-times : (op : Op) (m : ℕ) (c d : ℤ) → 0 < m → Matches op m c d → alone op d ≡ alone op c
alone-times op m c d h both =
    let same = passes-zero op m c d h both in
    let of_d = Decides-passes op d (pos 0) in
    let of_c = Decides-passes op c (pos 0) in
    ap (λ (test : Bool). if test then True else False)
    (same_bool (passes op d (pos 0)) (passes op c (pos 0)) (λ yes. of_c.1 (same.0 (of_d.0 yes)))
    (λ yes. of_d.1 (same.1 (of_c.0 yes))))

-- ---- forms

primitive-times : (m : ℕ) (form : List FormTerm) (op : Op) (c d : ℤ) → 0 < m → All (λ t. t.coef ≢ pos 0) form
    → Matches op m c d → primitive (map (scaled m) form) op d ≡ primitive form op c
primitive-times m [] op c d h nonzero both = alone-times op m c d h both
primitive-times m (t ∷ ts) op c d h nonzero both =
    let form : List FormTerm = t ∷ ts in
    let positive = gcd-positive form (divisor form) (omega arith) nonzero (IsGcdOf-divisor form) in
    ap (λ g. reduced g (map (scaled m) form) op d) (divisor-scaled m form h)
    ∙ reduced-times m (divisor form) form op c d h positive both

primitive_of-times : (m : ℕ) (a b : PlainKeyAtom) → 0 < m → IsTimes m a b → All (λ t. t.coef ≢ pos 0) a.form
    → primitive_of b ≡ primitive_of a
primitive_of-times m a b h is nonzero =
    ap (λ f. primitive f b.op b.constant) is.form_is
    ∙ ap (λ o. primitive (map (scaled m) a.form) o b.constant) is.op_is
    ∙ primitive-times m a.form a.op a.constant b.constant h nonzero is.constant_is

-- the canonical form of the multiplied atom
pub canonical_form-times : (order : List ℕ) (m : ℕ) (atom : Atom) → 0 < m
    → canonical_form order (times m atom) ≡ canonical_form order atom
unfolding canonical_form
canonical_form-times order m atom h =
    primitive_of-times m (oriented (gathered order atom)) (oriented (gathered order (times m atom))) h
    (IsTimes-oriented order m atom h) (nonzero-oriented order atom)
