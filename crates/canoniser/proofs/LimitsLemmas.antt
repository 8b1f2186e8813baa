-- The limits of gathered, turned and divided atoms.
use Rattle.std.proofs.Common.{◌≡◌, ◌≢◌, ℕ, zero, suc, ◌+◌, ◌*◌, ◌^◌, ◌<◌, ◌≤◌, Bool, true, false, List, [], ◌∷◌, length}
use Rattle.std.proofs.Common.{get_or, take, map, ◌++◌, ℤ, pos, ◌<ℤ◌, ◌*ℤ◌, neg_ℤ, unsigned_abs, refl, arith, ap, sym}
use Rattle.std.proofs.Common.{◌∙◌, subst}
use Rattle.std.specs.Prelude.{if◌then◌else◌}
use Rattle.std.specs.Ordering.{int_eq}
use Rattle.std.specs.Int.{◌∣◌}
use Rattle.std.specs.List.{All, AllAdjacentBelow}
use Rattle.std.proofs.Math.Nat.{eq-zero_of_zero-dvd, mul-le-mul_right, one-dvd, mul-dvd-mul_left}
use Rattle.std.proofs.Math.Nat.{dvd_of_mul-dvd-mul_left}
use Rattle.std.proofs.lemmas.Nat.Gcd.{le_of_dvd}
use Rattle.std.proofs.lemmas.Int.{ints, by_lt_z, unsigned_abs-mul}
use Rattle.std.proofs.lemmas.List.{get_or-map, length-map, take_more, length-take}
use Rattle.std.proofs.lemmas.List.Elements.{All-map, All-nil, All-cons}
use Rattle.lin_model.specs.declared.atom.Atom.{Atom}
use Rattle.lin_model.specs.declared.form.FormTerm.{FormTerm}
use Rattle.lin_model.specs.declared.atom.Cmp.{Cmp}
use Rattle.lin_model.specs.declared.atom.Cmp.TheVariants.{Le, Lt, Ge, Gt, Eq, Ne}
use Rattle.lin_model.specs.declared.op.Op.{Op}
use Rattle.lin_model.specs.Conditions.{AtomFits}
use Rattle.lin_model.specs.Facts.{divisor_from_IsGcdOf}
use Rattle.lin_model.specs.Form.{IsGcdOf, DividesAll}
use Rattle.lin_model.specs.KeyAtom.{PlainKeyAtom, BeginsPositive, HasSmallCoefficients, IsCanonicalForm}
use Rattle.lin_model.specs.Quotients.{floor_div}
use Rattle.lin_model.specs.Integers.{scale_up}
use Rattle.canoniser.specs.Gathered.{coefficient, constant, loose}
use Rattle.canoniser.specs.Forms.{terms_from, gathered, begins_negative, turned, oriented, divided}
use Rattle.canoniser.specs.Limits.{IsGathered, IsOriented}
use Rattle.canoniser.proofs.GatheredLemmas.{factor_on-small, constants_of-small}
use Rattle.canoniser.proofs.Arithmetic.{abs-positive, floor_div-exact}

-- an atom by its parts
pub same_parts : (form : List FormTerm) (op : Op) (constant : ℤ) (a : PlainKeyAtom) → form ≡ a.form → op ≡ a.op
    → constant ≡ a.constant → record { form = form; op = op; constant = constant } ≡ a
same_parts form op constant a f o c = λ i. record { form = f i; op = o i; constant = c i }

pub IsGathered-same : (a b : PlainKeyAtom) → a ≡ b → IsGathered b → IsGathered a
IsGathered-same a b e gathered = subst IsGathered (sym e) gathered

-- ---- the terms of an atom over the variables of a list

chosen-append : (zero_too : Bool) (t : FormTerm) (xs ys : List FormTerm)
    → (if zero_too then xs ++ ys else t ∷ (xs ++ ys)) ≡ (if zero_too then xs else t ∷ xs) ++ ys
chosen-append true t xs ys = refl
chosen-append false t xs ys = refl

-- the term of the variable of number n, or none
abbrev pub term_of : ℕ → ℤ → List FormTerm
term_of n coef = if int_eq coef (pos 0) then [] else record { var = n; coef = coef } ∷ []

terms_from-push : (k n : ℕ) (vs : List ℕ) (v : ℕ) (atom : Atom) → n ≡ k + length vs
    → terms_from k (vs ++ v ∷ []) atom ≡ terms_from k vs atom ++ term_of n (coefficient atom v)
terms_from-push k n [] v atom e = ap (λ m. term_of m (coefficient atom v)) (omega arith)
terms_from-push k n (x ∷ vs) v atom e =
    let zero_too = int_eq (coefficient atom x) (pos 0) in
    let t : FormTerm = record { var = k; coef = coefficient atom x } in
    ap (λ (ts : List FormTerm). if zero_too then ts else t ∷ ts) (terms_from-push (suc k) n vs v atom (omega arith))
    ∙ chosen-append zero_too t (terms_from (suc k) vs atom) (term_of n (coefficient atom v))

-- the variables up to one more place
pub terms_from_more : (vs : List ℕ) (n : ℕ) (atom : Atom) (items new : List FormTerm) (coef : ℤ) → n < length vs
    → new ≡ items ++ term_of n coef → items ≡ terms_from 0 (take n vs) atom → coef ≡ coefficient atom (get_or vs n 0)
    → new ≡ terms_from 0 (take (n + 1) vs) atom
terms_from_more vs n atom items new coef within added before is =
    added
    ∙ ap (λ (ts : List FormTerm). ts ++ term_of n coef) before
    ∙ ap (λ (c : ℤ). terms_from 0 (take n vs) atom ++ term_of n c) is
    ∙ sym (ap (λ (xs : List ℕ). terms_from 0 xs atom) (take_more vs n 0 within)
    ∙ terms_from-push 0 n (take n vs) (get_or vs n 0) atom (omega (arith, length-take n vs)))

-- ---- the limits of a gathered atom

length-chosen : (zero_too : Bool) (t : FormTerm) (ts : List FormTerm) (n : ℕ) → length ts ≤ n
    → length (if zero_too then ts else t ∷ ts) ≤ suc n
length-chosen true t ts n h = omega arith
length-chosen false t ts n h = omega (arith, h)

length-terms_from : (k : ℕ) (vs : List ℕ) (atom : Atom) → length (terms_from k vs atom) ≤ length vs
length-terms_from k [] atom = omega arith
length-terms_from k (v ∷ vs) atom =
    length-chosen (int_eq (coefficient atom v) (pos 0)) (record { var = k; coef = coefficient atom v })
    (terms_from (suc k) vs atom) (length vs) (length-terms_from (suc k) vs atom)

-- what holds of each term that isn't left out holds of all
pub All-chosen : (P : FormTerm → Type 0) (zero_too : Bool) (t : FormTerm) (ts : List FormTerm)
    → (zero_too ≡ false → P t) → All P ts → All P (if zero_too then ts else t ∷ ts)
All-chosen P true t ts here all = all
All-chosen P false t ts here all = All-cons P t ts (here refl) all

differs : (x y : ℤ) → int_eq x y ≡ false → x ≢ y
differs x y e same = grind (arith, ints)

All-terms_from : (P : FormTerm → Type 0) (k : ℕ) (vs : List ℕ) (atom : Atom)
    → ((n v : ℕ) → k ≤ n → n < k + length vs → coefficient atom v ≢ pos 0
    → P (record { var = n; coef = coefficient atom v })) → All P (terms_from k vs atom)
All-terms_from P k [] atom each = All-nil P
All-terms_from P k (v ∷ vs) atom each =
    All-chosen P (int_eq (coefficient atom v) (pos 0)) (record { var = k; coef = coefficient atom v })
    (terms_from (suc k) vs atom)
    (λ kept. each k v (omega arith) (omega arith) (differs (coefficient atom v) (pos 0) kept))
    (All-terms_from P (suc k) vs atom (λ n w low high nonzero. each n w (omega arith) (omega arith) nonzero))

-- ascending variables
abbrev Ascend : List FormTerm → Type 0
Ascend form = AllAdjacentBelow (λ t u. t.var < u.var) form (length form)

Ascend-cons : (t : FormTerm) (ts : List FormTerm) → All (λ u. t.var < u.var) ts → Ascend ts → Ascend (t ∷ ts)
Ascend-cons t ts above rest zero d lt = above 0 d (omega arith)
Ascend-cons t ts above rest (suc k) d lt =
    let shift : suc k + 1 ≡ suc (k + 1) = omega arith in
    let next : get_or (t ∷ ts) (suc k + 1) d ≡ get_or ts (k + 1) d = ap (λ i. get_or (t ∷ ts) i d) shift in
    omega (arith, ap (λ (u : FormTerm). u.var) next, rest k d (omega arith))

Ascend-chosen : (zero_too : Bool) (t : FormTerm) (ts : List FormTerm) → All (λ u. t.var < u.var) ts → Ascend ts
    → Ascend (if zero_too then ts else t ∷ ts)
Ascend-chosen true t ts above rest = rest
Ascend-chosen false t ts above rest = Ascend-cons t ts above rest

Ascend-terms_from : (k : ℕ) (vs : List ℕ) (atom : Atom) → Ascend (terms_from k vs atom)
Ascend-terms_from k [] atom = λ i d lt. absurd (omega arith)
Ascend-terms_from k (v ∷ vs) atom =
    Ascend-chosen (int_eq (coefficient atom v) (pos 0)) (record { var = k; coef = coefficient atom v })
    (terms_from (suc k) vs atom)
    (All-terms_from (λ u. k < u.var) (suc k) vs atom (λ n w low high nonzero. omega arith))
    (Ascend-terms_from (suc k) vs atom)

-- the sizes
pub coefficient-small : (atom : Atom) (v : ℕ) → AtomFits atom → unsigned_abs (coefficient atom v) ≤ 2 ^ 38
coefficient-small atom v fits =
    omega (
      arith,
      ints,
      factor_on-small v atom.left fits.left_terms,
      factor_on-small v atom.right fits.right_terms,
      fits.left.few,
      fits.right.few,
    )

constant-small : (atom : Atom) → AtomFits atom → unsigned_abs (constant atom) ≤ 2 ^ 47
constant-small atom fits =
    omega (
      arith,
      ints,
      constants_of-small atom.left fits.left_terms,
      constants_of-small atom.right fits.right_terms,
      fits.left.few,
      fits.right.few,
    )

loose-small : (cmp : Cmp) (c : ℤ) → unsigned_abs c ≤ 2 ^ 47 → unsigned_abs (loose cmp c) < 2 ^ 49
loose-small Le c h = omega (arith, ints)
loose-small Lt c h = omega (arith, ints)
loose-small Ge c h = omega (arith, ints)
loose-small Gt c h = omega (arith, ints)
loose-small Eq c h = omega (arith, ints)
loose-small Ne c h = omega (arith, ints)

pub IsGathered-gathered : (order : List ℕ) (atom : Atom) → length order ≤ 64 → AtomFits atom
    → IsGathered (gathered order atom)
IsGathered-gathered order atom few fits = record {
  few_terms = omega (arith, length-terms_from 0 order atom, few);
  variables = record {
    ascend = Ascend-terms_from 0 order atom;
    in_range = All-terms_from (λ t. t.var < 64) 0 order atom (λ n v low high nonzero. omega arith);
  };
  coefficients = record {
    not_zero = All-terms_from (λ t. t.coef ≢ pos 0) 0 order atom (λ n v low high nonzero. nonzero);
    small =
        All-terms_from (λ t. unsigned_abs t.coef < 2 ^ 40) 0 order atom
        (λ n v low high nonzero. omega (arith, coefficient-small atom v fits));
  };
  constant = loose-small atom.cmp (constant atom) (constant-small atom fits);
}

-- ---- both sides times -1

-- a term with its coefficient negated
abbrev opposite : FormTerm → FormTerm
opposite t = record { var = t.var; coef = neg_ℤ t.coef }

mapped-ascend : (f : FormTerm → FormTerm) (form : List FormTerm) → ((t : FormTerm) → (f t).var ≡ t.var) → Ascend form
    → Ascend (map f form)
mapped-ascend f form same ascend k d lt =
    let within : k + 1 < length form = omega (arith, length-map form f) in
    let here = ap (λ (t : FormTerm). t.var) (get_or-map f form k d d (omega arith)) ∙ same (get_or form k d) in
    let next = ap (λ (t : FormTerm). t.var) (get_or-map f form (k + 1) d d within) ∙ same (get_or form (k + 1) d) in
    omega (arith, here, next, ascend k d within)

pub IsGathered-turned : (a : PlainKeyAtom) → IsGathered a → IsGathered (turned a)
IsGathered-turned a gathered = record {
  few_terms = omega (arith, length-map a.form opposite, gathered.few_terms);
  variables = record {
    ascend = mapped-ascend opposite a.form (λ t. refl) gathered.variables.ascend;
    in_range = All-map (λ t. t.var < 64) opposite a.form gathered.variables.in_range;
  };
  coefficients = record {
    not_zero =
        All-map (λ t. t.coef ≢ pos 0) opposite a.form
        (λ k d lt e. gathered.coefficients.not_zero k d lt (omega (arith, ints, e)));
    small =
        All-map (λ t. unsigned_abs t.coef < 2 ^ 40) opposite a.form
        (λ k d lt. omega (arith, ints, gathered.coefficients.small k d lt));
  };
  constant = omega (arith, ints, gathered.constant);
}

turned-positive : (form : List FormTerm) → begins_negative form ≡ true → BeginsPositive (map opposite form)
turned-positive [] e d lt = absurd (omega arith)
turned-positive (t ∷ ts) e d lt = grind (arith, ints)

kept-positive : (form : List FormTerm) → All (λ t. t.coef ≢ pos 0) form → begins_negative form ≡ false
    → BeginsPositive form
kept-positive [] nonzero e d lt = absurd (omega arith)
kept-positive (t ∷ ts) nonzero e d lt = let h = nonzero 0 d lt in grind (arith, ints)

oriented_by : (negative : Bool) (a : PlainKeyAtom) → begins_negative a.form ≡ negative → IsGathered a
    → IsOriented (if negative then turned a else a)
oriented_by true a e gathered = record {
  gathered = IsGathered-turned a gathered;
  begins_positive =
      turned-positive a.form e;
}
oriented_by false a e gathered = record {
  gathered = gathered;
  begins_positive =
      kept-positive a.form gathered.coefficients.not_zero e;
}

pub IsOriented-oriented : (a : PlainKeyAtom) → IsGathered a → IsOriented (oriented a)
IsOriented-oriented a gathered = oriented_by (begins_negative a.form) a refl gathered

nonzero_by : (negative : Bool) (a : PlainKeyAtom) → All (λ t. t.coef ≢ pos 0) a.form
    → All (λ t. t.coef ≢ pos 0) (if negative then turned a else a).form
nonzero_by true a nonzero =
    All-map (λ t. t.coef ≢ pos 0) opposite a.form (λ k d lt e. nonzero k d lt (omega (arith, ints, e)))
nonzero_by false a nonzero = nonzero

-- without limits on the atom
pub nonzero-oriented : (order : List ℕ) (atom : Atom) → All (λ t. t.coef ≢ pos 0) (oriented (gathered order atom)).form
nonzero-oriented order atom =
    nonzero_by (begins_negative (gathered order atom).form) (gathered order atom)
    (All-terms_from (λ t. t.coef ≢ pos 0) 0 order atom (λ n v low high nonzero. nonzero))

narrow_by : (negative : Bool) (n : ℕ) (a : PlainKeyAtom) → All (λ t. t.var < n) a.form
    → All (λ t. t.var < n) (if negative then turned a else a).form
narrow_by true n a narrow = All-map (λ t. t.var < n) opposite a.form narrow
narrow_by false n a narrow = narrow

pub narrow-oriented : (order : List ℕ) (atom : Atom)
    → All (λ t. t.var < length order) (oriented (gathered order atom)).form
narrow-oriented order atom =
    narrow_by (begins_negative (gathered order atom).form) (length order) (gathered order atom)
    (All-terms_from (λ t. t.var < length order) 0 order atom (λ n v low high nonzero. omega arith))

-- the greatest common divisor of small coefficients is positive and small
divisor-positive : (n g : ℕ) → 0 < n → g ∣ n → 0 < g
divisor-positive n zero h d = absurd (omega (arith, eq-zero_of_zero-dvd d))
divisor-positive n (suc g) h d = omega arith

pub gcd-positive : (form : List FormTerm) (g : ℕ) → 0 < length form → All (λ t. t.coef ≢ pos 0) form → IsGcdOf form g
    → 0 < g
gcd-positive form g some nonzero gcd =
    let d : FormTerm = record { var = 0; coef = pos 0 } in
    divisor-positive (unsigned_abs (get_or form 0 d).coef) g (abs-positive (get_or form 0 d).coef (nonzero 0 d some))
    (gcd.divides 0 d some)

pub divisor-limits : (form : List FormTerm) (g : ℕ) → 0 < length form → HasSmallCoefficients form → IsGcdOf form g
    → (0 < g) × (g < 2 ^ 40)
divisor-limits form g some coefficients gcd =
    let d : FormTerm = record { var = 0; coef = pos 0 } in
    let size = abs-positive (get_or form 0 d).coef (coefficients.not_zero 0 d some) in (
      gcd-positive form g some coefficients.not_zero gcd,
      omega (arith, le_of_dvd size (gcd.divides 0 d some), coefficients.small 0 d some),
    )

-- ---- a division

-- the quotient of a number that the divisor divides
quotient-not_zero : (z : ℤ) (g : ℕ) → 0 < g → g ∣ unsigned_abs z → z ≢ pos 0 → floor_div z g ≢ pos 0
quotient-not_zero z g h d not e =
    not (omega (arith, ints, floor_div-exact z g h d, ap (λ (q : ℤ). pos g *ℤ q) e))

quotient-size : (z : ℤ) (g : ℕ) → 0 < g → g ∣ unsigned_abs z → unsigned_abs z ≡ g * unsigned_abs (floor_div z g)
quotient-size z g h d = ap unsigned_abs (floor_div-exact z g h d) ∙ unsigned_abs-mul (pos g) (floor_div z g)

quotient-small : (z : ℤ) (g : ℕ) → 0 < g → g ∣ unsigned_abs z → unsigned_abs (floor_div z g) ≤ unsigned_abs z
quotient-small z g h d =
    omega (arith, quotient-size z g h d, mul-le-mul_right (unsigned_abs (floor_div z g)) h)

quotient-positive : (z : ℤ) (g : ℕ) → 0 < g → g ∣ unsigned_abs z → pos 0 <ℤ z → pos 0 <ℤ floor_div z g
quotient-positive z g h d positive =
    by_lt_z (pos 0) (floor_div z g) (λ lt. lt)
    (λ le. absurd (omega (arith, ints, floor_div-exact z g h d, scale_up g (floor_div z g) (pos 0) le)))

-- a term with its coefficient divided
abbrev part : ℕ → FormTerm → FormTerm
part g t = record { var = t.var; coef = floor_div t.coef g }

-- what holds of each divided term holds of each
from_parts : (P : FormTerm → Type 0) (g : ℕ) (form : List FormTerm) → All P (divided g form)
    → All (λ t. P (part g t)) form
from_parts P g form all k d lt =
    subst P (get_or-map (part g) form k d (part g d) lt) (all k (part g d) (omega (arith, length-map form (part g))))

divided-primitive : (g : ℕ) (form : List FormTerm) → 0 < g → IsGcdOf form g → IsGcdOf (divided g form) 1
divided-primitive g form h gcd = record {
  divides = λ k d lt. one-dvd (unsigned_abs (get_or (divided g form) k d).coef);
  greatest = λ e all.
      let each : DividesAll (g * e) form = λ k d lt.
      let whole = quotient-size (get_or form k d).coef g h (gcd.divides k d lt) in
      subst (λ n. g * e ∣ n) (sym whole)
      (mul-dvd-mul_left e g (from_parts (λ t. e ∣ unsigned_abs t.coef) g form all k d lt)) in
      dvd_of_mul-dvd-mul_left e h (subst (λ n. g * e ∣ n) (omega arith) (gcd.greatest (g * e) each));
}

-- the form becomes canonical
pub IsCanonicalForm-divided : (a : PlainKeyAtom) (g : ℕ) → 0 < length a.form → IsOriented a → IsGcdOf a.form g → 0 < g
    → IsCanonicalForm (divided g a.form)
IsCanonicalForm-divided a g some oriented gcd h =
    let gathered = oriented.gathered in
    let same = length-map a.form (part g) in record {
      has_terms = omega (arith, same);
      few_terms = omega (arith, same, gathered.few_terms);
      variables = record {
        ascend = mapped-ascend (part g) a.form (λ t. refl) gathered.variables.ascend;
        in_range = All-map (λ t. t.var < 64) (part g) a.form gathered.variables.in_range;
      };
      coefficients = record {
        not_zero = All-map (λ t. t.coef ≢ pos 0) (part g) a.form
            (λ k d lt. quotient-not_zero (get_or a.form k d).coef g h (gcd.divides k d lt)
            (gathered.coefficients.not_zero k d lt));
        small = All-map (λ t. unsigned_abs t.coef < 2 ^ 40) (part g) a.form
            (λ k d lt. omega (
              arith,
              quotient-small (get_or a.form k d).coef g h (gcd.divides k d lt),
              gathered.coefficients.small k d lt,
            ));
      };
      begins_positive = λ d lt. subst (λ t. pos 0 <ℤ t.coef) (sym (get_or-map (part g) a.form 0 d d some))
          (quotient-positive (get_or a.form 0 d).coef g h (gcd.divides 0 d some) (oriented.begins_positive d some));
      gcd_is_one = sym (divisor_from_IsGcdOf (divided g a.form) 1 (divided-primitive g a.form h gcd));
    }
