-- The canonical form of an atom holds where the atom holds.
use Rattle.std.proofs.Common.{◌≡◌, ◌≢◌, ℕ, ◌<◌, ◌*◌, ◌%◌, ◌↔◌, Bool, true, false, List, [], ◌∷◌, map, ℤ, pos, ◌+ℤ◌}
use Rattle.std.proofs.Common.{◌-ℤ◌, ◌*ℤ◌, neg_ℤ, ◌<ℤ◌, refl, arith, eqb-true, eq-eqb, ap, sym, subst, ◌∙◌}
use Rattle.std.specs.Prelude.{Contains, AllPairs, unsigned_abs, if◌then◌else◌}
use Rattle.std.specs.Int.{◌∣◌}
use Rattle.std.specs.List.{All}
use Rattle.std.proofs.lemmas.Nat.Gcd.{dvd_of_mod-eq-zero, mod-eq-zero_of_dvd}
use Rattle.std.proofs.Math.Nat.{dvd-mul_right}
use Rattle.std.proofs.lemmas.Int.{ints, by_lt_z, unsigned_abs-mul}
use Rattle.std.proofs.lemmas.List.Elements.{All-head, All-tail}
use Rattle.lin_model.specs.Terms.{value_at, value_of}
use Rattle.lin_model.specs.Truth.{Compares, AtomHolds}
use Rattle.lin_model.specs.Facts.{IsGcdOf-divisor, Decides-passes}
use Rattle.lin_model.specs.Form.{form_value, divisor, DividesAll}
use Rattle.lin_model.specs.Test.{passes, Passes}
use Rattle.lin_model.specs.KeyAtom.{PlainKeyAtom, KeyAtomHolds}
use Rattle.lin_model.specs.declared.atom.Atom.{Atom}
use Rattle.lin_model.specs.declared.atom.Cmp.{Cmp}
use Rattle.lin_model.specs.declared.atom.Cmp.TheVariants.{Le, Lt, Ge, Gt, Eq, Ne}
use Rattle.lin_model.specs.declared.form.FormTerm.{FormTerm}
use Rattle.lin_model.specs.declared.op.Op.{Op}
use Rattle.lin_model.specs.declared.op.Op.TheVariants.{Le as AtMost, Ge as AtLeast, Eq as Equals, Ne as Differs}
use Rattle.lin_model.specs.Quotients.{floor_div}
use Rattle.lin_model.specs.Integers.{distrib_left, times_assoc, scale_up}
use Rattle.slicer.specs.Names.{Names}
use Rattle.canoniser.specs.Gathered.{constant, op_of, loose}
use Rattle.canoniser.specs.declared.atom_form.AtomForm.{AtomForm}
use Rattle.canoniser.specs.declared.atom_form.AtomForm.TheVariants.{True, False, KeyAtom}
use Rattle.canoniser.specs.Forms.{terms_from, gathered, oriented, turned, turned_op, begins_negative, divides, divided}
use Rattle.canoniser.specs.Forms.{reduced, primitive, canonical_form}
use Rattle.canoniser.specs.Solutions.{point_of, IsFalse}
use Rattle.canoniser.proofs.Arithmetic.{neg_left, floor_div-exact, floor_div-above, ceil_div-below}
use Rattle.canoniser.proofs.LimitsLemmas.{gcd-positive, nonzero-oriented}
use Rattle.canoniser.proofs.SideLemmas.{gathered_value}

-- ---- both directions, one after another

pub and_then : {A B C : Type 0} → A ↔ B → B ↔ C → A ↔ C
and_then f g = (λ a. g.0 (f.0 a), λ c. f.1 (g.1 c))

-- ---- the gathered atom

compares_loosely : (cmp : Cmp) (l r c n : ℤ) → l -ℤ r ≡ n -ℤ c → Compares cmp l r ↔ Passes (op_of cmp) (loose cmp c) n
compares_loosely Le l r c n e = (λ h. omega (arith, ints), λ h. omega (arith, ints))
compares_loosely Lt l r c n e = (λ h. omega (arith, ints), λ h. omega (arith, ints))
compares_loosely Ge l r c n e = (λ h. omega (arith, ints), λ h. omega (arith, ints))
compares_loosely Gt l r c n e = (λ h. omega (arith, ints), λ h. omega (arith, ints))
compares_loosely Eq l r c n e = (λ h. omega (arith, ints), λ h. omega (arith, ints))
compares_loosely Ne l r c n e = (λ h same. h (omega (arith, ints)), λ h same. h (omega (arith, ints)))

-- the atom `form op constant` holds at the point
abbrev pub HoldsAt : PlainKeyAtom → List ℤ → Type 0
HoldsAt a point = Passes a.op a.constant (form_value a.form point)

gathered-holds : (order : List ℕ) (atom : Atom) (values : List ℤ) → AllPairs ◌≢◌ order
    → ((v : ℕ) → Names atom v → Contains order v)
    → AtomHolds atom values ↔ HoldsAt (gathered order atom) (point_of order values)
gathered-holds order atom values distinct named =
    compares_loosely atom.cmp (value_of atom.left values) (value_of atom.right values) (constant atom)
    (form_value (terms_from 0 order atom) (point_of order values)) (gathered_value order atom values distinct named)

-- ---- both sides times -1

pub turned-value : (form : List FormTerm) (point : List ℤ)
    → form_value (map (λ t. record { var = t.var; coef = neg_ℤ t.coef }) form) point ≡ neg_ℤ (form_value form point)
turned-value [] point = omega (arith, ints)
turned-value (t ∷ ts) point =
    omega (arith, ints, neg_left t.coef (value_at point t.var), turned-value ts point)

turned-passes : (op : Op) (c n m : ℤ) → m ≡ neg_ℤ n → Passes op c n ↔ Passes (turned_op op) (neg_ℤ c) m
turned-passes AtMost c n m e = (λ h. omega (arith, ints), λ h. omega (arith, ints))
turned-passes AtLeast c n m e = (λ h. omega (arith, ints), λ h. omega (arith, ints))
turned-passes Equals c n m e = (λ h. omega (arith, ints), λ h. omega (arith, ints))
turned-passes Differs c n m e = (λ h same. h (omega (arith, ints)), λ h same. h (omega (arith, ints)))

oriented_by : (negative : Bool) (a : PlainKeyAtom) (point : List ℤ)
    → HoldsAt a point ↔ HoldsAt (if negative then turned a else a) point
oriented_by true a point =
    turned-passes a.op a.constant (form_value a.form point) (form_value (turned a).form point)
    (turned-value a.form point)
oriented_by false a point = (λ h. h, λ h. h)

pub oriented-holds : (order : List ℕ) (atom : Atom) (values : List ℤ) → AllPairs ◌≢◌ order
    → ((v : ℕ) → Names atom v → Contains order v)
    → AtomHolds atom values ↔ HoldsAt (oriented (gathered order atom)) (point_of order values)
oriented-holds order atom values distinct named =
    and_then (gathered-holds order atom values distinct named)
    (oriented_by (begins_negative (gathered order atom).form) (gathered order atom) (point_of order values))

-- ---- both sides divided

pub divided-value : (g : ℕ) (form : List FormTerm) (point : List ℤ) → 0 < g → DividesAll g form
    → form_value form point ≡ pos g *ℤ form_value (divided g form) point
divided-value g [] point h all = omega (arith, ints)
divided-value g (t ∷ ts) point h all =
    let q = floor_div t.coef g in
    let x = value_at point t.var in
    let exact =
    ap (λ (n : ℤ). n *ℤ x) (floor_div-exact t.coef g h (All-head (λ u. g ∣ unsigned_abs u.coef) t ts all)) in
    let rest = divided-value g ts point h (All-tail (λ u. g ∣ unsigned_abs u.coef) t ts all) in
    omega (
      arith,
      ints,
      exact,
      times_assoc (pos g) q x,
      distrib_left (pos g) (q *ℤ x) (form_value (divided g ts) point),
      rest,
    )

-- a positive factor of both sides
pub times_same : (g : ℕ) (a b : ℤ) → 0 < g → pos g *ℤ a ≡ pos g *ℤ b → a ≡ b
times_same g a b h e =
    by_lt_z a b (λ less. absurd (above a b less e))
    (λ le. by_lt_z b a (λ less. absurd (above b a less (sym e))) (λ ge. omega (arith, ints)))
  where
    above : (x y : ℤ) → x <ℤ y → pos g *ℤ x ≡ pos g *ℤ y → ⊥
    above x y less same =
        omega (arith, ints, scale_up g (x +ℤ pos 1) y (omega (arith, ints)), distrib_left (pos g) x (pos 1))

-- the constant of what a division gives, so far as it is an atom
reduced-passes-equal : (g : ℕ) (c n m : ℤ) → 0 < g → g ∣ unsigned_abs c → n ≡ pos g *ℤ m → (n ≡ c) ↔ (m ≡ floor_div c g)
reduced-passes-equal g c n m h d value = (
  λ e. times_same g m (floor_div c g) h (sym value ∙ e ∙ floor_div-exact c g h d),
  λ e. value ∙ ap (λ (x : ℤ). pos g *ℤ x) e ∙ sym (floor_div-exact c g h d),
)

-- ---- what each form says of an atom `form op constant`

abbrev pub Means : List FormTerm → Op → ℤ → AtomForm → Type 0
Means form op c True = (point : List ℤ) → Passes op c (form_value form point)
Means form op c False = (point : List ℤ) → ¬ Passes op c (form_value form point)
Means form op c (KeyAtom a) = (point : List ℤ) → Passes op c (form_value form point) ↔ HoldsAt a point

alone_by : (test : Bool) (op : Op) (c : ℤ) → passes op c (pos 0) ≡ test → Means [] op c (if test then True else False)
alone_by true op c e = λ point. (Decides-passes op c (pos 0)).0 e
alone_by false op c e = λ point h. absurd (cc (e, (Decides-passes op c (pos 0)).1 h))

not_divided : (g : ℕ) (c n m : ℤ) → 0 < g → n ≡ pos g *ℤ m → n ≡ c → divides g c ≡ true
not_divided g c n m h value same =
    let size : unsigned_abs c ≡ g * unsigned_abs m = ap unsigned_abs (sym same ∙ value) ∙ unsigned_abs-mul (pos g) m in
    eq-eqb (unsigned_abs c % g) 0
    (mod-eq-zero_of_dvd g (subst (λ k. g ∣ k) (sym size) (dvd-mul_right g (unsigned_abs m))))

pub divisor_from_test : (g : ℕ) (c : ℤ) → divides g c ≡ true → g ∣ unsigned_abs c
divisor_from_test g c e = dvd_of_mod-eq-zero g (eqb-true (unsigned_abs c % g) 0 e)

equal_by : (test : Bool) (g : ℕ) (form : List FormTerm) (c : ℤ) → 0 < g → DividesAll g form → divides g c ≡ test
    → Means form Equals c
    (if test then KeyAtom (record { form = divided g form; op = Equals; constant = floor_div c g }) else False)
equal_by true g form c h all e = λ point.
    reduced-passes-equal g c (form_value form point) (form_value (divided g form) point) h (divisor_from_test g c e)
    (divided-value g form point h all)
equal_by false g form c h all e = λ point same.
    absurd
    (cc (
      e,
      not_divided g c (form_value form point) (form_value (divided g form) point) h
          (divided-value g form point h all) same,
    ))

differ_by : (test : Bool) (g : ℕ) (form : List FormTerm) (c : ℤ) → 0 < g → DividesAll g form → divides g c ≡ test
    → Means form Differs c
    (if test then KeyAtom (record { form = divided g form; op = Differs; constant = floor_div c g }) else True)
differ_by true g form c h all e = λ point.
    let same = reduced-passes-equal g c (form_value form point) (form_value (divided g form) point) h
    (divisor_from_test g c e) (divided-value g form point h all) in
    (λ other e. other (same.1 e), λ other e. other (same.0 e))
differ_by false g form c h all e = λ point same.
    absurd
    (cc (
      e,
      not_divided g c (form_value form point) (form_value (divided g form) point) h
          (divided-value g form point h all) same,
    ))

reduced-means : (g : ℕ) (form : List FormTerm) (op : Op) (c : ℤ) → 0 < g → DividesAll g form
    → Means form op c (reduced g form op c)
reduced-means g form AtMost c h all = λ point.
    let value = divided-value g form point h all in
    let both = floor_div-above (form_value (divided g form) point) c g h in
    (λ p. both.1 (omega (arith, ints, value)), λ p. omega (arith, ints, value, both.0 p))
reduced-means g form AtLeast c h all = λ point.
    let value = divided-value g form point h all in
    let both = ceil_div-below (form_value (divided g form) point) c g h in
    (λ p. both.1 (omega (arith, ints, value)), λ p. omega (arith, ints, value, both.0 p))
reduced-means g form Equals c h all = equal_by (divides g c) g form c h all refl
reduced-means g form Differs c h all = differ_by (divides g c) g form c h all refl

primitive-means : (form : List FormTerm) (op : Op) (c : ℤ) → All (λ t. t.coef ≢ pos 0) form
    → Means form op c (primitive form op c)
primitive-means [] op c nonzero = alone_by (passes op c (pos 0)) op c refl
primitive-means (t ∷ ts) op c nonzero =
    let g = divisor (t ∷ ts) in
    let is = IsGcdOf-divisor (t ∷ ts) in
    reduced-means g (t ∷ ts) op c (gcd-positive (t ∷ ts) g (omega arith) nonzero is) is.divides

-- ---- the canonical form

pub canonical_form-means : (order : List ℕ) (atom : Atom) (form : AtomForm) → canonical_form order atom ≡ form
    → Means (oriented (gathered order atom)).form (oriented (gathered order atom)).op
    (oriented (gathered order atom)).constant form
unfolding canonical_form
canonical_form-means order atom form is =
    let a = oriented (gathered order atom) in
    subst (Means a.form a.op a.constant) is (primitive-means a.form a.op a.constant (nonzero-oriented order atom))

-- an atom whose canonical form is a canonical atom
pub key_atom-holds : (order : List ℕ) (atom : Atom) (a : PlainKeyAtom) → AllPairs ◌≢◌ order
    → ((v : ℕ) → Names atom v → Contains order v) → canonical_form order atom ≡ KeyAtom a
    → (values : List ℤ) → AtomHolds atom values ↔ KeyAtomHolds a (point_of order values)
key_atom-holds order atom a distinct named is values =
    let point = point_of order values in
    let turn = Decides-passes a.op a.constant (form_value a.form point) in
    and_then (oriented-holds order atom values distinct named)
    (and_then (canonical_form-means order atom (KeyAtom a) is point) (turn.1, turn.0))

-- one whose canonical form is True
pub true-holds : (order : List ℕ) (atom : Atom) → AllPairs ◌≢◌ order → ((v : ℕ) → Names atom v → Contains order v)
    → canonical_form order atom ≡ True → (values : List ℤ) → AtomHolds atom values
true-holds order atom distinct named is values =
    (oriented-holds order atom values distinct named).1
    (canonical_form-means order atom True is (point_of order values))

-- one whose canonical form is False
pub false-is_false : (order : List ℕ) (atom : Atom) → AllPairs ◌≢◌ order → ((v : ℕ) → Names atom v → Contains order v)
    → canonical_form order atom ≡ False → IsFalse atom
false-is_false order atom distinct named is values holds =
    let point = point_of order values in
    canonical_form-means order atom False is point ((oriented-holds order atom values distinct named).0 holds)
