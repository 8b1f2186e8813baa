-- A key that bounds each of its variables on both sides has both sides of each.
use Rattle.std.proofs.Common.{◌≡◌, ◌⊎◌, ⊎_elim, ℕ, zero, suc, ◌<◌, ◌≤◌, ℤ, neg_ℤ, ◌≤ℤ◌, Bool, true, false, cond, Option}
use Rattle.std.proofs.Common.{Some, None, is_some, List, [], ◌∷◌, length, get_or, arith, refl, ap, sym, subst, ◌∙◌}
use Rattle.std.proofs.Common.{int_lt}
use Rattle.std.specs.Int.{int_min, int_max}
use Rattle.std.specs.List.{Any}
use Rattle.std.proofs.lemmas.Bool.{eq-eqb}
use Rattle.std.proofs.lemmas.List.FromFn.{get_or-map-range_with_len}
use Rattle.lin_model.specs.declared.form.FormTerm.{FormTerm}
use Rattle.lin_model.specs.declared.op.Op.{Op}
use Rattle.lin_model.specs.declared.op.Op.TheVariants.{Le, Ge, Eq}
use Rattle.lin_model.specs.KeyAtom.{PlainKeyAtom}
use Rattle.lin_model.specs.Key.{IsKey, key_width}
use Rattle.lin_model.specs.Facts.{key-narrow}
use Rattle.lin_model.specs.Bounded.{variable, GivesLower, GivesUpper, IsBounded}
use Rattle.refutation.specs.Bounds.{side_limit, lower_side, upper_side, lower_by, upper_by, is_variable, tighter_lower}
use Rattle.refutation.specs.Bounds.{tighter_upper, lower_from, upper_from, lower_bound, upper_bound, key_bounds}
use Rattle.refutation.specs.Bounds.{variables}
use Rattle.refutation.specs.Boxed.{IsBoxed}
use Rattle.refutation.proofs.Arithmetic.{int_lt-false}

-- ---- the side that one atom gives

has_value : (b : Bool) (n : ℤ) → b ≡ false → is_some (cond b None (Some n)) ≡ true
has_value true n h = absurd (cc)
has_value false n h = refl

lower_side-there : (c : ℤ) → neg_ℤ side_limit ≤ℤ c → is_some (lower_side c) ≡ true
lower_side-there c le =
    has_value (int_lt c (neg_ℤ side_limit)) (int_min c side_limit) (int_lt-false c (neg_ℤ side_limit) le)

upper_side-there : (c : ℤ) → c ≤ℤ side_limit → is_some (upper_side c) ≡ true
upper_side-there c le = has_value (int_lt side_limit c) (int_max c (neg_ℤ side_limit)) (int_lt-false side_limit c le)

lower_by-there : (op : Op) (c : ℤ) → (op ≡ Ge) ⊎ (op ≡ Eq) → neg_ℤ side_limit ≤ℤ c → is_some (lower_by op c) ≡ true
lower_by-there op c either le =
    ⊎_elim (λ ge. subst (λ (o : Op). is_some (lower_by o c) ≡ true) (sym ge) (lower_side-there c le))
    (λ eq. subst (λ (o : Op). is_some (lower_by o c) ≡ true) (sym eq) (lower_side-there c le)) either

upper_by-there : (op : Op) (c : ℤ) → (op ≡ Le) ⊎ (op ≡ Eq) → c ≤ℤ side_limit → is_some (upper_by op c) ≡ true
upper_by-there op c either le =
    ⊎_elim (λ at_most. subst (λ (o : Op). is_some (upper_by o c) ≡ true) (sym at_most) (upper_side-there c le))
    (λ eq. subst (λ (o : Op). is_some (upper_by o c) ≡ true) (sym eq) (upper_side-there c le)) either

is_this : (v : ℕ) → is_variable (variable v) v ≡ true
is_this v = ap (λ (b : Bool). cond b true false) (eq-eqb v v refl)

chosen : (b : Bool) (o : Option ℤ) → b ≡ true → is_some o ≡ true → is_some (cond b o None) ≡ true
chosen true o is h = h
chosen false o is h = absurd (cc)

lower_from-there : (v : ℕ) (a : PlainKeyAtom) → GivesLower v a → is_some (lower_from a v) ≡ true
lower_from-there v a h =
    chosen (is_variable a.form v) (lower_by a.op a.constant)
    (ap (λ (f : List FormTerm). is_variable f v) h.form ∙ is_this v) (lower_by-there a.op a.constant h.op h.constant)

upper_from-there : (v : ℕ) (a : PlainKeyAtom) → GivesUpper v a → is_some (upper_from a v) ≡ true
upper_from-there v a h =
    chosen (is_variable a.form v) (upper_by a.op a.constant)
    (ap (λ (f : List FormTerm). is_variable f v) h.form ∙ is_this v) (upper_by-there a.op a.constant h.op h.constant)

-- ---- the tightest of the sides

first_lower : (o q : Option ℤ) → is_some o ≡ true → is_some (tighter_lower o q) ≡ true
first_lower None q h = absurd (cc)
first_lower (Some x) None h = refl
first_lower (Some x) (Some y) h = refl

other_lower : (o q : Option ℤ) → is_some q ≡ true → is_some (tighter_lower o q) ≡ true
other_lower None q h = h
other_lower (Some x) None h = refl
other_lower (Some x) (Some y) h = refl

first_upper : (o q : Option ℤ) → is_some o ≡ true → is_some (tighter_upper o q) ≡ true
first_upper None q h = absurd (cc)
first_upper (Some x) None h = refl
first_upper (Some x) (Some y) h = refl

other_upper : (o q : Option ℤ) → is_some q ≡ true → is_some (tighter_upper o q) ≡ true
other_upper None q h = h
other_upper (Some x) None h = refl
other_upper (Some x) (Some y) h = refl

lower-by_one : (atoms : List PlainKeyAtom) (v k : ℕ) (a : PlainKeyAtom) → k < length atoms → get_or atoms k a ≡ a
    → is_some (lower_from a v) ≡ true → is_some (lower_bound atoms v) ≡ true
lower-by_one [] v k a lt is h = absurd (omega arith)
lower-by_one (b ∷ atoms) v zero a lt is h =
    first_lower (lower_from b v) (lower_bound atoms v)
    (subst (λ (x : PlainKeyAtom). is_some (lower_from x v) ≡ true) (sym is) h)
lower-by_one (b ∷ atoms) v (suc k) a lt is h =
    other_lower (lower_from b v) (lower_bound atoms v) (lower-by_one atoms v k a (omega arith) is h)

upper-by_one : (atoms : List PlainKeyAtom) (v k : ℕ) (a : PlainKeyAtom) → k < length atoms → get_or atoms k a ≡ a
    → is_some (upper_from a v) ≡ true → is_some (upper_bound atoms v) ≡ true
upper-by_one [] v k a lt is h = absurd (omega arith)
upper-by_one (b ∷ atoms) v zero a lt is h =
    first_upper (upper_from b v) (upper_bound atoms v)
    (subst (λ (x : PlainKeyAtom). is_some (upper_from x v) ≡ true) (sym is) h)
upper-by_one (b ∷ atoms) v (suc k) a lt is h =
    other_upper (upper_from b v) (upper_bound atoms v) (upper-by_one atoms v k a (omega arith) is h)

lower-there : (atoms : List PlainKeyAtom) (v : ℕ) → Any (GivesLower v) atoms → is_some (lower_bound atoms v) ≡ true
lower-there atoms v (k, a, lt, is, gives) = lower-by_one atoms v k a lt is (lower_from-there v a gives)

upper-there : (atoms : List PlainKeyAtom) (v : ℕ) → Any (GivesUpper v) atoms → is_some (upper_bound atoms v) ≡ true
upper-there atoms v (k, a, lt, is, gives) = upper-by_one atoms v k a lt is (upper_from-there v a gives)

-- ---- all of them

pub bounded-boxed : (key : List PlainKeyAtom) → IsKey key → IsBounded key → IsBoxed key
unfolding key_bounds variables
bounded-boxed key is_key bounded v lt =
    let narrow : key_width key ≤ 64 = key-narrow key is_key in
    record {
      lower = ap is_some (get_or-map-range_with_len (lower_bound key) 0 64 v v None (omega (arith, narrow))
          (omega arith)) ∙ lower-there key v (bounded.lower v lt);
      upper = ap is_some (get_or-map-range_with_len (upper_bound key) 0 64 v v None (omega (arith, narrow))
          (omega arith)) ∙ upper-there key v (bounded.upper v lt);
    }
