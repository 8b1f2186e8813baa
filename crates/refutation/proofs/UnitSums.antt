-- The sum of one multiple by 1 or -1 is a form, or its negative: its least value costs the form's own terms.
use Rattle.std.proofs.Common.{◌≡◌, ⊎_elim, ℕ, zero, suc, ◌+◌, ◌<◌, ◌≤◌, ℤ, pos, negsuc, neg_ℤ, ◌+ℤ◌, ◌-ℤ◌}
use Rattle.std.proofs.Common.{◌*ℤ◌, cond, eqb, int_lt, Bool, true, false, Option, Some, None, List, [], ◌∷◌, map, length}
use Rattle.std.proofs.Common.{unsigned_abs, get_or, refl, ap, sym, ◌∙◌, subst, arith}
use Rattle.std.specs.List.{All, AllAdjacentBelow, range_with_len}
use Rattle.std.specs.Option.{option_map, option_and_then, option_map_or}
use Rattle.std.proofs.lemmas.Bool.{cases_eq, cond-true, cond-false, eq-eqb, ne_eqb}
use Rattle.std.proofs.lemmas.Int.{ints}
use Rattle.std.proofs.lemmas.List.Elements.{All-head, All-tail}
use Rattle.lin_model.specs.declared.form.FormTerm.{FormTerm}
use Rattle.lin_model.specs.KeyAtom.{AscendsBelow64, PlainKeyAtom}
use Rattle.lin_model.specs.declared.op.Op.{Op}
use Rattle.lin_model.specs.declared.op.Op.TheVariants.{Le, Ge, Eq, Ne}
use Rattle.lin_model.specs.Lists.{chosen}
use Rattle.refutation.specs.declared.leaf.LeafTerm.{LeafTerm}
use Rattle.refutation.specs.Box.{PlainBox}
use Rattle.refutation.specs.Bounds.{PlainBounds, lower_of, upper_of, variables, add_known, scaled_side, least, greatest}
use Rattle.refutation.specs.Leaf.{Multiple, coefficient_of, summed_coefficient, summed_form}
use Rattle.refutation.specs.Leaf.{is_positive_sum, is_factor, is_positive_factor, weight, weighted, named, multiple_of}
use Rattle.refutation.specs.Leaf.{combo_closes}
use Rattle.refutation.proofs.LeafLemmas.{combo_closes-is}
use Rattle.refutation.proofs.OthersLemmas.{add_known-zero}

-- ---- ascending variables

-- the variables ascend, from a on
unfoldable pub AscendsFrom : ℕ → List FormTerm → Type 0
AscendsFrom a [] = Unit {0}
AscendsFrom a (t ∷ ts) = (a ≤ t.var) × AscendsFrom (suc t.var) ts

AscendsFrom-adjacent : (form : List FormTerm) (a : ℕ)
    → ((d : FormTerm) → 0 < length form → a ≤ (get_or form 0 d).var)
    → AllAdjacentBelow (λ t u. t.var < u.var) form (length form) → AscendsFrom a form
unfolding AscendsFrom
AscendsFrom-adjacent [] a first adjacent = tt
AscendsFrom-adjacent (t ∷ ts) a first adjacent = (
  first t (omega arith),
  AscendsFrom-adjacent ts (suc t.var) (λ d some. adjacent 0 d (omega arith)) (λ k d lt. later k d lt),
)
  where
    later : (k : ℕ) (d : FormTerm) → k + 1 < length ts → (get_or ts k d).var < (get_or ts (k + 1) d).var
    later k d lt =
        let shift : suc k + 1 ≡ suc (k + 1) = omega arith in
        let next = ap (λ (i : ℕ). (get_or (t ∷ ts) i d).var) shift in
        let step = adjacent (suc k) d (omega arith) in
        omega (arith, next, step)

-- a variable below all of them has no coefficient
pub below_all : (form : List FormTerm) (a v : ℕ) → AscendsFrom a form → v < a → coefficient_of form v ≡ pos 0
unfolding AscendsFrom
below_all [] a v ascends lt = refl
below_all (t ∷ ts) a v ascends lt =
    let missed = cond-false (eqb t.var v) t.coef (pos 0) (ne_eqb t.var v (λ e. omega (arith, e, ascends.0))) in
    let rest = below_all ts (suc t.var) v ascends.1 (omega (arith, ascends.0)) in
    omega (arith, ints, missed, rest)

-- ---- the least value over all variables is that of the form

abbrev over : (ℕ → ℤ) → List ℕ → List FormTerm
over f vs = map (λ v. record { var = v; coef = f v }) vs

least-over : (f : ℕ → ℤ) (form : List FormTerm) (b : PlainBounds) (a n : ℕ) → AscendsFrom a form
    → All (λ t. t.var < a + n) form → ((v : ℕ) → a ≤ v → f v ≡ coefficient_of form v)
    → least (over f (range_with_len a n)) b ≡ least form b
unfolding AscendsFrom least
least-over f [] b a zero ascends within same = refl
least-over f (t ∷ ts) b a zero ascends within same =
    absurd (omega (arith, ascends.0, All-head (λ u. u.var < a + 0) t ts within))
least-over f [] b a (suc n) ascends within same =
    ap (λ (k : ℤ). add_known (scaled_side k (lower_of b a) (upper_of b a)) (least (over f (range_with_len (a + 1) n)) b))
    (same a (omega arith)) ∙ add_known-zero (least (over f (range_with_len (a + 1) n)) b)
    ∙ least-over f [] b (a + 1) n tt (λ k d lt. absurd (omega (arith, lt))) (λ v le. same v (omega (arith, le)))
least-over f (t ∷ ts) b a (suc n) ascends within same =
    ⊎_elim (λ here. let head : f a ≡ t.coef = omega (
      arith,
      ints,
      same a (omega arith),
      cond-true (eqb t.var a) t.coef (pos 0) (eq-eqb t.var a (sym here)),
      below_all ts (suc t.var) a ascends.1 (omega (arith, here)),
    ) in
    let tail : (v : ℕ) → a + 1 ≤ v → f v ≡ coefficient_of ts v = λ v le. omega (
      arith,
      ints,
      same v (omega (arith, le)),
      cond-false (eqb t.var v) t.coef (pos 0) (ne_eqb t.var v (λ e. omega (arith, e, here, le))),
    ) in
    ap (λ (k : ℤ). add_known (scaled_side k (lower_of b a) (upper_of b a))
    (least (over f (range_with_len (a + 1) n)) b)) head
    ∙ ap (λ (v : ℕ). add_known (scaled_side t.coef (lower_of b v) (upper_of b v))
    (least (over f (range_with_len (a + 1) n)) b)) here
    ∙ ap (add_known (scaled_side t.coef (lower_of b t.var) (upper_of b t.var)))
    (least-over f ts b (a + 1) n (subst (λ (k : ℕ). AscendsFrom k ts) (omega (arith, here)) ascends.1)
    (λ k d lt. omega (arith, All-tail (λ u. u.var < a + suc n) t ts within k d lt)) tail))
    (λ other. let zero_here : f a ≡ pos 0 = same a (omega arith)
    ∙ below_all (t ∷ ts) t.var a (omega arith, ascends.1) (omega (arith, ascends.0, other)) in
    ap (λ (k : ℤ). add_known (scaled_side k (lower_of b a) (upper_of b a))
    (least (over f (range_with_len (a + 1) n)) b)) zero_here
    ∙ add_known-zero (least (over f (range_with_len (a + 1) n)) b)
    ∙ least-over f (t ∷ ts) b (a + 1) n (omega (arith, ascends.0, other), ascends.1)
    (λ k d lt. omega (arith, within k d lt)) (λ v le. same v (omega (arith, le)))) (cases_eq a t.var)

-- ---- the negative of a form

abbrev negated : List FormTerm → List FormTerm
negated form = map (λ t. record { var = t.var; coef = neg_ℤ t.coef }) form

negated-coefficient : (form : List FormTerm) (v : ℕ) → coefficient_of (negated form) v ≡ neg_ℤ (coefficient_of form v)
negated-coefficient [] v = refl
negated-coefficient (t ∷ ts) v =
    let first = cond_neg (eqb t.var v) t.coef in omega (arith, ints, first, negated-coefficient ts v)
  where
    cond_neg : (b : Bool) (k : ℤ) → cond b (neg_ℤ k) (pos 0) ≡ neg_ℤ (cond b k (pos 0))
    cond_neg true k = refl
    cond_neg false k = refl

negated-ascends : (form : List FormTerm) (a : ℕ) → AscendsFrom a form → AscendsFrom a (negated form)
unfolding AscendsFrom
negated-ascends [] a ascends = tt
negated-ascends (t ∷ ts) a ascends = (ascends.0, negated-ascends ts (suc t.var) ascends.1)

negated-within : (form : List FormTerm) (n : ℕ) → All (λ t. t.var < n) form → All (λ t. t.var < n) (negated form)
negated-within [] n within k d lt = absurd (omega (arith, lt))
negated-within (t ∷ ts) n within zero d lt = All-head (λ u. u.var < n) t ts within
negated-within (t ∷ ts) n within (suc k) d lt =
    negated-within ts n (All-tail (λ u. u.var < n) t ts within) k d (omega (arith, lt))

scaled-negated : (k : ℤ) (s t : Option ℤ) → scaled_side (neg_ℤ k) s t ≡ option_map neg_ℤ (scaled_side k t s)
scaled-negated (pos zero) s t = refl
scaled-negated (pos (suc n)) s None = refl
scaled-negated (pos (suc n)) s (Some x) =
    let same : negsuc n *ℤ x ≡ neg_ℤ (pos (suc n) *ℤ x) = omega (arith, ints) in ap Some same
scaled-negated (negsuc n) None t = refl
scaled-negated (negsuc n) (Some x) t =
    let same : pos (suc n) *ℤ x ≡ neg_ℤ (negsuc n *ℤ x) = omega (arith, ints) in ap Some same

added-negated : (o q : Option ℤ) → add_known (option_map neg_ℤ o) (option_map neg_ℤ q) ≡ option_map neg_ℤ (add_known o q)
added-negated None q = refl
added-negated (Some m) None = refl
added-negated (Some m) (Some n) =
    let same : neg_ℤ m +ℤ neg_ℤ n ≡ neg_ℤ (m +ℤ n) = omega (arith, ints) in ap Some same

least-negated : (form : List FormTerm) (b : PlainBounds) → least (negated form) b ≡ option_map neg_ℤ (greatest form b)
unfolding least greatest
least-negated [] b = refl
least-negated (t ∷ ts) b =
    ap (λ (o : Option ℤ). add_known o (least (negated ts) b)) (scaled-negated t.coef (lower_of b t.var) (upper_of b t.var))
    ∙ ap (add_known (option_map neg_ℤ (scaled_side t.coef (upper_of b t.var) (lower_of b t.var)))) (least-negated ts b)
    ∙ added-negated (scaled_side t.coef (upper_of b t.var) (lower_of b t.var)) (greatest ts b)

-- ---- one multiple

pub ascends-from_zero : (form : List FormTerm) → AscendsBelow64 form → AscendsFrom 0 form
ascends-from_zero form is = AscendsFrom-adjacent form 0 (λ d some. omega arith) is.ascend

tested-above : (o : Option ℤ) (c w : ℤ) → w ≡ pos 1
    → option_map_or (λ n. int_lt (pos 0) (n -ℤ ((w *ℤ c) +ℤ pos 0))) o false
    ≡ option_map_or (λ n. int_lt c n) o false
tested-above None c w is = refl
tested-above (Some n) c w is =
    let same : (w *ℤ c) +ℤ pos 0 ≡ c = omega (arith, ints, ap (λ (x : ℤ). x *ℤ c) is) in
    ap (λ (x : ℤ). int_lt (pos 0) (n -ℤ x)) same ∙ shifted n c
  where
    shifted : (n c : ℤ) → int_lt (pos 0) (n -ℤ c) ≡ int_lt c n
    shifted n c = grind (arith, ints)

tested-below : (o : Option ℤ) (c w : ℤ) → w ≡ negsuc 0
    → option_map_or (λ n. int_lt (pos 0) (n -ℤ ((w *ℤ c) +ℤ pos 0))) (option_map neg_ℤ o) false
    ≡ option_map_or (λ n. int_lt n c) o false
tested-below None c w is = refl
tested-below (Some n) c w is =
    let same : (w *ℤ c) +ℤ pos 0 ≡ neg_ℤ c = omega (arith, ints, ap (λ (x : ℤ). x *ℤ c) is) in
    ap (λ (x : ℤ). int_lt (pos 0) (neg_ℤ n -ℤ x)) same ∙ shifted n c
  where
    shifted : (n c : ℤ) → int_lt (pos 0) (neg_ℤ n -ℤ neg_ℤ c) ≡ int_lt n c
    shifted n c = grind (arith, ints)

-- the multiple by 1 is positive where the form's least value is above the constant
pub positive_unit : (b : PlainBounds) (m : Multiple) → AscendsBelow64 m.form → m.weight ≡ pos 1
    → is_positive_sum b (m ∷ []) ≡ option_map_or (λ n. int_lt m.constant n) (least m.form b) false
unfolding is_positive_sum summed_form variables
positive_unit b m ascends is =
    ap (λ (o : Option ℤ). option_map_or (λ n. int_lt (pos 0) (n -ℤ ((m.weight *ℤ m.constant) +ℤ pos 0))) o false)
    (least-over (summed_coefficient (m ∷ [])) m.form b 0 64 (ascends-from_zero m.form ascends) ascends.in_range
    (λ v le. omega (arith, ints, ap (λ (x : ℤ). x *ℤ coefficient_of m.form v) is)))
    ∙ tested-above (least m.form b) m.constant m.weight is

-- that by -1 where its greatest value is below
pub negative_unit : (b : PlainBounds) (m : Multiple) → AscendsBelow64 m.form → m.weight ≡ negsuc 0
    → is_positive_sum b (m ∷ []) ≡ option_map_or (λ n. int_lt n m.constant) (greatest m.form b) false
unfolding is_positive_sum summed_form variables
negative_unit b m ascends is =
    ap (λ (o : Option ℤ). option_map_or (λ n. int_lt (pos 0) (n -ℤ ((m.weight *ℤ m.constant) +ℤ pos 0))) o false)
    (least-over (summed_coefficient (m ∷ [])) (negated m.form) b 0 64
    (negated-ascends m.form 0 (ascends-from_zero m.form ascends)) (negated-within m.form 64 ascends.in_range)
    (λ v le. omega
    (arith, ints, ap (λ (x : ℤ). x *ℤ coefficient_of m.form v) is, negated-coefficient m.form v))
    ∙ least-negated m.form b) ∙ tested-below (greatest m.form b) m.constant m.weight is

-- ---- a term with the factor 1 or -1

unit_weight : (op : Op) (f w : ℤ) → weight op f ≡ Some w → unsigned_abs f ≡ 1 → unsigned_abs w ≡ 1
unit_weight Le f w is unit = let same = (chosen (is_positive_factor f) f w is).1 in omega (arith, ints, same, unit)
unit_weight Ge f w is unit =
    let same = (chosen (is_positive_factor f) (neg_ℤ f) w is).1 in omega (arith, ints, same, unit)
unit_weight Eq f w is unit = let same = (chosen (is_factor f) f w is).1 in omega (arith, ints, same, unit)
unit_weight Ne f w is unit = absurd (cc)

abbrev is_positive_one : PlainBounds → PlainKeyAtom → ℤ → Bool
is_positive_one b a f = option_map_or (λ m. is_positive_sum b (m ∷ [])) (weighted a f) false

weighed : (b : PlainBounds) (a : PlainKeyAtom) (f w : ℤ) → weight a.op f ≡ Some w
    → is_positive_one b a f ≡ is_positive_sum b (record { form = a.form; constant = a.constant; weight = w } ∷ [])
weighed b a f w is =
    ap (λ (o : Option ℤ). option_map_or (λ (m : Multiple). is_positive_sum b (m ∷ []))
    (option_map (λ v. let m : Multiple = record { form = a.form; constant = a.constant; weight = v } in m) o) false) is

pub above_unit : (b : PlainBounds) (a : PlainKeyAtom) (f w : ℤ) → AscendsBelow64 a.form → weight a.op f ≡ Some w
    → unsigned_abs f ≡ 1 → int_lt (pos 0) w ≡ true
    → is_positive_one b a f ≡ option_map_or (λ n. int_lt a.constant n) (least a.form b) false
above_unit b a f w ascends is unit above =
    weighed b a f w is ∙ positive_unit b (record { form = a.form; constant = a.constant; weight = w }) ascends
    (omega (arith, ints, unit_weight a.op f w is unit, above))

pub below_unit : (b : PlainBounds) (a : PlainKeyAtom) (f w : ℤ) → AscendsBelow64 a.form → weight a.op f ≡ Some w
    → unsigned_abs f ≡ 1 → int_lt (pos 0) w ≡ false
    → is_positive_one b a f ≡ option_map_or (λ n. int_lt n a.constant) (greatest a.form b) false
below_unit b a f w ascends is unit below =
    weighed b a f w is ∙ negative_unit b (record { form = a.form; constant = a.constant; weight = w }) ascends
    (omega (arith, ints, unit_weight a.op f w is unit, below))

one_listed : (b : PlainBounds) (o : Option Multiple)
    → option_map_or (is_positive_sum b) (option_and_then (λ m. option_map (λ ms. m ∷ ms) (Some [])) o) false
    ≡ option_map_or (λ m. is_positive_sum b (m ∷ [])) o false
one_listed b None = refl
one_listed b (Some m) = refl

-- a term alone closes a box where its multiple is positive
pub alone : (key : List PlainKeyAtom) (box : PlainBox) (term : LeafTerm) (o : Option PlainKeyAtom)
    → named key box.sides term.on ≡ o
    → combo_closes key box (term ∷ [])
    ≡ option_map_or (λ m. is_positive_sum box.bounds (m ∷ [])) (option_and_then (λ a. weighted a term.factor) o) false
alone key box term o is =
    combo_closes-is key box (term ∷ []) (omega arith) (omega arith)
    ∙ one_listed box.bounds (multiple_of key box.sides term)
    ∙ ap (λ (p : Option PlainKeyAtom). option_map_or (λ m. is_positive_sum box.bounds (m ∷ []))
    (option_and_then (λ a. weighted a term.factor) p) false) is
