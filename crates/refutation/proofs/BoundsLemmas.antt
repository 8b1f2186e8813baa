-- Bounds, side by side.
use Rattle.std.proofs.Common.{◌≡◌, ℕ, zero, suc, ◌+◌, ◌<◌, ◌≤◌, ℤ, pos, ◌+ℤ◌, false, cond, eqb, Option, Some, None}
use Rattle.std.proofs.Common.{List, [], ◌∷◌, length, get_or, set, drop, replicate, ⊎_elim, refl, ap, sym, ◌∙◌, subst}
use Rattle.std.proofs.Common.{arith}
use Rattle.std.specs.Int.{int_max, int_min}
use Rattle.std.proofs.lemmas.List.Folds.{list_any_none}
use Rattle.std.proofs.lemmas.Bool.{cases_lt, cases_eq, cond-true, cond-false, eq-eqb, ne_eqb}
use Rattle.std.proofs.lemmas.Int.{ints, clamps}
use Rattle.std.proofs.lemmas.List.{get_or-set_same, get_or-set_other, length-replicate, drop_more}
use Rattle.std.proofs.Math.ListN.{drop_of_length-le}
use Rattle.std.proofs.lemmas.List.Elements.{All-same, All-replicate}
use Rattle.std.proofs.lemmas.List.FromFn.{fill_by_all}
use Rattle.lin_model.specs.declared.form.FormTerm.{FormTerm}
use Rattle.lin_model.specs.KeyAtom.{PlainKeyAtom, AscendsBelow64}
use Rattle.refutation.specs.Bounds.{PlainBounds, lower_of, upper_of, variables, tighter_lower, tighter_upper}
use Rattle.refutation.specs.Bounds.{lower_from, upper_from, lower_bound, upper_bound, key_bounds, with_lower}
use Rattle.refutation.specs.Bounds.{with_upper, crosses, is_empty, AreBounds, IsSide, add_known, scaled_side, least}
use Rattle.refutation.specs.Bounds.{greatest}
use Rattle.refutation.specs.Facts.{variable-at, variables-length}

-- ---- emptiness

pub is_empty-false : (b : PlainBounds) → ((v : ℕ) → v < 64 → crosses (lower_of b v) (upper_of b v) ≡ false)
    → is_empty b ≡ false
unfolding is_empty
is_empty-false b h =
    list_any_none (λ w. crosses (lower_of b w) (upper_of b w)) variables
    (λ v d lt. let within : v < 64 = omega (arith, variables-length) in
    subst (λ w. crosses (lower_of b w) (upper_of b w) ≡ false) (sym (variable-at v d within)) (h v within))

-- ---- one side tightened

tighter_lower-none : (o : Option ℤ) → tighter_lower o None ≡ o
tighter_lower-none None = refl
tighter_lower-none (Some x) = refl

tighter_upper-none : (o : Option ℤ) → tighter_upper o None ≡ o
tighter_upper-none None = refl
tighter_upper-none (Some x) = refl

tighter_lower-tighter_lower : (o p q : Option ℤ) → tighter_lower (tighter_lower o p) q
    ≡ tighter_lower o (tighter_lower p q)
tighter_lower-tighter_lower None p q = refl
tighter_lower-tighter_lower (Some x) None q = refl
tighter_lower-tighter_lower (Some x) (Some y) None = refl
tighter_lower-tighter_lower (Some x) (Some y) (Some z) =
    let same : int_max (int_max x y) z ≡ int_max x (int_max y z) = omega (arith, ints, clamps) in ap Some same

tighter_upper-tighter_upper : (o p q : Option ℤ) → tighter_upper (tighter_upper o p) q
    ≡ tighter_upper o (tighter_upper p q)
tighter_upper-tighter_upper None p q = refl
tighter_upper-tighter_upper (Some x) None q = refl
tighter_upper-tighter_upper (Some x) (Some y) None = refl
tighter_upper-tighter_upper (Some x) (Some y) (Some z) =
    let same : int_min (int_min x y) z ≡ int_min x (int_min y z) = omega (arith, ints, clamps) in ap Some same

-- a list in which the place w was tightened, read at v
tightened_at : (f : Option ℤ → Option ℤ → Option ℤ) (none : (o : Option ℤ) → f o None ≡ o) (xs : List (Option ℤ))
    (w v : ℕ) (side : Option ℤ) → w < length xs → get_or (set xs w (f (get_or xs w None) side)) v None
    ≡ f (get_or xs v None) (cond (eqb w v) side None)
tightened_at f none xs w v side lt =
    ⊎_elim (λ same. subst (λ u. get_or (set xs w (f (get_or xs w None) side)) u None
    ≡ f (get_or xs u None) (cond (eqb w u) side None)) same
    (get_or-set_same xs w (f (get_or xs w None) side) None lt
    ∙ ap (λ (o : Option ℤ). f (get_or xs w None) o) (sym (cond-true (eqb w w) side None (eq-eqb w w refl)))))
    (λ other. get_or-set_other xs w v (f (get_or xs w None) side) None (λ e. other (sym e))
    ∙ sym (ap (λ (o : Option ℤ). f (get_or xs v None) o) (cond-false (eqb w v) side None (ne_eqb w v other))
    ∙ none (get_or xs v None))) (cases_eq w v)

pub with_lower-at : (b : PlainBounds) (w v : ℕ) (n : ℤ) → w < length b.lower
    → lower_of (with_lower b w n) v ≡ tighter_lower (lower_of b v) (cond (eqb w v) (Some n) None)
with_lower-at b w v n lt = tightened_at tighter_lower tighter_lower-none b.lower w v (Some n) lt

pub with_upper-at : (b : PlainBounds) (w v : ℕ) (n : ℤ) → w < length b.upper
    → upper_of (with_upper b w n) v ≡ tighter_upper (upper_of b v) (cond (eqb w v) (Some n) None)
with_upper-at b w v n lt = tightened_at tighter_upper tighter_upper-none b.upper w v (Some n) lt

-- ---- atoms, one after another

-- the sides so far, tightened by those of the atoms left, are the sides of the whole
pub record LeadTo (b : PlainBounds) (left whole : List PlainKeyAtom) : Type 0 where
  pub lower : (v : ℕ) → v < 64 → tighter_lower (lower_of b v) (lower_bound left v) ≡ lower_bound whole v
  pub upper : (v : ℕ) → v < 64 → tighter_upper (upper_of b v) (upper_bound left v) ≡ upper_bound whole v

-- no side so far
pub lead-start : (b : PlainBounds) (left whole : List PlainKeyAtom) → left ≡ whole → ((v : ℕ) → lower_of b v ≡ None)
    → ((v : ℕ) → upper_of b v ≡ None) → LeadTo b left whole
lead-start b left whole all no_lower no_upper = record {
  lower = λ v lt. ap (λ (o : Option ℤ). tighter_lower o (lower_bound left v)) (no_lower v)
      ∙ ap (λ (xs : List PlainKeyAtom). lower_bound xs v) all;
  upper = λ v lt. ap (λ (o : Option ℤ). tighter_upper o (upper_bound left v)) (no_upper v)
      ∙ ap (λ (xs : List PlainKeyAtom). upper_bound xs v) all;
}

-- the first of the atoms left has tightened the sides
pub lead-on : (b b' : PlainBounds) (a : PlainKeyAtom) (left left' whole : List PlainKeyAtom) → left ≡ a ∷ left'
    → ((v : ℕ) → v < 64 → lower_of b' v ≡ tighter_lower (lower_of b v) (lower_from a v))
    → ((v : ℕ) → v < 64 → upper_of b' v ≡ tighter_upper (upper_of b v) (upper_from a v))
    → LeadTo b left whole → LeadTo b' left' whole
lead-on b b' a left left' whole first low high h = record {
  lower = λ v lt. ap (λ (o : Option ℤ). tighter_lower o (lower_bound left' v)) (low v lt)
      ∙ tighter_lower-tighter_lower (lower_of b v) (lower_from a v) (lower_bound left' v)
      ∙ ap (λ (xs : List PlainKeyAtom). tighter_lower (lower_of b v) (lower_bound xs v)) (sym first) ∙ h.lower v lt;
  upper = λ v lt. ap (λ (o : Option ℤ). tighter_upper o (upper_bound left' v)) (high v lt)
      ∙ tighter_upper-tighter_upper (upper_of b v) (upper_from a v) (upper_bound left' v)
      ∙ ap (λ (xs : List PlainKeyAtom). tighter_upper (upper_of b v) (upper_bound xs v)) (sym first) ∙ h.upper v lt;
}

-- no atom is left
pub lead-end : (b : PlainBounds) (left whole : List PlainKeyAtom) → left ≡ [] → AreBounds b → LeadTo b left whole
    → b ≡ key_bounds whole
unfolding key_bounds variables
lead-end b left whole none limits h =
    let low : (v : ℕ) → v < 64 → lower_of b v ≡ lower_bound whole v = λ v lt.
    sym (tighter_lower-none (lower_of b v))
    ∙ ap (λ (xs : List PlainKeyAtom). tighter_lower (lower_of b v) (lower_bound xs v)) (sym none) ∙ h.lower v lt in
    let high : (v : ℕ) → v < 64 → upper_of b v ≡ upper_bound whole v = λ v lt.
    sym (tighter_upper-none (upper_of b v))
    ∙ ap (λ (xs : List PlainKeyAtom). tighter_upper (upper_of b v) (upper_bound xs v)) (sym none) ∙ h.upper v lt in
    λ i. record {
      lower = fill_by_all (lower_bound whole) b.lower 64 None limits.lower_len low i;
      upper = fill_by_all (upper_bound whole) b.upper 64 None limits.upper_len high i;
    }

-- ---- values of forms

-- variables that ascend are at most as many as their range
ascend_above : (form : List FormTerm) (k : ℕ) (d : FormTerm) → AscendsBelow64 form → k < length form
    → k ≤ (get_or form k d).var
ascend_above form zero d h lt = omega arith
ascend_above form (suc k) d h lt =
    let before : k ≤ (get_or form k d).var = ascend_above form k d h (omega arith) in
    let next : (get_or form k d).var < (get_or form (k + 1) d).var = h.ascend k d (omega arith) in
    let same : (get_or form (k + 1) d).var ≡ (get_or form (suc k) d).var = ap (λ (n : ℕ). (get_or form n d).var)
    (omega arith) in
    omega arith

pub AscendsBelow64-few : (form : List FormTerm) → AscendsBelow64 form → length form ≤ 64
AscendsBelow64-few form h =
    ⊎_elim
    (λ lt. absurd
    (omega (
      arith,
      ascend_above form 64 (record { var = 0; coef = pos 0 }) h lt,
      h.in_range 64
          (record { var = 0; coef = pos 0 }) lt,
    ))) (λ le. le) (cases_lt 64 (length form))

-- the greatest value is the least with the sides exchanged
pub greatest-swapped : (form : List FormTerm) (lo hi : List (Option ℤ))
    → least form (record { lower = hi; upper = lo }) ≡ greatest form (record { lower = lo; upper = hi })
unfolding least greatest
greatest-swapped [] lo hi = refl
greatest-swapped (t ∷ ts) lo hi =
    ap (add_known (scaled_side t.coef (get_or hi t.var None) (get_or lo t.var None))) (greatest-swapped ts lo hi)

pub add_known-add_known : (x y : ℤ) (o : Option ℤ)
    → add_known (Some (x +ℤ y)) o ≡ add_known (Some x) (add_known (Some y) o)
add_known-add_known x y None = refl
add_known-add_known x y (Some z) = let same : (x +ℤ y) +ℤ z ≡ x +ℤ (y +ℤ z) = omega (arith, ints) in ap Some same

add_known-none : (o : Option ℤ) → add_known o None ≡ None
add_known-none None = refl
add_known-none (Some x) = refl

-- the least value of the rest, one term on
pub least-rest : (form : List FormTerm) (b : PlainBounds) (i : ℕ) (d : FormTerm) → i < length form
    → least (drop i form) b ≡ add_known
    (scaled_side (get_or form i d).coef (lower_of b (get_or form i d).var) (upper_of b (get_or form i d).var))
    (least (drop (i + 1) form) b)
unfolding least
least-rest form b i d lt = ap (λ (xs : List FormTerm). least xs b) (drop_more form i d lt)

-- a loop's step: one more value is known, or a side is missing
pub least_step : (form : List FormTerm) (b : PlainBounds) (i : ℕ) (d : FormTerm) (sum value total : ℤ)
    (side whole : Option ℤ) → i < length form
    → side ≡ scaled_side (get_or form i d).coef (lower_of b (get_or form i d).var) (upper_of b (get_or form i d).var)
    → side ≡ Some value → total ≡ sum +ℤ value → add_known (Some sum) (least (drop i form) b) ≡ whole
    → add_known (Some total) (least (drop (i + 1) form) b) ≡ whole
least_step form b i d sum value total side whole lt is known added h =
    ap (λ (x : ℤ). add_known (Some x) (least (drop (i + 1) form) b)) added
    ∙ add_known-add_known sum value (least (drop (i + 1) form) b)
    ∙ ap (λ (o : Option ℤ). add_known (Some sum) (add_known o (least (drop (i + 1) form) b))) (sym known ∙ is)
    ∙ ap (add_known (Some sum)) (sym (least-rest form b i d lt)) ∙ h

pub least_missing : (form : List FormTerm) (b : PlainBounds) (i : ℕ) (d : FormTerm) (sum : ℤ) (side whole : Option ℤ)
    → i < length form → side ≡ scaled_side (get_or form i d).coef (lower_of b (get_or form i d).var)
    (upper_of b (get_or form i d).var) → side ≡ None → add_known (Some sum) (least (drop i form) b) ≡ whole
    → whole ≡ None
least_missing form b i d sum side whole lt is missing h =
    sym h ∙ ap (add_known (Some sum)) (least-rest form b i d lt
    ∙ ap (λ (o : Option ℤ). add_known o (least (drop (i + 1) form) b)) (sym is ∙ missing))

pub least_end : (form : List FormTerm) (b : PlainBounds) (i : ℕ) (sum : ℤ) (whole : Option ℤ) → length form ≤ i
    → add_known (Some sum) (least (drop i form) b) ≡ whole → Some sum ≡ whole
unfolding least
least_end form b i sum whole le h =
    let same : sum ≡ sum +ℤ pos 0 = omega (arith, ints) in
    ap Some same ∙ ap (λ (xs : List FormTerm). add_known (Some sum) (least xs b)) (sym (drop_of_length-le form le)) ∙ h

-- ---- bounds without any side

-- one value everywhere, also behind the end
pub get_or-same : {X : Type 0} (n v : ℕ) (x : X) → get_or (replicate n x) v x ≡ x
get_or-same zero v x = refl
get_or-same (suc n) zero x = refl
get_or-same (suc n) (suc v) x = get_or-same n v x

pub side_missing : (sides : List (Option ℤ)) (n v : ℕ) → sides ≡ replicate n None → get_or sides v None ≡ None
side_missing sides n v is = ap (λ (xs : List (Option ℤ)). get_or xs v None) is ∙ get_or-same n v None

pub AreBounds-missing : (lo hi : List (Option ℤ)) → lo ≡ replicate 64 None → hi ≡ replicate 64 None
    → AreBounds (record { lower = lo; upper = hi })
AreBounds-missing lo hi l h = record {
  lower_len = ap length l ∙ length-replicate {A = Option ℤ} 64 None;
  upper_len = ap length h ∙ length-replicate {A = Option ℤ} 64 None;
  lower_sides = All-same IsSide lo (replicate 64 None) l (All-replicate IsSide 64 None tt);
  upper_sides = All-same IsSide hi (replicate 64 None) h (All-replicate IsSide 64 None tt);
}
