-- What an atom or side is worth by the factors 1 and -1.
use Rattle.std.proofs.Common.{◌≡◌, ◌⊎◌, ⊎_elim, ℕ, ◌-◌, ◌<◌, ◌≤◌, ℤ, pos, negsuc, neg_ℤ, ◌-ℤ◌, ◌*ℤ◌, ◌≤ℤ◌, Bool, true, false}
use Rattle.std.proofs.Common.{◌+◌, ◌^◌, unsigned_abs, FitsSigned, to_z, of_z, rules, cond, Option, Some, None, List, [], ◌∷◌, ◌++◌, length, refl, ap, sym, ◌∙◌, subst, arith}
use Rattle.std.specs.Prelude.{slice_get, slice_index_or}
use Rattle.std.specs.Option.{option_map, option_and_then, option_map_or}
use Rattle.std.proofs.lemmas.Bool.{both_ways, cases_lt, cases_Bool, lt-ltb, le-ltb}
use Rattle.std.specs.Int.{w128}
use Rattle.std.proofs.lemmas.Int.{ints, to_z-of_z}
use Rattle.std.proofs.lemmas.List.{length_push}
use Rattle.std.proofs.Math.ListN.{get_or-append}
use Rattle.std.proofs.Math.Seq.{get_or-append_seam}
use Rattle.std.proofs.lemmas.Option.{slice_get_past}
use Rattle.lin_model.specs.declared.form.FormTerm.{FormTerm}
use Rattle.lin_model.specs.declared.op.Op.{Op}
use Rattle.lin_model.specs.declared.op.Op.TheVariants.{Le, Ge, Eq, Ne}
use Rattle.lin_model.specs.Form.{form_value}
use Rattle.lin_model.specs.Lists.{below_or_last}
use Rattle.lin_model.specs.KeyAtom.{PlainKeyAtom}
use Rattle.refutation.specs.declared.leaf.LeafTerm.{LeafTerm}
use Rattle.refutation.specs.declared.leaf.On.TheVariants.{Atom as OnAtom, Side as OnSide}
use Rattle.refutation.specs.declared.side.Side.{Side}
use Rattle.refutation.specs.Box.{PlainBox, side_atom, beside}
use Rattle.refutation.specs.Glance.{term_at, on_place}
use Rattle.refutation.specs.Leaf.{weighted, named, is_unit}
use Rattle.combos.specs.declared.corner.Worth.{Worth}
use Rattle.combos.specs.declared.worths.Worths.{Worths}
use Rattle.combos.specs.Corner.{corner, worth_of, corner_value}
use Rattle.combos.specs.AtCorners.{negated, is_eq_op, is_equation, IsNoneOr, IsWorth, IsSmall, kept_at, AreWorths, HoldsThere, IsWeighed}

-- ---- by the factor 1

-- what is named, if anything is, is worth this by a factor
abbrev worth_by : List ℤ → Option PlainKeyAtom → ℤ → Option ℤ
worth_by point o factor = option_map (worth_of point) (option_and_then (λ a. weighted a factor) o)

-- on `<=` and `=` how far the form is above the constant
pub excess-is : (point : List ℤ) (form form' : List FormTerm) (op : Op) (constant x excess : ℤ)
    → (op ≡ Le) ⊎ (op ≡ Eq) → form' ≡ form → excess ≡ form_value form' point -ℤ constant
    → worth_by point (Some (record { form = form; op = op; constant = constant })) (pos 1) ≡ Some x → x ≡ excess
excess-is point form form' op constant x excess by_op same is h =
    let value = ap (λ (f : List FormTerm). form_value f point) same in
    ⊎_elim (λ e. le (subst (λ (o : Op). worth_by point (Some (record { form = form; op = o; constant = constant }))
    (pos 1) ≡ Some x) e h) value) (λ e. eq (subst (λ (o : Op). worth_by point
    (Some (record { form = form; op = o; constant = constant })) (pos 1) ≡ Some x) e h) value) by_op
  where
    above : (pos 1 *ℤ form_value form point) -ℤ (pos 1 *ℤ constant) ≡ x → form_value form' point ≡ form_value form point
        → x ≡ excess
    above same value = omega (arith, ints, same, value, is)

    le : worth_by point (Some (record { form = form; op = Le; constant = constant })) (pos 1) ≡ Some x
        → form_value form' point ≡ form_value form point → x ≡ excess
    le h value =
        let same : (pos 1 *ℤ form_value form point) -ℤ (pos 1 *ℤ constant) ≡ x = cc h in
        above same value

    eq : worth_by point (Some (record { form = form; op = Eq; constant = constant })) (pos 1) ≡ Some x
        → form_value form' point ≡ form_value form point → x ≡ excess
    eq h value =
        let same : (pos 1 *ℤ form_value form point) -ℤ (pos 1 *ℤ constant) ≡ x = cc h in
        above same value

-- on `>=` how far it is below
pub shortfall-is : (point : List ℤ) (form form' : List FormTerm) (op : Op) (constant x excess shortfall : ℤ) → op ≡ Ge
    → form' ≡ form → excess ≡ form_value form' point -ℤ constant → shortfall ≡ neg_ℤ excess
    → worth_by point (Some (record { form = form; op = op; constant = constant })) (pos 1) ≡ Some x → x ≡ shortfall
shortfall-is point form form' op constant x excess shortfall by_op same is negative h =
    ge (subst (λ (o : Op). worth_by point (Some (record { form = form; op = o; constant = constant })) (pos 1) ≡ Some x)
    by_op h) (ap (λ (f : List FormTerm). form_value f point) same)
  where
    ge : worth_by point (Some (record { form = form; op = Ge; constant = constant })) (pos 1) ≡ Some x
        → form_value form' point ≡ form_value form point → x ≡ shortfall
    ge h value =
        let below : (negsuc 0 *ℤ form_value form point) -ℤ (negsuc 0 *ℤ constant) ≡ x = cc in
        omega (arith, ints, below, value, is, negative)

-- ---- the factor -1

abbrev is_eq : Option PlainKeyAtom → Bool
is_eq o = option_map_or (λ a. is_eq_op a.op) o false

-- on an equation the factor -1 gives the negative
negative : (point : List ℤ) (form : List FormTerm) (op : Op) (constant x : ℤ) → is_eq_op op ≡ true
    → worth_by point (Some (record { form = form; op = op; constant = constant })) (negsuc 0) ≡ Some x
    → worth_by point (Some (record { form = form; op = op; constant = constant })) (pos 1) ≡ Some (neg_ℤ x)
negative point form Le constant x h is = absurd (cc)
negative point form Ge constant x h is = absurd (cc)
negative point form Ne constant x h is = absurd (cc)
negative point form Eq constant x h is =
    let same : (negsuc 0 *ℤ form_value form point) -ℤ (negsuc 0 *ℤ constant) ≡ x = cc in
    let other : (pos 1 *ℤ form_value form point) -ℤ (pos 1 *ℤ constant) ≡ neg_ℤ x = omega (arith, ints, same) in
    ap (λ (n : ℤ). Some n) other

-- elsewhere it isn't lawful
unlawful : (point : List ℤ) (form : List FormTerm) (op : Op) (constant : ℤ) → is_eq_op op ≡ false
    → worth_by point (Some (record { form = form; op = op; constant = constant })) (negsuc 0) ≡ None
unlawful point form Le constant h = refl
unlawful point form Ge constant h = refl
unlawful point form Ne constant h = refl
unlawful point form Eq constant h = absurd (cc)

negative_of : (point : List ℤ) (o : Option PlainKeyAtom) (x : ℤ) → is_eq o ≡ true
    → worth_by point o (negsuc 0) ≡ Some x → worth_by point o (pos 1) ≡ Some (neg_ℤ x)
negative_of point None x h is = absurd (cc)
negative_of point (Some a) x h is = negative point a.form a.op a.constant x h is

unlawful_of : (point : List ℤ) (o : Option PlainKeyAtom) → is_eq o ≡ false → worth_by point o (negsuc 0) ≡ None
unlawful_of point None h = refl
unlawful_of point (Some a) h = unlawful point a.form a.op a.constant h

-- nor is it on a side
beside_unlawful : (point : List ℤ) (upper : Bool) (o : Option PlainKeyAtom)
    → worth_by point (option_map (λ a. beside a upper) o) (negsuc 0) ≡ None
beside_unlawful point upper None = refl
beside_unlawful point false (Some a) = refl
beside_unlawful point true (Some a) = refl

side_unlawful : (point : List ℤ) (key : List PlainKeyAtom) (o : Option Side)
    → worth_by point (option_and_then (side_atom key) o) (negsuc 0) ≡ None
side_unlawful point key None = refl
side_unlawful point key (Some side) = beside_unlawful point side.upper (slice_get key side.atom)

-- what stands at a place
place-atom : (key : List PlainKeyAtom) (sides : List Side) (place : ℕ) → place < length key
    → named key sides (on_place key place) ≡ slice_get key place
place-atom key sides place lt =
    ap (λ (b : Bool). named key sides (cond b (OnAtom place) (OnSide (place - length key)))) (lt-ltb place (length key) lt)

place-side : (key : List PlainKeyAtom) (sides : List Side) (place : ℕ) → length key ≤ place
    → named key sides (on_place key place) ≡ option_and_then (side_atom key) (slice_get sides (place - length key))
place-side key sides place le =
    ap (λ (b : Bool). named key sides (cond b (OnAtom place) (OnSide (place - length key)))) (le-ltb place (length key) le)

-- an equation is worth the negative by the factor -1
pub equation-negative : (key : List PlainKeyAtom) (box : PlainBox) (place : ℕ) (highest : Bool) (x : ℤ)
    → is_equation key place ≡ true → corner_value key box highest (term_at key place (negsuc 0)) ≡ Some x
    → corner_value key box highest (term_at key place (pos 1)) ≡ Some (neg_ℤ x)
equation-negative key box place highest x h is =
    let point = corner box.bounds highest in
    ⊎_elim (λ lt. ap (λ (o : Option PlainKeyAtom). worth_by point o (pos 1)) (place-atom key box.sides place lt)
    ∙ negative_of point (slice_get key place) x h
    (sym (ap (λ (o : Option PlainKeyAtom). worth_by point o (negsuc 0)) (place-atom key box.sides place lt)) ∙ is))
    (λ le. absurd (both_ways (is_equation key place) (ap is_eq (slice_get_past key place le)) h))
    (cases_lt place (length key))

-- nothing else is worth anything by it
pub other-unlawful : (key : List PlainKeyAtom) (box : PlainBox) (place : ℕ) (highest : Bool)
    → is_equation key place ≡ false → corner_value key box highest (term_at key place (negsuc 0)) ≡ None
other-unlawful key box place highest h =
    let point = corner box.bounds highest in
    ⊎_elim (λ lt. ap (λ (o : Option PlainKeyAtom). worth_by point o (negsuc 0)) (place-atom key box.sides place lt)
    ∙ unlawful_of point (slice_get key place) h)
    (λ le. ap (λ (o : Option PlainKeyAtom). worth_by point o (negsuc 0)) (place-side key box.sides place le)
    ∙ side_unlawful point key (slice_get box.sides (place - length key))) (cases_lt place (length key))

pub negated-value : (key : List PlainKeyAtom) (box : PlainBox) (place : ℕ) (highest : Bool) (a : ℤ)
    → is_equation key place ≡ true → IsNoneOr (corner_value key box highest (term_at key place (pos 1))) a
    → IsNoneOr (corner_value key box highest (term_at key place (negsuc 0))) (neg_ℤ a)
negated-value key box place highest a h is = λ x same.
    let twice = is (neg_ℤ x) (equation-negative key box place highest x h same) in omega (arith, ints, twice)

pub negated-worth : (key : List PlainKeyAtom) (box : PlainBox) (place : ℕ) (w : Worth) → is_equation key place ≡ true
    → IsWorth key box (term_at key place (pos 1)) w → IsWorth key box (term_at key place (negsuc 0)) (negated w)
negated-worth key box place w h is = record {
  lowest = negated-value key box place false w.lowest h is.lowest;
  highest = negated-value key box place true w.highest h is.highest;
}

-- by the other factor it is worth 0 or less where it isn't by this one
pub equation-holds : (key : List PlainKeyAtom) (box : PlainBox) (place : ℕ) (a : ℤ) → is_equation key place ≡ true
    → IsNoneOr (corner_value key box false (term_at key place (pos 1))) a → pos 0 ≤ℤ a
    → HoldsThere key box (term_at key place (negsuc 0))
equation-holds key box place a h is above = λ x same.
    let twice = is (neg_ℤ x) (equation-negative key box place false x h same) in
    omega (arith, ints, twice, above)

pub other-holds : (key : List PlainKeyAtom) (box : PlainBox) (place : ℕ) → is_equation key place ≡ false
    → HoldsThere key box (term_at key place (negsuc 0))
other-holds key box place h = λ x same. let none = other-unlawful key box place false h in absurd (cc)

pub minus-holds : (key : List PlainKeyAtom) (box : PlainBox) (place : ℕ) (a : ℤ)
    → IsNoneOr (corner_value key box false (term_at key place (pos 1))) a → pos 0 ≤ℤ a
    → HoldsThere key box (term_at key place (negsuc 0))
minus-holds key box place a is above =
    ⊎_elim (λ yes'. equation-holds key box place a yes' is above) (λ no'. other-holds key box place no')
    (cases_Bool (is_equation key place))

-- ---- what is kept

pub none_kept : (key : List PlainKeyAtom) (box : PlainBox) (worths : Worths) → worths.lowest.items ≡ []
    → worths.highest.items ≡ [] → AreWorths key box worths
none_kept key box worths lowest highest = record {
  same = ap length lowest ∙ sym (ap length highest);
  each = λ place lt. absurd (omega (arith, lt, ap length lowest));
  small = λ place lt. absurd (omega (arith, lt, ap length lowest));
}

-- one more number behind others, at their places
module _ (old new : List ℤ) (n : ℕ) (x : ℤ) (len : length old ≡ n) (is : new ≡ old ++ x ∷ []) where
  before : (place : ℕ) → place < n → slice_index_or new place (pos 0) ≡ slice_index_or old place (pos 0)
  before place lt =
      ap (λ (xs : List ℤ). slice_index_or xs place (pos 0)) is
      ∙ get_or-append old (x ∷ []) (pos 0) place (omega (arith, len, lt))

  last : (place : ℕ) → place ≡ n → slice_index_or new place (pos 0) ≡ x
  last place same =
      ap (λ (xs : List ℤ). slice_index_or xs place (pos 0)) is
      ∙ ap (λ (k : ℕ). slice_index_or (old ++ x ∷ []) k (pos 0)) (same ∙ sym len) ∙ get_or-append_seam old x [] (pos 0)

same_worth : (w v : Worth) → w.lowest ≡ v.lowest → w.highest ≡ v.highest → w ≡ v
same_worth w v low high =
    let one : w ≡ record { lowest = v.lowest; highest = w.highest }
    = ap (λ (x : ℤ). let r : Worth = record { lowest = x; highest = w.highest } in r) low in
    one ∙ ap (λ (x : ℤ). let r : Worth = record { lowest = v.lowest; highest = x } in r) high

pub one_more : (key : List PlainKeyAtom) (box : PlainBox) (old new : Worths) (n : ℕ) (w : Worth)
    → AreWorths key box old → length old.lowest.items ≡ n → new.lowest.items ≡ old.lowest.items ++ w.lowest ∷ []
    → new.highest.items ≡ old.highest.items ++ w.highest ∷ [] → IsWorth key box (term_at key n (pos 1)) w → IsSmall w
    → AreWorths key box new
one_more key box old new n w are len low high worth small = record {
  same = omega (arith, are.same, length_low, length_high);
  each = λ place lt. at (λ k v. IsWorth key box (term_at key k (pos 1)) v) are.each worth place lt;
  small = λ place lt. at (λ k v. IsSmall v) are.small small place lt;
}
  where
    length_low : length new.lowest.items ≡ length old.lowest.items + 1
    length_low = ap length low ∙ length_push old.lowest.items w.lowest

    length_high : length new.highest.items ≡ length old.highest.items + 1
    length_high = ap length high ∙ length_push old.highest.items w.highest

    at : (P : ℕ → Worth → Type 0)
        → ((place : ℕ) → place < length old.lowest.items → P place (kept_at old place)) → P n w → (place : ℕ)
        → place < length new.lowest.items → P place (kept_at new place)
    at P each here place lt =
        ⊎_elim (λ below. subst (P place) (sym (same_worth (kept_at new place) (kept_at old place)
        (before old.lowest.items new.lowest.items n w.lowest len low place below)
        (before old.highest.items new.highest.items n w.highest (sym are.same ∙ len) high place below)))
        (each place (omega (arith, below, len))))
        (λ end. subst (λ (k : ℕ). P k (kept_at new place)) (sym end)
        (subst (P n) (sym (same_worth (kept_at new place) w
        (last old.lowest.items new.lowest.items n w.lowest len low place end)
        (last old.highest.items new.highest.items n w.highest (sym are.same ∙ len) high place end))) here))
        (below_or_last place n (omega (arith, lt, length_low, len)))

-- what was kept of a place, as it is read
pub read-kept : (xs ys : List ℤ) (place : ℕ) (x : ℤ) → ys ≡ xs → x ≡ slice_index_or xs place (pos 0)
    → unsigned_abs (slice_index_or xs place (pos 0)) ≤ 2 ^ 100
    → x ≡ to_z w128 (of_z w128 (slice_index_or ys place (pos 0)))
read-kept xs ys place x same is small =
    let read = ap (λ (zs : List ℤ). slice_index_or zs place (pos 0)) same in
    let fits : FitsSigned w128 (slice_index_or xs place (pos 0)) = search rules in
    is ∙ sym (to_z-of_z w128 (slice_index_or xs place (pos 0)) fits)
    ∙ ap (λ (n : ℤ). to_z w128 (of_z w128 n)) (sym read)

-- a term and its worth, as they were made
pub is_weighed : (key : List PlainKeyAtom) (box : PlainBox) (t t' : LeafTerm) (w w' : Worth) → t' ≡ t → w' ≡ w
    → is_unit t ≡ true → unsigned_abs t.factor ≡ 1 → IsWorth key box t w → IsSmall w'
    → IsWeighed key box (record { term = t'; worth = w' })
is_weighed key box t t' w w' term worth unit size is small = record {
  factor = ap is_unit term ∙ unit;
  size = ap (λ (u : LeafTerm). unsigned_abs u.factor) term ∙ size;
  worth = subst (λ (u : LeafTerm). IsWorth key box u w') (sym term) (subst (IsWorth key box t) (sym worth) is);
  small = small;
}
