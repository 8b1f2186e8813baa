-- A cut of a variable between its sides: the sides of both halves, that these are not empty, boxed and short, and the
-- points that they share.
use Rattle.std.proofs.Common.{◌≡◌, ◌≢◌, ℕ, zero, suc, ◌+◌, ◌*◌, ◌^◌, ◌<◌, ◌≤◌, ℤ, pos, ◌+ℤ◌, ◌-ℤ◌, ◌≤ℤ◌, ◌<ℤ◌, Bool}
use Rattle.std.proofs.Common.{true, false, cond, Option, Some, None, IfSome, is_some, List, length, get_or}
use Rattle.std.proofs.Common.{unsigned_abs, ⊎_elim, refl, ap, sym, ◌∙◌, subst, arith, int_lt}
use Rattle.std.specs.Int.{int_min, int_max}
use Rattle.std.specs.List.{range_with_len}
use Rattle.std.proofs.lemmas.Bool.{cases_lt, cases_eq}
use Rattle.std.proofs.lemmas.Int.{ints, clamps}
use Rattle.std.proofs.lemmas.List.{get_or-set_same, get_or-set_other, get_or_past}
use Rattle.std.proofs.Math.Nat.{mul-le-mul}
use Rattle.lin_model.specs.KeyAtom.{PlainKeyAtom}
use Rattle.lin_model.specs.Key.{key_width}
use Rattle.refutation.specs.Bounds.{PlainBounds, lower_of, upper_of, with_lower, with_upper, crosses, is_empty}
use Rattle.refutation.specs.Bounds.{tighter_lower, tighter_upper}
use Rattle.refutation.specs.Box.{PlainBox}
use Rattle.refutation.specs.Boxed.{IsBoxedIn, HasShortSides, IsCut}
use Rattle.refutation.specs.Facts.{not_crossed, sides-of}
use Rattle.refutation.specs.SearchOrder.{lower_or_zero, upper_or_zero}
use Rattle.refutation.specs.Laws.{CutsLeaveProperHalves}
use Rattle.refutation.specs.SearchTree.{number_between, points_over, IsFairSplit}
use Rattle.refutation.proofs.Arithmetic.{int_lt-false}
use Rattle.refutation.proofs.BoundsLemmas.{is_empty-false}

-- ---- sides that are there

in_list : (xs : List (Option ℤ)) (v : ℕ) (n : ℤ) → get_or xs v None ≡ Some n → v < length xs
in_list xs v n is =
    ⊎_elim (λ lt. lt) (λ le. let past = get_or_past xs v None le in absurd (cc)) (cases_lt v (length xs))

upper-cut : (b : PlainBounds) (v : ℕ) (lo hi cut : ℤ) → IsCut b v lo hi cut → upper_of (with_upper b v cut) v ≡ Some cut
upper-cut b v lo hi cut h =
    let same : int_min hi cut ≡ cut = omega (arith, ints, clamps, h.to) in
    get_or-set_same b.upper v (tighter_upper (upper_of b v) (Some cut)) None (in_list b.upper v hi h.upper)
    ∙ ap (λ (o : Option ℤ). tighter_upper o (Some cut)) h.upper ∙ ap Some same

upper-other : (b : PlainBounds) (v w : ℕ) (cut : ℤ) → w ≢ v → upper_of (with_upper b v cut) w ≡ upper_of b w
upper-other b v w cut other = get_or-set_other b.upper v w (tighter_upper (upper_of b v) (Some cut)) None other

lower-cut : (b : PlainBounds) (v : ℕ) (lo hi cut : ℤ) → IsCut b v lo hi cut
    → lower_of (with_lower b v (cut +ℤ pos 1)) v ≡ Some (cut +ℤ pos 1)
lower-cut b v lo hi cut h =
    let same : int_max lo (cut +ℤ pos 1) ≡ cut +ℤ pos 1 = omega (arith, ints, clamps, h.from) in
    get_or-set_same b.lower v (tighter_lower (lower_of b v) (Some (cut +ℤ pos 1))) None (in_list b.lower v lo h.lower)
    ∙ ap (λ (o : Option ℤ). tighter_lower o (Some (cut +ℤ pos 1))) h.lower ∙ ap Some same

lower-other : (b : PlainBounds) (v w : ℕ) (cut : ℤ) → w ≢ v → lower_of (with_lower b v (cut +ℤ pos 1)) w ≡ lower_of b w
lower-other b v w cut other =
    get_or-set_other b.lower v w (tighter_lower (lower_of b v) (Some (cut +ℤ pos 1))) None other

-- what holds of the new side and of the old sides holds of all sides of a half
each_upper : (b : PlainBounds) (v : ℕ) (lo hi cut : ℤ) (w : ℕ) (Q : Option ℤ → Type 0) → IsCut b v lo hi cut
    → (w ≡ v → Q (Some cut)) → Q (upper_of b w) → Q (upper_of (with_upper b v cut) w)
each_upper b v lo hi cut w Q h f g =
    ⊎_elim (λ same. subst (λ u. Q (upper_of (with_upper b v cut) u)) (sym same)
    (subst Q (sym (upper-cut b v lo hi cut h)) (f same))) (λ other. subst Q (sym (upper-other b v w cut other)) g)
    (cases_eq w v)

each_lower : (b : PlainBounds) (v : ℕ) (lo hi cut : ℤ) (w : ℕ) (Q : Option ℤ → Type 0) → IsCut b v lo hi cut
    → (w ≡ v → Q (Some (cut +ℤ pos 1))) → Q (lower_of b w) → Q (lower_of (with_lower b v (cut +ℤ pos 1)) w)
each_lower b v lo hi cut w Q h f g =
    ⊎_elim (λ same. subst (λ u. Q (lower_of (with_lower b v (cut +ℤ pos 1)) u)) (sym same)
    (subst Q (sym (lower-cut b v lo hi cut h)) (f same))) (λ other. subst Q (sym (lower-other b v w cut other)) g)
    (cases_eq w v)

-- ---- emptiness

left-not_empty : (b : PlainBounds) (v : ℕ) (lo hi cut : ℤ) → IsCut b v lo hi cut → is_empty b ≡ false
    → is_empty (with_upper b v cut) ≡ false
left-not_empty b v lo hi cut h full =
    is_empty-false (with_upper b v cut)
    (λ w lt. each_upper b v lo hi cut w (λ o. crosses (lower_of b w) o ≡ false) h
    (λ same. ap (λ (o : Option ℤ). crosses o (Some cut)) (ap (lower_of b) same ∙ h.lower) ∙ int_lt-false cut lo h.from)
    (not_crossed b w lt full))

right-not_empty : (b : PlainBounds) (v : ℕ) (lo hi cut : ℤ) → IsCut b v lo hi cut → is_empty b ≡ false
    → is_empty (with_lower b v (cut +ℤ pos 1)) ≡ false
right-not_empty b v lo hi cut h full =
    is_empty-false (with_lower b v (cut +ℤ pos 1))
    (λ w lt. each_lower b v lo hi cut w (λ o. crosses o (upper_of b w) ≡ false) h
    (λ same. ap (λ (o : Option ℤ). crosses (Some (cut +ℤ pos 1)) o) (ap (upper_of b) same ∙ h.upper)
    ∙ int_lt-false hi (cut +ℤ pos 1) (omega (arith, ints, h.to))) (not_crossed b w lt full))

-- both sides of every variable are there in both halves
pub left-boxed : (key : List PlainKeyAtom) (b : PlainBounds) (v : ℕ) (lo hi cut : ℤ) → IsCut b v lo hi cut
    → IsBoxedIn key b → IsBoxedIn key (with_upper b v cut)
left-boxed key b v lo hi cut h boxed =
    λ w lt. record {
      lower = (boxed w lt).lower;
      upper = each_upper b v lo hi cut w (λ o. is_some o ≡ true) h (λ _. refl) (boxed w lt).upper;
    }

pub right-boxed : (key : List PlainKeyAtom) (b : PlainBounds) (v : ℕ) (lo hi cut : ℤ) → IsCut b v lo hi cut
    → IsBoxedIn key b → IsBoxedIn key (with_lower b v (cut +ℤ pos 1))
right-boxed key b v lo hi cut h boxed =
    λ w lt. record {
      lower = each_lower b v lo hi cut w (λ o. is_some o ≡ true) h (λ _. refl) (boxed w lt).lower;
      upper = (boxed w lt).upper;
    }

-- ---- what both halves keep

short_at : (o : Option ℤ) (n : ℤ) → o ≡ Some n → IfSome o (λ m. unsigned_abs m ≤ 2 ^ 32) → unsigned_abs n ≤ 2 ^ 32
short_at o n is h = subst (λ (p : Option ℤ). IfSome p (λ m. unsigned_abs m ≤ 2 ^ 32)) is h

cut-short : (b : PlainBounds) (v : ℕ) (lo hi cut : ℤ) → IsCut b v lo hi cut → HasShortSides b
    → (unsigned_abs cut ≤ 2 ^ 32) × (unsigned_abs (cut +ℤ pos 1) ≤ 2 ^ 32)
cut-short b v lo hi cut h short =
    let low = short_at (lower_of b v) lo h.lower (short.lower v) in
    let high = short_at (upper_of b v) hi h.upper (short.upper v) in
    (omega (arith, ints, h.from, h.to), omega (arith, ints, h.from, h.to))

pub halves-proper : CutsLeaveProperHalves
halves-proper b v lo hi cut h = record {
  left_full = left-not_empty b v lo hi cut h;
  right_full = right-not_empty b v lo hi cut h;
  left_boxed = λ key. left-boxed key b v lo hi cut h;
  right_boxed = λ key. right-boxed key b v lo hi cut h;
  left_short = λ short. record {
    lower = short.lower;
    upper = λ w. each_upper b v lo hi cut w (λ o. IfSome o (λ n. unsigned_abs n ≤ 2 ^ 32)) h
        (λ _. (cut-short b v lo hi cut h short).0) (short.upper w);
  };
  right_short = λ short. record {
    lower = λ w. each_lower b v lo hi cut w (λ o. IfSome o (λ n. unsigned_abs n ≤ 2 ^ 32))
        h (λ _. (cut-short b v lo hi cut h short).1) (short.lower w);
    upper = short.upper;
  };
  short_cut = λ short. (cut-short b v lo hi cut h short).0;
}

-- ---- points

-- how many values of the variable lie within the bounds
abbrev number : PlainBounds → ℕ → ℕ
number b v = number_between (lower_of b v) (upper_of b v)

-- the numbers of two bounds are the same over a range
same_over : (b c : PlainBounds) (a n : ℕ) → ((w : ℕ) → a ≤ w → w < a + n → number c w ≡ number b w)
    → points_over c (range_with_len a n) ≡ points_over b (range_with_len a n)
same_over b c a zero h = refl
same_over b c a (suc n) h =
    ap (λ (k : ℕ). k * points_over c (range_with_len (a + 1) n)) (h a (omega arith) (omega arith))
    ∙ ap (λ (k : ℕ). number b a * k) (same_over b c (a + 1) n (λ w low high. h w (omega arith) (omega arith)))

-- two bounds that share the values of one variable, and have all values of the others
record Shares (b c d : PlainBounds) (v : ℕ) : Type 0 where
  at : number c v + number d v ≡ number b v
  first : (w : ℕ) → w ≢ v → number c w ≡ number b w
  second : (w : ℕ) → w ≢ v → number d w ≡ number b w

times_first : (x y n p q r : ℕ) → p ≡ r → q ≡ r → x + y ≡ n → x * p + y * q ≡ n * r
times_first x y n p q r same_p same_q total =
    ap (λ (k : ℕ). x * k + y * q) same_p ∙ ap (λ (k : ℕ). x * r + y * k) same_q
    ∙ omega (arith, ap (λ (k : ℕ). k * r) total)

times_rest : (x y n p q r : ℕ) → x ≡ n → y ≡ n → p + q ≡ r → x * p + y * q ≡ n * r
times_rest x y n p q r same_x same_y total =
    ap (λ (k : ℕ). k * p + y * q) same_x ∙ ap (λ (k : ℕ). n * p + k * q) same_y
    ∙ omega (arith, ap (λ (k : ℕ). n * k) total)

shared_over : (b c d : PlainBounds) (v a n : ℕ) → Shares b c d v → a ≤ v → v < a + n
    → points_over c (range_with_len a n) + points_over d (range_with_len a n) ≡ points_over b (range_with_len a n)
shared_over b c d v a zero h low high = absurd (omega arith)
shared_over b c d v a (suc n) h low high =
    ⊎_elim (λ same. times_first (number c a) (number d a) (number b a) (points_over c (range_with_len (a + 1) n))
    (points_over d (range_with_len (a + 1) n)) (points_over b (range_with_len (a + 1) n))
    (same_over b c (a + 1) n (λ w lo hi. h.first w (λ e. omega arith)))
    (same_over b d (a + 1) n (λ w lo hi. h.second w (λ e. omega arith)))
    (subst (λ u. number c u + number d u ≡ number b u) (sym same) h.at))
    (λ other. times_rest (number c a) (number d a) (number b a) (points_over c (range_with_len (a + 1) n))
    (points_over d (range_with_len (a + 1) n)) (points_over b (range_with_len (a + 1) n)) (h.first a other)
    (h.second a other) (shared_over b c d v (a + 1) n h (omega (arith, other)) (omega arith))) (cases_eq a v)

-- the numbers from lo to the cut, and from behind it to hi
between : (lo hi : ℤ) → lo ≤ℤ hi → number_between (Some lo) (Some hi) ≡ suc (unsigned_abs (hi -ℤ lo))
between lo hi h = ap (λ (t : Bool). cond t 0 (suc (unsigned_abs (hi -ℤ lo)))) (int_lt-false hi lo h)

parts : (lo hi cut : ℤ) → lo ≤ℤ cut → cut <ℤ hi
    → number_between (Some lo) (Some cut) + number_between (Some (cut +ℤ pos 1)) (Some hi)
    ≡ number_between (Some lo) (Some hi)
parts lo hi cut low high =
    let first = between lo cut low in
    let second = between (cut +ℤ pos 1) hi (omega (arith, ints)) in
    let all = between lo hi (omega (arith, ints)) in
    omega (arith, ints, first, second, all)

halves_share : (b : PlainBounds) (v : ℕ) (lo hi cut : ℤ) → IsCut b v lo hi cut
    → Shares b (with_upper b v cut) (with_lower b v (cut +ℤ pos 1)) v
halves_share b v lo hi cut h = record {
  at = ap (λ (o : Option ℤ). number_between (lower_of b v) o + number (with_lower b v (cut +ℤ pos 1)) v)
      (upper-cut b v lo hi cut h)
      ∙ ap (λ (o : Option ℤ). number_between (lower_of b v) (Some cut) + number_between o (upper_of b v))
      (lower-cut b v lo hi cut h)
      ∙ ap (λ (o : Option ℤ). number_between o (Some cut) + number_between (Some (cut +ℤ pos 1)) (upper_of b v)) h.lower
      ∙ ap (λ (o : Option ℤ). number_between (Some lo) (Some cut) + number_between (Some (cut +ℤ pos 1)) o) h.upper
      ∙ parts lo hi cut h.from h.to ∙ ap (λ (o : Option ℤ). number_between o (Some hi)) (sym h.lower)
      ∙ ap (λ (o : Option ℤ). number_between (lower_of b v) o) (sym h.upper);
  first = λ w other. ap (λ (o : Option ℤ). number_between (lower_of b w) o) (upper-other b v w cut other);
  second = λ w other. ap (λ (o : Option ℤ). number_between o (upper_of b w)) (lower-other b v w cut other);
}

pub halves-points : (b : PlainBounds) (width v : ℕ) (lo hi cut : ℤ) → v < width → IsCut b v lo hi cut
    → points_over (with_upper b v cut) (range_with_len 0 width) + points_over (with_lower b v (cut +ℤ pos 1))
    (range_with_len 0 width) ≡ points_over b (range_with_len 0 width)
halves-points b width v lo hi cut lt h =
    shared_over b (with_upper b v cut) (with_lower b v (cut +ℤ pos 1)) v 0 width (halves_share b v lo hi cut h)
    (omega arith) (omega arith)

-- a box that isn't empty has a point
some_number : (o q : Option ℤ) → is_some o ≡ true → is_some q ≡ true → crosses o q ≡ false → 1 ≤ number_between o q
some_number None q f g h = absurd (cc)
some_number (Some l) None f g h = absurd (cc)
some_number (Some l) (Some u) f g h =
    subst (λ (t : Bool). 1 ≤ cond t 0 (suc (unsigned_abs (u -ℤ l)))) (sym h) (omega arith)

some_over : (b : PlainBounds) (a n : ℕ) → ((w : ℕ) → a ≤ w → w < a + n → 1 ≤ number b w)
    → 1 ≤ points_over b (range_with_len a n)
some_over b a zero h = omega arith
some_over b a (suc n) h =
    omega (
      arith,
      mul-le-mul (h a (omega arith) (omega arith))
          (some_over b (a + 1) n (λ w low high. h w (omega arith) (omega arith))),
    )

pub points-some : (key : List PlainKeyAtom) (b : PlainBounds) → key_width key ≤ 64 → IsBoxedIn key b
    → is_empty b ≡ false → 1 ≤ points_over b (range_with_len 0 (key_width key))
points-some key b narrow boxed full =
    some_over b 0 (key_width key) (λ w low high. some_number (lower_of b w) (upper_of b w) (boxed w (omega arith)).lower
    (boxed w (omega arith)).upper (not_crossed b w (omega arith) full))

-- ---- a split into halves that aren't empty is such a cut

-- the lower half's sides don't cross, nor do the upper half's
left-room : (b : PlainBounds) (v : ℕ) (lo hi cut : ℤ) → v < 64 → lower_of b v ≡ Some lo → upper_of b v ≡ Some hi
    → is_empty (with_upper b v cut) ≡ false → lo ≤ℤ cut
left-room b v lo hi cut lt low high full =
    let side = get_or-set_same b.upper v (tighter_upper (upper_of b v) (Some cut)) None (in_list b.upper v hi high)
    ∙ ap (λ (o : Option ℤ). tighter_upper o (Some cut)) high in
    let apart : int_lt (int_min hi cut) lo ≡ false = ap (crosses (Some lo)) (sym side)
    ∙ ap (λ (o : Option ℤ). crosses o (upper_of (with_upper b v cut) v)) (sym low)
    ∙ not_crossed (with_upper b v cut) v lt full in
    omega (arith, ints, clamps, apart)

right-room : (b : PlainBounds) (v : ℕ) (lo hi cut : ℤ) → v < 64 → lower_of b v ≡ Some lo → upper_of b v ≡ Some hi
    → is_empty (with_lower b v (cut +ℤ pos 1)) ≡ false → cut <ℤ hi
right-room b v lo hi cut lt low high full =
    let side = get_or-set_same b.lower v (tighter_lower (lower_of b v) (Some (cut +ℤ pos 1))) None
    (in_list b.lower v lo low) ∙ ap (λ (o : Option ℤ). tighter_lower o (Some (cut +ℤ pos 1))) low in
    let apart : int_lt hi (int_max lo (cut +ℤ pos 1)) ≡ false = ap (λ (o : Option ℤ). crosses o (Some hi)) (sym side)
    ∙ ap (crosses (lower_of (with_lower b v (cut +ℤ pos 1)) v)) (sym high)
    ∙ not_crossed (with_lower b v (cut +ℤ pos 1)) v lt full in
    omega (arith, ints, clamps, apart)

pub fair-cut : (key : List PlainKeyAtom) (box : PlainBox) (v : ℕ) (cut : ℤ) → key_width key ≤ 64
    → IsBoxedIn key box.bounds → IsFairSplit key box v cut → (lo : ℤ) × (hi : ℤ) × IsCut box.bounds v lo hi cut
fair-cut key box v cut narrow boxed fair =
    let lo = lower_or_zero box.bounds v in
    let hi = upper_or_zero box.bounds v in
    let sides = sides-of box.bounds v (boxed v fair.of_key) in
    let lt : v < 64 = omega (arith, fair.of_key) in (
      lo,
      hi,
      record {
        below = lt;
        lower = sides.0;
        upper = sides.1;
        from = left-room box.bounds v lo hi cut lt sides.0 sides.1 fair.left;
        to = right-room box.bounds v lo hi cut lt sides.0 sides.1 fair.right;
      },
    )
