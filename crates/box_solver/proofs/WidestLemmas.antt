-- The widest variable of an atom that fails at the lowest corner, where no one atom closes the box, and its middle.
use Rattle.std.proofs.Common.{◌≡◌, ℕ, zero, suc, ◌+◌, ◌<◌, ◌≤◌, ℤ, pos, negsuc, ◌+ℤ◌, ◌*ℤ◌, ◌≤ℤ◌, ◌<ℤ◌, Bool, true}
use Rattle.std.proofs.Common.{false, not, cond, ◌&&◌, Option, Some, List, [], ◌∷◌, slice_get, refl, ap, sym, ◌∙◌, subst}
use Rattle.std.proofs.Common.{arith, int_lt}
use Rattle.std.specs.List.{All}
use Rattle.std.specs.Option.{option_map_or}
use Rattle.std.specs.Ordering.{int_eq}
use Rattle.std.proofs.lemmas.Bool.{and_from}
use Rattle.std.proofs.lemmas.Cmp.{int_eq_equiv}
use Rattle.std.proofs.lemmas.Int.{ints, by_lt_z}
use Rattle.std.proofs.lemmas.List.Elements.{All-nil, All-cons, All-head, All-tail}
use Rattle.std.proofs.lemmas.List.FromFn.{get_or-map-range_with_len}
use Rattle.lin_model.specs.declared.form.FormTerm.{FormTerm}
use Rattle.lin_model.specs.Form.{value_at, form_value, form_width}
use Rattle.lin_model.specs.KeyAtom.{PlainKeyAtom}
use Rattle.lin_model.specs.Key.{key_width}
use Rattle.lin_model.specs.Quotients.{floor_div}
use Rattle.refutation.specs.Bounds.{PlainBounds, lower_of, upper_of, crosses, add_known, scaled_side, least, greatest}
use Rattle.refutation.specs.Bounds.{is_empty}
use Rattle.refutation.specs.Boxed.{IsBoxedIn}
use Rattle.refutation.specs.Facts.{not_crossed, sides-of}
use Rattle.refutation.specs.Leaf.{fixed_closes, fails_fixed}
use Rattle.refutation.specs.SearchOrder.{lowest_corner, lower_or_zero, upper_or_zero, spread, widest_from, widest, middle}
use Rattle.box_solver.proofs.CutLemmas.{IsBetween}
use Rattle.box_solver.proofs.OrderLemmas.{passes_at}

-- ---- one value for each variable

-- the variable has this value alone
abbrev Pinned : PlainBounds → ℕ → ℤ → Type 0
Pinned b v n = (lower_of b v ≡ Some n) × (upper_of b v ≡ Some n)

-- so has each variable of the form
abbrev ArePinned : PlainBounds → List ℤ → List FormTerm → Type 0
ArePinned b point form = All (λ t. Pinned b t.var (value_at point t.var)) form

scaled : (c x : ℤ) → scaled_side c (Some x) (Some x) ≡ Some (c *ℤ x)
scaled (pos zero) x = let same : pos 0 ≡ pos 0 *ℤ x = omega (arith, ints) in ap Some same
scaled (pos (suc n)) x = refl
scaled (negsuc n) x = refl

at_pinned : (c x : ℤ) (o q : Option ℤ) → o ≡ Some x → q ≡ Some x → scaled_side c o q ≡ Some (c *ℤ x)
at_pinned c x o q f g =
    ap (λ (p : Option ℤ). scaled_side c p q) f ∙ ap (λ (p : Option ℤ). scaled_side c (Some x) p) g ∙ scaled c x

pinned-least : (form : List FormTerm) (b : PlainBounds) (point : List ℤ) → ArePinned b point form
    → least form b ≡ Some (form_value form point)
unfolding least
pinned-least [] b point h = refl
pinned-least (t ∷ ts) b point h =
    let here = All-head (λ (u : FormTerm). Pinned b u.var (value_at point u.var)) t ts h in
    ap (λ (o : Option ℤ). add_known o (least ts b))
    (at_pinned t.coef (value_at point t.var) (lower_of b t.var) (upper_of b t.var) here.0 here.1)
    ∙ ap (add_known (Some (t.coef *ℤ value_at point t.var)))
    (pinned-least ts b point (All-tail (λ (u : FormTerm). Pinned b u.var (value_at point u.var)) t ts h))

pinned-greatest : (form : List FormTerm) (b : PlainBounds) (point : List ℤ) → ArePinned b point form
    → greatest form b ≡ Some (form_value form point)
unfolding greatest
pinned-greatest [] b point h = refl
pinned-greatest (t ∷ ts) b point h =
    let here = All-head (λ (u : FormTerm). Pinned b u.var (value_at point u.var)) t ts h in
    ap (λ (o : Option ℤ). add_known o (greatest ts b))
    (at_pinned t.coef (value_at point t.var) (upper_of b t.var) (lower_of b t.var) here.1 here.0)
    ∙ ap (add_known (Some (t.coef *ℤ value_at point t.var)))
    (pinned-greatest ts b point (All-tail (λ (u : FormTerm). Pinned b u.var (value_at point u.var)) t ts h))

-- the form has one value then, by which the atom closes the box where that fails
pinned-closes : (key : List PlainKeyAtom) (b : PlainBounds) (i : ℕ) (a : PlainKeyAtom) (point : List ℤ)
    → slice_get key i ≡ Some a → ArePinned b point a.form → passes_at a point ≡ false → fixed_closes key b i ≡ true
unfolding fixed_closes
pinned-closes key b i a point there pinned fails =
    let n = form_value a.form point in
    ap (λ (o : Option PlainKeyAtom). option_map_or (λ x. fails_fixed x (least x.form b) (greatest x.form b)) o false)
    there
    ∙ ap (λ (o : Option ℤ). fails_fixed a o (greatest a.form b)) (pinned-least a.form b point pinned)
    ∙ ap (λ (o : Option ℤ). fails_fixed a (Some n) o) (pinned-greatest a.form b point pinned)
    ∙ and_from (int_eq n n) (not (passes_at a point)) (int_eq_equiv.refl n) (ap not fails)

-- ---- variables that are no wider than 0

corner-at : (key : List PlainKeyAtom) (b : PlainBounds) (v : ℕ) → v < key_width key
    → value_at (lowest_corner key b) v ≡ lower_or_zero b v
unfolding lowest_corner
corner-at key b v lt = get_or-map-range_with_len (lower_or_zero b) 0 (key_width key) v v (pos 0) lt (omega arith)

ordered : (b : PlainBounds) (v : ℕ) (lo hi : ℤ) → lower_of b v ≡ Some lo → upper_of b v ≡ Some hi
    → crosses (lower_of b v) (upper_of b v) ≡ false → lo ≤ℤ hi
ordered b v lo hi f g h =
    let test : int_lt hi lo ≡ false = ap (λ (o : Option ℤ). crosses o (Some hi)) (sym f)
    ∙ ap (crosses (lower_of b v)) (sym g) ∙ h in
    omega (arith, ints, test)

flat-pinned : (key : List PlainKeyAtom) (b : PlainBounds) (v : ℕ) → key_width key ≤ 64 → IsBoxedIn key b
    → is_empty b ≡ false → v < key_width key → spread b v ≤ℤ pos 0 → Pinned b v (value_at (lowest_corner key b) v)
flat-pinned key b v narrow boxed full lt flat =
    let two = sides-of b v (boxed v lt) in
    let low = ordered b v (lower_or_zero b v) (upper_or_zero b v) two.0 two.1
    (not_crossed b v (omega arith) full) in
    let one : upper_or_zero b v ≡ lower_or_zero b v = omega (arith, ints, flat) in
    let at = corner-at key b v lt in
    (two.0 ∙ ap Some (sym at), two.1 ∙ ap Some (one ∙ sym at))

all-pinned : (key : List PlainKeyAtom) (b : PlainBounds) (form : List FormTerm) → key_width key ≤ 64 → IsBoxedIn key b
    → is_empty b ≡ false → form_width form ≤ key_width key → All (λ t. spread b t.var ≤ℤ pos 0) form
    → ArePinned b (lowest_corner key b) form
all-pinned key b [] narrow boxed full within flat = All-nil (λ t. Pinned b t.var (value_at (lowest_corner key b) t.var))
all-pinned key b (t ∷ ts) narrow boxed full within flat =
    All-cons (λ (u : FormTerm). Pinned b u.var (value_at (lowest_corner key b) u.var)) t ts
    (flat-pinned key b t.var narrow boxed full (omega arith) (All-head (λ (u : FormTerm). spread b u.var ≤ℤ pos 0) t ts
    flat))
    (all-pinned key b ts narrow boxed full (omega arith)
    (All-tail (λ (u : FormTerm). spread b u.var ≤ℤ pos 0) t ts flat))

-- ---- the widest variable

-- the wider of two variables is no narrower than either
wider : (b : PlainBounds) (v w : ℕ) (t : Bool) → int_lt (spread b v) (spread b w) ≡ t
    → (spread b v ≤ℤ spread b (cond t w v)) × (spread b w ≤ℤ spread b (cond t w v))
wider b v w true h = (omega (arith, ints, h), omega (arith, ints))
wider b v w false h = (omega (arith, ints), omega (arith, ints, h))

wider-below : (v w n : ℕ) (t : Bool) → v < n → w < n → cond t w v < n
wider-below v w n true f g = g
wider-below v w n false f g = f

-- no variable of the form is wider than the widest, nor is the one that it was begun with
widest-most : (b : PlainBounds) (v : ℕ) (form : List FormTerm) → (spread b v ≤ℤ spread b (widest_from b v form))
    × All (λ t. spread b t.var ≤ℤ spread b (widest_from b v form)) form
widest-most b v [] = (omega (arith, ints), All-nil (λ t. spread b t.var ≤ℤ spread b v))
widest-most b v (t ∷ ts) =
    let test = int_lt (spread b v) (spread b t.var) in
    let u = cond test t.var v in
    let rest = widest-most b u ts in
    let two = wider b v t.var test refl in (
      omega (arith, ints, two.0, rest.0),
      All-cons (λ (s : FormTerm). spread b s.var ≤ℤ spread b (widest_from b u ts)) t ts
          (omega (arith, ints, two.1, rest.0)) rest.1,
    )

widest-below : (b : PlainBounds) (v n : ℕ) (form : List FormTerm) → v < n → form_width form ≤ n
    → widest_from b v form < n
widest-below b v n [] lt within = lt
widest-below b v n (t ∷ ts) lt within =
    widest-below b (cond (int_lt (spread b v) (spread b t.var)) t.var v) n ts
    (wider-below v t.var n (int_lt (spread b v) (spread b t.var)) lt (omega arith)) (omega arith)

flat-all : (b : PlainBounds) (w : ℕ) (form : List FormTerm) → spread b w ≤ℤ pos 0
    → All (λ t. spread b t.var ≤ℤ spread b w) form → All (λ t. spread b t.var ≤ℤ pos 0) form
flat-all b w form flat h = λ k d lt. omega (arith, ints, flat, h k d lt)

-- ---- its middle

half-low : (a b : ℤ) → a <ℤ b → a ≤ℤ floor_div (a +ℤ b) 2
half-low a b h = by_sum (a +ℤ b) refl
  where
    by_sum : (n : ℤ) → a +ℤ b ≡ n → a ≤ℤ floor_div n 2
    by_sum (pos n) is = omega (arith, ints)
    by_sum (negsuc n) is = omega (arith, ints)

half-high : (a b : ℤ) → a <ℤ b → floor_div (a +ℤ b) 2 <ℤ b
half-high a b h = by_sum (a +ℤ b) refl
  where
    by_sum : (n : ℤ) → a +ℤ b ≡ n → floor_div n 2 <ℤ b
    by_sum (pos n) is = omega (arith, ints)
    by_sum (negsuc n) is = omega (arith, ints)

-- the middle of a variable that is wider than 0 lies between its sides
middle-between : (key : List PlainKeyAtom) (b : PlainBounds) (v : ℕ) → IsBoxedIn key b → v < key_width key
    → pos 0 <ℤ spread b v → IsBetween b v (middle b v)
middle-between key b v boxed lt wide =
    let two = sides-of b v (boxed v lt) in
    let less : lower_or_zero b v <ℤ upper_or_zero b v = omega (arith, ints, wide) in
    record {
      lo = lower_or_zero b v;
      hi = upper_or_zero b v;
      lower = two.0;
      upper = two.1;
      from = half-low (lower_or_zero b v) (upper_or_zero b v) less;
      to = half-high (lower_or_zero b v) (upper_or_zero b v) less;
    }

-- where the atom doesn't close the box by one value, its widest variable is of the key, and has a middle
pub widest-between : (key : List PlainKeyAtom) (b : PlainBounds) (i : ℕ) (a : PlainKeyAtom) → key_width key ≤ 64
    → IsBoxedIn key b → is_empty b ≡ false → slice_get key i ≡ Some a → form_width a.form ≤ key_width key
    → passes_at a (lowest_corner key b) ≡ false → ¬ (fixed_closes key b i ≡ true)
    → (widest b a.form < key_width key) × IsBetween b (widest b a.form) (middle b (widest b a.form))
widest-between key b i a narrow boxed full there within fails open_ =
    by_form a.form refl within
  where
    closes : All (λ t. spread b t.var ≤ℤ pos 0) a.form → ⊥
    closes flat =
        open_ (pinned-closes key b i a (lowest_corner key b) there
        (all-pinned key b a.form narrow boxed full within flat) fails)

    by_form : (form : List FormTerm) → a.form ≡ form → form_width form ≤ key_width key
        → (widest b form < key_width key) × IsBetween b (widest b form) (middle b (widest b form))
    by_form [] is within' =
        absurd (closes (subst (λ (f : List FormTerm). All (λ t. spread b t.var ≤ℤ pos 0) f) (sym is)
        (All-nil (λ t. spread b t.var ≤ℤ pos 0))))
    by_form (t ∷ ts) is within' =
        let w = widest_from b t.var ts in
        let below = widest-below b t.var (key_width key) ts (omega arith) (omega arith) in
        let most = widest-most b t.var ts in
        let wide : pos 0 <ℤ spread b w = by_lt_z (pos 0) (spread b w) (λ lt. lt)
        (λ le. absurd (closes (subst (λ (f : List FormTerm). All (λ u. spread b u.var ≤ℤ pos 0) f) (sym is)
        (flat-all b w (t ∷ ts) le (All-cons (λ (u : FormTerm). spread b u.var ≤ℤ spread b w) t ts most.0 most.1)))))
        in
        (below, middle-between key b w boxed below wide)
