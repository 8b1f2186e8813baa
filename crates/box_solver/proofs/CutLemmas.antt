-- The cuts that count lie between the sides of their variable.
use Rattle.std.proofs.Common.{◌≡◌, ℕ, suc, ◌<◌, ℤ, pos, ◌-ℤ◌, ◌≤ℤ◌, ◌<ℤ◌, Bool, true, false, cond, ◌&&◌, Option, Some, None}
use Rattle.std.proofs.Common.{List, [], ◌∷◌, max, int_lt, int_le, refl, ap, sym, ◌∙◌, arith}
use Rattle.std.specs.Option.{option_map, option_map_or}
use Rattle.std.proofs.lemmas.Bool.{and_parts}
use Rattle.std.proofs.lemmas.Int.{ints}
use Rattle.lin_model.specs.declared.form.FormTerm.{FormTerm}
use Rattle.lin_model.specs.Form.{form_width}
use Rattle.lin_model.specs.Integers.{Decides-int_le, Decides-int_lt}
use Rattle.lin_model.specs.KeyAtom.{PlainKeyAtom}
use Rattle.lin_model.specs.Lists.{chosen}
use Rattle.refutation.specs.declared.node.Node.{Node}
use Rattle.refutation.specs.declared.node.Node.TheVariants.{Split}
use Rattle.refutation.specs.Bounds.{PlainBounds, lower_of, upper_of}
use Rattle.refutation.specs.Cut.{PlainCut, has_sides, counts_as_lower, counts_as_upper, kept_if, lower_cut, upper_cut}
use Rattle.refutation.specs.Cut.{lower_that_counts, upper_that_counts, chosen_cut, cut}
use Rattle.refutation.specs.SearchOrder.{raising_split, lowering_split, first_node, first_raising, first_lowering}

-- a number between the sides of a variable, with room above it
pub record IsBetween (b : PlainBounds) (v : ℕ) (n : ℤ) : Type 0 where
  pub lo : ℤ
  pub hi : ℤ
  pub lower : lower_of b v ≡ Some lo
  pub upper : upper_of b v ≡ Some hi
  pub from : lo ≤ℤ n
  pub to : n <ℤ hi

-- ---- what counts

-- a number that was kept passes the test
kept : (test : ℤ → Bool) (o : Option ℤ) (n : ℤ) → kept_if test o ≡ Some n → test n ≡ true
kept test None n h = absurd (cc)
kept test (Some m) n h =
    let two = chosen (test m) m n h in
    ap test (sym two.1) ∙ two.0

lower-between : (b : PlainBounds) (v : ℕ) (n : ℤ) (o q : Option ℤ) → lower_of b v ≡ o → upper_of b v ≡ q
    → counts_as_lower o q n ≡ true → IsBetween b v (n -ℤ pos 1)
lower-between b v n None q f g h = absurd (cc)
lower-between b v n (Some lo') None f g h = absurd (cc)
lower-between b v n (Some lo') (Some hi') f g h =
    let two = and_parts (int_lt lo' n) (int_le n hi') h in
    let above : lo' <ℤ n = (Decides-int_lt lo' n).0 two.0 in
    let below : n ≤ℤ hi' = (Decides-int_le n hi').0 two.1 in
    record {
      lo = lo';
      hi = hi';
      lower = f;
      upper = g;
      from = omega (arith, ints, above);
      to = omega (arith, ints, below);
    }

upper-between : (b : PlainBounds) (v : ℕ) (n : ℤ) (o q : Option ℤ) → lower_of b v ≡ o → upper_of b v ≡ q
    → counts_as_upper o q n ≡ true → IsBetween b v n
upper-between b v n None q f g h = absurd (cc)
upper-between b v n (Some lo') None f g h = absurd (cc)
upper-between b v n (Some lo') (Some hi') f g h =
    let two = and_parts (int_le lo' n) (int_lt n hi') h in
    let above : lo' ≤ℤ n = (Decides-int_le lo' n).0 two.0 in
    let below : n <ℤ hi' = (Decides-int_lt n hi').0 two.1 in
    record { lo = lo'; hi = hi'; lower = f; upper = g; from = above; to = below }

-- ---- the cut of a variable

-- the chosen cut is the lower bound or the upper bound
chosen-lower : (o q : Option ℤ) (c : PlainCut) → chosen_cut o q ≡ Some c → c.upper ≡ false → o ≡ Some c.value
chosen-lower None None c h up = absurd (cc)
chosen-lower None (Some n) c h up =
    let made : PlainCut = record { value = n; upper = true } in
    let same : made ≡ c = cc in
    let other = ap (λ (d : PlainCut). d.upper) same ∙ up in
    absurd (cc)
chosen-lower (Some n) q c h up =
    let made : PlainCut = record { value = n; upper = false } in
    let same : made ≡ c = cc in
    ap (λ (d : PlainCut). Some d.value) same

chosen-upper : (o q : Option ℤ) (c : PlainCut) → chosen_cut o q ≡ Some c → c.upper ≡ true → q ≡ Some c.value
chosen-upper None None c h up = absurd (cc)
chosen-upper None (Some n) c h up =
    let made : PlainCut = record { value = n; upper = true } in
    let same : made ≡ c = cc in
    ap (λ (d : PlainCut). Some d.value) same
chosen-upper (Some n) q c h up =
    let made : PlainCut = record { value = n; upper = false } in
    let same : made ≡ c = cc in
    let other = ap (λ (d : PlainCut). d.upper) same ∙ up in
    absurd (cc)

cut-chosen : (b : PlainBounds) (a : PlainKeyAtom) (v : ℕ) (c : PlainCut) → cut b a v ≡ Some c
    → chosen_cut (lower_that_counts b a v) (upper_that_counts b a v) ≡ Some c
unfolding cut
cut-chosen b a v c h = by_sides (has_sides b a.form) h
  where
    by_sides : (s : Bool)
        → cond s (chosen_cut (lower_that_counts b a v) (upper_that_counts b a v)) None ≡ Some c
        → chosen_cut (lower_that_counts b a v) (upper_that_counts b a v) ≡ Some c
    by_sides true h' = h'
    by_sides false h' = absurd (cc)

-- ---- the splits by cuts

-- a split at a number between the sides of a variable below the width
pub record IsSplitBetween (b : PlainBounds) (width : ℕ) (node : Node) : Type 0 where
  pub var : ℕ
  pub at : ℤ
  pub is : node ≡ Split var at
  pub below : var < width
  pub between : IsBetween b var at

raising-between : (b : PlainBounds) (a : PlainKeyAtom) (width v : ℕ) (node : Node) → v < width → (o : Option PlainCut)
    → cut b a v ≡ o → raising_split v o ≡ Some node → IsSplitBetween b width node
raising-between b a width v node lt None is h = absurd (cc)
raising-between b a width v node lt (Some c) is h = by_upper c.upper refl h
  where
    by_upper : (u : Bool) → c.upper ≡ u → cond u None (Some (Split v (c.value -ℤ pos 1))) ≡ Some node
        → IsSplitBetween b width node
    by_upper true up h' = absurd (cc)
    by_upper false up h' = record {
      var = v;
      at = c.value -ℤ pos 1;
      is = cc;
      below = lt;
      between = lower-between b v c.value (lower_of b v) (upper_of b v) refl refl
          (kept (counts_as_lower (lower_of b v) (upper_of b v)) (lower_cut b a v) c.value
          (chosen-lower (lower_that_counts b a v) (upper_that_counts b a v) c (cut-chosen b a v c is) up));
    }

lowering-between : (b : PlainBounds) (a : PlainKeyAtom) (width v : ℕ) (node : Node) → v < width → (o : Option PlainCut)
    → cut b a v ≡ o → lowering_split v o ≡ Some node → IsSplitBetween b width node
lowering-between b a width v node lt None is h = absurd (cc)
lowering-between b a width v node lt (Some c) is h = by_upper c.upper refl h
  where
    by_upper : (u : Bool) → c.upper ≡ u → cond u (Some (Split v c.value)) None ≡ Some node
        → IsSplitBetween b width node
    by_upper false up h' = absurd (cc)
    by_upper true up h' = record {
      var = v;
      at = c.value;
      is = cc;
      below = lt;
      between = upper-between b v c.value (lower_of b v) (upper_of b v) refl refl
          (kept (counts_as_upper (lower_of b v) (upper_of b v)) (upper_cut b a v) c.value
          (chosen-upper (lower_that_counts b a v) (upper_that_counts b a v) c (cut-chosen b a v c is) up));
    }

-- the first node that a term gives is one of a term
first-given : (of : FormTerm → Option Node) (form : List FormTerm) (node : Node) → first_node of form ≡ Some node
    → (t : FormTerm) × (t.var < form_width form) × (of t ≡ Some node)
first-given of [] node h = absurd (cc)
first-given of (t ∷ ts) node h = by_term (λ later. first-given of ts node later) (of t) refl h
  where
    by_term : (first_node of ts ≡ Some node → (u : FormTerm) × (u.var < form_width ts) × (of u ≡ Some node))
        → (o : Option Node) → of t ≡ o → option_map_or Some o (first_node of ts) ≡ Some node
        → (u : FormTerm) × (u.var < max (suc t.var) (form_width ts)) × (of u ≡ Some node)
    by_term later None is h' =
        let rest = later h' in
        (rest.0, omega (arith, rest.1), rest.2)
    by_term later (Some n) is h' = (t, omega arith, is ∙ h')

pub raised-between : (b : PlainBounds) (a : PlainKeyAtom) (node : Node) → first_raising b a ≡ Some node
    → IsSplitBetween b (form_width a.form) node
raised-between b a node h =
    let given = first-given (λ t. raising_split t.var (cut b a t.var)) a.form node h in
    raising-between b a (form_width a.form) given.0.var node given.1 (cut b a given.0.var) refl given.2

pub lowered-between : (b : PlainBounds) (a : PlainKeyAtom) (node : Node) → first_lowering b a ≡ Some node
    → IsSplitBetween b (form_width a.form) node
lowered-between b a node h =
    let given = first-given (λ t. lowering_split t.var (cut b a t.var)) a.form node h in
    lowering-between b a (form_width a.form) given.0.var node given.1 (cut b a given.0.var) refl given.2
