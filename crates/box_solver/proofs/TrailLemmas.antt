-- The trail leads back to the boxes that the search left.
use Rattle.std.proofs.Common.{◌≡◌, ⊎_elim, ℕ, zero, suc, ◌+◌, ◌-◌, ◌^◌, ◌<◌, ◌≤◌, ℤ, pos, ◌+ℤ◌, ◌≤ℤ◌, ◌<ℤ◌, Bool, true}
use Rattle.std.proofs.Common.{false, cond, not, Option, Some, None, IfSome, is_some, List, [], ◌∷◌, ◌++◌, length, get_or, set}
use Rattle.std.proofs.Common.{take, unsigned_abs, eqb, refl, ap, sym, ◌∙◌, subst, arith}
use Rattle.std.specs.List.{All}
use Rattle.std.specs.Int.{int_min, int_max}
use Rattle.std.specs.Option.{unwrap_or}
use Rattle.std.proofs.Math.Seq.{take-append_seam}
use Rattle.std.proofs.lemmas.Bool.{ne_eqb}
use Rattle.std.proofs.lemmas.Int.{ints, clamps}
use Rattle.std.proofs.lemmas.List.{length-append}
use Rattle.std.proofs.lemmas.List.Sums.{sum_by-append}
use Rattle.std.proofs.lemmas.List.Elements.{All-cons, All-head, All-tail}
use Rattle.refutation.specs.declared.side.Side.{Side}
use Rattle.refutation.specs.Bounds.{PlainBounds, lower_of, upper_of, tighter_lower, tighter_upper, with_lower, with_upper}
use Rattle.refutation.specs.Box.{PlainBox, left_half, right_half, on_side}
use Rattle.refutation.specs.Boxed.{IsCut, HasBothSides, HasShortSides}
use Rattle.refutation.specs.Facts.{sides-of}
use Rattle.refutation.specs.SearchOrder.{lower_or_zero, upper_or_zero}
use Rattle.box_solver.specs.declared.turn.Turn.{Turn}
use Rattle.box_solver.specs.declared.turn.Turn.TheVariants.{CutLeft, CutRight, NeLeft, NeRight}
use Rattle.box_solver.specs.Region.{TrailItem}
use Rattle.box_solver.specs.Trail.{item_of, turn_of, IsTurn, HasCutSides, IsTrailItem, IsTrail, without_last_side, parent}
use Rattle.box_solver.specs.Trail.{other_half, waiting, undecided, MovesOn, is_first_half, waiting_count}

-- ---- items and turns

-- a variable isn't the number that stands in place of one
is_variable : (v : ℕ) → v < 64 → eqb v 64 ≡ false
is_variable v lt = ne_eqb v 64 (λ same. omega arith)

-- an item is one for its turn
pub turn-item : (turn : Turn) → IsTurn turn → turn_of (item_of turn) ≡ turn
turn-item (CutLeft v upper) h = ap (λ (b : Bool). cond b (NeLeft (unsigned_abs upper)) (CutLeft v upper)) (is_variable v h.0)
turn-item (CutRight v lower) h =
    ap (λ (b : Bool). cond b (NeRight (unsigned_abs lower)) (CutRight v lower)) (is_variable v h.0)
turn-item (NeLeft i) h = refl
turn-item (NeRight i) h = refl

-- an item more
pub trail-push : (b : PlainBounds) (trail : List TrailItem) (turn : Turn) → IsTurn turn → HasCutSides b turn
    → IsTrail b trail → IsTrail b (item_of turn ∷ trail)
trail-push b trail turn limits sides h =
    All-cons (IsTrailItem b) (item_of turn) trail (record {
      limits = subst IsTurn (sym (turn-item turn limits)) limits;
      sides = subst (HasCutSides b) (sym (turn-item turn limits)) sides;
    }) h

-- ---- the sides of bounds

-- what stood at a place put back
set_back : {X : Type 0} (xs : List X) (i : ℕ) (y d : X) → set (set xs i y) i (get_or xs i d) ≡ xs
set_back [] i y d = refl
set_back (x ∷ xs) zero y d = refl
set_back (x ∷ xs) (suc i) y d = ap (λ (ys : List _). x ∷ ys) (set_back xs i y d)

-- what holds of a new item and of the old ones
at_set : {X : Type 0} (P : X → Type 0) (xs : List X) (i k : ℕ) (y d : X) → P y → P (get_or xs k d)
    → P (get_or (set xs i y) k d)
at_set P [] i k y d new old = old
at_set P (x ∷ xs) zero zero y d new old = new
at_set P (x ∷ xs) zero (suc k) y d new old = old
at_set P (x ∷ xs) (suc i) zero y d new old = old
at_set P (x ∷ xs) (suc i) (suc k) y d new old = at_set P xs i k y d new old

-- what stands at a place that was there
at_new : (xs : List (Option ℤ)) (i : ℕ) (y : Option ℤ) (n : ℤ) → get_or xs i None ≡ Some n → get_or (set xs i y) i None ≡ y
at_new [] i y n h = absurd (cc)
at_new (x ∷ xs) zero y n h = refl
at_new (x ∷ xs) (suc i) y n h = at_new xs i y n h

-- no side of the first bounds is missing in the second
abbrev pub KeepsSides : PlainBounds → PlainBounds → Type 0
KeepsSides b c = (v : ℕ) → HasBothSides b v → HasBothSides c v

upper-kept : (b : PlainBounds) (v : ℕ) (n : ℤ)
    → KeepsSides b (record { lower = b.lower; upper = set b.upper v (Some n) })
upper-kept b v n w h = record {
  lower = h.lower;
  upper = at_set (λ (o : Option ℤ). is_some o ≡ true) b.upper v w (Some n) None refl h.upper;
}

lower-kept : (b : PlainBounds) (v : ℕ) (n : ℤ)
    → KeepsSides b (record { lower = set b.lower v (Some n); upper = b.upper })
lower-kept b v n w h = record {
  lower = at_set (λ (o : Option ℤ). is_some o ≡ true) b.lower v w (Some n) None refl h.lower;
  upper = h.upper;
}

-- a tighter side is one
tightened_upper : (o : Option ℤ) (n : ℤ) → tighter_upper o (Some n) ≡ Some (unwrap_or (tighter_upper o (Some n)) (pos 0))
tightened_upper None n = refl
tightened_upper (Some x) n = refl

tightened_lower : (o : Option ℤ) (n : ℤ) → tighter_lower o (Some n) ≡ Some (unwrap_or (tighter_lower o (Some n)) (pos 0))
tightened_lower None n = refl
tightened_lower (Some x) n = refl

left-kept : (b : PlainBounds) (v : ℕ) (cut : ℤ) → KeepsSides b (with_upper b v cut)
left-kept b v cut =
    subst (λ (o : Option ℤ). KeepsSides b (record { lower = b.lower; upper = set b.upper v o }))
    (sym (tightened_upper (upper_of b v) cut))
    (upper-kept b v (unwrap_or (tighter_upper (upper_of b v) (Some cut)) (pos 0)))

right-kept : (b : PlainBounds) (v : ℕ) (cut : ℤ) → KeepsSides b (with_lower b v cut)
right-kept b v cut =
    subst (λ (o : Option ℤ). KeepsSides b (record { lower = set b.lower v o; upper = b.upper }))
    (sym (tightened_lower (lower_of b v) cut))
    (lower-kept b v (unwrap_or (tighter_lower (lower_of b v) (Some cut)) (pos 0)))

pub parent-kept : (turn : Turn) (box : PlainBox) → KeepsSides box.bounds (parent turn box).bounds
parent-kept (CutLeft v upper) box = upper-kept box.bounds v upper
parent-kept (CutRight v lower) box = lower-kept box.bounds v lower
parent-kept (NeLeft i) box = λ w h. h
parent-kept (NeRight i) box = λ w h. h

pub parent-short : (turn : Turn) (box : PlainBox) → IsTurn turn → HasShortSides box.bounds
    → HasShortSides (parent turn box).bounds
parent-short (CutLeft v upper) box limits h = record {
  lower = h.lower;
  upper = λ w. at_set (λ (o : Option ℤ). IfSome o (λ n. unsigned_abs n ≤ 2 ^ 32)) box.bounds.upper v w (Some upper) None
      limits.1 (h.upper w);
}
parent-short (CutRight v lower) box limits h = record {
  lower = λ w. at_set (λ (o : Option ℤ). IfSome o (λ n. unsigned_abs n ≤ 2 ^ 32)) box.bounds.lower v w (Some lower) None
      limits.1 (h.lower w);
  upper = h.upper;
}
parent-short (NeLeft i) box limits h = h
parent-short (NeRight i) box limits h = h

-- a turn's sides are there as long as none goes missing
sides-kept : (b c : PlainBounds) (turn : Turn) → KeepsSides b c → HasCutSides b turn → HasCutSides c turn
sides-kept b c (CutLeft v upper) keeps h = keeps v h
sides-kept b c (CutRight v lower) keeps h = keeps v h
sides-kept b c (NeLeft i) keeps h = tt
sides-kept b c (NeRight i) keeps h = tt

pub trail-kept : (b c : PlainBounds) (trail : List TrailItem) → KeepsSides b c → IsTrail b trail → IsTrail c trail
trail-kept b c trail keeps h = λ k d lt. record {
  limits = (h k d lt).limits;
  sides = sides-kept b c (turn_of (get_or trail k d)) keeps (h k d lt).sides;
}

-- ---- going to the first half

-- the half below the cut ends at the cut
upper-cut : (b : PlainBounds) (v : ℕ) (lo hi cut : ℤ) → IsCut b v lo hi cut → upper_of (with_upper b v cut) v ≡ Some cut
upper-cut b v lo hi cut h =
    let same : int_min hi cut ≡ cut = omega (arith, ints, clamps, h.to) in
    at_new b.upper v (tighter_upper (upper_of b v) (Some cut)) hi h.upper
    ∙ ap (λ (o : Option ℤ). tighter_upper o (Some cut)) h.upper ∙ ap Some same

-- one turn more: the half that waits, and what waits behind the box that was split
pub waiting-more : (trail : List TrailItem) (turn : Turn) (box new : PlainBox) (half : List PlainBox) → IsTurn turn
    → parent turn new ≡ box → other_half turn new ≡ half → waiting (item_of turn ∷ trail) new ≡ half ++ waiting trail box
unfolding waiting
waiting-more trail turn box new half limits back other =
    ap (λ (t : Turn). other_half t new ++ waiting trail (parent t new)) (turn-item turn limits)
    ∙ ap (λ (bs : List PlainBox). bs ++ waiting trail (parent turn new)) other
    ∙ ap (λ (b : PlainBox). half ++ waiting trail b) back

pub cut-boxes : (trail : List TrailItem) (box : PlainBox) (v : ℕ) (lo hi cut : ℤ) → IsCut box.bounds v lo hi cut
    → unsigned_abs hi ≤ 2 ^ 32 → undecided (item_of (CutLeft v hi) ∷ trail) (left_half box v cut)
    ≡ left_half box v cut ∷ right_half box v cut ∷ waiting trail box
cut-boxes trail box v lo hi cut h small =
    let turn = CutLeft v hi in
    let left = left_half box v cut in
    let back : parent turn left ≡ box = ap (λ (o : Option ℤ). record {
      bounds = record {
        lower = box.bounds.lower;
        upper = set (set box.bounds.upper v (tighter_upper (upper_of box.bounds v) (Some cut))) v o;
      };
      sides = box.sides;
    }) (sym h.upper)
    ∙ ap (λ (xs : List (Option ℤ)). record {
      bounds = record { lower = box.bounds.lower; upper = xs };
      sides = box.sides;
    }) (set_back box.bounds.upper v (tighter_upper (upper_of box.bounds v) (Some cut)) None) in
    let at_cut : upper_or_zero left.bounds v ≡ cut = ap (λ (o : Option ℤ). unwrap_or o (pos 0))
    (upper-cut box.bounds v lo hi cut h) in
    ap (λ (bs : List PlainBox). left ∷ bs)
    (waiting-more trail turn box left (right_half box v cut ∷ []) (h.below, small) back
    (ap (λ (b : PlainBox). right_half b v (upper_or_zero left.bounds v) ∷ []) back
    ∙ ap (λ (n : ℤ). right_half box v n ∷ []) at_cut))

pub cut-trail : (trail : List TrailItem) (b : PlainBounds) (v : ℕ) (lo hi cut : ℤ) → IsCut b v lo hi cut
    → unsigned_abs hi ≤ 2 ^ 32 → IsTrail b trail → IsTrail (with_upper b v cut) (item_of (CutLeft v hi) ∷ trail)
cut-trail trail b v lo hi cut h small before =
    trail-push (with_upper b v cut) trail (CutLeft v hi) (h.below, small) (left-kept b v cut v (record {
      lower = ap is_some h.lower;
      upper = ap is_some h.upper;
    })) (trail-kept b (with_upper b v cut) trail (left-kept b v cut) before)

-- the same, from what the code says of the values that it passes on
pub cut-enters : (trail trail' : List TrailItem) (box at : PlainBox) (v : ℕ) (lo hi cut upper passed : ℤ)
    (item : TrailItem) (bounds : PlainBounds) → at ≡ box → IsCut box.bounds v lo hi cut
    → upper ≡ upper_or_zero at.bounds v → unsigned_abs upper ≤ 2 ^ 32 → item ≡ item_of (CutLeft v upper)
    → trail' ≡ item ∷ trail → passed ≡ cut → bounds ≡ with_upper at.bounds v passed
    → undecided trail' (record { bounds = bounds; sides = at.sides })
    ≡ left_half box v cut ∷ right_half box v cut ∷ waiting trail box
cut-enters trail trail' box at v lo hi cut upper passed item bounds same h up small is pushed pass lowered =
    let same_upper : upper ≡ hi = up ∙ ap (λ (b : PlainBox). upper_or_zero b.bounds v) same
    ∙ ap (λ (o : Option ℤ). unwrap_or o (pos 0)) h.upper in
    let trail_is : trail' ≡ item_of (CutLeft v hi) ∷ trail = pushed
    ∙ ap (λ (i : TrailItem). i ∷ trail) (is ∙ ap (λ (n : ℤ). item_of (CutLeft v n)) same_upper) in
    let new_is = ap (λ (b : PlainBounds). record { bounds = b; sides = at.sides }) lowered
    ∙ ap (λ (n : ℤ). left_half at v n) pass ∙ ap (λ (b : PlainBox). left_half b v cut) same in
    ap (λ (t : List TrailItem). undecided t (record { bounds = bounds; sides = at.sides })) trail_is
    ∙ ap (undecided (item_of (CutLeft v hi) ∷ trail)) new_is
    ∙ cut-boxes trail box v lo hi cut h (subst (λ (n : ℤ). unsigned_abs n ≤ 2 ^ 32) same_upper small)

-- the front of a list with an item more
take_front : {X : Type 0} (xs : List X) (x : X) → take (length (xs ++ x ∷ []) - 1) (xs ++ x ∷ []) ≡ xs
take_front xs x =
    ap (λ (n : ℕ). take n (xs ++ x ∷ [])) (omega (arith, length-append xs (x ∷ []))) ∙ take-append_seam xs (x ∷ [])

pub without-on_side : (box : PlainBox) (i : ℕ) (upper : Bool) → without_last_side (on_side box i upper) ≡ box
without-on_side box i upper =
    ap (λ (xs : List Side). record { bounds = box.bounds; sides = xs })
    (take_front box.sides (record { atom = i; upper = upper }))

pub ne-boxes : (trail : List TrailItem) (box : PlainBox) (i : ℕ) → i < 384
    → undecided (item_of (NeLeft i) ∷ trail) (on_side box i false)
    ≡ on_side box i false ∷ on_side box i true ∷ waiting trail box
ne-boxes trail box i lt =
    ap (λ (bs : List PlainBox). on_side box i false ∷ bs)
    (waiting-more trail (NeLeft i) box (on_side box i false) (on_side box i true ∷ []) lt (without-on_side box i false)
    (ap (λ (b : PlainBox). on_side b i true ∷ []) (without-on_side box i false)))

-- the same, from what the code says
pub ne-enters : (trail trail' : List TrailItem) (box at : PlainBox) (i : ℕ) (item : TrailItem) (sides : List Side)
    → at ≡ box → i < 384 → item ≡ item_of (NeLeft i) → trail' ≡ item ∷ trail
    → sides ≡ at.sides ++ record { atom = i; upper = false } ∷ []
    → undecided trail' (record { bounds = at.bounds; sides = sides })
    ≡ on_side box i false ∷ on_side box i true ∷ waiting trail box
ne-enters trail trail' box at i item sides same lt is pushed added =
    let trail_is : trail' ≡ item_of (NeLeft i) ∷ trail = pushed ∙ ap (λ (j : TrailItem). j ∷ trail) is in
    let new_is = ap (λ (ss : List Side). record { bounds = at.bounds; sides = ss }) added
    ∙ ap (λ (b : PlainBox). on_side b i false) same in
    ap (λ (t : List TrailItem). undecided t (record { bounds = at.bounds; sides = sides })) trail_is
    ∙ ap (undecided (item_of (NeLeft i) ∷ trail)) new_is ∙ ne-boxes trail box i lt

-- ---- going on

-- from the half below a cut to the half above
pub cut-MovesOn : (box new : PlainBox) (v : ℕ) (upper : ℤ) → HasBothSides box.bounds v
    → new ≡ right_half (parent (CutLeft v upper) box) v (upper_or_zero box.bounds v)
    → MovesOn (CutLeft v upper) (Some (CutRight v (lower_or_zero box.bounds v))) box new
cut-MovesOn box new v upper both is =
    let whole = parent (CutLeft v upper) box in
    let cut = upper_or_zero box.bounds v in
    let low = (sides-of box.bounds v both).0 in (
      ap (λ (b : PlainBox). b ∷ []) (sym is),
      ap (parent (CutRight v (lower_or_zero box.bounds v))) is
          ∙ ap (λ (o : Option ℤ). record {
            bounds = record {
              lower = set (set whole.bounds.lower v (tighter_lower (lower_of whole.bounds v) (Some (cut +ℤ pos 1)))) v o;
              upper = whole.bounds.upper;
            };
            sides = whole.sides;
          }) (sym low)
          ∙ ap (λ (xs : List (Option ℤ)). record {
            bounds = record { lower = xs; upper = whole.bounds.upper };
            sides = whole.sides;
          }) (set_back whole.bounds.lower v (tighter_lower (lower_of whole.bounds v) (Some (cut +ℤ pos 1))) None),
      refl,
    )

-- the same, from what the code says
pub cut-moved : (turn next : Turn) (box new : PlainBox) (v : ℕ) (upper passed : ℤ) → turn ≡ CutLeft v upper
    → HasCutSides box.bounds turn → next ≡ CutRight v (lower_or_zero box.bounds v) → passed ≡ upper
    → new ≡ right_half (parent (CutLeft v passed) box) v (upper_or_zero box.bounds v)
    → MovesOn turn (Some next) box new × HasCutSides new.bounds next
cut-moved turn next box new v upper passed is sides next_is pass after =
    let both : HasBothSides box.bounds v = subst (HasCutSides box.bounds) is sides in
    let new_is : new ≡ right_half (parent (CutLeft v upper) box) v (upper_or_zero box.bounds v) = after
    ∙ ap (λ (n : ℤ). right_half (parent (CutLeft v n) box) v (upper_or_zero box.bounds v)) pass in (
      subst (λ (t : Turn). MovesOn t (Some next) box new) (sym is)
          (subst (λ (t : Turn). MovesOn (CutLeft v upper) (Some t) box new) (sym next_is)
          (cut-MovesOn box new v upper both new_is)),
      subst (HasCutSides new.bounds) (sym next_is) (subst (λ (b : PlainBox). HasBothSides b.bounds v) (sym new_is)
          (right-kept (parent (CutLeft v upper) box).bounds v (upper_or_zero box.bounds v +ℤ pos 1) v
          (parent-kept (CutLeft v upper) box v both))),
    )

pub ne-MovesOn : (turn next : Turn) (box new : PlainBox) (i : ℕ) → turn ≡ NeLeft i → next ≡ NeRight i
    → new ≡ on_side (without_last_side box) i true → MovesOn turn (Some next) box new
ne-MovesOn turn next box new i is next_is new_is =
    subst (λ (t : Turn). MovesOn t (Some next) box new) (sym is)
    (subst (λ (t : Turn). MovesOn (NeLeft i) (Some t) box new) (sym next_is) (
      ap (λ (b : PlainBox). b ∷ []) (sym new_is),
      ap without_last_side new_is ∙ without-on_side (without_last_side box) i true,
      refl,
    ))

-- where no other half waits
pub waiting-back : (trail : List TrailItem) (item : TrailItem) (box new : PlainBox) → MovesOn (turn_of item) None box new
    → waiting trail new ≡ waiting (item ∷ trail) box
unfolding waiting
waiting-back trail item box new moved =
    ap (waiting trail) moved.1
    ∙ ap (λ (bs : List PlainBox). bs ++ waiting trail (parent (turn_of item) box)) (sym moved.0)

-- where one does
pub waiting-over : (trail : List TrailItem) (item : TrailItem) (next : Turn) (box new : PlainBox) → IsTurn next
    → MovesOn (turn_of item) (Some next) box new → undecided (item_of next ∷ trail) new ≡ waiting (item ∷ trail) box
unfolding waiting
waiting-over trail item next box new limits moved =
    ap (λ (bs : List PlainBox). new ∷ bs)
    (waiting-more trail next (parent (turn_of item) box) new [] limits moved.1 moved.2)
    ∙ ap (λ (bs : List PlainBox). bs ++ waiting trail (parent (turn_of item) box)) (sym moved.0)

pub waiting-none : (trail : List TrailItem) (box : PlainBox) → trail ≡ [] → waiting trail box ≡ []
unfolding waiting
waiting-none trail box none = ap (λ (t : List TrailItem). waiting t box) none

-- the trail fits the other half too
pub moved-kept : (turn next : Turn) (box new : PlainBox) → MovesOn turn (Some next) box new
    → KeepsSides box.bounds new.bounds
moved-kept (CutLeft v upper) next box new moved =
    let is : right_half (parent (CutLeft v upper) box) v (upper_or_zero box.bounds v) ≡ new = cc (moved.0) in
    subst (λ (b : PlainBox). KeepsSides box.bounds b.bounds) is
    (λ w h. right-kept (parent (CutLeft v upper) box).bounds v (upper_or_zero box.bounds v +ℤ pos 1) w
    (parent-kept (CutLeft v upper) box w h))
moved-kept (CutRight v lower) next box new moved = let none = moved.0 in absurd (cc)
moved-kept (NeLeft i) next box new moved =
    let is : on_side (without_last_side box) i true ≡ new = cc (moved.0) in
    subst (λ (b : PlainBox). KeepsSides box.bounds b.bounds) is (λ w h. h)
moved-kept (NeRight i) next box new moved = let none = moved.0 in absurd (cc)

-- an item that was taken off
pub popped : (b : PlainBounds) (old trail : List TrailItem) (item : TrailItem) → old ≡ item ∷ trail → IsTrail b old
    → IsTrailItem b item × IsTrail b trail
popped b old trail item is h =
    let before : IsTrail b (item ∷ trail) = subst (IsTrail b) is h in
    (All-head (IsTrailItem b) item trail before, All-tail (IsTrailItem b) item trail before)

-- ---- how many boxes wait

first_half-waits : (item : TrailItem) (box : PlainBox) → length (other_half (turn_of item) box)
    ≡ waiting_count (item ∷ [])
first_half-waits (v, n, right) box =
    by_flag (eqb v 64) right
  where
    by_flag : (b r : Bool) → length (other_half (cond b (cond r (NeRight (unsigned_abs n)) (NeLeft (unsigned_abs n)))
        (cond r (CutRight v n) (CutLeft v n))) box) ≡ waiting_count ((v, n, r) ∷ [])
    by_flag true true = refl
    by_flag true false = refl
    by_flag false true = refl
    by_flag false false = refl

pub waiting-length : (trail : List TrailItem) (box : PlainBox) → length (waiting trail box) ≡ waiting_count trail
unfolding waiting
waiting-length [] box = refl
waiting-length (item ∷ trail) box =
    length-append (other_half (turn_of item) box) (waiting trail (parent (turn_of item) box))
    ∙ ap (λ (n : ℕ). n + length (waiting trail (parent (turn_of item) box))) (first_half-waits item box)
    ∙ ap (λ (n : ℕ). waiting_count (item ∷ []) + n) (waiting-length trail (parent (turn_of item) box))
    ∙ sym (sum_by-append (λ i. cond (is_first_half i) 1 0) (item ∷ []) trail)
