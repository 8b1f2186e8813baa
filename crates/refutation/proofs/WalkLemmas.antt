-- The walk's turns lead back to the boxes that they left.
use Rattle.std.proofs.Common.{◌≡◌, ℕ, zero, suc, ◌-◌, ℤ, pos, ◌+ℤ◌, Bool, true, false, Option, Some, None, List, []}
use Rattle.std.proofs.Common.{◌∷◌, ◌++◌, length, get_or, set, take, reverse, refl, ap, sym, ◌∙◌, arith}
use Rattle.std.proofs.Math.Seq.{take-append_seam}
use Rattle.std.proofs.lemmas.List.{reverse-append, length-append}
use Rattle.refutation.specs.declared.side.Side.{Side}
use Rattle.refutation.specs.declared.turn.Turn.{Turn}
use Rattle.refutation.specs.declared.turn.Turn.TheVariants.{SplitLeft, SplitRight, NeLeft}
use Rattle.refutation.specs.Bounds.{PlainBounds, lower_of, upper_of, tighter_lower, tighter_upper}
use Rattle.refutation.specs.Bounds.{with_lower, with_upper}
use Rattle.refutation.specs.Box.{PlainBox, left_half, right_half, on_side}
use Rattle.refutation.specs.Walk.{parent, other_half, MovesOn, waiting, undecided, without_last_side}

-- what stood at a place put back
set_back : {X : Type 0} (xs : List X) (i : ℕ) (y d : X) → set (set xs i y) i (get_or xs i d) ≡ xs
set_back [] i y d = refl
set_back (x ∷ xs) zero y d = refl
set_back (x ∷ xs) (suc i) y d = ap (λ (ys : List _). x ∷ ys) (set_back xs i y d)

-- to the right half of a split
pub split-MovesOn : (turn : Turn) (bounds new : PlainBounds) (sides : List Side) (v : ℕ) (cut to : ℤ)
    (upper lower : Option ℤ) → turn ≡ SplitLeft v cut upper → to ≡ cut +ℤ pos 1 → new ≡ with_lower bounds v to
    → lower ≡ lower_of bounds v → MovesOn turn (Some (SplitRight v lower)) (record { bounds = bounds; sides = sides })
    (record { bounds = new; sides = sides })
split-MovesOn turn bounds new sides v cut to upper lower is one_more after before = (
  ap (λ (t : Turn). other_half t (record { bounds = bounds; sides = sides })) is
      ∙ ap (λ (n : ℤ). record { bounds = with_lower bounds v n; sides = sides } ∷ []) (sym one_more)
      ∙ ap (λ (b : PlainBounds). record { bounds = b; sides = sides } ∷ []) (sym after),
  ap (λ (b : PlainBounds). record { bounds = record { lower = set b.lower v lower; upper = b.upper }; sides = sides })
      after
      ∙ ap (λ (o : Option ℤ). record {
        bounds = record {
          lower = set (set bounds.lower v (tighter_lower (lower_of bounds v) (Some to))) v o;
          upper = bounds.upper;
        };
        sides = sides;
      }) before
      ∙ ap (λ (xs : List (Option ℤ)). record { bounds = record { lower = xs; upper = bounds.upper }; sides = sides })
      (set_back bounds.lower v (tighter_lower (lower_of bounds v) (Some to)) None),
  refl,
)

-- ---- the turns as a list of boxes

take_front : {X : Type 0} (xs : List X) (x : X) → take (length (xs ++ x ∷ []) - 1) (xs ++ x ∷ []) ≡ xs
take_front xs x =
    ap (λ (n : ℕ). take n (xs ++ x ∷ [])) (omega (arith, length-append xs (x ∷ []))) ∙ take-append_seam xs (x ∷ [])

-- one turn more, from the box that it leads back to
pub waiting-push : (turns : List Turn) (turn : Turn) (box new : PlainBox) (half : List PlainBox) → parent turn new ≡ box
    → other_half turn box ≡ half → waiting (reverse (turns ++ turn ∷ [])) new ≡ half ++ waiting (reverse turns) box
unfolding waiting
waiting-push turns turn box new half back other =
    ap (λ (ts : List Turn). waiting ts new) (reverse-append turns (turn ∷ []))
    ∙ ap (λ (b : PlainBox). other_half turn b ++ waiting (reverse turns) b) back
    ∙ ap (λ (bs : List PlainBox). bs ++ waiting (reverse turns) box) other

pub waiting-none : (turns : List Turn) (box : PlainBox) → turns ≡ [] → waiting (reverse turns) box ≡ []
unfolding waiting
waiting-none turns box none = ap (λ (ts : List Turn). waiting (reverse ts) box) none

-- an undecided list that has a first box is open there
pub undecided-open : (open_ : Bool) (turns : List Turn) (at box : PlainBox) (rest : List PlainBox)
    → undecided open_ turns at ≡ box ∷ rest → (open_ ≡ true) × (at ≡ box) × (waiting (reverse turns) at ≡ rest)
undecided-open false turns at box rest h = absurd (cc)
undecided-open true turns at box rest h = (refl, cc, cc)

-- a split by a cut, and one by an atom `form != c`
pub undecided-split : (open_ : Bool) (turns : List Turn) (at new box : PlainBox) (rest : List PlainBox) (turn : Turn)
    (half : PlainBox) → undecided open_ turns at ≡ box ∷ rest → parent turn new ≡ at → other_half turn at ≡ half ∷ []
    → undecided open_ (turns ++ turn ∷ []) new ≡ new ∷ half ∷ rest
undecided-split open_ turns at new box rest turn half before back other =
    let was = undecided-open open_ turns at box rest before in
    ap (λ (b : Bool). undecided b (turns ++ turn ∷ []) new) was.0
    ∙ ap (λ (bs : List PlainBox). new ∷ bs) (waiting-push turns turn at new (half ∷ []) back other
    ∙ ap (λ (bs : List PlainBox). half ∷ bs) was.2)

pub parent-split : (box : PlainBox) (v : ℕ) (cut : ℤ)
    → parent (SplitLeft v cut (upper_of box.bounds v)) (left_half box v cut) ≡ box
parent-split box v cut =
    ap (λ (xs : List (Option ℤ)). record {
      bounds = record { lower = box.bounds.lower; upper = xs };
      sides = box.sides;
    }) (set_back box.bounds.upper v (tighter_upper (upper_of box.bounds v) (Some cut)) None)

pub parent-on_side : (box : PlainBox) (turn : Turn) (side : Side)
    → ((b : PlainBox) → parent turn b ≡ without_last_side b)
    → parent turn (record { bounds = box.bounds; sides = box.sides ++ side ∷ [] }) ≡ box
parent-on_side box turn side drops =
    drops (record { bounds = box.bounds; sides = box.sides ++ side ∷ [] })
    ∙ ap (λ (xs : List Side). record { bounds = box.bounds; sides = xs }) (take_front box.sides side)

-- the walk's step back: no other half waits, or it is the box at hand
pub waiting-back : (turns before : List Turn) (turn : Turn) (at box new : PlainBox) (whole : List PlainBox)
    → before ≡ turns ++ turn ∷ [] → box ≡ parent turn at → MovesOn turn None box new
    → waiting (reverse before) at ≡ whole → waiting (reverse turns) new ≡ whole
waiting-back turns before turn at box new whole popped undone moved h =
    ap (waiting (reverse turns)) moved.1
    ∙ sym (ap (λ (ts : List Turn). waiting (reverse ts) at) popped
    ∙ waiting-push turns turn box at [] (sym undone) moved.0) ∙ h

pub waiting-over : (turns before : List Turn) (turn next : Turn) (at box new : PlainBox) (whole : List PlainBox)
    → before ≡ turns ++ turn ∷ [] → box ≡ parent turn at → MovesOn turn (Some next) box new
    → waiting (reverse before) at ≡ whole → undecided true (turns ++ next ∷ []) new ≡ whole
waiting-over turns before turn next at box new whole popped undone moved h =
    ap (λ (bs : List PlainBox). new ∷ bs) (waiting-push turns next box new [] moved.1 moved.2)
    ∙ sym (ap (λ (ts : List Turn). waiting (reverse ts) at) popped
    ∙ waiting-push turns turn box at (new ∷ []) (sym undone) moved.0) ∙ h

-- ---- what the walk's calls do to the list

pub walk-split : (open_ : Bool) (turns turns' : List Turn) (bounds bounds' : PlainBounds) (sides : List Side)
    (box : PlainBox) (rest : List PlainBox) (v : ℕ) (cut : ℤ) (upper : Option ℤ) → upper ≡ upper_of bounds v
    → turns' ≡ turns ++ SplitLeft v cut upper ∷ [] → bounds' ≡ with_upper bounds v cut
    → undecided open_ turns (record { bounds = bounds; sides = sides }) ≡ box ∷ rest
    → undecided open_ turns' (record { bounds = bounds'; sides = sides })
    ≡ left_half box v cut ∷ right_half box v cut ∷ rest
walk-split open_ turns turns' bounds bounds' sides box rest v cut upper was pushed lowered before =
    let at : PlainBox = record { bounds = bounds; sides = sides } in
    ap (λ (ts : List Turn). undecided open_ ts (record { bounds = bounds'; sides = sides }))
    (pushed ∙ ap (λ (o : Option ℤ). turns ++ SplitLeft v cut o ∷ []) was)
    ∙ ap (λ (b : PlainBounds). undecided open_ (turns ++ SplitLeft v cut (upper_of bounds v) ∷ [])
    (record { bounds = b; sides = sides })) lowered
    ∙ undecided-split open_ turns at (left_half at v cut) box rest (SplitLeft v cut (upper_of bounds v))
    (right_half at v cut) before (parent-split at v cut) refl
    ∙ ap (λ (b : PlainBox). left_half b v cut ∷ right_half b v cut ∷ rest)
    (undecided-open open_ turns at box rest before).1

pub walk-split_ne : (open_ : Bool) (turns turns' : List Turn) (bounds : PlainBounds) (sides sides' : List Side)
    (box : PlainBox) (rest : List PlainBox) (i : ℕ) → turns' ≡ turns ++ NeLeft i ∷ [] → sides' ≡ sides
    ++ record { atom = i; upper = false } ∷ [] → undecided open_ turns (record { bounds = bounds; sides = sides })
    ≡ box ∷ rest → undecided open_ turns' (record { bounds = bounds; sides = sides' })
    ≡ on_side box i false ∷ on_side box i true ∷ rest
walk-split_ne open_ turns turns' bounds sides sides' box rest i pushed added before =
    let at : PlainBox = record { bounds = bounds; sides = sides } in
    ap (λ (ts : List Turn). undecided open_ ts (record { bounds = bounds; sides = sides' })) pushed
    ∙ ap (λ (ss : List Side). undecided open_ (turns ++ NeLeft i ∷ []) (record { bounds = bounds; sides = ss })) added
    ∙ undecided-split open_ turns at (on_side at i false) box rest (NeLeft i) (on_side at i true) before
    (parent-on_side at (NeLeft i) (record { atom = i; upper = false }) (λ b. refl)) refl
    ∙ ap (λ (b : PlainBox). on_side b i false ∷ on_side b i true ∷ rest)
    (undecided-open open_ turns at box rest before).1

pub walk-new : (turns : List Turn) (bounds : PlainBounds) (sides : List Side) → turns ≡ [] → sides ≡ []
    → undecided true turns (record { bounds = bounds; sides = sides }) ≡ record { bounds = bounds; sides = [] } ∷ []
walk-new turns bounds sides no_turn no_side =
    ap (λ (bs : List PlainBox). record { bounds = bounds; sides = sides } ∷ bs)
    (waiting-none turns (record { bounds = bounds; sides = sides }) no_turn)
    ∙ ap (λ (ss : List Side). record { bounds = bounds; sides = ss } ∷ []) no_side
