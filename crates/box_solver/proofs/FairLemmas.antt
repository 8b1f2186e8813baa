-- The node that a box asks for is fair, where no one atom closes the box.
use Rattle.std.proofs.Common.{◌≡◌, ◌≢◌, ℕ, ◌+◌, ◌<◌, ◌≤◌, ℤ, Bool, true, false, cond, Option, Some, None, List, [], ◌∷◌}
use Rattle.std.proofs.Common.{slice_get, get_or, eqb, refl, ap, sym, ◌∙◌, subst, arith}
use Rattle.std.specs.List.{All, list_any}
use Rattle.std.specs.Option.{option_map_or}
use Rattle.std.proofs.lemmas.Bool.{eqb-false, eq-eqb, both_ways, false_from_ne_true}
use Rattle.std.proofs.lemmas.List.Folds.{list_any_at}
use Rattle.lin_model.specs.Form.{form_width}
use Rattle.lin_model.specs.KeyAtom.{PlainKeyAtom}
use Rattle.lin_model.specs.Key.{key_width}
use Rattle.lin_model.specs.Facts.{key_width-above}
use Rattle.lin_model.specs.Lists.{All-at}
use Rattle.refutation.specs.declared.node.Node.{Node}
use Rattle.refutation.specs.declared.node.Node.TheVariants.{Split, NeSplit}
use Rattle.refutation.specs.declared.side.Side.{Side}
use Rattle.refutation.specs.Bounds.{is_empty}
use Rattle.refutation.specs.Box.{PlainBox, is_ne}
use Rattle.refutation.specs.Boxed.{IsBoxedIn, IsCut}
use Rattle.refutation.specs.Laws.{CutsLeaveProperHalves}
use Rattle.refutation.specs.Leaf.{fixed, empty, fixed_closes, ClosedByOneAtom}
use Rattle.refutation.specs.Reading.{names_ne}
use Rattle.refutation.specs.SearchOrder.{lowest_corner, was_split, Numbered, step, widest, middle, split_in_half, split_by}
use Rattle.refutation.specs.SearchOrder.{first_raising, first_lowering, node_for}
use Rattle.box_solver.specs.Steps.{SplitsFairly}
use Rattle.box_solver.proofs.CutLemmas.{IsBetween, IsSplitBetween, raised-between, lowered-between}
use Rattle.box_solver.proofs.OrderLemmas.{passes_at, failing-at, step-some}
use Rattle.box_solver.proofs.WidestLemmas.{widest-between}

-- what is known of a box of the search that isn't closed, and of the first atom that its corner fails
record Failing (key : List PlainKeyAtom) (box : PlainBox) (f : Numbered) : Type 0 where
  narrow : key_width key ≤ 64
  boxed : IsBoxedIn key box.bounds
  full : is_empty box.bounds ≡ false
  there : slice_get key f.number ≡ Some f.atom
  within : form_width f.atom.form ≤ key_width key
  fails : passes_at f.atom (lowest_corner key box.bounds) ≡ false
  no_value : ¬ (fixed_closes key box.bounds f.number ≡ true)

-- ---- a split by a cut

cut-fair : CutsLeaveProperHalves → (key : List PlainKeyAtom) (box : PlainBox) (v : ℕ) (n : ℤ) → key_width key ≤ 64
    → is_empty box.bounds ≡ false → v < key_width key → IsBetween box.bounds v n → SplitsFairly key box (Split v n)
cut-fair leave key box v n narrow full lt h =
    let is_cut : IsCut box.bounds v h.lo h.hi n = record {
      below = omega arith;
      lower = h.lower;
      upper = h.upper;
      from = h.from;
      to = h.to;
    } in
    let proper = leave box.bounds v h.lo h.hi n is_cut in
    record {
      lo = h.lo;
      hi = h.hi;
      fair = record { of_key = lt; left = proper.left_full full; right = proper.right_full full };
      between = is_cut;
    }

between-fair : CutsLeaveProperHalves → (key : List PlainKeyAtom) (box : PlainBox) (width : ℕ) (node : Node)
    → key_width key ≤ 64 → is_empty box.bounds ≡ false → width ≤ key_width key → IsSplitBetween box.bounds width node
    → SplitsFairly key box node
between-fair leave key box width node narrow full within h =
    subst (SplitsFairly key box) (sym h.is)
    (cut-fair leave key box h.var h.at narrow full (omega (arith, h.below)) h.between)

half-fair : CutsLeaveProperHalves → (key : List PlainKeyAtom) (box : PlainBox) (f : Numbered) → Failing key box f
    → SplitsFairly key box (split_in_half box.bounds f.atom.form)
half-fair leave key box f h =
    let w = widest-between key box.bounds f.number f.atom h.narrow h.boxed h.full h.there h.within h.fails
    h.no_value in
    cut-fair leave key box (widest box.bounds f.atom.form) (middle box.bounds (widest box.bounds f.atom.form)) h.narrow
    h.full w.0 w.1

by-fair : CutsLeaveProperHalves → (key : List PlainKeyAtom) (box : PlainBox) (f : Numbered) → Failing key box f
    → SplitsFairly key box (split_by box.bounds f.atom)
by-fair leave key box f h =
    by_raising (first_raising box.bounds f.atom) refl
  where
    by_lowering : (o : Option Node) → first_lowering box.bounds f.atom ≡ o
        → SplitsFairly key box (option_map_or (λ n. n) o (split_in_half box.bounds f.atom.form))
    by_lowering None is = half-fair leave key box f h
    by_lowering (Some n) is =
        between-fair leave key box (form_width f.atom.form) n h.narrow h.full h.within
        (lowered-between box.bounds f.atom n is)

    by_raising : (o : Option Node) → first_raising box.bounds f.atom ≡ o
        → SplitsFairly key box (option_map_or (λ n. n) o (option_map_or (λ n. n) (first_lowering box.bounds f.atom)
        (split_in_half box.bounds f.atom.form)))
    by_raising None is = by_lowering (first_lowering box.bounds f.atom) refl
    by_raising (Some n) is =
        between-fair leave key box (form_width f.atom.form) n h.narrow h.full h.within
        (raised-between box.bounds f.atom n is)

-- ---- a split by an atom `form != c`

-- no split above the box is by the atom
fresh : (box : PlainBox) (i : ℕ) → was_split box i ≡ false → All (λ side. side.atom ≢ i) box.sides
fresh box i none = λ k d lt same. both_ways (was_split box i) none
    (list_any_at (λ (side : Side). eqb side.atom i) box.sides k d lt (eq-eqb (get_or box.sides k d).atom i same))

ne-fair : (key : List PlainKeyAtom) (box : PlainBox) (f : Numbered) → Failing key box f → is_ne f.atom ≡ true
    → was_split box f.number ≡ false → SplitsFairly key box (NeSplit f.number)
ne-fair key box f h ne none = record {
  fair = fresh box f.number none;
  of_key = ap (λ (o : Option PlainKeyAtom). option_map_or is_ne o false) h.there ∙ ne;
}

-- ---- either

node-fair : CutsLeaveProperHalves → (key : List PlainKeyAtom) (box : PlainBox) (f : Numbered) → Failing key box f
    → SplitsFairly key box (node_for box f)
node-fair leave key box f h =
    by_op (is_ne f.atom) refl
  where
    by_above : is_ne f.atom ≡ true → (b : Bool) → was_split box f.number ≡ b
        → SplitsFairly key box (cond b (split_in_half box.bounds f.atom.form) (NeSplit f.number))
    by_above ne true is = half-fair leave key box f h
    by_above ne false is = ne-fair key box f h ne is

    by_op : (b : Bool) → is_ne f.atom ≡ b
        → SplitsFairly key box (cond b (cond (was_split box f.number) (split_in_half box.bounds f.atom.form)
        (NeSplit f.number)) (split_by box.bounds f.atom))
    by_op true ne = by_above ne (was_split box f.number) refl
    by_op false ne = by-fair leave key box f h

pub step-fair : CutsLeaveProperHalves → (key : List PlainKeyAtom) (box : PlainBox) (node : Node)
    → key_width key ≤ 64 → IsBoxedIn key box.bounds → ¬ ClosedByOneAtom key box → step key box ≡ Some node
    → SplitsFairly key box node
step-fair leave key box node narrow boxed open_ h =
    let for' = step-some key box node h in
    let f = for'.first in
    let at = failing-at 0 key (lowest_corner key box.bounds) f for'.is_first in
    let place : f.number ≡ at.place = omega (arith, at.counted) in
    let there : slice_get key f.number ≡ Some f.atom = ap (slice_get key) place ∙ at.there in
    subst (SplitsFairly key box) for'.is (node-fair leave key box f (record {
      narrow = narrow;
      boxed = boxed;
      full = false_from_ne_true (is_empty box.bounds) (λ is. open_ (empty, refl, is));
      there = there;
      within = All-at (λ a. form_width a.form ≤ key_width key) key f.number f.atom (key_width-above key) there;
      fails = at.fails;
      no_value = λ is. open_ (fixed f.number, refl, is);
    }))
