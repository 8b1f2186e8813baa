-- The first atom that the lowest corner fails, and the node that the order of the search gives a box for it.
use Rattle.std.proofs.Common.{◌≡◌, ℕ, zero, suc, ◌+◌, ℤ, Bool, true, false, cond, Option, Some, None, List, [], ◌∷◌}
use Rattle.std.proofs.Common.{slice_get, refl, ap, sym, ◌∙◌, arith}
use Rattle.std.specs.Option.{option_map}
use Rattle.std.proofs.lemmas.Bool.{both_ways}
use Rattle.std.proofs.lemmas.List.Elements.{All-nil, All-cons}
use Rattle.lin_model.specs.Form.{form_value}
use Rattle.lin_model.specs.KeyAtom.{PlainKeyAtom, KeyAtomHolds}
use Rattle.lin_model.specs.Key.{KeyHolds}
use Rattle.lin_model.specs.Lists.{All-at}
use Rattle.lin_model.specs.Test.{passes}
use Rattle.refutation.specs.declared.node.Node.{Node}
use Rattle.refutation.specs.Box.{PlainBox}
use Rattle.refutation.specs.SearchOrder.{lowest_corner, Numbered, first_failing, node_for, step}

-- the atom passes at the point
abbrev pub passes_at : PlainKeyAtom → List ℤ → Bool
passes_at a point = passes a.op a.constant (form_value a.form point)

-- ---- the first atom that a point fails

-- it stands in the list, numbered from i, and fails
pub record FailsAt (i : ℕ) (atoms : List PlainKeyAtom) (point : List ℤ) (f : Numbered) : Type 0 where
  pub place : ℕ
  pub counted : f.number ≡ i + place
  pub there : slice_get atoms place ≡ Some f.atom
  pub fails : passes_at f.atom point ≡ false

pub failing-at : (i : ℕ) (atoms : List PlainKeyAtom) (point : List ℤ) (f : Numbered)
    → first_failing i atoms point ≡ Some f → FailsAt i atoms point f
failing-at i [] point f h = absurd (cc)
failing-at i (a ∷ atoms) point f h =
    by_test (λ later. failing-at (suc i) atoms point f later) (passes_at a point) refl h
  where
    by_test : (first_failing (suc i) atoms point ≡ Some f → FailsAt (suc i) atoms point f) → (b : Bool)
        → passes_at a point ≡ b
        → cond b (first_failing (suc i) atoms point) (Some (record { number = i; atom = a })) ≡ Some f
        → FailsAt i (a ∷ atoms) point f
    by_test later true is h' =
        let rest = later h' in
        record {
          place = suc rest.place;
          counted = omega (arith, rest.counted);
          there = rest.there;
          fails = rest.fails;
        }
    by_test later false is h' =
        let here : Numbered = record { number = i; atom = a } in
        let same : here ≡ f = cc in
        record {
          place = 0;
          counted = omega (arith, ap (λ (g : Numbered). g.number) same);
          there = ap (λ (g : Numbered). Some g.atom) same;
          fails = ap (λ (g : Numbered). passes_at g.atom point) (sym same) ∙ is;
        }

pub none-fails : (i : ℕ) (atoms : List PlainKeyAtom) (point : List ℤ) → first_failing i atoms point ≡ None
    → KeyHolds atoms point
none-fails i [] point h = All-nil (λ a. KeyAtomHolds a point)
none-fails i (a ∷ atoms) point h =
    by_test (λ later. none-fails (suc i) atoms point later) (passes_at a point) refl h
  where
    by_test : (first_failing (suc i) atoms point ≡ None → KeyHolds atoms point) → (b : Bool) → passes_at a point ≡ b
        → cond b (first_failing (suc i) atoms point) (Some (record { number = i; atom = a })) ≡ None
        → KeyHolds (a ∷ atoms) point
    by_test later true is h' = All-cons (λ b. KeyAtomHolds b point) a atoms is (later h')
    by_test later false is h' = absurd (cc)

-- so the key doesn't hold there
pub some-fails : (i : ℕ) (atoms : List PlainKeyAtom) (point : List ℤ) (f : Numbered)
    → first_failing i atoms point ≡ Some f → ¬ KeyHolds atoms point
some-fails i atoms point f h all =
    let at = failing-at i atoms point f h in
    both_ways (passes_at f.atom point) at.fails
    (All-at (λ a. KeyAtomHolds a point) atoms at.place f.atom all at.there)

-- ---- the node of a box

-- the node is the one for the first atom that the corner fails
pub record IsNodeFor (key : List PlainKeyAtom) (box : PlainBox) (node : Node) : Type 0 where
  pub first : Numbered
  pub is_first : first_failing 0 key (lowest_corner key box.bounds) ≡ Some first
  pub is : node_for box first ≡ node

pub step-some : (key : List PlainKeyAtom) (box : PlainBox) (node : Node) → step key box ≡ Some node
    → IsNodeFor key box node
unfolding step
step-some key box node h = by_first (first_failing 0 key (lowest_corner key box.bounds)) refl h
  where
    by_first : (o : Option Numbered) → first_failing 0 key (lowest_corner key box.bounds) ≡ o
        → option_map (node_for box) o ≡ Some node → IsNodeFor key box node
    by_first None is h' = absurd (cc)
    by_first (Some f) is h' = record { first = f; is_first = is; is = cc }

-- none comes only where the corner satisfies the key, and some only where it doesn't
pub step-none : (key : List PlainKeyAtom) (box : PlainBox) → step key box ≡ None
    → KeyHolds key (lowest_corner key box.bounds)
unfolding step
step-none key box h = by_first (first_failing 0 key (lowest_corner key box.bounds)) refl h
  where
    by_first : (o : Option Numbered) → first_failing 0 key (lowest_corner key box.bounds) ≡ o
        → option_map (node_for box) o ≡ None → KeyHolds key (lowest_corner key box.bounds)
    by_first None is h' = none-fails 0 key (lowest_corner key box.bounds) is
    by_first (Some f) is h' = absurd (cc)

pub step-fails : (key : List PlainKeyAtom) (box : PlainBox) (node : Node) → step key box ≡ Some node
    → ¬ KeyHolds key (lowest_corner key box.bounds)
step-fails key box node h =
    let for' = step-some key box node h in
    some-fails 0 key (lowest_corner key box.bounds) for'.first for'.is_first
