use Rattle.std.proofs.Common.{◌≡◌, ℕ, ℤ, ◌+◌, to_z, of_z, ◌^◌, ◌≤◌, ◌++◌, ◌∷◌, [], List, map, length, unsigned_abs, ap}
use Rattle.std.proofs.Common.{sym, ◌∙◌, subst, arith}
use Rattle.std.specs.Int.{w64}
use Rattle.std.proofs.lemmas.Int.{to_z-of_z, fits_signed_from_abs}
use Rattle.std.specs.List.{All, range_with_len}
use Rattle.std.proofs.lemmas.List.Elements.{All-push}
use Rattle.std.proofs.lemmas.List.FromFn.{map-range_with_len_more, length-map-range_with_len}
use Rattle.refutation.specs.SearchOrder.{lower_or_zero, lowest_corner}
use Rattle.box_solver.proofs.CornerLemmas.{corner-small}
use Rattle.box_solver.proofs.corner.lowest_corner.Goals as goal

-- one side more
more : (f : ℕ → ℤ) (old new : List ℤ) (v : ℕ) (side pushed : ℤ) → new ≡ old ++ pushed ∷ [] → pushed ≡ side → side ≡ f v
    → old ≡ map f (range_with_len 0 v) → new ≡ map f (range_with_len 0 (v + 1))
more f old new v side pushed is same of before =
    is ∙ ap (λ (xs : List ℤ). xs ++ pushed ∷ []) before
    ∙ ap (λ (n : ℤ). map f (range_with_len 0 v) ++ n ∷ []) (same ∙ of)
    ∙ sym (map-range_with_len_more f 0 v v (omega arith))

all_small : (old new : List ℤ) (side pushed : ℤ) → new ≡ old ++ pushed ∷ [] → pushed ≡ side
    → unsigned_abs side ≤ 2 ^ 32 + 1 → All (λ n. unsigned_abs n ≤ 2 ^ 32 + 1) old
    → All (λ n. unsigned_abs n ≤ 2 ^ 32 + 1) new
all_small old new side pushed is same small before =
    subst (All (λ (n : ℤ). unsigned_abs n ≤ 2 ^ 32 + 1)) (sym is)
    (All-push (λ n. unsigned_abs n ≤ 2 ^ 32 + 1) old pushed before
    (subst (λ (n : ℤ). unsigned_abs n ≤ 2 ^ 32 + 1) (sym same) small))

pub push-requires : goal.push-requires
push-requires c =
    omega (
      arith,
      ap length c.loop-var.invariant.values,
      length-map-range_with_len (lower_or_zero c.args.bounds.now) 0 c.loop-var.var,
    )

pub loop-var-preserved : goal.loop-var-preserved
loop-var-preserved c =
    let n = c.lower_side.result in
    let same : to_z w64 (of_z w64 n) ≡ n = to_z-of_z w64 n
    (fits_signed_from_abs w64 n (omega (arith, c.lower_side.ensures.side))) in
    record {
      values = more (lower_or_zero c.args.bounds.now) c.loop-var.values.items c.push.new.self.items c.loop-var.var n _
          c.push.ensures.items same c.lower_side.ensures.value c.loop-var.invariant.values;
      sides = all_small c.loop-var.values.items c.push.new.self.items n _ c.push.ensures.items same
          c.lower_side.ensures.side c.loop-var.invariant.sides;
    }

pub returns-clause-values : goal.returns-clause-values
unfolding lowest_corner
returns-clause-values c =
    c.loop-var.invariant.values ∙ ap (λ (n : ℕ). map (lower_or_zero c.args.bounds.now) (range_with_len 0 n))
    (omega arith)

pub returns-clause-small : goal.returns-clause-small
unfolding lowest_corner
returns-clause-small c =
    λ short. subst (All (λ (n : ℤ). unsigned_abs n ≤ 2 ^ 32))
    (sym (c.loop-var.invariant.values ∙ ap (λ (n : ℕ). map (lower_or_zero c.args.bounds.now) (range_with_len 0 n))
    (omega arith))) (corner-small c.args.key.now c.args.bounds.now short)
