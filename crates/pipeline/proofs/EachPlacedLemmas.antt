-- The variables of a slice can be given values, and the others keep theirs.
use Rattle.std.proofs.Common.{◌≡◌, ◌≢◌, ℕ, ◌<◌, ◌≤◌, zero, suc, ℤ, List, length, get_or, set, refl, ◌∙◌, arith}
use Rattle.std.specs.List.{All, AllPairs, Contains}
use Rattle.std.proofs.lemmas.List.{length-set}
use Rattle.lin_model.specs.Terms.{value_at}
use Rattle.pipeline.proofs.PlaceLemmas.{placed_more, others_stay}

-- the first n variables of a slice have their values, and all others those that they had
pub record PlacedBelow (values : List ℤ) (back : List ℕ) (point : List ℤ) (n : ℕ) : Type 0 where
  pub new : List ℤ
  pub long : length new ≡ length values
  pub placed : (v : ℕ) → v < n → value_at new (get_or back v 0) ≡ value_at point v
  pub others : (w : ℕ) → (Contains back w → ⊥) → value_at new w ≡ value_at values w

pub place_below : (values : List ℤ) (back : List ℕ) (point : List ℤ) → AllPairs ◌≢◌ back
    → All (λ v. v < length values) back → (n : ℕ) → n ≤ length back → PlacedBelow values back point n
place_below values back point distinct within zero few = record
    { new = values; long = refl; placed = λ v lt. absurd (omega arith); others = λ w absent. refl }
place_below values back point distinct within (suc n) few =
    let before = place_below values back point distinct within n (omega arith) in
    let place = get_or back n 0 in
    let fits : place < length before.new = omega (arith, before.long, within n 0 (omega arith)) in
    record {
      new = set before.new place (value_at point n);
      long = length-set before.new place (value_at point n) ∙ before.long;
      placed = λ v lt. placed_more before.new back point n distinct (omega arith) fits before.placed v (omega arith);
      others = λ w absent. others_stay before.new back n w (value_at point n) (omega arith) absent
          ∙ before.others w absent;
    }
