-- Giving the variables of a slice their values.
use Rattle.std.proofs.Common.{◌≡◌, ◌≢◌, ℕ, ◌+◌, ◌<◌, ℤ, pos, List, length, get_or, set, sym, ◌∙◌}
use Rattle.std.specs.List.{AllPairs, Contains}
use Rattle.std.proofs.lemmas.List.{get_or-set_same, get_or-set_other, get_or_default}
use borrow.Author.Count.{below_more}
use Rattle.lin_model.specs.Terms.{value_at}

-- two places of a list without repeats hold different numbers
apart_at : (xs : List ℕ) (i j : ℕ) → AllPairs ◌≢◌ xs → i < j → j < length xs → get_or xs i 0 ≢ get_or xs j 0
apart_at xs i j distinct lt within = distinct i j 0 lt within

pub placed_more : (values : List ℤ) (back : List ℕ) (point : List ℤ) (v : ℕ) → AllPairs ◌≢◌ back → v < length back
    → get_or back v 0 < length values → ((u : ℕ) → u < v → value_at values (get_or back u 0) ≡ value_at point u)
    → (u : ℕ) → u < v + 1 → value_at (set values (get_or back v 0) (value_at point v)) (get_or back u 0)
    ≡ value_at point u
placed_more values back point v distinct within fits so_far =
    below_more (λ (u : ℕ). value_at (set values (get_or back v 0) (value_at point v)) (get_or back u 0)
    ≡ value_at point u) v
    (λ u lt. get_or-set_other values (get_or back v 0) (get_or back u 0) (value_at point v) (pos 0)
    (apart_at back u v distinct lt within) ∙ so_far u lt)
    (get_or-set_same values (get_or back v 0) (value_at point v) (pos 0) fits)

pub others_stay : (values : List ℤ) (back : List ℕ) (v w : ℕ) (n : ℤ) → v < length back → (Contains back w → ⊥)
    → value_at (set values (get_or back v 0) n) w ≡ value_at values w
others_stay values back v w n within absent =
    get_or-set_other values (get_or back v 0) w n (pos 0)
    (λ e. absent (v, within, get_or_default back v w 0 within ∙ sym e))
