-- Chains, and what they are closed under.
use Rattle.std.proofs.Common.{ℕ, List}
use Rattle.std.specs.Prelude.{Any}
use Rattle.slicer.specs.Linked.{Chain, alone, longer}

module _ {X : Type 0} (Names : X → ℕ → Type 0) (xs : List X) where
  -- two numbers are named by one element
  abbrev pub Beside : ℕ → ℕ → Type 0
  Beside u v = Any (λ x. Names x u × Names x v) xs

  pub Beside-turned : (u v : ℕ) → Beside u v → Beside v u
  Beside-turned u v beside = (beside.0, beside.1, beside.2, beside.3, (beside.4.1, beside.4.0))

-- what steps keep, chains keep
pub kept_along : {X : Type 0} (Names : X → ℕ → Type 0) (xs : List X) (P : ℕ → Type 0)
    → ((u v : ℕ) → Any (λ x. Names x u × Names x v) xs → P u → P v) → {u v : ℕ} → Chain Names xs u v → P u → P v
kept_along Names xs P step alone here = here
kept_along Names xs P step (longer chain beside) here = step _ _ beside (kept_along Names xs P step chain here)

pub Chain-append : {X : Type 0} (Names : X → ℕ → Type 0) (xs : List X) {u v w : ℕ} → Chain Names xs u v
    → Chain Names xs v w → Chain Names xs u w
Chain-append Names xs {u} {v} {w} first second =
    kept_along Names xs (λ n. Chain Names xs u n) (λ a b beside chain. longer chain beside) second first

pub Chain-turned : {X : Type 0} (Names : X → ℕ → Type 0) (xs : List X) {u v : ℕ} → Chain Names xs u v
    → Chain Names xs v u
Chain-turned Names xs {u} {v} chain =
    kept_along Names xs (λ n. Chain Names xs n u)
    (λ a b beside back. Chain-append Names xs (longer alone (Beside-turned Names xs a b beside)) back) chain alone

-- a chain over one list is one over another, where the steps are
pub Chain-over : {X Y : Type 0} (Names : X → ℕ → Type 0) (xs : List X) (Others : Y → ℕ → Type 0) (ys : List Y)
    → ((u v : ℕ) → Any (λ x. Names x u × Names x v) xs → Any (λ y. Others y u × Others y v) ys) → {u v : ℕ}
    → Chain Names xs u v → Chain Others ys u v
Chain-over Names xs Others ys step {u} {v} chain =
    kept_along Names xs (λ n. Chain Others ys u n) (λ a b beside so_far. longer so_far (step a b beside)) chain alone
