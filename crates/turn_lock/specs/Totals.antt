-- Sums over lists, and how often a number stands in one.
use Rattle.std.specs.Prelude.{◌≡◌, ℕ, ◌+◌, ◌==◌, cond, List, [], ◌∷◌, ◌++◌}

-- f of each, added up
abbrev pub total : {A : Type 0} → (A → ℕ) → List A → ℕ
total f [] = 0
total f (x ∷ xs) = f x + total f xs

-- 1 where n is k, else 0
abbrev pub one_at : ℕ → ℕ → ℕ
one_at k n = cond (n == k) 1 0

-- how often k stands in the list
abbrev pub times : ℕ → List ℕ → ℕ
times k [] = 0
times k (n ∷ ns) = one_at k n + times k ns

-- the list with k left out, where it stands first
abbrev pub without : ℕ → List ℕ → List ℕ
without k [] = []
without k (n ∷ ns) = cond (n == k) ns (n ∷ without k ns)

-- the first list begins the second
abbrev pub Begins : {A : Type 0} → List A → List A → Type 0
Begins {A} front whole = (rest : List A) × (front ++ rest ≡ whole)
