-- Keys that cover one another, atom by atom.
use Rattle.std.proofs.Common.{◌≡◌, ℕ, ◌+◌, ◌*◌, ◌<◌, ◌≤◌, ◌∙◌, List, length, get_or, arith, sym, subst}
use Rattle.std.proofs.Math.Nat.{mul-suc, mul_comm}
use Rattle.std.specs.Prelude.{Any}
use Rattle.std.proofs.lemmas.Option.{get_or_from_slice_get, slice_get-get_or}
use borrow.Author.Count.{below_more}
use Rattle.lin_model.specs.KeyAtom.{PlainKeyAtom}
use Rattle.atom_implies.specs.Implies.{Implies, Covers}

-- what a covered list has at a place is implied by some atom of the covering one
pub implied_at : (key keys other items : List PlainKeyAtom) (i : ℕ) (a : PlainKeyAtom) → keys ≡ key → items ≡ other
    → i < length items → a ≡ get_or items i a → Covers key other → Any (λ b. Implies b a) keys
implied_at key keys other items i a same alike lt is covers =
    let inside : i < length other = subst (λ (xs : List PlainKeyAtom). i < length xs) alike lt in
    let here : a ≡ get_or other i a = subst (λ (xs : List PlainKeyAtom). a ≡ get_or xs i a) alike is in
    let one : Any (λ b. Implies b a) key =
    subst (λ (x : PlainKeyAtom). Any (λ b. Implies b x) key) (sym here) (covers i a inside) in
    subst (λ (xs : List PlainKeyAtom). Any (λ b. Implies b a) xs) (sym same) one

-- one atom more of a list is implied
pub covers_more : (key keys other items : List PlainKeyAtom) (i : ℕ) (a : PlainKeyAtom) → keys ≡ key → items ≡ other
    → i < length items → a ≡ get_or items i a
    → ((k : ℕ) (d : PlainKeyAtom) → k < i → Any (λ b. Implies b (get_or other k d)) key) → Any (λ b. Implies b a) keys
    → (k : ℕ) (d : PlainKeyAtom) → k < i + 1 → Any (λ b. Implies b (get_or other k d)) key
covers_more key keys other items i a same alike lt is below one k d within =
    let inside : i < length other = subst (λ (xs : List PlainKeyAtom). i < length xs) alike lt in
    let here : a ≡ get_or other i a = subst (λ (xs : List PlainKeyAtom). a ≡ get_or xs i a) alike is in
    let any : Any (λ b. Implies b a) key = subst (λ (xs : List PlainKeyAtom). Any (λ b. Implies b a) xs) same one in
    let at : (e : PlainKeyAtom) → get_or other i e ≡ a =
    λ e. get_or_from_slice_get other i (get_or other i a) e (slice_get-get_or other i a inside) ∙ sym here in
    below_more (λ n. (e : PlainKeyAtom) → Any (λ b. Implies b (get_or other n e)) key) i
    (λ n lt e. below n e lt)
    (λ e. subst (λ (x : PlainKeyAtom). Any (λ b. Implies b x) key) (sym (at e)) any) k within d

-- one round of at most n steps more
pub one_round : (now before start i : ℕ) (keys key : List PlainKeyAtom) → keys ≡ key → now ≤ before + length keys
    → before ≤ start + length key * i → now ≤ start + length key * (i + 1)
one_round now before start i keys key same step so_far =
    let many : now ≤ before + length key = subst (λ (xs : List PlainKeyAtom). now ≤ before + length xs) same step in
    omega (arith, mul-suc (length key) i)

-- as many pairs stand between the second list and the first
pub turned_cost : (now start : ℕ) (key items other : List PlainKeyAtom) → items ≡ other
    → now ≤ start + length key * length items → now ≤ start + length other * length key
turned_cost now start key items other same steps =
    let many : now ≤ start + length key * length other =
    subst (λ (xs : List PlainKeyAtom). now ≤ start + length key * length xs) same steps in
    omega (arith, mul_comm (length key) (length other))
