-- What can be told by looking: whether lists contain something, and whether chains join two variables.
use Rattle.std.proofs.Common.{◌≡◌, ℕ, zero, suc, List, [], ◌∷◌, Option, Some, None, ◌⊎◌, inl, inr, refl, arith, sym}
use Rattle.std.proofs.Common.{subst}
use Rattle.std.specs.Prelude.{Any, Contains, IsSomeAnd, slice_get}
use Rattle.std.proofs.lemmas.Bool.{cases_eq}
use Rattle.lin_model.specs.declared.atom.Atom.{Atom}
use Rattle.lin_model.specs.Lists.{Contains-cases, Contains-first, Contains-later, nothing_in_nil, Found-from}
use Rattle.lin_model.specs.Lists.{IsSomeAnd-found}
use Rattle.slicer.specs.Linked.{Chain, alone, longer}
use Rattle.slicer.specs.Names.{Names, NamesAt, NamesNothingAt, atom_vars}
use Rattle.slicer.specs.Slices.{PlainSlice}
use Rattle.slicer.proofs.ChainLemmas.{Beside, kept_along, Chain-append, Chain-over}
use Rattle.slicer.proofs.ClassLemmas.{InSome}

-- it holds or it doesn't
abbrev pub IsDecided : Type 0 → Type 0
IsDecided P = P ⊎ ¬ P

pub decided_same : {P Q : Type 0} → (P → Q) → (Q → P) → IsDecided P → IsDecided Q
decided_same to from (inl holds) = inl (to holds)
decided_same to from (inr fails) = inr (λ q. fails (from q))

both_decided : {P Q : Type 0} → IsDecided P → IsDecided Q → IsDecided (P × Q)
both_decided (inl p) (inl q) = inl (p, q)
both_decided (inl p) (inr not_q) = inr (λ both. not_q both.1)
both_decided (inr not_p) q = inr (λ both. not_p both.0)

Any-first : {X : Type 0} (P : X → Type 0) (x : X) (xs : List X) → P x → Any P (x ∷ xs)
Any-first P x xs holds = (0, x, omega arith, refl, holds)

Any-later : {X : Type 0} (P : X → Type 0) (x : X) (xs : List X) → Any P xs → Any P (x ∷ xs)
Any-later P x xs some = (suc some.0, some.1, omega (arith, some.2), some.3, some.4)

Any-cases : {X : Type 0} (P : X → Type 0) (x : X) (xs : List X) → Any P (x ∷ xs) → P x ⊎ Any P xs
Any-cases P x xs (zero, y, within, is, holds) = inl (subst P (sym is) holds)
Any-cases P x xs (suc k, y, within, is, holds) = inr (k, y, omega arith, is, holds)

Any-decided : {X : Type 0} (P : X → Type 0) → ((x : X) → IsDecided (P x)) → (xs : List X) → IsDecided (Any P xs)
Any-decided P tell [] = inr (λ some. omega (arith, some.2))
Any-decided P tell (x ∷ xs) = elim (tell x) [
  | inl here ↦ inl (Any-first P x xs here)
  | inr not_here ↦ decided_same (Any-later P x xs)
      (λ some. elim (Any-cases P x xs some) [ inl here ↦ absurd (not_here here) | inr later ↦ later ])
      (Any-decided P tell xs)
]

Contains-decided : (xs : List ℕ) (n : ℕ) → IsDecided (Contains xs n)
Contains-decided [] n = inr (nothing_in_nil n)
Contains-decided (x ∷ xs) n = elim (cases_eq x n) [
  | inl same ↦ inl (subst (Contains (x ∷ xs)) same (Contains-first x xs))
  | inr differ ↦ decided_same (Contains-later x xs n)
      (λ has. elim (Contains-cases x xs n has) [ inl same ↦ absurd (differ same) | inr later ↦ later ])
      (Contains-decided xs n)
]

-- some slice, or none, has the variable
pub InSome-decided : (slices : List PlainSlice) (v : ℕ) → IsDecided (InSome slices v)
InSome-decided slices v =
    Any-decided (λ (slice : PlainSlice). Contains slice.vars v) (λ slice. Contains-decided slice.vars v) slices

-- ---- chains over one atom more

-- a chain over the others leads to a variable that the atom names, and one from such a variable on
abbrev Through : Atom → List Atom → ℕ → ℕ → Type 0
Through x xs u v = Any (λ a. Chain Names xs u a) (atom_vars x) × Any (λ b. Chain Names xs b v) (atom_vars x)

-- a step over the atom or over the others
Beside-cases : (x : Atom) (xs : List Atom) (u v : ℕ) → Beside Names (x ∷ xs) u v
    → (Names x u × Names x v) ⊎ Beside Names xs u v
Beside-cases x xs u v beside = Any-cases (λ (y : Atom). Names y u × Names y v) x xs beside

Any-named : (P : ℕ → Type 0) (x : Atom) (v : ℕ) → Names x v → P v → Any P (atom_vars x)
Any-named P x v names holds = (names.0, v, names.1, names.2, holds)

part_longer : (x : Atom) (xs : List Atom) (u v w : ℕ) → Beside Names (x ∷ xs) v w
    → Chain Names xs u v ⊎ Through x xs u v → Chain Names xs u w ⊎ Through x xs u w
part_longer x xs u v w beside (inl chain) = elim (Beside-cases x xs v w beside) [
  | inl here ↦ inr (
    Any-named (λ a. Chain Names xs u a) x v here.0 chain,
    Any-named (λ b. Chain Names xs b w) x w here.1 alone,
  )
  | inr later ↦ inl (longer chain later)
]
part_longer x xs u v w beside (inr (into, out)) = elim (Beside-cases x xs v w beside) [
  | inl here ↦ inr (into, Any-named (λ b. Chain Names xs b w) x w here.1 alone)
  | inr later ↦ inr (into, (out.0, out.1, out.2, out.3, longer out.4 later))
]

Chain-parts : (x : Atom) (xs : List Atom) (u v : ℕ) → Chain Names (x ∷ xs) u v → Chain Names xs u v ⊎ Through x xs u v
Chain-parts x xs u v chain =
    kept_along Names (x ∷ xs) (λ n. Chain Names xs u n ⊎ Through x xs u n)
    (λ a b beside so_far. part_longer x xs u a b beside so_far) chain (inl alone)

Chain-more : (x : Atom) (xs : List Atom) (u v : ℕ) → Chain Names xs u v → Chain Names (x ∷ xs) u v
Chain-more x xs u v =
    Chain-over Names xs Names (x ∷ xs) (λ a b beside. Any-later (λ (y : Atom). Names y a × Names y b) x xs beside)

Chain-through : (x : Atom) (xs : List Atom) (u v : ℕ) → Through x xs u v → Chain Names (x ∷ xs) u v
Chain-through x xs u v (into, out) =
    let here : Beside Names (x ∷ xs) into.1 out.1 =
    Any-first (λ (y : Atom). Names y into.1 × Names y out.1) x xs
    ((into.0, into.2, into.3), (out.0, out.2, out.3)) in
    Chain-append Names (x ∷ xs) (longer (Chain-more x xs u into.1 into.4) here) (Chain-more x xs out.1 v out.4)

-- over no atom a chain stays where it is
Chain-none : (u v : ℕ) → Chain Names [] u v → u ≡ v
Chain-none u v alone = refl
Chain-none u v (longer chain beside) = absurd (omega (arith, beside.2))

pub Chain-decided : (atoms : List Atom) (u v : ℕ) → IsDecided (Chain Names atoms u v)
Chain-decided [] u v = decided_same (λ same. subst (Chain Names [] u) same alone) (Chain-none u v) (cases_eq u v)
Chain-decided (x ∷ xs) u v = elim (Chain-decided xs u v) [
  | inl chain ↦ inl (Chain-more x xs u v chain)
  | inr unlinked ↦ decided_same (Chain-through x xs u v)
      (λ chain. elim (Chain-parts x xs u v chain) [ inl around ↦ absurd (unlinked around) | inr through ↦ through ])
      (both_decided (Any-decided (λ a. Chain Names xs u a) (λ a. Chain-decided xs u a) (atom_vars x))
      (Any-decided (λ b. Chain Names xs b v) (λ b. Chain-decided xs b v) (atom_vars x)))
]

-- ---- the numbers of a slice

-- what can be told of an atom can be told of the atom of a number
decided_at : (atoms : List Atom) (P : Atom → Type 0) → ((atom : Atom) → IsDecided (P atom)) → (j : ℕ)
    → IsDecided (IsSomeAnd (slice_get atoms j) P)
decided_at atoms P tell j = of_option (slice_get atoms j)
  where
    of_option : (o : Option Atom) → IsDecided (IsSomeAnd o P)
    of_option None = inr (λ some. some)
    of_option (Some atom) = tell atom

nil_decided : (xs : List ℕ) → IsDecided (xs ≡ [])
nil_decided [] = inl refl
nil_decided (x ∷ xs) = inr (λ same. cc)

-- an atom names no variable
pub NamesNothingAt-decided : (atoms : List Atom) (j : ℕ) → IsDecided (NamesNothingAt atoms j)
NamesNothingAt-decided atoms j = decided_at atoms (λ atom. atom_vars atom ≡ []) (λ atom. nil_decided (atom_vars atom)) j

-- an atom names a variable of which P holds
pub NamesOneAt-decided : (atoms : List Atom) (P : ℕ → Type 0) → ((v : ℕ) → IsDecided (P v)) → (j : ℕ)
    → IsDecided ((v : ℕ) × P v × NamesAt atoms j v)
NamesOneAt-decided atoms P tell j =
    decided_same
    (λ some.
    let found = Found-from (slice_get atoms j) (λ a. Any P (atom_vars a)) some in
    let one = found.holds in
    (one.1, one.4, IsSomeAnd-found (slice_get atoms j) (λ a. Names a one.1) found.value found.is (one.0, one.2, one.3)))
    (λ named.
    let found = Found-from (slice_get atoms j) (λ a. Names a named.0) named.2 in
    IsSomeAnd-found (slice_get atoms j) (λ a. Any P (atom_vars a)) found.value found.is
    (Any-named P found.value named.0 found.holds named.1))
    (decided_at atoms (λ atom. Any P (atom_vars atom)) (λ atom. Any-decided P tell (atom_vars atom)) j)
