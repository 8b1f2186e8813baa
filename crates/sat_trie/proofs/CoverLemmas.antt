-- Which atoms cover which.
use Rattle.std.proofs.Common.{◌≡◌, List, [], ◌∷◌, ◌++◌, get_or, inl, inr, refl, sym, arith}
use Rattle.std.specs.Prelude.{◌↔◌}
use Rattle.std.specs.List.{All, Any}
use Rattle.std.proofs.lemmas.List.{get_or_default}
use Rattle.std.proofs.lemmas.List.Elements.{All-push}
use Rattle.lin_model.specs.KeyAtom.{PlainKeyAtom}
use Rattle.atom_implies.specs.Implies.{Implies, Covers}
use Rattle.key_tree.specs.Prints.{hash_of}
use Rattle.key_tree.specs.Laws.{PrintsAreRight}
use Rattle.sat_trie.proofs.AnyLemmas.{All-front, All-last, Any-first, Any-later, Any-cases}

-- an atom implies itself
pub Implies-itself : (a : PlainKeyAtom) → Implies a a
Implies-itself a = record { same_form = refl; tests = λ n passed. passed }

-- a list of atoms covers itself
pub Covers-itself : (atoms : List PlainKeyAtom) → Covers atoms atoms
Covers-itself atoms k d lt =
    (k, get_or atoms k d, lt, get_or_default atoms k (get_or atoms k d) d lt, Implies-itself (get_or atoms k d))

-- no atoms are covered by any
pub Covers-none : (key : List PlainKeyAtom) → Covers key []
Covers-none key k d lt = absurd (omega (arith, lt))

-- nor where it is said that there are none
pub Covers-empty : (key query : List PlainKeyAtom) → query ≡ [] → Covers key query
Covers-empty key [] none = Covers-none key
Covers-empty key (b ∷ query) none = absurd (cc)

-- none cover no others
pub Covers-nothing : (query : List PlainKeyAtom) → Covers [] query → query ≡ []
Covers-nothing [] covers = refl
Covers-nothing (b ∷ query) covers = let one = covers 0 b (omega arith) in absurd (omega (arith, one.2))

-- one atom more covers no less
pub Covers-more : (a : PlainKeyAtom) (key query : List PlainKeyAtom) → Covers key query → Covers (a ∷ key) query
Covers-more a key query covers k d lt = Any-later (λ b. Implies b (get_or query k d)) a key (covers k d lt)

-- an atom adds nothing where it implies none
pub Covers-fewer : (a : PlainKeyAtom) (key query : List PlainKeyAtom) → All (λ b. ¬ Implies a b) query
    → Covers (a ∷ key) query → Covers key query
Covers-fewer a key query none covers k d lt =
    elim (Any-cases (λ b. Implies b (get_or query k d)) a key (covers k d lt)) [
      | inl implied ↦ absurd (none k d lt implied)
      | inr later ↦ later
    ]

-- it implies none where no form has its form's hash
pub none_implied : PrintsAreRight → (a : PlainKeyAtom) (query : List PlainKeyAtom)
    → All (λ b. ¬ (hash_of b.form ≡ hash_of a.form)) query → All (λ b. ¬ Implies a b) query
none_implied prints a query others k d lt implied = others k d lt (sym (prints.hash a (get_or query k d) implied))

-- ---- what is left of some atoms where one covers what it implies

abbrev pub LeavesOf : PlainKeyAtom → List PlainKeyAtom → List PlainKeyAtom → Type 0
LeavesOf a query left = (rest : List PlainKeyAtom) → Covers rest left ↔ Covers (a ∷ rest) query

-- of no atoms none are left
pub leaves_none : (a : PlainKeyAtom) → LeavesOf a [] []
leaves_none a rest = (λ covers. Covers-none (a ∷ rest), λ covers. Covers-none rest)

-- one more that it implies is covered
pub leaves_implied : (a b : PlainKeyAtom) (query left : List PlainKeyAtom) → LeavesOf a query left → Implies a b
    → LeavesOf a (query ++ b ∷ []) left
leaves_implied a b query left leaves implied rest = (
  λ covers. All-push (λ c. Any (λ x. Implies x c) (a ∷ rest)) query b ((leaves rest).0 covers)
      (Any-first (λ x. Implies x b) a rest implied),
  λ covers. (leaves rest).1 (All-front (λ c. Any (λ x. Implies x c) (a ∷ rest)) query (b ∷ []) covers),
)

-- one more that it doesn't imply is left
pub leaves_other : (a b : PlainKeyAtom) (query left : List PlainKeyAtom) → LeavesOf a query left → ¬ Implies a b
    → LeavesOf a (query ++ b ∷ []) (left ++ b ∷ [])
leaves_other a b query left leaves other rest = (
  λ covers. All-push (λ c. Any (λ x. Implies x c) (a ∷ rest)) query b
      ((leaves rest).0 (All-front (λ c. Any (λ x. Implies x c) rest) left (b ∷ []) covers))
      (Any-later (λ x. Implies x b) a rest (All-last (λ c. Any (λ x. Implies x c) rest) left b covers)),
  λ covers. All-push (λ c. Any (λ x. Implies x c) rest) left b
      ((leaves rest).1 (All-front (λ c. Any (λ x. Implies x c) (a ∷ rest)) query (b ∷ []) covers))
      (elim (Any-cases (λ x. Implies x b) a rest (All-last (λ c. Any (λ x. Implies x c) (a ∷ rest)) query b covers)) [
        | inl implied ↦ absurd (other implied)
        | inr later ↦ later
      ]),
)

-- where none is left, all are covered
pub leaves_nothing : (a : PlainKeyAtom) (query left : List PlainKeyAtom) → LeavesOf a query left → left ≡ []
    → (rest : List PlainKeyAtom) → Covers (a ∷ rest) query
leaves_nothing a query left leaves none rest = (leaves rest).0 (Covers-empty rest left none)
