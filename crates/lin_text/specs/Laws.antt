-- Laws of the texts of conditions.
use Rattle.std.specs.Prelude.{◌≡◌, ℕ, ◌+◌, ◌<◌, ◌≤◌, Bool, ◌⊎◌, List, [], ◌∷◌, ◌++◌, length, take, All, IsTrue}
use Rattle.std.specs.Prelude.{IsFalse}
use Rattle.lin_model.specs.Terms.{PlainVar}
use Rattle.lin_model.specs.Conditions.{PlainCondition, IsCondition}
use Rattle.lin_text.specs.Spelling.{condition_text}
use Rattle.lin_text.specs.Pieces.{Piece, word, is_claim_word, PlainLine, first_token}
use Rattle.lin_text.specs.Grammar.{BeginsLine}
use Rattle.lin_text.specs.Faults.{StandsAt}
use Rattle.lin_text.specs.declared.fault.TextKind.{TextKind}
use Rattle.lin_text.specs.Queries.{Spell, Spells, HasFault}
use Rattle.lin_text.specs.Tokens.{IsForm, IsLongest, token_length}

-- in a text of proofs no variable is called by a word that only such a text reserves
abbrev pub AreFree : Bool → List PlainVar → Type 0
AreFree in_proof vars = IsTrue in_proof → All (λ v. IsFalse (is_claim_word v.name)) vars

-- the plain spelling of a condition is spelled as that condition, to its end
abbrev pub WrittenIsSpelled : Type 0
WrittenIsSpelled = (in_proof : Bool) (q : PlainCondition) → IsCondition q → AreFree in_proof q.vars
    → Spells in_proof (condition_text q) 0 q (length (condition_text q))

-- nothing is there, or the first line begins with a reserved word other than `var`
abbrev pub EndsQuery : Bool → List ℕ → Type 0
EndsQuery in_proof rest = (rest ≡ []) ⊎ ((w : List ℕ) × ((first_token in_proof rest 0).piece ≡ word w))

-- so it is within a text, where the query ends behind it
abbrev pub WrittenIsSpelledWithin : Type 0
WrittenIsSpelledWithin =
    (in_proof : Bool) (front rest : List ℕ) (q : PlainCondition) → IsCondition q → AreFree in_proof q.vars
    → EndsQuery in_proof rest → Spells in_proof (front ++ (condition_text q ++ rest)) (length front) q
    (length front + length (condition_text q))

-- a text spells one condition at most from a place on, and up to one place
abbrev pub SpelledOnce : Type 0
SpelledOnce =
    (in_proof : Bool) (bytes : List ℕ) (at : ℕ) (q r : PlainCondition) (e f : ℕ) → Spells in_proof bytes at q e
    → Spells in_proof bytes at r f → (q ≡ r) × (e ≡ f)

-- a text that spells a condition has no fault
abbrev pub SpelledHasNoFault : Type 0
SpelledHasNoFault =
    (in_proof : Bool) (bytes : List ℕ) (at : ℕ) (q : PlainCondition) (e : ℕ) → Spells in_proof bytes at q e
    → (kind : TextKind) (place : ℕ) → HasFault in_proof bytes at kind place → ⊥

-- no fault stands in lines that spell a condition
abbrev pub SpelledLinesHaveNoFault : Type 0
SpelledLinesHaveNoFault = (lines : List PlainLine) (condition : PlainCondition) (kind : TextKind) (place : ℕ)
    → Spell lines condition → StandsAt lines kind place → ⊥

-- no line of a query begins or goes on with a reserved word other than `var`
abbrev pub WordsStandInNoLine : Type 0
WordsStandInNoLine = (front : List Piece) (text : List ℕ) → ¬ BeginsLine (front ++ word text ∷ [])

-- a text has at most one first fault, at one place
abbrev pub OneFirstFault : Type 0
OneFirstFault =
    (in_proof : Bool) (bytes : List ℕ) (at : ℕ) (k j : TextKind) (a b : ℕ) → HasFault in_proof bytes at k a
    → HasFault in_proof bytes at j b → (k ≡ j) × (a ≡ b)

-- the length of a token is that of the longest token at the front, and 0 exactly where none begins there
pub record TakesTheLongest (bytes : List ℕ) : Type 0 where
  pub longest : 0 < token_length bytes → IsLongest bytes (token_length bytes)
  pub none : token_length bytes ≡ 0 → (n : ℕ) → n ≤ length bytes → ¬ IsForm (take n bytes)

-- so it is in every text
abbrev pub TokensAreLongest : Type 0
TokensAreLongest = (bytes : List ℕ) → TakesTheLongest bytes

-- a text spells a condition from a place on, or has a first fault
abbrev pub SpelledOrFaulty : Type 0
SpelledOrFaulty =
    (in_proof : Bool) (bytes : List ℕ) (at : ℕ) → at ≤ length bytes
    → ((q : PlainCondition) × (end : ℕ) × Spells in_proof bytes at q end)
    ⊎ ((kind : TextKind) × (place : ℕ) × HasFault in_proof bytes at kind place)
