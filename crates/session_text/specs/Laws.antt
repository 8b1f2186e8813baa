-- Laws of the texts of sessions.
use Rattle.std.specs.Prelude.{◌≡◌, ℕ, ◌⊎◌, List, All}
use Rattle.lin_model.specs.Conditions.{PlainCondition, IsCondition, IsSession}
use Rattle.lin_text.specs.declared.fault.SessionKind.{SessionKind}
use Rattle.session_text.specs.Spelling.{session_text}
use Rattle.session_text.specs.Sessions.{SpellsSession}
use Rattle.session_text.specs.Faults.{HasFault}

-- the plain spelling of a session is spelled as that session
abbrev pub WrittenIsSpelled : Type 0
WrittenIsSpelled =
    (s : List (List PlainCondition)) → IsSession s → All (All IsCondition) s → SpellsSession (session_text s) s

-- a text spells one session at most
abbrev pub SpelledOnce : Type 0
SpelledOnce =
    (bytes : List ℕ) (s r : List (List PlainCondition)) → SpellsSession bytes s → SpellsSession bytes r → s ≡ r

-- a text that spells a session has no fault
abbrev pub SpelledHasNoFault : Type 0
SpelledHasNoFault =
    (bytes : List ℕ) (s : List (List PlainCondition)) → SpellsSession bytes s → (kind : SessionKind) (place : ℕ)
    → HasFault bytes kind place → ⊥

-- a text spells a session or has a first fault
abbrev pub SpelledOrFaulty : Type 0
SpelledOrFaulty =
    (bytes : List ℕ) → ((s : List (List PlainCondition)) × SpellsSession bytes s)
    ⊎ ((kind : SessionKind) × (place : ℕ) × HasFault bytes kind place)

-- a text has at most one first fault, at one place
abbrev pub OneFirstFault : Type 0
OneFirstFault =
    (bytes : List ℕ) (k j : SessionKind) (a b : ℕ) → HasFault bytes k a → HasFault bytes j b → (k ≡ j) × (a ≡ b)
