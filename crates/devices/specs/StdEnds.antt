-- A reader or a writer of std with a count of its faults, and what a writer takes of a piece, where it tells its bytes.
use Rattle.std.specs.Prelude.{◌≡◌, ℕ, List, ◌++◌, Option, Result, MatchResult}
use Rattle.std.specs.Io.KnownBytes.{Appends}

pub record StdEnd (E : Type 0) : Type 0 where
  pub end : E
  pub faults : ℕ

-- the bytes grew by some front of the piece
pub record TakesFront (old new : Option (List ℕ)) (piece : List ℕ) : Type 0 where
  pub front : List ℕ
  pub rest : List ℕ
  pub split : piece ≡ front ++ rest
  pub appends : Appends old new front

-- after Ok the bytes grew by the whole piece, and otherwise by some front of it
abbrev pub Takes : {A F : Type 0} → Option (List ℕ) → Option (List ℕ) → List ℕ → Result A F → Type 0
Takes old new piece result = MatchResult result (λ _. Appends old new piece) (λ _. TakesFront old new piece)
