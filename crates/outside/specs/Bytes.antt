-- What a read and a write do to the bytes that a source has left and a sink has taken, where these are told.
-- A source or a sink that tells none never tells any.
use Rattle.std.specs.Prelude.{◌≡◌, ℕ, ◌≤◌, List, [], ◌++◌, length, take, drop, ⊤, Option, None, Some}

-- the bytes grew by the whole piece
abbrev pub Appends : Option (List ℕ) → Option (List ℕ) → List ℕ → Type 0
Appends None new piece = new ≡ None
Appends (Some bytes) new piece = new ≡ Some (bytes ++ piece)

-- the bytes grew by the first n bytes of the piece, for some n
abbrev pub AppendsFront : Option (List ℕ) → Option (List ℕ) → List ℕ → Type 0
AppendsFront None new piece = new ≡ None
AppendsFront (Some bytes) new piece = (n : ℕ) × (n ≤ length piece) × (new ≡ Some (bytes ++ take n piece))

-- the first n bytes left moved into the front of the buffer
abbrev pub Gives : Option (List ℕ) → Option (List ℕ) → List ℕ → ℕ → Type 0
Gives None new buf n = new ≡ None
Gives (Some bytes) new buf n = (n ≤ length bytes) × (take n buf ≡ take n bytes) × (new ≡ Some (drop n bytes))

-- no byte is left
abbrev pub IsAtEnd : Option (List ℕ) → Type 0
IsAtEnd None = ⊤
IsAtEnd (Some bytes) = bytes ≡ []
