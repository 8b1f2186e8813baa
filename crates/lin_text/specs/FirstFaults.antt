-- The faults of the lines of a text, and the one that is answered: whatever is seen above a line, and whatever the
-- kinds.
use Rattle.std.specs.Prelude.{◌≡◌, ℕ, ◌<◌, ◌≤◌, Bool, ◌⊎◌, List, [], ◌∷◌, ◌++◌, length}
use Rattle.lin_text.specs.Pieces.{Piece, PlainToken, PlainLine, pieces, AreLines}

-- The faults of a sort of text, over what was seen above a line and the kinds of fault.
pub record Rules (S K : Type 0) : Type 1 where
  -- what is seen above the line below
  pub below : S → PlainLine → S
  -- a fault of the kind stands in a line of these tokens at one of them, which comes behind `front` and before `after`
  pub stands : S → List Piece → List Piece → Piece → List Piece → K → Type 0
  -- a fault of the kind stands at the end of the text
  pub at_end : S → K → Type 0
  -- the order of the kinds at one place
  pub rank : K → ℕ

-- a fault of the kind stands at this place of a line
pub record StandsInLine {S K : Type 0} (rules : Rules S K) (seen : S) (line : PlainLine) (kind : K)
    (at : ℕ) : Type 0 where
  pub front : List PlainToken
  pub token : PlainToken
  pub after : List PlainToken
  pub in_line : line.tokens ≡ front ++ token ∷ after
  pub place : at ≡ token.from
  pub stands : rules.stands seen (pieces line.tokens) (pieces front) token.piece (pieces after) kind

-- a fault of the kind stands at this place in the lines; where these are over, at the end of the bytes
abbrev pub StandsIn : {S K : Type 0} → Rules S K → List ℕ → S → List PlainLine → K → ℕ → Type 0
StandsIn rules bytes seen [] kind at = rules.at_end seen kind × (at ≡ length bytes)
StandsIn rules bytes seen (line ∷ lines) kind at =
    StandsInLine rules seen line kind at ⊎ StandsIn rules bytes (rules.below seen line) lines kind at

-- of these faults it is the one that is answered: none stands at a place before it, and none that goes before it at its
-- place
pub record IsFirst {K : Type 0} (rank : K → ℕ) (Fault : K → ℕ → Type 0) (kind : K) (at : ℕ) : Type 0 where
  pub stands : Fault kind at
  pub least : (k : K) (p : ℕ) → Fault k p → (at < p) ⊎ ((at ≡ p) × (rank kind ≤ rank k))

-- the fault of the lines from a place on, above which this was seen
pub record HasFaultFrom {S K : Type 0} (rules : Rules S K) (in_proof : Bool) (bytes : List ℕ) (seen : S) (at : ℕ)
    (kind : K) (place : ℕ) : Type 0 where
  pub lines : List PlainLine
  pub are : AreLines in_proof bytes at lines
  pub first : IsFirst rules.rank (StandsIn rules bytes seen lines) kind place

-- Between two places no fault stands: the first fault from the one is the first from the other.
pub record Leads {S K : Type 0} (rules : Rules S K) (in_proof : Bool) (bytes : List ℕ) (s : S) (at : ℕ) (t : S)
    (to : ℕ) : Type 0 where
  pub back : (k : K) (p : ℕ) → HasFaultFrom rules in_proof bytes t to k p → HasFaultFrom rules in_proof bytes s at k p
  pub forth : (k : K) (p : ℕ) → HasFaultFrom rules in_proof bytes s at k p → HasFaultFrom rules in_proof bytes t to k p

-- no kind goes behind one that stands at the end of the text
abbrev pub EndsLast : {S K : Type 0} → Rules S K → Type 0
EndsLast {S} {K} rules = (seen : S) (kind end : K) → rules.at_end seen end → rules.rank kind ≤ rules.rank end

-- no two kinds have one place in the order
abbrev pub IsStrict : {K : Type 0} → (K → ℕ) → Type 0
IsStrict {K} rank = (k j : K) → rank k ≡ rank j → k ≡ j
