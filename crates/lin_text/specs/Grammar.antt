-- The lines of a query as trees, the tokens with which a tree is written, and what it means.
use Rattle.std.specs.Prelude.{◌≡◌, ℕ, ◌+◌, Bool, false, List, [], ◌∷◌, ◌++◌, length, flat_map, ℤ, pos, neg_ℤ}
use Rattle.std.specs.Prelude.{◌*ℤ◌, Option, Some, None, position, bytes_eq, if◌then◌else◌}
use Rattle.lin_model.specs.Terms.{PlainVar, PlainTerm, TermFits, VarFits, ExprFits}
use Rattle.lin_model.specs.declared.atom.Atom.{Atom}
use Rattle.lin_text.specs.declared.class.Sign.{Sign}
use Rattle.lin_text.specs.Pieces.{cmp_of, Piece, var, name, number, plus, minus, times, compare, line_end}

-- an integer: `-` number, or number
pub record Integer : Type 0 where
  pub negative : Bool
  pub size : ℕ

-- number, number `*` name, or name
pub data Quantity : Type 0 where
  constant : ℕ → Quantity
  multiple : ℕ → List ℕ → Quantity
  single : List ℕ → Quantity

-- an item: a minus of its own or none, and then a quantity
pub record Item : Type 0 where
  pub negative : Bool
  pub quantity : Quantity

-- `+` or `-`, and then an item
pub record Joined : Type 0 where
  pub subtracted : Bool
  pub item : Item

-- a side: an item, and then any number of joined ones
pub record Side : Type 0 where
  pub first : Item
  pub later : List Joined

-- a line of a query: a name and two integers, or two sides and how they compare
pub data Line : Type 0 where
  declaration : List ℕ → Integer → Integer → Line
  comparison : Side → Sign → Side → Line

-- a minus, or nothing
abbrev pub sign : Bool → List Piece
sign negative = if negative then minus ∷ [] else []

-- the tokens of an integer
abbrev pub integer_pieces : Integer → List Piece
integer_pieces i = sign i.negative ++ number i.size ∷ []

-- the tokens of a quantity
abbrev pub quantity_pieces : Quantity → List Piece
quantity_pieces (constant n) = number n ∷ []
quantity_pieces (multiple n x) = number n ∷ times ∷ name x ∷ []
quantity_pieces (single x) = name x ∷ []

-- the tokens of an item
abbrev pub item_pieces : Item → List Piece
item_pieces i = sign i.negative ++ quantity_pieces i.quantity

-- the sign that joins an item to those before it
abbrev pub joint : Bool → Piece
joint subtracted = if subtracted then minus else plus

-- the tokens of a joined item
abbrev pub joined_pieces : Joined → List Piece
joined_pieces j = joint j.subtracted ∷ item_pieces j.item

-- the tokens of a side
unfoldable pub side_pieces : Side → List Piece
side_pieces s = item_pieces s.first ++ flat_map joined_pieces s.later

-- how many items a side has
abbrev pub item_count : Side → ℕ
item_count s = 1 + length s.later

-- the tokens of a line, its end among them
abbrev pub line_pieces : Line → List Piece
line_pieces (declaration x lo hi) = var ∷ name x ∷ integer_pieces lo ++ integer_pieces hi ++ line_end ∷ []
line_pieces (comparison left sign right) = side_pieces left ++ compare sign ∷ side_pieces right ++ line_end ∷ []

-- these tokens begin some line
pub record BeginsLine (ps : List Piece) : Type 0 where
  pub line : Line
  pub more : List Piece
  pub written : line_pieces line ≡ ps ++ more

-- the number, negated or not
abbrev pub signed : Bool → ℕ → ℤ
signed negative n = if negative then neg_ℤ (pos n) else pos n

-- the number that an integer means
abbrev pub integer_value : Integer → ℤ
integer_value i = signed i.negative i.size

-- the number that is written; where a name stands alone, 1
abbrev pub quantity_size : Quantity → ℕ
quantity_size (constant n) = n
quantity_size (multiple n x) = n
quantity_size (single x) = 1

-- the size with its sign: a `-` of the item's own turns it round, and so does one that joins the item
abbrev pub factor_of : Bool → Item → ℤ
factor_of subtracted i = signed subtracted 1 *ℤ signed i.negative (quantity_size i.quantity)

-- the number of a name, if it has one
abbrev pub Naming : Type 0
Naming = List ℕ → Option ℕ

-- the number of a name is its place among these, from 0
abbrev pub number_among : List (List ℕ) → Naming
number_among names x = position (bytes_eq x) names

-- the quantity is on the variable of this number, or on none
abbrev pub IsOn : Naming → Quantity → Option ℕ → Type 0
IsOn names (constant n) v = v ≡ None
IsOn names (multiple n x) v = (k : ℕ) × (v ≡ Some k) × (names x ≡ Some k)
IsOn names (single x) v = (k : ℕ) × (v ≡ Some k) × (names x ≡ Some k)

-- the item is this term, within the limits
pub record IsTerm (names : Naming) (subtracted : Bool) (i : Item) (term : PlainTerm) : Type 0 where
  pub factor : term.factor ≡ factor_of subtracted i
  pub on : IsOn names i.quantity term.var
  pub fits : TermFits term

-- the items are these terms, one for each in order
abbrev pub AreTerms : Naming → List Joined → List PlainTerm → Type 0
AreTerms names [] terms = terms ≡ []
AreTerms names (j ∷ js) [] = ⊥
AreTerms names (j ∷ js) (term ∷ terms) = IsTerm names j.subtracted j.item term × AreTerms names js terms

-- the side is these terms, one for each item in order, and no more than a side may have
abbrev pub IsExpr : Naming → Side → List PlainTerm → Type 0
IsExpr names s terms = AreTerms names (record { subtracted = false; item = s.first } ∷ s.later) terms × ExprFits terms

-- the tokens of a line declare this variable
pub record Declares (ps : List Piece) (v : PlainVar) : Type 0 where
  pub lo : Integer
  pub hi : Integer
  pub written : ps ≡ line_pieces (declaration v.name lo hi)
  pub low : v.lo ≡ integer_value lo
  pub high : v.hi ≡ integer_value hi
  pub fits : VarFits v

-- the tokens of a line compare as this atom does
pub record Compares (names : Naming) (ps : List Piece) (atom : Atom) : Type 0 where
  pub left : Side
  pub sign : Sign
  pub right : Side
  pub written : ps ≡ line_pieces (comparison left sign right)
  pub means : atom.cmp ≡ cmp_of sign
  pub left_terms : IsExpr names left atom.left
  pub right_terms : IsExpr names right atom.right
