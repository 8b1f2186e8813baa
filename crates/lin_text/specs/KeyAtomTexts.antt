-- Texts of canonical atoms: which one a text spells, and its first fault.
use Rattle.std.specs.Prelude.{◌≡◌, ◌⊎◌, ℕ, ◌≤◌, Bool, true, false, IsTrue, Option, Some, None, is_some, List, [], ◌∷◌}
use Rattle.std.specs.Prelude.{◌++◌, codes}
use Rattle.std.specs.List.{All}
use Rattle.lin_model.specs.KeyAtom.{PlainKeyAtom, IsCanonical}
use Rattle.lin_model.specs.declared.form.FormTerm.{FormTerm}
use Rattle.lin_model.specs.declared.op.Op.{Op}
use Rattle.lin_model.specs.declared.op.Op.TheVariants.{Le, Ge, Eq, Ne}
use Rattle.lin_model.specs.declared.term.TheConstants.{MAX_TERMS}
use Rattle.lin_text.specs.declared.class.Sign.{Sign}
use Rattle.lin_text.specs.declared.class.Sign.TheVariants as signs
use Rattle.lin_text.specs.declared.fault.TextKind.{TextKind}
use Rattle.lin_text.specs.declared.fault.TextKind.TheVariants.{Token, Syntax, NumberTooLarge, UnknownName, NameTwice}
use Rattle.lin_text.specs.declared.fault.TextKind.TheVariants.{EmptyRange, TooManyVars, TooManyAtoms, TooManyTerms}
use Rattle.lin_text.specs.declared.fault.TextKind.TheVariants.{NoMemory}
use Rattle.lin_text.specs.Faults.{begins_item}
use Rattle.lin_text.specs.FirstFaults.{Rules, IsFirst}
use Rattle.lin_text.specs.Grammar.{Integer, Quantity, constant, multiple, single, Item, Joined, Side, integer_pieces}
use Rattle.lin_text.specs.Grammar.{integer_value, side_pieces, factor_of, item_count, joint}
use Rattle.lin_text.specs.Kinds.{rank}
use Rattle.lin_text.specs.Pieces.{Piece, compare, bad, line_end, number_of, PlainToken, PlainLine, pieces, AreTokens}
use Rattle.lin_text.specs.Pieces.{AreLines}
use Rattle.lin_text.specs.Tokens.{IsNumberForm}

-- ---- atoms as trees

-- the op that a sign means; `<`, `>` and `==` mean none
abbrev pub op_of : Sign → Option Op
op_of signs.Le = Some Le
op_of signs.Lt = None
op_of signs.Ge = Some Ge
op_of signs.Gt = None
op_of signs.Eq = Some Eq
op_of signs.DoubleEq = None
op_of signs.Ne = Some Ne

-- the name is a `v` and digits that are this number
pub record IsKeyName (x : List ℕ) (var : ℕ) : Type 0 where
  pub digits : List ℕ
  pub is : x ≡ codes "v" ++ digits
  pub form : IsNumberForm digits
  pub value : var ≡ number_of digits

-- a form as a side, a sign and a constant
pub record AtomTree : Type 0 where
  pub side : Side
  pub sign : Sign
  pub integer : Integer

-- the tokens of an atom
abbrev pub atom_pieces : AtomTree → List Piece
atom_pieces tree = side_pieces tree.side ++ compare tree.sign ∷ integer_pieces tree.integer

-- the name of a quantity, where it has one, is a `v` and a number
abbrev pub NamesKeyVar : Quantity → Type 0
NamesKeyVar (constant n) = Unit {0}
NamesKeyVar (multiple n x) = (var : ℕ) × IsKeyName x var
NamesKeyVar (single x) = (var : ℕ) × IsKeyName x var

-- the tree is of the grammar: its names are those of variables, and its sign means an op
pub record IsAtomTree (tree : AtomTree) : Type 0 where
  pub first : NamesKeyVar tree.side.first.quantity
  pub later : All (λ j. NamesKeyVar j.item.quantity) tree.side.later
  pub sign : is_some (op_of tree.sign) ≡ true

-- the quantity is on the variable of this number
abbrev pub IsOnKeyVar : Quantity → ℕ → Type 0
IsOnKeyVar (constant n) var = ⊥
IsOnKeyVar (multiple n x) var = IsKeyName x var
IsOnKeyVar (single x) var = IsKeyName x var

-- the item is this term
pub record IsFormTerm (subtracted : Bool) (i : Item) (t : FormTerm) : Type 0 where
  pub coef : t.coef ≡ factor_of subtracted i
  pub on : IsOnKeyVar i.quantity t.var

-- the items are these terms, one for each in order
abbrev pub AreFormTerms : List Joined → List FormTerm → Type 0
AreFormTerms [] form = form ≡ []
AreFormTerms (j ∷ js) [] = ⊥
AreFormTerms (j ∷ js) (t ∷ form) = IsFormTerm j.subtracted j.item t × AreFormTerms js form

-- the tree means the canonical atom
pub record Means (tree : AtomTree) (a : PlainKeyAtom) : Type 0 where
  pub form : AreFormTerms (record { subtracted = false; item = tree.side.first } ∷ tree.side.later) a.form
  pub op : op_of tree.sign ≡ Some a.op
  pub value : a.constant ≡ integer_value tree.integer
  pub canonical : IsCanonical a

-- the tokens begin with those of a tree that means the atom, and go on with these
pub record WritesAtom (ps : List Piece) (a : PlainKeyAtom) (after : List Piece) : Type 0 where
  pub tree : AtomTree
  pub written : ps ≡ atom_pieces tree ++ after
  pub means : Means tree a

-- the tokens of a line from a place on begin with those of the atom, and go on with these
pub record SpellsAtom (in_proof : Bool) (bytes : List ℕ) (at : ℕ) (a : PlainKeyAtom) (after : List Piece) : Type 0 where
  pub tokens : List PlainToken
  pub are : AreTokens in_proof bytes at tokens
  pub writes : WritesAtom (pieces tokens) a after

-- the place behind tokens that begin at a place
abbrev pub place_behind : ℕ → List PlainToken → ℕ
place_behind at [] = at
place_behind at (t ∷ ts) = place_behind t.to ts

-- the tokens of a line from a place on are those of the atom, up to the place `to`, and then those from there on
pub record SpellsAtomTo (in_proof : Bool) (bytes : List ℕ) (at : ℕ) (a : PlainKeyAtom) (to : ℕ) : Type 0 where
  pub front : List PlainToken
  pub rest : List PlainToken
  pub are : AreTokens in_proof bytes at (front ++ rest)
  pub there : AreTokens in_proof bytes to rest
  pub ends : to ≡ place_behind at front
  pub writes : WritesAtom (pieces front) a []

-- ---- faults

-- these tokens begin some atom of the grammar, up to the line's end
pub record BeginsAtom (ps : List Piece) : Type 0 where
  pub tree : AtomTree
  pub is : IsAtomTree tree
  pub more : List Piece
  pub written : atom_pieces tree ++ line_end ∷ [] ≡ ps ++ more

-- an atom of the grammar, with no more terms than a side may have, stands in front and means no canonical one
pub record BeginsUncanonical (ps : List Piece) : Type 0 where
  pub tree : AtomTree
  pub is : IsAtomTree tree
  pub few : item_count tree.side ≤ MAX_TERMS
  pub after : List Piece
  pub written : ps ≡ atom_pieces tree ++ after
  pub none : (a : PlainKeyAtom) → ¬ Means tree a

-- the tokens are a form of as many terms as may be and the sign of one more
pub record IsFullForm (front : List Piece) : Type 0 where
  pub side : Side
  pub subtracted : Bool
  pub full : item_count side ≡ MAX_TERMS
  pub written : front ≡ side_pieces side ++ joint subtracted ∷ []

-- A fault of the kind stands at the token `p` of an atom's line, which comes behind the tokens `front` and before the
-- tokens `after`. A name that isn't `v` with a number can't come next; what isn't canonical is at fault at its first
-- token.
abbrev pub StandsInAtom : List Piece → Piece → List Piece → TextKind → Type 0
StandsInAtom front p after TooManyTerms = IsFullForm front × IsTrue (begins_item p)
StandsInAtom front p after Token = p ≡ bad
StandsInAtom front p after Syntax = (¬ BeginsAtom (front ++ p ∷ [])) ⊎ ((front ≡ []) × BeginsUncanonical (p ∷ after))
StandsInAtom front p after TooManyVars = ⊥
StandsInAtom front p after TooManyAtoms = ⊥
StandsInAtom front p after NumberTooLarge = ⊥
StandsInAtom front p after UnknownName = ⊥
StandsInAtom front p after NameTwice = ⊥
StandsInAtom front p after EmptyRange = ⊥
StandsInAtom front p after NoMemory = ⊥

-- a fault of the kind stands at this place among the tokens of an atom's line
pub record StandsAmong (tokens : List PlainToken) (kind : TextKind) (at : ℕ) : Type 0 where
  pub front : List PlainToken
  pub token : PlainToken
  pub after : List PlainToken
  pub in_line : tokens ≡ front ++ token ∷ after
  pub place : at ≡ token.from
  pub stands : StandsInAtom (pieces front) token.piece (pieces after) kind

-- the first fault of the atom that begins at a place of a line and goes to the line's end
pub record HasAtomFault (in_proof : Bool) (bytes : List ℕ) (at : ℕ) (kind : TextKind) (place : ℕ) : Type 0 where
  pub tokens : List PlainToken
  pub are : AreTokens in_proof bytes at tokens
  pub first : IsFirst rank (StandsAmong tokens) kind place

-- ---- texts of one atom alone

-- The faults of a text of one atom: those of its line, which is the first that isn't skipped; any token behind that
-- line; and the end, where no line came.
abbrev pub atom_stands : Bool → List Piece → Piece → List Piece → TextKind → Type 0
atom_stands false front p after kind = StandsInAtom front p after kind
atom_stands true front p after Token = p ≡ bad
atom_stands true front p after Syntax = front ≡ []
atom_stands true front p after _ = ⊥

abbrev pub atom_at_end : Bool → TextKind → Type 0
atom_at_end false kind = kind ≡ Syntax
atom_at_end true kind = ⊥

-- the rules, over whether a line was seen
abbrev pub atom_rules : Rules Bool TextKind
atom_rules = record {
  below = λ seen line. true;
  stands = λ seen line front p after kind. atom_stands seen front p after kind;
  at_end = atom_at_end;
  rank = rank;
}

-- the text is one line that isn't skipped, and this spells the atom
pub record IsAtomText (bytes : List ℕ) (a : PlainKeyAtom) : Type 0 where
  pub line : PlainLine
  pub alone : AreLines false bytes 0 (line ∷ [])
  pub writes : WritesAtom (pieces line.tokens) a (line_end ∷ [])
