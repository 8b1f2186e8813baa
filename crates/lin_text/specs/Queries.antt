-- The lines of a query, the condition that they spell, and what is answered for a text.
use Rattle.std.specs.Prelude.{◌≡◌, ◌≤◌, ℕ, Bool, true, false, not, ◌⊎◌, List, [], ◌∷◌, ◌++◌, length, map, drop}
use Rattle.std.specs.List.{take_while, prefix_len}
use Rattle.lin_model.specs.Terms.{PlainVar}
use Rattle.lin_model.specs.Conditions.{PlainCondition, Fits}
use Rattle.lin_model.specs.declared.atom.Atom.{Atom}
use Rattle.lin_model.specs.declared.condition.TheConstants.{MAX_VARS, MAX_ATOMS}
use Rattle.lin_text.specs.declared.fault.TextKind.{TextKind}
use Rattle.lin_text.specs.Pieces.{Piece, word, PlainLine, pieces, AreLines}
use Rattle.lin_text.specs.Grammar.{number_among, Declares, Compares}
use Rattle.lin_text.specs.Faults.{IsFirstFault}

-- the first token is a reserved word other than `var`
abbrev pub begins_word : List Piece → Bool
begins_word (word w ∷ ps) = true
begins_word _ = false

-- a query goes on until a line begins with a reserved word other than `var`
abbrev pub is_of_query : PlainLine → Bool
is_of_query line = not (begins_word (pieces line.tokens))

-- the lines at the front that belong to the query
abbrev pub query_lines : List PlainLine → List PlainLine
query_lines = take_while is_of_query

-- the start of the first line, or the end of the input
abbrev pub start_of : List ℕ → List PlainLine → ℕ
start_of bytes [] = length bytes
start_of bytes (line ∷ lines) = line.start

-- the start of the line that ends the query, or the end of the input
abbrev pub query_end : List ℕ → List PlainLine → ℕ
query_end bytes lines = start_of bytes (drop (prefix_len is_of_query lines) lines)

-- the names of variables, in order
abbrev pub names_of : List PlainVar → List (List ℕ)
names_of = map (λ v. v.name)

-- the lines declare these variables and compare as these atoms do, each in order, where those were declared above
abbrev pub AreDeclaredAndCompared : List PlainVar → List PlainLine → List PlainVar → List Atom → Type 0
AreDeclaredAndCompared above [] vars atoms = (vars ≡ []) × (atoms ≡ [])
AreDeclaredAndCompared above (line ∷ lines) vars atoms =
    ((v : PlainVar) × (more : List PlainVar) × (vars ≡ v ∷ more) × Declares (pieces line.tokens) v
    × AreDeclaredAndCompared (above ++ v ∷ []) lines more atoms)
    ⊎ ((a : Atom) × (more : List Atom) × (atoms ≡ a ∷ more) × Compares (number_among (names_of above))
    (pieces line.tokens) a
    × AreDeclaredAndCompared above lines vars more)

-- the lines of a query spell the condition
pub record Spell (lines : List PlainLine) (q : PlainCondition) : Type 0 where
  pub meaning : AreDeclaredAndCompared [] lines q.vars q.atoms
  pub fits : Fits q.vars q.atoms

-- the text from a place, at which a line begins, up to `end` spells the condition
pub record Spells (in_proof : Bool) (bytes : List ℕ) (at : ℕ) (q : PlainCondition) (end : ℕ) : Type 0 where
  pub lines : List PlainLine
  pub are : AreLines in_proof bytes at lines
  pub spelled : Spell (query_lines lines) q
  pub ends : end ≡ query_end bytes lines

-- the fault of the text from a place on
pub record HasFault (in_proof : Bool) (bytes : List ℕ) (at : ℕ) (kind : TextKind) (place : ℕ) : Type 0 where
  pub lines : List PlainLine
  pub are : AreLines in_proof bytes at lines
  pub first : IsFirstFault (query_lines lines) kind place

-- what the lines of a query declare and compare so far, with the names
pub record IsDraft (names : List (List ℕ)) (vars : List PlainVar) (atoms : List Atom) : Type 0 where
  pub named : names ≡ names_of vars
  pub few_vars : length vars ≤ MAX_VARS
  pub few_atoms : length atoms ≤ MAX_ATOMS
