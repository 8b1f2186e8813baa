-- What the reader answers for a part of a line: a value with the place behind it, or the first fault.
use Rattle.std.specs.Prelude.{◌≡◌, ℕ, zero, suc, nat_lt, Bool, true, false, not, List, [], ◌∷◌, ◌++◌, ◌==◌, length}
use Rattle.std.specs.Prelude.{slice_range, is_some, ℤ, pos, neg_ℤ, int_lt, Option, Some, None}
use Rattle.std.specs.Prelude.{Result, Ok, Err, if◌then◌else◌}
use Rattle.lin_model.specs.Terms.{PlainTerm, PlainVar}
use Rattle.lin_model.specs.Conditions.{PlainCondition}
use Rattle.lin_model.specs.declared.atom.Atom.{Atom}
use Rattle.lin_model.specs.declared.atom.Cmp.{Cmp}
use Rattle.lin_model.specs.declared.condition.TheConstants.{MAX_VARS, MAX_ATOMS}
use Rattle.lin_model.specs.declared.term.TheConstants.{MAX_FACTOR, MAX_CONSTANT, MAX_TERMS}
use Rattle.lin_model.specs.declared.var.TheConstants.{MAX_BOUND}
use Rattle.lin_text.specs.declared.fault.TextKind.{TextKind}
use Rattle.lin_text.specs.declared.fault.TextKind.TheVariants.{Token, Syntax, NumberTooLarge, UnknownName, NameTwice}
use Rattle.lin_text.specs.declared.fault.TextKind.TheVariants.{EmptyRange, TooManyVars, TooManyAtoms, TooManyTerms}
use Rattle.lin_text.specs.declared.refusal.Fault.{Fault}
use Rattle.lin_text.specs.declared.refusal.ReadError.{ReadError}
use Rattle.lin_text.specs.declared.refusal.ReadError.TheVariants as errors
use Rattle.lin_text.specs.declared.class.Class.{Class}
use Rattle.lin_text.specs.declared.class.Class.TheVariants.{Var, Word, Name, Number, Plus, Minus, Times, Compare, Bad}
use Rattle.lin_text.specs.declared.class.Class.TheVariants.{LineEnd}
use Rattle.lin_text.specs.declared.class.Lexeme.{Lexeme}
use Rattle.lin_text.specs.Pieces.{cmp_of, first_token}
use Rattle.lin_text.specs.Classes.{shown}
use Rattle.lin_text.specs.Grammar.{Naming, number_among, signed}
use Rattle.lin_text.specs.Queries.{names_of}

-- what reading gives: a value, or the first fault
abbrev pub Read : Type 0 → Type 0
Read X = Result X (Fault TextKind)

-- goes on with a value, and hands on a fault
infixl 10 ◌>>=◌
abbrev pub ◌>>=◌ : {A B : Type 0} → Read A → (A → Read B) → Read B
(Ok x) >>= f = f x
(Err e) >>= f = Err e

-- what a function that takes memory returned is what reading gives, unless that is `NoMemory`
abbrev pub Gives : {X : Type 0} → Result X (ReadError TextKind) → Read X → Type 0
Gives (Ok x) read = read ≡ Ok x
Gives (Err errors.NoMemory) read = Unit {0}
Gives (Err (errors.Fault f)) read = read ≡ Err f

-- the first token from a place on, as the reader sees it
abbrev pub lexeme_at : Bool → List ℕ → ℕ → Lexeme
lexeme_at in_proof bytes at = shown (first_token in_proof bytes at)

-- a fault of the kind, at the place
abbrev pub fault_at : {K : Type 0} → K → ℕ → Fault K
fault_at kind at = record { kind = kind; at = at }

-- the kind where a token can't come next
abbrev pub refusal_kind : Class → TextKind
refusal_kind Bad = Token
refusal_kind _ = Syntax

-- the fault of a token that can't come next
abbrev pub refusal : Lexeme → Fault TextKind
refusal l = fault_at (refusal_kind l.class) l.from

-- the number of a bound, by the class of its token
abbrev pub bound_by : Class → Lexeme → Read (ℤ × ℕ)
bound_by (Number n) l = if nat_lt MAX_BOUND n then Err (fault_at NumberTooLarge l.from) else Ok (pos n, l.to)
bound_by _ l = Err (refusal l)

-- the number of a bound
unfoldable pub bound_of : Lexeme → Read (ℤ × ℕ)
bound_of l = bound_by l.class l

-- a `-`
abbrev pub is_minus : Class → Bool
is_minus Minus = true
is_minus _ = false

-- a bound
unfoldable pub integer_at : Bool → List ℕ → ℕ → Read (ℤ × ℕ)
integer_at p bytes at =
    let l = lexeme_at p bytes at in
    if is_minus l.class then (bound_of (lexeme_at p bytes l.to) >>= λ n. Ok (neg_ℤ n.0, n.1)) else bound_of l

-- a name
abbrev pub is_name_class : Class → Bool
is_name_class Name = true
is_name_class _ = false

-- which of the names the token is, from 0
abbrev pub number_in : List (List ℕ) → List ℕ → Lexeme → Option ℕ
number_in names bytes l = number_among names (slice_range bytes l.from l.to)

-- the places of a name that isn't declared so far
unfoldable pub free_name_at : Bool → List ℕ → List (List ℕ) → ℕ → Read (ℕ × ℕ)
free_name_at p bytes names at =
    let l = lexeme_at p bytes at in
    if is_name_class l.class then (if is_some (number_in names bytes l) then Err (fault_at NameTwice l.from) else Ok
    (l.from, l.to)) else Err (refusal l)

-- two bounds, the lower one first
unfoldable pub range_at : Bool → List ℕ → ℕ → Read (ℤ × ℤ × ℕ)
range_at p bytes at =
    integer_at p bytes at >>= λ lo.
    integer_at p bytes lo.1 >>= λ hi.
    if int_lt hi.0 lo.0 then Err (fault_at EmptyRange (lexeme_at p bytes at).from) else Ok (lo.0, hi.0, hi.1)

-- the line's end
abbrev pub is_end_class : Class → Bool
is_end_class LineEnd = true
is_end_class _ = false

-- the end of the line
unfoldable pub end_at : Bool → List ℕ → ℕ → Read (Unit {0})
end_at p bytes at = let l = lexeme_at p bytes at in if is_end_class l.class then Ok tt else Err (refusal l)

-- a declaration behind the word `var`
unfoldable pub declaration_at : Bool → List ℕ → List (List ℕ) → ℕ → Read (ℕ × ℕ × ℤ × ℤ)
declaration_at p bytes names at =
    free_name_at p bytes names at >>= λ name.
    range_at p bytes name.1 >>= λ range.
    end_at p bytes range.2 >>= λ _.
    Ok (name.0, name.1, range.0, range.1)

-- the term on the variable of this number
abbrev pub variable_by : Option ℕ → Lexeme → ℤ → Read (PlainTerm × ℕ)
variable_by None l factor = Err (fault_at UnknownName l.from)
variable_by (Some v) l factor = Ok (record { factor = factor; var = Some v }, l.to)

-- a factor on the variable that a token names
unfoldable pub variable_of : List ℕ → Naming → Lexeme → ℤ → Read (PlainTerm × ℕ)
variable_of bytes names l factor =
    if is_name_class l.class
    then variable_by (names (slice_range bytes l.from l.to)) l factor
    else Err (refusal l)

-- a `*`
abbrev pub is_times : Class → Bool
is_times Times = true
is_times _ = false

-- a number that a `*` follows, or one by itself
unfoldable pub number_at : Bool → List ℕ → Naming → Bool → Lexeme → ℕ → Read (PlainTerm × ℕ)
number_at p bytes names negative l n =
    let next = lexeme_at p bytes l.to in
    if is_times next.class
    then (if nat_lt MAX_FACTOR n then Err (fault_at NumberTooLarge l.from) else variable_of bytes names
    (lexeme_at p bytes next.to) (signed negative n))
    else (if nat_lt MAX_CONSTANT n then Err (fault_at NumberTooLarge l.from) else Ok
    (record { factor = signed negative n; var = None }, l.to))

-- an item without the minus of its own, by the class of its first token
abbrev pub quantity_by : Class → Bool → List ℕ → Naming → Bool → Lexeme → Read (PlainTerm × ℕ)
quantity_by Name p bytes names negative l = variable_of bytes names l (signed negative 1)
quantity_by (Number n) p bytes names negative l = number_at p bytes names negative l n
quantity_by _ p bytes names negative l = Err (refusal l)

-- an item without the minus of its own
unfoldable pub quantity_at : Bool → List ℕ → Naming → Bool → Lexeme → Read (PlainTerm × ℕ)
quantity_at p bytes names negative l = quantity_by l.class p bytes names negative l

-- an item that begins with the token, behind a minus or not
unfoldable pub item_from : Bool → List ℕ → Naming → Bool → Lexeme → Read (PlainTerm × ℕ)
item_from p bytes names subtracted l =
    if is_minus l.class then quantity_at p bytes names (not subtracted)
    (lexeme_at p bytes l.to) else quantity_at p bytes names subtracted l

-- a token with which an item begins
abbrev pub begins_item_class : Class → Bool
begins_item_class Minus = true
begins_item_class (Number n) = true
begins_item_class Name = true
begins_item_class _ = false

-- the fault where no more items may come
unfoldable pub full_at : Lexeme → Fault TextKind
full_at l = if begins_item_class l.class then fault_at TooManyTerms l.from else refusal l

-- a sign behind which another item comes
abbrev pub is_joint : Class → Bool
is_joint Plus = true
is_joint Minus = true
is_joint _ = false

-- at most n items, the first of which begins with the token, behind a minus or not
unfoldable pub items_from : ℕ → Bool → List ℕ → Naming → Bool → Lexeme → Read (List PlainTerm × ℕ)
items_from zero p bytes names subtracted l = Err (full_at l)
items_from (suc n) p bytes names subtracted l =
    item_from p bytes names subtracted l >>= λ item.
    let sign = lexeme_at p bytes item.1 in
    if is_joint sign.class
    then (items_from n p bytes names (is_minus sign.class) (lexeme_at p bytes sign.to) >>= λ later.
    Ok (item.0 ∷ later.0, later.1))
    else Ok (item.0 ∷ [], item.1)

-- a side that begins with the token
unfoldable pub side_from : Bool → List ℕ → Naming → Lexeme → Read (List PlainTerm × ℕ)
side_from p bytes names l = items_from MAX_TERMS p bytes names false l

-- how two sides compare, by the class of the token
abbrev pub comparison_by : Class → Lexeme → Read (Cmp × ℕ)
comparison_by (Compare sign) l = Ok (cmp_of sign, l.to)
comparison_by _ l = Err (refusal l)

-- how two sides compare
unfoldable pub comparison_at : Bool → List ℕ → ℕ → Read (Cmp × ℕ)
comparison_at p bytes at = let l = lexeme_at p bytes at in comparison_by l.class l

-- a comparison of two sides that begins with the token, to the end of the line
unfoldable pub atom_from : Bool → List ℕ → Naming → Lexeme → Read Atom
atom_from p bytes names l =
    side_from p bytes names l >>= λ left.
    comparison_at p bytes left.1 >>= λ cmp.
    side_from p bytes names (lexeme_at p bytes cmp.1) >>= λ right.
    end_at p bytes right.1 >>= λ _.
    Ok (record { left = left.0; cmp = cmp.0; right = right.0 })

-- a variable that a line declares behind the word `var`
unfoldable pub variable_at : Bool → List ℕ → List (List ℕ) → ℕ → Read PlainVar
variable_at p bytes names at =
    declaration_at p bytes names at >>= λ d. Ok (record { name = slice_range bytes d.0 d.1; lo = d.2; hi = d.3 })

-- the word `var`
abbrev pub is_var_class : Class → Bool
is_var_class Var = true
is_var_class _ = false

-- another reserved word
abbrev pub is_word_class : Class → Bool
is_word_class Word = true
is_word_class _ = false

-- a token with which a comparison begins for the limit
abbrev pub begins_atom_class : Class → Bool
begins_atom_class Var = false
begins_atom_class Word = false
begins_atom_class Bad = false
begins_atom_class LineEnd = false
begins_atom_class _ = true

-- the fault where no more comparisons may come
unfoldable pub full_query_at : Lexeme → Fault TextKind
full_query_at l = if begins_atom_class l.class then fault_at TooManyAtoms l.from else refusal l

-- what is declared and compared with one variable more, behind the word
unfoldable pub var_line_at : Bool → List ℕ → PlainCondition → Lexeme → Read PlainCondition
var_line_at p bytes q word =
    if length q.vars == MAX_VARS then Err (fault_at TooManyVars word.from) else
    (variable_at p bytes (names_of q.vars) word.to >>= λ v. Ok (record { vars = q.vars ++ v ∷ []; atoms = q.atoms }))

-- what is declared and compared with one atom more, which begins with the token
unfoldable pub atom_line_at : Bool → List ℕ → PlainCondition → Lexeme → Read PlainCondition
atom_line_at p bytes q first =
    if length q.atoms == MAX_ATOMS then Err (full_query_at first) else
    (atom_from p bytes (number_among (names_of q.vars)) first >>= λ a.
    Ok (record { vars = q.vars; atoms = q.atoms ++ a ∷ [] }))

-- what is declared and compared with one line more, which begins with the token
unfoldable pub line_at : Bool → List ℕ → PlainCondition → Lexeme → Read PlainCondition
line_at p bytes q first =
    if is_var_class first.class then var_line_at p bytes q first else atom_line_at p bytes q first
