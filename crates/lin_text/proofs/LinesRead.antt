-- The lines of a query that were read so far, and one more.
use Rattle.std.proofs.Common.{◌≡◌, ℕ, ◌+◌, ◌<◌, Bool, true, false, cond, not, List, [], ◌∷◌, ◌++◌, length, get_or, refl}
use Rattle.std.proofs.Common.{sym, ap, subst, ◌∙◌, append_assoc, arith, inl, inr}
use Rattle.std.specs.Prelude.{Ok, Contains, AllPairs, count_by}
use Rattle.std.proofs.lemmas.List.{append-nil, map-append, length_push, get_or-map, length-map}
use Rattle.std.proofs.lemmas.Grind.{flat_map-append}
use Rattle.std.proofs.lemmas.List.Sums.{sum_by-append}
use Rattle.std.proofs.lemmas.List.Quantifiers.{all_pairs_push}
use Rattle.lin_model.specs.Terms.{PlainVar}
use Rattle.lin_model.specs.Conditions.{PlainCondition, Differ}
use Rattle.lin_model.specs.declared.atom.Atom.{Atom}
use Rattle.lin_text.specs.Lines.{line_from, line_below}
use Rattle.lin_text.specs.Pieces.{Piece, compare, line_end as line_end_piece, PlainToken, PlainLine, pieces, AreTokens}
use Rattle.lin_text.specs.Pieces.{AreLines}
use Rattle.lin_text.specs.Grammar.{Quantity, constant, multiple, single, Side, sign, quantity_pieces, side_pieces}
use Rattle.lin_text.specs.Grammar.{Declares, Compares, Naming, number_among}
use Rattle.lin_text.specs.Faults.{begins_variable, begins_comparison, declared_name, declared_names, variable_count}
use Rattle.lin_text.specs.Faults.{atom_count}
use Rattle.lin_text.specs.Queries.{begins_word, is_of_query, names_of, AreDeclaredAndCompared}
use Rattle.lin_text.proofs.QueryLines.{IsClean, LineResult}

-- the lines from a place on at which one starts that isn't skipped, or the end
abbrev pub Here : Bool → List ℕ → ℕ → List PlainLine → Type 0
Here p bytes at [] = at ≡ length bytes
Here p bytes at (line ∷ lines) = (line.start ≡ at) × (at < length bytes) × AreTokens p bytes at line.tokens
    × AreLines p bytes (line_below bytes at) lines

pub from_here : (p : Bool) (bytes : List ℕ) (at : ℕ) (lines : List PlainLine) → Here p bytes (line_from bytes at) lines
    → AreLines p bytes at lines
from_here p bytes at [] h = h
from_here p bytes at (line ∷ lines) h = (
  h.0,
  subst (λ (s : ℕ). s < length bytes) (sym h.0) h.1,
  subst (λ (s : ℕ). AreTokens p bytes s line.tokens) (sym h.0) h.2,
  subst (λ (s : ℕ). AreLines p bytes (line_below bytes s) lines) (sym h.0) h.3,
)

abbrev pub AllOfQuery : List PlainLine → Type 0
AllOfQuery [] = Unit {0}
AllOfQuery (line ∷ lines) = (is_of_query line ≡ true) × AllOfQuery lines

abbrev pub AreClean : List PlainLine → List PlainLine → Type 0
AreClean above [] = Unit {0}
AreClean above (line ∷ lines) = IsClean above line.tokens × AreClean (above ++ line ∷ []) lines

of_query-push : (lines : List PlainLine) (line : PlainLine) → AllOfQuery lines → is_of_query line ≡ true
    → AllOfQuery (lines ++ line ∷ [])
of_query-push [] line h e = (e, tt)
of_query-push (l ∷ lines) line h e = (h.0, of_query-push lines line h.1 e)

clean-push : (above lines : List PlainLine) (line : PlainLine) → AreClean above lines
    → IsClean (above ++ lines) line.tokens → AreClean above (lines ++ line ∷ [])
clean-push above [] line h c = (subst (λ (ls : List PlainLine). IsClean ls line.tokens) (append-nil above) c, tt)
clean-push above (l ∷ lines) line h c = (
  h.0,
  clean-push (above ++ l ∷ []) lines line h.1
      (subst (λ (ls : List PlainLine). IsClean ls line.tokens) (sym (append_assoc above (l ∷ []) lines)) c),
)

-- what the lines mean, with one more

declared-push : (above : List PlainVar) (lines : List PlainLine) (line : PlainLine) (vars : List PlainVar)
    (atoms : List Atom) (v : PlainVar) → AreDeclaredAndCompared above lines vars atoms → Declares (pieces line.tokens) v
    → AreDeclaredAndCompared above (lines ++ line ∷ []) (vars ++ v ∷ []) atoms
declared-push above [] line vars atoms v h d =
    inl (v, [], ap (λ (vs : List PlainVar). vs ++ v ∷ []) h.0, d, (refl, h.1))
declared-push above (l ∷ lines) line vars atoms v (inl h) d =
    inl (
      h.0,
      h.1 ++ v ∷ [],
      ap (λ (vs : List PlainVar). vs ++ v ∷ []) h.2,
      h.3,
      declared-push (above ++ h.0 ∷ []) lines line h.1 atoms v h.4 d,
    )
declared-push above (l ∷ lines) line vars atoms v (inr h) d =
    inr (h.0, h.1, h.2, h.3, declared-push above lines line vars h.1 v h.4 d)

compared-push : (above : List PlainVar) (lines : List PlainLine) (line : PlainLine) (vars : List PlainVar)
    (atoms : List Atom) (a : Atom) → AreDeclaredAndCompared above lines vars atoms
    → Compares (number_among (names_of (above ++ vars))) (pieces line.tokens) a
    → AreDeclaredAndCompared above (lines ++ line ∷ []) vars (atoms ++ a ∷ [])
compared-push above [] line vars atoms a h c =
    inr (
      a,
      [],
      ap (λ (xs : List Atom). xs ++ a ∷ []) h.1,
      subst (λ (vs : List PlainVar). Compares (number_among (names_of vs)) (pieces line.tokens) a)
          (ap (λ (vs : List PlainVar). above ++ vs) h.0 ∙ append-nil above) c,
      (h.0, refl),
    )
compared-push above (l ∷ lines) line vars atoms a (inl h) c =
    inl (
      h.0,
      h.1,
      h.2,
      h.3,
      compared-push (above ++ h.0 ∷ []) lines line h.1 atoms a h.4
          (subst (λ (vs : List PlainVar). Compares (number_among (names_of vs)) (pieces line.tokens) a)
          (ap (λ (vs : List PlainVar). above ++ vs) h.2 ∙ sym (append_assoc above (h.0 ∷ []) h.1)) c),
    )
compared-push above (l ∷ lines) line vars atoms a (inr h) c =
    inr (
      h.0,
      h.1 ++ a ∷ [],
      ap (λ (xs : List Atom). xs ++ a ∷ []) h.2,
      h.3,
      compared-push above lines line vars h.1 a h.4 c,
    )

-- names and counts of the lines, with one more

names-push : (lines : List PlainLine) (line : PlainLine)
    → declared_names (lines ++ line ∷ []) ≡ declared_names lines ++ declared_name (pieces line.tokens)
names-push lines line =
    flat_map-append (λ (l : PlainLine). declared_name (pieces l.tokens)) lines (line ∷ [])
    ∙ ap (λ (xs : List (List ℕ)). declared_names lines ++ xs) (append-nil (declared_name (pieces line.tokens)))

pub count-push : (test : PlainLine → Bool) (lines : List PlainLine) (line : PlainLine)
    → count_by test (lines ++ line ∷ []) ≡ count_by test lines + cond (test line) 1 0
count-push test lines line =
    sum_by-append (λ (l : PlainLine). cond (test l) 1 0) lines (line ∷ [])
    ∙ (let same : count_by test lines + (0 + cond (test line) 1 0)
    ≡ count_by test lines + cond (test line) 1 0 = omega arith in same)

side-head : (s : Side) (rest : List Piece)
    → (begins_variable (side_pieces s ++ rest) ≡ false) × (begins_comparison (side_pieces s ++ rest) ≡ true)
    × (declared_name (side_pieces s ++ rest) ≡ [])
unfolding side_pieces
side-head s rest = by_first s.first.negative s.first.quantity _
  where
    by_first : (negative : Bool) (q : Quantity) (more : List Piece)
        → (begins_variable (((sign negative ++ quantity_pieces q) ++ more) ++ rest) ≡ false)
        × (begins_comparison (((sign negative ++ quantity_pieces q) ++ more) ++ rest) ≡ true)
        × (declared_name (((sign negative ++ quantity_pieces q) ++ more) ++ rest) ≡ [])
    by_first true q more = (refl, refl, refl)
    by_first false (constant n) more = (refl, refl, refl)
    by_first false (multiple n x) more = (refl, refl, refl)
    by_first false (single x) more = (refl, refl, refl)

comparison-head : (names : Naming) (ps : List Piece) (a : Atom) → Compares names ps a
    → (begins_variable ps ≡ false) × (begins_comparison ps ≡ true) × (declared_name ps ≡ [])
comparison-head names ps a c =
    let whole : ps ≡ side_pieces c.left ++ (compare c.sign ∷ side_pieces c.right ++ line_end_piece ∷ []) = c.written
    ∙ append_assoc (side_pieces c.left) (compare c.sign ∷ side_pieces c.right) (line_end_piece ∷ []) in
    let h = side-head c.left (compare c.sign ∷ side_pieces c.right ++ line_end_piece ∷ []) in
    (ap begins_variable whole ∙ h.0, ap begins_comparison whole ∙ h.1, ap declared_name whole ∙ h.2)

fresh-differs : (vars : List PlainVar) (v : PlainVar) → (Contains (names_of vars) v.name → ⊥) → (k : ℕ) (d : PlainVar)
    → k < length vars → Differ (get_or vars k d) v
fresh-differs vars v fresh k d lt same =
    fresh (
      k,
      (let len : length (names_of vars) ≡ length vars = length-map vars (λ (w : PlainVar). w.name) in
          omega arith),
      get_or-map (λ (w : PlainVar). w.name) vars k d v.name lt ∙ same,
    )

-- the reader has read the lines before a place
pub record ReadTo (p : Bool) (bytes : List ℕ) (from at : ℕ) (q : PlainCondition) : Type 0 where
  pub done : List PlainLine
  pub lines : (rest : List PlainLine) → Here p bytes at rest → AreLines p bytes from (done ++ rest)
  pub of_query : AllOfQuery done
  pub meaning : AreDeclaredAndCompared [] done q.vars q.atoms
  pub clean : AreClean [] done
  pub named : declared_names done ≡ names_of q.vars
  pub vars : variable_count done ≡ length q.vars
  pub atoms : atom_count done ≡ length q.atoms
  pub distinct : AllPairs Differ q.vars

pub read_none : (p : Bool) (bytes : List ℕ) (from : ℕ)
    → ReadTo p bytes from (line_from bytes from) (record { vars = []; atoms = [] })
read_none p bytes from = record {
  done = [];
  lines = λ rest h. from_here p bytes from rest h;
  of_query = tt;
  meaning = (refl, refl);
  clean = tt;
  named = refl;
  vars = refl;
  atoms = refl;
  distinct = λ i j d before within. absurd (omega arith);
}

-- one line more
pub read_more : (p : Bool) (bytes : List ℕ) (from at : ℕ) (q r : PlainCondition) (ts : List PlainToken)
    → (got : ReadTo p bytes from at q) → at < length bytes → AreTokens p bytes at ts → begins_word (pieces ts) ≡ false
    → LineResult got.done ts q (Ok r) → ReadTo p bytes from (line_from bytes (line_below bytes at)) r
read_more p bytes from at q r ts got lt are no_word (clean, inl d) =
    let line : PlainLine = record { start = at; tokens = ts } in
    subst (λ (x : PlainCondition). ReadTo p bytes from (line_from bytes (line_below bytes at)) x) (sym d.is) (record {
      done = got.done ++ line ∷ [];
      lines = λ rest h. subst (λ (ls : List PlainLine). AreLines p bytes from ls)
          (sym (append_assoc got.done (line ∷ []) rest))
          (got.lines (line ∷ rest) (refl, lt, are, from_here p bytes (line_below bytes at) rest h));
      of_query = of_query-push got.done line got.of_query (ap not no_word);
      meaning = declared-push [] got.done line q.vars q.atoms d.added got.meaning d.declares;
      clean = clean-push [] got.done line got.clean clean;
      named = names-push got.done line ∙ ap (λ (ps : List Piece). declared_names got.done
          ++ declared_name ps) d.declares.written ∙ ap (λ (ns : List (List ℕ)). ns ++ d.added.name ∷ []) got.named
          ∙ sym (map-append (λ (w : PlainVar). w.name) q.vars (d.added ∷ []));
      vars = count-push (λ (l : PlainLine). begins_variable (pieces l.tokens)) got.done line
          ∙ ap (λ (b : Bool). variable_count got.done + cond b 1 0) (ap begins_variable d.declares.written)
          ∙ ap (λ (n : ℕ). n + 1) got.vars ∙ sym (length_push q.vars d.added);
      atoms = count-push (λ (l : PlainLine). begins_comparison (pieces l.tokens)) got.done line
          ∙ ap (λ (b : Bool). atom_count got.done + cond b 1 0) (ap begins_comparison d.declares.written)
          ∙ (let same : atom_count got.done + 0 ≡ length q.atoms = omega (arith, got.atoms) in same);
      distinct = all_pairs_push Differ q.vars d.added got.distinct (fresh-differs q.vars d.added d.fresh);
    })
read_more p bytes from at q r ts got lt are no_word (clean, inr c) =
    let line : PlainLine = record { start = at; tokens = ts } in
    let head = comparison-head (number_among (names_of q.vars)) (pieces ts) c.added c.compares in
    subst (λ (x : PlainCondition). ReadTo p bytes from (line_from bytes (line_below bytes at)) x) (sym c.is) (record {
      done = got.done ++ line ∷ [];
      lines = λ rest h. subst (λ (ls : List PlainLine). AreLines p bytes from ls)
          (sym (append_assoc got.done (line ∷ []) rest))
          (got.lines (line ∷ rest) (refl, lt, are, from_here p bytes (line_below bytes at) rest h));
      of_query = of_query-push got.done line got.of_query (ap not no_word);
      meaning = compared-push [] got.done line q.vars q.atoms c.added got.meaning c.compares;
      clean = clean-push [] got.done line got.clean clean;
      named = names-push got.done line ∙ ap (λ (ns : List (List ℕ)). declared_names got.done ++ ns) head.2
          ∙ append-nil (declared_names got.done) ∙ got.named;
      vars = count-push (λ (l : PlainLine). begins_variable (pieces l.tokens)) got.done line
          ∙ ap (λ (b : Bool). variable_count got.done + cond b 1 0) head.0
          ∙ (let same : variable_count got.done + 0 ≡ length q.vars = omega (arith, got.vars) in same);
      atoms = count-push (λ (l : PlainLine). begins_comparison (pieces l.tokens)) got.done line
          ∙ ap (λ (b : Bool). atom_count got.done + cond b 1 0) head.1 ∙ ap (λ (n : ℕ). n + 1) got.atoms
          ∙ sym (length_push q.atoms c.added);
      distinct = got.distinct;
    })
