-- The end of a query, and what the lines before it spell.
use Rattle.std.proofs.Common.{◌≡◌, ℕ, ◌+◌, ◌<◌, ◌≤◌, suc, Bool, true, false, cond, not, List, [], ◌∷◌, ◌++◌, length}
use Rattle.std.proofs.Common.{take, drop, Option, refl, sym, ap, subst, ◌∙◌, arith, inl, inr}
use Rattle.std.specs.Prelude.{IfSome, All}
use Rattle.std.specs.List.{prefix_len}
use Rattle.std.proofs.lemmas.List.{append-nil, length_push, length-map}
use Rattle.std.proofs.lemmas.List.Elements.{All-cons}
use Rattle.std.proofs.lemmas.Option.{slice_get_within}
use Rattle.lin_model.specs.Terms.{PlainVar, PlainTerm}
use Rattle.lin_model.specs.Conditions.{PlainCondition, Fits, NamesBelow, AtomNamesBelow}
use Rattle.lin_model.specs.declared.atom.Atom.{Atom}
use Rattle.lin_text.specs.Lines.{line_below}
use Rattle.lin_text.specs.Pieces.{PlainToken, PlainLine, pieces, AreTokens}
use Rattle.lin_text.specs.Grammar.{Quantity, constant, multiple, single, Joined, IsOn, AreTerms, number_among}
use Rattle.lin_text.specs.Queries.{begins_word, is_of_query, query_lines, start_of, names_of, AreDeclaredAndCompared}
use Rattle.lin_text.specs.Queries.{Spells}
use Rattle.lin_text.proofs.Positions.{lines_total}
use Rattle.lin_text.proofs.LinesRead.{Here, AllOfQuery, ReadTo}
use Rattle.lin_text.proofs.PositionLemmas.{position-found}

pub query-lines : (done rest : List PlainLine) → AllOfQuery done → query_lines (done ++ rest) ≡ done ++ query_lines rest
query-lines [] rest h = refl
query-lines (l ∷ done) rest h =
    ap (λ (b : Bool). take (cond b (1 + prefix_len is_of_query (done ++ rest)) 0) (l ∷ (done ++ rest))) h.0
    ∙ ap (λ (n : ℕ). take n (l ∷ (done ++ rest)))
    (let s : 1 + prefix_len is_of_query (done ++ rest)
    ≡ suc (prefix_len is_of_query (done ++ rest)) = omega arith in s)
    ∙ ap (λ (ls : List PlainLine). l ∷ ls) (query-lines done rest h.1)

query-rest : (done rest : List PlainLine) → AllOfQuery done
    → drop (prefix_len is_of_query (done ++ rest)) (done ++ rest) ≡ drop (prefix_len is_of_query rest) rest
query-rest [] rest h = refl
query-rest (l ∷ done) rest h =
    ap (λ (b : Bool). drop (cond b (1 + prefix_len is_of_query (done ++ rest)) 0) (l ∷ (done ++ rest))) h.0
    ∙ ap (λ (n : ℕ). drop n (l ∷ (done ++ rest)))
    (let s : 1 + prefix_len is_of_query (done ++ rest)
    ≡ suc (prefix_len is_of_query (done ++ rest)) = omega arith in s)
    ∙ query-rest done rest h.1

on-below : (names : List (List ℕ)) (q : Quantity) (v : Option ℕ) (n : ℕ) → IsOn (number_among names) q v
    → length names ≤ n
    → IfSome v (λ k. k < n)
on-below names (constant m) v n on le = subst (λ (o : Option ℕ). IfSome o (λ k. k < n)) (sym on) tt
on-below names (multiple m x) v n on le =
    subst (λ (o : Option ℕ). IfSome o (λ k. k < n)) (sym on.1)
    (omega (arith, slice_get_within names on.0 x (position-found x names on.0 on.2)))
on-below names (single x) v n on le =
    subst (λ (o : Option ℕ). IfSome o (λ k. k < n)) (sym on.1)
    (omega (arith, slice_get_within names on.0 x (position-found x names on.0 on.2)))

terms-below : (names : List (List ℕ)) (js : List Joined) (terms : List PlainTerm) (n : ℕ)
    → AreTerms (number_among names) js terms
    → length names ≤ n → NamesBelow n terms
terms-below names [] terms n h le = λ k d lt. absurd (let none : length terms ≡ 0 = ap length h in omega arith)
terms-below names (j ∷ js) [] n h le = absurd h
terms-below names (j ∷ js) (term ∷ terms) n h le =
    All-cons (λ (t : PlainTerm). IfSome t.var (λ v. v < n)) term terms
    (on-below names j.item.quantity term.var n h.0.on le) (terms-below names js terms n h.1 le)

atoms-below : (above : List PlainVar) (lines : List PlainLine) (vars : List PlainVar) (atoms : List Atom) (n : ℕ)
    → AreDeclaredAndCompared above lines vars atoms → length above + length vars ≤ n → All (AtomNamesBelow n) atoms
atoms-below above [] vars atoms n h le = λ k d lt. absurd (let none : length atoms ≡ 0 = ap length h.1 in omega arith)
atoms-below above (l ∷ lines) vars atoms n (inl h) le =
    atoms-below (above ++ h.0 ∷ []) lines h.1 atoms n h.4 (let count : length vars ≡ suc (length h.1) = ap length h.2 in
    omega (arith, length_push above h.0))
atoms-below above (l ∷ lines) vars atoms n (inr h) le =
    let names : length (names_of above) ≤ n = omega (arith, length-map above (λ (w : PlainVar). w.name)) in
    let c = h.3 in
    subst (λ (xs : List Atom). All (AtomNamesBelow n) xs) (sym h.2)
    (All-cons (AtomNamesBelow n) h.0 h.1 (record {
      left =
          terms-below (names_of above) (record {
            subtracted = false;
            item = c.left.first;
          } ∷ c.left.later) h.0.left n c.left_terms.0 names;
      right = terms-below (names_of above) (record {
        subtracted = false;
        item = c.right.first;
      } ∷ c.right.later) h.0.right n c.right_terms.0 names;
    })
    (atoms-below above lines vars h.1 n h.4 le))

pub in_range : (p : Bool) (bytes : List ℕ) (from at : ℕ) (q : PlainCondition) → ReadTo p bytes from at q
    → All (AtomNamesBelow (length q.vars)) q.atoms
in_range p bytes from at q got = atoms-below [] got.done q.vars q.atoms (length q.vars) got.meaning (omega arith)

-- the query ends at a line that begins with a word, or at the end of the input
pub spelled : (p : Bool) (bytes : List ℕ) (from at : ℕ) (q : PlainCondition) → ReadTo p bytes from at q
    → Fits q.vars q.atoms → (rest : List PlainLine) → Here p bytes at rest → prefix_len is_of_query rest ≡ 0
    → Spells p bytes from q at
spelled p bytes from at q got fits rest here ends = record {
  lines = got.done ++ rest;
  are = got.lines rest here;
  spelled = record {
    meaning = subst (λ (ls : List PlainLine). AreDeclaredAndCompared [] ls q.vars q.atoms)
        (sym (query-lines got.done rest got.of_query ∙ ap (λ (n : ℕ). got.done ++ take n rest) ends
        ∙ append-nil got.done)) got.meaning;
    fits = fits;
  };
  ends = start-here rest here ∙ ap (start_of bytes)
      (sym (query-rest got.done rest got.of_query ∙ ap (λ (n : ℕ). drop n rest) ends));
} where
  start-here : (ls : List PlainLine) → Here p bytes at ls → at ≡ start_of bytes ls
  start-here [] h = h
  start-here (l ∷ ls) h = sym h.0

pub spelled_at_end : (p : Bool) (bytes : List ℕ) (from at : ℕ) (q : PlainCondition) → ReadTo p bytes from at q
    → Fits q.vars q.atoms → at ≡ length bytes → Spells p bytes from q at
spelled_at_end p bytes from at q got fits e = spelled p bytes from at q got fits [] e refl

pub spelled_at_word : (p : Bool) (bytes : List ℕ) (from at : ℕ) (q : PlainCondition) → ReadTo p bytes from at q
    → Fits q.vars q.atoms → at < length bytes → (ts : List PlainToken) → AreTokens p bytes at ts
    → begins_word (pieces ts) ≡ true → Spells p bytes from q at
spelled_at_word p bytes from at q got fits lt ts are word_first =
    let below = line_below bytes at in
    let more = lines_total (suc (length bytes)) p bytes below (omega arith) (omega arith) in
    let line : PlainLine = record { start = at; tokens = ts } in
    spelled p bytes from at q got fits (line ∷ more.0) (refl, lt, are, more.1)
    (ap (λ (b : Bool). cond (not b) (1 + prefix_len is_of_query more.0) 0) word_first)
