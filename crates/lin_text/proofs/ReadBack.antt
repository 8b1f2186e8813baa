-- The plain spelling of a condition, line by line.
use Rattle.std.proofs.Common.{◌≡◌, ℕ, ◌+◌, ◌<◌, ◌≤◌, Bool, true, false, cond, not, List, [], ◌∷◌, ◌++◌, length, drop}
use Rattle.std.proofs.Common.{refl, sym, ap, subst, ◌∙◌, arith, append_assoc, append-nil, All, inl, inr, length-drop}
use Rattle.std.specs.Prelude.{flat_map, ◌&&◌}
use Rattle.std.specs.List.{prefix_len}
use Rattle.std.proofs.Math.Seq.{drop-append-add}
use Rattle.std.proofs.lemmas.List.{drop-drop}
use Rattle.std.proofs.lemmas.List.Sums.{take_while-cons}
use Rattle.std.proofs.lemmas.List.Elements.{All-head, All-tail}
use Rattle.lin_model.specs.Terms.{PlainVar, VarFits}
use Rattle.lin_model.specs.Conditions.{PlainCondition, IsCondition, AtomFits, AtomNamesBelow}
use Rattle.lin_model.specs.declared.atom.Atom.{Atom}
use Rattle.lin_text.specs.Spelling.{condition_text, var_text, atom_text, line}
use Rattle.lin_text.specs.Lines.{is_in_line, line_from, line_below}
use Rattle.lin_text.specs.Pieces.{Piece, PlainLine, pieces, AreLines, is_claim_word}
use Rattle.lin_text.specs.Grammar.{number_among, Declares, Compares}
use Rattle.lin_text.specs.Queries.{begins_word, is_of_query, query_lines, start_of, query_end, names_of}
use Rattle.lin_text.specs.Queries.{AreDeclaredAndCompared}
use Rattle.lin_text.specs.Laws.{AreFree, WrittenIsSpelled}
use Rattle.lin_text.specs.Facts.{line_from-here, line_from-end}
use Rattle.lin_text.proofs.DistinctNames.{Distinct, Distinct-all}
use Rattle.lin_text.proofs.ReadBackTokens.{HasPieces, Starts}
use Rattle.lin_text.proofs.ReadBackSides.{FreeNames}
use Rattle.lin_text.proofs.ReadBackLines.{compared_atom, declared_var}

-- the lines from a place on declare and compare as these do, and the query ends there
pub record Walks (p : Bool) (bytes : List ℕ) (at : ℕ) (above vars : List PlainVar) (atoms : List Atom) (end : ℕ) :
    Type 0 where
  pub lines : List PlainLine
  pub are : AreLines p bytes at lines
  pub meant : AreDeclaredAndCompared above (query_lines lines) vars atoms
  pub ends : end ≡ query_end bytes lines

-- a line of a query, and the lines behind it
record Adds (p : Bool) (bytes : List ℕ) (at : ℕ) (ps : List Piece) (lines : List PlainLine) : Type 0 where
  first : PlainLine
  shown : pieces first.tokens ≡ ps
  are : AreLines p bytes at (first ∷ lines)
  of_query : query_lines (first ∷ lines) ≡ first ∷ query_lines lines
  ends : query_end bytes (first ∷ lines) ≡ query_end bytes lines

-- the place behind the line that begins the text
abbrev behind : ℕ → List ℕ → ℕ
behind at text = at + (prefix_len is_in_line text + 1)

behind-within : (p : Bool) (bytes : List ℕ) (at : ℕ) (text left : List ℕ) (ps : List Piece) → at ≤ length bytes
    → drop at bytes ≡ text → Starts p text left ps → behind at text ≤ length bytes
behind-within p bytes at text left ps within e s = omega (arith, s.reads.long, ap length e, length-drop at bytes)

behind-text : (p : Bool) (bytes : List ℕ) (at : ℕ) (text left : List ℕ) (ps : List Piece) → drop at bytes ≡ text
    → Starts p text left ps → drop (behind at text) bytes ≡ left
behind-text p bytes at text left ps e s =
    sym (drop-drop (prefix_len is_in_line text + 1) at bytes)
    ∙ (ap (λ (xs : List ℕ). drop (prefix_len is_in_line text + 1) xs) e ∙ s.reads.below)

adds : (p : Bool) (bytes : List ℕ) (at : ℕ) (text left : List ℕ) (ps : List Piece) (lines : List PlainLine)
    → at ≤ length bytes
    → drop at bytes ≡ text → Starts p text left ps → begins_word ps ≡ false → AreLines p bytes (behind at text) lines
    → Adds p bytes at ps lines
adds p bytes at text left ps lines within e s no_word are =
    let has : HasPieces p bytes at ps = s.reads.read bytes at e in
    let first : PlainLine = record { start = at; tokens = has.tokens } in
    let here : line_from bytes at ≡ at = line_from-here bytes text at (sym e) s.counts in
    let room : at < length bytes = omega (arith, s.reads.long, ap length e, length-drop at bytes) in
    let same : prefix_len is_in_line (drop at bytes) ≡ prefix_len is_in_line text = ap (prefix_len is_in_line) e in
    let below : line_below bytes at ≡ behind at text = omega (
      arith,
      same,
      behind-within p bytes at text left ps within e s,
    ) in
    let query : is_of_query first ≡ true = ap (λ (qs : List Piece). not (begins_word qs)) has.shown ∙ ap not no_word in
    let one : prefix_len is_of_query (first ∷ lines)
    ≡ 1 + prefix_len is_of_query lines = ap (λ (b : Bool). cond b (1 + prefix_len is_of_query lines) 0) query in
    record {
      first = first;
      shown = has.shown;
      are = (sym here, room, has.are, subst (λ (n : ℕ). AreLines p bytes n lines) (sym below) are);
      of_query = take_while-cons is_of_query first lines
          ∙ ap (λ (b : Bool). cond b (first ∷ query_lines lines) []) query;
      ends = ap (λ (n : ℕ). start_of bytes (drop n (first ∷ lines))) one
          ∙ ap (start_of bytes) (drop-append-add (first ∷ []) lines (prefix_len is_of_query lines));
    }

Walks-var : (p : Bool) (bytes : List ℕ) (at : ℕ) (above : List PlainVar) (v : PlainVar) (vars : List PlainVar)
    (atoms : List Atom)
    (end : ℕ) (text left : List ℕ) (ps : List Piece) → at ≤ length bytes → drop at bytes ≡ text → Starts p text left ps
    → begins_word ps ≡ false → Declares ps v → Walks p bytes (behind at text) (above ++ v ∷ []) vars atoms end
    → Walks p bytes at above (v ∷ vars) atoms end
Walks-var p bytes at above v vars atoms end text left ps within e s no_word declares next =
    let a = adds p bytes at text left ps next.lines within e s no_word next.are in
    record {
      lines = a.first ∷ next.lines;
      are = a.are;
      meant = subst (λ (ls : List PlainLine). AreDeclaredAndCompared above ls (v ∷ vars) atoms) (sym a.of_query)
          (inl (v, vars, refl, subst (λ (qs : List Piece). Declares qs v) (sym a.shown) declares, next.meant));
      ends = next.ends ∙ sym a.ends;
    }

Walks-atom : (p : Bool) (bytes : List ℕ) (at : ℕ) (above vars : List PlainVar) (atom : Atom) (atoms : List Atom)
    (end : ℕ)
    (text left : List ℕ) (ps : List Piece) → at ≤ length bytes → drop at bytes ≡ text → Starts p text left ps
    → begins_word ps ≡ false → Compares (number_among (names_of above)) ps atom
    → Walks p bytes (behind at text) above vars atoms end
    → Walks p bytes at above vars (atom ∷ atoms) end
Walks-atom p bytes at above vars atom atoms end text left ps within e s no_word compares next =
    let a = adds p bytes at text left ps next.lines within e s no_word next.are in
    record {
      lines = a.first ∷ next.lines;
      are = a.are;
      meant = subst (λ (ls : List PlainLine). AreDeclaredAndCompared above ls vars (atom ∷ atoms)) (sym a.of_query)
          (inr (
            atom,
            atoms,
            refl,
            subst (λ (qs : List Piece). Compares (number_among (names_of above)) qs atom)
                (sym a.shown) compares,
            next.meant,
          ));
      ends = next.ends ∙ sym a.ends;
    }

-- wherever the rest of the text stands, the lines go on so
abbrev pub GoesOn : Bool → List ℕ → List ℕ → List PlainVar → List PlainVar → List Atom → ℕ → Type 0
GoesOn p bytes rest above vars atoms end =
    (at : ℕ) → at ≤ length bytes → drop at bytes ≡ rest → Walks p bytes at above vars atoms end

walk_atoms : (p : Bool) (bytes rest : List ℕ) (vars : List PlainVar) (atoms : List Atom) (end : ℕ)
    → Distinct (names_of vars) → FreeNames p vars → All VarFits vars
    → All AtomFits atoms → All (AtomNamesBelow (length vars)) atoms → GoesOn p bytes rest vars [] [] end
    → GoesOn p bytes (flat_map (λ atom. line (atom_text vars atom)) atoms ++ rest) vars [] atoms end
walk_atoms p bytes rest vars [] end apart own fit atoms_fit below then_rest = then_rest
walk_atoms p bytes rest vars (atom ∷ atoms) end apart own fit atoms_fit below then_rest =
    λ at within e.
    let left : List ℕ = flat_map (λ a. line (atom_text vars a)) atoms ++ rest in
    let text : List ℕ = line (atom_text vars atom) ++ left in
    let is : drop at bytes ≡ text = e ∙ append_assoc (line (atom_text vars atom))
    (flat_map (λ a. line (atom_text vars a)) atoms) rest in
    let c = compared_atom p vars atom left apart own fit (All-head AtomFits atom atoms atoms_fit)
    (All-head (AtomNamesBelow (length vars)) atom atoms below) in
    Walks-atom p bytes at vars [] atom atoms end text left c.ps within is c.starts c.no_word c.compares
    (walk_atoms p bytes rest vars atoms end apart own fit (All-tail AtomFits atom atoms atoms_fit)
    (All-tail (AtomNamesBelow (length vars)) atom atoms below) then_rest (behind at text)
    (behind-within p bytes at text left c.ps within is c.starts) (behind-text p bytes at text left c.ps is c.starts))

walk_vars : (p : Bool) (bytes rest : List ℕ) (above vars : List PlainVar) (atoms : List Atom) (end : ℕ)
    → FreeNames p vars → All VarFits vars
    → GoesOn p bytes rest (above ++ vars) [] atoms end
    → GoesOn p bytes (flat_map (λ v. line (var_text v)) vars ++ rest) above vars atoms end
walk_vars p bytes rest above [] atoms end own fit then_rest =
    subst (λ (vs : List PlainVar). GoesOn p bytes rest vs [] atoms end) (append-nil above) then_rest
walk_vars p bytes rest above (v ∷ vars) atoms end own fit then_rest =
    λ at within e.
    let left : List ℕ = flat_map (λ w. line (var_text w)) vars ++ rest in
    let text : List ℕ = line (var_text v) ++ left in
    let is : drop at bytes ≡ text = e ∙ append_assoc (line (var_text v))
    (flat_map (λ w. line (var_text w)) vars) rest in
    let d = declared_var p v left (All-head VarFits v vars fit)
    (All-head (λ w. (p && is_claim_word w.name) ≡ false) v vars own) in
    Walks-var p bytes at above v vars atoms end text left d.ps within is d.starts d.no_word d.declares
    (walk_vars p bytes rest (above ++ v ∷ []) vars atoms end
    (All-tail (λ w. (p && is_claim_word w.name) ≡ false) v vars own) (All-tail VarFits v vars fit)
    (subst (λ (vs : List PlainVar). GoesOn p bytes rest vs [] atoms end)
    (sym (append_assoc above (v ∷ []) vars)) then_rest) (behind at text)
    (behind-within p bytes at text left d.ps within is d.starts) (behind-text p bytes at text left d.ps is d.starts))

-- the spelling of a condition, and what follows it
pub walk_condition : (p : Bool) (bytes rest : List ℕ) (q : PlainCondition) (end : ℕ) → IsCondition q
    → FreeNames p q.vars → GoesOn p bytes rest q.vars [] [] end
    → GoesOn p bytes (condition_text q ++ rest) [] q.vars q.atoms end
unfolding condition_text
walk_condition p bytes rest q end is own then_rest =
    λ at within e.
    let vars : List ℕ = flat_map (λ v. line (var_text v)) q.vars in
    let atoms : List ℕ = flat_map (λ a. line (atom_text q.vars a)) q.atoms in
    walk_vars p bytes (atoms ++ rest) [] q.vars q.atoms end own is.vars
    (walk_atoms p bytes rest q.vars q.atoms end (Distinct-all q.vars is.fits.distinct) own is.vars is.atoms
    is.fits.in_range then_rest) at within (e
    ∙ append_assoc vars atoms rest)

-- the text ends
pub at_end : (p : Bool) (bytes : List ℕ) (vars : List PlainVar) → GoesOn p bytes [] vars [] [] (length bytes)
at_end p bytes vars at within e =
    let all : at ≡ length bytes = omega (arith, ap length e, length-drop at bytes) in
    record { lines = []; are = line_from-end bytes at (omega arith) ∙ all; meant = (refl, refl); ends = refl }

-- the names, one for each variable
pub FreeNames-of : (p : Bool) (vars : List PlainVar) → AreFree p vars → FreeNames p vars
FreeNames-of true vars free = free refl
FreeNames-of false vars free = λ k d lt. refl

pub Spells-written : WrittenIsSpelled
Spells-written p q is free =
    let w = walk_condition p (condition_text q) [] q (length (condition_text q)) is (FreeNames-of p q.vars free)
    (at_end p (condition_text q) q.vars) 0
    (omega arith) (sym (append-nil (condition_text q))) in
    record { lines = w.lines; are = w.are; spelled = record { meaning = w.meant; fits = is.fits }; ends = w.ends }
