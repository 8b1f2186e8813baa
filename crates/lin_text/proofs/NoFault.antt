-- What is spelled has no fault.
use Rattle.std.proofs.Common.{◌≡◌, List, [], ◌∷◌, ◌++◌, length, sym, ap, subst, ◌∙◌, arith, length-append, inl, inr}
use Rattle.std.specs.Prelude.{AllPairs}
use Rattle.std.proofs.lemmas.List.{map-append}
use Rattle.lin_model.specs.Terms.{PlainVar}
use Rattle.lin_model.specs.Conditions.{Differ, Fits}
use Rattle.lin_model.specs.declared.atom.Atom.{Atom}
use Rattle.lin_text.specs.Laws.{SpelledHasNoFault, SpelledLinesHaveNoFault}
use Rattle.lin_text.specs.declared.fault.TextKind.{TextKind}
use Rattle.lin_text.specs.Pieces.{Piece, PlainToken, PlainLine, pieces}
use Rattle.lin_text.specs.Grammar.{Declares, Compares, number_among}
use Rattle.lin_text.specs.Faults.{Stands}
use Rattle.lin_text.specs.Queries.{names_of, query_lines, Spell, AreDeclaredAndCompared}
use Rattle.lin_text.proofs.UniqueTokens.{AreLines-once}
use Rattle.lin_text.proofs.NoFaultLines.{Parts, parts}
use Rattle.lin_text.proofs.NoFaultCompared.{no_stand-compared}
use Rattle.lin_text.proofs.NoFaultDeclared.{no_stand-declared}

-- the tokens of a line, at one of them
in_pieces : (ts front : List PlainToken) (t : PlainToken) (after : List PlainToken) → ts ≡ front ++ t ∷ after
    → pieces ts ≡ pieces front ++ t.piece ∷ pieces after
in_pieces ts front t after e =
    ap (λ (us : List PlainToken). pieces us) e ∙ map-append (λ (u : PlainToken). u.piece) front (t ∷ after)

-- a line of what is spelled has no fault
no_stand : (above : List PlainLine) (line : PlainLine) (below : List PlainLine) (vars : List PlainVar)
    (atoms : List Atom) (front : List Piece) (p : Piece) (after : List Piece) (kind : TextKind) → Fits vars atoms
    → Parts [] above (line ∷ below) vars atoms → pieces line.tokens ≡ front ++ p ∷ after
    → Stands above front p after kind → ⊥
no_stand above line below vars atoms front p after kind fits split shown stands = by_line split.left
  where
    by_line : AreDeclaredAndCompared split.vars_above (line ∷ below) split.vars_left split.atoms_left → ⊥
    by_line (inl (v, more, e, d, rest)) =
        let all : vars ≡ split.vars_above ++ v ∷ more = split.all_vars
        ∙ ap (λ (vs : List PlainVar). split.vars_above ++ vs) e in
        no_stand-declared above split.vars_above more v front p after
        (subst (λ (ps : List Piece). Declares ps v) shown d) kind (sym split.names)
        (omega (arith, split.var_lines, fits.few_vars, ap length all, length-append split.vars_above (v ∷ more)))
        (subst (λ (vs : List PlainVar). AllPairs Differ vs) all fits.distinct) stands
    by_line (inr (a, more, e, c, rest)) =
        let all : atoms ≡ split.atoms_above ++ a ∷ more = split.all_atoms
        ∙ ap (λ (bs : List Atom). split.atoms_above ++ bs) e in
        no_stand-compared above (names_of split.vars_above) front p after a
        (subst (λ (ps : List Piece). Compares (number_among (names_of split.vars_above)) ps a) shown c) kind
        (sym split.names)
        (omega (arith, split.atom_lines, fits.few_atoms, ap length all, length-append split.atoms_above (a ∷ more)))
        stands

-- no fault stands in the lines of what is spelled
pub Spell-no_fault : SpelledLinesHaveNoFault
Spell-no_fault lines q kind place s f =
    no_stand f.above f.line f.below q.vars q.atoms (pieces f.front) f.token.piece (pieces f.after) kind s.fits
    (parts [] f.above (f.line ∷ f.below) q.vars q.atoms
    (subst (λ (ls : List PlainLine). AreDeclaredAndCompared [] ls q.vars q.atoms) f.in_lines s.meaning))
    (in_pieces f.line.tokens f.front f.token f.after f.in_line) f.stands

pub Spells-no_fault : SpelledHasNoFault
Spells-no_fault in_proof bytes at q e s kind place f =
    let same : s.lines ≡ f.lines = AreLines-once in_proof bytes at s.lines f.lines s.are f.are in
    Spell-no_fault (query_lines f.lines) q kind place
    (subst (λ (ls : List PlainLine). Spell (query_lines ls) q) same s.spelled) f.first.stands
