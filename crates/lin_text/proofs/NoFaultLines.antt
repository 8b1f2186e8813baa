-- The lines above a line of what is spelled: what they declare and compare, and how many do.
use Rattle.std.proofs.Common.{◌≡◌, ℕ, ◌+◌, Bool, true, false, cond, List, [], ◌∷◌, ◌++◌, length, refl, sym, ap, subst}
use Rattle.std.proofs.Common.{◌∙◌, arith, append_assoc, inl, inr}
use Rattle.std.specs.Prelude.{count_by}
use Rattle.std.proofs.lemmas.List.{append-nil}
use Rattle.std.proofs.lemmas.List.Sums.{sum_by-cons}
use Rattle.lin_model.specs.Terms.{PlainVar}
use Rattle.lin_model.specs.declared.atom.Atom.{Atom}
use Rattle.lin_text.specs.Pieces.{Piece, PlainLine, pieces}
use Rattle.lin_text.specs.Grammar.{Compares, Naming, number_among}
use Rattle.lin_text.specs.Faults.{begins_variable, begins_comparison, declared_name, declared_names, variable_count}
use Rattle.lin_text.specs.Faults.{atom_count}
use Rattle.lin_text.specs.Queries.{names_of, AreDeclaredAndCompared}
use Rattle.lin_text.proofs.NoFaultSides.{comparison_begins}

-- the lines above declare and compare these, and the others are left
pub record Parts (before : List PlainVar) (above : List PlainLine) (lines : List PlainLine) (vars : List PlainVar)
    (atoms : List Atom) : Type 0 where
  pub vars_above : List PlainVar
  pub vars_left : List PlainVar
  pub atoms_above : List Atom
  pub atoms_left : List Atom
  pub all_vars : vars ≡ vars_above ++ vars_left
  pub all_atoms : atoms ≡ atoms_above ++ atoms_left
  pub names : declared_names above ≡ names_of vars_above
  pub var_lines : variable_count above ≡ length vars_above
  pub atom_lines : atom_count above ≡ length atoms_above
  pub left : AreDeclaredAndCompared (before ++ vars_above) lines vars_left atoms_left

-- one line more that is counted, or not
counted : (f : PlainLine → Bool) (l : PlainLine) (ls : List PlainLine) (b : Bool) → f l ≡ b
    → count_by f (l ∷ ls) ≡ cond b 1 0 + count_by f ls
counted f l ls b e = sum_by-cons (λ x. cond (f x) 1 0) l ls ∙ ap (λ (c : Bool). cond c 1 0 + count_by f ls) e

pub no_variable : (names : Naming) (ps : List Piece) (a : Atom) → Compares names ps a
    → begins_variable ps ≡ false
no_variable names ps a c =
    comparison_begins begins_variable false (λ qs. refl) (λ n qs. refl) (λ y qs. refl) names ps a c

compares_more : (names : Naming) (ps : List Piece) (a : Atom) → Compares names ps a → begins_comparison ps ≡ true
compares_more names ps a c =
    comparison_begins begins_comparison true (λ qs. refl) (λ n qs. refl) (λ y qs. refl) names ps a c

names_none : (names : Naming) (ps : List Piece) (a : Atom) → Compares names ps a → declared_name ps ≡ []
names_none names ps a c = comparison_begins declared_name [] (λ qs. refl) (λ n qs. refl) (λ y qs. refl) names ps a c

pub parts : (before : List PlainVar) (above lines : List PlainLine) (vars : List PlainVar) (atoms : List Atom)
    → AreDeclaredAndCompared before (above ++ lines) vars atoms → Parts before above lines vars atoms
parts before [] lines vars atoms h =
    record {
      vars_above = [];
      vars_left = vars;
      atoms_above = [];
      atoms_left = atoms;
      all_vars = refl;
      all_atoms = refl;
      names = refl;
      var_lines = refl;
      atom_lines = refl;
      left = subst (λ (vs : List PlainVar). AreDeclaredAndCompared vs lines vars atoms) (sym (append-nil before)) h;
    }
parts before (l ∷ above) lines vars atoms (inl (v, more, e, d, h)) =
    let p = parts (before ++ v ∷ []) above lines more atoms h in
    record {
      vars_above = v ∷ p.vars_above;
      vars_left = p.vars_left;
      atoms_above = p.atoms_above;
      atoms_left = p.atoms_left;
      all_vars = e ∙ ap (λ (vs : List PlainVar). v ∷ vs) p.all_vars;
      all_atoms = p.all_atoms;
      names = ap (λ (xs : List (List ℕ)). xs ++ declared_names above) (ap declared_name d.written)
          ∙ ap (λ (xs : List (List ℕ)). v.name ∷ xs) p.names;
      var_lines = omega (
        arith,
        counted (λ line. begins_variable (pieces line.tokens)) l above true
            (ap begins_variable d.written),
        p.var_lines,
      );
      atom_lines = omega (
        arith,
        counted (λ line. begins_comparison (pieces line.tokens)) l above false
            (ap begins_comparison d.written),
        p.atom_lines,
      );
      left = subst (λ (vs : List PlainVar). AreDeclaredAndCompared vs lines p.vars_left p.atoms_left)
          (append_assoc before (v ∷ []) p.vars_above) p.left;
    }
parts before (l ∷ above) lines vars atoms (inr (a, more, e, c, h)) =
    let p = parts before above lines vars more h in
    record {
      vars_above = p.vars_above;
      vars_left = p.vars_left;
      atoms_above = a ∷ p.atoms_above;
      atoms_left = p.atoms_left;
      all_vars = p.all_vars;
      all_atoms = e ∙ ap (λ (bs : List Atom). a ∷ bs) p.all_atoms;
      names = ap (λ (xs : List (List ℕ)). xs ++ declared_names above)
          (names_none (number_among (names_of before)) (pieces l.tokens) a c) ∙ p.names;
      var_lines = omega (
        arith,
        counted (λ line. begins_variable (pieces line.tokens)) l above false
            (no_variable (number_among (names_of before)) (pieces l.tokens) a c),
        p.var_lines,
      );
      atom_lines = omega (
        arith,
        counted (λ line. begins_comparison (pieces line.tokens)) l above true
            (compares_more (number_among (names_of before)) (pieces l.tokens) a c),
        p.atom_lines,
      );
      left = p.left;
    }
