-- Declarations and comparisons on lines of their own, and what the lines mean.
use Rattle.std.proofs.Common.{◌≡◌, ℕ, ◌<◌, ◌^◌, Bool, true, false, cond, List, [], ◌∷◌, ◌++◌, length, refl, sym, subst}
use Rattle.std.proofs.Common.{arith, append_assoc, All, decimal, ℤ, pos, negsuc, neg_ℤ, ◌≤ℤ◌}
use Rattle.std.specs.Prelude.{◌&&◌, codes, unsigned_abs}
use Rattle.std.specs.List.{prefix_len}
use Rattle.std.proofs.lemmas.Int.{ints}
use Rattle.lin_model.specs.Names.{is_digit}
use Rattle.lin_model.specs.Terms.{PlainVar, PlainTerm, TermFits, VarFits, ExprFits}
use Rattle.lin_model.specs.Conditions.{NamesBelow, AtomFits, AtomNamesBelow}
use Rattle.lin_model.specs.declared.atom.Atom.{Atom}
use Rattle.lin_model.specs.declared.atom.Cmp.{Cmp}
use Rattle.lin_text.specs.Spelling.{is_negative, minus_of, integer, cmp_text, side_text, atom_text, bounds_text}
use Rattle.lin_text.specs.Spelling.{var_text, line, name_of}
use Rattle.lin_text.specs.Pieces.{Piece, var, name, number, minus, compare, line_end, is_claim_word}
use Rattle.lin_text.specs.Grammar.{Integer, Quantity, constant, multiple, single, Side, declaration, comparison}
use Rattle.lin_text.specs.Grammar.{integer_pieces, integer_value, quantity_pieces, side_pieces, line_pieces, IsExpr}
use Rattle.lin_text.specs.Grammar.{number_among, Declares, Compares}
use Rattle.lin_text.specs.Queries.{begins_word, names_of}
use Rattle.lin_text.proofs.ReadBackTokens.{Reads, Reads-feed, Reads-blank, Starts}
use Rattle.lin_text.proofs.ReadBackWords.{Stops-blank, Stops-feed, Starts-name, Starts-number}
use Rattle.lin_text.proofs.ReadBackSigns.{Starts-compare}
use Rattle.lin_text.proofs.ReadBackSigns.{Starts-var, plain_sign, plain_sign-means}
use Rattle.lin_text.proofs.DistinctNames.{Distinct}
use Rattle.lin_text.proofs.ReadBackSides.{first_sign, shown_side, Starts-side, IsExpr-shown, CanSpell, CanSpell-all}
use Rattle.lin_text.proofs.ReadBackSides.{FreeNames}

-- a declaration

abbrev pub shown_integer : ℤ → Integer
shown_integer z = record { negative = is_negative z; size = unsigned_abs z }

pub shown_integer-is : (z : ℤ) → z ≡ integer_value (shown_integer z)
shown_integer-is (pos n) = refl
shown_integer-is (negsuc n) = omega (arith, ints)

pub Reads-integer : (p : Bool) (z : ℤ) (rest left : List ℕ) (ps : List Piece) → unsigned_abs z < 2 ^ 64
    → prefix_len is_digit rest ≡ 0
    → Reads p rest left ps → Reads p (integer z ++ rest) left (integer_pieces (shown_integer z) ++ ps)
unfolding integer minus_of
Reads-integer p z rest left ps small stops r =
    (first_sign p (is_negative z) (decimal (unsigned_abs z)) rest left (number (unsigned_abs z) ∷ []) ps
    (Starts-number p (unsigned_abs z) rest left ps small stops r)).reads

regroup_declaration : (w s x l h e left : List ℕ)
    → w ++ (x ++ (s ++ (l ++ (s ++ (h ++ (e ++ left)))))) ≡ (((w ++ x) ++ (((s ++ l) ++ s) ++ h)) ++ e) ++ left
regroup_declaration w s x l h e left = simp append_assoc

bounded : (z : ℤ) → neg_ℤ (pos (2 ^ 31)) ≤ℤ z → z ≤ℤ pos (2 ^ 31) → unsigned_abs z < 2 ^ 64
bounded (pos n) low high = omega (arith, ints, high)
bounded (negsuc n) low high = omega (arith, ints, low)

bound_sizes : (lo hi : ℤ) → neg_ℤ (pos (2 ^ 31)) ≤ℤ lo → lo ≤ℤ hi → hi ≤ℤ pos (2 ^ 31)
    → (unsigned_abs lo < 2 ^ 64) × (unsigned_abs hi < 2 ^ 64)
bound_sizes lo hi low order high =
    (bounded lo low (omega (arith, ints, order, high)), bounded hi (omega (arith, ints, low, order)) high)

pub Starts-declaration : (p : Bool) (v : PlainVar) (left : List ℕ) → VarFits v → (p && is_claim_word v.name) ≡ false
    → Starts p (line (var_text v) ++ left) left
    (line_pieces (declaration v.name (shown_integer v.lo) (shown_integer v.hi)))
unfolding var_text bounds_text
Starts-declaration p v left fits free =
    let lo : List Piece = integer_pieces (shown_integer v.lo) in
    let hi : List Piece = integer_pieces (shown_integer v.hi) in
    let sizes = bound_sizes v.lo v.hi fits.low fits.order fits.high in
    let high = Reads-integer p v.hi (10 ∷ left) left (line_end ∷ []) sizes.1 refl (Reads-feed p left) in
    let low = Reads-integer p v.lo (32 ∷ (integer v.hi ++ (10 ∷ left))) left (hi ++ line_end ∷ []) sizes.0 refl
    (Reads-blank p _ left _ high) in
    let named = Starts-name p v.name (32 ∷ (integer v.lo ++ (32 ∷ (integer v.hi ++ (10 ∷ left))))) left
    (lo ++ (hi ++ line_end ∷ [])) (record { name = fits.name; free = free }) refl (Reads-blank p _ left _ low) in
    let whole = Starts-var p (v.name ++ (32 ∷ (integer v.lo ++ (32 ∷ (integer v.hi ++ (10 ∷ left)))))) left
    (name v.name ∷ (lo ++ (hi ++ line_end ∷ []))) (Reads-blank p _ left _ named.reads) in
    subst (λ (text : List ℕ). Starts p text left
    (line_pieces (declaration v.name (shown_integer v.lo) (shown_integer v.hi))))
    (regroup_declaration (codes "var ") (codes " ") v.name (integer v.lo) (integer v.hi) (10 ∷ []) left)
    (subst (λ (ps : List Piece). Starts p (codes "var "
    ++ (v.name ++ (codes " " ++ (integer v.lo ++ (codes " " ++ (integer v.hi ++ (10 ∷ left))))))) left
    (var ∷ name v.name ∷ ps)) (sym (append_assoc lo hi (line_end ∷ []))) whole)

pub Declares-shown : (v : PlainVar) → VarFits v
    → Declares (line_pieces (declaration v.name (shown_integer v.lo) (shown_integer v.hi))) v
Declares-shown v fits = record {
  lo = shown_integer v.lo;
  hi = shown_integer v.hi;
  written = refl;
  low = shown_integer-is v.lo;
  high = shown_integer-is v.hi;
  fits = fits;
}

-- a comparison

regroup_comparison : (s l c r e left : List ℕ)
    → l ++ (s ++ (c ++ (s ++ (r ++ (e ++ left))))) ≡ (((((l ++ s) ++ c) ++ s) ++ r) ++ e) ++ left
regroup_comparison s l c r e left = simp append_assoc

Starts-comparison : (p : Bool) (vars : List PlainVar) (l : PlainTerm) (ls : List PlainTerm) (cmp : Cmp) (r : PlainTerm)
    (rs : List PlainTerm) (left : List ℕ) → All (CanSpell p (name_of vars)) (l ∷ ls)
    → All (CanSpell p (name_of vars)) (r ∷ rs)
    → Starts p (line ((((side_text (name_of vars) (l ∷ ls) ++ codes " ") ++ cmp_text cmp) ++ codes " ") ++ side_text
    (name_of vars) (r ∷ rs))
    ++ left) left (line_pieces (comparison (shown_side (name_of vars) l ls) (plain_sign cmp)
    (shown_side (name_of vars) r rs)))
Starts-comparison p vars l ls cmp r rs left can_left can_right =
    let lp : List Piece = side_pieces (shown_side (name_of vars) l ls) in
    let rp : List Piece = side_pieces (shown_side (name_of vars) r rs) in
    let lt : List ℕ = side_text (name_of vars) (l ∷ ls) in
    let rt : List ℕ = side_text (name_of vars) (r ∷ rs) in
    let right = Starts-side p (name_of vars) r rs (10 ∷ left) left (line_end ∷ []) can_right (Stops-feed left)
    (Reads-feed p left) in
    let middle = Starts-compare p cmp (rt ++ (10 ∷ left)) left (rp ++ line_end ∷ [])
    (Reads-blank p _ left _ right.reads) in
    let whole = Starts-side p (name_of vars) l ls (32 ∷ (cmp_text cmp ++ (32 ∷ (rt ++ (10 ∷ left))))) left
    (compare (plain_sign cmp) ∷ (rp ++ line_end ∷ [])) can_left
    (Stops-blank (cmp_text cmp ++ (32 ∷ (rt ++ (10 ∷ left)))))
    (Reads-blank p _ left _ middle.reads) in
    subst (λ (text : List ℕ). Starts p text left ((lp ++ (compare (plain_sign cmp) ∷ rp)) ++ line_end ∷ []))
    (regroup_comparison (codes " ") lt (cmp_text cmp) rt (10 ∷ []) left)
    (subst (λ (ps : List Piece). Starts p (lt ++
    (codes " " ++ (cmp_text cmp ++ (codes " " ++ (rt ++ (10 ∷ left)))))) left ps)
    (sym (append_assoc lp (compare (plain_sign cmp) ∷ rp) (line_end ∷ []))) whole)

-- a comparison of two sides, and what it is
record Compared (p : Bool) (vars : List PlainVar) (ls : List PlainTerm) (cmp : Cmp) (rs : List PlainTerm)
    (left : List ℕ) : Type 0 where
  l : Side
  r : Side
  starts : Starts p (line ((((side_text (name_of vars) ls ++ codes " ") ++ cmp_text cmp) ++ codes " ") ++ side_text
      (name_of vars) rs)
      ++ left) left (line_pieces (comparison l (plain_sign cmp) r))
  left_terms : IsExpr (number_among (names_of vars)) l ls
  right_terms : IsExpr (number_among (names_of vars)) r rs

compared : (p : Bool) (vars : List PlainVar) (ls : List PlainTerm) (cmp : Cmp) (rs : List PlainTerm) (left : List ℕ)
    → Distinct (names_of vars) → FreeNames p vars → All VarFits vars → ExprFits ls → ExprFits rs → All TermFits ls
    → All TermFits rs → NamesBelow (length vars) ls
    → NamesBelow (length vars) rs → Compared p vars ls cmp rs left
compared p vars [] cmp rs left apart own fit sized_l sized_r fit_l fit_r below_l below_r =
    absurd (omega (arith, sized_l.some))
compared p vars (l ∷ ls) cmp [] left apart own fit sized_l sized_r fit_l fit_r below_l below_r =
    absurd (omega (arith, sized_r.some))
compared p vars (l ∷ ls) cmp (r ∷ rs) left apart own fit sized_l sized_r fit_l fit_r below_l below_r =
    record {
      l = shown_side (name_of vars) l ls;
      r = shown_side (name_of vars) r rs;
      starts = Starts-comparison p vars l ls cmp r rs left (CanSpell-all p vars (l ∷ ls) fit own fit_l below_l)
          (CanSpell-all p vars (r ∷ rs) fit own fit_r below_r);
      left_terms = IsExpr-shown vars l ls apart sized_l fit_l below_l;
      right_terms = IsExpr-shown vars r rs apart sized_r fit_r below_r;
    }

begins_item : (b : Bool) (x : Quantity) (ps xs ys : List Piece)
    → begins_word ((((cond b (minus ∷ []) [] ++ quantity_pieces x) ++ ps) ++ xs) ++ ys) ≡ false
begins_item true x ps xs ys = refl
begins_item false (constant n) ps xs ys = refl
begins_item false (multiple n y) ps xs ys = refl
begins_item false (single y) ps xs ys = refl

begins_side : (s : Side) (xs ys : List Piece) → begins_word ((side_pieces s ++ xs) ++ ys) ≡ false
unfolding side_pieces
begins_side s xs ys = begins_item s.first.negative s.first.quantity _ xs ys

-- the line of an atom, and what it is
pub record ComparedAtom (p : Bool) (vars : List PlainVar) (atom : Atom) (left : List ℕ) : Type 0 where
  pub ps : List Piece
  pub starts : Starts p (line (atom_text vars atom) ++ left) left ps
  pub compares : Compares (number_among (names_of vars)) ps atom
  pub no_word : begins_word ps ≡ false

pub compared_atom : (p : Bool) (vars : List PlainVar) (atom : Atom) (left : List ℕ) → Distinct (names_of vars)
    → FreeNames p vars → All VarFits vars → AtomFits atom
    → AtomNamesBelow (length vars) atom → ComparedAtom p vars atom left
unfolding atom_text
compared_atom p vars atom left apart own fit atom_fits below =
    let sides = compared p vars atom.left atom.cmp atom.right left apart own fit atom_fits.left atom_fits.right
    atom_fits.left_terms
    atom_fits.right_terms below.left below.right in
    record {
      ps = line_pieces (comparison sides.l (plain_sign atom.cmp) sides.r);
      starts = sides.starts;
      compares = record {
        left = sides.l;
        sign = plain_sign atom.cmp;
        right = sides.r;
        written = refl;
        means = plain_sign-means atom.cmp;
        left_terms = sides.left_terms;
        right_terms = sides.right_terms;
      };
      no_word = begins_side sides.l (compare (plain_sign atom.cmp) ∷ side_pieces sides.r) (line_end ∷ []);
    }

-- the line of a variable, and what it is
pub record DeclaredVar (p : Bool) (v : PlainVar) (left : List ℕ) : Type 0 where
  pub ps : List Piece
  pub starts : Starts p (line (var_text v) ++ left) left ps
  pub declares : Declares ps v
  pub no_word : begins_word ps ≡ false

pub declared_var : (p : Bool) (v : PlainVar) (left : List ℕ) → VarFits v → (p && is_claim_word v.name) ≡ false
    → DeclaredVar p v left
declared_var p v left fits free =
    record {
      ps = line_pieces (declaration v.name (shown_integer v.lo) (shown_integer v.hi));
      starts = Starts-declaration p v left fits free;
      declares = Declares-shown v fits;
      no_word = refl;
    }
