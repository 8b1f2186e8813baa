-- A text spells one canonical atom.
use Rattle.std.proofs.Common.{◌≡◌, ℕ, false, List, [], ◌∷◌, ◌++◌, refl, sym, ap, subst, ◌∙◌, append_assoc, ℤ, Some}
use Rattle.std.specs.Prelude.{codes}
use Rattle.lin_model.specs.KeyAtom.{PlainKeyAtom}
use Rattle.lin_model.specs.declared.form.FormTerm.{FormTerm}
use Rattle.lin_model.specs.declared.op.Op.{Op}
use Rattle.lin_text.specs.declared.class.Sign.{Sign}
use Rattle.lin_text.specs.Pieces.{Piece, compare, line_end, PlainToken, PlainLine, pieces, number_of}
use Rattle.lin_text.specs.Grammar.{Integer, Quantity, constant, multiple, single, Joined, Side, side_pieces}
use Rattle.lin_text.specs.Grammar.{integer_pieces}
use Rattle.lin_text.specs.KeyAtomTexts.{op_of, IsKeyName, IsOnKeyVar, AreFormTerms, AtomTree, atom_pieces, Means}
use Rattle.lin_text.specs.KeyAtomTexts.{WritesAtom}
use Rattle.lin_text.specs.KeyAtomLaws.{AtomSpelledOnce, AtomTextOnce}
use Rattle.lin_text.proofs.UniqueTokens.{AreTokens-once, AreLines-once}
use Rattle.lin_text.proofs.UniqueSides.{ends_side, side-once, compare-once, integer-once}

same_digits : (ds es : List ℕ) → codes "v" ++ ds ≡ codes "v" ++ es → ds ≡ es
same_digits ds es e = cc

IsKeyName-once : (x : List ℕ) (v w : ℕ) → IsKeyName x v → IsKeyName x w → v ≡ w
IsKeyName-once x v w a b =
    a.value ∙ (ap number_of (same_digits a.digits b.digits (sym a.is ∙ b.is)) ∙ sym b.value)

IsOnKeyVar-once : (q : Quantity) (v w : ℕ) → IsOnKeyVar q v → IsOnKeyVar q w → v ≡ w
IsOnKeyVar-once (constant n) v w a b = absurd a
IsOnKeyVar-once (multiple n x) v w a b = IsKeyName-once x v w a b
IsOnKeyVar-once (single x) v w a b = IsKeyName-once x v w a b

same_term : (t u : FormTerm) → t.var ≡ u.var → t.coef ≡ u.coef → t ≡ u
same_term t u v c = ap (λ (n : ℕ). record { var = n; coef = t.coef }) v
    ∙ ap (λ (z : ℤ). record { var = u.var; coef = z }) c

AreFormTerms-once : (js : List Joined) (f g : List FormTerm) → AreFormTerms js f → AreFormTerms js g → f ≡ g
AreFormTerms-once [] f g a b = a ∙ sym b
AreFormTerms-once (j ∷ js) [] g a b = absurd a
AreFormTerms-once (j ∷ js) (t ∷ f) [] a b = absurd b
AreFormTerms-once (j ∷ js) (t ∷ f) (u ∷ g) a b =
    ap (λ (v : FormTerm). v ∷ f) (same_term t u
    (IsOnKeyVar-once j.item.quantity t.var u.var a.0.on b.0.on) (a.0.coef ∙ sym b.0.coef))
    ∙ ap (λ (h : List FormTerm). u ∷ h) (AreFormTerms-once js f g a.1 b.1)

same_op : (c d : Sign) (o p : Op) → c ≡ d → op_of c ≡ Some o → op_of d ≡ Some p → o ≡ p
same_op c d o p e a b = let same : Some o ≡ Some p = sym a ∙ (ap op_of e ∙ b) in cc

same_atom : (a b : PlainKeyAtom) → a.form ≡ b.form → a.op ≡ b.op → a.constant ≡ b.constant → a ≡ b
same_atom a b f o c =
    ap (λ (g : List FormTerm). record { form = g; op = a.op; constant = a.constant }) f
    ∙ (ap (λ (p : Op). record { form = b.form; op = p; constant = a.constant }) o
    ∙ ap (λ (z : ℤ). record { form = b.form; op = b.op; constant = z }) c)

-- what follows a form is a sign and a constant
seam : (tree : AtomTree) (after : List Piece)
    → atom_pieces tree ++ after ≡ side_pieces tree.side ++ (compare tree.sign ∷ (integer_pieces tree.integer ++ after))
seam tree after = append_assoc (side_pieces tree.side) (compare tree.sign ∷ integer_pieces tree.integer) after

-- the tokens of an atom are those of one atom alone
pub tree_once : (s t : AtomTree) (after behind : List Piece) → atom_pieces s ++ after ≡ atom_pieces t ++ behind
    → (s ≡ t) × (after ≡ behind)
unfolding ends_side
tree_once s t after behind e =
    let sides = side-once s.side t.side (compare s.sign ∷ (integer_pieces s.integer ++ after))
    (compare t.sign ∷ (integer_pieces t.integer ++ behind)) refl refl
    (sym (seam s after) ∙ (e ∙ seam t behind)) in
    let signs = compare-once s.sign t.sign (integer_pieces s.integer ++ after) (integer_pieces t.integer ++ behind)
    sides.1 in
    let integers = integer-once s.integer t.integer after behind signs.1 in (
      ap (λ (x : Side). record { side = x; sign = s.sign; integer = s.integer }) sides.0
          ∙ (ap (λ (x : Sign). record { side = t.side; sign = x; integer = s.integer }) signs.0
          ∙ ap (λ (x : Integer). record { side = t.side; sign = t.sign; integer = x }) integers.0),
      integers.1,
    )

-- a tree means one atom
pub Means-once : (tree : AtomTree) (a b : PlainKeyAtom) → Means tree a → Means tree b → a ≡ b
Means-once tree a b m n =
    same_atom a b (AreFormTerms-once (record { subtracted = false; item = tree.side.first } ∷ tree.side.later) a.form
    b.form m.form n.form) (same_op tree.sign tree.sign a.op b.op refl m.op n.op) (m.value ∙ sym n.value)

-- tokens begin with those of one canonical atom
pub WritesAtom-once : (ps : List Piece) (a b : PlainKeyAtom) (after behind : List Piece) → WritesAtom ps a after
    → WritesAtom ps b behind → (a ≡ b) × (after ≡ behind)
WritesAtom-once ps a b after behind s t =
    let same = tree_once s.tree t.tree after behind (sym s.written ∙ t.written) in
    (Means-once t.tree a b (subst (λ (x : AtomTree). Means x a) same.0 s.means) t.means, same.1)

pub atom_once : AtomSpelledOnce
atom_once p bytes at a b after behind s t =
    let tokens : s.tokens ≡ t.tokens = AreTokens-once p bytes at s.tokens t.tokens s.are t.are in
    WritesAtom-once (pieces t.tokens) a b after behind
    (subst (λ (ts : List PlainToken). WritesAtom (pieces ts) a after) tokens s.writes) t.writes

pub atom_text_once : AtomTextOnce
atom_text_once bytes a b s t =
    let lines : s.line ∷ [] ≡ t.line ∷ [] = AreLines-once false bytes 0 (s.line ∷ []) (t.line ∷ []) s.alone t.alone in
    let same : s.line ≡ t.line = cc in
    (WritesAtom-once (pieces t.line.tokens) a b (line_end ∷ []) (line_end ∷ [])
    (subst (λ (l : PlainLine). WritesAtom (pieces l.tokens) a (line_end ∷ [])) same s.writes) t.writes).0
