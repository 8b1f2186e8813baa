-- Items and lines mean one thing.
use Rattle.std.proofs.Common.{◌≡◌, ℕ, false, List, [], ◌∷◌, sym, ap, subst, ◌∙◌, ℤ}
use Rattle.std.proofs.Common.{Option}
use Rattle.lin_model.specs.Terms.{PlainVar, PlainTerm}
use Rattle.lin_model.specs.declared.atom.Atom.{Atom}
use Rattle.lin_model.specs.declared.atom.Cmp.{Cmp}
use Rattle.lin_text.specs.Pieces.{Piece, cmp_of}
use Rattle.lin_text.specs.Grammar.{Integer, Quantity, constant, multiple, single, Joined, Side, integer_value, IsOn}
use Rattle.lin_text.specs.Grammar.{AreTerms, IsExpr, Declares, Compares, Naming}
use Rattle.lin_text.proofs.UniqueSides.{declaration-once, comparison-once, declares_or_compares}

-- the variable that a quantity is on
IsOn-once : (names : Naming) (a : Quantity) (v w : Option ℕ) → IsOn names a v → IsOn names a w → v ≡ w
IsOn-once names (constant n) v w on off = on ∙ sym off
IsOn-once names (multiple n x) v w (k, e, at) (l, f, there) = e ∙ (sym at ∙ (there ∙ sym f))
IsOn-once names (single x) v w (k, e, at) (l, f, there) = e ∙ (sym at ∙ (there ∙ sym f))

same_term : (a b : PlainTerm) → a.factor ≡ b.factor → a.var ≡ b.var → a ≡ b
same_term a b f v = ap (λ (z : ℤ). record { factor = z; var = a.var }) f
    ∙ ap (λ (w : Option ℕ). record { factor = b.factor; var = w }) v

AreTerms-once : (names : Naming) (js : List Joined) (ts us : List PlainTerm)
    → AreTerms names js ts → AreTerms names js us → ts ≡ us
AreTerms-once names [] ts us a b = a ∙ sym b
AreTerms-once names (j ∷ js) [] us a b = absurd a
AreTerms-once names (j ∷ js) (t ∷ ts) [] a b = absurd b
AreTerms-once names (j ∷ js) (t ∷ ts) (u ∷ us) a b =
    let first : t ≡ u = same_term t u (a.0.factor ∙ sym b.0.factor)
    (IsOn-once names j.item.quantity t.var u.var a.0.on b.0.on) in
    ap (λ (v : PlainTerm). v ∷ ts) first ∙ ap (λ (vs : List PlainTerm). u ∷ vs)
    (AreTerms-once names js ts us a.1 b.1)

-- the terms that a side is
IsExpr-once : (names : Naming) (s t : Side) (ts us : List PlainTerm) → s ≡ t → IsExpr names s ts
    → IsExpr names t us → ts ≡ us
IsExpr-once names s t ts us same a b =
    AreTerms-once names (record { subtracted = false; item = t.first } ∷ t.later) ts us
    (subst (λ (side : Side). IsExpr names side ts) same a).0 b.0

same_var : (v w : PlainVar) → v.name ≡ w.name → v.lo ≡ w.lo → v.hi ≡ w.hi → v ≡ w
same_var v w n l h =
    ap (λ (x : List ℕ). record { name = x; lo = v.lo; hi = v.hi }) n
    ∙ (ap (λ (z : ℤ). record { name = w.name; lo = z; hi = v.hi }) l
    ∙ ap (λ (z : ℤ). record { name = w.name; lo = w.lo; hi = z }) h)

-- the variable that a line declares
pub Declares-once : (ps : List Piece) (v w : PlainVar) → Declares ps v → Declares ps w → v ≡ w
Declares-once ps v w a b =
    let same = declaration-once v.name w.name a.lo a.hi b.lo b.hi (sym a.written ∙ b.written) in
    same_var v w same.0 (a.low ∙ (ap (λ (i : Integer). integer_value i) same.1 ∙ sym b.low)) (a.high
    ∙ (ap (λ (i : Integer). integer_value i) same.2 ∙ sym b.high))

same_atom : (a b : Atom) → a.left ≡ b.left → a.cmp ≡ b.cmp → a.right ≡ b.right → a ≡ b
same_atom a b l c r =
    ap (λ (ts : List PlainTerm). record { left = ts; cmp = a.cmp; right = a.right }) l
    ∙ (ap (λ (d : Cmp). record { left = b.left; cmp = d; right = a.right }) c
    ∙ ap (λ (ts : List PlainTerm). record { left = b.left; cmp = b.cmp; right = ts }) r)

-- the atom as which a line compares
pub Compares-once : (names : Naming) (ps : List Piece) (a b : Atom) → Compares names ps a
    → Compares names ps b → a ≡ b
Compares-once names ps a b c d =
    let same = comparison-once c.left c.right d.left d.right c.sign d.sign (sym c.written ∙ d.written) in
    same_atom a b (IsExpr-once names c.left d.left a.left b.left same.0 c.left_terms d.left_terms)
    (c.means ∙ ap cmp_of same.1 ∙ sym d.means)
    (IsExpr-once names c.right d.right a.right b.right same.2 c.right_terms d.right_terms)

-- no line does both
pub Declares-no_comparison : (names : Naming) (ps : List Piece) (v : PlainVar) (a : Atom) → Declares ps v
    → Compares names ps a → ⊥
Declares-no_comparison names ps v a d c =
    declares_or_compares v.name d.lo d.hi c.left c.right c.sign (sym d.written ∙ c.written)
