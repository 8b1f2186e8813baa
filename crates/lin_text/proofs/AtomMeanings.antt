-- The atom that the reader sees in a tree is the one that the tree means, if it is canonical.
use Rattle.std.proofs.Common.{◌≡◌, ℕ, ◌<◌, ◌≤◌, ◌^◌, min, Bool, true, false, List, [], ◌∷◌, length, map, refl, sym, ap}
use Rattle.std.proofs.Common.{subst, ◌∙◌, arith, Some, None, All, ◌*ℤ◌, ℤ}
use Rattle.std.specs.Prelude.{unsigned_abs, is_some}
use Rattle.std.proofs.lemmas.Int.{ints}
use Rattle.std.proofs.lemmas.List.Elements.{All-head, All-tail, All-cons, All-nil}
use Rattle.lin_model.specs.KeyAtom.{PlainKeyAtom, IsCanonical}
use Rattle.lin_model.specs.declared.form.FormTerm.{FormTerm}
use Rattle.lin_model.specs.declared.op.Op.{Op}
use Rattle.lin_text.specs.declared.class.TheConstants.{TOO_LARGE}
use Rattle.lin_text.specs.Grammar.{Integer, Quantity, constant, multiple, single, Joined, signed, integer_value}
use Rattle.lin_text.specs.Grammar.{quantity_size}
use Rattle.lin_text.specs.KeyAtomTexts.{op_of, IsKeyName, AtomTree, NamesKeyVar, IsAtomTree, IsOnKeyVar, AreFormTerms}
use Rattle.lin_text.specs.KeyAtomTexts.{Means}
use Rattle.lin_text.specs.AtomSteps.{key_var}
use Rattle.lin_text.proofs.AtomNames.{key_var-of}
use Rattle.lin_text.proofs.AtomRuns.{var_or, shown_var, shown_size, turned, shown_term, items}
use Rattle.lin_text.proofs.AtomRuns.{shown_terms, shown_constant}

-- signs and sizes

signed-size : (b : Bool) (n : ℕ) → unsigned_abs (signed b n) ≡ n
signed-size true n = omega (arith, ints)
signed-size false n = omega (arith, ints)

turned-sign : (a b : Bool) (n : ℕ) → signed (turned a b) n ≡ signed a 1 *ℤ signed b n
turned-sign true true n = omega (arith, ints)
turned-sign true false n = omega (arith, ints)
turned-sign false true n = omega (arith, ints)
turned-sign false false n = omega (arith, ints)

-- a size that isn't too large is seen as it is
shown_size-small : (q : Quantity) → min (shown_size q) TOO_LARGE < 2 ^ 40
    → min (shown_size q) TOO_LARGE ≡ quantity_size q
shown_size-small (constant n) lt = omega (arith, lt)
shown_size-small (multiple n x) lt = omega (arith, lt)
shown_size-small (single x) lt = omega arith

size-shown : (q : Quantity) → quantity_size q < 2 ^ 40 → min (shown_size q) TOO_LARGE ≡ quantity_size q
size-shown (constant n) lt = omega (arith, lt)
size-shown (multiple n x) lt = omega (arith, lt)
size-shown (single x) lt = omega arith

-- the variables

on-shown : (q : Quantity) → NamesKeyVar q → shown_var q < 64 → IsOnKeyVar q (shown_var q)
on-shown (constant n) names lt = absurd (omega (arith, lt))
on-shown (multiple n x) names lt = on_name x names.0 names.1 lt
  where
    on_name : (y : List ℕ) (var : ℕ) → IsKeyName y var → var_or (key_var y) < 64 → IsKeyName y (var_or (key_var y))
    on_name y var is less =
        let e : var_or (key_var y) ≡ min var 64 = ap var_or (key_var-of y var is) in
        subst (λ (v : ℕ). IsKeyName y v) (omega (arith, e, less)) is
on-shown (single x) names lt =
    let e : var_or (key_var x) ≡ min names.0 64 = ap var_or (key_var-of x names.0 names.1) in
    subst (λ (v : ℕ). IsKeyName x v) (omega (arith, e, lt)) names.1

shown-on : (q : Quantity) (var : ℕ) → IsOnKeyVar q var → var < 64 → shown_var q ≡ var
shown-on (constant n) var on lt = absurd on
shown-on (multiple n x) var on lt = ap var_or (key_var-of x var on) ∙ omega (arith, lt)
shown-on (single x) var on lt = ap var_or (key_var-of x var on) ∙ omega (arith, lt)

names-on : (q : Quantity) (var : ℕ) → IsOnKeyVar q var → NamesKeyVar q
names-on (constant n) var on = absurd on
names-on (multiple n x) var on = (var, on)
names-on (single x) var on = (var, on)

-- the terms

abbrev IsSmall : FormTerm → Type 0
IsSmall t = unsigned_abs t.coef < 2 ^ 40

terms-shown : (js : List Joined) → All (λ j. NamesKeyVar j.item.quantity) js
    → All (λ t. t.var < 64) (map shown_term js) → All IsSmall (map shown_term js)
    → AreFormTerms js (map shown_term js)
terms-shown [] names vars small = refl
terms-shown (j ∷ js) names vars small =
    let q = j.item.quantity in
    let negative = turned j.subtracted j.item.negative in
    let less : min (shown_size q) TOO_LARGE < 2 ^ 40 =
    subst (λ (n : ℕ). n < 2 ^ 40) (signed-size negative (min (shown_size q) TOO_LARGE))
    (All-head IsSmall (shown_term j) (map shown_term js) small) in (
      record {
        coef = ap (signed negative) (shown_size-small q less)
            ∙ turned-sign j.subtracted j.item.negative (quantity_size q);
        on = on-shown q (All-head (λ k. NamesKeyVar k.item.quantity) j js names)
            (All-head (λ t. t.var < 64) (shown_term j) (map shown_term js) vars);
      },
      terms-shown js (All-tail (λ k. NamesKeyVar k.item.quantity) j js names)
          (All-tail (λ t. t.var < 64) (shown_term j) (map shown_term js) vars)
          (All-tail IsSmall (shown_term j) (map shown_term js) small),
    )

same_term : (t u : FormTerm) → t.var ≡ u.var → t.coef ≡ u.coef → t ≡ u
same_term t u v c = ap (λ (n : ℕ). record { var = n; coef = t.coef }) v
    ∙ ap (λ (z : ℤ). record { var = u.var; coef = z }) c

shown-terms : (js : List Joined) (form : List FormTerm) → AreFormTerms js form → All (λ t. t.var < 64) form
    → All IsSmall form → map shown_term js ≡ form
shown-terms [] form are vars small = sym are
shown-terms (j ∷ js) [] are vars small = absurd are
shown-terms (j ∷ js) (t ∷ form) are vars small =
    let q = j.item.quantity in
    let negative = turned j.subtracted j.item.negative in
    let factor : t.coef ≡ signed negative (quantity_size q) =
    are.0.coef ∙ sym (turned-sign j.subtracted j.item.negative (quantity_size q)) in
    let size : unsigned_abs t.coef ≡ quantity_size q =
    ap unsigned_abs factor ∙ signed-size negative (quantity_size q) in
    let less : quantity_size q < 2 ^ 40 =
    subst (λ (n : ℕ). n < 2 ^ 40) size (All-head IsSmall t form small) in
    ap (λ (u : FormTerm). u ∷ map shown_term js) (same_term (shown_term j) t
    (shown-on q t.var are.0.on (All-head (λ u. u.var < 64) t form vars))
    (ap (signed negative) (size-shown q less) ∙ sym factor))
    ∙ ap (λ (ts : List FormTerm). t ∷ ts) (shown-terms js form are.1
    (All-tail (λ u. u.var < 64) t form vars) (All-tail IsSmall t form small))

terms-names : (js : List Joined) (form : List FormTerm) → AreFormTerms js form
    → All (λ j. NamesKeyVar j.item.quantity) js
terms-names [] form are = All-nil (λ j. NamesKeyVar j.item.quantity)
terms-names (j ∷ js) [] are = absurd are
terms-names (j ∷ js) (t ∷ form) are =
    All-cons (λ k. NamesKeyVar k.item.quantity) j js (names-on j.item.quantity t.var are.0.on)
    (terms-names js form are.1)

-- the constant

constant-shown : (i : Integer) → unsigned_abs (shown_constant i) < 2 ^ 50 → shown_constant i ≡ integer_value i
constant-shown i lt =
    let less : min (min i.size TOO_LARGE) TOO_LARGE < 2 ^ 50 =
    subst (λ (n : ℕ). n < 2 ^ 50) (signed-size i.negative (min (min i.size TOO_LARGE) TOO_LARGE)) lt in
    ap (signed i.negative) (omega (arith, less))

shown-constant : (i : Integer) → unsigned_abs (integer_value i) < 2 ^ 50 → shown_constant i ≡ integer_value i
shown-constant i lt =
    let less : i.size < 2 ^ 50 = subst (λ (n : ℕ). n < 2 ^ 50) (signed-size i.negative i.size) lt in
    ap (signed i.negative) (omega (arith, less))

-- the atom that the reader sees
abbrev pub shown_atom : AtomTree → Op → PlainKeyAtom
shown_atom tree op = record {
  form = shown_terms tree.side;
  op = op;
  constant = shown_constant tree.integer;
}

-- what is seen is meant, where it is canonical
pub means-shown : (tree : AtomTree) (op : Op) → IsAtomTree tree → op_of tree.sign ≡ Some op
    → IsCanonical (shown_atom tree op) → Means tree (shown_atom tree op)
means-shown tree op is e canonical = record {
  form = terms-shown (items tree.side)
      (All-cons (λ k. NamesKeyVar k.item.quantity) (record { subtracted = false; item = tree.side.first })
      tree.side.later is.first is.later) canonical.form.variables.in_range canonical.form.coefficients.small;
  op = e;
  value = constant-shown tree.integer canonical.constant;
  canonical = canonical;
}

-- what is meant is seen
pub shown-means : (tree : AtomTree) (a : PlainKeyAtom) → Means tree a → shown_atom tree a.op ≡ a
shown-means tree a m =
    let constant_small : unsigned_abs (integer_value tree.integer) < 2 ^ 50 =
    subst (λ (z : ℤ). unsigned_abs z < 2 ^ 50) m.value m.canonical.constant in
    ap (λ (f : List FormTerm). record { form = f; op = a.op; constant = shown_constant tree.integer })
    (shown-terms (items tree.side) a.form m.form m.canonical.form.variables.in_range
    m.canonical.form.coefficients.small)
    ∙ ap (λ (z : ℤ). record { form = a.form; op = a.op; constant = z })
    (shown-constant tree.integer constant_small ∙ sym m.value)

-- no more terms are seen than an atom has
pub few-means : (tree : AtomTree) (a : PlainKeyAtom) → Means tree a → length (shown_terms tree.side) ≤ 64
few-means tree a m =
    omega (arith, ap (λ (b : PlainKeyAtom). length b.form) (shown-means tree a m), m.canonical.form.few_terms)

-- what means an atom is a tree of the grammar
pub tree-means : (tree : AtomTree) (a : PlainKeyAtom) → Means tree a → IsAtomTree tree
tree-means tree a m =
    let names = terms-names (items tree.side) a.form m.form in
    record {
      first = All-head (λ k. NamesKeyVar k.item.quantity) (record { subtracted = false; item = tree.side.first })
          tree.side.later names;
      later = All-tail (λ k. NamesKeyVar k.item.quantity) (record { subtracted = false; item = tree.side.first })
          tree.side.later names;
      sign = ap is_some m.op;
    }

-- the op of a tree of the grammar
pub tree-op : (tree : AtomTree) → IsAtomTree tree → (op : Op) × (op_of tree.sign ≡ Some op)
tree-op tree is =
    elim (op_of tree.sign) as (λ o. is_some o ≡ true → (op : Op) × (o ≡ Some op)) [
      | None ↦ λ h. absurd (cc)
      | Some op ↦ λ h. (op, refl)
    ] is.sign
