-- One more number of a list that has each once.
use Rattle.std.proofs.Common.{◌≡◌, ℕ, ◌+◌, ◌<◌, Bool, true, false, not, ◌||◌, Option, ◌≤◌, List, [], ◌∷◌, ◌++◌, length}
use Rattle.std.proofs.Common.{take, get_or, refl, sym, ap, ◌∙◌, subst, append_assoc, append-nil, arith, eqb-true}
use Rattle.std.proofs.Common.{eq-eqb}
use Rattle.std.specs.Prelude.{◌==◌, if◌then◌else◌}
use Rattle.std.specs.List.{filter, list_any, cons_option, filter_map, flat_map, slice_get}
use Rattle.std.proofs.lemmas.Bool.Decides.{nat_tests}
use Rattle.std.proofs.lemmas.List.{take_more}
use Rattle.std.proofs.lemmas.List.Elements.{filter-append, filter_map-append}
use Rattle.std.proofs.lemmas.List.Concat.{flat_map-append}
use Rattle.std.proofs.lemmas.Map.Views.{any-filter_same}
use Rattle.std.proofs.lemmas.Option.{slice_get_past, slice_get_read}
use Rattle.lin_model.specs.Terms.{PlainTerm}
use Rattle.lin_model.specs.Conditions.{PlainCondition}
use Rattle.lin_model.specs.declared.atom.Atom.{Atom}
use Rattle.slicer.specs.Slices.{PlainSlice}
use Rattle.slicer.specs.Names.{side_vars, atom_vars}
use Rattle.canoniser.specs.Numbering.{first_ones, order_of, Gains}

-- ---- the first ones of more numbers

-- other than x
abbrev pub others : ℕ → List ℕ → List ℕ
others x xs = filter (λ w. not (w == x)) xs

abbrev has : List ℕ → ℕ → Bool
has xs v = list_any (λ w. w == v) xs

-- a list with a number behind it unless that is there
abbrev with : List ℕ → ℕ → List ℕ
with xs v = if has xs v then xs else xs ++ v ∷ []

others-same : (x v : ℕ) → (v == x) ≡ true → (xs : List ℕ) → others x (xs ++ v ∷ []) ≡ others x xs
others-same x v same xs =
    filter-append (λ w. not (w == x)) xs (v ∷ []) ∙ ap (λ (ys : List ℕ). others x xs ++ ys) (alone (v == x) same)
    ∙ append-nil (others x xs)
  where
    alone : (b : Bool) → b ≡ true → (if not b then v ∷ [] else []) ≡ []
    alone b e = rw e refl

others-new : (x v : ℕ) → (v == x) ≡ false → (xs : List ℕ) → others x (xs ++ v ∷ []) ≡ others x xs ++ v ∷ []
others-new x v other xs =
    filter-append (λ w. not (w == x)) xs (v ∷ []) ∙ ap (λ (ys : List ℕ). others x xs ++ ys) (alone (v == x) other)
  where
    alone : (b : Bool) → b ≡ false → (if not b then v ∷ [] else []) ≡ v ∷ []
    alone b e = rw e refl

has-others : (x v : ℕ) → (v == x) ≡ false → (xs : List ℕ) → has (others x xs) v ≡ has xs v
has-others x v other xs =
    any-filter_same (λ w. w == v) (λ w. not (w == x)) true
    (λ w e. ap (λ u. not (u == x)) (eqb-true w v e) ∙ ap not other) xs

with-known : (xs : List ℕ) (v : ℕ) → has xs v ≡ true → with xs v ≡ xs
with-known xs v e = ap (λ (b : Bool). if b then xs else xs ++ v ∷ []) e

with-new : (xs : List ℕ) (v : ℕ) → has xs v ≡ false → with xs v ≡ xs ++ v ∷ []
with-new xs v e = ap (λ (b : Bool). if b then xs else xs ++ v ∷ []) e

others-with_same : (x v : ℕ) (b : Bool) (xs : List ℕ) → (v == x) ≡ true
    → others x (if b then xs else xs ++ v ∷ []) ≡ others x xs
others-with_same x v true xs same = refl
others-with_same x v false xs same = others-same x v same xs

others-with_new : (x v : ℕ) (b : Bool) (xs : List ℕ) → (v == x) ≡ false
    → others x (if b then xs else xs ++ v ∷ []) ≡ (if b then others x xs else others x xs ++ v ∷ [])
others-with_new x v true xs other = refl
others-with_new x v false xs other = others-new x v other xs

turned_test : (x v : ℕ) (b : Bool) → (v == x) ≡ b → (x == v) ≡ b
turned_test x v true e = eq-eqb x v (sym (eqb-true v x e))
turned_test x v false e = grind (arith, nat_tests)

-- a first number x before a list of others
with-behind : (x : ℕ) (xs : List ℕ) (v : ℕ) (b : Bool)
    → (if b then x ∷ xs else (x ∷ xs) ++ v ∷ []) ≡ x ∷ (if b then xs else xs ++ v ∷ [])
with-behind x xs v true = refl
with-behind x xs v false = refl

with-first : (x v : ℕ) (b : Bool) (xs : List ℕ) → (v == x) ≡ b → x ∷ others x (with xs v) ≡ with (x ∷ others x xs) v
with-first x v true xs e =
    ap (λ (ys : List ℕ). x ∷ ys) (others-with_same x v (has xs v) xs e)
    ∙ sym (with-known (x ∷ others x xs) v (ap (λ b. b || has (others x xs) v) (turned_test x v true e)))
with-first x v false xs e =
    let found : has (x ∷ others x xs) v ≡ has xs v =
    ap (λ b. b || has (others x xs) v) (turned_test x v false e) ∙ has-others x v e xs in
    ap (λ (ys : List ℕ). x ∷ ys) (others-with_new x v (has xs v) xs e)
    ∙ sym (ap (λ (b : Bool). if b then x ∷ others x xs else (x ∷ others x xs) ++ v ∷ []) found
    ∙ with-behind x (others x xs) v (has xs v))

first_ones-push : (numbers : List ℕ) (v : ℕ) → first_ones (numbers ++ v ∷ []) ≡ with (first_ones numbers) v
first_ones-push [] v = refl
first_ones-push (x ∷ numbers) v =
    ap (λ (xs : List ℕ). x ∷ others x xs) (first_ones-push numbers v)
    ∙ with-first x v (v == x) (first_ones numbers) refl

pub Gains-known : (old : List ℕ) (v : ℕ) → has old v ≡ true → Gains old old (v ∷ [])
Gains-known old v there numbers e =
    sym (first_ones-push numbers v ∙ ap (λ (xs : List ℕ). with xs v) (sym e) ∙ with-known old v there)

pub Gains-new : (old new : List ℕ) (v : ℕ) → has old v ≡ false → new ≡ old ++ v ∷ [] → Gains old new (v ∷ [])
Gains-new old new v missing added numbers e =
    added ∙ sym (first_ones-push numbers v ∙ ap (λ (xs : List ℕ). with xs v) (sym e) ∙ with-new old v missing)

-- nothing more
pub Gains-none : (old : List ℕ) → Gains old old []
Gains-none old numbers e = e ∙ ap first_ones (sym (append-nil numbers))

-- one after another
pub Gains-more : (old mid new before piece after : List ℕ) → after ≡ before ++ piece → Gains old mid before
    → Gains mid new piece → Gains old new after
Gains-more old mid new before piece after e first second numbers is =
    second (numbers ++ before) (first numbers is)
    ∙ ap first_ones (append_assoc numbers before piece ∙ ap (λ (more : List ℕ). numbers ++ more) (sym e))

-- what one more term, and one more atom, names
pub side_vars_more : (terms : List PlainTerm) (k : ℕ) (term : PlainTerm) (var : Option ℕ) → k < length terms
    → term ≡ get_or terms k term → var ≡ term.var
    → side_vars (take (k + 1) terms) ≡ side_vars (take k terms) ++ cons_option var []
side_vars_more terms k term var within is same =
    ap side_vars (take_more terms k term within ∙ ap (λ (t : PlainTerm). take k terms ++ t ∷ []) (sym is))
    ∙ filter_map-append (λ (t : PlainTerm). t.var) (take k terms) (term ∷ [])
    ∙ ap (λ (o : Option ℕ). side_vars (take k terms) ++ cons_option o []) (sym same)

pub named_more : (atoms : List Atom) (numbers : List ℕ) (k : ℕ) → k < length numbers
    → flat_map atom_vars (filter_map (λ j. slice_get atoms j) (take (k + 1) numbers)) ≡ flat_map atom_vars
    (filter_map (λ j. slice_get atoms j) (take k numbers)) ++ flat_map atom_vars
    (cons_option (slice_get atoms (get_or numbers k 0)) [])
named_more atoms numbers k within =
    ap (λ (xs : List ℕ). flat_map atom_vars (filter_map (λ j. slice_get atoms j) xs)) (take_more numbers k 0 within)
    ∙ ap (flat_map atom_vars) (filter_map-append (λ j. slice_get atoms j) (take k numbers) (get_or numbers k 0 ∷ []))
    ∙ flat_map-append atom_vars (filter_map (λ j. slice_get atoms j) (take k numbers))
    (cons_option (slice_get atoms (get_or numbers k 0)) [])

-- the variables of an atom, by its sides
pub atom_vars_is : (atom : Atom) (left right : List PlainTerm) → left ≡ atom.left → right ≡ atom.right
    → atom_vars atom ≡ side_vars left ++ side_vars right
atom_vars_is atom left right l r =
    sym (ap (λ (xs : List PlainTerm). side_vars xs ++ side_vars right) l
    ∙ ap (λ (xs : List PlainTerm). side_vars atom.left ++ side_vars xs) r)

-- the atom of a number, or none
pub Gains-none_at : (old : List ℕ) (atoms : List Atom) (j : ℕ) → length atoms ≤ j
    → Gains old old (flat_map atom_vars (cons_option (slice_get atoms j) []))
Gains-none_at old atoms j past =
    subst (λ (o : Option Atom). Gains old old (flat_map atom_vars (cons_option o [])))
    (sym (slice_get_past atoms j past)) (Gains-none old)

pub one_named : (atoms : List Atom) (j : ℕ) (atom : Atom) → j < length atoms → atom ≡ get_or atoms j atom
    → flat_map atom_vars (cons_option (slice_get atoms j) []) ≡ atom_vars atom
one_named atoms j atom within is =
    ap (λ (o : Option Atom). flat_map atom_vars (cons_option o []))
    (slice_get_read atoms (length atoms) j atom refl within is) ∙ append-nil (atom_vars atom)

-- what begins with nothing and takes in the variables of the atoms and those of the slice
pub order_of_made : (c : PlainCondition) (s : PlainSlice) (old mid new : List ℕ) (atoms : List Atom)
    (numbers vars : List ℕ) → old ≡ [] → atoms ≡ c.atoms → numbers ≡ s.atoms → vars ≡ s.vars
    → Gains old mid (flat_map atom_vars (filter_map (λ j. slice_get atoms j) numbers)) → Gains mid new vars
    → new ≡ order_of c s
order_of_made c s old mid new atoms numbers vars none a n v first second =
    let named : List Atom → List ℕ → List ℕ = λ xs js. flat_map atom_vars (filter_map (λ j. slice_get xs j) js) in
    second (named atoms numbers) (first [] none)
    ∙ ap (λ (xs : List Atom). first_ones (named xs numbers ++ vars)) a
    ∙ ap (λ (js : List ℕ). first_ones (named c.atoms js ++ vars)) n
    ∙ ap (λ (vs : List ℕ). first_ones (named c.atoms s.atoms ++ vs)) v
