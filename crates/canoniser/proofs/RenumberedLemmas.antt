-- An atom whose variables are numbered otherwise has the same canonical form over the variables in the same order.
use Rattle.std.proofs.Common.{◌≡◌, ℕ, suc, ◌<◌, ℤ, pos, List, [], ◌∷◌, ◌++◌, map, Option, Some, None, Bool, refl, sym}
use Rattle.std.proofs.Common.{ap, ◌∙◌, inl, inr}
use Rattle.std.specs.Prelude.{◌==◌, ◌+ℤ◌, ◌-ℤ◌, if◌then◌else◌, option_map, is_some}
use Rattle.std.specs.Ordering.{int_eq}
use Rattle.std.specs.List.{All, cons_option}
use Rattle.std.specs.Option.{IfSome}
use Rattle.std.proofs.lemmas.List.{map-append}
use Rattle.std.proofs.lemmas.List.Elements.{All-head, All-tail, All-map, All-weaker}
use Rattle.std.proofs.lemmas.Bool.Decides.{eqb_tells}
use Rattle.lin_model.specs.Terms.{PlainTerm}
use Rattle.lin_model.specs.Conditions.{NamesBelow, AtomNamesBelow}
use Rattle.lin_model.specs.declared.atom.Atom.{Atom}
use Rattle.lin_model.specs.declared.form.FormTerm.{FormTerm}
use Rattle.lin_model.specs.KeyAtom.{PlainKeyAtom}
use Rattle.slicer.specs.Names.{side_vars, atom_vars}
use Rattle.canoniser.specs.Gathered.{is_on, factor_on, constants_of, coefficient, constant, op_of, loose}
use Rattle.canoniser.specs.Forms.{terms_from, gathered, oriented, primitive_of, canonical_form}
use Rattle.canoniser.specs.Laws.{renumbered_term, renumbered, IsOneToOne}

-- two tests for equality that say the same
same_test : (a b a' b' : ℕ) → (a ≡ b → a' ≡ b') → (a' ≡ b' → a ≡ b) → (a' == b') ≡ (a == b)
same_test a b a' b' to from = elim (eqb_tells a b) [
  | inl same ↦ elim (eqb_tells a' b') [ inl also ↦ also.0 ∙ sym same.0 | inr not ↦ absurd (not.1 (to same.1)) ]
  | inr other ↦ elim (eqb_tells a' b') [ inl same ↦ absurd (other.1 (from same.1)) | inr not ↦ not.0 ∙ sym other.0 ]
]

-- numbers keep being equal or not
pub apart : (n : ℕ) (f g : ℕ → ℕ) → IsOneToOne n f g → (v w : ℕ) → v < n → w < n → (f v == f w) ≡ (v == w)
apart n f g one v w lt below =
    same_test v w (f v) (f w) (ap f) (λ same. sym (one.back v lt) ∙ ap g same ∙ one.back w below)

is_on-renumbered : (n : ℕ) (f g : ℕ → ℕ) → IsOneToOne n f g → (o : Option ℕ) (v : ℕ) → IfSome o (λ w. w < n) → v < n
    → is_on (option_map f o) (f v) ≡ is_on o v
is_on-renumbered n f g one None v below lt = refl
is_on-renumbered n f g one (Some w) v below lt = apart n f g one w v below lt

factor_on-renumbered : (n : ℕ) (f g : ℕ → ℕ) → IsOneToOne n f g → (terms : List PlainTerm) (v : ℕ) → NamesBelow n terms
    → v < n → factor_on (f v) (map (renumbered_term f) terms) ≡ factor_on v terms
factor_on-renumbered n f g one [] v below lt = refl
factor_on-renumbered n f g one (t ∷ ts) v below lt =
    let P : PlainTerm → Type 0 = λ term. IfSome term.var (λ w. w < n) in
    ap (λ (b : Bool). (if b then t.factor else pos 0) +ℤ factor_on (f v) (map (renumbered_term f) ts))
    (is_on-renumbered n f g one t.var v (All-head P t ts below) lt)
    ∙ ap (λ (z : ℤ). (if is_on t.var v then t.factor else pos 0) +ℤ z)
    (factor_on-renumbered n f g one ts v (All-tail P t ts below) lt)

is_some-renumbered : (f : ℕ → ℕ) (o : Option ℕ) → is_some (option_map f o) ≡ is_some o
is_some-renumbered f None = refl
is_some-renumbered f (Some w) = refl

constants_of-renumbered : (f : ℕ → ℕ) (terms : List PlainTerm)
    → constants_of (map (renumbered_term f) terms) ≡ constants_of terms
constants_of-renumbered f [] = refl
constants_of-renumbered f (t ∷ ts) =
    ap (λ (b : Bool). (if b then pos 0 else t.factor) +ℤ constants_of (map (renumbered_term f) ts))
    (is_some-renumbered f t.var)
    ∙ ap (λ (z : ℤ). (if is_some t.var then pos 0 else t.factor) +ℤ z) (constants_of-renumbered f ts)

coefficient-renumbered : (n : ℕ) (f g : ℕ → ℕ) → IsOneToOne n f g → (atom : Atom) (v : ℕ) → AtomNamesBelow n atom
    → v < n → coefficient (renumbered f atom) (f v) ≡ coefficient atom v
coefficient-renumbered n f g one atom v below lt =
    ap (λ (z : ℤ). z -ℤ factor_on (f v) (map (renumbered_term f) atom.right))
    (factor_on-renumbered n f g one atom.left v below.left lt)
    ∙ ap (λ (z : ℤ). factor_on v atom.left -ℤ z) (factor_on-renumbered n f g one atom.right v below.right lt)

constant-renumbered : (f : ℕ → ℕ) (atom : Atom) → constant (renumbered f atom) ≡ constant atom
constant-renumbered f atom =
    ap (λ (z : ℤ). z -ℤ constants_of (map (renumbered_term f) atom.left)) (constants_of-renumbered f atom.right)
    ∙ ap (λ (z : ℤ). constants_of atom.right -ℤ z) (constants_of-renumbered f atom.left)

terms_from-renumbered : (n : ℕ) (f g : ℕ → ℕ) → IsOneToOne n f g → (k : ℕ) (order : List ℕ) (atom : Atom)
    → All (λ v. v < n) order → AtomNamesBelow n atom
    → terms_from k (map f order) (renumbered f atom) ≡ terms_from k order atom
terms_from-renumbered n f g one k [] atom within below = refl
terms_from-renumbered n f g one k (v ∷ vs) atom within below =
    let rest = terms_from-renumbered n f g one (suc k) vs atom (All-tail (λ w. w < n) v vs within) below in
    ap (λ (z : ℤ). if int_eq z (pos 0) then terms_from (suc k) (map f vs)
    (renumbered f atom) else (record { var = k; coef = z } ∷ terms_from (suc k) (map f vs) (renumbered f atom)))
    (coefficient-renumbered n f g one atom v below (All-head (λ w. w < n) v vs within))
    ∙ ap (λ (ts : List FormTerm). if int_eq (coefficient atom v)
    (pos 0) then ts else (record { var = k; coef = coefficient atom v } ∷ ts)) rest

gathered-renumbered : (n : ℕ) (f g : ℕ → ℕ) → IsOneToOne n f g → (order : List ℕ) (atom : Atom) → All (λ v. v < n) order
    → AtomNamesBelow n atom → gathered (map f order) (renumbered f atom) ≡ gathered order atom
gathered-renumbered n f g one order atom within below =
    let form = terms_from-renumbered n f g one 0 order atom within below in
    let constant_same = constant-renumbered f atom in
    λ i. record { form = form i; op = op_of atom.cmp; constant = loose atom.cmp (constant_same i) }

-- it has the same canonical form
pub canonical_form-renumbered : (n : ℕ) (f g : ℕ → ℕ) → IsOneToOne n f g → (order : List ℕ) (atom : Atom)
    → All (λ v. v < n) order → AtomNamesBelow n atom
    → canonical_form (map f order) (renumbered f atom) ≡ canonical_form order atom
unfolding canonical_form
canonical_form-renumbered n f g one order atom within below =
    ap (λ (a : PlainKeyAtom). primitive_of (oriented a)) (gathered-renumbered n f g one order atom within below)

cons_option-renumbered : (f : ℕ → ℕ) (o : Option ℕ) (xs : List ℕ)
    → cons_option (option_map f o) (map f xs) ≡ map f (cons_option o xs)
cons_option-renumbered f None xs = refl
cons_option-renumbered f (Some v) xs = refl

side_vars-renumbered : (f : ℕ → ℕ) (terms : List PlainTerm)
    → side_vars (map (renumbered_term f) terms) ≡ map f (side_vars terms)
side_vars-renumbered f [] = refl
side_vars-renumbered f (t ∷ ts) =
    ap (λ (xs : List ℕ). cons_option (option_map f t.var) xs) (side_vars-renumbered f ts)
    ∙ cons_option-renumbered f t.var (side_vars ts)

pub atom_vars-renumbered : (f : ℕ → ℕ) (atom : Atom) → atom_vars (renumbered f atom) ≡ map f (atom_vars atom)
atom_vars-renumbered f atom =
    ap (λ (xs : List ℕ). xs ++ side_vars (map (renumbered_term f) atom.right)) (side_vars-renumbered f atom.left)
    ∙ ap (λ (xs : List ℕ). map f (side_vars atom.left) ++ xs) (side_vars-renumbered f atom.right)
    ∙ sym (map-append f (side_vars atom.left) (side_vars atom.right))

-- numbered back, it is the atom again
option_map-back : (n : ℕ) (f g : ℕ → ℕ) → IsOneToOne n f g → (o : Option ℕ) → IfSome o (λ v. v < n)
    → option_map g (option_map f o) ≡ o
option_map-back n f g one None below = refl
option_map-back n f g one (Some v) below = ap Some (one.back v below)

side-back : (n : ℕ) (f g : ℕ → ℕ) → IsOneToOne n f g → (terms : List PlainTerm) → NamesBelow n terms
    → map (renumbered_term g) (map (renumbered_term f) terms) ≡ terms
side-back n f g one [] below = refl
side-back n f g one (t ∷ ts) below =
    let P : PlainTerm → Type 0 = λ term. IfSome term.var (λ w. w < n) in
    let var = option_map-back n f g one t.var (All-head P t ts below) in
    let rest = side-back n f g one ts (All-tail P t ts below) in
    λ i. record { factor = t.factor; var = var i } ∷ rest i

pub renumbered-back : (n : ℕ) (f g : ℕ → ℕ) → IsOneToOne n f g → (atom : Atom) → AtomNamesBelow n atom
    → renumbered g (renumbered f atom) ≡ atom
renumbered-back n f g one atom below =
    let left = side-back n f g one atom.left below.left in
    let right = side-back n f g one atom.right below.right in
    λ i. record { left = left i; cmp = atom.cmp; right = right i }

pub atoms-back : (n : ℕ) (f g : ℕ → ℕ) → IsOneToOne n f g → (atoms : List Atom) → All (AtomNamesBelow n) atoms
    → map (renumbered g) (map (renumbered f) atoms) ≡ atoms
atoms-back n f g one [] below = refl
atoms-back n f g one (x ∷ xs) below =
    let first = renumbered-back n f g one x (All-head (AtomNamesBelow n) x xs below) in
    let rest = atoms-back n f g one xs (All-tail (AtomNamesBelow n) x xs below) in
    λ i. first i ∷ rest i

-- it names only numbers below n again
IfSome-renumbered : (n : ℕ) (f g : ℕ → ℕ) → IsOneToOne n f g → (o : Option ℕ) → IfSome o (λ v. v < n)
    → IfSome (option_map f o) (λ v. v < n)
IfSome-renumbered n f g one None below = below
IfSome-renumbered n f g one (Some v) below = one.within v below

NamesBelow-renumbered : (n : ℕ) (f g : ℕ → ℕ) → IsOneToOne n f g → (terms : List PlainTerm) → NamesBelow n terms
    → NamesBelow n (map (renumbered_term f) terms)
NamesBelow-renumbered n f g one terms below =
    All-map (λ t. IfSome t.var (λ v. v < n)) (renumbered_term f) terms
    (All-weaker (λ t. IfSome t.var (λ v. v < n)) (λ t. IfSome (option_map f t.var) (λ v. v < n))
    (λ t here. IfSome-renumbered n f g one t.var here) terms below)

pub AtomNamesBelow-renumbered : (n : ℕ) (f g : ℕ → ℕ) → IsOneToOne n f g → (atoms : List Atom)
    → All (AtomNamesBelow n) atoms → All (AtomNamesBelow n) (map (renumbered f) atoms)
AtomNamesBelow-renumbered n f g one atoms below =
    All-map (AtomNamesBelow n) (renumbered f) atoms
    (All-weaker (AtomNamesBelow n) (λ x. AtomNamesBelow n (renumbered f x))
    (λ x here. record {
      left = NamesBelow-renumbered n f g one x.left here.left;
      right = NamesBelow-renumbered n f g one x.right here.right;
    }) atoms below)
