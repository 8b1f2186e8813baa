-- The atoms that no other implies, of a sorted list.
use Rattle.std.proofs.Common.{◌≡◌, ◌≢◌, ◌↔◌, ℕ, ◌+◌, ◌<◌, ◌≤◌, List, length, get_or, pos, false, true, Ordering, refl}
use Rattle.std.proofs.Common.{sym, ap, ◌∙◌, subst, inl, inr, arith}
use Rattle.std.specs.Prelude.{reverse}
use Rattle.std.specs.declared.cmp.Ordering.TheVariants.{Less, Equal, Greater}
use Rattle.std.specs.Ordering.{is_lt, ordering_reverse, ordering_then}
use Rattle.std.specs.List.{AllPairs, Contains}
use Rattle.std.specs.List.Sorted.{IsPermutation, IsSorted}
use Rattle.std.proofs.lemmas.List.Sorted.{ranks_by, sorted_far, Contains-permutation, IsPermutation-sym}
use Rattle.std.proofs.lemmas.List.Sorted.{IsPermutation-reverse}
use Rattle.std.proofs.lemmas.List.{get_or_default, reverse-reverse}
use Rattle.std.proofs.lemmas.Bool.Decides.{eqb_tells}
use Rattle.std.proofs.lemmas.Bool.{cases_lt}
use Rattle.lin_model.specs.declared.form.FormTerm.{FormTerm}
use Rattle.lin_model.specs.declared.op.Op.TheVariants.{Le}
use Rattle.lin_model.specs.KeyAtom.{PlainKeyAtom}
use Rattle.lin_model.specs.AtomOrder.{compare_forms, compare_atoms, IsAtomOrder}
use Rattle.lin_model.specs.Key.{Ascends}
use Rattle.atom_implies.specs.Laws.{TableIsRight}
use Rattle.atom_implies.specs.Implies.{Implies, Covers}
use Rattle.canoniser.specs.Keys.{IsStrongest}
use Rattle.canoniser.specs.Parts.{IsPartOf, StandTogether}
use Rattle.canoniser.proofs.PartLemmas.{IsPartOf-trans, IsPartOf-reverse}
use Rattle.canoniser.proofs.ImplicationLemmas.{covered_has, Covers-each, Covers-from_each, IsCovered-more}
use Rattle.canoniser.proofs.ImplicationLemmas.{IsCovered-trans, Implies-refl, Implies-trans, Implies-antisym}

-- of two places of a sorted list the later has no lesser atom
sorted_later : IsAtomOrder → (xs : List PlainKeyAtom) → IsSorted compare_atoms xs → (i j : ℕ) (d : PlainKeyAtom) → i ≤ j
    → j < length xs → is_lt (compare_atoms (get_or xs j d) (get_or xs i d)) ≡ false
sorted_later order xs sorted =
    sorted_far (λ x y. is_lt (compare_atoms x y)) (ranks_by order.total (λ (a : PlainKeyAtom). a)) xs sorted

-- one that is not less than another, and isn't the other, comes after it
less_from_not : IsAtomOrder → (a b : PlainKeyAtom) (o : Ordering) → compare_atoms b a ≡ o → is_lt o ≡ false → a ≢ b
    → compare_atoms a b ≡ Less
less_from_not order a b Less is not_less differ = absurd (cc)
less_from_not order a b Equal is not_less differ = absurd (differ (sym (order.apart b a is)))
less_from_not order a b Greater is not_less differ = order.total.antisymm a b ∙ ap ordering_reverse is

-- the plainest atom of a form
abbrev pub plain : List FormTerm → PlainKeyAtom
plain form = record { form = form; op = Le; constant = pos 0 }

-- the forms of atoms compare as the atoms do
not_less_forms : (a b : PlainKeyAtom) (o : Ordering) → compare_forms a.form b.form ≡ o
    → is_lt (compare_atoms a b) ≡ false → is_lt o ≡ false
not_less_forms a b Less is not_less = absurd (let less : is_lt (compare_atoms a b) ≡ true = rw is refl in cc)
not_less_forms a b Equal is not_less = refl
not_less_forms a b Greater is not_less = refl

then_equal : (o : Ordering) → ordering_then o Equal ≡ o
then_equal Less = refl
then_equal Equal = refl
then_equal Greater = refl

pub compare_plain : (f g : List FormTerm) → compare_atoms (plain f) (plain g) ≡ compare_forms f g
compare_plain f g = then_equal (compare_forms f g)

-- forms of which neither is less are the same
same_forms : IsAtomOrder → (f g : List FormTerm) (o : Ordering) → compare_forms f g ≡ o → is_lt o ≡ false
    → is_lt (compare_forms g f) ≡ false → f ≡ g
same_forms order f g Less is not_less not_more = absurd (cc)
same_forms order f g Equal is not_less not_more =
    ap (λ (a : PlainKeyAtom). a.form) (order.apart (plain f) (plain g) (compare_plain f g ∙ is))
same_forms order f g Greater is not_less not_more =
    let back : compare_forms g f ≡ Less =
    sym (compare_plain g f) ∙ order.total.antisymm (plain g) (plain f)
    ∙ ap ordering_reverse (compare_plain f g ∙ is) in
    let less : is_lt (compare_forms g f) ≡ true = ap is_lt back in
    absurd (cc)

-- atoms of one form stand beside one another in a sorted list
pub StandTogether-sorted : IsAtomOrder → (xs : List PlainKeyAtom) → IsSorted compare_atoms xs → StandTogether xs
StandTogether-sorted order xs sorted i j k d one two within same =
    let a = get_or xs i d in
    let b = get_or xs j d in
    let c = get_or xs k d in
    let low =
    not_less_forms b a (compare_forms b.form a.form) refl
    (sorted_later order xs sorted i j d (omega arith) (omega arith)) in
    let high =
    not_less_forms c b (compare_forms c.form b.form) refl
    (sorted_later order xs sorted j k d (omega arith) within) in
    same_forms order b.form c.form (compare_forms b.form c.form) refl
    (subst (λ (f : List FormTerm). is_lt (compare_forms b.form f) ≡ false) same low) high

-- a part of a sorted list in which no atom implies a later one ascends
pub Ascends-part : IsAtomOrder → (part whole : List PlainKeyAtom) → IsPartOf part whole → IsSorted compare_atoms whole
    → AllPairs (λ a b. ¬ Implies a b) part → Ascends part
Ascends-part order part whole is sorted apart k d lt =
    let a = get_or part k d in
    let b = get_or part (k + 1) d in
    let differ : a ≢ b =
    λ same. apart k (k + 1) d (omega arith) lt (subst (λ (x : PlainKeyAtom). Implies a x) same (Implies-refl a)) in
    let up = is.ascends k (k + 1) (omega arith) lt in
    let far = sorted_later order whole sorted (is.place k) (is.place (k + 1)) d (omega arith) (is.within (k + 1) lt) in
    let here : is_lt (compare_atoms b a) ≡ false = rw (is.same k d (omega arith), is.same (k + 1) d lt) far in
    less_from_not order a b (compare_atoms b a) refl here differ

-- two atoms of the list of which one implies the other are the same
same_from_apart : (key : List PlainKeyAtom) → AllPairs (λ a b. ¬ Implies a b) key → AllPairs (λ a b. ¬ Implies b a) key
    → (a b : PlainKeyAtom) → Contains key a → Contains key b → Implies a b → a ≡ b
same_from_apart key apart apart_back a b one two implied =
    let i = one.0 in
    let j = two.0 in
    let at_i : get_or key i a ≡ a = one.2 in
    let at_j : get_or key j a ≡ b = get_or_default key j a b two.1 ∙ two.2 in
    let here : Implies (get_or key i a) (get_or key j a) = rw (at_i, at_j) implied in
    elim (eqb_tells i j) [
      | inl same ↦ sym at_i ∙ ap (λ (k : ℕ). get_or key k a) same.1 ∙ at_j
      | inr other ↦ (
          let ne = other.1 in
          elim (cases_lt i j) [
            | inl before ↦ absurd (apart i j a before two.1 here)
            | inr later ↦ absurd (apart_back j i a (omega arith) one.1 here)
          ]
          )
    ]

-- a part that covers the whole, in which no atom implies another, has just the strongest
pub IsStrongest-part : TableIsRight → (key given : List PlainKeyAtom)
    → ((a : PlainKeyAtom) → Contains key a → Contains given a) → Covers key given → AllPairs (λ a b. ¬ Implies a b) key
    → AllPairs (λ a b. ¬ Implies b a) key → (a : PlainKeyAtom) → Contains key a ↔ IsStrongest (Contains given) a
IsStrongest-part right key given part covers apart apart_back a = (
  λ has. record {
    one = part a has;
    alone = λ b in_given implied.
        let covered = Covers-each key given covers b in_given in
        let same : covered.1 ≡ a =
        same_from_apart key apart apart_back covered.1 a (covered_has key b covered) has
        (Implies-trans covered.1 b a covered.4 implied) in
        let back : Implies a b = subst (λ (x : PlainKeyAtom). Implies x b) same covered.4 in
        Implies-antisym right b a implied back;
  },
  λ strongest.
      let covered = Covers-each key given covers a strongest.one in
      let has = covered_has key a covered in
      subst (Contains key) (strongest.alone covered.1 (part covered.1 has) covered.4) has,
)

Contains-reverse : (xs : List PlainKeyAtom) (a : PlainKeyAtom) → Contains xs a → Contains (reverse xs) a
Contains-reverse xs a has = Contains-permutation xs (reverse xs) a (IsPermutation-reverse xs) has

-- a list covers from the end what it covers
pub Covers-reverse : (key query : List PlainKeyAtom) → Covers key query → Covers (reverse key) query
Covers-reverse key query covers =
    Covers-from_each (reverse key) query
    (λ b has. IsCovered-more key (reverse key) (Contains-reverse key) b (Covers-each key query covers b has))

-- two walks, the second over what the first kept, from the end
pub Covers-twice : (first second query : List PlainKeyAtom) → Covers first query → Covers second (reverse first)
    → Covers (reverse second) query
Covers-twice first second query one two =
    Covers-reverse second query
    (Covers-from_each second query
    (λ b has. IsCovered-trans second (reverse first) b two
    (IsCovered-more first (reverse first) (Contains-reverse first) b (Covers-each first query one b has))))

pub IsPartOf-twice : (first second whole : List PlainKeyAtom) → IsPartOf first whole → IsPartOf second (reverse first)
    → IsPartOf (reverse second) whole
IsPartOf-twice first second whole one two =
    let back : IsPartOf (reverse second) first = rw reverse-reverse at (IsPartOf-reverse second (reverse first) two) in
    IsPartOf-trans (reverse second) first whole back one

-- a permutation has the same atoms
pub Contains-same : (xs ys : List PlainKeyAtom) → IsPermutation xs ys → (a : PlainKeyAtom) → Contains ys a
    → Contains xs a
Contains-same xs ys moved a has = Contains-permutation ys xs a (IsPermutation-sym xs ys moved) has

pub Contains-moved : (xs ys : List PlainKeyAtom) → IsPermutation xs ys → (a : PlainKeyAtom) → Contains xs a
    → Contains ys a
Contains-moved xs ys moved a has = Contains-permutation xs ys a moved has
