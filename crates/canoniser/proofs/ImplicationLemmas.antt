-- Implication is an order on canonical atoms, and what lists of them cover.
use Rattle.std.proofs.Common.{◌≡◌, ℕ, ◌<◌, ◌+◌, List, [], ◌∷◌, ◌++◌, length, take, get_or, ℤ, refl, sym, ap, ◌∙◌, subst}
use Rattle.std.proofs.Common.{inl, inr, ◌≤◌, arith, true}
use Rattle.std.specs.List.{Any, AllPairs, Contains}
use Rattle.std.proofs.lemmas.Int.{ints}
use Rattle.std.proofs.lemmas.List.{get_or_default}
use Rattle.std.proofs.lemmas.List.Elements.{Contains-get_or, Contains-append_left, Contains-push, All-weaker, All-more}
use Rattle.std.proofs.lemmas.List.Elements.{All-contains}
use Rattle.std.proofs.lemmas.List.Quantifiers.{all_pairs_push}
use Rattle.std.proofs.lemmas.Bool.{cases_lt}
use Rattle.std.proofs.lemmas.Bool.Decides.{Decides-int_eq, eqb_tells}
use Rattle.lin_model.specs.declared.op.Op.{Op}
use Rattle.lin_model.specs.declared.op.Op.TheVariants.{Le, Ge, Eq, Ne}
use Rattle.lin_model.specs.KeyAtom.{PlainKeyAtom}
use Rattle.atom_implies.specs.Implies.{Implies, Covers}
use Rattle.atom_implies.specs.Table.{table_says}
use Rattle.atom_implies.specs.Laws.{TableIsRight}
use Rattle.canoniser.specs.Parts.{StandAtEnd}

-- two tests that the table has imply each other are the same
same_tests : (op : Op) (c : ℤ) (other : Op) (d : ℤ) → table_says op c other d ≡ true → table_says other d op c ≡ true
    → (op ≡ other) × (c ≡ d)
same_tests Le c Le d one two = (refl, grind (arith, ints))
same_tests Le c Ge d one two = absurd (cc)
same_tests Le c Eq d one two = absurd (cc)
same_tests Le c Ne d one two = absurd (cc)
same_tests Ge c Le d one two = absurd (cc)
same_tests Ge c Ge d one two = (refl, grind (arith, ints))
same_tests Ge c Eq d one two = absurd (cc)
same_tests Ge c Ne d one two = absurd (cc)
same_tests Eq c Le d one two = absurd (cc)
same_tests Eq c Ge d one two = absurd (cc)
same_tests Eq c Eq d one two = (refl, (Decides-int_eq c d).0 one)
same_tests Eq c Ne d one two = absurd (cc)
same_tests Ne c Le d one two = absurd (cc)
same_tests Ne c Ge d one two = absurd (cc)
same_tests Ne c Eq d one two = absurd (cc)
same_tests Ne c Ne d one two = (refl, (Decides-int_eq c d).0 one)

-- atoms that imply each other are the same
pub Implies-antisym : TableIsRight → (a b : PlainKeyAtom) → Implies a b → Implies b a → a ≡ b
Implies-antisym right a b one two =
    let tests = same_tests a.op a.constant b.op b.constant ((right a.op a.constant b.op b.constant).1 one.tests)
    ((right b.op b.constant a.op a.constant).1 two.tests) in
    let form : a.form ≡ b.form = one.same_form in
    let op : a.op ≡ b.op = tests.0 in
    let constant : a.constant ≡ b.constant = tests.1 in
    λ i. record { form = form i; op = op i; constant = constant i }

pub Implies-refl : (a : PlainKeyAtom) → Implies a a
Implies-refl a = record { same_form = refl; tests = λ n so. so }

pub Implies-trans : (a b c : PlainKeyAtom) → Implies a b → Implies b c → Implies a c
Implies-trans a b c one two = record {
  same_form = one.same_form ∙ two.same_form;
  tests =
      λ n so. two.tests n (one.tests n so);
}

-- some atom of the list implies it
abbrev pub IsCovered : List PlainKeyAtom → PlainKeyAtom → Type 0
IsCovered key b = Any (λ a. Implies a b) key

-- what an atom of the list implies is covered, and by an atom of the list
pub IsCovered-by : (key : List PlainKeyAtom) (a b : PlainKeyAtom) → Contains key a → Implies a b → IsCovered key b
IsCovered-by key a b has implied = (has.0, a, has.1, has.2, implied)

pub covered_has : (key : List PlainKeyAtom) (b : PlainKeyAtom) (covered : IsCovered key b) → Contains key covered.1
covered_has key b covered = (covered.0, covered.2, covered.3)

-- a list that has all atoms of another covers what that covers
pub IsCovered-more : (key more : List PlainKeyAtom) → ((a : PlainKeyAtom) → Contains key a → Contains more a)
    → (b : PlainKeyAtom) → IsCovered key b → IsCovered more b
IsCovered-more key more has b covered =
    IsCovered-by more covered.1 b (has covered.1 (covered_has key b covered)) covered.4

pub Covers-each : (key query : List PlainKeyAtom) → Covers key query → (b : PlainKeyAtom) → Contains query b
    → IsCovered key b
Covers-each key query covers b has = All-contains (IsCovered key) query b covers has

pub Covers-from_each : (key query : List PlainKeyAtom) → ((b : PlainKeyAtom) → Contains query b → IsCovered key b)
    → Covers key query
Covers-from_each key query each k d lt = each (get_or query k d) (Contains-get_or query k d lt)

pub IsCovered-trans : (first second : List PlainKeyAtom) (b : PlainKeyAtom) → Covers first second → IsCovered second b
    → IsCovered first b
IsCovered-trans first second b covers covered =
    let c = covered.1 in
    let by = Covers-each first second covers c (covered_has second b covered) in
    IsCovered-by first by.1 b (covered_has first c by) (Implies-trans by.1 c b by.4 covered.4)

-- one more atom, which stays, or which one that stays implies
pub Covers-kept : (kept all : List PlainKeyAtom) (n : ℕ) (x : PlainKeyAtom) → n < length all → x ≡ get_or all n x
    → Covers kept (take n all) → Covers (kept ++ x ∷ []) (take (n + 1) all)
Covers-kept kept all n x next read covers =
    All-more (IsCovered (kept ++ x ∷ [])) all n x next
    (All-weaker (IsCovered kept) (IsCovered (kept ++ x ∷ []))
    (λ b covered. IsCovered-more kept (kept ++ x ∷ [])
    (λ a has. Contains-append_left kept (x ∷ []) a has) b covered) (take n all) covers)
    (subst (IsCovered (kept ++ x ∷ [])) read
    (IsCovered-by (kept ++ x ∷ []) x x (Contains-push kept x) (Implies-refl x)))

pub Covers-left : (kept all : List PlainKeyAtom) (n : ℕ) (x : PlainKeyAtom) → n < length all → x ≡ get_or all n x
    → Covers kept (take n all) → IsCovered kept x → Covers kept (take (n + 1) all)
Covers-left kept all n x next read covers covered =
    All-more (IsCovered kept) all n x next covers (subst (IsCovered kept) read covered)

-- one more atom that none before it implies
pub AllPairs-kept : (kept : List PlainKeyAtom) (x : PlainKeyAtom) → AllPairs (λ a b. ¬ Implies a b) kept
    → ¬ IsCovered kept x → AllPairs (λ a b. ¬ Implies a b) (kept ++ x ∷ [])
AllPairs-kept kept x apart uncovered =
    all_pairs_push (λ a b. ¬ Implies a b) kept x apart
    (λ k d lt implied. uncovered (IsCovered-by kept (get_or kept k d) x (Contains-get_or kept k d lt) implied))

-- none implies x where those of its form stand at the end, none behind a place does, and the atom there has another
-- form
pub IsCovered-not_before : (atoms : List PlainKeyAtom) (x other : PlainKeyAtom) (n : ℕ) → n < length atoms
    → other ≡ get_or atoms n other → StandAtEnd x.form atoms
    → ((j : ℕ) (d : PlainKeyAtom) → n + 1 ≤ j → j < length atoms → ¬ Implies (get_or atoms j d) x)
    → ¬ (other.form ≡ x.form) → ¬ IsCovered atoms x
IsCovered-not_before atoms x other n here read at_end behind differs covered =
    let i = covered.0 in
    let by = covered.1 in
    let implied : Implies (get_or atoms i by) x = subst (λ (a : PlainKeyAtom). Implies a x) (sym covered.3) covered.4 in
    let at_n : get_or atoms n by ≡ other = get_or_default atoms n by other here ∙ sym read in
    elim (cases_lt i n) [
      | inl before ↦ differs (ap (λ (a : PlainKeyAtom). a.form) (sym at_n)
          ∙ at_end i n by before here implied.same_form)
      | inr later ↦ elim (eqb_tells i n) [
        | inl equal ↦ differs (ap (λ (a : PlainKeyAtom). a.form) (sym at_n)
            ∙ ap (λ (k : ℕ). (get_or atoms k by).form) (sym equal.1) ∙ implied.same_form)
        | inr other_place ↦ (let ne = other_place.1 in behind i by (omega arith) covered.2 implied)
      ]
    ]
