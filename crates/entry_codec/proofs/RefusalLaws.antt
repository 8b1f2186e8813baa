-- The evidence of an entry checks, or is refused for one reason.
use Rattle.std.proofs.Common.{◌≡◌, ℕ, zero, suc, ◌<◌, ℤ, Bool, true, false, List, [], ◌∷◌, length, take, get_or, Result, Ok}
use Rattle.std.proofs.Common.{Err, ◌⊎◌, inl, inr, refl, sym, ap, subst, ◌∙◌, arith}
use Rattle.std.specs.List.{slice_get}
use Rattle.std.proofs.lemmas.Bool.{cases_order}
use Rattle.std.proofs.lemmas.List.{get_or-take, length-take}
use Rattle.std.proofs.lemmas.Option.{slice_get-get_or}
use Rattle.lin_model.specs.Lists.{Found, Found-from, within_from_IsSomeAnd}
use Rattle.lin_model.specs.Form.{form_value}
use Rattle.lin_model.specs.Test.{passes}
use Rattle.lin_model.specs.KeyAtom.{PlainKeyAtom, KeyAtomHolds}
use Rattle.lin_model.specs.Key.{KeyHolds}
use Rattle.refutation.specs.Tree.{PlainTree}
use Rattle.refutation.specs.Reading.{Refutes}
use Rattle.refutation.specs.Laws.{IsTreeAnswer, EachTreeHasOneAnswer}
use Rattle.refutation.specs.declared.fault.TreeFault.{TreeFault}
use Rattle.refutation.specs.declared.fault.TreeFault.TheVariants as faults
use Rattle.cert_check.specs.declared.entry.Entry.{Entry}
use Rattle.cert_check.specs.declared.entry.Entry.TheVariants.{Sat, Unsat}
use Rattle.cert_check.specs.declared.refused.Refused.{Refused}
use Rattle.cert_check.specs.declared.refused.Refused.TheVariants.{PointFails, NodeFails, TreeEnds, TreeGoesOn}
use Rattle.cert_check.specs.Decides.{HasEvidence}
use Rattle.cert_check.specs.Refusals.{FailsFirst, IsTreeRefusal}
use Rattle.entry_codec.specs.Atoms.{point}
use Rattle.entry_codec.specs.Fields.{value_count}
use Rattle.entry_codec.specs.Bodies.{body, body_fields, IsInGrammar}
use Rattle.entry_codec.specs.Frames.{IsRefusal}

-- ---- points

-- an atom that fails isn't one that holds
fails_where : (key : List PlainKeyAtom) (point : List ℤ) (j : ℕ) → FailsFirst key point j
    → Found (slice_get key j) (λ a. ¬ KeyAtomHolds a point)
fails_where key point j fails = Found-from (slice_get key j) (λ a. ¬ KeyAtomHolds a point) fails.here

-- the atom that fails first doesn't hold
not_holds : (key : List PlainKeyAtom) (point : List ℤ) (j : ℕ) (all : List PlainKeyAtom) → FailsFirst key point j
    → KeyHolds all point → ((d : PlainKeyAtom) → get_or all j d ≡ get_or key j d) → j < length all → ⊥
not_holds key point j all fails holds same lt =
    let f = fails_where key point j fails in
    let place : j < length key = within_from_IsSomeAnd key (λ a. ¬ KeyAtomHolds a point) j fails.here in
    let there : get_or key j f.value ≡ f.value = cc (slice_get-get_or key j f.value place, f.is) in
    f.holds (subst (λ (a : PlainKeyAtom). KeyAtomHolds a point) (same f.value ∙ there) (holds j f.value lt))

-- a point that is refused satisfies no key
pub refused_fails : (key : List PlainKeyAtom) (point : List ℤ) (j : ℕ) → FailsFirst key point j → ¬ KeyHolds key point
refused_fails key point j fails holds =
    not_holds key point j key fails holds (λ d. refl)
    (within_from_IsSomeAnd key (λ a. ¬ KeyAtomHolds a point) j fails.here)

-- no atom before the first that fails does
not_before : (key : List PlainKeyAtom) (point : List ℤ) (i j : ℕ) → FailsFirst key point i → FailsFirst key point j
    → i < j → ⊥
not_before key point i j first second lt =
    let place = within_from_IsSomeAnd key (λ a. ¬ KeyAtomHolds a point) i first.here in
    not_holds key point i (take j key) first second.before (λ d. get_or-take j key i d lt)
    (omega (arith, length-take j key))

-- one atom is the first that fails
pub first_is_one : (key : List PlainKeyAtom) (point : List ℤ) (i j : ℕ) → FailsFirst key point i
    → FailsFirst key point j → i ≡ j
first_is_one key point i j first second = elim (cases_order i j) [
  | inl same ↦ same
  | inr (inl lt) ↦ absurd (not_before key point i j first second lt)
  | inr (inr gt) ↦ absurd (not_before key point j i second first gt)
]

-- a key with one more atom in front, which holds
holds_cons : (a : PlainKeyAtom) (key : List PlainKeyAtom) (point : List ℤ) → KeyAtomHolds a point → KeyHolds key point
    → KeyHolds (a ∷ key) point
holds_cons a key point first others zero d lt = first
holds_cons a key point first others (suc k) d lt = others k d (omega arith)

-- the point satisfies the key, or some atom is the first that fails
pub holds_or_fails : (key : List PlainKeyAtom) (point : List ℤ)
    → KeyHolds key point ⊎ ((j : ℕ) × FailsFirst key point j)
holds_or_fails [] point = inl (λ k d lt. absurd (omega arith))
holds_or_fails (a ∷ key) point = by_test (passes a.op a.constant (form_value a.form point)) refl (holds_or_fails key point)
  where
    by_test : (b : Bool) → passes a.op a.constant (form_value a.form point) ≡ b
        → KeyHolds key point ⊎ ((j : ℕ) × FailsFirst key point j)
        → KeyHolds (a ∷ key) point ⊎ ((j : ℕ) × FailsFirst (a ∷ key) point j)
    by_test false is others = inr (
      0,
      record {
        here = λ holds. absurd (cc);
        before = λ k d lt. absurd (omega arith);
      },
    )
    by_test true is (inl all) = inl (holds_cons a key point is all)
    by_test true is (inr f) = inr (
      suc f.0,
      record {
        here = f.1.here;
        before = holds_cons a (take f.0 key) point is f.1.before;
      },
    )

-- ---- trees

-- a refusal as the answer of the check of a tree
abbrev answer_of : Refused → Result (Unit {0}) TreeFault
answer_of (PointFails j) = Ok tt
answer_of (NodeFails i) = Err (faults.NodeFails i)
answer_of TreeEnds = Err faults.TreeEnds
answer_of TreeGoesOn = Err faults.TreeGoesOn

module _ (law : EachTreeHasOneAnswer) where
  -- two answers that are right of a tree are the same
  answers_same : (key : List PlainKeyAtom) (t : PlainTree) (a b : Result (Unit {0}) TreeFault)
      → IsTreeAnswer key t.nodes t.terms a → IsTreeAnswer key t.nodes t.terms b → a ≡ b
  answers_same key t a b first second =
      let one = law key t.nodes t.terms in one.alone a first ∙ sym (one.alone b second)

  -- a refusal is an answer
  refusal_answers : (key : List PlainKeyAtom) (t : PlainTree) (refused : Refused) → IsTreeRefusal key t refused
      → IsTreeAnswer key t.nodes t.terms (answer_of refused)
  refusal_answers key t (PointFails j) refusal = absurd refusal
  refusal_answers key t (NodeFails i) refusal = refusal
  refusal_answers key t TreeEnds refusal = refusal
  refusal_answers key t TreeGoesOn refusal = refusal

  -- it isn't that the tree refutes
  refusal_not_ok : (key : List PlainKeyAtom) (t : PlainTree) (refused : Refused) → IsTreeRefusal key t refused
      → answer_of refused ≡ Ok tt → ⊥
  refusal_not_ok key t (PointFails j) refusal is = refusal
  refusal_not_ok key t (NodeFails i) refusal is = absurd (cc)
  refusal_not_ok key t TreeEnds refusal is = absurd (cc)
  refusal_not_ok key t TreeGoesOn refusal is = absurd (cc)

  -- refusals with one answer are the same
  refusals_same : (key : List PlainKeyAtom) (t : PlainTree) (r s : Refused) → IsTreeRefusal key t r
      → IsTreeRefusal key t s → answer_of r ≡ answer_of s → r ≡ s
  refusals_same key t (PointFails j) s first second is = absurd first
  refusals_same key t r (PointFails j) first second is = absurd second
  refusals_same key t (NodeFails i) (NodeFails j) first second is = let same : i ≡ j = cc in ap NodeFails same
  refusals_same key t (NodeFails i) TreeEnds first second is = absurd (cc)
  refusals_same key t (NodeFails i) TreeGoesOn first second is = absurd (cc)
  refusals_same key t TreeEnds (NodeFails j) first second is = absurd (cc)
  refusals_same key t TreeEnds TreeEnds first second is = refl
  refusals_same key t TreeEnds TreeGoesOn first second is = absurd (cc)
  refusals_same key t TreeGoesOn (NodeFails j) first second is = absurd (cc)
  refusals_same key t TreeGoesOn TreeEnds first second is = absurd (cc)
  refusals_same key t TreeGoesOn TreeGoesOn first second is = refl

  -- ---- entries

  -- evidence that is refused doesn't check
  pub refused_has_none : (e : Entry) (refused : Refused) → IsRefusal e refused → ¬ HasEvidence e
  refused_has_none (Sat e) (PointFails j) refusal evidence = refused_fails e.key e.point j refusal evidence.holds
  refused_has_none (Sat e) (NodeFails i) refusal evidence = refusal
  refused_has_none (Sat e) TreeEnds refusal evidence = refusal
  refused_has_none (Sat e) TreeGoesOn refusal evidence = refusal
  refused_has_none (Unsat e) refused refusal evidence =
      refusal_not_ok e.key e.tree refused refusal
      (answers_same e.key e.tree (answer_of refused) (Ok tt) (refusal_answers e.key e.tree refused refusal) evidence)

  -- it is refused for one reason
  pub refused_once : (e : Entry) (r s : Refused) → IsRefusal e r → IsRefusal e s → r ≡ s
  refused_once (Sat e) (PointFails i) (PointFails j) first second =
      ap PointFails (first_is_one e.key e.point i j first second)
  refused_once (Sat e) (PointFails i) (NodeFails j) first second = absurd second
  refused_once (Sat e) (PointFails i) TreeEnds first second = absurd second
  refused_once (Sat e) (PointFails i) TreeGoesOn first second = absurd second
  refused_once (Sat e) (NodeFails i) s first second = absurd first
  refused_once (Sat e) TreeEnds s first second = absurd first
  refused_once (Sat e) TreeGoesOn s first second = absurd first
  refused_once (Unsat e) r s first second =
      refusals_same e.key e.tree r s first second
      (answers_same e.key e.tree (answer_of r) (answer_of s) (refusal_answers e.key e.tree r first)
      (refusal_answers e.key e.tree s second))

  -- a tree refutes, or is refused
  refutes_or_not : (key : List PlainKeyAtom) (t : PlainTree)
      → Refutes key t.nodes t.terms ⊎ ((r : Refused) × IsTreeRefusal key t r)
  refutes_or_not key t = let one = law key t.nodes t.terms in by_answer one.answer one.is
    where
      by_answer : (a : Result (Unit {0}) TreeFault) → IsTreeAnswer key t.nodes t.terms a
          → Refutes key t.nodes t.terms ⊎ ((r : Refused) × IsTreeRefusal key t r)
      by_answer (Ok u) is = inl is
      by_answer (Err (faults.NodeFails i)) is = inr (NodeFails i, is)
      by_answer (Err faults.TreeEnds) is = inr (TreeEnds, is)
      by_answer (Err faults.TreeGoesOn) is = inr (TreeGoesOn, is)
      by_answer (Err faults.NoMemory) is = absurd is

  -- the evidence of an entry in the grammar checks, or is refused
  pub checks_or_refused : (e : Entry) → IsInGrammar e → HasEvidence e ⊎ ((r : Refused) × IsRefusal e r)
  unfolding body body_fields point value_count
  checks_or_refused (Sat e) grammar = elim (holds_or_fails e.key e.point) [
    | inl holds ↦ inl (record { one_each = grammar.may.1.1.0.1; holds = holds })
    | inr f ↦ inr (PointFails f.0, f.1)
  ]
  checks_or_refused (Unsat e) grammar = refutes_or_not e.key e.tree
