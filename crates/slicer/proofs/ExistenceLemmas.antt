-- Every condition has slices: they can be gathered one variable after another.
use Rattle.std.proofs.Common.{◌≡◌, ℕ, ◌+◌, ◌<◌, ◌≤◌, zero, suc, List, [], ◌∷◌, ◌++◌, length, inl, inr, refl, arith}
use Rattle.std.proofs.Common.{subst}
use Rattle.std.proofs.lemmas.Bool.{cases_lt}
use Rattle.lin_model.specs.Conditions.{PlainCondition}
use Rattle.lin_model.specs.Lists.{within_from_IsSomeAnd}
use Rattle.slicer.specs.Linked.{Linked}
use Rattle.slicer.specs.Names.{Names, NamesAt, NamesNothingAt, atom_vars}
use Rattle.slicer.specs.Slices.{PlainSlice, Lists, IsSliceOf, IsFront}
use Rattle.slicer.specs.Laws.{EachHasSlices}
use Rattle.slicer.proofs.ClassLemmas.{InSome, InSome-push, AreClassesBelow, AreClassesBelow-none, AreClassesBelow-seen}
use Rattle.slicer.proofs.ClassLemmas.{AreClassesBelow-more, AreClasses-all}
use Rattle.slicer.proofs.DecisionLemmas.{IsDecided, InSome-decided, Chain-decided, NamesNothingAt-decided}
use Rattle.slicer.proofs.DecisionLemmas.{NamesOneAt-decided}
use Rattle.slicer.proofs.FrontLemmas.{IsFront-none, IsFront-one}
use Rattle.slicer.proofs.ListsLemmas.{Below, Lists-none, Lists-kept, Lists-skipped, Lists-same}

-- the numbers below a count of which something holds, and a proof that they are these
record Listed (P : ℕ → Type 0) (count : ℕ) : Type 0 where
  pub numbers : List ℕ
  pub lists : Lists (Below P count) numbers

listed : (P : ℕ → Type 0) → ((n : ℕ) → IsDecided (P n)) → (count : ℕ) → Listed P count
listed P tell zero = record { numbers = []; lists = Lists-none P }
listed P tell (suc n) =
    let before = listed P tell n in
    elim (tell n) [
      | inl here ↦ record {
        numbers = before.numbers ++ n ∷ [];
        lists =
            subst (λ m. Lists (Below P m) (before.numbers ++ n ∷ [])) (omega arith)
            (Lists-kept P n before.numbers before.lists here);
      }
      | inr not_here ↦ record {
        numbers = before.numbers;
        lists =
            subst (λ m. Lists (Below P m) before.numbers) (omega arith)
            (Lists-skipped P n before.numbers before.lists not_here);
      }
    ]

-- where all such numbers are below the count, these are all
all_listed : (P : ℕ → Type 0) (count : ℕ) → ((n : ℕ) → P n → n < count) → (some : Listed P count) → Lists P some.numbers
all_listed P count below some =
    Lists-same (Below P count) P some.numbers (λ n. (λ both. both.1, λ holds. (below n holds, holds))) some.lists

-- ---- one slice

record OneSlice (c : PlainCondition) (var : ℕ) : Type 0 where
  pub slice : PlainSlice
  pub is : IsSliceOf c var slice

one_slice : (c : PlainCondition) (var : ℕ) → var < length c.vars → OneSlice c var
one_slice c var declared =
    let On : ℕ → Type 0 = λ j. (v : ℕ) × Linked c var v × NamesAt c.atoms j v in
    let vars = listed (Linked c var) (λ v. Chain-decided c.atoms var v) (length c.vars) in
    let atoms =
    listed On (λ j. NamesOneAt-decided c.atoms (Linked c var) (λ v. Chain-decided c.atoms var v) j)
    (length c.atoms) in
    record {
      slice = record { vars = vars.numbers; atoms = atoms.numbers };
      is = record {
        declared = declared;
        vars = vars.lists;
        atoms =
            all_listed On (length c.atoms) (λ j on. within_from_IsSomeAnd c.atoms (λ atom. Names atom on.0) j on.2)
            atoms;
      };
    }

-- ---- all slices

record ClassesBelow (c : PlainCondition) (count : ℕ) : Type 0 where
  pub slices : List PlainSlice
  pub are : AreClassesBelow c count slices (InSome slices)

classes_more : (c : PlainCondition) (var : ℕ) → var < length c.vars → ClassesBelow c var → ClassesBelow c (var + 1)
classes_more c var declared before =
    let slices = before.slices in
    elim (InSome-decided slices var) [
      | inl seen ↦ record { slices = slices; are = AreClassesBelow-seen c var slices (InSome slices) before.are seen }
      | inr unseen ↦ (
          let one = one_slice c var declared in
          let all = slices ++ one.slice ∷ [] in
          record {
            slices = all;
            are = AreClassesBelow-more c var slices (InSome slices)
                (InSome all) one.slice before.are unseen one.is (λ v lt. InSome-push slices one.slice v);
          }
          )
    ]

classes_below : (c : PlainCondition) (count : ℕ) → count ≤ length c.vars → ClassesBelow c count
classes_below c zero few = record {
  slices = [];
  are =
      AreClassesBelow-none c (InSome []) (λ v some. omega (arith, some.2));
}
classes_below c (suc n) few =
    subst (ClassesBelow c) (omega arith) (classes_more c n (omega arith) (classes_below c n (omega arith)))

record Front (c : PlainCondition) : Type 0 where
  pub slices : List PlainSlice
  pub is : IsFront (NamesNothingAt c.atoms) slices

front : (c : PlainCondition) → Front c
front c =
    let Nothing = NamesNothingAt c.atoms in
    let atoms = listed Nothing (NamesNothingAt-decided c.atoms) (length c.atoms) in
    let all =
    all_listed Nothing (length c.atoms)
    (λ j nothing. within_from_IsSomeAnd c.atoms (λ atom. atom_vars atom ≡ []) j nothing) atoms in
    elim (cases_lt 0 (length atoms.numbers)) [
      | inl some ↦ record {
        slices = record { vars = []; atoms = atoms.numbers } ∷ [];
        is =
            IsFront-one Nothing atoms.numbers all some;
      }
      | inr none ↦ record { slices = []; is = IsFront-none Nothing atoms.numbers all (omega arith) }
    ]

pub AreSlices-exist : EachHasSlices
AreSlices-exist c =
    let first = front c in
    let rest = classes_below c (length c.vars) (omega arith) in
    record {
      slices = first.slices ++ rest.slices;
      are = record {
        front = first.slices;
        classes = rest.slices;
        joined = refl;
        variable_free = first.is;
        linked = AreClasses-all c rest.slices (InSome rest.slices) rest.are;
      };
    }
