-- Whether an entry decides a key can be told, so lists of entries have a first one that does, or none.
use Rattle.std.proofs.Common.{◌≡◌, ◌⊎◌, inl, inr, ℕ, zero, suc, pos, Option, Some, None, List, [], ◌∷◌, take, Ordering}
use Rattle.std.proofs.Common.{arith, refl, sym, ap, subst}
use Rattle.std.specs.declared.cmp.Ordering.TheVariants.{Less, Equal, Greater}
use Rattle.std.specs.List.{All, Any}
use Rattle.std.proofs.lemmas.Bool.{cases_Bool, both_ways}
use Rattle.std.proofs.lemmas.Cmp.{tied_itself}
use Rattle.std.proofs.lemmas.List.Elements.{All-nil, All-cons, All-head, All-tail}
use Rattle.lin_model.specs.declared.form.FormTerm.{FormTerm}
use Rattle.lin_model.specs.declared.op.Op.TheVariants.{Le}
use Rattle.lin_model.specs.KeyAtom.{PlainKeyAtom}
use Rattle.lin_model.specs.AtomOrder.{compare_atoms, IsAtomOrder}
use Rattle.atom_implies.specs.Implies.{Implies, Covers}
use Rattle.atom_implies.specs.Table.{table_says}
use Rattle.atom_implies.specs.Laws.{TableIsRight}
use Rattle.cert_check.specs.declared.entry.Entry.{Entry}
use Rattle.cert_check.specs.declared.entry.Entry.TheVariants.{Sat, Unsat}
use Rattle.cert_check.specs.Decides.{Decides, IsFirst}
use Rattle.cert_check.specs.Laws.{HasFirst, FirstPlacesExist}

-- what holds of some element holds of the first, or of one of the rest
any_cases : {X : Type 0} (P : X → Type 0) (x : X) (xs : List X) → Any P (x ∷ xs) → P x ⊎ Any P xs
any_cases P x xs (zero, y, within, is, holds) = inl (subst P (sym is) holds)
any_cases P x xs (suc k, y, within, is, holds) = inr (k, y, omega arith, is, holds)

-- where it doesn't hold of an element, the first place lies behind
later : {X : Type 0} (P : X → Type 0) (x : X) (xs : List X) (place : Option ℕ) → ¬ P x → IsFirst P xs place
    → HasFirst P (x ∷ xs)
later P x xs None fails first = record { place = None; first = All-cons (λ y. ¬ P y) x xs fails first }
later P x xs (Some i) fails first = record {
  place = Some (suc i);
  first = record { here = first.here; before = All-cons (λ y. ¬ P y) x (take i xs) fails first.before };
}

-- what can be told of each element can be told of a list
module _ {X : Type 0} (P : X → Type 0) (tell : (x : X) → P x ⊎ ¬ P x) where
  -- whether it holds of all
  all_or_not : (xs : List X) → All P xs ⊎ ¬ All P xs
  all_or_not [] = inl (All-nil P)
  all_or_not (x ∷ xs) =
      let rest = all_or_not xs in
      elim (tell x) [
        | inl here ↦ elim rest [
          | inl all ↦ inl (All-cons P x xs here all)
          | inr fails ↦ inr (λ all. fails (All-tail P x xs all))
        ]
        | inr fails ↦ inr (λ all. fails (All-head P x xs all))
      ]

  -- whether it holds of some
  any_or_not : (xs : List X) → Any P xs ⊎ ¬ Any P xs
  any_or_not [] = inr (λ any. omega (arith, any.2))
  any_or_not (x ∷ xs) =
      let rest = any_or_not xs in
      elim (tell x) [
        | inl here ↦ inl (0, x, omega arith, refl, here)
        | inr fails ↦ elim rest [
          | inl any ↦ inl (suc any.0, any.1, omega (arith, any.2), any.3, any.4)
          | inr none ↦ inr (λ any. elim (any_cases P x xs any) [
            | inl here ↦ fails here
            | inr behind ↦ none behind
          ])
        ]
      ]

  -- where it holds first
  first_or_none : (xs : List X) → HasFirst P xs
  first_or_none [] = record { place = None; first = All-nil (λ x. ¬ P x) }
  first_or_none (x ∷ xs) =
      let rest = first_or_none xs in
      elim (tell x) [
        | inl here ↦ record { place = Some 0; first = record { here = here; before = All-nil (λ y. ¬ P y) } }
        | inr fails ↦ later P x xs rest.place fails rest.first
      ]

-- where the order of atoms tells them apart, and the table of implication is right
module _ (order : IsAtomOrder) (right : TableIsRight) where
  -- an atom of a form
  abbrev atom_of : List FormTerm → PlainKeyAtom
  atom_of form = record { form = form; op = Le; constant = pos 0 }

  -- atoms of one form are equal in the order
  tied : (f g : List FormTerm) → f ≡ g → compare_atoms (atom_of f) (atom_of g) ≡ Equal
  tied f g same = subst (λ (h : List FormTerm). compare_atoms (atom_of f) (atom_of h) ≡ Equal) same
      (tied_itself order.total (atom_of f))

  -- whether two forms are one, by what their atoms compare to
  same_form_by : (f g : List FormTerm) (o : Ordering) → compare_atoms (atom_of f) (atom_of g) ≡ o
      → (f ≡ g) ⊎ ¬ (f ≡ g)
  same_form_by f g Less is = inr (λ same. let equal = tied f g same in let none : ⊥ = cc in none)
  same_form_by f g Equal is = inl (ap (λ (a : PlainKeyAtom). a.form) (order.apart (atom_of f) (atom_of g) is))
  same_form_by f g Greater is = inr (λ same. let equal = tied f g same in let none : ⊥ = cc in none)

  -- whether an atom implies another
  implies_or_not : (a b : PlainKeyAtom) → Implies a b ⊎ ¬ Implies a b
  implies_or_not a b = elim (same_form_by a.form b.form (compare_atoms (atom_of a.form) (atom_of b.form)) refl) [
    | inl same ↦ elim (cases_Bool (table_says a.op a.constant b.op b.constant)) [
      | inl says ↦ inl (record { same_form = same; tests = (right a.op a.constant b.op b.constant).0 says })
      | inr says_not ↦ inr (λ implied. both_ways (table_says a.op a.constant b.op b.constant) says_not
          ((right a.op a.constant b.op b.constant).1 implied.tests))
    ]
    | inr differ ↦ inr (λ implied. differ implied.same_form)
  ]

  -- whether a key covers another
  covers_or_not : (key q : List PlainKeyAtom) → Covers key q ⊎ ¬ Covers key q
  covers_or_not key q = all_or_not (λ b. Any (λ a. Implies a b) key)
      (λ b. any_or_not (λ a. Implies a b) (λ a. implies_or_not a b) key) q

  -- whether an entry decides a key
  decides_or_not : (key : List PlainKeyAtom) (e : Entry) → Decides e key ⊎ ¬ Decides e key
  decides_or_not key (Sat e) = covers_or_not e.key key
  decides_or_not key (Unsat e) = covers_or_not key e.key

  -- so each list has a first place
  pub first_places : FirstPlacesExist
  first_places entries key = first_or_none (λ e. Decides e key) (decides_or_not key) entries
