-- The table is right: it says yes exactly where each integer that passes the one test passes the other.
use Rattle.std.proofs.Common.{◌≡◌, ◌≢◌, ℤ, pos, ◌+ℤ◌, true, refl, arith, sym, ◌∙◌, ◌⊎◌, inl, inr}
use Rattle.std.specs.Prelude.{◌≤ℤ◌, ◌-ℤ◌}
use Rattle.std.specs.Bool.{Decides}
use Rattle.std.specs.Ordering.{int_eq}
use Rattle.std.proofs.lemmas.Int.{ints, by_lt_z}
use Rattle.std.proofs.lemmas.Bool.{cases_Bool}
use Rattle.std.proofs.lemmas.Bool.Decides.{Decides-int_eq, Decides-not}
use Rattle.lin_model.specs.declared.op.Op.{Op}
use Rattle.lin_model.specs.declared.op.Op.TheVariants.{Le, Ge, Eq, Ne}
use Rattle.lin_model.specs.Facts.{Decides-passes}
use Rattle.lin_model.specs.Integers.{Decides-int_le, Decides-int_lt}
use Rattle.lin_model.specs.Test.{Passes}
use Rattle.atom_implies.specs.Implies.{TestImplies}
use Rattle.atom_implies.specs.Table.{table_says}

-- every integer that passes the one test passes the other
abbrev Follows : Op → ℤ → Op → ℤ → Type 0
Follows op c other d = (n : ℤ) → Passes op c n → Passes other d n

-- two integers are equal or not
int_tells : (c d : ℤ) → ((c ≡ d) × (int_eq c d ≡ true)) ⊎ (c ≢ d)
int_tells c d =
    elim (cases_Bool (int_eq c d)) [
      | inl so ↦ inl ((Decides-int_eq c d).0 so, so)
      | inr not_so ↦
          inr (λ e. let yes = (Decides-int_eq c d).1 e in cc)
    ]

-- one of two different integers is not c
one_of_two : {X : Type 0} (c a b : ℤ) → a ≢ b → (a ≢ c → X) → (b ≢ c → X) → X
one_of_two c a b differ one two =
    elim (int_tells a c) [ inl same ↦ two (λ e. differ (same.0 ∙ sym e)) | inr apart ↦ one apart ]

Decides-table : (op : Op) (c : ℤ) (other : Op) (d : ℤ) → Decides (table_says op c other d) (Follows op c other d)
Decides-table Le c Le d = (
  λ so n le. let more =
      (Decides-int_le c d).0 so in omega (arith, ints),
  λ follows. (Decides-int_le c d).1 (follows c (omega (arith, ints))),
)
Decides-table Le c Ge d = (
  λ so. absurd (cc),
  λ follows.
      let at_c : d ≤ℤ c = follows c (omega (arith, ints)) in
      let below : d ≤ℤ (d -ℤ pos 1) = follows (d -ℤ pos 1) (omega (arith, ints)) in
      absurd (omega (arith, ints)),
)
Decides-table Le c Eq d = (
  λ so. absurd (cc),
  λ follows.
      let at_c : c ≡ d = follows c (omega (arith, ints)) in
      let below : c -ℤ pos 1 ≡ d = follows (c -ℤ pos 1) (omega (arith, ints)) in
      absurd (omega (arith, ints)),
)
Decides-table Le c Ne d = (
  λ so n le is. let more = (Decides-int_lt c d).0 so in omega (arith, ints),
  λ follows. (Decides-int_lt c d).1 (by_lt_z c d (λ lt. lt) (λ le. absurd (follows d le refl))),
)
Decides-table Ge c Le d = (
  λ so. absurd (cc),
  λ follows.
      let at_c : c ≤ℤ d = follows c (omega (arith, ints)) in
      let above : (d +ℤ pos 1) ≤ℤ d = follows (d +ℤ pos 1) (omega (arith, ints)) in
      absurd (omega (arith, ints)),
)
Decides-table Ge c Ge d = (
  λ so n le. let more =
      (Decides-int_le d c).0 so in omega (arith, ints),
  λ follows. (Decides-int_le d c).1 (follows c (omega (arith, ints))),
)
Decides-table Ge c Eq d = (
  λ so. absurd (cc),
  λ follows.
      let at_c : c ≡ d = follows c (omega (arith, ints)) in
      let above : c +ℤ pos 1 ≡ d = follows (c +ℤ pos 1) (omega (arith, ints)) in
      absurd (omega (arith, ints)),
)
Decides-table Ge c Ne d = (
  λ so n le is. let more = (Decides-int_lt d c).0 so in omega (arith, ints),
  λ follows. (Decides-int_lt d c).1 (by_lt_z d c (λ lt. lt) (λ le. absurd (follows d le refl))),
)
Decides-table Eq c Le d = (
  λ so n is. let le =
      (Decides-int_le c d).0 so in omega (arith, ints),
  λ follows. (Decides-int_le c d).1 (follows c refl),
)
Decides-table Eq c Ge d = (
  λ so n is. let le =
      (Decides-int_le d c).0 so in omega (arith, ints),
  λ follows. (Decides-int_le d c).1 (follows c refl),
)
Decides-table Eq c Eq d = (
  λ so n is. let same =
      (Decides-int_eq c d).0 so in cc,
  λ follows. (Decides-int_eq c d).1 (follows c refl),
)
Decides-table Eq c Ne d =
    let apart = Decides-not (int_eq c d) (Decides-int_eq c d) in
    (λ so n is there. apart.0 so (cc), λ follows. apart.1 (follows c refl))
Decides-table Ne c Le d = (
  λ so. absurd (cc),
  λ follows.
      let one : d +ℤ pos 1 ≢ c → (d +ℤ pos 1) ≤ℤ d = follows (d +ℤ pos 1) in
      let two : d +ℤ pos 2 ≢ c → (d +ℤ pos 2) ≤ℤ d = follows (d +ℤ pos 2) in
      one_of_two c (d +ℤ pos 1) (d +ℤ pos 2) (omega (arith, ints)) (λ apart. let le =
      one apart in absurd (omega (arith, ints))) (λ apart. let le = two apart in absurd (omega (arith, ints))),
)
Decides-table Ne c Ge d = (
  λ so. absurd (cc),
  λ follows.
      let one : d -ℤ pos 1 ≢ c → d ≤ℤ (d -ℤ pos 1) = follows (d -ℤ pos 1) in
      let two : d -ℤ pos 2 ≢ c → d ≤ℤ (d -ℤ pos 2) = follows (d -ℤ pos 2) in
      one_of_two c (d -ℤ pos 1) (d -ℤ pos 2) (omega (arith, ints)) (λ apart. let le =
      one apart in absurd (omega (arith, ints))) (λ apart. let le = two apart in absurd (omega (arith, ints))),
)
Decides-table Ne c Eq d = (
  λ so. absurd (cc),
  λ follows.
      let one : c +ℤ pos 1 ≡ d = follows (c +ℤ pos 1) (λ e. omega (arith, ints)) in
      let two : c +ℤ pos 2 ≡ d = follows (c +ℤ pos 2) (λ e. omega (arith, ints)) in
      absurd (omega (arith, ints)),
)
Decides-table Ne c Ne d = (
  λ so n apart is. let same = (Decides-int_eq c d).0 so in apart (cc),
  λ follows. elim (int_tells c d) [ inl same ↦ same.1 | inr apart ↦ absurd (follows d (λ is. apart (sym is)) refl) ],
)

-- the table against the tests themselves
pub table_is_right : (op : Op) (c : ℤ) (other : Op) (d : ℤ)
    → Decides (table_says op c other d) (TestImplies op c other d)
table_is_right op c other d =
    let right = Decides-table op c other d in (
      λ so n passed. (Decides-passes other d n).1 (right.0 so n ((Decides-passes op c n).0 passed)),
      λ follows. right.1 (λ n passed. (Decides-passes other d n).0 (follows n ((Decides-passes op c n).1 passed))),
    )
