-- The names of the variables of canonical atoms.
use Rattle.std.proofs.Common.{◌≡◌, ℕ, ◌+◌, ◌<◌, min, Bool, true, false, cond, List, [], ◌∷◌, length, get_or, drop, nat_eq}
use Rattle.std.proofs.Common.{refl, sym, ap, ◌∙◌, arith, Some, None, All, IsTrue}
use Rattle.std.specs.List.{prefix_len}
use Rattle.std.proofs.lemmas.Bool.{eqb-true, eq-eqb}
use Rattle.std.proofs.lemmas.List.{append-nil}
use Rattle.std.proofs.lemmas.List.Elements.{All-cons, All-nil}
use Rattle.lin_model.specs.Names.{is_digit}
use Rattle.lin_text.specs.Tokens.{IsNumberForm}
use Rattle.lin_text.specs.Pieces.{number_of}
use Rattle.lin_text.specs.KeyAtomTexts.{IsKeyName}
use Rattle.lin_text.specs.AtomSteps.{is_number, key_var}
use Rattle.lin_text.proofs.ReadBackTokens.{prefix_len-all}

-- by the first byte

pub is_number-first : (xs : List ℕ) → 0 < length xs → is_number xs ≡ nat_eq (prefix_len is_digit xs) (length xs)
is_number-first [] lt = absurd (omega arith)
is_number-first (x ∷ xs) lt = refl

pub is_number-none : (xs : List ℕ) → length xs ≡ 0 → is_number xs ≡ false
is_number-none [] e = refl
is_number-none (x ∷ xs) e = absurd (omega arith)

pub key_var-first : (xs : List ℕ) → 0 < length xs
    → key_var xs ≡ cond (nat_eq (get_or xs 0 0) 118)
    (cond (is_number (drop 1 xs)) (Some (min (number_of (drop 1 xs)) 64)) None) None
key_var-first [] lt = absurd (omega arith)
key_var-first (x ∷ xs) lt = refl

pub key_var-none : (xs : List ℕ) → length xs ≡ 0 → key_var xs ≡ None
key_var-none [] e = refl
key_var-none (x ∷ xs) e = absurd (omega arith)

pub ruleset firsts = (is_number-first, is_number-none, key_var-first, key_var-none)

-- digits

all_digits : (xs : List ℕ) → prefix_len is_digit xs ≡ length xs → All (λ b. IsTrue (is_digit b)) xs
all_digits [] e = All-nil (λ b. IsTrue (is_digit b))
all_digits (x ∷ xs) e =
    elim (is_digit x) as (λ b. is_digit x ≡ b → cond b (1 + prefix_len is_digit xs) 0 ≡ length (x ∷ xs)
    → All (λ c. IsTrue (is_digit c)) (x ∷ xs)) [
      | true ↦ λ d h. All-cons (λ b. IsTrue (is_digit b)) x xs d (all_digits xs (omega (arith, h)))
      | false ↦ λ d h. absurd (omega (arith, h))
    ] refl e

number_form : (xs : List ℕ) → is_number xs ≡ true → IsNumberForm xs
number_form [] e = absurd (cc)
number_form (x ∷ xs) e = record {
  some = omega arith;
  digits = all_digits (x ∷ xs) (eqb-true (prefix_len is_digit (x ∷ xs)) (length (x ∷ xs)) e);
}

form_number : (xs : List ℕ) → IsNumberForm xs → is_number xs ≡ true
form_number [] f = absurd (omega (arith, f.some))
form_number (x ∷ xs) f =
    let whole = prefix_len-all is_digit (x ∷ xs) [] f.digits in
    let same : prefix_len is_digit (x ∷ xs) ≡ length (x ∷ xs) =
    ap (prefix_len is_digit) (sym (append-nil (x ∷ xs))) ∙ whole ∙ omega arith in
    eq-eqb (prefix_len is_digit (x ∷ xs)) (length (x ∷ xs)) same

-- a name that has a number is `v` and digits
pub key_var-is : (x : List ℕ) (v : ℕ) → key_var x ≡ Some v → (var : ℕ) × IsKeyName x var × (v ≡ min var 64)
key_var-is [] v e = absurd (cc)
key_var-is (b ∷ bs) v e =
    elim (nat_eq b 118) as (λ s. nat_eq b 118 ≡ s
    → cond s (cond (is_number bs) (Some (min (number_of bs) 64)) None) None ≡ Some v
    → (var : ℕ) × IsKeyName (b ∷ bs) var × (v ≡ min var 64)) [
      | true ↦ λ s h. elim (is_number bs) as (λ d. is_number bs ≡ d
          → cond d (Some (min (number_of bs) 64)) None ≡ Some v
          → (var : ℕ) × IsKeyName (b ∷ bs) var × (v ≡ min var 64)) [
            | true ↦ λ d k. (
              number_of bs,
              record {
                digits = bs;
                is = ap (λ (c : ℕ). c ∷ bs) (eqb-true b 118 s);
                form = number_form bs d;
                value = refl;
              },
              cc,
            )
            | false ↦ λ d k. absurd (cc)
          ] refl h
      | false ↦ λ s h. absurd (cc)
    ] refl e

-- a `v` and digits has a number
pub key_var-of : (x : List ℕ) (var : ℕ) → IsKeyName x var → key_var x ≡ Some (min var 64)
key_var-of x var n =
    ap key_var n.is
    ∙ ap (λ (b : Bool). cond b (Some (min (number_of n.digits) 64)) None) (form_number n.digits n.form)
    ∙ ap (λ (m : ℕ). Some (min m 64)) (sym n.value)
