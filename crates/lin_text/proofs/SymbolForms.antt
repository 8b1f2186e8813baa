-- The texts of symbols: a first byte, and nothing or an `=` behind it.
use Rattle.std.proofs.Common.{zero, suc, ◌≡◌, ℕ, Bool, true, false, List, [], ◌∷◌, length}
use Rattle.std.proofs.Common.{take, refl, sym, ap, subst, arith, inl, inr}
use Rattle.std.specs.Prelude.{◌⊎◌, Contains, ◌&&◌}
use Rattle.std.proofs.lemmas.Bool.Decides.{eqb_tells, leb_tells}
use Rattle.std.proofs.lemmas.List.{length-take}
use Rattle.lin_model.specs.Names.{is_name_start, is_name_byte, is_digit}
use Rattle.lin_text.specs.Tokens.{symbols, begins_pair, begins_equal, is_symbol}

-- what begins a name is no digit
pub start-no_digit : (b : ℕ) → is_name_start b ≡ true → is_digit b ≡ false
start-no_digit b start = grind (arith, leb_tells, eqb_tells)

pub start-is_name_byte : (b : ℕ) → is_name_start b ≡ true → is_name_byte b ≡ true
start-is_name_byte b start = cc

pub both_true : {a b : Bool} → a ≡ true → b ≡ true → (a && b) ≡ true
both_true here behind = cc

pub equal_behind : (bs : List ℕ) (m : ℕ) → take m bs ≡ 61 ∷ [] → begins_equal bs ≡ true
equal_behind [] m e = absurd (omega (arith, ap length e, length-take {A = ℕ} m []))
equal_behind (c ∷ cs) zero e = absurd (omega (arith, ap length e))
equal_behind (c ∷ cs) (suc m) e =
    let same : c ≡ 61 = cc in subst (λ (x : ℕ). begins_equal (x ∷ cs) ≡ true) (sym same) refl

-- a symbol: its first byte, and nothing or an `=` behind it
pub record SymbolText (text : List ℕ) : Type 0 where
  pub first : ℕ
  pub rest : List ℕ
  pub is : text ≡ first ∷ rest
  pub no_name : is_name_start first ≡ false
  pub no_digit : is_digit first ≡ false
  pub shape : ((rest ≡ []) × (is_symbol first ≡ true)) ⊎ ((rest ≡ 61 ∷ []) × (begins_pair first ≡ true))

pub symbol_text : (text : List ℕ) → Contains symbols text → SymbolText text
symbol_text text (zero, lt, e) = record {
  first = 43;
  rest = [];
  is = sym e;
  no_name = refl;
  no_digit = refl;
  shape = inl (refl, refl);
}
symbol_text text (suc zero, lt, e) = record {
  first = 45;
  rest = [];
  is = sym e;
  no_name = refl;
  no_digit = refl;
  shape = inl (refl, refl);
}
symbol_text text (suc (suc zero), lt, e) = record {
  first = 42;
  rest = [];
  is = sym e;
  no_name = refl;
  no_digit = refl;
  shape = inl (refl, refl);
}
symbol_text text (suc (suc (suc zero)), lt, e) = record {
  first = 60;
  rest = 61 ∷ [];
  is = sym e;
  no_name = refl;
  no_digit = refl;
  shape = inr (refl, refl);
}
symbol_text text (suc (suc (suc (suc zero))), lt, e) = record {
  first = 60;
  rest = [];
  is = sym e;
  no_name = refl;
  no_digit = refl;
  shape = inl (refl, refl);
}
symbol_text text (suc (suc (suc (suc (suc zero)))), lt, e) = record {
  first = 62;
  rest = 61 ∷ [];
  is = sym e;
  no_name = refl;
  no_digit = refl;
  shape = inr (refl, refl);
}
symbol_text text (suc (suc (suc (suc (suc (suc zero))))), lt, e) = record {
  first = 62;
  rest = [];
  is = sym e;
  no_name = refl;
  no_digit = refl;
  shape = inl (refl, refl);
}
symbol_text text (suc (suc (suc (suc (suc (suc (suc zero)))))), lt, e) = record {
  first = 61;
  rest = [];
  is = sym e;
  no_name = refl;
  no_digit = refl;
  shape = inl (refl, refl);
}
symbol_text text (suc (suc (suc (suc (suc (suc (suc (suc zero))))))), lt, e) = record {
  first = 61;
  rest = 61 ∷ [];
  is = sym e;
  no_name = refl;
  no_digit = refl;
  shape = inr (refl, refl);
}
symbol_text text (suc (suc (suc (suc (suc (suc (suc (suc (suc zero)))))))), lt, e) = record {
  first = 33;
  rest = 61 ∷ [];
  is = sym e;
  no_name = refl;
  no_digit = refl;
  shape = inr (refl, refl);
}
symbol_text text (suc (suc (suc (suc (suc (suc (suc (suc (suc (suc k))))))))), lt, e) = absurd (omega (arith, lt))

-- what begins a name, or a digit, begins no symbol
pub no_symbol : (b : ℕ) (bs : List ℕ) → (is_name_start b ≡ true) ⊎ (is_digit b ≡ true) → ¬ Contains symbols (b ∷ bs)
no_symbol b bs (inl start) form = let s = symbol_text (b ∷ bs) form in cc
no_symbol b bs (inr digit) form = let s = symbol_text (b ∷ bs) form in cc
