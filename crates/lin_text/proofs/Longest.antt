-- The longest token at the front of a text is taken.
use Rattle.std.proofs.Common.{zero, suc, ◌≡◌, ◌≢◌, ℕ, ◌+◌, ◌<◌, ◌≤◌, Bool, true, false, cond, List, [], ◌∷◌, length}
use Rattle.std.proofs.Common.{get_or, take, All, IsTrue, refl, sym, ap, subst, ◌∙◌, arith, lit<, inl, inr}
use Rattle.std.specs.Prelude.{◌⊎◌, Contains, ◌&&◌}
use Rattle.std.specs.List.{prefix_len}
use Rattle.std.proofs.lemmas.Bool.{false≢true, eqb-true, and_parts}
use Rattle.std.proofs.lemmas.Bool.Decides.{eqb_tells}
use Rattle.std.proofs.lemmas.List.{get_or-take, length-take}
use Rattle.std.proofs.lemmas.List.Sums.{prefix_len-le-length, prefix_len_passes, prefix_len_stops}
use Rattle.std.proofs.lemmas.List.Elements.{All-cons}
use Rattle.lin_model.specs.Names.{is_name_start, is_name_byte, is_digit}
use Rattle.lin_text.specs.Laws.{TakesTheLongest}
use Rattle.lin_text.specs.Tokens.{IsForm, IsLongest, symbols, token_length, begins_pair, begins_equal, is_symbol}
use Rattle.lin_text.specs.Tokens.{symbol_length}
use Rattle.lin_text.proofs.SymbolForms.{both_true, equal_behind, no_symbol, start-is_name_byte, start-no_digit, symbol_text}

-- bytes that pass, as many as a run has
pub run_passes : (p : ℕ → Bool) (bs : List ℕ) → All (λ c. IsTrue (p c)) (take (prefix_len p bs) bs)
run_passes p bs i d lt =
    let below : i < prefix_len p bs = omega (arith, length-take (prefix_len p bs) bs) in
    subst (λ (c : ℕ). IsTrue (p c)) (sym (get_or-take (prefix_len p bs) bs i d below))
    (prefix_len_passes p bs i d below)

-- no longer front passes
run_ends : (p : ℕ → Bool) (b : ℕ) (bs : List ℕ) (m : ℕ) → suc (prefix_len p bs) < m → m ≤ length (b ∷ bs)
    → ¬ All (λ c. IsTrue (p c)) (take m (b ∷ bs))
run_ends p b bs zero more within all = absurd (omega (arith, more))
run_ends p b bs (suc m) more within all =
    let n : ℕ = prefix_len p bs in
    let here : IsTrue (p (get_or bs n 0)) =
    subst (λ (c : ℕ). IsTrue (p c)) (get_or-take m bs n 0 (omega (arith, more)))
    (all (suc n) 0 (omega (arith, more, within, length-take m bs))) in
    false≢true (sym (prefix_len_stops p bs 0 (omega (arith, more, within))) ∙ here)

-- where a name begins, no number and no symbol does
name_front : (b : ℕ) (bs : List ℕ) (m : ℕ) → is_name_start b ≡ true → 0 < m → IsForm (take m (b ∷ bs))
    → All (λ c. IsTrue (is_name_byte c)) (take m (b ∷ bs))
name_front b bs zero start some form = absurd (omega (arith, some))
name_front b bs (suc m) start some (inl form) = form.goes_on
name_front b bs (suc m) start some (inr (inl form)) =
    absurd (false≢true (sym (start-no_digit b start) ∙ form.digits 0 0 (omega arith)))
name_front b bs (suc m) start some (inr (inr form)) = absurd (no_symbol b (take m bs) (inl start) form)

name_longest : (b : ℕ) (bs : List ℕ) → is_name_start b ≡ true → IsLongest (b ∷ bs) (suc (prefix_len is_name_byte bs))
name_longest b bs start = record {
  within = omega (arith, prefix_len-le-length is_name_byte bs);
  form = inl (record {
    some = omega arith;
    starts = start;
    goes_on = All-cons (λ (c : ℕ). IsTrue (is_name_byte c)) b _ (start-is_name_byte b start)
        (run_passes is_name_byte bs);
  });
  longest = λ m more within form. run_ends is_name_byte b bs m more within
      (name_front b bs m start (omega (arith, more)) form);
}

-- where a number begins, no name and no symbol does
number_front : (b : ℕ) (bs : List ℕ) (m : ℕ) → is_digit b ≡ true → 0 < m → IsForm (take m (b ∷ bs))
    → All (λ c. IsTrue (is_digit c)) (take m (b ∷ bs))
number_front b bs zero digit some form = absurd (omega (arith, some))
number_front b bs (suc m) digit some (inl form) = absurd (false≢true (sym (start-no_digit b form.starts) ∙ digit))
number_front b bs (suc m) digit some (inr (inl form)) = form.digits
number_front b bs (suc m) digit some (inr (inr form)) = absurd (no_symbol b (take m bs) (inr digit) form)

number_longest : (b : ℕ) (bs : List ℕ) → is_digit b ≡ true → IsLongest (b ∷ bs) (suc (prefix_len is_digit bs))
number_longest b bs digit = record {
  within = omega (arith, prefix_len-le-length is_digit bs);
  form = inr (inl (record {
    some = omega arith;
    digits = All-cons (λ (c : ℕ). IsTrue (is_digit c)) b _ digit (run_passes is_digit bs);
  }));
  longest = λ m more within form. run_ends is_digit b bs m more within
      (number_front b bs m digit (omega (arith, more)) form);
}

-- where neither begins, the front is a symbol
pub symbol_front : (b : ℕ) (bs : List ℕ) (m : ℕ) → is_name_start b ≡ false → is_digit b ≡ false
    → IsForm (take m (b ∷ bs))
    → (m ≢ 0) × Contains symbols (take m (b ∷ bs))
symbol_front b bs zero no_name no_digit (inl form) = absurd (omega (arith, form.some))
symbol_front b bs zero no_name no_digit (inr (inl form)) = absurd (omega (arith, form.some))
symbol_front b bs zero no_name no_digit (inr (inr form)) = let s = symbol_text [] form in absurd (cc)
symbol_front b bs (suc m) no_name no_digit (inl form) = absurd (false≢true (sym no_name ∙ form.starts))
symbol_front b bs (suc m) no_name no_digit (inr (inl form)) =
    absurd (false≢true (sym no_digit ∙ form.digits 0 0 (omega arith)))
symbol_front b bs (suc m) no_name no_digit (inr (inr form)) = (λ e. omega (arith, e), form)

one_byte : (b : ℕ) → is_symbol b ≡ true → Contains symbols (b ∷ [])
one_byte b is = elim (eqb_tells b 43) [
  | inl y ↦
      subst (λ (x : ℕ). Contains symbols (x ∷ [])) (sym y.1) (0, lit< tt, refl)
  | inr n0 ↦ elim (eqb_tells b 45) [
    | inl y ↦ subst (λ (x : ℕ). Contains symbols (x ∷ [])) (sym y.1) (1, lit< tt, refl)
    | inr n1 ↦ elim (eqb_tells b 42) [
      | inl y ↦ subst (λ (x : ℕ). Contains symbols (x ∷ [])) (sym y.1) (2, lit< tt, refl)
      | inr n2 ↦ elim (eqb_tells b 60) [
        | inl y ↦ subst (λ (x : ℕ). Contains symbols (x ∷ [])) (sym y.1) (4, lit< tt, refl)
        | inr n3 ↦ elim (eqb_tells b 62) [
          | inl y ↦ subst (λ (x : ℕ). Contains symbols (x ∷ [])) (sym y.1) (6, lit< tt, refl)
          | inr n4 ↦ elim (eqb_tells b 61) [
            | inl y ↦ subst (λ (x : ℕ). Contains symbols (x ∷ [])) (sym y.1) (7, lit< tt, refl)
            | inr n5 ↦ absurd (grind (arith, eqb_tells))
          ]
        ]
      ]
    ]
  ]
]

two_bytes : (b : ℕ) → begins_pair b ≡ true → Contains symbols (b ∷ 61 ∷ [])
two_bytes b is = elim (eqb_tells b 60) [
  | inl y ↦
      subst (λ (x : ℕ). Contains symbols (x ∷ 61 ∷ [])) (sym y.1) (3, lit< tt, refl)
  | inr n0 ↦ elim (eqb_tells b 62) [
    | inl y ↦
        subst (λ (x : ℕ). Contains symbols (x ∷ 61 ∷ [])) (sym y.1) (5, lit< tt, refl)
    | inr n1 ↦ elim (eqb_tells b 61) [
      | inl y ↦
          subst (λ (x : ℕ). Contains symbols (x ∷ 61 ∷ [])) (sym y.1) (8, lit< tt, refl)
      | inr n2 ↦ elim (eqb_tells b 33) [
        | inl y ↦
            subst (λ (x : ℕ). Contains symbols (x ∷ 61 ∷ [])) (sym y.1) (9, lit< tt, refl)
        | inr n3 ↦ absurd (grind (arith, eqb_tells))
      ]
    ]
  ]
]

-- how long a symbol at the front is
symbol_case : (b : ℕ) (bs : List ℕ) (m : ℕ) → is_name_start b ≡ false → is_digit b ≡ false → m ≤ length (b ∷ bs)
    → IsForm (take m (b ∷ bs)) → ((m ≡ 1) × (is_symbol b ≡ true))
    ⊎ ((m ≡ 2) × ((begins_pair b && begins_equal bs) ≡ true))
symbol_case b bs zero no_name no_digit within form =
    let s = symbol_front b bs zero no_name no_digit form in absurd (s.0 refl)
symbol_case b bs (suc m) no_name no_digit within form =
    let s = symbol_text (b ∷ take m bs) (symbol_front b bs (suc m) no_name no_digit form).1 in
    let long : length (take m bs) ≡ m = omega (arith, within, length-take m bs) in
    let first : b ≡ s.first = cc in
    let more : take m bs ≡ s.rest = cc in
    elim s.shape [
      | inl one ↦ inl (
        omega (arith, long, ap length more, ap length one.0),
        subst (λ (x : ℕ). is_symbol x ≡ true) (sym first) one.1,
      )
      | inr two ↦ inr (
        omega (arith, long, ap length more, ap length two.0),
        both_true (subst (λ (x : ℕ). begins_pair x ≡ true) (sym first) two.1) (equal_behind bs m (more ∙ two.0)),
      )
    ]

-- how long the token at the front is
record TakesAt (bytes : List ℕ) (n : ℕ) : Type 0 where
  longest : 0 < n → IsLongest bytes n
  none : n ≡ 0 → (m : ℕ) → m ≤ length bytes → ¬ IsForm (take m bytes)

symbol_at : (b : ℕ) (bs : List ℕ) → is_name_start b ≡ false → is_digit b ≡ false → (p q : Bool)
    → (begins_pair b && begins_equal bs) ≡ p → is_symbol b ≡ q → TakesAt (b ∷ bs) (cond p 2 (cond q 1 0))
symbol_at b [] no_name no_digit true q pair one = absurd (false≢true (and_parts (begins_pair b) false pair).1)
symbol_at b (c ∷ cs) no_name no_digit true q pair one = record {
  longest = λ _. record {
    within = omega arith;
    form = inr (inr (subst (λ (x : ℕ). Contains symbols (b ∷ x ∷ []))
        (sym (eqb-true c 61 (and_parts (begins_pair b) (begins_equal (c ∷ cs)) pair).1))
        (two_bytes b (and_parts (begins_pair b) (begins_equal (c ∷ cs)) pair).0)));
    longest = λ m more within form. elim (symbol_case b (c ∷ cs) m no_name no_digit within form) [
      | inl is ↦
          omega (arith, more, is.0)
      | inr is ↦ omega (arith, more, is.0)
    ];
  };
  none = λ e. absurd (omega (arith, e));
}
symbol_at b bs no_name no_digit false true pair one = record {
  longest = λ _. record {
    within = omega arith;
    form = inr (inr (one_byte b one));
    longest = λ m more within form. elim (symbol_case b bs m no_name no_digit within form) [
      | inl is ↦
          omega (arith, more, is.0)
      | inr is ↦ false≢true (sym pair ∙ is.1)
    ];
  };
  none = λ e. absurd (omega (arith, e));
}
symbol_at b bs no_name no_digit false false pair one = record {
  longest = λ lt. absurd (omega (arith, lt));
  none = λ _ m within form. elim (symbol_case b bs m no_name no_digit within form) [
    | inl is ↦
        false≢true (sym one ∙ is.1)
    | inr is ↦ false≢true (sym pair ∙ is.1)
  ];
}

token_at : (b : ℕ) (bs : List ℕ) (s d : Bool) → is_name_start b ≡ s → is_digit b ≡ d
    → TakesAt (b ∷ bs) (cond s (1 + prefix_len is_name_byte bs)
    (cond d (1 + prefix_len is_digit bs) (symbol_length b bs)))
token_at b bs true d start digit = record {
  longest = λ _. subst (IsLongest (b ∷ bs)) (omega arith) (name_longest b bs start);
  none = λ e. absurd (omega (arith, e));
}
token_at b bs false true start digit = record {
  longest = λ _. subst (IsLongest (b ∷ bs)) (omega arith) (number_longest b bs digit);
  none = λ e. absurd (omega (arith, e));
}
token_at b bs false false start digit =
    symbol_at b bs start digit (begins_pair b && begins_equal bs) (is_symbol b) refl refl

no_form : (m : ℕ) → ¬ IsForm (take m [])
no_form m (inl form) = omega (arith, form.some, length-take {A = ℕ} m [])
no_form m (inr (inl form)) = omega (arith, form.some, length-take {A = ℕ} m [])
no_form m (inr (inr form)) =
    let s = symbol_text (take m []) form in omega (arith, ap length s.is, length-take {A = ℕ} m [])

pub takes_the_longest : (bytes : List ℕ) → TakesTheLongest bytes
unfolding token_length
takes_the_longest [] = record { longest = λ lt. absurd (omega (arith, lt)); none = λ _ m _ form. no_form m form }
takes_the_longest (b ∷ bs) =
    let at = token_at b bs (is_name_start b) (is_digit b) refl refl in
    record { longest = at.longest; none = at.none }
