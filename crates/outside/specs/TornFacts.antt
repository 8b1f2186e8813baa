-- Files that are torn and patched: for proofs here and in the crates above.
use Rattle.std.proofs.Common.{◌≡◌, ℕ, ◌+◌, ◌-◌, ◌≤◌, List, ◌++◌, length, take, drop, min, refl, sym, ap, ◌∙◌, arith}
use Rattle.std.proofs.Common.{inl, inr, append_assoc, length-append, length-take, length-drop}
use Rattle.std.proofs.lemmas.Bool.{cases_lt}
use Rattle.std.proofs.lemmas.List.{take_at, take_min, drop_at, drop_all, drop-drop}
use Rattle.outside.specs.Crash.{patched, Torn}

-- a file is torn from itself
pub Torn-refl : (at n : ℕ) (file : List ℕ) → Torn at n file file
Torn-refl at n file = record {
  before = take_min at file;
  after = refl;
  no_shorter = omega arith;
  no_longer = omega arith;
}

-- the three parts of a patched file
pub patched-parts : (file : List ℕ) (at : ℕ) (bytes : List ℕ)
    → patched file at bytes ≡ take at file ++ (bytes ++ drop (at + length bytes) file)
patched-parts file at bytes = append_assoc (take at file) bytes (drop (at + length bytes) file)

pub length-patched : (file : List ℕ) (at : ℕ) (bytes : List ℕ)
    → length (patched file at bytes)
    ≡ (min at (length file) + length bytes) + (length file - (at + length bytes))
length-patched file at bytes = simp (length-append, length-take, length-drop)

-- in front of the patch the file is as it was
pub take-patched : (file : List ℕ) (at : ℕ) (bytes : List ℕ)
    → take (min at (length file)) (patched file at bytes) ≡ take at file
take-patched file at bytes =
    ap (take (min at (length file))) (patched-parts file at bytes)
    ∙ take_at (take at file) (bytes ++ drop (at + length bytes) file) (min at (length file)) (length-take at file)

-- that of a patch within the file
drop-patched_within : (file : List ℕ) (at n : ℕ) (bytes : List ℕ) → length bytes ≤ n → at ≤ length file
    → drop (at + n) (patched file at bytes) ≡ drop (at + n) file
drop-patched_within file at n bytes le within =
    let end : at + n ≡ (at + length bytes) + (n - length bytes) = omega arith in
    let front : length (take at file ++ bytes) ≡ at + length bytes =
    omega (arith, length-append (take at file) bytes, length-take at file) in
    ap (λ (m : ℕ). drop m (patched file at bytes)) end
    ∙ sym (drop-drop (n - length bytes) (at + length bytes) (patched file at bytes))
    ∙ ap (drop (n - length bytes)) (drop_at (take at file ++ bytes) (drop (at + length bytes) file) (at + length bytes) front)
    ∙ drop-drop (n - length bytes) (at + length bytes) file
    ∙ ap (λ (m : ℕ). drop m file) (sym end)

-- behind the patch the file is as it was
pub drop-patched : (file : List ℕ) (at n : ℕ) (bytes : List ℕ) → length bytes ≤ n
    → drop (at + n) (patched file at bytes) ≡ drop (at + n) file
drop-patched file at n bytes le = elim (cases_lt at (length file)) [
  | inl within ↦ drop-patched_within file at n bytes le (omega arith)
  | inr past ↦ drop_all (at + n) (patched file at bytes) (omega (arith, length-patched file at bytes))
      ∙ sym (drop_all (at + n) file (omega arith))
]

-- a patch tears the file within its range
pub Torn-patched : (file : List ℕ) (at n : ℕ) (bytes : List ℕ) → length bytes ≤ n → Torn at n file (patched file at bytes)
Torn-patched file at n bytes le = record {
  before = take-patched file at bytes;
  after = drop-patched file at n bytes le;
  no_shorter = omega (arith, length-patched file at bytes);
  no_longer = omega (arith, length-patched file at bytes);
}
