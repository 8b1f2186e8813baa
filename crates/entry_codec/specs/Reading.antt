-- Reading bytes from left to right: a value with the bytes behind it, or the first fault.
use Rattle.std.specs.Prelude.{ℕ, zero, suc, Bool, Result, Ok, Err, List, [], ◌∷◌, ◌++◌, length, ◌==◌, if◌then◌else◌}

-- What reading gives. A fault is told by the number of bytes from the first byte of what is at fault to the end.
abbrev pub Read : Type 0 → Type 0
Read A = Result (A × List ℕ) ℕ

-- goes on with what was read, or hands the fault on
infixl 10 ◌>>=◌
abbrev pub ◌>>=◌ : {A B : Type 0} → Result A ℕ → (A → Result B ℕ) → Result B ℕ
(Ok x) >>= f = f x
(Err left) >>= f = Err left

-- the same, seen as another value
abbrev pub mapped_at : {A B : Type 0} → (A → B) → (List ℕ → Read A) → List ℕ → Read B
mapped_at see read bytes = read bytes >>= λ x. Ok (see x.0, x.1)

-- what has to pass a test once all of it is read: where it doesn't, its first byte is at fault
abbrev pub tested_at : {A : Type 0} → (A → Bool) → (List ℕ → Read A) → List ℕ → Read A
tested_at test read bytes = read bytes >>= λ x. if test x.0 then Ok x else Err (length bytes)

-- so many steps, each from the state that the one before left
unfoldable pub repeat : {S : Type 0} → (S → List ℕ → Read S) → ℕ → S → List ℕ → Read S
repeat step zero state bytes = Ok (state, bytes)
repeat step (suc n) state bytes = step state bytes >>= λ x. repeat step n x.0 x.1

-- one more item, which may look at those before it
abbrev pub pushed_at : {A : Type 0} → (List A → List ℕ → Read A) → List A → List ℕ → Read (List A)
pushed_at item before bytes = item before bytes >>= λ x. Ok (before ++ x.0 ∷ [], x.1)

-- so many items
abbrev pub list_at : {A : Type 0} → (List A → List ℕ → Read A) → ℕ → List ℕ → Read (List A)
list_at item n bytes = repeat (pushed_at item) n [] bytes

-- a number, and as many items
abbrev pub counted_at : {A : Type 0} → (List ℕ → Read ℕ) → (List A → List ℕ → Read A) → List ℕ → Read (List A)
counted_at count item bytes = count bytes >>= λ n. list_at item n.0 n.1

-- all of the bytes: where some are left over, the first of them is at fault
abbrev pub whole_at : {A : Type 0} → (List ℕ → Read A) → List ℕ → Result A ℕ
whole_at read bytes = read bytes >>= λ x. if length x.1 == 0 then Ok x.0 else Err (length x.1)
