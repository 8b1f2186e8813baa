-- A loop that reads so many items, one after the other.
use Rattle.std.proofs.Common.{◌≡◌, ℕ, suc, ◌+◌, ◌-◌, ◌<◌, ◌≤◌, List, [], ◌∷◌, ◌++◌, Result, Ok, Err, sym, ap, ◌∙◌, arith}
use Rattle.entry_codec.specs.declared.fault.ReadFault.{ReadFault}
use Rattle.entry_codec.specs.declared.fault.ReadFault.TheVariants.{Bad, NoMemory}
use Rattle.entry_codec.specs.Gives.{Fails}
use Rattle.entry_codec.specs.Reading.{Read, ◌>>=◌, pushed_at, repeat}
use Rattle.entry_codec.proofs.Bytes.{step_on, step_off}

-- ---- faults

-- what is read behind a fault doesn't matter
pub fails_on : {A B : Type 0} (r : Result A ℕ) (f : A → Result B ℕ) (fault : ReadFault) → Fails fault r
    → Fails fault (r >>= f)
fails_on r f NoMemory fails = tt
fails_on r f (Bad left) fails = step_off r f left fails

-- what was read, seen as another value
abbrev pub seen : {A B : Type 0} → (A → B) → A × List ℕ → Read B
seen see x = Ok (see x.0, x.1)

-- a value that is seen as another is at fault where it was before
pub fails_before : {A B : Type 0} (r : Read A) (see : A → B) (fault : ReadFault)
    → Fails fault (r >>= seen see) → Fails fault r
fails_before r see NoMemory fails = tt
fails_before (Ok x) see (Bad left) fails = absurd (cc)
fails_before (Err m) see (Bad left) fails = cc

-- ---- steps

-- one step more
pub goes_on : {S : Type 0} (step : S → List ℕ → Read S) (count i : ℕ) (state next : S) (bytes after : List ℕ)
    (total : Read S) → i < count → step state bytes ≡ Ok (next, after) → repeat step (count - i) state bytes ≡ total
    → repeat step (count - (i + 1)) next after ≡ total
unfolding repeat
goes_on {S} step count i state next bytes after total lt is so_far =
    let more : count - i ≡ suc (count - (i + 1)) = omega arith in
    sym (step_on (step state bytes) (λ x. repeat step (count - (i + 1)) x.0 x.1) (next, after) is)
    ∙ ap (λ (n : ℕ). repeat step n state bytes) (sym more) ∙ so_far

-- a step that failed
pub ends : {S : Type 0} (step : S → List ℕ → Read S) (fault : ReadFault) (count i : ℕ) (state : S) (bytes : List ℕ)
    (total : Read S) → i < count → Fails fault (step state bytes) → repeat step (count - i) state bytes ≡ total
    → Fails fault total
unfolding repeat
ends step NoMemory count i state bytes total lt fails so_far = tt
ends {S} step (Bad left) count i state bytes total lt fails so_far =
    let more : count - i ≡ suc (count - (i + 1)) = omega arith in
    sym so_far ∙ ap (λ (n : ℕ). repeat step n state bytes) more
    ∙ step_off (step state bytes) (λ x. repeat step (count - (i + 1)) x.0 x.1) left fails

-- no step more
pub is_done : {S : Type 0} (step : S → List ℕ → Read S) (count i : ℕ) (state : S) (bytes : List ℕ) (total : Read S)
    → count ≤ i → repeat step (count - i) state bytes ≡ total → total ≡ Ok (state, bytes)
unfolding repeat
is_done {S} step count i state bytes total le so_far =
    let none : count - i ≡ 0 = omega arith in
    sym so_far ∙ ap (λ (n : ℕ). repeat step n state bytes) none

-- ---- items

-- one item more
pub item_goes_on : {A : Type 0} (item : List A → List ℕ → Read A) (count i : ℕ) (before : List A) (x : A)
    (bytes after : List ℕ) (total : Read (List A)) → i < count → item before bytes ≡ Ok (x, after)
    → repeat (pushed_at item) (count - i) before bytes ≡ total
    → repeat (pushed_at item) (count - (i + 1)) (before ++ x ∷ []) after ≡ total
item_goes_on {A} item count i before x bytes after total lt is so_far =
    goes_on (pushed_at item) count i before (before ++ x ∷ []) bytes after total lt
    (step_on (item before bytes) (λ y. Ok (before ++ y.0 ∷ [], y.1)) (x, after) is) so_far

-- an item that failed
pub item_ends : {A : Type 0} (item : List A → List ℕ → Read A) (fault : ReadFault) (count i : ℕ) (before : List A)
    (bytes : List ℕ) (total : Read (List A)) → i < count → Fails fault (item before bytes)
    → repeat (pushed_at item) (count - i) before bytes ≡ total → Fails fault total
item_ends item fault count i before bytes total lt fails so_far =
    ends (pushed_at item) fault count i before bytes total lt
    (fails_on (item before bytes) (λ y. Ok (before ++ y.0 ∷ [], y.1)) fault fails) so_far
