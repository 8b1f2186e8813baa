-- Reading a source piece by piece.
use Rattle.std.proofs.Common.{◌≡◌, ℕ, List, [], ◌∷◌, ◌++◌, take, drop, Option, Some, None, refl, sym, ap, ◌∙◌}
use Rattle.std.proofs.Common.{append_assoc, subst, ◌+◌, ◌≤◌, length, length-append, append-nil, arith}
use Rattle.std.proofs.lemmas.List.{take-append-drop}
use Rattle.outside.specs.Bytes.{Gives, IsAtEnd}
use Rattle.outside.specs.Counts.{Rose}
use Rattle.outside.specs.States.{SourceState}
use Rattle.green_cli.specs.Call.{change}
use Rattle.green_cli.specs.Input.{Consumes, Drains, PieceFails, TakesAtMost, input_cause, max_input}
use Rattle.green_cli.specs.declared.fault.Fault.{Fault}
use Rattle.green_cli.specs.declared.fault.Fault.TheVariants.{Read, NoMemory}

-- nothing was taken yet
pub Consumes-none : (left : Option (List ℕ)) → Consumes left left []
Consumes-none None = refl
Consumes-none (Some all) = (all, refl, refl)

-- what one read gives is taken
pub Consumes-Gives : (old new : Option (List ℕ)) (buf : List ℕ) (n : ℕ) → Gives old new buf n
    → Consumes old new (take n buf)
Consumes-Gives None new buf n gives = gives
Consumes-Gives (Some all) new buf n gives =
    (drop n all, sym (take-append-drop n all) ∙ ap (λ (xs : List ℕ). xs ++ drop n all) (sym gives.1), gives.2)

-- one piece after another
pub Consumes-append : (old mid new : Option (List ℕ)) (xs ys : List ℕ) → Consumes old mid xs → Consumes mid new ys
    → Consumes old new (xs ++ ys)
Consumes-append None None new xs ys first second = second
Consumes-append None (Some more) new xs ys first second = absurd (cc)
Consumes-append (Some all) None new xs ys first second = let no = first.2 in absurd (cc)
Consumes-append (Some all) (Some more) new xs ys first second =
    let same : more ≡ first.0 = (let e = first.2 in cc) in (
      second.0,
      first.1 ∙ (ap (λ (rest : List ℕ). xs ++ rest) (sym same ∙ second.1) ∙ sym (append_assoc xs ys second.0)),
      second.2,
    )

-- the bytes grew by one piece that was taken
pub Consumes_more : (old mid new : Option (List ℕ)) (xs ys : List ℕ) → Consumes old mid xs
    → (piece : List ℕ) × Consumes mid new piece × (ys ≡ xs ++ piece) → Consumes old new ys
Consumes_more old mid new xs ys first more =
    subst (λ (bytes : List ℕ). Consumes old new bytes) (sym more.2) (Consumes-append old mid new xs more.0 first more.1)

-- what was taken first, and not too much behind it
pub takes_more : (old mid new : SourceState) (xs : List ℕ) (n most : ℕ) → Consumes old.left mid.left xs
    → TakesAtMost n (change mid new) → length xs + n ≤ most → TakesAtMost most (change old new)
takes_more old mid new xs n most first more le = record {
  bytes = xs ++ more.bytes;
  taken = Consumes-append old.left mid.left new.left xs more.bytes first more.taken;
  few = omega (arith, le, more.few, length-append xs more.bytes);
}

-- where nothing was left, nothing is left
at_end_stays : (old new : Option (List ℕ)) (piece : List ℕ) → IsAtEnd old → Consumes old new piece → IsAtEnd new
at_end_stays None new piece end taken = subst IsAtEnd (sym taken) tt
at_end_stays (Some all) new piece end taken =
    let none : length taken.0 ≡ 0 =
    omega (arith, ap length end, ap length taken.1, length-append piece taken.0) in
    subst IsAtEnd (sym taken.2) (length_zero taken.0 none)
  where
    length_zero : (xs : List ℕ) → length xs ≡ 0 → xs ≡ []
    length_zero [] e = refl
    length_zero (x ∷ xs) e = absurd (omega (arith, e))

-- what was taken is all where nothing is left
all_taken : (old new : Option (List ℕ)) (bytes : List ℕ) → Consumes old new bytes → IsAtEnd new → Drains old new bytes
all_taken None new bytes taken end = taken
all_taken (Some all) new bytes taken end =
    let none : taken.0 ≡ [] = subst IsAtEnd taken.2 end in (
      taken.1 ∙ (ap (λ (rest : List ℕ). bytes ++ rest) none ∙ append-nil bytes),
      taken.2 ∙ ap (λ (rest : List ℕ). Some rest) none,
    )

-- a read that gave nothing, where there was room, ends the input
pub drained : (old mid new : Option (List ℕ)) (xs ys : List ℕ) → Consumes old mid xs
    → (piece : List ℕ) × Consumes mid new piece × (ys ≡ xs ++ piece) → IsAtEnd mid → Drains old new ys
drained old mid new xs ys first more end =
    all_taken old new ys (Consumes_more old mid new xs ys first more) (at_end_stays mid new more.0 end more.1)

-- a piece that can't be had ends the input
pub piece_failed : (old mid new : SourceState) (xs : List ℕ) (fault : Fault) → Consumes old.left mid.left xs
    → length xs ≤ max_input → mid.faults ≡ old.faults → PieceFails (change mid new) fault
    → input_cause (change old new) fault
piece_failed old mid new xs Read taken short same fails = record {
  rose = subst (λ (before : ℕ). Rose before new.faults) same fails.0;
  short = record {
    bytes = xs;
    taken = subst (λ (left : Option (List ℕ)). Consumes old.left left xs) (sym fails.1) taken;
    few = short;
  };
}
piece_failed old mid new xs NoMemory taken short same fails = tt
piece_failed old mid new xs _ taken short same fails = absurd fails
