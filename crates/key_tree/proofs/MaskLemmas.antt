-- Masks: one bit, and when each bit of one mask is one of another.
use Rattle.std.proofs.Common.{◌≡◌, ℕ, ◌+◌, ◌*◌, ◌%◌, ◌^◌, ◌<◌, ◌≤◌, ◌∙◌, List, length, get_or, nat_eq, inl, inr, arith}
use Rattle.std.proofs.Common.{ap, sym, subst}
use Rattle.std.specs.Prelude.{IsTrue, ◌↔◌}
use Rattle.std.specs.Int.{bit_at}
use Rattle.std.specs.Int.RustNames.{bit_or}
use Rattle.std.proofs.lemmas.Nat.{one_shl}
use Rattle.std.proofs.lemmas.Nat.Bits.{bit_at_or, same_from_bits}
use Rattle.std.proofs.lemmas.Bool.{cases_lt, eqb-true, eq-eqb}
use Rattle.std.proofs.lemmas.List.{get_or_default}
use Rattle.lin_model.specs.KeyAtom.{PlainKeyAtom}
use Rattle.key_tree.specs.Prints.{kind_bit, needs_of, IsWithin}
use Rattle.key_tree.specs.MaskFacts.{within_left, within_more, within_right}

-- the bit of a kind of comparison, as the code makes it
pub kind_bit_made : (hash kind : ℕ) → 1 * 2 ^ ((hash * 37 + kind * 19) % 64) % 2 ^ 64 ≡ kind_bit hash kind
unfolding kind_bit
kind_bit_made hash kind = one_shl ((hash * 37 + kind * 19) % 64) 64 (omega arith)

-- a part adds nothing to what it is within
pub within_or : (part whole : ℕ) → IsTrue (nat_eq (bit_or whole part) whole) ↔ IsWithin part whole
within_or part whole = (
  λ same i. let e : bit_or whole part ≡ whole = eqb-true (bit_or whole part) whole same in
      subst (λ (mask : ℕ). bit_at part i ≤ bit_at mask i) e (within_right whole part i),
  λ within. eq-eqb (bit_or whole part) whole
      (same_from_bits (bit_or whole part) whole (λ i. omega (arith, bit_at_or whole part i, within i))),
)

-- one atom more: the mask has what each so far needs, and with its own needs what it needs too
pub needs_more : (atoms : List PlainKeyAtom) (place mask own : ℕ) (atom : PlainKeyAtom) → place < length atoms
    → atom ≡ get_or atoms place atom → own ≡ needs_of atom
    → ((k : ℕ) (d : PlainKeyAtom) → k < place → IsWithin (needs_of (get_or atoms k d)) mask)
    → (k : ℕ) (d : PlainKeyAtom) → k < place + 1 → IsWithin (needs_of (get_or atoms k d)) (bit_or mask own)
needs_more atoms place mask own atom lt is own_is each k d below = elim (cases_lt k place) [
  | inl before ↦ within_more (needs_of (get_or atoms k d)) mask (bit_or mask own) (each k d before) (within_left mask own)
  | inr behind ↦
      let here : k ≡ place = omega arith in
      let same : own ≡ needs_of (get_or atoms k d) =
      own_is ∙ ap needs_of (is ∙ (get_or_default atoms place atom d lt ∙ ap (λ (i : ℕ). get_or atoms i d) (sym here))) in
      subst (λ (n : ℕ). IsWithin n (bit_or mask own)) same (within_right mask own)
]
