-- What follows for the first fault of lines, one line behind the other: for the proofs of the crates above.
use Rattle.std.proofs.Common.{◌≡◌, ℕ, ◌<◌, ◌≤◌, true, false, nat_lt, Bool, List, [], ◌∷◌, length, drop, refl, subst}
use Rattle.std.proofs.Common.{arith, inl, inr, ◌⊎◌, length-drop}
use Rattle.std.proofs.lemmas.List.Sums.{prefix_len-le-length}
use borrow.Author.Tests.{ltb-true, ltb-false}
use Rattle.lin_text.specs.Lines.{line_from, line_below, line_end, is_in_line}
use Rattle.lin_text.specs.Pieces.{PlainLine, AreTokens, AreLines}
use Rattle.lin_text.specs.LineLaws.{LinesInOrder}
use Rattle.lin_text.specs.Facts.{first_line-bounds}
use Rattle.lin_text.specs.FirstFaults.{Rules, StandsInLine, StandsIn, IsFirst, HasFaultFrom, Leads, EndsLast, IsStrict}

-- at most one fault is the first
pub one_first : {K : Type 0} (rank : K → ℕ) → IsStrict rank → (F : K → ℕ → Type 0) (k j : K) (a b : ℕ)
    → IsFirst rank F k a → IsFirst rank F j b → (k ≡ j) × (a ≡ b)
one_first rank strict F k j a b f g =
    elim (f.least j b g.stands) [
      | inl lt ↦ elim (g.least k a f.stands) [
        | inl gt ↦ absurd (omega (arith, lt, gt))
        | inr same ↦ absurd (omega (arith, lt, same.0))
      ]
      | inr here ↦ elim (g.least k a f.stands) [
        | inl gt ↦ absurd (omega (arith, here.0, gt))
        | inr same ↦ (strict k j (omega (arith, here.1, same.1)), here.0)
      ]
    ]

-- the same faults have the same first one
pub IsFirst-map : {K : Type 0} (rank : K → ℕ) (F G : K → ℕ → Type 0) (kind : K) (at : ℕ)
    → ((k : K) (p : ℕ) → F k p → G k p) → ((k : K) (p : ℕ) → G k p → F k p) → IsFirst rank F kind at
    → IsFirst rank G kind at
IsFirst-map rank F G kind at to from f = record {
  stands = to kind at f.stands;
  least = λ k p g. f.least k p (from k p g);
}

pub Leads-refl : {S K : Type 0} (rules : Rules S K) (in_proof : Bool) (bytes : List ℕ) (s : S) (at : ℕ)
    → Leads rules in_proof bytes s at s at
Leads-refl rules in_proof bytes s at = record { back = λ k p h. h; forth = λ k p h. h }

pub Leads-trans : {S K : Type 0} (rules : Rules S K) (in_proof : Bool) (bytes : List ℕ) (s t u : S) (at to end : ℕ)
    → Leads rules in_proof bytes s at t to → Leads rules in_proof bytes t to u end
    → Leads rules in_proof bytes s at u end
Leads-trans rules in_proof bytes s t u at to end a b = record {
  back = λ k p h. a.back k p (b.back k p h);
  forth = λ k p h. b.forth k p (a.forth k p h);
}

-- a fault of lines lies behind the place from which they are, or it stands at the end
pub stands_behind : {S K : Type 0} (rules : Rules S K) (in_proof : Bool) (bytes : List ℕ)
    → LinesInOrder in_proof bytes → (seen : S) (at : ℕ) (lines : List PlainLine) → at ≤ length bytes
    → AreLines in_proof bytes at lines → (k : K) (p : ℕ) → StandsIn rules bytes seen lines k p
    → ((at ≤ p) × (at < length bytes)) ⊎ ((last : S) × rules.at_end last k × (p ≡ length bytes))
stands_behind rules in_proof bytes in_order seen at [] le are k p s = inr (seen, s.0, s.1)
stands_behind rules in_proof bytes in_order seen at (line ∷ lines) le are k p (inl s) =
    let b = first_line-bounds true at (drop at bytes) in
    let w = in_order.token_within line.start line.tokens s.front s.after s.token are.2 s.in_line in
    inl (omega (arith, s.place, w.0, are.0, b.0), omega (arith, are.0, are.1, b.0))
stands_behind rules in_proof bytes in_order seen at (line ∷ lines) le are k p (inr s) =
    let b = first_line-bounds true at (drop at bytes) in
    elim (stands_behind rules in_proof bytes in_order (rules.below seen line) (line_below bytes line.start) lines
    (omega arith) are.3 k p s) [
      | inl h ↦ inl (omega (arith, h.0, h.1, are.0, are.1, b.0), omega (arith, are.0, are.1, b.0))
      | inr h ↦ inr h
    ]

-- the first fault of the first line is the first of all
pub first_here : {S K : Type 0} (rules : Rules S K) → EndsLast rules → (in_proof : Bool) (bytes : List ℕ)
    → LinesInOrder in_proof bytes → (seen : S) (at : ℕ) (line : PlainLine) (lines : List PlainLine)
    → AreLines in_proof bytes at (line ∷ lines) → (kind : K) (place : ℕ) → StandsInLine rules seen line kind place
    → ((k : K) (p : ℕ) → StandsInLine rules seen line k p
    → (place < p) ⊎ ((place ≡ p) × (rules.rank kind ≤ rules.rank k)))
    → IsFirst rules.rank (StandsIn rules bytes seen (line ∷ lines)) kind place
first_here {S} {K} rules ends_last in_proof bytes in_order seen at line lines are kind place stands in_line = record {
  stands = inl stands;
  least = least;
} where
  within : place ≤ line_end bytes line.start
  within = omega (
    arith,
    stands.place,
    (in_order.token_within line.start line.tokens stands.front stands.after
        stands.token are.2 stands.in_line).1,
  )

  whole : line_end bytes line.start ≤ length bytes
  whole = omega (
    arith,
    are.1,
    prefix_len-le-length is_in_line (drop line.start bytes),
    length-drop line.start bytes,
  )

  at_end : (k : K) (p : ℕ) → rules.rank kind ≤ rules.rank k → p ≡ length bytes
      → (place < p) ⊎ ((place ≡ p) × (rules.rank kind ≤ rules.rank k))
  at_end k p goes_last end =
      elim (nat_lt place p) as (λ b. nat_lt place p ≡ b
      → (place < p) ⊎ ((place ≡ p) × (rules.rank kind ≤ rules.rank k))) [
        | true ↦ λ e. inl (ltb-true place p e)
        | false ↦ λ e. let ge : p ≤ place = ltb-false place p e in
            inr (omega (arith, ge, end, within, whole), goes_last)
      ] refl

  least : (k : K) (p : ℕ) → StandsIn rules bytes seen (line ∷ lines) k p
      → (place < p) ⊎ ((place ≡ p) × (rules.rank kind ≤ rules.rank k))
  least k p (inl s) = in_line k p s
  least k p (inr s) =
      elim (stands_behind rules in_proof bytes in_order (rules.below seen line) (line_below bytes line.start) lines
      (omega arith) are.3 k p s) [
        | inl h ↦ inl (omega (arith, h.0, h.1, within))
        | inr h ↦ at_end k p (ends_last h.0 kind k h.1) h.2
      ]

-- a line without faults
pub clean_line : {S K : Type 0} (rules : Rules S K) (in_proof : Bool) (bytes : List ℕ) → LinesInOrder in_proof bytes
    → (seen : S) (at : ℕ) (line : PlainLine) → line.start ≡ line_from bytes at → line.start < length bytes
    → AreTokens in_proof bytes line.start line.tokens → ((k : K) (p : ℕ) → StandsInLine rules seen line k p → ⊥)
    → Leads rules in_proof bytes seen at (rules.below seen line) (line_below bytes line.start)
clean_line {S} {K} rules in_proof bytes in_order seen at line start lt are clean = record {
  back = back;
  forth = forth;
} where
  in_rest : (lines : List PlainLine) (k : K) (p : ℕ) → StandsIn rules bytes seen (line ∷ lines) k p
      → StandsIn rules bytes (rules.below seen line) lines k p
  in_rest lines k p (inl s) = absurd (clean k p s)
  in_rest lines k p (inr s) = s

  back : (k : K) (p : ℕ)
      → HasFaultFrom rules in_proof bytes (rules.below seen line) (line_below bytes line.start) k p
      → HasFaultFrom rules in_proof bytes seen at k p
  back k p h = record {
    lines = line ∷ h.lines;
    are = (start, lt, are, h.are);
    first = IsFirst-map rules.rank (StandsIn rules bytes (rules.below seen line) h.lines)
        (StandsIn rules bytes seen (line ∷ h.lines)) k p (λ j q s. inr s) (in_rest h.lines) h.first;
  }

  forth : (k : K) (p : ℕ) → HasFaultFrom rules in_proof bytes seen at k p
      → HasFaultFrom rules in_proof bytes (rules.below seen line) (line_below bytes line.start) k p
  forth k p h =
      let more = in_order.has_lines (line_below bytes line.start) (omega arith) in
      let same : h.lines ≡ line ∷ more.0 = in_order.lines_once at h.lines (line ∷ more.0) h.are
      (start, lt, are, more.1) in
      record {
        lines = more.0;
        are = more.1;
        first = IsFirst-map rules.rank (StandsIn rules bytes seen (line ∷ more.0))
            (StandsIn rules bytes (rules.below seen line) more.0) k p (in_rest more.0) (λ j q s. inr s) (subst
            (λ (ls : List PlainLine). IsFirst rules.rank (StandsIn rules bytes seen ls) k p) same h.first);
      }
