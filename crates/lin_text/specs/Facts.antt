-- What follows from the definition of lines: for the proofs of the crates above.
use Rattle.std.proofs.Common.{◌≡◌, ℕ, ◌+◌, ◌≤◌, Bool, true, false, cond, not, List, [], ◌∷◌, length, drop, refl, sym}
use Rattle.std.proofs.Common.{ap, ◌∙◌, arith}
use Rattle.std.specs.Prelude.{◌&&◌}
use Rattle.std.proofs.lemmas.List.{at_drop_all}
use Rattle.lin_text.specs.Lines.{is_feed, is_skipped, first_line, line_from}

-- the first line that isn't skipped begins at the place or behind it, and no further than the end
pub first_line-bounds : (begins : Bool) (at : ℕ) (bytes : List ℕ)
    → (at ≤ first_line begins at bytes) × (first_line begins at bytes ≤ at + length bytes)
unfolding first_line
first_line-bounds begins at [] = (omega arith, omega arith)
first_line-bounds begins at (byte ∷ bytes) =
    let more = first_line-bounds (is_feed byte) (at + 1) bytes in
    elim (begins && not (is_skipped (byte ∷ bytes))) as
    (λ c. (at ≤ cond c at (first_line (is_feed byte) (at + 1) bytes))
    × (cond c at (first_line (is_feed byte) (at + 1) bytes) ≤ at + length (byte ∷ bytes))) [
      | true ↦ (omega arith, omega arith)
      | false ↦ (omega (arith, more.0), omega (arith, more.1))
    ]

-- a line that isn't skipped is the first one from its start on
pub first_line-here : (at : ℕ) (bytes : List ℕ) → is_skipped bytes ≡ false → first_line true at bytes ≡ at
unfolding first_line
first_line-here at [] counts = refl
first_line-here at (byte ∷ bytes) counts =
    ap (λ (skipped : Bool). cond (true && not skipped) at (first_line (is_feed byte) (at + 1) bytes)) counts

-- so it is where it stands in a text
pub line_from-here : (bytes rest : List ℕ) (at : ℕ) → rest ≡ drop at bytes → is_skipped rest ≡ false
    → line_from bytes at ≡ at
line_from-here bytes rest at from counts = first_line-here at (drop at bytes) (ap is_skipped (sym from) ∙ counts)

-- from the end of the input on there is no line
pub line_from-end : (bytes : List ℕ) (at : ℕ) → length bytes ≤ at → line_from bytes at ≡ at
unfolding first_line
line_from-end bytes at behind = at_drop_all (first_line true at) bytes at behind
