-- The line that is found is the least start of a line that isn't skipped.
use Rattle.std.proofs.Common.{◌≡◌, ℕ, ◌+◌, ◌-◌, ◌<◌, ◌≤◌, zero, suc, Bool, true, false, cond, not, nat_lt, List, []}
use Rattle.std.proofs.Common.{◌∷◌}
use Rattle.std.proofs.Common.{◌++◌, length, take, drop, get_or, refl, sym, ap, subst, ◌∙◌, arith, inl, inr}
use Rattle.std.proofs.Common.{◌⊎◌, length-drop}
use Rattle.std.specs.Prelude.{◌&&◌, ◌||◌, ◌==◌}
use Rattle.std.specs.List.{prefix_len}
use Rattle.std.proofs.Math.Seq.{drop-append_seam}
use borrow.Author.Tests.{ltb-true, ltb-false}
use Rattle.std.proofs.lemmas.Bool.{false≢true, and_parts}
use Rattle.std.proofs.lemmas.Bool.Decides.{eqb_tells}
use Rattle.std.proofs.lemmas.List.{take-append-drop, drop-drop, get_or-drop}
use Rattle.lin_text.specs.Lines.{is_feed, is_blank, ends_or_comments, is_skipped, first_line, line_from, StartsLine}
use Rattle.lin_text.specs.Facts.{first_line-bounds}
use Rattle.lin_text.specs.FoundLaws.{IsOver, IsSkippedLine, IsNextLine, LinesAreNext}
use Rattle.lin_text.proofs.ReadBackTokens.{prefix_len-all}
use Rattle.lin_text.proofs.Longest.{run_passes}

-- what stands behind the blanks of a skipped line

ends_how : (rest : List ℕ) → ends_or_comments rest ≡ true → IsOver rest ⊎ ((comment : List ℕ) × (rest ≡ 35 ∷ comment))
ends_how [] e = inl (inl refl)
ends_how (b ∷ bs) e =
    elim (eqb_tells b 10) [
      | inl feed ↦ inl (inr (bs, ap (λ (x : ℕ). x ∷ bs) feed.1))
      | inr no_feed ↦ elim (eqb_tells b 35) [
        | inl hash ↦ inr (bs, ap (λ (x : ℕ). x ∷ bs) hash.1)
        | inr no_hash ↦ absurd (false≢true (sym (ap (λ (x : Bool). x || b == 35) no_feed.0 ∙ no_hash.0) ∙ e))
      ]
    ]

how_ends : (rest : List ℕ) → IsOver rest ⊎ ((comment : List ℕ) × (rest ≡ 35 ∷ comment))
    → (ends_or_comments rest ≡ true) × (prefix_len is_blank rest ≡ 0)
how_ends rest (inl (inl e)) =
    subst (λ (xs : List ℕ). (ends_or_comments xs ≡ true) × (prefix_len is_blank xs ≡ 0)) (sym e) (refl, refl)
how_ends rest (inl (inr (below, e))) =
    subst (λ (xs : List ℕ). (ends_or_comments xs ≡ true) × (prefix_len is_blank xs ≡ 0)) (sym e) (refl, refl)
how_ends rest (inr (comment, e)) =
    subst (λ (xs : List ℕ). (ends_or_comments xs ≡ true) × (prefix_len is_blank xs ≡ 0)) (sym e) (refl, refl)

-- a line is skipped exactly where it has the form of one

form_of_skipped : (text : List ℕ) → is_skipped text ≡ true → IsSkippedLine text
unfolding is_skipped
form_of_skipped text e = record {
  blanks = take (prefix_len is_blank text) text;
  rest = drop (prefix_len is_blank text) text;
  is = sym (take-append-drop (prefix_len is_blank text) text);
  blank = run_passes is_blank text;
  skips = ends_how (drop (prefix_len is_blank text) text) e;
}

skipped_of_form : (text : List ℕ) → IsSkippedLine text → is_skipped text ≡ true
unfolding is_skipped
skipped_of_form text s =
    let ends = how_ends s.rest s.skips in
    let run : prefix_len is_blank (s.blanks ++ s.rest) ≡ length s.blanks = omega (
      arith,
      prefix_len-all is_blank s.blanks s.rest s.blank,
      ends.1,
    ) in
    ap (λ (xs : List ℕ). ends_or_comments (drop (prefix_len is_blank xs) xs)) s.is
    ∙ ap (λ (n : ℕ). ends_or_comments (drop n (s.blanks ++ s.rest))) run
    ∙ ap ends_or_comments (drop-append_seam s.blanks s.rest) ∙ ends.0

-- a line begins k bytes further on, where `begins` says whether one begins here
abbrev Begins : Bool → List ℕ → ℕ → Type 0
Begins begins bytes zero = begins ≡ true
Begins begins bytes (suc k) = get_or bytes k 0 ≡ 10

begins_behind : (b : ℕ) (bs : List ℕ) (k : ℕ) → get_or (b ∷ bs) k 0 ≡ 10 → Begins (is_feed b) bs k
begins_behind b bs zero e = ap is_feed e
begins_behind b bs (suc k) e = e

skipped_where : (begins skipped : Bool) → (begins && not skipped) ≡ false → begins ≡ true → skipped ≡ true
skipped_where begins true e starts = refl
skipped_where begins false e starts = absurd (false≢true (sym e ∙ ap (λ (x : Bool). x && true) starts))

-- each line before the one that is found is skipped
least : (begins : Bool) (at : ℕ) (bytes : List ℕ) (k : ℕ) → at + k < first_line begins at bytes
    → Begins begins bytes k → is_skipped (drop k bytes) ≡ true
unfolding first_line
least begins at [] k lt here = absurd (omega (arith, lt))
least begins at (b ∷ bs) zero lt here =
    elim (begins && not (is_skipped (b ∷ bs))) as
    (λ c. (begins && not (is_skipped (b ∷ bs))) ≡ c → at + 0 < cond c at (first_line (is_feed b) (at + 1) bs)
    → is_skipped (b ∷ bs) ≡ true) [
      | true ↦ λ e less. absurd (omega (arith, less))
      | false ↦ λ e less. skipped_where begins (is_skipped (b ∷ bs)) e here
    ] refl lt
least begins at (b ∷ bs) (suc j) lt here =
    elim (begins && not (is_skipped (b ∷ bs))) as
    (λ c. at + suc j < cond c at (first_line (is_feed b) (at + 1) bs) → is_skipped (drop j bs) ≡ true) [
      | true ↦ λ less. absurd (omega (arith, less))
      | false ↦ λ less. least (is_feed b) (at + 1) bs j (omega (arith, less)) (begins_behind b bs j here)
    ] lt

feed_of : (b : ℕ) → is_feed b ≡ true → b ≡ 10
feed_of b e = elim (eqb_tells b 10) [ inl y ↦ y.1 | inr n ↦ absurd (false≢true (sym n.0 ∙ e)) ]

begins_before : (begins : Bool) (b : ℕ) (bs : List ℕ) (k : ℕ) → Begins (is_feed b) bs k
    → Begins begins (b ∷ bs) (suc k)
begins_before begins b bs zero e = feed_of b e
begins_before begins b bs (suc k) e = e

-- the line that is found begins there and isn't skipped
record Found (begins : Bool) (at : ℕ) (bytes : List ℕ) (next : ℕ) : Type 0 where
  k : ℕ
  place : next ≡ at + k
  counts : is_skipped (drop k bytes) ≡ false
  starts : Begins begins bytes k

found_here : (begins : Bool) (at : ℕ) (bytes : List ℕ) → (begins && not (is_skipped bytes)) ≡ true
    → Found begins at bytes at
found_here begins at bytes e =
    let both = and_parts begins (not (is_skipped bytes)) e in
    record { k = 0; place = omega arith; counts = not_true (is_skipped bytes) both.1; starts = both.0 }
  where
    not_true : (b : Bool) → not b ≡ true → b ≡ false
    not_true true f = absurd (false≢true f)
    not_true false f = refl

found : (begins : Bool) (at : ℕ) (bytes : List ℕ) → first_line begins at bytes < at + length bytes
    → Found begins at bytes (first_line begins at bytes)
unfolding first_line
found begins at [] lt = absurd (omega (arith, lt))
found begins at (b ∷ bs) lt =
    elim (begins && not (is_skipped (b ∷ bs))) as
    (λ c. (begins && not (is_skipped (b ∷ bs))) ≡ c
    → cond c at (first_line (is_feed b) (at + 1) bs) < at + length (b ∷ bs)
    → Found begins at (b ∷ bs) (cond c at (first_line (is_feed b) (at + 1) bs))) [
      | true ↦ λ e less. found_here begins at (b ∷ bs) e
      | false ↦ λ e less.
          let more = found (is_feed b) (at + 1) bs (omega (arith, less)) in
          record {
            k = suc more.k;
            place = omega (arith, more.place);
            counts = more.counts;
            starts = begins_before begins b bs more.k more.starts;
          }
    ] refl lt

-- the place of a line, seen from one before it
begins_at : (bytes : List ℕ) (at k : ℕ) → StartsLine bytes (at + k) → at + k < length bytes
    → Begins true (drop at bytes) k
begins_at bytes at zero starts lt = refl
begins_at bytes at (suc k) starts lt =
    elim starts.begins [
      | inl none ↦ absurd (omega (arith, none))
      | inr other ↦ elim other [
        | inl end ↦ absurd (omega (arith, end, lt))
        | inr feed ↦
            get_or-drop at bytes k 0
            ∙ ap (λ (m : ℕ). get_or bytes m 0) (let same : at + k ≡ at + suc k - 1 = omega arith in same) ∙ feed
      ]
    ]

starts_at : (bytes : List ℕ) (at k : ℕ) → StartsLine bytes at → at + k ≤ length bytes → Begins true (drop at bytes) k
    → StartsLine bytes (at + k)
starts_at bytes at zero starts le e =
    subst (λ (n : ℕ). StartsLine bytes n) (let same : at ≡ at + 0 = omega arith in same) starts
starts_at bytes at (suc k) starts le e = record {
  within = le;
  begins = inr (inr (ap (λ (m : ℕ). get_or bytes m 0) (let same : at + suc k - 1 ≡ at + k = omega arith in same)
      ∙ sym (get_or-drop at bytes k 0) ∙ e));
}

module _ (bytes : List ℕ) (at : ℕ) (starts : StartsLine bytes at) where
  abbrev next : ℕ
  next = line_from bytes at

  bounds : (at ≤ next) × (next ≤ at + length (drop at bytes))
  bounds = first_line-bounds true at (drop at bytes)

  within : next ≤ length bytes
  within = omega (arith, bounds.1, length-drop at bytes, starts.within)

  found_at : next < length bytes → Found true at (drop at bytes) next
  found_at lt = found true at (drop at bytes) (omega (arith, lt, length-drop at bytes, starts.within))

  next_starts : StartsLine bytes next
  next_starts =
      elim (nat_lt next (length bytes)) as (λ b. nat_lt next (length bytes) ≡ b → StartsLine bytes next) [
        | true ↦ λ e.
            let f = found_at (ltb-true next (length bytes) e) in
            subst (λ (n : ℕ). StartsLine bytes n) (sym f.place)
            (starts_at bytes at f.k starts (omega (arith, f.place, within)) f.starts)
        | false ↦ λ e. let ge : length bytes ≤ next = ltb-false next (length bytes) e in
            record { within = within; begins = inr (inl (omega (arith, ge, within))) }
      ] refl

  counts : next < length bytes → ¬ IsSkippedLine (drop next bytes)
  counts lt s =
      let f = found_at lt in
      let there : drop next bytes ≡ drop f.k (drop at bytes) =
      ap (λ (m : ℕ). drop m bytes) f.place ∙ sym (drop-drop f.k at bytes) in
      false≢true (sym f.counts ∙ ap is_skipped (sym there) ∙ skipped_of_form (drop next bytes) s)

  least_of : (m : ℕ) → at ≤ m → m < next → StartsLine bytes m → IsSkippedLine (drop m bytes)
  least_of m le lt line =
      let k : ℕ = m - at in
      let place : m ≡ at + k = omega (arith, le) in
      let skipped = least true at (drop at bytes) k (omega (arith, lt, place))
      (begins_at bytes at k (subst (λ (n : ℕ). StartsLine bytes n) place line) (omega (arith, lt, place, within))) in
      form_of_skipped (drop m bytes) (ap (λ (n : ℕ). is_skipped (drop n bytes)) place
      ∙ ap is_skipped (sym (drop-drop k at bytes)) ∙ skipped)

  is_next : IsNextLine bytes at next
  is_next = record { ahead = bounds.0; starts = next_starts; counts = counts; least = least_of }

pub lines_are_next : LinesAreNext
lines_are_next bytes at starts = is_next bytes at starts
