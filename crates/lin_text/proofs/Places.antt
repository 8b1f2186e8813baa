-- Where one stands in a line behind some of its tokens, and that what can come next is what the grammar lets come.
use Rattle.std.proofs.Common.{◌≡◌, ℕ, ◌+◌, suc, Bool, true, false, List, [], ◌∷◌, ◌++◌, length, Option, Some, None}
use Rattle.std.proofs.Common.{refl, sym, ap, ◌∙◌, append_assoc, arith}
use Rattle.std.specs.Prelude.{flat_map, option_and_then}
use Rattle.lin_text.specs.Pieces.{Piece, var, word, name, number, plus, minus, times, compare, line_end}
use Rattle.lin_text.specs.Grammar.{constant, multiple, single, Item, Joined, Side, Line, declaration, comparison, sign}
use Rattle.lin_text.specs.Grammar.{quantity_pieces, item_pieces, joint, joined_pieces, side_pieces, item_count}
use Rattle.lin_text.specs.Grammar.{line_pieces, BeginsLine}
use Rattle.lin_text.specs.Laws.{WordsStandInNoLine}

-- On the left or the right side: before an item, behind a minus of its own, behind an item and whether it is a number
-- alone, behind a number and `*`. The number counts the items of the side.
pub data Place : Type 0 where
  start : Place
  var_name : Place
  low : Place
  low_number : Place
  high : Place
  high_number : Place
  var_end : Place
  item : Bool → ℕ → Place
  size : Bool → ℕ → Place
  after : Bool → ℕ → Bool → Place
  factor : Bool → ℕ → Place
  done : Place

abbrev pub size_next : Bool → ℕ → Piece → Option Place
size_next l n (number k) = Some (after l (suc n) true)
size_next l n (name x) = Some (after l (suc n) false)
size_next l n _ = None

abbrev pub item_next : Bool → ℕ → Piece → Option Place
item_next l n minus = Some (size l n)
item_next l n (number k) = Some (after l (suc n) true)
item_next l n (name x) = Some (after l (suc n) false)
item_next l n _ = None

abbrev pub after_next : Bool → ℕ → Bool → Piece → Option Place
after_next l n bare plus = Some (item l n)
after_next l n bare minus = Some (item l n)
after_next l n true times = Some (factor l n)
after_next true n bare (compare c) = Some (item false 0)
after_next false n bare line_end = Some done
after_next l n bare _ = None

-- where one stands behind one token more
abbrev pub next : Place → Piece → Option Place
next start var = Some var_name
next start p = item_next true 0 p
next var_name (name x) = Some low
next low minus = Some low_number
next low (number k) = Some high
next low_number (number k) = Some high
next high minus = Some high_number
next high (number k) = Some var_end
next high_number (number k) = Some var_end
next var_end line_end = Some done
next (item l n) p = item_next l n p
next (size l n) p = size_next l n p
next (after l n bare) p = after_next l n bare p
next (factor l n) (name x) = Some (after l n false)
next _ _ = None

abbrev pub run : Place → List Piece → Option Place
run s [] = Some s
run s (p ∷ ps) = option_and_then (λ t. run t ps) (next s p)

-- every line is run through

run-item : (l : Bool) (n : ℕ) (i : Item) (ps : List Piece)
    → (bare : Bool) × (run (item l n) (item_pieces i ++ ps) ≡ run (after l (suc n) bare) ps)
run-item l n i ps =
    elim i.negative as (λ m. (bare : Bool) × (run (item l n) ((sign m ++ quantity_pieces i.quantity) ++ ps)
    ≡ run (after l (suc n) bare) ps)) [
      | true ↦ elim i.quantity as (λ q. (bare : Bool)
          × (run (item l n) ((sign true ++ quantity_pieces q) ++ ps) ≡ run (after l (suc n) bare) ps)) [
            | constant k ↦ (true, refl)
            | multiple k x ↦ (false, refl)
            | single x ↦ (false, refl)
          ]
      | false ↦ elim i.quantity as (λ q. (bare : Bool)
          × (run (item l n) ((sign false ++ quantity_pieces q) ++ ps) ≡ run (after l (suc n) bare) ps)) [
            | constant k ↦ (true, refl)
            | multiple k x ↦ (false, refl)
            | single x ↦ (false, refl)
          ]
    ]

pub run-joint : (l : Bool) (n : ℕ) (bare subtracted : Bool) (ps : List Piece)
    → run (after l n bare) (joint subtracted ∷ ps) ≡ run (item l n) ps
run-joint l n bare true ps = refl
run-joint l n bare false ps = refl

run-later : (l : Bool) (n : ℕ) (bare : Bool) (js : List Joined) (ps : List Piece)
    → (o : Bool) × (run (after l n bare) (flat_map joined_pieces js ++ ps) ≡ run (after l (n + length js) o) ps)
run-later l n bare [] ps = (bare, rw (let same : n + 0 ≡ n = omega arith in same) refl)
run-later l n bare (j ∷ js) ps =
    let first = run-item l n j.item (flat_map joined_pieces js ++ ps) in
    let rest = run-later l (suc n) first.0 js ps in
    let counts : suc n + length js ≡ n + suc (length js) = omega arith in (
      rest.0,
      ap (run (after l n bare)) (append_assoc (joined_pieces j) (flat_map joined_pieces js) ps)
          ∙ run-joint l n bare j.subtracted (item_pieces j.item ++ (flat_map joined_pieces js ++ ps))
          ∙ first.1 ∙ rest.1 ∙ ap (λ (m : ℕ). run (after l m rest.0) ps) counts,
    )

pub run-side : (l : Bool) (s : Side) (ps : List Piece)
    → (o : Bool) × (run (item l 0) (side_pieces s ++ ps) ≡ run (after l (item_count s) o) ps)
unfolding side_pieces
run-side l s ps =
    let first = run-item l 0 s.first (flat_map joined_pieces s.later ++ ps) in
    let rest = run-later l 1 first.0 s.later ps in (
      rest.0,
      ap (run (item l 0)) (append_assoc (item_pieces s.first) (flat_map joined_pieces s.later) ps) ∙ first.1
          ∙ rest.1,
    )

start-item : (i : Item) (ps : List Piece) → run start (item_pieces i ++ ps) ≡ run (item true 0) (item_pieces i ++ ps)
start-item i ps =
    elim i.negative as (λ m. run start ((sign m ++ quantity_pieces i.quantity) ++ ps)
    ≡ run (item true 0) ((sign m ++ quantity_pieces i.quantity) ++ ps)) [
      | true ↦ refl
      | false ↦ elim i.quantity as (λ q. run start ((sign false ++ quantity_pieces q) ++ ps)
          ≡ run (item true 0) ((sign false ++ quantity_pieces q) ++ ps)) [
            | constant k ↦ refl
            | multiple k x ↦ refl
            | single x ↦ refl
          ]
    ]

pub start-side : (s : Side) (ps : List Piece)
    → run start (side_pieces s ++ ps) ≡ run (item true 0) (side_pieces s ++ ps)
unfolding side_pieces
start-side s ps =
    ap (run start) (append_assoc (item_pieces s.first) (flat_map joined_pieces s.later) ps)
    ∙ start-item s.first (flat_map joined_pieces s.later ++ ps)
    ∙ ap (run (item true 0)) (sym (append_assoc (item_pieces s.first) (flat_map joined_pieces s.later) ps))

run-integers : (x : List ℕ) (a b : Bool) (m n : ℕ)
    → run start (var ∷ name x ∷ (sign a ++ number m ∷ []) ++ (sign b ++ number n ∷ []) ++ line_end ∷ []) ≡ Some done
run-integers x true true m n = refl
run-integers x true false m n = refl
run-integers x false true m n = refl
run-integers x false false m n = refl

pub run-line : (line : Line) → run start (line_pieces line) ≡ Some done
run-line (declaration x lo hi) = run-integers x lo.negative hi.negative lo.size hi.size
run-line (comparison left c right) =
    let whole : (side_pieces left ++ compare c ∷ side_pieces right) ++ line_end ∷ [] ≡ side_pieces left
    ++ (compare c ∷ (side_pieces right ++ line_end ∷ [])) =
    append_assoc (side_pieces left) (compare c ∷ side_pieces right) (line_end ∷ []) in
    let l = run-side true left (compare c ∷ (side_pieces right ++ line_end ∷ [])) in
    let r = run-side false right (line_end ∷ []) in
    ap (run start) whole ∙ start-side left _ ∙ l.1 ∙ r.1

-- what is run through whole is run through to each place of it
pub run-front : (s t : Place) (ps qs : List Piece) → run s (ps ++ qs) ≡ Some t
    → (u : Place) × (run s ps ≡ Some u) × (run u qs ≡ Some t)
run-front s t [] qs e = (s, refl, e)
run-front s t (p ∷ ps) qs e =
    elim (next s p) as (λ o. option_and_then (λ u. run u (ps ++ qs)) o ≡ Some t
    → (u : Place) × (option_and_then (λ v. run v ps) o ≡ Some u) × (run u qs ≡ Some t)) [
      | None ↦ λ h. absurd (cc)
      | Some v ↦ λ h. run-front v t ps qs h
    ] e

-- tokens that begin a line are run through
pub run-BeginsLine : (ps : List Piece) → BeginsLine ps → (u : Place) × (run start ps ≡ Some u)
run-BeginsLine ps b =
    let r = run-front start done ps b.more (ap (run start) (sym b.written) ∙ run-line b.line) in
    (r.0, r.1)

pub run-append : (s : Place) (ps qs : List Piece) (u : Place) → run s ps ≡ Some u → run s (ps ++ qs) ≡ run u qs
run-append s [] qs u e = let same : s ≡ u = cc in ap (λ (v : Place). run v qs) same
run-append s (p ∷ ps) qs u e =
    elim (next s p) as (λ o. option_and_then (λ v. run v ps) o ≡ Some u
    → option_and_then (λ v. run v (ps ++ qs)) o ≡ run u qs) [
      | None ↦ λ h. absurd (cc)
      | Some v ↦ λ h. run-append v ps qs u h
    ] e

-- a reserved word but `var` stands in no line

next-word : (s : Place) (w : List ℕ) → next s (word w) ≡ None
next-word start w = refl
next-word var_name w = refl
next-word low w = refl
next-word low_number w = refl
next-word high w = refl
next-word high_number w = refl
next-word var_end w = refl
next-word (item l n) w = refl
next-word (size l n) w = refl
next-word (after true n true) w = refl
next-word (after true n false) w = refl
next-word (after false n true) w = refl
next-word (after false n false) w = refl
next-word (factor l n) w = refl
next-word done w = refl

pub word-begins_no_line : WordsStandInNoLine
word-begins_no_line front w = λ b.
    let r = run-BeginsLine (front ++ word w ∷ []) b in
    let f = run-front start r.0 front (word w ∷ []) r.1 in
    let none : run f.0 (word w ∷ []) ≡ None = ap (λ (o : Option Place). option_and_then (λ t. run t []) o)
    (next-word f.0 w) in
    let no_place : Some r.0 ≡ None = sym f.2 ∙ none in
    cc
