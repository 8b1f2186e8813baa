-- The tokens of a line are those of one line alone.
use Rattle.std.proofs.Common.{◌≡◌, ℕ, Bool, true, false, List, [], ◌∷◌, ◌++◌, sym, refl, ap, ◌∙◌, append_assoc}
use Rattle.std.specs.Prelude.{flat_map}
use Rattle.lin_text.specs.declared.class.Sign.{Sign}
use Rattle.lin_text.specs.Pieces.{Piece, var, word, name, number, plus, minus, times, compare, bad, line_end}
use Rattle.lin_text.specs.Grammar.{Integer, Quantity, constant, multiple, single, Item, Joined, Side, declaration}
use Rattle.lin_text.specs.Grammar.{comparison, sign, integer_pieces, quantity_pieces, item_pieces, joint, joined_pieces}
use Rattle.lin_text.specs.Grammar.{side_pieces, line_pieces}
use Rattle.lin_text.specs.Faults.{begins_times, begins_variable}

abbrev signed : Bool → ℕ → Integer
signed negative size = record { negative = negative; size = size }

abbrev item_of : Bool → Quantity → Item
item_of negative quantity = record { negative = negative; quantity = quantity }

-- an integer, and what comes behind it
pub integer-once : (i j : Integer) (more less : List Piece) → integer_pieces i ++ more ≡ integer_pieces j ++ less
    → (i ≡ j) × (more ≡ less)
integer-once i j more less e = by_sign i.negative j.negative e
  where
    by_sign : (a b : Bool) → (sign a ++ number i.size ∷ []) ++ more ≡ (sign b ++ number j.size ∷ []) ++ less
        → (signed a i.size ≡ signed b j.size) × (more ≡ less)
    by_sign true true e = (let n : i.size ≡ j.size = cc in ap (λ (n : ℕ). record { negative = true; size = n }) n, cc)
    by_sign true false e = absurd (cc)
    by_sign false true e = absurd (cc)
    by_sign false false e =
        (let n : i.size ≡ j.size = cc in ap (λ (n : ℕ). record { negative = false; size = n }) n, cc)

-- a quantity, where no `*` follows it
quantity-once : (a b : Quantity) (more less : List Piece) → begins_times more ≡ false → begins_times less ≡ false
    → quantity_pieces a ++ more ≡ quantity_pieces b ++ less → (a ≡ b) × (more ≡ less)
quantity-once (constant n) (constant m) more less p q e = (ap constant (let s : n ≡ m = cc in s), cc)
quantity-once (constant n) (multiple m y) more less p q e =
    absurd (let s : more ≡ times ∷ name y ∷ less = cc in let t : true ≡ false = sym (ap begins_times s) ∙ p in cc)
quantity-once (constant n) (single y) more less p q e = absurd (cc)
quantity-once (multiple n x) (constant m) more less p q e =
    absurd (let s : less ≡ times ∷ name x ∷ more = cc in let t : true ≡ false = sym (ap begins_times s) ∙ q in cc)
quantity-once (multiple n x) (multiple m y) more less p q e = (
  let s : n ≡ m = cc in let t : x ≡ y = cc in
      ap (λ (k : ℕ). multiple k x) s ∙ ap (λ (z : List ℕ). multiple m z) t,
  cc,
)
quantity-once (multiple n x) (single y) more less p q e = absurd (cc)
quantity-once (single x) (constant m) more less p q e = absurd (cc)
quantity-once (single x) (multiple m y) more less p q e = absurd (cc)
quantity-once (single x) (single y) more less p q e = (ap single (let s : x ≡ y = cc in s), cc)

-- a quantity begins with a number or a name
no_minus : (a : Quantity) (more ps : List Piece) → quantity_pieces a ++ more ≡ minus ∷ ps → ⊥
no_minus (constant n) more ps e = absurd (cc)
no_minus (multiple n x) more ps e = absurd (cc)
no_minus (single x) more ps e = absurd (cc)

-- an item
pub item-once : (i j : Item) (more less : List Piece) → begins_times more ≡ false → begins_times less ≡ false
    → item_pieces i ++ more ≡ item_pieces j ++ less → (i ≡ j) × (more ≡ less)
item-once i j more less p q e = by_sign i.negative j.negative e
  where
    by_sign : (a b : Bool) → (sign a ++ quantity_pieces i.quantity) ++ more ≡ (sign b ++ quantity_pieces j.quantity)
        ++ less → (item_of a i.quantity ≡ item_of b j.quantity) × (more ≡ less)
    by_sign true true e =
        let behind : quantity_pieces i.quantity ++ more ≡ quantity_pieces j.quantity ++ less = cc in
        let same = quantity-once i.quantity j.quantity more less p q behind in
        (ap (λ (a : Quantity). record { negative = true; quantity = a }) same.0, same.1)
    by_sign true false e = absurd (no_minus j.quantity less (quantity_pieces i.quantity ++ more) (sym e))
    by_sign false true e = absurd (no_minus i.quantity more (quantity_pieces j.quantity ++ less) e)
    by_sign false false e =
        let same = quantity-once i.quantity j.quantity more less p q e in
        (ap (λ (a : Quantity). record { negative = false; quantity = a }) same.0, same.1)

-- a comparison, or the end of the line: what comes behind a side
unfoldable pub ends_side : List Piece → Bool
ends_side (compare c ∷ ps) = true
ends_side (line_end ∷ ps) = true
ends_side _ = false

pub no_times : (b : Bool) (ps more : List Piece) → begins_times ((joint b ∷ ps) ++ more) ≡ false
no_times true ps more = refl
no_times false ps more = refl

end_no_times : (ps : List Piece) → ends_side ps ≡ true → begins_times ps ≡ false
unfolding ends_side
end_no_times [] e = refl
end_no_times (times ∷ ps) e = absurd (cc)
end_no_times (var ∷ ps) e = refl
end_no_times (word w ∷ ps) e = refl
end_no_times (name w ∷ ps) e = refl
end_no_times (number w ∷ ps) e = refl
end_no_times (plus ∷ ps) e = refl
end_no_times (minus ∷ ps) e = refl
end_no_times (compare w ∷ ps) e = refl
end_no_times (bad ∷ ps) e = refl
end_no_times (line_end ∷ ps) e = refl

pub later_no_times : (js : List Joined) (more : List Piece) → ends_side more ≡ true
    → begins_times (flat_map joined_pieces js ++ more) ≡ false
later_no_times [] more e = end_no_times more e
later_no_times (j ∷ js) more e = ap begins_times (append_assoc (joined_pieces j) (flat_map joined_pieces js) more)
    ∙ no_times j.subtracted (item_pieces j.item) (flat_map joined_pieces js ++ more)

joint_no_end : (b : Bool) (ps : List Piece) → ends_side (joint b ∷ ps) ≡ false
unfolding ends_side
joint_no_end true ps = refl
joint_no_end false ps = refl

pub no_joint : (b : Bool) (more ps : List Piece) → ends_side more ≡ true → more ≡ joint b ∷ ps → ⊥
no_joint b more ps ends e = let t : true ≡ false = sym ends ∙ (ap ends_side e ∙ joint_no_end b ps) in absurd (cc)

joint-once : (a b : Bool) (ps qs : List Piece) → joint a ∷ ps ≡ joint b ∷ qs → (a ≡ b) × (ps ≡ qs)
joint-once true true ps qs e = (refl, cc)
joint-once true false ps qs e = absurd (cc)
joint-once false true ps qs e = absurd (cc)
joint-once false false ps qs e = (refl, cc)

pub joined-once : (i j : Joined) (more less : List Piece) → begins_times more ≡ false → begins_times less ≡ false
    → joined_pieces i ++ more ≡ joined_pieces j ++ less → (i ≡ j) × (more ≡ less)
joined-once i j more less p q e =
    let signs = joint-once i.subtracted j.subtracted (item_pieces i.item ++ more) (item_pieces j.item ++ less) e in
    let same = item-once i.item j.item more less p q signs.1 in (
      ap (λ (a : Bool). record { subtracted = a; item = i.item }) signs.0
          ∙ ap (λ (k : Item). record { subtracted = j.subtracted; item = k }) same.0,
      same.1,
    )

later-once : (is js : List Joined) (more less : List Piece) → ends_side more ≡ true → ends_side less ≡ true
    → flat_map joined_pieces is ++ more ≡ flat_map joined_pieces js ++ less → (is ≡ js) × (more ≡ less)
later-once [] [] more less p q e = (refl, e)
later-once [] (j ∷ js) more less p q e = absurd
    (no_joint j.subtracted more (item_pieces j.item ++ (flat_map joined_pieces js ++ less)) p (e
    ∙ append_assoc (joined_pieces j) (flat_map joined_pieces js) less))
later-once (i ∷ is) [] more less p q e = absurd
    (no_joint i.subtracted less (item_pieces i.item ++ (flat_map joined_pieces is ++ more)) q (sym e
    ∙ append_assoc (joined_pieces i) (flat_map joined_pieces is) more))
later-once (i ∷ is) (j ∷ js) more less p q e =
    let flat : joined_pieces i ++ (flat_map joined_pieces is ++ more) ≡ joined_pieces j
    ++ (flat_map joined_pieces js ++ less) = sym (append_assoc (joined_pieces i) (flat_map joined_pieces is) more)
    ∙ (e ∙ append_assoc (joined_pieces j) (flat_map joined_pieces js) less) in
    let first = joined-once i j (flat_map joined_pieces is ++ more) (flat_map joined_pieces js ++ less)
    (later_no_times is more p) (later_no_times js less q) flat in
    let rest = later-once is js more less p q first.1 in
    (ap (λ (k : Joined). k ∷ is) first.0 ∙ ap (λ (ks : List Joined). j ∷ ks) rest.0, rest.1)

-- a side, before a comparison or the end of the line
pub side-once : (s t : Side) (more less : List Piece) → ends_side more ≡ true → ends_side less ≡ true
    → side_pieces s ++ more ≡ side_pieces t ++ less → (s ≡ t) × (more ≡ less)
unfolding side_pieces
side-once s t more less p q e =
    let flat : item_pieces s.first ++ (flat_map joined_pieces s.later ++ more) ≡ item_pieces t.first
    ++ (flat_map joined_pieces t.later ++ less) =
    sym (append_assoc (item_pieces s.first) (flat_map joined_pieces s.later) more)
    ∙ (e ∙ append_assoc (item_pieces t.first) (flat_map joined_pieces t.later) less) in
    let first = item-once s.first t.first (flat_map joined_pieces s.later ++ more)
    (flat_map joined_pieces t.later ++ less) (later_no_times s.later more p) (later_no_times t.later less q) flat in
    let rest = later-once s.later t.later more less p q first.1 in (
      ap (λ (k : Item). record { first = k; later = s.later }) first.0
          ∙ ap (λ (ks : List Joined). record { first = t.first; later = ks }) rest.0,
      rest.1,
    )

-- a side begins with no `var`
item_no_var : (b : Bool) (a : Quantity) (more : List Piece)
    → begins_variable ((sign b ++ quantity_pieces a) ++ more) ≡ false
item_no_var true a more = refl
item_no_var false (constant n) more = refl
item_no_var false (multiple n x) more = refl
item_no_var false (single x) more = refl

pub side_no_var : (s : Side) (more : List Piece) → begins_variable (side_pieces s ++ more) ≡ false
unfolding side_pieces
side_no_var s more = ap begins_variable (append_assoc (item_pieces s.first) (flat_map joined_pieces s.later) more)
    ∙ item_no_var s.first.negative s.first.quantity (flat_map joined_pieces s.later ++ more)

-- the tokens of a line, one behind the other
seam : (xs ys zs us : List Piece) → ((xs ++ ys) ++ zs ≡ us) → xs ++ (ys ++ zs) ≡ us
seam xs ys zs us e = sym (append_assoc xs ys zs) ∙ e

seams : (xs ys zs us vs : List Piece) → (xs ++ ys) ++ zs ≡ (us ++ vs) ++ zs → xs ++ (ys ++ zs) ≡ us ++ (vs ++ zs)
seams xs ys zs us vs e = seam xs ys zs ((us ++ vs) ++ zs) e ∙ append_assoc us vs zs

abbrev pub end : List Piece
end = line_end ∷ []

pub names-once : (x y : List ℕ) (ps qs : List Piece) → var ∷ name x ∷ ps ≡ var ∷ name y ∷ qs → (x ≡ y) × (ps ≡ qs)
names-once x y ps qs e = (cc, cc)

pub compare-once : (c d : Sign) (ps qs : List Piece) → compare c ∷ ps ≡ compare d ∷ qs → (c ≡ d) × (ps ≡ qs)
compare-once c d ps qs e = (cc, cc)

-- what the tokens of a declaration show
pub declaration-once : (x y : List ℕ) (lo hi low high : Integer)
    → line_pieces (declaration x lo hi) ≡ line_pieces (declaration y low high) → (x ≡ y) × (lo ≡ low) × (hi ≡ high)
declaration-once x y lo hi low high e =
    let names = names-once x y ((integer_pieces lo ++ integer_pieces hi) ++ end)
    ((integer_pieces low ++ integer_pieces high) ++ end) e in
    let first = integer-once lo low (integer_pieces hi ++ end) (integer_pieces high ++ end)
    (seams (integer_pieces lo) (integer_pieces hi) end (integer_pieces low) (integer_pieces high) names.1) in
    let second = integer-once hi high end end first.1 in
    (names.0, first.0, second.0)

-- what the tokens of a comparison show
pub comparison-once : (left right a b : Side) (cmp c : Sign)
    → line_pieces (comparison left cmp right) ≡ line_pieces (comparison a c b) → (left ≡ a) × (cmp ≡ c) × (right ≡ b)
unfolding ends_side
comparison-once left right a b cmp c e =
    let first = side-once left a (compare cmp ∷ (side_pieces right ++ end))
    (compare c ∷ (side_pieces b ++ end)) refl refl
    (seams (side_pieces left) (compare cmp ∷ side_pieces right) end (side_pieces a)
    (compare c ∷ side_pieces b) e) in
    let behind = compare-once cmp c (side_pieces right ++ end) (side_pieces b ++ end) first.1 in
    let second = side-once right b end end refl refl behind.1 in
    (first.0, behind.0, second.0)

-- the tokens of a declaration are those of no comparison
pub declares_or_compares : (x : List ℕ) (lo hi : Integer) (left right : Side) (cmp : Sign)
    → line_pieces (declaration x lo hi) ≡ line_pieces (comparison left cmp right) → ⊥
declares_or_compares x lo hi left right cmp e =
    let t : true ≡ false = ap begins_variable e
    ∙ (ap begins_variable (append_assoc (side_pieces left) (compare cmp ∷ side_pieces right) end)
    ∙ side_no_var left (compare cmp ∷ (side_pieces right ++ end))) in
    absurd (cc)
