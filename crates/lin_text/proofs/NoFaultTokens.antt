-- No token of a line that declares or compares is at fault.
use Rattle.std.proofs.Common.{◌≡◌, ℕ, ◌≤◌, ◌^◌, Bool, true, false, List, [], ◌∷◌, ◌++◌, refl, sym, ap, subst, ◌∙◌}
use Rattle.std.proofs.Common.{arith, append_assoc, ℤ, pos, neg_ℤ, ◌≤ℤ◌, ◌*ℤ◌, Option, Some, None}
use Rattle.std.specs.Prelude.{IsTrue, unsigned_abs, flat_map}
use Rattle.std.proofs.lemmas.Int.{ints}
use Rattle.lin_model.specs.Terms.{PlainVar, PlainTerm, TermFits, limit_of}
use Rattle.lin_model.specs.declared.atom.Atom.{Atom}
use Rattle.lin_text.specs.Pieces.{Piece, var, name, number, compare, bad}
use Rattle.lin_text.specs.Grammar.{Integer, Quantity, constant, multiple, single, Item, Joined, Side, sign}
use Rattle.lin_text.specs.Grammar.{integer_pieces, quantity_pieces, quantity_size, item_pieces, joint, joined_pieces}
use Rattle.lin_text.specs.Grammar.{side_pieces, signed, integer_value, IsOn, IsTerm, AreTerms, Declares, Compares}
use Rattle.lin_text.specs.Grammar.{Naming}
use Rattle.lin_text.specs.Faults.{begins_times}
use Rattle.lin_text.proofs.UniqueSides.{ends_side, end, later_no_times}

-- each token, with those behind it
abbrev pub Every : (Piece → List Piece → Type 0) → List Piece → Type 0
Every P [] = Unit {0}
Every P (p ∷ ps) = P p ps × Every P ps

pub Every-at : (P : Piece → List Piece → Type 0) (front : List Piece) (p : Piece) (after : List Piece)
    → Every P (front ++ p ∷ after) → P p after
Every-at P [] p after h = h.0
Every-at P (q ∷ front) p after h = Every-at P front p after h.1

-- a token of a comparison, where names have these numbers
abbrev pub InComparison : Naming → Piece → List Piece → Type 0
InComparison names bad after = ⊥
InComparison names (number n) after = (n ≤ 2 ^ 40) × (IsTrue (begins_times after) → n ≤ 2 ^ 31)
InComparison names (name x) after = (k : ℕ) × (names x ≡ Some k)
InComparison names _ after = Unit {0}

-- a token of a declaration
abbrev pub InDeclaration : Piece → List Piece → Type 0
InDeclaration bad after = ⊥
InDeclaration (number n) after = n ≤ 2 ^ 31
InDeclaration _ after = Unit {0}

size_of : (a b : Bool) (n : ℕ) → unsigned_abs (signed a 1 *ℤ signed b n) ≡ n
size_of true true n = omega (arith, ints)
size_of true false n = omega (arith, ints)
size_of false true n = omega (arith, ints)
size_of false false n = omega (arith, ints)

-- the size of a number within the limits of its variable
within_limit : (t : PlainTerm) (v : Option ℕ) (n : ℕ) → unsigned_abs t.factor ≡ n → t.var ≡ v → TermFits t
    → n ≤ limit_of v
within_limit t v n size on fits =
    subst (λ (m : ℕ). m ≤ limit_of v) size (subst (λ (w : Option ℕ). unsigned_abs t.factor ≤ limit_of w) on fits)

Every-quantity : (names : Naming) (a : Quantity) (t : PlainTerm) (more : List Piece)
    → unsigned_abs t.factor ≡ quantity_size a → IsOn names a t.var → TermFits t → begins_times more ≡ false
    → Every (InComparison names) more → Every (InComparison names) (quantity_pieces a ++ more)
Every-quantity names (constant n) t more size on fits behind rest =
    ((within_limit t None n size on fits, λ h. absurd (let e : true ≡ false = sym h ∙ behind in cc)), rest)
Every-quantity names (multiple n x) t more size (k, e, at) fits behind rest =
    let small : n ≤ 2 ^ 31 = within_limit t (Some k) n size e fits in
    ((omega (arith, small), λ h. small), (tt, ((k, at), rest)))
Every-quantity names (single x) t more size (k, e, at) fits behind rest = ((k, at), rest)

Every-sign : (names : Naming) (b : Bool) (qs more : List Piece) → Every (InComparison names) (qs ++ more)
    → Every (InComparison names) ((sign b ++ qs) ++ more)
Every-sign names true qs more h = (tt, h)
Every-sign names false qs more h = h

Every-item : (names : Naming) (sub : Bool) (i : Item) (t : PlainTerm) (more : List Piece) → IsTerm names sub i t
    → begins_times more ≡ false → Every (InComparison names) more → Every (InComparison names) (item_pieces i ++ more)
Every-item names sub i t more is behind rest =
    Every-sign names i.negative (quantity_pieces i.quantity) more
    (Every-quantity names i.quantity t more (ap (λ (z : ℤ). unsigned_abs z) is.factor
    ∙ size_of sub i.negative (quantity_size i.quantity)) is.on is.fits behind rest)

Every-joint : (names : Naming) (b : Bool) (ps : List Piece) → Every (InComparison names) ps
    → Every (InComparison names) (joint b ∷ ps)
Every-joint names true ps h = (tt, h)
Every-joint names false ps h = (tt, h)

Every-later : (names : Naming) (js : List Joined) (ts : List PlainTerm) (more : List Piece)
    → AreTerms names js ts → ends_side more ≡ true → Every (InComparison names) more
    → Every (InComparison names) (flat_map joined_pieces js ++ more)
Every-later names [] ts more are ends rest = rest
Every-later names (j ∷ js) [] more are ends rest = absurd are
Every-later names (j ∷ js) (t ∷ ts) more are ends rest =
    let behind : List Piece = flat_map joined_pieces js ++ more in
    subst (λ (ps : List Piece). Every (InComparison names) ps)
    (sym (append_assoc (joined_pieces j) (flat_map joined_pieces js) more))
    (Every-joint names j.subtracted (item_pieces j.item ++ behind)
    (Every-item names j.subtracted j.item t behind are.0 (later_no_times js more ends)
    (Every-later names js ts more are.1 ends rest)))

Every-side : (names : Naming) (s : Side) (ts : List PlainTerm) (more : List Piece)
    → AreTerms names (record { subtracted = false; item = s.first } ∷ s.later) ts → ends_side more ≡ true
    → Every (InComparison names) more → Every (InComparison names) (side_pieces s ++ more)
unfolding side_pieces
Every-side names s [] more are ends rest = absurd are
Every-side names s (t ∷ ts) more are ends rest =
    let behind : List Piece = flat_map joined_pieces s.later ++ more in
    subst (λ (ps : List Piece). Every (InComparison names) ps)
    (sym (append_assoc (item_pieces s.first) (flat_map joined_pieces s.later) more))
    (Every-item names false s.first t behind are.0 (later_no_times s.later more ends)
    (Every-later names s.later ts more are.1 ends rest))

pub Every-comparison : (names : Naming) (ps : List Piece) (a : Atom) → Compares names ps a
    → Every (InComparison names) ps
unfolding ends_side
Every-comparison names ps a c =
    subst (λ (qs : List Piece). Every (InComparison names) qs)
    (sym (c.written ∙ append_assoc (side_pieces c.left) (compare c.sign ∷ side_pieces c.right) end))
    (Every-side names c.left a.left (compare c.sign ∷ (side_pieces c.right ++ end)) c.left_terms.0 refl (
      tt,
      Every-side names c.right a.right end c.right_terms.0 refl (tt, tt),
    ))

-- the bounds of a variable are small

small_size : (b : Bool) (n : ℕ) → neg_ℤ (pos (2 ^ 31)) ≤ℤ signed b n → signed b n ≤ℤ pos (2 ^ 31) → n ≤ 2 ^ 31
small_size true n low high = omega (arith, ints)
small_size false n low high = omega (arith, ints)

between : (lo hi : ℤ) → neg_ℤ (pos (2 ^ 31)) ≤ℤ lo → lo ≤ℤ hi → hi ≤ℤ pos (2 ^ 31)
    → (lo ≤ℤ pos (2 ^ 31)) × (neg_ℤ (pos (2 ^ 31)) ≤ℤ hi)
between lo hi low order high = (omega (arith, ints), omega (arith, ints))

small_integer : (i : Integer) (z : ℤ) → z ≡ integer_value i → neg_ℤ (pos (2 ^ 31)) ≤ℤ z → z ≤ℤ pos (2 ^ 31)
    → i.size ≤ 2 ^ 31
small_integer i z is low high = small_size i.negative i.size (subst (λ (y : ℤ). neg_ℤ (pos (2 ^ 31)) ≤ℤ y) is low)
    (subst (λ (y : ℤ). y ≤ℤ pos (2 ^ 31)) is high)

Every-integer : (b : Bool) (n : ℕ) (more : List Piece) → n ≤ 2 ^ 31 → Every InDeclaration more
    → Every InDeclaration ((sign b ++ number n ∷ []) ++ more)
Every-integer true n more le rest = (tt, (le, rest))
Every-integer false n more le rest = (le, rest)

pub Every-declaration : (ps : List Piece) (v : PlainVar) → Declares ps v → Every InDeclaration ps
Every-declaration ps v d =
    let bounds = between v.lo v.hi d.fits.low d.fits.order d.fits.high in
    let lo : d.lo.size ≤ 2 ^ 31 = small_integer d.lo v.lo d.low d.fits.low bounds.0 in
    let hi : d.hi.size ≤ 2 ^ 31 = small_integer d.hi v.hi d.high bounds.1 d.fits.high in
    subst (λ (qs : List Piece). Every InDeclaration qs)
    (sym (d.written ∙ ap (λ (qs : List Piece). var ∷ name v.name ∷ qs)
    (append_assoc (integer_pieces d.lo) (integer_pieces d.hi) end))) (
      tt,
      (
        tt,
        Every-integer d.lo.negative d.lo.size (integer_pieces d.hi ++ end) lo
            (Every-integer d.hi.negative d.hi.size end hi (tt, tt)),
      ),
    )
