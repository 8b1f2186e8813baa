-- What stands before each place of a line, token by token.
use Rattle.std.proofs.Common.{◌≡◌, ℕ, zero, suc, Bool, true, false, List, [], ◌∷◌, ◌++◌, Some, None, refl, sym, ap}
use Rattle.std.proofs.Common.{subst, ◌∙◌, append_assoc, arith}
use Rattle.std.specs.Prelude.{flat_map, option_and_then}
use Rattle.std.proofs.lemmas.List.{append-nil, length_push}
use Rattle.std.proofs.lemmas.Grind.{flat_map-append}
use Rattle.lin_text.specs.declared.class.Sign.{Sign}
use Rattle.lin_text.specs.Pieces.{Piece, var, name, number, plus, minus, times, compare, line_end}
use Rattle.lin_text.specs.Grammar.{Integer, constant, multiple, single, Item, Joined, Side, Line, declaration}
use Rattle.lin_text.specs.Grammar.{comparison, sign, integer_pieces, item_pieces, joint, joined_pieces, side_pieces}
use Rattle.lin_text.specs.Grammar.{item_count, line_pieces}
use Rattle.lin_text.proofs.Places.{Place, start, var_name, low, low_number, high, high_number, var_end, item, size}
use Rattle.lin_text.proofs.Places.{after, factor, done, next, run, size_next, item_next, after_next}

-- a side begins behind these tokens
abbrev pub SideFront : Bool → List Piece → Type 0
SideFront true b = b ≡ []
SideFront false b = (left : Side) × (c : Sign) × (b ≡ side_pieces left ++ compare c ∷ [])

-- an item begins behind these tokens, and so many items stand before it in its side
abbrev pub ItemFront : Bool → ℕ → List Piece → Type 0
ItemFront l zero f = SideFront l f
ItemFront l (suc n) f = (b : List Piece) × (s : Side) × (sub : Bool) × SideFront l b × (item_count s ≡ suc n)
    × (f ≡ b ++ side_pieces s ++ joint sub ∷ [])

abbrev pub BareAt : Bool → Item → Type 0
BareAt true i = (neg : Bool) × (k : ℕ) × (i ≡ record { negative = neg; quantity = constant k })
BareAt false i = Unit {0}

-- what stands before a place
abbrev pub Shape : Place → List Piece → Type 0
Shape start ps = ps ≡ []
Shape var_name ps = ps ≡ var ∷ []
Shape low ps = (x : List ℕ) × (ps ≡ var ∷ name x ∷ [])
Shape low_number ps = (x : List ℕ) × (ps ≡ var ∷ name x ∷ minus ∷ [])
Shape high ps = (x : List ℕ) × (lo : Integer) × (ps ≡ var ∷ name x ∷ integer_pieces lo)
Shape high_number ps = (x : List ℕ) × (lo : Integer) × (ps ≡ var ∷ name x ∷ integer_pieces lo ++ minus ∷ [])
Shape var_end ps =
    (x : List ℕ) × (lo : Integer) × (hi : Integer) × (ps ≡ var ∷ name x ∷ integer_pieces lo ++ integer_pieces hi)
Shape (item l n) ps = ItemFront l n ps
Shape (size l n) ps = (f : List Piece) × ItemFront l n f × (ps ≡ f ++ minus ∷ [])
Shape (after l n bare) ps =
    (f : List Piece) × (i : Item) × (m : ℕ) × (n ≡ suc m) × ItemFront l m f × (ps ≡ f ++ item_pieces i) × BareAt bare i
Shape (factor l n) ps = (f : List Piece) × (neg : Bool) × (k : ℕ) × (m : ℕ) × (n ≡ suc m) × ItemFront l m f
    × (ps ≡ f ++ sign neg ++ number k ∷ times ∷ [])
Shape done ps = (line : Line) × (ps ≡ line_pieces line)

-- a side with one item more
abbrev grown : Side → Joined → Side
grown s j = record { first = s.first; later = s.later ++ j ∷ [] }

side_pieces-grown : (s : Side) (j : Joined) → side_pieces (grown s j) ≡ side_pieces s ++ joined_pieces j
unfolding side_pieces
side_pieces-grown s j =
    ap (λ (ps : List Piece). item_pieces s.first ++ ps) (flat_map-append joined_pieces s.later (j ∷ [])
    ∙ ap (λ (ps : List Piece). flat_map joined_pieces s.later ++ ps) (append-nil (joined_pieces j)))
    ∙ sym (append_assoc (item_pieces s.first) (flat_map joined_pieces s.later) (joined_pieces j))

-- an item behind what stands before it ends a side
pub with_item : (l : Bool) (m : ℕ) (f : List Piece) (i : Item) → ItemFront l m f
    → (b : List Piece) × (s : Side) × SideFront l b × (item_count s ≡ suc m) × (f ++ item_pieces i ≡ b ++ side_pieces s)
unfolding side_pieces
with_item l zero f i front = (
  f,
  record { first = i; later = [] },
  front,
  refl,
  ap (λ (ps : List Piece). f ++ ps) (sym (append-nil (item_pieces i))),
)
with_item l (suc m) f i front =
    let b = front.0 in
    let s = front.1 in
    let j : Joined = record { subtracted = front.2; item = i } in
    let counts : item_count (grown s j) ≡ suc (suc m) = omega (arith, length_push s.later j, front.4) in (
      b,
      grown s j,
      front.3,
      counts,
      ap (λ (ps : List Piece). ps ++ item_pieces i) front.5
          ∙ append_assoc (b ++ side_pieces s) (joint front.2 ∷ []) (item_pieces i)
          ∙ append_assoc b (side_pieces s) (joined_pieces j)
          ∙ ap (λ (ps : List Piece). b ++ ps) (sym (side_pieces-grown s j)),
    )

-- a sign behind an item
with_joint : (l : Bool) (n m : ℕ) (f ps : List Piece) (i : Item) (sub : Bool) → n ≡ suc m → ItemFront l m f
    → ps ≡ f ++ item_pieces i → ItemFront l n (ps ++ joint sub ∷ [])
with_joint l n m f ps i sub counts front is =
    let w = with_item l m f i front in
    subst (λ (k : ℕ). ItemFront l k (ps ++ joint sub ∷ [])) (sym counts)
    (w.0, w.1, sub, w.2, w.3, ap (λ (qs : List Piece). qs ++ joint sub ∷ []) (is ∙ w.4))

-- a comparison behind the left side
with_compare : (n m : ℕ) (f ps : List Piece) (i : Item) (c : Sign) → ItemFront true m f → ps ≡ f ++ item_pieces i
    → SideFront false (ps ++ compare c ∷ [])
with_compare n m f ps i c front is =
    let w = with_item true m f i front in (
      w.1,
      c,
      ap (λ (qs : List Piece). qs ++ compare c ∷ []) (is ∙ w.4
          ∙ ap (λ (b : List Piece). b ++ side_pieces w.1) w.2),
    )

-- the end behind the right side
with_end : (m : ℕ) (f ps : List Piece) (i : Item) → ItemFront false m f → ps ≡ f ++ item_pieces i
    → (line : Line) × (ps ++ line_end ∷ [] ≡ line_pieces line)
with_end m f ps i front is =
    let w = with_item false m f i front in (
      comparison w.2.0 w.2.1 w.1,
      ap (λ (qs : List Piece). qs ++ line_end ∷ []) (is ∙ w.4 ∙ ap (λ (b : List Piece). b ++ side_pieces w.1) w.2.2
          ∙ append_assoc (side_pieces w.2.0) (compare w.2.1 ∷ []) (side_pieces w.1)),
    )

from_item : (l : Bool) (n : ℕ) (ps : List Piece) (p : Piece) (t : Place) → ItemFront l n ps → item_next l n p ≡ Some t
    → Shape t (ps ++ p ∷ [])
from_item l n ps minus t front e =
    let same : size l n ≡ t = cc in subst (λ (s : Place). Shape s (ps ++ minus ∷ [])) same (ps, front, refl)
from_item l n ps (number k) t front e =
    let same : after l (suc n) true ≡ t = cc in
    subst (λ (s : Place). Shape s (ps ++ number k ∷ [])) same (
      ps,
      record { negative = false; quantity = constant k },
      n,
      refl,
      front,
      refl,
      (false, k, refl),
    )
from_item l n ps (name x) t front e =
    let same : after l (suc n) false ≡ t = cc in
    subst (λ (s : Place). Shape s (ps ++ name x ∷ [])) same (
      ps,
      record { negative = false; quantity = single x },
      n,
      refl,
      front,
      refl,
      tt,
    )
from_item l n ps _ t front e = absurd (cc)

from_size : (l : Bool) (n : ℕ) (f ps : List Piece) (p : Piece) (t : Place) → ItemFront l n f → ps ≡ f ++ minus ∷ []
    → size_next l n p ≡ Some t → Shape t (ps ++ p ∷ [])
from_size l n f ps (number k) t front is e =
    let same : after l (suc n) true ≡ t = cc in
    subst (λ (s : Place). Shape s (ps ++ number k ∷ [])) same (
      f,
      record { negative = true; quantity = constant k },
      n,
      refl,
      front,
      ap (λ (qs : List Piece). qs ++ number k ∷ []) is ∙ append_assoc f (minus ∷ []) (number k ∷ []),
      (true, k, refl),
    )
from_size l n f ps (name x) t front is e =
    let same : after l (suc n) false ≡ t = cc in
    subst (λ (s : Place). Shape s (ps ++ name x ∷ [])) same (
      f,
      record { negative = true; quantity = single x },
      n,
      refl,
      front,
      ap (λ (qs : List Piece). qs ++ name x ∷ []) is
          ∙ append_assoc f (minus ∷ []) (name x ∷ []),
      tt,
    )
from_size l n f ps _ t front is e = absurd (cc)

bare_pieces : (i : Item) (f : List Piece) (ps : List Piece) → ps ≡ f ++ item_pieces i → (b : BareAt true i)
    → ps ++ times ∷ [] ≡ f ++ sign b.0 ++ number b.1 ∷ times ∷ []
bare_pieces i f ps is b =
    ap (λ (qs : List Piece). qs ++ times ∷ []) (is ∙ ap (λ (j : Item). f ++ item_pieces j) b.2)
    ∙ append_assoc f (sign b.0 ++ number b.1 ∷ []) (times ∷ [])
    ∙ ap (λ (qs : List Piece). f ++ qs) (append_assoc (sign b.0) (number b.1 ∷ []) (times ∷ []))
    ∙ sym (append_assoc f (sign b.0) (number b.1 ∷ times ∷ []))

from_after : (l : Bool) (n : ℕ) (bare : Bool) (ps : List Piece) (p : Piece) (t : Place) → Shape (after l n bare) ps
    → after_next l n bare p ≡ Some t → Shape t (ps ++ p ∷ [])
from_after l n bare ps plus t s e =
    let same : item l n ≡ t = cc in
    subst (λ (u : Place). Shape u (ps ++ plus ∷ [])) same (with_joint l n s.2 s.0 ps s.1 false s.3 s.4 s.5)
from_after l n bare ps minus t s e =
    let same : item l n ≡ t = cc in
    subst (λ (u : Place). Shape u (ps ++ minus ∷ [])) same (with_joint l n s.2 s.0 ps s.1 true s.3 s.4 s.5)
from_after l n true ps times t s e =
    let same : factor l n ≡ t = cc in
    subst (λ (u : Place). Shape u (ps ++ times ∷ [])) same (
      s.0,
      s.6.0,
      s.6.1,
      s.2,
      s.3,
      s.4,
      bare_pieces s.1 s.0 ps s.5 s.6,
    )
from_after true n bare ps (compare c) t s e =
    let same : item false 0 ≡ t = cc in
    subst (λ (u : Place). Shape u (ps ++ compare c ∷ [])) same (with_compare n s.2 s.0 ps s.1 c s.4 s.5)
from_after false n bare ps line_end t s e =
    let same : done ≡ t = cc in
    subst (λ (u : Place). Shape u (ps ++ line_end ∷ [])) same (with_end s.2 s.0 ps s.1 s.4 s.5)
from_after _ n _ ps _ t s e = absurd (cc)

from_factor : (l : Bool) (n : ℕ) (ps : List Piece) (x : List ℕ) → Shape (factor l n) ps
    → Shape (after l n false) (ps ++ name x ∷ [])
from_factor l n ps x s = (
  s.0,
  record { negative = s.1; quantity = multiple s.2 x },
  s.3,
  s.4,
  s.5,
  ap (λ (qs : List Piece). qs ++ name x ∷ []) s.6
      ∙ append_assoc (s.0 ++ sign s.1) (number s.2 ∷ times ∷ []) (name x ∷ [])
      ∙ append_assoc s.0 (sign s.1) (number s.2 ∷ times ∷ name x ∷ []),
  tt,
)

pub Shape-next : (s t : Place) (ps : List Piece) (p : Piece) → Shape s ps → next s p ≡ Some t → Shape t (ps ++ p ∷ [])
Shape-next start t ps var h e = let same : var_name ≡ t = cc in
    subst (λ (u : Place). Shape u (ps ++ var ∷ [])) same (ap (λ (qs : List Piece). qs ++ var ∷ []) h)
Shape-next start t ps p h e = from_item true 0 ps p t h e
Shape-next var_name t ps (name x) h e = let same : low ≡ t = cc in
    subst (λ (u : Place). Shape u (ps ++ name x ∷ [])) same (x, ap (λ (qs : List Piece). qs ++ name x ∷ []) h)
Shape-next low t ps minus h e = let same : low_number ≡ t = cc in
    subst (λ (u : Place). Shape u (ps ++ minus ∷ [])) same (h.0, ap (λ (qs : List Piece). qs ++ minus ∷ []) h.1)
Shape-next low t ps (number k) h e = let same : high ≡ t = cc in
    subst (λ (u : Place). Shape u (ps ++ number k ∷ [])) same (
      h.0,
      record { negative = false; size = k },
      ap (λ (qs : List Piece). qs ++ number k ∷ []) h.1,
    )
Shape-next low_number t ps (number k) h e = let same : high ≡ t = cc in
    subst (λ (u : Place). Shape u (ps ++ number k ∷ [])) same (
      h.0,
      record { negative = true; size = k },
      ap (λ (qs : List Piece). qs ++ number k ∷ []) h.1,
    )
Shape-next high t ps minus h e = let same : high_number ≡ t = cc in
    subst (λ (u : Place). Shape u (ps ++ minus ∷ [])) same (h.0, h.1, ap (λ (qs : List Piece). qs ++ minus ∷ []) h.2)
Shape-next high t ps (number k) h e = let same : var_end ≡ t = cc in
    subst (λ (u : Place). Shape u (ps ++ number k ∷ [])) same (
      h.0,
      h.1,
      record { negative = false; size = k },
      ap (λ (qs : List Piece). qs ++ number k ∷ []) h.2,
    )
Shape-next high_number t ps (number k) h e =
    let same : var_end ≡ t = cc in
    subst (λ (u : Place). Shape u (ps ++ number k ∷ [])) same (
      h.0,
      h.1,
      record { negative = true; size = k },
      ap (λ (qs : List Piece). qs ++ number k ∷ []) h.2
          ∙ append_assoc (var ∷ name h.0 ∷ integer_pieces h.1) (minus ∷ []) (number k ∷ []),
    )
Shape-next var_end t ps line_end h e = let same : done ≡ t = cc in
    subst (λ (u : Place). Shape u (ps ++ line_end ∷ [])) same (
      declaration h.0 h.1 h.2,
      ap (λ (qs : List Piece). qs ++ line_end ∷ []) h.3,
    )
Shape-next (item l n) t ps p h e = from_item l n ps p t h e
Shape-next (size l n) t ps p h e = from_size l n h.0 ps p t h.1 h.2 e
Shape-next (after l n bare) t ps p h e = from_after l n bare ps p t h e
Shape-next (factor l n) t ps (name x) h e = let same : after l n false ≡ t = cc in
    subst (λ (u : Place). Shape u (ps ++ name x ∷ [])) same (from_factor l n ps x h)
Shape-next _ t ps _ h e = absurd (cc)

pub Shape-run : (s t : Place) (ps qs : List Piece) → Shape s ps → run s qs ≡ Some t → Shape t (ps ++ qs)
Shape-run s t ps [] h e = let same : s ≡ t = cc in
    subst (λ (qs : List Piece). Shape t qs) (sym (append-nil ps)) (subst (λ (u : Place). Shape u ps) same h)
Shape-run s t ps (q ∷ qs) h e =
    elim (next s q) as (λ o. next s q ≡ o → option_and_then (λ u. run u qs) o ≡ Some t → Shape t (ps ++ q ∷ qs)) [
      | None ↦ λ is j. absurd (cc)
      | Some u ↦ λ is j. subst (λ (rs : List Piece). Shape t rs) (append_assoc ps (q ∷ []) qs)
          (Shape-run u t (ps ++ q ∷ []) qs (Shape-next s u ps q h is) j)
    ] refl e
