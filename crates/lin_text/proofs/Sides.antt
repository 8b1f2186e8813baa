-- The sides of a comparison, token by token.
use Rattle.std.proofs.Common.{◌≡◌, ℕ, ◌+◌, ◌<◌, ◌≤◌, zero, suc, Bool, true, false, cond, List, [], ◌∷◌, ◌++◌, length}
use Rattle.std.proofs.Common.{Some, None, refl, sym, ap, subst, ◌∙◌, arith, inl, inr, lit≤}
use Rattle.std.specs.Prelude.{Ok, flat_map}
use Rattle.lin_model.specs.Terms.{PlainTerm}
use Rattle.lin_text.specs.declared.fault.TextKind.{TextKind}
use Rattle.lin_text.specs.declared.fault.TextKind.TheVariants as kinds
use Rattle.lin_text.specs.declared.class.Lexeme.{Lexeme}
use Rattle.lin_text.specs.Pieces.{Piece, name, number, plus, minus, PlainToken, PlainLine, pieces, AreTokens, is_last}
use Rattle.lin_text.specs.Classes.{class_of, shown}
use Rattle.lin_text.specs.Grammar.{Quantity, constant, multiple, single, sign, quantity_pieces, Item, Joined, Side}
use Rattle.lin_text.specs.Grammar.{item_pieces, joint, joined_pieces, side_pieces, AreTerms, IsExpr, Naming}
use Rattle.lin_text.specs.Faults.{begins_item, EndsBeforeSide, EndsInFullSide, Stands, known}
use Rattle.lin_text.specs.Kinds.{rank}
use Rattle.lin_text.specs.Reading.{Read, lexeme_at, fault_at, refusal, full_at, begins_item_class, is_joint, is_minus}
use Rattle.lin_text.specs.Reading.{is_times, item_from, items_from, side_from, ◌>>=◌}
use Rattle.lin_text.proofs.Places.{Place, item, after, size, next}
use Rattle.lin_text.proofs.Shapes.{SideFront, ItemFront}
use Rattle.lin_text.proofs.Passing.{At, At-next, IsRoom, sign_passed}
use Rattle.lin_text.proofs.Outcomes.{Token, token_of, Gets-one, Gets-none, Fails, Fails-one, Outcome, Outcome-after}
use Rattle.lin_text.proofs.Outcomes.{Outcome-then, Outcome-map, Outcome-weaker}
use Rattle.lin_text.proofs.Quantities.{later_room}
use Rattle.lin_text.proofs.NamedItems.{refuse}
use Rattle.lin_text.proofs.Items.{IsItemAt, item_out}

front_of : (l : Bool) (b : List Piece) → SideFront l b → EndsBeforeSide b
front_of true b h = inl h
front_of false b h = inr h

full_side : (l : Bool) (front : List Piece) → ItemFront l 64 front → EndsInFullSide front
full_side l front f = record {
  before = f.0;
  side = f.1;
  subtracted = f.2;
  starts = front_of l f.0 f.3;
  full = f.4;
  written = f.5;
}

pub begins_item-class : (q : Piece) → begins_item_class (class_of q) ≡ begins_item q
begins_item-class minus = refl
begins_item-class (number n) = refl
begins_item-class (name x) = refl
begins_item-class _ = refl

no_item : (l : Bool) (k : ℕ) (q : Piece) → begins_item q ≡ false → next (item l k) q ≡ None
no_item l k minus e = absurd (cc)
no_item l k (number n) e = absurd (cc)
no_item l k (name x) e = absurd (cc)
no_item l k _ e = refl

-- a side that has all its items
module _ (p : Bool) (bytes : List ℕ) (above : List PlainLine) (front : List Piece) (at : ℕ) (ts : List PlainToken)
    (l : Bool) (here : At false front (item l 64)) (t : Token p bytes at ts)
    (room : IsRoom above front t.token.piece) where
  full_rank : (k : TextKind) → Stands above front t.token.piece (pieces t.more) k → 2 ≤ rank k
  full_rank kinds.TooManyVars h = absurd (room.vars h.0 h.1)
  full_rank kinds.TooManyAtoms h = absurd (room.atoms h.0 h.1 h.2)
  full_rank kinds.TooManyTerms h = lit≤ tt
  full_rank kinds.Token h = lit≤ tt
  full_rank kinds.Syntax h = lit≤ tt
  full_rank kinds.NumberTooLarge h = lit≤ tt
  full_rank kinds.UnknownName h = lit≤ tt
  full_rank kinds.NameTwice h = lit≤ tt
  full_rank kinds.EmptyRange h = lit≤ tt
  full_rank kinds.NoMemory h = lit≤ tt

  full_by : (b : Bool) → begins_item t.token.piece ≡ b
      → Fails above front ts (cond b (fault_at kinds.TooManyTerms t.token.from) (refusal (shown t.token)))
  full_by true e = Fails-one p bytes above false front at ts t kinds.TooManyTerms
      (record { stands = (full_side l front here.shape, e); least = full_rank })
  full_by false e = refuse p bytes above front at ts t room (item l 64) here (no_item l 64 t.token.piece e)

  pub full_out : Fails above front ts (full_at (shown t.token))
  unfolding full_at
  full_out =
      (subst (λ (b : Bool). Fails above front ts
      (cond b (fault_at kinds.TooManyTerms t.token.from) (refusal (shown t.token))))
      (sym (begins_item-class t.token.piece)) (full_by (begins_item t.token.piece) refl))

-- the terms from an item on to the end of the side; k items stand before them, and at most n may come
abbrev pub IsSideAt : Bool → List ℕ → Naming → Bool → Bool → ℕ → ℕ → List PlainTerm → ℕ → List Piece → Place
    → Type 0
IsSideAt p bytes names subtracted l k n terms to ps s =
    (i : Item) × (js : List Joined) × (bare : Bool) × (ps ≡ item_pieces i ++ flat_map joined_pieces js)
    × AreTerms names (record { subtracted = subtracted; item = i } ∷ js) terms
    × (s ≡ after l (suc k + length js) bare) × (bare ≡ true → is_times (lexeme_at p bytes to).class ≡ false)
    × (is_joint (lexeme_at p bytes to).class ≡ false) × (length js < n)

joint-is : (q : Piece) → is_joint (class_of q) ≡ true → q ≡ joint (is_minus (class_of q))
joint-is plus e = refl
joint-is minus e = refl
joint-is _ e = absurd (cc)

joint-next : (l : Bool) (n : ℕ) (bare : Bool) (q : Piece) → is_joint (class_of q) ≡ true
    → next (after l n bare) q ≡ Some (item l n)
joint-next l n bare plus e = refl
joint-next l n bare minus e = refl
joint-next l n bare _ e = absurd (cc)

joint-sign : (q : Piece) → is_joint (class_of q) ≡ true
    → (is_last q ≡ false) × ((n : ℕ) → q ≡ number n → ⊥) × ((x : List ℕ) → q ≡ name x → ⊥)
joint-sign plus e = (refl, λ n f. cc, λ x f. cc)
joint-sign minus e = (refl, λ n f. cc, λ x f. cc)
joint-sign _ e = absurd (cc)

not_size : (l : Bool) (n : ℕ) (bare : Bool) (r : Bool) → next (after l n bare) minus ≡ Some (size r 64) → ⊥
not_size l n bare r e = cc

pub right-nil : (xs ys : List Piece) → xs ++ ys ≡ [] → ys ≡ []
right-nil [] ys e = e
right-nil (x ∷ xs) ys e = absurd (cc)

pub item_pieces-some : (negative : Bool) (q : Quantity) → sign negative ++ quantity_pieces q ≡ [] → ⊥
item_pieces-some true q e = cc
item_pieces-some false (constant n) e = cc
item_pieces-some false (multiple n x) e = cc
item_pieces-some false (single x) e = cc

-- behind an item: the side ends, or another item follows
module _ (p : Bool) (bytes : List ℕ) (above : List PlainLine) (front : List Piece) (at : ℕ) (ts : List PlainToken)
    (l : Bool) (k n : ℕ) (subtracted : Bool) (term : PlainTerm) (to : ℕ) (ps : List Piece) (s : Place)
    (m : IsItemAt p bytes (known above) subtracted l k term to ps s) (place : At false (front ++ ps) s)
    (rest : List PlainToken) (are : AreTokens p bytes to rest) (t : Token p bytes to rest) where
  abbrev pub Goal : Read (List PlainTerm × ℕ) → Type 0
  Goal r = Outcome p bytes above false (front ++ ps) rest
      (λ b to' qs u. IsSideAt p bytes (known above) subtracted l k (suc n) b to' (ps ++ qs) u) r

  pub last_out : is_joint (class_of t.token.piece) ≡ false → Goal (Ok (term ∷ [], to))
  last_out none =
      let ends : is_joint (lexeme_at p bytes to).class ≡ false =
      ap (λ (x : Lexeme). is_joint x.class) t.shows ∙ none in (
        [],
        s,
        (
          m.0,
          [],
          m.1,
          ap (λ (qs : List Piece). qs ++ []) m.2,
          (m.3, refl),
          m.4
              ∙ ap (λ (j : ℕ). after l j m.1) (let same : suc k ≡ suc k + 0 = omega arith in same),
          m.5,
          ends,
          omega arith,
        ),
        Gets-none p bytes above false (front ++ ps) to rest s are place,
      )

  more_means : (q : Piece) (b : List PlainTerm) (to' : ℕ) (qs : List Piece) (u : Place) → is_joint (class_of q) ≡ true
      → IsSideAt p bytes (known above) (is_minus (class_of q)) l (suc k) n b to' qs u
      → IsSideAt p bytes (known above) subtracted l k (suc n) (term ∷ b) to' (ps ++ ((q ∷ []) ++ qs)) u
  more_means q b to' qs u some r =
      let j : Joined = record { subtracted = is_minus (class_of q); item = r.0 } in (
        m.0,
        j ∷ r.1,
        r.2,
        ap (λ (xs : List Piece). xs ++ (q ∷ qs)) m.2 ∙ ap (λ (xs : List Piece). item_pieces m.0 ++ (q ∷ xs)) r.3
            ∙ ap (λ (x : Piece). item_pieces m.0 ++ (x ∷ (item_pieces r.0 ++ flat_map joined_pieces r.1)))
            (joint-is q some),
        (m.3, r.4),
        r.5 ∙ ap (λ (i : ℕ). after l i r.2) (let same : suc (suc k) + length r.1
            ≡ suc k + suc (length r.1) = omega arith in same),
        r.6,
        r.7,
        omega (arith, r.8),
      )

  pub more_out : is_joint (class_of t.token.piece) ≡ true
      → ((front' : List Piece) (at' : ℕ) (ts' : List PlainToken) → At false front' (item l (suc k))
      → (t' : Token p bytes at' ts') → IsRoom above front' t'.token.piece
      → Outcome p bytes above false front' ts'
      (IsSideAt p bytes (known above) (is_minus (class_of t.token.piece)) l (suc k) n)
      (items_from n p bytes (known above) (is_minus (class_of t.token.piece)) (shown t'.token)))
      → Goal (items_from n p bytes (known above) (is_minus (class_of t.token.piece))
      (lexeme_at p bytes t.token.to) >>= λ later.
      Ok (term ∷ later.0, later.1))
  more_out some later =
      let here : At false (front ++ ps) (after l (suc k) m.1) = subst
      (λ (u : Place). At false (front ++ ps) u) m.4 place in
      let facts = joint-sign t.token.piece some in
      let room : IsRoom above (front ++ ps) t.token.piece = nonempty_room in
      let goes = joint-next l (suc k) m.1 t.token.piece some in
      let first = Gets-one p bytes above false (front ++ ps) to rest t (item l (suc k))
      (sign_passed above false (front ++ ps) (after l (suc k) m.1) (item l (suc k)) t.token.piece
      (pieces t.more) here room goes (not_size l (suc k) m.1) facts.1 facts.2)
      (At-next false (front ++ ps) (after l (suc k) m.1) (item l (suc k)) t.token.piece here room.vars goes)
      facts.0 in
      let next_token = token_of p bytes t.token.to first.rest first.there in
      Outcome-after p bytes above false (front ++ ps) to rest
      (λ b to' qs u. IsSideAt p bytes (known above) subtracted l k (suc n) b to' (ps ++ qs) u) t.token.to
      (item l (suc k)) (t.token.piece ∷ []) _ first
      (Outcome-map p bytes above false ((front ++ ps) ++ t.token.piece ∷ []) first.rest
      (IsSideAt p bytes (known above) (is_minus (class_of t.token.piece)) l (suc k) n)
      (λ b to' qs u. IsSideAt p bytes (known above) subtracted l k (suc n) b to'
      (ps ++ ((t.token.piece ∷ []) ++ qs)) u) (λ (b : List PlainTerm). term ∷ b) _
      (λ b to' qs u r. more_means t.token.piece b to' qs u some r)
      (subst (λ (x : Lexeme). Outcome p bytes above false ((front ++ ps) ++ t.token.piece ∷ []) first.rest
      (IsSideAt p bytes (known above) (is_minus (class_of t.token.piece)) l (suc k) n)
      (items_from n p bytes (known above) (is_minus (class_of t.token.piece)) x)) (sym next_token.shows)
      (later ((front ++ ps) ++ t.token.piece ∷ []) t.token.to first.rest first.place next_token
      (later_room above (front ++ ps) t.token.piece next_token.token.piece))))
    where
      item-some : (i : Item) (xs : List Piece) → xs ≡ item_pieces i → front ++ xs ≡ [] → ⊥
      item-some i xs e f = item_pieces-some i.negative i.quantity (sym e ∙ right-nil front xs f)

      nonempty_room : IsRoom above (front ++ ps) t.token.piece
      nonempty_room = record { vars = λ e _. item-some m.0 ps m.2 e; atoms = λ e _ _. item-some m.0 ps m.2 e }

pub items_out : (n k : ℕ) (p : Bool) (bytes : List ℕ) (above : List PlainLine) (front : List Piece) (at : ℕ)
    (ts : List PlainToken) (l : Bool) (subtracted : Bool) → n + k ≡ 64 → At false front (item l k)
    → (t : Token p bytes at ts) → IsRoom above front t.token.piece
    → Outcome p bytes above false front ts (IsSideAt p bytes (known above) subtracted l k n)
    (items_from n p bytes (known above) subtracted (shown t.token))
unfolding items_from
items_out zero k p bytes above front at ts l subtracted sum here t room =
    let full : k ≡ 64 = omega (arith, sum) in
    full_out p bytes above front at ts l (subst (λ (j : ℕ). At false front (item l j)) full here) t room
items_out (suc n) k p bytes above front at ts l subtracted sum here t room =
    Outcome-then p bytes above false front at ts (IsItemAt p bytes (known above) subtracted l k)
    (IsSideAt p bytes (known above) subtracted l k (suc n))
    (item_from p bytes (known above) subtracted (shown t.token)) _
    (item_out p bytes above front at ts l k (omega (arith, sum)) here subtracted t room)
    (λ term to ps s m place rest are.
    let next_token = token_of p bytes to rest are in
    subst (λ (x : Lexeme). Outcome p bytes above false (front ++ ps) rest
    (λ b to' qs u. IsSideAt p bytes (known above) subtracted l k (suc n) b to' (ps ++ qs) u)
    (cond (is_joint x.class) (items_from n p bytes (known above) (is_minus x.class)
    (lexeme_at p bytes x.to) >>= λ later.
    Ok (term ∷ later.0, later.1)) (Ok (term ∷ [], to)))) (sym next_token.shows)
    (elim (is_joint (class_of next_token.token.piece)) as (λ b. is_joint (class_of next_token.token.piece) ≡ b
    → Outcome p bytes above false (front ++ ps) rest
    (λ b' to' qs u. IsSideAt p bytes (known above) subtracted l k (suc n) b' to' (ps ++ qs) u)
    (cond b (items_from n p bytes (known above) (is_minus (class_of next_token.token.piece))
    (lexeme_at p bytes next_token.token.to) >>= λ later. Ok (term ∷ later.0, later.1))
    (Ok (term ∷ [], to)))) [
      | true ↦ λ some. more_out p bytes above front at ts l k n subtracted term to ps s m place rest are next_token some
          (λ front' at' ts' here' t' room'. items_out n (suc k) p bytes above front' at' ts' l
          (is_minus (class_of next_token.token.piece)) (omega (arith, sum)) here' t' room')
      | false ↦ λ none. last_out p bytes above front at ts l k n subtracted term to ps s m place rest are next_token
          none
    ] refl))

-- a side, with what may follow it
abbrev pub IsWholeSide : Bool → List ℕ → Naming → Bool → List PlainTerm → ℕ → List Piece → Place → Type 0
IsWholeSide p bytes names l terms to ps s =
    (side : Side) × (k : ℕ) × (bare : Bool) × (ps ≡ side_pieces side) × IsExpr names side terms × (s ≡ after l k bare)
    × (bare ≡ true → is_times (lexeme_at p bytes to).class ≡ false)
    × (is_joint (lexeme_at p bytes to).class ≡ false)

length-AreTerms : (names : Naming) (js : List Joined) (terms : List PlainTerm) → AreTerms names js terms
    → length terms ≡ length js
length-AreTerms names [] terms e = ap length e
length-AreTerms names (j ∷ js) [] h = absurd h
length-AreTerms names (j ∷ js) (term ∷ terms) h = ap suc (length-AreTerms names js terms h.1)

pub side_out : (p : Bool) (bytes : List ℕ) (above : List PlainLine) (front : List Piece) (at : ℕ) (ts : List PlainToken)
    (l : Bool) → At false front (item l 0) → (t : Token p bytes at ts) → IsRoom above front t.token.piece
    → Outcome p bytes above false front ts (IsWholeSide p bytes (known above) l)
    (side_from p bytes (known above) (shown t.token))
unfolding side_from side_pieces
side_out p bytes above front at ts l here t room =
    Outcome-weaker p bytes above false front ts (IsSideAt p bytes (known above) false l 0 64)
    (IsWholeSide p bytes (known above) l) (items_from 64 p bytes (known above) false (shown t.token))
    (λ terms to ps s m.
    let count : length terms ≡ suc (length m.1) = length-AreTerms (known above)
    (record { subtracted = false; item = m.0 } ∷ m.1) terms m.4 in (
      record { first = m.0; later = m.1 },
      suc 0 + length m.1,
      m.2,
      m.3,
      (m.4, record { some = omega arith; few = omega (arith, m.8) }),
      m.5,
      m.6,
      m.7,
    ))
    (items_out 64 0 p bytes above front at ts l false refl here t room)
