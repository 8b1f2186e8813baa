-- What the reader does at a token of an atom, and behind a whole one.
use Rattle.std.proofs.Common.{◌≡◌, ℕ, ◌<◌, ◌≤◌, suc, Bool, true, false, cond, List, [], ◌∷◌, ◌++◌, length}
use Rattle.std.proofs.Common.{Option, Some, None, refl, sym, ap, subst, ◌∙◌, append_assoc, arith, inl, inr, ℤ, nat_eq}
use Rattle.std.specs.Prelude.{option_and_then, Ok, Err, ◌&&◌, slice_range}
use Rattle.std.proofs.lemmas.Bool.{false≢true}
use Rattle.std.proofs.lemmas.Bool.Decides.{eqb_tells}
use Rattle.lin_model.specs.declared.form.FormTerm.{FormTerm}
use Rattle.lin_model.specs.declared.op.Op.{Op}
use Rattle.lin_text.specs.declared.atom_step.State.{State}
use Rattle.lin_text.specs.declared.atom_step.State.TheVariants as states
use Rattle.lin_text.specs.declared.atom_step.Step.{Step}
use Rattle.lin_text.specs.declared.class.Lexeme.{Lexeme}
use Rattle.lin_text.specs.declared.fault.TextKind.TheVariants as kinds
use Rattle.lin_text.specs.declared.fault.TextKind.{TextKind}
use Rattle.lin_text.specs.declared.refusal.Fault.{Fault}
use Rattle.lin_text.specs.Pieces.{Piece, name, bad, line_end, PlainToken, pieces}
use Rattle.lin_text.specs.Pieces.{first_token, is_last, AreTokens}
use Rattle.lin_text.specs.Classes.{class_of, shown}
use Rattle.lin_text.specs.Faults.{begins_item}
use Rattle.lin_text.specs.Reading.{lexeme_at, fault_at, refusal}
use Rattle.lin_text.specs.KeyAtomTexts.{place_behind, BeginsUncanonical, HasAtomFault}
use Rattle.lin_text.specs.AtomSteps.{key_var, var_by, var_at, is_item, step_or_refusal, step_at}
use Rattle.lin_text.specs.AtomSteps.{next_step, var_named, next, with_term, run, IsRead}
use Rattle.lin_text.specs.LineLaws.{IsAhead}
use Rattle.lin_text.proofs.Positions.{tokens_total}
use Rattle.lin_text.proofs.TokenPlaces.{first_token-ahead}
use Rattle.lin_text.proofs.PositionLemmas.{name-text}
use Rattle.lin_text.proofs.Outcomes.{Token, token_of}
use Rattle.lin_text.proofs.Sides.{begins_item-class}
use Rattle.lin_text.proofs.AtomPlaces.{run-append, IsAtomPiece, run-pieces}
use Rattle.lin_text.proofs.AtomCounts.{Fits, fits}
use Rattle.lin_text.proofs.AtomRefused.{is_over, FirstStands, refused_next, refused_full, no_few, dies}
use Rattle.lin_text.proofs.AtomFirst.{pieces-split, first_behind}

-- a token as the reader sees it

shown-var : (p : Bool) (bytes : List ℕ) (at : ℕ) (t : PlainToken) → t ≡ first_token p bytes at
    → var_at bytes (shown t) ≡ var_named t.piece
shown-var p bytes at t is = by_piece t.piece refl
  where
    by_piece : (q : Piece) → t.piece ≡ q → var_by (class_of q) (slice_range bytes t.from t.to) ≡ var_named q
    by_piece (name x) e = ap key_var (sym (name-text p bytes at t x is e))
    by_piece _ e = refl

-- a 65th item begins
abbrev is_full : ℕ → State → Piece → Bool
is_full n s q = nat_eq n 64 && is_item s && begins_item q

-- what a token does, by its piece
shown-step : (p : Bool) (bytes : List ℕ) (at n : ℕ) (s : State) (t : PlainToken) → t ≡ first_token p bytes at
    → step_at bytes n s (shown t) ≡ cond (is_full n s t.piece) (Err (fault_at kinds.TooManyTerms t.from))
    (step_or_refusal (next s t.piece) (shown t))
unfolding step_at
shown-step p bytes at n s t is =
    ap (λ (b : Bool). cond (nat_eq n 64 && is_item s && b) (Err (fault_at kinds.TooManyTerms t.from))
    (step_or_refusal (next_step s (class_of t.piece) (var_at bytes (shown t))) (shown t)))
    (begins_item-class t.piece)
    ∙ ap (λ (v : Option ℕ). cond (is_full n s t.piece) (Err (fault_at kinds.TooManyTerms t.from))
    (step_or_refusal (next_step s (class_of t.piece) v) (shown t))) (shown-var p bytes at t is)

-- of three tests
all_three : (a b c : Bool) → (a && b && c) ≡ true → (a ≡ true) × (b ≡ true) × (c ≡ true)
all_three true true true e = (refl, refl, refl)
all_three true true false e = absurd (false≢true e)
all_three true false c e = absurd (false≢true e)
all_three false b c e = absurd (false≢true e)

not_first : (a b c : Bool) → (a && b && c) ≡ false → b ≡ true → c ≡ true → a ≡ false
not_first true true true e f g = e
not_first true true false e f g = absurd (false≢true g)
not_first true false c e f g = absurd (false≢true f)
not_first false b c e f g = refl

-- the test of the count
count_is : (n : ℕ) → nat_eq n 64 ≡ true → n ≡ 64
count_is n e = elim (eqb_tells n 64) [ inl is ↦ is.1 | inr other ↦ absurd (false≢true (sym other.0 ∙ e)) ]

count_not : (n : ℕ) → nat_eq n 64 ≡ false → n ≡ 64 → ⊥
count_not n e same = elim (eqb_tells n 64) [ inl is ↦ false≢true (sym e ∙ is.0) | inr other ↦ other.1 same ]

-- the state of which it is told
item_of : (s : State) → is_item s ≡ true → (b : Bool) × (s ≡ states.Item b)
item_of (states.Item b) e = (b, refl)
item_of _ e = absurd (false≢true e)

-- a token that an atom may have isn't the last of its line
not_last : (terms : List FormTerm) (s : State) (q : Piece) (st : Step) → next s q ≡ Some st → is_last q ≡ false
not_last terms s q st e =
    by_piece q (run-pieces terms (with_term terms st.term) s st.state (q ∷ [])
    (ap (λ (o : Option Step). option_and_then (λ r. run (with_term terms r.term) r.state []) o) e)).0
  where
    by_piece : (r : Piece) → IsAtomPiece r → is_last r ≡ false
    by_piece bad h = absurd h
    by_piece line_end h = absurd h
    by_piece _ h = refl

-- the place behind one token more
place_behind-push : (ts : List PlainToken) (at : ℕ) (t : PlainToken) → place_behind at (ts ++ t ∷ []) ≡ t.to
place_behind-push [] at t = refl
place_behind-push (u ∷ ts) at t = place_behind-push ts u.to t

-- nothing was read yet
pub read_none : (p : Bool) (bytes : List ℕ) (at : ℕ) → at ≤ length bytes
    → IsRead p bytes at [] (states.Item false) at
read_none p bytes at le =
    let ts = tokens_total (suc (length bytes)) p bytes at le (omega arith) in
    record { used = []; rest = ts.0; are = ts.1; there = ts.1; ends = refl; runs = refl; few = omega arith }

-- at a token behind what was read
module _ (p : Bool) (bytes : List ℕ) (at : ℕ) (terms : List FormTerm) (s : State) (to : ℕ)
    (got : IsRead p bytes at terms s to) where
  abbrev t : Token p bytes to got.rest
  t = token_of p bytes to got.rest got.there

  abbrev q : Piece
  q = t.token.piece

  abbrev full : Bool
  full = is_full (length terms) s q

  seen : (l : Lexeme) → l ≡ lexeme_at p bytes to
      → step_at bytes (length terms) s l ≡ cond full (Err (fault_at kinds.TooManyTerms t.token.from))
      (step_or_refusal (next s q) (shown t.token))
  seen l is = ap (step_at bytes (length terms) s) (is ∙ t.shows)
      ∙ shown-step p bytes to (length terms) s t.token t.is

  few : full ≡ false → length terms ≡ 64 → is_item s ≡ true → begins_item q ≡ true → ⊥
  few e count item begins =
      count_not (length terms) (not_first (nat_eq (length terms) 64) (is_item s) (begins_item q) e item begins) count

  -- it leads on
  more : (st : Step) → full ≡ false → next s q ≡ Some st
      → IsRead p bytes at (with_term terms st.term) st.state t.token.to
  more st not_full e = record {
    used = got.used ++ t.token ∷ [];
    rest = t.more;
    are = subst (λ (us : List PlainToken). AreTokens p bytes at us)
        (ap (λ (us : List PlainToken). got.used ++ us) t.split
        ∙ sym (append_assoc got.used (t.token ∷ []) t.more)) got.are;
    there = t.on (not_last terms s q st e);
    ends = sym (place_behind-push got.used at t.token);
    runs = ap (run [] (states.Item false)) (pieces-split got.used [] t.token)
        ∙ run-append [] terms (states.Item false) s (pieces got.used) (q ∷ []) got.runs
        ∙ ap (λ (o : Option Step). option_and_then (λ r. run (with_term terms r.term) r.state []) o) e;
    few = subst (Fits terms) e (fits terms s q got.few (few not_full));
  }

  further : (st : Step) → next s q ≡ Some st → to < t.token.to
  further st e =
      let ahead = subst (λ (u : PlainToken). IsAhead bytes to u) (sym t.is) (first_token-ahead p bytes to) in
      omega (arith, ahead.ahead, ahead.some (not_last terms s q st e))

  -- the faults
  split : got.used ++ got.rest ≡ got.used ++ t.token ∷ t.more
  split = ap (λ (us : List PlainToken). got.used ++ us) t.split

  shown_split : pieces (got.used ++ got.rest) ≡ pieces got.used ++ q ∷ pieces t.more
  shown_split = ap pieces split ∙ pieces-split got.used t.more t.token

  stops : (kind : TextKind) → FirstStands (pieces got.used) q (pieces t.more) kind
      → (BeginsUncanonical (pieces (got.used ++ got.rest)) → ⊥) → HasAtomFault p bytes at kind t.token.from
  stops kind first canonical =
      first_behind p bytes at (got.used ++ got.rest) got.used t.more t.token kind terms s got.are split first got.runs
      got.few canonical

  too_many : full ≡ true → HasAtomFault p bytes at kinds.TooManyTerms t.token.from
  too_many e =
      let three = all_three (nat_eq (length terms) 64) (is_item s) (begins_item q) e in
      let item = item_of s three.1 in
      let count = count_is (length terms) three.0 in
      let runs = got.runs ∙ ap (λ (r : State). Some (terms, r)) item.1 in
      stops kinds.TooManyTerms
      (refused_full (pieces got.used) q (pieces t.more) terms item.0 runs count three.2)
      (λ u. no_few (pieces got.used) terms item.0 q u.tree u.after (pieces t.more) runs count three.2 u.is u.few
      (sym u.written ∙ shown_split))

  refuses : full ≡ false → is_over s ≡ false → next s q ≡ None
      → HasAtomFault p bytes at (refusal (shown t.token)).kind t.token.from
  refuses not_full goes_on none =
      stops (refusal (shown t.token)).kind
      (refused_next (pieces got.used) q (pieces t.more) terms s got.runs goes_on none (few not_full))
      (λ u. dies (pieces got.used) terms s q u.tree u.after (pieces t.more) got.runs goes_on none u.is
      (sym u.written ∙ shown_split))

  -- by what the reader answers
  pub at_step : (l : Lexeme) (st : Step) → l ≡ lexeme_at p bytes to → step_at bytes (length terms) s l ≡ Ok st
      → IsRead p bytes at (with_term terms st.term) st.state l.to × (to < l.to)
  at_step l st is e =
      subst (λ (m : Lexeme). IsRead p bytes at (with_term terms st.term) st.state m.to × (to < m.to))
      (sym (is ∙ t.shows)) (by_full full refl (sym (seen l is) ∙ e))
    where
      by_next : (o : Option Step) → next s q ≡ o → full ≡ false → step_or_refusal o (shown t.token) ≡ Ok st
          → IsRead p bytes at (with_term terms st.term) st.state t.token.to × (to < t.token.to)
      by_next None none not_full h = absurd (cc)
      by_next (Some r) some not_full h =
          let same : r ≡ st = cc in
          let there : next s q ≡ Some st = some ∙ ap Some same in
          (more st not_full there, further st there)

      by_full : (b : Bool) → full ≡ b
          → cond b (Err (fault_at kinds.TooManyTerms t.token.from)) (step_or_refusal (next s q) (shown t.token)) ≡ Ok st
          → IsRead p bytes at (with_term terms st.term) st.state t.token.to × (to < t.token.to)
      by_full true f h = absurd (cc)
      by_full false f h = by_next (next s q) refl f h

  pub at_fault : (l : Lexeme) (f : Fault TextKind) → l ≡ lexeme_at p bytes to → is_over s ≡ false
      → step_at bytes (length terms) s l ≡ Err f → HasAtomFault p bytes at f.kind f.at
  at_fault l f is goes_on e = by_full full refl (sym (seen l is) ∙ e)
    where
      by_next : (o : Option Step) → next s q ≡ o → full ≡ false → step_or_refusal o (shown t.token) ≡ Err f
          → HasAtomFault p bytes at f.kind f.at
      by_next None none not_full h =
          let same : refusal (shown t.token) ≡ f = cc in
          subst (λ (g : Fault TextKind). HasAtomFault p bytes at g.kind g.at) same (refuses not_full goes_on none)
      by_next (Some r) some not_full h = absurd (cc)

      by_full : (b : Bool) → full ≡ b
          → cond b (Err (fault_at kinds.TooManyTerms t.token.from)) (step_or_refusal (next s q) (shown t.token)) ≡ Err f
          → HasAtomFault p bytes at f.kind f.at
      by_full true b h =
          let same : fault_at kinds.TooManyTerms t.token.from ≡ f = cc in
          subst (λ (g : Fault TextKind). HasAtomFault p bytes at g.kind g.at) same (too_many b)
      by_full false b h = by_next (next s q) refl b h

-- a state that is none of a whole atom
pub not_over : (s : State) → ((op : Op) (z : ℤ) → s ≡ states.Over op z → ⊥) → is_over s ≡ false
not_over (states.Over op z) other = absurd (other op z refl)
not_over _ other = refl
