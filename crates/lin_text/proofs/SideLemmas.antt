-- A side that is read item by item.
use Rattle.std.proofs.Common.{◌≡◌, ℕ, ◌-◌, ◌+◌, ◌<◌, ◌≤◌, suc, Bool, true, false, cond, List, [], ◌∷◌, ◌++◌, refl, sym}
use Rattle.std.proofs.Common.{ap, ◌∙◌, append_assoc, arith}
use Rattle.std.specs.Prelude.{Result, Ok, Err, IsErrAnd}
use Rattle.lin_model.specs.Terms.{PlainTerm}
use Rattle.lin_text.specs.declared.fault.TextKind.{TextKind}
use Rattle.lin_text.specs.declared.refusal.Fault.{Fault}
use Rattle.lin_text.specs.declared.refusal.ReadError.{ReadError}
use Rattle.lin_text.specs.declared.refusal.ReadError.TheVariants as errors
use Rattle.lin_text.specs.declared.class.Lexeme.{Lexeme}
use Rattle.lin_text.specs.Reading.{Read, Gives, items_from, item_from, lexeme_at, full_at, is_joint, is_minus, ◌>>=◌}
use Rattle.lin_text.specs.Grammar.{Naming}

-- the terms that were read, before those that are read from here on
abbrev pub behind : List PlainTerm → Read (List PlainTerm × ℕ) → Read (List PlainTerm × ℕ)
behind front read = read >>= λ more. Ok (front ++ more.0, more.1)

-- a fault that was passed on
pub Gives-fault : {X : Type 0} (r : Result X (ReadError TextKind)) (read : Read X) (f : Fault TextKind)
    → IsErrAnd r (λ e. e ≡ errors.Fault f) → read ≡ Err f → Gives r read
Gives-fault (Ok x) read f h e = absurd h
Gives-fault (Err errors.NoMemory) read f h e = tt
Gives-fault (Err (errors.Fault g)) read f h e = e ∙ sym (let same : g ≡ f = cc in ap Err same)

-- what one item more gives
module _ (p : Bool) (bytes : List ℕ) (names : Naming) (subtracted : Bool) (first : Lexeme) where
  abbrev items : ℕ → Read (List PlainTerm × ℕ)
  items n = items_from n p bytes names subtracted first

  pub behind-fault : (front : List PlainTerm) (k : ℕ) (f : Fault TextKind) → k < 64
      → item_from p bytes names subtracted first ≡ Err f
      → behind front (items (64 - k)) ≡ Err f
  unfolding items_from
  behind-fault front k f lt e =
      rw (let more : 64 - k ≡ suc (63 - k) = omega arith in more, e) refl

  pub behind-last : (front : List PlainTerm) (k : ℕ) (t : PlainTerm) (to : ℕ) (l : Lexeme) → k < 64
      → item_from p bytes names subtracted first ≡ Ok (t, to) → l ≡ lexeme_at p bytes to → is_joint l.class ≡ false
      → behind front (items (64 - k)) ≡ Ok (front ++ t ∷ [], to)
  unfolding items_from
  behind-last front k t to l lt e is none =
      rw (let more : 64 - k ≡ suc (63 - k) = omega arith in more, e)
      (ap (λ (m : Lexeme). behind front (cond (is_joint m.class)
      (items_from (63 - k) p bytes names (is_minus m.class) (lexeme_at p bytes m.to) >>= λ later. Ok
      (t ∷ later.0, later.1))
      (Ok (t ∷ [], to)))) (sym is)
      ∙ ap (λ (b : Bool). behind front (cond b
      (items_from (63 - k) p bytes names (is_minus l.class) (lexeme_at p bytes l.to) >>= λ later. Ok
      (t ∷ later.0, later.1))
      (Ok (t ∷ [], to)))) none)

  behind-push : (front : List PlainTerm) (t : PlainTerm) (r : Read (List PlainTerm × ℕ))
      → behind front (r >>= λ later. Ok (t ∷ later.0, later.1)) ≡ behind (front ++ t ∷ []) r
  behind-push front t (Ok x) = ap (λ (ts : List PlainTerm). Ok (ts, x.1)) (sym (append_assoc front (t ∷ []) x.0))
  behind-push front t (Err e) = refl

  pub behind-more : (front : List PlainTerm) (k : ℕ) (t : PlainTerm) (to : ℕ) (l : Lexeme) → k < 64
      → item_from p bytes names subtracted first ≡ Ok (t, to) → l ≡ lexeme_at p bytes to → is_joint l.class ≡ true
      → behind front (items (64 - k)) ≡ behind (front ++ t ∷ [])
      (items_from (64 - (k + 1)) p bytes names (is_minus l.class) (lexeme_at p bytes l.to))
  unfolding items_from
  behind-more front k t to l lt e is some =
      rw (let more : 64 - k ≡ suc (63 - k) = omega arith in more, e)
      (ap (λ (m : Lexeme). behind front (cond (is_joint m.class)
      (items_from (63 - k) p bytes names (is_minus m.class) (lexeme_at p bytes m.to) >>= λ later. Ok
      (t ∷ later.0, later.1))
      (Ok (t ∷ [], to)))) (sym is)
      ∙ ap (λ (b : Bool). behind front (cond b
      (items_from (63 - k) p bytes names (is_minus l.class) (lexeme_at p bytes l.to) >>= λ later. Ok
      (t ∷ later.0, later.1))
      (Ok (t ∷ [], to)))) some
      ∙ behind-push front t _
      ∙ ap (λ (n : ℕ). behind (front ++ t ∷ []) (items_from n p bytes names (is_minus l.class)
      (lexeme_at p bytes l.to)))
      (let less : 63 - k ≡ 64 - (k + 1) = omega arith in less))

  pub behind-full : (front : List PlainTerm) (k : ℕ) → 64 ≤ k → behind front (items (64 - k)) ≡ Err (full_at first)
  unfolding items_from
  behind-full front k le = rw (let none_left : 64 - k ≡ 0 = omega arith in none_left) refl

  pub behind-next : (front after : List PlainTerm) (k j : ℕ) (t : PlainTerm) (to : ℕ) (l next : Lexeme) (m : Bool)
      → k < 64
      → item_from p bytes names subtracted first ≡ Ok (t, to) → l ≡ lexeme_at p bytes to → is_joint l.class ≡ true
      → after ≡ front ++ t ∷ [] → j ≡ k + 1 → m ≡ is_minus l.class → next ≡ lexeme_at p bytes l.to
      → behind after (items_from (64 - j) p bytes names m next) ≡ behind front (items (64 - k))
  behind-next front after k j t to l next m lt e is some pushed counted minus there =
      rw (pushed, counted, minus, there) (sym (behind-more front k t to l lt e is some))
