-- What it means that a part of a line is read: up to which token no fault stands, or which one is the first.
use Rattle.std.proofs.Common.{◌≡◌, ℕ, Bool, true, false, List, [], ◌∷◌, ◌++◌, refl, sym, ap, subst, ◌∙◌, append_assoc}
use Rattle.std.specs.Prelude.{Ok, Err, MatchBool}
use Rattle.std.proofs.lemmas.List.{append-nil, map-append}
use Rattle.lin_text.specs.declared.fault.TextKind.{TextKind}
use Rattle.lin_text.specs.declared.refusal.Fault.{Fault}
use Rattle.lin_text.specs.Pieces.{Piece, PlainToken, PlainLine, pieces, AreTokens, first_token, is_last}
use Rattle.lin_text.specs.Classes.{shown}
use Rattle.lin_text.specs.Reading.{Read, lexeme_at, fault_at, ◌>>=◌}
use Rattle.lin_text.proofs.Places.{Place}
use Rattle.lin_text.proofs.Passing.{At, NoFault, FirstStands}

-- no fault stands at the tokens `used`, behind `front` and before `rest`
abbrev pub Passes : List PlainLine → List Piece → List Piece → List Piece → Type 0
Passes above front [] rest = Unit {0}
Passes above front (q ∷ used) rest = NoFault above front q (used ++ rest) × Passes above (front ++ q ∷ []) used rest

pub Passes-append : (above : List PlainLine) (front xs ys rest : List Piece) → Passes above front xs (ys ++ rest)
    → Passes above (front ++ xs) ys rest → Passes above front (xs ++ ys) rest
Passes-append above front [] ys rest h k = subst (λ (f : List Piece). Passes above f ys rest) (append-nil front) k
Passes-append above front (x ∷ xs) ys rest h k = (
  subst (λ (r : List Piece). NoFault above front x r) (sym (append_assoc xs ys rest)) h.0,
  Passes-append above (front ++ x ∷ []) xs ys rest h.1
      (subst (λ (f : List Piece). Passes above f ys rest) (sym (append_assoc front (x ∷ []) xs)) k),
)

-- the first token
pub record Token (p : Bool) (bytes : List ℕ) (at : ℕ) (ts : List PlainToken) : Type 0 where
  pub token : PlainToken
  pub more : List PlainToken
  pub split : ts ≡ token ∷ more
  pub shows : lexeme_at p bytes at ≡ shown token
  pub is : token ≡ first_token p bytes at
  pub on : is_last token.piece ≡ false → AreTokens p bytes token.to more
  pub over : is_last token.piece ≡ true → more ≡ []

pub token_of : (p : Bool) (bytes : List ℕ) (at : ℕ) (ts : List PlainToken) → AreTokens p bytes at ts
    → Token p bytes at ts
token_of p bytes at [] h = absurd h
token_of p bytes at (t ∷ more) h = record {
  token = t;
  more = more;
  split = refl;
  shows = ap shown (sym h.0);
  is = h.0;
  on = λ e. subst (λ (b : Bool). MatchBool b (more ≡ []) (AreTokens p bytes t.to more)) e h.1;
  over = λ e. subst (λ (b : Bool). MatchBool b (more ≡ []) (AreTokens p bytes t.to more)) e h.1;
}

-- the tokens from here up to `to` are `ps`, and no fault stands there
pub record Gets (p : Bool) (bytes : List ℕ) (above : List PlainLine) (v : Bool) (front : List Piece)
    (ts : List PlainToken) (to : ℕ) (s : Place) (ps : List Piece) : Type 0 where
  pub used : List PlainToken
  pub rest : List PlainToken
  pub split : ts ≡ used ++ rest
  pub are : pieces used ≡ ps
  pub passes : Passes above front (pieces used) (pieces rest)
  pub there : AreTokens p bytes to rest
  pub place : At v (front ++ ps) s

-- the fault is the first from here on
pub record Fails (above : List PlainLine) (front : List Piece) (ts : List PlainToken) (f : Fault TextKind) : Type 0
  where
    pub used : List PlainToken
    pub token : PlainToken
    pub after : List PlainToken
    pub split : ts ≡ used ++ token ∷ after
    pub at : f.at ≡ token.from
    pub passes : Passes above front (pieces used) (token.piece ∷ pieces after)
    pub first : FirstStands above (front ++ pieces used) token.piece (pieces after) f.kind

module _ (p : Bool) (bytes : List ℕ) (above : List PlainLine) (v : Bool) (front : List Piece) (at : ℕ)
    (ts : List PlainToken) where
  abbrev pub Gets-one : (t : Token p bytes at ts) (s : Place) → NoFault above front t.token.piece (pieces t.more)
      → At v (front ++ t.token.piece ∷ []) s → is_last t.token.piece ≡ false
      → Gets p bytes above v front ts t.token.to s (t.token.piece ∷ [])
  Gets-one t s none place goes_on = record {
    used = t.token ∷ [];
    rest = t.more;
    split = t.split;
    are = refl;
    passes = (none, tt);
    there = t.on goes_on;
    place = place;
  }

  pub Gets-none : (s : Place) → AreTokens p bytes at ts → At v front s → Gets p bytes above v front ts at s []
  Gets-none s are place = record {
    used = [];
    rest = ts;
    split = refl;
    are = refl;
    passes = tt;
    there = are;
    place = subst (λ (f : List Piece). At v f s) (sym (append-nil front)) place;
  }

  abbrev pub Fails-one : (t : Token p bytes at ts) (kind : TextKind)
      → FirstStands above front t.token.piece (pieces t.more) kind → Fails above front ts (fault_at kind t.token.from)
  Fails-one t kind first = record {
    used = [];
    token = t.token;
    after = t.more;
    split = t.split;
    at = refl;
    passes = tt;
    first = subst (λ (f : List Piece). FirstStands above f t.token.piece (pieces t.more) kind)
        (sym (append-nil front)) first;
  }

  pub Gets-both : (a b : ℕ) (s u : Place) (ps qs : List Piece) (g : Gets p bytes above v front ts a s ps)
      → Gets p bytes above v (front ++ ps) g.rest b u qs → Gets p bytes above v front ts b u (ps ++ qs)
  Gets-both a b s u ps qs g h =
      let all : pieces (g.used ++ h.used) ≡ pieces g.used
      ++ pieces h.used = map-append (λ (t : PlainToken). t.piece) g.used h.used in
      let rest : pieces g.rest ≡ pieces h.used ++ pieces h.rest = ap pieces h.split
      ∙ map-append (λ (t : PlainToken). t.piece) h.used h.rest in
      record {
        used = g.used ++ h.used;
        rest = h.rest;
        split = g.split ∙ ap (λ (r : List PlainToken). g.used ++ r) h.split ∙ sym (append_assoc g.used h.used h.rest);
        are = all ∙ ap (λ (r : List Piece). r ++ pieces h.used) g.are ∙ ap (λ (r : List Piece). ps ++ r) h.are;
        passes =
            subst (λ (r : List Piece). Passes above front r (pieces h.rest)) (sym all)
            (Passes-append above front (pieces g.used) (pieces h.used) (pieces h.rest)
            (subst (λ (r : List Piece). Passes above front (pieces g.used) r) rest g.passes)
            (subst (λ (f : List Piece). Passes above (front ++ f) (pieces h.used) (pieces h.rest))
            (sym g.are) h.passes));
        there = h.there;
        place = subst (λ (f : List Piece). At v f u) (append_assoc front ps qs) h.place;
      }

  abbrev pub Fails-behind : (a : ℕ) (s : Place) (ps : List Piece) (f : Fault TextKind)
      (g : Gets p bytes above v front ts a s ps)
      → Fails above (front ++ ps) g.rest f → Fails above front ts f
  Fails-behind a s ps f g h =
      let all : pieces (g.used ++ h.used) ≡ pieces g.used
      ++ pieces h.used = map-append (λ (t : PlainToken). t.piece) g.used h.used in
      let rest : pieces g.rest ≡ pieces h.used ++ (h.token.piece ∷ pieces h.after) = ap pieces h.split
      ∙ map-append (λ (t : PlainToken). t.piece) h.used (h.token ∷ h.after) in
      record {
        used = g.used ++ h.used;
        token = h.token;
        after = h.after;
        split = g.split ∙ ap (λ (r : List PlainToken). g.used ++ r) h.split
            ∙ sym (append_assoc g.used h.used (h.token ∷ h.after));
        at = h.at;
        passes =
            subst (λ (r : List Piece). Passes above front r (h.token.piece ∷ pieces h.after)) (sym all)
            (Passes-append above front (pieces g.used) (pieces h.used) (h.token.piece ∷ pieces h.after)
            (subst (λ (r : List Piece). Passes above front (pieces g.used) r) rest g.passes)
            (subst (λ (f : List Piece). Passes above (front ++ f) (pieces h.used) (h.token.piece ∷ pieces h.after))
            (sym g.are) h.passes));
        first =
            subst (λ (r : List Piece). FirstStands above r h.token.piece (pieces h.after) f.kind)
            (append_assoc front ps (pieces h.used)
            ∙ ap (λ (r : List Piece). front ++ r) (ap (λ (r : List Piece). r ++ pieces h.used) (sym g.are)
            ∙ sym all))
            h.first;
      }

-- what was read means M of its tokens and of the place behind them; else it is the first fault
abbrev pub Outcome : {A : Type 0} → Bool → List ℕ → List PlainLine → Bool → List Piece → List PlainToken
    → (A → ℕ → List Piece → Place → Type 0) → Read (A × ℕ) → Type 0
Outcome p bytes above v front ts M (Ok x) =
    (ps : List Piece) × (s : Place) × M x.0 x.1 ps s × Gets p bytes above v front ts x.1 s ps
Outcome p bytes above v front ts M (Err f) = Fails above front ts f

-- behind tokens that were passed
pub Outcome-after : {B : Type 0} (p : Bool) (bytes : List ℕ) (above : List PlainLine) (v : Bool) (front : List Piece)
    (at : ℕ) (ts : List PlainToken) (N : B → ℕ → List Piece → Place
    → Type 0) (a : ℕ) (s : Place) (ps : List Piece) (r : Read (B × ℕ))
    (g : Gets p bytes above v front ts a s ps)
    → Outcome p bytes above v (front ++ ps) g.rest (λ b to qs u. N b to (ps ++ qs) u) r
    → Outcome p bytes above v front ts N r
Outcome-after p bytes above v front at ts N a s ps (Ok y) g h =
    (ps ++ h.0, h.1, h.2, Gets-both p bytes above v front at ts a y.1 s h.1 ps h.0 g h.3)
Outcome-after p bytes above v front at ts N a s ps (Err f) g h = Fails-behind p bytes above v front at ts a s ps f g h

pub Outcome-then : {A B : Type 0} (p : Bool) (bytes : List ℕ) (above : List PlainLine) (v : Bool) (front : List Piece)
    (at : ℕ) (ts : List PlainToken) (M : A → ℕ → List Piece → Place → Type 0) (N : B → ℕ → List Piece → Place
    → Type 0) (r : Read (A × ℕ)) (g : A × ℕ → Read (B × ℕ)) → Outcome p bytes above v front ts M r
    → ((a : A) (to : ℕ) (ps : List Piece) (s : Place) → M a to ps s → At v (front ++ ps) s → (rest : List PlainToken)
    → AreTokens p bytes to rest → Outcome p bytes above v (front ++ ps) rest (λ b to qs u. N b to (ps ++ qs) u)
    (g (a, to))) → Outcome p bytes above v front ts N (r >>= g)
Outcome-then p bytes above v front at ts M N (Err f) g o k = o
Outcome-then p bytes above v front at ts M N (Ok x) g o k =
    Outcome-after p bytes above v front at ts N x.1 o.1 o.0 (g x) o.3
    (k x.0 x.1 o.0 o.1 o.2 o.3.place o.3.rest o.3.there)

-- the same tokens, with another value and meaning
pub Outcome-map : {A B : Type 0} (p : Bool) (bytes : List ℕ) (above : List PlainLine) (v : Bool) (front : List Piece)
    (ts : List PlainToken) (M : A → ℕ → List Piece → Place → Type 0) (N : B → ℕ → List Piece → Place → Type 0) (h : A
    → B) (r : Read (A × ℕ)) → ((a : A) (to : ℕ) (ps : List Piece) (s : Place) → M a to ps s → N (h a) to ps s)
    → Outcome p bytes above v front ts M r → Outcome p bytes above v front ts N (r >>= λ x. Ok (h x.0, x.1))
Outcome-map p bytes above v front ts M N h (Ok x) f o = (o.0, o.1, f x.0 x.1 o.0 o.1 o.2, o.3)
Outcome-map p bytes above v front ts M N h (Err e) f o = o

pub Outcome-weaker : {A : Type 0} (p : Bool) (bytes : List ℕ) (above : List PlainLine) (v : Bool) (front : List Piece)
    (ts : List PlainToken) (M N : A → ℕ → List Piece → Place → Type 0) (r : Read (A × ℕ))
    → ((a : A) (to : ℕ) (ps : List Piece) (s : Place) → M a to ps s → N a to ps s)
    → Outcome p bytes above v front ts M r → Outcome p bytes above v front ts N r
Outcome-weaker p bytes above v front ts M N (Ok x) f o = (o.0, o.1, f x.0 x.1 o.0 o.1 o.2, o.3)
Outcome-weaker p bytes above v front ts M N (Err e) f o = o
