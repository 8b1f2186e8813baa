-- What the reader does at a line of a query.
use Rattle.std.proofs.Common.{◌≡◌, ℕ, ◌<◌, suc, Bool, true, false, List, ◌∷◌, length, refl, sym, ap, subst, ◌∙◌, arith}
use Rattle.std.specs.Prelude.{Result, Ok, Err, IsErrAnd, IfErr}
use Rattle.lin_model.specs.Conditions.{PlainCondition, Fits}
use Rattle.lin_text.specs.declared.fault.TextKind.{TextKind}
use Rattle.lin_text.specs.Lines.{line_from, line_below}
use Rattle.lin_text.specs.Pieces.{Piece, word, PlainToken, pieces, AreTokens}
use Rattle.lin_text.specs.Queries.{begins_word, Spells}
use Rattle.lin_text.specs.declared.class.Lexeme.{Lexeme}
use Rattle.lin_text.specs.declared.refusal.ReadError.{ReadError}
use Rattle.lin_text.specs.declared.refusal.ReadError.TheVariants as errors
use Rattle.lin_text.specs.Classes.{class_of}
use Rattle.lin_text.specs.Reading.{Read, Gives, lexeme_at, is_word_class, line_at}
use Rattle.lin_text.specs.Answers.{IsReadError}
use Rattle.lin_text.proofs.Positions.{tokens_total}
use Rattle.lin_text.proofs.Outcomes.{token_of}
use Rattle.lin_text.proofs.LinesRead.{ReadTo, read_more}
use Rattle.lin_text.proofs.QueryEnds.{spelled_at_word}
use Rattle.lin_text.proofs.FirstFault.{faulty}
use Rattle.lin_text.proofs.QueryLines.{LineResult, line_out}

word-class : (r : Piece) (rs : List Piece) → begins_word (r ∷ rs) ≡ is_word_class (class_of r)
word-class (word w) rs = refl
word-class _ rs = refl

begins-word : (p : Bool) (bytes : List ℕ) (at : ℕ) (ts : List PlainToken) (l : Lexeme) → AreTokens p bytes at ts
    → l ≡ lexeme_at p bytes at → begins_word (pieces ts) ≡ is_word_class l.class
begins-word p bytes at ts l are is =
    let t = token_of p bytes at ts are in
    ap (λ (us : List PlainToken). begins_word (pieces us)) t.split ∙ word-class t.token.piece (pieces t.more)
    ∙ ap (λ (m : Lexeme). is_word_class m.class) (sym (is ∙ t.shows))

tokens_here : (p : Bool) (bytes : List ℕ) (at : ℕ) → at < length bytes
    → (ts : List PlainToken) × AreTokens p bytes at ts
tokens_here p bytes at lt = tokens_total (suc (length bytes)) p bytes at (omega arith) (omega arith)

line_result : (p : Bool) (bytes : List ℕ) (from at : ℕ) (q : PlainCondition) (got : ReadTo p bytes from at q)
    (l : Lexeme) → l ≡ lexeme_at p bytes at → (ts : List PlainToken) → AreTokens p bytes at ts
    → LineResult got.done ts q (line_at p bytes q l)
line_result p bytes from at q got l is ts are =
    let t = token_of p bytes at ts are in
    subst (λ (m : Lexeme). LineResult got.done ts q (line_at p bytes q m)) (sym (is ∙ t.shows))
    (line_out p bytes got.done q got.named got.vars got.atoms at ts t)

module _ (p : Bool) (bytes : List ℕ) (from at : ℕ) (q : PlainCondition) (got : ReadTo p bytes from at q)
    (lt : at < length bytes) (l : Lexeme) (is : l ≡ lexeme_at p bytes at) where
  pub at_line : is_word_class l.class ≡ false → (r : PlainCondition) → line_at p bytes q l ≡ Ok r
      → ReadTo p bytes from (line_from bytes (line_below bytes at)) r
  at_line no_word r e =
      let ts = tokens_here p bytes at lt in
      read_more p bytes from at q r ts.0 got lt ts.1 (begins-word p bytes at ts.0 l ts.1 is ∙ no_word)
      (subst (λ (x : Read PlainCondition). LineResult got.done ts.0 q x) e
      (line_result p bytes from at q got l is ts.0 ts.1))

  at_fault : is_word_class l.class ≡ false → (e : ReadError TextKind)
      → Gives {X = PlainCondition} (Err e) (line_at p bytes q l) → IsReadError p bytes from e
  at_fault no_word errors.NoMemory g = tt
  at_fault no_word (errors.Fault f) g =
      let ts = tokens_here p bytes at lt in
      faulty p bytes from at q ts.0 f got lt ts.1 (begins-word p bytes at ts.0 l ts.1 is ∙ no_word)
      (subst (λ (x : Read PlainCondition). LineResult got.done ts.0 q x) g
      (line_result p bytes from at q got l is ts.0 ts.1))

  pub at_word : is_word_class l.class ≡ true → Fits q.vars q.atoms → Spells p bytes from q at
  at_word yes_word fits =
      let ts = tokens_here p bytes at lt in
      spelled_at_word p bytes from at q got fits lt ts.0 ts.1 (begins-word p bytes at ts.0 l ts.1 is ∙ yes_word)

  pub at_error : {Y : Type 0} (r : Result Y (ReadError TextKind)) (e : ReadError TextKind)
      → is_word_class l.class ≡ false
      → IsErrAnd r (λ x. x ≡ e) → Gives {X = PlainCondition} (Err e) (line_at p bytes q l)
      → IfErr r (IsReadError p bytes from)
  at_error (Ok y) e no_word h g = tt
  at_error (Err x) e no_word h g = subst (λ (y : ReadError TextKind). IsReadError p bytes from y) (sym h)
      (at_fault no_word e g)
