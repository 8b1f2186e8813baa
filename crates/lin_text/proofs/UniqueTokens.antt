-- A text has its tokens and lines once.
use Rattle.std.proofs.Common.{◌≡◌, ℕ, Bool, true, false, List, [], ◌∷◌, sym, refl, ap, subst, ◌∙◌, arith}
use Rattle.std.specs.Prelude.{MatchBool}
use Rattle.lin_text.specs.Lines.{line_below}
use Rattle.lin_text.specs.Pieces.{PlainToken, is_last, AreTokens, PlainLine, AreLines}

-- what comes behind a token, where it is the last one and where it isn't
same_rest : (last : Bool) (ts us : List PlainToken) (More : List PlainToken → Type 0) → (More ts → More us → ts ≡ us)
    → MatchBool last (ts ≡ []) (More ts) → MatchBool last (us ≡ []) (More us) → ts ≡ us
same_rest true ts us More same a b = a ∙ sym b
same_rest false ts us More same a b = same a b

pub AreTokens-once : (in_proof : Bool) (bytes : List ℕ) (at : ℕ) (ts us : List PlainToken)
    → AreTokens in_proof bytes at ts → AreTokens in_proof bytes at us → ts ≡ us
AreTokens-once in_proof bytes at [] us a b = absurd a
AreTokens-once in_proof bytes at (t ∷ ts) [] a b = absurd b
AreTokens-once in_proof bytes at (t ∷ ts) (u ∷ us) a b =
    let same : u ≡ t = b.0 ∙ sym a.0 in
    let rest : ts ≡ us = same_rest (is_last t.piece) ts us (AreTokens in_proof bytes t.to)
    (AreTokens-once in_proof bytes t.to ts us) a.1
    (subst (λ (v : PlainToken). MatchBool (is_last v.piece) (us ≡ [])
    (AreTokens in_proof bytes v.to us)) same b.1) in
    ap (λ (v : PlainToken). v ∷ ts) (sym same) ∙ ap (λ (vs : List PlainToken). u ∷ vs) rest

same_line : (a b : PlainLine) → a.start ≡ b.start → a.tokens ≡ b.tokens → a ≡ b
same_line a b s t =
    ap (λ (n : ℕ). record { start = n; tokens = a.tokens }) s
    ∙ ap (λ (ts : List PlainToken). record { start = b.start; tokens = ts }) t

pub AreLines-once : (in_proof : Bool) (bytes : List ℕ) (at : ℕ) (ls ms : List PlainLine) → AreLines in_proof bytes at ls
    → AreLines in_proof bytes at ms → ls ≡ ms
AreLines-once in_proof bytes at [] [] a b = refl
AreLines-once in_proof bytes at [] (m ∷ ms) a b = absurd (omega (arith, a, b.0, b.1))
AreLines-once in_proof bytes at (l ∷ ls) [] a b = absurd (omega (arith, b, a.0, a.1))
AreLines-once in_proof bytes at (l ∷ ls) (m ∷ ms) a b =
    let start : m.start ≡ l.start = b.0 ∙ sym a.0 in
    let tokens : l.tokens ≡ m.tokens = AreTokens-once in_proof bytes l.start l.tokens m.tokens a.2
    (subst (λ (n : ℕ). AreTokens in_proof bytes n m.tokens) start b.2) in
    let rest : ls ≡ ms = AreLines-once in_proof bytes (line_below bytes l.start) ls ms a.3
    (subst (λ (n : ℕ). AreLines in_proof bytes (line_below bytes n) ms) start b.3) in
    ap (λ (v : PlainLine). v ∷ ls) (same_line l m (sym start) tokens) ∙ ap (λ (vs : List PlainLine). m ∷ vs) rest
