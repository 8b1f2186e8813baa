-- A text spells one condition.
use Rattle.std.proofs.Common.{◌≡◌, List, [], ◌∷◌, ◌++◌, sym, ap, subst, ◌∙◌, inl, inr}
use Rattle.lin_model.specs.Terms.{PlainVar}
use Rattle.lin_model.specs.Conditions.{PlainCondition}
use Rattle.lin_model.specs.declared.atom.Atom.{Atom}
use Rattle.lin_text.specs.Laws.{SpelledOnce}
use Rattle.lin_text.specs.Pieces.{PlainLine, pieces}
use Rattle.lin_text.specs.Grammar.{number_among}
use Rattle.lin_text.specs.Queries.{names_of, query_lines, query_end, Spell, AreDeclaredAndCompared}
use Rattle.lin_text.proofs.UniqueTokens.{AreLines-once}
use Rattle.lin_text.proofs.UniqueTerms.{Declares-once, Compares-once, Declares-no_comparison}

-- what the lines declare and compare
meaning-once : (above : List PlainVar) (lines : List PlainLine) (vars ws : List PlainVar) (atoms bs : List Atom)
    → AreDeclaredAndCompared above lines vars atoms → AreDeclaredAndCompared above lines ws bs
    → (vars ≡ ws) × (atoms ≡ bs)
meaning-once above [] vars ws atoms bs a b = (a.0 ∙ sym b.0, a.1 ∙ sym b.1)
meaning-once above (line ∷ lines) vars ws atoms bs (inl (v, vs, e, d, more)) (inl (w, us, f, c, less)) =
    let same : v ≡ w = Declares-once (pieces line.tokens) v w d c in
    let rest = meaning-once (above ++ v ∷ []) lines vs us atoms bs more
    (subst (λ (u : PlainVar). AreDeclaredAndCompared (above ++ u ∷ []) lines us bs) (sym same) less) in
    (e ∙ (ap (λ (u : PlainVar). u ∷ vs) same ∙ (ap (λ (xs : List PlainVar). w ∷ xs) rest.0 ∙ sym f)), rest.1)
meaning-once above (line ∷ lines) vars ws atoms bs (inl (v, vs, e, d, more)) (inr (b, us, f, c, less)) =
    absurd (Declares-no_comparison (number_among (names_of above)) (pieces line.tokens) v b d c)
meaning-once above (line ∷ lines) vars ws atoms bs (inr (a, us, e, c, more)) (inl (w, vs, f, d, less)) =
    absurd (Declares-no_comparison (number_among (names_of above)) (pieces line.tokens) w a d c)
meaning-once above (line ∷ lines) vars ws atoms bs (inr (a, us, e, c, more)) (inr (b, vs, f, d, less)) =
    let same : a ≡ b = Compares-once (number_among (names_of above)) (pieces line.tokens) a b c d in
    let rest = meaning-once above lines vars ws us vs more less in
    (rest.0, e ∙ (ap (λ (x : Atom). x ∷ us) same ∙ (ap (λ (xs : List Atom). b ∷ xs) rest.1 ∙ sym f)))

same_condition : (q r : PlainCondition) → q.vars ≡ r.vars → q.atoms ≡ r.atoms → q ≡ r
same_condition q r v a =
    ap (λ (vs : List PlainVar). record { vars = vs; atoms = q.atoms }) v
    ∙ ap (λ (bs : List Atom). record { vars = r.vars; atoms = bs }) a

Spell-once : (lines : List PlainLine) (q r : PlainCondition) → Spell lines q → Spell lines r → q ≡ r
Spell-once lines q r a b =
    let same = meaning-once [] lines q.vars r.vars q.atoms r.atoms a.meaning b.meaning in
    same_condition q r same.0 same.1

pub Spells-once : SpelledOnce
Spells-once in_proof bytes at q r e f a b =
    let same : b.lines ≡ a.lines = AreLines-once in_proof bytes at b.lines a.lines b.are a.are in (
      Spell-once (query_lines a.lines) q r a.spelled
          (subst (λ (ls : List PlainLine). Spell (query_lines ls) r) same b.spelled),
      a.ends ∙ (sym (ap (query_end bytes) same) ∙ sym b.ends),
    )
