-- A text spells one session.
use Rattle.std.proofs.Common.{◌≡◌, ℕ, false, List, [], ◌∷◌, refl, sym, ap, subst, ◌∙◌}
use Rattle.lin_model.specs.Conditions.{PlainCondition}
use Rattle.lin_text.specs.Pieces.{word}
use Rattle.lin_text.specs.Queries.{Spells}
use Rattle.lin_text.specs.Laws.{SpelledOnce as ConditionSpelledOnce}
use Rattle.session_text.specs.Words.{executor_word, query_word, end_word, IsWordLine, BeginsWith}
use Rattle.session_text.specs.Sessions.{AreQueries, AreExecutors, body_of}
use Rattle.session_text.specs.Laws.{SpelledOnce}
use Rattle.session_text.proofs.WordLemmas.{executor_not_query, executor_not_end, query_not_end}

differ : (bytes : List ℕ) (at : ℕ) (v w : List ℕ) → (v ≡ w → ⊥) → BeginsWith v bytes at → BeginsWith w bytes at → ⊥
differ bytes at v w other a b = other (let same : word v ≡ word w = sym a ∙ b in cc)

same_below : (v w : List ℕ) (bytes : List ℕ) (at below there : ℕ) → IsWordLine v bytes at below
    → IsWordLine w bytes at there → below ≡ there
same_below v w bytes at below there a b = a.next ∙ sym b.next

-- where executors and then the end line come, no query comes
no_query_here : (bytes : List ℕ) (at : ℕ) (es : List (List PlainCondition)) (stop : ℕ) → AreExecutors bytes at es stop
    → BeginsWith end_word bytes stop → BeginsWith query_word bytes at → ⊥
no_query_here bytes at [] stop a ends q =
    differ bytes at query_word end_word query_not_end q (subst (λ (m : ℕ). BeginsWith end_word bytes m) a ends)
no_query_here bytes at (e ∷ es) stop a ends q =
    differ bytes at executor_word query_word executor_not_query a.1.line.begins q

-- a text spells one condition from a place on
module _ (condition_once : ConditionSpelledOnce) where
  -- queries behind which no query comes

  queries_once : (bytes : List ℕ) (at : ℕ) (qs rs : List PlainCondition) (stop end : ℕ) → AreQueries bytes at qs stop
      → AreQueries bytes at rs end → (BeginsWith query_word bytes stop → ⊥) → (BeginsWith query_word bytes end → ⊥)
      → (qs ≡ rs) × (stop ≡ end)
  queries_once bytes at [] [] stop end a b no_a no_b = (refl, a ∙ sym b)
  queries_once bytes at [] (r ∷ rs) stop end a b no_a no_b =
      absurd (no_a (subst (λ (m : ℕ). BeginsWith query_word bytes m) (sym a) b.1.line.begins))
  queries_once bytes at (q ∷ qs) [] stop end a b no_a no_b =
      absurd (no_b (subst (λ (m : ℕ). BeginsWith query_word bytes m) (sym b) a.1.line.begins))
  queries_once bytes at (q ∷ qs) (r ∷ rs) stop end a b no_a no_b =
      let below = same_below query_word query_word bytes at b.1.below a.1.below b.1.line a.1.line in
      let first = condition_once false bytes a.1.below q r a.0 b.0 a.1.spelled
      (subst (λ (m : ℕ). Spells false bytes m r b.0) below b.1.spelled) in
      let more = queries_once bytes a.0 qs rs stop end a.2
      (subst (λ (m : ℕ). AreQueries bytes m rs end) (sym first.1) b.2) no_a no_b in
      (ap (λ (x : PlainCondition). x ∷ qs) first.0 ∙ ap (λ (xs : List PlainCondition). r ∷ xs) more.0, more.1)

  executors_once : (bytes : List ℕ) (at : ℕ) (es fs : List (List PlainCondition)) (stop end : ℕ)
      → AreExecutors bytes at es stop → AreExecutors bytes at fs end → BeginsWith end_word bytes stop
      → BeginsWith end_word bytes end → es ≡ fs
  executors_once bytes at [] [] stop end a b end_a end_b = refl
  executors_once bytes at [] (f ∷ fs) stop end a b end_a end_b =
      absurd (differ bytes at executor_word end_word executor_not_end b.1.line.begins
      (subst (λ (m : ℕ). BeginsWith end_word bytes m) a end_a))
  executors_once bytes at (e ∷ es) [] stop end a b end_a end_b =
      absurd (differ bytes at executor_word end_word executor_not_end a.1.line.begins
      (subst (λ (m : ℕ). BeginsWith end_word bytes m) b end_b))
  executors_once bytes at (e ∷ es) (f ∷ fs) stop end a b end_a end_b =
      let below = same_below executor_word executor_word bytes at b.1.below a.1.below b.1.line a.1.line in
      let first = queries_once bytes a.1.below e f a.0 b.0 a.1.asked
      (subst (λ (m : ℕ). AreQueries bytes m f b.0) below b.1.asked) (no_query_here bytes a.0 es stop a.2 end_a)
      (no_query_here bytes b.0 fs end b.2 end_b) in
      let more = executors_once bytes a.0 es fs stop end a.2
      (subst (λ (m : ℕ). AreExecutors bytes m fs end) (sym first.1) b.2) end_a end_b in
      ap (λ (x : List PlainCondition). x ∷ es) first.0 ∙ ap (λ (xs : List (List PlainCondition)). f ∷ xs) more

  pub SpellsSession-once : SpelledOnce
  SpellsSession-once bytes s r a b =
      executors_once bytes (body_of bytes) s r a.stop b.stop a.are b.are a.ended.line.begins b.ended.line.begins
