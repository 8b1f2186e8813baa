-- The words of a session, and what a token is.
use Rattle.std.proofs.Common.{◌≡◌, ℕ, Bool, true, false, cond, List, refl, sym, ap, subst, ◌∙◌, get_or, arith, inl, inr}
use Rattle.std.proofs.Common.{◌⊎◌}
use Rattle.std.specs.Prelude.{bytes_eq, codes}
use Rattle.std.proofs.lemmas.Slice.Eq.{bytes_eq-Decides}
use Rattle.lin_text.specs.Pieces.{Piece, var, word, name, compare, plus, minus, times, name_piece, symbol_piece}
use Rattle.lin_text.specs.Pieces.{is_word, sign_of}
use Rattle.session_text.specs.declared.class.Class.{Class}
use Rattle.session_text.specs.declared.class.Class.TheVariants.{Executor, Query, End, Other}
use Rattle.session_text.specs.Words.{executor_word, query_word, end_word}
use Rattle.session_text.specs.Classes.{class_of, class_of_word}

-- two texts that are equal by the test are equal
pub same_bytes : (xs ys : List ℕ) → bytes_eq xs ys ≡ true → xs ≡ ys
same_bytes xs ys e = (bytes_eq-Decides xs ys).0 e

pub bytes_eq-is : (xs ys : List ℕ) → xs ≡ ys → bytes_eq xs ys ≡ true
bytes_eq-is xs ys e = (bytes_eq-Decides xs ys).1 e

-- the words differ
pub executor_not_query : executor_word ≡ query_word → ⊥
unfolding executor_word query_word
executor_not_query e = let first : get_or (codes "executor") 0 0
    ≡ get_or (codes "query") 0 0 = ap (λ (xs : List ℕ). get_or xs 0 0) e in omega (arith, first)

pub executor_not_end : executor_word ≡ end_word → ⊥
unfolding executor_word end_word
executor_not_end e = let second : get_or (codes "executor") 1 0
    ≡ get_or (codes "end") 1 0 = ap (λ (xs : List ℕ). get_or xs 1 0) e in omega (arith, second)

pub query_not_end : query_word ≡ end_word → ⊥
unfolding query_word end_word
query_not_end e = let first : get_or (codes "query") 0 0
    ≡ get_or (codes "end") 0 0 = ap (λ (xs : List ℕ). get_or xs 0 0) e in omega (arith, first)

-- what a name or a word is
by_words : (text : List ℕ) (v w : Bool) → bytes_eq text executor_word ≡ false → bytes_eq text query_word ≡ false
    → bytes_eq text end_word ≡ false → class_of (cond v var (cond w (word text) (name text))) ≡ Other
by_words text true w e q d = refl
by_words text false false e q d = refl
by_words text false true e q d =
    ap (λ (b : Bool). cond b Executor (cond (bytes_eq text query_word) Query
    (cond (bytes_eq text end_word) End Other))) e
    ∙ ap (λ (b : Bool). cond b Query (cond (bytes_eq text end_word) End Other)) q
    ∙ ap (λ (b : Bool). cond b End Other) d

is_executor : (text : List ℕ) → text ≡ executor_word → class_of (name_piece false text) ≡ Executor
unfolding name_piece executor_word
is_executor text e = subst (λ (t : List ℕ). class_of (name_piece false t) ≡ Executor) (sym e) refl

is_query : (text : List ℕ) → text ≡ query_word → class_of (name_piece false text) ≡ Query
unfolding name_piece executor_word query_word
is_query text e = subst (λ (t : List ℕ). class_of (name_piece false t) ≡ Query) (sym e) refl

is_end : (text : List ℕ) → text ≡ end_word → class_of (name_piece false text) ≡ End
unfolding name_piece executor_word query_word end_word
is_end text e = subst (λ (t : List ℕ). class_of (name_piece false t) ≡ End) (sym e) refl

is_other : (text : List ℕ) → bytes_eq text executor_word ≡ false → bytes_eq text query_word ≡ false
    → bytes_eq text end_word ≡ false → class_of (name_piece false text) ≡ Other
unfolding name_piece
is_other text e q d = by_words text (bytes_eq text (codes "var")) (is_word false text) e q d

pub class_of-name_piece : (text : List ℕ) → class_of (name_piece false text) ≡ class_of_word text
class_of-name_piece text =
    elim (bytes_eq text executor_word) as (λ b. bytes_eq text executor_word ≡ b
    → class_of (name_piece false text) ≡ cond b Executor
    (cond (bytes_eq text query_word) Query (cond (bytes_eq text end_word) End Other))) [
      | true ↦ λ e. is_executor text (same_bytes text executor_word e)
      | false ↦ λ e. elim (bytes_eq text query_word) as (λ b. bytes_eq text query_word ≡ b
          → class_of (name_piece false text) ≡ cond b Query (cond (bytes_eq text end_word) End Other)) [
            | true ↦ λ q. is_query text (same_bytes text query_word q)
            | false ↦ λ q. elim (bytes_eq text end_word) as (λ b. bytes_eq text end_word ≡ b
                → class_of (name_piece false text) ≡ cond b End Other) [
                  | true ↦ λ d. is_end text (same_bytes text end_word d)
                  | false ↦ λ d. is_other text e q d
                ] refl
          ] refl
    ] refl

pub ruleset class_of_name = (class_of-name_piece)

by_signs : (p m t : Bool) (text : List ℕ) → class_of
    (cond p plus (cond m minus (cond t times (compare (sign_of text))))) ≡ Other
by_signs true m t text = refl
by_signs false true t text = refl
by_signs false false true text = refl
by_signs false false false text = refl

pub class_of-symbol_piece : (text : List ℕ) → class_of (symbol_piece text) ≡ Other
unfolding symbol_piece
class_of-symbol_piece text =
    by_signs (bytes_eq text (codes "+")) (bytes_eq text (codes "-")) (bytes_eq text (codes "*")) text

pub ruleset class_of_others = (class_of-symbol_piece)

-- the words, by class

by_word : (w : List ℕ) (c : Class) → class_of_word w ≡ c
    → ((w ≡ executor_word) × (c ≡ Executor)) ⊎ ((w ≡ query_word) × (c ≡ Query)) ⊎ ((w ≡ end_word) × (c ≡ End))
    ⊎ (c ≡ Other)
by_word w c h =
    elim (bytes_eq w executor_word) as (λ b. bytes_eq w executor_word ≡ b
    → cond b Executor (cond (bytes_eq w query_word) Query (cond (bytes_eq w end_word) End Other)) ≡ c
    → ((w ≡ executor_word) × (c ≡ Executor)) ⊎ ((w ≡ query_word) × (c ≡ Query)) ⊎ ((w ≡ end_word) × (c ≡ End))
    ⊎ (c ≡ Other)) [
      | true ↦ λ e k. inl (same_bytes w executor_word e, sym k)
      | false ↦ λ e k. elim (bytes_eq w query_word) as (λ b. bytes_eq w query_word ≡ b
          → cond b Query (cond (bytes_eq w end_word) End Other) ≡ c
          → ((w ≡ executor_word) × (c ≡ Executor)) ⊎ ((w ≡ query_word) × (c ≡ Query)) ⊎ ((w ≡ end_word) × (c ≡ End))
          ⊎ (c ≡ Other)) [
            | true ↦ λ q j. inr (inl (same_bytes w query_word q, sym j))
            | false ↦ λ q j. elim (bytes_eq w end_word) as (λ b. bytes_eq w end_word ≡ b → cond b End Other ≡ c
                → ((w ≡ executor_word) × (c ≡ Executor)) ⊎ ((w ≡ query_word) × (c ≡ Query))
                ⊎ ((w ≡ end_word) × (c ≡ End))
                ⊎ (c ≡ Other)) [
                  | true ↦ λ d i. inr (inr (inl (same_bytes w end_word d, sym i)))
                  | false ↦ λ d i. inr (inr (inr (sym i)))
                ] refl j
          ] refl k
    ] refl h

pub class-query : (p : Piece) → class_of p ≡ Query → p ≡ word query_word
class-query (word w) h =
    elim (by_word w Query h) [
      | inl e ↦ absurd (let no = e.1 in cc)
      | inr a ↦ elim a [
        | inl e ↦ ap word e.0
        | inr b ↦
            elim b [ inl e ↦ absurd (let no = e.1 in cc) | inr e ↦ absurd (cc) ]
      ]
    ]
class-query _ h = absurd (cc)

pub class-end : (p : Piece) → class_of p ≡ End → p ≡ word end_word
class-end (word w) h =
    elim (by_word w End h) [
      | inl e ↦ absurd (let no = e.1 in cc)
      | inr a ↦ elim a [
        | inl e ↦ absurd (let no = e.1 in cc)
        | inr b ↦ elim b [ inl e ↦ ap word e.0 | inr e ↦ absurd (cc) ]
      ]
    ]
class-end _ h = absurd (cc)

pub query-class : (p : Piece) → p ≡ word query_word → class_of p ≡ Query
unfolding executor_word query_word end_word
query-class p h = ap class_of h

pub end-class : (p : Piece) → p ≡ word end_word → class_of p ≡ End
unfolding executor_word query_word end_word
end-class p h = ap class_of h
