-- What is written for a session is spelled as that session.
use Rattle.std.proofs.Common.{◌≡◌, ℕ, ◌+◌, ◌≤◌, false, List, [], ◌∷◌, ◌++◌, length, take, drop, refl, sym, ap, subst}
use Rattle.std.proofs.Common.{◌∙◌, append_assoc, arith, inr, length-append, length-drop, All, flat_map}
use Rattle.std.specs.Prelude.{codes}
use Rattle.std.specs.List.{prefix_len}
use Rattle.std.proofs.lemmas.Bool.{false≢true}
use Rattle.std.proofs.lemmas.List.{drop-drop, take-append-drop, length-take-le}
use Rattle.std.proofs.lemmas.List.Elements.{All-head, All-tail}
use Rattle.lin_model.specs.Conditions.{PlainCondition, IsCondition}
use Rattle.lin_model.specs.Lists.{drop-behind}
use Rattle.lin_text.specs.Spelling.{line, condition_text}
use Rattle.lin_text.specs.Laws.{EndsQuery, WrittenIsSpelledWithin}
use Rattle.lin_text.specs.Lines.{is_in_line, is_skipped, first_line, line_from, line_below}
use Rattle.lin_text.specs.Tokens.{token_from, token_here, token_length}
use Rattle.lin_text.specs.Pieces.{PlainToken, word, line_end, plain_token, piece_of, name_piece}
use Rattle.lin_text.specs.Queries.{Spells}
use Rattle.lin_text.specs.LineLaws.{TokensMoveWithTheirText}
use Rattle.lin_text.specs.Facts.{line_from-here, line_from-end}
use Rattle.session_text.specs.Words.{green_word, one_digit, executor_word, query_word, end_word, token_at, second_at}
use Rattle.session_text.specs.Words.{IsHeader, IsWordLine}
use Rattle.session_text.specs.Sessions.{AreQueries, AreExecutors, IsEnd, body_of, SpellsSession}
use Rattle.session_text.specs.Spelling.{query_text, executor_text, session_text}
use Rattle.session_text.specs.Laws.{WrittenIsSpelled}

-- a text that begins with a line of one word, of so many bytes
record WordText (w text more : List ℕ) (n : ℕ) : Type 0 where
  to : (token_at text 0).to ≡ n
  piece : (token_at text 0).piece ≡ word w
  counts : is_skipped text ≡ false
  rest : drop n text ≡ 10 ∷ more
  in_line : prefix_len is_in_line text ≡ n

executor_begins : (more : List ℕ) → WordText executor_word (codes "executor\n" ++ more) more 8
unfolding executor_word is_skipped token_from token_here token_length plain_token piece_of name_piece
executor_begins more = record { to = refl; piece = refl; counts = refl; rest = refl; in_line = refl }

query_begins : (more : List ℕ) → WordText query_word (codes "query\n" ++ more) more 5
unfolding query_word is_skipped token_from token_here token_length plain_token piece_of name_piece
query_begins more = record { to = refl; piece = refl; counts = refl; rest = refl; in_line = refl }

end_begins : (more : List ℕ) → WordText end_word (codes "end\n" ++ more) more 3
unfolding end_word is_skipped token_from token_here token_length plain_token piece_of name_piece
end_begins more = record { to = refl; piece = refl; counts = refl; rest = refl; in_line = refl }

feed_ends : (more : List ℕ) → (token_at (10 ∷ more) 0).piece ≡ line_end
unfolding token_from token_here plain_token piece_of
feed_ends more = refl

-- how far a text goes that stands at a place
reaches : (bytes : List ℕ) (at : ℕ) (xs ys : List ℕ) → at ≤ length bytes → drop at bytes ≡ xs ++ ys
    → at + length xs ≤ length bytes
reaches bytes at xs ys le e = omega (arith, ap length e, length-append xs ys, length-drop at bytes, le)

-- the words behind a query

EndsQuery-query : (more : List ℕ) → EndsQuery false (codes "query\n" ++ more)
unfolding token_from token_here token_length plain_token piece_of name_piece
EndsQuery-query more = inr (codes "query", refl)

EndsQuery-executor : (more : List ℕ) → EndsQuery false (codes "executor\n" ++ more)
unfolding token_from token_here token_length plain_token piece_of name_piece
EndsQuery-executor more = inr (codes "executor", refl)

EndsQuery-end : (more : List ℕ) → EndsQuery false (codes "end\n" ++ more)
unfolding token_from token_here token_length plain_token piece_of name_piece
EndsQuery-end more = inr (codes "end", refl)

-- a query of a session

abbrev more_queries : List PlainCondition → List ℕ → List ℕ
more_queries qs rest = flat_map query_text qs ++ rest

queries_end : (qs : List PlainCondition) (rest : List ℕ) → EndsQuery false rest → EndsQuery false (more_queries qs rest)
unfolding query_text
queries_end [] rest ends = ends
queries_end (q ∷ qs) rest ends =
    subst (EndsQuery false) (sym (append_assoc (line (codes "query") ++ condition_text q) (flat_map query_text qs) rest
    ∙ append_assoc (line (codes "query")) (condition_text q) (more_queries qs rest)))
    (EndsQuery-query (condition_text q ++ more_queries qs rest))

query_split : (q : PlainCondition) (qs : List PlainCondition) (rest : List ℕ)
    → more_queries (q ∷ qs) rest ≡ codes "query\n" ++ (condition_text q ++ more_queries qs rest)
unfolding query_text
query_split q qs rest = append_assoc (line (codes "query") ++ condition_text q) (flat_map query_text qs) rest
    ∙ append_assoc (line (codes "query")) (condition_text q) (more_queries qs rest)

-- an executor of a session

abbrev more_executors : List (List PlainCondition) → List ℕ → List ℕ
more_executors es rest = flat_map executor_text es ++ rest

executor_split : (qs : List PlainCondition) (es : List (List PlainCondition)) (rest : List ℕ)
    → more_executors (qs ∷ es) rest ≡ codes "executor\n" ++ more_queries qs (more_executors es rest)
unfolding executor_text
executor_split qs es rest =
    append_assoc (line (codes "executor") ++ flat_map query_text qs) (flat_map executor_text es) rest
    ∙ append_assoc (line (codes "executor")) (flat_map query_text qs) (more_executors es rest)

executors_end : (es : List (List PlainCondition)) (rest : List ℕ) → EndsQuery false rest
    → EndsQuery false (more_executors es rest)
executors_end [] rest ends = ends
executors_end (qs ∷ es) rest ends =
    subst (EndsQuery false) (sym (executor_split qs es rest))
    (EndsQuery-executor (more_queries qs (more_executors es rest)))

-- the header, and the end

header_there : (more : List ℕ) → IsHeader (codes "green 1\n" ++ more) (line_from (codes "green 1\n" ++ more) 0)
unfolding first_line is_skipped token_from token_here token_length plain_token piece_of name_piece green_word one_digit
header_there more = record { green = refl; one = refl; ends = refl }

header_from : (more : List ℕ) → line_from (codes "green 1\n" ++ more) 0 ≡ 0
unfolding first_line is_skipped
header_from more = refl

body_there : (more : List ℕ) → body_of (codes "green 1\n" ++ more) ≡ 8
body_there more =
    let below : line_below (codes "green 1\n" ++ more) 0 ≡ 8 = omega (arith, length-append (codes "green 1\n") more) in
    ap (line_below (codes "green 1\n" ++ more)) (header_from more) ∙ below

session_split : (s : List (List PlainCondition))
    → session_text s ≡ codes "green 1\n" ++ more_executors s (codes "end\n")
unfolding session_text
session_split s = append_assoc (line (codes "green 1")) (flat_map executor_text s) (line (codes "end"))

-- a token moves with its text
module _ (moves : TokensMoveWithTheirText) where
  -- such a line within a text
  word_line : (bytes : List ℕ) (at : ℕ) (w text more : List ℕ) (n : ℕ) → at ≤ length bytes → drop at bytes ≡ text
      → WordText w text more n → IsWordLine w bytes at (at + (n + 1))
  word_line bytes at w text more n le e is = record {
    begins = ap (λ (m : ℕ). (token_at bytes m).piece) here ∙ piece_here;
    ends = ap (λ (m : ℕ). (second_at bytes m).piece) here ∙ second;
    next = next;
  }
    where
      here : line_from bytes at ≡ at
      here = line_from-here bytes text at (sym e) is.counts

      piece_here : (token_at bytes at).piece ≡ word w
      piece_here = ap (λ (t : PlainToken). t.piece) (moves false bytes at)
          ∙ ap (λ (xs : List ℕ). (token_at xs 0).piece) e ∙ is.piece

      to_here : (token_at bytes at).to ≡ at + n
      to_here = ap (λ (t : PlainToken). t.to) (moves false bytes at) ∙ ap (λ (xs : List ℕ). at + (token_at xs 0).to) e
          ∙ ap (λ (m : ℕ). at + m) is.to

      behind : drop (at + n) bytes ≡ 10 ∷ more
      behind = sym (drop-drop n at bytes) ∙ ap (drop n) e ∙ is.rest

      second : (second_at bytes at).piece ≡ line_end
      second = ap (λ (m : ℕ). (token_at bytes m).piece) to_here
          ∙ ap (λ (t : PlainToken). t.piece) (moves false bytes (at + n))
          ∙ ap (λ (xs : List ℕ). (token_at xs 0).piece) behind ∙ feed_ends more

      next : at + (n + 1) ≡ line_below bytes (line_from bytes at)
      next =
          let run : prefix_len is_in_line (drop at bytes) ≡ n = ap (prefix_len is_in_line) e ∙ is.in_line in
          let long : length (drop (at + n) bytes) ≡ length (10 ∷ more) = ap length behind in
          let there : at + (n + 1) ≡ line_below bytes at = omega (arith, run, long, length-drop (at + n) bytes) in
          there ∙ ap (line_below bytes) (sym here)

  end_there : (bytes : List ℕ) (at : ℕ) → at ≤ length bytes → drop at bytes ≡ codes "end\n" → IsEnd bytes at
  end_there bytes at le e =
      let long : length bytes ≡ at + 4 = omega (arith, ap length e, length-drop at bytes) in
      record {
        below = at + 4;
        line = word_line bytes at end_word (codes "end\n") [] 3 le e (end_begins []);
        whole = line_from-end bytes (at + 4) (omega (arith, long)) ∙ sym long;
      }

-- besides, what is written for a condition is spelled as that condition within a text
module _ (moves : TokensMoveWithTheirText) (condition_within : WrittenIsSpelledWithin) where
  -- a condition within a text
  condition_there : (bytes : List ℕ) (at : ℕ) (q : PlainCondition) (rest : List ℕ) → at ≤ length bytes → IsCondition q
      → EndsQuery false rest → drop at bytes ≡ condition_text q ++ rest
      → Spells false bytes at q (at + length (condition_text q))
  condition_there bytes at q rest le is ends e =
      let front : List ℕ = take at bytes in
      let all : front ++ (condition_text q ++ rest) ≡ bytes = ap (λ (xs : List ℕ). front ++ xs) (sym e)
      ∙ take-append-drop at bytes in
      let long : length front ≡ at = length-take-le at bytes le in
      subst (λ (m : ℕ). Spells false bytes m q (m + length (condition_text q))) long
      (subst (λ (xs : List ℕ). Spells false xs (length front) q (length front + length (condition_text q))) all
      (condition_within false front rest q is (λ no. absurd (false≢true no)) ends))

  queries_written : (bytes rest : List ℕ) (qs : List PlainCondition) (at : ℕ) → All IsCondition qs
      → EndsQuery false rest
      → at ≤ length bytes → drop at bytes ≡ more_queries qs rest
      → (stop : ℕ) × AreQueries bytes at qs stop × (stop ≤ length bytes) × (drop stop bytes ≡ rest)
  queries_written bytes rest [] at all ends le e = (at, refl, le, e)
  queries_written bytes rest (q ∷ qs) at all ends le e =
      let tail : List ℕ = condition_text q ++ more_queries qs rest in
      let text : drop at bytes ≡ codes "query\n" ++ tail = e ∙ query_split q qs rest in
      let below : ℕ = at + length (codes "query\n") in
      let within : below ≤ length bytes = reaches bytes at (codes "query\n") tail le text in
      let there : drop below bytes ≡ tail = drop-behind bytes at (codes "query\n") tail text in
      let stop : ℕ = below + length (condition_text q) in
      let spelled = condition_there bytes below q (more_queries qs rest) within (All-head IsCondition q qs all)
      (queries_end qs rest ends) there in
      let more = queries_written bytes rest qs stop (All-tail IsCondition q qs all) ends
      (reaches bytes below (condition_text q) (more_queries qs rest) within there)
      (drop-behind bytes below (condition_text q) (more_queries qs rest) there) in (
        more.0,
        (
          stop,
          record {
            below = below;
            line =
                word_line moves bytes at query_word (codes "query\n" ++ tail) tail 5 le text (query_begins tail);
            spelled = spelled;
          },
          more.1,
        ),
        more.2,
        more.3,
      )

  executors_written : (bytes rest : List ℕ) (es : List (List PlainCondition)) (at : ℕ) → All (All IsCondition) es
      → EndsQuery false rest → at ≤ length bytes → drop at bytes ≡ more_executors es rest
      → (stop : ℕ) × AreExecutors bytes at es stop × (stop ≤ length bytes) × (drop stop bytes ≡ rest)
  executors_written bytes rest [] at all ends le e = (at, refl, le, e)
  executors_written bytes rest (qs ∷ es) at all ends le e =
      let tail : List ℕ = more_queries qs (more_executors es rest) in
      let text : drop at bytes ≡ codes "executor\n" ++ tail = e ∙ executor_split qs es rest in
      let below : ℕ = at + length (codes "executor\n") in
      let within : below ≤ length bytes = reaches bytes at (codes "executor\n") tail le text in
      let there : drop below bytes ≡ tail = drop-behind bytes at (codes "executor\n") tail text in
      let asked = queries_written bytes (more_executors es rest) qs below (All-head (All IsCondition) qs es all)
      (executors_end es rest ends) within there in
      let more =
      executors_written bytes rest es asked.0 (All-tail (All IsCondition) qs es all) ends asked.2 asked.3 in (
        more.0,
        (
          asked.0,
          record {
            below = below;
            line = word_line moves bytes at executor_word (codes "executor\n" ++ tail) tail 8 le text
                (executor_begins tail);
            asked = asked.1;
          },
          more.1,
        ),
        more.2,
        more.3,
      )

  pub SpellsSession-written : WrittenIsSpelled
  SpellsSession-written s fits all =
      let tail : List ℕ = more_executors s (codes "end\n") in
      let bytes : List ℕ = codes "green 1\n" ++ tail in
      let body : body_of bytes ≡ 8 = body_there tail in
      let read = executors_written bytes (codes "end\n") s 8 all (EndsQuery-end [])
      (omega (arith, length-append (codes "green 1\n") tail)) refl in
      subst (λ (xs : List ℕ). SpellsSession xs s) (sym (session_split s)) (record {
        header = header_there tail;
        stop = read.0;
        are = subst (λ (m : ℕ). AreExecutors bytes m s read.0) (sym body) read.1;
        ended = end_there moves bytes read.0 read.2 read.3;
        fits = fits;
      })
