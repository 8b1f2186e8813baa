-- Small worked values of the definitions.
use Rattle.std.proofs.Common.{◌≡◌, [], length, refl, sym, ap, arith}
use Rattle.std.specs.Prelude.{codes}
use Rattle.lin_text.specs.declared.fault.SessionKind.TheVariants.{NoEnd, Syntax}
use Rattle.lin_text.specs.Lines.{is_skipped, first_line}
use Rattle.lin_text.specs.Tokens.{token_from, token_here, token_length}
use Rattle.lin_text.specs.Pieces.{word, plain_token, piece_of, name_piece}
use Rattle.lin_text.specs.LineLaws.{LinesAreInOrder}
use Rattle.session_text.specs.Words.{green_word, one_digit, executor_word, query_word, end_word, IsHeader}
use Rattle.session_text.specs.Sessions.{SpellsSession}
use Rattle.session_text.specs.Faults.{nothing_seen, HasFault}
use Rattle.session_text.proofs.WordLemmas.{executor_not_query, query_not_end}
use Rattle.session_text.proofs.Wholes.{whole_fault, no_end, first_refused}
use Rattle.session_text.proofs.Steps.{cant_begin}

-- the header and the end line alone spell the session of no executors
check_empty : SpellsSession (codes "green 1\nend\n") []
unfolding first_line is_skipped token_from token_here token_length plain_token piece_of name_piece green_word one_digit
    end_word
check_empty = record {
  header = record { green = refl; one = refl; ends = refl };
  stop = 8;
  are = refl;
  ended = record { below = 12; line = record { begins = refl; ends = refl; next = refl }; whole = refl };
  fits = record { few_executors = omega arith; few_queries = omega arith };
}

-- `01` is no number of a header
check_zero : ¬ IsHeader (codes "green 01\nend\n") 0
unfolding token_from token_here token_length plain_token one_digit
check_zero h = let two : 2 ≡ 1 = ap length h.one in omega (arith, two)

-- nothing follows the header
check_no_end : HasFault (codes "green 1\n") NoEnd 8
unfolding first_line is_skipped token_from token_here token_length plain_token piece_of name_piece green_word one_digit
check_no_end = whole_fault (codes "green 1\n") (record { green = refl; one = refl; ends = refl }) NoEnd 8
    (no_end (codes "green 1\n") nothing_seen 8 refl (λ e. cc))

-- a query before the first executor
check_query_first : LinesAreInOrder → HasFault (codes "green 1\nquery\nend\n") Syntax 8
unfolding first_line is_skipped token_from token_here token_length plain_token piece_of name_piece green_word one_digit
    executor_word query_word end_word
check_query_first in_order =
    whole_fault (codes "green 1\nquery\nend\n") (record { green = refl; one = refl; ends = refl }) Syntax 8
    (first_refused in_order (codes "green 1\nquery\nend\n") nothing_seen 8 (λ ps. refl) (omega arith)
    (cant_begin 0 (word (codes "query")) (λ e.
    executor_not_query (let same : codes "query" ≡ codes "executor" = cc in sym same)) (λ e. refl)
    (λ e. query_not_end (let same : codes "query" ≡ codes "end" = cc in same))))
