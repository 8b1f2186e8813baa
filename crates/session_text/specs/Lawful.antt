-- Three laws of the texts of queries, handed on together.
use Rattle.lin_text.specs.Laws.{SpelledLinesHaveNoFault, WordsStandInNoLine}
use Rattle.lin_text.specs.LineLaws.{LinesAreInOrder}

-- lines and tokens are in order, no line of a query has a reserved word but `var`, and lines that spell a condition
-- have no fault
pub record TextsAreLawful : Type 0 where
  pub in_order : LinesAreInOrder
  pub no_word : WordsStandInNoLine
  pub no_fault : SpelledLinesHaveNoFault
