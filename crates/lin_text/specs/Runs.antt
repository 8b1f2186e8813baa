-- The bytes of which a run is made.
use Rattle.std.specs.Prelude.{ℕ, Bool}
use Rattle.lin_model.specs.Names.{is_name_byte, is_digit}
use Rattle.lin_text.specs.Lines.{is_blank, is_in_line}
use Rattle.lin_text.specs.declared.run.Run.{Run}
use Rattle.lin_text.specs.declared.run.Run.TheVariants.{Blanks, Line, Name, Digits}

-- the byte belongs to the run
abbrev pub is_in : Run → ℕ → Bool
is_in Blanks = is_blank
is_in Line = is_in_line
is_in Name = is_name_byte
is_in Digits = is_digit
