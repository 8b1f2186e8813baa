-- What the words of a command line ask for.
use Rattle.std.specs.Prelude.{◌≡◌, ℕ, ◌≤◌, List, [], Option, Some, None, true, codes, length, slice_get}
use Rattle.std.specs.List.{list_all}
use Rattle.std.specs.Str.Parse.{IsNumeral, digits_value}
use Rattle.clap.specs.Words.{App, Rule, Text, built, first_of, first_value, found_of, is_simple, matches_of, new_app}
use Rattle.clap.specs.Words.{new_rule, takes, with_rule}
use Rattle.clap.specs.Faults.{is_free_app}
use Rattle.clap.specs.Takes.{default_passes}
use Rattle.clap.specs.declared.builder.action.ArgAction.TheVariants.{Set}
use Rattle.clap.specs.declared.parser.matches.ArgMatches.{ArgMatches}
use Rattle.green_cli.specs.declared.words.Command.{Command}
use Rattle.green_cli.specs.declared.words.Command.TheVariants.{Solve, Dump}

-- the option `--store`, whose one value is any text
abbrev pub store_option : Rule
store_option = record (new_rule (codes "store")) { long = Some (codes "store"); action = Some Set }

-- the option `--budget`, whose one value is any text
abbrev pub budget_option : Rule
budget_option = record (new_rule (codes "budget")) { long = Some (codes "budget"); action = Some Set }

-- the command of `clap` for the words after `solve`: these options, and the flags that each command has
abbrev pub solve_line : App
solve_line = with_rule (with_rule (new_app (codes "solve")) store_option) budget_option

-- the command of `clap` for the words after `dump`: the store has to be named
abbrev pub dump_line : App
dump_line = with_rule (new_app (codes "dump")) (record store_option { required = true })

-- the text is 1 to 10 digits, without a sign, of the number n; zeros may lead
pub record IsNumber (text : Text) (n : ℕ) : Type 0 where
  pub digits : IsNumeral 10 text
  pub short : length text ≤ 10
  pub value : digits_value 10 text ≡ n

-- the text is a number from 1 to 100,000
pub record SpellsBudget (text : Text) (splits : ℕ) : Type 0 where
  pub number : IsNumber text splits
  pub some : 1 ≤ splits
  pub few : splits ≤ 100000

-- the budget by the value of `--budget`, and 4,096 where there is none
abbrev pub IsBudget : Option Text → ℕ → Type 0
IsBudget None splits = splits ≡ 4096
IsBudget (Some text) splits = SpellsBudget text splits

-- `clap` takes the words after the first for this line: it knows them, none asks for help, and no option comes twice
unfoldable pub AreTaken : App → List Text → Type 0
AreTaken line words = takes line words ≡ true

-- What the line of a command keeps, whatever its options: `clap` reads it as a simple command without subcommands, no
-- argument has a rule on another, and each default is a value that its option takes. Options and positional arguments
-- may be required.
pub record IsLine (line : App) : Type 0 where
  pub simple : is_simple line ≡ true
  pub free : is_free_app (built line) ≡ true
  pub alone : (built line).subs ≡ []
  pub defaults : list_all default_passes (built line).top.rules ≡ true

-- the value of the option or argument of this name, in the matches that `clap` defines for the words after the first
unfoldable pub value_among : App → Text → List Text → Option Text
value_among line name words = first_of name (matches_of line words)

-- the first values that these matches give are those of the words
abbrev pub GivesValues : App → List Text → ArgMatches → Type 0
GivesValues line words matches = (name : Text) → first_value (found_of matches) name ≡ value_among line name words

-- the first word is `solve`, the words after it are taken, and the values among them give the store, if any, and the
-- budget
pub record AsksToSolve (words : List Text) (store : Option Text) (splits : ℕ) : Type 0 where
  pub first : slice_get words 0 ≡ Some (codes "solve")
  pub taken : AreTaken solve_line words
  pub store_is : value_among solve_line (codes "store") words ≡ store
  pub budget : IsBudget (value_among solve_line (codes "budget") words) splits

-- the first word is `dump`, the words after it are taken, and the value among them gives the store
pub record AsksToDump (words : List Text) (store : Text) : Type 0 where
  pub first : slice_get words 0 ≡ Some (codes "dump")
  pub taken : AreTaken dump_line words
  pub store_is : value_among dump_line (codes "store") words ≡ Some store

-- the command is what the words ask for
abbrev pub IsCommand : List Text → Command → Type 0
IsCommand words (Solve store splits) = AsksToSolve words store splits
IsCommand words (Dump store) = AsksToDump words store

-- the words ask for some command
pub record AreCommand (words : List Text) : Type 0 where
  pub command : Command
  pub asked : IsCommand words command
