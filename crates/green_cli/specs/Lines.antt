-- The lines that tell of a fault.
use Rattle.std.specs.Prelude.{ℕ, List, [], ◌++◌, codes, decimal}
use Rattle.lin_text.specs.Spelling.{line}
use Rattle.lin_text.specs.declared.fault.SessionFault.{SessionFault}
use Rattle.lin_text.specs.declared.fault.SessionKind.{SessionKind}
use Rattle.lin_text.specs.declared.fault.SessionKind.TheVariants.{BadHeader, TooManyExecutors, TooManyQueries, NoEnd}
use Rattle.lin_text.specs.declared.fault.SessionKind.TheVariants.{Token, Syntax, NumberTooLarge, UnknownName, NameTwice}
use Rattle.lin_text.specs.declared.fault.SessionKind.TheVariants.{EmptyRange, TooManyVars, TooManyAtoms, TooManyTerms}
use Rattle.lin_text.specs.declared.fault.SessionKind.TheVariants as kind
use Rattle.green_cli.specs.declared.fault.Fault.{Fault}
use Rattle.green_cli.specs.declared.fault.Fault.TheVariants.{Usage, Text, Read, Disk, NoMemory, NotJournal, TooLong}

-- the printed name of each kind of fault; want of memory is no fault of a text and has none
unfoldable pub kind_text : SessionKind → List ℕ
kind_text BadHeader = codes "bad-header"
kind_text TooManyExecutors = codes "too-many-executors"
kind_text TooManyQueries = codes "too-many-queries"
kind_text TooManyVars = codes "too-many-vars"
kind_text TooManyAtoms = codes "too-many-atoms"
kind_text TooManyTerms = codes "too-many-terms"
kind_text Token = codes "token"
kind_text Syntax = codes "syntax"
kind_text NumberTooLarge = codes "number-too-large"
kind_text UnknownName = codes "unknown-name"
kind_text NameTwice = codes "name-twice"
kind_text EmptyRange = codes "empty-range"
kind_text NoEnd = codes "no-end"
kind_text kind.NoMemory = []

-- a fault of a text: its line, its column and its kind
unfoldable pub text_line : SessionFault → List ℕ
text_line fault =
    line (codes "fault text " ++ decimal fault.line ++ codes " " ++ decimal fault.column ++ codes " " ++ kind_text
    fault.kind)

-- the line of each fault
unfoldable pub line_of : Fault → List ℕ
line_of Usage = line (codes "fault usage")
line_of (Text fault) = text_line fault
line_of Read = line (codes "fault read")
line_of Disk = line (codes "fault disk")
line_of NoMemory = line (codes "fault memory")
line_of NotJournal = line (codes "fault not-a-journal")
line_of TooLong = line (codes "fault too-long")
