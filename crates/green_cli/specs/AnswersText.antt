-- The text of the answers to a session.
use Rattle.std.specs.Prelude.{ℕ, ◌+◌, List, [], ◌∷◌, ◌++◌, length, ℤ, decimal, codes, ◌≡◌}
use Rattle.std.specs.List.{AllZip}
use Rattle.lin_model.specs.Terms.{PlainVar}
use Rattle.lin_model.specs.Conditions.{PlainCondition}
use Rattle.lin_text.specs.Spelling.{line, integer}
use Rattle.cert_check.specs.declared.reply.Reply.{Reply}
use Rattle.cert_check.specs.declared.reply.Reply.TheVariants.{Hit, Solved, Unkept, Spent}
use Rattle.cert_check.specs.declared.saved.Saved.{Saved}
use Rattle.cert_check.specs.declared.saved.Saved.TheVariants.{At, Fault, Full, Off}
use Rattle.pipeline.specs.declared.answers.Answer.{Answer}
use Rattle.pipeline.specs.declared.answers.Verdict.{Verdict}
use Rattle.pipeline.specs.declared.answers.Verdict.TheVariants.{Sat, UnsatAtom, UnsatSlice, Unknown}

-- one variable of a model
unfoldable pub value_text : PlainVar → ℤ → List ℕ
value_text var value = codes " " ++ var.name ++ codes "=" ++ integer value

-- a model: one value for each variable, in order of declaration
unfoldable pub model_text : List PlainVar → List ℤ → List ℕ
model_text [] values = []
model_text (var ∷ vars) [] = []
model_text (var ∷ vars) (value ∷ values) = value_text var value ++ model_text vars values

-- a verdict; numbers of atoms and slices count from 1
unfoldable pub verdict_text : List PlainVar → Verdict → List ℕ
verdict_text vars (Sat values) = codes "sat" ++ model_text vars values
verdict_text vars (UnsatAtom atom) = codes "unsat atom " ++ decimal (atom + 1)
verdict_text vars (UnsatSlice slice) = codes "unsat slice " ++ decimal (slice + 1)
verdict_text vars (Unknown slice) = codes "unknown slice " ++ decimal (slice + 1)

-- what the mark of an entry says of the journal, up to its end
unfoldable pub saved_text : Saved → List ℕ
saved_text (At at) = codes " saved]"
saved_text Fault = codes " fault]"
saved_text Full = codes " full]"
saved_text Off = codes "]"

-- the mark of a part; places are those of entries
unfoldable pub part_text : Reply → List ℕ
part_text (Hit entry place n) = codes " [hit " ++ decimal place ++ codes "]"
part_text (Solved entry place n saved) = codes " [new " ++ decimal place ++ saved_text saved
part_text (Unkept entry n saved) = codes " [unkept" ++ saved_text saved
part_text (Spent tree n) = codes " [spent]"

-- the marks of these parts, in order
unfoldable pub parts_text : List Reply → List ℕ
parts_text [] = []
parts_text (part ∷ parts) = part_text part ++ parts_text parts

-- an answer, without the line feed
unfoldable pub answer_text : PlainCondition → Answer → List ℕ
answer_text q answer = verdict_text q.vars answer.verdict ++ parts_text answer.parts

-- there is one answer for each query of each executor
abbrev pub HaveAnswers : List (List PlainCondition) → List (List Answer) → Type 0
HaveAnswers session answers = AllZip (λ queries script. length queries ≡ length script) session answers

-- the answers of one executor, a line each
unfoldable pub script_text : List PlainCondition → List Answer → List ℕ
script_text [] answers = []
script_text (q ∷ queries) [] = []
script_text (q ∷ queries) (answer ∷ answers) = line (answer_text q answer) ++ script_text queries answers

-- the answers of all executors
unfoldable pub executors_text : List (List PlainCondition) → List (List Answer) → List ℕ
executors_text [] scripts = []
executors_text (queries ∷ executors) [] = []
executors_text (queries ∷ executors) (answers ∷ scripts) =
    line (codes "executor") ++ script_text queries answers ++ executors_text executors scripts

-- the whole text
unfoldable pub answers_text : List (List PlainCondition) → List (List Answer) → List ℕ
answers_text session answers = line (codes "green answers 1") ++ executors_text session answers ++ line (codes "end")
