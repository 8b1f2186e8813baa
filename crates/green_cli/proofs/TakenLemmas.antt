-- Words in which `clap` finds no fault are taken, whatever the line of the command.
use Rattle.std.proofs.Common.{◌≡◌, ◌&&◌, ◌||◌, ℕ, zero, suc, Bool, true, false, not, refl, sym, ap, ◌∙◌, List}
use Rattle.std.proofs.Common.{[], ◌∷◌, length, drop, is_some, nat_le, Option, Some, None, true≢false, arith, codes}
use Rattle.std.proofs.lemmas.Bool.{and_from}
use Rattle.std.proofs.lemmas.Bool.Decides.{nat_tests}
use Rattle.std.specs.Prelude.{if◌then◌else◌, encode_utf8, slice_get}
use Rattle.std.specs.Option.{option_map_or}
use Rattle.std.specs.List.{list_all, list_any}
use Rattle.std.specs.Str.{bytes_eq, chars}
use Rattle.clap.specs.Lexer.{long_of, short_of}
use Rattle.clap.specs.Matches.{first_value, found_of}
use Rattle.clap.specs.Facts.{explicit_source, parser_of_value, unwrap_or_range}
use Rattle.clap.specs.Values.{refused_kind}
use Rattle.clap.specs.ValueTests.{accepts}
use Rattle.clap.specs.Kinds.{Kinds, check_kinds, or_else, range_kinds, value_kinds, values_kinds}
use Rattle.clap.specs.Walk.{Held, Names, Row, Rule, Step, Text, Walk, action_of, arg_by_id, arg_by_index, arg_by_long}
use Rattle.clap.specs.Walk.{arg_by_short, attached_value, finished, first_of, has_row, is_pending, most_values, next}
use Rattle.clap.specs.Walk.{nothing_held, reacted, settled, subcommand, subcommand_met, takes_several, takes_values}
use Rattle.clap.specs.Walk.{trailing, value, values_or_missing, walk, walk_from, walked, word_met}
use Rattle.clap.specs.Simple.{App, HasMatchesOf, Shape, argument_words, built}
use Rattle.clap.specs.Takes.{is_given, action_passes, bundle_passes, bundle_step_passes, count_passes, default_passes}
use Rattle.clap.specs.Takes.{flag_word_passes, flags_pass, is_valid, level_passes, long_passes, option_passes}
use Rattle.clap.specs.Takes.{other_passes, positional_passes, react_passes, set_passes, settle_passes, short_passes}
use Rattle.clap.specs.Takes.{step_passes, takes, turn_passes, use_passes, values_pass, walk_passes, word_passes}
use Rattle.clap.specs.Faults.{action_fault, bundle_fault, bundle_step_fault, check_fault, count_fault, defaults_fault}
use Rattle.clap.specs.Faults.{fault_of, flag_word_fault, flags_fault, has_free_rules, is_simple_and_free}
use Rattle.clap.specs.Faults.{level_fault, long_fault, option_fault, other_fault, positional_fault, react_fault}
use Rattle.clap.specs.Faults.{repeat_fault, set_fault, settle_fault, short_fault, step_fault, stray_fault, turn_fault}
use Rattle.clap.specs.Faults.{use_fault, values_fault, walk_fault, word_fault}
use Rattle.clap.specs.declared.builder.action.ArgAction.{ArgAction}
use Rattle.clap.specs.declared.builder.action.ArgAction.TheVariants.{Set, Append, SetTrue, SetFalse, Count, Help}
use Rattle.clap.specs.declared.builder.action.ArgAction.TheVariants.{HelpShort, HelpLong, Version}
use Rattle.clap.specs.declared.builder.value_parser.ValueParser.{ValueParser}
use Rattle.clap.specs.declared.error.kind.ErrorKind.{ErrorKind}
use Rattle.clap.specs.declared.error.kind.ErrorKind.TheVariants.{ArgumentConflict, DisplayHelp, InvalidSubcommand}
use Rattle.clap.specs.declared.error.kind.ErrorKind.TheVariants.{TooManyValues, UnknownArgument}
use Rattle.clap.specs.declared.parser.matches.ArgMatches.{ArgMatches}
use Rattle.clap.proofs.FaultLemmas.{leaf_fault}
use Rattle.clap.proofs.TakesLemmas.{leaf_takes}
use Rattle.clap.proofs.WalkLemmas.{both, first_value-rows}
use Rattle.green_cli.specs.Words.{AreTaken, IsLine, value_among}

-- ---- steps of tests and of lists of kinds

no_kinds : (a b : Kinds) → or_else a b ≡ [] → (a ≡ []) × (b ≡ [])
no_kinds [] b e = (refl, e)
no_kinds (k ∷ ks) b e = cc

taken_if : (b : Bool) (k : ErrorKind) (ks : Kinds) → (if b then [] else k ∷ ks) ≡ [] → b ≡ true
taken_if true k ks e = refl
taken_if false k ks e = cc

taken_unless : (b c : Bool) (k : ErrorKind) (ks : Kinds) → (if b && not c then k ∷ ks else []) ≡ []
    → (not b || c) ≡ true
taken_unless true true k ks e = refl
taken_unless true false k ks e = cc
taken_unless false c k ks e = refl

taken_or : (b : Bool) (x : Kinds) (p : Bool) → (x ≡ [] → p ≡ true) → (if b then [] else x) ≡ [] → (b || p) ≡ true
taken_or true x p f e = refl
taken_or false x p f e = f e

taken_either : (b : Bool) (x y : Kinds) (p q : Bool) → (x ≡ [] → p ≡ true) → (y ≡ [] → q ≡ true)
    → (if b then x else y) ≡ [] → (if b then p else q) ≡ true
taken_either true x y p q f g e = f e
taken_either false x y p q f g e = g e

taken_both : (x y : Kinds) (p q : Bool) → (x ≡ [] → p ≡ true) → (y ≡ [] → q ≡ true) → or_else x y ≡ [] → (p && q) ≡ true
taken_both x y p q f g e = and_from p q (f (no_kinds x y e).0) (g (no_kinds x y e).1)

taken_option : {X : Type 0} (o : Option X) (x : X → Kinds) (y : Kinds) (p : X → Bool) (q : Bool)
    → ((v : X) → x v ≡ [] → p v ≡ true) → (y ≡ [] → q ≡ true)
    → option_map_or x o y ≡ [] → option_map_or p o q ≡ true
taken_option None x y p q f g e = g e
taken_option (Some v) x y p q f g e = f v e

-- ---- one use of an argument

values_taken : (ignore_case : Bool) (parser : ValueParser) (vs : List Text) → values_kinds ignore_case parser vs ≡ []
    → list_all (accepts ignore_case parser) vs ≡ true
values_taken ignore_case parser [] e = refl
values_taken ignore_case parser (v ∷ vs) e =
    taken_both (value_kinds ignore_case parser v) (values_kinds ignore_case parser vs) (accepts ignore_case parser v)
    (list_all (accepts ignore_case parser) vs)
    (taken_if (accepts ignore_case parser v) (refused_kind parser) []) (values_taken ignore_case parser vs) e

range_taken : (least most n : ℕ) → range_kinds least most n ≡ [] → (nat_le least n ≡ true) × (nat_le n most ≡ true)
range_taken least most n e = (grind (arith, nat_tests), grind (arith, nat_tests))

set_taken : (again : Bool) (a : Rule) (values : List Text) (rows : List Row) → set_fault again a values rows ≡ []
    → set_passes again a values rows ≡ true
set_taken again a values rows e =
    taken_both (repeat_fault again a.id rows) (values_fault a values) (not (has_row a.id rows) || again)
    (values_pass a values)
    (taken_unless (has_row a.id rows) again ArgumentConflict [])
    (values_taken a.ignore_case (parser_of_value a.parser) values) e

count_taken : (a : Rule) (values : List Text) (rows : List Row) → count_fault a values rows ≡ []
    → count_passes a values rows ≡ true
count_taken a [] rows e = taken_if _ (refused_kind (parser_of_value a.parser)) [] e
count_taken a (v ∷ vs) rows e = values_taken a.ignore_case (parser_of_value a.parser) (v ∷ vs) e

action_taken : (x : ArgAction) (again : Bool) (a : Rule) (values : List Text) (rows : List Row)
    → action_fault x again a values rows ≡ [] → action_passes x again a values rows ≡ true
action_taken Set again a values rows e = set_taken again a values rows e
action_taken SetTrue again a values rows e = set_taken again a values rows e
action_taken SetFalse again a values rows e = set_taken again a values rows e
action_taken Append again a values rows e = values_taken a.ignore_case (parser_of_value a.parser) values e
action_taken Count again a values rows e = count_taken a values rows e
action_taken Help again a values rows e = cc
action_taken HelpShort again a values rows e = cc
action_taken HelpLong again a values rows e = cc
action_taken Version again a values rows e = cc

use_taken : (again : Bool) (a : Rule) (values : List Text) (rows : List Row) → use_fault again a values rows ≡ []
    → use_passes again a values rows ≡ true
use_taken again a values rows e =
    let least = (unwrap_or_range a.range).start_inclusive in
    let parts = no_kinds (range_kinds least (most_values a) (length values))
    (action_fault (action_of a) again a (values_or_missing a values) rows) e in
    let range = range_taken least (most_values a) (length values) parts.0 in
    and_from _ _ range.0 (and_from _ _ range.1
    (action_taken (action_of a) again a (values_or_missing a values) rows parts.1))

-- ---- a word

module _ (c : List Rule) (again : Bool) where
  settle_taken : (h : Held) → settle_fault c again h ≡ [] → settle_passes c again h ≡ true
  settle_taken h =
      taken_option h.pending (λ p. option_map_or (λ a. use_fault again a p.1 h.rows) (arg_by_id c p.0) []) []
      (λ p. option_map_or (λ a. use_passes again a p.1 h.rows) (arg_by_id c p.0) true) true
      (λ p. taken_option (arg_by_id c p.0) (λ a. use_fault again a p.1 h.rows) [] (λ a. use_passes again a p.1 h.rows)
      true (λ a. use_taken again a p.1 h.rows) (λ _. refl))
      (λ _. refl)

  react_taken : (a : Rule) (values : List Text) (h : Held) → react_fault c again a values h ≡ []
      → react_passes c again a values h ≡ true
  react_taken a values h =
      taken_both (settle_fault c again h) (use_fault again a values (settled c h).rows) (settle_passes c again h)
      (use_passes again a values (settled c h).rows)
      (settle_taken h) (use_taken again a values (settled c h).rows)

  option_taken : (a : Rule) (v : Option Text) (h : Held) → option_fault c again a v h ≡ []
      → option_passes c again a v h ≡ true
  option_taken a (Some v) h e = react_taken a (v ∷ []) h e
  option_taken a None h e = settle_taken h e

  flag_taken : (a : Rule) (v : Option Text) (h : Held)
      → (if is_some v then TooManyValues ∷ [] else react_fault c again a [] h) ≡ []
      → (not (is_some v) && react_passes c again a [] h) ≡ true
  flag_taken a (Some v) h e = cc
  flag_taken a None h e = react_taken a [] h e

  long_taken : (found : Option Rule) (v : Option Text) (h : Held) → long_fault c again found v h ≡ []
      → long_passes c again found v h ≡ true
  long_taken None v h e = cc
  long_taken (Some a) v h e =
      taken_either (takes_values a) (option_fault c again a v h)
      (if is_some v then TooManyValues ∷ [] else react_fault c again a [] h)
      (option_passes c again a v h) (not (is_some v) && react_passes c again a [] h) (option_taken a v h)
      (flag_taken a v h) e

  short_taken : (found : Option Rule) (rest : Text) (h : Held) (x : Held → Kinds) (p : Held → Bool)
      → ((g : Held) → x g ≡ [] → p g ≡ true)
      → short_fault c again found rest h x ≡ [] → short_passes c again found rest h p ≡ true
  short_taken None rest h x p f e = cc
  short_taken (Some a) rest h x p f e =
      taken_either (takes_values a) (option_fault c again a (attached_value rest) h)
      (or_else (react_fault c again a [] h) (x (reacted c a [] h)))
      (option_passes c again a (attached_value rest) h) (react_passes c again a [] h && p (reacted c a [] h))
      (option_taken a (attached_value rest) h)
      (taken_both (react_fault c again a [] h) (x (reacted c a [] h)) (react_passes c again a [] h)
      (p (reacted c a [] h)) (react_taken a [] h) (f (reacted c a [] h))) e

  step_of_bundle_taken : (first : Option ℕ) (flags : Text) (skip : ℕ) (h : Held) (x : Text → ℕ → Held → Kinds)
      (p : Text → ℕ → Held → Bool)
      → ((t : Text) (k : ℕ) (g : Held) → x t k g ≡ [] → p t k g ≡ true)
      → bundle_step_fault c again first flags skip h x ≡ [] → bundle_step_passes c again first flags skip h p ≡ true
  step_of_bundle_taken None flags skip h x p f e = refl
  step_of_bundle_taken (Some k) flags zero h x p f e =
      let rest = drop (length (encode_utf8 k)) flags in
      short_taken (arg_by_short c k) rest h (x rest 0) (p rest 0) (f rest 0) e
  step_of_bundle_taken (Some k) flags (suc skip) h x p f e = f (drop (length (encode_utf8 k)) flags) skip h e

  flags_taken : (k : ℕ) (flags : Text) (skip : ℕ) (h : Held) → flags_fault c again k flags skip h ≡ []
      → flags_pass c again k flags skip h ≡ true
  unfolding flags_fault flags_pass
  flags_taken zero flags skip h e = refl
  flags_taken (suc k) flags skip h e = step_of_bundle_taken (slice_get (chars flags) 0) flags skip h
      (flags_fault c again k) (flags_pass c again k) (flags_taken k) e

  flag_word_taken : (named : Option (Text × Option Text)) (word : Text) (h : Held)
      → flag_word_fault c again named word h ≡ [] → flag_word_passes c again named word h ≡ true
  flag_word_taken (Some p) word h e = long_taken (arg_by_long c p.0) p.1 h e
  flag_word_taken None word h e =
      taken_option (short_of word) (λ flags. bundle_fault c again flags h) [] (λ flags. bundle_passes c again flags h)
      true
      (λ flags. flags_taken (length flags) flags h.skip (record h { skip = 0 })) (λ _. refl) e

  positional_taken : (a : Rule) (h : Held) → positional_fault c again a h ≡ [] → positional_passes c again a h ≡ true
  positional_taken a h = taken_or (is_pending a h.pending && takes_several a) (settle_fault c again h)
      (settle_passes c again h) (settle_taken h)

-- ---- all words

module _ (s : Shape) where
  other_taken : (name : Option Text) (word : Text) (h : Held) → other_fault s name word h ≡ []
      → other_passes s name word h ≡ true
  other_taken (Some name) word h e = taken_unless (bytes_eq name (codes "help")) s.disable_help_subcommand DisplayHelp
      (InvalidSubcommand ∷ []) e
  other_taken None word h e =
      taken_or (bytes_eq word (45 ∷ 45 ∷ [])) (flag_word_fault s.rules s.args_override_self (long_of word) word h)
      (flag_word_passes s.rules s.args_override_self (long_of word) word h)
      (flag_word_taken s.rules s.args_override_self (long_of word) word h) e

  no_stray : stray_fault s ≡ [] → false ≡ true
  no_stray e = go s.is_leaf e
    where
      go : (b : Bool) → (if b then UnknownArgument ∷ [] else UnknownArgument ∷ InvalidSubcommand ∷ []) ≡ []
          → false ≡ true
      go true e = cc
      go false e = cc

  step_taken : (position : ℕ) (h : Held) (step : Step) → step_fault s position h step ≡ []
      → step_passes s position h step ≡ true
  step_taken position h (next waiting) e = refl
  step_taken position h (trailing p) e = refl
  step_taken position h (subcommand name) e = refl
  step_taken position h value e =
      taken_option (arg_by_index s.rules position) (λ a. positional_fault s.rules s.args_override_self a h)
      (stray_fault s) (λ a. positional_passes s.rules s.args_override_self a h) false
      (λ a. positional_taken s.rules s.args_override_self a h) no_stray e

  turn_taken : (names : Names) (w : Walk) (word : Text) → turn_fault s names w word ≡ []
      → turn_passes s names w word ≡ true
  turn_taken names w word =
      let met = word_met s.rules names w.is_trailing w.waiting w.position word w.held in
      let named = subcommand_met names w.waiting word in
      taken_or (is_some w.stopped) (or_else (word_fault s names w.is_trailing w.waiting word w.held)
      (step_fault s w.position met.0 met.1))
      (word_passes s names w.is_trailing w.waiting word w.held && step_passes s w.position met.0 met.1)
      (taken_both (word_fault s names w.is_trailing w.waiting word w.held) (step_fault s w.position met.0 met.1)
      (word_passes s names w.is_trailing w.waiting word w.held) (step_passes s w.position met.0 met.1)
      (taken_or w.is_trailing (other_fault s named word w.held) (other_passes s named word w.held)
      (other_taken named word w.held))
      (step_taken w.position met.0 met.1))

  walk_taken : (names : Names) (w : Walk) (words : List Text) → walk_fault s names w words ≡ []
      → walk_passes s names w words ≡ true
  unfolding walk_fault walk_passes
  walk_taken names w [] e = refl
  walk_taken names w (word ∷ rest) e =
      let after = walked s.rules names w word in
      taken_both (turn_fault s names w word) (walk_fault s names after rest) (turn_passes s names w word)
      (walk_passes s names after rest)
      (turn_taken names w word) (walk_taken names after rest) e

-- ---- after the words

-- which of the three last checks failed, where none did
check_none : (p q r : Bool) → check_kinds p q r ≡ [] → (p ≡ false) × (q ≡ false) × (r ≡ false)
check_none true q r e = cc
check_none false true r e = cc
check_none false false true e = cc
check_none false false false e = (refl, refl, refl)

no_help : (wanted given : Bool) → (wanted && not given) ≡ false → (not wanted || given) ≡ true
no_help true true e = refl
no_help true false e = absurd (true≢false e)
no_help false given e = refl

no_subcommand : (wanted : Bool) → wanted ≡ false → (not wanted || false) ≡ true
no_subcommand wanted e = rw e refl

neither : (a b : Bool) → (a || b) ≡ false → (a ≡ false) × (b ≡ false)
neither true b e = absurd (true≢false e)
neither false b e = (refl, e)

-- no required argument is missing
none_missing : (given : Rule → Bool) (rules : List Rule) → list_any (λ a. a.required && not (given a)) rules ≡ false
    → list_all (λ a. not a.required || given a) rules ≡ true
none_missing given [] e = refl
none_missing given (a ∷ rules) e =
    let parts = neither (a.required && not (given a)) (list_any (λ b. b.required && not (given b)) rules) e in
    and_from _ _ (no_help a.required (given a) parts.0) (none_missing given rules parts.1)

asked_for : (negates missing : Bool) → (not (negates && false) && missing) ≡ false → missing ≡ false
asked_for true missing e = e
asked_for false missing e = e

negated_or : (negates fine : Bool) → fine ≡ true → ((negates && false) || fine) ≡ true
negated_or true fine e = e
negated_or false fine e = e

valid_taken : (s : Shape) (rows : List Row) → has_free_rules s ≡ true → check_fault s rows false ≡ []
    → is_valid s rows false ≡ true
valid_taken s rows free e =
    let given = list_any (λ (r : Row). explicit_source r.source) rows in
    let missing = list_any (λ (a : Rule). a.required && not (is_given a.id rows)) s.rules in
    let none = check_none (s.arg_required_else_help && not given) s.subcommand_required
    (not (s.subcommand_negates_reqs && false) && missing) e in
    and_from _ _ (no_help s.arg_required_else_help given none.0)
    (and_from _ _ (no_subcommand s.subcommand_required none.1)
    (and_from _ _ free
    (negated_or s.subcommand_negates_reqs _
    (none_missing (λ a. is_given a.id rows) s.rules (asked_for s.subcommand_negates_reqs missing none.2)))))

-- one level of words, where no default can fail
level_taken : (s : Shape) (h : Held) (words : List Text) → list_all default_passes s.rules ≡ true
    → has_free_rules s ≡ true → level_fault s [] h words false [] ≡ [] → level_passes s [] h words false ≡ true
level_taken s h words defaults free e =
    let end = (walk s.rules [] h words).held in
    let check = check_fault s (finished s.rules end) false in
    let rest = or_else (defaults_fault (settled s.rules end).rows s.rules) check in
    let settle = settle_fault s.rules s.args_override_self end in
    let parts = no_kinds (walk_fault s [] (walk_from h) words) (or_else settle rest) e in
    let after = no_kinds settle rest parts.1 in
    let last = no_kinds (defaults_fault (settled s.rules end).rows s.rules) check after.1 in
    and_from _ _ (walk_taken s [] (walk_from h) words parts.0)
    (and_from _ _ (settle_taken s.rules s.args_override_self end after.0)
    (and_from _ _ defaults (valid_taken s (finished s.rules end) free last.1)))

-- ---- a line

no_fault_taken : (line : App) (words : List Text) → IsLine line → fault_of line words ≡ [] → takes line words ≡ true
no_fault_taken line words is e =
    let a = built line in
    let behind = argument_words line words in
    let free = (both (has_free_rules a.top) (list_all has_free_rules a.subs) is.free).0 in
    and_from _ _ is.simple
    (leaf_takes a nothing_held behind is.alone
    (level_taken a.top nothing_held behind is.defaults free (sym (leaf_fault a nothing_held behind is.alone) ∙ e)))

-- a parse without a fault says that the words are taken
pub taken_by : (line : App) (words : List Text) → IsLine line
    → (is_simple_and_free line ≡ true → fault_of line words ≡ []) → AreTaken line words
unfolding AreTaken
taken_by line words is none = no_fault_taken line words is (none (and_from _ _ is.simple is.free))

-- words that are taken are so by the test that clauses of `clap` cite
pub takes_by : (line : App) (words : List Text) → AreTaken line words → takes line words ≡ true
unfolding AreTaken
takes_by line words taken = taken

-- the value that the matches give is that of the words
pub value_by : (line : App) (id : Text) (words : List Text) (m : ArgMatches) → IsLine line
    → HasMatchesOf line words m → first_value (found_of m) id ≡ value_among line id words
unfolding value_among
value_by line id words m is has = first_value-rows (found_of m) id ∙ ap (first_of id) (has is.simple).0
