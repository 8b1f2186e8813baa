-- Terms and sides at the front of a text, and the terms that they are.
use Rattle.std.proofs.Common.{◌≡◌, ℕ, ◌<◌, ◌≤◌, ◌^◌, Bool, true, false, cond, List, [], ◌∷◌, ◌++◌, length, map, refl}
use Rattle.std.proofs.Common.{sym, ap, subst, ◌∙◌, arith, append_assoc, All, decimal, ℤ, pos, negsuc, ◌*ℤ◌, Option}
use Rattle.std.proofs.Common.{Some, None, get_or}
use Rattle.std.specs.Prelude.{◌==◌, ◌&&◌, codes, IfSome, unsigned_abs, flat_map}
use Rattle.std.proofs.lemmas.Int.{ints}
use Rattle.std.proofs.lemmas.Option.{slice_get-get_or}
use Rattle.std.proofs.lemmas.List.{length-map, get_or-map}
use Rattle.std.proofs.lemmas.List.Elements.{All-head, All-tail}
use Rattle.std.proofs.lemmas.Bool.{eqb-true}
use Rattle.lin_model.specs.Terms.{PlainVar, PlainTerm, TermFits, VarFits, ExprFits, limit_of}
use Rattle.lin_model.specs.Conditions.{NamesBelow}
use Rattle.lin_text.specs.Spelling.{is_negative, minus_of, name_of, factor_text, size_text, first_term, joint_of}
use Rattle.lin_text.specs.Spelling.{later_term, side_text}
use Rattle.lin_text.specs.Pieces.{Piece, minus, times, number, name, is_claim_word}
use Rattle.lin_text.specs.Grammar.{Quantity, constant, multiple, single, Item, Joined, Side, quantity_pieces}
use Rattle.lin_text.specs.Grammar.{quantity_size, item_pieces, joint, joined_pieces, side_pieces, signed, IsOn, IsTerm}
use Rattle.lin_text.specs.Grammar.{number_among, AreTerms, IsExpr}
use Rattle.lin_text.specs.Queries.{names_of}
use Rattle.lin_text.proofs.DistinctNames.{Distinct, number_there}
use Rattle.lin_text.proofs.ReadBackTokens.{Reads, Reads-blank, Starts}
use Rattle.lin_text.proofs.ReadBackWords.{Stops, Stops-blank, Starts-name, Starts-number}
use Rattle.lin_text.proofs.ReadBackSigns.{Starts-minus, Starts-plus}
use Rattle.lin_text.proofs.ReadBackWords.{IsOwnName}
use Rattle.lin_text.proofs.ReadBackSigns.{Starts-times}

-- what the spelling shows of a term: its size and its variable
abbrev pub shown_size : (ℕ → List ℕ) → ℕ → Option ℕ → Quantity
shown_size names size None = constant size
shown_size names size (Some k) = cond (size == 1) (single (names k)) (multiple size (names k))

abbrev pub first_item : (ℕ → List ℕ) → PlainTerm → Item
first_item names term = record {
  negative = is_negative term.factor;
  quantity = shown_size names (unsigned_abs term.factor) term.var;
}

abbrev pub later_item : (ℕ → List ℕ) → PlainTerm → Joined
later_item names term = record {
  subtracted = is_negative term.factor;
  item = record { negative = false; quantity = shown_size names (unsigned_abs term.factor) term.var };
}

abbrev pub shown_side : (ℕ → List ℕ) → PlainTerm → List PlainTerm → Side
shown_side names term terms = record { first = first_item names term; later = map (later_item names) terms }

-- a term that can be spelled
pub record CanSpell (p : Bool) (names : ℕ → List ℕ) (term : PlainTerm) : Type 0 where
  pub small : unsigned_abs term.factor < 2 ^ 64
  pub named : IfSome term.var (λ k. IsOwnName p (names k))

Starts-text : (p : Bool) (a b left : List ℕ) (ps : List Piece) → a ≡ b → Starts p a left ps → Starts p b left ps
Starts-text p a b left ps e s = subst (λ (text : List ℕ). Starts p text left ps) e s

-- the names and numbers of a quantity

product : (p : Bool) (size : ℕ) (x rest left : List ℕ) (ps : List Piece) → size < 2 ^ 64 → IsOwnName p x → Stops rest
    → Reads p rest left ps → (b : Bool) → Starts p ((cond b [] (decimal size ++ codes "*") ++ x) ++ rest) left
    (quantity_pieces (cond b (single x) (multiple size x)) ++ ps)
product p size x rest left ps small is stops r true = Starts-name p x rest left ps is stops.names r
product p size x rest left ps small is stops r false =
    Starts-text p (decimal size ++ (42 ∷ (x ++ rest))) (((decimal size ++ (42 ∷ [])) ++ x) ++ rest) left
    (number size ∷ times ∷ name x ∷ ps)
    (sym (append_assoc (decimal size ++ (42 ∷ [])) x rest ∙ append_assoc (decimal size) (42 ∷ []) (x ++ rest)))
    (Starts-number p size (42 ∷ (x ++ rest)) left (times ∷ name x ∷ ps) small refl
    (Starts-times p (x ++ rest) left (name x ∷ ps) (Starts-name p x rest left ps is stops.names r).reads).reads)

Starts-size : (p : Bool) (names : ℕ → List ℕ) (size : ℕ) (v : Option ℕ) (rest left : List ℕ) (ps : List Piece)
    → size < 2 ^ 64
    → IfSome v (λ k. IsOwnName p (names k)) → Stops rest → Reads p rest left ps
    → Starts p (size_text names size v ++ rest) left (quantity_pieces (shown_size names size v) ++ ps)
unfolding size_text factor_text
Starts-size p names size None rest left ps small named stops r = Starts-number p size rest left ps small stops.digits r
Starts-size p names size (Some k) rest left ps small named stops r =
    product p size (names k) rest left ps small named stops r (size == 1)

-- the signs of a term

pub first_sign : (p : Bool) (b : Bool) (text rest left : List ℕ) (qs ps : List Piece)
    → Starts p (text ++ rest) left (qs ++ ps)
    → Starts p ((cond b (codes "-") [] ++ text) ++ rest) left ((cond b (minus ∷ []) [] ++ qs) ++ ps)
first_sign p true text rest left qs ps s = Starts-minus p (text ++ rest) left (qs ++ ps) s.reads
first_sign p false text rest left qs ps s = s

Starts-first : (p : Bool) (names : ℕ → List ℕ) (term : PlainTerm) (rest left : List ℕ) (ps : List Piece)
    → CanSpell p names term
    → Stops rest → Reads p rest left ps → Starts p (first_term names term ++ rest) left
    (item_pieces (first_item names term) ++ ps)
unfolding first_term minus_of
Starts-first p names term rest left ps can stops r =
    first_sign p (is_negative term.factor) (size_text names (unsigned_abs term.factor) term.var) rest left
    (quantity_pieces (shown_size names (unsigned_abs term.factor) term.var)) ps
    (Starts-size p names (unsigned_abs term.factor) term.var rest left ps can.small can.named stops r)

later_sign : (p : Bool) (b : Bool) (text rest left : List ℕ) (qs ps : List Piece)
    → Reads p (text ++ rest) left (qs ++ ps)
    → Reads p ((cond b (codes " - ") (codes " + ") ++ text) ++ rest) left ((joint b ∷ qs) ++ ps)
later_sign p true text rest left qs ps r =
    Reads-blank p _ left _ (Starts-minus p (32 ∷ (text ++ rest)) left (qs ++ ps) (Reads-blank p _ left _ r)).reads
later_sign p false text rest left qs ps r =
    Reads-blank p _ left _ (Starts-plus p (32 ∷ (text ++ rest)) left (qs ++ ps) (Reads-blank p _ left _ r)).reads

Reads-later : (p : Bool) (names : ℕ → List ℕ) (term : PlainTerm) (rest left : List ℕ) (ps : List Piece)
    → CanSpell p names term
    → Stops rest → Reads p rest left ps → Reads p (later_term names term ++ rest) left
    (joined_pieces (later_item names term) ++ ps)
unfolding later_term joint_of
Reads-later p names term rest left ps can stops r =
    later_sign p (is_negative term.factor) (size_text names (unsigned_abs term.factor) term.var) rest left
    (quantity_pieces (shown_size names (unsigned_abs term.factor) term.var)) ps
    (Starts-size p names (unsigned_abs term.factor) term.var rest left ps can.small can.named stops r).reads

joint_stops : (b : Bool) (text rest : List ℕ) → Stops ((cond b (codes " - ") (codes " + ") ++ text) ++ rest)
joint_stops true text rest = Stops-blank (45 ∷ 32 ∷ (text ++ rest))
joint_stops false text rest = Stops-blank (43 ∷ 32 ∷ (text ++ rest))

Stops-later : (names : ℕ → List ℕ) (terms : List PlainTerm) (rest : List ℕ) → Stops rest
    → Stops (flat_map (later_term names) terms ++ rest)
unfolding later_term joint_of
Stops-later names [] rest stops = stops
Stops-later names (term ∷ terms) rest stops =
    subst (λ (text : List ℕ). Stops text) (sym
    (append_assoc (later_term names term) (flat_map (later_term names) terms) rest))
    (joint_stops (is_negative term.factor) (size_text names (unsigned_abs term.factor) term.var)
    (flat_map (later_term names) terms ++ rest))

Reads-all : (p : Bool) (names : ℕ → List ℕ) (terms : List PlainTerm) (rest left : List ℕ) (ps : List Piece)
    → All (CanSpell p names) terms → Stops rest → Reads p rest left ps
    → Reads p (flat_map (later_term names) terms ++ rest) left
    (flat_map joined_pieces (map (later_item names) terms) ++ ps)
Reads-all p names [] rest left ps can stops r = r
Reads-all p names (term ∷ terms) rest left ps can stops r =
    let texts : List ℕ = flat_map (later_term names) terms in
    let more : List Piece = flat_map joined_pieces (map (later_item names) terms) in
    subst (λ (text : List ℕ). Reads p text left ((joined_pieces (later_item names term) ++ more) ++ ps))
    (sym (append_assoc (later_term names term) texts rest))
    (subst (λ (qs : List Piece). Reads p (later_term names term ++ (texts ++ rest)) left qs)
    (sym (append_assoc (joined_pieces (later_item names term)) more ps))
    (Reads-later p names term (texts ++ rest) left (more ++ ps) (All-head (CanSpell p names) term terms can)
    (Stops-later names terms rest stops)
    (Reads-all p names terms rest left ps (All-tail (CanSpell p names) term terms can) stops r)))

-- a side
pub Starts-side : (p : Bool) (names : ℕ → List ℕ) (term : PlainTerm) (terms : List PlainTerm) (rest left : List ℕ)
    (ps : List Piece) → All (CanSpell p names) (term ∷ terms) → Stops rest → Reads p rest left ps
    → Starts p (side_text names (term ∷ terms) ++ rest) left (side_pieces (shown_side names term terms) ++ ps)
unfolding side_text side_pieces
Starts-side p names term terms rest left ps can stops r =
    let texts : List ℕ = flat_map (later_term names) terms in
    let more : List Piece = flat_map joined_pieces (map (later_item names) terms) in
    Starts-text p (first_term names term ++ (texts ++ rest)) ((first_term names term ++ texts) ++ rest) left
    ((item_pieces (first_item names term) ++ more) ++ ps) (sym (append_assoc (first_term names term) texts rest))
    (subst (λ (qs : List Piece). Starts p (first_term names term ++ (texts ++ rest)) left qs)
    (sym (append_assoc (item_pieces (first_item names term)) more ps))
    (Starts-first p names term (texts ++ rest) left (more ++ ps) (All-head (CanSpell p names) term terms can)
    (Stops-later names terms rest stops)
    (Reads-all p names terms rest left ps (All-tail (CanSpell p names) term terms can) stops r)))

-- what the items mean

pub shown_size-is : (names : ℕ → List ℕ) (size : ℕ) (v : Option ℕ) → quantity_size (shown_size names size v) ≡ size
shown_size-is names size None = refl
shown_size-is names size (Some k) = by_one (size == 1) refl
  where
    by_one : (b : Bool) → (size == 1) ≡ b → quantity_size
        (cond b (single (names k)) (multiple size (names k))) ≡ size
    by_one true e = sym (eqb-true size 1 e)
    by_one false e = refl

IsOn-shown : (vars : List PlainVar) (size : ℕ) (v : Option ℕ) → Distinct (names_of vars)
    → IfSome v (λ k. k < length vars)
    → IsOn (number_among (names_of vars)) (shown_size (name_of vars) size v) v
IsOn-shown vars size None apart below = refl
IsOn-shown vars size (Some k) apart below = by_one (size == 1)
  where
    there : number_among (names_of vars) (name_of vars k) ≡ Some k
    there = number_there (names_of vars) k (name_of vars k) apart (slice_get-get_or (names_of vars) k []
        (omega (arith, below, length-map vars (λ (v : PlainVar). v.name))))

    by_one : (b : Bool) → IsOn (number_among (names_of vars))
        (cond b (single (name_of vars k)) (multiple size (name_of vars k)))
        (Some k)
    by_one true = (k, refl, there)
    by_one false = (k, refl, there)

pub first_factor : (z : ℤ) → z ≡ signed false 1 *ℤ signed (is_negative z) (unsigned_abs z)
first_factor (pos n) = omega (arith, ints)
first_factor (negsuc n) = omega (arith, ints)

pub later_factor : (z : ℤ) → z ≡ signed (is_negative z) 1 *ℤ signed false (unsigned_abs z)
later_factor (pos n) = omega (arith, ints)
later_factor (negsuc n) = omega (arith, ints)

IsTerm-first : (vars : List PlainVar) (term : PlainTerm) → Distinct (names_of vars) → TermFits term
    → IfSome term.var (λ k. k < length vars)
    → IsTerm (number_among (names_of vars)) false (first_item (name_of vars) term) term
IsTerm-first vars term apart fits below =
    record {
      factor = first_factor term.factor ∙ ap (λ (n : ℕ). signed false 1 *ℤ signed (is_negative term.factor) n)
          (sym (shown_size-is (name_of vars) (unsigned_abs term.factor) term.var));
      on = IsOn-shown vars (unsigned_abs term.factor) term.var apart below;
      fits = fits;
    }

IsTerm-later : (vars : List PlainVar) (term : PlainTerm) → Distinct (names_of vars) → TermFits term
    → IfSome term.var (λ k. k < length vars)
    → IsTerm (number_among (names_of vars)) (is_negative term.factor)
    (record { negative = false; quantity = shown_size (name_of vars) (unsigned_abs term.factor) term.var }) term
IsTerm-later vars term apart fits below =
    record {
      factor = later_factor term.factor ∙ ap (λ (n : ℕ). signed (is_negative term.factor) 1 *ℤ signed false n)
          (sym (shown_size-is (name_of vars) (unsigned_abs term.factor) term.var));
      on = IsOn-shown vars (unsigned_abs term.factor) term.var apart below;
      fits = fits;
    }

AreTerms-later : (vars : List PlainVar) (terms : List PlainTerm) → Distinct (names_of vars) → All TermFits terms
    → NamesBelow (length vars) terms
    → AreTerms (number_among (names_of vars)) (map (later_item (name_of vars)) terms) terms
AreTerms-later vars [] apart fit below = refl
AreTerms-later vars (term ∷ terms) apart fit below = (
  IsTerm-later vars term apart (All-head TermFits term terms fit)
      (All-head (λ t. IfSome t.var (λ k. k < length vars)) term terms below),
  AreTerms-later vars terms apart (All-tail TermFits term terms fit)
      (All-tail (λ t. IfSome t.var (λ k. k < length vars)) term terms below),
)

pub IsExpr-shown : (vars : List PlainVar) (term : PlainTerm) (terms : List PlainTerm) → Distinct (names_of vars)
    → ExprFits (term ∷ terms)
    → All TermFits (term ∷ terms) → NamesBelow (length vars) (term ∷ terms)
    → IsExpr (number_among (names_of vars)) (shown_side (name_of vars) term terms) (term ∷ terms)
IsExpr-shown vars term terms apart sized fit below = (
  (
    IsTerm-first vars term apart (All-head TermFits term terms fit)
        (All-head (λ t. IfSome t.var (λ k. k < length vars)) term terms below),
    AreTerms-later vars terms apart (All-tail TermFits term terms fit)
        (All-tail (λ t. IfSome t.var (λ k. k < length vars)) term terms below),
  ),
  sized,
)

-- which terms can be spelled

small_size : (size : ℕ) (v : Option ℕ) → size ≤ limit_of v → size < 2 ^ 64
small_size size None le = omega arith
small_size size (Some k) le = omega arith

-- no variable has a name that is a word in a text of this sort
abbrev pub FreeNames : Bool → List PlainVar → Type 0
FreeNames p vars = All (λ v. (p && is_claim_word v.name) ≡ false) vars

name_fits : (p : Bool) (vars : List PlainVar) (k : ℕ) → All VarFits vars → FreeNames p vars → k < length vars
    → IsOwnName p (name_of vars k)
name_fits p [] k fit own lt = absurd (omega arith)
name_fits p (v ∷ vars) k fit own lt =
    subst (λ (x : List ℕ). IsOwnName p x) (sym (get_or-map (λ (w : PlainVar). w.name) (v ∷ vars) k v [] lt))
    (record { name = (fit k v lt).name; free = own k v lt })

named : (p : Bool) (vars : List PlainVar) (v : Option ℕ) → All VarFits vars → FreeNames p vars
    → IfSome v (λ k. k < length vars)
    → IfSome v (λ k. IsOwnName p (name_of vars k))
named p vars None fit own below = tt
named p vars (Some k) fit own below = name_fits p vars k fit own below

pub CanSpell-all : (p : Bool) (vars : List PlainVar) (terms : List PlainTerm) → All VarFits vars → FreeNames p vars
    → All TermFits terms
    → NamesBelow (length vars) terms → All (CanSpell p (name_of vars)) terms
CanSpell-all p vars terms vars_fit own fit below =
    λ k d lt.
    let term : PlainTerm = get_or terms k d in
    record {
      small = small_size (unsigned_abs term.factor) term.var (fit k d lt);
      named = named p vars term.var vars_fit own (below k d lt);
    }
