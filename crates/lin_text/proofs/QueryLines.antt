-- A line of a query: what it adds, or its first fault.
use Rattle.std.proofs.Common.{◌≡◌, ℕ, ◌^◌, ◌≤◌, Bool, true, false, cond, nat_eq, List, [], ◌∷◌, ◌++◌, length, None}
use Rattle.std.proofs.Common.{refl, sym, ap, subst, ◌∙◌, append_assoc, arith, ℤ, pos, neg_ℤ, ◌≤ℤ◌, inl, inr, ◌⊎◌, lit≤}
use Rattle.std.specs.Prelude.{Ok, Err, Contains, IsTrue, slice_range}
use Rattle.std.proofs.lemmas.Int.{ints}
use Rattle.std.proofs.lemmas.Bool.Decides.{nat_tests}
use Rattle.lin_model.specs.Terms.{PlainVar}
use Rattle.lin_model.specs.Conditions.{PlainCondition}
use Rattle.lin_model.specs.declared.atom.Atom.{Atom}
use Rattle.lin_text.specs.declared.fault.TextKind.{TextKind}
use Rattle.lin_text.specs.declared.fault.TextKind.TheVariants as kinds
use Rattle.lin_text.specs.declared.refusal.Fault.{Fault}
use Rattle.lin_text.specs.Pieces.{Piece, var, word, name, number, plus, minus, times, compare, bad, line_end}
use Rattle.lin_text.specs.Pieces.{PlainToken, PlainLine, pieces, is_last}
use Rattle.lin_text.specs.Classes.{class_of, shown}
use Rattle.lin_text.specs.Grammar.{integer_pieces, integer_value, Declares, Compares, number_among}
use Rattle.lin_text.specs.Faults.{begins_atom, begins_item, declared_names, variable_count, atom_count, IsEmptyRange}
use Rattle.lin_text.specs.Faults.{Stands, known}
use Rattle.lin_text.specs.Kinds.{rank}
use Rattle.lin_text.specs.Queries.{names_of}
use Rattle.lin_text.specs.Reading.{Read, fault_at, refusal, refusal_kind, is_var_class, begins_atom_class}
use Rattle.lin_text.specs.Reading.{full_query_at, variable_at, declaration_at, atom_from, var_line_at, atom_line_at}
use Rattle.lin_text.specs.Reading.{line_at, ◌>>=◌}
use Rattle.lin_text.proofs.Places.{start, var_name, item, next, run}
use Rattle.lin_text.proofs.BegunLines.{BeginsLine-run}
use Rattle.lin_text.proofs.Passing.{At, At-var, At-start, NoFault, FirstStands, refused}
use Rattle.lin_text.proofs.Outcomes.{Passes, Token, Gets, Gets-one, Fails, Fails-one, Fails-behind}
use Rattle.lin_text.proofs.AtomLines.{LineOut, LineOut-behind, atom_out}
use Rattle.lin_text.proofs.VarLines.{HasNoEmptyRange, DeclarationOut, declaration_out}

-- no tokens of the line make an empty range
abbrev pub NotEmptyLine : List Piece → Type 0
NotEmptyLine ps = (x : List ℕ) (qs : List Piece) → ps ≡ var ∷ name x ∷ qs → IsEmptyRange qs → ⊥

-- no fault stands in the line
pub record IsClean (above : List PlainLine) (ts : List PlainToken) : Type 0 where
  pub passes : Passes above [] (pieces ts) []
  pub not_empty : NotEmptyLine (pieces ts)

-- the first fault of the line
pub record FailsFirst (above : List PlainLine) (ts : List PlainToken) (f : Fault TextKind) : Type 0 where
  pub fails : Fails above [] ts f
  pub not_empty : NotEmptyLine (pieces ts) ⊎ (length fails.used ≤ 2)

-- what a line adds to a query
pub record Declared (names : List (List ℕ)) (ps : List Piece) (q r : PlainCondition) : Type 0 where
  pub added : PlainVar
  pub is : r ≡ record { vars = q.vars ++ added ∷ []; atoms = q.atoms }
  pub declares : Declares ps added
  pub fresh : Contains names added.name → ⊥

pub record Compared (names : List (List ℕ)) (ps : List Piece) (q r : PlainCondition) : Type 0 where
  pub added : Atom
  pub is : r ≡ record { vars = q.vars; atoms = q.atoms ++ added ∷ [] }
  pub compares : Compares (number_among names) ps added

abbrev pub LineResult : List PlainLine → List PlainToken → PlainCondition → Read PlainCondition → Type 0
LineResult above ts q (Ok r) =
    IsClean above ts × (Declared (names_of q.vars) (pieces ts) q r ⊎ Compared (names_of q.vars) (pieces ts) q r)
LineResult above ts q (Err f) = FailsFirst above ts f

eq_true : (m n : ℕ) → nat_eq m n ≡ true → m ≡ n
eq_true m n e = grind (arith, nat_tests)

eq_false : (m n : ℕ) → nat_eq m n ≡ false → m ≡ n → ⊥
eq_false m n e = grind (arith, nat_tests)

-- the same fault behind the word as it stands
abbrev moved : (above : List PlainLine) (ts : List PlainToken) (f : Fault TextKind) (r : Piece) → r ≡ var
    → Fails above (var ∷ []) ts f → Fails above (r ∷ []) ts f
moved above ts f r is g = record {
  used = g.used;
  token = g.token;
  after = g.after;
  split = g.split;
  at = g.at;
  passes = subst (λ (q : Piece). Passes above (q ∷ []) (pieces g.used) (g.token.piece ∷ pieces g.after))
      (sym is) g.passes;
  first = subst (λ (q : Piece). FirstStands above ((q ∷ []) ++ pieces g.used) g.token.piece (pieces g.after) f.kind)
      (sym is) g.first;
}

-- the lines above have declared and compared the query so far
module _ (p : Bool) (bytes : List ℕ) (above : List PlainLine) (q : PlainCondition)
    (named : declared_names above ≡ names_of q.vars) (vars : variable_count above ≡ length q.vars)
    (atoms : atom_count above ≡ length q.atoms) (at : ℕ) (ts : List PlainToken) (t : Token p bytes at ts) where
  -- the word `var` begins the line
  var_passed : t.token.piece ≡ var → (length q.vars ≡ 64 → ⊥) → NoFault above [] t.token.piece (pieces t.more)
  var_passed is few kinds.TooManyVars ne h = few (sym vars ∙ h.2)
  var_passed is few kinds.TooManyAtoms ne h =
      let f : IsTrue (begins_atom var) = subst (λ (r : Piece). IsTrue (begins_atom r)) is h.1 in cc
  var_passed is few kinds.TooManyTerms ne h =
      let f : IsTrue (begins_item var) = subst (λ (r : Piece). IsTrue (begins_item r)) is h.1 in cc
  var_passed is few kinds.Token ne h = let f : var ≡ bad = sym is ∙ h in cc
  var_passed is few kinds.Syntax ne h =
      h (BeginsLine-run ([] ++ t.token.piece ∷ []) var_name (ap (λ (r : Piece). run start (r ∷ [])) is))
  var_passed is few kinds.NumberTooLarge ne h = let f : var ≡ number h.0 = sym is ∙ h.1 in cc
  var_passed is few kinds.UnknownName ne h = let f : var ≡ name h.0 = sym is ∙ h.1 in cc
  var_passed is few kinds.NameTwice ne h = let f : var ≡ name h.0 = sym is ∙ h.1 in cc
  var_passed is few kinds.EmptyRange ne h = ne refl
  var_passed is few kinds.NoMemory ne h = h

  var_rank : (k : TextKind) → Stands above [] t.token.piece (pieces t.more) k → 0 ≤ rank k
  var_rank k h = omega arith

  abbrev var_got : t.token.piece ≡ var → (length q.vars ≡ 64 → ⊥)
      → Gets p bytes above true [] ts t.token.to var_name (t.token.piece ∷ [])
  var_got is few = Gets-one p bytes above true [] at ts t var_name (var_passed is few)
      (subst (λ (r : Piece). At true (r ∷ []) var_name) (sym is) At-var) (ap is_last is)

  -- the tokens behind the word
  all_tokens : t.token.piece ≡ var → pieces ts ≡ var ∷ pieces t.more
  all_tokens is = ap pieces t.split ∙ ap (λ (r : Piece). r ∷ pieces t.more) is

  no_range : (qs : List Piece) → pieces ts ≡ var ∷ qs → HasNoEmptyRange qs → NotEmptyLine (pieces ts)
  no_range qs e none x rs f empty =
      none x rs (let same : qs ≡ name x ∷ rs = (let g : var ∷ qs ≡ var ∷ name x ∷ rs = sym e ∙ f in cc) in same) empty

  low_bound : (z : ℤ) (negative : Bool) (n : ℕ) → z ≡ integer_value (record { negative = negative; size = n })
      → n ≤ 2 ^ 31 → (neg_ℤ (pos (2 ^ 31)) ≤ℤ z) × (z ≤ℤ pos (2 ^ 31))
  low_bound z true n e le = rw e (omega (arith, ints), omega (arith, ints))
  low_bound z false n e le = rw e (omega (arith, ints), omega (arith, ints))

  declared_by : (is : t.token.piece ≡ var) → (few : length q.vars ≡ 64 → ⊥) → (r : Read (ℕ × ℕ × ℤ × ℤ))
      → DeclarationOut bytes above t.more r → LineResult above ts q
      ((r >>= λ d. Ok (record { name = slice_range bytes d.0 d.1; lo = d.2; hi = d.3 })) >>= λ v.
      Ok (record { vars = q.vars ++ v ∷ []; atoms = q.atoms }))
  declared_by is few (Err f) o =
      record {
        fails = Fails-behind p bytes above true [] at ts t.token.to var_name (t.token.piece ∷ []) f (var_got is few)
            (moved above t.more f t.token.piece is o.0);
        not_empty =
            elim o.1 [ inl none ↦ inl (no_range (pieces t.more) (all_tokens is) none) | inr le ↦ inr (omega arith) ];
      }
  declared_by is few (Ok d) o =
      let i = o.0 in
      let v : PlainVar = record { name = slice_range bytes d.0 d.1; lo = d.2; hi = d.3 } in
      let range = i.5 in
      let passes = LineOut-behind p bytes above true [] at ts
      (λ (_ : Unit {0}) (_ : List Piece). Unit {0}) t.token.to var_name (t.token.piece ∷ []) (Ok tt)
      (var_got is few) (tt, subst (λ (r : Piece). Passes above (r ∷ []) (pieces t.more) []) (sym is) o.1) in
      let lo = low_bound d.2 range.0.negative range.0.size range.3 range.5 in
      let hi = low_bound d.3 range.1.negative range.1.size range.4 range.6 in (
        record { passes = passes.1; not_empty = no_range (pieces t.more) (all_tokens is) o.2 },
        inl (record {
          added = v;
          is = refl;
          declares = record {
            lo = range.0;
            hi = range.1;
            written =
                all_tokens is ∙ ap (λ (rs : List Piece). var ∷ rs) i.2
                ∙ ap (λ (x : List ℕ). var ∷ name x ∷ i.1) i.3
                ∙ ap (λ (rs : List Piece). var ∷ name v.name ∷ rs) range.2
                ∙ sym (append_assoc (var ∷ name v.name ∷ integer_pieces range.0) (integer_pieces range.1)
                (line_end ∷ []));
            low = range.3;
            high = range.4;
            fits = record { name = i.7; low = lo.0; order = i.6; high = hi.1 };
          };
          fresh = λ c. i.4 (subst (λ (xs : List (List ℕ)). Contains xs i.0) (sym named)
              (subst (λ (x : List ℕ). Contains (names_of q.vars) x) (sym i.3) c));
        }),
      )

  var_out : t.token.piece ≡ var → LineResult above ts q (var_line_at p bytes q (shown t.token))
  unfolding var_line_at variable_at
  var_out is =
      elim (nat_eq (length q.vars) 64) as (λ b. nat_eq (length q.vars) 64 ≡ b
      → LineResult above ts q (cond b (Err (fault_at kinds.TooManyVars t.token.from))
      ((declaration_at p bytes (names_of q.vars) t.token.to >>= λ d.
      Ok (record { name = slice_range bytes d.0 d.1; lo = d.2; hi = d.3 })) >>= λ v.
      Ok (record { vars = q.vars ++ v ∷ []; atoms = q.atoms })))) [
        | true ↦ λ e. record {
          fails = Fails-one p bytes above true [] at ts t kinds.TooManyVars
              (record { stands = (refl, is, vars ∙ eq_true (length q.vars) 64 e); least = var_rank });
          not_empty = inr (omega arith);
        }
        | false ↦ λ e. declared_by is (eq_false (length q.vars) 64 e)
            (declaration_at p bytes (names_of q.vars) t.token.to)
            (subst (λ (names : List (List ℕ)). DeclarationOut bytes above t.more
            (declaration_at p bytes names t.token.to)) named
            (declaration_out p bytes above t.token.to t.more (t.on (ap is_last is))))
      ] refl

  -- an atom begins the line
  no_var_line : (t.token.piece ≡ var → ⊥) → NotEmptyLine (pieces ts)
  no_var_line no_var x qs e empty =
      no_var (let all : t.token.piece ∷ pieces t.more ≡ var ∷ name x ∷ qs = ap pieces (sym t.split) ∙ e in cc)

  begins-class : (r : Piece) → begins_atom_class (class_of r) ≡ begins_atom r
  begins-class var = refl
  begins-class (word w) = refl
  begins-class bad = refl
  begins-class line_end = refl
  begins-class (name x) = refl
  begins-class (number n) = refl
  begins-class plus = refl
  begins-class minus = refl
  begins-class times = refl
  begins-class (compare c) = refl

  no_atom : (r : Piece) → begins_atom r ≡ false → next (item true 0) r ≡ None
  no_atom var e = refl
  no_atom (word w) e = refl
  no_atom bad e = refl
  no_atom line_end e = refl
  no_atom _ e = absurd (cc)

  atom_rank : (t.token.piece ≡ var → ⊥) → (k : TextKind) → Stands above [] t.token.piece (pieces t.more) k → 1 ≤ rank k
  atom_rank no_var kinds.TooManyVars h = absurd (no_var h.1)
  atom_rank no_var kinds.TooManyAtoms h = lit≤ tt
  atom_rank no_var kinds.TooManyTerms h = lit≤ tt
  atom_rank no_var kinds.Token h = lit≤ tt
  atom_rank no_var kinds.Syntax h = lit≤ tt
  atom_rank no_var kinds.NumberTooLarge h = lit≤ tt
  atom_rank no_var kinds.UnknownName h = lit≤ tt
  atom_rank no_var kinds.NameTwice h = lit≤ tt
  atom_rank no_var kinds.EmptyRange h = lit≤ tt
  atom_rank no_var kinds.NoMemory h = lit≤ tt

  full_by : (t.token.piece ≡ var → ⊥) → atom_count above ≡ 256 → (b : Bool) → begins_atom t.token.piece ≡ b
      → Fails above [] ts (cond b (fault_at kinds.TooManyAtoms t.token.from) (refusal (shown t.token)))
  full_by no_var full true e = Fails-one p bytes above false [] at ts t kinds.TooManyAtoms
      (record { stands = (refl, e, full); least = atom_rank no_var })
  full_by no_var full false e =
      Fails-one p bytes above false [] at ts t (refusal_kind (class_of t.token.piece))
      (refused above false [] (item true 0) t.token.piece (pieces t.more) At-start
      (record { vars = λ _ is. no_var is; atoms = λ _ b _. let f : true ≡ false = sym b ∙ e in cc })
      (no_atom t.token.piece e))

  compared_by : (t.token.piece ≡ var → ⊥) → (r : Read Atom)
      → LineOut above [] ts (λ atom ps. Compares (known above) ps atom) r
      → LineResult above ts q (r >>= λ a. Ok (record { vars = q.vars; atoms = q.atoms ++ a ∷ [] }))
  compared_by no_var (Err f) o = record { fails = o; not_empty = inl (no_var_line no_var) }
  compared_by no_var (Ok a) o = (
    record { passes = o.1; not_empty = no_var_line no_var },
    inr (record {
      added = a;
      is = refl;
      compares =
          subst (λ (names : List (List ℕ)). Compares (number_among names) (pieces ts) a) named o.0;
    }),
  )

  atom_line_out : (t.token.piece ≡ var → ⊥) → LineResult above ts q (atom_line_at p bytes q (shown t.token))
  unfolding atom_line_at full_query_at
  atom_line_out no_var =
      elim (nat_eq (length q.atoms) 256) as (λ b. nat_eq (length q.atoms) 256 ≡ b
      → LineResult above ts q (cond b (Err (cond (begins_atom_class (class_of t.token.piece))
      (fault_at kinds.TooManyAtoms t.token.from) (refusal (shown t.token))))
      (atom_from p bytes (number_among (names_of q.vars)) (shown t.token) >>= λ a. Ok
      (record { vars = q.vars; atoms = q.atoms ++ a ∷ [] })))) [
        | true ↦ λ e. record {
          fails =
              subst (λ (b : Bool). Fails above [] ts
              (cond b (fault_at kinds.TooManyAtoms t.token.from) (refusal (shown t.token))))
              (sym (begins-class t.token.piece))
              (full_by no_var (atoms ∙ eq_true (length q.atoms) 256 e) (begins_atom t.token.piece) refl);
          not_empty = inl (no_var_line no_var);
        }
        | false ↦ λ e. compared_by no_var (atom_from p bytes (number_among (names_of q.vars)) (shown t.token))
            (subst (λ (names : List (List ℕ)). LineOut above [] ts (λ atom ps. Compares (known above) ps atom)
            (atom_from p bytes (number_among names) (shown t.token))) named
            (atom_out p bytes above at ts t no_var (λ full. eq_false (length q.atoms) 256 e (sym atoms ∙ full))))
      ] refl

  by_piece : (r : Piece) → t.token.piece ≡ r
      → LineResult above ts q (cond (is_var_class (class_of r)) (var_line_at p bytes q (shown t.token))
      (atom_line_at p bytes q (shown t.token)))
  by_piece var is = var_out is
  by_piece r is = atom_line_out (λ v. let f : r ≡ var = sym is ∙ v in cc)

  pub line_out : LineResult above ts q (line_at p bytes q (shown t.token))
  unfolding line_at
  line_out = by_piece t.token.piece refl
