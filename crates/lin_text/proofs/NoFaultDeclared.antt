-- No fault stands in a line that declares.
use Rattle.std.proofs.Common.{◌≡◌, ℕ, ◌<◌, ◌≤◌, ◌^◌, Bool, true, false, List, [], ◌∷◌, ◌++◌, length, get_or, refl, sym}
use Rattle.std.proofs.Common.{ap, subst, ◌∙◌, arith, append_assoc, length-append, inl, inr, ℤ, ◌≤ℤ◌}
use Rattle.std.specs.Prelude.{◌<ℤ◌, Contains, MatchBool, AllPairs, IsFalse}
use Rattle.std.proofs.lemmas.Int.{ints}
use Rattle.std.proofs.lemmas.List.{length-map, get_or-map, get_or_append_left}
use Rattle.std.proofs.Math.Seq.{get_or-append_seam}
use Rattle.lin_model.specs.Terms.{PlainVar}
use Rattle.lin_model.specs.Conditions.{Differ}
use Rattle.lin_text.specs.declared.fault.TextKind.{TextKind}
use Rattle.lin_text.specs.declared.fault.TextKind.TheVariants.{Token, Syntax, NumberTooLarge, UnknownName, NameTwice}
use Rattle.lin_text.specs.declared.fault.TextKind.TheVariants.{EmptyRange, TooManyVars, TooManyAtoms, TooManyTerms}
use Rattle.lin_text.specs.declared.fault.TextKind.TheVariants.{NoMemory}
use Rattle.lin_text.specs.Pieces.{Piece, var, name, compare, PlainLine}
use Rattle.lin_text.specs.Grammar.{Integer, integer_pieces, integer_value, side_pieces, joint, declaration, Declares}
use Rattle.lin_text.specs.Faults.{begins_variable, begins_atom, declared_names, variable_count, EndsInFullSide}
use Rattle.lin_text.specs.Faults.{IsEmptyRange, Stands}
use Rattle.lin_text.specs.Queries.{names_of}
use Rattle.lin_text.proofs.UniqueSides.{end, names-once, integer-once, side_no_var}
use Rattle.lin_text.proofs.NoFaultTokens.{Every-at, InDeclaration, Every-declaration}
use Rattle.lin_text.proofs.NoFaultSides.{full_shape}

-- the first token where nothing stands before it
head_is : (front : List Piece) (p q : Piece) (after qs : List Piece) → front ≡ [] → front ++ p ∷ after ≡ q ∷ qs → p ≡ q
head_is front p q after qs none e =
    let s : p ∷ after ≡ q ∷ qs = sym (ap (λ (xs : List Piece). xs ++ p ∷ after) none) ∙ e in
    cc

-- a side and what stands before it begin with no `var`
no_side : (front ps : List Piece) → EndsInFullSide front → begins_variable (front ++ ps) ≡ false
no_side front ps f = elim (full_shape front ps f) [
  | inl e ↦ ap begins_variable e ∙ side_no_var f.side (joint f.subtracted ∷ ps)
  | inr (l, c, e) ↦ ap begins_variable e ∙ side_no_var l (compare c ∷ (side_pieces f.side ++ joint f.subtracted ∷ ps))
]

number_fits : (b : Bool) (n : ℕ) → n ≤ 2 ^ 31 → MatchBool b (2 ^ 31 < n) (2 ^ 40 < n) → ⊥
number_fits true n le large = absurd (omega arith)
number_fits false n le large = absurd (omega arith)

-- an unknown name stands in no declaration
no_unknown : (front : List Piece) (p : Piece) (after qs : List Piece) (x : List ℕ) → front ++ p ∷ after ≡ var ∷ qs
    → p ≡ name x → IsFalse (begins_variable front) → ⊥
no_unknown [] p after qs x w e no_var = absurd (let s : name x ≡ var = sym e ∙ head_is [] p var after qs refl w in cc)
no_unknown (q ∷ front) p after qs x w e no_var =
    let first : q ≡ var = head_is [] q var (front ++ p ∷ after) qs refl w in
    let t : true ≡ false = sym (ap (λ (r : Piece). begins_variable (r ∷ front)) first) ∙ no_var in
    absurd (cc)

-- a declared name stands nowhere above
no_twice : (above more : List PlainVar) (v : PlainVar) → AllPairs Differ (above ++ v ∷ more)
    → Contains (names_of above) v.name → ⊥
no_twice above more v differ (k, lt, at) =
    let within : k < length above = omega (arith, lt, length-map above (λ (w : PlainVar). w.name)) in
    let there : (get_or above k v).name ≡ v.name = sym (get_or-map (λ (w : PlainVar). w.name) above k v v.name within)
    ∙ at in
    differ k (length above) v within (omega (arith, length-append above (v ∷ more)))
    (ap (λ (w : PlainVar). w.name) (get_or_append_left above (v ∷ more) v k within)
    ∙ (there ∙ sym (ap (λ (w : PlainVar). w.name) (get_or-append_seam above v more v))))

in_order : (a b : ℤ) → a ≤ℤ b → b <ℤ a → ⊥
in_order a b le lt = absurd (omega (arith, ints))

-- the bounds of a declaration are in order
no_empty : (v : PlainVar) (lo hi : Integer) (ps : List Piece) → v.lo ≤ℤ v.hi → v.lo ≡ integer_value lo
    → v.hi ≡ integer_value hi → ps ≡ integer_pieces lo ++ integer_pieces hi ++ end → IsEmptyRange ps → ⊥
no_empty v lo hi ps order low high written r =
    let same : integer_pieces r.lo ++ (integer_pieces r.hi ++ r.more) ≡ integer_pieces lo
    ++ (integer_pieces hi ++ end) = sym (append_assoc (integer_pieces r.lo) (integer_pieces r.hi) r.more)
    ∙ (sym r.written ∙ (written ∙ append_assoc (integer_pieces lo) (integer_pieces hi) end)) in
    let first = integer-once r.lo lo (integer_pieces r.hi ++ r.more) (integer_pieces hi ++ end) same in
    let second = integer-once r.hi hi r.more end first.1 in
    let lo_is : integer_value r.lo ≡ v.lo = ap (λ (i : Integer). integer_value i) first.0 ∙ sym low in
    let hi_is : integer_value r.hi ≡ v.hi = ap (λ (i : Integer). integer_value i) second.0 ∙ sym high in
    in_order v.lo v.hi order (subst (λ (z : ℤ). v.hi <ℤ z) lo_is
    (subst (λ (z : ℤ). z <ℤ integer_value r.lo) hi_is r.empty))

module _ (above : List PlainLine) (vars more : List PlainVar) (v : PlainVar) (front : List Piece) (p : Piece)
    (after : List Piece) (d : Declares (front ++ p ∷ after) v) where
  behind : List Piece
  behind = name v.name ∷ integer_pieces d.lo ++ integer_pieces d.hi ++ end

  written : front ++ p ∷ after ≡ var ∷ behind
  unfolding behind
  written = d.written

  -- the name, and what stands behind it
  second : (x : List ℕ) → front ≡ var ∷ [] → p ≡ name x → x ≡ v.name
  unfolding behind
  second x f e =
      (names-once x v.name after (integer_pieces d.lo ++ integer_pieces d.hi ++ end)
      (sym (ap (λ (xs : List Piece). xs ++ p ∷ after) f ∙ ap (λ (r : Piece). var ∷ r ∷ after) e) ∙ written)).0

  third : (x : List ℕ) → front ≡ var ∷ name x ∷ [] → p ∷ after ≡ integer_pieces d.lo ++ integer_pieces d.hi ++ end
  unfolding behind
  third x f =
      (names-once x v.name (p ∷ after) (integer_pieces d.lo ++ integer_pieces d.hi ++ end)
      (sym (ap (λ (xs : List Piece). xs ++ p ∷ after) f) ∙ written)).1

  -- the token itself
  sound : InDeclaration p after
  sound = Every-at InDeclaration front p after (Every-declaration (front ++ p ∷ after) v d)

  pub no_stand-declared : (kind : TextKind) → names_of vars ≡ declared_names above → variable_count above < 64
      → AllPairs Differ (vars ++ v ∷ more) → Stands above front p after kind → ⊥
  no_stand-declared TooManyVars known few differ (none, e, count) = absurd (omega (arith, few, count))
  no_stand-declared TooManyAtoms known few differ (none, begins, count) =
      let t : true ≡ false = sym begins ∙ ap begins_atom (head_is front p var after behind none written) in
      absurd (cc)
  no_stand-declared TooManyTerms known few differ (full, begins) =
      let t : true ≡ false = sym (ap begins_variable written) ∙ no_side front (p ∷ after) full in
      absurd (cc)
  no_stand-declared Token known few differ e = subst (λ (q : Piece). InDeclaration q after) e sound
  no_stand-declared Syntax known few differ h =
      h (record {
        line = declaration v.name d.lo d.hi;
        more = after;
        written = sym d.written ∙ sym (append_assoc front (p ∷ []) after);
      })
  no_stand-declared NumberTooLarge known few differ (n, e, inl large) =
      number_fits (begins_variable front) n (subst (λ (q : Piece). InDeclaration q after) e sound) large
  no_stand-declared NumberTooLarge known few differ (n, e, inr (large, factor)) =
      let fits : n ≤ 2 ^ 31 = subst (λ (q : Piece). InDeclaration q after) e sound in
      absurd (omega (arith, large, fits))
  no_stand-declared UnknownName known few differ (x, e, no_var, unknown) =
      no_unknown front p after behind x written e no_var
  no_stand-declared NameTwice known few differ (x, e, f, twice) =
      no_twice vars more v differ (subst (λ (y : List ℕ). Contains (names_of vars) y) (second x f e)
      (subst (λ (xs : List (List ℕ)). Contains xs x) (sym known) twice))
  no_stand-declared EmptyRange known few differ (x, f, empty) =
      no_empty v d.lo d.hi (p ∷ after) d.fits.order d.low d.high (third x f) empty
  no_stand-declared NoMemory known few differ h = h
