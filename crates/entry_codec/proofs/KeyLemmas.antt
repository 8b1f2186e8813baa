-- What was read as a key fits a key, and what was read as a point is one.
use Rattle.std.specs.List.{All}
use Rattle.std.proofs.Common.{◌≡◌, Fits, w8, ℕ, ◌+◌, ◌-◌, ◌<◌, ◌≤◌, ℤ, List, length, take, get_or, Option, Some, Ok, sym, ap, subst, ◌∙◌, arith}
use Rattle.std.proofs.lemmas.List.{length-take, get_or-take}
use Rattle.std.proofs.lemmas.Option.{slice_get-get_or}
use Rattle.std.specs.Prelude.{MatchOption}
use Rattle.std.specs.List.{slice_get}
use Rattle.std.specs.declared.cmp.Ordering.TheVariants.{Less}
use Rattle.lin_model.specs.declared.point.TheConstants.{MAX_VALUES}
use Rattle.lin_model.specs.AtomOrder.{compare_atoms}
use Rattle.lin_model.specs.KeyAtom.{PlainKeyAtom, IsCanonical}
use Rattle.lin_model.specs.Key.{FitsKey, IsKey}
use Rattle.lin_model.specs.Point.{IsPoint}
use Rattle.cert_check.specs.declared.entry.Entry.{Entry}
use Rattle.cert_check.specs.declared.entry.Entry.TheVariants.{Sat, Unsat}
use Rattle.cert_check.specs.Decides.{key_of}
use Rattle.entry_codec.specs.Grammar.{IsBytes}
use Rattle.entry_codec.specs.Bodies.{IsInGrammar, body, body_fields}
use Rattle.entry_codec.specs.Answers.{FramesAreChecked}
use Rattle.entry_codec.specs.Fields.{atom_count, value_count, value}
use Rattle.entry_codec.specs.Atoms.{atom, key, point, ComesBehind}
use Rattle.entry_codec.specs.AtomReading.{key_at, point_at}
use Rattle.entry_codec.proofs.AtomLaws.{Reads-key, Reads-point}

-- what a slice keeps of its bytes
pub IsBytes-slice : (bytes : List ℕ) → ((k : ℕ) → Fits w8 (get_or bytes k 0)) → IsBytes bytes
IsBytes-slice bytes fit k = let one = fit k in omega arith

-- behind the first atoms comes the next
comes_next : (atoms : List PlainKeyAtom) (k : ℕ) (d : PlainKeyAtom) → k + 1 < length atoms
    → ComesBehind (take (k + 1) atoms) (get_or atoms (k + 1) d)
    → compare_atoms (get_or atoms k d) (get_or atoms (k + 1) d) ≡ Less
comes_next atoms k d lt behind =
    let len : length (take (k + 1) atoms) ≡ k + 1 = omega (arith, length-take (k + 1) atoms) in
    let place : length (take (k + 1) atoms) - 1 ≡ k = omega arith in
    let last : slice_get (take (k + 1) atoms) (length (take (k + 1) atoms) - 1) ≡ Some (get_or atoms k d) =
    ap (slice_get (take (k + 1) atoms)) place ∙ slice_get-get_or (take (k + 1) atoms) k d (omega arith)
    ∙ ap Some (get_or-take (k + 1) atoms k d (omega arith)) in
    subst (λ (o : Option PlainKeyAtom). MatchOption o (Unit {0}) (λ a. compare_atoms a (get_or atoms (k + 1) d) ≡ Less)) last
    behind

-- atoms that may stand as a key ascend, and are few enough
pub FitsKey-from_may : (atoms : List PlainKeyAtom) → key.may atoms → FitsKey atoms
unfolding key atom atom_count
FitsKey-from_may atoms may = record {
  ascends = λ k d lt. comes_next atoms k d lt (may.1.1 (k + 1) d lt).1.ascends;
  few = may.0.1;
}

-- and are canonical
canonical-from_may : (atoms : List PlainKeyAtom) → key.may atoms → All IsCanonical atoms
unfolding key atom atom_count
canonical-from_may atoms may k d lt = (may.1.1 k d lt).1.canonical

-- so they are a key
IsKey-from_may : (atoms : List PlainKeyAtom) → key.may atoms → IsKey atoms
IsKey-from_may atoms may = record { fits = FitsKey-from_may atoms may; canonical = canonical-from_may atoms may }

-- the key of an entry in the grammar is one
IsKey-in_grammar : (e : Entry) → IsInGrammar e → IsKey (key_of e)
unfolding body body_fields
IsKey-in_grammar (Sat e) grammar = IsKey-from_may e.key grammar.may.1.0
IsKey-in_grammar (Unsat e) grammar = IsKey-from_may e.key grammar.may.1.0

pub frames_checked : FramesAreChecked
frames_checked bytes e taken is =
    record { key = IsKey-in_grammar e is.begins.fits.grammar; evidence = is.evidence }

-- atoms that were read fit a key
pub FitsKey-read : (bytes : List ℕ) (atoms : List PlainKeyAtom) (rest : List ℕ) → IsBytes bytes
    → key_at bytes ≡ Ok (atoms, rest) → FitsKey atoms
FitsKey-read bytes atoms rest are e =
    let t = Reads-key.takes bytes atoms rest are e in
    FitsKey-from_may atoms (subst key.may (sym t.is) t.begins.may)

-- values that may stand as a point are one, of the width
pub IsPoint-from_may : (width : ℕ) (values : List ℤ) → width ≤ MAX_VALUES → (point width).may values
    → IsPoint values × (length values ≡ width)
unfolding point value_count value
IsPoint-from_may width values le may = (
  record {
    few = omega (arith, may.0.1);
    small = λ k d lt. (may.1.1 k d lt).1;
  },
  may.0.1,
)

-- values that were read are a point of the width
pub IsPoint-read : (width : ℕ) (bytes : List ℕ) (values : List ℤ) (rest : List ℕ) → width ≤ MAX_VALUES → IsBytes bytes
    → point_at width bytes ≡ Ok (values, rest) → IsPoint values × (length values ≡ width)
IsPoint-read width bytes values rest le are e =
    let t = (Reads-point width).takes bytes values rest are e in
    IsPoint-from_may width values le (subst (point width).may (sym t.is) t.begins.may)
