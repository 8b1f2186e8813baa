-- Reading bodies.
use Rattle.std.proofs.Common.{◌≡◌, ℕ, ◌<◌, ◌≤◌, Bool, false, cond, eqb, List, [], ◌++◌, length, Result, Ok}
use Rattle.std.proofs.Common.{Err, inl, inr, refl, sym, ap, subst, ◌∙◌, arith}
use Rattle.std.proofs.lemmas.Bool.{eqb-true, eqb-false}
use Rattle.std.proofs.lemmas.Bool.Decides.{nat_tests}
use Rattle.std.proofs.lemmas.List.{append-nil, nil_from_length}
use Rattle.lin_model.specs.Key.{key_width}
use Rattle.entry_codec.specs.declared.kind.BodyKind.{BodyKind}
use Rattle.entry_codec.specs.declared.kind.BodyKind.TheVariants as kinds
use Rattle.entry_codec.specs.Reading.{Read, whole_at}
use Rattle.entry_codec.specs.Grammar.{IsBytes, Grammar, Begins, both, IsWhole, IsFaultOfWhole}
use Rattle.entry_codec.specs.Fields.{body_kind}
use Rattle.entry_codec.specs.Atoms.{key, point}
use Rattle.entry_codec.specs.Nodes.{nodes}
use Rattle.entry_codec.specs.Bodies.{Body, sat, unsat, BodyFields, body_fields, body_parts, body}
use Rattle.entry_codec.specs.FieldReading.{body_kind_at}
use Rattle.entry_codec.specs.AtomReading.{key_at, point_at}
use Rattle.entry_codec.specs.NodeReading.{nodes_at}
use Rattle.entry_codec.specs.BodyReading.{sat_at, unsat_at, body_fields_at, body_at, body_in}
use Rattle.entry_codec.proofs.Bytes.{length-behind, both_ok, one_failed, step_on, step_off, passed, failed}
use Rattle.entry_codec.proofs.PartLaws.{ReadsAs, Reads, read_where, ReadsAs-mapped, ReadsAs-both, Reads-seen_as}
use Rattle.entry_codec.proofs.CodeLaws.{Reads-body_kind}
use Rattle.entry_codec.proofs.AtomLaws.{Reads-key, Reads-point}
use Rattle.entry_codec.proofs.NodeLaws.{Reads-nodes}

-- ---- bodies

-- the body of these fields
abbrev body_with : (kind : BodyKind) → BodyFields kind → Body
body_with kinds.Sat x = sat x.0 x.1
body_with kinds.Unsat x = unsat x.0 x.1

ReadsAs-body_fields : (kind : BodyKind) → ReadsAs (body_fields kind) (body_with kind) (body_fields_at kind)
unfolding body_fields body_fields_at sat_at unsat_at
ReadsAs-body_fields kinds.Sat =
    ReadsAs-both key (λ atoms. point (key_width atoms)) sat key_at (λ atoms bytes. _) Reads-key
    (λ atoms. ReadsAs-mapped (point (key_width atoms)) (λ vs. vs) (sat atoms) (point_at (key_width atoms))
    (Reads-point (key_width atoms)))
ReadsAs-body_fields kinds.Unsat =
    ReadsAs-both key (λ atoms. nodes) unsat key_at (λ atoms bytes. _) Reads-key
    (λ atoms. ReadsAs-mapped nodes (λ ns. ns) (unsat atoms) nodes_at Reads-nodes)

body_back : (b : Body) → body_with (body_parts b).0 (body_parts b).1 ≡ b
body_back (sat atoms values) = refl
body_back (unsat atoms whole) = refl

body_forth : (kind : BodyKind) (fields : BodyFields kind) → body_parts (body_with kind fields) ≡ (kind, fields)
body_forth kinds.Sat x = refl
body_forth kinds.Unsat x = refl

pub Reads-body : Reads body body_at
unfolding body body_at
Reads-body =
    Reads-seen_as (both body_kind body_fields) (λ x. body_with x.0 x.1) body_parts body_at body_back
    (λ x may. body_forth x.0 x.1)
    (ReadsAs-both body_kind body_fields body_with body_kind_at body_fields_at Reads-body_kind ReadsAs-body_fields)

-- ---- a part and nothing more

-- The reader gives the value that all of the bytes are, or the first fault.
pub record ReadsWhole {A : Type 0} (part : Grammar A) (read : List ℕ → Result A ℕ) : Type 0 where
  pub takes : (bytes : List ℕ) (value : A) → IsBytes bytes → read bytes ≡ Ok value → IsWhole part bytes value
  pub again : (bytes : List ℕ) (value : A) → IsWhole part bytes value → read bytes ≡ Ok value
  pub faulty : (bytes : List ℕ) (left : ℕ) → IsBytes bytes → read bytes ≡ Err left → IsFaultOfWhole part bytes left
  pub only : (bytes : List ℕ) (left : ℕ) → IsBytes bytes → IsFaultOfWhole part bytes left → read bytes ≡ Err left
  pub within : (bytes : List ℕ) (left : ℕ) → IsFaultOfWhole part bytes left → left ≤ length bytes

-- a list that isn't empty has elements
some_there : (n : ℕ) → eqb n 0 ≡ false → 0 < n
some_there n is = let other = eqb-false n 0 is in omega arith

-- a length that isn't 0, as a test
is_some : (n : ℕ) → 0 < n → eqb n 0 ≡ false
is_some n lt = grind (arith, nat_tests)

pub ReadsWhole-of : {A : Type 0} (part : Grammar A) (read : List ℕ → Read A) → Reads part read
    → ReadsWhole part (whole_at read)
ReadsWhole-of {A} part read law = record {
  takes = λ bytes value are e.
      let s = both_ok (read bytes) go_on value e in
      let p = passed (eqb (length s.value.1) 0) s.value.0 value (length s.value.1) s.then in
      let t = law.takes bytes s.value.0 s.value.1 are s.first in
      let same : t.value ≡ value = sym t.is ∙ p.1 in
      let none = nil_from_length s.value.1 (eqb-true _ _ p.0) in
      record {
        may = subst part.may same t.begins.may;
        spelled =
            t.begins.spelled ∙ ap (λ (r : List ℕ). part.spell t.value ++ r) none ∙ append-nil (part.spell t.value)
            ∙ ap part.spell same;
      };
  again = λ bytes value is.
      let begins : Begins part bytes value [] =
      record { may = is.may; spelled = is.spelled ∙ sym (append-nil (part.spell value)) } in
      step_on (read bytes) go_on (value, []) (read_where part (λ a. a) read law bytes value [] begins);
  faulty = λ bytes left are e. elim (one_failed (read bytes) go_on left e) [
    | inl first ↦ inl (law.faulty bytes left are first)
    | inr s ↦ inr (
        let f = failed (eqb (length s.value.1) 0) s.value.0 (length s.value.1) left s.then in
        let t = law.takes bytes s.value.0 s.value.1 are s.first in
        record {
          value = t.value;
          rest = s.value.1;
          begins = t.begins;
          some = some_there (length s.value.1) f.0;
          here = sym f.1;
        }
        )
  ];
  only = λ bytes left are fault. elim fault [
    | inl of_part ↦ step_off (read bytes) go_on left (law.only bytes left are of_part)
    | inr h ↦ step_on (read bytes) go_on (h.value, h.rest)
        (read_where part (λ a. a) read law bytes h.value h.rest h.begins)
        ∙ ap (λ (b : Bool). cond b (Ok h.value) (Err (length h.rest))) (is_some (length h.rest) h.some)
        ∙ ap Err (sym h.here)
  ];
  within = λ bytes left fault. elim fault [
    | inl of_part ↦ law.within bytes left of_part
    | inr h ↦ omega (arith, h.here, length-behind (part.spell h.value) h.rest bytes h.begins.spelled)
  ];
}
  where
    go_on : A × List ℕ → Result A ℕ
    go_on x = cond (eqb (length x.1) 0) (Ok x.0) (Err (length x.1))

pub ReadsWhole-body : ReadsWhole body body_in
unfolding body_in
ReadsWhole-body = ReadsWhole-of body body_at Reads-body
