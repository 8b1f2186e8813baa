-- Reading bodies as entries.
use Rattle.std.proofs.Common.{◌≡◌, ℕ, ◌≤◌, Bool, true, false, cond, eqb, List, length, Result, Ok, Err, inl, inr, refl, sym, ap, subst, ◌∙◌}
use Rattle.lin_model.specs.Key.{key_width}
use Rattle.lin_model.specs.KeyAtom.{PlainKeyAtom}
use Rattle.cert_check.specs.declared.entry.Entry.{Entry}
use Rattle.cert_check.specs.declared.entry.Entry.TheVariants.{Sat, Unsat}
use Rattle.entry_codec.specs.declared.kind.BodyKind.{BodyKind}
use Rattle.entry_codec.specs.declared.kind.BodyKind.TheVariants as kinds
use Rattle.entry_codec.specs.Reading.{Read, ◌>>=◌, mapped_at}
use Rattle.entry_codec.specs.Grammar.{IsBytes, IsFaultOfWhole}
use Rattle.entry_codec.specs.Nodes.{TreeNode, tree_of}
use Rattle.entry_codec.specs.Bodies.{Body, sat, unsat, body, body_bytes, body_of, entry_of, IsInGrammar}
use Rattle.entry_codec.specs.FieldReading.{body_kind_at}
use Rattle.entry_codec.specs.AtomReading.{key_at, point_at}
use Rattle.entry_codec.specs.NodeReading.{nodes_at}
use Rattle.entry_codec.specs.TreeReading.{tree_at}
use Rattle.entry_codec.specs.BodyReading.{sat_at, unsat_at, body_fields_at, body_at, body_in}
use Rattle.entry_codec.specs.EntryReading.{sat_entry_at, unsat_entry_at, entry_fields_at, entry_at, entry_in}
use Rattle.entry_codec.proofs.Bytes.{both_ok, one_failed, step_on, step_off, ok_is}
use Rattle.entry_codec.proofs.LoopLemmas.{seen}
use Rattle.entry_codec.proofs.BodyLaws.{ReadsWhole-body}
use Rattle.entry_codec.proofs.TreeLaws.{body_of-entry, entry_in_grammar}

-- ---- the entry that is read is that of the body that is read

sat_same : (bytes : List ℕ) → sat_entry_at bytes ≡ mapped_at entry_of sat_at bytes
unfolding sat_entry_at sat_at
sat_same bytes = by_key (key_at bytes)
  where
    by_point : (key : List PlainKeyAtom) (r : Read (List _))
        → (r >>= seen (λ point. Sat (record { key = key; point = point }))) ≡ ((r >>= seen (sat key)) >>= seen entry_of)
    by_point key (Ok x) = refl
    by_point key (Err left) = refl

    by_key : (r : Read (List PlainKeyAtom))
        → (r >>= λ key. point_at (key_width key.0) key.1 >>= seen (λ point. Sat (record { key = key.0; point = point })))
        ≡ ((r >>= λ key. point_at (key_width key.0) key.1 >>= seen (sat key.0)) >>= seen entry_of)
    by_key (Ok key) = by_point key.0 (point_at (key_width key.0) key.1)
    by_key (Err left) = refl

unsat_same : (bytes : List ℕ) → unsat_entry_at bytes ≡ mapped_at entry_of unsat_at bytes
unfolding unsat_entry_at unsat_at tree_at
unsat_same bytes = by_key (key_at bytes)
  where
    by_nodes : (key : List PlainKeyAtom) (r : Read (List TreeNode))
        → ((r >>= seen tree_of) >>= seen (λ tree. Unsat (record { key = key; tree = tree })))
        ≡ ((r >>= seen (unsat key)) >>= seen entry_of)
    by_nodes key (Ok x) = refl
    by_nodes key (Err left) = refl

    by_key : (r : Read (List PlainKeyAtom))
        → (r >>= λ key. (nodes_at key.1 >>= seen tree_of) >>= seen (λ tree. Unsat (record { key = key.0; tree = tree })))
        ≡ ((r >>= λ key. nodes_at key.1 >>= seen (unsat key.0)) >>= seen entry_of)
    by_key (Ok key) = by_nodes key.0 (nodes_at key.1)
    by_key (Err left) = refl

fields_same : (kind : BodyKind) (bytes : List ℕ) → entry_fields_at kind bytes ≡ mapped_at entry_of (body_fields_at kind) bytes
unfolding entry_fields_at body_fields_at
fields_same kinds.Sat bytes = sat_same bytes
fields_same kinds.Unsat bytes = unsat_same bytes

entry_same : (bytes : List ℕ) → entry_at bytes ≡ mapped_at entry_of body_at bytes
unfolding entry_at body_at
entry_same bytes = by_kind (body_kind_at bytes)
  where
    by_kind : (r : Read BodyKind)
        → (r >>= λ kind. entry_fields_at kind.0 kind.1) ≡ ((r >>= λ kind. body_fields_at kind.0 kind.1) >>= seen entry_of)
    by_kind (Ok kind) = fields_same kind.0 kind.1
    by_kind (Err left) = refl

-- the value, if nothing is left
abbrev if_whole : {A : Type 0} → A × List ℕ → Result A ℕ
if_whole x = cond (eqb (length x.1) 0) (Ok x.0) (Err (length x.1))

-- the entry of the body that is read
pub entry_in-is : (bytes : List ℕ) → entry_in bytes ≡ (body_in bytes >>= λ b. Ok (entry_of b))
unfolding entry_in body_in
entry_in-is bytes =
    ap (λ (r : Read Entry). r >>= if_whole) (entry_same bytes) ∙ by_body (body_at bytes)
  where
    by_test : (b : Body) (n : ℕ) (test : Bool)
        → cond test (Ok (entry_of b)) (Err n) ≡ (cond test (Ok b) (Err n) >>= λ c. Ok (entry_of c))
    by_test b n true = refl
    by_test b n false = refl

    by_body : (r : Read Body) → ((r >>= seen entry_of) >>= if_whole) ≡ ((r >>= if_whole) >>= λ b. Ok (entry_of b))
    by_body (Ok x) = by_test x.0 (length x.1) (eqb (length x.1) 0)
    by_body (Err left) = refl

-- ---- laws of entries that are read

-- an entry in the grammar, with these bytes
pub record IsEntryIn (content : List ℕ) (e : Entry) : Type 0 where
  pub grammar : IsInGrammar e
  pub spelled : content ≡ body_bytes e

-- what is read is in the grammar, and spelled so
pub entry_in-takes : (content : List ℕ) (e : Entry) → IsBytes content → entry_in content ≡ Ok e → IsEntryIn content e
unfolding body_bytes
entry_in-takes content e are is =
    let s = both_ok (body_in content) (λ b. Ok (entry_of b)) e (sym (entry_in-is content) ∙ is) in
    let whole = ReadsWhole-body.takes content s.value are s.first in
    let same : entry_of s.value ≡ e = ok_is {E = ℕ} (entry_of s.value) e s.then in
    subst (λ (f : Entry). IsEntryIn content f) same (record {
      grammar = entry_in_grammar s.value whole.may;
      spelled = whole.spelled ∙ ap body.spell (sym (body_of-entry s.value));
    })

-- an entry in the grammar is read
pub entry_in-again : (e : Entry) → IsInGrammar e → entry_in (body_bytes e) ≡ Ok e
unfolding body_bytes
entry_in-again e grammar =
    entry_in-is (body_bytes e)
    ∙ step_on (body_in (body_bytes e)) (λ b. Ok (entry_of b)) (body_of e)
    (ReadsWhole-body.again (body_bytes e) (body_of e) (record { may = grammar.may; spelled = refl }))
    ∙ ap Ok grammar.own

-- the fault that is told is the first
pub entry_in-faulty : (content : List ℕ) (left : ℕ) → IsBytes content → entry_in content ≡ Err left
    → IsFaultOfWhole body content left
entry_in-faulty content left are is =
    elim (one_failed (body_in content) (λ b. Ok (entry_of b)) left (sym (entry_in-is content) ∙ is)) [
      | inl first ↦ ReadsWhole-body.faulty content left are first
      | inr s ↦ absurd (let never : (let one : Result Entry ℕ = Ok (entry_of s.value) in one) ≡ Err left = s.then in cc)
    ]

-- the first fault is told
pub entry_in-only : (content : List ℕ) (left : ℕ) → IsBytes content → IsFaultOfWhole body content left
    → entry_in content ≡ Err left
entry_in-only content left are fault =
    entry_in-is content
    ∙ step_off (body_in content) (λ b. Ok (entry_of b)) left (ReadsWhole-body.only content left are fault)

-- it lies in the bytes
pub entry_in-within : (content : List ℕ) (left : ℕ) → IsBytes content → entry_in content ≡ Err left
    → left ≤ length content
entry_in-within content left are is =
    ReadsWhole-body.within content left (entry_in-faulty content left are is)
