-- Reading fields that are codes of one byte.
use Rattle.std.proofs.Common.{◌≡◌, ℕ, zero, suc, List, [], ◌∷◌, length, Ok, Err, refl, ap, subst}
use Rattle.lin_model.specs.declared.op.Op.{Op}
use Rattle.lin_model.specs.declared.op.Op.TheVariants.{Le, Ge, Eq, Ne}
use Rattle.lin_model.specs.Test.{code_of}
use Rattle.entry_codec.specs.declared.kind.BodyKind.{BodyKind}
use Rattle.entry_codec.specs.declared.kind.BodyKind.TheVariants as bodies
use Rattle.entry_codec.specs.declared.kind.NodeKind.{NodeKind}
use Rattle.entry_codec.specs.declared.kind.NodeKind.TheVariants as nodes
use Rattle.entry_codec.specs.declared.kind.OnKind.{OnKind}
use Rattle.entry_codec.specs.declared.kind.OnKind.TheVariants as ons
use Rattle.entry_codec.specs.Grammar.{IsBytes, Begins, coded}
use Rattle.entry_codec.specs.Fields.{op, body_code, body_kind, node_code, node_kind, on_code, on_kind}
use Rattle.entry_codec.specs.FieldReading.{op_at, body_kind_at, node_kind_at, on_kind_at}
use Rattle.entry_codec.proofs.Bytes.{ok_is}
use Rattle.entry_codec.proofs.PartLaws.{Reads, Reads-field}

-- a byte that is the code of a value
code_begins : {A : Type 0} (code : A → ℕ) (b : ℕ) (taken found : A × List ℕ) → taken ≡ found → b ≡ code taken.0
    → Begins (coded code) (b ∷ taken.1) found.0 found.1
code_begins {A} code b taken found whole is = record {
  may = tt;
  spelled = subst (λ (x : A × List ℕ). b ∷ taken.1 ≡ code x.0 ∷ x.1) whole (ap (λ (c : ℕ). c ∷ taken.1) is);
}

-- ---- the comparison of an atom

op_takes : (bytes : List ℕ) (value : Op) (rest : List ℕ) → IsBytes bytes → op_at bytes ≡ Ok (value, rest)
    → Begins op bytes value rest
unfolding op op_at
op_takes [] value rest are e = absurd (cc)
op_takes (zero ∷ bytes) value rest are e = absurd (cc)
op_takes (suc zero ∷ bytes) value rest are e =
    code_begins code_of 1 (Le, bytes) (value, rest) (ok_is {E = ℕ} (Le, bytes) (value, rest) e) refl
op_takes (suc (suc zero) ∷ bytes) value rest are e =
    code_begins code_of 2 (Ge, bytes) (value, rest) (ok_is {E = ℕ} (Ge, bytes) (value, rest) e) refl
op_takes (suc (suc (suc zero)) ∷ bytes) value rest are e =
    code_begins code_of 3 (Eq, bytes) (value, rest) (ok_is {E = ℕ} (Eq, bytes) (value, rest) e) refl
op_takes (suc (suc (suc (suc zero))) ∷ bytes) value rest are e =
    code_begins code_of 4 (Ne, bytes) (value, rest) (ok_is {E = ℕ} (Ne, bytes) (value, rest) e) refl
op_takes (suc (suc (suc (suc (suc b)))) ∷ bytes) value rest are e = absurd (cc)

op_again : (value : Op) (rest : List ℕ) → Unit {0} → op_at (code_of value ∷ rest) ≡ Ok (value, rest)
unfolding op_at
op_again Le rest may = refl
op_again Ge rest may = refl
op_again Eq rest may = refl
op_again Ne rest may = refl

op_here : (bytes : List ℕ) (left : ℕ) → op_at bytes ≡ Err left → left ≡ length bytes
unfolding op_at
op_here [] left e = cc
op_here (zero ∷ bytes) left e = cc
op_here (suc zero ∷ bytes) left e = absurd (cc)
op_here (suc (suc zero) ∷ bytes) left e = absurd (cc)
op_here (suc (suc (suc zero)) ∷ bytes) left e = absurd (cc)
op_here (suc (suc (suc (suc zero))) ∷ bytes) left e = absurd (cc)
op_here (suc (suc (suc (suc (suc b)))) ∷ bytes) left e = cc

pub Reads-op : Reads op op_at
unfolding op
Reads-op = Reads-field (λ value. code_of value ∷ []) (λ value. Unit {0}) op_at op_takes op_again op_here

-- ---- what an entry is

body_kind_takes : (bytes : List ℕ) (value : BodyKind) (rest : List ℕ) → IsBytes bytes → body_kind_at bytes ≡ Ok (value, rest)
    → Begins body_kind bytes value rest
unfolding body_kind body_kind_at
body_kind_takes [] value rest are e = absurd (cc)
body_kind_takes (zero ∷ bytes) value rest are e = absurd (cc)
body_kind_takes (suc zero ∷ bytes) value rest are e =
    code_begins body_code 1 (bodies.Sat, bytes) (value, rest) (ok_is {E = ℕ} (bodies.Sat, bytes) (value, rest) e) refl
body_kind_takes (suc (suc zero) ∷ bytes) value rest are e =
    code_begins body_code 2 (bodies.Unsat, bytes) (value, rest) (ok_is {E = ℕ} (bodies.Unsat, bytes) (value, rest) e) refl
body_kind_takes (suc (suc (suc b)) ∷ bytes) value rest are e = absurd (cc)

body_kind_again : (value : BodyKind) (rest : List ℕ) → Unit {0} → body_kind_at (body_code value ∷ rest) ≡ Ok (value, rest)
unfolding body_kind_at
body_kind_again bodies.Sat rest may = refl
body_kind_again bodies.Unsat rest may = refl

body_kind_here : (bytes : List ℕ) (left : ℕ) → body_kind_at bytes ≡ Err left → left ≡ length bytes
unfolding body_kind_at
body_kind_here [] left e = cc
body_kind_here (zero ∷ bytes) left e = cc
body_kind_here (suc zero ∷ bytes) left e = absurd (cc)
body_kind_here (suc (suc zero) ∷ bytes) left e = absurd (cc)
body_kind_here (suc (suc (suc b)) ∷ bytes) left e = cc

pub Reads-body_kind : Reads body_kind body_kind_at
unfolding body_kind
Reads-body_kind = Reads-field (λ value. body_code value ∷ []) (λ value. Unit {0}) body_kind_at body_kind_takes body_kind_again body_kind_here

-- ---- what a node is

node_kind_takes : (bytes : List ℕ) (value : NodeKind) (rest : List ℕ) → IsBytes bytes → node_kind_at bytes ≡ Ok (value, rest)
    → Begins node_kind bytes value rest
unfolding node_kind node_kind_at
node_kind_takes [] value rest are e = absurd (cc)
node_kind_takes (zero ∷ bytes) value rest are e = absurd (cc)
node_kind_takes (suc zero ∷ bytes) value rest are e =
    code_begins node_code 1 (nodes.Split, bytes) (value, rest) (ok_is {E = ℕ} (nodes.Split, bytes) (value, rest) e) refl
node_kind_takes (suc (suc zero) ∷ bytes) value rest are e =
    code_begins node_code 2 (nodes.NeSplit, bytes) (value, rest) (ok_is {E = ℕ} (nodes.NeSplit, bytes) (value, rest) e) refl
node_kind_takes (suc (suc (suc zero)) ∷ bytes) value rest are e =
    code_begins node_code 3 (nodes.Combo, bytes) (value, rest) (ok_is {E = ℕ} (nodes.Combo, bytes) (value, rest) e) refl
node_kind_takes (suc (suc (suc (suc zero))) ∷ bytes) value rest are e =
    code_begins node_code 4 (nodes.Fixed, bytes) (value, rest) (ok_is {E = ℕ} (nodes.Fixed, bytes) (value, rest) e) refl
node_kind_takes (suc (suc (suc (suc (suc zero)))) ∷ bytes) value rest are e =
    code_begins node_code 5 (nodes.Empty, bytes) (value, rest) (ok_is {E = ℕ} (nodes.Empty, bytes) (value, rest) e) refl
node_kind_takes (suc (suc (suc (suc (suc (suc b))))) ∷ bytes) value rest are e = absurd (cc)

node_kind_again : (value : NodeKind) (rest : List ℕ) → Unit {0} → node_kind_at (node_code value ∷ rest) ≡ Ok (value, rest)
unfolding node_kind_at
node_kind_again nodes.Split rest may = refl
node_kind_again nodes.NeSplit rest may = refl
node_kind_again nodes.Combo rest may = refl
node_kind_again nodes.Fixed rest may = refl
node_kind_again nodes.Empty rest may = refl

node_kind_here : (bytes : List ℕ) (left : ℕ) → node_kind_at bytes ≡ Err left → left ≡ length bytes
unfolding node_kind_at
node_kind_here [] left e = cc
node_kind_here (zero ∷ bytes) left e = cc
node_kind_here (suc zero ∷ bytes) left e = absurd (cc)
node_kind_here (suc (suc zero) ∷ bytes) left e = absurd (cc)
node_kind_here (suc (suc (suc zero)) ∷ bytes) left e = absurd (cc)
node_kind_here (suc (suc (suc (suc zero))) ∷ bytes) left e = absurd (cc)
node_kind_here (suc (suc (suc (suc (suc zero)))) ∷ bytes) left e = absurd (cc)
node_kind_here (suc (suc (suc (suc (suc (suc b))))) ∷ bytes) left e = cc

pub Reads-node_kind : Reads node_kind node_kind_at
unfolding node_kind
Reads-node_kind = Reads-field (λ value. node_code value ∷ []) (λ value. Unit {0}) node_kind_at node_kind_takes node_kind_again node_kind_here

-- ---- what a term of a combination is on

on_kind_takes : (bytes : List ℕ) (value : OnKind) (rest : List ℕ) → IsBytes bytes → on_kind_at bytes ≡ Ok (value, rest)
    → Begins on_kind bytes value rest
unfolding on_kind on_kind_at
on_kind_takes [] value rest are e = absurd (cc)
on_kind_takes (zero ∷ bytes) value rest are e =
    code_begins on_code 0 (ons.Atom, bytes) (value, rest) (ok_is {E = ℕ} (ons.Atom, bytes) (value, rest) e) refl
on_kind_takes (suc zero ∷ bytes) value rest are e =
    code_begins on_code 1 (ons.Side, bytes) (value, rest) (ok_is {E = ℕ} (ons.Side, bytes) (value, rest) e) refl
on_kind_takes (suc (suc b) ∷ bytes) value rest are e = absurd (cc)

on_kind_again : (value : OnKind) (rest : List ℕ) → Unit {0} → on_kind_at (on_code value ∷ rest) ≡ Ok (value, rest)
unfolding on_kind_at
on_kind_again ons.Atom rest may = refl
on_kind_again ons.Side rest may = refl

on_kind_here : (bytes : List ℕ) (left : ℕ) → on_kind_at bytes ≡ Err left → left ≡ length bytes
unfolding on_kind_at
on_kind_here [] left e = cc
on_kind_here (zero ∷ bytes) left e = absurd (cc)
on_kind_here (suc zero ∷ bytes) left e = absurd (cc)
on_kind_here (suc (suc b) ∷ bytes) left e = cc

pub Reads-on_kind : Reads on_kind on_kind_at
unfolding on_kind
Reads-on_kind = Reads-field (λ value. on_code value ∷ []) (λ value. Unit {0}) on_kind_at on_kind_takes on_kind_again on_kind_here
