-- What the reading of a tree says of each node that is read, and of the terms that it takes.
use Rattle.std.proofs.Common.{◌≡◌, ℕ, ◌^◌, ◌<◌, ◌≤◌, ℤ, Bool, true, false, cond, Option, Some, None, List, [], ◌∷◌}
use Rattle.std.proofs.Common.{length, take}
use Rattle.std.proofs.Common.{drop, sym, ap, arith}
use Rattle.std.specs.Prelude.{unsigned_abs, nat_le, nat_lt, not, ◌&&◌, int_lt, slice_get, pos}
use Rattle.std.specs.List.{All}
use Rattle.std.specs.Option.{option_map, option_map_or}
use Rattle.std.specs.Ordering.{int_eq}
use Rattle.std.proofs.lemmas.Bool.{and_parts, ltb-true}
use Rattle.std.proofs.lemmas.List.Elements.{All-nil, All-cons}
use Rattle.std.proofs.lemmas.List.{length-take}
use Rattle.std.proofs.lemmas.Option.{cond_some, option_and_then_some, slice_get_within}
use Rattle.lin_model.specs.declared.op.Op.{Op}
use Rattle.lin_model.specs.declared.op.Op.TheVariants.{Le, Ge, Eq, Ne}
use Rattle.lin_model.specs.KeyAtom.{PlainKeyAtom}
use Rattle.refutation.specs.declared.leaf.LeafTerm.{LeafTerm}
use Rattle.refutation.specs.declared.leaf.On.{On}
use Rattle.refutation.specs.declared.leaf.On.TheVariants.{Atom as OnAtom, Side as OnSide}
use Rattle.refutation.specs.declared.node.Node.{Node}
use Rattle.refutation.specs.declared.node.Node.TheVariants.{Split, NeSplit, Combo, Fixed, Empty, Left}
use Rattle.refutation.specs.declared.side.Side.{Side}
use Rattle.refutation.specs.Box.{PlainBox, is_ne, left_half, right_half, on_side}
use Rattle.refutation.specs.Leaf.{Multiple, named, is_factor, is_positive_factor, weight, weighted, multiple_of}
use Rattle.refutation.specs.Leaf.{multiples_of, is_positive_sum, combo_closes, fails_fixed, fixed_closes, closes}
use Rattle.refutation.specs.Leaf.{combo, fixed, empty}
use Rattle.refutation.specs.Bounds.{least, greatest}
use Rattle.refutation.specs.Reading.{Treated, treated, is_split, names_ne}
use Rattle.entry_codec.specs.Writing.{taken_by}
use Rattle.entry_codec.proofs.FieldLaws.{Decides-at_most}

-- ---- terms

-- what a term is on is a side, or one of so many atoms
abbrev pub OnStands : ℕ → On → Type 0
OnStands atoms (OnAtom i) = i < atoms
OnStands atoms (OnSide k) = Unit {0}

-- a term that a combination may have
pub record TermStands (atoms : ℕ) (t : LeafTerm) : Type 0 where
  pub on : OnStands atoms t.on
  pub factor : unsigned_abs t.factor ≤ 2 ^ 31

factor_small : (f : ℤ) → is_factor f ≡ true → unsigned_abs f ≤ 2 ^ 31
factor_small f h =
    (Decides-at_most (2 ^ 31) (unsigned_abs f)).0
    (and_parts (nat_le (unsigned_abs f) (2 ^ 31)) (not (int_eq f (pos 0))) h).0

positive_small : (f w : ℤ) (v : ℤ) → cond (is_positive_factor f) (Some v) None ≡ Some w → unsigned_abs f ≤ 2 ^ 31
positive_small f w v h =
    factor_small f (and_parts (is_factor f) (int_lt (pos 0) f) (cond_some (is_positive_factor f) v w h).0).0

weighed_small : (op : Op) (f w : ℤ) → weight op f ≡ Some w → unsigned_abs f ≤ 2 ^ 31
weighed_small Le f w h = positive_small f w f h
weighed_small Ge f w h = positive_small f w _ h
weighed_small Eq f w h = factor_small f (cond_some (is_factor f) f w h).0
weighed_small Ne f w h = absurd (cc)

-- a value that is made of one is made of one
mapped_some : {X Y : Type 0} (o : Option X) (f : X → Y) (y : Y) → option_map f o ≡ Some y → (x : X) × (o ≡ Some x)
mapped_some None f y h = absurd (cc)
mapped_some (Some x) f y h = (x, cc)

named_stands : (key : List PlainKeyAtom) (sides : List Side) (on : On) (a : PlainKeyAtom) → named key sides on ≡ Some a
    → OnStands (length key) on
named_stands key sides (OnAtom i) a h = slice_get_within key i a h
named_stands key sides (OnSide k) a h = tt

multiple_stands : (key : List PlainKeyAtom) (sides : List Side) (t : LeafTerm) (m : Multiple)
    → multiple_of key sides t ≡ Some m → TermStands (length key) t
multiple_stands key sides t m h =
    option_and_then_some (λ (a : PlainKeyAtom). weighted a t.factor) (named key sides t.on) m h (λ a is at.
    let w = mapped_some (weight a.op t.factor) _ m at in
    record { on = named_stands key sides t.on a is; factor = weighed_small a.op t.factor w.0 w.1 })

-- where all terms stand for multiples, each does
multiples_stand : (key : List PlainKeyAtom) (sides : List Side) (terms : List LeafTerm) (ms : List Multiple)
    → multiples_of key sides terms ≡ Some ms → All (TermStands (length key)) terms
multiples_stand key sides [] ms h = All-nil (TermStands (length key))
multiples_stand key sides (t ∷ ts) ms h =
    option_and_then_some
    (λ (m : Multiple). option_map (λ (others : List Multiple). m ∷ others) (multiples_of key sides ts))
    (multiple_of key sides t) ms h (λ m is at.
    let rest = mapped_some (multiples_of key sides ts) _ ms at in
    All-cons (TermStands (length key)) t ts (multiple_stands key sides t m is)
    (multiples_stand key sides ts rest.0 rest.1))

-- ---- nodes

-- a combination of so many terms that come next
pub record ComboStands (atoms count : ℕ) (terms : List LeafTerm) : Type 0 where
  pub enough : count ≤ length terms
  pub some : 1 ≤ count
  pub few : count ≤ 8
  pub stand : All (TermStands atoms) (take count terms)

-- a node that is read, before these terms
abbrev pub NodeStands : ℕ → Node → List LeafTerm → Type 0
NodeStands atoms (Split v at) terms = (v < 64) × (unsigned_abs at ≤ 2 ^ 32)
NodeStands atoms (NeSplit i) terms = i < atoms
NodeStands atoms (Combo count) terms = ComboStands atoms count terms
NodeStands atoms (Fixed i) terms = i < atoms
NodeStands atoms Empty terms = Unit {0}
NodeStands atoms Left terms = Unit {0}

-- a test of an optional value that passes
test_found : {X : Type 0} (o : Option X) (f : X → Bool) → option_map_or f o false ≡ true → (x : X) × (o ≡ Some x)
test_found None f h = absurd (cc)
test_found (Some x) f h = (x, cc)

fixed_stands : (key : List PlainKeyAtom) (box : PlainBox) (i : ℕ) → closes key box (fixed i) ≡ true → i < length key
unfolding fixed_closes
fixed_stands key box i h =
    let found = test_found (slice_get key i)
    (λ (a : PlainKeyAtom). fails_fixed a (least a.form box.bounds) (greatest a.form box.bounds)) h in
    slice_get_within key i found.0 found.1

combo_stands : (key : List PlainKeyAtom) (box : PlainBox) (count : ℕ) (terms : List LeafTerm)
    → (nat_le count (length terms) && closes key box (combo (take count terms))) ≡ true
    → ComboStands (length key) count terms
unfolding combo_closes
combo_stands key box count terms h =
    let own : List LeafTerm = take count terms in
    let is_sum : Bool = option_map_or (is_positive_sum box.bounds) (multiples_of key box.sides own) false in
    let two = and_parts (nat_le count (length terms)) (combo_closes key box own) h in
    let within = and_parts (nat_le 1 (length own)) (nat_le (length own) 8 && is_sum) two.1 in
    let small = and_parts (nat_le (length own) 8) is_sum within.1 in
    let ms = test_found (multiples_of key box.sides own) (is_positive_sum box.bounds) small.1 in
    let enough : count ≤ length terms = (Decides-at_most (length terms) count).0 two.0 in
    let some : 1 ≤ length own = (Decides-at_most (length own) 1).0 within.0 in
    let few : length own ≤ 8 = (Decides-at_most 8 (length own)).0 small.0 in
    record {
      enough = enough;
      some = omega (arith, length-take count terms);
      few = omega (arith, length-take count terms);
      stand = multiples_stand key box.sides own ms.0 ms.1;
    }

-- what is read of a node: it stands, and the terms that it takes are gone
pub record IsTaken (atoms : ℕ) (node : Node) (before : List LeafTerm) (after : Treated) : Type 0 where
  pub stands : NodeStands atoms node before
  pub terms : after.terms ≡ drop (taken_by node) before

-- where a choice was made, it left the terms of its value
left_by : (b : Bool) (v r : Treated) → cond b (Some v) None ≡ Some r → r.terms ≡ v.terms
left_by b v r h = ap (λ (t : Treated). t.terms) (sym (cond_some b v r h).1)

pub taken : (may_leave : Bool) (key : List PlainKeyAtom) (box : PlainBox) (node : Node) (terms : List LeafTerm)
    (after : Treated) → treated may_leave key box node terms ≡ Some after
    → IsTaken (length key) node terms after
unfolding treated
taken may_leave key box (Split v at) terms after h =
    let value : Treated = record { boxes = left_half box v at ∷ right_half box v at ∷ []; terms = terms } in
    let is = and_parts (nat_lt v 64) (nat_le (unsigned_abs at) (2 ^ 32)) (cond_some (is_split v at) value after h).0 in
    record {
      stands = (ltb-true v 64 is.0, (Decides-at_most (2 ^ 32) (unsigned_abs at)).0 is.1);
      terms = left_by (is_split v at) value after h;
    }
taken may_leave key box (NeSplit i) terms after h =
    let value : Treated = record { boxes = on_side box i false ∷ on_side box i true ∷ []; terms = terms } in
    let found = test_found (slice_get key i) is_ne (cond_some (names_ne key i) value after h).0 in
    record {
      stands = slice_get_within key i found.0 found.1;
      terms = left_by (names_ne key i) value after h;
    }
taken may_leave key box (Combo count) terms after h =
    let closed : Bool = nat_le count (length terms) && closes key box (combo (take count terms)) in
    let value : Treated = record { boxes = []; terms = drop count terms } in
    record {
      stands = combo_stands key box count terms (cond_some closed value after h).0;
      terms = left_by closed value after h;
    }
taken may_leave key box (Fixed i) terms after h =
    let value : Treated = record { boxes = []; terms = terms } in
    record {
      stands = fixed_stands key box i (cond_some (closes key box (fixed i)) value after h).0;
      terms = left_by (closes key box (fixed i)) value after h;
    }
taken may_leave key box Empty terms after h =
    let value : Treated = record { boxes = []; terms = terms } in
    record { stands = tt; terms = left_by (closes key box empty) value after h }
taken may_leave key box Left terms after h =
    let value : Treated = record { boxes = []; terms = terms } in
    record { stands = tt; terms = left_by may_leave value after h }
