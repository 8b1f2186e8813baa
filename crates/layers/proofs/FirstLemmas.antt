-- The first entry from a place on, layer by layer.
use Rattle.std.proofs.Common.{◌≡◌, ℕ, ◌+◌, ◌-◌, ◌<◌, ◌≤◌, ◌∙◌, List, Option, Some, None, length, take, get_or}
use Rattle.std.proofs.Common.{inl, inr, arith, sym, ap, subst}
use Rattle.std.specs.Prelude.{IsSomeAnd}
use Rattle.std.specs.List.{slice_get}
use Rattle.std.proofs.lemmas.Option.{get_or_from_slice_get, slice_get_within}
use Rattle.std.proofs.lemmas.Bool.{cases_lt}
use Rattle.std.proofs.lemmas.List.{length-take, get_or-take}
use Rattle.lin_model.specs.KeyAtom.{PlainKeyAtom}
use Rattle.lin_model.specs.Lists.{Found-from, IsSomeAnd-found}
use Rattle.cert_check.specs.declared.entry.Entry.{Entry}
use Rattle.cert_check.specs.Decides.{Decides, NoneDecides, IsFirstDeciding}
use Rattle.layers.specs.Layers.{joined, NoneBetween, IsFirstAtFrom, IsFirstFrom, LaterFirstsAreFirst}
use Rattle.layers.proofs.JoinLemmas.{at_layer, there_in_layer}

-- a layer behind the front, and a key of which none of the front's entries from n on decides
module _ (layers : List (List Entry)) (i start n : ℕ) (layer : List Entry) (q : List PlainKeyAtom)
    (lt : i < length layers)
    (is : layer ≡ get_or layers i layer) (front : start ≡ length (joined (take i layers)))
    (none : NoneBetween (joined layers) q n start) where
  -- what the joined list has behind the front
  in_layer : (k : ℕ) (d : Entry) → start ≤ k → k < start + length layer
      → get_or (joined layers) k d ≡ get_or layer (k - start) d
  in_layer k d from below =
      let place : k ≡ length (joined (take i layers)) + (k - start) = omega (arith, front) in
      ap (λ (m : ℕ). get_or (joined layers) m d) place ∙ at_layer layers i layer lt is (k - start) d (omega arith)

  -- nor do the layer's up to m
  pub none_up_to : (m : ℕ) → m ≤ length layer → NoneBetween layer q (n - start) m
      → NoneBetween (joined layers) q n (start + m)
  none_up_to m within more k d from below = elim (cases_lt k start) [
    | inl before ↦ none k d from before
    | inr behind ↦ λ decides. more (k - start) d (omega arith) (omega arith)
        (subst (λ (e : Entry). Decides e q) (in_layer k d behind (omega arith)) decides)
  ]

  -- the first that decides within the layer is the first of all
  pub first_in_layer : (place : ℕ) → IsFirstAtFrom (n - start) layer q place
      → IsFirstAtFrom n (joined layers) q (start + place)
  first_in_layer place first =
      let found = Found-from (slice_get layer place) (λ e. Decides e q) first.here in
      let within : place < length layer = slice_get_within layer place found.value found.is in
      let there : slice_get (joined layers) (start + place) ≡ Some found.value =
      ap (λ (m : ℕ). slice_get (joined layers) (m + place)) front
      ∙ there_in_layer layers i layer lt is place found.value found.is within in
      record {
        from = omega (arith, first.from);
        here = IsSomeAnd-found (slice_get (joined layers) (start + place)) (λ e. Decides e q) found.value there
            found.holds;
        before = none_up_to place (omega arith) first.before;
      }

  -- the same, of the layer as it was read, from the place as it was reckoned
  pub first_read : (from : ℕ) (it : List Entry) (place : ℕ) → from ≡ n - start → it ≡ layer
      → IsFirstAtFrom from it q place → IsFirstAtFrom n (joined layers) q (start + place)
  first_read from it place from_is same first =
      first_in_layer place (subst (λ (es : List Entry). IsFirstAtFrom (n - start) es q place) same
      (subst (λ (m : ℕ). IsFirstAtFrom m it q place) from_is first))

  pub none_read : (from : ℕ) (it : List Entry) → from ≡ n - start → it ≡ layer → NoneBetween it q from (length it)
      → NoneBetween (joined layers) q n (start + length it)
  none_read from it from_is same none_here =
      let here : NoneBetween layer q (n - start) (length layer) =
      subst (λ (es : List Entry). NoneBetween es q (n - start) (length es)) same
      (subst (λ (m : ℕ). NoneBetween it q m (length it)) from_is none_here) in
      subst (λ (es : List Entry). NoneBetween (joined layers) q n (start + length es)) (sym same)
      (none_up_to (length layer) (omega arith) here)

-- what none of the first n entries decides, none does that stands before n
pub none_at : (n : ℕ) (entries : List Entry) (q : List PlainKeyAtom) → NoneDecides (take n entries) q → (k : ℕ) (d : Entry)
    → k < n → k < length entries → ¬ Decides (get_or entries k d) q
none_at n entries q none k d below lt =
    subst (λ (e : Entry). ¬ Decides e q) (get_or-take n entries k d below)
    (none k d (omega (arith, length-take n entries)))

-- where none of the first n decides, the first from n on is the first of all
pub later_first : LaterFirstsAreFirst
later_first n entries q None none later = λ k d lt. elim (cases_lt k n) [
  | inl before ↦ none_at n entries q none k d before lt
  | inr behind ↦ later k d behind lt
]
later_first n entries q (Some place) none later = record {
  here = later.here;
  before = λ k d lt.
      let below : k < place = omega (arith, length-take place entries) in
      let within : k < length entries = omega (arith, length-take place entries) in
      subst (λ (e : Entry). ¬ Decides e q) (sym (get_or-take place entries k d below)) (elim (cases_lt k n) [
        | inl before ↦ none_at n entries q none k d before within
        | inr behind ↦ later.before k d behind below
      ]);
}

-- none stands before the first
pub first_from_start : (entries : List Entry) (q : List PlainKeyAtom) (o : Option ℕ) → IsFirstFrom 0 entries q o
    → IsFirstDeciding entries q o
first_from_start entries q o first =
    later_first 0 entries q o (λ k d lt. absurd (omega (arith, length-take 0 entries))) first

-- the first that decides stands within the list
pub placed_within : (n : ℕ) (entries : List Entry) (q : List PlainKeyAtom) (place : ℕ)
    → IsFirstAtFrom n entries q place → place < length entries
placed_within n entries q place first =
    let found = Found-from (slice_get entries place) (λ e. Decides e q) first.here in
    slice_get_within entries place found.value found.is

-- the first of all is the first from the start on
pub from_start : (entries : List Entry) (q : List PlainKeyAtom) (o : Option ℕ) → IsFirstDeciding entries q o
    → IsFirstFrom 0 entries q o
from_start entries q None none = λ k d from lt. none k d lt
from_start entries q (Some place) first = record {
  from = omega arith;
  here = first.here;
  before = λ k d from before decides.
      let found = Found-from (slice_get entries place) (λ e. Decides e q) first.here in
      let within : place < length entries = slice_get_within entries place found.value found.is in
      first.before k d (omega (arith, length-take place entries, before, within))
      (subst (λ (e : Entry). Decides e q) (sym (get_or-take place entries k d before)) decides);
}

-- and from a place on where it doesn't stand before that place
pub first_of_all : (n : ℕ) (es : List Entry) (q : List PlainKeyAtom) (o : Option ℕ) → IsFirstFrom 0 es q o
    → ¬ IsSomeAnd o (λ p. p < n) → IsFirstFrom n es q o
first_of_all n es q None none not_before = λ k d from lt. none k d (omega arith) lt
first_of_all n es q (Some place) first not_before = record {
  from = elim (cases_lt place n) [ inl before ↦ absurd (not_before before) | inr behind ↦ behind ];
  here = first.here;
  before = λ k d from before. first.before k d (omega arith) before;
}

-- where none before a place decides, the first doesn't stand before it
pub not_before : (n : ℕ) (es : List Entry) (q : List PlainKeyAtom) (o : Option ℕ) → IsFirstFrom 0 es q o
    → IsSomeAnd o (λ p. p < n) → ¬ NoneDecides (take n es) q
not_before n es q None first before none = before
not_before n es q (Some place) first before none =
    let found = Found-from (slice_get es place) (λ e. Decides e q) first.here in
    none_at n es q none place found.value before (slice_get_within es place found.value found.is)
    (subst (λ (e : Entry). Decides e q) (sym (get_or_from_slice_get es place found.value found.value found.is)) found.holds)
