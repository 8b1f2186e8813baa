-- Layers joined: the entries of one of them, and what stands before and behind it.
use Rattle.std.proofs.Common.{◌≡◌, ℕ, ◌+◌, ◌<◌, ◌≤◌, ◌∙◌, List, [], ◌∷◌, ◌++◌, Some, length, take, drop, get_or}
use Rattle.std.proofs.Common.{arith, refl, sym, ap, subst}
use Rattle.std.specs.List.{slice_get}
use Rattle.std.proofs.lemmas.List.{append-nil, append_assoc, length-append, take_more, take-append-drop}
use Rattle.std.proofs.lemmas.List.{get_or_append_left, get_or-append-add}
use Rattle.std.proofs.lemmas.Option.{get_or_from_slice_get, slice_get-get_or, slice_get_read}
use Rattle.cert_check.specs.declared.entry.Entry.{Entry}
use Rattle.layers.specs.Layers.{joined}

-- the layers of two lists
pub joined-append : (xs ys : List (List Entry)) → joined (xs ++ ys) ≡ joined xs ++ joined ys
joined-append [] ys = refl
joined-append (x ∷ xs) ys =
    ap (λ (zs : List Entry). x ++ zs) (joined-append xs ys) ∙ sym (append_assoc x (joined xs) (joined ys))

-- one layer behind others
pub joined-push : (xs : List (List Entry)) (x : List Entry) → joined (xs ++ x ∷ []) ≡ joined xs ++ x
joined-push xs x = joined-append xs (x ∷ []) ∙ ap (λ (zs : List Entry). joined xs ++ zs) (append-nil x)

-- one layer more from the front
pub joined-more : (layers : List (List Entry)) (i : ℕ) (layer : List Entry) → i < length layers
    → layer ≡ get_or layers i layer → joined (take (i + 1) layers) ≡ joined (take i layers) ++ layer
joined-more layers i layer lt is =
    ap (λ (ls : List (List Entry)). joined ls) (take_more layers i layer lt)
    ∙ (joined-push (take i layers) (get_or layers i layer)
    ∙ ap (λ (l : List Entry). joined (take i layers) ++ l) (sym is))

-- the front and the rest
pub joined-parts : (layers : List (List Entry)) (i : ℕ) → joined layers ≡ joined (take i layers)
    ++ joined (drop i layers)
joined-parts layers i =
    sym (ap (λ (ls : List (List Entry)). joined ls) (take-append-drop i layers))
    ∙ joined-append (take i layers) (drop i layers)

-- no front is longer than the whole
pub front_short : (layers : List (List Entry)) (i : ℕ) → length (joined (take i layers)) ≤ length (joined layers)
front_short layers i =
    let whole = ap (λ (es : List Entry). length es) (joined-parts layers i) in
    omega (arith, whole, length-append (joined (take i layers)) (joined (drop i layers)))

-- one layer, and the front behind which it stands
module _ (layers : List (List Entry)) (i : ℕ) (layer : List Entry) (lt : i < length layers)
    (is : layer ≡ get_or layers i layer) where
  -- the front with it is as long as both
  pub longer_front : length (joined (take (i + 1) layers)) ≡ length (joined (take i layers)) + length layer
  longer_front =
      ap (λ (es : List Entry). length es) (joined-more layers i layer lt is)
      ∙ length-append (joined (take i layers)) layer

  -- together they are no longer than the whole
  pub both_short : length (joined (take i layers)) + length layer ≤ length (joined layers)
  both_short = omega (arith, longer_front, front_short layers (i + 1))

  -- what it has at a place stands as far behind the front
  pub at_layer : (r : ℕ) (d : Entry) → r < length layer
      → get_or (joined layers) (length (joined (take i layers)) + r) d ≡ get_or layer r d
  at_layer r d within =
      let front = joined (take i layers) in
      let rest = joined (drop (i + 1) layers) in
      let whole : joined layers ≡ (front ++ layer) ++ rest =
      joined-parts layers (i + 1) ∙ ap (λ (es : List Entry). es ++ rest) (joined-more layers i layer lt is) in
      let inside : length front + r < length (front ++ layer) = omega (arith, length-append front layer) in
      ap (λ (es : List Entry). get_or es (length front + r) d) whole
      ∙ (get_or_append_left (front ++ layer) rest d (length front + r) inside ∙ get_or-append-add front layer r d)

  -- the same, by what is there
  pub there_in_layer : (r : ℕ) (e : Entry) → slice_get layer r ≡ Some e → r < length layer
      → slice_get (joined layers) (length (joined (take i layers)) + r) ≡ Some e
  there_in_layer r e there within =
      let at : get_or (joined layers) (length (joined (take i layers)) + r) e ≡ get_or layer r e =
      at_layer r e within in
      let here : get_or layer r e ≡ e = get_or_from_slice_get layer r e e there in
      let inside : length (joined (take i layers)) + r < length (joined layers) = omega (arith, both_short) in
      slice_get-get_or (joined layers) (length (joined (take i layers)) + r) e inside
      ∙ ap (λ (x : Entry). Some x) (at ∙ here)

  -- what is read of a layer stands at its place in the joined list
  pub entry_there : (rest place : ℕ) (items : List Entry) (e : Entry) → (it : List Entry) → items ≡ it → it ≡ layer
      → length (joined (take i layers)) + rest ≡ place → rest < length layer → e ≡ get_or items rest e
      → slice_get (joined layers) place ≡ Some e
  entry_there rest place items e it items_are it_is at within here =
      let read : e ≡ get_or layer rest e = subst (λ (es : List Entry). e ≡ get_or es rest e) (items_are ∙ it_is) here in
      let there : slice_get layer rest ≡ Some e = slice_get_read layer (length layer) rest e refl within read in
      subst (λ (p : ℕ). slice_get (joined layers) p ≡ Some e) at (there_in_layer rest e there within)

  -- the layer, as it was read, goes behind the front
  pub joined_read : (out items it : List Entry) → items ≡ it → it ≡ layer → out ≡ joined (take i layers)
      → out ++ items ≡ joined (take (i + 1) layers)
  joined_read out items it items_are it_is out_is =
      ap (λ (es : List Entry). es ++ items) out_is
      ∙ (ap (λ (es : List Entry). joined (take i layers) ++ es) (items_are ∙ it_is)
      ∙ sym (joined-more layers i layer lt is))

-- equal lists are equally long
pub same_length : (xs ys : List Entry) → xs ≡ ys → length xs ≡ length ys
same_length xs ys same = ap (λ (es : List Entry). length es) same

-- no rest is longer than the whole
pub rest_short : (layers rest : List (List Entry)) (i : ℕ) → rest ≡ drop i layers
    → length (joined rest) ≤ length (joined layers)
rest_short layers rest i is =
    let whole = ap (λ (es : List Entry). length es) (joined-parts layers i) in
    let same = ap (λ (ls : List (List Entry)). length (joined ls)) is in
    omega (arith, whole, length-append (joined (take i layers)) (joined (drop i layers)))
