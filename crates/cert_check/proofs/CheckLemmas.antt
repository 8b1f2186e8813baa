-- The first atom of a key that fails at a point.
use Rattle.std.proofs.Common.{◌≡◌, ℕ, ◌<◌, ◌≤◌, List, ℤ, Some, length, get_or, refl, arith, sym, subst}
use Rattle.std.specs.List.{slice_get}
use Rattle.std.proofs.lemmas.Option.{slice_get_read}
use Rattle.std.proofs.lemmas.List.{get_or-take, length-take}
use Rattle.lin_model.specs.Form.{form_width}
use Rattle.lin_model.specs.KeyAtom.{PlainKeyAtom, KeyAtomHolds}
use Rattle.lin_model.specs.Key.{key_width}
use Rattle.lin_model.specs.Facts.{key_width-above}
use Rattle.lin_model.specs.Lists.{IsSomeAnd-found}
use Rattle.cert_check.specs.Refusals.{FailsFirst}

-- no atom of a key is wider than what is as wide as the key
pub width_at : (key items : List PlainKeyAtom) (i n : ℕ) (a : PlainKeyAtom) → items ≡ key → i < length items
    → a ≡ get_or items i a → key_width key ≤ n → form_width a.form ≤ n
width_at key items i n a same lt is le =
    let at : form_width (get_or items i a).form ≤ key_width items = key_width-above items i a lt in
    let here : form_width a.form ≤ key_width items =
    subst (λ (b : PlainKeyAtom). form_width b.form ≤ key_width items) (sym is) at in
    let wide : key_width items ≤ n = subst (λ (xs : List PlainKeyAtom). key_width xs ≤ n) (sym same) le in
    omega arith

-- an atom that fails, where all before it hold, is the first
pub fails_first : (key items : List PlainKeyAtom) (point : List ℤ) (i : ℕ) (a : PlainKeyAtom) → items ≡ key
    → i < length items → a ≡ get_or items i a
    → ((k : ℕ) (d : PlainKeyAtom) → k < i → KeyAtomHolds (get_or key k d) point) → ¬ KeyAtomHolds a point
    → FailsFirst key point i
fails_first key items point i a same lt is before fails =
    let inside : i < length key = subst (λ (xs : List PlainKeyAtom). i < length xs) same lt in
    let here : a ≡ get_or key i a = subst (λ (xs : List PlainKeyAtom). a ≡ get_or xs i a) same is in
    let there : slice_get key i ≡ Some a = slice_get_read key (length key) i a refl inside here in
    record {
      here = IsSomeAnd-found (slice_get key i) (λ b. ¬ KeyAtomHolds b point) a there fails;
      before = λ k d within.
          let below : k < i = omega (arith, length-take i key) in
          subst (λ (b : PlainKeyAtom). KeyAtomHolds b point) (sym (get_or-take i key k d below)) (before k d below);
    }
