-- Layers each of which is at least twice as long as the next: they are few, and stay so when an entry is added.
use Rattle.std.proofs.Common.{◌≡◌, ℕ, suc, ◌+◌, ◌*◌, ◌^◌, ◌<◌, ◌≤◌, ◌∙◌, List, [], ◌∷◌, ◌++◌, length, take, drop}
use Rattle.std.proofs.Common.{get_or}
use Rattle.std.proofs.Common.{inl, inr, arith, sym, ap, subst}
use Rattle.std.specs.List.{All}
use Rattle.std.proofs.Math.Pow.{pow-lt}
use Rattle.std.proofs.Math.Nat.{eq-or-lt_of_le, pow-suc}
use Rattle.std.proofs.lemmas.Bool.{cases_lt}
use Rattle.std.proofs.Math.ListN.{get_or-append}
use Rattle.std.proofs.Math.Seq.{get_or-append_seam}
use Rattle.std.proofs.lemmas.List.{append-nil, length-append, length-take-le, get_or-take, append_assoc}
use Rattle.std.proofs.lemmas.List.Elements.{All-append, All-take, All-cons, All-nil}
use Rattle.cert_check.specs.declared.entry.Entry.{Entry}
use Rattle.cert_check.specs.Decides.{IsChecked}
use Rattle.cert_check.specs.Machine.{max_entries}
use Rattle.layers.specs.Layers.{joined}
use Rattle.layers.specs.Halving.{AreHalving, AreShortFrom, IsVersion, IsWithinDigits}
use Rattle.layers.proofs.JoinLemmas.{joined-push, joined-parts}

-- without the first layer
rest_halves : (l : List Entry) (ls : List (List Entry)) → AreHalving (l ∷ ls) → AreHalving ls
rest_halves l ls halving = record {
  some = λ k d lt. halving.some (suc k) d (omega arith);
  halve = λ k c d lt.
      let next : suc k + 1 ≡ suc (k + 1) = omega arith in
      subst (λ (m : ℕ). 2 * length (get_or (l ∷ ls) m c) ≤ length (get_or ls k d)) next
      (halving.halve (suc k) c d (omega arith));
}

-- the first layer is as long as a power of two for the others
first_long : (l : List Entry) (ls : List (List Entry)) → AreHalving (l ∷ ls) → 2 ^ length ls ≤ length l
first_long l [] halving = halving.some 0 [] (omega arith)
first_long l (m ∷ ms) halving =
    let next : 2 ^ length ms ≤ length m = first_long m ms (rest_halves l (m ∷ ms) halving) in
    let twice : 2 * length m ≤ length l = halving.halve 0 [] [] (omega arith) in
    omega (arith, pow-suc 2 (length ms))

-- powers of two tell their exponents
exponent_below : (a b : ℕ) → 2 ^ a < 2 ^ b → a < b
exponent_below a b lt = elim (cases_lt a b) [
  | inl below ↦ below
  | inr above ↦ absurd (elim (eq-or-lt_of_le above) [
    | inl same ↦ (let e : 2 ^ b ≡ 2 ^ a = ap (λ (n : ℕ). 2 ^ n) same in omega arith)
    | inr less ↦ (let p : 2 ^ b < 2 ^ a = pow-lt less in omega arith)
  ])
]

-- there are no more of them than the length has binary digits
pub few_layers : (layers : List (List Entry)) → AreHalving layers
    → IsWithinDigits (length layers) (length (joined layers))
few_layers [] halving k below = omega arith
few_layers (l ∷ ls) halving k below =
    let long : 2 ^ length ls ≤ length l = first_long l ls halving in
    let whole : length (l ++ joined ls) ≡ length l + length (joined ls) = length-append l (joined ls) in
    let less : length ls < k = exponent_below (length ls) k (omega arith) in
    omega arith

-- what stands at the places of a front with one layer behind
module _ (layers : List (List Entry)) (kept : ℕ) (last : List Entry) (within : kept ≤ length layers) where
  front_length : length (take kept layers) ≡ kept
  front_length = length-take-le kept layers within

  in_front : (k : ℕ) (d : List Entry) → k < kept → get_or (take kept layers ++ last ∷ []) k d ≡ get_or layers k d
  in_front k d lt =
      get_or-append (take kept layers) (last ∷ []) d k (omega (arith, front_length)) ∙ get_or-take kept layers k d lt

  at_end : (k : ℕ) (d : List Entry) → k ≡ kept → get_or (take kept layers ++ last ∷ []) k d ≡ last
  at_end k d is =
      ap (λ (n : ℕ). get_or (take kept layers ++ last ∷ []) n d) (is ∙ sym front_length)
      ∙ get_or-append_seam (take kept layers) last [] d

  whole_length : length (take kept layers ++ last ∷ []) ≡ kept + 1
  whole_length = length-append (take kept layers) (last ∷ []) ∙ ap (λ (n : ℕ). n + 1) front_length

  -- the layers halve, where those of the front do and its last is at least twice as long
  pub halving_with : AreHalving layers → 0 < length last
      → ((k : ℕ) (d : List Entry) → k + 1 ≡ kept → 2 * length last ≤ length (get_or layers k d))
      → AreHalving (take kept layers ++ last ∷ [])
  halving_with halving some twice = record {
    some = All-append (λ layer. 0 < length layer) (take kept layers) (last ∷ [])
        (All-take (λ layer. 0 < length layer) kept layers halving.some)
        (All-cons (λ (layer : List Entry). 0 < length layer) last [] some
        (All-nil (λ (layer : List Entry). 0 < length layer)));
    halve = λ k c d lt. elim (cases_lt (k + 1) kept) [
      | inl inside ↦ (
          let next : get_or (take kept layers ++ last ∷ []) (k + 1) c ≡ get_or layers (k + 1) c =
          in_front (k + 1) c inside in
          let this : get_or (take kept layers ++ last ∷ []) k d ≡ get_or layers k d = in_front k d (omega arith) in
          let h = halving.halve k c d (omega arith) in
          let n = ap (λ (l : List Entry). length l) next in
          let t = ap (λ (l : List Entry). length l) this in
          omega arith
          )
      | inr end ↦ (
          let is : k + 1 ≡ kept = omega (arith, whole_length) in
          let n = ap (λ (l : List Entry). length l) (at_end (k + 1) c is) in
          let t = ap (λ (l : List Entry). length l) (in_front k d (omega arith)) in
          let h = twice k d is in
          omega arith
          )
    ];
  }

-- the layers of a version with an entry added
pub added_joined : (layers : List (List Entry)) (kept : ℕ) (e : Entry)
    → joined (take kept layers ++ (joined (drop kept layers) ++ e ∷ []) ∷ []) ≡ joined layers ++ e ∷ []
added_joined layers kept e =
    joined-push (take kept layers) (joined (drop kept layers) ++ e ∷ [])
    ∙ (sym (append_assoc (joined (take kept layers)) (joined (drop kept layers)) (e ∷ []))
    ∙ ap (λ (es : List Entry). es ++ e ∷ []) (sym (joined-parts layers kept)))

-- there are fewer than 2^32
pub count_fits : (layers : List (List Entry)) → AreHalving layers → length (joined layers) ≤ max_entries
    → length layers ≤ 21
count_fits layers halving few = few_layers layers halving 21 (few_enough few)
  where
    few_enough : length (joined layers) ≤ max_entries → length (joined layers) < 2 ^ 21
    few_enough le = omega (arith, le)

-- a version of one layer
pub one_version : (entries : List Entry) (count : ℕ) → 0 < length entries → count ≡ length entries
    → length entries ≤ max_entries → All IsChecked entries → IsVersion (entries ∷ []) count
one_version entries count some counted few checked = record {
  halving = record {
    some = All-cons (λ (layer : List Entry). 0 < length layer) entries [] some
        (All-nil (λ (layer : List Entry). 0 < length layer));
    halve = λ k c d lt. absurd (omega (arith, lt));
  };
  counted = counted ∙ ap (λ (es : List Entry). length es) (sym (append-nil entries));
  few = omega (arith, counted, few);
  checked = subst (λ (es : List Entry). All IsChecked es) (sym (append-nil entries)) checked;
}

-- the layers with an entry added: those behind the kept ones are one layer with it
module _ (layers out : List (List Entry)) (kept : ℕ) (e : Entry)
    (out_is : out ≡ take kept layers ++ (joined (drop kept layers) ++ e ∷ []) ∷ []) where
  pub added_entries : joined out ≡ joined layers ++ e ∷ []
  added_entries = ap (λ (ls : List (List Entry)). joined ls) out_is ∙ added_joined layers kept e

  added_halving : AreHalving layers → kept ≤ length layers
      → ((k : ℕ) (d : List Entry) → k + 1 ≡ kept
      → 2 * (length (joined (drop kept layers)) + 1) ≤ length (get_or layers k d))
      → AreHalving out
  added_halving halving within twice =
      let size : length (joined (drop kept layers) ++ e ∷ []) ≡ length (joined (drop kept layers)) + 1 =
      length-append (joined (drop kept layers)) (e ∷ []) in
      subst (λ (ls : List (List Entry)). AreHalving ls) (sym out_is)
      (halving_with layers kept (joined (drop kept layers) ++ e ∷ []) within halving (omega arith)
      (λ k d is. let t = twice k d is in omega arith))

  pub added_version : (count : ℕ) → IsVersion layers count → IsChecked e → count < max_entries → kept ≤ length layers
      → ((k : ℕ) (d : List Entry) → k + 1 ≡ kept
      → 2 * (length (joined (drop kept layers)) + 1) ≤ length (get_or layers k d))
      → IsVersion out (count + 1)
  added_version count version e_checked room within twice = record {
    halving = added_halving version.halving within twice;
    counted = omega (
      arith,
      version.counted,
      ap (λ (es : List Entry). length es) added_entries,
      length-append (joined layers) (e ∷ []),
    );
    few = omega arith;
    checked = subst (λ (es : List Entry). All IsChecked es) (sym added_entries)
        (All-append IsChecked (joined layers) (e ∷ []) version.checked
        (All-cons IsChecked e [] e_checked (All-nil IsChecked)));
  }

-- one layer more is short
pub short_more : (layers front earlier : List (List Entry)) (last it : List Entry) (behind len : ℕ)
    → front ≡ take (length front) layers → front ≡ earlier ++ last ∷ [] → it ≡ last → len ≡ length it
    → behind ≡ length (joined (drop (length front) layers)) + 1 → len < 2 * behind → AreShortFrom (length front) layers
    → AreShortFrom (length earlier) layers
short_more layers front earlier last it behind len prefix parts same len_is behind_is less so_far k d from lt =
    let longer : length front ≡ length earlier + 1 =
    ap (λ (ls : List (List Entry)). length ls) parts ∙ length-append earlier (last ∷ []) in
    elim (cases_lt k (length front)) [
      | inr behind_front ↦ so_far k d behind_front lt
      | inl inside ↦ (
          let at : k ≡ length earlier = omega (arith, longer, from, inside) in
          let here : get_or layers k d ≡ last =
          sym (get_or-take (length front) layers k d inside)
          ∙ (ap (λ (ls : List (List Entry)). get_or ls k d) (sym prefix ∙ parts)
          ∙ (ap (λ (n : ℕ). get_or (earlier ++ last ∷ []) n d) at ∙ get_or-append_seam earlier last [] d)) in
          let size : length (get_or layers k d) ≡ len =
          ap (λ (l : List Entry). length l) (here ∙ sym same) ∙ sym len_is in
          let next : length front ≡ k + 1 = omega (arith, longer, at) in
          let rest : behind ≡ length (joined (drop (k + 1) layers)) + 1 =
          behind_is ∙ ap (λ (n : ℕ). length (joined (drop n layers)) + 1) next in
          omega (arith, size, rest, less)
          )
    ]
