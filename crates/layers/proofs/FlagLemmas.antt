-- Flags beside the entries of layers: where they stand, and what they say of the entries of a key.
use Rattle.std.proofs.Common.{◌≡◌, ◌≢◌, ℕ, ◌+◌, ◌-◌, ◌<◌, ◌≤◌, ◌∙◌, Bool, false, Some, List, [], ◌∷◌, length, map, take}
use Rattle.std.proofs.Common.{get_or, inl, inr, arith, refl, sym, ap, subst}
use Rattle.std.specs.Prelude.{All, IsTrue}
use Rattle.std.specs.List.{slice_get}
use Rattle.std.proofs.lemmas.Bool.{cases_lt, cases_eq}
use Rattle.std.proofs.lemmas.List.{length-append, length-map, length-take, get_or-map, get_or-take, take-map}
use Rattle.std.proofs.lemmas.List.Concat.{get_or-flat_map}
use Rattle.std.proofs.lemmas.Option.{get_or_from_slice_get, slice_get_within}
use Rattle.lin_model.specs.KeyAtom.{PlainKeyAtom}
use Rattle.lin_model.specs.Lists.{Found, Found-from, IsSomeAnd-found}
use Rattle.cert_check.specs.declared.entry.Entry.{Entry}
use Rattle.cert_check.specs.Decides.{Decides, NoneDecides, IsFirstAt, key_of}
use Rattle.cert_check.specs.Laws.{EntriesDecideTheirKeys}
use Rattle.layers.specs.Layers.{joined}
use Rattle.layers.specs.Firsts.{flags_of, AreFirsts, NoneIsKnown}
use Rattle.layers.proofs.JoinLemmas.{at_layer, there_in_layer}
use Rattle.layers.proofs.FirstLemmas.{none_at}

-- lists of flags as long as the layers, one by one, are so together
pub alike_length : (firsts : List (List Bool)) (layers : List (List Entry))
    → map (λ (flags : List Bool). length flags) firsts ≡ map (λ (layer : List Entry). length layer) layers
    → length (flags_of firsts) ≡ length (joined layers)
alike_length [] [] alike = refl
alike_length [] (layer ∷ layers) alike = absurd (cc)
alike_length (flags ∷ firsts) [] alike = absurd (cc)
alike_length (flags ∷ firsts) (layer ∷ layers) alike =
    let here : length flags ≡ length layer = cc in
    let rest : map (λ (fs : List Bool). length fs) firsts ≡ map (λ (es : List Entry). length es) layers = cc in
    omega (
      arith,
      alike_length firsts layers rest,
      length-append flags (flags_of firsts),
      length-append layer (joined layers),
    )

-- none of the first so many entries has the key
abbrev pub NoneHas : List (List Entry) → List PlainKeyAtom → ℕ → Type 0
NoneHas layers q n = (k : ℕ) (d : Entry) → k < n → key_of (get_or (joined layers) k d) ≢ q

-- one of the layers, as it was read
module _ (layers : List (List Entry)) (i start : ℕ) (layer it : List Entry) (q : List PlainKeyAtom)
    (lt : i < length layers) (is : layer ≡ get_or layers i layer) (read : it ≡ layer)
    (front : start ≡ length (joined (take i layers))) where
  -- what the joined list has behind the front
  in_layer : (k : ℕ) (d : Entry) → start ≤ k → k < start + length it
      → get_or (joined layers) k d ≡ get_or it (k - start) d
  in_layer k d from below =
      let place : k ≡ length (joined (take i layers)) + (k - start) = omega (arith, front) in
      ap (λ (m : ℕ). get_or (joined layers) m d) place
      ∙ (at_layer layers i layer lt is (k - start) d (omega (arith, ap (λ (es : List Entry). length es) read))
      ∙ ap (λ (es : List Entry). get_or es (k - start) d) (sym read))

  -- where no entry in front has the key, and none of the first so many of the layer, none up to there has
  pub none_more : (m : ℕ) → m ≤ length it → NoneHas layers q start → All (λ e. ¬ (key_of e ≡ q)) (take m it)
      → NoneHas layers q (start + m)
  none_more m within before none k d below key = elim (cases_lt k start) [
    | inl in_front ↦ before k d in_front key
    | inr behind ↦
        let here : k - start < m = omega arith in
        none (k - start) d (omega (arith, length-take m it, here, within))
        (ap key_of (get_or-take m it (k - start) d here ∙ sym (in_layer k d behind (omega arith))) ∙ key)
  ]

-- layers with their flags
module _ (layers : List (List Entry)) (firsts : List (List Bool)) (are : AreFirsts layers firsts) where
  -- there are as many lists of flags as layers
  pub same_count : length firsts ≡ length layers
  same_count =
      sym (length-map firsts (λ (flags : List Bool). length flags))
      ∙ (ap (λ (ns : List ℕ). length ns) are.alike ∙ length-map layers (λ (layer : List Entry). length layer))

  -- and as many flags in front of each layer as entries
  front_alike : (i : ℕ) → length (flags_of (take i firsts)) ≡ length (joined (take i layers))
  front_alike i =
      alike_length (take i firsts) (take i layers)
      (sym (take-map (λ (flags : List Bool). length flags) i firsts)
      ∙ (ap (λ (ns : List ℕ). take i ns) are.alike ∙ take-map (λ (layer : List Entry). length layer) i layers))

  -- the flags of one of the layers, as they were read
  module _ (i : ℕ) (layer it : List Entry) (flags here : List Bool) (lt : i < length layers)
      (is : layer ≡ get_or layers i layer) (read : it ≡ layer)
      (flags_are : flags ≡ get_or firsts i flags) (flags_read : here ≡ flags) where
    -- there are as many as entries
    pub same_here : length here ≡ length it
    same_here =
        let at_flags : get_or (map (λ (fs : List Bool). length fs) firsts) i 0 ≡ length (get_or firsts i flags) =
        get_or-map (λ (fs : List Bool). length fs) firsts i flags 0 (omega (arith, same_count)) in
        let at_layer : get_or (map (λ (es : List Entry). length es) layers) i 0 ≡ length (get_or layers i layer) =
        get_or-map (λ (es : List Entry). length es) layers i layer 0 lt in
        ap (λ (fs : List Bool). length fs) (flags_read ∙ flags_are)
        ∙ (sym at_flags
        ∙ (ap (λ (ns : List ℕ). get_or ns i 0) are.alike
        ∙ (at_layer ∙ ap (λ (es : List Entry). length es) (sym (read ∙ is)))))

    -- each stands as far behind those of the front
    flag_there : (place : ℕ) → place < length it
        → get_or (flags_of firsts) (length (joined (take i layers)) + place) false ≡ get_or here place false
    flag_there place within =
        let inside : place < length (get_or firsts i flags) =
        omega (arith, same_here, ap (λ (fs : List Bool). length fs) (flags_read ∙ flags_are)) in
        ap (λ (n : ℕ). get_or (flags_of firsts) (n + place) false) (sym (front_alike i))
        ∙ (get_or-flat_map (λ fs. fs) firsts i place flags false (omega (arith, same_count)) inside
        ∙ ap (λ (fs : List Bool). get_or fs place false) (sym (flags_read ∙ flags_are)))

    -- the first entry of the layer that has a key
    module _ (start place : ℕ) (q : List PlainKeyAtom) (decide : EntriesDecideTheirKeys)
        (front : start ≡ length (joined (take i layers))) (found : IsFirstAt (λ e. key_of e ≡ q) it place) where
      -- it stands in the layer
      pub found_within : place < length it
      found_within =
          let e = Found-from (slice_get it place) (λ e. key_of e ≡ q) found.here in
          slice_get_within it place e.value e.is

      -- and so far behind the front
      there : Found (slice_get (joined layers) (start + place)) (λ e. key_of e ≡ q)
      there =
          let e = Found-from (slice_get it place) (λ e. key_of e ≡ q) found.here in
          record {
            value = e.value;
            is = ap (λ (n : ℕ). slice_get (joined layers) (n + place)) front
                ∙ there_in_layer layers i layer lt is place e.value
                (subst (λ (es : List Entry). slice_get es place ≡ Some e.value) read e.is)
                (omega (arith, found_within, ap (λ (es : List Entry). length es) read));
            holds = e.holds;
          }

      pub inside : start + place < length (joined layers)
      inside = slice_get_within (joined layers) (start + place) there.value there.is

      -- it decides the key
      decides : Decides there.value q
      decides = subst (λ (key : List PlainKeyAtom). Decides there.value key) there.holds (decide there.value)

      -- its flag stands there too
      flag_is : get_or (flags_of firsts) (start + place) false ≡ get_or here place false
      flag_is =
          ap (λ (n : ℕ). get_or (flags_of firsts) (n + place) false) front ∙ flag_there place found_within

      -- where the flag is set, the entry is the first that decides the key
      pub known_is_first : IsTrue (get_or here place false) → IsFirstAt (λ e. Decides e q) (joined layers) (start + place)
      known_is_first set =
          let key : key_of (get_or (joined layers) (start + place) there.value) ≡ q =
          ap key_of (get_or_from_slice_get (joined layers) (start + place) there.value there.value there.is)
          ∙ there.holds in
          record {
            here = IsSomeAnd-found (slice_get (joined layers) (start + place)) (λ e. Decides e q) there.value there.is
                decides;
            before = subst (λ (k : List PlainKeyAtom). NoneDecides (take (start + place) (joined layers)) k) key
                (are.right (start + place) there.value inside (flag_is ∙ set));
          }

      -- where it isn't, and no entry in front has the key, no entry of the key has a flag that is set
      pub none_is_known : get_or here place false ≡ false → NoneHas layers q start → NoneIsKnown layers firsts q
      none_is_known unset before k d lt_k set key = elim (cases_lt k (start + place)) [
        | inl earlier ↦
            none_more layers i start layer it q lt is read front place (omega (arith, found_within)) before found.before
            k d earlier key
        | inr not_earlier ↦ elim (cases_eq k (start + place)) [
          | inl same ↦
              let clear : get_or (flags_of firsts) k false ≡ false =
              ap (λ (n : ℕ). get_or (flags_of firsts) n false) same ∙ (flag_is ∙ unset) in
              absurd (cc)
          | inr other ↦
              none_at k (joined layers) q
              (subst (λ (own : List PlainKeyAtom). NoneDecides (take k (joined layers)) own) key (are.right k d lt_k set))
              (start + place) there.value (omega arith) inside
              (subst (λ (e : Entry). Decides e q)
              (sym (get_or_from_slice_get (joined layers) (start + place) there.value there.value there.is)) decides)
        ]
      ]
