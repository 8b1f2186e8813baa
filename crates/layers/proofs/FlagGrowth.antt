-- Flags stay right: those of one layer that are all unset, and those of a version to which an entry is added.
use Rattle.std.proofs.Common.{◌≡◌, ℕ, ◌<◌, ◌∙◌, Bool, true, false, List, [], ◌∷◌, ◌++◌, length, map, take, drop}
use Rattle.std.proofs.Common.{get_or, inl, inr, arith, sym, ap, subst}
use Rattle.std.specs.Prelude.{IsTrue, replicate}
use Rattle.std.proofs.lemmas.Bool.{cases_lt}
use Rattle.std.proofs.lemmas.List.{append-nil, append_assoc, length-append, length-replicate, get_or-replicate, map_push}
use Rattle.std.proofs.lemmas.List.{get_or_append_left, take-append-drop, take-append-le, take-map, drop-map}
use Rattle.std.proofs.lemmas.List.Concat.{flat_map-append}
use Rattle.std.proofs.Math.Seq.{get_or-append_seam, take-append_seam}
use Rattle.cert_check.specs.declared.entry.Entry.{Entry}
use Rattle.cert_check.specs.Decides.{NoneDecides, key_of}
use Rattle.layers.specs.Layers.{joined}
use Rattle.layers.specs.Firsts.{flags_of, AreRight, AreFirsts}
use Rattle.layers.proofs.HalvingLemmas.{added_entries}
use Rattle.layers.proofs.FlagLemmas.{alike_length}

-- flags of one layer that are all unset
pub unset_firsts : (entries : List Entry) (flags : List Bool) (n : ℕ) → flags ≡ replicate n false → n ≡ length entries
    → AreFirsts (entries ∷ []) (flags ∷ [])
unset_firsts entries flags n are count = record {
  alike =
      let same : length flags ≡ length entries =
      ap (λ (fs : List Bool). length fs) are ∙ (length-replicate n false ∙ count) in
      ap (λ (m : ℕ). m ∷ []) same;
  right = λ place d lt set.
      let within : place < n = omega (arith, lt, count, length-append entries []) in
      let clear : get_or (flags ++ []) place false ≡ false =
      ap (λ (fs : List Bool). get_or fs place false) (append-nil flags ∙ are) ∙ get_or-replicate n place false false within in
      absurd (let flag : get_or (flags ++ []) place false ≡ true = set in cc);
}

-- right flags stay right with one more, which is right itself
right_push : (es : List Entry) (flags : List Bool) (e : Entry) (flag : Bool) → length flags ≡ length es → AreRight es flags
    → (IsTrue flag → NoneDecides es (key_of e)) → AreRight (es ++ e ∷ []) (flags ++ flag ∷ [])
right_push es flags e flag count right this place d lt set = elim (cases_lt place (length es)) [
  | inl before ↦
      let entry : get_or (es ++ e ∷ []) place d ≡ get_or es place d = get_or_append_left es (e ∷ []) d place before in
      let front : take place (es ++ e ∷ []) ≡ take place es = take-append-le place es (e ∷ []) (omega arith) in
      let own : get_or (flags ++ flag ∷ []) place false ≡ get_or flags place false =
      get_or_append_left flags (flag ∷ []) false place (omega (arith, count)) in
      subst (λ (xs : List Entry). NoneDecides xs (key_of (get_or (es ++ e ∷ []) place d))) (sym front)
      (subst (λ (x : Entry). NoneDecides (take place es) (key_of x)) (sym entry)
      (right place d before (sym own ∙ set)))
  | inr behind ↦
      let last : place ≡ length es = omega (arith, lt, behind, length-append es (e ∷ [])) in
      let entry : get_or (es ++ e ∷ []) place d ≡ e =
      ap (λ (n : ℕ). get_or (es ++ e ∷ []) n d) last ∙ get_or-append_seam es e [] d in
      let front : take place (es ++ e ∷ []) ≡ es =
      ap (λ (n : ℕ). take n (es ++ e ∷ [])) last ∙ take-append_seam es (e ∷ []) in
      let own : get_or (flags ++ flag ∷ []) place false ≡ flag =
      ap (λ (n : ℕ). get_or (flags ++ flag ∷ []) n false) (last ∙ sym count) ∙ get_or-append_seam flags flag [] false in
      subst (λ (xs : List Entry). NoneDecides xs (key_of (get_or (es ++ e ∷ []) place d))) (sym front)
      (subst (λ (x : Entry). NoneDecides es (key_of x)) (sym entry) (this (sym own ∙ set)))
]

-- a version to which an entry is added: the flags behind the kept ones are one list with that of the entry
module _ (layers out : List (List Entry)) (firsts news : List (List Bool)) (kept : ℕ) (e : Entry) (flag : Bool)
    (are : AreFirsts layers firsts)
    (out_is : out ≡ take kept layers ++ (joined (drop kept layers) ++ e ∷ []) ∷ [])
    (news_are : news ≡ take kept firsts ++ (flags_of (drop kept firsts) ++ flag ∷ []) ∷ []) where
  -- the flags of all layers have that one more
  flags_added : flags_of news ≡ flags_of firsts ++ flag ∷ []
  flags_added =
      let front = take kept firsts in
      let behind = drop kept firsts in
      let last : List Bool = flags_of behind ++ flag ∷ [] in
      ap (λ (fs : List (List Bool)). flags_of fs) news_are
      ∙ (flat_map-append (λ fs. fs) front (last ∷ [])
      ∙ (ap (λ (fs : List Bool). flags_of front ++ fs) (append-nil last)
      ∙ (sym (append_assoc (flags_of front) (flags_of behind) (flag ∷ []))
      ∙ ap (λ (fs : List Bool). fs ++ flag ∷ [])
      (sym (flat_map-append (λ fs. fs) front behind)
      ∙ ap (λ (fs : List (List Bool)). flags_of fs) (take-append-drop kept firsts)))))

  -- there is one for each entry of each layer
  alike_added : map (λ (fs : List Bool). length fs) news ≡ map (λ (es : List Entry). length es) out
  alike_added =
      let length_of_flags : List Bool → ℕ = λ fs. length fs in
      let length_of_layer : List Entry → ℕ = λ es. length es in
      let fronts : map length_of_flags (take kept firsts) ≡ map length_of_layer (take kept layers) =
      sym (take-map length_of_flags kept firsts)
      ∙ (ap (λ (ns : List ℕ). take kept ns) are.alike ∙ take-map length_of_layer kept layers) in
      let behinds : map length_of_flags (drop kept firsts) ≡ map length_of_layer (drop kept layers) =
      sym (drop-map length_of_flags kept firsts)
      ∙ (ap (λ (ns : List ℕ). drop kept ns) are.alike ∙ drop-map length_of_layer kept layers) in
      let lasts : length (flags_of (drop kept firsts) ++ flag ∷ []) ≡ length (joined (drop kept layers) ++ e ∷ []) =
      omega (
        arith,
        alike_length (drop kept firsts) (drop kept layers) behinds,
        length-append (flags_of (drop kept firsts)) (flag ∷ []),
        length-append (joined (drop kept layers)) (e ∷ []),
      ) in
      ap (λ (fs : List (List Bool)). map length_of_flags fs) news_are
      ∙ (map_push length_of_flags (take kept firsts) (flags_of (drop kept firsts) ++ flag ∷ [])
      ∙ (ap (λ (ns : List ℕ). ns ++ length (flags_of (drop kept firsts) ++ flag ∷ []) ∷ []) fronts
      ∙ (ap (λ (n : ℕ). map length_of_layer (take kept layers) ++ n ∷ []) lasts
      ∙ (sym (map_push length_of_layer (take kept layers) (joined (drop kept layers) ++ e ∷ []))
      ∙ ap (λ (ls : List (List Entry)). map length_of_layer ls) (sym out_is)))))

  -- so they are flags of the layers, where that of the entry is right
  pub added_firsts : (IsTrue flag → NoneDecides (joined layers) (key_of e)) → AreFirsts out news
  added_firsts this = record {
    alike = alike_added;
    right =
        subst (λ (es : List Entry). AreRight es (flags_of news)) (sym (added_entries layers out kept e out_is))
        (subst (λ (fs : List Bool). AreRight (joined layers ++ e ∷ []) fs) (sym flags_added)
        (right_push (joined layers) (flags_of firsts) e flag (alike_length firsts layers are.alike) are.right this));
  }
