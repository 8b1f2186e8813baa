-- Where names are distinct, each is found at its own place.
use Rattle.std.proofs.Common.{◌≡◌, ℕ, ◌<◌, List, [], ◌++◌, length, get_or, sym, ap, subst, ◌∙◌, arith, pos, Some, None}
use Rattle.std.proofs.Common.{◌⊎◌, inl, inr, length-append, append-nil, refl}
use Rattle.std.specs.Prelude.{AllPairs, slice_get}
use Rattle.std.proofs.lemmas.Bool.{cases_order}
use Rattle.std.proofs.lemmas.Option.{slice_get_within, get_or_from_slice_get}
use Rattle.std.proofs.lemmas.List.{length-map, get_or-map, get_or_append_left}
use Rattle.lin_model.specs.Terms.{PlainVar}
use Rattle.lin_model.specs.Conditions.{Differ}
use Rattle.lin_text.specs.Grammar.{number_among}
use Rattle.lin_text.specs.Queries.{names_of}
use Rattle.lin_text.proofs.PositionLemmas.{position-found, position-none}

-- no name stands at two places
abbrev pub Distinct : List (List ℕ) → Type 0
Distinct names = (i j : ℕ) (x : List ℕ) → slice_get names i ≡ Some x → slice_get names j ≡ Some x → i ≡ j

-- the name at a place is that of the variable there
name_there : (vars : List PlainVar) (i : ℕ) (x : List ℕ) (d : PlainVar) → slice_get (names_of vars) i ≡ Some x
    → (i < length vars) × ((get_or vars i d).name ≡ x)
name_there vars i x d e =
    let within : i < length vars = omega (
      arith,
      slice_get_within (names_of vars) i x e,
      length-map vars (λ (v : PlainVar). v.name),
    ) in (
      within,
      sym (get_or-map (λ (v : PlainVar). v.name) vars i d [] within)
          ∙ get_or_from_slice_get (names_of vars) i x [] e,
    )

-- the names of a front of distinct variables
pub Distinct-front : (above vars : List PlainVar) → AllPairs Differ (above ++ vars) → Distinct (names_of above)
Distinct-front above vars differ i j x e f = by_order (cases_order i j)
  where
    d : PlainVar
    d = record { name = []; lo = pos 0; hi = pos 0 }

    differ_at : (k l : ℕ) → k < l → slice_get (names_of above) k ≡ Some x → slice_get (names_of above) l ≡ Some x → ⊥
    differ_at k l lt a b =
        let first = name_there above k x d a in
        let second = name_there above l x d b in
        differ k l d lt (omega (arith, second.0, length-append above vars))
        (ap (λ (v : PlainVar). v.name) (get_or_append_left above vars d k first.0)
        ∙ (first.1 ∙ (sym second.1 ∙ sym (ap (λ (v : PlainVar). v.name)
        (get_or_append_left above vars d l second.0)))))

    by_order : (i ≡ j) ⊎ ((i < j) ⊎ (j < i)) → i ≡ j
    by_order (inl same) = same
    by_order (inr (inl lt)) = absurd (differ_at i j lt e f)
    by_order (inr (inr lt)) = absurd (differ_at j i lt f e)

pub Distinct-all : (vars : List PlainVar) → AllPairs Differ vars → Distinct (names_of vars)
Distinct-all vars differ = Distinct-front vars []
    (subst (λ (vs : List PlainVar). AllPairs Differ vs) (sym (append-nil vars)) differ)

-- the number of the name at a place
pub number_there : (names : List (List ℕ)) (k : ℕ) (x : List ℕ) → Distinct names → slice_get names k ≡ Some x
    → number_among names x ≡ Some k
number_there names k x distinct at =
    elim (number_among names x) as (λ o. number_among names x ≡ o → o ≡ Some k) [
      | None ↦ λ e. absurd (position-none x names e (
        k,
        slice_get_within names k x at,
        get_or_from_slice_get names k x x at,
      ))
      | Some j ↦ λ e. ap Some (distinct j k x (position-found x names j e) at)
    ] refl
