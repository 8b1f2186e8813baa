-- What the slices of a query come to, one by one.
use Rattle.std.proofs.Common.{◌≡◌, ℕ, ◌+◌, ◌<◌, ◌≤◌, min, Option, Some, None, MatchOption, List, [], ◌∷◌, ◌++◌, length}
use Rattle.std.proofs.Common.{take, get_or, arith, refl, sym, subst, ap, ◌∙◌, true, false, Bool, cond, nat_lt, ⊎_elim}
use Rattle.std.specs.List.{All, AllZip}
use Rattle.std.proofs.lemmas.List.{take_more}
use Rattle.std.proofs.lemmas.Bool.{cases_lt}
use Rattle.std.proofs.lemmas.List.Elements.{All-push, Contains-push, Contains-append_left}
use Rattle.canoniser.specs.declared.canonical.Canonical.{Canonical}
use Rattle.canoniser.specs.declared.canonical.Canonical.TheVariants.{False, Key}
use Rattle.pipeline.specs.declared.slice_keys.SliceKey.{SliceKey}
use Rattle.pipeline.specs.Keyed.{HasKey, IsNotBelow, IsLeastFalseAmong, least_with, keys_in}

-- ---- lists

-- one more pair at the end of two lists
pub zip_push : {A B : Type 0} (R : A → B → Type 0) (xs : List A) (ys : List B) (x : A) (y : B) → AllZip R xs ys → R x y
    → AllZip R (xs ++ x ∷ []) (ys ++ y ∷ [])
zip_push {A} {B} R [] [] x y h r = (r, tt)
zip_push {A} {B} R [] (w ∷ ys) x y h r = absurd h
zip_push {A} {B} R (v ∷ xs) [] x y h r = absurd h
zip_push {A} {B} R (v ∷ xs) (w ∷ ys) x y h r = (h.0, zip_push R xs ys x y h.1 r)

-- the items up to the next place
pub front_more : {X : Type 0} (xs : List X) (i : ℕ) (x : X) → i < length xs → x ≡ get_or xs i x
    → take (i + 1) xs ≡ take i xs ++ x ∷ []
front_more {X} xs i x lt is = take_more xs i x lt ∙ ap (λ (y : X). take i xs ++ y ∷ []) (sym is)

-- ---- the least atom that no integers satisfy

-- what is said of the least number so far
abbrev pub IsLeastSoFar : List Canonical → Option ℕ → Type 0
IsLeastSoFar cs least = MatchOption least (All HasKey cs) (IsLeastFalseAmong cs)

not_below_all : (j : ℕ) (cs : List Canonical) → All HasKey cs → All (IsNotBelow j) cs
not_below_all j cs h k d lt = of (get_or cs k d) (h k d lt)
  where
    of : (c : Canonical) → HasKey c → IsNotBelow j c
    of (False i) k = absurd k
    of (Key key back) k = tt

lower_all : (i j : ℕ) (cs : List Canonical) → i ≤ j → All (IsNotBelow j) cs → All (IsNotBelow i) cs
lower_all i j cs le h k d lt = of (get_or cs k d) (h k d lt)
  where
    of : (c : Canonical) → IsNotBelow j c → IsNotBelow i c
    of (False n) k = omega (arith, le, k)
    of (Key key back) k = tt

lesser_stays : (cs : List Canonical) (i j : ℕ) → IsLeastFalseAmong cs i → i < j
    → IsLeastFalseAmong (cs ++ False j ∷ []) (min i j)
lesser_stays cs i j h lt = subst (IsLeastFalseAmong (cs ++ False j ∷ [])) (omega (arith, lt))
    (record {
      one = Contains-append_left cs (False j ∷ []) (False i) h.one;
      least = All-push (IsNotBelow i) cs (False j) h.least (omega (arith, lt));
    })

lesser_comes : (cs : List Canonical) (i j : ℕ) → IsLeastFalseAmong cs i → j ≤ i
    → IsLeastFalseAmong (cs ++ False j ∷ []) (min i j)
lesser_comes cs i j h le = subst (IsLeastFalseAmong (cs ++ False j ∷ [])) (omega (arith, le))
    (record {
      one = Contains-push cs (False j);
      least = All-push (IsNotBelow j) cs (False j) (lower_all j i cs le h.least) (omega arith);
    })

least_step : (cs : List Canonical) (least : Option ℕ) (c : Canonical) → IsLeastSoFar cs least
    → IsLeastSoFar (cs ++ c ∷ []) (least_with least c)
least_step cs None (False j) h = record {
  one = Contains-push cs (False j);
  least = All-push (IsNotBelow j) cs (False j) (not_below_all j cs h) (omega arith);
}
least_step cs (Some i) (False j) h =
    ⊎_elim (λ lt. lesser_stays cs i j h lt) (λ le. lesser_comes cs i j h le) (cases_lt i j)
least_step cs None (Key key back) h = All-push HasKey cs (Key key back) h tt
least_step cs (Some i) (Key key back) h = record {
  one = Contains-append_left cs (Key key back ∷ []) (False i) h.one;
  least = All-push (IsNotBelow i) cs (Key key back) h.least tt;
}

pub least_more : (cs : List Canonical) (i : ℕ) (c : Canonical) (least : Option ℕ) → i < length cs → c ≡ get_or cs i c
    → IsLeastSoFar (take i cs) least → IsLeastSoFar (take (i + 1) cs) (least_with least c)
least_more cs i c least lt is h =
    subst (λ (xs : List Canonical). IsLeastSoFar xs (least_with least c)) (sym (front_more cs i c lt is))
    (least_step (take i cs) least c h)

-- ---- the keys of slices with variables

by_width : (b : Bool) (k : SliceKey) (ks whole more : List SliceKey) → whole ≡ ks ++ more
    → cond b (k ∷ whole) whole ≡ cond b (k ∷ ks) ks ++ more
by_width true k ks whole more is = ap (λ (xs : List SliceKey). k ∷ xs) is
by_width false k ks whole more is = is

pub keys_in-push : (cs : List Canonical) (c : Canonical) → keys_in (cs ++ c ∷ []) ≡ keys_in cs ++ keys_in (c ∷ [])
keys_in-push [] c = refl
keys_in-push (False j ∷ cs) c = keys_in-push cs c
keys_in-push (Key key back ∷ cs) c =
    by_width (nat_lt 0 (length back)) (record { key = key; back = back }) (keys_in cs) (keys_in (cs ++ c ∷ []))
    (keys_in (c ∷ [])) (keys_in-push cs c)
