-- Lists that keep some atoms of another, in their order.
use Rattle.std.proofs.Common.{◌≡◌, ℕ, suc, zero, ◌+◌, ◌-◌, ◌<◌, ◌≤◌, List, [], ◌∷◌, ◌++◌, length, take, get_or}
use Rattle.std.proofs.Common.{refl, sym, ap, ◌∙◌, subst, inl, inr, arith, length-append, length-take}
use Rattle.std.specs.Prelude.{nat_eq, if◌then◌else◌, reverse}
use Rattle.std.specs.List.{AllPairs, Contains}
use Rattle.std.proofs.lemmas.List.{get_or_append_left, get_or_push, get_or-reverse, length-reverse, get_or_default}
use Rattle.std.proofs.lemmas.List.{get_or-take, take_more}
use Rattle.std.proofs.lemmas.Bool.Decides.{nat_tests}
use Rattle.lin_model.specs.KeyAtom.{PlainKeyAtom}
use Rattle.lin_model.specs.Lists.{below_or_last}
use Rattle.canoniser.specs.Parts.{IsPartOf, StandTogether, StandAtEnd}

-- the place m for n, and otherwise that of before
abbrev placed : (ℕ → ℕ) → ℕ → ℕ → ℕ → ℕ
placed place n m k = if nat_eq k n then m else place k

placed-new : (place : ℕ → ℕ) (n m k : ℕ) → k ≡ n → placed place n m k ≡ m
placed-new place n m k is = grind (arith, nat_tests)

placed-old : (place : ℕ → ℕ) (n m k : ℕ) → k < n → placed place n m k ≡ place k
placed-old place n m k lt = grind (arith, nat_tests)

pub IsPartOf-none : IsPartOf [] []
IsPartOf-none = record {
  place = λ k. k;
  within = λ k lt. lt;
  ascends = λ i j lt upto. lt;
  same = λ k d lt. refl;
}

-- one more atom that stays
pub IsPartOf-kept : (part whole : List PlainKeyAtom) (x : PlainKeyAtom) → IsPartOf part whole
    → IsPartOf (part ++ x ∷ []) (whole ++ x ∷ [])
IsPartOf-kept part whole x is =
    let n = length part in
    let m = length whole in
    let longer : length (part ++ x ∷ []) ≡ n + 1 = length-append part (x ∷ []) in
    let wider : length (whole ++ x ∷ []) ≡ m + 1 = length-append whole (x ∷ []) in
    record {
      place = placed is.place n m;
      within = λ k lt. elim (below_or_last k n (omega arith)) [
        | inl old ↦ (let e = placed-old is.place n m k old in let w = is.within k old in omega arith)
        | inr new ↦ (let e = placed-new is.place n m k new in omega arith)
      ];
      ascends = λ i j lt upto. elim (below_or_last j n (omega arith)) [
        | inl old ↦ (let e = placed-old is.place n m i (omega arith) in let f = placed-old is.place n m j old in let a =
            is.ascends i j lt old in omega arith)
        | inr new ↦ (let e = placed-old is.place n m i (omega arith) in let f = placed-new is.place n m j new in let w =
            is.within i (omega arith) in omega arith)
      ];
      same = λ k d lt. elim (below_or_last k n (omega arith)) [
        | inl old ↦ get_or_append_left part (x ∷ []) d k old ∙ is.same k d old
            ∙ sym (get_or_append_left whole (x ∷ []) d (is.place k) (is.within k old))
            ∙ ap (λ (p : ℕ). get_or (whole ++ x ∷ []) p d) (sym (placed-old is.place n m k old))
        | inr new ↦ get_or_push part x d k (sym new)
            ∙ sym (get_or_push whole x d (placed is.place n m k) (sym (placed-new is.place n m k new)))
      ];
    }

-- one more atom that goes
pub IsPartOf-left : (part whole : List PlainKeyAtom) (x : PlainKeyAtom) → IsPartOf part whole
    → IsPartOf part (whole ++ x ∷ [])
IsPartOf-left part whole x is =
    let wider : length (whole ++ x ∷ []) ≡ length whole + 1 = length-append whole (x ∷ []) in
    record {
      place = is.place;
      within = λ k lt. let w = is.within k lt in omega arith;
      ascends = is.ascends;
      same = λ k d lt. is.same k d lt ∙ sym (get_or_append_left whole (x ∷ []) d (is.place k) (is.within k lt));
    }

pub IsPartOf-trans : (a b c : List PlainKeyAtom) → IsPartOf a b → IsPartOf b c → IsPartOf a c
IsPartOf-trans a b c one two = record {
  place = λ k. two.place (one.place k);
  within = λ k lt. two.within (one.place k) (one.within k lt);
  ascends = λ i j lt upto. two.ascends (one.place i) (one.place j) (one.ascends i j lt upto) (one.within j upto);
  same = λ k d lt. one.same k d lt ∙ two.same (one.place k) d (one.within k lt);
}

-- the same of both lists from the end
pub IsPartOf-reverse : (part whole : List PlainKeyAtom) → IsPartOf part whole → IsPartOf (reverse part) (reverse whole)
IsPartOf-reverse part whole is =
    let n = length part in
    let m = length whole in
    let same_part : length (reverse part) ≡ n = length-reverse part in
    let same_whole : length (reverse whole) ≡ m = length-reverse whole in
    record {
      place = λ k. m - 1 - is.place (n - 1 - k);
      within = λ k lt. let w = is.within (n - 1 - k) (omega arith) in omega arith;
      ascends = λ i j lt upto. let a = is.ascends (n - 1 - j) (n - 1 - i) (omega arith) (omega arith) in let w =
          is.within (n - 1 - i) (omega arith) in omega arith;
      same = λ k d lt.
          let w : is.place (n - 1 - k) < m = is.within (n - 1 - k) (omega arith) in
          let back : m - 1 - (m - 1 - is.place (n - 1 - k)) ≡ is.place (n - 1 - k) = omega arith in
          get_or-reverse part k d (omega arith) ∙ is.same (n - 1 - k) d (omega arith)
          ∙ ap (λ (p : ℕ). get_or whole p d) (sym back)
          ∙ sym (get_or-reverse whole (m - 1 - is.place (n - 1 - k)) d (omega arith));
    }

-- what is in the part is in the whole
pub Contains-part : (part whole : List PlainKeyAtom) (a : PlainKeyAtom) → IsPartOf part whole → Contains part a
    → Contains whole a
Contains-part part whole a is has = (is.place has.0, is.within has.0 has.1, sym (is.same has.0 a has.1) ∙ has.2)

-- what holds of each atom with each later one
pub AllPairs-part : (R : PlainKeyAtom → PlainKeyAtom → Type 0) (part whole : List PlainKeyAtom) → IsPartOf part whole
    → AllPairs R whole → AllPairs R part
AllPairs-part R part whole is pairs i j d lt upto =
    subst (λ (x : PlainKeyAtom). R x (get_or part j d)) (sym (is.same i d (omega arith)))
    (subst (λ (y : PlainKeyAtom). R (get_or whole (is.place i) d) y) (sym (is.same j d upto))
    (pairs (is.place i) (is.place j) d (is.ascends i j lt upto) (is.within j upto)))

pub AllPairs-reverse : (R : PlainKeyAtom → PlainKeyAtom → Type 0) (xs : List PlainKeyAtom) → AllPairs (λ a b. R b a) xs
    → AllPairs R (reverse xs)
AllPairs-reverse R xs pairs i j d lt upto =
    let n = length xs in
    let same : length (reverse xs) ≡ n = length-reverse xs in
    subst (λ (x : PlainKeyAtom). R x (get_or (reverse xs) j d)) (sym (get_or-reverse xs i d (omega arith)))
    (subst (λ (y : PlainKeyAtom). R (get_or xs (n - 1 - i) d) y) (sym (get_or-reverse xs j d (omega arith)))
    (pairs (n - 1 - j) (n - 1 - i) d (omega arith) (omega arith)))

-- each place is at least as far as the atom's own
place-above : (part whole : List PlainKeyAtom) (is : IsPartOf part whole) (k : ℕ) → k < length part → k ≤ is.place k
place-above part whole is zero lt = omega arith
place-above part whole is (suc k) lt =
    let low = place-above part whole is k (omega arith) in
    let up = is.ascends k (suc k) (omega arith) lt in
    omega arith

-- a part is no longer than the whole
pub length-part : (part whole : List PlainKeyAtom) → IsPartOf part whole → length part ≤ length whole
length-part [] whole is = omega arith
length-part (x ∷ xs) whole is =
    let last : length xs < length (x ∷ xs) = omega arith in
    let low = place-above (x ∷ xs) whole is (length xs) last in
    let w = is.within (length xs) last in
    omega arith

pub StandTogether-part : (part whole : List PlainKeyAtom) → IsPartOf part whole → StandTogether whole
    → StandTogether part
StandTogether-part part whole is together i j k d one two within same =
    let a = is.same i d (omega arith) in
    let b = is.same j d (omega arith) in
    let c = is.same k d within in
    let ends : (get_or whole (is.place i) d).form ≡ (get_or whole (is.place k) d).form =
    ap (λ (x : PlainKeyAtom). x.form) (sym a) ∙ same ∙ ap (λ (x : PlainKeyAtom). x.form) c in
    ap (λ (x : PlainKeyAtom). x.form) b ∙ together (is.place i) (is.place j) (is.place k) d
    (is.ascends i j one (omega arith)) (is.ascends j k two within) (is.within k within) ends
    ∙ ap (λ (x : PlainKeyAtom). x.form) (sym c)

pub StandTogether-reverse : (xs : List PlainKeyAtom) → StandTogether xs → StandTogether (reverse xs)
StandTogether-reverse xs together i j k d one two within same =
    let n = length xs in
    let same_length : length (reverse xs) ≡ n = length-reverse xs in
    let a = get_or-reverse xs i d (omega arith) in
    let b = get_or-reverse xs j d (omega arith) in
    let c = get_or-reverse xs k d (omega arith) in
    let ends : (get_or xs (n - 1 - k) d).form ≡ (get_or xs (n - 1 - i) d).form =
    ap (λ (x : PlainKeyAtom). x.form) (sym c) ∙ sym same ∙ ap (λ (x : PlainKeyAtom). x.form) a in
    ap (λ (x : PlainKeyAtom). x.form) b ∙ together (n - 1 - k) (n - 1 - j) (n - 1 - i) d (omega arith) (omega arith)
    (omega arith) ends ∙ sym ends ∙ ap (λ (x : PlainKeyAtom). x.form) (sym c)

-- those of the n first that stay and have the form of the next stand at the end
pub StandAtEnd-part : (part all : List PlainKeyAtom) (n : ℕ) (x : PlainKeyAtom) → n < length all → x ≡ get_or all n x
    → IsPartOf part (take n all) → StandTogether all → StandAtEnd x.form part
StandAtEnd-part part all n x next read is together i j d lt upto same =
    let m : length (take n all) ≡ n = omega (arith, length-take n all) in
    let last : get_or all n d ≡ x = get_or_default all n d x next ∙ sym read in
    let before : is.place j < n = let w = is.within j upto in omega arith in
    let up : is.place i < is.place j = is.ascends i j lt upto in
    let a = is.same i d (omega arith) ∙ get_or-take n all (is.place i) d (omega arith) in
    let b = is.same j d upto ∙ get_or-take n all (is.place j) d before in
    let ends : (get_or all (is.place i) d).form ≡ (get_or all n d).form =
    ap (λ (y : PlainKeyAtom). y.form) (sym a) ∙ same ∙ ap (λ (y : PlainKeyAtom). y.form) (sym last) in
    ap (λ (y : PlainKeyAtom). y.form) b ∙ together (is.place i) (is.place j) n d up before next ends
    ∙ ap (λ (y : PlainKeyAtom). y.form) last

-- the next atom of those up to a place stays, or goes
pub IsPartOf-more_kept : (part all : List PlainKeyAtom) (n : ℕ) (x : PlainKeyAtom) → n < length all → x ≡ get_or all n x
    → IsPartOf part (take n all) → IsPartOf (part ++ x ∷ []) (take (n + 1) all)
IsPartOf-more_kept part all n x next read is =
    rw (take_more all n x next, ← read) (IsPartOf-kept part (take n all) x is)

pub IsPartOf-more_left : (part all : List PlainKeyAtom) (n : ℕ) (x : PlainKeyAtom) → n < length all
    → IsPartOf part (take n all) → IsPartOf part (take (n + 1) all)
IsPartOf-more_left part all n x next is =
    rw (take_more all n x next) (IsPartOf-left part (take n all) (get_or all n x) is)
