-- What a walk looked at: the places at and behind a kid, those behind some kids of a place, and all behind the root.
use Rattle.std.proofs.Common.{◌≡◌, ℕ, suc, ◌+◌, ◌*◌, ◌<◌, ◌≤◌, List, [], ◌∷◌, ◌++◌, length, get_or, sym, ap}
use Rattle.std.proofs.Common.{subst, ◌∙◌, ◌≢◌, ◌==◌, arith}
use Rattle.std.specs.List.{All}
use Rattle.std.proofs.Math.Nat.{mul-le-mul_left, mul-suc, mul-add}
use Rattle.std.proofs.lemmas.List.{append-nil, append_cancel_left, get_or_default, length-append}
use Rattle.std.proofs.lemmas.List.Elements.{All-append, All-cons, All-nil, All-weaker}
use Rattle.std.proofs.lemmas.Map.Keys.{IsDistinct-from_apart}
use Rattle.lin_model.specs.KeyAtom.{PlainKeyAtom}
use Rattle.lin_model.specs.Lists.{not_nil}
use Rattle.key_tree.specs.declared.kid.Kid.{Kid}
use Rattle.key_tree.specs.Tree.{PlainTree, IsTree, way_to, place_at}
use Rattle.key_tree.specs.Walks.{IsAtOrBehind, IsBehind, IsBehindFirst, Visits, kid_atom}
use Rattle.key_tree.specs.Laws.{VisitsGoOn}
use Rattle.key_tree.proofs.ListLemmas.{distinct-append, distinct-cons, few_below}
use Rattle.key_tree.proofs.PlaceLemmas.{no_kid, behind_kid, same_kid}

-- at no place no steps
no_visits : (May : ℕ → Type 0) (each steps : ℕ) → Visits May each steps steps
no_visits May each steps = record {
  seen = [];
  once = IsDistinct-from_apart ◌==◌ [] (λ i j d before within. absurd (omega (arith, within)));
  may = All-nil May;
  cost = omega arith;
}

-- one place and then others, none of which it is
one_then : (May Then : ℕ → Type 0) (place each before mid after : ℕ) → May place
    → ((n : ℕ) → Then n → May n) → ((n : ℕ) → Then n → place ≢ n) → mid ≤ before + each → Visits Then each mid after
    → Visits May each before after
one_then May Then place each before mid after here weaker other first rest = record {
  seen = place ∷ rest.seen;
  once = distinct-cons place rest.seen (All-weaker Then (λ n. place ≢ n) other rest.seen rest.may) rest.once;
  may = All-cons May place rest.seen here (All-weaker Then May weaker rest.seen rest.may);
  cost = (
      let whole : each * suc (length rest.seen) ≡ each * length rest.seen + each = mul-suc each (length rest.seen) in
      omega (arith, rest.cost)
      );
}

-- some places and then others, none of which they are
both_visits : (May First Then : ℕ → Type 0) (each before mid after : ℕ) → ((n : ℕ) → First n → May n)
    → ((n : ℕ) → Then n → May n) → ((m n : ℕ) → First m → Then n → m ≢ n) → Visits First each before mid
    → Visits Then each mid after → Visits May each before after
both_visits May First Then each before mid after first then other these those = record {
  seen = these.seen ++ those.seen;
  once = distinct-append these.seen those.seen these.once those.once
      (All-weaker First (λ m. All (λ n. m ≢ n) those.seen)
      (λ m f. All-weaker Then (λ n. m ≢ n) (λ n t. other m n f t) those.seen those.may) these.seen these.may);
  may = All-append May these.seen those.seen (All-weaker First May first these.seen these.may)
      (All-weaker Then May then those.seen those.may);
  cost = (
      let size = length-append these.seen those.seen in
      let whole : each * length (these.seen ++ those.seen) ≡ each * length these.seen + each * length those.seen =
      ap (λ (n : ℕ). each * n) size ∙ mul-add each (length these.seen) (length those.seen) in
      omega (arith, these.cost, those.cost)
      );
}

-- the same places, said in another way
as_visits : (May First : ℕ → Type 0) (each before after : ℕ) → ((n : ℕ) → First n → May n)
    → Visits First each before after → Visits May each before after
as_visits May First each before after weaker these = record {
  seen = these.seen;
  once = these.once;
  may = All-weaker First May weaker these.seen these.may;
  cost = these.cost;
}

-- no way has more behind itself
not_longer : (way rest : List PlainKeyAtom) (atom : PlainKeyAtom) → ¬ (way ≡ way ++ atom ∷ rest)
not_longer way rest atom same =
    not_nil [] atom rest (sym (append_cancel_left way [] (atom ∷ rest) (append-nil way ∙ same)))

module _ (tree : PlainTree) (place : ℕ) (keeps : IsTree tree) (within : place < length tree.places) where
  -- a place is at itself
  at_itself : IsAtOrBehind tree place place
  at_itself = record { within = within; rest = []; is = sym (append-nil (way_to tree place)) }

  -- what is behind a place is at or behind it
  at_or_behind : (n : ℕ) → IsBehind tree place n → IsAtOrBehind tree place n
  at_or_behind n behind = record { within = behind.within; rest = behind.atom ∷ behind.rest; is = behind.is }

  -- a place is not behind itself
  other_behind : (n : ℕ) → IsBehind tree place n → place ≢ n
  other_behind n behind same =
      not_longer (way_to tree place) behind.rest behind.atom (ap (λ (m : ℕ). way_to tree m) same ∙ behind.is)

  -- the way to what is at or behind a kid
  way_by_kid : (k n : ℕ) (d : Kid) → k < length (place_at tree place).kids
      → (behind : IsAtOrBehind tree (get_or (place_at tree place).kids k d).place n)
      → way_to tree n ≡ way_to tree place ++ kid_atom tree place k d ∷ behind.rest
  way_by_kid k n d those behind = behind.is ∙ behind_kid tree keeps place k d behind.rest within those

  -- what is behind two kids differs
  kids_apart : (j k m n : ℕ) (c d : Kid) → j < k → k < length (place_at tree place).kids
      → IsAtOrBehind tree (get_or (place_at tree place).kids j c).place m
      → IsAtOrBehind tree (get_or (place_at tree place).kids k d).place n → m ≢ n
  kids_apart j k m n c d before those first second same =
      let ways : kid_atom tree place j c ∷ first.rest ≡ kid_atom tree place k d ∷ second.rest =
      append_cancel_left (way_to tree place) (kid_atom tree place j c ∷ first.rest)
      (kid_atom tree place k d ∷ second.rest)
      (sym (way_by_kid j m c (omega arith) first)
      ∙ (ap (λ (p : ℕ). way_to tree p) same ∙ way_by_kid k n d those second)) in
      let atoms : kid_atom tree place j c ≡ kid_atom tree place k d = cc in
      let e : j ≡ k = same_kid tree keeps place j k c d within (omega arith) those atoms in
      absurd (omega arith)

  -- what is behind one of the first kids is behind one of one more
  more_first : (k n : ℕ) → IsBehindFirst tree place k n → IsBehindFirst tree place (k + 1) n
  more_first k n first = record { kid = first.kid; before = omega (arith, first.before); behind = first.behind }

  -- so is what is behind the next
  next_first : (k n : ℕ) (d : Kid) → k < length (place_at tree place).kids
      → IsAtOrBehind tree (get_or (place_at tree place).kids k d).place n → IsBehindFirst tree place (k + 1) n
  next_first k n d those behind = record {
    kid = k;
    before = omega arith;
    behind = λ c. subst (λ (kid : Kid). IsAtOrBehind tree kid.place n)
        (get_or_default (place_at tree place).kids k d c those) behind;
  }

  -- what is behind one of all kids is behind the place
  behind_all : (n : ℕ) → IsBehindFirst tree place (length (place_at tree place).kids) n → IsBehind tree place n
  behind_all n first =
      let behind = first.behind no_kid in
      record {
        within = behind.within;
        atom = kid_atom tree place first.kid no_kid;
        rest = behind.rest;
        is = way_by_kid first.kid n no_kid first.before behind;
      }

  -- the steps behind the first kids, and behind the next
  pub more_visits : (k each before mid after : ℕ) (d : Kid) → k < length (place_at tree place).kids
      → Visits (IsBehindFirst tree place k) each before mid
      → Visits (IsAtOrBehind tree (get_or (place_at tree place).kids k d).place) each mid after
      → Visits (IsBehindFirst tree place (k + 1)) each before after
  more_visits k each before mid after d those first next =
      both_visits (IsBehindFirst tree place (k + 1)) (IsBehindFirst tree place k)
      (IsAtOrBehind tree (get_or (place_at tree place).kids k d).place) each before mid after (more_first k)
      (λ n behind. next_first k n d those behind)
      (λ m n f behind. kids_apart f.kid k m n d d f.before those (f.behind d) behind) first next

-- behind the root there are at most as many as there are places besides it
all_visits : (tree : PlainTree) (each nodes before after : ℕ) → IsTree tree → nodes + 1 ≡ length tree.places
    → Visits (IsBehind tree 0) each before after → after ≤ before + each * nodes
all_visits tree each nodes before after keeps is visits =
    let root : 0 < length tree.places = omega arith in
    let few : length (0 ∷ visits.seen) ≤ length tree.places = few_below (0 ∷ visits.seen) (length tree.places)
    (distinct-cons 0 visits.seen
    (All-weaker (IsBehind tree 0) (λ n. 0 ≢ n) (other_behind tree 0 keeps root) visits.seen visits.may) visits.once)
    (All-cons (λ (n : ℕ). n < length tree.places) 0 visits.seen root
    (All-weaker (IsBehind tree 0) (λ n. n < length tree.places) (λ n b. b.within) visits.seen visits.may)) in
    let less : each * length visits.seen ≤ each * nodes = mul-le-mul_left each (omega arith) in
    omega (arith, visits.cost)

-- the law
pub visits_go : VisitsGoOn
visits_go = record {
  none = λ tree place each steps. no_visits (IsBehindFirst tree place 0) each steps;
  one = λ tree place each before after within few.
      one_then (IsAtOrBehind tree place) (λ n. ⊥) place each before after after
      (record { within = within; rest = []; is = sym (append-nil (way_to tree place)) }) (λ n no. absurd no)
      (λ n no. absurd no) few (no_visits (λ n. ⊥) each after);
  behind = λ tree place each before mid after keeps within few visits.
      one_then (IsAtOrBehind tree place) (IsBehind tree place) place each before mid after
      (at_itself tree place keeps within) (at_or_behind tree place keeps within) (other_behind tree place keeps within)
      few visits;
  more = λ tree place k each before mid after d keeps within those first next.
      more_visits tree place keeps within k each before mid after d those first next;
  done = λ tree place each before after keeps within visits.
      as_visits (IsBehind tree place) (IsBehindFirst tree place (length (place_at tree place).kids)) each before after
      (behind_all tree place keeps within) visits;
  all = λ tree each nodes before after keeps is visits. all_visits tree each nodes before after keeps is visits;
}
