-- How a walk goes on from one kid of a place to the next.
use Rattle.std.proofs.Common.{◌≡◌, ℕ, ◌+◌, ◌<◌, ◌≤◌, List, [], ◌∷◌, ◌++◌, length, get_or, inl, inr, sym}
use Rattle.std.proofs.Common.{ap, subst, ◌∙◌, arith}
use Rattle.std.proofs.lemmas.List.{append-nil, get_or_default}
use Rattle.lin_model.specs.KeyAtom.{PlainKeyAtom}
use Rattle.lin_model.specs.Lists.{below_or_last}
use Rattle.key_tree.specs.declared.kid.Kid.{Kid}
use Rattle.key_tree.specs.Tree.{PlainTree, IsTree, Holds, way_to, place_at, branch_to}
use Rattle.key_tree.specs.Walks.{Meets, PassesBehind, IsLeastFound, IsLeastSoFar, kid_atom}
use Rattle.key_tree.specs.Laws.{WalksGoOn}
use Rattle.key_tree.proofs.PlaceLemmas.{no_kid, behind_kid, kid_on_way, held_reaches}

module _ (tree : PlainTree) (place : ℕ) (Passes : List PlainKeyAtom → Type 0) (keeps : IsTree tree)
    (within : place < length tree.places) where
  -- what passes behind a kid, its atom being put in front
  abbrev BehindKid : Kid → ℕ → Type 0
  BehindKid kid number =
      PassesBehind tree kid.place (λ rest. Passes ((branch_to tree kid.place).atom ∷ rest)) number

  -- a key behind a kid is a key behind the place
  from_kid : (k : ℕ) (d : Kid) (number : ℕ) → k < length (place_at tree place).kids
      → BehindKid (get_or (place_at tree place).kids k d) number → PassesBehind tree place Passes number
  from_kid k d number those behind = record {
    rest = kid_atom tree place k d ∷ behind.rest;
    held = subst (λ (key : List PlainKeyAtom). Holds tree key number)
        (behind_kid tree keeps place k d behind.rest within those) behind.held;
    passes = behind.passes;
  }

  -- a key behind the place is held at it or behind a kid
  pub to_kid : (number : ℕ) (first : PlainKeyAtom) (rest : List PlainKeyAtom)
      → Holds tree (way_to tree place ++ first ∷ rest) number → Passes (first ∷ rest)
      → (k : ℕ) × (k < length (place_at tree place).kids) × BehindKid (get_or (place_at tree place).kids k no_kid) number
  to_kid number first rest held passes =
      let at = held_reaches tree keeps (way_to tree place ++ first ∷ rest) number held in
      let has = kid_on_way tree keeps at.place place first rest at.within within at.is in
      let same : first ≡ kid_atom tree place has.kid no_kid = sym (has.is no_kid) in
      let moved = ap (λ (a : PlainKeyAtom). way_to tree place ++ a ∷ rest) same
      ∙ sym (behind_kid tree keeps place has.kid no_kid rest within has.within) in (
        has.kid,
        has.within,
        record {
          rest = rest;
          held = subst (λ (key : List PlainKeyAtom). Holds tree key number) moved held;
          passes = subst (λ (a : PlainKeyAtom). Passes (a ∷ rest)) same passes;
        },
      )

  -- what was found behind the kids so far, and behind the next
  pub one_more : (k before found better : ℕ) (d : Kid) → k < length (place_at tree place).kids
      → IsLeastSoFar tree place Passes k before found
      → IsLeastFound tree (get_or (place_at tree place).kids k d).place
      (λ rest. Passes (kid_atom tree place k d ∷ rest)) found better
      → IsLeastSoFar tree place Passes (k + 1) before better
  one_more k before found better d those so_far here = record {
    falls = omega (arith, so_far.falls, here.falls);
    attained = elim here.attained [
      | inl same ↦ elim so_far.attained [
        | inl none ↦ inl (same ∙ none)
        | inr behind ↦ inr (subst (λ (n : ℕ). PassesBehind tree place Passes n) (sym same) behind)
      ]
      | inr behind ↦ inr (from_kid k d better those behind)
    ];
    here = λ number held passes. omega (arith, so_far.here number held passes, here.falls);
    least = λ j c number lt behind. elim (below_or_last j k lt) [
      | inl earlier ↦ omega (arith, so_far.least j c number earlier behind, here.falls)
      | inr last ↦ here.least number (
          let kid : get_or (place_at tree place).kids j c ≡ get_or (place_at tree place).kids k d =
          ap (λ (i : ℕ). get_or (place_at tree place).kids i c) last
          ∙ get_or_default (place_at tree place).kids k c d those in
          subst (λ (x : Kid). BehindKid x number) kid behind
          )
    ];
  }

  -- what was found at the place and behind all its kids
  pub all_kids : (before found : ℕ) → IsLeastSoFar tree place Passes (length (place_at tree place).kids) before found
      → IsLeastFound tree place Passes before found
  all_kids before found so_far = record {
    falls = so_far.falls;
    attained = so_far.attained;
    least = λ number behind. by_rest number behind.rest behind.held behind.passes;
  }
    where
      by_rest : (number : ℕ) (rest : List PlainKeyAtom) → Holds tree (way_to tree place ++ rest) number → Passes rest
          → found ≤ number
      by_rest number [] held passes =
          so_far.here number (subst (λ (key : List PlainKeyAtom). Holds tree key number)
          (append-nil (way_to tree place)) held) passes
      by_rest number (first ∷ rest) held passes =
          let kid = to_kid number first rest held passes in
          so_far.least kid.0 no_kid number kid.1 kid.2

-- the law
pub walks_go : WalksGoOn
walks_go = record {
  more = λ tree place k before found better d sought keeps within those so_far here.
      one_more tree place (Meets sought) keeps within k before found better d those so_far here;
  done = λ tree place before found sought keeps within so_far.
      all_kids tree place (Meets sought) keeps within before found so_far;
}
