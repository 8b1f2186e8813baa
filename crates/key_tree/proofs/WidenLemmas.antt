-- Masks that grow on the way from a place up to the root.
use Rattle.std.proofs.Common.{◌≡◌, ℕ, zero, suc, ◌+◌, ◌-◌, ◌<◌, ◌≢◌, List, [], length, get_or, ◌⊎◌, inl, inr}
use Rattle.std.proofs.Common.{ap, sym, subst, ◌∙◌, refl, arith}
use Rattle.std.specs.Int.RustNames.{bit_or}
use Rattle.std.proofs.lemmas.List.{get_or_default}
use Rattle.std.proofs.lemmas.Bool.{cases_lt, cases_eq}
use Rattle.key_tree.specs.declared.branch.Branch.{Branch}
use Rattle.key_tree.specs.declared.kid.Kid.{Kid}
use Rattle.key_tree.specs.Places.{PlainPlace, no_place, AreWidened}
use Rattle.key_tree.specs.Prints.{gives_of, IsWithin}
use Rattle.key_tree.specs.Tree.{branch_to, no_branch}
use Rattle.key_tree.specs.Growth.{bare, IsBehindMasked, IsAtomMasked, MayWiden, AreMasked, AreSameButMasks}
use Rattle.key_tree.specs.MaskFacts.{within_itself, within_more, within_left, within_right, within_both}

-- where the branch to a place comes from, whatever the places
abbrev pub from_of : List Branch → ℕ → ℕ
from_of branches p = (branch_to (bare branches []) p).from

-- the mask of a place
abbrev pub mask_at : List PlainPlace → ℕ → ℕ
mask_at places p = (get_or places p no_place).below

-- the place that a kid leads to
abbrev pub kid_place : List PlainPlace → ℕ → ℕ → Kid → ℕ
kid_place places p k d = (get_or (get_or places p no_place).kids k d).place

-- the mask beside a kid
abbrev pub kid_mask : List PlainPlace → ℕ → ℕ → ℕ → ℕ
kid_mask places p k m = get_or (get_or places p no_place).masks k m

-- The masks are right but for what was gathered up to a place: the place before and the kid that leads to it have not got
-- it yet, and the atoms of new places up to there have given nothing.
pub record IsWidening (branches : List Branch) (olds news : List PlainPlace) (next place mask : ℕ) : Type 0 where
  pub same : AreSameButMasks olds news
  pub within : place < length news
  pub behind : (p : ℕ) → 0 < p → p < length news → p ≢ place → IsBehindMasked (bare branches news) p
  pub here : 0 < place → IsWithin (mask_at news place) (bit_or (mask_at news (from_of branches place)) mask)
  pub atoms : (p : ℕ) → 0 < p → p < length news → (p < next) ⊎ (place < p) → IsAtomMasked (bare branches news) p
  pub counts : (p : ℕ) → p < length news → length (get_or news p no_place).masks ≡ length (get_or news p no_place).kids
  pub kids : (p k : ℕ) (d : Kid) (m : ℕ) → p < length news → k < length (get_or news p no_place).kids
      → kid_place news p k d ≢ place → IsWithin (mask_at news (kid_place news p k d)) (kid_mask news p k m)
  pub kid_here : (p k : ℕ) (d : Kid) (m : ℕ) → p < length news → k < length (get_or news p no_place).kids
      → kid_place news p k d ≡ place → IsWithin (mask_at news place) (bit_or (kid_mask news p k m) mask)
  pub own : (p k : ℕ) (d : Kid) (m : ℕ) → p < length news → k < length (get_or news p no_place).kids
      → IsWithin (gives_of (branch_to (bare branches []) (kid_place news p k d)).atom) (kid_mask news p k m)

-- at the start nothing was gathered
pub widening_starts : (branches : List Branch) (places : List PlainPlace) (last : ℕ)
    → (may : MayWiden branches places last) → IsWidening branches places places may.next last 0
widening_starts branches places last may = record {
  same = record { counts = refl; kids = λ p. refl; numbers = λ p. refl };
  within = omega (arith, may.is_last);
  behind = λ p some within _. may.behind p some within;
  here = λ some. within_more (mask_at places last) (mask_at places (from_of branches last))
      (bit_or (mask_at places (from_of branches last)) 0)
      (may.behind last some (omega (arith, may.is_last))) (within_left (mask_at places (from_of branches last)) 0);
  atoms = λ p some within which. elim which [
    | inl old ↦ may.atoms p some old within
    | inr behind ↦ absurd (omega (arith, may.is_last))
  ];
  counts = λ p within. (may.kids p within).counts;
  kids = λ p k d m within lt _. (may.kids p within).have k d m lt;
  kid_here = λ p k d m within lt same.
      subst (λ (q : ℕ). IsWithin (mask_at places q) (bit_or (kid_mask places p k m) 0)) same
      (within_more (mask_at places (kid_place places p k d)) (kid_mask places p k m) (bit_or (kid_mask places p k m) 0)
      ((may.kids p within).have k d m lt) (within_left (kid_mask places p k m) 0));
  own = λ p k d m within lt. (may.kids p within).own k d m lt;
}

-- One place was widened: its mask has its bits and the new ones, and so have those of its kids that lead to one place. All
-- other masks are as they were, and nothing else differs.
module _ (places wider : List PlainPlace) (up kid low mask : ℕ) (wide : AreWidened up kid low mask places wider) where
  -- its mask has both
  pub wider_there : mask_at wider up ≡ bit_or (mask_at places up) mask
  wider_there = wide.here.below

  -- each other mask is as it was
  pub wider_other : (p : ℕ) → p ≢ up → mask_at wider p ≡ mask_at places p
  wider_other p other = ap (λ (q : PlainPlace). q.below) (wide.elsewhere p other)

  -- no mask lost a bit
  pub wider_all : (p : ℕ) → IsWithin (mask_at places p) (mask_at wider p)
  wider_all p = elim (cases_eq p up) [
    | inl same ↦ subst (λ (q : ℕ). IsWithin (mask_at places q) (mask_at wider q)) (sym same)
        (subst (λ (m : ℕ). IsWithin (mask_at places up) m) (sym wider_there) (within_left (mask_at places up) mask))
    | inr other ↦ subst (λ (m : ℕ). IsWithin (mask_at places p) m) (sym (wider_other p other))
        (within_itself (mask_at places p))
  ]

  -- the new bits are there
  pub wider_has : IsWithin mask (mask_at wider up)
  wider_has = subst (λ (m : ℕ). IsWithin mask m) (sym wider_there) (within_right (mask_at places up) mask)

  -- the kids of a place are as they were
  pub wider_kids : (p : ℕ) → (get_or wider p no_place).kids ≡ (get_or places p no_place).kids
  wider_kids p = elim (cases_eq p up) [
    | inl same ↦ subst (λ (q : ℕ). (get_or wider q no_place).kids ≡ (get_or places q no_place).kids) (sym same) wide.here.kids
    | inr other ↦ ap (λ (q : PlainPlace). q.kids) (wide.elsewhere p other)
  ]

  -- nothing but masks differs
  pub wider_same : AreSameButMasks places wider
  wider_same = record {
    counts = wide.places;
    kids = wider_kids;
    numbers = λ p. elim (cases_eq p up) [
      | inl same ↦ subst (λ (q : ℕ). (get_or wider q no_place).number ≡ (get_or places q no_place).number) (sym same)
          wide.here.number
      | inr other ↦ ap (λ (q : PlainPlace). q.number) (wide.elsewhere p other)
    ];
  }

  -- there are as many masks of kids
  pub wider_counts : (p : ℕ) → length (get_or wider p no_place).masks ≡ length (get_or places p no_place).masks
  wider_counts p = elim (cases_eq p up) [
    | inl same ↦ subst (λ (q : ℕ). length (get_or wider q no_place).masks ≡ length (get_or places q no_place).masks) (sym same)
        wide.here.masks.counts
    | inr other ↦ ap (λ (q : PlainPlace). length q.masks) (wide.elsewhere p other)
  ]

  -- no mask of a kid lost a bit
  pub wider_grow : (p k m : ℕ) → IsWithin (kid_mask places p k m) (kid_mask wider p k m)
  wider_grow p k m = elim (cases_eq p up) [
    | inl same ↦ subst (λ (q : ℕ). IsWithin (kid_mask places q k m) (kid_mask wider q k m)) (sym same)
        (wide.here.masks.grow k m)
    | inr other ↦ subst (λ (q : PlainPlace). IsWithin (kid_mask places p k m) (get_or q.masks k m))
        (sym (wide.elsewhere p other)) (within_itself (kid_mask places p k m))
  ]

  -- each kid is the one that it was
  pub wider_place : (p k : ℕ) (d : Kid) → kid_place wider p k d ≡ kid_place places p k d
  wider_place p k d = ap (λ (kids : List Kid). (get_or kids k d).place) (wider_kids p)

-- places stay the same over two steps
pub same_join : (olds mids news : List PlainPlace) → AreSameButMasks olds mids → AreSameButMasks mids news
    → AreSameButMasks olds news
same_join olds mids news first next = record {
  counts = next.counts ∙ first.counts;
  kids = λ p. next.kids p ∙ first.kids p;
  numbers = λ p. next.numbers p ∙ first.numbers p;
}

-- where a place lies behind the one that a branch comes from, it is old or behind the branch's place
place_of_step : (next place up p : ℕ) → (next < place → up + 1 ≡ place) → (p < next) ⊎ (up < p) → p ≢ place
    → (p < next) ⊎ (place < p)
place_of_step next place up p chain which other = elim which [
  | inl old ↦ inl old
  | inr behind ↦ elim (cases_lt place p) [
    | inl after ↦ inr after
    | inr upto ↦ elim (cases_lt next place) [
      | inl new ↦ let e : up + 1 ≡ place = chain new in absurd (omega arith)
      | inr old ↦ inl (omega arith)
    ]
  ]
]

-- One step up: the kids that lead to the place are those of the place before it, and get what was gathered.
module _ (branches : List Branch) (olds news grown : List PlainPlace) (last place mask wide up : ℕ)
    (may : MayWiden branches olds last) (w : IsWidening branches olds news may.next place mask)
    (is : up ≡ from_of branches place) (older : up < place) (widened : AreWidened up place mask wide news grown) where
  -- a kid as it is now is one as it was
  kid_was : (p k : ℕ) → k < length (get_or grown p no_place).kids → k < length (get_or news p no_place).kids
  kid_was p k lt = subst (λ (kids : List Kid). k < length kids) (wider_kids news grown up place mask wide widened p) lt

  -- only the place before has a kid that leads to the place
  kid_up : (p k : ℕ) (d : Kid) → p < length news → k < length (get_or news p no_place).kids → kid_place news p k d ≡ place
      → p ≡ up
  kid_up p k d within lt same =
      let kids = w.same.kids p in
      let from : from_of branches (kid_place olds p k d) ≡ p =
      (may.leads p k d (omega (arith, w.same.counts)) (subst (λ (ks : List Kid). k < length ks) kids lt)).from in
      let place_is : kid_place olds p k d ≡ place =
      subst (λ (ks : List Kid). (get_or ks k d).place ≡ place) kids same in
      sym from ∙ (ap (λ (q : ℕ). from_of branches q) place_is ∙ sym is)

  -- those masks have it
  kids_at : (p k : ℕ) (d : Kid) (m : ℕ) → p < length news → k < length (get_or news p no_place).kids
      → kid_place news p k d ≡ place → IsWithin (mask_at news place) (kid_mask grown p k m)
  kids_at p k d m within lt same =
      let here : p ≡ up = kid_up p k d within lt same in
      let has : IsWithin mask (kid_mask grown p k m) =
      subst (λ (q : ℕ). k < length (get_or news q no_place).kids → kid_place news q k d ≡ place
      → IsWithin mask (kid_mask grown q k m)) (sym here) (widened.here.masks.have k d m) lt same in
      within_more (mask_at news place) (bit_or (kid_mask news p k m) mask) (kid_mask grown p k m)
      (w.kid_here p k d m within lt same)
      (within_both (kid_mask news p k m) mask (kid_mask grown p k m) (wider_grow news grown up place mask wide widened p k m) has)

  -- so all masks of kids are right, but for those that lead to the place before
  pub kids_more : (p k : ℕ) (d : Kid) (m : ℕ) → p < length grown → k < length (get_or grown p no_place).kids
      → kid_place grown p k d ≢ up → IsWithin (mask_at grown (kid_place grown p k d)) (kid_mask grown p k m)
  kids_more p k d m within lt other =
      let within_news : p < length news = omega (arith, widened.places) in
      let was = kid_was p k lt in
      let same_place : kid_place grown p k d ≡ kid_place news p k d = wider_place news grown up place mask wide widened p k d in
      subst (λ (q : ℕ). IsWithin (mask_at grown q) (kid_mask grown p k m)) (sym same_place)
      (subst (λ (b : ℕ). IsWithin b (kid_mask grown p k m))
      (sym (wider_other news grown up place mask wide widened (kid_place news p k d) (λ e. other (same_place ∙ e))))
      (elim (cases_eq (kid_place news p k d) place) [
        | inl same ↦ subst (λ (q : ℕ). IsWithin (mask_at news q) (kid_mask grown p k m)) (sym same)
            (kids_at p k d m within_news was same)
        | inr different ↦ within_more (mask_at news (kid_place news p k d)) (kid_mask news p k m) (kid_mask grown p k m)
            (w.kids p k d m within_news was different) (wider_grow news grown up place mask wide widened p k m)
      ]))

  -- each has what its atom gives
  pub own_more : (p k : ℕ) (d : Kid) (m : ℕ) → p < length grown → k < length (get_or grown p no_place).kids
      → IsWithin (gives_of (branch_to (bare branches []) (kid_place grown p k d)).atom) (kid_mask grown p k m)
  own_more p k d m within lt =
      within_more (gives_of (branch_to (bare branches []) (kid_place grown p k d)).atom) (kid_mask news p k m)
      (kid_mask grown p k m)
      (subst (λ (q : ℕ). IsWithin (gives_of (branch_to (bare branches []) q).atom) (kid_mask news p k m))
      (sym (wider_place news grown up place mask wide widened p k d))
      (w.own p k d m (omega (arith, widened.places)) (kid_was p k lt)))
      (wider_grow news grown up place mask wide widened p k m)

  -- and those that lead to the place before lack only what was gathered
  pub kid_here_more : (p k : ℕ) (d : Kid) (m : ℕ) → p < length grown → k < length (get_or grown p no_place).kids
      → kid_place grown p k d ≡ up → IsWithin (mask_at grown up) (bit_or (kid_mask grown p k m) wide)
  kid_here_more p k d m within lt same =
      let was_up : kid_place news p k d ≡ up = sym (wider_place news grown up place mask wide widened p k d) ∙ same in
      let had : IsWithin (mask_at news up) (kid_mask news p k m) =
      subst (λ (q : ℕ). IsWithin (mask_at news q) (kid_mask news p k m)) was_up
      (w.kids p k d m (omega (arith, widened.places)) (kid_was p k lt) (λ e. absurd (omega (arith, was_up)))) in
      subst (λ (b : ℕ). IsWithin b (bit_or (kid_mask grown p k m) wide)) (sym (wider_there news grown up place mask wide widened))
      (within_both (mask_at news up) wide (bit_or (kid_mask grown p k m) wide)
      (within_more (mask_at news up) (kid_mask news p k m) (bit_or (kid_mask grown p k m) wide) had
      (within_more (kid_mask news p k m) (kid_mask grown p k m) (bit_or (kid_mask grown p k m) wide)
      (wider_grow news grown up place mask wide widened p k m) (within_left (kid_mask grown p k m) wide)))
      (within_right (kid_mask grown p k m) wide))

-- one step up
pub widening_more : (branches : List Branch) (olds news grown : List PlainPlace) (last place mask wide up : ℕ)
    → (may : MayWiden branches olds last) → IsWidening branches olds news may.next place mask → 0 < place
    → up ≡ from_of branches place → wide ≡ bit_or mask (gives_of (branch_to (bare branches []) place).atom)
    → AreWidened up place mask wide news grown → IsWidening branches olds grown may.next up wide
widening_more branches olds news grown last place mask wide up may w some is wide_is widened =
    let counts : length news ≡ length olds = w.same.counts in
    let older : up < place = subst (λ (n : ℕ). n < place) (sym is) (may.older place some (omega (arith, w.within))) in
    let within : up < length news = omega (arith, w.within) in
    let length_is : length grown ≡ length news = widened.places in
    let more : IsWithin mask wide = subst (λ (m : ℕ). IsWithin mask m) (sym wide_is)
    (within_left mask (gives_of (branch_to (bare branches []) place).atom)) in
    let gives : IsWithin (gives_of (branch_to (bare branches []) place).atom) wide =
    subst (λ (m : ℕ). IsWithin (gives_of (branch_to (bare branches []) place).atom) m) (sym wide_is)
    (within_right mask (gives_of (branch_to (bare branches []) place).atom)) in
    let here : IsWithin (mask_at news place) (mask_at grown up) =
    within_more (mask_at news place) (bit_or (mask_at news up) mask) (mask_at grown up)
    (subst (λ (q : ℕ). IsWithin (mask_at news place) (bit_or (mask_at news q) mask)) (sym is) (w.here some))
    (within_both (mask_at news up) mask (mask_at grown up) (wider_all news grown up place mask wide widened up)
    (within_more mask wide (mask_at grown up) more (wider_has news grown up place mask wide widened))) in
    record {
      same = same_join olds news grown w.same (wider_same news grown up place mask wide widened);
      within = omega arith;
      behind = λ p p_some p_within other.
          subst (λ (m : ℕ). IsWithin m (mask_at grown (from_of branches p))) (sym (wider_other news grown up place mask wide widened p other))
          (elim (cases_eq p place) [
            | inl same ↦ subst (λ (q : ℕ). IsWithin (mask_at news q) (mask_at grown (from_of branches q))) (sym same)
                (subst (λ (q : ℕ). IsWithin (mask_at news place) (mask_at grown q)) is here)
            | inr different ↦ within_more (mask_at news p) (mask_at news (from_of branches p))
                (mask_at grown (from_of branches p))
                (w.behind p p_some (omega arith) different)
                (wider_all news grown up place mask wide widened (from_of branches p))
          ]);
      here = λ up_some.
          subst (λ (m : ℕ). IsWithin m (bit_or (mask_at grown (from_of branches up)) wide)) (sym (wider_there news grown up place mask wide widened))
          (within_both (mask_at news up) wide (bit_or (mask_at grown (from_of branches up)) wide)
          (within_more (mask_at news up) (mask_at grown (from_of branches up)) (bit_or (mask_at grown (from_of branches up)) wide)
          (within_more (mask_at news up) (mask_at news (from_of branches up)) (mask_at grown (from_of branches up))
          (w.behind up up_some within (omega arith)) (wider_all news grown up place mask wide widened (from_of branches up)))
          (within_left (mask_at grown (from_of branches up)) wide))
          (within_right (mask_at grown (from_of branches up)) wide));
      atoms = λ p p_some p_within which. elim (cases_eq p place) [
        | inl same ↦ subst (λ (q : ℕ). IsWithin (gives_of (branch_to (bare branches []) q).atom) (mask_at grown (from_of branches q))) (sym same)
            (subst (λ (q : ℕ). IsWithin (gives_of (branch_to (bare branches []) place).atom) (mask_at grown q)) is
            (within_more (gives_of (branch_to (bare branches []) place).atom) wide (mask_at grown up) gives (wider_has news grown up place mask wide widened)))
        | inr different ↦ within_more (gives_of (branch_to (bare branches []) p).atom) (mask_at news (from_of branches p))
            (mask_at grown (from_of branches p))
            (w.atoms p p_some (omega arith)
            (place_of_step may.next place up p
            (λ new. subst (λ (q : ℕ). q + 1 ≡ place) (sym is) (may.chain place new (omega (arith, w.within)))) which different))
            (wider_all news grown up place mask wide widened (from_of branches p))
      ];
      counts = λ p p_within. wider_counts news grown up place mask wide widened p
          ∙ (w.counts p (omega arith)
          ∙ sym (ap (λ (kids : List Kid). length kids) (wider_kids news grown up place mask wide widened p)));
      kids = kids_more branches olds news grown last place mask wide up may w is older widened;
      kid_here = kid_here_more branches olds news grown last place mask wide up may w is older widened;
      own = own_more branches olds news grown last place mask wide up may w is older widened;
    }

-- at the root all masks are right
pub widening_ends : (branches : List Branch) (olds news : List PlainPlace) (last next place mask : ℕ)
    → MayWiden branches olds last → IsWidening branches olds news next place mask → place ≡ 0 → AreMasked branches news
widening_ends branches olds news last next place mask may w is = record {
  atoms = λ p some within. w.atoms p some within (inr (omega arith));
  behind = λ p some within. w.behind p some within (omega arith);
  kids = λ p within. record {
    counts = w.counts p within;
    have = λ k d m lt. elim (cases_eq (kid_place news p k d) place) [
      | inl same ↦
          let kids = w.same.kids p in
          let leads = may.leads p k d (omega (arith, w.same.counts)) (subst (λ (ks : List Kid). k < length ks) kids lt) in
          let place_is : kid_place olds p k d ≡ place =
          subst (λ (ks : List Kid). (get_or ks k d).place ≡ place) kids same in
          absurd (omega (arith, leads.some, place_is))
      | inr other ↦ w.kids p k d m within lt other
    ];
    own = λ k d m lt. w.own p k d m within lt;
  };
}

-- the branch that is read is the one to the place
pub branch_read : (branches : List Branch) (place : ℕ) (b : Branch) → 0 < place → place - 1 < length branches
    → b ≡ get_or branches (place - 1) b → b ≡ branch_to (bare branches []) place
branch_read branches zero b some lt is = absurd (omega arith)
branch_read branches (suc k) b some lt is =
    let e : suc k - 1 ≡ k = omega arith in
    is ∙ (ap (λ (i : ℕ). get_or branches i b) e ∙ get_or_default branches k b no_branch (omega arith))

-- where it comes from, an older place
pub branch_older : (branches : List Branch) (olds news : List PlainPlace) (last next place mask : ℕ) (b : Branch)
    → MayWiden branches olds last → IsWidening branches olds news next place mask → 0 < place
    → b ≡ get_or branches (place - 1) b → (b.from ≡ from_of branches place) × (b.from < place) × (b.from < length news)
branch_older branches olds news last next place mask b may w some is =
    let small : place - 1 < length branches = omega (arith, w.within, w.same.counts, may.sized) in
    let from : b.from ≡ from_of branches place = ap (λ (c : Branch). c.from) (branch_read branches place b some small is) in
    let lt : b.from < place = subst (λ (n : ℕ). n < place) (sym from)
    (may.older place some (omega (arith, w.within, w.same.counts))) in
    (from, lt, omega (arith, w.within))

-- the atom of the branch that was read
pub branch_gives : (branches : List Branch) (olds news : List PlainPlace) (last next place mask : ℕ) (b : Branch)
    → MayWiden branches olds last → IsWidening branches olds news next place mask → 0 < place
    → b ≡ get_or branches (place - 1) b → gives_of b.atom ≡ gives_of (branch_to (bare branches []) place).atom
branch_gives branches olds news last next place mask b may w some is =
    ap (λ (c : Branch). gives_of c.atom)
    (branch_read branches place b some (omega (arith, w.within, w.same.counts, may.sized)) is)
