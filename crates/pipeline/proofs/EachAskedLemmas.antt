-- Every query has an answer, where each of its keys can be asked.
use Rattle.std.proofs.Common.{◌≡◌, ℕ, zero, suc, ◌+◌, ◌<◌, ◌≤◌, ℤ, pos, Bool, true, false, Option, Some, None}
use Rattle.std.proofs.Common.{List, [], ◌∷◌, length, get_or, take, replicate, inl, inr, arith}
use Rattle.std.proofs.Common.{refl, sym, subst, ◌∙◌}
use Rattle.std.specs.List.{All, AllZip, position}
use Rattle.std.proofs.Math.Seq.{take-length}
use Rattle.std.proofs.lemmas.List.{length-replicate, take_all}
use Rattle.std.proofs.lemmas.List.Elements.{All-head, All-nil, All-tail}
use Rattle.std.proofs.lemmas.Option.{get_or_from_slice_get}
use Rattle.std.proofs.lemmas.Slice.Zip.{AllZip-long}
use Rattle.lin_model.specs.Conditions.{PlainCondition, Fits, IsCondition}
use Rattle.lin_model.specs.Lists.{AllZip-at, Found-at, Found-from, IsSomeAnd-found}
use Rattle.slicer.specs.Laws.{EachHasSlices, SlicesPartition}
use Rattle.canoniser.specs.OneKey.{EachHasCanonical}
use Rattle.refutation.specs.Boxed.{IsBoxed}
use Rattle.refutation.specs.Laws.{BoundedIsBoxed}
use Rattle.cert_check.specs.declared.reply.Reply.{Reply}
use Rattle.cert_check.specs.Asks.{CanBeAsked, EachKeyCanBeAsked, IsReady}
use Rattle.cert_check.specs.Laws.{RepliesSettle}
use Rattle.cert_check.specs.Replies.{has_core, is_spent, point_in}
use Rattle.cert_check.specs.Runs.{AskingKeepsReplies}
use Rattle.cert_check.specs.Seats.{SeatState}
use Rattle.pipeline.specs.declared.answers.Verdict.{Verdict}
use Rattle.pipeline.specs.declared.answers.Verdict.TheVariants.{Sat, UnsatAtom, UnsatSlice, Unknown}
use Rattle.pipeline.specs.declared.slice_keys.SliceKey.{SliceKey}
use Rattle.pipeline.specs.Answers.{GivesValues, NoneHasCore, OnlyLastHasCore}
use Rattle.pipeline.specs.Keyed.{AreKeyed, KeepsKeyLimits}
use Rattle.pipeline.specs.Asking.{AreSettled, AsksUpToCore, EndsAtCore, HasPoint, HasWidePoint, IsPlaced, IsRightFor}
use Rattle.pipeline.specs.Laws.{EachHasAnswer, HasAnswer}
use Rattle.pipeline.proofs.AnswerLemmas.{all_settled, answers_by_atom, answers_by_keys, keys_boxed}
use Rattle.pipeline.proofs.AskLemmas.{core_is_last}
use Rattle.pipeline.proofs.ClassLemmas.{apart, declared_at}
use Rattle.pipeline.proofs.EachKeyedLemmas.{HasDistinct, SomeKeys, keys_or_false}
use Rattle.pipeline.proofs.EachPlacedLemmas.{place_below}
use Rattle.pipeline.proofs.PlacedLemmas.{placed_next, points_wide, values_hold}
use Rattle.pipeline.proofs.VerdictLemmas.{all_found, first_passes, none_passes, right_sat, right_unknown, right_unsat}

-- ---- asking

-- some replies are lawful, and leave a seat of which keys can be asked
record AskedUpToCore (budget : ℕ) (slices : List SliceKey) (seat : SeatState) : Type 0 where
  pub replies : List Reply
  pub later : SeatState
  pub asks : AsksUpToCore budget slices replies seat later
  pub ready : IsReady later

-- a core behind a reply without one
core_behind : (reply : Reply) (replies : List Reply) → has_core reply ≡ false → OnlyLastHasCore replies
    → OnlyLastHasCore (reply ∷ replies)
core_behind reply replies not_one last zero core = absurd (cc)
core_behind reply replies not_one last (suc s) core = let rest = last s core in omega arith

-- the first slice is asked, and the others where its reply has no core
ask_first : (budget : ℕ) (slice : SliceKey) (slices : List SliceKey) (seat : SeatState)
    (one : CanBeAsked budget slice.key seat) (core : Bool) → has_core one.reply ≡ core
    → AskedUpToCore budget slices one.later → AskedUpToCore budget (slice ∷ slices) seat
ask_first budget slice slices seat one true is rest = record {
  replies = one.reply ∷ [];
  later = one.later;
  asks = record {
    ends = record {
      few = omega arith;
      core_last = core_is_last [] one.reply (All-nil (λ r. has_core r ≡ false));
      all = λ none.
          let not_one : has_core one.reply ≡ false = All-head (λ r. has_core r ≡ false) one.reply [] none in
          absurd (cc);
    };
    asks = (one.later, one.asks, refl);
  };
  ready = one.ready;
}
ask_first budget slice slices seat one false is rest = record {
  replies = one.reply ∷ rest.replies;
  later = rest.later;
  asks = record {
    ends = record {
      few = let few = rest.asks.ends.few in omega arith;
      core_last = core_behind one.reply rest.replies is rest.asks.ends.core_last;
      all = λ none.
          let long = rest.asks.ends.all (All-tail (λ r. has_core r ≡ false) one.reply rest.replies none) in
          omega arith;
    };
    asks = (one.later, one.asks, rest.asks.asks);
  };
  ready = rest.ready;
}

ask_all : (budget : ℕ) → EachKeyCanBeAsked budget → (slices : List SliceKey) (seat : SeatState)
    → All KeepsKeyLimits slices → All (λ k. IsBoxed k.key) slices → IsReady seat → AskedUpToCore budget slices seat
ask_all budget can [] seat limits boxed ready = record {
  replies = [];
  later = seat;
  asks = record {
    ends = record { few = omega arith; core_last = λ s core. absurd core; all = λ none. refl };
    asks = refl;
  };
  ready = ready;
}
ask_all budget can (slice ∷ slices) seat limits boxed ready =
    let one : CanBeAsked budget slice.key seat =
    can slice.key seat (All-head KeepsKeyLimits slice slices limits) (All-head (λ k. IsBoxed k.key) slice slices boxed)
    ready in
    ask_first budget slice slices seat one (has_core one.reply) refl
    (ask_all budget can slices one.later (All-tail KeepsKeyLimits slice slices limits)
    (All-tail (λ k. IsBoxed k.key) slice slices boxed) one.ready)

-- ---- values

-- an element that stands at a place
record At {X : Type 0} (xs : List X) (i : ℕ) : Type 0 where
  pub item : X
  pub is : item ≡ get_or xs i item

item_at : {X : Type 0} (xs : List X) (i : ℕ) → i < length xs → At xs i
item_at xs i lt =
    let found = Found-at xs i lt in
    record { item = found.value; is = sym (get_or_from_slice_get xs i found.value found.value found.is) }

-- the variables of the first n slices have their values
record PlacedUpTo (q : PlainCondition) (slices : List SliceKey) (replies : List Reply) (n : ℕ) : Type 0 where
  pub values : List ℤ
  pub long : length values ≡ length q.vars
  pub placed : AllZip (IsPlaced values) (take n slices) (take n replies)

-- and then those of the next, whose reply has this point
place_next : (q : PlainCondition) (slices : List SliceKey) (replies : List Reply) (h : AreKeyed q slices) (n : ℕ)
    (slice : SliceKey) (reply : Reply) (point : List ℤ) → SlicesPartition → Fits q.vars q.atoms
    → All HasDistinct slices → n < length slices → slice ≡ get_or slices n slice → n < length replies
    → reply ≡ get_or replies n reply → point_in reply ≡ Some point → length slice.back ≤ length point
    → PlacedUpTo q slices replies n → PlacedUpTo q slices replies (n + 1)
place_next q slices replies h n slice reply point partition fits distinct lt is within read has wide before =
    let all_declared : All (λ v. v < length before.values) slice.back =
    λ k d low. omega (arith, declared_at q slices h n slice lt is k d low, before.long) in
    let differ : HasDistinct slice = subst HasDistinct (sym is) (distinct n slice lt) in
    let placed = place_below before.values slice.back point differ all_declared (length slice.back) (omega arith) in
    let here : IsPlaced placed.new slice reply =
    IsSomeAnd-found (point_in reply) (GivesValues slice.back placed.new) point has
    (record { wide = wide; each = placed.placed }) in
    record {
      values = placed.new;
      long = placed.long ∙ before.long;
      placed = placed_next before.values placed.new slices replies n slice reply (apart q slices h partition fits) lt
          is within read before.placed here placed.others;
    }

place_up_to : (q : PlainCondition) (slices : List SliceKey) (replies : List Reply) (h : AreKeyed q slices)
    → SlicesPartition → Fits q.vars q.atoms → All HasDistinct slices → AllZip HasWidePoint slices replies
    → (n : ℕ) → n ≤ length slices → PlacedUpTo q slices replies n
place_up_to q slices replies h partition fits distinct wide zero few = record {
  values = replicate (length q.vars) (pos 0);
  long = length-replicate (length q.vars) (pos 0);
  placed = tt;
}
place_up_to q slices replies h partition fits distinct wide (suc n) few =
    let within : n < length slices = omega arith in
    let counted : n < length replies = omega (arith, AllZip-long HasWidePoint slices replies wide) in
    let slice = item_at slices n within in
    let reply = item_at replies n counted in
    let here : HasWidePoint slice.item reply.item =
    subst (λ (k : SliceKey). HasWidePoint k reply.item) (sym slice.is)
    (subst (λ (r : Reply). HasWidePoint (get_or slices n slice.item) r) (sym reply.is)
    (AllZip-at HasWidePoint slices replies n slice.item reply.item wide within)) in
    let point = Found-from (point_in reply.item) (λ p. length slice.item.back ≤ length p) here in
    let next : n + 1 ≡ suc n = omega arith in
    subst (λ (m : ℕ). PlacedUpTo q slices replies m) next
    (place_next q slices replies h n slice.item reply.item point.value partition fits distinct within slice.is counted
    reply.is point.is point.holds
    (place_up_to q slices replies h partition fits distinct wide n (omega arith)))

-- ---- verdicts

-- some verdict is right
record SomeVerdict (q : PlainCondition) (slices : List SliceKey) (replies : List Reply) : Type 0 where
  pub verdict : Verdict
  pub right : IsRightFor q slices replies verdict

sat_verdict : (q : PlainCondition) (slices : List SliceKey) (replies : List Reply) (h : AreKeyed q slices)
    → SlicesPartition → Fits q.vars q.atoms → All HasDistinct slices → AllZip HasPoint slices replies
    → SomeVerdict q slices replies
sat_verdict q slices replies h partition fits distinct found =
    let wide = points_wide q h.are.classes slices replies h.each found in
    let all = place_up_to q slices replies h partition fits distinct wide (length slices) (omega arith) in
    let enough : length replies ≤ length slices = omega (arith, AllZip-long HasPoint slices replies found) in
    let placed : AllZip (IsPlaced all.values) slices replies =
    subst (λ (ss : List SliceKey). AllZip (IsPlaced all.values) ss replies) (take-length slices)
    (subst (λ (rs : List Reply). AllZip (IsPlaced all.values) (take (length slices) slices) rs)
    (take_all (length slices) replies enough) all.placed) in
    record {
      verdict = Sat all.values;
      right =
          right_sat q slices replies all.values h
          (values_hold q slices replies all.values h partition fits found placed all.long) placed;
    }

verdict_without_core : (q : PlainCondition) (slices : List SliceKey) (replies : List Reply) (h : AreKeyed q slices)
    → SlicesPartition → Fits q.vars q.atoms → All HasDistinct slices → EndsAtCore slices replies
    → AreSettled slices replies → NoneHasCore replies → (o : Option ℕ) → position is_spent replies ≡ o
    → SomeVerdict q slices replies
verdict_without_core q slices replies h partition fits distinct ends settled none (Some s) first = record {
  verdict = Unknown s;
  right = right_unknown q slices replies s h ends none (first_passes is_spent replies s first);
}
verdict_without_core q slices replies h partition fits distinct ends settled none None first =
    sat_verdict q slices replies h partition fits distinct
    (all_found slices replies ends settled none (none_passes is_spent replies first))

some_verdict : (q : PlainCondition) (slices : List SliceKey) (replies : List Reply) (h : AreKeyed q slices)
    → SlicesPartition → Fits q.vars q.atoms → All HasDistinct slices → EndsAtCore slices replies
    → AreSettled slices replies → (o : Option ℕ) → position has_core replies ≡ o → SomeVerdict q slices replies
some_verdict q slices replies h partition fits distinct ends settled (Some s) first = record {
  verdict = UnsatSlice s;
  right = right_unsat q slices replies s h ends settled (first_passes has_core replies s first);
}
some_verdict q slices replies h partition fits distinct ends settled None first =
    verdict_without_core q slices replies h partition fits distinct ends settled
    (none_passes has_core replies first) (position is_spent replies) refl

-- ---- answers

-- what the crates below promise of slices, keys and replies
pub record Below : Type 0 where
  pub slices : EachHasSlices
  pub parts : SlicesPartition
  pub canonicals : EachHasCanonical
  pub boxed : BoundedIsBoxed
  pub keep : AskingKeepsReplies
  pub settle : RepliesSettle

answer_of_keys : Below → (budget : ℕ) (q : PlainCondition) (seat : SeatState) → EachKeyCanBeAsked budget
    → IsCondition q → IsReady seat → SomeKeys q → HasAnswer budget q seat
answer_of_keys below budget q seat can fits ready some =
    let boxed = keys_boxed below.boxed q some.are.are.classes some.keys some.are.each some.are.limits in
    let asked = ask_all budget can some.keys seat some.are.limits boxed ready in
    let settled = all_settled below.keep below.settle budget some.keys asked.replies seat asked.later asked.asks in
    let told =
    some_verdict q some.keys asked.replies some.are below.parts fits.fits some.distinct asked.asks.ends settled
    (position has_core asked.replies) refl in
    record {
      answer = record { verdict = told.verdict; parts = asked.replies };
      later = asked.later;
      answers =
          answers_by_keys below.keep below.boxed budget q some.keys asked.replies told.verdict seat asked.later
          asked.asks told.right;
      ready = asked.ready;
    }

pub answers_exist : Below → EachHasAnswer
answers_exist below budget q seat can fits ready =
    elim (keys_or_false below.slices below.parts below.canonicals q fits) [
      | inl some ↦ answer_of_keys below budget q seat can fits ready some
      | inr some ↦ record {
        answer = record { verdict = UnsatAtom some.number; parts = [] };
        later = seat;
        answers = answers_by_atom budget q some.number seat some.is;
        ready = ready;
      }
    ]
