-- Asking one slice after another, up to and with the first whose reply has a core.
use Rattle.std.proofs.Common.{◌≡◌, ℕ, zero, suc, ◌+◌, ◌<◌, ◌≤◌, true, false, IsSomeAnd, List, [], ◌∷◌, ◌++◌}
use Rattle.std.proofs.Common.{length, get_or, slice_get, take, drop, map, inl, inr, arith, refl, sym, subst, ap}
use Rattle.std.proofs.Common.{◌∙◌, Result, Ok, Err, OnErr}
use Rattle.std.proofs.lemmas.List.{drop_more, length-map, length-take-le, map_more, take-map}
use Rattle.std.proofs.lemmas.List.{get_or-map, take-append-drop}
use Rattle.std.proofs.lemmas.List.Elements.{All-contains, All-head, All-tail, Contains-push}
use Rattle.lin_model.specs.KeyAtom.{PlainKeyAtom}
use Rattle.lin_model.specs.Lists.{All-at, Found-from}
use Rattle.cert_check.specs.declared.reply.Reply.{Reply}
use Rattle.cert_check.specs.Asks.{Asks, AsksAll}
use Rattle.cert_check.specs.Calls.{FailsInVain}
use Rattle.cert_check.specs.Replies.{has_core}
use Rattle.cert_check.specs.Runs.{AsksJoin, EndsInVain}
use Rattle.cert_check.specs.Seats.{SeatState}
use Rattle.pipeline.specs.declared.slice_keys.SliceKey.{SliceKey}
use Rattle.pipeline.specs.Answers.{NoneHasCore, OnlyLastHasCore}
use Rattle.pipeline.specs.Asking.{EndsAtCore, AsksUpToCore, StopsInVain, keys_to_ask}

-- ---- what was asked

-- there is one reply for each key
asked_long : (budget : ℕ) (keys : List (List PlainKeyAtom)) (replies : List Reply) (old new : SeatState)
    → AsksAll budget keys replies old new → length replies ≡ length keys
asked_long budget [] [] old new asks = refl
asked_long budget [] (reply ∷ replies) old new asks = absurd asks
asked_long budget (key ∷ keys) [] old new asks = absurd asks
asked_long budget (key ∷ keys) (reply ∷ replies) old new asks =
    let rest = asked_long budget keys replies asks.0 new asks.2 in omega arith

-- as many as were asked
asked_count : (budget : ℕ) (slices : List SliceKey) (n : ℕ) (replies : List Reply) (old new : SeatState)
    → n ≤ length slices → AsksAll budget (take n (keys_to_ask slices)) replies old new → length replies ≡ n
asked_count budget slices n replies old new within asks =
    let long : length (keys_to_ask slices) ≡ length slices = length-map slices (λ (slice : SliceKey). slice.key) in
    let few : n ≤ length (keys_to_ask slices) = omega arith in
    asked_long budget (take n (keys_to_ask slices)) replies old new asks
    ∙ length-take-le n (keys_to_ask slices) few

-- the keys up to the next slice
one_key_more : (slices : List SliceKey) (i : ℕ) (slice : SliceKey) → i < length slices
    → slice ≡ get_or slices i slice → take (i + 1) (keys_to_ask slices) ≡ take i (keys_to_ask slices) ++ slice.key ∷ []
one_key_more slices i slice lt is =
    take-map (λ (s : SliceKey). s.key) (i + 1) slices
    ∙ (map_more (λ (s : SliceKey). s.key) slices i slice lt
    ∙ (ap (λ (s : SliceKey). map (λ (t : SliceKey). t.key) (take i slices) ++ s.key ∷ []) (sym is)
    ∙ ap (λ (keys : List (List PlainKeyAtom)). keys ++ slice.key ∷ [])
    (sym (take-map (λ (s : SliceKey). s.key) i slices))))

-- the keys from a slice on
keys_behind : (slices : List SliceKey) (i : ℕ) (slice : SliceKey) → i < length slices → slice ≡ get_or slices i slice
    → drop i (keys_to_ask slices) ≡ slice.key ∷ drop (i + 1) (keys_to_ask slices)
keys_behind slices i slice lt is =
    let long : length (keys_to_ask slices) ≡ length slices = length-map slices (λ (s : SliceKey). s.key) in
    let within : i < length (keys_to_ask slices) = omega arith in
    drop_more (keys_to_ask slices) i [] within
    ∙ ap (λ (key : List PlainKeyAtom). key ∷ drop (i + 1) (keys_to_ask slices))
    (get_or-map (λ (s : SliceKey). s.key) slices i slice [] lt ∙ ap (λ (s : SliceKey). s.key) (sym is))

-- one slice more was asked, with the budget of the first
pub asked_more : AsksJoin → (budget now : ℕ) (slices : List SliceKey) (i : ℕ) (slice : SliceKey)
    (replies : List Reply) (reply : Reply) (all : List Reply) (old mid new : SeatState) → now ≡ budget
    → i < length slices → slice ≡ get_or slices i slice → all ≡ replies ++ reply ∷ []
    → AsksAll budget (take i (keys_to_ask slices)) replies old mid → Asks now slice.key reply mid new
    → AsksAll budget (take (i + 1) (keys_to_ask slices)) all old new
asked_more join budget now slices i slice replies reply all old mid new same lt is pushed before asks =
    subst (λ (rs : List Reply). AsksAll budget (take (i + 1) (keys_to_ask slices)) rs old new) (sym pushed)
    (subst (λ (keys : List (List PlainKeyAtom)). AsksAll budget keys (replies ++ reply ∷ []) old new)
    (sym (one_key_more slices i slice lt is))
    (join budget (take i (keys_to_ask slices)) (slice.key ∷ []) replies (reply ∷ []) old mid new before
    (new, subst (λ (b : ℕ). Asks b slice.key reply mid new) same asks, refl)))

-- ---- the first core

-- a core behind replies without one is the last reply
pub core_is_last : (replies : List Reply) (reply : Reply) → NoneHasCore replies
    → OnlyLastHasCore (replies ++ reply ∷ [])
core_is_last [] reply none zero core = omega arith
core_is_last [] reply none (suc s) core = absurd core
core_is_last (r ∷ replies) reply none zero core =
    let not_one : has_core r ≡ false = All-head (λ r. has_core r ≡ false) r replies none in absurd (cc)
core_is_last (r ∷ replies) reply none (suc s) core =
    let rest = core_is_last replies reply (All-tail (λ r. has_core r ≡ false) r replies none) s core in omega arith

-- where the last reply is the first with a core, the asking has come to its end
pub ends_with_core : (budget : ℕ) (slices : List SliceKey) (i : ℕ) (replies : List Reply) (reply : Reply)
    (all : List Reply) (old new : SeatState) → i < length slices → all ≡ replies ++ reply ∷ []
    → AsksAll budget (take (i + 1) (keys_to_ask slices)) all old new → NoneHasCore replies → has_core reply ≡ true
    → AsksUpToCore budget slices all old new
ends_with_core budget slices i replies reply all old new lt pushed asks none core =
    let few : i + 1 ≤ length slices = omega arith in
    let count : length all ≡ i + 1 = asked_count budget slices (i + 1) all old new few asks in
    record {
      ends = subst (λ (rs : List Reply). EndsAtCore slices rs) (sym pushed) (record {
        few = omega (arith, ap (λ (rs : List Reply). length rs) pushed);
        core_last = core_is_last replies reply none;
        all = λ no_core.
            let not_one : has_core reply ≡ false =
            All-contains (λ r. has_core r ≡ false) (replies ++ reply ∷ []) reply no_core
            (Contains-push replies reply) in
            absurd (cc);
      });
      asks = subst (λ (n : ℕ). AsksAll budget (take n (keys_to_ask slices)) all old new) (sym count) asks;
    }

-- where no reply has a core, none is found
no_core_there : (replies : List Reply) (s : ℕ) → NoneHasCore replies
    → IsSomeAnd (slice_get replies s) (λ r. has_core r ≡ true) → ⊥
no_core_there replies s none core =
    let found = Found-from (slice_get replies s) (λ r. has_core r ≡ true) core in
    let not_one : has_core found.value ≡ false =
    All-at (λ r. has_core r ≡ false) replies s found.value none found.is in
    let one : has_core found.value ≡ true = found.holds in
    absurd (cc)

-- the same where all were asked, and no reply has a core
pub ends_without : (budget : ℕ) (slices : List SliceKey) (n : ℕ) (replies : List Reply) (old new : SeatState)
    → length slices ≤ n → n ≤ length slices → AsksAll budget (take n (keys_to_ask slices)) replies old new
    → NoneHasCore replies → AsksUpToCore budget slices replies old new
ends_without budget slices n replies old new all within asks none =
    let count : length replies ≡ n = asked_count budget slices n replies old new within asks in
    record {
      ends = record {
        few = omega arith;
        core_last = λ s core. absurd (no_core_there replies s none core);
        all = λ no_core. omega arith;
      };
      asks = subst (λ (m : ℕ). AsksAll budget (take m (keys_to_ask slices)) replies old new) (sym count) asks;
    }

-- ---- want of memory

-- what holds in any case holds after a failure
pub on_err : {X E : Type 0} (r : Result X E) (P : Type 0) → P → OnErr r P
on_err (Ok x) P holds = tt
on_err (Err e) P holds = holds

-- what is left to ask was not asked
not_asked : (behind : List (List PlainKeyAtom)) (seat : SeatState) → EndsInVain behind seat seat
not_asked [] seat = refl
not_asked (key ∷ behind) seat = inl refl

-- the first n keys were asked, and no other
pub vain_between : (budget : ℕ) (slices : List SliceKey) (n : ℕ) (replies : List Reply) (old new : SeatState)
    → OnlyLastHasCore replies → AsksAll budget (take n (keys_to_ask slices)) replies old new
    → StopsInVain budget slices old new
vain_between budget slices n replies old new only_last asks = record {
  asks = record {
    front = take n (keys_to_ask slices);
    behind = drop n (keys_to_ask slices);
    parts = sym (take-append-drop n (keys_to_ask slices));
    replies = replies;
    mid = new;
    asked = asks;
    last = not_asked (drop n (keys_to_ask slices)) new;
  };
  stops = record { only_last = only_last; no_more = inl refl };
}

-- and the next in vain
pub vain_at : (budget : ℕ) (slices : List SliceKey) (i : ℕ) (slice : SliceKey) (replies : List Reply)
    (old mid new : SeatState) → i < length slices → slice ≡ get_or slices i slice
    → AsksAll budget (take i (keys_to_ask slices)) replies old mid → FailsInVain slice.key mid new
    → NoneHasCore replies → StopsInVain budget slices old new
vain_at budget slices i slice replies old mid new lt is asks fails none = record {
  asks = record {
    front = take i (keys_to_ask slices);
    behind = slice.key ∷ drop (i + 1) (keys_to_ask slices);
    parts = sym (take-append-drop i (keys_to_ask slices))
        ∙ ap (λ (keys : List (List PlainKeyAtom)). take i (keys_to_ask slices) ++ keys)
        (keys_behind slices i slice lt is);
    replies = replies;
    mid = mid;
    asked = asks;
    last = inr fails;
  };
  stops = record { only_last = λ s core. absurd (no_core_there replies s none core); no_more = inr none };
}
