-- Answered queries: from the asking of keys and the verdict to the answer, and what is left after want of memory.
use Rattle.std.proofs.Common.{ℕ, zero, suc, ◌≤◌, List, [], ◌∷◌, length, take, arith, refl, sym, subst}
use Rattle.std.proofs.Common.{inl, inr}
use Rattle.std.specs.List.{All, AllZip}
use Rattle.std.proofs.lemmas.List.{length-map, take_all}
use Rattle.std.proofs.lemmas.List.Elements.{All-cons, All-head, All-tail}
use Rattle.std.proofs.lemmas.Slice.Zip.{AllZip-long}
use Rattle.lin_model.specs.Conditions.{PlainCondition}
use Rattle.lin_model.specs.KeyAtom.{PlainKeyAtom}
use Rattle.slicer.specs.Slices.{PlainSlice, AreClasses}
use Rattle.refutation.specs.Boxed.{IsBoxed}
use Rattle.refutation.specs.Laws.{BoundedIsBoxed}
use Rattle.cert_check.specs.declared.reply.Reply.{Reply}
use Rattle.cert_check.specs.Laws.{RepliesSettle, SettledBy}
use Rattle.cert_check.specs.Replies.{Stands}
use Rattle.cert_check.specs.Runs.{AskingKeepsReplies, KeepsReplies, WritesAreKept}
use Rattle.cert_check.specs.Asks.{SavesRightly}
use Rattle.cert_check.specs.Seats.{SeatState, SeatTerms, entries_of}
use Rattle.pipeline.specs.declared.answers.Verdict.{Verdict}
use Rattle.pipeline.specs.declared.answers.Verdict.TheVariants.{UnsatAtom}
use Rattle.pipeline.specs.declared.slice_keys.SliceKey.{SliceKey}
use Rattle.pipeline.specs.Answers.{AnswersInVain, AnswersQuery, IsKeyToAsk, StandsAt}
use Rattle.pipeline.specs.Keyed.{IsKeyed, AreKeyed, HasLeastFalse, KeepsKeyLimits}
use Rattle.pipeline.specs.Asking.{AreSettled, AsksUpToCore, IsRightFor, StopsInVain, keys_to_ask}
use Rattle.pipeline.specs.Laws.{AnswersAreRight}
use Rattle.pipeline.proofs.AskLemmas.{vain_between}
use Rattle.pipeline.proofs.VerdictLemmas.{right_unsat_atom}

-- ---- keys to ask

-- the keys have both sides of each variable
all_boxed : BoundedIsBoxed → (q : PlainCondition) (classes : List PlainSlice) (slices : List SliceKey)
    → AllZip (IsKeyed q) classes slices → All KeepsKeyLimits slices → AllZip (IsKeyToAsk q) classes (keys_to_ask slices)
all_boxed boxed q [] [] keyed limits = tt
all_boxed boxed q [] (slice ∷ slices) keyed limits = absurd keyed
all_boxed boxed q (s ∷ classes) [] keyed limits = absurd keyed
all_boxed boxed q (s ∷ classes) (slice ∷ slices) keyed limits =
    let is_key = All-head KeepsKeyLimits slice slices limits in (
      record { is_key = keyed.0.is_key; limits = is_key; boxed = boxed slice.key is_key keyed.0.bounded },
      all_boxed boxed q classes slices keyed.1 (All-tail KeepsKeyLimits slice slices limits),
    )

pub keys_boxed : BoundedIsBoxed → (q : PlainCondition) (classes : List PlainSlice) (slices : List SliceKey)
    → AllZip (IsKeyed q) classes slices → All KeepsKeyLimits slices → All (λ slice. IsBoxed slice.key) slices
keys_boxed boxed q [] [] keyed limits = λ i d lt. absurd (omega arith)
keys_boxed boxed q [] (slice ∷ slices) keyed limits = absurd keyed
keys_boxed boxed q (s ∷ classes) [] keyed limits = absurd keyed
keys_boxed boxed q (s ∷ classes) (slice ∷ slices) keyed limits =
    All-cons (λ k. IsBoxed k.key) slice slices
    (boxed slice.key (All-head KeepsKeyLimits slice slices limits) keyed.0.bounded)
    (keys_boxed boxed q classes slices keyed.1 (All-tail KeepsKeyLimits slice slices limits))

-- ---- lists

zip_take : {A B : Type 0} (R : A → B → Type 0) (n : ℕ) (xs : List A) (ys : List B) → AllZip R xs ys
    → AllZip R (take n xs) (take n ys)
zip_take {A} {B} R zero xs ys h = tt
zip_take {A} {B} R (suc n) [] [] h = tt
zip_take {A} {B} R (suc n) [] (y ∷ ys) h = absurd h
zip_take {A} {B} R (suc n) (x ∷ xs) [] h = absurd h
zip_take {A} {B} R (suc n) (x ∷ xs) (y ∷ ys) h = (h.0, zip_take R n xs ys h.1)

zip_weaker : {A B : Type 0} (R Q : A → B → Type 0) → ((x : A) (y : B) → R x y → Q x y) → (xs : List A) (ys : List B)
    → AllZip R xs ys → AllZip Q xs ys
zip_weaker {A} {B} R Q weaker [] [] h = tt
zip_weaker {A} {B} R Q weaker [] (y ∷ ys) h = absurd h
zip_weaker {A} {B} R Q weaker (x ∷ xs) [] h = absurd h
zip_weaker {A} {B} R Q weaker (x ∷ xs) (y ∷ ys) h = (weaker x y h.0, zip_weaker R Q weaker xs ys h.1)

-- ---- answers

-- the replies stand for what the seat has seen in the end
stand_at : (budget : ℕ) (keys : List (List PlainKeyAtom)) (replies : List Reply) (old new : SeatState)
    → KeepsReplies budget keys replies old new → AllZip (StandsAt budget new) keys replies
stand_at budget keys replies old new keeps =
    subst (λ (t : SeatTerms). AllZip (Stands new.log (entries_of new) t.number budget) keys replies)
    (sym keeps.gains.grows.terms) keeps.stand

-- so each is settled
pub all_settled : AskingKeepsReplies → RepliesSettle → (budget : ℕ) (slices : List SliceKey) (replies : List Reply)
    (old new : SeatState) → AsksUpToCore budget slices replies old new → AreSettled slices replies
all_settled keep settle budget slices replies old new asked =
    zip_weaker (StandsAt budget new) SettledBy
    (λ key reply stands. settle new.log (entries_of new) new.terms.number budget key reply stands)
    (take (length replies) (keys_to_ask slices)) replies
    (stand_at budget (take (length replies) (keys_to_ask slices)) replies old new
    (keep budget (take (length replies) (keys_to_ask slices)) replies old new asked.asks))

pub answers_by_keys : AskingKeepsReplies → BoundedIsBoxed → (budget : ℕ) (q : PlainCondition) (slices : List SliceKey)
    (replies : List Reply) (verdict : Verdict) (old new : SeatState) → AsksUpToCore budget slices replies old new
    → IsRightFor q slices replies verdict
    → AnswersQuery budget q (record { verdict = verdict; parts = replies }) old new
answers_by_keys keep boxed budget q slices replies verdict old new asked right = record {
  right = record {
    classes = right.keyed.are.classes;
    are = right.keyed.are.linked;
    keys = take (length replies) (keys_to_ask slices);
    keyed = zip_take (IsKeyToAsk q) (length replies) right.keyed.are.classes (keys_to_ask slices)
        (all_boxed boxed q right.keyed.are.classes slices right.keyed.each right.keyed.limits);
    stand = stand_at budget (take (length replies) (keys_to_ask slices)) replies old new
        (keep budget (take (length replies) (keys_to_ask slices)) replies old new asked.asks);
    verdict = right.right;
  };
  asks = asked.asks;
}

-- an atom that no integers satisfy, and nothing is asked
pub answers_by_atom : (budget : ℕ) (q : PlainCondition) (j : ℕ) (seat : SeatState) → HasLeastFalse q j
    → AnswersQuery budget q (record { verdict = UnsatAtom j; parts = [] }) seat seat
answers_by_atom budget q j seat h = record {
  right = record {
    classes = h.are.classes;
    are = h.are.linked;
    keys = [];
    keyed = tt;
    stand = tt;
    verdict = right_unsat_atom q j [] h refl;
  };
  asks = refl;
}

-- ---- want of memory

-- before the slices have keys
pub vain_at_once : (budget : ℕ) (q : PlainCondition) (classes : List PlainSlice) (seat : SeatState)
    → AreClasses q classes → AnswersInVain budget q seat seat
vain_at_once budget q classes seat are = record {
  none_false = inl refl;
  keys = [];
  first = record { classes = classes; are = are; keyed = tt };
  asks = vain.asks;
  stops = vain.stops;
}
  where
    vain : StopsInVain budget [] seat seat
    vain = vain_between budget [] 0 [] seat seat (λ s core. absurd core) refl

-- while they are asked
pub vain_by_keys : BoundedIsBoxed → (budget : ℕ) (q : PlainCondition) (slices : List SliceKey) (old new : SeatState)
    (h : AreKeyed q slices) → StopsInVain budget slices old new → AnswersInVain budget q old new
vain_by_keys boxed budget q slices old new h vain =
    let long : length h.are.classes ≤ length (keys_to_ask slices) =
    omega (
      arith,
      length-map slices (λ (s : SliceKey). s.key),
      AllZip-long (IsKeyed q) h.are.classes slices h.each,
    ) in
    record {
      none_false = inr h.none_false;
      keys = keys_to_ask slices;
      first = record {
        classes = h.are.classes;
        are = h.are.linked;
        keyed = subst (λ (ss : List PlainSlice). AllZip (IsKeyToAsk q) ss (keys_to_ask slices))
            (sym (take_all (length (keys_to_ask slices)) h.are.classes long))
            (all_boxed boxed q h.are.classes slices h.each h.limits);
      };
      asks = vain.asks;
      stops = vain.stops;
    }

-- after all was asked
pub vain_behind : BoundedIsBoxed → (budget : ℕ) (q : PlainCondition) (slices : List SliceKey) (replies : List Reply)
    (old new : SeatState) (h : AreKeyed q slices) → AsksUpToCore budget slices replies old new
    → AnswersInVain budget q old new
vain_behind boxed budget q slices replies old new h asked =
    vain_by_keys boxed budget q slices old new h
    (vain_between budget slices (length replies) replies old new asked.ends.core_last asked.asks)

-- ---- answers with their saves

pub right_with_saves : AskingKeepsReplies → WritesAreKept → AnswersAreRight
right_with_saves keep written budget q answer old new answers =
    let keeps = keep budget answers.right.keys answer.parts old new answers.asks in
    record {
      right = answers.right;
      save = subst (λ (t : SeatTerms). All (SavesRightly t) answer.parts) (sym keeps.gains.grows.terms) keeps.save;
      written = written budget answers.right.keys answer.parts old new keeps;
    }
