-- Laws of runs of calls on a disk: for the proofs of the crates above. That a disk is consistent is the law `consistent`
-- of `Disk`.
use Rattle.std.proofs.Common.{◌≡◌, inl, inr, ⊎_elim, ℕ, ◌≤◌, List, Option, None, Some, IsTrue, refl, sym, ◌∙◌}
use Rattle.std.proofs.Common.{subst, arith}
use Rattle.std.specs.Option.{IfSome}
use Rattle.outside.specs.States.{DiskState}
use Rattle.outside.specs.Crash.{Torn, Synced, Looks, GoesOn, IsConsistent}
use Rattle.outside.specs.Runs.{IsSettled, LeavesOnly, IsTornFrom, OnlyLooks}
use Rattle.outside.specs.TornFacts.{Torn-refl}

-- before the first call
pub LeavesOnly-begun : (disk : DiskState) (P : List ℕ → Type 0) → IsConsistent disk → IsTrue disk.keeps_rules
    → ((image : List ℕ) → disk.may_leave image → P image) → LeavesOnly disk disk P
LeavesOnly-begun disk P fits rules has = record {
  rules = rules;
  later = omega arith;
  each = λ image left. has image (fits.only_now rules image left);
  earlier = λ t image before left. inl left;
  keeps = λ t image before left. left;
}

-- one call more, after which each image has P
pub LeavesOnly-one_more : (old mid new : DiskState) (P : List ℕ → Type 0) → LeavesOnly old mid P → GoesOn mid new
    → ((image : List ℕ) → new.may_leave image → P image) → LeavesOnly old new P
LeavesOnly-one_more old mid new P run call has =
    let time = call.time run.rules in
    record {
      rules = call.rules ∙ run.rules;
      later = omega (arith, run.later, time.later);
      each = λ image left. ⊎_elim (run.each image) (has image) (time.nothing_else old.moment image run.later left);
      earlier = λ t image before left.
          ⊎_elim (run.earlier t image before) (λ here. inr (has image here))
          (time.nothing_else t image (omega (arith, before, run.later)) left);
      keeps = λ t image before left.
          time.keeps t image (omega (arith, before, run.later)) (run.keeps t image before left);
    }

-- a run, and another one behind it
pub LeavesOnly-join : (old mid new : DiskState) (P : List ℕ → Type 0) → LeavesOnly old mid P → LeavesOnly mid new P
    → LeavesOnly old new P
LeavesOnly-join old mid new P first second = record {
  rules = second.rules;
  later = omega (arith, first.later, second.later);
  each = λ image left. ⊎_elim (first.each image) (λ has. has) (second.earlier old.moment image first.later left);
  earlier = λ t image before left.
      ⊎_elim (first.earlier t image before) (λ has. inr has)
      (second.earlier t image (omega (arith, before, first.later)) left);
  keeps = λ t image before left.
      second.keeps t image (omega (arith, before, first.later)) (first.keeps t image before left);
}

-- the same run, with less said of it
pub LeavesOnly-weaker : (old new : DiskState) (P Q : List ℕ → Type 0) → LeavesOnly old new P
    → ((image : List ℕ) → P image → Q image) → LeavesOnly old new Q
LeavesOnly-weaker old new P Q run less = record {
  rules = run.rules;
  later = run.later;
  each = λ image left. less image (run.each image left);
  earlier = λ t image before left. ⊎_elim (λ was. inl was) (λ has. inr (less image has)) (run.earlier t image before left);
  keeps = run.keeps;
}

-- what each image of a run has, each image at its end has
pub LeavesOnly-now : (old new : DiskState) (P : List ℕ → Type 0) → IsConsistent new → LeavesOnly old new P
    → (image : List ℕ) → new.may_leave image → P image
LeavesOnly-now old new P fits run image left =
    run.each image (fits.counts_now run.rules old.moment image run.later left)

-- what each image has, the content has
pub content_has : (disk : DiskState) (P : List ℕ → Type 0) → IsConsistent disk → IsTrue disk.keeps_rules
    → ((image : List ℕ) → disk.may_leave image → P image) → IfSome disk.content P
content_has disk P fits rules has = by_content disk.content (fits.may_stay rules)
  where
    by_content : (content : Option (List ℕ)) → IfSome content disk.may_leave → IfSome content P
    by_content None stays = tt
    by_content (Some file) stays = has file stays

-- no call looks at it
pub OnlyLooks-refl : (disk : DiskState) → OnlyLooks disk disk
OnlyLooks-refl disk = record {
  name = refl;
  content = refl;
  telling = refl;
  rules = refl;
  images = λ tells image. (λ left. left, λ left. left);
  past = λ rules. record { later = omega arith; since = λ t image before. (λ left. left, λ left. left) };
  faults = omega arith;
}

-- one call that only looks
pub OnlyLooks-call : (old new : DiskState) → IsConsistent old → new.name ≡ old.name → Looks old new → GoesOn old new
    → old.faults ≤ new.faults → OnlyLooks old new
OnlyLooks-call old new fits name looks goes faults = record {
  name = name;
  content = looks.content;
  telling = goes.telling;
  rules = goes.rules;
  images = looks.images;
  past = λ rules. record { later = (goes.time rules).later; since = looks.past (fits.tells rules) };
  faults = faults;
}

-- a look after a look
pub OnlyLooks-trans : (old mid new : DiskState) → OnlyLooks old mid → OnlyLooks mid new → OnlyLooks old new
OnlyLooks-trans old mid new first second = record {
  name = second.name ∙ first.name;
  content = second.content ∙ first.content;
  telling = second.telling ∙ first.telling;
  rules = second.rules ∙ first.rules;
  images = λ tells image.
      let here = second.images (first.telling ∙ tells) image in
      let there = first.images tells image in
      (λ left. there.0 (here.0 left), λ left. here.1 (there.1 left));
  past = λ rules.
      let there = first.past rules in
      let here = second.past (first.rules ∙ rules) in
      record {
        later = omega (arith, there.later, here.later);
        since = λ t image before.
            let far = there.since t image before in
            let near = here.since t image (omega (arith, before, there.later)) in
            (λ left. far.0 (near.0 left), λ left. near.1 (far.1 left));
      };
  faults = omega (arith, first.faults, second.faults);
}

-- what only looks goes on as a call does
pub OnlyLooks-goes_on : (old new : DiskState) → OnlyLooks old new → GoesOn old new
OnlyLooks-goes_on old new looks = record {
  telling = looks.telling;
  rules = looks.rules;
  time = λ rules.
      let past = looks.past rules in
      record {
        later = past.later;
        nothing_else = λ t image before left. inl ((past.since t image before).0 left);
        keeps = λ t image before left. (past.since t image before).1 left;
      };
}

-- where each image had P, a look leaves only images that have P
pub LeavesOnly-looked : (old new : DiskState) (P : List ℕ → Type 0) → IsConsistent old → IsTrue old.keeps_rules
    → OnlyLooks old new → ((image : List ℕ) → old.may_leave image → P image) → LeavesOnly old new P
LeavesOnly-looked old new P fits rules looks has =
    LeavesOnly-one_more old old new P (LeavesOnly-begun old P fits rules has) (OnlyLooks-goes_on old new looks)
    (λ image left. has image ((looks.images (fits.tells rules) image).0 left))

-- a look leaves nothing pending where nothing was
pub IsSettled-looked : (old new : DiskState) → IsConsistent old → OnlyLooks old new → IsSettled old → IsSettled new
IsSettled-looked old new fits looks settled = record {
  rules = looks.rules ∙ settled.rules;
  synced = subst (λ (content : Option (List ℕ)). Synced content new.may_leave) (sym looks.content)
      (by_content old.content settled.synced);
}
  where
    by_content : (content : Option (List ℕ)) → Synced content old.may_leave → Synced content new.may_leave
    by_content None synced = tt
    by_content (Some file) synced = λ image.
        let same = looks.images (fits.tells settled.rules) image in
        (λ left. (synced image).0 (same.0 left), λ is. same.1 ((synced image).1 is))

-- each image of before is torn from itself
pub IsTornFrom-refl : (old : DiskState) (at n : ℕ) (image : List ℕ) → old.may_leave image → IsTornFrom old at n image
IsTornFrom-refl old at n image left = (image, left, Torn-refl at n image)

-- where nothing was pending, each image is torn from the file
pub IsTornFrom-settled : (old : DiskState) (file : List ℕ) (at n : ℕ) (image : List ℕ) → IsSettled old
    → old.content ≡ Some file → IsTornFrom old at n image → Torn at n file image
IsTornFrom-settled old file at n image settled is torn =
    let synced = subst (λ (content : Option (List ℕ)). Synced content old.may_leave) is settled.synced in
    subst (λ (from : List ℕ). Torn at n from image) ((synced torn.0).0 torn.1) torn.2

-- where nothing is pending, each image is the file
pub IsSettled-image : (disk : DiskState) (file image : List ℕ) → IsSettled disk → disk.content ≡ Some file
    → disk.may_leave image → image ≡ file
IsSettled-image disk file image settled is left =
    (subst (λ (content : Option (List ℕ)). Synced content disk.may_leave) is settled.synced image).0 left
