-- What writing and syncing leaves of a disk, at each moment.
use Rattle.std.proofs.Common.{◌≡◌, ℕ, ◌≤◌, List, Option, None, Some, IsTrue, Result, Ok, Err, sym, ◌∙◌, subst, arith}
use Rattle.std.specs.Option.{IfSome, IsSome}
use Rattle.std.specs.Result.{OnOk, OnErr}
use Rattle.outside.specs.States.{DiskState}
use Rattle.outside.specs.Crash.{Torn, Synced, Follows, Looks, GoesOn, IsConsistent}
use Rattle.outside.specs.Runs.{IsTornFrom}
use Rattle.outside.specs.RunFacts.{LeavesOnly-begun, LeavesOnly-one_more, IsTornFrom-refl, content_has}
use Rattle.journal.specs.Saving.{TearsAtMost}

-- after the write, whether it was done or failed
pub TearsAtMost-written : (old new : DiskState) (at n : ℕ) → IsConsistent old → new.name ≡ old.name → GoesOn old new
    → (IsTrue old.keeps_rules → Follows (Torn at n) old.may_leave new.may_leave) → old.faults ≤ new.faults
    → TearsAtMost at n old new
TearsAtMost-written old new at n fits name goes follows faults = record {
  same = record { name = name; telling = goes.telling; rules = goes.rules; faults = faults };
  any_moment = λ rules.
      LeavesOnly-one_more old old new (IsTornFrom old at n)
      (LeavesOnly-begun old (IsTornFrom old at n) fits rules (IsTornFrom-refl old at n)) goes (follows rules);
}

-- where nothing is pending, an image has what the content has
pub synced_has : (content : Option (List ℕ)) (may_leave P : List ℕ → Type 0) → IsSome content → Synced content may_leave
    → IfSome content P → (image : List ℕ) → may_leave image → P image
synced_has None may_leave P told synced here image left = absurd (cc)
synced_has (Some file) may_leave P told synced here image left = subst P (sym ((synced image).0 left)) here

-- what each image before a sync has, each image behind it has
after_sync : {E : Type 0} (mid new : DiskState) (P : List ℕ → Type 0) (result : Result (Unit {0}) E) → IsConsistent mid
    → IsTrue mid.keeps_rules → new.content ≡ mid.content → OnOk result (Synced new.content new.may_leave)
    → OnErr result (Looks mid new) → ((image : List ℕ) → mid.may_leave image → P image)
    → (image : List ℕ) → new.may_leave image → P image
after_sync mid new P (Ok u) fits rules content durable looks has image left =
    synced_has mid.content new.may_leave P (fits.tells_content rules)
    (subst (λ (content : Option (List ℕ)). Synced content new.may_leave) content durable) (content_has mid P fits rules has)
    image left
after_sync mid new P (Err e) fits rules content durable looks has image left =
    has image ((looks.images (fits.tells rules) image).0 left)

-- and after the sync
pub TearsAtMost-synced : {E : Type 0} (old mid new : DiskState) (at n : ℕ) (result : Result (Unit {0}) E)
    → IsConsistent old → IsConsistent mid → TearsAtMost at n old mid
    → (IsTrue old.keeps_rules → Follows (Torn at n) old.may_leave mid.may_leave)
    → new.name ≡ mid.name → GoesOn mid new → new.content ≡ mid.content
    → (IsTrue mid.keeps_rules → OnOk result (Synced new.content new.may_leave)) → OnErr result (Looks mid new)
    → mid.faults ≤ new.faults → TearsAtMost at n old new
TearsAtMost-synced old mid new at n result fits also written follows name goes content durable looks faults = record {
  same = record {
    name = name ∙ written.same.name;
    telling = goes.telling ∙ written.same.telling;
    rules = goes.rules ∙ written.same.rules;
    faults = omega (arith, faults, written.same.faults);
  };
  any_moment = λ rules.
      let rules_now : IsTrue mid.keeps_rules = written.same.rules ∙ rules in
      LeavesOnly-one_more old mid new (IsTornFrom old at n) (written.any_moment rules) goes
      (after_sync mid new (IsTornFrom old at n) result also rules_now content (durable rules_now) looks (follows rules));
}
