use Rattle.std.proofs.Common.{◌≡◌, ◌<◌, true, inl, inr, length, refl, arith}
use Rattle.std.proofs.lemmas.Bool.{cases_lt}
use Rattle.cert_check.specs.Machine.{max_entries}
use Rattle.store_core.proofs.ConditionLemmas.{keeps_for}
use Rattle.store_core.proofs.conditions.may_keep.Goals as goal

pub returns : goal.returns
returns c =
    let room : length c.args.core.now.state.entries < max_entries =
    elim (cases_lt (length c.args.core.now.state.entries) max_entries) [
      | inl few ↦ few
      | inr full ↦
          let is : c.is_full.result ≡ true = c.is_full.ensures.full.1 (omega (arith, full, c.is_full.ensures.few)) in
          let not : _ = c.if-is_full.false in
          absurd (cc)
    ] in (
      λ yes. record {
        key = c.args.key.now;
        flying = c.requires.flying;
        decides = c.decides_by.ensures.0 yes;
        room = room;
        at_end = refl;
      },
      λ may. c.decides_by.ensures.1
          (keeps_for c.args.core.now.state c.requires.core.apart c.args.seat
          (length c.args.core.now.state.entries) c.args.key.now c.args.entry.now c.requires.flying may),
    )
