-- An entry that decides a key which no other decides has a key that no other decides.
use Rattle.std.proofs.Common.{◌∙◌, ℕ, List, take, get_or, arith, sym, subst}
use Rattle.std.specs.Prelude.{All}
use Rattle.std.proofs.lemmas.List.{length-take}
use Rattle.std.proofs.lemmas.List.Elements.{All-take}
use Rattle.lin_model.specs.KeyAtom.{PlainKeyAtom}
use Rattle.atom_implies.specs.Implies.{Covers, Implies}
use Rattle.cert_check.specs.declared.entry.Entry.{Entry}
use Rattle.cert_check.specs.declared.entry.Entry.TheVariants.{Sat, Unsat}
use Rattle.cert_check.specs.Decides.{Decides, IsChecked, NoneDecides, key_of}
use Rattle.cert_check.specs.Laws.{DecidingEntriesSettle, EntriesDecideTheirKeys}
use Rattle.layers.specs.Layers.{DecidesMore}

implies_more : (a b c : PlainKeyAtom) → Implies a b → Implies b c → Implies a c
implies_more a b c first next = record {
  same_form = first.same_form ∙ next.same_form;
  tests = λ n passes. next.tests n (first.tests n passes);
}

covers_more : (a b c : List PlainKeyAtom) → Covers a b → Covers b c → Covers a c
covers_more a b c first next k d lt =
    let mid = next k d lt in
    let from = first mid.0 mid.1 mid.2 in (
      from.0,
      from.1,
      from.2,
      from.3,
      implies_more from.1 (get_or b mid.0 mid.1) (get_or c k d) from.4
          (subst (λ (x : PlainKeyAtom). Implies x (get_or c k d)) (sym mid.3) mid.4),
    )

-- where both entries are of one kind, what decides the other's key decides all that the other decides; where they are of
-- two, no entry decides the other's key, since that would have a point and none
decides_too : DecidingEntriesSettle → EntriesDecideTheirKeys → (q : List PlainKeyAtom) (a b : Entry) → IsChecked a
    → IsChecked b → Decides b q → Decides a (key_of b) → Decides a q
decides_too settle own q (Sat s) (Sat t) checked others_checked other decides =
    covers_more s.key t.key q decides other
decides_too settle own q (Unsat u) (Unsat v) checked others_checked other decides =
    covers_more q v.key u.key other decides
decides_too settle own q (Sat s) (Unsat v) checked others_checked other decides =
    absurd (settle (Unsat v) v.key others_checked (own (Unsat v)) s.point (settle (Sat s) v.key checked decides).holds)
decides_too settle own q (Unsat u) (Sat t) checked others_checked other decides =
    absurd (settle (Unsat u) t.key checked decides t.point (settle (Sat t) t.key others_checked (own (Sat t))).holds)

pub key_undecided : DecidingEntriesSettle → EntriesDecideTheirKeys → (entries : List Entry) (n : ℕ) (e : Entry)
    → All IsChecked entries → IsChecked e → DecidesMore (take n entries) e → NoneDecides (take n entries) (key_of e)
key_undecided settle own entries n e checked e_checked more k d lt decides =
    more.undecided k d lt (decides_too settle own more.key (get_or (take n entries) k d) e
    (All-take IsChecked n entries checked k d lt) e_checked more.decides decides)

-- each entry decides more than none
pub more_than_none : EntriesDecideTheirKeys → (entries : List Entry) (e : Entry) → DecidesMore (take 0 entries) e
more_than_none own entries e = record {
  key = key_of e;
  decides = own e;
  undecided = λ k d lt. absurd (omega (arith, lt, length-take 0 entries));
}
