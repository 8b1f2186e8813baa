-- Splitting and joining seats keeps the rule.
use Rattle.std.proofs.Common.{◌≡◌, ℕ, ◌+◌, ◌-◌, ◌<◌, ◌≤◌, Bool, true, false, cond, nat_lt}
use Rattle.std.proofs.Common.{List, [], ◌∷◌, ◌++◌, length, slice_index, slice_set, Option, set}
use Rattle.std.proofs.Common.{arith, refl, sym, ap, subst, ◌∙◌, ⊎_elim, length-append, ltb-true, ltb-false}
use mathlib.Core.Option as maybe
use native.Mathlib.Decide.{ℕ_discrete, dec_le}
use lib.ListN.{get_elem?}
use Rattle.atomic_table.specs.Table.{Me, Allows, Joins, Splits, keeps}
use Rattle.atomic_table.proofs.Lists.{at_set, at_snoc, set_else}
use Rattle.turn_lock.specs.declared.view.View.{View}
use Rattle.turn_lock.specs.declared.view.Stage.TheVariants.{Idle}
use Rattle.turn_lock.specs.Totals.{Begins, one_at, times, total, without}
use Rattle.turn_lock.specs.Views.{Owns, of_number, alone, number_count}
use Rattle.turn_lock.specs.Views.{same_tickets, same_tickets_at, share_count, tickets}
use Rattle.turn_lock.specs.Views.{tickets_at, turns, turns_at}
use Rattle.turn_lock.specs.Rule.{Fits, IsLocked, words_of}
use Rattle.turn_lock.specs.Plays.{Compares, Seated, begins_with, joined, leaves, spent}
use Rattle.turn_lock.specs.Seats.{IsSeat}
use Rattle.turn_lock.proofs.SumLemmas.{hits, misses, part, times_append, total_append, total_same, total_set}
use Rattle.turn_lock.proofs.SumLemmas.{without_length, without_other, without_same}
use Rattle.turn_lock.proofs.FrontLemmas.{begins_shorter, own_between}
use Rattle.turn_lock.proofs.RuleLemmas.{Place, St, changed, off_turn}

module _ {T E O : Type 0} (origin : T → O) (events : T → List E) (names : E → ℕ) (of : O) where
  abbrev Rule : St origin events names of → Type 0
  Rule s = IsLocked origin events names of s

  pub compares : (slots id : ℕ) (m : Seated T E O)
      → Allows (IsLocked origin events names of) slots id m 0 (λ n. n) (λ n. Compares m)
  compares slots id m s r wide at small =
      let v : View E O = m.0 in
      let vs : List (View E O) = s.views in
      let old : Fits names of r.log r.served v = r.each id v at in
      let w : View E O = alone v in
      let same_waits : total tickets (set vs id w) ≡ total tickets vs =
      total_same tickets vs id v w at refl in
      let same_with : (k : ℕ) → total (same_tickets k) (set vs id w) ≡ total (same_tickets k) vs =
      (λ k. total_same (same_tickets k) vs id v w at refl) in
      let same_turns : total turns (set vs id w) ≡ total turns vs =
      total_same turns vs id v w at refl in (
        w,
        keeps,
        tt,
        changed origin events names of s r id v w at _ s.homes r.log r.served
            (ap (λ (l : List ℕ). slice_set l 0 (slice_index l 0)) r.words
            ∙ ap (λ (k : ℕ). words_of r.served k (length r.log)) (sym same_waits))
            (subst (λ (k : ℕ). Place origin events names of r.log s.homes k) (sym same_turns) r.home)
            refl
            (λ k. let z = r.apart k in let h = same_with k in omega (arith, z, h))
            (λ k low. same_with k ∙ r.behind k low)
            (λ k high. same_with k ∙ r.ahead k (let l : r.served + total tickets vs ≤ k = omega (
              arith,
              same_waits,
              high,
            ) in l))
            r.named
            (λ j u apart there. r.each j u there)
            (record {
              seen = old.seen;
              shorter = (
                v.seen,
                refl,
              );
              own = old.own;
              same = old.same;
              turn = old.turn;
              few = old.few;
            }),
        record {
          seat = refl;
          begins = old.shorter;
          few = (let p = part share_count vs id v at in let all = r.shares in omega (arith, p, all));
        },
      )

  split_total : (f : View E O → ℕ) (vs : List (View E O)) (id : ℕ) (v l n : View E O) → get_elem? vs id ≡ maybe.some v
      → total f (set vs id l ++ n ∷ []) + f v ≡ total f vs + f l + f n
  split_total f vs id v l n at = let a = total_append f (set vs id l) n in
      let b = total_set f vs id v l at in omega (arith, a, b)

  pub splits : (id : ℕ) (v : View E O) (k : ℕ) → v.stage ≡ Idle → Owns v k
      → Splits (IsLocked origin events names of) id v (leaves k v) (begins_with k v)
  splits id v k idle mine s r at =
      let vs : List (View E O) = s.views in
      let left : View E O = leaves k v in
      let right : View E O = begins_with k v in
      let old : Fits names of r.log r.served v = r.each id v at in
      let no_wait : tickets_at v.stage ≡ 0 = ap tickets_at idle in
      let no_turn : turns_at v.stage ≡ 0 = ap turns_at idle in
      let same_waits : total tickets (set vs id left ++ right ∷ []) ≡ total tickets vs =
      (let t = split_total tickets vs id v left right at in omega (arith, t, no_wait)) in
      let same_turns : total turns (set vs id left ++ right ∷ []) ≡ total turns vs =
      (let t = split_total turns vs id v left right at in omega (arith, t, no_turn)) in
      let same_with : (j : ℕ) → total (same_tickets j) (set vs id left ++ right ∷ []) ≡ total (same_tickets j) vs =
      (λ j. let t = split_total (same_tickets j) vs id v left right at in
      let none : same_tickets_at j v.stage ≡ 0 = ap (same_tickets_at j) idle in omega (arith, t, none)) in
      let same_times : (j : ℕ) → total (number_count j) (set vs id left ++ right ∷ []) ≡ total (number_count j) vs =
      (λ j. let t = split_total (number_count j) vs id v left right at in
      let parts = number_moves j (ℕ_discrete j k) in omega (arith, t, parts)) in
      record {
        log = r.log;
        served = r.served;
        words = r.words ∙ ap (λ (n : ℕ). words_of r.served n (length r.log)) (sym same_waits);
        home = subst (λ (n : ℕ). Place origin events names of r.log s.homes n) (sym same_turns) r.home;
        shares = (let t = split_total share_count vs id v left right at in
            let one = without_length k v.numbers mine in let all = r.shares in omega (arith, t, one, all));
        once = λ j low. same_times j ∙ r.once j low;
        no_other = λ j high. same_times j ∙ r.no_other j high;
        apart = λ j. let z = r.apart j in let h = same_with j in omega (arith, z, h);
        behind = λ j low. same_with j ∙ r.behind j low;
        ahead = λ j high. same_with j ∙ r.ahead j (let l : r.served + total tickets vs ≤ j = omega (
          arith,
          same_waits,
          high,
        ) in l);
        named = r.named;
        each = λ j u there. ⊎_elim
            (λ in_set. ⊎_elim
            (λ here. subst (λ (x : View E O). Fits names of r.log r.served x) here.1 (record {
              seen = old.seen;
              shorter = old.shorter;
              own = λ n owns. old.own n (kept_number n (ℕ_discrete n k) owns);
              same = old.same;
              turn = old.turn;
              few = omega (arith, no_wait);
            }))
            (λ else. r.each j u else.1) (at_set vs id j left u in_set))
            (λ (last : right ≡ u). subst (λ (x : View E O). Fits names of r.log r.served x) last (record {
              seen = old.seen;
              shorter = old.shorter;
              own = λ n owns. old.own n (given_number n (ℕ_discrete k n) owns);
              same = old.same;
              turn = old.turn;
              few = omega (arith, no_wait);
            }))
            (at_snoc (set vs id left) right u j there);
      }
    where
      number_moves : (j : ℕ) → Dec (j ≡ k) → times j (without k v.numbers) + (one_at j k + 0) ≡ times j v.numbers
      number_moves j (yes e) = subst (λ (n : ℕ). times n (without k v.numbers) + (one_at n k + 0)
          ≡ times n v.numbers) (sym e)
          (let a = without_same k v.numbers mine in let h = hits k k refl in omega (arith, a, h))
      number_moves j (no ne) = let a = without_other j k v.numbers ne in
          let h = misses k j (λ e. ne (sym e)) in omega (arith, a, h)

      kept_number : (n : ℕ) → Dec (n ≡ k) → 0 < times n (without k v.numbers) → Owns v n
      kept_number n (yes e) owns = subst (λ (x : ℕ). Owns v x) (sym e) mine
      kept_number n (no ne) owns = let a = without_other n k v.numbers ne in omega (arith, a, owns)

      given_number : (n : ℕ) → Dec (k ≡ n) → 0 < one_at n k + 0 → Owns v n
      given_number n (yes e) owns = subst (λ (x : ℕ). Owns v x) e mine
      given_number n (no ne) owns = absurd (let h = misses k n ne in omega (arith, h, owns))

  -- the same, where the number has another name
  pub splits_as : (id : ℕ) (v : View E O) (k n : ℕ) → v.stage ≡ Idle → k ≡ n → Owns v n
      → Splits (IsLocked origin events names of) id v (leaves k v) (begins_with k v)
  splits_as id v k n idle same mine = splits id v k idle (subst (λ (x : ℕ). Owns v x) (sym same) mine)

  -- the view that two are joined to, by which has seen more
  abbrev merged : Bool → View E O → View E O → View E O
  merged b v w = record {
    numbers = v.numbers ++ w.numbers;
    seen = cond b w.seen v.seen;
    shorter = cond b v.seen w.seen;
    origin = v.origin;
    stage = v.stage;
  }

  merged_fits : (log : List E) (served : ℕ) (v w : View E O) (b : Bool) → (b ≡ true → length v.seen < length w.seen)
      → (b ≡ false → length w.seen ≤ length v.seen) → v.stage ≡ Idle → Fits names of log served v
      → Fits names of log served w
      → Fits names of log served (merged b v w)
  merged_fits log served v w true less more idle f g =
      let begins = begins_shorter v.seen w.seen log f.seen g.seen (let l = less refl in omega (arith, l)) in record {
        seen = g.seen;
        shorter = begins;
        own = λ k owns. own k (dec_le 1 (times k w.numbers)) owns begins;
        same = f.same;
        turn = off_turn served (w.seen ≡ log) v.stage (ap turns_at idle);
        few = (let none : tickets_at v.stage ≡ 0 = ap tickets_at idle in omega (arith, none));
      }
    where
      own : (k : ℕ) → Dec (1 ≤ times k w.numbers) → 0 < times k (v.numbers ++ w.numbers) → Begins v.seen w.seen
          → of_number names k log ≡ of_number names k w.seen
      own k (yes d) owns begins = g.own k d
      own k (no d) owns begins = own_between names k v.seen w.seen log begins g.seen
          (f.own k (let t = times_append k v.numbers w.numbers in
          let o : 0 < times k v.numbers = omega (arith, t, d, owns) in o))
  merged_fits log served v w false less more idle f g =
      let begins = begins_shorter w.seen v.seen log g.seen f.seen (more refl) in record {
        seen = f.seen;
        shorter = begins;
        own = λ k owns. own k (dec_le 1 (times k v.numbers)) owns begins;
        same = f.same;
        turn = off_turn served (v.seen ≡ log) v.stage (ap turns_at idle);
        few = (let none : tickets_at v.stage ≡ 0 = ap tickets_at idle in omega (arith, none));
      }
    where
      own : (k : ℕ) → Dec (1 ≤ times k v.numbers) → 0 < times k (v.numbers ++ w.numbers) → Begins w.seen v.seen
          → of_number names k log ≡ of_number names k v.seen
      own k (yes d) owns begins = f.own k d
      own k (no d) owns begins = own_between names k w.seen v.seen log begins f.seen
          (g.own k (let t = times_append k v.numbers w.numbers in
          let o : 0 < times k w.numbers = omega (arith, t, d, owns) in o))

  spent_fits : (log : List E) (served : ℕ) → Fits names of log served spent
  spent_fits log served = record {
    seen = (log, refl);
    shorter = ([], refl);
    own = λ k owns. absurd (omega (arith, owns));
    same = tt;
    turn = tt;
    few = omega arith;
  }

  join_total : (f : View E O → ℕ) (vs : List (View E O)) (id other : ℕ) (v w b n : View E O)
      → get_elem? vs id ≡ maybe.some v
      → get_elem? (set vs id b) other ≡ maybe.some w
      → total f (set (set vs id b) other n) + f v + f w ≡ total f vs + f b + f n
  join_total f vs id other v w b n at there = let x = total_set f vs id v b at in
      let y = total_set f (set vs id b) other w n there in omega (arith, x, y)

  pub joins : (id : ℕ) (v : View E O) (other : ℕ) (w : View E O) → v.stage ≡ Idle → w.stage ≡ Idle
      → Joins (IsLocked origin events names of) id v other w (joined v w) spent
  joins id v other w idle idle_w s r at apart there =
      let vs : List (View E O) = s.views in
      let b : View E O = joined v w in
      let there_before : get_elem? vs other ≡ maybe.some w = sym (set_else vs id other b apart) ∙ there in
      let no_wait : tickets_at v.stage ≡ 0 = ap tickets_at idle in
      let no_wait_w : tickets_at w.stage ≡ 0 = ap tickets_at idle_w in
      let no_turn : turns_at v.stage ≡ 0 = ap turns_at idle in
      let no_turn_w : turns_at w.stage ≡ 0 = ap turns_at idle_w in
      let same_waits : total tickets (set (set vs id b) other spent) ≡ total tickets vs =
      (let t = join_total tickets vs id other v w b spent at there in omega (arith, t, no_wait, no_wait_w)) in
      let same_turns : total turns (set (set vs id b) other spent) ≡ total turns vs =
      (let t = join_total turns vs id other v w b spent at there in omega (arith, t, no_turn, no_turn_w)) in
      let same_with : (j : ℕ) → total (same_tickets j) (set (set vs id b) other spent) ≡ total (same_tickets j) vs =
      (λ j. let t = join_total (same_tickets j) vs id other v w b spent at there in
      let none : same_tickets_at j v.stage ≡ 0 = ap (same_tickets_at j) idle in
      let none_w : same_tickets_at j w.stage ≡ 0 = ap (same_tickets_at j) idle_w in omega (arith, t, none, none_w)) in
      let same_times : (j : ℕ) → total (number_count j) (set (set vs id b) other spent) ≡ total (number_count j) vs =
      (λ j. let t = join_total (number_count j) vs id other v w b spent at there in
      let sum = times_append j v.numbers w.numbers in omega (arith, t, sum)) in
      record {
        log = r.log;
        served = r.served;
        words = r.words ∙ ap (λ (n : ℕ). words_of r.served n (length r.log)) (sym same_waits);
        home = subst (λ (n : ℕ). Place origin events names of r.log s.homes n) (sym same_turns) r.home;
        shares = (let t = join_total share_count vs id other v w b spent at there in
            let sum = length-append v.numbers w.numbers in let all = r.shares in omega (arith, t, sum, all));
        once = λ j low. same_times j ∙ r.once j low;
        no_other = λ j high. same_times j ∙ r.no_other j high;
        apart = λ j. let z = r.apart j in let h = same_with j in omega (arith, z, h);
        behind = λ j low. same_with j ∙ r.behind j low;
        ahead = λ j high. same_with j ∙ r.ahead j (let l : r.served + total tickets vs ≤ j = omega (
          arith,
          same_waits,
          high,
        ) in l);
        named = r.named;
        each = λ j u here. ⊎_elim
            (λ gone. subst (λ (x : View E O). Fits names of r.log r.served x) gone.1 (spent_fits r.log r.served))
            (λ stays. ⊎_elim
            (λ both. subst (λ (x : View E O). Fits names of r.log r.served x) both.1
            (merged_fits r.log r.served v w (nat_lt (length v.seen) (length w.seen))
            (λ e. ltb-true (length v.seen) (length w.seen) e)
            (λ e. ltb-false (length v.seen) (length w.seen) e) idle (r.each id v at) (r.each other w there_before)))
            (λ else. r.each j u else.1) (at_set vs id j b u stays.1))
            (at_set (set vs id b) other j spent u here);
      }

-- a seat that gave a number away is still one
pub left_rests : {T E O : Type 0} (shares k : ℕ) (m n : Me (Option T) (View E O)) → IsSeat shares m
    → 1 < length m.0.numbers
    → Owns m.0 k → n ≡ (leaves k m.0, m.1) → IsSeat (shares - 1) n
left_rests {T} {E} {O} shares k m n old two mine is = subst
    (λ (x : Me (Option T) (View E O)). IsSeat (shares - 1) x) (sym is) (record {
      some_share = (let s = old.shares_are in let p : 0 < shares - 1 = omega (arith, s, two) in p);
      shares_are = (let s = old.shares_are in let w = without_length k m.0.numbers mine in omega (arith, s, w));
      none_apart = old.none_apart;
      has_origin = old.has_origin;
      no_ticket = old.no_ticket;
      hand = old.hand;
    })
