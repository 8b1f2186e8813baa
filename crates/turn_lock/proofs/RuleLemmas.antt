-- What the rule tells of one view, and what keeps it where one view changes.
use Rattle.std.proofs.Common.{◌≡◌, ◌≢◌, ◌⊎◌, ℕ, suc, ◌+◌, ◌<◌, ◌≤◌, List, [], ◌∷◌, length}
use Rattle.std.proofs.Common.{Option, All, set, arith, refl, sym, ap, subst, ◌∙◌, ⊎_elim}
use mathlib.Core.Option as maybe
use native.Mathlib.Decide.{dec_le}
use lib.ListN.{get_elem?}
use Rattle.atomic_table.specs.Table.{State}
use Rattle.atomic_table.proofs.Lists.{at_set}
use Rattle.turn_lock.specs.declared.view.View.{View}
use Rattle.turn_lock.specs.declared.view.Stage.{Stage}
use Rattle.turn_lock.specs.declared.view.Stage.TheVariants.{Idle, Waits, Turn}
use Rattle.turn_lock.specs.Totals.{times, total}
use Rattle.turn_lock.specs.Views.{Owns, number_count, same_tickets, same_tickets_at, share_count, tickets, tickets_at}
use Rattle.turn_lock.specs.Views.{turns, turns_at}
use Rattle.turn_lock.specs.Rule.{Fits, IsHome, IsLocked, IsOut, OnTurn, words_of}
use Rattle.turn_lock.proofs.SumLemmas.{gap, hits, part, total_same, two_parts}

-- who hasn't the turn owes no fact
pub off_turn : (served : ℕ) (P : Type 0) (st : Stage) → turns_at st ≡ 0 → OnTurn served P st
off_turn served P Idle e = tt
off_turn served P (Waits t) e = tt
off_turn served P (Turn t) e = absurd (let f : 1 ≡ 0 = e in omega arith)

-- and who has it, has this one
pub on_turn : (served : ℕ) (P : Type 0) (st : Stage) → turns_at st ≡ 1 → OnTurn served P st
    → (t : ℕ) × (st ≡ Turn t) × (t ≡ served) × P
on_turn served P Idle e on = absurd (let f : 0 ≡ 1 = e in omega arith)
on_turn served P (Waits t) e on = absurd (let f : 0 ≡ 1 = e in omega arith)
on_turn served P (Turn t) e on = (t, refl, on.0, on.1)

pub still_on : (served : ℕ) (P Q : Type 0) (st : Stage) → (P → Q) → OnTurn served P st → OnTurn served Q st
still_on served P Q Idle f on = tt
still_on served P Q (Waits t) f on = tt
still_on served P Q (Turn t) f on = (on.0, f on.1)

-- the turn's ticket is the one served
turn_counts : (served : ℕ) (P : Type 0) (st : Stage) → OnTurn served P st → turns_at st ≤ same_tickets_at served st
turn_counts served P Idle on = omega arith
turn_counts served P (Waits t) on = omega arith
turn_counts served P (Turn t) on = let h = hits t served on.0 in omega arith

pub turn_waits : (st : Stage) → turns_at st ≤ tickets_at st
turn_waits Idle = omega arith
turn_waits (Waits t) = omega arith
turn_waits (Turn t) = omega arith

module _ {T E O : Type 0} (origin : T → O) (events : T → List E) (names : E → ℕ) (of : O) where
  abbrev pub St : Type 0
  St = State (Option T) (View E O)

  abbrev pub Lk : St → Type 0
  Lk s = IsLocked origin events names of s

  -- where the value is, with so many turns out
  abbrev pub Place : List E → List (maybe.Option (Option T)) → ℕ → Type 0
  Place log homes out = IsHome origin events names of log homes out ⊎ IsOut origin events names homes out

  pub at_most_once : (s : St) → Lk s → (k : ℕ) → total (number_count k) s.views ≤ 1
  at_most_once s r k = below (dec_le 65 k)
    where
      below : Dec (65 ≤ k) → total (number_count k) s.views ≤ 1
      below (yes d) = let n = r.no_other k d in omega arith
      below (no d) = let n = r.once k (let h : k < 65 = omega (arith, d) in h) in omega arith

  -- a number of one view is no other's
  pub own_alone : (s : St) → Lk s → (i j : ℕ) (v u : View E O) → i ≢ j → get_elem? s.views i ≡ maybe.some v
      → get_elem? s.views j ≡ maybe.some u → (k : ℕ) → Owns v k → Owns u k → ⊥
  own_alone s r i j v u apart at there k mine other =
      let both = two_parts (number_count k) s.views i j v u apart at there in
      let most = at_most_once s r k in absurd (omega (arith, both, most, mine, other))

  pub few_wait : (s : St) → Lk s → total tickets s.views ≤ 65
  few_wait s r = let less = total_few s.views r.each in let all = r.shares in omega (arith, less, all)
    where
      total_few : (vs : List (View E O)) → ((j : ℕ) (v : View E O) → get_elem? vs j ≡ maybe.some v
          → Fits names of r.log r.served v)
          → total tickets vs ≤ total share_count vs
      total_few [] each = omega arith
      total_few (v ∷ vs) each = let here = (each 0 v refl).few in
          let rest = total_few vs (λ j u at. each (suc j) u at) in
          omega (arith, here, rest)

  -- with a turn out the slot is empty
  pub is_out : (s : St) → (r : Lk s) → (id : ℕ) (v : View E O) → get_elem? s.views id ≡ maybe.some v
      → turns_at v.stage ≡ 1
      → IsOut origin events names s.homes (total turns s.views)
  is_out s r id v at on = ⊎_elim (λ h. absurd (let p = part turns s.views id v at in
      let z = h.none_out in omega (arith, p, z, on))) (λ o. o) r.home

  -- and no other view has it
  pub others_off : (s : St) → (r : Lk s) → (id j : ℕ) (v u : View E O) → id ≢ j → get_elem? s.views id ≡ maybe.some v
      → get_elem? s.views j ≡ maybe.some u → turns_at v.stage ≡ 1 → turns_at u.stage ≡ 0
  others_off s r id j v u apart at there on =
      let both = two_parts turns s.views id j v u apart at there in
      let one = (is_out s r id v at on).one_out in omega (arith, both, one, on)

  -- where a view has the ticket that is served and not yet the turn, no turn is out
  pub none_out : (s : St) → (r : Lk s) → (id : ℕ) (v : View E O) → get_elem? s.views id ≡ maybe.some v
      → turns_at v.stage ≡ 0
      → same_tickets_at r.served v.stage ≡ 1 → total turns s.views ≡ 0
  none_out s r id v at off mine =
      let less = gap turns (same_tickets r.served) s.views id v
      (λ j u there. turn_counts r.served (u.seen ≡ r.log) u.stage (r.each j u there).turn) at in
      let most = r.apart r.served in omega (arith, less, most, off, mine)

  -- a state with the same content
  pub same_state : (s : St) (words : List ℕ) (views : List (View E O)) → words ≡ s.words → views ≡ s.views → Lk s
      → Lk record { words = words; homes = s.homes; views = views }
  same_state s words views w v r = subst (λ (l : List ℕ). Lk record { words = l; homes = s.homes; views = views })
      (sym w)
      (subst (λ (l : List (View E O)). Lk record { words = s.words; homes = s.homes; views = l }) (sym v) r)

  -- One view changes and keeps its numbers.
  pub changed : (s : St) (r : Lk s) (id : ℕ) (v w : View E O) → get_elem? s.views id ≡ maybe.some v
      → (words : List ℕ) (homes : List (maybe.Option (Option T))) (log : List E) (served : ℕ)
      → words ≡ words_of served (total tickets (set s.views id w)) (length log)
      → Place log homes (total turns (set s.views id w))
      → w.numbers ≡ v.numbers
      → ((k : ℕ) → total (same_tickets k) (set s.views id w) ≤ 1)
      → ((k : ℕ) → k < served → total (same_tickets k) (set s.views id w) ≡ 0)
      → ((k : ℕ) → served + total tickets (set s.views id w) ≤ k → total (same_tickets k) (set s.views id w) ≡ 0)
      → All (λ e. names e < 65) log
      → ((j : ℕ) (u : View E O) → id ≢ j → get_elem? s.views j ≡ maybe.some u → Fits names of log served u)
      → Fits names of log served w
      → Lk record { words = words; homes = homes; views = set s.views id w }
  changed s r id v w at words homes log served words_are home numbers apart behind ahead named others mine = record {
    log = log;
    served = served;
    words = words_are;
    home = home;
    shares = total_same share_count s.views id v w at (ap (λ (l : List ℕ). length l) numbers) ∙ r.shares;
    once = λ k low. total_same (number_count k) s.views id v w at (ap (times k) numbers) ∙ r.once k low;
    no_other = λ k high. total_same (number_count k) s.views id v w at (ap (times k) numbers) ∙ r.no_other k high;
    apart = apart;
    behind = behind;
    ahead = ahead;
    named = named;
    each = λ j u there. ⊎_elim (λ here. subst (λ (x : View E O). Fits names of log served x) here.1 mine)
        (λ else. others j u (λ e. else.0 (sym e)) else.1) (at_set s.views id j w u there);
  }
