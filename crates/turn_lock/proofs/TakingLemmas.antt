-- Drawing a ticket and taking the turn keep the rule.
use Rattle.std.proofs.Common.{◌≡◌, ◌≢◌, ℕ, ◌+◌, ◌%◌, ◌^◌, ◌<◌, ◌≤◌, List, [], ◌∷◌, length, slice_index, slice_set}
use Rattle.std.proofs.Common.{Option, Some, set, arith, refl, sym, ap, subst, ◌∙◌, inr, ⊎_elim}
use Rattle.std.proofs.Math.Nat.{mod-add-mod}
use Rattle.std.proofs.lemmas.Option.{IfSome_then}
use mathlib.Core.Logic.{dite}
use mathlib.Core.Option as maybe
use native.Mathlib.Decide.{ℕ_discrete, dec_le}
use lib.ListN.{get_elem?}
use Rattle.atomic_table.specs.Table.{Act, Allows, Valid, carried_after, stepped, keeps, takes}
use Rattle.atomic_table.proofs.Lists.{set_again, one_turn}
use Rattle.turn_lock.specs.declared.view.View.{View}
use Rattle.turn_lock.specs.declared.view.Stage.{Stage}
use Rattle.turn_lock.specs.declared.view.Stage.TheVariants.{Idle, Waits, Turn}
use Rattle.turn_lock.specs.Totals.{Begins, one_at, total}
use Rattle.turn_lock.specs.Views.{has_seen, of_number, staged, same_tickets, same_tickets_at, tickets, tickets_at}
use Rattle.turn_lock.specs.Views.{turns, turns_at}
use Rattle.turn_lock.specs.Rule.{Fits, IsHome, IsLocked, words_of}
use Rattle.turn_lock.specs.Plays.{Draws, Looks, Seated}
use Rattle.turn_lock.proofs.SumLemmas.{hits, misses, part, total_same, total_set}
use Rattle.turn_lock.proofs.FrontLemmas.{begins_same, begins_through}
use Rattle.turn_lock.proofs.RuleLemmas.{Place, St, changed, few_wait, none_out, same_state}

-- the ticket at a stage
abbrev ticket_of : Stage → ℕ
ticket_of Idle = 0
ticket_of (Waits t) = t
ticket_of (Turn t) = t

module _ {T E O : Type 0} (origin : T → O) (events : T → List E) (names : E → ℕ) (of : O) where
  abbrev Rule : St origin events names of → Type 0
  Rule s = IsLocked origin events names of s

  pub draws : (slots id : ℕ) (m : Seated T E O) → m.0.stage ≡ Idle → 0 < length m.0.numbers
      → Allows (IsLocked origin events names of) slots id m 0 (λ n. (n + 1) % 2 ^ 64) (Draws m)
  draws slots id m idle some_number s r wide at small =
      let v : View E O = m.0 in
      let vs : List (View E O) = s.views in
      let many : ℕ = total tickets vs in
      let t : ℕ = r.served + many in
      let w : View E O = staged (Waits t) v in
      let more : total tickets (set vs id w) ≡ many + 1 =
      (let both = total_set tickets vs id v w at in
      let none : tickets_at v.stage ≡ 0 = ap tickets_at idle in omega (arith, both, none)) in
      let with_k : (k : ℕ) → total (same_tickets k) (set vs id w) ≡ total (same_tickets k) vs + one_at k t =
      (λ k. let both = total_set (same_tickets k) vs id v w at in
      let none : same_tickets_at k v.stage ≡ 0 = ap (same_tickets_at k) idle in omega (arith, both, none)) in
      let same_turns : total turns (set vs id w) ≡ total turns vs =
      total_same turns vs id v w at (sym (ap turns_at idle)) in
      let old : Fits names of r.log r.served v = r.each id v at in (
        w,
        keeps,
        tt,
        changed origin events names of s r id v w at _ s.homes r.log r.served
            (ap (λ (l : List ℕ). slice_set l 0 ((slice_index l 0 + 1) % 2 ^ 64)) r.words
            ∙ ap (λ (k : ℕ). k ∷ r.served % 2 ^ 64 ∷ length r.log ∷ []) (mod-add-mod t (2 ^ 64) 1
            ∙ ap (λ (k : ℕ). k % 2 ^ 64) (next r.served many (total tickets (set vs id w)) more)))
            (subst (λ (k : ℕ). Place origin events names of r.log s.homes k) (sym same_turns) r.home)
            refl
            (λ k. at_most k t r.served many (total (same_tickets k) vs) (total (same_tickets k) (set vs id w))
            (with_k k) refl (r.apart k) (r.ahead k))
            (λ k low. let z = r.behind k low in let n = misses t k (λ e. absurd (omega (arith, e, low))) in
            let h = with_k k in omega (arith, z, n, h))
            (λ k high. let z = r.ahead k (let l : r.served + many ≤ k = omega (arith, more, high) in l) in
            let n = misses t k (λ e. absurd (omega (arith, e, more, high))) in
            let h = with_k k in omega (arith, z, n, h))
            r.named
            (λ j u apart there. r.each j u there)
            (record {
              seen = old.seen;
              shorter = old.shorter;
              own = old.own;
              same = old.same;
              turn = tt;
              few = some_number;
            }),
        (t, ap (λ (l : List ℕ). slice_index l 0) r.words, refl),
      )
    where
      next : (a b c : ℕ) → c ≡ b + 1 → a + b + 1 ≡ a + c
      next a b c e = omega (arith, e)

      at_most : (k t served many old new : ℕ) → new ≡ old + one_at k t → t ≡ served + many → old ≤ 1
          → (served + many ≤ k → old ≡ 0) → new ≤ 1
      at_most k t served many old new is next few none = dite (ℕ_discrete t k)
          (λ e. let z = none (omega (arith, e, next)) in let h = hits t k e in omega (arith, is, z, h))
          (λ ne. let h = misses t k ne in omega (arith, is, few, h))

  -- a load that finds nothing changes nothing
  pub stays : (s : St origin events names of) (id : ℕ) (v : View E O) (words : List ℕ) → words ≡ s.words
      → get_elem? s.views id ≡ maybe.some v → Rule s
      → Rule record { words = words; homes = s.homes; views = set s.views id v }
  stays s id v words same at r = same_state origin events names of s words (set s.views id v) same
      (set_again s.views id v at) r

  near : (a b n m : ℕ) → b < a + n → n ≤ 65 → 65 < m → b < a + m
  near a b n m lt few big = omega (arith, lt, few, big)

  -- the ticket of a seat that finds it served is the one served
  served_is : (s : St origin events names of) (r : Rule s) (id : ℕ) (v : View E O) (t : ℕ)
      → get_elem? s.views id ≡ maybe.some v → v.stage ≡ Waits t → slice_index s.words 1 ≡ t % 2 ^ 64 → t ≡ r.served
  served_is s r id v t at waiting found =
      let own = part (same_tickets t) s.views id v at in
      let one : same_tickets_at t v.stage ≡ 1 = ap (same_tickets_at t) waiting ∙ hits t t refl in
      let many : ℕ = total tickets s.views in
      let few = few_wait origin events names of s r in
      let low : r.served ≤ t = from_behind (dec_le r.served t) own one in
      let high : t < r.served + many = from_ahead many (dec_le (r.served + many) t) (r.ahead t) own one in
      sym (one_turn r.served t (2 ^ 64) low (near r.served t many (2 ^ 64) high few (omega arith))
      (sym (ap (λ (l : List ℕ). slice_index l 1) r.words) ∙ found))
    where
      from_behind : Dec (r.served ≤ t) → same_tickets_at t v.stage ≤ total (same_tickets t) s.views
          → same_tickets_at t v.stage ≡ 1 → r.served ≤ t
      from_behind (yes d) own one = d
      from_behind (no d) own one = absurd (let z = r.behind t (let l : t < r.served = omega (
        arith,
        d,
      ) in l) in omega (arith, own, one, z))

      from_ahead : (many : ℕ) → Dec (r.served + many ≤ t)
          → (r.served + many ≤ t → total (same_tickets t) s.views ≡ 0)
          → same_tickets_at t v.stage ≤ total (same_tickets t) s.views
          → same_tickets_at t v.stage ≡ 1 → t < r.served + many
      from_ahead many (yes d) none own one = absurd (let z = none d in omega (arith, own, one, z))
      from_ahead many (no d) none own one = omega (arith, d)

  -- the value out of the slot, for the seat whose ticket is served
  takes_turn : (s : St origin events names of) (r : Rule s) (id : ℕ) (v : View E O) (t : ℕ)
      → get_elem? s.views id ≡ maybe.some v → v.stage ≡ Waits t → t ≡ r.served
      → (h : IsHome origin events names of r.log s.homes (total turns s.views))
      → Rule record {
        words = slice_set s.words 1 (slice_index s.words 1);
        homes = slice_set s.homes 0 maybe.none;
        views = set s.views id (has_seen (events h.value) (staged (Turn t) v));
      }
  takes_turn s r id v t at waiting is h =
      let vs : List (View E O) = s.views in
      let w : View E O = has_seen (events h.value) (staged (Turn t) v) in
      let old : Fits names of r.log r.served v = r.each id v at in
      let same_waits : total tickets (set vs id w) ≡ total tickets vs =
      total_same tickets vs id v w at (sym (ap tickets_at waiting)) in
      let same_with : (k : ℕ) → total (same_tickets k) (set vs id w) ≡ total (same_tickets k) vs =
      (λ k. total_same (same_tickets k) vs id v w at (sym (ap (same_tickets_at k) waiting))) in
      let more : total turns (set vs id w) ≡ 1 =
      (let both = total_set turns vs id v w at in
      let off : turns_at v.stage ≡ 0 = ap turns_at waiting in let z = h.none_out in omega (arith, both, off, z)) in
      changed origin events names of s r id v w at _ _ r.log r.served
      (ap (λ (l : List ℕ). slice_set l 1 (slice_index l 1)) r.words
      ∙ ap (λ (k : ℕ). words_of r.served k (length r.log)) (sym same_waits))
      (inr (record {
        one_out = more;
        empty = ap (λ (l : List (maybe.Option
            (Option T))). slice_set l 0 maybe.none) h.is_there;
      }))
      refl
      (λ k. let z = r.apart k in let h = same_with k in omega (arith, z, h))
      (λ k low. same_with k ∙ r.behind k low)
      (λ k high. same_with k ∙ r.ahead k (let l : r.served + total tickets vs ≤ k = omega (
        arith,
        same_waits,
        high,
      ) in l))
      r.named
      (λ j u apart there. r.each j u there)
      (record {
        seen = begins_same (events h.value) r.log h.log_is;
        shorter = begins_through v.shorter v.seen (events h.value) old.shorter
            (subst (λ (l : List E). Begins v.seen l) (sym h.log_is) old.seen);
        own = λ k owns. ap (of_number names k) (sym h.log_is);
        same = old.same;
        turn = (is, h.log_is);
        few = (let f = old.few in let one : tickets_at v.stage ≡ 1 = ap tickets_at waiting in omega (arith, f, one));
      })

  pub looks : (slots id : ℕ) (m : Seated T E O) → (t : ℕ) → m.0.stage ≡ Waits t → m.1 ≡ []
      → Allows (IsLocked origin events names of) slots id m 1 (λ n. n) (Looks origin events names m)
  looks slots id m t waiting empty s r wide at small = dite (ℕ_discrete (slice_index s.words 1) (t % 2 ^ 64)) hit miss
    where
      found : ℕ
      found = slice_index s.words 1

      Goes : Type 0
      Goes = (w : View E O) × (a : Act (Option T)) × Valid s.homes m.1 a
          × Rule (stepped s 1 found id m.1 w a) × Looks origin events names m found (w, carried_after m.1 a)

      same_ticket : (t' : ℕ) → m.0.stage ≡ Waits t' → t ≡ t'
      same_ticket t' e = ap ticket_of (sym waiting ∙ e)

      miss : found ≢ t % 2 ^ 64 → Goes
      miss ne = (
        m.0,
        keeps,
        tt,
        stays s id m.0 _ (ap (λ (l : List ℕ). slice_set l 1 (slice_index l 1)) r.words ∙ sym r.words) at r,
        (λ t' e. ((λ hit. absurd (ne (hit ∙ ap (λ (k : ℕ). k % 2 ^ 64) (sym (same_ticket t' e))))), λ ne'. refl)),
      )

      taken : t ≡ r.served → IsHome origin events names of r.log s.homes (total turns s.views) → Goes
      taken is h = let old : Fits names of r.log r.served m.0 = r.each id m.0 at in (
        has_seen (events h.value) (staged (Turn t) m.0),
        takes 0 (Some h.value),
        ap (λ (l : List (maybe.Option (Option T))). get_elem? l 0) h.is_there,
        takes_turn s r id m.0 t at waiting is h,
        (λ t' e. (
          (λ hit. (
            h.value,
            record {
              seat = (λ k. (
                has_seen (events h.value) (staged (Turn (same_ticket t' e k)) m.0),
                (
                  0,
                  Some h.value,
                ) ∷ empty k,
              ));
              same = IfSome_then m.0.origin old.same (λ o e. e ∙ sym h.origin_is);
              begins = subst (λ (l : List E). Begins m.0.seen l) (sym h.log_is) old.seen;
              own = λ k owns. ap (of_number names k) h.log_is ∙ old.own k owns;
            },
          )),
          λ ne'. absurd (ne' (found_is ∙ ap (λ (k : ℕ). k % 2 ^ 64) (same_ticket t' e))),
        )),
      )
        where
          found_is : found ≡ t % 2 ^ 64
          found_is = ap (λ (l : List ℕ). slice_index l 1) r.words ∙ ap (λ (k : ℕ). k % 2 ^ 64) (sym is)

      hit : found ≡ t % 2 ^ 64 → Goes
      hit e = let is = served_is s r id m.0 t at waiting e in
          let none = none_out origin events names of s r id m.0 at (ap turns_at waiting) (ap
          (same_tickets_at r.served) waiting ∙ hits t r.served is) in
          ⊎_elim (taken is) (λ o. absurd (let one = o.one_out in omega (arith, none, one))) r.home
