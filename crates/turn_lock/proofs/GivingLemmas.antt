-- Logging an event and passing the turn on keep the rule.
use Rattle.std.proofs.Common.{◌≡◌, ℕ, zero, suc, ◌+◌, ◌%◌, ◌^◌, ◌<◌, ◌≤◌, List, [], ◌∷◌, ◌++◌, length, slice_index}
use Rattle.std.proofs.Common.{slice_index_or, slice_set}
use Rattle.std.proofs.Common.{Option, Some, None, IfSome, set, arith, refl, sym, ap, subst, ◌∙◌, inl, inr}
use Rattle.std.proofs.Common.{length-append, mod-eq_of_lt}
use Rattle.std.proofs.Math.Nat.{mod-add-mod}
use Rattle.std.proofs.lemmas.List.Elements.{All-append}
use mathlib.Core.Option as maybe
use native.Mathlib.Decide.{dec_le}
use lib.ListN.{get_elem?}
use Rattle.atomic_table.specs.Table.{Allows, keeps, gives}
use Rattle.turn_lock.specs.declared.view.View.{View}
use Rattle.turn_lock.specs.declared.view.Stage.TheVariants.{Idle, Turn}
use Rattle.turn_lock.specs.Totals.{Begins, times, total}
use Rattle.turn_lock.specs.Views.{HasTurn, Owns, has_seen, of_number, staged, same_tickets, same_tickets_at, tickets}
use Rattle.turn_lock.specs.Views.{tickets_at, turns}
use Rattle.turn_lock.specs.Rule.{Fits, IsLocked, IsOut, words_of}
use Rattle.turn_lock.specs.Plays.{Counts, Logs, Passes, Seated}
use Rattle.turn_lock.proofs.SumLemmas.{hits, part, total_same, total_set}
use Rattle.turn_lock.proofs.FrontLemmas.{begins_more, begins_same, begins_through, one_other}
use Rattle.turn_lock.proofs.TakingLemmas.{stays}
use Rattle.turn_lock.proofs.RuleLemmas.{St, changed, is_out, off_turn, on_turn, others_off, own_alone, still_on}

module _ {T E O : Type 0} (origin : T → O) (events : T → List E) (names : E → ℕ) (of : O) where
  abbrev Rule : St origin events names of → Type 0
  Rule s = IsLocked origin events names of s

  pub counts : (slots id : ℕ) (m : Seated T E O) → HasTurn m.0.stage
      → Allows (IsLocked origin events names of) slots id m 2 (λ n. n) (Counts m)
  counts slots id m on s r wide at small =
      let all : m.0.seen ≡ r.log = (on_turn r.served (m.0.seen ≡ r.log) m.0.stage on (r.each id m.0 at).turn).3 in (
        m.0,
        keeps,
        tt,
        stays origin events names of s id m.0 _ (ap (λ (l : List ℕ). slice_set l 2 (slice_index l 2)) r.words
            ∙ sym r.words) at r,
        (refl, ap (λ (l : List ℕ). slice_index l 2) r.words ∙ ap (λ (l : List E). length l) (sym all)),
      )

  longer : (log : List E) (e : E) → length (log ++ e ∷ []) ≡ length log + 1
  longer log e = length-append log (e ∷ [])

  -- one more event, for the seat with the turn
  log_one : (s : St origin events names of) (r : Rule s) (id : ℕ) (v : View E O) (value : T) (e : E)
      → get_elem? s.views id ≡ maybe.some v → HasTurn v.stage → events value ≡ r.log ++ e ∷ [] → Owns v (names e)
      → length (events value) < 2 ^ 64
      → Rule record {
        words = slice_set s.words 2 ((slice_index s.words 2 + 1) % 2 ^ 64);
        homes = s.homes;
        views = set s.views id (has_seen (events value) v);
      }
  log_one s r id v value e at on gained mine short =
      let vs : List (View E O) = s.views in
      let w : View E O = has_seen (events value) v in
      let old : Fits names of r.log r.served v = r.each id v at in
      let log : List E = r.log ++ e ∷ [] in
      let long : length log ≡ length r.log + 1 = longer r.log e in
      let fits : length r.log + 1 < 2 ^ 64 = subst (λ (n : ℕ). n < 2 ^ 64) (ap (λ (l : List E). length l) gained
      ∙ long) short in
      let same_waits : total tickets (set vs id w) ≡ total tickets vs =
      total_same tickets vs id v w at refl in
      let same_turns : total turns (set vs id w) ≡ total turns vs =
      total_same turns vs id v w at refl in
      let same_with : (k : ℕ) → total (same_tickets k) (set vs id w) ≡ total (same_tickets k) vs =
      (λ k. total_same (same_tickets k) vs id v w at refl) in
      changed origin events names of s r id v w at _ s.homes log r.served
      (ap (λ (l : List ℕ). slice_set l 2 ((slice_index l 2 + 1) % 2 ^ 64)) r.words
      ∙ ap (λ (k : ℕ). (r.served + total tickets vs) % 2 ^ 64 ∷ r.served % 2 ^ 64 ∷ k ∷ []) (mod-eq_of_lt fits
      ∙ sym long)
      ∙ ap (λ (k : ℕ). words_of r.served k (length log)) (sym same_waits))
      (inr (subst (λ (k : ℕ). IsOut origin events names s.homes k) (sym same_turns)
      (is_out origin events names of s r id v at on)))
      refl
      (λ k. let z = r.apart k in let h = same_with k in omega (arith, z, h))
      (λ k low. same_with k ∙ r.behind k low)
      (λ k high. same_with k ∙ r.ahead k (let l : r.served + total tickets vs ≤ k = omega (
        arith,
        same_waits,
        high,
      ) in l))
      (All-append (λ x. names x < 65) r.log (e ∷ []) r.named (λ k d low. one_named k d low))
      (λ j u apart there. let f = r.each j u there in record {
        seen = begins_more u.seen r.log (e ∷ []) f.seen;
        shorter = f.shorter;
        own = λ k owns. one_other names k r.log e
            (λ same. own_alone origin events names of s r id j v u apart at there k
            (subst (λ (n : ℕ). Owns v n) same mine) owns) ∙ f.own k owns;
        same = f.same;
        turn = off_turn r.served (u.seen ≡ log) u.stage
            (others_off origin events names of s r id j v u apart at there on);
        few = f.few;
      })
      (record {
        seen = begins_same (events value) log gained;
        shorter = begins_through v.shorter v.seen (events value) old.shorter
            (subst (λ (l : List E). Begins v.seen l) (sym gained) (begins_more v.seen r.log (e ∷ []) old.seen));
        own = λ k owns. ap (of_number names k) (sym gained);
        same = old.same;
        turn = still_on r.served (v.seen ≡ r.log) (events value ≡ log) v.stage (λ x. gained) old.turn;
        few = old.few;
      })
    where
      named : names e < 65
      named = low_number (dec_le 65 (names e))
        where
          low_number : Dec (65 ≤ names e) → names e < 65
          low_number (yes d) = absurd (let z = r.no_other (names e) d in
              let p = part (λ (u : View E O). times (names e) u.numbers) s.views id v at in omega (arith, z, p, mine))
          low_number (no d) = omega (arith, d)

      one_named : (k : ℕ) (d : E) → k < 1 → names (slice_index_or (e ∷ []) k d) < 65
      one_named zero d low = named
      one_named (suc k) d low = absurd (omega (arith, low))

  -- the value in a hand
  abbrev held_by : T → List (ℕ × Option T) → T
  held_by d [] = d
  held_by d ((k, None) ∷ xs) = d
  held_by d ((k, Some x) ∷ xs) = x

  pub logs : (slots id : ℕ) (m : Seated T E O) → (value : T) (e : E) → HasTurn m.0.stage → m.1 ≡ (0, Some value) ∷ []
      → events value ≡ m.0.seen ++ e ∷ [] → Owns m.0 (names e) → length (events value) < 2 ^ 64
      → Allows (IsLocked origin events names of) slots id m 2 (λ n. (n + 1) % 2 ^ 64) (λ n. Logs events m)
  logs slots id m value e on hand gained mine short s r wide at small =
      let all : m.0.seen ≡ r.log = (on_turn r.served (m.0.seen ≡ r.log) m.0.stage on (r.each id m.0 at).turn).3 in (
        has_seen (events value) m.0,
        keeps,
        tt,
        log_one s r id m.0 value e at on (gained ∙ ap (λ (l : List E). l ++ e ∷ []) all) mine short,
        (λ other is. ap (λ (x : T). (has_seen (events x) m.0, m.1)) (ap (held_by value) (sym hand ∙ is))),
      )

  -- the value back in the slot, and the next ticket's turn
  pass_on : (s : St origin events names of) (r : Rule s) (id : ℕ) (v : View E O) (value : T)
      → get_elem? s.views id ≡ maybe.some v → HasTurn v.stage → v.origin ≡ Some (origin value) → events value ≡ v.seen
      → Rule record {
        words = slice_set s.words 1 ((slice_index s.words 1 + 1) % 2 ^ 64);
        homes = slice_set s.homes 0 (maybe.some (Some value));
        views = set s.views id (staged Idle v);
      }
  pass_on s r id v value at on same all =
      let vs : List (View E O) = s.views in
      let w : View E O = staged Idle v in
      let old : Fits names of r.log r.served v = r.each id v at in
      let turn = on_turn r.served (v.seen ≡ r.log) v.stage on old.turn in
      let many : ℕ = total tickets vs in
      let less : total tickets (set vs id w) + 1 ≡ many =
      (let both = total_set tickets vs id v w at in
      let one : tickets_at v.stage ≡ 1 = ap tickets_at turn.1 in omega (arith, both, one)) in
      let out = is_out origin events names of s r id v at on in
      let none : total turns (set vs id w) ≡ 0 =
      (let both = total_set turns vs id v w at in
      let one = out.one_out in omega (arith, both, one, on)) in
      let with_k : (k : ℕ) → total (same_tickets k) (set vs id w) + same_tickets_at k v.stage
      ≡ total (same_tickets k) vs =
      (λ k. let both = total_set (same_tickets k) vs id v w at in omega (arith, both)) in
      let origin_is : origin value ≡ of = known_origin v.origin old.same same in
      changed origin events names of s r id v w at _ _ r.log (r.served + 1)
      (ap (λ (l : List ℕ). slice_set l 1 ((slice_index l 1 + 1) % 2 ^ 64)) r.words
      ∙ ap (λ (k : ℕ). (r.served + many) % 2 ^ 64 ∷ k ∷ length r.log ∷ []) (mod-add-mod r.served (2 ^ 64) 1)
      ∙ ap (λ (k : ℕ). k % 2 ^ 64 ∷ (r.served + 1) % 2 ^ 64 ∷ length r.log ∷ [])
      (next r.served many (total tickets (set vs id w)) less))
      (inl (record {
        none_out = none;
        value = value;
        is_there = ap (λ (l : List (maybe.Option (Option T))). slice_set l 0 (maybe.some (Some value))) out.empty;
        origin_is = origin_is;
        log_is = all ∙ turn.3;
      }))
      refl
      (λ k. let z = r.apart k in let h = with_k k in omega (arith, z, h))
      (λ k low. gone k (dec_le r.served k) low (with_k k) turn.0 turn.1 turn.2)
      (λ k high. let z = r.ahead k (let l : r.served + many ≤ k = omega (arith, less, high) in l) in
      let h = with_k k in omega (arith, z, h))
      r.named
      (λ j u apart there. let f = r.each j u there in record {
        seen = f.seen;
        shorter = f.shorter;
        own = f.own;
        same = f.same;
        turn = off_turn (r.served + 1) (u.seen ≡ r.log) u.stage
            (others_off origin events names of s r id j v u apart at there on);
        few = f.few;
      })
      (record { seen = old.seen; shorter = old.shorter; own = old.own; same = old.same; turn = tt; few = omega arith })
    where
      next : (a b c : ℕ) → c + 1 ≡ b → a + b ≡ a + 1 + c
      next a b c e = omega (arith, e)

      known_origin : (o : Option O) → IfSome o (λ x. x ≡ of) → o ≡ Some (origin value) → origin value ≡ of
      known_origin o is e = subst (λ (x : Option O). IfSome x (λ y. y ≡ of)) e is

      gone : (k : ℕ) → Dec (r.served ≤ k) → k < r.served + 1
          → total (same_tickets k) (set s.views id (staged Idle v)) + same_tickets_at k v.stage
          ≡ total (same_tickets k) s.views
          → (t : ℕ) → v.stage ≡ Turn t → t ≡ r.served
          → total (same_tickets k) (set s.views id (staged Idle v)) ≡ 0
      gone k (yes d) low sum t st is = let z = r.apart k in
          let one : same_tickets_at k v.stage ≡ 1 = ap (same_tickets_at k) st ∙ hits t k (is
          ∙ (let l : r.served ≡ k = omega (arith, d, low) in l)) in
          omega (arith, z, one, sum)
      gone k (no d) low sum t st is = let z = r.behind k (let l : k < r.served = omega (
        arith,
        d,
      ) in l) in omega (arith, z, sum)

  pub passes : (slots id : ℕ) (m : Seated T E O) → (value : T) → HasTurn m.0.stage → m.1 ≡ (0, Some value) ∷ []
      → m.0.origin ≡ Some (origin value) → events value ≡ m.0.seen
      → Allows (IsLocked origin events names of) slots id m 1 (λ n. (n + 1) % 2 ^ 64) (λ n. Passes m)
  passes slots id m value on hand same all =
      subst (λ (l : List (ℕ × Option T)). Allows (IsLocked origin events names of) slots id (m.0, l) 1
      (λ n. (n + 1) % 2 ^ 64) (λ n. Passes (m.0, l)))
      (sym hand)
      (λ s r wide at small. (staged Idle m.0, gives, tt, pass_on s r id m.0 value at on same all, refl))
