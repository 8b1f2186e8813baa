-- What an entry decides, its evidence settles; and it decides its own key.
use Rattle.std.proofs.Common.{◌≡◌, ℕ, ◌<◌, ◌≤◌, ◌∙◌, List, [], ◌∷◌, Some, length, take, drop, get_or}
use Rattle.std.proofs.Common.{arith, refl, sym, ap, subst}
use Rattle.std.specs.Prelude.{Any}
use Rattle.std.specs.List.{slice_get}
use Rattle.std.proofs.lemmas.Option.{get_or_from_slice_get, slice_get-get_or}
use Rattle.std.proofs.lemmas.List.{take-append-drop}
use Rattle.std.proofs.lemmas.List.Elements.{All-head, All-tail}
use Rattle.lin_model.specs.Form.{form_width}
use Rattle.lin_model.specs.KeyAtom.{PlainKeyAtom}
use Rattle.lin_model.specs.Key.{key_width}
use Rattle.lin_model.specs.Facts.{key_width-above}
use Rattle.lin_model.specs.Lists.{Found-from}
use Rattle.atom_implies.specs.Implies.{Covers, CoveredKeysHold, Implies}
use Rattle.refutation.specs.Laws.{RefutedHasNoPoint}
use Rattle.cert_check.specs.declared.entry.Entry.{Entry}
use Rattle.cert_check.specs.declared.entry.Entry.TheVariants.{Sat, Unsat}
use Rattle.cert_check.specs.declared.reply.Reply.TheVariants.{Hit, Solved, Unkept, Spent}
use Rattle.cert_check.specs.Decides.{Decides}
use Rattle.cert_check.specs.Replies.{IsHit}
use Rattle.cert_check.specs.Laws.{DecidingEntriesSettle, EntriesDecideTheirKeys, RepliesSettle}
use Rattle.cert_check.proofs.StandingLemmas.{stays_there}

-- a key that another covers is no wider
covered_narrow : (key q : List PlainKeyAtom) → Covers key q → key_width q ≤ key_width key
covered_narrow key [] covers = omega arith
covered_narrow key (b ∷ q) covers =
    let first : Any (λ a. Implies a b) key = All-head (λ c. Any (λ a. Implies a c) key) b q covers in
    let above : form_width (get_or key first.0 first.1).form ≤ key_width key =
    key_width-above key first.0 first.1 first.2 in
    let alike : form_width (get_or key first.0 first.1).form ≡ form_width b.form =
    ap (λ (a : PlainKeyAtom). form_width a.form) first.3 ∙ ap form_width first.4.same_form in
    let rest : key_width q ≤ key_width key =
    covered_narrow key q (All-tail (λ c. Any (λ a. Implies a c) key) b q covers) in
    omega arith

-- a point of a key is one of each key that it covers; what covers a core has no point, as the core has none
pub deciding_settles : CoveredKeysHold → RefutedHasNoPoint → DecidingEntriesSettle
deciding_settles covered refuted (Sat e) q checked decides = record {
  wide = omega (arith, covered_narrow e.key q decides, checked.evidence.one_each);
  holds = covered e.key q e.point decides checked.evidence.holds;
}
deciding_settles covered refuted (Unsat e) q checked decides =
    λ point holds. refuted e.key e.tree.nodes e.tree.terms checked.key checked.evidence point
    (covered q e.key point decides holds)

-- the entry of a hit decides its key
hit_decides : (entries : List Entry) (key : List PlainKeyAtom) (e : Entry) (place n : ℕ)
    → IsHit entries key e place n → Decides e key
hit_decides entries key e place n hit =
    let found = Found-from (slice_get (take n entries) place) (λ d. Decides d key) hit.seen.first.here in
    let there : slice_get entries place ≡ Some found.value =
    subst (λ (es : List Entry). slice_get es place ≡ Some found.value) (take-append-drop n entries)
    (stays_there (take n entries) (drop n entries) place found.value found.is) in
    let both : Some found.value ≡ Some e = sym there ∙ hit.there in
    let same : found.value ≡ e = cc in
    subst (λ (d : Entry). Decides d key) same found.holds

pub replies_settle : DecidingEntriesSettle → RepliesSettle
replies_settle settles log entries seat budget key (Hit e place n) stands =
    settles e key stands.checked (hit_decides entries key e place n stands)
replies_settle settles log entries seat budget key (Solved e place n saved) stands =
    settles e key stands.checked stands.decides
replies_settle settles log entries seat budget key (Unkept e n saved) stands =
    settles e key stands.checked stands.decides
replies_settle settles log entries seat budget key (Spent tree n) stands = tt

-- what stands at a place stands there, whatever is said of places beyond
there : (key : List PlainKeyAtom) (k : ℕ) (d : PlainKeyAtom) → k < length key
    → get_or key k (get_or key k d) ≡ get_or key k d
there key k d within =
    get_or_from_slice_get key k (get_or key k d) (get_or key k d) (slice_get-get_or key k d within)

-- each atom implies itself
pub covers_itself : (key : List PlainKeyAtom) → Covers key key
covers_itself key k d within =
    (k, get_or key k d, within, there key k d within, record { same_form = refl; tests = λ n passes. passes })

pub decides_own : EntriesDecideTheirKeys
decides_own (Sat e) = covers_itself e.key
decides_own (Unsat e) = covers_itself e.key
