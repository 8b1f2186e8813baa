-- Logs in pieces, and that the entries of a machine only grow, up to its room.
use Rattle.std.proofs.Common.{◌≡◌, ℕ, ◌≤◌, ◌∙◌, List, [], ◌∷◌, ◌++◌, length, take, arith, refl, sym, ap, subst}
use Rattle.std.proofs.lemmas.List.{append-nil, append_assoc, take-append-le}
use Rattle.cert_check.specs.declared.entry.Entry.{Entry}
use Rattle.cert_check.specs.Decides.{NoneDecides}
use Rattle.cert_check.specs.Machine.{CoreState, Turn, begun, kept, unkept, spent, failed, after, max_entries, MayBegin}
use Rattle.cert_check.specs.Logs.{replayed, IsPossible, entries_after, IsLegalLog, start}
use Rattle.cert_check.specs.Laws.{GoesOnTo, EntriesStay, FlightsBeginRightly, FrontsAreLegal, LogsGoOn}
use Rattle.cert_check.specs.Facts.{replayed-append, IsPossible-append, IsPossible-parts}

-- nothing comes behind
same_entries : (entries : List Entry) → GoesOnTo entries entries
same_entries entries = record { new = []; at_end = sym (append-nil entries) }

-- one entry more comes first
one_more : (entries later : List Entry) (e : Entry) → GoesOnTo (entries ++ e ∷ []) later → GoesOnTo entries later
one_more entries later e goes = record {
  new = e ∷ goes.new;
  at_end = goes.at_end
      ∙ append_assoc entries (e ∷ []) goes.new;
}

-- the entries of a machine stay at the front
pub entries_stay : (s : CoreState) (log : List Turn) → GoesOnTo s.entries (replayed s log).entries
entries_stay s [] = same_entries s.entries
entries_stay s (begun seat key seen ∷ log) = entries_stay (after s (begun seat key seen)) log
entries_stay s (kept seat place e ∷ log) =
    one_more s.entries (replayed (after s (kept seat place e)) log).entries e
    (entries_stay (after s (kept seat place e)) log)
entries_stay s (unkept seat ∷ log) = entries_stay (after s (unkept seat)) log
entries_stay s (spent seat ∷ log) = entries_stay (after s (spent seat)) log
entries_stay s (failed seat ∷ log) = entries_stay (after s (failed seat)) log

-- a machine without room keeps its entries
pub full_stays : (s : CoreState) (log : List Turn) → IsPossible s log → length s.entries ≡ max_entries
    → (replayed s log).entries ≡ s.entries
full_stays s [] possible full = refl
full_stays s (begun seat key seen ∷ log) possible full = full_stays (after s (begun seat key seen)) log possible.1 full
full_stays s (kept seat place e ∷ log) possible full = absurd (omega (arith, possible.0.room))
full_stays s (unkept seat ∷ log) possible full = full_stays (after s (unkept seat)) log possible.1 full
full_stays s (spent seat ∷ log) possible full = full_stays (after s (spent seat)) log possible.1 full
full_stays s (failed seat ∷ log) possible full = full_stays (after s (failed seat)) log possible.1 full

-- what a legal log leads to, by its front
longer : (opening later : List Entry) (log more : List Turn) → IsLegalLog opening (log ++ more) later
    → later ≡ (replayed (replayed (start opening) log) more).entries
longer opening later log more long =
    sym long.leads ∙ ap (λ (s : CoreState). s.entries) (replayed-append (start opening) log more)

-- the rest of a legal log is possible behind its front
pub behind_front : (opening later : List Entry) (log more : List Turn) → IsLegalLog opening (log ++ more) later
    → IsPossible (replayed (start opening) log) more
behind_front opening later log more long = (IsPossible-parts (start opening) log more long.possible).1

pub fronts_legal : FrontsAreLegal
fronts_legal opening later log more long = record {
  possible = (IsPossible-parts (start opening) log more long.possible).0;
  leads = refl;
}

pub logs_go : LogsGoOn
logs_go opening entries log turn legal may =
    let leads = replayed-append (start opening) log (turn ∷ []) in
    record {
      leads = leads;
      legal = record {
        possible = IsPossible-append (start opening) log (turn ∷ []) legal.possible (may, tt);
        leads = ap (λ (s : CoreState). s.entries) leads;
      };
    }

-- the entries after a front stay at the front
pub legal_stays : EntriesStay
legal_stays opening later log more long =
    let s = replayed (start opening) log in
    subst (λ (es : List Entry). GoesOnTo s.entries es) (sym (longer opening later log more long)) (entries_stay s more)

-- and a store without room stays so
pub legal_full : (opening later : List Entry) (log more : List Turn) → IsLegalLog opening (log ++ more) later
    → length (entries_after opening log) ≡ max_entries → later ≡ entries_after opening log
legal_full opening later log more long full =
    longer opening later log more long
    ∙ full_stays (replayed (start opening) log) more (behind_front opening later log more long) full

-- the first entries stay the first
pub first_ones_stay : {X : Type 0} (xs later : List X) (n : ℕ) → GoesOnTo xs later → n ≤ length xs
    → take n later ≡ take n xs
first_ones_stay {X} xs later n goes within =
    ap (λ (ys : List X). take n ys) goes.at_end ∙ take-append-le n xs goes.new within

-- as many as there are, are all
take-length : {X : Type 0} (xs : List X) → take (length xs) xs ≡ xs
take-length [] = refl
take-length {X} (x ∷ xs) = ap (λ (ys : List X). x ∷ ys) (take-length xs)

-- a flight begins when all entries were seen, and none of them decides its key
pub flights_begin : FlightsBeginRightly
flights_begin opening later front behind seat key seen long =
    let s = replayed (start opening) front in
    let may : MayBegin s seat key seen =
    (behind_front opening later front (begun seat key seen ∷ behind) long).0 in
    let goes : GoesOnTo s.entries later = legal_stays opening later front (begun seat key seen ∷ behind) long in
    let whole : take seen s.entries ≡ s.entries =
    ap (λ (n : ℕ). take n s.entries) may.up_to_date ∙ take-length s.entries in
    let all : take seen later ≡ s.entries =
    first_ones_stay s.entries later seen goes (omega (arith, may.up_to_date)) ∙ whole in
    record { all = all; undecided = subst (λ (es : List Entry). NoneDecides es key) (sym all) may.undecided }
