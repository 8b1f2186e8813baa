-- What the journal did for each of several replies.
use Rattle.std.proofs.Common.{ℕ, ◌==◌, List, [], ◌∷◌, ◌++◌, sym, subst}
use Rattle.std.specs.List.{All, Contains}
use Rattle.std.proofs.lemmas.List.Elements.{All-nil, All-cons, All-head, All-tail, All-filter, All-contains_itself}
use Rattle.cert_check.specs.declared.reply.Reply.{Reply}
use Rattle.cert_check.specs.declared.wrote.Wrote.{Wrote}
use Rattle.cert_check.specs.Seats.{SeatTerms, writer_of, wrotes_of}
use Rattle.cert_check.specs.Asks.{writes_of}
use Rattle.cert_check.specs.Runs.{WritesAreKept, writes_of_all}

-- what holds of a whole list holds of both its parts
of_left : {X : Type 0} (P : X → Type 0) (xs ys : List X) → All P (xs ++ ys) → All P xs
of_left {X} P [] ys all = All-nil P
of_left {X} P (x ∷ xs) ys all =
    All-cons P x xs (All-head P x (xs ++ ys) all) (of_left P xs ys (All-tail P x (xs ++ ys) all))

of_right : {X : Type 0} (P : X → Type 0) (xs ys : List X) → All P (xs ++ ys) → All P ys
of_right {X} P [] ys all = all
of_right {X} P (x ∷ xs) ys all = of_right P xs ys (All-tail P x (xs ++ ys) all)

-- what holds of the writes of all replies holds of those of each
of_each : (P : Wrote → Type 0) (number : ℕ) (replies : List Reply) → All P (writes_of_all number replies)
    → All (λ reply. All P (writes_of number reply)) replies
of_each P number [] all = All-nil (λ reply. All P (writes_of number reply))
of_each P number (reply ∷ replies) all =
    All-cons (λ r. All P (writes_of number r)) reply replies
    (of_left P (writes_of number reply) (writes_of_all number replies) all)
    (of_each P number replies (of_right P (writes_of number reply) (writes_of_all number replies) all))

pub writes_are_kept : WritesAreKept
writes_are_kept budget keys replies old new kept =
    let number = old.terms.number in
    let all : All (Contains new.wrotes) (wrotes_of new.terms.number new.wrotes) =
    All-filter (λ w. writer_of w == new.terms.number) (Contains new.wrotes) new.wrotes
    (All-contains_itself new.wrotes) in
    let own : All (Contains new.wrotes) (writes_of_all old.terms.number replies) =
    of_right (Contains new.wrotes) (wrotes_of new.terms.number old.wrotes) (writes_of_all old.terms.number replies)
    (subst (All (Contains new.wrotes)) kept.gains.own_writes all) in
    subst (λ (t : SeatTerms). All (λ reply. All (Contains new.wrotes) (writes_of t.number reply)) replies)
    (sym kept.gains.grows.terms) (of_each (Contains new.wrotes) old.terms.number replies own)
