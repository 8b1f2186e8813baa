use Rattle.std.proofs.Common.{MatchOption, Option, subst}
use Rattle.cert_check.specs.declared.reply.Reply.{Reply}
use Rattle.cert_check.specs.Calls.{FailsInVain}
use Rattle.cert_check.specs.Decides.{NoneDecides}
use Rattle.shared_store.specs.Flights.{RepliesByHit}
use Rattle.shared_store.specs.Local.{seat_of_both}
use Rattle.shared_store.proofs.AfterLemmas.{AfterFlight, after_flight, fails_at_once, on_err}
use Rattle.shared_store.proofs.AskLemmas.{asks_by_hit, searched_by_hit}
use Rattle.shared_store.proofs.local.answer_key.Goals as goal

by_hit : (g : _) (c : goal.In-Some g) → RepliesByHit c.args.key.now c.args.books.now.core c.in-Some.reply
by_hit g c =
    subst (λ (o : Option Reply). MatchOption o (NoneDecides c.args.books.now.core.state.entries c.args.key.now)
    (RepliesByHit c.args.key.now c.args.books.now.core)) c.in-Some.is (c.in_ok-reply.ensures {u = tt})

pub returns-in-Some-clause-asks : goal.returns-in-Some-clause-asks
returns-in-Some-clause-asks g c =
    asks_by_hit c.args.budget c.args.key.now c.args.books.now.core c.args.books.now.journal c.in-Some.reply
    c.requires.own (by_hit g c)

pub returns-in-Some-clause-searched : goal.returns-in-Some-clause-searched
returns-in-Some-clause-searched g c =
    searched_by_hit c.args.budget c.args.key.now c.args.books.now.core c.in-Some.reply (by_hit g c)

pub returns-in_err-reply-clause-in_vain : goal.returns-in_err-reply-clause-in_vain
returns-in_err-reply-clause-in_vain g c =
    on_err c.from_residual.result (FailsInVain c.args.key.now
    (seat_of_both c.args.books.now.core c.args.books.now.journal)
    (seat_of_both c.args.books.now.core c.args.books.now.journal))
    (fails_at_once c.args.key.now c.args.books.now.core c.args.books.now.journal c.requires.own)

flown : (g : _) (c : goal.After-fly g)
    → AfterFlight c.args.budget c.args.key.now c.args.books.now c.fly.new.books c.fly.result
flown g c =
    after_flight c.cores_take_turns.ensures c.args.budget c.args.key.now c.args.books.now c.fly.new.books c.fly.result
    (record { own = c.requires.own; journal = c.requires.journal })
    (subst (λ (o : Option Reply). MatchOption o (NoneDecides c.args.books.now.core.state.entries c.args.key.now)
    (RepliesByHit c.args.key.now c.args.books.now.core)) c.in-None.is (c.in_ok-reply.ensures {u = tt}))
    c.fly.ensures.reply c.fly.ensures.in_vain

pub returns-in-None-clause-asks : goal.returns-in-None-clause-asks
returns-in-None-clause-asks g c = (flown g c).asks

pub returns-in-None-clause-searched : goal.returns-in-None-clause-searched
returns-in-None-clause-searched g c = (flown g c).searched

pub returns-in-None-clause-in_vain : goal.returns-in-None-clause-in_vain
returns-in-None-clause-in_vain g c = (flown g c).in_vain

pub returns-in-None-clause-own : goal.returns-in-None-clause-own
returns-in-None-clause-own g c = (flown g c).rests.own

pub returns-in-None-clause-journal : goal.returns-in-None-clause-journal
returns-in-None-clause-journal g c = (flown g c).rests.journal

pub returns-in-None-clause-origin : goal.returns-in-None-clause-origin
returns-in-None-clause-origin g c = (flown g c).rests.origin
