use Rattle.std.proofs.Common.{List, ℕ, subst, sym, ◌∙◌, arith, length-take, rules}
use Rattle.green_cli.specs.Input.{Consumes}
use Rattle.green_cli.proofs.InputLemmas.{Consumes-none, Consumes_more, drained, piece_failed, takes_more}
use Rattle.green_cli.proofs.input.read_input.Goals as goal

pub loop-turn-init : goal.loop-turn-init
loop-turn-init g c =
    let left = (g.S.Source.state c.args.source.now).left in
    record {
      taken = subst (λ (xs : List ℕ). Consumes left left xs) (sym c.new-bytes.ensures.items) (Consumes-none left);
      turns = omega arith;
      short = omega (arith, c.new-bytes.ensures.len);
      unfailed = search rules;
    }

pub returns-in_err-read_piece-clause-read : goal.returns-in_err-read_piece-clause-read
returns-in_err-read_piece-clause-read g c =
    let cause =
    piece_failed (g.S.Source.state c.args.source.now) (g.S.Source.state c.loop-turn.source)
    (g.S.Source.state c.read_piece.new.source)
    c.loop-turn.bytes.items c.in_err-read_piece.field-0.0 c.loop-turn.invariant.taken c.loop-turn.invariant.short
    c.loop-turn.invariant.unfailed
    (c.in_err-read_piece.ensures {u = tt}).cause in
    search rules

pub returns-in_err-read_piece-clause-bounded : goal.returns-in_err-read_piece-clause-bounded
returns-in_err-read_piece-clause-bounded g c =
    takes_more (g.S.Source.state c.args.source.now) (g.S.Source.state c.loop-turn.source)
    (g.S.Source.state c.read_piece.new.source)
    c.loop-turn.bytes.items _ _ c.loop-turn.invariant.taken c.read_piece.ensures.bounded
    (omega (arith, c.loop-turn.invariant.short, length-take c.min-room.result c.loop-turn.buffer))

pub returns-then-branch-eq0-clause-bounded : goal.returns-then-branch-eq0-clause-bounded
returns-then-branch-eq0-clause-bounded g c = record {
  bytes = c.read_piece.new.bytes.items;
  taken = Consumes_more _ _ _ c.loop-turn.bytes.items c.read_piece.new.bytes.items c.loop-turn.invariant.taken
      c.in_ok-read_piece.ensures.taken;
  few = omega (arith, c.in_ok-read_piece.ensures.len, c.if-branch-eq0.true, c.loop-turn.invariant.short);
}

pub returns-then-branch-eq0-clause-read : goal.returns-then-branch-eq0-clause-read
returns-then-branch-eq0-clause-read g c = record {
  whole = drained _ _ _ c.loop-turn.bytes.items c.read_piece.new.bytes.items c.loop-turn.invariant.taken
      c.in_ok-read_piece.ensures.taken (c.in_ok-read_piece.ensures.end c.if-branch-eq0.true
      (omega (arith, c.loop-turn.invariant.short, length-take c.min-room.result c.loop-turn.buffer)));
  short = omega (arith, c.in_ok-read_piece.ensures.len, c.if-branch-eq0.true, c.loop-turn.invariant.short);
  unfailed = c.in_ok-read_piece.ensures.unfailed ∙ c.loop-turn.invariant.unfailed;
}

pub returns-then-len-gt-MAX_INPUT-clause-bounded : goal.returns-then-len-gt-MAX_INPUT-clause-bounded
returns-then-len-gt-MAX_INPUT-clause-bounded g c = record {
  bytes = c.read_piece.new.bytes.items;
  taken = Consumes_more _ _ _ c.loop-turn.bytes.items c.read_piece.new.bytes.items c.loop-turn.invariant.taken
      c.in_ok-read_piece.ensures.taken;
  few = omega (
    arith,
    c.in_ok-read_piece.ensures.len,
    c.in_ok-read_piece.ensures.count,
    length-take c.min-room.result
        c.loop-turn.buffer,
    c.loop-turn.invariant.short,
  );
}

pub returns-then-len-gt-MAX_INPUT-clause-read : goal.returns-then-len-gt-MAX_INPUT-clause-read
returns-then-len-gt-MAX_INPUT-clause-read g c = record {
  bytes = c.read_piece.new.bytes.items;
  given = Consumes_more _ _ _ c.loop-turn.bytes.items c.read_piece.new.bytes.items c.loop-turn.invariant.taken
      c.in_ok-read_piece.ensures.taken;
  long = omega (
    arith,
    c.in_ok-read_piece.ensures.len,
    c.in_ok-read_piece.ensures.count,
    length-take c.min-room.result
        c.loop-turn.buffer,
  );
  unfailed = c.in_ok-read_piece.ensures.unfailed ∙ c.loop-turn.invariant.unfailed;
}

pub loop-turn-preserved : goal.loop-turn-preserved
loop-turn-preserved g c = record {
  taken = Consumes_more _ _ _ c.loop-turn.bytes.items c.read_piece.new.bytes.items c.loop-turn.invariant.taken
      c.in_ok-read_piece.ensures.taken;
  turns = omega (arith, c.in_ok-read_piece.ensures.len);
  short = omega (arith, c.in_ok-read_piece.ensures.len);
  unfailed = c.in_ok-read_piece.ensures.unfailed ∙ c.loop-turn.invariant.unfailed;
}
