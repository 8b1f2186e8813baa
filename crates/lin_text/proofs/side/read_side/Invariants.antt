use Rattle.std.proofs.Common.{◌≡◌, ◌-◌, ◌≤◌, false, length, vec_len}
use Rattle.lin_text.specs.Reading.{items_from}
use Rattle.lin_text.proofs.SideLemmas.{behind}
use Rattle.lin_text.proofs.side.read_side.Given as goal

-- what is read from the token on completes the terms so far
abbrev pub invariant-loop-token : goal.invariant-loop-token
invariant-loop-token g l = record {
  order : l.token.from ≤ l.token.to;
  within : l.token.to ≤ length l.bytes;
  few : vec_len l.terms ≤ 64;
  same : behind l.terms.items (items_from (64 - vec_len l.terms) l.in_proof l.bytes
      (g.N.Numbering.number l.names) l.subtracted l.token)
      ≡ items_from 64 l.in_proof l.bytes (g.N.Numbering.number l.names) false l.fn.first;
}

abbrev pub decreases-loop-token : goal.decreases-loop-token
decreases-loop-token g l = 64 - vec_len l.terms
