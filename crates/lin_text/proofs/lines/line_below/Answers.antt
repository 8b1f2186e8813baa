use Rattle.std.proofs.Common.{◌≡◌, ◌+◌, drop, sym, ap, subst, ◌∙◌, arith}
use Rattle.std.specs.List.{prefix_len}
use Rattle.lin_text.specs.Lines.{is_in_line, line_below, StartsLine}
use Rattle.lin_text.proofs.LineLemmas.{line_below_starts}
use Rattle.lin_text.proofs.lines.line_below.Goals as goal

pub returns-then-end-bytes-clause-starts : goal.returns-then-end-bytes-clause-starts
returns-then-end-bytes-clause-starts c =
    let run : c.run_length.result ≡ prefix_len is_in_line (drop c.args.at c.args.bytes.now) = c.run_length.ensures.count
    ∙ ap (prefix_len is_in_line) c.bytes_from.ensures in
    let there : c.args.at + c.run_length.result + 1 ≡ line_below c.args.bytes.now c.args.at = omega arith in
    subst (StartsLine c.args.bytes.now) (sym there) (line_below_starts c.args.bytes.now c.args.at c.requires)
