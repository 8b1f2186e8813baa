use Rattle.std.proofs.Common.{codes}
use Rattle.green_cli.specs.DumpText.{refused_text}
use Rattle.green_cli.proofs.DumpLemmas.{on_ok_joined}
use Rattle.green_cli.proofs.dump_text.push_uncertified.Goals as goal

pub returns : goal.returns
returns c =
    on_ok_joined _ _ _ _ (codes "uncertified ") (refused_text c.args.refused) c.in_ok-push_str.ensures.text
    c.push_refused.ensures
