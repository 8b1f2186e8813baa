-- Lines with required options and with positional arguments are lines too.
use Rattle.std.proofs.Common.{true, codes, refl, Some}
use Rattle.clap.specs.Words.{App, Rule, new_app, new_rule, with_rule}
use Rattle.clap.specs.declared.builder.action.ArgAction.TheVariants.{Set, SetTrue}
use Rattle.green_cli.specs.Words.{IsLine}

-- `--store F`, which has to be there, and the flag `--proof`
with_file : App
with_file =
    let file : Rule = record (new_rule (codes "store")) {
      long = Some (codes "store");
      action = Some Set;
      required = true;
    } in
    let flag : Rule = record (new_rule (codes "proof")) { long = Some (codes "proof"); action = Some SetTrue } in
    with_rule (with_rule (new_app (codes "dump")) file) flag

check_with_file : IsLine with_file
unfolding with_file
check_with_file = record { simple = refl; free = refl; alone = refl; defaults = refl }

-- `SEED COUNT`, by their places
with_places : App
with_places =
    let seed : Rule = record (new_rule (codes "seed")) { action = Some Set; required = true } in
    let count : Rule = record (new_rule (codes "count")) { action = Some Set; required = true } in
    with_rule (with_rule (new_app (codes "gen")) seed) count

check_with_places : IsLine with_places
unfolding with_places
check_with_places = record { simple = refl; free = refl; alone = refl; defaults = refl }
