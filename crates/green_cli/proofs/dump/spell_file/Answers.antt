use Rattle.std.proofs.Common.{◌≡◌, ap, ◌∙◌, subst, Option, Some, List, ℕ, rules}
use Rattle.std.specs.Option.{IfSome}
use Rattle.journal.specs.Recovery.{IsRecovered}
use Rattle.green_cli.proofs.dump.spell_file.Goals as goal

pub returns-clause-dumped : goal.returns-clause-dumped
returns-clause-dumped g c =
    let found = c.in_ok-recovered.recovered in
    let read = c.in_ok-recovered.ensures {u = tt} in
    let bound : (g.D.Disk.state c.bind.new.self).name ≡ Some c.as_str.result.now = search rules in
    record {
      found = found;
      recovered = subst (λ (content : Option (List ℕ)). IfSome content (λ file. IsRecovered file found))
          c.bind.ensures.looks.content read.recovered;
      in_order = read.in_order;
      entries = c.of_entries.ensures;
      named = c.scan.ensures.looks.name ∙ (bound ∙ ap (λ (name : List ℕ). Some name) c.as_str.ensures);
      spelled = c.in_ok-text.ensures {u = tt};
    }
