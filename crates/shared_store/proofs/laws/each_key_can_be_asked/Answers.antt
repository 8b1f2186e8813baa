use Rattle.shared_store.proofs.AskingLemmas.{Laws, each_key, each_key_solved}
use Rattle.shared_store.proofs.laws.each_key_can_be_asked.Goals as goal

pub returns : goal.returns
returns c =
    let laws : Laws = record {
      own = c.entries_decide_their_keys.ensures;
      answers = c.answers_exist.ensures;
      firsts = c.first_places_exist.ensures;
      cores = c.refuted_keys_have_cores.ensures;
      chosen = c.chosen_are_keys.ensures;
      shrunk = c.shrunk_entries_decide.ensures;
    } in
    record { asked = each_key (each_key_solved laws); solved = each_key_solved laws }
