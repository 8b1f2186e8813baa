use Rattle.std.proofs.Common.{◌≡◌, List, length, true, subst}
use Rattle.std.specs.List.{All}
use Rattle.lin_model.specs.KeyAtom.{PlainKeyAtom}
use Rattle.key_tree.specs.Asked.{no_atom}
use Rattle.key_tree.specs.Prints.{hash_of}
use Rattle.sat_trie.proofs.WantedLemmas.{all_at}
use Rattle.sat_trie.proofs.wanted.Wanted.has_form.Goals as goal

pub returns : goal.returns
returns c = λ says.
    let asked = c.self.inside.asked.now in
    subst (λ (atoms : List PlainKeyAtom). All (λ a. ¬ (hash_of a.form ≡ c.args.hash)) atoms) c.self.view_is
    (all_at (λ a. ¬ (hash_of a.form ≡ c.args.hash)) asked c.self.inside.left.words (length asked)
    (λ place lt on same.
    let so : c.has_form.result ≡ true = c.has_form.ensures place no_atom lt same in
    absurd (cc)))
