use Rattle.std.proofs.Common.{ap, ◌∙◌, position, bytes_eq, ℕ, Vec, Global}
use Rattle.lin_text.proofs.NameLemmas.{position-map}
use Rattle.lin_text.proofs.names.Names.place.Goals as goal

pub returns-clause-place : goal.returns-clause-place
returns-clause-place c =
    c.get_index_of.ensures.index
    ∙ position-map (λ (k : Vec ℕ Global). k.items) (bytes_eq c.args.name.now) c.self.inside.set.keys
    ∙ ap (position (bytes_eq c.args.name.now)) c.self.view_is
