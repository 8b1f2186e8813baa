use Rattle.std.proofs.Common.{◌≡◌, ◌++◌, ◌∷◌, [], ap, ◌∙◌, map, position, bytes_eq, ℕ, List, None, Vec, Global}
use Rattle.lin_text.proofs.NameLemmas.{list_any-none, map-insert}
use Rattle.lin_text.proofs.names.Names.add.Goals as goal

pub returns-clause-added : goal.returns-clause-added
returns-clause-added c =
    let v = c.in_ok-from_slice.field-0 in
    let old = c.self.inside.set.keys in
    let bytes : Vec ℕ Global → List ℕ = λ k. k.items in
    let same : v.items ≡ c.args.name.now = c.in_ok-from_slice.ensures.items in
    let free : position (bytes_eq v.items) (map bytes old) ≡ None =
    ap (λ (x : List ℕ). position (bytes_eq x) (map bytes old)) same
    ∙ ap (position (bytes_eq c.args.name.now)) c.self.view_is ∙ c.requires.free in
    ap (map bytes) c.in_ok-insert.ensures.keys
    ∙ map-insert bytes _ old v (list_any-none bytes (bytes_eq v.items) old free)
    ∙ ap (λ (xs : List (List ℕ)). xs ++ v.items ∷ []) c.self.view_is
    ∙ ap (λ (x : List ℕ). c.args.self.now ++ x ∷ []) same
