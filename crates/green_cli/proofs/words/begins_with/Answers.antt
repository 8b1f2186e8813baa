use Rattle.std.proofs.Common.{◌≡◌, Some, sym, ap, ◌∙◌, map, option_map}
use Rattle.std.specs.Prelude.{slice_get}
use Rattle.std.specs.String.{string_bytes}
use Rattle.std.proofs.lemmas.Option.{slice_get-map}
use Rattle.green_cli.proofs.words.begins_with.Goals as goal

pub returns-in-Some : goal.returns-in-Some
returns-in-Some c =
    let first : slice_get (map (λ word. string_bytes word) c.args.words.now) 0 ≡ Some
    (string_bytes c.in-Some.word.now) =
    slice_get-map (λ word. string_bytes word) c.args.words.now 0
    ∙ ap (option_map (λ word. string_bytes word)) (sym c.in-Some.ensures.value) in (
      λ is. first ∙ ap Some (c.is_text.ensures.0 is),
      λ is. let same : string_bytes c.in-Some.word.now ≡ c.args.first.now = cc in c.is_text.ensures.1 same,
    )
