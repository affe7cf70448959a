use Rattle.std.proofs.Common.{◌∙◌, ap, List, ℕ, rules}
use Rattle.std.specs.List.{flat_map}
use Rattle.fields.specs.Bytes.{field_bytes}
use Rattle.fields.proofs.Words.{made, flat_fields}
use Rattle.fields.proofs.writing.fill_row.Goals as goal

pub returns : goal.returns
returns g c =
    c.copy_from_slice.ensures.after ∙ c.as_flattened.ensures.value
    ∙ ap (flat_map (λ (xs : List ℕ). xs)) (made _ field_bytes 0 _ c.args.fields g.row.N c.from_fn-words.result (λ i y q h met. search rules) (search rules) c.from_fn-words.ensures.items)
    ∙ flat_fields c.args.fields
