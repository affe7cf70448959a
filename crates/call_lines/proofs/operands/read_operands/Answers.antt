use Rattle.std.proofs.Common.{refl}
use Rattle.openings.specs.declared.form.Form.TheVariants.{One, Two, Three, Recipe}
use Rattle.wire.specs.Said.{kind_number}
use Rattle.call_lines.proofs.OperandBytes.{written_by}
use Rattle.call_lines.proofs.Stopping.{gives_as}
use Rattle.call_lines.proofs.operands.read_operands.Goals as goal

pub returns-in-One : goal.returns-in-One
returns-in-One c = gives_as _ c.read_fields.result _ _ (written_by One (kind_number c.args.kind) c.args.kind c.args.line.now c.in-One.ensures refl) c.read_fields.ensures

pub returns-in-Two : goal.returns-in-Two
returns-in-Two c = gives_as _ c.read_fields-in-Two.result _ _ (written_by Two (kind_number c.args.kind) c.args.kind c.args.line.now c.in-Two.ensures refl) c.read_fields-in-Two.ensures

pub returns-in-Three : goal.returns-in-Three
returns-in-Three c = gives_as _ c.read_fields-in-Three.result _ _ (written_by Three (kind_number c.args.kind) c.args.kind c.args.line.now c.in-Three.ensures refl) c.read_fields-in-Three.ensures

pub returns-in-Recipe : goal.returns-in-Recipe
returns-in-Recipe c = gives_as _ c.read_recipe.result _ _ (written_by Recipe (kind_number c.args.kind) c.args.kind c.args.line.now c.in-Recipe.ensures refl) c.read_recipe.ensures
