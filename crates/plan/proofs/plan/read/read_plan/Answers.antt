use Rattle.plan.specs.Layout.{LevelsLawful}
use Rattle.plan.proofs.Whole.{inputs_lawful, outputs_lawful, whole}
use Rattle.plan.proofs.plan.read.read_plan.Goals as goal

pub invariant_of-result : goal.invariant_of-result
invariant_of-result c =
    let file = c.in_ok-file.file in
    let levels : LevelsLawful file.bytes.now = c.has_lawful_levels.ensures.0 c.if-not-has_lawful_levels.false in record {
      lawful_inputs = inputs_lawful file.bytes.now file.sizes file.sized _ c.in_ok-order.ensures.1 _ c.in_ok-inputs.ensures.1 _ c.outputs-outputs.ensures levels c.in_ok-inputs.ensures.0;
      lawful_outputs = outputs_lawful file.bytes.now file.sizes file.sized _ c.in_ok-order.ensures.1 _ c.in_ok-inputs.ensures.1 _ c.outputs-outputs.ensures levels c.in_ok-inputs.ensures.0;
    }

pub returns : goal.returns
returns c =
    let file = c.in_ok-file.file in
    let levels : LevelsLawful file.bytes.now = c.has_lawful_levels.ensures.0 c.if-not-has_lawful_levels.false in
    whole file.bytes.now file.sizes file.sized _ c.in_ok-order.ensures.1 _ c.in_ok-inputs.ensures.1 _ c.outputs-outputs.ensures levels c.in_ok-inputs.ensures.0 _ c.in_ok-file.ensures
