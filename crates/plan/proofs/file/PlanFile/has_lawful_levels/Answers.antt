use Rattle.std.proofs.Common.{◌+◌, ◌-◌, ◌<◌, rules, refl, arith}
use Rattle.plan.specs.Layout.{file_levels}
use Rattle.plan.specs.Reading.{file_level}
use Rattle.order.proofs.Ranges.{all_below}
use Rattle.plan.proofs.Whole.{given_lawful}
use Rattle.plan.proofs.file.PlanFile.has_lawful_levels.Goals as goal

pub returns : goal.returns
returns c =
    let f = c.args.self.now.bytes.now in
    let s = c.args.self.now.sizes in
    let z = c.args.self.now.sized in
    let each = all_below (λ k. file_level f k < file_levels f) (s.inputs - s.levels + s.outputs) _ _ _ c.all.ensures.ran refl (λ x q k. search rules) (λ x q k. search rules) in
    let whole = given_lawful f in
    (λ t. whole.0 (λ k l. each.0 t k (omega (arith, z.levels, z.inputs, z.outputs))), λ h. each.1 (λ k l. whole.1 h k (omega (arith, z.levels, z.inputs, z.outputs))))
