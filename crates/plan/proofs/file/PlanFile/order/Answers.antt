use Rattle.std.proofs.Common.{◌≡◌, ℕ, ◌<◌, rules, arith}
use Rattle.order.specs.Orders.{table_entry}
use Rattle.plan.specs.Layout.{file_levels, file_below}
use Rattle.plan.proofs.Whole.{table_says}
use Rattle.plan.proofs.file.PlanFile.order.Goals as goal

pub returns : goal.returns
returns c =
    let f = c.args.self.now.bytes.now in
    let same : (a b : ℕ) → a < file_levels f → b < file_levels f → table_entry c.order_rows.result a b ≡ file_below f a b =
    λ a b la lb. table_says f c.order_rows.result a b c.order_rows.ensures (omega (arith, c.args.self.now.sizes.few_levels, c.args.self.now.sized.levels)) la lb in
    search rules
