use Rattle.std.proofs.Common.{◌≡◌, ◌<◌, length, rules}
use Rattle.std.proofs.lemmas.Bool.{both_ways}
use Rattle.std.proofs.lemmas.List.{take_all}
use Rattle.script.proofs.Decimals.{reading, digit_in, other_length, leading_zero, reading_more, reading_below, read_as}
use Rattle.script.proofs.number.value_of.Goals as goal
use Rattle.script.proofs.number.value_of.Goals.{then-not-contains-via-then-not-contains, then-not-contains-via-else-not-contains+then-has_leading_zero}

pub returns-then-not-contains : goal.returns-then-not-contains
returns-then-not-contains c =
    elim c.then-not-contains.branch [
      | then-not-contains-via-then-not-contains w ↦ other_length _ (search rules)
      | then-not-contains-via-else-not-contains+then-has_leading_zero w ↦ leading_zero _ (w.has_leading_zero.ensures.0 w.if-has_leading_zero.true)
    ]

pub overflow_mul-value : goal.overflow_mul-value
overflow_mul-value c = search (rules, reading_below)

pub overflow_sub-digit : goal.overflow_sub-digit
overflow_sub-digit c = search (rules, digit_in)

pub overflow_add-value : goal.overflow_add-value
overflow_add-value c = search (rules, reading_below, digit_in)

pub loop-digit-preserved : goal.loop-digit-preserved
loop-digit-preserved c = search (rules, reading_more)

pub returns : goal.returns
returns c =
    let some : 0 < length c.args.digits.now = search rules in
    let read : c.loop-digit.value ≡ reading c.args.digits.now = search (rules, take_all) in
    rw c.ok.ensures.value (read_as _ c.requires c.try_from.result _ some (λ zero_first. both_ways _ c.if-has_leading_zero.false (c.has_leading_zero.ensures.1 zero_first)) read c.try_from.ensures)
