use Rattle.std.proofs.Common.{◌≡◌, drop, get_or, rules}
use Rattle.std.specs.Int.{IsInRange}
use Rattle.std.proofs.lemmas.List.{take_rest}
use Rattle.script.proofs.Rows.{number_token}
use Rattle.script.proofs.token.token_at.Goals as goal

pub returns-in-48-to-57 : goal.returns-in-48-to-57
returns-in-48-to-57 c =
    let left : c.in_ok-rest.rest.now ≡ drop c.args.at c.args.line.now = search (rules, take_rest) in
    let digit : IsInRange 48 57 (get_or c.in_ok-rest.rest.now 0 0) = search rules in
    (search rules, number_token _ _ _ _ left c.leading_digits.ensures digit)
