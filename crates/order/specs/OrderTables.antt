-- What an order by a table shows.
use Rattle.std.specs.Prelude.{ℕ, Bool, List}
use Rattle.order.specs.declared.table.OrderTable.{OrderTable}

-- how many levels it has
abbrev pub level_count : OrderTable → ℕ
level_count t = t.levels

-- its table: row a, column b
abbrev pub table_rows : OrderTable → List (List Bool)
table_rows t = t.rows
