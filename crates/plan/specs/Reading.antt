-- What the readers of a plan file and of its parts promise.
use Rattle.std.specs.Prelude.{◌≡◌, ℕ, ◌+◌, ◌-◌, ◌*◌, ◌/◌, ◌<◌, ◌≤◌, Bool, false, List, [], length, map, if◌then◌else◌, nat_lt, Result, MatchResult, slice_index_or}
use Rattle.std.specs.List.{range_with_len}
use Rattle.bits.specs.Fields.{field}
use Rattle.event.specs.Questions.{AllYes, FirstNo}
use Rattle.event.specs.Refusals.{refusal_number}
use Rattle.event.specs.declared.Refusal.{Refusal}
use Rattle.order.specs.Orders.{table_entry, among}
use Rattle.order.specs.OrderTables.{level_count, table_rows}
use Rattle.order.specs.declared.table.OrderTable.{OrderTable}
use Rattle.plan.specs.Layout.{file_levels, file_inputs, file_outputs, file_end, file_below, input_levels_at, level_in, file_input_level, file_cut_place, cut_in, LawfulIn, plan_questions, Described}
use Rattle.plan.specs.Plans.{model}
use Rattle.plan.specs.declared.channel.InputChannel.{InputChannel}
use Rattle.plan.specs.declared.plan.Plan.{Plan}
use Rattle.plan.specs.declared.sizes.Sizes.{Sizes}

-- s are the sizes that the file f says, and the first four questions are answered yes
pub record Sized (f : List ℕ) (s : Sizes) : Type 0 where
  pub levels : s.levels ≡ file_levels f
  pub inputs : s.inputs ≡ file_inputs f
  pub outputs : s.outputs ≡ file_outputs f
  pub long : 2 ≤ length f
  pub wide : file_levels f ≤ file_inputs f
  pub exact : length f ≡ (file_end f + 7) / 8
  pub spare : field f 13 3 ≡ 0
  pub padding : field f (file_end f) (8 * length f - file_end f) ≡ 0

-- whether a file says that a is below b; a number that is no level is neither below nor above any
unfoldable pub order_in : List ℕ → ℕ → ℕ → Bool
order_in f a b = among (file_levels f) (file_below f) a b

-- a row of the order's table, and the whole table
abbrev pub RowSays : List ℕ → ℕ → List Bool → Type 0
RowSays f a row = (b : ℕ) → b < 8 → slice_index_or row b false ≡ order_in f a b

abbrev pub TableSays : List ℕ → List (List Bool) → Type 0
TableSays f rows = (a : ℕ) → a < 8 → RowSays f a (slice_index_or rows a [])

-- the order of a file's levels, as the file gives it
pub record OrderOf (f : List ℕ) (t : OrderTable) : Type 0 where
  pub levels : level_count t ≡ file_levels f
  pub below : (a b : ℕ) → a < file_levels f → b < file_levels f → table_entry (table_rows t) a b ≡ file_below f a b

-- the k-th of the levels that a file gives its channels
abbrev pub file_level : List ℕ → ℕ → ℕ
file_level f k = level_in f (input_levels_at (file_levels f)) k

-- the level of an input channel: of a release channel its own number, and else what the file says
abbrev pub own_level : List ℕ → ℕ → ℕ
own_level f c = if nat_lt c (file_levels f) then c else file_input_level f c

-- the cuts of an input channel have numbers that their kinds allow
abbrev pub RowLawful : List ℕ → ℕ → Type 0
RowLawful f c = (l : ℕ) → l < file_levels f → LawfulIn f (file_cut_place f c l)

-- an input channel as a file gives it
abbrev pub input_in : List ℕ → ℕ → InputChannel
input_in f c = record {
  level = own_level f c;
  cuts = record { items = map (λ l. cut_in f (file_cut_place f c l)) (range_with_len 0 (file_levels f)) };
}

-- the plan of a file, or the number of the first question that is answered no
abbrev pub PlanOf : List ℕ → Result Plan Refusal → Type 0
PlanOf f r = MatchResult r (λ p. AllYes (plan_questions f) × Described f (model p)) (λ e. FirstNo (plan_questions f) (refusal_number e))

-- what reading a file makes of a plan: the plan that the file describes; or, by the number of the
-- first question that is answered no, it stays as it was
abbrev pub PlanReplaced : List ℕ → Plan → Result (Unit {0}) Refusal → Plan → Type 0
PlanReplaced f before r after =
    MatchResult r
    (λ _. AllYes (plan_questions f) × Described f (model after))
    (λ e. FirstNo (plan_questions f) (refusal_number e) × (after ≡ before))
