-- What a plan means, and what a level sees of events under it.
use Rattle.std.specs.Prelude.{◌≡◌, ℕ, ◌<◌, ◌≤◌, Bool, true, if◌then◌else◌, ◌&&◌, List, IfSome, Some, None, Option, nat_lt, length, slice_index}
use Rattle.std.specs.List.{AllByRecursion, filter_map}
use Rattle.event.specs.declared.Event.{Event}
use Rattle.cut.specs.Cuts.{cut_value, lawful_cut}
use Rattle.order.specs.Orders.{table_entry, among, PartialOrder}
use Rattle.plan.specs.Channels.{input_at, cut_entry}
use Rattle.cut.specs.declared.Cut.{Cut}
use Rattle.cut.specs.declared.Cut.TheVariants.{Hidden}
use Rattle.order.specs.OrderTables.{level_count, table_rows}
use Rattle.order.specs.declared.table.OrderTable.{OrderTable}
use Rattle.plan.specs.declared.channel.InputChannel.{InputChannel}
use Rattle.plan.specs.declared.plan.Plan.{Plan}

-- A plan by what it says. Of the functions only the values at its own levels and channels count.
pub record PlanModel : Type 0 where
  pub levels : ℕ
  pub inputs : ℕ
  pub outputs : ℕ
  -- whether the first level is below the second
  pub below : ℕ → ℕ → Bool
  -- the level of an input channel, and of an output channel
  pub input_level : ℕ → ℕ
  pub output_level : ℕ → ℕ
  -- the cut of an input channel at a level
  pub cut : ℕ → ℕ → Cut

-- what an order, input channels and levels of output channels say as the parts of a plan
abbrev pub model_of : OrderTable → List InputChannel → List ℕ → PlanModel
model_of order inputs outputs = record {
  levels = level_count order;
  inputs = length inputs;
  outputs = length outputs;
  below = among (level_count order) (table_entry (table_rows order));
  input_level = λ c. (input_at inputs c).level;
  output_level = λ c. slice_index outputs c;
  cut = cut_entry inputs;
}

-- what a plan of the program says
abbrev pub model : Plan → PlanModel
model p = model_of p.order p.inputs.items p.outputs.items

-- the plan that one begins with: one level, one channel each way, and a hidden cut
pub record FirstPlan (P : PlanModel) : Type 0 where
  pub levels : P.levels ≡ 1
  pub inputs : P.inputs ≡ 1
  pub outputs : P.outputs ≡ 1
  pub below : P.below 0 0 ≡ true
  pub input_level : P.input_level 0 ≡ 0
  pub output_level : P.output_level 0 ≡ 0
  pub cut : P.cut 0 0 ≡ Hidden

-- the properties of every plan that exists
pub record LawfulPlan (P : PlanModel) : Type 0 where
  pub some_level : 1 ≤ P.levels
  pub few_levels : P.levels ≤ 8
  pub release_channels : P.levels ≤ P.inputs
  pub few_inputs : P.inputs ≤ 32
  pub some_output : 1 ≤ P.outputs
  pub few_outputs : P.outputs ≤ 32
  pub ordered : PartialOrder P.levels P.below
  pub inside : (a b : ℕ) → P.below a b ≡ true → (a < P.levels) × (b < P.levels)
  pub release_level : (r : ℕ) → r < P.levels → P.input_level r ≡ r
  pub input_level_in : (c : ℕ) → c < P.inputs → P.input_level c < P.levels
  pub output_level_in : (c : ℕ) → c < P.outputs → P.output_level c < P.levels
  pub cuts : (c l : ℕ) → c < P.inputs → l < P.levels → lawful_cut (P.cut c l) ≡ true

-- whether level l sees the events of input channel c whole: the channel's level is below l
abbrev pub sees_whole : PlanModel → ℕ → ℕ → Bool
sees_whole P l c = nat_lt c P.inputs && P.below (P.input_level c) l

-- an event on channel c with the value that a cut leaves, if it leaves one
abbrev pub carrying : ℕ → Option ℕ → Option Event
carrying c None = None
carrying c (Some v) = Some (record { channel = c; value = v })

-- The sight of an event at level l: the event itself, if its channel's level is below l; otherwise
-- the same channel with the value cut by that channel's cut at l, or nothing if the cut hides it. A
-- channel or a level that the plan does not have gives nothing.
abbrev pub sight : PlanModel → ℕ → Event → Option Event
sight P l e =
    if nat_lt e.channel P.inputs && nat_lt l P.levels
    then (if P.below (P.input_level e.channel) l then Some e else carrying e.channel (cut_value (P.cut e.channel l) e.value))
    else None

-- the sight of a list of events: that of each in order, absent ones left out
abbrev pub sights : PlanModel → ℕ → List Event → List Event
sights P l es = filter_map (sight P l) es

-- s is what level l sees of the event e: it is on the same channel, has 16 bits, and seeing it again gives it again
pub record Seen (P : PlanModel) (l : ℕ) (e s : Event) : Type 0 where
  pub channel : s.channel ≡ e.channel
  pub word : s.value < 65536
  pub again : sight P l s ≡ Some s

-- the laws of sight under a plan
pub record SightLaws (P : PlanModel) : Type 0 where
  -- an event on a channel whose level is below l comes whole
  pub whole : (l : ℕ) (e : Event) → e.channel < P.inputs → P.below (P.input_level e.channel) l ≡ true → sight P l e ≡ Some e
  -- the sight of a sight is that sight, of one event and of a list
  pub twice : (l : ℕ) (e : Event) → e.value < 65536 → IfSome (sight P l e) (Seen P l e)
  pub list_twice : (l : ℕ) (es : List Event) → AllByRecursion (λ e. e.value < 65536) es → sights P l (sights P l es) ≡ sights P l es
