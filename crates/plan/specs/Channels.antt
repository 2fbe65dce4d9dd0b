-- The channels of a plan.
use Rattle.std.specs.Prelude.{◌≡◌, ℕ, ◌<◌, ◌≤◌, true, List, [], length, slice_index, slice_index_or}
use Rattle.cut.specs.Cuts.{lawful_cut}
use Rattle.cut.specs.declared.Cut.{Cut}
use Rattle.cut.specs.declared.Cut.TheVariants.{Hidden}
use Rattle.plan.specs.declared.channel.InputChannel.{InputChannel}

-- the input channel of a number
abbrev pub input_at : List InputChannel → ℕ → InputChannel
input_at inputs c = slice_index_or inputs c (record { level = 0; cuts = record { items = [] } })

-- the cut of an input channel at a level
abbrev pub cut_entry : List InputChannel → ℕ → ℕ → Cut
cut_entry inputs c l = slice_index_or (input_at inputs c).cuts.items l Hidden

-- input channels that a plan of n levels may have
pub record LawfulInputs (n : ℕ) (inputs : List InputChannel) : Type 0 where
  pub released : n ≤ length inputs
  pub few : length inputs ≤ 32
  -- input channel r below the number of levels is the release channel of level r
  pub release_level : (r : ℕ) → r < n → (input_at inputs r).level ≡ r
  pub level_in : (c : ℕ) → c < length inputs → (input_at inputs c).level < n
  -- each has a cut for each level
  pub whole_row : (c : ℕ) → c < length inputs → length (input_at inputs c).cuts.items ≡ n
  pub cuts : (c l : ℕ) → c < length inputs → l < n → lawful_cut (cut_entry inputs c l) ≡ true

-- levels of output channels that a plan of n levels may have
pub record LawfulOutputs (n : ℕ) (outputs : List ℕ) : Type 0 where
  pub some : 1 ≤ length outputs
  pub few : length outputs ≤ 32
  pub level_in : (c : ℕ) → c < length outputs → slice_index outputs c < n
