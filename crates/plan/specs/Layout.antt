-- The layout of a plan file, what is asked of it, and the plan that it describes.
use Rattle.std.specs.Prelude.{◌≡◌, ℕ, zero, suc, ◌+◌, ◌-◌, ◌*◌, ◌/◌, ◌<◌, ◌≤◌, Bool, List, [], ◌∷◌, length, ◌==◌, slice_index}
use Rattle.bits.specs.Fields.{field}
use Rattle.event.specs.Questions.{Question, AllYes}
use Rattle.order.specs.Orders.{PartialOrder}
use Rattle.plan.specs.Plans.{PlanModel}
use Rattle.cut.specs.declared.Cut.{Cut}
use Rattle.cut.specs.declared.Cut.TheVariants.{Hidden, Bare, Mask, Step}

-- the number of levels: one more than 3 bits from bit 0 on write
abbrev pub file_levels : List ℕ → ℕ
file_levels f = field f 0 3 + 1

-- the number of input channels: one more than 5 bits from bit 3 on write
abbrev pub file_inputs : List ℕ → ℕ
file_inputs f = field f 3 5 + 1

-- the number of output channels: one more than 5 bits from bit 8 on write
abbrev pub file_outputs : List ℕ → ℕ
file_outputs f = field f 8 5 + 1

-- where the order begins, after the 16 bits of sizes: for n levels, n rows of n bits
abbrev pub order_at : ℕ
order_at = 16

-- where the levels of the input channels from n on begin, behind the order: 3 bits each
abbrev pub input_levels_at : ℕ → ℕ
input_levels_at n = order_at + n * n

-- where the levels of the output channels begin, for i input channels: 3 bits each
abbrev pub output_levels_at : ℕ → ℕ → ℕ
output_levels_at n i = input_levels_at n + 3 * (i - n)

-- where the cuts begin, for o output channels: 18 bits for each input channel at each level
abbrev pub cuts_at : ℕ → ℕ → ℕ → ℕ
cuts_at n i o = output_levels_at n i + 3 * o

-- where the last cut ends, and zero bits up to the next whole byte begin
abbrev pub end_at : ℕ → ℕ → ℕ → ℕ
end_at n i o = cuts_at n i o + 18 * (i * n)

-- the cut of a kind (0 hidden, 1 bare, 2 mask, 3 step) and a number
abbrev pub cut_of : ℕ → ℕ → Cut
cut_of zero v = Hidden
cut_of (suc zero) v = Bare
cut_of (suc (suc zero)) v = Mask v
cut_of (suc (suc (suc k))) v = Step v

-- a number that the kind allows: 0 for hidden and bare, at least 1 for a step
pub record LawfulNumber (kind number : ℕ) : Type 0 where
  pub hidden : kind ≡ 0 → number ≡ 0
  pub bare : kind ≡ 1 → number ≡ 0
  pub step : kind ≡ 3 → 1 ≤ number

-- the cut whose bits begin at `at`: 2 bits of kind and 16 of number
abbrev pub cut_in : List ℕ → ℕ → Cut
cut_in f at = cut_of (field f at 2) (field f (at + 2) 16)

-- the cut whose bits begin at `at` has a number that its kind allows
abbrev pub LawfulIn : List ℕ → ℕ → Type 0
LawfulIn f at = LawfulNumber (field f at 2) (field f (at + 2) 16)

-- whether a file of n levels says that a is below b: row a, column b of the order
abbrev pub below_in : List ℕ → ℕ → ℕ → ℕ → Bool
below_in f n a b = field f (order_at + (a * n + b)) 1 == 1

-- the k-th of the levels that begin at bit `at`
abbrev pub level_in : List ℕ → ℕ → ℕ → ℕ
level_in f at k = field f (at + 3 * k) 3

-- where the cut of channel c at level l begins, of n levels and cuts from bit `at` on
abbrev pub cut_place : ℕ → ℕ → ℕ → ℕ → ℕ
cut_place at n c l = at + 18 * (c * n + l)

-- whether a is below b, by the file's own number of levels
abbrev pub file_below : List ℕ → ℕ → ℕ → Bool
file_below f = below_in f (file_levels f)

-- the level of an input channel that is no release channel
abbrev pub file_input_level : List ℕ → ℕ → ℕ
file_input_level f c = level_in f (input_levels_at (file_levels f)) (c - file_levels f)

-- the level of an output channel
abbrev pub file_output_level : List ℕ → ℕ → ℕ
file_output_level f c = level_in f (output_levels_at (file_levels f) (file_inputs f)) c

-- where the cut of channel c at level l begins, by the file's own sizes
abbrev pub file_cut_place : List ℕ → ℕ → ℕ → ℕ
file_cut_place f c l = cut_place (cuts_at (file_levels f) (file_inputs f) (file_outputs f)) (file_levels f) c l

-- where the padding begins, by the file's own sizes
abbrev pub file_end : List ℕ → ℕ
file_end f = end_at (file_levels f) (file_inputs f) (file_outputs f)

-- every level that the file gives a channel is one of its levels
pub record LevelsLawful (f : List ℕ) : Type 0 where
  pub inputs : (c : ℕ) → file_levels f ≤ c → c < file_inputs f → file_input_level f c < file_levels f
  pub outputs : (c : ℕ) → c < file_outputs f → file_output_level f c < file_levels f

-- every cut has a number that its kind allows
abbrev pub CutsLawful : List ℕ → Type 0
CutsLawful f = (c l : ℕ) → c < file_inputs f → l < file_levels f → LawfulIn f (file_cut_place f c l)

-- the seven questions of a plan file, in their order
abbrev pub plan_questions : List ℕ → List Question
plan_questions f =
    record { number = 1; asks = 2 ≤ length f }
    ∷ (record { number = 2; asks = file_levels f ≤ file_inputs f }
    ∷ (record { number = 3; asks = length f ≡ (file_end f + 7) / 8 }
    ∷ (record { number = 4; asks = (field f 13 3 ≡ 0) × (field f (file_end f) (8 * length f - file_end f) ≡ 0) }
    ∷ (record { number = 5; asks = PartialOrder (file_levels f) (file_below f) }
    ∷ (record { number = 6; asks = LevelsLawful f }
    ∷ (record { number = 7; asks = CutsLawful f }
    ∷ []))))))

-- the plan that a file describes
pub record Described (f : List ℕ) (P : PlanModel) : Type 0 where
  pub levels : P.levels ≡ file_levels f
  pub inputs : P.inputs ≡ file_inputs f
  pub outputs : P.outputs ≡ file_outputs f
  pub below : (a b : ℕ) → a < P.levels → b < P.levels → P.below a b ≡ file_below f a b
  -- input channel r below the number of levels is the release channel of level r
  pub release_level : (r : ℕ) → r < P.levels → P.input_level r ≡ r
  pub input_level : (c : ℕ) → P.levels ≤ c → c < P.inputs → P.input_level c ≡ file_input_level f c
  pub output_level : (c : ℕ) → c < P.outputs → P.output_level c ≡ file_output_level f c
  pub cut : (c l : ℕ) → c < P.inputs → l < P.levels → P.cut c l ≡ cut_in f (file_cut_place f c l)

-- files are made of bytes
abbrev pub Bytes : List ℕ → Type 0
Bytes f = (i : ℕ) → slice_index f i < 256

-- a plan has at most one file: two lawful files that describe the same plan are the same file, so
-- that no bit goes unread and no two parts overlap
abbrev pub OneFile : Type 0
OneFile = (f g : List ℕ) (P : PlanModel) → Bytes f → Bytes g → AllYes (plan_questions f) → AllYes (plan_questions g) → Described f P → Described g P → f ≡ g
