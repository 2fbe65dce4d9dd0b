-- What the parts of a plan file say of the whole.
use Rattle.std.proofs.Common.{◌≡◌, ℕ, zero, suc, ◌+◌, ◌-◌, ◌<◌, ◌≤◌, Bool, true, List, length, map, sym, refl, ap, ◌∙◌, subst, arith, lt-ltb, le-ltb}
use Rattle.std.specs.Prelude.{◌↔◌, slice_index, slice_index_or}
use Rattle.std.specs.List.{range_with_len}
use Rattle.std.proofs.lemmas.List.FromFn.{length-map-range_with_len, get_or-map-range_with_len}
use native.Mathlib.Decide.{dec_lt}
use Rattle.bits.proofs.Laws.{field_lt}
use Rattle.bits.specs.Fields.{field}
use Rattle.cut.specs.Cuts.{lawful_cut}
use Rattle.cut.specs.declared.Cut.TheVariants.{Hidden}
use Rattle.event.specs.Questions.{AllYes}
use Rattle.order.specs.OrderLaws.{among_in, order_like}
use Rattle.order.specs.Orders.{table_entry, PartialOrder}
use Rattle.order.specs.declared.table.OrderTable.{OrderTable}
use Rattle.plan.specs.Layout.{file_levels, file_inputs, file_outputs, file_below, file_input_level, file_output_level, file_cut_place, cut_of, cut_in, LawfulNumber, LevelsLawful, CutsLawful, plan_questions, Described}
use Rattle.plan.specs.Plans.{model_of}
use Rattle.plan.specs.Reading.{Sized, TableSays, order_in, OrderOf, file_level, own_level, input_in}
use Rattle.plan.specs.Channels.{input_at, cut_entry, LawfulInputs, LawfulOutputs}
use Rattle.plan.specs.declared.channel.InputChannel.{InputChannel}
use Rattle.plan.specs.declared.sizes.Sizes.{Sizes}
use Rattle.plan.proofs.Made.{made_length, made_at}

-- a cut with a number that its kind allows is one that a plan may have
lawful_of : (k v : ℕ) → k < 4 → LawfulNumber k v → lawful_cut (cut_of k v) ≡ true
lawful_of zero v h l = refl
lawful_of (suc zero) v h l = refl
lawful_of (suc (suc zero)) v h l = refl
lawful_of (suc (suc (suc zero))) v h l = lt-ltb 0 v (l.step refl)
lawful_of (suc (suc (suc (suc k)))) v h l = absurd (omega arith)

-- the level of a release channel, and of another input channel
own_release : (f : List ℕ) (r : ℕ) → r < file_levels f → own_level f r ≡ r
own_release f r h = rw (lt-ltb r (file_levels f) h)

own_other : (f : List ℕ) (c : ℕ) → file_levels f ≤ c → own_level f c ≡ file_input_level f c
own_other f c h = rw (le-ltb c (file_levels f) h)

-- the table of a file's order says of two levels what the file says
pub table_says : (f : List ℕ) (rows : List (List Bool)) (a b : ℕ) → TableSays f rows → file_levels f ≤ 8 → a < file_levels f → b < file_levels f → table_entry rows a b ≡ file_below f a b
unfolding order_in
table_says f rows a b says few la lb = says a (omega arith) b (omega arith) ∙ among_in (file_levels f) (file_below f) a b la lb

-- the levels that a file gives are those of its channels, one after another
pub given_lawful : (f : List ℕ) → ((k : ℕ) → k < file_inputs f - file_levels f + file_outputs f → file_level f k < file_levels f) ↔ LevelsLawful f
given_lawful f = (
  λ h. record {
    inputs = λ c n i. h (c - file_levels f) (omega arith);
    outputs = λ c o. subst (λ x. x < file_levels f) (sym (output_given f c)) (h (file_inputs f - file_levels f + c) (omega arith));
  },
  λ h k l. elim (dec_lt k (file_inputs f - file_levels f)) [
    | yes i ↦ subst (λ j. file_level f j < file_levels f) (let e : file_levels f + k - file_levels f ≡ k = omega arith in e) (h.inputs (file_levels f + k) (omega arith) (omega arith))
    | no o ↦ (let c = k - (file_inputs f - file_levels f) in
        let e : file_inputs f - file_levels f + c ≡ k = omega arith in
        subst (λ j. file_level f j < file_levels f) e (subst (λ x. x < file_levels f) (output_given f c) (h.outputs c (omega arith))))
  ],
)
  where
    output_given : (f : List ℕ) (c : ℕ) → file_output_level f c ≡ file_level f (file_inputs f - file_levels f + c)
    output_given f c = ap (λ at. field f at 3) (omega arith)

own_lawful : (f : List ℕ) → LevelsLawful f → (c : ℕ) → c < file_inputs f → own_level f c < file_levels f
own_lawful f h c i = elim (dec_lt c (file_levels f)) [
  | yes l ↦ subst (λ x. x < file_levels f) (sym (own_release f c l)) l
  | no g ↦ subst (λ x. x < file_levels f) (sym (own_other f c (omega arith))) (h.inputs c (omega arith) i)
]

-- a plan of the parts of a file
module _ (f : List ℕ) (s : Sizes) (z : Sized f s) (t : OrderTable) (order : OrderOf f t)
    (inputs : List InputChannel) (ins : inputs ≡ map (input_in f) (range_with_len 0 (file_inputs f)))
    (outputs : List ℕ) (outs : outputs ≡ map (file_output_level f) (range_with_len 0 (file_outputs f)))
    (levels : LevelsLawful f) (cuts : CutsLawful f) where
  ins_length : length inputs ≡ file_inputs f
  ins_length = made_length (input_in f) (file_inputs f) inputs ins

  outs_length : length outputs ≡ file_outputs f
  outs_length = made_length (file_output_level f) (file_outputs f) outputs outs

  input_is : (c : ℕ) → c < length inputs → input_at inputs c ≡ input_in f c
  input_is c h = made_at (input_in f) (file_inputs f) inputs _ c ins (omega (arith, ins_length))

  output_is : (c : ℕ) → c < length outputs → slice_index outputs c ≡ file_output_level f c
  output_is c h = made_at (file_output_level f) (file_outputs f) outputs 0 c outs (omega (arith, outs_length))

  cut_is : (c l : ℕ) → c < length inputs → l < t.levels → cut_entry inputs c l ≡ cut_in f (file_cut_place f c l)
  cut_is c l hc hl =
      ap (λ i. slice_index_or i.cuts.items l Hidden) (input_is c hc)
      ∙ get_or-map-range_with_len (λ k. cut_in f (file_cut_place f c k)) 0 (file_levels f) l l Hidden (omega (arith, order.levels)) (omega arith)

  -- has the properties of a plan
  pub inputs_lawful : LawfulInputs t.levels inputs
  inputs_lawful = record {
    released = omega (arith, order.levels, ins_length, z.wide);
    few = omega (arith, ins_length, z.inputs, s.few_inputs);
    release_level = λ r h. ap (λ i. i.level) (input_is r (omega (arith, order.levels, ins_length, z.wide))) ∙ own_release f r (omega (arith, order.levels));
    level_in = λ c h. omega (arith, order.levels, ap (λ i. i.level) (input_is c h), own_lawful f levels c (omega (arith, ins_length)));
    whole_row = λ c h. ap (λ i. length i.cuts.items) (input_is c h) ∙ length-map-range_with_len (λ k. cut_in f (file_cut_place f c k)) 0 (file_levels f) ∙ sym order.levels;
    cuts = λ c l hc hl. ap lawful_cut (cut_is c l hc hl)
        ∙ lawful_of _ _ (field_lt f (file_cut_place f c l) 2) (cuts c l (omega (arith, ins_length)) (omega (arith, order.levels)));
  }

  pub outputs_lawful : LawfulOutputs t.levels outputs
  outputs_lawful = record {
    some = omega (arith, outs_length);
    few = omega (arith, outs_length, z.outputs, s.few_outputs);
    level_in = λ c h. omega (arith, order.levels, output_is c h, levels.outputs c (omega (arith, outs_length)));
  }

  ordered : PartialOrder (file_levels f) (file_below f)
  ordered =
      subst (λ n. PartialOrder n (file_below f)) order.levels
      (order_like t.levels (table_entry t.rows) (file_below f) (λ a b la lb. order.below a b (omega (arith, order.levels)) (omega (arith, order.levels))) t.ordered)

  pub accepted : AllYes (plan_questions f)
  accepted = (z.long, (z.wide, (z.exact, ((z.spare, z.padding), (ordered, (levels, (cuts, tt)))))))

  pub described : Described f (model_of t inputs outputs)
  described = record {
    levels = order.levels;
    inputs = ins_length;
    outputs = outs_length;
    below = λ a b la lb. among_in t.levels (table_entry t.rows) a b la lb ∙ order.below a b (omega (arith, order.levels)) (omega (arith, order.levels));
    release_level = inputs_lawful.release_level;
    input_level = λ c hn hi. ap (λ i. i.level) (input_is c hi) ∙ own_other f c (omega (arith, order.levels));
    output_level = output_is;
    cut = cut_is;
  }

  -- every question on the file is answered yes, and the plan is the one that it describes
  pub whole : (g : List ℕ) → f ≡ g → AllYes (plan_questions g) × Described g (model_of t inputs outputs)
  whole g e = subst (λ h. AllYes (plan_questions h) × Described h (model_of t inputs outputs)) e (accepted, described)
