-- A plan has at most one file.
use Rattle.std.proofs.Common.{◌≡◌, ℕ, zero, suc, ◌+◌, ◌-◌, ◌*◌, ◌/◌, ◌%◌, ◌<◌, ◌≤◌, eqb, List, length, sym, refl, ap, ◌∙◌, subst, mod-lt, div-add-mod', arith}
use Rattle.std.proofs.lemmas.Bool.Decides.{nat_tests}
use native.Mathlib.Decide.{dec_lt}
use Rattle.std.proofs.lemmas.Nat.{div_below}
use Rattle.std.proofs.lemmas.List.{same_lists, get_or_default}
use Rattle.bits.specs.Fields.{bit, field}
use Rattle.bits.proofs.Laws.{field_lt, same_bits, same_file}
use Rattle.event.specs.Questions.{AllYes}
use Rattle.plan.specs.Layout.{file_levels, file_inputs, file_outputs, order_at, input_levels_at, output_levels_at, cuts_at, end_at, below_in, level_in, cut_of, cut_in, cut_place, LawfulNumber, LawfulIn, plan_questions, Described, OneFile}
use Rattle.plan.specs.Plans.{PlanModel}
use Rattle.cut.specs.declared.Cut.{Cut}
use Rattle.cut.specs.declared.Cut.TheVariants.{Hidden, Bare, Mask, Step}

-- one bit, by whether it is 1
same_bit : (x y : ℕ) → x < 2 → y < 2 → eqb x 1 ≡ eqb y 1 → x ≡ y
same_bit x y hx hy e = grind (arith, nat_tests)

-- what holds below a bound and from it on
cases : {A : Type 0} (j k : ℕ) → (j < k → A) → (k ≤ j → A) → A
cases j k below from = elim (dec_lt j k) [ yes l ↦ below l | no n ↦ from (omega arith) ]

-- a cut has one kind and one lawful number
kind_of : Cut → ℕ
kind_of Hidden = 0
kind_of Bare = 1
kind_of (Mask m) = 2
kind_of (Step s) = 3

number_of : Cut → ℕ
number_of Hidden = 0
number_of Bare = 0
number_of (Mask m) = m
number_of (Step s) = s

kind_back : (k v : ℕ) → k < 4 → kind_of (cut_of k v) ≡ k
unfolding kind_of
kind_back zero v h = refl
kind_back (suc zero) v h = refl
kind_back (suc (suc zero)) v h = refl
kind_back (suc (suc (suc zero))) v h = refl
kind_back (suc (suc (suc (suc k)))) v h = absurd (omega arith)

number_back : (k v : ℕ) → LawfulNumber k v → number_of (cut_of k v) ≡ v
unfolding number_of
number_back zero v l = sym (l.hidden refl)
number_back (suc zero) v l = sym (l.bare refl)
number_back (suc (suc zero)) v l = refl
number_back (suc (suc (suc k))) v l = refl

-- what a file with n levels, i inputs and o outputs says of a plan
record Says (f : List ℕ) (n i o : ℕ) (P : PlanModel) : Type 0 where
  levels : field f 0 3 + 1 ≡ n
  inputs : field f 3 5 + 1 ≡ i
  outputs : field f 8 5 + 1 ≡ o
  spare : field f 13 3 ≡ 0
  long : length f ≡ (end_at n i o + 7) / 8
  padding : field f (end_at n i o) (8 * length f - end_at n i o) ≡ 0
  below : (a b : ℕ) → a < n → b < n → P.below a b ≡ below_in f n a b
  input_level : (k : ℕ) → k < i - n → P.input_level (n + k) ≡ level_in f (input_levels_at n) k
  output_level : (c : ℕ) → c < o → P.output_level c ≡ level_in f (output_levels_at n i) c
  lawful : (c l : ℕ) → c < i → l < n → LawfulIn f (cut_place (cuts_at n i o) n c l)
  cut : (c l : ℕ) → c < i → l < n → P.cut c l ≡ cut_in f (cut_place (cuts_at n i o) n c l)

says : (f : List ℕ) (P : PlanModel) → AllYes (plan_questions f) → Described f P → Says f P.levels P.inputs P.outputs P
says f P asked d = record {
  levels = sym d.levels;
  inputs = sym d.inputs;
  outputs = sym d.outputs;
  spare = asked.1.1.1.0.0;
  long = at_sizes (λ n i o. length f ≡ (end_at n i o + 7) / 8) asked.1.1.0;
  padding = at_sizes (λ n i o. field f (end_at n i o) (8 * length f - end_at n i o) ≡ 0) asked.1.1.1.0.1;
  below = λ a b la lb. d.below a b la lb ∙ ap (λ n. below_in f n a b) (sym d.levels);
  input_level = λ k h. d.input_level (P.levels + k) (omega arith) (omega arith)
      ∙ ap (λ n. level_in f (input_levels_at n) (P.levels + k - n)) (sym d.levels)
      ∙ ap (level_in f (input_levels_at P.levels)) (omega arith);
  output_level = λ c h. d.output_level c h ∙ at_sizes (λ n i o. level_in f (output_levels_at (file_levels f) (file_inputs f)) c ≡ level_in f (output_levels_at n i) c) refl;
  lawful = at_sizes (λ n i o. (c l : ℕ) → c < i → l < n → LawfulIn f (cut_place (cuts_at n i o) n c l)) asked.1.1.1.1.1.1.0;
  cut = λ c l hc hl. d.cut c l hc hl
      ∙ at_sizes (λ n i o. cut_in f (cut_place (cuts_at (file_levels f) (file_inputs f) (file_outputs f)) (file_levels f) c l) ≡ cut_in f (cut_place (cuts_at n i o) n c l)) refl;
}
  where
    at_sizes : (Q : ℕ → ℕ → ℕ → Type 0) → Q (file_levels f) (file_inputs f) (file_outputs f) → Q P.levels P.inputs P.outputs
    at_sizes Q h =
        subst (λ k. Q k P.inputs P.outputs) (sym d.levels)
        (subst (λ k. Q (file_levels f) k P.outputs) (sym d.inputs) (subst (λ k. Q (file_levels f) (file_inputs f) k) (sym d.outputs) h))

module _ (f g : List ℕ) (n i o : ℕ) (P : PlanModel) (some : 1 ≤ n) (sf : Says f n i o P) (sg : Says g n i o P) where
  -- a bit in a field that both files have alike
  in_field : (p w j : ℕ) → field f p w ≡ field g p w → p ≤ j → j < p + w → bit f j ≡ bit g j
  in_field p w j e lo hi = let at : p + (j - p) ≡ j = omega arith in subst (λ k. bit f k ≡ bit g k) at (same_bits f g p p w (j - p) e (omega arith))

  sizes : (j : ℕ) → j < 16 → bit f j ≡ bit g j
  sizes j h =
      cases j 3 (λ l. in_field 0 3 j (omega (arith, sf.levels, sg.levels)) (omega arith) (omega arith)) (λ l3.
      cases j 8 (λ l. in_field 3 5 j (omega (arith, sf.inputs, sg.inputs)) (omega arith) (omega arith)) (λ l8.
      cases j 13 (λ l. in_field 8 5 j (omega (arith, sf.outputs, sg.outputs)) (omega arith) (omega arith))
      (λ l13. in_field 13 3 j (sf.spare ∙ sym sg.spare) (omega arith) (omega arith))))

  order : (j : ℕ) → 16 ≤ j → j < input_levels_at n → bit f j ≡ bit g j
  order j lo hi =
      let a = (j - 16) / n in
      let b = (j - 16) % n in
      let place : order_at + (a * n + b) ≡ j = omega (arith, div-add-mod' (j - 16) n) in
      let la : a < n = div_below (j - 16) n n some (omega arith) in
      let lb : b < n = mod-lt (j - 16) some in
      let e : field f (order_at + (a * n + b)) 1 ≡ field g (order_at + (a * n + b)) 1 =
      same_bit _ _ (field_lt f (order_at + (a * n + b)) 1) (field_lt g (order_at + (a * n + b)) 1) (sym (sf.below a b la lb) ∙ sg.below a b la lb) in
      in_field (order_at + (a * n + b)) 1 j e (omega arith) (omega arith)

  input_levels : (j : ℕ) → input_levels_at n ≤ j → j < output_levels_at n i → bit f j ≡ bit g j
  input_levels j lo hi =
      let k = (j - input_levels_at n) / 3 in
      let h : k < i - n = omega arith in
      in_field (input_levels_at n + 3 * k) 3 j (sym (sf.input_level k h) ∙ sg.input_level k h) (omega arith) (omega arith)

  output_levels : (j : ℕ) → output_levels_at n i ≤ j → j < cuts_at n i o → bit f j ≡ bit g j
  output_levels j lo hi =
      let k = (j - output_levels_at n i) / 3 in
      let h : k < o = omega arith in
      in_field (output_levels_at n i + 3 * k) 3 j (sym (sf.output_level k h) ∙ sg.output_level k h) (omega arith) (omega arith)

  cuts : (j : ℕ) → cuts_at n i o ≤ j → j < end_at n i o → bit f j ≡ bit g j
  cuts j lo hi =
      let q = (j - cuts_at n i o) / 18 in
      let c = q / n in
      let l = q % n in
      let at = cut_place (cuts_at n i o) n c l in
      let hq : q < i * n = omega arith in
      let whole : c * n + l ≡ q = div-add-mod' q n in
      let hc : c < i = div_below q n i some hq in
      let hl : l < n = mod-lt q some in
      let same : cut_of (field f at 2) (field f (at + 2) 16) ≡ cut_of (field g at 2) (field g (at + 2) 16) = sym (sf.cut c l hc hl) ∙ sg.cut c l hc hl in
      let kinds : field f at 2 ≡ field g at 2 =
      sym (kind_back _ (field f (at + 2) 16) (field_lt f at 2)) ∙ ap kind_of same ∙ kind_back _ (field g (at + 2) 16) (field_lt g at 2) in
      let numbers : field f (at + 2) 16 ≡ field g (at + 2) 16 =
      sym (number_back (field f at 2) _ (sf.lawful c l hc hl)) ∙ ap number_of same ∙ number_back (field g at 2) _ (sg.lawful c l hc hl) in
      cases j (at + 2) (λ h. in_field at 2 j kinds (omega arith) (omega arith)) (λ h. in_field (at + 2) 16 j numbers (omega arith) (omega arith))

  padding_bits : (j : ℕ) → end_at n i o ≤ j → j < 8 * length f → bit f j ≡ bit g j
  padding_bits j lo hi =
      let len : length f ≡ length g = sf.long ∙ sym sg.long in
      let e : field f (end_at n i o) (8 * length f - end_at n i o) ≡ field g (end_at n i o) (8 * length f - end_at n i o) =
      sf.padding ∙ sym (ap (λ k. field g (end_at n i o) (8 * k - end_at n i o)) len ∙ sg.padding) in
      in_field (end_at n i o) (8 * length f - end_at n i o) j e lo (omega arith)

  all_bits : (j : ℕ) → j < 8 * length f → bit f j ≡ bit g j
  all_bits j h =
      cases j 16 (sizes j) (λ l1.
      cases j (input_levels_at n) (order j l1) (λ l2.
      cases j (output_levels_at n i) (input_levels j l2) (λ l3.
      cases j (cuts_at n i o) (output_levels j l3) (λ l4.
      cases j (end_at n i o) (cuts j l4) (λ l5. padding_bits j l5 h)))))

pub one_file : OneFile
one_file f g P bf bg yf yg df dg =
    let sf = says f P yf df in
    let sg = says g P yg dg in
    let len : length f ≡ length g = sf.long ∙ sym sg.long in
    let same = same_file f g bf bg len (all_bits f g P.levels P.inputs P.outputs P (omega (arith, df.levels)) sf sg) in
    same_lists f g len (λ k d h. get_or_default f k d 0 h ∙ same k h ∙ get_or_default g k 0 d (omega arith))
