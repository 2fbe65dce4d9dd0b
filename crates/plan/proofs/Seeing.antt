-- The properties of every plan, and the laws of sight.
use Rattle.std.proofs.Common.{◌≡◌, ℕ, ◌<◌, Bool, true, false, cond, ◌&&◌, ltb, List, [], ◌∷◌, IfSome, Some, None, Option, refl, ap, ◌∙◌}
use Rattle.std.proofs.lemmas.Bool.{and_parts, ltb-true, lt-ltb}
use Rattle.std.specs.List.{AllByRecursion, cons_option}
use Rattle.event.specs.declared.Event.{Event}
use Rattle.cut.specs.Cuts.{cut_value, LeftBy}
use Rattle.order.specs.Orders.{table_entry}
use Rattle.plan.specs.Plans.{PlanModel, model, LawfulPlan, carrying, sight, sights, Seen, SightLaws}
use Rattle.plan.specs.declared.plan.Plan.{Plan}
use Rattle.cut.proofs.Cutting.{cut_law}
use Rattle.order.specs.OrderLaws.{among_inside}
use Rattle.order.proofs.Ordering.{table_order_among}

-- no plan exists without its properties
pub plan_lawful : (p : Plan) → LawfulPlan (model p)
plan_lawful p =
    let o = p.order in
    let i = p.lawful_inputs in
    record {
      some_level = o.some;
      few_levels = o.few;
      release_channels = i.released;
      few_inputs = i.few;
      some_output = p.lawful_outputs.some;
      few_outputs = p.lawful_outputs.few;
      ordered = table_order_among o;
      inside = λ a b h. among_inside o.levels (table_entry o.rows) a b h;
      release_level = i.release_level;
      input_level_in = i.level_in;
      output_level_in = p.lawful_outputs.level_in;
      cuts = i.cuts;
    }

module _ (P : PlanModel) (lawful : LawfulPlan P) where
  whole : (l : ℕ) (e : Event) → e.channel < P.inputs → P.below (P.input_level e.channel) l ≡ true → sight P l e ≡ Some e
  whole l e h b = rw (lt-ltb _ _ h, lt-ltb _ _ (lawful.inside _ l b).1, b)

  -- what a cut leaves is seen again as it is
  twice_cut : (l : ℕ) (e : Event) (in_plan : (ltb e.channel P.inputs && ltb l P.levels) ≡ true) (above : P.below (P.input_level e.channel) l ≡ false)
      (left : Option ℕ) → cut_value (P.cut e.channel l) e.value ≡ left → IfSome left (LeftBy (P.cut e.channel l))
      → IfSome (carrying e.channel left) (Seen P l e)
  twice_cut l e in_plan above None q h = tt
  twice_cut l e in_plan above (Some w) q h = record { channel = refl; word = h.word; again = rw (in_plan, above) (ap (carrying e.channel) h.again) }

  twice_by : (l : ℕ) (e : Event) → e.value < 65536 → (in_plan whole_there : Bool) → (ltb e.channel P.inputs && ltb l P.levels) ≡ in_plan
      → P.below (P.input_level e.channel) l ≡ whole_there
      → IfSome (cond in_plan (cond whole_there (Some e) (carrying e.channel (cut_value (P.cut e.channel l) e.value))) None) (Seen P l e)
  twice_by l e h false w p q = tt
  twice_by l e h true true p q = record { channel = refl; word = h; again = rw (p, q) }
  twice_by l e h true false p q =
      let parts = and_parts (ltb e.channel P.inputs) (ltb l P.levels) p in
      twice_cut l e p q (cut_value (P.cut e.channel l) e.value) refl
      (cut_law (P.cut e.channel l) e.value (lawful.cuts e.channel l (ltb-true _ _ parts.0) (ltb-true _ _ parts.1)) h)

  twice : (l : ℕ) (e : Event) → e.value < 65536 → IfSome (sight P l e) (Seen P l e)
  twice l e h = twice_by l e h _ _ refl refl

  again_then : (l : ℕ) (e : Event) (part : Option Event) (es : List Event) → IfSome part (Seen P l e) → sights P l es ≡ es
      → sights P l (cons_option part es) ≡ cons_option part es
  again_then l e None es h q = q
  again_then l e (Some s) es h q = ap (λ x. cons_option x (sights P l es)) h.again ∙ ap (λ xs. s ∷ xs) q

  list_twice : (l : ℕ) (es : List Event) → AllByRecursion (λ e. e.value < 65536) es → sights P l (sights P l es) ≡ sights P l es
  list_twice l [] h = refl
  list_twice l (e ∷ es) h = again_then l e (sight P l e) (sights P l es) (twice l e h.0) (list_twice l es h.1)

  pub sight_laws : SightLaws P
  sight_laws = record { whole = whole; twice = twice; list_twice = list_twice }

pub plan_sight_laws : (p : Plan) → SightLaws (model p)
plan_sight_laws p = sight_laws (model p) (plan_lawful p)
