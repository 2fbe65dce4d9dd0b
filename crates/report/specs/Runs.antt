-- What is printed for a plan file and a script.
use Rattle.std.specs.Prelude.{◌≡◌, ℕ, List, [], ◌∷◌, ◌++◌, Ok, Err, Result}
use Rattle.std.specs.List.{flat_map}
use Rattle.event.specs.Questions.{AllYes, FirstNo}
use Rattle.event.specs.Refusals.{refusal_number}
use Rattle.event.specs.declared.Event.{Event}
use Rattle.event.specs.declared.Refusal.{Refusal}
use Rattle.plan.specs.Layout.{plan_questions, Described}
use Rattle.plan.specs.Plans.{PlanModel}
use Rattle.script.specs.Scripts.{script_questions, ScriptReads}
use Rattle.script.specs.declared.command.Command.{Command}
use Rattle.script.specs.declared.command.Command.TheVariants.{Feed, Collect}
use Rattle.report.specs.Reports.{refusal_line, levels_text}

-- the event of an answer that is a feed
abbrev pub event_in : Result Command Refusal → List Event
event_in (Ok (Feed e)) = e ∷ []
event_in (Ok (Collect l)) = []
event_in (Err e) = []

-- the line of an answer that is a refusal
abbrev pub line_in : Result Command Refusal → List ℕ
line_in (Ok c) = []
line_in (Err e) = refusal_line (refusal_number e)

-- the events of the feeds among some answers, in order
abbrev pub events_of : List (Result Command Refusal) → List Event
events_of rs = flat_map event_in rs

-- a line for each refusal among some answers, in order
abbrev pub refused_lines : List (Result Command Refusal) → List ℕ
refused_lines rs = flat_map line_in rs

-- what is printed for some answers: a line for each refusal, and then what each level sees
abbrev pub answers_text : PlanModel → List (Result Command Refusal) → List ℕ
answers_text P rs = refused_lines rs ++ levels_text P (events_of rs) P.levels

-- the text for a script under a plan: only the line of the first question on it that is answered
-- no, and otherwise what is printed for the answers to its lines
pub record ScriptReport (P : PlanModel) (script text : List ℕ) : Type 0 where
  pub refused : (k : ℕ) → FirstNo (script_questions script) k → text ≡ refusal_line k
  pub told : AllYes (script_questions script) → (rs : List (Result Command Refusal)) × ScriptReads script rs × (text ≡ answers_text P rs)

-- the text for a plan file and a script
pub record ReportOf (file script text : List ℕ) : Type 0 where
  -- a refused plan: only the line of the first question on the file that is answered no
  pub refused_plan : (k : ℕ) → FirstNo (plan_questions file) k → text ≡ refusal_line k
  -- a refused script: only the line of the first question on the script that is answered no
  pub refused_script : AllYes (plan_questions file) → (k : ℕ) → FirstNo (script_questions script) k → text ≡ refusal_line k
  -- and otherwise what is printed for the answers to its lines, under the plan that the file describes
  pub told : AllYes (plan_questions file) → AllYes (script_questions script)
      → (P : PlanModel) × Described file P × ((rs : List (Result Command Refusal)) × ScriptReads script rs × (text ≡ answers_text P rs))
