-- The text for a plan that is refused.
use Rattle.std.proofs.Common.{◌≡◌, ℕ, List, ap, ◌∙◌}
use Rattle.event.proofs.Asking.{never_both, one_first}
use Rattle.event.specs.Questions.{FirstNo}
use Rattle.plan.specs.Layout.{plan_questions}
use Rattle.report.specs.Reports.{refusal_line}
use Rattle.report.specs.Runs.{ReportOf}

-- the text of a refused plan
pub report_refused : (file script text : List ℕ) (k : ℕ) → FirstNo (plan_questions file) k → text ≡ refusal_line k → ReportOf file script text
report_refused file script text k no_to is = record {
  refused_plan = λ j n. is ∙ ap refusal_line (one_first (plan_questions file) k j no_to n);
  refused_script = λ y j n. absurd (never_both (plan_questions file) k y no_to);
  told = λ y z. absurd (never_both (plan_questions file) k y no_to);
}
