-- What a part of a plan file is read as, and the codes of cuts.
use Rattle.std.specs.Prelude.{◌≡◌, ◌<◌, Result, MatchResult}
use Rattle.cut.specs.declared.Cut.{Cut}
use Rattle.event.specs.declared.Refusal.{Refusal}
use Rattle.event.specs.declared.Refusal.TheVariants.{UnlawfulCut}
use Rattle.plan.specs.Layout.{cut_of, LawfulNumber}
use Rattle.plan.specs.declared.code.CutCode.{CutCode}

-- a value of which P holds, where a question is answered yes, and otherwise the refusal
abbrev pub Asked : {A : Type 0} → Type 0 → (A → Type 0) → Refusal → Result A Refusal → Type 0
Asked question P refusal r = MatchResult r (λ x. question × P x) (λ e. (question → ⊥) × (e ≡ refusal))

-- a kind that there is, and a number that it allows
abbrev pub LawfulCode : CutCode → Type 0
LawfulCode c = (c.kind < 4) × LawfulNumber c.kind c.number

-- the cut of a lawful code
abbrev pub Decodes : CutCode → Result Cut Refusal → Type 0
Decodes c r = Asked (LawfulCode c) (λ x. x ≡ cut_of c.kind c.number) UnlawfulCut r
