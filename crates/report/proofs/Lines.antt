-- The lines on what a level sees, event by event.
use Rattle.std.proofs.Common.{◌≡◌, ℕ, ◌+◌, ◌<◌, List, [], ◌∷◌, ◌++◌, Some, None, Option, get_or, length, take, refl, ap, ◌∙◌}
use Rattle.std.proofs.lemmas.List.{flat_map_more, take_more}
use Rattle.std.specs.List.{cons_option, flat_map}
use Rattle.event.specs.declared.Event.{Event}
use Rattle.plan.specs.Plans.{PlanModel, sight, sights}
use Rattle.report.specs.Reports.{sight_line}

-- the line of what level l sees of an event, if it sees something
abbrev pub line_of : PlanModel → ℕ → Option Event → List ℕ
line_of P l None = []
line_of P l (Some s) = sight_line P l s

line_first : (P : PlanModel) (l : ℕ) (part : Option Event) (ss : List Event)
    → flat_map (sight_line P l) (cons_option part ss) ≡ line_of P l part ++ flat_map (sight_line P l) ss
line_first P l None ss = refl
line_first P l (Some s) ss = refl

-- the lines of a sight are those that the events give one by one
lines_each : (P : PlanModel) (l : ℕ) (es : List Event) → flat_map (sight_line P l) (sights P l es) ≡ flat_map (λ e. line_of P l (sight P l e)) es
lines_each P l [] = refl
lines_each P l (e ∷ es) = line_first P l (sight P l e) (sights P l es) ∙ ap (λ ls. line_of P l (sight P l e) ++ ls) (lines_each P l es)

-- a turn of a loop over events: the line of one more behind those of the events before it
pub lines_more : (P : PlanModel) (l : ℕ) (es : List Event) (i : ℕ) (d : Event) → i < length es
    → flat_map (sight_line P l) (sights P l (take i es)) ++ line_of P l (sight P l (get_or es i d)) ≡ flat_map (sight_line P l) (sights P l (take (i + 1) es))
lines_more P l es i d h = simp (lines_each, take_more es i d h) (flat_map_more _ [] (take i es) (get_or es i d))
