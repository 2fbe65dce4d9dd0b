-- The text of the report on what each level sees.
use Rattle.std.specs.Prelude.{◌≡◌, ℕ, zero, suc, ◌+◌, if◌then◌else◌, Bool, not, ◌&&◌, List, [], ◌∷◌, ◌++◌, length, is_some, codes, decimal, filter}
use Rattle.std.specs.List.{flat_map}
use Rattle.event.specs.declared.Event.{Event}
use Rattle.plan.specs.Plans.{PlanModel, sees_whole, sight, sights}

-- the line of a refusal: an exclamation mark, a space and its number
abbrev pub refusal_line : ℕ → List ℕ
refusal_line k = codes "! " ++ (decimal k ++ (10 ∷ []))

-- the line of what is seen of one event, marked unless it is whole
abbrev pub seen_line : Bool → Event → List ℕ
seen_line whole s =
    codes "  channel " ++ (decimal s.channel ++ (codes ": " ++ (decimal s.value
    ++ ((if whole then [] else codes " (cut)") ++ (10 ∷ [])))))

-- the line of what level l sees of one event, marked if it was cut
abbrev pub sight_line : PlanModel → ℕ → Event → List ℕ
sight_line P l s = seen_line (sees_whole P l s.channel) s

-- how many of some events level l sees whole
abbrev pub whole_count : PlanModel → ℕ → List Event → ℕ
whole_count P l es = length (filter (λ e. is_some (sight P l e) && sees_whole P l e.channel) es)

-- how many it sees cut
abbrev pub cut_count : PlanModel → ℕ → List Event → ℕ
cut_count P l es = length (filter (λ e. is_some (sight P l e) && not (sees_whole P l e.channel)) es)

-- how many it does not see at all
abbrev pub absent_count : PlanModel → ℕ → List Event → ℕ
absent_count P l es = length (filter (λ e. not (is_some (sight P l e))) es)

-- each event is seen whole, cut or not at all, and those of the first two kinds make up the sight
abbrev pub CountsLaw : Type 0
CountsLaw = (P : PlanModel) (l : ℕ) (es : List Event) →
    (whole_count P l es + cut_count P l es + absent_count P l es ≡ length es)
    × (whole_count P l es + cut_count P l es ≡ length (sights P l es))

-- a closing line on level l, with three numbers
abbrev pub closing : ℕ → ℕ → ℕ → ℕ → List ℕ
closing l whole cut absent =
    codes "level " ++ (decimal l ++ (codes ": " ++ (decimal whole ++ (codes " whole, " ++ (decimal cut
    ++ (codes " cut, " ++ (decimal absent ++ (codes " not at all" ++ (10 ∷ [])))))))))

-- the closing line on level l: how many of some events it sees whole, cut, and not at all
abbrev pub tally_line : PlanModel → ℕ → List Event → List ℕ
tally_line P l es = closing l (whole_count P l es) (cut_count P l es) (absent_count P l es)

-- what is said of level l: a heading, a line for each event of its sight, and the closing line
abbrev pub level_text : PlanModel → ℕ → List Event → List ℕ
level_text P l es =
    codes "level " ++ (decimal l ++ (codes " sees:" ++ (10 ∷ (flat_map (sight_line P l) (sights P l es) ++ tally_line P l es))))

-- what is said of the first n levels, by rising number
abbrev pub levels_text : PlanModel → List Event → ℕ → List ℕ
levels_text P es zero = []
levels_text P es (suc l) = levels_text P es l ++ level_text P l es
