-- What a level sees of one event.
use Rattle.std.specs.Prelude.{◌≡◌, ℕ, Bool, true, false, not, Some, None, Option, MatchOption}
use Rattle.event.specs.declared.Event.{Event}
use Rattle.plan.specs.Plans.{PlanModel, sees_whole, sight}
use Rattle.report.specs.declared.seen.SeenEvent.{SeenEvent}

-- what level l sees of an event, if anything, and whether that is the whole event
abbrev pub IsSeen : PlanModel → ℕ → Event → Option SeenEvent → Type 0
IsSeen P l e r =
    MatchOption r (sight P l e ≡ None)
    (λ s. (sight P l e ≡ Some s.event) × (s.whole ≡ sees_whole P l e.channel) × (s.event.channel ≡ e.channel))

-- whether an event is seen whole, by what is seen of it
abbrev pub is_whole : Option SeenEvent → Bool
is_whole None = false
is_whole (Some s) = s.whole

-- whether it is seen cut
abbrev pub is_cut : Option SeenEvent → Bool
is_cut None = false
is_cut (Some s) = not s.whole

-- whether it is not seen at all
abbrev pub is_absent : Option SeenEvent → Bool
is_absent None = true
is_absent (Some s) = false
