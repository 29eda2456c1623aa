-- A line that sets a run of host pages, alone: what it does stands between its begin and its answer, and but for its looks each event of it is shown.
use Rattle.std.proofs.Common.{◌≡◌, ◌==◌, ◌+◌, ◌++◌, ◌∷◌, [], ℕ, zero, suc, List, Bool, true, false, refl, ap, ◌∙◌, if◌then◌else◌}
use Rattle.std.specs.Prelude.{Option, Some, None}
use Rattle.core_views.specs.declared.answer.Answer.TheVariants.{Done, Refused}
use Rattle.core_views.specs.declared.answer.Refusal.{Refusal}
use Rattle.core_views.specs.declared.answer.Refusal.TheVariants.{OutOfRange}
use Rattle.core_views.specs.declared.event.Event.{Event}
use Rattle.core_views.specs.declared.event.EventKind.TheVariants.{Exited, LookedAtHost}
use Rattle.core_views.specs.declared.sizes.Sizes.{Sizes}
use Rattle.core_views.specs.declared.trace.Command.TheVariants.{ChangeRun}
use Rattle.core_views.specs.declared.trace.Line.{Line}
use Rattle.core_views.specs.declared.trace.RunChange.{RunChange}
use Rattle.core_views.specs.declared.trace.RunChange.TheVariants.{Huge, Small}
use Rattle.core_views.specs.Alone.{without_looks}
use Rattle.core_views.specs.Events.{facts_after}
use Rattle.core_views.specs.Flat.{Facts}
use Rattle.core_views.specs.FlatHistory.{by, doing_by, looking_around, looking_at_run, looking_on, setting_kind, setting_run, unless_refused}
use Rattle.core_views.specs.Host.{HostMap, is_huge}
use Rattle.core_views.specs.HostRuns.{run_first, run_pages, run_refusal}
use Rattle.core_views.proofs.HostLines.{owned_answer}
use Rattle.flat_laws.proofs.MigrationsStand.{Closed, closed_more}

-- ---- they stand within the line

unless_closed : (line : Line) (skips : Bool) (xs es : List Event) → Closed line es → Closed line (xs ++ es) → Closed line ((if skips then [] else xs) ++ es)
unless_closed line true xs es here there = here
unless_closed line false xs es here there = there

on_closed : (line : Line) (host : HostMap) (page n : ℕ) (es : List Event) → Closed line es → Closed line (looking_on line host page n ++ es)
on_closed line host page zero es C = C
on_closed line host page (suc n) es C =
    closed_more line (LookedAtHost page) _ tt
    (unless_closed line (is_huge (host page)) (looking_on line host (page + 1) n) es C (on_closed line host (page + 1) n es C))

either_closed : (line : Line) (skips : Bool) (other : ℕ) (xs es : List Event) → Closed line (xs ++ es)
    → Closed line ((if skips then xs else by line (LookedAtHost other) ∷ xs) ++ es)
either_closed line true other xs es C = C
either_closed line false other xs es C = closed_more line (LookedAtHost other) _ tt C

around_closed : (line : Line) (page other n : ℕ) (es : List Event) → Closed line es → Closed line (looking_around line page other n ++ es)
around_closed line page other zero es C = C
around_closed line page other (suc n) es C =
    either_closed line (page == other) other (looking_around line page (other + 1) n) es (around_closed line page (other + 1) n es C)

setting_closed : (line : Line) (page n level : ℕ) (f : Facts) → Closed line (setting_run line page n level f)
setting_closed line page zero level f = record { within = []; answer = Done; are_within = tt; events_are = refl }
setting_closed line page (suc n) level f =
    closed_more line (setting_kind page level f) _ tt (setting_closed line (page + 1) n level (facts_after (setting_kind page level f) f))

refused_closed : (line : Line) (refusal : Option Refusal) (es : List Event) → Closed line es → Closed line (unless_refused line refusal es)
refused_closed line None es C = C
refused_closed line (Some refusal) es C =
    closed_more line (Exited (Refused refusal)) _ tt (record { within = []; answer = Refused refusal; are_within = tt; events_are = refl })

-- by whether the run is the actor's own
pub run_closed : (z : Sizes) (line : Line) (page : ℕ) (change : RunChange) (f : Facts) (own : Bool)
    → Closed line ((if own then looking_at_run line page change f.host else []) ++ doing_by z line (ChangeRun page change) f (owned_answer own))
run_closed z line page change f false = record { within = []; answer = Refused OutOfRange; are_within = tt; events_are = refl }
run_closed z line page (Huge level) f true =
    on_closed line f.host page (run_pages level) _
    (refused_closed line (run_refusal f.host page (Huge level)) _ (setting_closed line page (run_pages level) level f))
run_closed z line page Small f true =
    closed_more line (LookedAtHost page) _ tt
    (around_closed line page (run_first Small page (f.host page)) (run_pages (f.host page).level) _
    (setting_closed line (run_first Small page (f.host page)) (run_pages (f.host page).level) 1 f))

-- ---- they are shown

unless_shows : (skips : Bool) (xs es : List Event) → without_looks (xs ++ es) ≡ without_looks es
    → without_looks ((if skips then [] else xs) ++ es) ≡ without_looks es
unless_shows true xs es shows = refl
unless_shows false xs es shows = shows

on_shows : (line : Line) (host : HostMap) (page n : ℕ) (es : List Event) → without_looks (looking_on line host page n ++ es) ≡ without_looks es
on_shows line host page zero es = refl
on_shows line host page (suc n) es = unless_shows (is_huge (host page)) (looking_on line host (page + 1) n) es (on_shows line host (page + 1) n es)

either_shows : (line : Line) (skips : Bool) (other : ℕ) (xs es : List Event) → without_looks (xs ++ es) ≡ without_looks es
    → without_looks ((if skips then xs else by line (LookedAtHost other) ∷ xs) ++ es) ≡ without_looks es
either_shows line true other xs es shows = shows
either_shows line false other xs es shows = shows

around_shows : (line : Line) (page other n : ℕ) (es : List Event) → without_looks (looking_around line page other n ++ es) ≡ without_looks es
around_shows line page other zero es = refl
around_shows line page other (suc n) es =
    either_shows line (page == other) other (looking_around line page (other + 1) n) es (around_shows line page (other + 1) n es)

setting_shows : (line : Line) (page n level : ℕ) (f : Facts) → without_looks (setting_run line page n level f) ≡ setting_run line page n level f
setting_shows line page zero level f = refl
setting_shows line page (suc n) level f =
    ap (λ (es : List Event). by line (setting_kind page level f) ∷ es) (setting_shows line (page + 1) n level (facts_after (setting_kind page level f) f))

refused_shows : (line : Line) (refusal : Option Refusal) (es : List Event) → without_looks es ≡ es
    → without_looks (unless_refused line refusal es) ≡ unless_refused line refusal es
refused_shows line None es shows = shows
refused_shows line (Some refusal) es shows = refl

pub run_shows : (z : Sizes) (line : Line) (page : ℕ) (change : RunChange) (f : Facts) (own : Bool)
    → without_looks ((if own then looking_at_run line page change f.host else []) ++ doing_by z line (ChangeRun page change) f (owned_answer own))
    ≡ doing_by z line (ChangeRun page change) f (owned_answer own)
run_shows z line page change f false = refl
run_shows z line page (Huge level) f true =
    on_shows line f.host page (run_pages level) _
    ∙ refused_shows line (run_refusal f.host page (Huge level)) _ (setting_shows line page (run_pages level) level f)
run_shows z line page Small f true =
    around_shows line page (run_first Small page (f.host page)) (run_pages (f.host page).level) _
    ∙ setting_shows line (run_first Small page (f.host page)) (run_pages (f.host page).level) 1 f
