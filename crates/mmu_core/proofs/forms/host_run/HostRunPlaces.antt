-- A line that maps a run of host pages as one, or its pages by themselves, at its places: where it goes on to and ends, and how many steps it has left.
use Rattle.std.proofs.Props.{props}
use Rattle.std.proofs.Common.{◌≡◌, ◌+◌, ◌*◌, ◌<◌, ◌≤◌, [], ◌∷◌, ℕ, Bool, true, false, refl, arith}
use Rattle.std.specs.Option.{IfSome}
use Rattle.std.specs.Prelude.{◌==◌, ◌&&◌, if◌then◌else◌, nat_lt, Option, None, Some}
use Rattle.core_views.specs.declared.answer.Answer.{Answer}
use Rattle.core_views.specs.declared.answer.Answer.TheVariants.{Refused}
use Rattle.core_views.specs.declared.answer.Refusal.TheVariants.{IsHuge, NotAligned, OutOfRange}
use Rattle.core_views.specs.declared.event.EventKind.TheVariants.{HostChanged, LookedAtHost}
use Rattle.core_views.specs.declared.place.BeginPlace.TheVariants as begins
use Rattle.core_views.specs.declared.place.EndPlace.TheVariants as ends
use Rattle.core_views.specs.declared.place.HostRunPlace.{HostRunPlace}
use Rattle.core_views.specs.declared.place.HostRunPlace.TheVariants.{Look, LookOn, Begin, Change, End}
use Rattle.core_views.specs.declared.place.Place.TheVariants as place
use Rattle.core_views.specs.declared.sizes.Sizes.{Sizes}
use Rattle.core_views.specs.declared.topics.HostLook.{HostLook}
use Rattle.core_views.specs.declared.topics.HostRow.{HostRow}
use Rattle.core_views.specs.declared.topics.PageRun.{PageRun}
use Rattle.core_views.specs.declared.topics.Topics.{Topics}
use Rattle.core_views.specs.declared.trace.RunChange.{RunChange}
use Rattle.core_views.specs.declared.trace.RunChange.TheVariants.{Huge, Small}
use Rattle.core_views.specs.Held.{Held}
use Rattle.core_views.specs.HostRuns.{owns_run, run_count}
use Rattle.core_views.specs.Traces.{IsRunChange}
use Rattle.spte_words.specs.Entries.{level_span}
use Rattle.spte_words.specs.HostWords.{host_present}
use Rattle.spte_words.proofs.Spans.{spans}
use Rattle.part_steps.specs.declared.part_step.PartStep.TheVariants as part
use Rattle.part_steps.specs.PageRuns.{is_several, looked_on, one_look}
use Rattle.part_steps.specs.PartTasks.{word_looked, word_next}
use Rattle.mmu_core.specs.declared.outcome.Outcome.{Outcome}
use Rattle.mmu_core.specs.declared.outcome.Outcome.TheVariants.{Goes, Ends}
use Rattle.mmu_core.specs.forms.access.AccessSteps.{exiting}
use Rattle.mmu_core.specs.forms.host.HostSteps.{entry_of, maps_large}
use Rattle.mmu_core.specs.forms.host_run.HostRunKnows.{ChangesPages, ChangesRun, HostRunKnows, HostRunRests}
use Rattle.mmu_core.specs.forms.host_run.HostRunLeft.{host_run_left, most_frames, pages_left}
use Rattle.mmu_core.specs.forms.host_run.HostRunSteps.{after_next_look, after_page, after_run_change, after_run_look, as_it_is, fits, host_run_outcome}
use Rattle.mmu_core.specs.forms.host_run.HostRunSteps.{host_run_part, host_run_tells, page_after, page_changed, run_target, wants_small}
use Rattle.mmu_core.specs.lines.PartWaits.{part_waits}
use Rattle.mmu_core.specs.orders.InvalidateKnows.{FramesAre}
use Rattle.mmu_core.proofs.forms.access.AccessEnds.{AreFed}
use Rattle.mmu_core.proofs.forms.host_run.RunTargets.{each_target}
use Rattle.mmu_core.proofs.lines.EitherPlace.{either_place}
use Rattle.mmu_core.proofs.lines.PartsWait.{neither_waits}
use Rattle.mmu_core.proofs.machine.GoesOn.{GoesUnderWay, GoesWithin}
use Rattle.mmu_core.proofs.orders.InvalidatePlaces.{begin_few, end_few}

-- ---- where it goes on to

-- What holds of each outcome of a look, and of each place after a change.
pub each_look : (P : Outcome → Type 0) (change : RunChange) (look : HostLook) (row : HostRow) (v : ℕ) → P (Ends (Refused IsHuge))
    → P (Goes (place.HostRun LookOn)) → P (Goes (place.HostRun (Begin begins.Exclude))) → P (Ends (Refused NotAligned))
    → P (after_run_look change look row v)
each_look P change look row v huge on begin not_ =
    either_place P (wants_small change && maps_large v) (Ends (Refused IsHuge)) _ huge
    (either_place P (nat_lt row.looked (run_count change (entry_of look.word))) (Goes (place.HostRun LookOn)) _ on
    (either_place P (fits change look row) (Goes (place.HostRun (Begin begins.Exclude))) (Ends (Refused NotAligned)) begin not_))

pub each_next_look : (P : Outcome → Type 0) (change : RunChange) (o : Option HostLook) (row : HostRow) (page v : ℕ) → P (Ends (Refused OutOfRange))
    → P (Ends (Refused IsHuge)) → P (Goes (place.HostRun LookOn)) → P (Goes (place.HostRun (Begin begins.Exclude))) → P (Ends (Refused NotAligned))
    → P (after_next_look change o row page v)
each_next_look P change None row page v out huge on begin not_ = out
each_next_look P change (Some look) row page v out huge on begin not_ =
    each_look P change look (looked_on (Some look) row page v) v huge on begin not_

pub each_change : (P : HostRunPlace → Type 0) (t : Topics) (v : ℕ) → P Change → P (End ends.Exclude) → P (after_run_change t v)
each_change P t v on over =
    either_place P (is_several t.invalidations.own.pages)
    (if v == word_next t.invalidations.own.pages then after_page t.invalidations.own.pages else Change)
    (if v == word_looked t.host then End ends.Exclude else Change)
    (either_place P (v == word_next t.invalidations.own.pages) (after_page t.invalidations.own.pages) Change (by t.invalidations.own.pages) on)
    (either_place P (v == word_looked t.host) (End ends.Exclude) Change over on)
  where
    by : (o : Option PageRun) → P (after_page o)
    by None = over
    by (Some run) = either_place P (nat_lt (run.changed + 1) (level_span run.level)) Change (End ends.Exclude) on over

abbrev GoesOn : Outcome → Type 0
GoesOn o = GoesUnderWay o × GoesWithin (place.HostRun Look) o

pub host_run_goes : (p : HostRunPlace) (page : ℕ) (change : RunChange) (h : Held) (v : ℕ) → GoesOn (host_run_outcome p page change h v)
host_run_goes Look page change h v =
    either_place GoesOn (owns_run h.state.sizes h.state.actor page change) _ (Ends (Refused OutOfRange))
    (each_look GoesOn change (record { page = page; word = v }) one_look v (tt, tt) (tt, λ c. refl) (tt, λ c. refl) (tt, tt)) (tt, tt)
host_run_goes LookOn page change h v =
    each_next_look GoesOn change h.topics.host h.topics.row (page_after page change h.topics) v (tt, tt) (tt, tt) (tt, λ c. refl) (tt, λ c. refl) (tt, tt)
host_run_goes (End ends.Release) page change h v = (tt, tt)
host_run_goes (End _) page change h v = (tt, λ c. refl)
host_run_goes _ page change h v = (tt, λ c. refl)

-- ---- how many steps it has left

pages_few : (page : ℕ) (change : RunChange) (o : Option PageRun) → IfSome o (ChangesRun page change) → pages_left o ≤ 262144
pages_few page change None C = omega arith
pages_few page change (Some run) C =
    let level = C.level in
    let few : level_span run.level ≤ 262144 = grind (arith, spans) in
    omega (arith, few)

present_few : (present : Bool) → 1 + (if present then 0 else 1) ≤ 262144
present_few true = omega arith
present_few false = omega arith

pub changes_few : (b : Bool) (page : ℕ) (change : RunChange) (h : Held) → ChangesPages b page change h
    → (if b then pages_left h.topics.invalidations.own.pages else 1 + (if host_present (word_looked h.topics.host) then 0 else 1)) ≤ 262144
changes_few true page change h C = pages_few page change h.topics.invalidations.own.pages C
changes_few false page change h C = present_few (host_present (word_looked h.topics.host))

target_few : (page : ℕ) (h : Held) → FramesAre (run_target page h.topics) h.topics.invalidations.own
    → h.topics.invalidations.own.end ≤ h.topics.invalidations.own.start + most_frames
target_few page h =
    each_target (λ target. FramesAre target h.topics.invalidations.own → h.topics.invalidations.own.end ≤ h.topics.invalidations.own.start + most_frames)
    page h.topics (λ run few. omega (arith, few)) (λ few. let one = few.0 in omega (arith, one))

-- Few beside two for each page of the largest run, the sweep of as many guest frames as there are, and two looks at each virtual processor.
pub host_run_few : (p : HostRunPlace) (z : Sizes) (page : ℕ) (change : RunChange) (h : Held) → h.topics.walk.level ≤ 4 → HostRunKnows p page change h
    → host_run_left p z h.topics ≤ 2 * z.vcpus + 147 + 2 * 262144 + 5 * most_frames
host_run_few Look z page change h most K = omega arith
host_run_few LookOn z page change h most K = omega arith
host_run_few (Begin p) z page change h most K =
    let few = begin_few p h.state.sizes z (run_target page h.topics) most_frames h.topics most (target_few page h) K.1 in omega (arith, few)
host_run_few Change z page change h most K =
    let few = changes_few (is_several h.topics.invalidations.own.pages) page change h K.2 in omega (arith, few)
host_run_few (End p) z page change h most K = let few = end_few p in omega (arith, few)

pub some_host_run_left : (p : HostRunPlace) (z : Sizes) (t : Topics) → 0 < host_run_left p z t
some_host_run_left (Begin p) z t = omega arith
some_host_run_left (End ends.Release) z t = omega arith
some_host_run_left (End _) z t = omega arith
some_host_run_left _ z t = omega arith

-- ---- how it ends

-- The step that ends it doesn't wait.
pub host_run_free : (p : HostRunPlace) (page : ℕ) (change : RunChange) (h : Held) (v : ℕ) (answer : Answer) → HostRunRests p h
    → host_run_outcome p page change h v ≡ Ends answer → part_waits (host_run_part p page change h) h.topics v ≡ false
host_run_free Look page change h v answer R e =
    neither_waits (owns_run h.state.sizes h.state.actor page change) (part.Host page) part.Seq h.topics v refl refl
host_run_free LookOn page change h v answer R e = refl
host_run_free (Begin p) page change h v answer R e = absurd (cc e)
host_run_free Change page change h v answer R e = absurd (cc e)
host_run_free (End ends.Release) page change h v answer R e = R
host_run_free (End _) page change h v answer R e = absurd (cc e)

-- It tells no exit for want of a page.
abbrev IsFed : Outcome → Type 0
IsFed o = AreFed (exiting o)

pub host_run_fed : (p : HostRunPlace) (page : ℕ) (change : RunChange) (h : Held) (v : ℕ) → AreFed (host_run_tells p page change h v)
host_run_fed Look page change h v = by (owns_run h.state.sizes h.state.actor page change)
  where
    by : (own_ : Bool)
        → AreFed (if own_ then LookedAtHost page ∷ exiting (if own_ then after_run_look change (record { page = page; word = v }) one_look v else
        Ends (Refused OutOfRange)) else [])
    by false = tt
    by true = (λ e. absurd (cc e), each_look IsFed change (record { page = page; word = v }) one_look v (λ e. absurd (cc e), tt) tt tt (λ e. absurd (cc e), tt))
host_run_fed LookOn page change h v = (
  λ e. absurd (cc e),
  each_next_look IsFed change h.topics.host h.topics.row (page_after page change h.topics) v (λ e. absurd (cc e), tt) (λ e. absurd (cc e), tt) tt tt
      (λ e. absurd (cc e), tt),
)
host_run_fed Change page change h v =
    either_place AreFed (is_several h.topics.invalidations.own.pages) _ _
    (either_place AreFed (v == word_next h.topics.invalidations.own.pages) (page_changed h.topics.invalidations.own.pages) []
    (by h.topics.invalidations.own.pages) tt)
    (either_place AreFed (v == word_looked h.topics.host) (HostChanged page (entry_of (as_it_is (word_looked h.topics.host))) ∷ []) []
    (λ e. absurd (cc e), tt) tt)
  where
    by : (o : Option PageRun) → AreFed (page_changed o)
    by None = tt
    by (Some run) = (λ e. absurd (cc e), tt)
host_run_fed _ page change h v = tt

-- ---- what it knows is a proposition

run_change_prop : (change : RunChange) → IsProp (IsRunChange change)
run_change_prop (Huge level) = hlevel props
run_change_prop Small = hlevel props

pages_prop : (b : Bool) (page : ℕ) (change : RunChange) (h : Held) → IsProp (ChangesPages b page change h)
pages_prop true page change h = by h.topics.invalidations.own.pages
  where
    by : (o : Option PageRun) → IsProp (IfSome o (ChangesRun page change))
    by None = hlevel props
    by (Some run) = hlevel props
pages_prop false page change h = hlevel props

frames_prop : (page : ℕ) (t : Topics) → IsProp (FramesAre (run_target page t) t.invalidations.own)
frames_prop page t = each_target (λ target. IsProp (FramesAre target t.invalidations.own)) page t (λ run. hlevel props) (hlevel props)

pub host_run_knows_prop : (p : HostRunPlace) (page : ℕ) (change : RunChange) (h : Held) → IsProp (HostRunKnows p page change h)
host_run_knows_prop Look page change h = hlevel (props, run_change_prop)
host_run_knows_prop LookOn page change h = hlevel (props, run_change_prop)
host_run_knows_prop (Begin begins.Exclude) page change h = hlevel (props, run_change_prop, frames_prop)
host_run_knows_prop (Begin (begins.Find begun)) page change h = hlevel (props, run_change_prop, frames_prop)
host_run_knows_prop (Begin (begins.Walk rooted)) page change h = hlevel (props, run_change_prop, frames_prop)
host_run_knows_prop (Begin _) page change h = hlevel (props, run_change_prop, frames_prop)
host_run_knows_prop Change page change h = hlevel (props, pages_prop)
host_run_knows_prop (End ends.Exclude) page change h = hlevel props
host_run_knows_prop (End _) page change h = hlevel props

pub host_run_rests_prop : (p : HostRunPlace) (h : Held) → IsProp (HostRunRests p h)
host_run_rests_prop (End ends.Release) h = hlevel props
host_run_rests_prop (End _) h = hlevel props
host_run_rests_prop _ h = hlevel props
