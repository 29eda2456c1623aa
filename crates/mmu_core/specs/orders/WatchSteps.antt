-- The order of steps of a watch: a line looks at the state of each other actor, from the first place on, until it has found each neither in the
-- guest nor in a section.
use Rattle.std.specs.Prelude.{◌+◌, ℕ, nat_lt, if◌then◌else◌}
use Rattle.core_views.specs.Held.{Held}
use Rattle.core_views.specs.Sizes.{actors_of}
use Rattle.part_steps.specs.PartTasks.{own_index}
use Rattle.part_steps.specs.PartHoldings.{next_watched}
use Rattle.part_steps.specs.ControlBits.{in_section}
use Rattle.mmu_core.specs.declared.watch.WatchNext.{WatchNext}
use Rattle.mmu_core.specs.declared.watch.WatchNext.TheVariants.{Again, Next, Last}

-- the actor that the watch looks at next
abbrev pub looked_at : Held → ℕ
looked_at h = next_watched (own_index h) h.topics.watched

-- after a look that found v: it looks at the same actor again, at the next one, or it is over
abbrev pub watch_next : Held → ℕ → WatchNext
watch_next h v =
    if in_section v then Again else
    if nat_lt (next_watched (own_index h) (looked_at h + 1)) (actors_of h.state.sizes) then Next else
    Last

-- where a line stands after a look: where it looks, or where it goes on to after the last one
abbrev pub watch_place : {A : Type 0} → A → A → WatchNext → A
watch_place looks over Last = over
watch_place looks over _ = looks
