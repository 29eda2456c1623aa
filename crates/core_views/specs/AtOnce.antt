-- What a line is answered at once that has nothing to do, and which lines have something to do.
use Rattle.std.specs.Prelude.{◌≡◌, ◌&&◌, Option, None, Some}
use Rattle.std.specs.Option.{option_map}
use Rattle.core_views.specs.declared.actor.Actor.{Actor}
use Rattle.core_views.specs.declared.answer.Answer.{Answer}
use Rattle.core_views.specs.declared.answer.Answer.TheVariants.{Done, Refused}
use Rattle.core_views.specs.declared.migration.Migration.{Migration}
use Rattle.core_views.specs.Migrations.{call_answer, is_barred, is_migrating, or_barred}
use Rattle.core_views.specs.declared.trace.Command.{Command}
use Rattle.core_views.specs.declared.trace.Command.TheVariants.{ChangeHost, ChangeRun, ClearLog, GetLog, Migrate, Split}
use Rattle.core_views.specs.declared.sizes.Sizes.{Sizes}
use Rattle.core_views.specs.SlotSets.{MemorySlots}
use Rattle.core_views.specs.SlotCommands.{change_at_once, refused_or_done}
use Rattle.core_views.specs.LogCommands.{read_refusal}
use Rattle.core_views.specs.HostChanges.{host_refusal}
use Rattle.core_views.specs.HostRuns.{run_at_once}
use Rattle.core_views.specs.Flat.{Facts}

-- What the actor's line is answered that has nothing to do on a machine with these slots and this migration, whatever it looks at, where the migration
-- doesn't bar it: that it is refused, or, where the slots stay as they are, done, or, with no slot to copy, that it has copied no page. A split has nothing
-- to do in flat memory.
abbrev pub answer_unbarred : Sizes → MemorySlots → Migration → Actor → Command → Option Answer
answer_unbarred z slots migration actor (ChangeHost page change) = option_map (λ refusal. Refused refusal) (host_refusal z actor page)
answer_unbarred z slots migration actor (ChangeRun page change) = option_map (λ refusal. Refused refusal) (run_at_once z actor page change)
answer_unbarred z slots migration actor (GetLog id) = option_map (λ refusal. Refused refusal) (read_refusal (GetLog id) slots)
answer_unbarred z slots migration actor (ClearLog id first count words) =
    option_map (λ refusal. Refused refusal) (read_refusal (ClearLog id first count words) slots)
answer_unbarred z slots migration actor (Migrate call) = call_answer slots migration call
answer_unbarred z slots migration actor (Split gfn) = Some Done
answer_unbarred z slots migration actor command = option_map refused_or_done (change_at_once z command slots)

-- The same of any line: one that the migration bars is refused.
abbrev pub answer_at_once : Sizes → MemorySlots → Migration → Actor → Command → Option Answer
answer_at_once z slots migration actor command = or_barred (is_barred command && is_migrating migration) (answer_unbarred z slots migration actor command)

-- The actor's line has something to do.
abbrev pub HasWork : Sizes → Facts → Actor → Command → Type 0
HasWork z f actor command = answer_at_once z f.slots f.migration actor command ≡ None
