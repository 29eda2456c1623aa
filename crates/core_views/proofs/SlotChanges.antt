-- A line that changes a slot, whatever its form: alone it makes this change, and is done.
use Rattle.std.proofs.Common.{◌≡◌, ℕ, Bool, ◌∷◌, true, false, refl, ap, sym, ◌∙◌}
use Rattle.std.specs.Option.{option_map}
use Rattle.std.specs.Prelude.{Option, Some, None}
use Rattle.core_views.specs.declared.answer.Refusal.{Refusal}
use Rattle.core_views.specs.declared.answer.Refusal.TheVariants.{Missing}
use Rattle.core_views.specs.declared.event.EventKind.TheVariants.{SlotChanged}
use Rattle.core_views.specs.declared.migration.Migration.{Migration}
use Rattle.core_views.specs.Migrations.{is_migrating, or_barred}
use Rattle.core_views.specs.declared.memory_slot.MemorySlot.{MemorySlot}
use Rattle.core_views.specs.declared.trace.Command.{Command}
use Rattle.core_views.specs.declared.actor.Actor.TheVariants.{Manager}
use Rattle.core_views.specs.declared.trace.Command.TheVariants.{Access, ChangeHost, ChangeRun, ClearLog, GetLog, Migrate, SetLog, SetSlot, Split}
use Rattle.core_views.specs.declared.actor.Actor.{Actor}
use Rattle.core_views.specs.declared.sizes.Sizes.{Sizes}
use Rattle.core_views.specs.SlotCommands.{HasPages, after_change, at_once, change_at_once, change_refusal, changes_slot, is_unchanged}
use Rattle.core_views.specs.SlotCommands.{refused_or_done, slots_after}
use Rattle.core_views.specs.Refusals.{after_log, log_refusal, with_log_of}
use Rattle.core_views.specs.SlotSets.{MemorySlots, slot_of_id}
use Rattle.core_views.specs.Traces.{IsCommandFor}
use Rattle.core_views.specs.declared.trace.Line.{Line}
use Rattle.core_views.specs.Flat.{Facts}
use Rattle.core_views.specs.FlatHistory.{arming, by, changing, working}
use Rattle.core_views.specs.Lawful.{answer_at_once, slot_change}

pub changes : (z : Sizes) (line : Line) (command : Command) (f : Facts) (change : ℕ × Option MemorySlot) → slot_change f.slots command ≡ Some change
    → working z line command f ≡ by line (SlotChanged change.0 change.1) ∷ arming z line command
changes z line (Access gfn word op) f change is = absurd (cc is)
changes z line (ChangeHost page change_) f change is = absurd (cc is)
changes z line (ChangeRun page change_) f change is = absurd (cc is)
changes z line (GetLog id) f change is = absurd (cc is)
changes z line (ClearLog id first count words) f change is = absurd (cc is)
changes z line (Migrate call) f change is = absurd (cc is)
changes z line (Split gfn) f change is = absurd (cc is)
changes z line command f change is = ap (λ (c : Option (ℕ × Option MemorySlot)). changing line c (arming z line command)) is

-- It is answered at once by the slots and the migration, whoever makes it.
pub answered_by_slots : (z : Sizes) (slots : MemorySlots) (migration : Migration) (actor : Actor) (command : Command) → changes_slot command ≡ true
    → answer_at_once z slots migration actor command ≡ or_barred (is_migrating migration) (option_map refused_or_done (change_at_once z command slots))
answered_by_slots z slots migration actor (Access gfn word op) is = absurd (cc is)
answered_by_slots z slots migration actor (ChangeHost page change) is = absurd (cc is)
answered_by_slots z slots migration actor (ChangeRun page change) is = absurd (cc is)
answered_by_slots z slots migration actor (GetLog id) is = absurd (cc is)
answered_by_slots z slots migration actor (ClearLog id first count words) is = absurd (cc is)
answered_by_slots z slots migration actor (Migrate call) is = absurd (cc is)
answered_by_slots z slots migration actor (Split gfn) is = absurd (cc is)
answered_by_slots z slots migration actor _ is = refl

-- A line that has something to do isn't refused.
pub none_refused : (z : Sizes) (command : Command) (slots : MemorySlots) → change_at_once z command slots ≡ None → change_refusal z command slots ≡ None
none_refused z (Access gfn word op) slots works = refl
none_refused z (ChangeHost page change) slots works = refl
none_refused z (ChangeRun page change) slots works = refl
none_refused z (GetLog id) slots works = refl
none_refused z (ClearLog id first count words) slots works = refl
none_refused z (Migrate call) slots works = refl
none_refused z (Split gfn) slots works = refl
none_refused z command slots works = by (change_refusal z command slots) works
  where
    by : (r : Option Refusal) → at_once r (is_unchanged command slots) ≡ None → r ≡ None
    by None e = refl
    by (Some refusal) e = cc

-- A line of a trace sets no slot without a page.
pub has_pages : (z : Sizes) (actor : Actor) (command : Command) → IsCommandFor z actor command → HasPages command
has_pages z Manager (SetSlot id slot) may = may.some
has_pages z _ (SetSlot id slot) may = absurd may
has_pages z _ _ may = tt

-- A log is given to a slot that is there, or taken away from it.
pub record IsSlotThere (slots : MemorySlots) (id : ℕ) : Type 0 where
  pub slot : MemorySlot
  pub is : slot_of_id id slots ≡ Some slot

pub logged_there : (id : ℕ) (on : Bool) (slots : MemorySlots) → log_refusal on id slots ≡ None → IsSlotThere slots id
logged_there id on slots accepted = by on (slot_of_id id slots) refl accepted
  where
    by : (b : Bool) (was : Option MemorySlot) → slot_of_id id slots ≡ was → log_refusal b id slots ≡ None → IsSlotThere slots id
    by true None is accepted = absurd (let missing : log_refusal true id slots ≡ Some Missing = rw is refl in cc (missing, accepted))
    by false None is accepted = absurd (let missing : log_refusal false id slots ≡ Some Missing = rw is refl in cc (missing, accepted))
    by b (Some was) is accepted = record { slot = was; is = is }

pub log_changes : (on : Bool) (id : ℕ) (slots : MemorySlots) → log_refusal on id slots ≡ None → slots_after (SetLog id on) slots ≡ after_log on id slots
log_changes on id slots accepted =
    let there = logged_there id on slots accepted in
    ap (λ (s : Option MemorySlot). after_change (Some (id, option_map (λ was. record { slot = was.slot; logged = on }) s)) slots) there.is
    ∙ sym (ap (λ (s : Option MemorySlot). with_log_of on id s slots) there.is)
