-- Histories of lines that stand alone: one line, such histories one after the other, and the flat history.
use Rattle.std.proofs.Common.{◌≡◌, ℕ, List, [], ◌∷◌, ◌++◌, Bool, true, false, cond, refl, ap, ◌∙◌, append_assoc}
use Rattle.std.specs.Prelude.{Option, Some, None}
use Rattle.core_views.specs.declared.answer.Answer.{Answer}
use Rattle.core_views.specs.declared.answer.Answer.TheVariants.{Reached, Mmio, HostFault, Paused, Done, Moved, Bits, Refused}
use Rattle.core_views.specs.declared.answer.Refusal.TheVariants.{IsHuge, NoFrame, OutOfRange}
use Rattle.core_views.specs.declared.event.Event.{Event}
use Rattle.core_views.specs.declared.event.EventKind.{EventKind}
use Rattle.core_views.specs.declared.event.EventKind.TheVariants.{Begun, LookedAtPause, LookedAtSlots, LookedAtHost, BroughtIn, Accessed, Exited, SlotChanged}
use Rattle.core_views.specs.declared.event.EventKind.TheVariants.{HostChanged, Armed, Taken, Harvested, Shown, Answered}
use Rattle.core_views.specs.declared.trace.Command.{Command}
use Rattle.core_views.specs.declared.trace.Command.TheVariants.{Access, ChangeHost, ChangeRun, ClearLog, GetLog, Migrate, SetLog, Split}
use Rattle.core_views.specs.declared.trace.HostChange.{HostChange}
use Rattle.core_views.specs.declared.trace.HostChange.TheVariants.{Move, Evict, Protect, Allow}
use Rattle.core_views.specs.declared.trace.Line.{Line}
use Rattle.core_views.specs.declared.trace.Op.{Op}
use Rattle.core_views.specs.declared.memory_slot.MemorySlot.{MemorySlot}
use Rattle.core_views.specs.declared.sizes.Sizes.{Sizes}
use Rattle.core_views.specs.Host.{is_denied, is_huge}
use Rattle.core_views.specs.HostChanges.{is_own, lowest_free}
use Rattle.core_views.specs.Slots.{page_behind}
use Rattle.core_views.specs.SlotSets.{flat_slots}
use Rattle.core_views.specs.Flat.{Facts}
use Rattle.core_views.specs.Events.{facts_after_all}
use Rattle.core_views.specs.Lawful.{answer_at_once, slot_change, slot_read}
use Rattle.core_views.specs.LogCommands.{asked_frames, bits_for, is_all_set, takes_out}
use Rattle.core_views.specs.FlatHistory.{by, answers, accessing, bringing, changing_host, moving, reaching, doing, doing_by, looks, looks_behind, alone}
use Rattle.core_views.specs.FlatHistory.{arming, one_by_one, reading, unless_huge, unless_paused, working}
use Rattle.core_views.specs.Migrations.{is_paused}
use Rattle.core_views.specs.Alone.{AreWithin, IsInside, StandsAlone, StandsFirst}
use Rattle.core_views.proofs.HostLines.{owned_answer}
use Rattle.core_views.proofs.SlotChanges.{changes}
use Rattle.flat_laws.proofs.MigrationsStand.{Closed, migration_closed}
use Rattle.flat_laws.proofs.RunsStand.{run_closed}
use Rattle.core_views.specs.HostRuns.{owns_run}

-- events of one line, and further ones after them
pub within_append : (line : Line) (xs ys : List Event) → AreWithin line xs → AreWithin line ys → AreWithin line (xs ++ ys)
within_append line [] ys front back = back
within_append line (x ∷ xs) ys front back = (front.0, front.1, within_append line xs ys front.2 back)

-- the events of one line
pub one_stands : (line : Line) (within : List Event) (answer : Answer) → AreWithin line within
    → StandsAlone (by line (Begun line) ∷ (within ++ answers line answer)) (line ∷ [])
one_stands line within answer are = ([], record { within = within; answer = answer; are_within = are; history_is = refl }, refl)

more_behind : (line : Line) (h rest more : List Event) → StandsFirst line h rest → StandsFirst line (h ++ more) (rest ++ more)
more_behind line h rest more first = record {
  within = first.within;
  answer = first.answer;
  are_within = first.are_within;
  history_is = ap (λ (es : List Event). es ++ more) first.history_is
      ∙ ap (λ (es : List Event). by line (Begun line) ∷ es) (append_assoc first.within (by line (Answered line.number first.answer) ∷ rest) more);
}

-- A history of such lines, and after it one of further lines.
pub stands_append : (lines further : List Line) (h more : List Event) → StandsAlone h lines → StandsAlone more further
    → StandsAlone (h ++ more) (lines ++ further)
stands_append [] further h more stands then_ = rw stands then_
stands_append (line ∷ lines) further h more stands then_ =
    (stands.0 ++ more, more_behind line h stands.0 more stands.1, stands_append lines further stands.0 more stands.2 then_)

-- The flat history: an access, and a line that changes a slot.

reaching_closed : (line : Line) (gfn word : ℕ) (op : Op) (f : Facts) (page : ℕ) (denied : Bool)
    → Closed line (by line LookedAtPause ∷ by line LookedAtSlots ∷ by line (LookedAtHost page) ∷ reaching line gfn word op f page denied)
reaching_closed line gfn word op f page true = record {
  within = by line LookedAtPause ∷ by line LookedAtSlots ∷ by line (LookedAtHost page) ∷ by line (Exited HostFault) ∷ [];
  answer = HostFault;
  are_within = (refl, tt, (refl, tt, (refl, tt, (refl, tt, tt))));
  events_are = refl;
}
reaching_closed line gfn word op f page false = by_present (f.host page).present
  where
    access : Event
    access = by line (Accessed gfn word op (f.host page).frame (f.memory page word))

    by_present : (present : Bool)
        → Closed line (by line LookedAtPause ∷ by line LookedAtSlots ∷ by line (LookedAtHost page) ∷ (bringing line page present
        ++ (access ∷ answers line (Reached (f.host page).frame (f.memory page word)))))
    by_present true = record {
      within = by line LookedAtPause ∷ by line LookedAtSlots ∷ by line (LookedAtHost page) ∷ access ∷ [];
      answer = Reached (f.host page).frame (f.memory page word);
      are_within = (refl, tt, (refl, tt, (refl, tt, (refl, tt, tt))));
      events_are = refl;
    }
    by_present false = record {
      within = by line LookedAtPause ∷ by line LookedAtSlots ∷ by line (LookedAtHost page) ∷ by line (BroughtIn page) ∷ access ∷ [];
      answer = Reached (f.host page).frame (f.memory page word);
      are_within = (refl, tt, (refl, tt, (refl, tt, (refl, tt, (refl, tt, tt)))));
      events_are = refl;
    }

accessing_closed : (line : Line) (gfn word : ℕ) (op : Op) (f : Facts) (page : Option ℕ)
    → Closed line (by line LookedAtPause ∷ by line LookedAtSlots ∷ (looks_behind line page ++ accessing line gfn word op f page))
accessing_closed line gfn word op f None = record {
  within = by line LookedAtPause ∷ by line LookedAtSlots ∷ by line (Exited Mmio) ∷ [];
  answer = Mmio;
  are_within = (refl, tt, (refl, tt, (refl, tt, tt)));
  events_are = refl;
}
accessing_closed line gfn word op f (Some page) = reaching_closed line gfn word op f page (is_denied op (f.host page))

unless_closed : (line : Line) (gfn word : ℕ) (op : Op) (f : Facts) (page : Option ℕ) (paused : Bool)
    → Closed line (by line LookedAtPause ∷ by line LookedAtSlots ∷ (looks_behind line page ++ unless_paused line paused (accessing line gfn word op f page)))
unless_closed line gfn word op f page false = accessing_closed line gfn word op f page
unless_closed line gfn word op f None true = record {
  within = by line LookedAtPause ∷ by line LookedAtSlots ∷ by line (Exited Paused) ∷ [];
  answer = Paused;
  are_within = (refl, tt, (refl, tt, (refl, tt, tt)));
  events_are = refl;
}
unless_closed line gfn word op f (Some page) true = record {
  within = by line LookedAtPause ∷ by line LookedAtSlots ∷ by line (LookedAtHost page) ∷ by line (Exited Paused) ∷ [];
  answer = Paused;
  are_within = (refl, tt, (refl, tt, (refl, tt, (refl, tt, tt))));
  events_are = refl;
}

-- A line that changes a slot, or is answered at once.
change_closed : (z : Sizes) (line : Line) (command : Command) (f : Facts) (change : ℕ × Option MemorySlot) (at_once : Option Answer)
    → slot_change f.slots command ≡ Some change
    → Closed line (doing_by z line command f at_once)
change_closed z line command f change None is = by_arming command (changes z line command f change is)
  where
    by_arming : (c : Command) → doing_by z line command f None ≡ by line (SlotChanged change.0 change.1) ∷ arming z line c
        → Closed line (doing_by z line command f None)
    by_arming (SetLog id true) events = record {
      within = by line (SlotChanged change.0 change.1) ∷ by line (Armed id (is_all_set z.mode)) ∷ [];
      answer = Done;
      are_within = (refl, tt, (refl, tt, tt));
      events_are = events;
    }
    by_arming (SetLog id false) events =
        record { within = by line (SlotChanged change.0 change.1) ∷ []; answer = Done; are_within = (refl, tt, tt); events_are = events }
    by_arming (Access gfn word op) events =
        record { within = by line (SlotChanged change.0 change.1) ∷ []; answer = Done; are_within = (refl, tt, tt); events_are = events }
    by_arming _ events =
        record { within = by line (SlotChanged change.0 change.1) ∷ []; answer = Done; are_within = (refl, tt, tt); events_are = events }
change_closed z line command f change (Some answer) is = record { within = []; answer = answer; are_within = tt; events_are = refl }

-- A line that reads a log: it begins to, and reads; or it is answered at once.
read_closed : (z : Sizes) (line : Line) (command : Command) (id : ℕ) (f : Facts) (at_once : Option Answer)
    → working z line command f ≡ by line (Taken id) ∷ reading z line command id f → Closed line (doing_by z line command f at_once)
read_closed z line command id f (Some answer) does = record { within = []; answer = answer; are_within = tt; events_are = refl }
read_closed z line command id f None does = by_takes (takes_out z.mode command) refl
  where
    by_takes : (takes : Bool) → takes_out z.mode command ≡ takes → Closed line (working z line command f)
    by_takes true is = record {
      within = by line (Taken id) ∷ by line (Harvested id (asked_frames f.pending command (slot_read f.slots command))) ∷ [];
      answer = Bits (bits_for command (slot_read f.slots command) (asked_frames f.pending command (slot_read f.slots command)));
      are_within = (refl, tt, (refl, tt, tt));
      events_are = does ∙ rw is refl;
    }
    by_takes false is = record {
      within = by line (Taken id) ∷ by line (Shown id (asked_frames f.pending command (slot_read f.slots command))) ∷ [];
      answer = Bits (bits_for command (slot_read f.slots command) (asked_frames f.pending command (slot_read f.slots command)));
      are_within = (refl, tt, (refl, tt, tt));
      events_are = does ∙ rw is refl;
    }

-- A line that changes a host page: it looks at it, and makes one event; or it is answered at once.
looked_closed : (line : Line) (page : ℕ) (kind : EventKind) (answer : Answer) → IsInside kind
    → Closed line (by line (LookedAtHost page) ∷ by line kind ∷ answers line answer)
looked_closed line page kind answer within = record {
  within = by line (LookedAtHost page) ∷ by line kind ∷ [];
  answer = answer;
  are_within = (refl, tt, (refl, within, tt));
  events_are = refl;
}

moving_closed : (line : Line) (page : ℕ) (f : Facts) (free : Option ℕ) → Closed line (by line (LookedAtHost page) ∷ moving line page f free)
moving_closed line page f None = looked_closed line page (Exited (Refused NoFrame)) (Refused NoFrame) tt
moving_closed line page f (Some frame) = looked_closed line page (HostChanged page (record (f.host page) { frame = frame })) (Moved frame) tt

host_closed : (z : Sizes) (line : Line) (page : ℕ) (change : HostChange) (f : Facts)
    → Closed line (by line (LookedAtHost page) ∷ changing_host z line page change f)
host_closed z line page Move f = moving_closed line page f (lowest_free z f.host)
host_closed z line page Evict f = looked_closed line page _ Done tt
host_closed z line page Protect f = looked_closed line page _ Done tt
host_closed z line page Allow f = looked_closed line page _ Done tt

unless_huge_closed : (z : Sizes) (line : Line) (page : ℕ) (change : HostChange) (f : Facts) (huge : Bool)
    → Closed line (by line (LookedAtHost page) ∷ unless_huge line huge (changing_host z line page change f))
unless_huge_closed z line page change f true = looked_closed line page (Exited (Refused IsHuge)) (Refused IsHuge) tt
unless_huge_closed z line page change f false = host_closed z line page change f

owned_closed : (z : Sizes) (line : Line) (page : ℕ) (change : HostChange) (f : Facts) (own : Bool)
    → Closed line (cond own (by line (LookedAtHost page) ∷ []) [] ++ doing_by z line (ChangeHost page change) f (owned_answer own))
owned_closed z line page change f true = unless_huge_closed z line page change f (is_huge (f.host page))
owned_closed z line page change f false = record { within = []; answer = Refused OutOfRange; are_within = tt; events_are = refl }

doing_closed : (z : Sizes) (line : Line) (command : Command) (f : Facts) → Closed line (looks z line command f ++ doing z line command f)
doing_closed z line (Access gfn word op) f = unless_closed line gfn word op f (page_behind (flat_slots f.slots) gfn op) (is_paused f.migration)
doing_closed z line (ChangeHost page change) f = owned_closed z line page change f (is_own z line.actor page)
doing_closed z line (ChangeRun page change) f = run_closed z line page change f (owns_run z line.actor page change)
doing_closed z line (GetLog id) f = read_closed z line (GetLog id) id f (answer_at_once z f.slots f.migration line.actor (GetLog id)) refl
doing_closed z line (ClearLog id first count words) f =
    read_closed z line (ClearLog id first count words) id f (answer_at_once z f.slots f.migration line.actor (ClearLog id first count words)) refl
doing_closed z line (Migrate call) f = migration_closed z line call f (answer_at_once z f.slots f.migration line.actor (Migrate call))
doing_closed z line (Split gfn) f = record { within = []; answer = Done; are_within = tt; events_are = refl }
doing_closed z line command f = change_closed z line command f _ (answer_at_once z f.slots f.migration line.actor command) refl

alone_first : (z : Sizes) (line : Line) (f : Facts) (rest : List Event) → StandsFirst line (alone z line f ++ rest) rest
alone_first z line f rest =
    let closed = doing_closed z line line.command f in
    record {
      within = closed.within;
      answer = closed.answer;
      are_within = closed.are_within;
      history_is =
          ap (λ (es : List Event). by line (Begun line) ∷ es)
          (ap (λ (es : List Event). es ++ rest) closed.events_are ∙ append_assoc closed.within (answers line closed.answer) rest);
    }

pub one_by_one_stands : (z : Sizes) (lines : List Line) (f : Facts) → StandsAlone (one_by_one z lines f) lines
one_by_one_stands z [] f = refl
one_by_one_stands z (line ∷ lines) f =
    let then_ : Facts = facts_after_all (alone z line f) f in
    (one_by_one z lines then_, alone_first z line f (one_by_one z lines then_), one_by_one_stands z lines then_)
