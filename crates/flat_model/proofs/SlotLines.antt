-- A slot line, alone: it changes its slot, or has nothing to do.
use Rattle.std.proofs.Common.{◌≡◌, ◌==◌, ◌&&◌, ◌||◌, ◌∷◌, not, ℕ, List, [], refl, sym, ap, subst, ◌∙◌}
use Rattle.std.proofs.lemmas.Bool.{eq-eqb}
use Rattle.std.proofs.lemmas.Option.{same_Some}
use Rattle.std.specs.Prelude.{Bool, Option, Some, None, true, false, if◌then◌else◌}
use Rattle.std.specs.Option.{option_map}
use Rattle.core_views.specs.declared.answer.Answer.{Answer}
use Rattle.core_views.specs.declared.answer.Answer.TheVariants.{Done}
use Rattle.core_views.specs.declared.answer.AnsweredLine.{AnsweredLine}
use Rattle.core_views.specs.declared.answer.Refusal.{Refusal}
use Rattle.core_views.specs.declared.event.Event.{Event}
use Rattle.core_views.specs.declared.event.EventKind.TheVariants.{Begun, SlotChanged}
use Rattle.core_views.specs.declared.memory_slot.MemorySlot.{MemorySlot}
use Rattle.core_views.specs.declared.trace.Command.{Command}
use Rattle.core_views.specs.declared.trace.Command.TheVariants.{Access, ChangeHost, ChangeRun, ClearLog, DeleteSlot, GetLog, Migrate, SetLog, SetSlot, Split}
use Rattle.core_views.specs.declared.trace.Line.{Line}
use Rattle.core_views.specs.Events.{facts_after_all, unlogged}
use Rattle.core_views.specs.Flat.{Facts}
use Rattle.core_views.specs.FlatHistory.{alone, answers, arming, by, doing_by}
use Rattle.core_views.specs.LogCommands.{is_all_set}
use Rattle.core_views.specs.Past.{FrameSet, has_gfn}
use Rattle.core_views.specs.Refusals.{is_logged}
use Rattle.core_views.specs.SlotCommands.{after_change, arms, change_at_once, changes_slot, refused_or_done, slot_change, slots_after}
use Rattle.core_views.specs.SlotSets.{changed_slots, slot_of_id}
use Rattle.core_views.specs.Text.{answers_of}
use Rattle.core_views.proofs.SlotChanges.{changes}
use Rattle.flat_model.specs.Dirty.{dirty_by, is_dirty}
use Rattle.flat_model.specs.HostPages.{Changed, host_of}
use Rattle.flat_model.proofs.FreeLines.{IsFree, free_events, is_free}
use Rattle.flat_model.specs.Kept.{ContentWords, GivesLine, Kept, facts_of, memory_of}
use Rattle.flat_model.specs.Steps.{ChangesSlots, MakesChange}
use Rattle.flat_model.proofs.SameFacts.{facts_with, same_facts}
use Rattle.flat_model.proofs.SlotLogs.{changed_at, changed_or, has_log, logged_after, logged_so, new_log}

module _ (line : Line) (before after : Kept) (answer : Answer) where
  abbrev f : Facts
  f = facts_of before

  -- the events of the line's command, where it is answered so at once, or isn't
  abbrev events_of : Command → Option (Option Refusal) → List Event
  events_of command r = by line (Begun line) ∷ doing_by before.sizes line command f (option_map refused_or_done r)

  abbrev answered : Answer → List AnsweredLine
  answered x = record { number = line.number; actor = line.actor; answer = x } ∷ []

  -- It makes no other events.
  whole : (command : Command) → line.command ≡ command → changes_slot command ≡ true → IsFree line.command before
      → alone before.sizes line f ≡ events_of command (change_at_once before.sizes command before.slots)
  whole (Access gfn word op) is changes_ free = absurd (cc changes_)
  whole (ChangeHost page change) is changes_ free = absurd (cc changes_)
  whole (ChangeRun page change) is changes_ free = absurd (cc changes_)
  whole (GetLog id) is changes_ free = absurd (cc changes_)
  whole (ClearLog id first count words) is changes_ free = absurd (cc changes_)
  whole (Migrate call) is changes_ free = absurd (cc changes_)
  whole (Split gfn) is changes_ free = absurd (cc changes_)
  whole command is changes_ free = is_free line before free ∙ ap (λ (c : Command). free_events before.sizes line c f) is

  -- the events of a change, and what comes of them
  abbrev made : Command → ℕ × Option MemorySlot → List Event
  made command change = by line (Begun line) ∷ by line (SlotChanged change.0 change.1) ∷ arming before.sizes line command

  -- which slots are armed and which frames dirty after a change of the slot at the ID, where its log doesn't begin, and where it does
  abbrev disarmed : ℕ → ℕ → Bool
  disarmed id = λ other. not (id == other) && f.armed other

  abbrev armed : ℕ → ℕ → Bool
  armed id = λ other. (id == other) || disarmed id other

  abbrev cleared : ℕ → Option MemorySlot → FrameSet
  cleared id slot = unlogged (slot_of_id id before.slots) slot f.pending

  abbrev begun : ℕ → Option MemorySlot → FrameSet
  begun id slot = λ gfn. if has_gfn (slot_of_id id (changed_slots id slot before.slots)) gfn then is_all_set before.sizes.mode else cleared id slot gfn

  disarmed_is : (here b : Bool) (new : Bool) → new ≡ false → changed_or here new b ≡ (not here && b)
  disarmed_is true b new is = is
  disarmed_is false b new is = refl

  armed_is : (here b : Bool) (new : Bool) → new ≡ true → changed_or here new b ≡ (here || (not here && b))
  armed_is true b new is = is
  armed_is false b new is = refl

  -- The frames of the slot that gets a log are those of the slot that was there.
  begun_is : (all was has pending : Bool) → was ≡ has
      → (if all then has || pending else (not (was || has) && pending)) ≡ (if has then all else (not (was || has) && pending))
  begun_is true true true pending same = refl
  begun_is true false false pending same = refl
  begun_is false true true pending same = refl
  begun_is false false false pending same = refl
  begun_is all true false pending same = absurd (cc same)
  begun_is all false true pending same = absurd (cc same)

  same_slots : (command : Command) (change : ℕ × Option MemorySlot) → slot_change before.slots command ≡ Some change
      → after.slots ≡ slots_after command before.slots → after.slots ≡ changed_slots change.0 change.1 before.slots
  same_slots command change is slots = slots ∙ ap (λ (c : Option (ℕ × Option MemorySlot)). after_change c before.slots) is

  -- What comes of a change, with what it makes of logs and of dirty frames.
  comes : (change : ℕ × Option MemorySlot) (logged : ℕ → Bool) (pending : FrameSet) → after.slots ≡ changed_slots change.0 change.1 before.slots
      → after.changed ≡ before.changed → after.words ≡ before.words → after.copies ≡ before.copies
      → ((other : ℕ) → changed_or (change.0 == other) (has_log change.1) (is_logged other before.slots) ≡ logged other)
      → ((gfn : ℕ) → is_dirty after.dirty gfn ≡ pending gfn)
      → facts_of after ≡ facts_with (changed_slots change.0 change.1 before.slots) f.host f.memory logged pending before.copies
  comes change logged pending slots changed words copies logs dirty =
      same_facts _ _ _ _ _ _ _ _ _ _ _ _ slots (λ p. ap (λ (c : Changed). host_of c p) changed) (λ p w. ap (λ (ws : ContentWords). memory_of ws p w) words)
      (λ other. ap (is_logged other) slots ∙ logged_after other change.0 change.1 before.slots ∙ logs other) dirty copies

  unarmed : (command : Command) → arms command ≡ false → arming before.sizes line command ≡ answers line Done
  unarmed (SetLog id true) quiet = absurd (cc quiet)
  unarmed (SetLog id false) quiet = refl
  unarmed (Access gfn word op) quiet = refl
  unarmed (ChangeHost page change) quiet = refl
  unarmed (ChangeRun page change) quiet = refl
  unarmed (GetLog id) quiet = refl
  unarmed (Migrate call) quiet = refl
  unarmed (Split gfn) quiet = refl
  unarmed (ClearLog id first count words) quiet = refl
  unarmed (SetSlot id slot) quiet = refl
  unarmed (DeleteSlot id) quiet = refl

  abbrev Does : Command → ℕ × Option MemorySlot → Type 0
  Does command change = (facts_of after ≡ facts_after_all (made command change) f) × (answers_of (made command change) ≡ answered Done)

  does_quietly : (command : Command) (change : ℕ × Option MemorySlot) → slot_change before.slots command ≡ Some change
      → change_at_once before.sizes command before.slots ≡ None → arms command ≡ false → MakesChange command before after (Some change) → Does command change
  does_quietly command change is works quiet done =
      let tail = unarmed command quiet in
      let events = λ (es : List Event). by line (Begun line) ∷ by line (SlotChanged change.0 change.1) ∷ es in (
        comes change (disarmed change.0) (cleared change.0 change.1) (same_slots command change is done.0) done.1 done.2 done.3
            (λ other. disarmed_is (change.0 == other) (is_logged other before.slots) (has_log change.1)
            (new_log before.sizes command before.slots change is works ∙ quiet))
            (λ gfn. done.4 gfn
            ∙ ap (λ (b : Bool). dirty_by (b && is_all_set before.sizes.mode) (slot_of_id change.0 before.slots) change.1 f.pending gfn) quiet)
            ∙ sym (ap (λ (es : List Event). facts_after_all (events es) f) tail),
        ap (λ (es : List Event). answers_of (events es)) tail,
      )

  same_frames : (was : Option MemorySlot) (gfn : ℕ) → has_gfn was gfn ≡ has_gfn (logged_so true was) gfn
  same_frames None gfn = refl
  same_frames (Some was) gfn = refl

  does_arming : (id : ℕ) → change_at_once before.sizes (SetLog id true) before.slots ≡ None
      → MakesChange (SetLog id true) before after (slot_change before.slots (SetLog id true))
      → Does (SetLog id true) (id, logged_so true (slot_of_id id before.slots))
  does_arming id works done =
      let was = slot_of_id id before.slots in
      let slot : Option MemorySlot = logged_so true was in
      let there : slot_of_id id (changed_slots id slot before.slots) ≡ slot =
      changed_at id id slot before.slots ∙ ap (λ (b : Bool). changed_or b slot was) (eq-eqb id id refl) in (
        comes (id, slot) (armed id) (begun id slot) done.0 done.1 done.2 done.3
            (λ other. armed_is (id == other) (is_logged other before.slots) (has_log slot)
            (new_log before.sizes (SetLog id true) before.slots (id, slot) refl works))
            (λ gfn. done.4 gfn ∙ begun_is (is_all_set before.sizes.mode) (has_gfn was gfn) (has_gfn slot gfn) (f.pending gfn) (same_frames was gfn)
            ∙ sym (ap (λ (s : Option MemorySlot). if has_gfn s gfn then is_all_set before.sizes.mode else cleared id slot gfn) there)),
        refl,
      )

  does_by : (command : Command) (change : ℕ × Option MemorySlot) → slot_change before.slots command ≡ Some change
      → change_at_once before.sizes command before.slots ≡ None → MakesChange command before after (slot_change before.slots command) → Does command change
  does_by (SetLog id true) change is works done = subst (Does (SetLog id true)) (same_Some _ _ is) (does_arming id works done)
  does_by (SetLog id false) change is works done =
      does_quietly (SetLog id false) change is works refl (subst (MakesChange (SetLog id false) before after) is done)
  does_by (SetSlot id slot) change is works done =
      does_quietly (SetSlot id slot) change is works refl (subst (MakesChange (SetSlot id slot) before after) is done)
  does_by (DeleteSlot id) change is works done =
      does_quietly (DeleteSlot id) change is works refl (subst (MakesChange (DeleteSlot id) before after) is done)
  does_by (Access gfn word op) change is works done = absurd (cc is)
  does_by (ChangeHost page change_) change is works done = absurd (cc is)
  does_by (ChangeRun page change_) change is works done = absurd (cc is)
  does_by (GetLog id) change is works done = absurd (cc is)
  does_by (Migrate call) change is works done = absurd (cc is)
  does_by (Split gfn) change is works done = absurd (cc is)
  does_by (ClearLog id first count words) change is works done = absurd (cc is)

  -- Its events make its change, and tell its answer.
  does : (command : Command) (change : ℕ × Option MemorySlot) → slot_change before.slots command ≡ Some change → (r : Option (Option Refusal))
      → change_at_once before.sizes command before.slots ≡ r → ChangesSlots command before after answer r
      → (facts_of after ≡ facts_after_all (events_of command r) f) × (answers_of (events_of command r) ≡ answered answer)
  does command change is None works done =
      let D = does_by command change is works done.1 in
      let all = changes before.sizes line command f change is in (
        D.0 ∙ sym (ap (λ (es : List Event). facts_after_all (by line (Begun line) ∷ es) f) all),
        ap (λ (es : List Event). answers_of (by line (Begun line) ∷ es)) all ∙ D.1 ∙ ap answered (sym done.0),
      )
  does command change is (Some refusal) works done = (ap facts_of done.1, ap answered (sym done.0))

  gives : (command : Command) (change : ℕ × Option MemorySlot) → slot_change before.slots command ≡ Some change
      → alone before.sizes line f ≡ events_of command (change_at_once before.sizes command before.slots)
      → ChangesSlots command before after answer (change_at_once before.sizes command before.slots)
      → GivesLine before.sizes line f (facts_of after) answer
  gives command change is all made_ =
      let D = does command change is (change_at_once before.sizes command before.slots) refl made_ in
      record { leads = D.0 ∙ sym (ap (λ (es : List Event). facts_after_all es f) all); tells = ap answers_of all ∙ D.1 }

  pub slot_line : (command : Command) → line.command ≡ command → changes_slot command ≡ true → IsFree line.command before
      → ChangesSlots command before after answer (change_at_once before.sizes command before.slots)
      → GivesLine before.sizes line (facts_of before) (facts_of after) answer
  slot_line (Access gfn word op) is changes_ free made_ = absurd (cc changes_)
  slot_line (ChangeHost page change) is changes_ free made_ = absurd (cc changes_)
  slot_line (ChangeRun page change) is changes_ free made_ = absurd (cc changes_)
  slot_line (GetLog id) is changes_ free made_ = absurd (cc changes_)
  slot_line (ClearLog id first count words) is changes_ free made_ = absurd (cc changes_)
  slot_line (Migrate call) is changes_ free made_ = absurd (cc changes_)
  slot_line (Split gfn) is changes_ free made_ = absurd (cc changes_)
  slot_line command is changes_ free made_ = gives command _ refl (whole command is changes_ free) made_
