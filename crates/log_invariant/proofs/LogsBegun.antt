-- The publication with which a dirty log begins: what may write in its slot is excused, or each of its pages is marked.
use Rattle.std.proofs.Common.{ap, inl, inr, refl, subst, sym, ℕ, ◌<◌, ◌∙◌, ◌≡◌}
use Rattle.std.specs.Prelude.{Bool, Some, false, true}
use Rattle.core_views.specs.declared.place.Place.TheVariants as place
use Rattle.core_views.specs.declared.place.Place.{Place}
use Rattle.core_views.specs.declared.place.SlotChangePlace.TheVariants as change
use Rattle.core_views.specs.declared.sizes.Sizes.{Sizes}
use Rattle.core_views.specs.declared.trace.Command.{Command}
use Rattle.core_views.specs.declared.trace.Line.{Line}
use Rattle.core_views.specs.declared.trace.Slot.{Slot as SlotOf}
use Rattle.core_views.specs.Held.{Held}
use Rattle.core_views.specs.LogCommands.{is_all_set}
use Rattle.core_views.specs.Sizes.{actors_of}
use Rattle.core_views.specs.SlotCommands.{slot_armed, slots_after}
use Rattle.core_views.specs.Slots.{contains}
use Rattle.spte_words.specs.declared.area.Area.TheVariants as area
use Rattle.part_steps.specs.SlotWords.{page_of}
use Rattle.mmu_core.specs.invariant.Invariant.{Invariant}
use Rattle.mmu_core.specs.lines.PartAt.{task_at}
use Rattle.mmu_core.specs.machine.View.{View, answer_in, hand_after, stepped}
use Rattle.mmu_core.proofs.machine.Columns.{upd_same}
use Rattle.mmu_core.proofs.machine.Stepping.{IsStep}
use Rattle.log_invariant.specs.Covered.{is_marked}
use Rattle.log_invariant.specs.forms.slot_change.LogBegins.{BeginsClean, LogIsUnwatched}
use Rattle.log_invariant.proofs.CoveredKept.{IsGuardedNow, PublishesLog}
use Rattle.log_invariant.proofs.PublishedLogs.{armed_stays}

-- Of the log that a line is to begin, each page is marked where it begins so, in a view.
abbrev pub AllSetNow : Sizes → View → Type 0
AllSetNow z v = (j gfn : ℕ) (slot : SlotOf) → j < actors_of z → is_all_set z.mode ≡ true → LogIsUnwatched (v.hand j) gfn
    → slot_armed (v.hand j).slots (v.hand j).state.line.command ≡ Some slot → is_marked (v.words area.Log) (page_of slot gfn) ≡ true

-- The hand after the publication.
abbrev published : Line → Command → Held → ℕ → Held
published line command h x = hand_after line command (place.SlotChange change.Publish) h x

-- A write to a guest frame of the slot is guarded after it, where a line that opens a log excuses it.
pub begun_guarded : (z : Sizes) (v : View) (a : ℕ) (line : Line) (command : Command) (p : Place) → IsStep z v a line command p → Invariant z v
    → (Excuses : Held → ℕ → Type 0) (gfn : ℕ) (slot : SlotOf) → ((h : Held) → LogIsUnwatched h gfn → BeginsClean h → Excuses h gfn)
    → AllSetNow z (stepped a line command p v) → PublishesLog v a command p slot → contains gfn slot ≡ true
    → IsGuardedNow z (stepped a line command p v) Excuses slot gfn
begun_guarded z v a line command p S I Excuses gfn slot excuses set begins holds = by (is_all_set z.mode) refl
  where
    h : Held
    h = v.hand a

    x : ℕ
    x = answer_in (task_at p command h) v.words

    w : View
    w = stepped a line command p v

    g : Held
    g = published line command h x

    is : w.hand a ≡ g
    is = upd_same v.hand a _ ∙ ap (λ q. hand_after line command q h x) begins.at

    armed : slot_armed g.slots g.state.line.command ≡ Some slot
    armed = subst (λ c. slot_armed (slots_after command h.slots) c ≡ Some slot) (sym S.command_is) (armed_stays h.slots command ∙ begins.begins)

    opens : LogIsUnwatched g gfn
    opens = (refl, slot, armed, holds)

    by : (b : Bool) → is_all_set z.mode ≡ b → IsGuardedNow z w Excuses slot gfn
    by true all = inl (inl (set a gfn slot S.there all (subst (λ (y : Held). LogIsUnwatched y gfn) (sym is) opens)
        (subst (λ (y : Held). slot_armed y.slots y.state.line.command ≡ Some slot) (sym is) armed)))
    by false none = inr (
      a,
      S.there,
      subst (λ (y : Held). Excuses y gfn) (sym is)
          (excuses g opens (ap (λ (y : Sizes). is_all_set y.mode) (I.lines a S.there).sizes ∙ none)),
    )
