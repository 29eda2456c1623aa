-- The steps of the parts keep what the lines rest on.
use Rattle.mmu_core.proofs.lines.OpenedStays.{frame_stays, opens_none}
use Rattle.circular_buffer.specs.Buffer.{Buffer}
use Rattle.core_views.specs.declared.cache.Translation.{Translation}
use Rattle.core_views.specs.declared.place.Place.{Place}
use Rattle.core_views.specs.declared.place.Place.TheVariants as place
use Rattle.core_views.specs.declared.sizes.Sizes.{Sizes}
use Rattle.core_views.specs.declared.topics.Topics.{Topics}
use Rattle.core_views.specs.Held.{Held}
use Rattle.spte_words.specs.declared.area.Area.{Area}
use Rattle.spte_words.specs.declared.area.Area.TheVariants as area
use Rattle.part_steps.specs.declared.task.Task.{Task}
use Rattle.part_steps.specs.declared.part_step.PartStep.{PartStep}
use Rattle.mmu_core.specs.machine.Steps.{idle_after}
use Rattle.part_steps.specs.Tasks.{kind_of_task}
use Rattle.mmu_core.specs.invariant.TopicsInvariant.{TopicsInvariant}
use Rattle.mmu_core.specs.machine.View.{View, answer_in, part_stepped, upd}
use Rattle.mmu_core.proofs.forms.access.CachedKept.{flushed_kept}
use Rattle.std.proofs.Common.{◌≡◌, ℕ, sym, subst, ◌∙◌}
use Rattle.std.specs.Prelude.{false}
use Rattle.core_views.specs.declared.trace.Command.{Command}
use Rattle.core_views.specs.SlotSets.{MemorySlots}
use Rattle.mmu_core.specs.invariant.Invariant.{CachedPart, Holds, Invariant, InvariantOf, OwnLines, RecordPart, UnderWay}
use Rattle.part_steps.specs.PartTasks.{own_index, part_task}
use Rattle.part_steps.specs.PartSteps.{has_line, needs_line}
use Rattle.mmu_core.proofs.slots.LiveStay.{set_stays}
use Rattle.mmu_core.proofs.slots.LiveStays.{SetStays, published_stays}
use Rattle.mmu_core.proofs.held.OthersStay.{retires_none, owned_stays}
use Rattle.mmu_core.proofs.machine.PartStepping.{IsPart, idle_never, is_publish, idle_untold}
use Rattle.mmu_core.proofs.words.PartWords.{role_stays, slots_are, slots_other_role, slots_same}
use Rattle.mmu_core.proofs.slots.SlotsStay.{AllKnow, hand_moved, is_live_was, record_stays}
use Rattle.mmu_core.proofs.machine.Which.{has_line_is}
use Rattle.mmu_core.proofs.forms.access.UsedTranslations.{flushed_room}
use Rattle.mmu_core.specs.invariant.CachedPart.{FitsMachine}

-- a hand with other topics, and with other translations in its cache
abbrev pub with_topics : Held → Topics → Buffer Translation → Held
with_topics h t c = record { state = h.state; topics = t; cached = c; slots = h.slots; harvest = h.harvest; lines = h.lines; answers = h.answers }

own_lines : (z : Sizes) (i : ℕ) (h : Held) (t : Topics) (c : Buffer Translation) → c.capacity ≡ h.cached.capacity → OwnLines z i h
    → OwnLines z i (with_topics h t c)
own_lines z i h t c room O = record {
  cache = room ∙ O.cache;
  sizes = O.sizes;
  index = O.index;
  allowed = O.allowed;
  own = O.own;
  under = under h.state.place O.under;
  few = O.few;
  set = O.set;
}
  where
    under : (p : Place) → UnderWay p h → UnderWay p (with_topics h t c)
    under place.Between e = tt
    under _ e = e

-- An actor that has no line left has none under way: nothing is loaded for it.
idle_holds : (z : Sizes) (pool : ℕ → ℕ) (set : ℕ) (q : Place) (command : Command) (h g : Held) → has_line h ≡ false → UnderWay q h
    → Holds z pool set q command g
idle_holds z pool set place.Between command h g none under = tt
idle_holds z pool set _ command h g none under = let has = has_line_is h under.1 in absurd (cc (none, has))

-- A step of a part by an actor that has no line left.
pub part_keeps_lines : (z : Sizes) (v : View) (a : ℕ) (step : PartStep) (note : ℕ) → IsPart z v a step → needs_line step ≡ false → has_line (v.hand a)
    ≡ false → Invariant z v → TopicsInvariant z v → AllKnow z (part_stepped a step note v).hand → Invariant z (part_stepped a step note v)
part_keeps_lines z v a step note S free none I P knows =
    subst (λ n. InvariantOf z n (words area.Role) (words area.Pool) (upd v.hand a after)) (sym (slots_are v a step note ∙ slots_same step h.topics set never))
    (hand_moved z set set (v.words area.Role) (words area.Role) (v.words area.Pool) (words area.Pool) v.hand a after
    (set_stays z (v.words area.Role) (words area.Role) (v.words area.Pool) set (words area.Pool) set
    (is_live_was set (v.words area.Pool) (words area.Pool) stays)
    (role_stays z v a step note S set (slots_other_role z v a step S P) ∙ I.set_part.role_is) I.set_part)
    (owned_stays z v a step note S P) (λ i lt ne is. recorded (v.hand i).slots (I.recorded i lt is))
    (own_lines z a h after.topics after.cached (flushed_room (kind_of_task h.state.sizes t) h.cached x) (I.lines a S.there))
    (idle_holds z (words area.Pool) set h.state.place h.state.line.command h after none (I.lines a S.there).under)
    (record {
      leaves = λ may. retires_none step h.state.sizes (own_index h) h.topics note x never ((I.leaves a S.there).leaves may);
      opens = λ may. opens_none step h note x S.needs (idle_untold step free) ((I.leaves a S.there).opens may);
      frames = λ may. frame_stays step h note x S.needs (idle_untold step free) ∙ (I.leaves a S.there).frames may;
    }) cached (λ is. recorded h.slots (I.recorded a S.there is)) knows I)
  where
    h : Held
    h = v.hand a

    set : ℕ
    set = v.words area.Slots 0

    t : Task
    t = part_task step (own_index h) h.topics note

    x : ℕ
    x = answer_in t v.words

    words : Area → ℕ → ℕ
    words = (part_stepped a step note v).words

    after : Held
    after = idle_after h (kind_of_task h.state.sizes t) x

    never : is_publish step ≡ false
    never = idle_never step free

    stays : SetStays set (v.words area.Pool) (words area.Pool)
    stays = published_stays z v a step note S P

    recorded : (slots : MemorySlots) → RecordPart (v.words area.Pool) set slots → RecordPart (words area.Pool) set slots
    recorded slots R = record_stays set (v.words area.Pool) (words area.Pool) stays slots R

    cached : CachedPart z after.cached.items
    cached = flushed_kept (FitsMachine z) (kind_of_task h.state.sizes t) h.cached x (I.cached a S.there)
