-- The word that is in the way of a fault is an entry of its guest frame, or the host word of the page behind it.
use Rattle.std.proofs.Common.{◌≡◌, ◌⊎◌, inl, inr, ◌<◌, ℕ, subst, ap, ◌∙◌}
use Rattle.std.specs.Prelude.{Bool}
use Rattle.core_views.specs.declared.place.AccessPlace.TheVariants as access
use Rattle.core_views.specs.declared.place.Cause.{Cause}
use Rattle.core_views.specs.declared.place.Cause.TheVariants.{Open, Moved, Entry}
use Rattle.core_views.specs.declared.place.FaultEnd.TheVariants.{Retry}
use Rattle.core_views.specs.declared.place.FaultPlace.TheVariants.{End}
use Rattle.core_views.specs.declared.place.Place.{Place}
use Rattle.core_views.specs.declared.place.Place.TheVariants as place
use Rattle.core_views.specs.declared.sizes.Sizes.{Sizes}
use Rattle.core_views.specs.declared.topics.Topics.{Topics}
use Rattle.core_views.specs.declared.trace.Command.{Command}
use Rattle.core_views.specs.declared.trace.Command.TheVariants.{Access}
use Rattle.core_views.specs.declared.trace.Op.{Op}
use Rattle.core_views.specs.Held.{Held}
use Rattle.core_views.specs.Sizes.{actors_of}
use Rattle.core_views.specs.Slots.{is_write}
use Rattle.part_steps.specs.PartBounds.{PartRests}
use Rattle.part_steps.specs.PartTasks.{table_page}
use Rattle.mmu_laws.specs.causes.Causes.{IsEntryOf, IsHostWordOf}
use Rattle.mmu_core.specs.machine.Enabled.{mmu}
use Rattle.mmu_core.specs.forms.access.FaultKnows.{FaultKnows, HasCause, IsInTheWay}
use Rattle.mmu_core.specs.forms.access.FaultSteps.{host_word_at}
use Rattle.mmu_core.specs.lines.Forms.{KnowsPart}
use Rattle.mmu_core.specs.invariant.Laws.{IsSound}
use Rattle.mmu_core.specs.machine.Machine.{World, hand_in}
use Rattle.mmu_core.proofs.invariant.PartRested.{rests_in}

-- Where the cause is a word, it is one of the guest frame.
abbrev pub IsOfFrame : Cause → Sizes → ℕ → Topics → Type 0
IsOfFrame (Entry word read seen) z gfn t = IsEntryOf z gfn word ⊎ IsHostWordOf z gfn word t
IsOfFrame _ z gfn t = Unit {0}

entry_of : (z : Sizes) (h : Held) (word read seen gfn : ℕ) → h.state.sizes ≡ z → PartRests h → IsInTheWay word read seen z gfn h.topics.walk
    → IsEntryOf z gfn word
entry_of z h word read seen gfn same R K = record {
  level = h.topics.walk.level;
  from = K.saw.over.there;
  to = R.level;
  page = table_page h.topics.walk;
  there = subst (λ (y : Sizes). table_page h.topics.walk < y.pool) same (R.table K.saw.over.there);
  is = K.is_entry;
}

frame_of : (z : Sizes) (gfn : ℕ) (cause : Cause) (h : Held) → h.state.sizes ≡ z → PartRests h → HasCause cause z gfn h.topics
    → IsOfFrame cause z gfn h.topics
frame_of z gfn (Open count start end_ at) h same R K = tt
frame_of z gfn (Moved old_ now_) h same R K = tt
frame_of z gfn (Entry word read seen) h same R (inl W) = inl (entry_of z h word read seen gfn same R W)
frame_of z gfn (Entry word read seen) h same R (inr M) =
    inr (record { found = M.looked_up.found; is = M.is_word ∙ ap (host_word_at z) M.looked_up.host })

-- So it is with each fault that is about to end its section to begin anew.
pub cause_of_frame : (z : Sizes) (u : World Held) (actor gfn word : ℕ) (op : Op) (fast : Bool) (cause : Cause) → IsSound z u → actor < actors_of z
    → (hand_in mmu u actor).state.place ≡ place.Access (access.Fault (End (Retry fast cause)))
    → (hand_in mmu u actor).state.line.command ≡ Access gfn word op → IsOfFrame cause z gfn (hand_in mmu u actor).topics
cause_of_frame z u actor gfn word op fast cause G there ends command =
    let h : Held = hand_in mmu u actor in
    let same : h.state.sizes ≡ z = (G.holds.lines actor there).sizes in
    let K : KnowsPart (place.Access (access.Fault (End (Retry fast cause)))) (Access gfn word op) h =
    subst (λ (c : Command). KnowsPart (place.Access (access.Fault (End (Retry fast cause)))) c h) command
    (subst (λ (p : Place). KnowsPart p h.state.line.command h) ends (G.holds.knows actor there)) in
    frame_of z gfn cause h same (rests_in z u actor G there)
    (subst (λ (y : Sizes). FaultKnows (End (Retry fast cause)) y gfn (is_write op) h.topics) same K).2.has
