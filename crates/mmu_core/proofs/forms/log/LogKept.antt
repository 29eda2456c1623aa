-- The steps of a line that reads a dirty log keep the invariant.
use Rattle.std.proofs.Common.{◌≡◌, ℕ, List, refl, sym, subst, ap, ◌∙◌, false}
use Rattle.std.specs.Prelude.{None}
use Rattle.core_views.specs.declared.place.LogPlace.{LogPlace}
use Rattle.core_views.specs.declared.place.LogPlace.TheVariants.{AtOnce, Exclude, Take, Root, Walk, Protect, Release, Ask, Await, Peek}
use Rattle.core_views.specs.declared.place.Place.TheVariants as place
use Rattle.core_views.specs.declared.sizes.Sizes.{Sizes}
use Rattle.core_views.specs.declared.topics.Topics.{Topics}
use Rattle.core_views.specs.declared.trace.Command.{Command}
use Rattle.core_views.specs.declared.trace.Line.{Line}
use Rattle.core_views.specs.Held.{Held}
use Rattle.spte_words.specs.declared.area.Area.{Area}
use Rattle.spte_words.specs.declared.area.Area.TheVariants as area
use Rattle.part_steps.specs.PartBounds.{PartRests}
use Rattle.part_steps.specs.PartTopics.{part_topics}
use Rattle.mmu_core.specs.declared.log_next.LogNext.{LogNext}
use Rattle.mmu_core.specs.declared.log_next.LogNext.TheVariants as next
use Rattle.mmu_core.specs.invariant.Invariant.{Holds, Invariant, RetiresPart}
use Rattle.mmu_core.specs.invariant.SlotSetPart.{Fits}
use Rattle.mmu_core.specs.invariant.TopicsInvariant.{TopicsInvariant}
use Rattle.mmu_core.specs.lines.Forms.{RestsAt}
use Rattle.mmu_core.specs.forms.log.LogKnows.{LogKnows, Reads}
use Rattle.mmu_core.specs.forms.log.LogOutcomes.{after_log, harvest_after}
use Rattle.mmu_core.specs.forms.log.LogSteps.{log_next, log_part, log_reads, slot_asked}
use Rattle.mmu_core.specs.lines.PartAt.{task_at}
use Rattle.mmu_core.specs.machine.Outcomes.{place_after}
use Rattle.mmu_core.specs.machine.View.{View, answer_in, stepped}
use Rattle.mmu_core.proofs.invariant.QuietHand.{one_step, quiet_hand}
use Rattle.mmu_core.proofs.invariant.QuietKept.{MakesAt}
use Rattle.mmu_core.proofs.lines.KnowsKept.{KnowsAfter, KnowsBehind, step_leaves}
use Rattle.mmu_core.proofs.lines.LockHeld.{rests_by_seq}
use Rattle.mmu_core.proofs.forms.log.LogKnown.{log_known}
use Rattle.mmu_core.proofs.forms.log.LogKnownWalks.{LogComes}
use Rattle.mmu_core.proofs.forms.log.LogMakes.{log_rests}
use Rattle.mmu_core.proofs.forms.log.LogNeeds.{read_is_of}
use Rattle.mmu_core.proofs.forms.log.LogPlaces.{log_leaves_pages, log_opens, log_plain}
use Rattle.mmu_core.proofs.lines.StepTopics.{knows_by}
use Rattle.mmu_core.proofs.machine.HandWith.{hand_with}
use Rattle.mmu_core.proofs.machine.PartStepping.{is_publish}
use Rattle.mmu_core.proofs.machine.Stepping.{IsStep}
use Rattle.mmu_core.proofs.slots.SlotsStay.{AllKnow}
use Rattle.mmu_core.proofs.forms.log.LogMakes.{log_fits, makes_log}
use Rattle.mmu_core.proofs.invariant.FormKept.{FormKept}
use Rattle.mmu_core.proofs.invariant.PartBounded.{part_rests_at}
use Rattle.mmu_core.proofs.lines.KnowsKept.{step_knows}
use Rattle.mmu_core.proofs.machine.PartStepping.{IsPart}

-- ---- what its actor knows

-- a hand that has read this
abbrev that_read : Held → List ℕ → Held
that_read g words = record {
  state = g.state;
  topics = g.topics;
  cached = g.cached;
  slots = g.slots;
  harvest = words;
  lines = g.lines;
  answers = g.answers;
}

-- What it has read it keeps where it goes on.
comes_behind : (n : LogNext) (words : List ℕ) (command : Command) (g : Held) → LogComes n command (that_read g words)
    → KnowsBehind (after_log n words) command (that_read g (harvest_after n words))
comes_behind (next.Goes q) words command g K = K
comes_behind (next.Refused refusal) words command g K = K
comes_behind next.Reads words command g K = K.0

-- the hand after its step, that has read this
log_comes : (p : LogPlace) (h g : Held) (command : Command) (v : ℕ) → PartRests h → Fits h.state.sizes (slot_asked h command)
    → h.topics.invalidations.opened ≡ false → h.topics.retired ≡ None → LogKnows p command h → g.state.sizes ≡ h.state.sizes → g.slots ≡ h.slots
    → g.topics ≡ part_topics (log_part p h command) h.topics v → LogComes (log_next p command h v) command (that_read g (log_reads p command h v))
log_comes p h g command v R F closed none K sizes slots topics = by p K topics
  where
    Comes : LogPlace → Type 0
    Comes q = LogComes (log_next q command h v) command (that_read g (log_reads q command h v))

    known : (q : LogPlace) → LogKnows q command h → g.topics ≡ part_topics (log_part q h command) h.topics v → Reads command h → Comes q
    known q L is reads =
        log_known q h (that_read g (log_reads q command h v)) command v R (read_is_of command h F reads) closed none L sizes slots is refl

    by : (q : LogPlace) → LogKnows q command h → g.topics ≡ part_topics (log_part q h command) h.topics v → Comes q
    by (AtOnce refusal) L is = subst (λ (t : Topics). LogComes (next.Refused refusal) command (record g { topics = t })) (sym is) (rests_by_seq h.topics v L.0)
    by Exclude L is = known Exclude L is L.1.0
    by (Peek begun) L is = known (Peek begun) L is L.1
    by (Take begun) L is = known (Take begun) L is L.2.0
    by Root L is = known Root L is L.2.0
    by (Walk page) L is = known (Walk page) L is L.2.0
    by (Protect page) L is = known (Protect page) L is L.2.0
    by Release L is = known Release L is L.2.0
    by Ask L is = known Ask L is L.2.0
    by Await L is = known Await L is L.2.0

pub own_log : (p : LogPlace) (line : Line) (command : Command) (h : Held) (words : Area → ℕ → ℕ) → PartRests h → LogKnows p command h
    → RetiresPart (place.Log p) h.topics → RestsAt (place.Log p) command h → Fits h.state.sizes (slot_asked h command)
    → KnowsAfter line command (place.Log p) h (answer_in (task_at (place.Log p) command h) words)
own_log p line command h words R K left N F =
    let v : ℕ = answer_in (task_at (place.Log p) command h) words in
    knows_by (place.Log p) line command h v N
    (λ cached.
    let g : Held = hand_with line command (place.Log p) h (part_topics (log_part p h command) h.topics v) cached v in
    comes_behind (log_next p command h v) (log_reads p command h v) command g
    (log_comes p h g command v R F (left.opens refl) (left.leaves refl) K refl refl refl))

-- ---- the invariant

-- Its actor has retired nothing, and has opened nothing and owns no frame.
leaves_none : (n : LogNext) (words : List ℕ) (u : Topics) → u.retired ≡ None → u.invalidations.opened ≡ false → u.frames.owned ≡ None
    → RetiresPart (place_after (after_log n words)) u
leaves_none n words u none closed loose = record { leaves = λ may. none; opens = λ may. closed; frames = λ may. loose }

log_holds : (n : LogNext) (words : List ℕ) (command : Command) (g : Held) (z : Sizes) (pool : ℕ → ℕ) (set : ℕ)
    → Holds z pool set (place_after (after_log n words)) command g
log_holds (next.Goes q) words command g z pool set = tt
log_holds _ words command g z pool set = tt

pub log_kept : (z : Sizes) (v : View) (a : ℕ) (line : Line) (p : LogPlace) (command : Command) → IsStep z v a line command (place.Log p)
    → Invariant z v → TopicsInvariant z v → MakesAt z v a (place.Log p) command → AllKnow z (stepped a line command (place.Log p) v).hand
    → Invariant z (stepped a line command (place.Log p) v)
log_kept z v a line p command S I P makes knows =
    let h : Held = v.hand a in
    let x : ℕ = answer_in (task_at (place.Log p) command h) v.words in
    let n : LogNext = log_next p command h x in
    let words : List ℕ = log_reads p command h x in
    let L = step_leaves z v a line command (place.Log p) S I in
    let left = log_leaves_pages p h command x in
    quiet_hand z v a line command (place.Log p) S I P makes (log_rests z v a line p command S I) (record {
      never = one_step (λ s. is_publish s ≡ false) (log_part p h command) (log_plain p h command).never;
      same = refl;
      caches = refl;
      leaves =
          leaves_none n words (part_topics (log_part p h command) h.topics x) (left.retired ∙ L.leaves refl) (log_opens p h command x ∙ L.opens refl)
          (ap (λ f. f.owned) left.frames ∙ L.frames refl);
      holds = λ cached. log_holds n words command _ z _ (v.words area.Slots 0);
    }) knows

-- ---- all of it

pub log_keeps : (p : LogPlace) (c : Command) → FormKept (place.Log p) c
log_keeps p c = record {
  needs = λ z v a line S I P. log_rests z v a line p c S I;
  knows = λ z v a line S I P there.
      own_log p line c (v.hand a) v.words (part_rests_at z v a I P there) (step_knows z v a line c (place.Log p) S I)
      (step_leaves z v a line c (place.Log p) S I) (log_rests z v a line p c S I) (log_fits z v a line p c S I);
  makes = λ z v a line small S I P. one_step (IsPart z v a) (log_part p (v.hand a) c) (makes_log z v a line p c S I small P);
  kept = λ z v a line S I P makes knows. log_kept z v a line p c S I P makes knows;
}
