-- The steps that change the sequence number of invalidations, and how many are open.
use Rattle.std.proofs.Common.{◌≡◌, ◌⊎◌, inl, inr, ◌∙◌, ◌+◌, ◌-◌, ◌<◌, ℕ, refl, ap}
use Rattle.std.specs.Prelude.{true, false, if◌then◌else◌}
use Rattle.core_views.specs.declared.kind.Kind.{Kind}
use Rattle.core_views.specs.declared.kind.StepKind.{StepKind}
use Rattle.core_views.specs.declared.kind.StepKind.TheVariants as kind
use Rattle.core_views.specs.declared.sizes.Sizes.{Sizes}
use Rattle.core_views.specs.declared.topics.Hold.{Hold}
use Rattle.core_views.specs.declared.topics.Hold.TheVariants.{Exclusive}
use Rattle.core_views.specs.declared.trace.Line.{Line}
use Rattle.core_views.specs.declared.trace.Op.{Op}
use Rattle.core_views.specs.declared.trace.Op.TheVariants.{Add, Read, Write}
use Rattle.core_views.specs.Held.{Held}
use Rattle.core_views.specs.Kinds.{code_of, kind_named}
use Rattle.spte_words.specs.declared.area.Area.{Area}
use Rattle.spte_words.specs.declared.area.Area.TheVariants as area
use Rattle.part_steps.specs.declared.part_step.PartStep.{PartStep}
use Rattle.part_steps.specs.declared.part_step.PartStep.TheVariants as part
use Rattle.part_steps.specs.declared.task.Task.{Task}
use Rattle.part_steps.specs.PartSteps.{PartNeeds, needs_line}
use Rattle.part_steps.specs.StayTopics.{has_lock}
use Rattle.core_views.specs.declared.topics.Topics.{Topics}
use Rattle.core_views.specs.Sizes.{actors_of}
use Rattle.part_steps.specs.PartTasks.{own_index, part_task}
use Rattle.mmu_core.specs.invariant.InvalidationsPart.{CheckedPart, knows_seq}
use Rattle.mmu_core.specs.invariant.Laws.{IsSound}
use Rattle.mmu_core.specs.forms.access.AccessSteps.{touch_of}
use Rattle.mmu_core.specs.machine.Enabled.{mmu}
use Rattle.mmu_core.specs.machine.Machine.{May, Step, World, effect, hand_in}
use Rattle.mmu_core.specs.machine.Steps.{line_at, place_at, task_of}
use Rattle.mmu_core.specs.machine.View.{View, view, word_in, words_after}
use Rattle.mmu_core.proofs.lines.StepIn.{StepIn, step_in, Makes, Touches}
use Rattle.mmu_core.proofs.machine.Which.{is_next}
use Rattle.mmu_core.proofs.machine.Worlds.{Takes, TakesPart, are_small, takes}
use Rattle.mmu_laws.specs.steps.InvalidationLaws.{CountsInvalidation, InvalidationsAreCounted, RaisesSequence, SequenceIsRaised}

-- ---- of a task, in the words

module _ (h : Held) (words : Area → ℕ → ℕ) where
  -- The task raises the number; and it counts one more, or one less.
  pub record Raises (t : Task) : Type 0 where
    pub sets : t.kind ≡ kind.Set
    pub alone : h.topics.hold ≡ Exclusive
    pub opened : h.topics.invalidations.opened ≡ true
    pub raised : words_after t words area.Seq 0 ≡ words area.Seq 0 + 1

  pub record Counts (t : Task) : Type 0 where
    pub sets : t.kind ≡ kind.Set
    pub alone : h.topics.hold ≡ Exclusive
    pub counted : words_after t words area.Count 0 ≡ (if h.topics.invalidations.opened then words area.Count 0 - 1 else words area.Count 0 + 1)
    pub ends : h.topics.invalidations.opened ≡ true → h.topics.invalidations.raised ≡ true

  abbrev Loaded : Type 0
  Loaded = CheckedPart (words area.Count 0) (words area.RangeStart 0) (words area.RangeEnd 0) (words area.Seq 0) h.topics

  has_alone : (k : Hold) → k ≡ Exclusive → has_lock k ≡ true
  has_alone k is = ap has_lock is

  raises_or_stays : (step : PartStep) (note : ℕ) → PartNeeds step h → Loaded
      → (words_after (part_task step (own_index h) h.topics note) words area.Seq 0 ≡ words area.Seq 0) ⊎ Raises (part_task step (own_index h) h.topics note)
  raises_or_stays (part.SetSeq seq) note N C = inr (record {
    sets = refl;
    alone = N.0.alone;
    opened = N.0.opened;
    raised = N.1 ∙ ap (λ n. n + 1) (C.numbered (has_alone h.topics.hold N.0.alone) (ap knows_seq N.0.loaded));
  })
  raises_or_stays _ note N C = inl refl

  counts_or_stays : (step : PartStep) (note : ℕ) → PartNeeds step h → Loaded
      → (words_after (part_task step (own_index h) h.topics note) words area.Count 0 ≡ words area.Count 0) ⊎ Counts (part_task step (own_index h) h.topics note)
  counts_or_stays (part.SetCount count) note N C = inr (record {
    sets = refl;
    alone = N.0.alone;
    counted = N.0.is ∙ ap (λ n. if h.topics.invalidations.opened then n - 1 else n + 1) (C.counted (has_alone h.topics.hold N.0.alone) N.0.knows);
    ends = N.0.closes;
  })
  counts_or_stays _ note N C = inl refl

  touch_stays : (op : Op) (index : ℕ) → words_after (touch_of op index) words area.Seq 0 ≡ words area.Seq 0
  touch_stays Read index = refl
  touch_stays (Write x) index = refl
  touch_stays (Add x) index = refl

  touch_counts_none : (op : Op) (index : ℕ) → words_after (touch_of op index) words area.Count 0 ≡ words area.Count 0
  touch_counts_none Read index = refl
  touch_counts_none (Write x) index = refl
  touch_counts_none (Add x) index = refl

named_set : (k : StepKind) → k ≡ kind.Set → kind_named (code_of k) ≡ kind.Set
named_set k is = ap (λ (x : StepKind). kind_named (code_of x)) is

-- A step of a part that needs no line sets nothing.
never_sets : (step : PartStep) (own_ : ℕ) (t : Topics) (note : ℕ) → needs_line step ≡ false → (part_task step own_ t note).kind ≡ kind.Set → ⊥
never_sets (part.SetStart first gfn) own_ t note free is = cc free
never_sets (part.SetEnd last gfn) own_ t note free is = cc free
never_sets (part.SetCount count) own_ t note free is = cc free
never_sets (part.SetSeq seq) own_ t note free is = cc free
never_sets _ own_ t note free is = cc is

-- ---- of a step, from world to world

module _ (z : Sizes) (w : World Held) (s : Step Kind) (G : IsSound z w) (may : May mmu w s) where
  abbrev h : Held
  h = hand_in mmu w s.actor

  abbrev words : Area → ℕ → ℕ
  words = word_in z w

  raises_in : (t : Task) → StepIn z (view z w) s.actor t → s.actor < actors_of z → (words_after t words area.Seq 0 ≡ words area.Seq 0) ⊎ Raises h words t
  raises_in _ (Makes step note P) there = raises_or_stays h words step note P.needs (G.topics.checks s.actor there)
  raises_in _ (Touches op index) there = inl (touch_stays h words op index)

  counts_in : (t : Task) → StepIn z (view z w) s.actor t → s.actor < actors_of z → (words_after t words area.Count 0 ≡ words area.Count 0) ⊎ Counts h words t
  counts_in _ (Makes step note P) there = counts_or_stays h words step note P.needs (G.topics.checks s.actor there)
  counts_in _ (Touches op index) there = inl (touch_counts_none h words op index)

  -- a step of a line is one of its task
  named : (T : Takes z w s h) → (task_of h).kind ≡ kind.Set → kind_named s.kind.code ≡ kind.Set
  named T is = ap (λ (k : Kind). kind_named k.code) (is_next h s.kind may.enabled T.has).is ∙ named_set (task_of h).kind is

  raises_line : (T : Takes z w s h) → (words_after (task_of h) words area.Seq 0 ≡ words area.Seq 0) ⊎ Raises h words (task_of h)
      → (word_in z (effect mmu w s) area.Seq 0 ≡ words area.Seq 0) ⊎ RaisesSequence z w s
  raises_line T (inl stays) = inl (ap (λ (v : View). v.words area.Seq 0) T.leads ∙ stays)
  raises_line T (inr R) =
      inr (record { sets = named T R.sets; alone = R.alone; opened = R.opened; raised = ap (λ (v : View). v.words area.Seq 0) T.leads ∙ R.raised })

  counts_line : (T : Takes z w s h) → (words_after (task_of h) words area.Count 0 ≡ words area.Count 0) ⊎ Counts h words (task_of h)
      → (word_in z (effect mmu w s) area.Count 0 ≡ words area.Count 0) ⊎ CountsInvalidation z w s
  counts_line T (inl stays) = inl (ap (λ (v : View). v.words area.Count 0) T.leads ∙ stays)
  counts_line T (inr C) =
      let counted = ap (λ (v : View). v.words area.Count 0) T.leads ∙ C.counted in
      inr (record { sets = named T C.sets; alone = C.alone; counted = counted; ends = C.ends })

  -- and a step of a part without a line stores no number of the invalidations
  raises_part : (T : TakesPart z w s h) → (words_after (part_task T.step (own_index h) h.topics T.note) words area.Seq 0 ≡ words area.Seq 0)
      ⊎ Raises h words (part_task T.step (own_index h) h.topics T.note)
      → (word_in z (effect mmu w s) area.Seq 0 ≡ words area.Seq 0) ⊎ RaisesSequence z w s
  raises_part T (inl stays) = inl (ap (λ (v : View). v.words area.Seq 0) T.leads ∙ stays)
  raises_part T (inr R) = absurd (never_sets T.step (own_index h) h.topics T.note T.free R.sets)

  counts_part : (T : TakesPart z w s h) → (words_after (part_task T.step (own_index h) h.topics T.note) words area.Count 0 ≡ words area.Count 0)
      ⊎ Counts h words (part_task T.step (own_index h) h.topics T.note)
      → (word_in z (effect mmu w s) area.Count 0 ≡ words area.Count 0) ⊎ CountsInvalidation z w s
  counts_part T (inl stays) = inl (ap (λ (v : View). v.words area.Count 0) T.leads ∙ stays)
  counts_part T (inr C) = absurd (never_sets T.step (own_index h) h.topics T.note T.free C.sets)

  makes_line : (T : Takes z w s h) → StepIn z (view z w) s.actor (task_of h)
  makes_line T =
      let line : Line = line_at h.state.place h in
      step_in z (view z w) s.actor line line.command (place_at h.state.place h) (are_small z w G) T.is_step G.holds G.topics

  seq_by : Takes z w s h ⊎ TakesPart z w s h → (word_in z (effect mmu w s) area.Seq 0 ≡ words area.Seq 0) ⊎ RaisesSequence z w s
  seq_by (inl T) = raises_line T (raises_in (task_of h) (makes_line T) T.is_step.there)
  seq_by (inr T) = raises_part T (raises_in (part_task T.step (own_index h) h.topics T.note) (Makes T.step T.note T.is_part) T.is_part.there)

  count_by : Takes z w s h ⊎ TakesPart z w s h → (word_in z (effect mmu w s) area.Count 0 ≡ words area.Count 0) ⊎ CountsInvalidation z w s
  count_by (inl T) = counts_line T (counts_in (task_of h) (makes_line T) T.is_step.there)
  count_by (inr T) = counts_part T (counts_in (part_task T.step (own_index h) h.topics T.note) (Makes T.step T.note T.is_part) T.is_part.there)

pub sequence_is_raised : SequenceIsRaised
sequence_is_raised z w s G may = seq_by z w s G may (takes z w s G may)

pub invalidations_are_counted : InvalidationsAreCounted
invalidations_are_counted z w s G may = count_by z w s G may (takes z w s G may)
