-- While the actor has the lock alone that ends its invalidation, the number is raised once and then the count lowered once, whatever steps are made.
use Rattle.std.proofs.Common.{◌≡◌, ◌≢◌, ◌⊎◌, inl, inr, ◌<◌, ◌≤◌, ◌+◌, ◌-◌, ℕ, Bool, true, false, List, [], ◌∷◌, refl, sym, ap, ◌∙◌, subst, arith}
use Rattle.std.proofs.lemmas.Bool.Decides.{nat_tests}
use Rattle.std.specs.Prelude.{nat_lt, if◌then◌else◌}
use Rattle.core_views.specs.declared.kind.Kind.{Kind}
use Rattle.core_views.specs.declared.sizes.Sizes.{Sizes}
use Rattle.core_views.specs.declared.topics.Hold.TheVariants.{Exclusive}
use Rattle.core_views.specs.declared.topics.Topics.{Topics}
use Rattle.core_views.specs.declared.trace.Line.{Line}
use Rattle.core_views.specs.declared.trace.Op.{Op}
use Rattle.core_views.specs.declared.trace.Op.TheVariants.{Add, Read, Write}
use Rattle.core_views.specs.Held.{Held}
use Rattle.core_views.specs.Sizes.{actors_of}
use Rattle.spte_words.specs.declared.area.Area.{Area}
use Rattle.spte_words.specs.declared.area.Area.TheVariants as area
use Rattle.part_steps.specs.declared.part_step.PartStep.{PartStep}
use Rattle.part_steps.specs.declared.part_step.PartStep.TheVariants as part
use Rattle.part_steps.specs.declared.task.Task.{Task}
use Rattle.part_steps.specs.PartSteps.{PartNeeds}
use Rattle.part_steps.specs.PartTasks.{own_index, part_task}
use Rattle.part_steps.specs.PartTopics.{part_topics}
use Rattle.part_steps.specs.StayTopics.{has_lock, is_alone}
use Rattle.part_steps.specs.Tasks.{kind_of_task}
use Rattle.part_steps.specs.TopicSteps.{topics_after}
use Rattle.mmu_core.specs.invariant.InvalidationsPart.{CheckedPart, knows_seq}
use Rattle.mmu_core.specs.invariant.Laws.{IsSound}
use Rattle.mmu_core.specs.forms.access.AccessSteps.{touch_of}
use Rattle.mmu_core.specs.machine.Enabled.{mmu}
use Rattle.mmu_core.specs.machine.Machine.{Legal, May, Step, World, answered, effect, hand_in, run}
use Rattle.mmu_core.specs.machine.Steps.{line_at, place_at, task_of}
use Rattle.mmu_core.specs.machine.Sums.{one_if}
use Rattle.mmu_core.specs.machine.View.{View, answer_in, view, word_in, words_after}
use Rattle.mmu_core.proofs.held.Grace.{hand_here, hand_there}
use Rattle.mmu_core.proofs.lines.StepIn.{Makes, StepIn, Touches, step_in}
use Rattle.mmu_core.proofs.lines.KnowsKept.{touch_topics}
use Rattle.mmu_core.proofs.machine.Columns.{same_or, upd_same}
use Rattle.mmu_core.proofs.machine.NextTopics.{next_topics}
use Rattle.mmu_core.proofs.machine.SumsBelow.{sum_ge, sum_two}
use Rattle.mmu_core.proofs.machine.Which.{is_next}
use Rattle.mmu_core.proofs.machine.Worlds.{Takes, TakesPart, are_small, good_step, takes}
use Rattle.mmu_core.proofs.words.PartTopics.{is_there, part_topics_is}
use Rattle.mmu_laws.specs.steps.InvalidationLaws.{CountsInvalidation, RaisesSequence}
use Rattle.mmu_laws.proofs.steps.InvalidationLaws.{invalidations_are_counted, sequence_is_raised}
use Rattle.job_laws.specs.Ended.{HoldsOn}

-- ---- how far an end has come

-- Since it got the lock, with this number and count: nothing is changed; or the number is raised; or the count is lowered, too.
pub data Comes (seq count : ℕ) (opened raised : Bool) (seq_now count_now : ℕ) : Type 0 where
  Open_ : opened ≡ true → raised ≡ false → seq_now ≡ seq → count_now ≡ count → Comes seq count opened raised seq_now count_now
  Raised_ : opened ≡ true → raised ≡ true → seq_now ≡ seq + 1 → count_now ≡ count → Comes seq count opened raised seq_now count_now
  Closed_ : opened ≡ false → seq_now ≡ seq + 1 → count_now + 1 ≡ count → Comes seq count opened raised seq_now count_now

module _ (seq count : ℕ) where
  abbrev pub At : Topics → (Area → ℕ → ℕ) → Type 0
  At t words = Comes seq count t.invalidations.opened t.invalidations.raised (words area.Seq 0) (words area.Count 0)

  raises : (h : Held) (words : Area → ℕ → ℕ) (new_ : ℕ) → PartNeeds (part.SetSeq new_) h
      → CheckedPart (words area.Count 0) (words area.RangeStart 0) (words area.RangeEnd 0) (words area.Seq 0) h.topics → At h.topics words
      → Comes seq count h.topics.invalidations.opened true new_ (words area.Count 0)
  raises h words new_ N C (Open_ opened raised same counted) =
      Raised_ opened refl (N.1 ∙ ap (λ n. n + 1) (C.numbered (ap has_lock N.0.alone) (ap knows_seq N.0.loaded) ∙ same)) counted
  raises h words new_ N C (Raised_ opened raised same counted) = absurd (let unraised = N.0.unraised in cc (raised, unraised))
  raises h words new_ N C (Closed_ closed same counted) = absurd (let opened = N.0.opened in cc (opened, closed))

  lowers : (h : Held) (words : Area → ℕ → ℕ) (new_ : ℕ) → PartNeeds (part.SetCount new_) h
      → CheckedPart (words area.Count 0) (words area.RangeStart 0) (words area.RangeEnd 0) (words area.Seq 0) h.topics
      → (h.topics.invalidations.opened ≡ true → 1 ≤ words area.Count 0)
      → (h.topics.invalidations.opened ≡ false → nat_lt h.topics.invalidations.count new_ ≡ false) → At h.topics words
      → Comes seq count (nat_lt h.topics.invalidations.count new_) false (words area.Seq 0) new_
  lowers h words new_ N C some opens_none (Open_ opened raised same counted) = absurd (let must = N.0.closes opened in cc (must, raised))
  lowers h words new_ N C some opens_none (Raised_ opened raised same counted) =
      let loaded : h.topics.invalidations.count ≡ words area.Count 0 = C.counted (ap has_lock N.0.alone) N.0.knows in
      let less : new_ ≡ h.topics.invalidations.count - 1 =
      N.0.is ∙ ap (λ (b : Bool). if b then h.topics.invalidations.count - 1 else h.topics.invalidations.count + 1) opened in
      let one = some opened in
      Closed_ (let lt : new_ < h.topics.invalidations.count = omega (arith, loaded, less, one) in grind (arith, nat_tests)) same
      (omega (arith, loaded, less, one, counted))
  lowers h words new_ N C some opens_none (Closed_ closed same counted) =
      let more : new_ ≡ h.topics.invalidations.count + 1 =
      N.0.is ∙ ap (λ (b : Bool). if b then h.topics.invalidations.count - 1 else h.topics.invalidations.count + 1) closed in
      absurd (let not_ = opens_none closed in grind (arith, nat_tests))

  -- A step of a part that its actor makes brings it on so, if it opens no invalidation.
  comes_on : (step : PartStep) (h : Held) (words : Area → ℕ → ℕ) (note : ℕ) → PartNeeds step h
      → CheckedPart (words area.Count 0) (words area.RangeStart 0) (words area.RangeEnd 0) (words area.Seq 0) h.topics
      → (h.topics.invalidations.opened ≡ true → 1 ≤ words area.Count 0)
      → (h.topics.invalidations.opened ≡ false
      → (part_topics step h.topics (answer_in (part_task step (own_index h) h.topics note) words)).invalidations.opened ≡ false)
      → At h.topics words
      → At (part_topics step h.topics (answer_in (part_task step (own_index h) h.topics note) words))
      (words_after (part_task step (own_index h) h.topics note) words)
  comes_on (part.SetSeq new_) h words note N C some opens_none at = raises h words new_ N C at
  comes_on (part.SetCount new_) h words note N C some opens_none at = lowers h words new_ N C some opens_none at
  comes_on _ h words note N C some opens_none at = at

  touched_on : (op : Op) (index : ℕ) (t : Topics) (words : Area → ℕ → ℕ) → At t words → At t (words_after (touch_of op index) words)
  touched_on Read index t words at = at
  touched_on (Write x) index t words at = at
  touched_on (Add x) index t words at = at

-- ---- a step of the machine

module _ (seq count : ℕ) (z : Sizes) (w : World Held) (s : Step Kind) (G : IsSound z w) (may : May mmu w s) where
  abbrev h : Held
  h = hand_in mmu w s.actor

  abbrev after_hand : Held
  after_hand = hand_in mmu (effect mmu w s) s.actor

  there : s.actor < actors_of z
  there = subst (λ n. s.actor < n) G.hands may.there

  some_open : h.topics.invalidations.opened ≡ true → 1 ≤ word_in z w area.Count 0
  some_open is =
      let one : one_if h.topics.invalidations.opened ≡ 1 = ap one_if is in
      let more = sum_ge (actors_of z) (λ j. one_if (hand_in mmu w j).topics.invalidations.opened) s.actor there in
      let all = G.topics.counts in
      omega (arith, one, more, all)

  by_task : (t : Task) → StepIn z (view z w) s.actor t → (now_ : Topics)
      → now_ ≡ topics_after h.state.sizes (kind_of_task h.state.sizes t) h.topics (answer_in t (word_in z w))
      → (h.topics.invalidations.opened ≡ false → now_.invalidations.opened ≡ false) → At seq count h.topics (word_in z w)
      → At seq count now_ (words_after t (word_in z w))
  by_task _ (Makes step note P) now_ is opens_none at =
      let t : Task = part_task step (own_index h) h.topics note in
      let same : now_ ≡ part_topics step h.topics (answer_in t (word_in z w)) =
      is ∙ part_topics_is h.state.sizes step (own_index h) h.topics note (answer_in t (word_in z w)) (is_there step h P.needs) in
      subst (λ (x : Topics). At seq count x (words_after t (word_in z w))) (sym same)
      (comes_on seq count step h (word_in z w) note P.needs (G.topics.checks s.actor there) some_open
      (λ closed. ap (λ (x : Topics). x.invalidations.opened) (sym same) ∙ opens_none closed) at)
  by_task _ (Touches op index) now_ is opens_none at =
      subst (λ (x : Topics). At seq count x (words_after (touch_of op index) (word_in z w)))
      (sym (is ∙ touch_topics h.state.sizes op index h.topics (answer_in (touch_of op index) (word_in z w))))
      (touched_on seq count op index h.topics (word_in z w) at)

  by_line : Takes z w s h → (h.topics.invalidations.opened ≡ false → after_hand.topics.invalidations.opened ≡ false) → At seq count h.topics (word_in z w)
      → At seq count after_hand.topics (word_in z (effect mmu w s))
  by_line T opens_none at =
      let line : Line = line_at h.state.place h in
      subst (λ (v : View). At seq count after_hand.topics v.words) (sym T.leads)
      (by_task (task_of h)
      (step_in z (view z w) s.actor line line.command (place_at h.state.place h) (are_small z w G) T.is_step G.holds G.topics)
      after_hand.topics
      (ap (λ (x : Held). x.topics) (hand_here w s may.there) ∙ next_topics h s.kind (answered mmu w s.kind)
      ∙ ap (λ (k : Kind). topics_after h.state.sizes k h.topics (answered mmu w s.kind)) (is_next h s.kind may.enabled T.has).is
      ∙ ap (λ v. topics_after h.state.sizes (kind_of_task h.state.sizes (task_of h)) h.topics v) T.answers)
      opens_none at)

  by_part : TakesPart z w s h → (h.topics.invalidations.opened ≡ false → after_hand.topics.invalidations.opened ≡ false) → At seq count h.topics (word_in z w)
      → At seq count after_hand.topics (word_in z (effect mmu w s))
  by_part T opens_none at =
      subst (λ (v : View). At seq count after_hand.topics v.words) (sym T.leads)
      (by_task (part_task T.step (own_index h) h.topics T.note) (Makes T.step T.note T.is_part) after_hand.topics
      (ap (λ (v : View). (v.hand s.actor).topics) T.leads ∙ ap (λ (x : Held). x.topics) (upd_same (hand_in mmu w) s.actor _)) opens_none at)

  pub own_on : (h.topics.invalidations.opened ≡ false → after_hand.topics.invalidations.opened ≡ false) → At seq count h.topics (word_in z w)
      → At seq count after_hand.topics (word_in z (effect mmu w s))
  own_on opens_none at = by (takes z w s G may)
    where
      by : Takes z w s h ⊎ TakesPart z w s h → At seq count after_hand.topics (word_in z (effect mmu w s))
      by (inl T) = by_line T opens_none at
      by (inr T) = by_part T opens_none at

  -- While one actor has the lock alone no other one changes the number, or the count.
  not_alone : (a : ℕ) → a < actors_of z → s.actor ≢ a → (hand_in mmu w a).topics.hold ≡ Exclusive → h.topics.hold ≡ Exclusive → ⊥
  not_alone a lt other alone also =
      let mine : one_if (is_alone (hand_in mmu w a).topics.hold) ≡ 1 = ap (λ x. one_if (is_alone x)) alone in
      let its : one_if (is_alone h.topics.hold) ≡ 1 = ap (λ x. one_if (is_alone x)) also in
      let both = sum_two (actors_of z) (λ j. one_if (is_alone (hand_in mmu w j).topics.hold)) s.actor a there lt other in
      let one = G.topics.lock_part.one in
      omega (arith, one, both, mine, its)

  others_on : (a : ℕ) → a < actors_of z → s.actor ≢ a → (hand_in mmu w a).topics.hold ≡ Exclusive → At seq count (hand_in mmu w a).topics (word_in z w)
      → At seq count (hand_in mmu (effect mmu w s) a).topics (word_in z (effect mmu w s))
  others_on a lt other alone at =
      subst (λ (x : Held). At seq count x.topics (word_in z (effect mmu w s))) (sym (hand_there w s a (λ e. other (sym e))))
      (subst (λ n. Comes seq count opened raised n (word_in z (effect mmu w s) area.Count 0)) (sym (same_seq (sequence_is_raised z w s G may)))
      (subst (λ n. Comes seq count opened raised (word_in z w area.Seq 0) n) (sym (same_count (invalidations_are_counted z w s G may))) at))
    where
      opened : Bool
      opened = (hand_in mmu w a).topics.invalidations.opened

      raised : Bool
      raised = (hand_in mmu w a).topics.invalidations.raised

      same_seq : (word_in z (effect mmu w s) area.Seq 0 ≡ word_in z w area.Seq 0) ⊎ RaisesSequence z w s
          → word_in z (effect mmu w s) area.Seq 0 ≡ word_in z w area.Seq 0
      same_seq (inl same) = same
      same_seq (inr R) = absurd (not_alone a lt other alone R.alone)

      same_count : (word_in z (effect mmu w s) area.Count 0 ≡ word_in z w area.Count 0) ⊎ CountsInvalidation z w s
          → word_in z (effect mmu w s) area.Count 0 ≡ word_in z w area.Count 0
      same_count (inl same) = same
      same_count (inr C) = absurd (not_alone a lt other alone C.alone)

  any_on : (a : ℕ) → a < actors_of z → (hand_in mmu w a).topics.hold ≡ Exclusive
      → ((hand_in mmu w a).topics.invalidations.opened ≡ false → (hand_in mmu (effect mmu w s) a).topics.invalidations.opened ≡ false)
      → At seq count (hand_in mmu w a).topics (word_in z w) → At seq count (hand_in mmu (effect mmu w s) a).topics (word_in z (effect mmu w s))
  any_on a lt alone opens_none at = by (same_or s.actor a)
    where
      by : (s.actor ≡ a) ⊎ (s.actor ≢ a) → At seq count (hand_in mmu (effect mmu w s) a).topics (word_in z (effect mmu w s))
      by (inl e) =
          subst (λ x. ((hand_in mmu w x).topics.invalidations.opened ≡ false → (hand_in mmu (effect mmu w s) x).topics.invalidations.opened ≡ false)
          → At seq count (hand_in mmu w x).topics (word_in z w) → At seq count (hand_in mmu (effect mmu w s) x).topics (word_in z (effect mmu w s))) e own_on
          opens_none at
      by (inr other) = others_on a lt other alone at

-- ---- from where it got the lock

pub comes_run : (seq count : ℕ) (z : Sizes) (w : World Held) (ss : List (Step Kind)) (a : ℕ) → IsSound z w → Legal mmu w ss → a < actors_of z
    → (hand_in mmu w a).topics.hold ≡ Exclusive → HoldsOn w ss a → At seq count (hand_in mmu w a).topics (word_in z w)
    → At seq count (hand_in mmu (run mmu w ss) a).topics (word_in z (run mmu w ss))
comes_run seq count z w [] a G legal lt alone holds at = at
comes_run seq count z w (s ∷ ss) a G legal lt alone holds at =
    comes_run seq count z (effect mmu w s) ss a (good_step z w s G legal.0) legal.1 lt holds.0 holds.2
    (any_on seq count z w s G legal.0 a lt alone holds.1 at)
