-- Whom a watch has after it was seen outside, and who comes from outside holds nothing that was loaded before.
use Rattle.std.proofs.Common.{◌≡◌, ◌≢◌, ◌⊎◌, inl, inr, ◌+◌, ◌<◌, ◌≤◌, ℕ, List, [], ◌∷◌, length, refl, sym, subst, ap, ◌∙◌, arith}
use Rattle.std.specs.Prelude.{Bool, true, false, ◌==◌, not, if◌then◌else◌}
use Rattle.std.proofs.lemmas.Bool.Decides.{nat_tests}
use Rattle.std.proofs.lemmas.List.{get_or-set_other, get_or-set_same}
use Rattle.core_views.specs.declared.kind.Kind.{Kind}
use Rattle.core_views.specs.declared.kind.StepKind.TheVariants as kind
use Rattle.core_views.specs.declared.sizes.Sizes.{Sizes}
use Rattle.core_views.specs.declared.topics.Stay.{Stay}
use Rattle.core_views.specs.declared.topics.Stay.TheVariants.{Outside}
use Rattle.core_views.specs.declared.topics.Topics.{Topics}
use Rattle.core_views.specs.Held.{Held}
use Rattle.core_views.specs.Kinds.{code_of}
use Rattle.core_views.specs.Sizes.{actors_of, index_of}
use Rattle.spte_words.specs.declared.area.Area.TheVariants as area
use Rattle.spte_words.specs.declared.word_map.WordMap.{WordMap}
use Rattle.spte_words.specs.Areas.{place}
use Rattle.part_steps.specs.declared.part_step.PartStep.{PartStep}
use Rattle.part_steps.specs.declared.part_step.PartStep.TheVariants as part
use Rattle.mmu_core.specs.machine.Enabled.{mmu}
use Rattle.mmu_core.specs.invariant.Grace.{BeginNoWatch, IsLook, SawOutside, WatchedWasOutside, topics_in}
use Rattle.mmu_core.specs.invariant.Laws.{IsSound}
use Rattle.mmu_core.specs.machine.Machine.{Legal, May, Step, World, answered, effect, hand_in, run}
use Rattle.part_steps.specs.PartTasks.{own_index, part_kind, part_task}
use Rattle.part_steps.specs.PartHoldings.{next_watched}
use Rattle.part_steps.specs.PartSteps.{PartNeeds}
use Rattle.part_steps.specs.PartTopics.{part_topics}
use Rattle.mmu_core.specs.machine.Steps.{next, nobody}
use Rattle.part_steps.specs.Tasks.{map_of}
use Rattle.part_steps.specs.StayTopics.{is_outside}
use Rattle.part_steps.specs.ControlBits.{in_section}
use Rattle.mmu_core.specs.machine.View.{word_in}
use Rattle.mmu_core.proofs.invariant.AloneLaws.{part_found}
use Rattle.mmu_core.proofs.machine.Columns.{same_or}
use Rattle.mmu_core.proofs.machine.LineParts.{IsPartKind, IsQuiet, step_kind}
use Rattle.mmu_core.proofs.machine.NextTopics.{next_topics, topics_behind}
use Rattle.mmu_core.proofs.start.Starts.{hand_is, start_good}
use Rattle.mmu_core.proofs.held.StateTells.{word_tells}
use Rattle.mmu_core.proofs.machine.Worlds.{good_step}

-- the hands after a step
pub hand_here : (w : World Held) (s : Step Kind) → s.actor < length w.hands
    → hand_in mmu (effect mmu w s) s.actor ≡ next (hand_in mmu w s.actor) s.kind (answered mmu w s.kind)
unfolding effect
hand_here w s there = get_or-set_same w.hands s.actor _ nobody there

pub hand_there : (w : World Held) (s : Step Kind) (i : ℕ) → i ≢ s.actor → hand_in mmu (effect mmu w s) i ≡ hand_in mmu w i
unfolding effect
hand_there w s i ne = get_or-set_other w.hands s.actor i _ nobody ne

-- A step of a part that is no look leaves the place of the watch, or lets the watch begin anew.
record IsNoLook (step : PartStep) : Type 0 where
  code : (own note : ℕ) (t : Topics) → code_of (part_task step own t note).kind ≢ code_of kind.Watch
  watched : (t : Topics) (v : ℕ) → (part_topics step t v).watched ≤ t.watched

look_or_not : (step : PartStep) → ((index : ℕ) × (step ≡ part.Watch index)) ⊎ IsNoLook step
look_or_not (part.Watch index) = inl (index, refl)
look_or_not _ = inr (record { code = λ own note t e. absurd (omega (arith, e)); watched = λ t v. omega arith })

-- who stands before the next one to be watched was watched, or is the own actor
below_next : (own_ seen i : ℕ) → i < next_watched own_ seen → i ≢ own_ → i < seen
below_next own_ seen i lt ne = by (seen == own_) (λ e. grind (arith, nat_tests)) lt
  where
    by : (b : Bool) → (b ≡ true → seen ≡ own_) → i < (if b then seen + 1 else seen) → i < seen
    by true is lt = let e = is refl in omega (arith, e, lt, ne)
    by false is lt = lt

same_index : (m : WordMap) (i j : ℕ) → place m area.State i ≡ place m area.State j → i ≡ j
unfolding place
same_index m i j e = omega (arith, e)

outside_is : (stay : Stay) → not (is_outside stay) ≡ false → stay ≡ Outside
outside_is Outside e = refl
outside_is _ e = absurd (cc e)

-- What one step makes of a watch: it is the look that saw actor i outside, or this actor was watched before, and no watch begins.
abbrev OneLook : Sizes → World Held → Step Kind → ℕ → ℕ → Type 0
OneLook z w s a i = i ≢ a → i < (topics_in (effect mmu w s) a).watched
    → (IsLook z a i s × ((topics_in w i).stay ≡ Outside)) ⊎ ((i < (topics_in w a).watched) × (IsLook z a (next_watched a 0) s → ⊥))

watch_look : (z : Sizes) (w : World Held) (s : Step Kind) (i j note : ℕ) → IsSound z w → May mmu w s
    → s.kind ≡ part_kind (hand_in mmu w s.actor) (part.Watch j) note → PartNeeds (part.Watch j) (hand_in mmu w s.actor) → OneLook z w s s.actor i
watch_look z w s i j note G may is N ne lt = by (in_section found) refl (same_or i j)
  where
    a : ℕ
    a = s.actor

    h : Held
    h = hand_in mmu w a

    there : a < actors_of z
    there = subst (λ n. a < n) G.hands may.there

    same : h.state.sizes ≡ z
    same = (G.holds.lines a there).sizes

    own : own_index h ≡ a
    own = ap (λ (y : Sizes). index_of y h.state.actor) same ∙ (G.holds.lines a there).index

    found : ℕ
    found = answered mmu w s.kind

    found_is : found ≡ word_in z w area.State j
    found_is = ap (answered mmu w) is ∙ part_found z w a (part.Watch j) note G there N

    word : s.kind.word ≡ place (map_of z) area.State j
    word = ap (λ (k : Kind). k.word) is ∙ ap (λ (y : Sizes). place (map_of y) area.State j) same

    looks : IsLook z a j s
    looks = record { by = refl; watch = ap (λ (k : Kind). k.code) is; word = word }

    watched : (topics_in (effect mmu w s) a).watched ≡ j + (if in_section found then 0 else 1)
    watched = ap (λ (x : Held). x.topics.watched) (hand_here w s may.there) ∙ ap (λ (k : Kind). (next h k found).topics.watched) is
        ∙ ap (λ (t : Topics). t.watched) (topics_behind h (part.Watch j) note found N)

    below : i < j → i < h.topics.watched
    below less = from N.2
      where
        from : (j ≡ next_watched (own_index h) 0) ⊎ (j ≡ next_watched (own_index h) h.topics.watched) → i < h.topics.watched
        from (inl e) = let none = below_next a 0 i (subst (λ n. i < n) (e ∙ ap (λ n. next_watched n 0) own) less) ne in absurd (omega (arith, none))
        from (inr e) = below_next a h.topics.watched i (subst (λ n. i < n) (e ∙ ap (λ n. next_watched n h.topics.watched) own) less) ne

    no_first : i < j → IsLook z a (next_watched a 0) s → ⊥
    no_first less L =
        let e : j ≡ next_watched a 0 = same_index (map_of z) j (next_watched a 0) (sym word ∙ L.word) in
        let none = below_next a 0 i (subst (λ n. i < n) e less) ne in
        absurd (omega (arith, none))

    by : (b : Bool) → in_section found ≡ b → (i ≡ j) ⊎ (i ≢ j)
        → (IsLook z a i s × ((topics_in w i).stay ≡ Outside)) ⊎ ((i < h.topics.watched) × (IsLook z a (next_watched a 0) s → ⊥))
    by true inside (inl e) = let u = watched ∙ ap (λ b. j + (if b then 0 else 1)) inside in absurd (omega (arith, u, lt, e))
    by false clear (inl e) =
        subst (λ n. (IsLook z a n s × ((topics_in w n).stay ≡ Outside)) ⊎ ((n < h.topics.watched) × (IsLook z a (next_watched a 0) s → ⊥))) (sym e)
        (inl (
          looks,
          outside_is (topics_in w j).stay (sym (word_tells z w j G (subst (λ (y : Sizes). j < actors_of y) same N.0)) ∙ ap in_section (sym found_is) ∙ clear),
        ))
    by true inside (inr other) =
        let u = watched ∙ ap (λ b. j + (if b then 0 else 1)) inside in let less : i < j = omega (arith, u, lt, other) in inr (below less, no_first less)
    by false clear (inr other) =
        let u = watched ∙ ap (λ b. j + (if b then 0 else 1)) clear in let less : i < j = omega (arith, u, lt, other) in inr (below less, no_first less)

own_look : (z : Sizes) (w : World Held) (s : Step Kind) (i : ℕ) → IsSound z w → May mmu w s → OneLook z w s s.actor i
own_look z w s i G may ne lt = by (step_kind h s.kind may.enabled)
  where
    h : Held
    h = hand_in mmu w s.actor

    behind : hand_in mmu (effect mmu w s) s.actor ≡ next h s.kind (answered mmu w s.kind)
    behind = hand_here w s may.there

    below : {m n : ℕ} → i < m → m ≤ n → i < n
    below lt le = omega (arith, lt, le)

    part_look : (N : IsPartKind h s.kind) → (((index : ℕ) × (N.step ≡ part.Watch index)) ⊎ IsNoLook N.step)
        → (IsLook z s.actor i s × ((topics_in w i).stay ≡ Outside)) ⊎ ((i < h.topics.watched) × (IsLook z s.actor (next_watched s.actor 0) s → ⊥))
    part_look N (inl (j, e)) = watch_look z w s i j N.note G may (N.is ∙ ap (λ x. part_kind h x N.note) e) (subst (λ x. PartNeeds x h) e N.needs) ne lt
    part_look N (inr no_look) =
        let v = answered mmu w s.kind in
        let topics : (topics_in (effect mmu w s) s.actor) ≡ part_topics N.step h.topics v =
        ap (λ (x : Held). x.topics) behind ∙ ap (λ (k : Kind). (next h k v).topics) N.is ∙ topics_behind h N.step N.note v N.needs in
        inr (
          below (subst (λ (t : Topics). i < t.watched) topics lt) (no_look.watched h.topics v),
          λ L. no_look.code (own_index h) N.note h.topics (sym (ap (λ (k : Kind). k.code) N.is) ∙ L.watch),
        )

    by : IsPartKind h s.kind ⊎ IsQuiet h.state.sizes h.topics s.kind
        → (IsLook z s.actor i s × ((topics_in w i).stay ≡ Outside)) ⊎ ((i < h.topics.watched) × (IsLook z s.actor (next_watched s.actor 0) s → ⊥))
    by (inl N) = part_look N (look_or_not N.step)
    by (inr Q) =
        let v = answered mmu w s.kind in
        inr (
          subst (λ n. i < n) (ap (λ (x : Held). x.topics.watched) behind ∙ ap (λ (t : Topics). t.watched) (next_topics h s.kind v)
              ∙ ap (λ (t : Topics). t.watched) (Q.topics v)) lt,
          λ L. Q.code L.watch,
        )

one_look : (z : Sizes) (w : World Held) (s : Step Kind) (a i : ℕ) → IsSound z w → May mmu w s → OneLook z w s a i
one_look z w s a i G may = by (same_or a s.actor)
  where
    by : (a ≡ s.actor) ⊎ (a ≢ s.actor) → OneLook z w s a i
    by (inl e) = subst (λ x. OneLook z w s x i) (sym e) (own_look z w s i G may)
    by (inr other) = λ ne lt. inr (subst (λ (x : Held). i < x.topics.watched) (hand_there w s a other) lt, λ L. other (sym L.by))

-- What the steps made of a watch: they have the look that saw the actor outside, or it was watched before, and no watch begins in them.
watched_or_before : (z : Sizes) (w : World Held) (ss : List (Step Kind)) (a i : ℕ) → IsSound z w → Legal mmu w ss → i ≢ a
    → i < (topics_in (run mmu w ss) a).watched → SawOutside z w a i ss ⊎ ((i < (topics_in w a).watched) × BeginNoWatch z a ss)
watched_or_before z w [] a i G legal ne lt = inr (lt, tt)
watched_or_before z w (s ∷ ss) a i G legal ne lt = by (watched_or_before z (effect mmu w s) ss a i (good_step z w s G legal.0) legal.1 ne lt)
  where
    first : BeginNoWatch z a ss → (IsLook z a i s × ((topics_in w i).stay ≡ Outside)) ⊎ ((i < (topics_in w a).watched) × (IsLook z a (next_watched a 0) s → ⊥))
        → SawOutside z w a i (s ∷ ss) ⊎ ((i < (topics_in w a).watched) × BeginNoWatch z a (s ∷ ss))
    first none (inl look) = inl (record { before = []; look = s; later = ss; split = refl; looks = look.0; outside = look.1; same_watch = none })
    first none (inr kept) = inr (kept.0, (kept.1, none))

    by : SawOutside z (effect mmu w s) a i ss ⊎ ((i < (topics_in (effect mmu w s) a).watched) × BeginNoWatch z a ss)
        → SawOutside z w a i (s ∷ ss) ⊎ ((i < (topics_in w a).watched) × BeginNoWatch z a (s ∷ ss))
    by (inl S) = inl (record {
      before = s ∷ S.before;
      look = S.look;
      later = S.later;
      split = ap (λ ts. s ∷ ts) S.split;
      looks = S.looks;
      outside = S.outside;
      same_watch = S.same_watch;
    })
    by (inr kept) = first kept.1 (one_look z w s a i G legal.0 ne kept.0)

pub watched_was_outside : WatchedWasOutside
watched_was_outside z lines w ss a i start legal there lt ne = by (watched_or_before z w ss a i (start_good z lines w start) legal ne lt)
  where
    by : SawOutside z w a i ss ⊎ ((i < (topics_in w a).watched) × BeginNoWatch z a ss) → SawOutside z w a i ss
    by (inl S) = S
    by (inr kept) = let none = ap (λ (x : Held). x.topics.watched) (hand_is z lines w a start there) in absurd (omega (arith, none, kept.0))
