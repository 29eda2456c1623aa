-- Each step keeps what actors have copied of the pages that they move: a guest touches neither a frame that is owned nor a page's that is moved.
use Rattle.std.proofs.Common.{◌≡◌, ◌≢◌, ◌⊎◌, inl, inr, ◌+◌, ◌*◌, ◌<◌, ◌≤◌, ℕ, refl, sym, subst, ap, ◌∙◌, arith}
use Rattle.std.specs.Prelude.{Bool, true, false, ◌==◌, ◌&&◌, nat_le, nat_lt, if◌then◌else◌, Option, Some, None}
use Rattle.std.proofs.lemmas.Bool.Decides.{nat_tests}
use Rattle.core_views.specs.declared.actor.Actor.{Actor}
use Rattle.core_views.specs.declared.actor.Actor.TheVariants.{Vcpu}
use Rattle.core_views.specs.declared.cache.Translation.{Translation}
use Rattle.core_views.specs.declared.kind.StepKind.TheVariants as kind
use Rattle.core_views.specs.declared.place.AccessPlace.TheVariants.{Touch}
use Rattle.core_views.specs.declared.place.Place.{Place}
use Rattle.core_views.specs.declared.place.Place.TheVariants as place
use Rattle.core_views.specs.declared.sizes.Sizes.{Sizes}
use Rattle.core_views.specs.declared.trace.Command.{Command}
use Rattle.core_views.specs.declared.trace.Command.TheVariants.{Access}
use Rattle.core_views.specs.declared.trace.Line.{Line}
use Rattle.core_views.specs.declared.trace.Op.{Op}
use Rattle.core_views.specs.declared.trace.Op.TheVariants.{Add, Read, Write}
use Rattle.core_views.specs.declared.trace.Slot.{Slot as SlotOf}
use Rattle.core_views.specs.Held.{Held, has_line}
use Rattle.core_views.specs.Kinds.{operation_of, word_after}
use Rattle.core_views.specs.Sizes.{actors_of}
use Rattle.core_views.specs.Slots.{contains, is_write}
use Rattle.core_views.specs.Traces.{IsCommandFor}
use Rattle.spte_words.specs.declared.area.Area.TheVariants as area
use Rattle.spte_words.specs.Areas.{content_index}
use Rattle.spte_words.specs.HostWords.{host_frame}
use Rattle.part_steps.specs.declared.part_step.PartStep.{PartStep}
use Rattle.part_steps.specs.declared.task.Task.{Task}
use Rattle.part_steps.specs.FrameTopics.{is_uncopied}
use Rattle.part_steps.specs.PartTasks.{page_looked, word_looked}
use Rattle.part_steps.specs.SlotWords.{page_of}
use Rattle.part_steps.specs.Tasks.{kind_of_task, map_of}
use Rattle.part_steps.specs.TopicSteps.{topics_after}
use Rattle.mmu_core.specs.invariant.CachedPart.{IsLeafFor}
use Rattle.mmu_core.specs.invariant.FramesPart.{CopiedPart, IsCopied}
use Rattle.mmu_core.specs.invariant.Invariant.{Invariant, KnowsPart}
use Rattle.mmu_core.specs.invariant.InvalidatedPart.{IsApart, SlotGives, may_use}
use Rattle.mmu_core.specs.invariant.TopicsInvariant.{TopicsInvariant}
use Rattle.mmu_core.specs.forms.access.AccessKnows.{AccessKnows}
use Rattle.mmu_core.specs.forms.access.AccessSteps.{task_by, touch_of}
use Rattle.mmu_core.specs.forms.access.Cached.{frame_used}
use Rattle.mmu_core.specs.lines.Forms.{note_at, part_at}
use Rattle.mmu_core.specs.lines.PartAt.{task_at, touch_at}
use Rattle.mmu_core.specs.machine.Steps.{idle_after}
use Rattle.mmu_core.specs.machine.View.{View, answer_in, hand_after, part_stepped, stepped, upd, words_after}
use Rattle.mmu_core.proofs.held.CopiedSteps.{MovesPage, most, moves_on, part_copied}
pub use Rattle.mmu_core.proofs.held.CopiedSteps.{CopiedAt}
use Rattle.mmu_core.proofs.held.KeptEmpty.{page_empty}
use Rattle.mmu_core.proofs.held.FlushSteps.{FlushAt}
use Rattle.mmu_core.proofs.held.FreshFrames.{behind_it}
use Rattle.mmu_core.proofs.held.UsableKept.{UsableAt, used_agrees}
use Rattle.mmu_core.proofs.forms.access.CachedKept.{vcpu_below}
use Rattle.mmu_core.proofs.invariant.Kept.{makes_at}
use Rattle.mmu_core.proofs.forms.access.AccessParts.{AreSmall}
use Rattle.mmu_core.proofs.forms.access.CachedKept.{used_covers}
use Rattle.mmu_core.proofs.lines.KnowsKept.{step_knows, step_leaves}
use Rattle.mmu_core.proofs.words.HostFrames.{leaf_maps}
use Rattle.mmu_core.proofs.machine.PartStepping.{IsPart}
use Rattle.mmu_core.proofs.machine.Stepping.{IsStep}
use Rattle.mmu_core.proofs.machine.SumsBelow.{column}
use Rattle.mmu_core.proofs.machine.Which.{has_line_is}
use Rattle.mmu_core.proofs.pages.CopiedWords.{FrameStays, copied_stays, none_copied, stored_elsewhere}
use Rattle.mmu_core.proofs.pages.FrameUses.{frames_apart, owned_of_no_page}
use Rattle.mmu_core.proofs.forms.host.MovingPlaces.{CopiesAt, copies_at, movers, moving_left, moving_step}
use Rattle.mmu_core.proofs.held.PageRuns.{some_run}

-- ---- a touch

-- what a touch finds: the page behind the guest frame, and its frame
record TouchedPage (z : Sizes) (v : View) (a gfn : ℕ) : Type 0 where
  page : ℕ
  there : page < z.pages
  frame : frame_used gfn (v.hand a).state ≡ host_frame (v.words area.Host page)
  gives : SlotGives (v.words area.Pool) (v.words area.Slots 0) page gfn

in_machine : (z : Sizes) (gfn : ℕ) (slot : SlotOf) → slot.host + slot.pages ≤ z.pages → contains gfn slot ≡ true → page_of slot gfn < z.pages
in_machine z gfn slot fits holds = let inside = bounds slot.base (slot.base + slot.pages) holds in omega (arith, fits, inside.0, inside.1)
  where
    bounds : (low high : ℕ) → (nat_le low gfn && nat_lt gfn high) ≡ true → (low ≤ gfn) × (gfn < high)
    bounds low high test = (grind (arith, nat_tests), grind (arith, nat_tests))

module _ (z : Sizes) (v : View) (a gfn : ℕ) (write : Bool) (I : Invariant z v) (P : TopicsInvariant z v) (U : UsableAt z v) (F : FlushAt z v)
    (there : a < actors_of z) (low : a < z.vcpus) (K : AccessKnows Touch gfn write (v.hand a)) where
  abbrev used : Translation
  used = (v.hand a).state.used

  found : IsLeafFor (v.words area.Pool) (v.words area.Host) (v.words area.Slots 0) used.level gfn used.leaf
  found = used_agrees z v a gfn write U low K.0.guest K.1

  touched_page : TouchedPage z v a gfn
  touched_page =
      let L : IsLeafFor (v.words area.Pool) (v.words area.Host) (v.words area.Slots 0) used.level gfn used.leaf = found in
      let page : ℕ = page_of L.slot gfn in
      let fits : L.slot.host + L.slot.pages ≤ z.pages =
      subst (λ (s : SlotOf). s.host + s.pages ≤ z.pages) L.live.is (I.set_part.slots.fits L.id L.live.low L.live.live).pages in
      let in_ : page < z.pages = in_machine z gfn L.slot fits L.holds in
      let B = behind_it L.slot gfn L.holds in
      record {
        page = page;
        there = in_;
        frame = leaf_maps (v.words area.Pool) (v.words area.Host) (v.words area.Slots 0) used.level gfn used.leaf L;
        gives = record { id = L.id; slot = L.slot; live = L.live; has = B.0; is = B.1 };
      }

  -- It is no page that is moved: nothing is cached of its guest frames.
  not_moved : (i : ℕ) → i < actors_of z → (v.hand i).topics.invalidations.opened ≡ true → MovesPage z (v.words area.Host) (v.hand i).topics
      → touched_page.page ≢ page_looked (v.hand i).topics.host
  not_moved i lt opened M e =
      let clean = (F i a lt low (page_empty (v.hand i).topics _ opened M.invalid)).awaits (omega (arith, low, M.asked)) (omega (arith, low, M.awaited))
      (ap (may_use (v.words area.State a)) K.0.guest) in
      let apart = used_covers (IsApart (v.hand i).topics.invalidations.own) gfn write (v.hand a).cached.items used clean K.1 in
      apart.0 gfn apart.1
      ((P.scopes i lt opened (some_run (page_looked (v.hand i).topics.host) (v.hand i).topics.invalidations.own.pages M.invalid)).covers
      (page_looked (v.hand i).topics.host) gfn M.invalid
      (subst (λ p. SlotGives (v.words area.Pool) (v.words area.Slots 0) p gfn) e touched_page.gives))

  -- So what is copied stays, where a word of the touched frame is stored.
  touch_copied : (word x : ℕ) → word < z.words → CopiedAt z v
      → CopiedPart z (actors_of z) (upd (v.words area.Content) (z.words * frame_used gfn (v.hand a).state + word) x) (λ i. (v.hand i).topics)
  touch_copied word x below C i o lt opened owned = by (movers z v I P i lt opened)
    where
      after : ℕ → ℕ
      after = upd (v.words area.Content) (z.words * frame_used gfn (v.hand a).state + word) x

      stays : (frame : ℕ) → host_frame (v.words area.Host touched_page.page) ≢ frame → FrameStays z.words (v.words area.Content) after frame
      stays frame apart =
          stored_elsewhere z.words (v.words area.Content) (frame_used gfn (v.hand a).state) word x frame below (λ e. apart (sym touched_page.frame ∙ sym e))

      by : (is_uncopied (v.hand i).topics.frames.owned ≡ true) ⊎ MovesPage z (v.words area.Host) (v.hand i).topics
          → IsCopied z.words after (v.hand i).topics o
      by (inl none) = none_copied z.words after (v.hand i).topics o (sym (ap is_uncopied owned) ∙ none)
      by (inr M) =
          copied_stays z.words (v.words area.Content) after (v.hand i).topics o (most z v i o P lt owned)
          (stays o.frame (owned_of_no_page P.frames i o touched_page.page lt owned touched_page.there))
          (stays (host_frame (word_looked (v.hand i).topics.host)) (λ e. not_moved i lt opened M
          (frames_apart P.frames touched_page.page (page_looked (v.hand i).topics.host) touched_page.there M.there (e ∙ M.frame))))
          (C i o lt opened owned)

-- ---- each step

-- The words after a task of a line, and the hands with what its actor holds then.
abbrev CopiedBehind : Sizes → View → ℕ → Task → Type 0
CopiedBehind z v a task = CopiedAt z (record {
  words = words_after task v.words;
  hand = upd v.hand a (idle_after (v.hand a) (kind_of_task (v.hand a).state.sizes task) (answer_in task v.words));
})

word_below : (z : Sizes) (actor : Actor) (gfn word : ℕ) (op : Op) → IsCommandFor z actor (Access gfn word op) → word < z.words
word_below z (Vcpu n) gfn word op may = may.2
word_below z _ gfn word op may = absurd may

same_topics_copied : (z : Sizes) (v : View) (a : ℕ) (content : ℕ → ℕ) (h : Held) → h.topics ≡ (v.hand a).topics
    → CopiedPart z (actors_of z) content (λ i. (v.hand i).topics) → CopiedPart z (actors_of z) content (λ i. (upd v.hand a h i).topics)
same_topics_copied z v a content h same = subst (CopiedPart z (actors_of z) content) (sym (column (λ (g : Held). g.topics) v.hand a h same))

-- A guest's touch stores in content alone, if it does, and leaves what actors hold.
touched_copied : (z : Sizes) (v : View) (a : ℕ) (op : Op) (index at : ℕ) → index ≡ at → CopiedAt z v
    → ((x : ℕ) → CopiedPart z (actors_of z) (upd (v.words area.Content) at x) (λ i. (v.hand i).topics)) → CopiedBehind z v a (touch_of op index)
unfolding topics_after
touched_copied z v a Read index at is C kept = same_topics_copied z v a (v.words area.Content) _ refl C
touched_copied z v a (Write x) index at is C kept =
    let w : ℕ = word_after (operation_of kind.Write) 0 x (v.words area.Content index) in
    same_topics_copied z v a (upd (v.words area.Content) index w) _ refl
    (subst (λ k. CopiedPart z (actors_of z) (upd (v.words area.Content) k w) (λ i. (v.hand i).topics)) (sym is) (kept w))
touched_copied z v a (Add x) index at is C kept =
    let w : ℕ = word_after (operation_of kind.Add) 0 x (v.words area.Content index) in
    same_topics_copied z v a (upd (v.words area.Content) index w) _ refl
    (subst (λ k. CopiedPart z (actors_of z) (upd (v.words area.Content) k w) (λ i. (v.hand i).topics)) (sym is) (kept w))

content_at : (z : Sizes) (frame word : ℕ) → content_index (map_of z) frame word ≡ z.words * frame + word
unfolding content_index
content_at z frame word = refl

line_touch : (z : Sizes) (v : View) (a : ℕ) (p : Place) (command : Command) → Invariant z v → TopicsInvariant z v → UsableAt z v → FlushAt z v
    → a < actors_of z → IsCommandFor z (v.hand a).state.actor command → KnowsPart p command (v.hand a) → CopiedAt z v
    → part_at p command (v.hand a) ≡ None → CopiedBehind z v a (touch_at command (v.hand a))
line_touch z v a (place.Access Touch) (Access gfn word op) I P U F there may K C none =
    let h : Held = v.hand a in
    let low : a < z.vcpus = subst (λ i. i < z.vcpus) (I.lines a there).index (vcpu_below z h.state.actor gfn word op may) in
    touched_copied z v a op (content_index (map_of h.state.sizes) (frame_used gfn h.state) word) (z.words * frame_used gfn h.state + word)
    (ap (λ y. content_index (map_of y) (frame_used gfn h.state) word) (I.lines a there).sizes ∙ content_at z (frame_used gfn h.state) word) C
    (λ x. touch_copied z v a gfn (is_write op) I P U F there low K word x (word_below z h.state.actor gfn word op may) C)
line_touch z v a (place.Access p) (Access gfn word op) I P U F there may K C none = absurd (cc none)
line_touch z v a _ (Access gfn word op) I P U F there may K C none = absurd (cc none)
line_touch z v a _ _ I P U F there may K C none = absurd (cc none)

pub line_copied_kept : (z : Sizes) (v : View) (a : ℕ) (line : Line) (command : Command) (p : Place) → AreSmall v → IsStep z v a line command p
    → Invariant z v → TopicsInvariant z v → FlushAt z v → UsableAt z v → CopiedAt z v → CopiedAt z (stepped a line command p v)
line_copied_kept z v a line command p small S I P F U C =
    subst (CopiedPart z (actors_of z) (words_after task v.words area.Content)) (λ t i. same i t) (by (part_at p command h) refl)
  where
    h : Held
    h = v.hand a

    task : Task
    task = task_at p command h

    after : Held
    after = hand_after line command p h (answer_in task v.words)

    idle : Held
    idle = idle_after h (kind_of_task h.state.sizes task) (answer_in task v.words)

    same : (i : ℕ) → (upd v.hand a idle i).topics ≡ (upd v.hand a after i).topics
    same i = either (i == a)
      where
        either : (b : Bool) → (if b then idle else v.hand i).topics ≡ (if b then after else v.hand i).topics
        either true = refl
        either false = refl

    K : KnowsPart p command h
    K = step_knows z v a line command p S I

    quiet : (step : PartStep) → part_at p command h ≡ Some step → moves_on step ≡ false → h.topics.invalidations.opened ≡ true
        → is_uncopied h.topics.frames.owned ≡ true
    quiet step is other opened = case (copies_at p command h K (step_leaves z v a line command p S I) opened)
      where
        case : CopiesAt p h → is_uncopied h.topics.frames.owned ≡ true
        case (inl none) = none
        case (inr M) = let moves = moving_step p command h K M.0 step is in absurd (cc (moves, other))

    by : (s : Option PartStep) → part_at p command h ≡ s → CopiedBehind z v a (task_by s h (note_at p command h) (touch_at command h))
    by None is =
        line_touch z v a p command I P U F S.there (subst (λ actor. IsCommandFor z actor command) S.own S.allowed) K C is
    by (Some step) is =
        part_copied z v a step (note_at p command h) (makes_at z v a line command p small S I P step is) P (movers z v I P) (quiet step is) C

pub part_copied_kept : (z : Sizes) (v : View) (a : ℕ) (step : PartStep) (note : ℕ) → IsPart z v a step → has_line (v.hand a) ≡ false → Invariant z v
    → TopicsInvariant z v → CopiedAt z v → CopiedAt z (part_stepped a step note v)
part_copied_kept z v a step note S none_left I P C = part_copied z v a step note S P (movers z v I P) (λ other. quiet) C
  where
    h : Held
    h = v.hand a

    quiet : h.topics.invalidations.opened ≡ true → is_uncopied h.topics.frames.owned ≡ true
    quiet opened = case (copies_at h.state.place h.state.line.command h (I.knows a S.there) (I.leaves a S.there) opened)
      where
        case : CopiesAt h.state.place h → is_uncopied h.topics.frames.owned ≡ true
        case (inl none) = none
        case (inr M) = let has = has_line_is h (moving_left h.state.place h M.0 (I.lines a S.there).under) in absurd (cc (has, none_left))
