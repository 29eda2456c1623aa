-- The invariant holds of every world that is reached from a start.
use Rattle.std.proofs.Common.{◌≡◌, ◌≢◌, ◌⊎◌, inl, inr, ◌<◌, ◌^◌, ℕ, List, [], ◌∷◌, length, refl, sym, subst, ap, ◌∙◌, arith}
use Rattle.std.specs.Prelude.{Bool, true, false, ◌==◌, if◌then◌else◌, nat_lt, slice_index, slice_set}
use Rattle.std.proofs.lemmas.List.{get_or-set_other, get_or-set_same}
use Rattle.std.proofs.lemmas.Nat.{and_le_l, or_lt}
use Rattle.core_views.specs.declared.kind.Operation.{Operation}
use Rattle.core_views.specs.declared.kind.Operation.TheVariants as operation
use Rattle.core_views.specs.Kinds.{after, operation_of_code, word_after}
use Rattle.mmu_core.specs.invariant.InvalidationsPart.{EndsPart}
use Rattle.mmu_core.specs.invariant.Laws.{IsSound}
use Rattle.mmu_core.proofs.forms.access.AccessParts.{AreSmall}
use Rattle.mmu_core.proofs.held.CopiedKept.{CopiedAt, line_copied_kept, part_copied_kept}
use Rattle.mmu_core.proofs.held.FlushKept.{FlushAt, line_flushes_kept, part_flushes_kept}
use Rattle.mmu_core.proofs.held.UsableKept.{UsableAt, line_usable_kept, part_usable_kept}
use Rattle.mmu_core.proofs.machine.EndsKept.{line_ends_kept, next_few, part_ends_kept}
use Rattle.mmu_core.proofs.words.Control.{pause_stays}
use Rattle.mmu_core.proofs.machine.Columns.{same_or}
use Rattle.core_views.specs.declared.kind.Kind.{Kind}
use Rattle.core_views.specs.declared.sizes.Sizes.{Sizes}
use Rattle.core_views.specs.Held.{Held}
use Rattle.core_views.specs.Sizes.{actors_of, index_of}
use Rattle.spte_words.specs.declared.area.Area.{Area}
use Rattle.spte_words.specs.declared.area.Area.TheVariants as area
use Rattle.part_steps.specs.declared.task.Task.{Task}
use Rattle.part_steps.specs.declared.part_step.PartStep.{PartStep}
use Rattle.spte_words.specs.Areas.{place, size_of}
use Rattle.mmu_core.specs.machine.Enabled.{IsNext, IsPartStep, mmu}
use Rattle.mmu_core.specs.invariant.Invariant.{Invariant}
use Rattle.mmu_core.specs.machine.Machine.{Legal, May, Step, World, answered, effect, hand_in, run}
use Rattle.part_steps.specs.PartTasks.{own_index, part_task}
use Rattle.part_steps.specs.PartSteps.{needs_line}
use Rattle.mmu_core.specs.machine.Steps.{has_line, held_after, idle_after, line_at, next, place_at, task_of}
use Rattle.part_steps.specs.Tasks.{kind_of_task, map_of}
use Rattle.mmu_core.specs.invariant.TopicsInvariant.{TopicsInvariant}
use Rattle.mmu_core.specs.machine.View.{View, answer_in, part_stepped, stepped, upd, view, word_in, words_after}
use Rattle.mmu_core.proofs.lines.KnowsKept.{part_knows_behind}
use Rattle.mmu_core.proofs.invariant.Kept.{step_kept}
use Rattle.mmu_core.proofs.machine.Extend.{hands_of_effect, words_of_effect}
use Rattle.mmu_core.proofs.invariant.PartKept.{part_keeps_lines}
use Rattle.mmu_core.proofs.words.PartIndex.{index_same, written_same}
use Rattle.mmu_core.proofs.words.PartWords.{areas_stay}
use Rattle.mmu_core.proofs.invariant.RestsKept.{task_within}
use Rattle.mmu_core.proofs.machine.Which.{has_line_is, is_next, is_part, next_of_line, next_of_part}
use Rattle.mmu_core.proofs.held.TopicsKept.{topics_line_kept, topics_part_kept}
use Rattle.mmu_core.proofs.machine.Stepping.{IsStep, is_step as step_of_hand}
use Rattle.mmu_core.proofs.machine.Views.{answered_is, view_behind}
use Rattle.mmu_core.proofs.machine.PartStepping.{IsPart, replaces_none, idle_untold}

-- A step writes a number below 2 ^ 64 where it found one.
word_small : (o : Operation) (old_ new_ n : ℕ) → new_ < 2 ^ 64 → n < 2 ^ 64 → word_after o old_ new_ n < 2 ^ 64
word_small operation.Load old_ new_ n small found = found
word_small operation.FetchAdd old_ new_ n small found = omega arith
word_small operation.FetchSub old_ new_ n small found = omega arith
word_small operation.FetchAnd old_ new_ n small found = omega (arith, and_le_l n new_)
word_small operation.FetchOr old_ new_ n small found = or_lt 64 n new_ found small
word_small operation.CompareExchange old_ new_ n small found = by (n == old_)
  where
    by : (b : Bool) → (if b then new_ else n) < 2 ^ 64
    by true = small
    by false = found
word_small _ old_ new_ n small found = small

after_small : (k : Kind) (n : ℕ) → k.new < 2 ^ 64 → n < 2 ^ 64 → after k n < 2 ^ 64
unfolding after
after_small k n small found = word_small (operation_of_code k.code) k.old k.new n small found

words_small : (words : List ℕ) (a x : ℕ) → a < length words → x < 2 ^ 64 → ((i : ℕ) → slice_index words i < 2 ^ 64) → (i : ℕ)
    → slice_index (slice_set words a x) i < 2 ^ 64
words_small words a x lt small all i = by (same_or i a)
  where
    by : (i ≡ a) ⊎ (i ≢ a) → slice_index (slice_set words a x) i < 2 ^ 64
    by (inl e) = rw (e, get_or-set_same words a x 0 lt) small
    by (inr ne) = rw (get_or-set_other words a i x 0 ne) (all i)

-- the view after a step, as the step of a line at its place
stepped_is : (z : Sizes) (w : World Held) (a : ℕ) (h : Held) → hand_in mmu w a ≡ h → h.state.sizes ≡ z → has_line h ≡ true
    → ◌≡◌ {A = View} (record {
      words = words_after (task_of (hand_in mmu w a)) (word_in z w);
      hand = upd (hand_in mmu w) a
          (next (hand_in mmu w a) (kind_of_task z (task_of (hand_in mmu w a))) (answer_in (task_of (hand_in mmu w a)) (word_in z w)));
    })
    (stepped a (line_at (hand_in mmu w a).state.place (hand_in mmu w a)) (line_at (hand_in mmu w a).state.place (hand_in mmu w a)).command
    (place_at (hand_in mmu w a).state.place (hand_in mmu w a)) (view z w))
stepped_is z w a h is sizes has =
    let g : Held = hand_in mmu w a in
    let v : ℕ = answer_in (task_of g) (word_in z w) in
    ap (λ (x : Held). record { words = words_after (task_of g) (word_in z w); hand = upd (hand_in mmu w) a x })
    (next_of_line g (kind_of_task z (task_of g)) v (ap has_line is ∙ has)
    ∙ ap (λ y. held_after (line_at g.state.place g) (place_at g.state.place g) g (kind_of_task y (task_of g)) v)
    (sym (ap (λ (x : Held). x.state.sizes) is ∙ sizes)))

-- A step of a line that may be made, as the step of its line in the view.
pub record Takes (z : Sizes) (w : World Held) (s : Step Kind) (h : Held) : Type 0 where
  pub has : has_line h ≡ true
  pub is_step : IsStep z (view z w) s.actor (line_at h.state.place h) (line_at h.state.place h).command (place_at h.state.place h)
  pub leads : ◌≡◌ {A = View} (view z (effect mmu w s))
      (stepped s.actor (line_at h.state.place h) (line_at h.state.place h).command (place_at h.state.place h) (view z w))
  pub answers : answered mmu w s.kind ≡ answer_in (task_of h) (word_in z w)
  pub writes : s.kind.new < 2 ^ 64

pub takes_line : (z : Sizes) (w : World Held) (s : Step Kind) → IsSound z w → May mmu w s → IsNext (hand_in mmu w s.actor) s.kind
    → Takes z w s (hand_in mmu w s.actor)
takes_line z w s G may N =
    let h : Held = hand_in mmu w s.actor in
    let there : s.actor < actors_of z = omega (arith, may.there, G.hands) in
    let same : h.state.sizes ≡ z = (G.holds.lines s.actor there).sizes in
    let kind : s.kind ≡ kind_of_task z (task_of h) = N.is ∙ ap (λ y. kind_of_task y (task_of h)) same in
    let within = subst (λ y. (task_of h).index < size_of (map_of y) (task_of h).area) same (task_within h N.rests) in
    let has = has_line_is h N.left in
    record {
      has = has;
      is_step = step_of_hand z (view z w) s.actor G.holds there N.left;
      leads = ap (λ k. view z (effect mmu w (record { actor = s.actor; kind = k }))) kind
          ∙ (view_behind z w s.actor (task_of h) within G.words may.there ∙ stepped_is z w s.actor h refl same has);
      answers = ap (answered mmu w) kind ∙ answered_is z w (task_of h) within;
      writes = N.small;
    }

-- A step of a part that may be made, as that step in the view.
pub record TakesPart (z : Sizes) (w : World Held) (s : Step Kind) (h : Held) : Type 0 where
  pub none_left : has_line h ≡ false
  pub step : PartStep
  pub free : needs_line step ≡ false
  pub note : ℕ
  pub is_part : IsPart z (view z w) s.actor step
  pub leads : ◌≡◌ {A = View} (view z (effect mmu w s)) (part_stepped s.actor step note (view z w))
  pub answers : answered mmu w s.kind ≡ answer_in (part_task step (own_index h) h.topics note) (word_in z w)
  pub writes : s.kind.new < 2 ^ 64

-- each word of a view is small
pub view_small : (z : Sizes) (w : World Held) → ((i : ℕ) → slice_index w.words i < 2 ^ 64) → (b : Area) (i : ℕ) → word_in z w b i < 2 ^ 64
view_small z w small b i = by (nat_lt i (size_of (map_of z) b))
  where
    by : (c : Bool) → (if c then slice_index w.words (place (map_of z) b i) else 0) < 2 ^ 64
    by true = small (place (map_of z) b i)
    by false = omega arith

part_stepped_is : (z : Sizes) (w : World Held) (a : ℕ) (step : PartStep) (note : ℕ) → (hand_in mmu w a).state.sizes ≡ z → has_line (hand_in mmu w a) ≡ false
    → ◌≡◌ {A = View} (record {
      words = words_after (part_task step (own_index (hand_in mmu w a)) (hand_in mmu w a).topics note) (word_in z w);
      hand = upd (hand_in mmu w) a
          (next (hand_in mmu w a) (kind_of_task z (part_task step (own_index (hand_in mmu w a)) (hand_in mmu w a).topics note))
          (answer_in (part_task step (own_index (hand_in mmu w a)) (hand_in mmu w a).topics note) (word_in z w)));
    })
    (part_stepped a step note (view z w))
part_stepped_is z w a step note sizes none =
    let h : Held = hand_in mmu w a in
    let t : Task = part_task step (own_index h) h.topics note in
    let v : ℕ = answer_in t (word_in z w) in
    ap (λ (x : Held). record { words = words_after t (word_in z w); hand = upd (hand_in mmu w) a x })
    (next_of_part h (kind_of_task z t) v none ∙ ap (λ y. idle_after h (kind_of_task y t) v) (sym sizes))

pub takes_part : (z : Sizes) (w : World Held) (s : Step Kind) → IsSound z w → May mmu w s → IsPartStep (hand_in mmu w s.actor) s.kind
    → TakesPart z w s (hand_in mmu w s.actor)
takes_part z w s G may N =
    let h : Held = hand_in mmu w s.actor in
    let there : s.actor < actors_of z = omega (arith, may.there, G.hands) in
    let O = G.holds.lines s.actor there in
    let same : h.state.sizes ≡ z = O.sizes in
    let t : Task = part_task N.step (own_index h) h.topics N.note in
    let kind : s.kind ≡ kind_of_task z t = N.is ∙ ap (λ y. kind_of_task y t) same in
    let at = index_same N.step (own_index h) h.topics N.note in
    let within : t.index < size_of (map_of z) t.area =
    subst (λ y. t.index < size_of (map_of y) t.area) same (subst (λ (b : Area). t.index < size_of (map_of h.state.sizes) b) (sym at.1)
    (subst (λ i. i < size_of (map_of h.state.sizes) (part_task N.step (own_index h) h.topics 0).area) (sym at.0) N.within)) in
    record {
      none_left = N.none_left;
      step = N.step;
      free = N.free;
      note = N.note;
      is_part = record {
        is_sizes = G.holds.sizes;
        slots = G.holds.set_part.slots;
        there = there;
        sizes = same;
        own_place = ap (λ y. index_of y h.state.actor) same ∙ O.index;
        needs = N.needs;
        replaces = replaces_none z N.step (word_in z w area.Pool) (word_in z w area.Slots 0) h.topics (idle_untold N.step N.free);
        within = N.within;
        small = view_small z w G.small;
        written =
            subst (λ i. (part_task N.step i h.topics 0).written < 2 ^ 64) (ap (λ y. index_of y h.state.actor) same ∙ O.index)
            (subst (λ n. n < 2 ^ 64) (written_same N.step (own_index h) h.topics N.note) (subst (λ (k : Kind). k.new < 2 ^ 64) N.is N.small));
      };
      leads = ap (λ k. view z (effect mmu w (record { actor = s.actor; kind = k }))) kind
          ∙ (view_behind z w s.actor t within G.words may.there ∙ part_stepped_is z w s.actor N.step N.note same N.none_left);
      answers = ap (answered mmu w) kind ∙ answered_is z w t within;
      writes = N.small;
    }

-- A step that may be made is one of these.
pub takes : (z : Sizes) (w : World Held) (s : Step Kind) → IsSound z w → May mmu w s
    → Takes z w s (hand_in mmu w s.actor) ⊎ TakesPart z w s (hand_in mmu w s.actor)
takes z w s G may = by (has_line (hand_in mmu w s.actor)) refl
  where
    by : (b : Bool) → has_line (hand_in mmu w s.actor) ≡ b → Takes z w s (hand_in mmu w s.actor) ⊎ TakesPart z w s (hand_in mmu w s.actor)
    by true has = inl (takes_line z w s G may (is_next (hand_in mmu w s.actor) s.kind may.enabled has))
    by false none = inr (takes_part z w s G may (is_part (hand_in mmu w s.actor) s.kind may.enabled none))

-- The words of a sound world are small, and so is its next sequence number.
pub are_small : (z : Sizes) (w : World Held) → IsSound z w → AreSmall (view z w)
are_small z w G = record { each = view_small z w G.small; next_seq = next_few z (word_in z w area.Seq 0) (hand_in mmu w) G.holds.sizes G.holds.lines G.ends }

pub good_step : (z : Sizes) (w : World Held) (s : Step Kind) → IsSound z w → May mmu w s → IsSound z (effect mmu w s)
unfolding effect
good_step z w s G may = by (takes z w s G may)
  where
    h : Held
    h = hand_in mmu w s.actor

    small : s.kind.new < 2 ^ 64 → (i : ℕ) → slice_index (effect mmu w s).words i < 2 ^ 64
    small writes =
        words_small w.words s.kind.word (after s.kind (slice_index w.words s.kind.word)) may.inside
        (after_small s.kind (slice_index w.words s.kind.word) writes (G.small s.kind.word)) G.small

    by : Takes z w s h ⊎ TakesPart z w s h → IsSound z (effect mmu w s)
    by (inl T) = record {
      words = words_of_effect mmu w s ∙ G.words;
      hands = hands_of_effect mmu w s ∙ G.hands;
      small = small T.writes;
      ends = subst (λ (v : View). EndsPart z (v.words area.Seq 0) v.hand) (sym T.leads)
          (line_ends_kept z (view z w) s.actor (line_at h.state.place h) (line_at h.state.place h).command (place_at h.state.place h)
          (are_small z w G) T.is_step G.holds G.topics G.ends);
      usable = subst (UsableAt z) (sym T.leads) (line_usable_kept z (view z w) s.actor (line_at h.state.place h) (line_at h.state.place h).command
          (place_at h.state.place h) (are_small z w G) T.is_step G.holds G.topics G.flushes G.usable);
      flushes = subst (FlushAt z) (sym T.leads) (line_flushes_kept z (view z w) s.actor (line_at h.state.place h) (line_at h.state.place h).command
          (place_at h.state.place h) (are_small z w G) T.is_step G.holds G.topics G.flushes);
      copied = subst (CopiedAt z) (sym T.leads) (line_copied_kept z (view z w) s.actor (line_at h.state.place h) (line_at h.state.place h).command
          (place_at h.state.place h) (are_small z w G) T.is_step G.holds G.topics G.flushes G.usable G.copied);
      no_pause = subst (λ (v : View). v.words area.Pause 0 ≡ 0) (sym T.leads)
          (pause_stays z (view z w) s.actor (line_at h.state.place h) (line_at h.state.place h).command (place_at h.state.place h)
          (are_small z w G) T.is_step G.holds G.topics ∙ G.no_pause);
      holds = subst (Invariant z) (sym T.leads) (step_kept z (view z w) s.actor (line_at h.state.place h) (line_at h.state.place h).command
          (place_at h.state.place h) (are_small z w G) T.is_step G.holds G.topics);
      topics = subst (TopicsInvariant z) (sym T.leads) (topics_line_kept z (view z w) s.actor (line_at h.state.place h) (line_at h.state.place h).command
          (place_at h.state.place h) (are_small z w G) T.is_step G.holds G.topics);
    }
    by (inr T) = record {
      words = words_of_effect mmu w s ∙ G.words;
      hands = hands_of_effect mmu w s ∙ G.hands;
      small = small T.writes;
      ends = subst (λ (v : View). EndsPart z (v.words area.Seq 0) v.hand) (sym T.leads) (part_ends_kept z (view z w) s.actor T.step T.note T.free G.ends);
      usable = subst (UsableAt z) (sym T.leads) (part_usable_kept z (view z w) s.actor T.step T.note T.is_part G.topics G.flushes G.usable);
      flushes = subst (FlushAt z) (sym T.leads) (part_flushes_kept z (view z w) s.actor T.step T.note T.is_part G.topics G.flushes);
      copied = subst (CopiedAt z) (sym T.leads) (part_copied_kept z (view z w) s.actor T.step T.note T.is_part T.none_left G.holds G.topics G.copied);
      no_pause =
          subst (λ (v : View). v.words area.Pause 0 ≡ 0) (sym T.leads)
          (ap (λ (f : ℕ → ℕ). f 0) (areas_stay (view z w) s.actor T.step T.note area.Pause refl) ∙ G.no_pause);
      holds =
          subst (Invariant z) (sym T.leads) (part_keeps_lines z (view z w) s.actor T.step T.note T.is_part T.free T.none_left G.holds G.topics
          (part_knows_behind z (view z w) s.actor T.step T.note T.none_left G.holds));
      topics = subst (TopicsInvariant z) (sym T.leads) (topics_part_kept z (view z w) s.actor T.step T.note T.is_part G.topics);
    }

pub good_run : (z : Sizes) (w : World Held) (ss : List (Step Kind)) → IsSound z w → Legal mmu w ss → IsSound z (run mmu w ss)
good_run z w [] G legal = G
good_run z w (s ∷ ss) G legal = good_run z (effect mmu w s) ss (good_step z w s G legal.0) legal.1
