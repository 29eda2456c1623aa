-- Each step keeps what is said of flushes.
use Rattle.std.proofs.Common.{◌≡◌, ◌+◌, ◌*◌, ◌/◌, ◌<◌, ℕ, ◌∷◌, refl, sym, subst, arith}
use Rattle.std.specs.Prelude.{Bool, true, false, if◌then◌else◌}
use Rattle.std.proofs.lemmas.Bool.Decides.{nat_tests}
use Rattle.std.proofs.lemmas.List.Elements.{All-cons, All-take}
use Rattle.circular_buffer.specs.Buffer.{Buffer}
use Rattle.core_views.specs.declared.cache.Translation.{Translation}
use Rattle.core_views.specs.declared.kind.Kind.{Kind}
use Rattle.core_views.specs.declared.place.AccessPlace.{AccessPlace}
use Rattle.core_views.specs.declared.place.AccessPlace.TheVariants.{Walk}
use Rattle.core_views.specs.declared.place.Place.{Place}
use Rattle.core_views.specs.declared.place.Place.TheVariants as place
use Rattle.core_views.specs.declared.sizes.Sizes.{Sizes}
use Rattle.core_views.specs.declared.topics.Invalidated.{Invalidated}
use Rattle.core_views.specs.declared.topics.Stay.TheVariants.{Guest}
use Rattle.core_views.specs.declared.topics.TableWalk.{TableWalk}
use Rattle.core_views.specs.declared.topics.Topics.{Topics}
use Rattle.core_views.specs.declared.trace.Command.{Command}
use Rattle.core_views.specs.declared.trace.Command.TheVariants.{Access}
use Rattle.core_views.specs.declared.trace.Line.{Line}
use Rattle.core_views.specs.declared.trace.Op.{Op}
use Rattle.core_views.specs.declared.trace.Op.TheVariants.{Read}
use Rattle.core_views.specs.Held.{Held}
use Rattle.core_views.specs.Sizes.{actors_of}
use Rattle.core_views.specs.Slots.{is_write}
use Rattle.spte_words.specs.declared.area.Area.TheVariants as area
use Rattle.spte_words.specs.Areas.{pool_index}
use Rattle.spte_words.specs.Entries.{kind_of, level_span}
use Rattle.part_steps.specs.declared.part_step.PartStep.{PartStep}
use Rattle.part_steps.specs.declared.part_step.PartStep.TheVariants as part
use Rattle.part_steps.specs.declared.task.Task.{Task}
use Rattle.part_steps.specs.PartHoldings.{IsOver}
use Rattle.part_steps.specs.PartTasks.{entry_index, own_index, part_task, table_page}
use Rattle.part_steps.specs.PartTopics.{part_topics}
use Rattle.part_steps.specs.Tasks.{kind_of_task}
use Rattle.part_steps.specs.TopicSteps.{topics_after}
use Rattle.mmu_core.specs.invariant.Invariant.{Invariant}
use Rattle.mmu_core.specs.invariant.InvalidatedPart.{FlushPart, IsApart, IsClean, IsNoLeafIn}
use Rattle.mmu_core.specs.invariant.ReachPart.{InReach}
use Rattle.mmu_core.specs.invariant.TopicsInvariant.{TopicsInvariant}
use Rattle.mmu_core.specs.invariant.TreePart.{Position, at}
use Rattle.mmu_core.specs.forms.access.AccessKnows.{AccessKnows}
use Rattle.mmu_core.specs.forms.access.AccessSteps.{access_caches, access_task, is_found, touch_of}
use Rattle.mmu_core.specs.forms.access.Cached.{flushed, with_leaf}
use Rattle.mmu_core.specs.forms.access.FaultSteps.{allows_access}
use Rattle.mmu_core.specs.lines.Forms.{KnowsPart, caches_at}
use Rattle.mmu_core.specs.lines.PartAt.{task_at}
use Rattle.mmu_core.specs.machine.View.{View, answer_in, hand_after, part_stepped, stepped, upd, words_after}
use Rattle.mmu_core.proofs.invariant.Kept.{makes_at}
use Rattle.mmu_core.proofs.invariant.QuietKept.{MakesAt}
use Rattle.mmu_core.proofs.forms.access.AccessParts.{AreSmall}
use Rattle.mmu_core.proofs.forms.access.CachedKept.{found_is_leaf}
use Rattle.mmu_core.proofs.lines.KnowsKept.{step_knows}
use Rattle.mmu_core.proofs.lines.StepIn.{StepIn, Makes, Touches, step_of}
use Rattle.mmu_core.proofs.machine.PartStepping.{IsPart}
use Rattle.mmu_core.proofs.machine.Stepping.{IsStep}
use Rattle.mmu_core.proofs.pages.Standing.{spot_of}
use Rattle.mmu_core.proofs.words.PartTopics.{is_there, part_topics_is}
use Rattle.mmu_core.proofs.held.FlushedCaches.{KeepsClean, cached_flushed, touch_flushed}
pub use Rattle.mmu_core.proofs.held.FlushSteps.{FlushAt}

-- ---- Behind a task.

-- the flushes' part after a task, where the hand of actor a is this one, but for what it holds and has cached
abbrev FlushesBehind : Sizes → View → ℕ → Held → Task → Topics → Buffer Translation → Type 0
FlushesBehind z v a g task topics cached =
    FlushPart (actors_of z) z.vcpus (words_after task v.words area.State) (upd v.hand a (record g { topics = topics; cached = cached }))

-- The same, where the task is a step's, and this is cached before a flush.
abbrev FlushesAfter : Sizes → View → ℕ → Held → Buffer Translation → Task → Type 0
FlushesAfter z v a g c task =
    let k : Kind = kind_of_task (v.hand a).state.sizes task in
    let x : ℕ = answer_in task v.words in
    FlushesBehind z v a g task (topics_after (v.hand a).state.sizes k (v.hand a).topics x) (flushed k c x)

-- After a touch, and after each step.
touched_flushed : (z : Sizes) (v : View) (a : ℕ) (c : Buffer Translation) (g : Held) (op : Op) (index : ℕ) (I : TopicsInvariant z v)
    → KeepsClean z v I a c → FlushAt z v → FlushesAfter z v a g c (touch_of op index)
unfolding topics_after flushed
touched_flushed z v a c g Read index I keeps F = touch_flushed z v a c g I keeps F
touched_flushed z v a c g _ index I keeps F = touch_flushed z v a c g I keeps F

task_flushed : (z : Sizes) (v : View) (a : ℕ) (c : Buffer Translation) (g : Held) (task : Task) → StepIn z v a task → (I : TopicsInvariant z v)
    → KeepsClean z v I a c → FlushAt z v → FlushesAfter z v a g c task
task_flushed z v a c g _ (Touches op index) I keeps F = touched_flushed z v a c g op index I keeps F
task_flushed z v a c g _ (Makes step note S) I keeps F =
    subst (λ (t : Topics). FlushesBehind z v a g task t (flushed k c x)) (sym (part_topics_is h.state.sizes step (own_index h) h.topics note x
    (is_there step h S.needs)))
    (subst (λ i.
    let of_place : Task = part_task step i h.topics note in
    let found : ℕ = answer_in of_place v.words in
    FlushesBehind z v a g of_place (part_topics step h.topics found) (flushed (kind_of_task h.state.sizes of_place) c found))
    (sym S.own_place) (cached_flushed z v a note c g step S I keeps F))
  where
    h : Held
    h = v.hand a

    task : Task
    task = part_task step (own_index h) h.topics note

    x : ℕ
    x = answer_in task v.words

    k : Kind
    k = kind_of_task h.state.sizes task

-- ---- What an access caches.

module _ (z : Sizes) (v : View) (a : ℕ) (I : TopicsInvariant z v) where
  abbrev h : Held
  h = v.hand a

  abbrev walk : TableWalk
  walk = h.topics.walk

  -- the entry of the guest frame in the walk's table
  abbrev entry : ℕ → ℕ
  entry gfn = v.words area.Pool (pool_index (table_page walk) (entry_index gfn walk.level))

  -- It is no leaf of these frames, where none is in reach.
  entry_clean : (own_ : Invalidated) (gfn other : ℕ) → a < actors_of z → h.topics.stay ≡ Guest → IsOver gfn walk
      → other / level_span walk.level ≡ gfn / level_span walk.level → InReach I.up I.spot (v.words area.Pool) h.topics (IsNoLeafIn own_)
      → IsNoLeafIn own_ walk.level other (entry gfn)
  entry_clean own_ gfn other there guest over same reach =
      let at_walk = (I.held a there).table over.there in
      let here : I.spot (table_page walk) ≡ at walk.level walk.prefix = (spot_of I.up I.spot (table_page walk) (at walk.level walk.prefix) at_walk).1 in
      let span = over.span in
      subst (λ (p : Position). IsNoLeafIn own_ p.level other (entry gfn)) here
      (reach guest walk.level over.there (omega arith) (I.tree.there _ _ at_walk).2 (table_page walk) (entry_index gfn walk.level) other (0, refl) (
        omega arith,
        subst (λ (p : Position). other / level_span p.level ≡ p.prefix * 512 + entry_index gfn walk.level) (sym here)
            (omega (arith, span, same)),
      ))

  -- So where a walk finds a leaf, and caches it, this is of none of these frames.
  pub walk_keeps : (gfn : ℕ) (allowed : Bool) → h.topics.stay ≡ Guest → IsPart z v a (part.Walk gfn)
      → KeepsClean z v I a (if is_found (kind_of walk.level (entry gfn)) allowed then with_leaf gfn walk.level (entry gfn) h.cached else h.cached)
  walk_keeps gfn allowed guest S i lt opened asked none = by (is_found (kind_of walk.level (entry gfn)) allowed) refl
    where
      own_ : Invalidated
      own_ = (v.hand i).topics.invalidations.own

      by : (b : Bool) → is_found (kind_of walk.level (entry gfn)) allowed ≡ b
          → IsClean own_ (if b then with_leaf gfn walk.level (entry gfn) h.cached else h.cached).items
      by false is = none.0
      by true is =
          let leaf : Translation = record { gfn = gfn; level = walk.level; leaf = entry gfn } in
          let found = found_is_leaf (kind_of walk.level (entry gfn)) allowed is in
          let apart : IsApart own_ leaf = λ other covered among.
          let same : other / level_span walk.level ≡ gfn / level_span walk.level = grind (arith, nat_tests) in
          entry_clean own_ gfn other S.there guest S.needs.0 same none.1 among found in
          All-take (IsApart own_) h.cached.capacity (leaf ∷ h.cached.items) (All-cons (IsApart own_) leaf h.cached.items apart none.0)

  -- No other step caches anything.
  access_keeps : (p : AccessPlace) (gfn word : ℕ) (op : Op) → AccessKnows p gfn (is_write op) h → MakesAt z v a (place.Access p) (Access gfn word op)
      → KeepsClean z v I a (access_caches p h gfn op (answer_in (access_task p h gfn word op) v.words))
  access_keeps (Walk again) gfn word op K makes = walk_keeps gfn (allows_access (is_write op) (entry gfn)) K.0.guest (makes (part.Walk gfn) refl)
  access_keeps _ gfn word op K makes = λ i lt opened asked none. none.0

  line_keeps : (p : Place) (command : Command) → KnowsPart p command h → MakesAt z v a p command
      → KeepsClean z v I a (caches_at p command h (answer_in (task_at p command h) v.words))
  line_keeps (place.Access p) (Access gfn word op) K makes = access_keeps p gfn word op K makes
  line_keeps _ _ K makes = λ i lt opened asked none. none.0

-- ---- Each step keeps it.

line_flushed : (z : Sizes) (v : View) (a : ℕ) (line : Line) (command : Command) (p : Place) → KnowsPart p command (v.hand a) → MakesAt z v a p command
    → TopicsInvariant z v → FlushAt z v → FlushAt z (stepped a line command p v)
line_flushed z v a line command p K makes P F =
    let h : Held = v.hand a in
    let task : Task = task_at p command h in
    let x : ℕ = answer_in task v.words in
    task_flushed z v a (caches_at p command h x) (hand_after line command p h x) task (step_of z v a command p makes) P (line_keeps z v a P p command K makes) F

pub line_flushes_kept : (z : Sizes) (v : View) (a : ℕ) (line : Line) (command : Command) (p : Place) → AreSmall v → IsStep z v a line command p
    → Invariant z v → TopicsInvariant z v → FlushAt z v → FlushAt z (stepped a line command p v)
line_flushes_kept z v a line command p small S I P F =
    line_flushed z v a line command p (step_knows z v a line command p S I) (makes_at z v a line command p small S I P) P F

pub part_flushes_kept : (z : Sizes) (v : View) (a : ℕ) (step : PartStep) (note : ℕ) → IsPart z v a step → TopicsInvariant z v → FlushAt z v
    → FlushAt z (part_stepped a step note v)
part_flushes_kept z v a step note S P F =
    let h : Held = v.hand a in
    task_flushed z v a h.cached h (part_task step (own_index h) h.topics note) (Makes step note S) P (λ i lt opened asked none. none.0) F
