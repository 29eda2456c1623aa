-- Each step keeps it that what a virtual processor may use of what it has cached agrees with slots and host; and so an access uses the leaf that they give.
use Rattle.std.proofs.Common.{◌≡◌, ◌<◌, ℕ, refl, sym, subst, ap, arith}
use Rattle.std.specs.Prelude.{Bool, true, false, if◌then◌else◌}
use Rattle.circular_buffer.specs.Buffer.{Buffer}
use Rattle.core_views.specs.declared.cache.Translation.{Translation}
use Rattle.core_views.specs.declared.kind.Kind.{Kind}
use Rattle.core_views.specs.declared.place.AccessPlace.{AccessPlace}
use Rattle.core_views.specs.declared.place.AccessPlace.TheVariants.{Walk}
use Rattle.core_views.specs.declared.place.Place.{Place}
use Rattle.core_views.specs.declared.place.Place.TheVariants as place
use Rattle.core_views.specs.declared.sizes.Sizes.{Sizes}
use Rattle.core_views.specs.declared.topics.Stay.TheVariants.{Guest}
use Rattle.core_views.specs.declared.topics.TableWalk.{TableWalk}
use Rattle.core_views.specs.declared.topics.Topics.{Topics}
use Rattle.core_views.specs.declared.trace.Command.{Command}
use Rattle.core_views.specs.declared.trace.Command.TheVariants.{Access}
use Rattle.core_views.specs.declared.trace.Line.{Line}
use Rattle.core_views.specs.declared.trace.Op.{Op}
use Rattle.core_views.specs.declared.trace.Op.TheVariants.{Read}
use Rattle.core_views.specs.Held.{Held}
use Rattle.core_views.specs.Sizes.{actors_of}
use Rattle.core_views.specs.Slots.{is_write}
use Rattle.core_views.specs.Traces.{IsCommandFor}
use Rattle.spte_words.specs.declared.area.Area.TheVariants as area
use Rattle.spte_words.specs.Areas.{pool_index}
use Rattle.spte_words.specs.Entries.{kind_of}
use Rattle.part_steps.specs.declared.part_step.PartStep.{PartStep}
use Rattle.part_steps.specs.declared.part_step.PartStep.TheVariants as part
use Rattle.part_steps.specs.declared.task.Task.{Task}
use Rattle.part_steps.specs.PartTasks.{entry_index, own_index, part_task, table_page}
use Rattle.part_steps.specs.PartTopics.{part_topics}
use Rattle.part_steps.specs.Tasks.{kind_of_task}
use Rattle.part_steps.specs.TopicSteps.{topics_after}
use Rattle.mmu_core.specs.invariant.CachedPart.{IsLeafFor, IsTranslationFor}
use Rattle.mmu_core.specs.invariant.Invariant.{Invariant}
use Rattle.mmu_core.specs.invariant.InvalidatedPart.{may_use}
use Rattle.mmu_core.specs.invariant.TopicsInvariant.{TopicsInvariant}
use Rattle.mmu_core.specs.forms.access.AccessKnows.{AccessKnows}
use Rattle.mmu_core.specs.forms.access.AccessSteps.{access_caches, access_task, is_found, touch_of}
use Rattle.mmu_core.specs.forms.access.Cached.{UsesTranslation, flushed, with_leaf}
use Rattle.mmu_core.specs.forms.access.FaultSteps.{allows_access}
use Rattle.mmu_core.specs.lines.Forms.{KnowsPart, caches_at}
use Rattle.mmu_core.specs.lines.PartAt.{task_at}
use Rattle.mmu_core.specs.machine.View.{View, answer_in, hand_after, part_stepped, stepped, upd, words_after}
use Rattle.mmu_core.proofs.held.FlushKept.{walk_keeps}
use Rattle.mmu_core.proofs.held.FlushSteps.{FlushAt}
use Rattle.mmu_core.proofs.held.UsableSteps.{Agrees, Caches, has_cached, part_usable, touch_usable}
pub use Rattle.mmu_core.proofs.held.UsableSteps.{UsableAt}
use Rattle.mmu_core.proofs.invariant.Kept.{makes_at}
use Rattle.mmu_core.proofs.invariant.QuietKept.{MakesAt}
use Rattle.mmu_core.proofs.forms.access.AccessParts.{AreSmall}
use Rattle.mmu_core.proofs.forms.access.CachedKept.{found_is_leaf, leaf_found, used_covers, vcpu_below, with_leaf_all}
use Rattle.mmu_core.proofs.lines.KnowsKept.{step_knows}
use Rattle.mmu_core.proofs.lines.StepIn.{StepIn, Makes, Touches, step_of}
use Rattle.mmu_core.proofs.machine.PartStepping.{IsPart}
use Rattle.mmu_core.proofs.machine.Stepping.{IsStep}
use Rattle.mmu_core.proofs.words.PartTopics.{is_there, part_topics_is}

-- ---- Behind a task.

-- what may be used after a task, where the hand of actor a is this one, but for what it holds and has cached
abbrev UsableBehind : Sizes → View → ℕ → Held → Task → Topics → Buffer Translation → Type 0
UsableBehind z v a g task topics cached =
    UsableAt z (record { words = words_after task v.words; hand = upd v.hand a (record g { topics = topics; cached = cached }) })

-- The same, where the task is a step's, and this is cached before a flush.
abbrev UsableAfter : Sizes → View → ℕ → Held → Buffer Translation → Task → Type 0
UsableAfter z v a g c task =
    let k : Kind = kind_of_task (v.hand a).state.sizes task in
    let x : ℕ = answer_in task v.words in
    UsableBehind z v a g task (topics_after (v.hand a).state.sizes k (v.hand a).topics x) (flushed k c x)

-- After a touch, and after each step.
touched_usable : (z : Sizes) (v : View) (a : ℕ) (I : TopicsInvariant z v) (c : Buffer Translation) (g : Held) (op : Op) (index : ℕ)
    → Caches z v I a c → UsableAt z v
    → UsableAfter z v a g c (touch_of op index)
unfolding topics_after flushed
touched_usable z v a I c g Read index C U = touch_usable z v a I c g C U
touched_usable z v a I c g _ index C U = touch_usable z v a I c g C U

task_usable : (z : Sizes) (v : View) (a : ℕ) (c : Buffer Translation) (g : Held) (task : Task) → StepIn z v a task → (I : TopicsInvariant z v)
    → Caches z v I a c → FlushAt z v → UsableAt z v → UsableAfter z v a g c task
task_usable z v a c g _ (Touches op index) I C F U = touched_usable z v a I c g op index C U
task_usable z v a c g _ (Makes step note S) I C F U =
    subst (λ (t : Topics). UsableBehind z v a g task t (flushed k c x)) (sym (part_topics_is h.state.sizes step (own_index h) h.topics note x
    (is_there step h S.needs)))
    (subst (λ i.
    let of_place : Task = part_task step i h.topics note in
    let found : ℕ = answer_in of_place v.words in
    UsableBehind z v a g of_place (part_topics step h.topics found) (flushed (kind_of_task h.state.sizes of_place) c found))
    (sym S.own_place) (part_usable z v a note c g step S I C F U))
  where
    h : Held
    h = v.hand a

    task : Task
    task = part_task step (own_index h) h.topics note

    x : ℕ
    x = answer_in task v.words

    k : Kind
    k = kind_of_task h.state.sizes task

-- ---- What an access caches.

module _ (z : Sizes) (v : View) (a : ℕ) (I : Invariant z v) (P : TopicsInvariant z v) (there : a < actors_of z) (U : UsableAt z v) where
  abbrev h : Held
  h = v.hand a

  abbrev walk : TableWalk
  walk = h.topics.walk

  -- the entry of the guest frame in the walk's table
  abbrev entry : ℕ → ℕ
  entry gfn = v.words area.Pool (pool_index (table_page walk) (entry_index gfn walk.level))

  -- A leaf that its walk finds is cached before what was cached: it is the one that slots and host give.
  walk_agrees : (gfn : ℕ) (allowed : Bool) → a < z.vcpus → h.topics.stay ≡ Guest → IsPart z v a (part.Walk gfn) → Agrees v.words h.cached.items
      → Agrees v.words (if is_found (kind_of walk.level (entry gfn)) allowed then with_leaf gfn walk.level (entry gfn) h.cached else h.cached).items
  walk_agrees gfn allowed low guest S each = by (is_found (kind_of walk.level (entry gfn)) allowed) refl
    where
      by : (b : Bool) → is_found (kind_of walk.level (entry gfn)) allowed ≡ b
          → Agrees v.words (if b then with_leaf gfn walk.level (entry gfn) h.cached else h.cached).items
      by false is = each
      by true is =
          let found = leaf_found z v a gfn low guest P S.needs.0 (found_is_leaf (kind_of walk.level (entry gfn)) allowed is) in
          with_leaf_all (IsTranslationFor (v.words area.Pool) (v.words area.Host) (v.words area.Slots 0)) gfn walk.level (entry gfn) h.cached found each

  access_cached : (p : AccessPlace) (gfn word : ℕ) (op : Op) → IsCommandFor z h.state.actor (Access gfn word op) → AccessKnows p gfn (is_write op) h
      → MakesAt z v a (place.Access p) (Access gfn word op) → Caches z v P a (access_caches p h gfn op (answer_in (access_task p h gfn word op) v.words))
  access_cached (Walk again) gfn word op may K makes =
      let allowed : Bool = allows_access (is_write op) (entry gfn) in
      let S = makes (part.Walk gfn) refl in
      let low : a < z.vcpus = subst (λ i. i < z.vcpus) (I.lines a there).index (vcpu_below z h.state.actor gfn word op may) in
      record {
        keeps = walk_keeps z v a P gfn allowed K.0.guest S;
        agrees = λ lt may. walk_agrees gfn allowed low K.0.guest S (U.agrees a lt may);
        none = λ high. absurd (omega (arith, low, high));
      }
  access_cached _ gfn word op may K makes = has_cached z v P a there U

  -- No other step caches anything.
  line_cached : (p : Place) (command : Command) → IsCommandFor z h.state.actor command → KnowsPart p command h → MakesAt z v a p command
      → Caches z v P a (caches_at p command h (answer_in (task_at p command h) v.words))
  line_cached (place.Access p) (Access gfn word op) may K makes = access_cached p gfn word op may K makes
  line_cached _ _ may K makes = has_cached z v P a there U

-- ---- Each step keeps it.

pub line_usable_kept : (z : Sizes) (v : View) (a : ℕ) (line : Line) (command : Command) (p : Place) → AreSmall v → IsStep z v a line command p
    → Invariant z v → TopicsInvariant z v → FlushAt z v → UsableAt z v → UsableAt z (stepped a line command p v)
line_usable_kept z v a line command p small S I P F U =
    let h : Held = v.hand a in
    let makes : MakesAt z v a p command = makes_at z v a line command p small S I P in
    let x : ℕ = answer_in (task_at p command h) v.words in
    task_usable z v a (caches_at p command h x) (hand_after line command p h x) (task_at p command h) (step_of z v a command p makes) P
    (line_cached z v a I P S.there U p command (subst (λ actor. IsCommandFor z actor command) S.own S.allowed)
    (step_knows z v a line command p S I) makes) F U

pub part_usable_kept : (z : Sizes) (v : View) (a : ℕ) (step : PartStep) (note : ℕ) → IsPart z v a step → TopicsInvariant z v → FlushAt z v
    → UsableAt z v → UsableAt z (part_stepped a step note v)
part_usable_kept z v a step note S P F U =
    let h : Held = v.hand a in
    task_usable z v a h.cached h (part_task step (own_index h) h.topics note) (Makes step note S) P (has_cached z v P a S.there U) F U

-- ---- What an access uses.

-- The leaf of a translation that is used in the guest is the one that slots and host give the guest frame.
pub used_agrees : (z : Sizes) (v : View) (a gfn : ℕ) (write : Bool) → UsableAt z v → a < z.vcpus → (v.hand a).topics.stay ≡ Guest
    → UsesTranslation gfn write (v.hand a)
    → IsLeafFor (v.words area.Pool) (v.words area.Host) (v.words area.Slots 0) (v.hand a).state.used.level gfn (v.hand a).state.used.leaf
used_agrees z v a gfn write U low guest uses =
    let h : Held = v.hand a in
    let may : may_use (v.words area.State a) h.topics.stay ≡ true = ap (may_use (v.words area.State a)) guest in
    let L = used_covers (IsTranslationFor (v.words area.Pool) (v.words area.Host) (v.words area.Slots 0)) gfn write h.cached.items h.state.used
    (U.agrees a low may) uses in
    L.0 gfn L.1
