-- What an access that runs alone knows of the words after each of its steps.
use Rattle.std.proofs.Common.{◌≡◌, ◌-◌, ◌^◌, ◌<◌, ◌≤◌, ℕ, refl, sym, subst, ap, ◌∙◌}
use Rattle.std.specs.Prelude.{Bool, true, false, Option, Some, None}
use Rattle.core_views.specs.declared.cache.Translation.{Translation}
use Rattle.core_views.specs.declared.place.AccessPlace.{AccessPlace}
use Rattle.core_views.specs.declared.place.AccessPlace.TheVariants.{Enter, Pause, Root, Walk, Touch, Leave, Fault}
use Rattle.core_views.specs.declared.place.FaultEnd.TheVariants as end_of
use Rattle.core_views.specs.declared.place.FaultNext.{FaultNext}
use Rattle.core_views.specs.declared.place.FaultNext.TheVariants as next_of
use Rattle.core_views.specs.declared.place.Leaving.TheVariants as leaving
use Rattle.core_views.specs.declared.place.Place.{Place}
use Rattle.core_views.specs.declared.place.Place.TheVariants as place
use Rattle.core_views.specs.declared.sizes.Sizes.{Sizes}
use Rattle.core_views.specs.declared.topics.Stay.{Stay}
use Rattle.core_views.specs.declared.topics.Topics.{Topics}
use Rattle.core_views.specs.declared.trace.Command.{Command}
use Rattle.core_views.specs.declared.trace.Command.TheVariants.{Access}
use Rattle.core_views.specs.declared.trace.Op.{Op}
use Rattle.core_views.specs.Held.{Held}
use Rattle.core_views.specs.Sizes.{actors_of, index_of}
use Rattle.core_views.specs.Slots.{is_write}
use Rattle.spte_words.specs.declared.area.Area.{Area}
use Rattle.spte_words.specs.declared.area.Area.TheVariants as area
use Rattle.spte_words.specs.declared.spte_kind.SpteKind.{SpteKind}
use Rattle.spte_words.specs.declared.spte_kind.SpteKind.TheVariants as entry_kind
use Rattle.spte_words.specs.Areas.{pool_index}
use Rattle.spte_words.specs.Entries.{kind_of}
use Rattle.part_steps.specs.ControlTopics.{at_root}
use Rattle.part_steps.specs.PartBounds.{PartRests}
use Rattle.part_steps.specs.PartTasks.{entry_index, own_index, table_page}
use Rattle.part_steps.specs.PartTopics.{part_topics}
use Rattle.part_steps.specs.StayTopics.{may_walk}
use Rattle.part_steps.specs.WalkTopics.{gone_down, linked_page}
use Rattle.mmu_core.specs.alone.AloneKnows.{AloneKnows, FormAlone, StayAlone}
use Rattle.mmu_core.specs.alone.FaultAlone.{AloneNext, GoesThrough, LeadsToLeaf, FaultRunsAlone}
use Rattle.mmu_core.specs.alone.OthersRest.{OthersRest}
use Rattle.mmu_core.specs.declared.outcome.Outcome.{Outcome}
use Rattle.mmu_core.specs.declared.outcome.Outcome.TheVariants.{Goes, Ends}
use Rattle.mmu_core.specs.invariant.Laws.{IsSound}
use Rattle.mmu_core.specs.forms.access.AccessSteps.{access_note, access_task, behind_fault, pause_next, stay_next}
use Rattle.mmu_core.specs.forms.access.Cached.{first_usable}
use Rattle.mmu_core.specs.forms.access.FaultKnows.{FaultKnows}
use Rattle.mmu_core.specs.forms.access.FaultSteps.{allows_access, fault_next, fault_part}
use Rattle.mmu_core.specs.forms.access.AccessKnows.{AccessKnows}
use Rattle.mmu_core.specs.lines.Forms.{part_at, outcome_at}
use Rattle.mmu_core.specs.machine.Enabled.{mmu}
use Rattle.mmu_core.specs.machine.Machine.{World, hand_in}
use Rattle.mmu_core.specs.machine.Steps.{task_at}
use Rattle.mmu_core.specs.machine.View.{answer_in, word_in, words_after}
use Rattle.mmu_core.proofs.forms.access.WalkKnown.{above_lowest}
use Rattle.mmu_core.proofs.machine.GoesOn.{GoesToSimple}
use Rattle.mmu_core.proofs.machine.PartStepping.{behind_part}
use Rattle.mmu_laws.proofs.forms.access.FaultAlone.{goes_through}
use Rattle.mmu_laws.proofs.leaves.LeadsDown.{down_page, leaf_below}

-- what a form knows where its line goes on to
abbrev pub FormNext : Outcome → Command → (Area → ℕ → ℕ) → Topics → Type 0
FormNext (Goes p) command words t = FormAlone p command words t
FormNext (Ends answer) command words t = Unit {0}

-- At a place of a simple form it knows nothing of its own.
pub simple_form : (o : Outcome) (command : Command) (words : Area → ℕ → ℕ) (t : Topics) → GoesToSimple o → FormNext o command words t
simple_form (Goes (place.Access p)) command words t simple = absurd simple
simple_form (Goes (place.Host p)) command words t simple = absurd simple
simple_form _ command words t simple = tt

module _ (gfn word : ℕ) (op : Op) (words : Area → ℕ → ℕ) where
  abbrev Next : Outcome → Topics → Type 0
  Next o t = FormNext o (Access gfn word op) words t

  pause_form : (used : Option Translation) (again : Bool) (t : Topics) → StayAlone again (words area.Root 0) (words area.Pool) gfn (is_write op)
      → Next (Goes (place.Access (pause_next again used))) t
  pause_form None again t stay = stay
  pause_form (Some used) again t stay = tt

  root_form : (again holds : Bool) (t : Topics) → holds ≡ true → StayAlone again (words area.Root 0) (words area.Pool) gfn (is_write op)
      → Next (Goes (place.Access (Walk again))) (record t { walk = at_root holds t.walk (words area.Root 0) })
  root_form again true t is stay = stay
  root_form again false t is stay = absurd (cc is)

  walk_form : (k : SpteKind) (allowed again : Bool) (t : Topics) (v : ℕ) → kind_of t.walk.level v ≡ k → 1 ≤ t.walk.level → t.walk.level ≤ 4
      → words area.Pool (pool_index (table_page t.walk) (entry_index gfn t.walk.level)) ≡ v
      → (again ≡ true → LeadsToLeaf (words area.Pool) t.walk.level (table_page t.walk) gfn (is_write op))
      → Next (Goes (place.Access (stay_next again k allowed))) (record t { walk = gone_down (linked_page k) t.walk (entry_index gfn t.walk.level) v })
  walk_form (entry_kind.Table page) allowed again t v is from most here stay =
      let pool : ℕ → ℕ = words area.Pool in
      let index : ℕ = entry_index gfn t.walk.level in
      let upper : 2 ≤ t.walk.level = above_lowest t.walk.level v page from is in
      let link : linked_page (kind_of t.walk.level (pool (pool_index (table_page t.walk) index))) ≡ Some page =
      ap (λ n. linked_page (kind_of t.walk.level n)) here ∙ ap (λ (x : SpteKind). linked_page x) is in
      λ yes. subst (λ n. LeadsToLeaf pool (t.walk.level - 1) n gfn (is_write op)) (sym (down_page page v index t.walk upper most))
      (leaf_below pool t.walk.level (table_page t.walk) gfn page (is_write op) upper link (stay yes))
  walk_form entry_kind.Leaf true again t v is from most here stay = tt
  walk_form entry_kind.Leaf false again t v is from most here stay = tt
  walk_form _ allowed again t v is from most here stay = tt

  fault_form : (n : FaultNext) (t : Topics) → AloneNext n (words area.Root 0) (words area.Slots 0) (words area.Pool) (words area.Host) gfn (is_write op) t
      → Next (behind_fault n) t
  fault_form (next_of.Goes p) t alone = alone
  fault_form (next_of.Ends end_of.Installed) t alone = λ yes. alone
  fault_form (next_of.Ends end_of.Mmio) t alone = tt
  fault_form (next_of.Ends end_of.HostFault) t alone = tt
  fault_form (next_of.Ends end_of.Starved) t alone = tt
  fault_form (next_of.Ends (end_of.Fixed marked)) t alone = λ yes. alone
  fault_form (next_of.Ends (end_of.NotFast seen)) t alone = tt
  fault_form (next_of.Ends (end_of.Retry fast cause)) t alone = absurd alone

-- ---- in a sound world

-- what the form of the actor's line knows after the step of its place
abbrev pub KnowsAfter : Sizes → World Held → ℕ → Place → Command → Type 0
KnowsAfter z w a p command =
    let h : Held = hand_in mmu w a in
    let v : ℕ = answer_in (task_at p command h) (word_in z w) in
    FormNext (outcome_at p command h v) command (words_after (task_at p command h) (word_in z w)) (behind_part (part_at p command h) h.topics v)

module _ (z : Sizes) (w : World Held) (a : ℕ) (sound : IsSound z w) (others : OthersRest a w) (there : a < actors_of z) where
  abbrev h : Held
  h = hand_in mmu w a

  abbrev words : Area → ℕ → ℕ
  words = word_in z w

  own : own_index h ≡ a
  own = ap (λ (y : Sizes). index_of y h.state.actor) (sound.holds.lines a there).sizes ∙ (sound.holds.lines a there).index

  pub access_form : (p : AccessPlace) (gfn word : ℕ) (op : Op) → gfn < 2 ^ 36 → PartRests h → h.topics.invalidations.opened ≡ false
      → AccessKnows p gfn (is_write op) h → AloneKnows (place.Access p) (Access gfn word op) words h.topics
      → KnowsAfter z w a (place.Access p) (Access gfn word op)
  access_form (Enter again) gfn word op small rests closed K L = L.form
  access_form (Pause again) gfn word op small rests closed K L = pause_form gfn word op words (first_usable gfn (is_write op) h.cached.items) again _ L.form
  access_form (Root again) gfn word op small rests closed K L =
      root_form gfn word op words again (may_walk h.topics.stay h.topics.hold) h.topics (ap (λ (s : Stay). may_walk s h.topics.hold) K.guest) L.form
  access_form (Walk again) gfn word op small rests closed K L =
      let v : ℕ = words area.Pool (pool_index (table_page h.topics.walk) (entry_index gfn h.topics.walk.level)) in
      walk_form gfn word op words (kind_of h.topics.walk.level v) (allows_access (is_write op) v) again h.topics v refl K.1.there rests.level refl L.form
  access_form (Fault p) gfn word op small rests closed K L =
      let note : ℕ = access_note (Fault p) in
      let v : ℕ = answer_in (access_task (Fault p) h gfn word op) words in
      let same = (sound.holds.lines a there).sizes in
      let runs : FaultRunsAlone z w a p gfn (is_write op) =
      record {
        sound = sound;
        others = others;
        there = there;
        small = small;
        knows = subst (λ y. FaultKnows p y gfn (is_write op) h.topics) same K;
        seen = L.seen;
        opens_none = closed;
        alone = L.form;
      } in
      let G : GoesThrough h.state.sizes words (own_index h) h.topics note p gfn (is_write op) =
      subst (λ y. GoesThrough y words (own_index h) h.topics note p gfn (is_write op)) (sym same)
      (subst (λ i. GoesThrough z words i h.topics note p gfn (is_write op)) (sym own) (goes_through z w a gfn note (is_write op) p runs)) in
      fault_form gfn word op (words_after (access_task (Fault p) h gfn word op) words) (fault_next p h.state.sizes gfn (is_write op) h.topics v)
      (part_topics (fault_part p gfn h.topics) h.topics v) G.next
  access_form (Leave (leaving.Reached frame value)) gfn word op small rests closed K L = tt
  access_form (Leave (leaving.Faults true)) gfn word op small rests closed K L = tt
  access_form (Leave (leaving.Faults false)) gfn word op small rests closed K L = tt
  access_form Touch gfn word op small rests closed K L = tt
