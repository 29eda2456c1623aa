-- What an actor knows where its line stands, after each step of an access, and after a step of a part.
use Rattle.std.proofs.Common.{◌≡◌, ◌^◌, ◌<◌, ◌≤◌, ℕ, length, refl, sym, subst, ap, ◌∙◌}
use Rattle.std.specs.Prelude.{Bool, true, false, if◌then◌else◌, Option, Some, None}
use Rattle.circular_buffer.specs.Buffer.{Buffer}
use Rattle.core_views.specs.declared.actor.Actor.{Actor}
use Rattle.core_views.specs.declared.actor.Actor.TheVariants.{Vcpu}
use Rattle.core_views.specs.declared.cache.Translation.{Translation}
use Rattle.core_views.specs.declared.place.AccessPlace.{AccessPlace}
use Rattle.core_views.specs.declared.place.AccessPlace.TheVariants.{Enter, Pause, Root, Walk, Touch, Leave, Fault}
use Rattle.core_views.specs.declared.place.FaultEnd.TheVariants as end_of
use Rattle.core_views.specs.declared.place.FaultNext.{FaultNext}
use Rattle.core_views.specs.declared.place.FaultNext.TheVariants as next_of
use Rattle.core_views.specs.declared.place.Leaving.TheVariants as leaving
use Rattle.core_views.specs.declared.place.Place.{Place}
use Rattle.core_views.specs.declared.place.Place.TheVariants as place
use Rattle.core_views.specs.declared.sizes.Sizes.{Sizes}
use Rattle.core_views.specs.declared.topics.Stay.{Stay}
use Rattle.core_views.specs.declared.topics.Stay.TheVariants.{Guest}
use Rattle.core_views.specs.declared.topics.Topics.{Topics}
use Rattle.core_views.specs.declared.trace.Command.{Command}
use Rattle.core_views.specs.declared.trace.Command.TheVariants.{Access}
use Rattle.core_views.specs.declared.trace.Line.{Line}
use Rattle.core_views.specs.declared.trace.Op.{Op}
use Rattle.core_views.specs.declared.trace.Op.TheVariants.{Read}
use Rattle.core_views.specs.Held.{Held}
use Rattle.core_views.specs.Sizes.{actors_of}
use Rattle.core_views.specs.Slots.{is_write}
use Rattle.core_views.specs.Traces.{IsCommandFor}
use Rattle.spte_words.specs.declared.area.Area.{Area}
use Rattle.spte_words.specs.declared.spte_kind.SpteKind.{SpteKind}
use Rattle.spte_words.specs.declared.spte_kind.SpteKind.TheVariants as entry_kind
use Rattle.spte_words.specs.Entries.{kind_of}
use Rattle.mmu_core.specs.declared.outcome.Outcome.{Outcome}
use Rattle.mmu_core.specs.declared.outcome.Outcome.TheVariants.{Goes, Ends}
use Rattle.part_steps.specs.declared.task.Task.{Task}
use Rattle.part_steps.specs.declared.part_step.PartStep.{PartStep}
use Rattle.part_steps.specs.declared.part_step.PartStep.TheVariants as part
use Rattle.mmu_core.specs.forms.access.AccessSteps.{access_note, access_outcome, access_part, access_task, behind_fault, is_found, use_found, pause_next}
use Rattle.mmu_core.specs.forms.access.AccessSteps.{task_by}
use Rattle.mmu_core.specs.forms.access.AccessSteps.{touch_of, stay_next}
use Rattle.mmu_core.specs.forms.access.Cached.{first_usable, flushed, with_leaf}
use Rattle.mmu_core.specs.forms.access.FaultKnows.{KnowsNext}
use Rattle.mmu_core.specs.forms.access.FaultLaws.{CanAnswer}
use Rattle.mmu_core.specs.forms.access.FaultSteps.{allows_access, fault_next}
use Rattle.mmu_core.specs.invariant.Invariant.{Invariant, KnowsPart, UnderWay, RetiresPart}
use Rattle.mmu_core.specs.forms.access.AccessKnows.{AccessKnows, InGuest}
use Rattle.mmu_core.specs.lines.Forms.{RetiresPart, RestsAt, caches_at, first_place, outcome_at}
use Rattle.part_steps.specs.PartBounds.{PartRests}
use Rattle.part_steps.specs.PartTasks.{entry_index, own_index}
use Rattle.part_steps.specs.PartHoldings.{IsOver}
use Rattle.part_steps.specs.PartSteps.{IsAtRest, IsVcpu, PartNeeds}
use Rattle.part_steps.specs.PartTopics.{part_topics}
use Rattle.mmu_core.specs.machine.Steps.{has_line, line_at, place_at, standing}
use Rattle.part_steps.specs.Tasks.{kind_of_task}
use Rattle.mmu_core.specs.machine.Outcomes.{place_after}
use Rattle.part_steps.specs.StayTopics.{is_section, may_walk}
use Rattle.part_steps.specs.WalkTopics.{gone_down, linked_page}
use Rattle.part_steps.specs.ControlTopics.{at_root}
use Rattle.part_steps.specs.TopicSteps.{topics_after}
use Rattle.mmu_core.specs.machine.View.{View, answer_in, hand_after, part_stepped}
use Rattle.mmu_core.proofs.machine.Columns.{at_upd}
use Rattle.mmu_core.proofs.machine.PartStepping.{behind_part}
use Rattle.mmu_core.proofs.forms.access.FaultKnown.{fault_known, parts_answer}
use Rattle.mmu_core.proofs.forms.access.WalkKnown.{above_lowest, gone_over, root_over}
use Rattle.mmu_core.proofs.forms.access.FaultNeeds.{fault_needs}
use Rattle.mmu_core.proofs.lines.Forms.{first_known}
use Rattle.mmu_core.proofs.forms.log.LogFirst.{HavePages}
use Rattle.mmu_core.proofs.forms.access.UsedTranslations.{CachesBehind, flushed_behind, newest_filled}
use Rattle.mmu_core.proofs.words.SmallSlots.{has_page, record_is_so}
use Rattle.mmu_core.proofs.words.PartTopics.{is_there, no_anew, no_sweep, part_topics_is}
use Rattle.mmu_core.proofs.machine.Stepping.{IsStep, next_has}
use Rattle.mmu_core.specs.machine.Steps.{next_line}
use Rattle.mmu_core.proofs.machine.Which.{has_line_is}
use Rattle.mmu_core.proofs.machine.HandWith.{hand_with}
use Rattle.core_views.specs.SlotSets.{MemorySlots}

abbrev pub CanAnswerBy : Option PartStep → ℕ → Type 0
CanAnswerBy None v = Unit {0}
CanAnswerBy (Some step) v = CanAnswer step v

-- what it knows after a step: at rest, where the line is answered
abbrev pub KnowsBehind : Outcome → Command → Held → Type 0
KnowsBehind (Goes p) command h = KnowsPart p command h
KnowsBehind (Ends answer) command h = IsAtRest h.topics

pub knows_after : (o : Outcome) (command : Command) (h : Held) → KnowsBehind o command h → KnowsPart (place_after o) command h
knows_after (Goes p) command h K = K
knows_after (Ends answer) command h K = λ has. K

-- A processor makes accesses.
pub access_vcpu : (z : Sizes) (actor : Actor) (gfn word : ℕ) (op : Op) → IsCommandFor z actor (Access gfn word op) → IsVcpu actor × (gfn < 2 ^ 36)
access_vcpu z (Vcpu n) gfn word op may = (tt, may.1)
access_vcpu z _ gfn word op may = absurd may

-- What an access knows at a place meets the needs of its step.
abbrev pub NeedsOf : Option PartStep → Held → Type 0
NeedsOf None h = h.topics.stay ≡ Guest
NeedsOf (Some step) h = PartNeeds step h

pub access_needs : (p : AccessPlace) (h : Held) (gfn : ℕ) (write : Bool) → IsVcpu h.state.actor → gfn < 2 ^ 36 → PartRests h
    → AccessKnows p gfn write h → NeedsOf (access_part p gfn h.topics) h
access_needs (Enter again) h gfn write vcpu small R K = (vcpu, K.outside)
access_needs (Walk again) h gfn write vcpu small R K = (K.1, no_sweep h.topics K.0.guest refl, no_anew h.topics K.0.guest refl)
access_needs Touch h gfn write vcpu small R K = K.0.guest
access_needs (Leave how) h gfn write vcpu small R K = K.guest
access_needs (Fault p) h gfn write vcpu small R K = fault_needs p h gfn write small R K
access_needs _ h gfn write vcpu small R K = tt

-- The access uses a translation that it has cached, or walks.
pause_known : (f : Option Translation) (again : Bool) (gfn : ℕ) (write : Bool) (h g : Held) → first_usable gfn write h.cached.items ≡ f
    → g.cached ≡ h.cached → InGuest g.topics → g.state.used ≡ use_found f h.state.used → AccessKnows (pause_next again f) gfn write g
pause_known None again gfn write h g is same I used = I
pause_known (Some t) again gfn write h g is same I used =
    (I, ap (λ (c : Buffer Translation). first_usable gfn write c.items) same ∙ (is ∙ ap Some (sym used)))

-- The walk of a stay goes down by a link, and ends at every other entry; a leaf that allows the access is cached, and used.
walk_known : (k : SpteKind) (allowed again : Bool) (gfn : ℕ) (write : Bool) (v : ℕ) (t : Topics) (c : Buffer Translation) (g : Held) → 1 ≤ c.capacity
    → g.cached ≡ (if is_found k allowed then with_leaf gfn t.walk.level v c else c) → kind_of t.walk.level v ≡ k → allows_access write v ≡ allowed
    → t.walk.level ≤ 4 → IsOver gfn t.walk
    → InGuest g.topics → g.topics.walk ≡ gone_down (linked_page k) t.walk (entry_index gfn t.walk.level) v
    → g.state.used ≡ record { gfn = gfn; level = t.walk.level; leaf = v }
    → AccessKnows (stay_next again k allowed) gfn write g
walk_known (entry_kind.Table page) allowed again gfn write v t c g room cached is may most O I walk leaf =
    (I, subst (IsOver gfn) (sym walk) (gone_over gfn page v t.walk (above_lowest t.walk.level v page O.there is) most O))
walk_known entry_kind.Leaf true again gfn write v t c g room cached is may most O I walk used = (
  I,
  ap (λ (x : Buffer Translation). first_usable gfn write x.items) cached ∙ (newest_filled gfn t.walk.level v write c room may ∙ ap Some (sym used)),
)
walk_known _ _ again gfn write v t c g room cached is may most O I walk leaf = I

-- A fault goes on, or the access is at rest again.
fault_over_known : (n : FaultNext) (gfn word : ℕ) (op : Op) (g : Held) → KnowsNext n g.state.sizes gfn (is_write op) g.topics
    → KnowsBehind (behind_fault n) (Access gfn word op) g
fault_over_known (next_of.Goes p) gfn word op g K = K
fault_over_known (next_of.Ends end_of.Installed) gfn word op g K = K
fault_over_known (next_of.Ends end_of.Mmio) gfn word op g K = K
fault_over_known (next_of.Ends end_of.HostFault) gfn word op g K = K
fault_over_known (next_of.Ends end_of.Starved) gfn word op g K = K
fault_over_known (next_of.Ends (end_of.Fixed marked)) gfn word op g K = K
fault_over_known (next_of.Ends (end_of.NotFast seen)) gfn word op g K = K
fault_over_known (next_of.Ends (end_of.Retry fast cause)) gfn word op g K = K

-- after each step of an access
pub access_known : (p : AccessPlace) (line : Line) (h : Held) (gfn word : ℕ) (op : Op) (cached : Buffer Translation) (v : ℕ)
    → CachesBehind p h gfn op v cached → gfn < 2 ^ 36 → PartRests h → AccessKnows p gfn (is_write op) h → CanAnswerBy (access_part p gfn h.topics) v
    → KnowsBehind (access_outcome p h gfn op v) (Access gfn word op)
    (hand_with line (Access gfn word op) (place.Access p) h (behind_part (access_part p gfn h.topics) h.topics v) cached v)
access_known (Enter again) line h gfn word op cached v C small R K A = record { guest = refl; loose = K.loose; owns_none = K.owns_none; no_set = refl }
access_known (Pause again) line h gfn word op cached v C small R K A =
    pause_known (first_usable gfn (is_write op) h.cached.items) again gfn (is_write op) h
    (hand_with line (Access gfn word op) (place.Access (Pause again)) h (part_topics part.Pause h.topics v) cached v) refl C
    (record { guest = K.guest; loose = K.loose; owns_none = K.owns_none; no_set = K.no_set }) refl
access_known (Root again) line h gfn word op cached v C small R K A = (
  record { guest = K.guest; loose = K.loose; owns_none = K.owns_none; no_set = K.no_set },
  subst (λ (b : Bool). IsOver gfn (at_root b h.topics.walk v)) (sym (ap (λ (s : Stay). may_walk s h.topics.hold) K.guest))
      (root_over gfn v h.topics.walk small),
)
access_known (Walk again) line h gfn word op cached v C small R K A =
    walk_known (kind_of h.topics.walk.level v) (allows_access (is_write op) v) again gfn (is_write op) v h.topics h.cached
    (hand_with line (Access gfn word op) (place.Access (Walk again)) h (part_topics (part.Walk gfn) h.topics v) cached v) R.cache C refl refl R.level K.1
    (record { guest = K.0.guest; loose = K.0.loose; owns_none = K.0.owns_none; no_set = K.0.no_set }) refl refl
access_known Touch line h gfn word op cached v C small R K A = K.0
access_known (Leave (leaving.Reached frame value)) line h gfn word op cached v C small R K A =
    record { outside = refl; loose = K.loose; owns_none = K.owns_none; owes_none = R.owes (ap is_section K.guest); no_table = refl; no_set = refl }
access_known (Leave (leaving.Faults true)) line h gfn word op cached v C small R K A =
    record { outside = refl; loose = K.loose; owns_none = K.owns_none; owes_none = R.owes (ap is_section K.guest); no_table = refl; no_set = refl }
access_known (Leave (leaving.Faults false)) line h gfn word op cached v C small R K A =
    record { outside = refl; loose = K.loose; owns_none = K.owns_none; owes_none = R.owes (ap is_section K.guest); no_table = refl; no_set = refl }
access_known (Fault p) line h gfn word op cached v C small R K A =
    fault_over_known (fault_next p h.state.sizes gfn (is_write op) h.topics v) gfn word op
    (hand_with line (Access gfn word op) (place.Access (Fault p)) h (behind_part (access_part (Fault p) gfn h.topics) h.topics v) cached v)
    (fault_known p h gfn v (is_write op) small R K A)

-- The touch leaves the topics, and a step of a part changes them as the part says.
pub touch_topics : (z : Sizes) (op : Op) (index : ℕ) (t : Topics) (v : ℕ) → topics_after z (kind_of_task z (touch_of op index)) t v ≡ t
unfolding topics_after
touch_topics z Read index t v = refl
touch_topics z _ index t v = refl

pub task_topics : (s : Option PartStep) (h : Held) (note : ℕ) (op : Op) (index v : ℕ) → NeedsOf s h
    → topics_after h.state.sizes (kind_of_task h.state.sizes (task_by s h note (touch_of op index))) h.topics v ≡ behind_part s h.topics v
task_topics None h note op index v N = touch_topics h.state.sizes op index h.topics v
task_topics (Some step) h note op index v N = part_topics_is h.state.sizes step (own_index h) h.topics note v (is_there step h N)

pub task_answers : (s : Option PartStep) (h : Held) (note : ℕ) (touch : Task) (words : Area → ℕ → ℕ) → CanAnswerBy s (answer_in (task_by s h note touch) words)
task_answers None h note touch words = tt
task_answers (Some step) h note touch words = parts_answer step (own_index h) h.topics note words

-- after each step of a line, of the actor itself
abbrev pub KnowsAfter : Line → Command → Place → Held → ℕ → Type 0
KnowsAfter line command p h v = KnowsBehind (outcome_at p command h v) command (hand_after line command p h v)

pub own_access : (p : AccessPlace) (line : Line) (h : Held) (gfn word : ℕ) (op : Op) (words : Area → ℕ → ℕ) → IsVcpu h.state.actor → gfn < 2 ^ 36
    → PartRests h → AccessKnows p gfn (is_write op) h
    → KnowsAfter line (Access gfn word op) (place.Access p) h (answer_in (access_task p h gfn word op) words)
own_access p line h gfn word op words vcpu small R K =
    let v : ℕ = answer_in (access_task p h gfn word op) words in
    let s : Option PartStep = access_part p gfn h.topics in
    let cached : Buffer Translation =
    flushed (kind_of_task h.state.sizes (access_task p h gfn word op)) (caches_at (place.Access p) (Access gfn word op) h v) v in
    subst (λ (t : Topics). KnowsBehind (access_outcome p h gfn op v) (Access gfn word op) (hand_with line (Access gfn word op) (place.Access p) h t cached v))
    (sym (task_topics s h (access_note p) op _ v (access_needs p h gfn (is_write op) vcpu small R K)))
    (access_known p line h gfn word op cached v (flushed_behind p h gfn word op v) small R K (task_answers s h (access_note p) _ words))

-- what the step of a line needs at its places, but for those of an access, which knows it from its place
abbrev pub NeedsAt : Place → Command → Held → Type 0
NeedsAt (place.Access p) command h = Unit {0}
NeedsAt p command h = RestsAt p command h

-- what a hand knows where its line stands, also where this is about to begin
standing_known : (z : Sizes) (q : Place) (h : Held) → IsCommandFor z (next_line h).actor (next_line h).command → length h.answers < length h.lines
    → HavePages h.slots → KnowsPart q h.state.line.command h → RetiresPart q h.topics
    → KnowsPart (standing q h.state.sizes h.slots (line_at q h).command) (line_at q h).command h
standing_known z place.Between h may left some K L =
    first_known z (next_line h).actor (next_line h).command h may (K (has_line_is h left)) (L.frames refl) some
standing_known z _ h may left some K L = K

pub knows_at : (z : Sizes) (v : View) (a : ℕ) → Invariant z v → a < actors_of z → length (v.hand a).answers < length (v.hand a).lines
    → KnowsPart (place_at (v.hand a).state.place (v.hand a)) (line_at (v.hand a).state.place (v.hand a)).command (v.hand a)
knows_at z v a I there left =
    let O = I.lines a there in
    standing_known z (v.hand a).state.place (v.hand a) (next_has (λ l. IsCommandFor z l.actor l.command) (v.hand a) O.allowed left) left
    (λ id slot. record_is_so (λ s. 1 ≤ s.pages) has_page z (v.hand a).lines (v.hand a).slots O.allowed O.set id slot) (I.knows a there) (I.leaves a there)

pub step_knows : (z : Sizes) (v : View) (a : ℕ) (line : Line) (command : Command) (p : Place) → IsStep z v a line command p → Invariant z v
    → KnowsPart p command (v.hand a)
step_knows z v a line command p S I =
    subst (λ q. KnowsPart q command (v.hand a)) S.place_is
    (subst (λ c. KnowsPart (place_at (v.hand a).state.place (v.hand a)) c (v.hand a)) (ap (λ (l : Line). l.command) (sym S.line_is) ∙ S.command_is)
    (knows_at z v a I S.there S.left))

-- Where a line begins no page is retired, no invalidation is open, and no frame is owned.
first_leaves : (z : Sizes) (command : Command) (slots : MemorySlots) (t : Topics) → t.retired ≡ None → t.invalidations.opened ≡ false
    → t.frames.owned ≡ None → RetiresPart (first_place z slots command) t
first_leaves z command slots t none closed loose = record { leaves = λ may. none; opens = λ may. closed; frames = λ may. loose }

standing_leaves : (q : Place) (z : Sizes) (slots : MemorySlots) (command : Command) (t : Topics) → RetiresPart q t → RetiresPart (standing q z slots command) t
standing_leaves place.Between z slots command t L = first_leaves z command slots t (L.leaves refl) (L.opens refl) (L.frames refl)
standing_leaves _ z slots command t L = L

pub step_leaves : (z : Sizes) (v : View) (a : ℕ) (line : Line) (command : Command) (p : Place) → IsStep z v a line command p → Invariant z v
    → RetiresPart p (v.hand a).topics
step_leaves z v a line command p S I =
    subst (λ q. RetiresPart q (v.hand a).topics) S.place_is
    (standing_leaves (v.hand a).state.place (v.hand a).state.sizes (v.hand a).slots (line_at (v.hand a).state.place (v.hand a)).command
    (v.hand a).topics (I.leaves a S.there))

-- Each step of a part leaves each actor with what its place asks; its own actor has no line left.
idle_knows : (q : Place) (command : Command) (h g : Held) → has_line h ≡ false → UnderWay q h → has_line g ≡ has_line h → KnowsPart q command g
idle_knows place.Between command h g none under same = λ has. absurd (cc (none, same, has))
idle_knows _ command h g none under same = let has = has_line_is h under.1 in absurd (cc (none, has))

pub part_knows_behind : (z : Sizes) (v : View) (a : ℕ) (step : PartStep) (note : ℕ) → has_line (v.hand a) ≡ false → Invariant z v → (i : ℕ) → i < actors_of z
    → KnowsPart ((part_stepped a step note v).hand i).state.place ((part_stepped a step note v).hand i).state.line.command ((part_stepped a step note v).hand i)
part_knows_behind z v a step note none I =
    at_upd (λ i (h : Held). i < actors_of z → KnowsPart h.state.place h.state.line.command h) v.hand a _
    (λ there. idle_knows (v.hand a).state.place (v.hand a).state.line.command (v.hand a) _ none (I.lines a there).under refl)
    (λ i ne. I.knows i)
