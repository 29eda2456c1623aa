-- What is so where an access stands after an installed entry: after a step of its own it is so from the place before, or by the entry that it has just
-- seen.
use Rattle.std.proofs.Common.{◌≡◌, ◌^◌, ◌<◌, ℕ, refl, subst}
use Rattle.std.specs.Prelude.{Bool, true, false, Option, Some, None}
use Rattle.core_views.specs.declared.cache.Translation.{Translation}
use Rattle.core_views.specs.declared.place.AccessPlace.{AccessPlace}
use Rattle.core_views.specs.declared.place.AccessPlace.TheVariants.{Pause, Walk, Touch, Leave, Fault}
use Rattle.core_views.specs.declared.place.FaultEnd.TheVariants as end_of
use Rattle.core_views.specs.declared.place.FaultNext.{FaultNext}
use Rattle.core_views.specs.declared.place.FaultNext.TheVariants as next_of
use Rattle.core_views.specs.declared.place.FaultPlace.{FaultPlace}
use Rattle.core_views.specs.declared.place.Leaving.TheVariants as leaving
use Rattle.core_views.specs.declared.place.Place.{Place}
use Rattle.core_views.specs.declared.place.Place.TheVariants as place
use Rattle.core_views.specs.declared.sizes.Sizes.{Sizes}
use Rattle.core_views.specs.declared.topics.Topics.{Topics}
use Rattle.core_views.specs.declared.trace.Command.{Command}
use Rattle.core_views.specs.declared.trace.Command.TheVariants.{Access}
use Rattle.core_views.specs.declared.trace.Op.{Op}
use Rattle.core_views.specs.Held.{Held}
use Rattle.core_views.specs.SlotSets.{MemorySlots}
use Rattle.core_views.specs.Slots.{is_write}
use Rattle.core_views.specs.Traces.{IsCommandFor}
use Rattle.spte_words.specs.declared.area.Area.{Area}
use Rattle.spte_words.specs.declared.area.Area.TheVariants as area
use Rattle.spte_words.specs.declared.spte_kind.SpteKind.{SpteKind}
use Rattle.spte_words.specs.declared.spte_kind.SpteKind.TheVariants as entry_kind
use Rattle.spte_words.specs.Areas.{content_index}
use Rattle.spte_words.specs.Entries.{kind_of}
use Rattle.mmu_core.proofs.lines.Forms.{other_knows}
use Rattle.mmu_core.specs.declared.outcome.Outcome.{Outcome}
use Rattle.mmu_core.specs.declared.outcome.Outcome.TheVariants.{Goes, Ends}
use Rattle.mmu_core.specs.forms.access.AccessSteps.{access_note, access_outcome, access_part, access_task, behind_fault, pause_next}
use Rattle.mmu_core.specs.forms.access.AccessSteps.{stay_next as stay_walk_next}
use Rattle.mmu_core.specs.forms.access.Cached.{frame_used, first_usable}
use Rattle.mmu_core.specs.alone.FaultAlone.{EntryStands}
use Rattle.mmu_core.specs.forms.access.FaultKnows.{FaultKnows, KnowsNext}
use Rattle.mmu_core.specs.forms.access.FaultSteps.{allows_access, fault_next, fault_part}
use Rattle.mmu_core.specs.forms.access.AccessKnows.{AccessKnows}
use Rattle.mmu_core.specs.lines.Forms.{KnowsPart, first_place, outcome_at}
use Rattle.part_steps.specs.PartBounds.{PartRests}
use Rattle.part_steps.specs.PartTasks.{own_index}
use Rattle.part_steps.specs.PartSteps.{IsVcpu}
use Rattle.part_steps.specs.PartTopics.{part_topics}
use Rattle.mmu_core.specs.lines.Rests.{IsUnderWay}
use Rattle.mmu_core.specs.machine.Steps.{line_at, next_line, standing, task_at}
use Rattle.part_steps.specs.Tasks.{map_of}
use Rattle.mmu_core.specs.machine.Outcomes.{place_after}
use Rattle.mmu_laws.specs.turns.Removal.{StandsAt, ends_installed, is_installed}
use Rattle.mmu_core.specs.machine.View.{answer_in, words_after}
use Rattle.mmu_laws.proofs.alone.GoesAlone.{topics_at}
use Rattle.mmu_laws.proofs.forms.access.EntrySeen.{SeesEntry, fault_sees}
use Rattle.mmu_core.proofs.forms.access.FaultKnown.{fault_known, parts_answer}
use Rattle.mmu_core.proofs.lines.KnowsKept.{access_needs, access_vcpu, task_topics}

-- ---- after a step of the line's own

-- Where an outcome is a place after an installed entry, this holds.
abbrev pub WhereInstalled : Outcome → Type 0 → Type 0
WhereInstalled (Goes (place.Access q)) X = is_installed q ≡ true → X
WhereInstalled _ X = Unit {0}

-- A place after an installed entry, at which a fault knows that it saw the entry, and the entry stands.
abbrev pub Makes : Sizes → (ℕ → ℕ) → ℕ → Bool → Topics → Type 0 → Type 0
Makes y pool gfn write t X = (q : FaultPlace) → ends_installed q ≡ true → FaultKnows q y gfn write t → EntryStands pool gfn t → X

always : (X : Type 0) (o : Outcome) → X → WhereInstalled o X
always X (Goes (place.Access q)) x = λ is. x
always X (Goes _) x = tt
always X (Ends answer) x = tt

behind_fault_installed : (X : Type 0) (n : FaultNext) (y : Sizes) (gfn : ℕ) (write : Bool) (pool : ℕ → ℕ) (t : Topics) → SeesEntry n pool gfn t
    → KnowsNext n y gfn write t → Makes y pool gfn write t X → WhereInstalled (behind_fault n) X
behind_fault_installed X (next_of.Goes q) y gfn write pool t sees K make = λ is. make q is K (sees is)
behind_fault_installed X (next_of.Ends end_of.Installed) y gfn write pool t sees K make = absurd (cc sees)
behind_fault_installed X (next_of.Ends end_of.Mmio) y gfn write pool t sees K make = tt
behind_fault_installed X (next_of.Ends end_of.HostFault) y gfn write pool t sees K make = tt
behind_fault_installed X (next_of.Ends end_of.Starved) y gfn write pool t sees K make = tt
behind_fault_installed X (next_of.Ends (end_of.Fixed marked)) y gfn write pool t sees K make = absurd (cc sees)
behind_fault_installed X (next_of.Ends (end_of.NotFast seen)) y gfn write pool t sees K make = λ is. absurd (cc is)
behind_fault_installed X (next_of.Ends (end_of.Retry fast cause)) y gfn write pool t sees K make = λ is. absurd (cc is)

pause_installed : (X : Type 0) (used : Option Translation) (again : Bool) → (again ≡ true → X) → WhereInstalled (Goes (place.Access (pause_next again used))) X
pause_installed X None again still = still
pause_installed X (Some t) again still = λ is. absurd (cc is)

walk_installed : (X : Type 0) (k : SpteKind) (again allowed : Bool) → (again ≡ true → X)
    → WhereInstalled (Goes (place.Access (stay_walk_next again k allowed))) X
walk_installed X (entry_kind.Table page) again allowed still = still
walk_installed X entry_kind.Leaf again true still = λ is. absurd (cc is)
walk_installed X _ again _ still = λ is. absurd (cc is)

-- a step of an access: from such a place, or one that has just seen the entry
module _ (X : Type 0) (h : Held) (gfn word : ℕ) (op : Op) (words : Area → ℕ → ℕ) (vcpu : IsVcpu h.state.actor) (small : gfn < 2 ^ 36) (R : PartRests h) where
  fault_installed : (p : FaultPlace) (b : Bool) → ends_installed p ≡ b → (ends_installed p ≡ true → X) → FaultKnows p h.state.sizes gfn (is_write op) h.topics
      → Makes h.state.sizes (words_after (access_task (Fault p) h gfn word op) words area.Pool) gfn (is_write op)
      (part_topics (fault_part p gfn h.topics) h.topics (answer_in (access_task (Fault p) h gfn word op) words)) X
      → WhereInstalled (access_outcome (Fault p) h gfn op (answer_in (access_task (Fault p) h gfn word op) words)) X
  fault_installed p true is still K make = always X (access_outcome (Fault p) h gfn op (answer_in (access_task (Fault p) h gfn word op) words)) (still is)
  fault_installed p false is still K make =
      let v : ℕ = answer_in (access_task (Fault p) h gfn word op) words in
      behind_fault_installed X (fault_next p h.state.sizes gfn (is_write op) h.topics v) h.state.sizes gfn (is_write op)
      (words_after (access_task (Fault p) h gfn word op) words area.Pool) (part_topics (fault_part p gfn h.topics) h.topics v)
      (fault_sees p h.state.sizes (own_index h) gfn (access_note (Fault p)) (is_write op) h.topics words is K)
      (fault_known p h gfn v (is_write op) small R K (parts_answer (fault_part p gfn h.topics) (own_index h) h.topics (access_note (Fault p)) words)) make

  access_installed : (p : AccessPlace) → (is_installed p ≡ true → X) → AccessKnows p gfn (is_write op) h
      → Makes h.state.sizes (words_after (access_task p h gfn word op) words area.Pool) gfn (is_write op)
      (topics_at (place.Access p) (Access gfn word op) h words) X
      → WhereInstalled (access_outcome p h gfn op (answer_in (access_task p h gfn word op) words)) X
  access_installed (Pause again) still K make = pause_installed X (first_usable gfn (is_write op) h.cached.items) again still
  access_installed (Walk again) still K make =
      let v : ℕ = answer_in (access_task (Walk again) h gfn word op) words in
      walk_installed X (kind_of h.topics.walk.level v) again (allows_access (is_write op) v) still
  access_installed Touch still K make = λ is. absurd (cc is)
  access_installed (Leave (leaving.Reached frame value)) still K make = tt
  access_installed (Leave (leaving.Faults true)) still K make = λ is. absurd (cc is)
  access_installed (Leave (leaving.Faults false)) still K make = λ is. absurd (cc is)
  access_installed (Fault p) still K make =
      let v : ℕ = answer_in (access_task (Fault p) h gfn word op) words in
      let same : topics_at (place.Access (Fault p)) (Access gfn word op) h words ≡ part_topics (fault_part p gfn h.topics) h.topics v =
      task_topics (access_part (Fault p) gfn h.topics) h (access_note (Fault p)) op (content_index (map_of h.state.sizes) (frame_used gfn h.state) word) v
      (access_needs (Fault p) h gfn (is_write op) vcpu small R K) in
      fault_installed p (ends_installed p) refl still K (subst
      (λ (t : Topics). Makes h.state.sizes (words_after (access_task (Fault p) h gfn word op) words area.Pool) gfn (is_write op) t X) same make)
  access_installed _ still K make = still

-- Where a line's access stands there, this is so of its guest frame, and of whether it is a write.
abbrev pub Served : Place → Command → (ℕ → Bool → Type 0) → Type 0
Served (place.Access p) (Access gfn word op) X = is_installed p ≡ true → X gfn (is_write op)
Served _ _ X = Unit {0}

where_installed : (o : Outcome) (gfn word : ℕ) (op : Op) (X : ℕ → Bool → Type 0) → WhereInstalled o (X gfn (is_write op))
    → Served (place_after o) (Access gfn word op) X
where_installed (Goes (place.Access q)) gfn word op X x = x
where_installed (Goes _) gfn word op X x = tt
where_installed (Ends answer) gfn word op X x = tt

-- A line of another form is at no place of an access.
abbrev IsNoAccess : Command → Type 0
IsNoAccess (Access gfn word op) = ⊥
IsNoAccess _ = Unit {0}

no_access : (q : Place) (c : Command) (X : ℕ → Bool → Type 0) → IsNoAccess c → Served q c X
no_access (place.Access q) (Access gfn word op) X other = absurd other
no_access _ (Access gfn word op) X other = absurd other
no_access _ _ X other = tt

pub own_served : (p : Place) (c : Command) (z : Sizes) (h : Held) (words : Area → ℕ → ℕ) (X Y : ℕ → Bool → Type 0) → IsUnderWay p
    → IsCommandFor z h.state.actor c → PartRests h → KnowsPart p c h → Served p c X
    → ((gfn : ℕ) (write : Bool) → X gfn write → Y gfn write)
    → ((gfn : ℕ) (write : Bool) → Makes h.state.sizes (words_after (task_at p c h) words area.Pool) gfn write (topics_at p c h words) (Y gfn write))
    → Served (place_after (outcome_at p c h (answer_in (task_at p c h) words))) c Y
own_served place.Between c z h words X Y begun may R K S still make = absurd begun
own_served (place.Access p) (Access gfn word op) z h words X Y begun may R K S still make =
    let V = access_vcpu z h.state.actor gfn word op may in
    where_installed (access_outcome p h gfn op (answer_in (access_task p h gfn word op) words)) gfn word op Y
    (access_installed (Y gfn (is_write op)) h gfn word op words V.0 V.1 R p (λ is. still gfn (is_write op) (S is)) K (make gfn (is_write op)))
own_served p (Access gfn word op) z h words X Y begun may R K S still make = absurd (other_knows p gfn word op h tt begun K)
own_served p c z h words X Y begun may R K S still make = no_access (place_after (outcome_at p c h (answer_in (task_at p c h) words))) c Y tt

first_served : (y : Sizes) (slots : MemorySlots) (c : Command) (X : ℕ → Bool → Type 0) → Served (first_place y slots c) c X
first_served y slots (Access gfn word op) X = λ is. absurd (cc is)
first_served y slots _ X = tt

pub standing_served : (q : Place) (y : Sizes) (slots : MemorySlots) (h : Held) (X : ℕ → Bool → Type 0) → Served q h.state.line.command X
    → Served (standing q y slots (line_at q h).command) (line_at q h).command X
standing_served place.Between y slots h X S = first_served y slots (next_line h).command X
standing_served _ y slots h X S = S

-- One thing follows from the other, where the line stands there.
pub served_on : (q : Place) (c : Command) (X Y : ℕ → Bool → Type 0)
    → ((gfn : ℕ) (write : Bool) → StandsAt is_installed q c gfn write → X gfn write → Y gfn write) → Served q c X → Served q c Y
served_on (place.Access p) (Access gfn word op) X Y on S = λ is. on gfn (is_write op) (is, refl, refl) (S is)
served_on _ _ X Y on S = tt

pub served_there : (q : Place) (c : Command) (X : ℕ → Bool → Type 0) (gfn : ℕ) (write : Bool) → StandsAt is_installed q c gfn write → Served q c X → X gfn write
served_there (place.Access p) (Access of_line word op) X gfn write there S = subst (λ n. X n write) there.1 (subst (X of_line) there.2 (S there.0))
served_there _ _ X gfn write there S = absurd there
