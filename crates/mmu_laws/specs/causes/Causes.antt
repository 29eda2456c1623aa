-- Why a fault begins anew, in every list of steps: what its actor found in a word, and who changed this word since.
use Rattle.std.specs.Prelude.{◌≡◌, ◌≢◌, ◌⊎◌, ◌<◌, ◌≤◌, ℕ, Bool, List, ◌∷◌, ◌++◌, All}
use Rattle.core_views.specs.declared.kind.Kind.{Kind}
use Rattle.core_views.specs.declared.kind.StepKind.TheVariants as kind
use Rattle.core_views.specs.declared.place.AccessPlace.TheVariants as access
use Rattle.core_views.specs.declared.place.Cause.{Cause}
use Rattle.core_views.specs.declared.place.Cause.TheVariants.{Open, Moved, Entry}
use Rattle.core_views.specs.declared.place.FaultEnd.TheVariants.{Retry}
use Rattle.core_views.specs.declared.place.FaultPlace.TheVariants.{End}
use Rattle.core_views.specs.declared.place.Place.TheVariants as place
use Rattle.core_views.specs.declared.sizes.Sizes.{Sizes}
use Rattle.core_views.specs.declared.topics.Topics.{Topics}
use Rattle.core_views.specs.declared.trace.Command.TheVariants.{Access}
use Rattle.core_views.specs.declared.trace.Op.{Op}
use Rattle.core_views.specs.Held.{Held}
use Rattle.core_views.specs.Kinds.{after, code_of}
use Rattle.spte_words.specs.declared.area.Area.TheVariants as area
use Rattle.spte_words.specs.Areas.{place as place_of, pool_index}
use Rattle.mmu_core.specs.machine.Enabled.{mmu}
use Rattle.mmu_core.specs.invariant.Laws.{IsSound}
use Rattle.mmu_core.specs.machine.Machine.{Legal, Step, World, found, hand_in, run}
use Rattle.part_steps.specs.PartHoldings.{FoundSlot}
use Rattle.part_steps.specs.PartTasks.{entry_index}
use Rattle.part_steps.specs.SlotWords.{page_of}
use Rattle.part_steps.specs.Tasks.{map_of}

-- The step is this actor's, and finds this number in this word.
pub record Finds (actor word number : ℕ) (w : World Held) (s : Step Kind) : Type 0 where
  pub by_actor : s.actor ≡ actor
  pub on : s.kind.word ≡ word
  pub finds : found mmu w s.kind ≡ number

-- It is this actor's, and leaves this number in this word: the one that it found there, or the one that it put.
pub record Leaves (actor word number : ℕ) (w : World Held) (s : Step Kind) : Type 0 where
  pub by_actor : s.actor ≡ actor
  pub on : s.kind.word ≡ word
  pub leaves : after s.kind (found mmu w s.kind) ≡ number

-- It is another actor's, and changes this word.
pub record OtherChanges (actor word : ℕ) (w : World Held) (s : Step Kind) : Type 0 where
  pub by_other : s.actor ≢ actor
  pub on : s.kind.word ≡ word
  pub changes : after s.kind (found mmu w s.kind) ≢ found mmu w s.kind

-- It begins and ends no section of this actor's.
abbrev pub StaysInSection : ℕ → Step Kind → Type 0
StaysInSection actor s = s.actor ≡ actor → (s.kind.code ≢ code_of kind.Begin) × (s.kind.code ≢ code_of kind.End)

-- One of the steps, made from this world on, is such a step in its turn; and each step after it is so.
pub record HasMade (IsSuch : World Held → Step Kind → Type 0) (IsSo : Step Kind → Type 0) (w : World Held) (ss : List (Step Kind)) : Type 0 where
  pub earlier : List (Step Kind)
  pub made : Step Kind
  pub later : List (Step Kind)
  pub are : ss ≡ earlier ++ made ∷ later
  pub is : IsSuch (run mmu w earlier) made
  pub since : All IsSo later

-- One of the steps, made from this world on, is the actor's and leaves this number in this word; a later one is another actor's and
-- changes the word; and each step after the first of these two is so.
pub record WasChanged (IsSo : Step Kind → Type 0) (actor word number : ℕ) (w : World Held) (ss : List (Step Kind)) : Type 0 where
  pub earlier : List (Step Kind)
  pub reads : Step Kind
  pub between : List (Step Kind)
  pub changes : Step Kind
  pub later : List (Step Kind)
  pub are : ss ≡ earlier ++ reads ∷ (between ++ changes ∷ later)
  pub leaves : Leaves actor word number (run mmu w earlier) reads
  pub changed : OtherChanges actor word (run mmu w (earlier ++ reads ∷ between)) changes
  pub since : All IsSo (between ++ changes ∷ later)

-- In one section of the actor's, in which the steps end: it left `read` in this word, later another actor's step changed the word, and
-- still later the actor found `seen` there, which is another number.
pub record SawChange (actor word read seen : ℕ) (w : World Held) (ss : List (Step Kind)) : Type 0 where
  pub before : List (Step Kind)
  pub sees : Step Kind
  pub later : List (Step Kind)
  pub are : ss ≡ before ++ sees ∷ later
  pub changed : WasChanged (StaysInSection actor) actor word read w before
  pub finds : Finds actor word seen (run mmu w before) sees
  pub since : All (StaysInSection actor) (sees ∷ later)
  pub differs : seen ≢ read

-- In one section of the actor's, in which the steps end, it found that so many invalidations were open, and their range, in which the
-- guest frame is.
pub record SawOpen (z : Sizes) (actor gfn count start end_ : ℕ) (w : World Held) (ss : List (Step Kind)) : Type 0 where
  pub some : 0 < count
  pub from : start ≤ gfn
  pub to : gfn < end_
  pub counted : HasMade (Finds actor (place_of (map_of z) area.Count 0) count) (StaysInSection actor) w ss
  pub began : HasMade (Finds actor (place_of (map_of z) area.RangeStart 0) start) (StaysInSection actor) w ss
  pub ended : HasMade (Finds actor (place_of (map_of z) area.RangeEnd 0) end_) (StaysInSection actor) w ss

-- The word is an entry of the guest frame: in a table of some level, in a page of the pool.
pub record IsEntryOf (z : Sizes) (gfn word : ℕ) : Type 0 where
  pub level : ℕ
  pub from : 1 ≤ level
  pub to : level ≤ 4
  pub page : ℕ
  pub there : page < z.pool
  pub is : word ≡ place_of (map_of z) area.Pool (pool_index page (entry_index gfn level))

-- The word is the host word of the page behind the guest frame, in the slot that was found.
pub record IsHostWordOf (z : Sizes) (gfn word : ℕ) (t : Topics) : Type 0 where
  pub found : FoundSlot gfn t
  pub is : word ≡ place_of (map_of z) area.Host (page_of t.search.slot gfn)

-- Why the actor's fault of a guest frame begins anew: an invalidation was open over the guest frame, another actor's step moved the
-- sequence number after the snapshot, or another actor's step changed an entry of the guest frame, or the host word of its page, after its load.
abbrev pub IsCaused : Cause → Sizes → ℕ → ℕ → World Held → List (Step Kind) → Type 0
IsCaused (Open count start end_ at) z actor gfn w ss = (at ≡ gfn) × SawOpen z actor gfn count start end_ w ss
IsCaused (Moved old_ now_) z actor gfn w ss = SawChange actor (place_of (map_of z) area.Seq 0) old_ now_ w ss
IsCaused (Entry word read seen) z actor gfn w ss =
    (IsEntryOf z gfn word ⊎ IsHostWordOf z gfn word (hand_in mmu (run mmu w ss) actor).topics) × SawChange actor word read seen w ss

-- From every sound world in which no line of the actor is under way, whatever steps of whatever actors follow: where its fault then is
-- about to end its section to begin anew, this has its cause in these steps, in this section.
abbrev pub FaultsBeginAnewByCause : Type 0
FaultsBeginAnewByCause =
    (z : Sizes) (w : World Held) (ss : List (Step Kind)) (actor gfn word : ℕ) (op : Op) (fast : Bool) (cause : Cause) → IsSound z w → Legal mmu w ss
    → (hand_in mmu w actor).state.place ≡ place.Between
    → (hand_in mmu (run mmu w ss) actor).state.place ≡ place.Access (access.Fault (End (Retry fast cause)))
    → (hand_in mmu (run mmu w ss) actor).state.line.command ≡ Access gfn word op
    → IsCaused cause z actor gfn w ss
