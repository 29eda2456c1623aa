-- The words and hands as flat guest memory: the facts that the words stand for, and the lines that the hands have under way.
use Rattle.std.specs.Prelude.{◌≡◌, ◌<◌, ◌==◌, ℕ, All, Option, Some, true, false, not}
use Rattle.core_views.specs.declared.place.AccessPlace.{AccessPlace}
use Rattle.core_views.specs.declared.place.AccessPlace.TheVariants as access
use Rattle.core_views.specs.declared.place.FaultEnd.{FaultEnd}
use Rattle.core_views.specs.declared.place.FaultEnd.TheVariants as end_of
use Rattle.core_views.specs.declared.place.FaultPlace.{FaultPlace}
use Rattle.core_views.specs.declared.place.FaultPlace.TheVariants as fault
use Rattle.core_views.specs.declared.place.Leaving.TheVariants as leaving
use Rattle.core_views.specs.declared.place.Place.{Place}
use Rattle.core_views.specs.declared.place.Place.TheVariants as place
use Rattle.core_views.specs.declared.sizes.Sizes.{Sizes}
use Rattle.core_views.specs.declared.topics.HostLook.{HostLook}
use Rattle.core_views.specs.declared.topics.SlotSearch.{SlotSearch}
use Rattle.core_views.specs.declared.topics.Topics.{Topics}
use Rattle.core_views.specs.declared.trace.Command.{Command}
use Rattle.core_views.specs.declared.trace.Command.TheVariants.{Access, ChangeHost, ChangeRun, Split}
use Rattle.core_views.specs.declared.trace.Line.{Line}
use Rattle.core_views.specs.declared.trace.Op.{Op}
use Rattle.core_views.specs.Flat.{Facts, Flat, LineUnderWay, Notes, Fresh, HasAccessed, Idle}
use Rattle.core_views.specs.Held.{Held}
use Rattle.core_views.specs.Host.{is_denied}
use Rattle.core_views.specs.Migrations.{is_paused}
use Rattle.core_views.specs.declared.migration.Migration.TheVariants.{Unstarted}
use Rattle.core_views.specs.Lawful.{SawForbidden, SawNoPage, SawPage}
use Rattle.core_views.specs.Sizes.{actors_of}
use Rattle.core_views.specs.Slots.{Slots, contains, page_behind}
use Rattle.spte_words.specs.Areas.{content_index}
use Rattle.spte_words.specs.HostWords.{host_frame}
use Rattle.spte_words.specs.declared.area.Area.TheVariants as area
use Rattle.part_steps.specs.SlotWords.{memory_slots_below, page_of, slots_below}
use Rattle.part_steps.specs.Tasks.{map_of}
use Rattle.mmu_core.specs.machine.View.{View}
use Rattle.mmu_core.specs.forms.host.HostSteps.{entry_of}
use Rattle.part_steps.specs.PartTasks.{page_looked, word_looked}
pub use Rattle.mmu_laws.specs.flat.LineStages.{SlotChangeUnder, changed_stage}
pub use Rattle.mmu_laws.specs.forms.host.HostStages.{HasNoted, HostUnder}
pub use Rattle.mmu_laws.specs.forms.host_run.HostRunStages.{HostRunUnder}
pub use Rattle.mmu_laws.specs.forms.log.LogStages.{HasBegunToRead, LogUnder}

-- The slots are the live ones of the published set, in this page, each with its dirty log or without; each host page is mapped as its word says;
-- the content words of its frame are its memory; a pause is set where its word isn't 0; and no line has started a migration.
pub record Refines (z : Sizes) (set : ℕ) (pool hosts content : ℕ → ℕ) (pause : ℕ) (f : Facts) : Type 0 where
  pub slots : f.slots ≡ memory_slots_below pool set 32
  pub host : (p : ℕ) → p < z.pages → f.host p ≡ entry_of (hosts p)
  pub memory : (p j : ℕ) → p < z.pages → j < z.words → f.memory p j ≡ content (content_index (map_of z) (host_frame (hosts p)) j)
  pub paused : is_paused f.migration ≡ not (pause == 0)
  pub idle : f.migration ≡ Unstarted

-- The slots that the line looked at are those of the slot set that its search holds, and the ones that the search has passed don't hold
-- the guest frame.
pub record NotedSlots (pool : ℕ → ℕ) (notes : Notes) (search : SlotSearch) (gfn : ℕ) : Type 0 where
  pub set : ℕ
  pub held : search.set ≡ Some set
  pub noted : notes.slots ≡ Some (slots_below pool set 32)
  pub passed : All (λ e. e.0 < search.id → contains gfn e.1 ≡ false) (slots_below pool set 32)

-- The slots that the line looked at give the guest frame a page for the operation: the one behind it in the slot that the search has found.
pub record NotedPage (notes : Notes) (search : SlotSearch) (gfn : ℕ) (op : Op) : Type 0 where
  pub slots : Slots
  pub noted : notes.slots ≡ Some slots
  pub behind : page_behind slots gfn op ≡ Some (page_of search.slot gfn)

-- The line has noted the page that it looked at, as its word was then: it allows the access.
pub record NotedLook (notes : Notes) (host : Option HostLook) (gfn : ℕ) (op : Op) : Type 0 where
  pub slots : Slots
  pub noted : notes.slots ≡ Some slots
  pub behind : page_behind slots gfn op ≡ Some (page_looked host)
  pub looked : notes.host (page_looked host) ≡ Some (entry_of (word_looked host))
  pub allows : is_denied op (entry_of (word_looked host)) ≡ false

-- what the line has noted where its fault is to end so
abbrev pub EndNoted : FaultEnd → ℕ → Op → Notes → Type 0
EndNoted end_of.Mmio gfn op notes = SawNoPage notes gfn op
EndNoted end_of.HostFault gfn op notes = SawForbidden notes gfn op
EndNoted end_of.Starved gfn op notes = SawPage notes gfn op
EndNoted _ gfn op notes = Unit {0}

-- what the line has noted: while it searches the slots; once it has found its slot; from its look at the host on; and once its fault is to end. A fast fault
-- notes nothing that counts.
abbrev pub NotedAt : (ℕ → ℕ) → FaultPlace → ℕ → Op → Topics → Notes → Type 0
NotedAt pool fault.Begin gfn op t notes = Unit {0}
NotedAt pool fault.Snapshot gfn op t notes = Unit {0}
NotedAt pool (fault.Find false) gfn op t notes = Unit {0}
NotedAt pool (fault.Find true) gfn op t notes = NotedSlots pool notes t.search gfn
NotedAt pool fault.Host gfn op t notes = NotedPage notes t.search gfn op
NotedAt pool fault.Bring gfn op t notes = NotedLook notes t.host gfn op
NotedAt pool (fault.Give e) gfn op t notes = EndNoted e gfn op notes
NotedAt pool (fault.Unshare e) gfn op t notes = EndNoted e gfn op notes
NotedAt pool (fault.End e) gfn op t notes = EndNoted e gfn op notes
NotedAt pool fault.FastBegin gfn op t notes = Unit {0}
NotedAt pool (fault.FastFind begun) gfn op t notes = Unit {0}
NotedAt pool (fault.FastWalk rooted) gfn op t notes = Unit {0}
NotedAt pool fault.Fix gfn op t notes = Unit {0}
NotedAt pool (fault.Mark fast) gfn op t notes = Unit {0}
NotedAt pool _ gfn op t notes = SawPage notes gfn op

-- The line has done nothing yet, and has looked at the pause, which wasn't set.
abbrev pub Runs : LineUnderWay → Type 0
Runs u = (u.stage ≡ Fresh) × (u.notes.paused ≡ Some false)

-- An access has done nothing yet, up to its touch; from its first stay on it has looked at the pause. Behind the touch it has reached its word.
abbrev pub AccessUnder : (ℕ → ℕ) → AccessPlace → ℕ → Op → Topics → LineUnderWay → Type 0
AccessUnder pool (access.Enter again) gfn op t u = u.stage ≡ Fresh
AccessUnder pool (access.Pause again) gfn op t u = u.stage ≡ Fresh
AccessUnder pool (access.Fault p) gfn op t u = Runs u × NotedAt pool p gfn op t u.notes
AccessUnder pool (access.Leave (leaving.Reached frame value)) gfn op t u = u.stage ≡ HasAccessed frame value
AccessUnder pool _ gfn op t u = Runs u

-- The line under way is this one, with this command, at this place, and its actor holds these topics. A split does nothing that flat memory has.
abbrev pub UnderAt : Sizes → (ℕ → ℕ) → Place → Line → Command → Topics → LineUnderWay → Type 0
UnderAt z pool place.Between line command t u = u.stage ≡ Idle
UnderAt z pool (place.Access p) line (Access gfn word op) t u = (u.line ≡ line) × AccessUnder pool p gfn op t u
UnderAt z pool (place.SlotChange p) line command t u = (u.line ≡ line) × SlotChangeUnder p z command u
UnderAt z pool (place.Host p) line (ChangeHost page change) t u = (u.line ≡ line) × HostUnder p page t u
UnderAt z pool (place.HostRun p) line (ChangeRun page change) t u = (u.line ≡ line) × HostRunUnder p page change t u
UnderAt z pool (place.Log p) line command t u = (u.line ≡ line) × LogUnder p command u
UnderAt z pool (place.Split p) line (Split gfn) t u = (u.line ≡ line) × (u.stage ≡ Fresh)
UnderAt z pool _ line command t u = ⊥

-- The hand's line under way is the flat one.
abbrev pub UnderIs : Sizes → (ℕ → ℕ) → Place → Command → Held → LineUnderWay → Type 0
UnderIs z pool p command h u = UnderAt z pool p h.state.line command h.topics u

pub record FlatInvariant (z : Sizes) (v : View) (f : Flat) : Type 0 where
  pub refines : Refines z (v.words area.Slots 0) (v.words area.Pool) (v.words area.Host) (v.words area.Content) (v.words area.Pause 0) f.facts
  pub under : (i : ℕ) → i < actors_of z
      → UnderIs z (v.words area.Pool) (v.hand i).state.place (v.hand i).state.line.command (v.hand i) (f.under (v.hand i).state.actor)
