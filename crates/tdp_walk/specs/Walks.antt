-- A walk over the second-stage tables, from the root down to the entry of one guest frame (mmu.rst, "Page fault").
use Rattle.std.specs.Prelude.{◌≡◌, ◌+◌, ℕ, if◌then◌else◌}
use Rattle.core_views.specs.declared.topics.TableWalk.{TableWalk}
use Rattle.core_views.specs.declared.topics.Topics.{Topics}
use Rattle.spte_words.specs.declared.area.Area.{Area}
use Rattle.spte_words.specs.declared.area.Area.TheVariants as area
use Rattle.spte_words.specs.declared.spte_kind.SpteKind.{SpteKind}
use Rattle.spte_words.specs.declared.spte_kind.SpteKind.TheVariants as entry_kind
use Rattle.spte_words.specs.Areas.{pool_index}
use Rattle.spte_words.specs.Entries.{kind_of}
use Rattle.part_steps.specs.declared.part_step.PartStep.{PartStep}
use Rattle.part_steps.specs.declared.part_step.PartStep.TheVariants as part
use Rattle.part_steps.specs.PartTasks.{entry_index, table_page}
use Rattle.part_steps.specs.PartHoldings.{IsOver, SawEntry}
use Rattle.part_steps.specs.SweepTopics.{at_top}
use Rattle.part_steps.specs.WalkTopics.{walked}
use Rattle.step_seats.specs.declared.turn.Turn.{Turn}
use Rattle.step_seats.specs.declared.turn.Turn.TheVariants.{More, Wait, Retry, Done}
use Rattle.tdp_walk.specs.declared.walk.Walk.{Walk}
use Rattle.tdp_walk.specs.declared.walk.Walked.{Walked}
use Rattle.tdp_walk.specs.declared.walk.Walked.TheVariants.{Leaf, Absent, Frozen}
use Rattle.core_views.specs.Held.{Held}
use Rattle.mmu_core.specs.machine.Machine.{World}
use Rattle.mmu_core.specs.machine.View.{word_in}
use Rattle.step_seats.specs.PartTurns.{WherePartMade}
use Rattle.step_seats.specs.Seats.{Seat}

-- the step of the next turn: the root is loaded first, and then the frame's entry in the table that the walk has come to
abbrev pub walk_step : Walk → PartStep
walk_step walk = if walk.rooted then part.Walk walk.gfn else part.Root

-- The root was loaded: the walk stands in it, at level 4, where it is over the guest frame. Nothing else that the actor holds has
-- changed.
pub record StandsAtRoot (gfn : ℕ) (before after : Topics) : Type 0 where
  pub over : IsOver gfn after.walk
  pub others : after ≡ record before { walk = record before.walk { level = 4; prefix = 0; root = after.walk.root; index = 512 } }

abbrev pub FindsRoot : Turn Walked → ℕ → Topics → Topics → Type 0
FindsRoot More gfn before after = StandsAtRoot gfn before after
FindsRoot (Done walked) gfn before after = ⊥
FindsRoot (Wait seen) gfn before after = ⊥
FindsRoot (Retry cause) gfn before after = ⊥

-- The entry is a link to the table in this page: the walk stands in that table now, one level down, where it is over the guest frame
-- still. Nothing but the walk has changed.
pub record GoesDown (gfn : ℕ) (before after : Topics) : Type 0 where
  pub page : ℕ
  pub link : kind_of before.walk.level after.walk.entry ≡ entry_kind.Table page
  pub down : after.walk.level + 1 ≡ before.walk.level
  pub there : table_page after.walk ≡ page
  pub over : IsOver gfn after.walk
  pub others : after ≡ record before { walk = after.walk }

-- The guest frame's entry is of this kind at this level, which is the walk's: there the walk stays, and has seen the entry. Nothing but
-- the entry, and its place, has changed.
pub record StopsAt (kind : SpteKind) (level gfn : ℕ) (before after : Topics) : Type 0 where
  pub is : kind_of level after.walk.entry ≡ kind
  pub here : level ≡ before.walk.level
  pub saw : SawEntry gfn after.walk
  pub others : after ≡ record before { walk = record before.walk { index = after.walk.index; entry = after.walk.entry } }

-- The entry was loaded: a link leads down, and else the walk has come to its end.
abbrev pub Looks : Turn Walked → ℕ → Topics → Topics → Type 0
Looks More gfn before after = GoesDown gfn before after
Looks (Done (Leaf word level)) gfn before after = (word ≡ after.walk.entry) × StopsAt entry_kind.Leaf level gfn before after
Looks (Done (Absent level)) gfn before after = StopsAt entry_kind.Absent level gfn before after
Looks (Done (Frozen level)) gfn before after = StopsAt entry_kind.Frozen level gfn before after
Looks (Wait seen) gfn before after = ⊥
Looks (Retry cause) gfn before after = ⊥

-- what the last turn has loaded
abbrev pub found_last : Walk → TableWalk → ℕ
found_last walk at = if walk.rooted then at.entry else at.root

-- the word that the next turn loads
abbrev pub word_next : Walk → TableWalk → (Area → ℕ → ℕ) → ℕ
word_next walk at words = if walk.rooted then words area.Pool (pool_index (table_page at) (entry_index walk.gfn at.level)) else words area.Root 0

-- the most turns that are left
abbrev pub walk_turns : Walk → TableWalk → ℕ
walk_turns walk at = if walk.rooted then at.level else 5

-- What was loaded last is the word that the walk came to next, of the words of this world.
abbrev pub FoundNext : Walk → Held → Held → World Held → Type 0
FoundNext walk before after w = found_last walk after.topics.walk ≡ word_next walk before.topics.walk (word_in before.state.sizes w)

-- It is, of the words of the world in which the step was made.
abbrev pub WasNextWord : Walk → ℕ → Seat → Seat → Type 0
WasNextWord walk note before after = WherePartMade (walk_step walk) note before after (λ w v. FoundNext walk before.hand after.hand w)

-- ---- a walk that begins anew

-- The walk stands at its root again, and has gone down where the entry there over the guest frame is a link. Nothing else that the actor holds has changed.
abbrev pub walked_anew : ℕ → ℕ → Topics → Topics
walked_anew gfn found t = record t { walk = walked (at_top t.walk) (entry_index gfn 4) found }

-- The entry was this word.
abbrev pub LoadsRootEntry : ℕ → ℕ → Held → World Held → Type 0
LoadsRootEntry gfn found h w = word_in h.state.sizes w area.Pool (pool_index h.topics.walk.root (entry_index gfn 4)) ≡ found

-- It was so where the step was made.
abbrev pub WalksAnewWhereMade : ℕ → ℕ → ℕ → Seat → Seat → Type 0
WalksAnewWhereMade gfn found note before after = WherePartMade (part.WalkAnew gfn) note before after (λ w v. LoadsRootEntry gfn found before.hand w)
