-- What the answer of a split's job makes sure of: of the entry that it saw, and of the exchange that was made in its line.
use Rattle.std.specs.Prelude.{◌≡◌, ◌≢◌, ◌<◌, ◌≤◌, ℕ, List, ◌∷◌, ◌++◌, Some, length}
use Rattle.core_views.specs.declared.answer.Answer.{Answer}
use Rattle.core_views.specs.declared.kind.Kind.{Kind}
use Rattle.core_views.specs.declared.place.Place.TheVariants as place
use Rattle.core_views.specs.declared.place.SplitEnd.{SplitEnd}
use Rattle.core_views.specs.declared.place.SplitEnd.TheVariants.{Changed, Nothing, Split, Starved}
use Rattle.core_views.specs.declared.place.SplitPlace.TheVariants.{Link}
use Rattle.core_views.specs.declared.sizes.Sizes.{Sizes}
use Rattle.core_views.specs.declared.trace.Command.TheVariants as command
use Rattle.core_views.specs.declared.trace.Line.{Line}
use Rattle.core_views.specs.Held.{Held}
use Rattle.spte_words.specs.Areas.{words_of_bits}
use Rattle.part_steps.specs.declared.part_step.PartStep.TheVariants as part
use Rattle.part_steps.specs.PartTasks.{part_kind}
use Rattle.mmu_core.specs.forms.split.SplitKnows.{SawLarge, SawNothing}
use Rattle.mmu_core.specs.machine.Enabled.{mmu}
use Rattle.mmu_core.specs.machine.Machine.{Legal, Step, World, answered, hand_in, run}
use Rattle.mmu_core.specs.machine.Turns.{line_of}
use Rattle.mmu_core.specs.machine.Worlds.{IsStart}
use Rattle.step_seats.specs.LineTurns.{TurnsLine}
use Rattle.step_seats.specs.Seats.{Seat}
use Rattle.step_seats.specs.declared.turn.Turn.TheVariants.{Done}
use Rattle.huge_split.specs.Splits.{EndsAt}

-- The step, made in this world, is its actor's exchange of the guest frame's entry, which it had loaded as this large leaf, for the link to the page that it
-- had filled; and it found this word there.
pub record Exchanges (gfn read found : ℕ) (w : World Held) (s : Step Kind) : Type 0 where
  pub at : (hand_in mmu w s.actor).state.place ≡ place.Split Link
  pub large : SawLarge gfn (hand_in mmu w s.actor).topics.walk
  pub loaded : (hand_in mmu w s.actor).topics.walk.entry ≡ read
  pub is : s.kind ≡ part_kind (hand_in mmu w s.actor) (part.Link gfn) 0
  pub finds : answered mmu w s.kind ≡ found

-- One of the steps, made from this world on, is such one, by this actor, which has been answered nothing since: so it was made in the line under way.
pub record HasExchanged (gfn read found actor : ℕ) (w : World Held) (ss : List (Step Kind)) : Type 0 where
  pub earlier : List (Step Kind)
  pub one : Step Kind
  pub later : List (Step Kind)
  pub are : ss ≡ earlier ++ one ∷ later
  pub by_actor : one.actor ≡ actor
  pub exchanges : Exchanges gfn read found (run mmu w earlier) one
  pub since : length (hand_in mmu (run mmu w earlier) actor).answers ≡ length (hand_in mmu (run mmu w ss) actor).answers

-- What each end makes sure of. A leaf that was split was exchanged in the line. There was nothing to split where the guest frame's entry was seen as this
-- word, at which a walk ends that finds no large leaf. Where the entry had changed, the exchange found this word in place of another one. And a line is
-- starved where its claim has come to the end of the pool's map.
abbrev pub SplitTells : SplitEnd → ℕ → ℕ → Held → World Held → List (Step Kind) → Type 0
SplitTells Split gfn actor h w ss = (read : ℕ) × HasExchanged gfn read read actor w ss
SplitTells (Nothing word) gfn actor h w ss = SawNothing word gfn h.topics.walk
SplitTells (Changed seen) gfn actor h w ss = (read : ℕ) × (read ≢ seen) × HasExchanged gfn read seen actor w ss
SplitTells Starved gfn actor h w ss = words_of_bits h.state.sizes.pool ≤ h.topics.claim.at

-- Where a turn ends the line of a split so, and the seat told a world before it, this is so of all steps that led there from a start, whatever they are.
abbrev pub SplitsTellWhatTheyFound : Type 0
SplitsTellWhatTheyFound =
    (z : Sizes) (lines : List Line) (start : World Held) (ss : List (Step Kind)) (before after : Seat) (answer : Answer) (e : SplitEnd) (gfn : ℕ)
    → IsStart z lines start → Legal mmu start ss → before.tells.world ≡ Some (run mmu start ss)
    → length before.hand.answers < length before.hand.lines → (line_of before.hand).command ≡ command.Split gfn
    → TurnsLine (Done answer) before after → EndsAt (Done e) before.hand.state.place
    → SplitTells e gfn before.actor before.hand start ss
