-- A run of the machine: what it tells, and what its words stand for.
use Rattle.std.specs.Prelude.{◌≡◌, ◌<◌, ◌≤◌, ℕ, List}
use Rattle.core_views.specs.declared.host.HostEntry.{HostEntry}
use Rattle.core_views.specs.declared.kind.Kind.{Kind}
use Rattle.core_views.specs.declared.sizes.Sizes.{Sizes}
use Rattle.core_views.specs.declared.trace.Line.{Line}
use Rattle.core_views.specs.Events.{after_all}
use Rattle.core_views.specs.Flat.{Facts, first_flat}
use Rattle.core_views.specs.Held.{Held}
use Rattle.core_views.specs.Lawful.{IsLawful}
use Rattle.spte_words.specs.declared.area.Area.TheVariants as area
use Rattle.spte_words.specs.HostWords.{host_word}
use Rattle.mmu_core.specs.machine.Enabled.{mmu}
use Rattle.mmu_laws.specs.flat.FlatInvariant.{Refines}
use Rattle.mmu_core.specs.machine.Machine.{Legal, Step, World, run}
use Rattle.mmu_core.specs.machine.View.{word_in}
use Rattle.mmu_core.specs.machine.Worlds.{IsStart, history}

-- The steps are made one after the other from the start of a machine of these sizes with these lines, and each may be made in its turn.
pub record IsRun (z : Sizes) (lines : List Line) (w : World Held) (ss : List (Step Kind)) : Type 0 where
  pub start : IsStart z lines w
  pub legal : Legal mmu w ss

-- It is so in every run: of every machine, from its start on, with any list of steps that may be made.
abbrev pub InEveryRun : (Sizes → World Held → List (Step Kind) → Type 0) → Type 0
InEveryRun P = (z : Sizes) (lines : List Line) (w : World Held) (ss : List (Step Kind)) → IsRun z lines w ss → P z w ss

-- It is so of the world after every run.
abbrev pub AfterEveryRun : (Sizes → World Held → Type 0) → Type 0
AfterEveryRun P = InEveryRun (λ z w ss. P z (run mmu w ss))

-- What a run tells is what flat guest memory allows, event by event.
abbrev pub TellsLawfully : Type 0
TellsLawfully = InEveryRun (λ z w ss. IsLawful z first_flat (history w ss))

-- the host word that stands for an entry
abbrev pub word_of_entry : HostEntry → ℕ
word_of_entry e = host_word e.frame e.present e.writable e.level

-- The words of this world stand for these facts: published slots with their logs, the content words of the pages' frames, and the pause; each host word is
-- what the host maps its page to, at a level that has leaves; and no two pages have one frame.
pub record StandsForFacts (z : Sizes) (w : World Held) (f : Facts) : Type 0 where
  pub refines : Refines z (word_in z w area.Slots 0) (word_in z w area.Pool) (word_in z w area.Host) (word_in z w area.Content) (word_in z w area.Pause 0) f
  pub host : (page : ℕ) → page < z.pages → word_in z w area.Host page ≡ word_of_entry (f.host page)
  pub levels : (page : ℕ) → page < z.pages → (1 ≤ (f.host page).level) × ((f.host page).level ≤ 3)
  pub frames : (page : ℕ) → page < z.pages → (f.host page).frame < z.frames
  pub apart : (page other : ℕ) → page < z.pages → other < z.pages → (f.host page).frame ≡ (f.host other).frame → page ≡ other

-- The words after a run stand for the facts that its history gives.
abbrev pub WordsStandForFacts : Type 0
WordsStandForFacts = InEveryRun (λ z w ss. StandsForFacts z (run mmu w ss) (after_all (history w ss) first_flat).facts)
