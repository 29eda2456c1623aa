-- What a line that maps a run of host pages as one, or its pages by themselves, has noted, and how far it has come, at each of its places.
use Rattle.std.specs.Option.{IfSome}
use Rattle.std.specs.Prelude.{◌≡◌, ◌⊎◌, ◌+◌, ◌-◌, ◌<◌, ◌≤◌, ℕ, Bool, true, false, if◌then◌else◌, None, Some}
use Rattle.core_views.specs.declared.place.HostRunPlace.{HostRunPlace}
use Rattle.core_views.specs.declared.place.HostRunPlace.TheVariants.{Look, LookOn, Begin, Change, End}
use Rattle.core_views.specs.declared.topics.HostRow.{HostRow}
use Rattle.core_views.specs.declared.topics.PageRun.{PageRun}
use Rattle.core_views.specs.declared.topics.Topics.{Topics}
use Rattle.core_views.specs.declared.trace.RunChange.{RunChange}
use Rattle.core_views.specs.Flat.{Fresh, HasToSet, LineUnderWay, Notes}
use Rattle.core_views.specs.Host.{HostMap, is_huge}
use Rattle.core_views.specs.HostRuns.{continues, level_set, run_count, run_first, run_refusal}
use Rattle.spte_words.specs.Entries.{level_span}
use Rattle.spte_words.specs.HostWords.{host_allows_write, host_frame}
use Rattle.part_steps.specs.PageRuns.{is_several, level_put, page_next, word_in_row}
use Rattle.part_steps.specs.PartTasks.{word_looked}
use Rattle.mmu_core.specs.forms.host.HostSteps.{entry_of}
use Rattle.mmu_core.specs.forms.host_run.HostRunSteps.{wants_small}
use Rattle.mmu_laws.specs.forms.host.HostStages.{HasNoted}

-- The page is one of those that were looked at, when so many were: the line's own one, and then the others of the run, in their order from its first one on.
abbrev pub IsLooked : ℕ → ℕ → ℕ → ℕ → Type 0
IsLooked first page looked other =
    (other ≡ page) ⊎ (((first ≤ other) × (other < page) × (other + 1 < first + looked)) ⊎ ((page < other) × (other < first + looked)))

-- what the host maps the pages of a row to, of which this one has this word
abbrev pub seen_row : ℕ → ℕ → HostMap
seen_row word page other = entry_of (word_in_row word page other)

-- The pages that were looked at were mapped in a row, and the line has noted them so.
abbrev pub HasSeenRow : RunChange → ℕ → ℕ → ℕ → Notes → Type 0
HasSeenRow change page looked word notes =
    (other : ℕ) → IsLooked (run_first change page (entry_of word)) page looked other → notes.host other ≡ Some (seen_row word page other)

-- They were small, and one of them wasn't mapped in a row with the line's own page.
pub record HasSeenGap (page looked word : ℕ) (notes : Notes) : Type 0 where
  pub seen : HostMap
  pub own : seen page ≡ entry_of word
  pub noted : (other : ℕ) → IsLooked page page looked other → (notes.host other ≡ Some (seen other)) × (is_huge (seen other) ≡ false)
  pub gap : ℕ
  pub on : gap < looked
  pub breaks : continues (host_frame word + gap) (host_allows_write word) (seen (page + gap)) ≡ false

-- By whether they were mapped in a row, as far as the line asks.
abbrev pub SeenBy : Bool → RunChange → ℕ → ℕ → ℕ → Notes → Type 0
SeenBy true change page looked word notes = HasSeenRow change page looked word notes
SeenBy false change page looked word notes = HasSeenGap page looked word notes

abbrev pub in_order : RunChange → HostRow → Bool
in_order change row = if wants_small change then row.alike else true

-- All pages of the run were looked at, and by what was seen the line isn't refused.
pub record HasSeenRun (page : ℕ) (change : RunChange) (word : ℕ) (notes : Notes) : Type 0 where
  pub row : HasSeenRow change page (run_count change (entry_of word)) word notes
  pub fits : run_refusal (seen_row word page) page change ≡ None

-- The pages of a run of several are given the level for which the line asks: none is changed yet, or the line has yet to change those that are left.
abbrev pub RunUnder : ℕ → RunChange → LineUnderWay → PageRun → Type 0
RunUnder page change u run =
    (level_put run ≡ level_set change)
    × (((run.changed ≡ 0) × (u.stage ≡ Fresh) × HasSeenRun page change run.word u.notes)
    ⊎ (u.stage ≡ HasToSet (page_next run) (level_span run.level - run.changed) (level_set change)))

-- By whether the run has several pages.
abbrev pub ChangesUnder : Bool → ℕ → RunChange → Topics → LineUnderWay → Type 0
ChangesUnder true page change t u = IfSome t.invalidations.own.pages (RunUnder page change u)
ChangesUnder false page change t u = (u.stage ≡ Fresh) × HasNoted page t u.notes

-- It has done nothing yet, up to its first change, and has noted the pages that it has looked at; and then it has changed so many of them.
abbrev pub HostRunUnder : HostRunPlace → ℕ → RunChange → Topics → LineUnderWay → Type 0
HostRunUnder Look page change t u = u.stage ≡ Fresh
HostRunUnder LookOn page change t u = (u.stage ≡ Fresh) × SeenBy (in_order change t.row) change page t.row.looked (word_looked t.host) u.notes
HostRunUnder (Begin p) page change t u = (u.stage ≡ Fresh) × HasSeenRun page change (word_looked t.host) u.notes
HostRunUnder Change page change t u = ChangesUnder (is_several t.invalidations.own.pages) page change t u
HostRunUnder (End p) page change t u = (next : ℕ) × (level : ℕ) × (u.stage ≡ HasToSet next 0 level)
