-- The looks of a line that changes a run of host pages: a series of steps, all but the first and the last one.
use Rattle.std.proofs.Common.{◌≡◌, ◌+◌, ◌-◌, ◌^◌, ◌<◌, ℕ, zero, suc, [], ◌∷◌, ◌++◌, length, refl, ap, ◌∙◌, arith}
use Rattle.std.specs.Prelude.{Bool, true, false, ◌&&◌, nat_lt, Some, if◌then◌else◌}
use Rattle.core_views.specs.declared.event.EventKind.TheVariants.{LookedAtHost}
use Rattle.core_views.specs.declared.answer.Answer.TheVariants.{Refused}
use Rattle.core_views.specs.declared.answer.Refusal.TheVariants.{IsHuge, NotAligned}
use Rattle.core_views.specs.declared.place.BeginPlace.TheVariants as begins
use Rattle.core_views.specs.declared.place.HostRunPlace.TheVariants as run_place
use Rattle.core_views.specs.declared.place.Place.TheVariants as place
use Rattle.core_views.specs.declared.topics.HostLook.{HostLook}
use Rattle.core_views.specs.declared.topics.HostRow.{HostRow}
use Rattle.core_views.specs.declared.topics.Topics.{Topics}
use Rattle.core_views.specs.declared.trace.Command.TheVariants.{ChangeRun}
use Rattle.core_views.specs.declared.trace.RunChange.{RunChange}
use Rattle.core_views.specs.Held.{Held}
use Rattle.core_views.specs.HostRuns.{run_count, run_first}
use Rattle.spte_words.specs.declared.area.Area.{Area}
use Rattle.spte_words.specs.declared.area.Area.TheVariants as area
use Rattle.spte_words.specs.Entries.{level_span}
use Rattle.part_steps.specs.declared.part_step.PartStep.TheVariants as part
use Rattle.part_steps.specs.PageRuns.{continues_row, looked_on}
use Rattle.part_steps.specs.PartTasks.{own_index}
use Rattle.mmu_core.specs.declared.outcome.Outcome.{Outcome}
use Rattle.mmu_core.specs.declared.outcome.Outcome.TheVariants.{Ends, Goes}
use Rattle.mmu_core.specs.forms.access.AccessSteps.{exiting}
use Rattle.mmu_core.specs.forms.access.Cached.{flushed}
use Rattle.mmu_core.specs.forms.host.HostSteps.{entry_of, maps_large}
use Rattle.mmu_core.specs.forms.host_run.HostRunSteps.{after_next_look, fits, host_run_note, other_page, wants_small}
use Rattle.mmu_core.specs.machine.Outcomes.{answering, answers_after, place_after}
use Rattle.mmu_core.proofs.words.PartTopics.{part_topics_is}
use Rattle.mmu_laws.proofs.flat.Told.{told}
use Rattle.mmu_laws.proofs.steps.PageFillers.{one_step_more}
use Rattle.mmu_laws.proofs.steps.Series.{MakesNext, Series}

-- the hand of such a line at a place, with this count of steps, these topics, and after this outcome
abbrev pub hand_by : Outcome → ℕ → RunChange → ℕ → Topics → Held → Held
hand_by o page change steps t h = record {
  state = record h.state { place = place_after o; line = record h.state.line { command = ChangeRun page change }; steps = steps };
  topics = t;
  cached = h.cached;
  slots = h.slots;
  harvest = h.harvest;
  lines = h.lines;
  answers = answers_after o (record h.state.line { command = ChangeRun page change }) h.answers;
}

module _ (page : ℕ) (change : RunChange) (look : HostLook) (row : HostRow) (words : Area → ℕ → ℕ) (h : Held) where
  -- the page that is looked at after so many looks more, and its word
  abbrev pub page_at : ℕ → ℕ
  page_at k = other_page (run_first change page (entry_of look.word)) page (row.looked + k)

  abbrev pub word_at : ℕ → ℕ
  word_at k = words area.Host (page_at k)

  -- what was seen then of the pages in a row
  abbrev pub alike_after : ℕ → Bool
  alike_after zero = row.alike
  alike_after (suc k) = continues_row look (record row { looked = row.looked + k; alike = alike_after k }) (page_at k) (word_at k)

  abbrev pub row_after : ℕ → HostRow
  row_after k = record row { looked = row.looked + k; alike = alike_after k }

  abbrev pub topics_looked : ℕ → Topics
  topics_looked k = record h.topics { host = Some look; row = row_after k }

  abbrev pub looks_series : Series
  looks_series = record {
    hand = λ k. hand_by (Goes (place.HostRun run_place.LookOn)) page change (h.state.steps + k) (topics_looked k) h;
    words = λ k. words;
    tells = λ k. record { actor = h.state.actor; kind = LookedAtHost (page_at k) } ∷ [];
  }

  -- The look is neither the last one of the run nor the line's last step.
  pub record LooksOn (k : ℕ) : Type 0 where
    pub room : nat_lt (row.looked + k) (level_span 3) ≡ true
    pub small : (wants_small change && maps_large (word_at k)) ≡ false
    pub more : nat_lt (row.looked + k + 1) (run_count change (entry_of look.word)) ≡ true
    pub few : h.state.steps + k < 2 ^ 64 - 1
    pub line : length h.answers < length h.lines

  looked_more : (k : ℕ) → LooksOn k → (if nat_lt (row.looked + k) (level_span 3) then row.looked + k + 1 else row.looked + k) ≡ row.looked + suc k
  looked_more k L =
      let sum : row.looked + k + 1 ≡ row.looked + suc k = omega arith in
      ap (λ (b : Bool). if b then row.looked + k + 1 else row.looked + k) L.room ∙ sum

  row_more : (k : ℕ) → LooksOn k → looked_on (Some look) (row_after k) (page_at k) (word_at k) ≡ row_after (suc k)
  row_more k L = λ s. record row { looked = looked_more k L s; alike = alike_after (suc k) }

  goes_on : (k : ℕ) → LooksOn k
      → after_next_look change (Some look) (row_after k) (page_at k) (word_at k) ≡ Goes (place.HostRun run_place.LookOn)
  goes_on k L = λ s. by_tests (L.small s) (more_left s)
      (if fits change look (looked_on (Some look) (row_after k) (page_at k) (word_at k)) then Goes (place.HostRun (run_place.Begin begins.Exclude)) else
      Ends (Refused NotAligned))
    where
      by_tests : Bool → Bool → Outcome → Outcome
      by_tests huge more last = if huge then Ends (Refused IsHuge) else if more then Goes (place.HostRun run_place.LookOn) else last

      more_left : nat_lt (if nat_lt (row.looked + k) (level_span 3) then row.looked + k + 1 else row.looked + k) (run_count change (entry_of look.word)) ≡ true
      more_left =
          ap (λ (b : Bool). nat_lt (if b then row.looked + k + 1 else row.looked + k) (run_count change (entry_of look.word))) L.room ∙ L.more

  look_hand : (k : ℕ) (L : LooksOn k)
      → hand_by (after_next_look change (Some look) (row_after k) (page_at k) (word_at k)) page change (h.state.steps + k + 1)
      (record (topics_looked k) { row = looked_on (Some look) (row_after k) (page_at k) (word_at k) }) h
      ≡ looks_series.hand (suc k)
  look_hand k L =
      let count : h.state.steps + k + 1 ≡ h.state.steps + suc k = omega arith in
      λ s. hand_by (goes_on k L s) page change (count s) (record (topics_looked k) { row = row_more k L s }) h

  pub looks_next : (k : ℕ) → LooksOn k → MakesNext looks_series k
  unfolding flushed
  looks_next k L = record {
    words_go = λ b i. refl;
    hand_goes = (λ s. hand_by (after_next_look change (Some look) (row_after k) (page_at k) (word_at k)) page change
        (one_step_more (h.state.steps + k) L.few s)
        (part_topics_is h.state.sizes (part.HostOn (page_at k)) (own_index h) (topics_looked k) (host_run_note run_place.LookOn change) (word_at k) tt s)
        h) ∙ look_hand k L;
    tells_it = ap (λ (o : Outcome). told h.state.actor ((LookedAtHost (page_at k) ∷ exiting o)
        ++ answering o (record h.state.line { command = ChangeRun page change }))) (goes_on k L);
    has_line = L.line;
  }
