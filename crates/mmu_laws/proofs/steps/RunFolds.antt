-- Which looks and changes of a run of host pages can be made at once.
use Rattle.std.proofs.Common.{◌≡◌, ◌+◌, ◌-◌, ◌^◌, ◌<◌, ◌⊎◌, inl, inr, ◌≢◌, ℕ, zero, suc, [], ◌∷◌, refl, sym, ap, ◌∙◌, arith}
use Rattle.std.specs.Prelude.{Bool, true, false, ◌&&◌, ◌==◌, not, nat_le, nat_lt, Option, Some, None, if◌then◌else◌}
use Rattle.std.proofs.lemmas.Bool.Decides.{nat_tests}
use Rattle.core_views.specs.declared.place.HostRunPlace.TheVariants as run_place
use Rattle.core_views.specs.declared.place.Place.{Place}
use Rattle.core_views.specs.declared.place.Place.TheVariants as place
use Rattle.core_views.specs.declared.sizes.Sizes.{Sizes}
use Rattle.core_views.specs.declared.topics.HostLook.{HostLook}
use Rattle.core_views.specs.declared.topics.PageRun.{PageRun}
use Rattle.core_views.specs.declared.trace.Command.{Command}
use Rattle.core_views.specs.declared.trace.Command.TheVariants.{ChangeRun}
use Rattle.core_views.specs.declared.trace.RunChange.{RunChange}
use Rattle.core_views.specs.Held.{Held}
use Rattle.core_views.specs.HostRuns.{run_count}
use Rattle.spte_words.specs.declared.area.Area.{Area}
use Rattle.spte_words.specs.declared.area.Area.TheVariants as area
use Rattle.spte_words.specs.Areas.{number_of}
use Rattle.spte_words.specs.Entries.{level_span}
use Rattle.part_steps.specs.PageRuns.{page_next, word_given, word_seen}
use Rattle.mmu_core.specs.forms.host.HostSteps.{entry_of, maps_large}
use Rattle.mmu_core.specs.forms.host_run.HostRunSteps.{wants_small}
use Rattle.mmu_core.specs.machine.View.{View}
use Rattle.mmu_core.proofs.machine.Columns.{same_or}
use Rattle.mmu_laws.specs.steps.ExampleRaces.{in_turn}
use Rattle.mmu_laws.proofs.steps.ChangeSeries.{changed_words, changes_next_one, changes_series, is_among}
use Rattle.mmu_laws.proofs.steps.LookSeries.{looks_next, looks_series, word_at}
use Rattle.mmu_laws.proofs.steps.Series.{Series, after_steps, series_run, series_tells}
use Rattle.mmu_laws.proofs.steps.ViewRuns.{HaveLines, Runs, both, have_lines, have_lines_by}

-- A line looks at pages of a run after its first look, or changes them after its first change; or does neither.
pub data Fold : Type 0 where
  NoFold : Fold
  Looks : ℕ → RunChange → HostLook → Fold
  ChangesPages : ℕ → RunChange → PageRun → Fold

abbrev pub fold_at : Place → Command → Option HostLook → Option PageRun → Fold
fold_at (place.HostRun run_place.LookOn) (ChangeRun page change) (Some look) pages = Looks page change look
fold_at (place.HostRun run_place.Change) (ChangeRun page change) None (Some run) = ChangesPages page change run
fold_at _ _ _ _ = NoFold

abbrev pub fold_of : Held → Fold
fold_of h = fold_at h.state.place h.state.line.command h.topics.host h.topics.invalidations.own.pages

-- the series that it is, and how many of its steps are left, but for the last one
abbrev pub series_of : Fold → (Area → ℕ → ℕ) → Held → Series
series_of NoFold words h = record { hand = λ k. h; words = λ k. words; tells = λ k. [] }
series_of (Looks page change look) words h = looks_series page change look h.topics.row words h
series_of (ChangesPages page change run) words h = changes_series page change run words h

abbrev pub most_of : Fold → Held → ℕ
most_of NoFold h = 0
most_of (Looks page change look) h = run_count change (entry_of look.word) - (h.topics.row.looked + 1)
most_of (ChangesPages page change run) h = level_span run.level - (run.changed + 1)

-- None of the next n pages that are looked at is part of a large one, where the line wants small ones; and each of the next n has its word as it was seen.
abbrev are_small : ℕ → RunChange → HostLook → (Area → ℕ → ℕ) → Held → ℕ → Bool
are_small page change look words h zero = true
are_small page change look words h (suc n) =
    not (wants_small change && maps_large (word_at page change look h.topics.row words h n)) && are_small page change look words h n

abbrev page_changed_after : PageRun → ℕ → ℕ
page_changed_after run n = page_next (record run { changed = run.changed + n })

abbrev are_seen : PageRun → (Area → ℕ → ℕ) → ℕ → Bool
are_seen run words zero = true
are_seen run words (suc n) =
    (words area.Host (page_changed_after run n) == word_seen run (page_changed_after run n)) && are_seen run words n

-- So many of its steps can be made.
abbrev pub fold_fits : Fold → ℕ → (Area → ℕ → ℕ) → Held → Bool
fold_fits NoFold n words h = false
fold_fits (Looks page change look) n words h =
    (nat_lt (h.topics.row.looked + n) (level_span 3) && nat_lt (h.topics.row.looked + n) (run_count change (entry_of look.word)))
    && (nat_le (h.state.steps + n) (2 ^ 64 - 1) && are_small page change look words h n)
fold_fits (ChangesPages page change run) n words h =
    (nat_lt 1 run.level && nat_lt (run.changed + n) (level_span run.level))
    && (nat_le (h.state.steps + n) (2 ^ 64 - 1) && are_seen run words n)

-- ---- They can.

no_less : (b : Bool) → not b ≡ true → b ≡ false
no_less false e = refl
no_less true e = absurd (cc e)

less_still : (a n k bound : ℕ) → k < n → nat_lt (a + n) bound ≡ true → nat_lt (a + k) bound ≡ true
less_still a n k bound lt e = grind (arith, nat_tests)

one_less : (a n k bound : ℕ) → k < n → nat_lt (a + n) bound ≡ true → nat_lt (a + k + 1) bound ≡ true
one_less a n k bound lt e = grind (arith, nat_tests)

few_still : (a n k : ℕ) → k < n → nat_le (a + n) (2 ^ 64 - 1) ≡ true → a + k < 2 ^ 64 - 1
few_still a n k lt e = grind (arith, nat_tests)

same_number : (a b : ℕ) → (a == b) ≡ true → a ≡ b
same_number a b e = grind (arith, nat_tests)

last_or : (k n : ℕ) → k < suc n → (k ≡ n) ⊎ (k < n)
last_or k n lt = by (same_or k n)
  where
    by : (k ≡ n) ⊎ (k ≢ n) → (k ≡ n) ⊎ (k < n)
    by (inl e) = inl e
    by (inr ne) = inr (omega (arith, lt, ne))

small_there : (page : ℕ) (change : RunChange) (look : HostLook) (words : Area → ℕ → ℕ) (h : Held) (n k : ℕ) → k < n
    → are_small page change look words h n ≡ true → (wants_small change && maps_large (word_at page change look h.topics.row words h k)) ≡ false
small_there page change look words h zero k lt e = absurd (omega (arith, lt))
small_there page change look words h (suc n) k lt e = by (last_or k n lt) (λ before. small_there page change look words h n k before halves.1)
  where
    halves : (not (wants_small change && maps_large (word_at page change look h.topics.row words h n)) ≡ true) × (are_small page change look words h n ≡ true)
    halves = both (not (wants_small change && maps_large (word_at page change look h.topics.row words h n))) (are_small page change look words h n) e

    by : (k ≡ n) ⊎ (k < n) → (k < n → (wants_small change && maps_large (word_at page change look h.topics.row words h k)) ≡ false)
        → (wants_small change && maps_large (word_at page change look h.topics.row words h k)) ≡ false
    by (inl is) before =
        ap (λ j. wants_small change && maps_large (word_at page change look h.topics.row words h j)) is
        ∙ no_less (wants_small change && maps_large (word_at page change look h.topics.row words h n)) halves.0
    by (inr less) before = before less

seen_there : (run : PageRun) (words : Area → ℕ → ℕ) (n k : ℕ) → k < n → are_seen run words n ≡ true
    → words area.Host (page_changed_after run k) ≡ word_seen run (page_changed_after run k)
seen_there run words zero k lt e = absurd (omega (arith, lt))
seen_there run words (suc n) k lt e = by (last_or k n lt) (λ before. seen_there run words n k before halves.1)
  where
    halves : ((words area.Host (page_changed_after run n) == word_seen run (page_changed_after run n)) ≡ true) × (are_seen run words n ≡ true)
    halves = both (words area.Host (page_changed_after run n) == word_seen run (page_changed_after run n)) (are_seen run words n) e

    by : (k ≡ n) ⊎ (k < n) → (k < n → words area.Host (page_changed_after run k) ≡ word_seen run (page_changed_after run k))
        → words area.Host (page_changed_after run k) ≡ word_seen run (page_changed_after run k)
    by (inl is) before =
        ap (λ j. words area.Host (page_changed_after run j)) is
        ∙ same_number (words area.Host (page_changed_after run n)) (word_seen run (page_changed_after run n)) halves.0
        ∙ sym (ap (λ j. word_seen run (page_changed_after run j)) is)
    by (inr less) before = before less

-- The hand is at the begin of its series, and so are the words.
looks_here : (page : ℕ) (change : RunChange) (look : HostLook) (words : Area → ℕ → ℕ) (h : Held) → h.state.place ≡ place.HostRun run_place.LookOn
    → h.state.line.command ≡ ChangeRun page change → h.topics.host ≡ Some look
    → h ≡ (looks_series page change look h.topics.row words h).hand 0
looks_here page change look words h there command host =
    let steps : h.state.steps ≡ h.state.steps + 0 = omega arith in
    let looked : h.topics.row.looked ≡ h.topics.row.looked + 0 = omega arith in
    λ s. record {
      state = record h.state { place = there s; line = record h.state.line { command = command s }; steps = steps s };
      topics = record h.topics { host = host s; row = record h.topics.row { looked = looked s } };
      cached = h.cached;
      slots = h.slots;
      harvest = h.harvest;
      lines = h.lines;
      answers = h.answers;
    }

changes_here : (page : ℕ) (change : RunChange) (run : PageRun) (words : Area → ℕ → ℕ) (h : Held) → h.state.place ≡ place.HostRun run_place.Change
    → h.state.line.command ≡ ChangeRun page change → h.topics.host ≡ None → h.topics.invalidations.own.pages ≡ Some run
    → h ≡ (changes_series page change run words h).hand 0
changes_here page change run words h there command host pages =
    let steps : h.state.steps ≡ h.state.steps + 0 = omega arith in
    let changed : run.changed ≡ run.changed + 0 = omega arith in
    let now_ : h.topics.invalidations.own.pages ≡ Some (record run { changed = run.changed + 0 }) =
    pages ∙ ap (λ n. Some (record run { changed = n })) changed in
    λ s. record {
      state = record h.state { place = there s; line = record h.state.line { command = command s }; steps = steps s };
      topics = record h.topics {
        host = host s;
        invalidations = record h.topics.invalidations { own = record h.topics.invalidations.own { pages = now_ s } };
      };
      cached = h.cached;
      slots = h.slots;
      harvest = h.harvest;
      lines = h.lines;
      answers = h.answers;
    }

none_changed : (run : PageRun) (words : Area → ℕ → ℕ) (b : Area) (i : ℕ) → words b i ≡ changed_words run 0 words b i
none_changed run words b i = by (number_of b == number_of area.Host)
  where
    none : is_among (page_next run) 0 i ≡ false
    none = grind (arith, nat_tests)

    by : (is : Bool) → words b i ≡ (if is && is_among (page_next run) 0 i then word_given run i else words b i)
    by true = sym (ap (λ (x : Bool). if x then word_given run i else words b i) none)
    by false = refl

-- the looks and the changes at once
pub fold_runs : (z : Sizes) (a n : ℕ) (v : View) (p : Place) (command : Command) (host : Option HostLook) (pages : Option PageRun)
    → (v.hand a).state.place ≡ p → (v.hand a).state.line.command ≡ command → (v.hand a).topics.host ≡ host
    → (v.hand a).topics.invalidations.own.pages ≡ pages → have_lines z v (a ∷ []) ≡ true
    → fold_fits (fold_at p command host pages) n v.words (v.hand a) ≡ true
    → Runs z v (in_turn n (a ∷ [])) (after_steps (series_of (fold_at p command host pages) v.words (v.hand a)) a v.hand n)
    (series_tells (series_of (fold_at p command host pages) v.words (v.hand a)) 0 n)
fold_runs z a n v (place.HostRun run_place.LookOn) (ChangeRun page change) (Some look) pages there command host is have fits =
    let h : Held = v.hand a in
    let has : HaveLines z v (a ∷ []) = have_lines_by z v (a ∷ []) have in
    let bounds : Bool = nat_lt (h.topics.row.looked + n) (level_span 3) && nat_lt (h.topics.row.looked + n) (run_count change (entry_of look.word)) in
    let halves = both bounds (nat_le (h.state.steps + n) (2 ^ 64 - 1) && are_small page change look v.words h n) fits in
    let less = both (nat_lt (h.topics.row.looked + n) (level_span 3)) (nat_lt (h.topics.row.looked + n) (run_count change (entry_of look.word))) halves.0 in
    let rest = both (nat_le (h.state.steps + n) (2 ^ 64 - 1)) (are_small page change look v.words h n) halves.1 in
    series_run z (looks_series page change look h.topics.row v.words h) a n v has.0 (looks_here page change look v.words h there command host) (λ b i. refl)
    (λ k lt. looks_next page change look h.topics.row v.words h k (record {
      room = less_still h.topics.row.looked n k (level_span 3) lt less.0;
      small = small_there page change look v.words h n k lt rest.1;
      more = one_less h.topics.row.looked n k (run_count change (entry_of look.word)) lt less.1;
      few = few_still h.state.steps n k lt rest.0;
      line = has.1;
    }))
fold_runs z a n v (place.HostRun run_place.Change) (ChangeRun page change) None (Some run) there command host is have fits =
    let h : Held = v.hand a in
    let has : HaveLines z v (a ∷ []) = have_lines_by z v (a ∷ []) have in
    let halves = both (nat_lt 1 run.level && nat_lt (run.changed + n) (level_span run.level))
    (nat_le (h.state.steps + n) (2 ^ 64 - 1) && are_seen run v.words n) fits in
    let less = both (nat_lt 1 run.level) (nat_lt (run.changed + n) (level_span run.level)) halves.0 in
    let rest = both (nat_le (h.state.steps + n) (2 ^ 64 - 1)) (are_seen run v.words n) halves.1 in
    series_run z (changes_series page change run v.words h) a n v has.0 (changes_here page change run v.words h there command host is)
    (none_changed run v.words) (λ k lt. changes_next_one page change run v.words h k (record {
      several = less.0;
      seen = seen_there run v.words n k lt rest.1;
      more = one_less run.changed n k (level_span run.level) lt less.1;
      few = few_still h.state.steps n k lt rest.0;
      line = has.1;
    }))
fold_runs z a n v _ _ _ _ there command host is have fits = absurd (cc fits)
