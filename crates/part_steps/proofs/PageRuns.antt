-- What is known of a run of host pages that are changed one after another: the next page is on it, and its numbers are small.
use Rattle.std.proofs.Common.{◌≡◌, ◌+◌, ◌-◌, ◌/◌, ◌%◌, ◌^◌, ◌<◌, ◌≤◌, ℕ, refl, sym, subst, arith}
use Rattle.std.specs.Prelude.{Option, Some}
use Rattle.core_views.specs.declared.kind.StepKind.TheVariants as kind
use Rattle.core_views.specs.declared.topics.PageRun.{PageRun}
use Rattle.core_views.specs.Held.{Held}
use Rattle.spte_words.specs.Entries.{level_span}
use Rattle.spte_words.specs.HostWords.{host_frame}
use Rattle.spte_words.proofs.Spans.{each_span}
use Rattle.part_steps.specs.InvalidationHoldings.{MayChange, MayChangeNext}
use Rattle.part_steps.specs.PageRuns.{IsOnRun, page_next, run_of, word_seen}
use Rattle.part_steps.specs.PartBounds.{IsRunOf, PartRests}
use Rattle.part_steps.specs.PartTasks.{page_looked, page_to_change}
use Rattle.part_steps.specs.TopicSteps.{HasRoom}

-- A page this far after the first one of a span is in the span, at this place.
abbrev pub StaysIn : ℕ → Type 0
StaysIn s = (first k : ℕ) → k < s → ((first - first % s + k) / s ≡ first / s) × ((first - first % s + k) % s ≡ k)

pub stays_in : (level : ℕ) → 1 ≤ level → level ≤ 4 → StaysIn (level_span level)
stays_in =
    each_span StaysIn (λ f k low. (omega (arith, low), omega (arith, low))) (λ f k low. (omega (arith, low), omega (arith, low)))
    (λ f k low. (omega (arith, low), omega (arith, low))) (λ f k low. (omega (arith, low), omega (arith, low)))

-- The page that is changed next is on the run, where not all of them are changed.
pub next_on_run : (run : PageRun) → 1 ≤ run.level → run.level ≤ 4 → run.changed < level_span run.level
    → IsOnRun (page_next run) (Some run) × (page_next run % level_span run.level ≡ run.changed)
next_on_run run from to left = stays_in run.level from to run.first run.changed left

-- The word of the page that was looked at is the one that was seen there.
first_seen : (run : PageRun) → word_seen run run.first ≡ run.word
first_seen run = omega arith

-- A word with a small frame is small.
small_word : (word frames : ℕ) → host_frame word < frames → frames ≤ 2097152 → word < 2 ^ 52
unfolding host_frame
small_word word frames low few = omega (arith, low, few)

-- The run is one of the machine's.
run_changing : (h : Held) → PartRests h → (M : MayChangeNext h) → IsRunOf h.state.sizes M.run
run_changing h R M = R.changing M.run M.opened M.unraised M.is M.several

same_run : (pages : Option PageRun) (run other : PageRun) → pages ≡ Some run → pages ≡ Some other → run ≡ other
same_run pages run other is also = cc

-- It has several pages, and its numbers are small.
pub changing_small : (h : Held) (run : PageRun) → PartRests h → MayChangeNext h → h.topics.invalidations.own.pages ≡ Some run
    → (2 ≤ run.level) × (run.level ≤ 3) × (run.first < 2 ^ 32) × (run.word < 2 ^ 52)
changing_small h run R M is =
    let of : IsRunOf h.state.sizes M.run = run_changing h R M in
    subst (λ (r : PageRun). (2 ≤ r.level) × (r.level ≤ 3) × (r.first < 2 ^ 32) × (r.word < 2 ^ 52))
    (same_run h.topics.invalidations.own.pages M.run run M.is is) (
      M.several,
      of.most,
      omega (arith, of.there M.run.first refl, R.sizes.pages.1),
      small_word M.run.word h.state.sizes.frames
          (subst (λ (w : ℕ). host_frame w < h.state.sizes.frames) (first_seen M.run) (of.frames M.run.first refl)) R.sizes.frames.1,
    )

-- The page that is changed next is one of the machine's.
pub next_there : (h : Held) → PartRests h → MayChangeNext h → page_to_change h.topics.invalidations.own.pages < h.state.sizes.pages
next_there h R M =
    let of : IsRunOf h.state.sizes M.run = run_changing h R M in
    subst (λ (o : Option PageRun). page_to_change o < h.state.sizes.pages) (sym M.is)
    (of.there (page_next M.run) (next_on_run M.run (omega (arith, M.several)) (omega (arith, of.most)) M.left).0)

pub next_small : (h : Held) → PartRests h → MayChangeNext h → page_to_change h.topics.invalidations.own.pages < 2 ^ 32
next_small h R M = omega (arith, next_there h R M, R.sizes.pages.1)

-- ---- how many of its pages are changed

-- A run has few pages: so where one more of them is to be changed, there is room to count it.
span_few : (level : ℕ) → 1 ≤ level → level ≤ 4 → level_span level < 2 ^ 32
span_few = each_span (λ s. s < 2 ^ 32) (omega arith) (omega arith) (omega arith) (omega arith)

pub change_room : (h : Held) → MayChange h → HasRoom kind.Change h.topics
change_room h M run is =
    subst (λ (r : PageRun). r.changed < 2 ^ 32) (same_run h.topics.invalidations.own.pages (run_of (page_looked h.topics.host)) run M.invalid is) (omega arith)

pub next_room : (h : Held) → PartRests h → MayChangeNext h → HasRoom kind.Change h.topics
next_room h R M run is =
    let of : IsRunOf h.state.sizes M.run = run_changing h R M in
    subst (λ (r : PageRun). r.changed < 2 ^ 32) (same_run h.topics.invalidations.own.pages M.run run M.is is)
    (omega (arith, M.left, span_few M.run.level (omega (arith, M.several)) (omega (arith, of.most))))
