-- Host words at the start: each page is present, at a frame of its own, and small.
use Rattle.std.proofs.Common.{◌≡◌, ◌<◌, ℕ, refl, sym, subst, ap, ◌∙◌, arith}
use Rattle.std.specs.Prelude.{true, nat_lt, List}
use Rattle.std.proofs.lemmas.Bool.Decides.{nat_tests}
use Rattle.core_views.specs.declared.sizes.Sizes.{Sizes}
use Rattle.core_views.specs.declared.topics.Topics.{Topics}
use Rattle.core_views.specs.declared.trace.Line.{Line}
use Rattle.core_views.specs.Held.{Held}
use Rattle.spte_words.specs.declared.area.Area.TheVariants as area
use Rattle.spte_words.specs.HostWords.{host_level, host_word}
use Rattle.spte_words.proofs.ReadsHost.{host_has_level}
use Rattle.mmu_core.specs.invariant.HostWordsPart.{HostWordsPart, IsHostWord}
use Rattle.mmu_core.specs.invariant.RunsPart.{RunsPart}
use Rattle.mmu_core.specs.machine.Machine.{World}
use Rattle.mmu_core.specs.machine.View.{word_in}
use Rattle.mmu_core.specs.machine.Worlds.{AreStartWords, IsStart}
use Rattle.mmu_core.proofs.held.PageRuns.{one_alone}
use Rattle.mmu_core.proofs.start.StartWords.{word_at_start}
use Rattle.mmu_core.proofs.words.HostStays.{is_word_of}

-- Each host word maps its page to its own frame, and allows writes.
pub host_at_start : (z : Sizes) (w : World Held) (p : ℕ) → AreStartWords z w.words → p < z.pages → word_in z w area.Host p ≡ host_word p true true 1
host_at_start z w p start lt =
    word_at_start z w area.Host p (host_word p true true 1) start (λ l. refl)
    (λ e. absurd (let t : nat_lt p z.pages ≡ true = grind (arith, nat_tests) in cc (e, t)))

pub hosts_start : (z : Sizes) (lines : List Line) (w : World Held) → IsStart z lines w → HostWordsPart z (word_in z w area.Host)
hosts_start z lines w start p lt =
    subst (IsHostWord z.frames) (sym (host_at_start z w p start.words lt))
    (is_word_of z.frames p true true 1 (omega (arith, lt, start.sizes.frames.0)) (omega arith) (omega arith))

pub levels_start : (z : Sizes) (lines : List Line) (w : World Held) → IsStart z lines w → (p : ℕ) → p < z.pages → host_level (word_in z w area.Host p) ≡ 1
levels_start z lines w start p lt = ap host_level (host_at_start z w p start.words lt) ∙ host_has_level p true true 1 (omega arith)

-- Where all pages are small each run is of one page.
pub small_runs : (z : Sizes) (n : ℕ) (host : ℕ → ℕ) (topics : ℕ → Topics) → ((p : ℕ) → p < z.pages → host_level (host p) ≡ 1) → RunsPart z n host topics
small_runs z n host topics small page level other there none from large in_run =
    let one = small page there in one_alone z level page other host there from (omega (arith, one, large)) in_run
