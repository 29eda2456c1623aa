-- Runs from a start, by computation of folded turns: what they tell, what an actor counts in them, what a word holds after them, and where a line stands.
use Rattle.std.proofs.Common.{◌≡◌, ◌≤◌, ℕ, List, length, sym, subst, ap, ◌∙◌}
use Rattle.std.specs.Prelude.{All, true}
use Rattle.core_views.specs.declared.event.Event.{Event}
use Rattle.core_views.specs.declared.place.Place.{Place}
use Rattle.core_views.specs.declared.sizes.Sizes.{Sizes}
use Rattle.core_views.specs.declared.trace.Line.{Line}
use Rattle.core_views.specs.Held.{Held}
use Rattle.core_views.specs.Sizes.{AreSizes}
use Rattle.core_views.specs.Traces.{IsCommandFor}
use Rattle.spte_words.specs.declared.area.Area.{Area}
use Rattle.mmu_core.specs.invariant.Laws.{IsSound}
use Rattle.mmu_core.specs.machine.Enabled.{mmu}
use Rattle.mmu_core.specs.machine.Machine.{World, run}
use Rattle.mmu_core.specs.machine.View.{View, view}
use Rattle.mmu_core.specs.machine.Worlds.{IsStart}
use Rattle.mmu_core.proofs.start.Starts.{start_good}
use Rattle.mmu_core.proofs.start.StartViews.{a_start, start_view, start_view_is}
use Rattle.mmu_laws.specs.steps.ExampleSteps.{RunDelays, RunLeaves, RunStands, RunTells, turns_of}
use Rattle.mmu_laws.proofs.steps.FoldedRuns.{all_fold, fits_all, leads_all, tells_all, turns}
use Rattle.mmu_laws.proofs.steps.ViewRuns.{HaveLines, Runs, tale, turned_all, turns_are, turns_lead}

-- An actor may be given this line.
abbrev pub May : Sizes → Line → Type 0
May z line = IsCommandFor z line.actor line.command

-- A world at the start, from which the turns can be made, and the words and hands after them.
record Started (z : Sizes) (lines : List Line) (ts : List (ℕ × List ℕ)) : Type 0 where
  world : World Held
  is_start : IsStart z lines world
  good : IsSound z world
  have : HaveLines z (view z world) (turns ts)
  is : ◌≡◌ {A = View} (view z world) (start_view z lines)
  leads : ◌≡◌ {A = View} (view z (run mmu world (turns_of z world (turns ts)))) (leads_all ts (start_view z lines))

started : (z : Sizes) (lines : List Line) (ts : List (ℕ × List ℕ)) → AreSizes z → All (May z) lines → length lines ≤ 1000000
    → fits_all z ts (start_view z lines) ≡ true → Started z lines ts
started z lines ts sizes allowed few fits = record {
  world = s.0;
  is_start = s.1;
  good = good;
  have = have;
  is = is;
  leads = turns_lead z s.0 (turns ts) good have ∙ (ap (λ (v : View). turned_all v (turns ts)) is ∙ R.leads);
}
  where
    s : (w : World Held) × IsStart z lines w
    s = a_start z lines sizes allowed few

    good : IsSound z s.0
    good = start_good z lines s.0 s.1

    is : ◌≡◌ {A = View} (view z s.0) (start_view z lines)
    is = start_view_is z lines s.0 s.1

    R : Runs z (start_view z lines) (turns ts) (leads_all ts (start_view z lines)) (tells_all ts (start_view z lines))
    R = all_fold z ts (start_view z lines) fits

    have : HaveLines z (view z s.0) (turns ts)
    have = subst (λ (v : View). HaveLines z v (turns ts)) (sym is) R.have

-- What folded turns tell, a run of worlds tells.
pub run_tells : (z : Sizes) (lines : List Line) (ts : List (ℕ × List ℕ)) (events : List Event) → AreSizes z → All (May z) lines → length lines ≤ 1000000
    → fits_all z ts (start_view z lines) ≡ true → tells_all ts (start_view z lines) ≡ events → RunTells z lines (turns ts) events
run_tells z lines ts events sizes allowed few fits told =
    let S = started z lines ts sizes allowed few fits in
    let R = all_fold z ts (start_view z lines) fits in
    let runs = turns_are z S.world (turns ts) S.good S.have in
    record {
      start = S.world;
      is_start = S.is_start;
      legal = runs.0;
      tells = runs.1 ∙ (ap (λ (v : View). tale v (turns ts)) S.is ∙ (R.tells_them ∙ told));
    }

-- What an actor counts in them, it counts in a run of worlds.
pub run_delays : (z : Sizes) (lines : List Line) (ts : List (ℕ × List ℕ)) (events : List Event) (actor delays : ℕ) → AreSizes z → All (May z) lines
    → length lines ≤ 1000000 → fits_all z ts (start_view z lines) ≡ true → tells_all ts (start_view z lines) ≡ events
    → ((leads_all ts (start_view z lines)).hand actor).state.delays ≡ delays → RunDelays z lines (turns ts) events actor delays
unfolding run_tells
run_delays z lines ts events actor delays sizes allowed few fits told counts = record {
  tells = run_tells z lines ts events sizes allowed few fits told;
  counts = ap (λ (v : View). (v.hand actor).state.delays) (started z lines ts sizes allowed few fits).leads ∙ counts;
}

-- What a word holds after them, it holds after a run of worlds.
pub run_leaves : (z : Sizes) (lines : List Line) (ts : List (ℕ × List ℕ)) (a : Area) (index value : ℕ) → AreSizes z → All (May z) lines
    → length lines ≤ 1000000 → fits_all z ts (start_view z lines) ≡ true → (leads_all ts (start_view z lines)).words a index ≡ value
    → RunLeaves z lines (turns ts) a index value
run_leaves z lines ts a index value sizes allowed few fits holds =
    let S = started z lines ts sizes allowed few fits in
    record {
      start = S.world;
      is_start = S.is_start;
      legal = (turns_are z S.world (turns ts) S.good S.have).0;
      holds = ap (λ (v : View). v.words a index) S.leads ∙ holds;
    }

-- Where a line stands after them, it stands after a run of worlds.
pub run_stands : (z : Sizes) (lines : List Line) (ts : List (ℕ × List ℕ)) (actor : ℕ) (here : Place) → AreSizes z → All (May z) lines
    → length lines ≤ 1000000 → fits_all z ts (start_view z lines) ≡ true → ((leads_all ts (start_view z lines)).hand actor).state.place ≡ here
    → RunStands z lines (turns ts) actor here
run_stands z lines ts actor here sizes allowed few fits stands =
    let S = started z lines ts sizes allowed few fits in
    record {
      start = S.world;
      is_start = S.is_start;
      legal = (turns_are z S.world (turns ts) S.good S.have).0;
      stands = ap (λ (v : View). (v.hand actor).state.place) S.leads ∙ stands;
    }
