-- The next line's hand is ready: nothing is under way in it, and the line is its next one.
use Rattle.std.proofs.Common.{◌≡◌, ◌<◌, ℕ, List, length, get_or, sym, ap}
use Rattle.std.proofs.Common.{subst, ◌∙◌}
use Rattle.std.proofs.Math.ListN.{length-map}
use Rattle.std.proofs.lemmas.Option.{slice_get_within}
use Rattle.std.specs.Prelude.{Some, slice_get}
use Rattle.core_views.specs.declared.place.Place.TheVariants.{Between}
use Rattle.core_views.specs.declared.sizes.Sizes.{Sizes}
use Rattle.core_views.specs.declared.trace.Line.{Line}
use Rattle.core_views.specs.Flat.{no_line}
use Rattle.core_views.specs.Held.{Held}
use Rattle.core_views.specs.Sizes.{actor_at, actors_of, index_of}
use Rattle.core_views.specs.Traces.{IsCommandFor}
use Rattle.core_views.specs.Whole.{lines_of}
use Rattle.mmu_core.specs.machine.Enabled.{mmu}
use Rattle.mmu_core.specs.invariant.Laws.{IsSound}
use Rattle.mmu_core.specs.alone.LineAlone.{AllRest, LineAlone}
use Rattle.mmu_core.specs.machine.Machine.{World, hand_in}
use Rattle.mmu_core.specs.machine.Worlds.{IsStart}
use Rattle.mmu_laws.proofs.alone.AloneRuns.{begins_alone}
use Rattle.mmu_core.proofs.start.Starts.{start_good}
use Rattle.step_seats.specs.Machines.{Machine, world_in}
use Rattle.step_seats.specs.Moves.{core_of, handful_in}
use Rattle.step_seats.proofs.Worlds.{core_at}
use Rattle.turn_loops.proofs.FileOrder.{maker_is, maker_there, next_is}
use Rattle.turn_loops.proofs.LinesRun.{AreBehind, IsBetween, sound_between}

-- The next line's hand: it is the machine's, nothing is under way in it, and the line is its next one.
pub record IsReady (z : Sizes) (line : Line) (w : World Held) : Type 0 where
  pub there : index_of z line.actor < actors_of z
  pub idle : (hand_in mmu w (index_of z line.actor)).state.place ≡ Between
  pub next : slice_get (hand_in mmu w (index_of z line.actor)).lines (length (hand_in mmu w (index_of z line.actor)).answers) ≡ Some line
  pub own : line.actor ≡ (hand_in mmu w (index_of z line.actor)).state.actor

pub is_ready : (z : Sizes) (lines : List Line) (i : ℕ) (w : World Held) → i < length lines
    → IsCommandFor z (get_or lines i no_line).actor (get_or lines i no_line).command → AreBehind z lines i w → IsReady z (get_or lines i no_line) w
is_ready z lines i w lt may behind =
    let line : Line = get_or lines i no_line in
    let there = maker_there z line.actor line.command may in
    let is = maker_is z line.actor line.command may in
    let B = behind (index_of z line.actor) there in
    record {
      there = there;
      idle = B.between;
      next = subst (λ xs. slice_get xs (length (hand_in mmu w (index_of z line.actor)).answers) ≡ Some line) (sym B.lines_are)
          (subst (λ n. slice_get (lines_of (actor_at z (index_of z line.actor)) lines) n ≡ Some line) (sym B.answered)
          (next_is (actor_at z (index_of z line.actor)) lines i no_line lt is));
      own = sym is ∙ sym B.whose;
    }

-- the same of the machine's own lists; and the line is alone in it
pub record IsReadyOn (m : Machine) (line : Line) : Type 0 where
  pub there : index_of m.sizes line.actor < length m.hands
  pub idle : (handful_in m.hands (index_of m.sizes line.actor)).core.state.place ≡ Between
  pub next : slice_get (handful_in m.hands (index_of m.sizes line.actor)).core.lines (length (handful_in m.hands (index_of m.sizes line.actor)).core.answers)
      ≡ Some line
  pub own : line.actor ≡ (handful_in m.hands (index_of m.sizes line.actor)).core.state.actor
  pub alone : LineAlone m.sizes (world_in m) (index_of m.sizes line.actor)

pub hands_at_start : (z : Sizes) (lines : List Line) (m : Machine) → IsStart z lines (world_in m) → length m.hands ≡ actors_of z
hands_at_start z lines m start = sym (length-map m.hands core_of) ∙ (start_good z lines (world_in m) start).hands

pub ready_on : (z : Sizes) (lines : List Line) (i : ℕ) (m : Machine) → m.sizes ≡ z → length m.hands ≡ actors_of z → i < length lines
    → IsCommandFor z (get_or lines i no_line).actor (get_or lines i no_line).command → AreBehind z lines i (world_in m) → IsSound z (world_in m)
    → AllRest (world_in m) → IsReadyOn m (get_or lines i no_line)
ready_on z lines i m same count lt may behind sound rest =
    let line : Line = get_or lines i no_line in
    let R = is_ready z lines i (world_in m) lt may behind in
    let place : index_of z line.actor ≡ index_of m.sizes line.actor = ap (λ (y : Sizes). index_of y line.actor) (sym same) in
    let core : hand_in mmu (world_in m) (index_of z line.actor) ≡ (handful_in m.hands (index_of m.sizes line.actor)).core =
    sym (core_at m.words m.hands (index_of z line.actor)) ∙ ap (λ (n : ℕ). (handful_in m.hands n).core) place in
    record {
      there = subst (λ n. n < length m.hands) place (subst (λ n. index_of z line.actor < n) (sym count) R.there);
      idle = subst (λ (h : Held). h.state.place ≡ Between) core R.idle;
      next = subst (λ (h : Held). slice_get h.lines (length h.answers) ≡ Some line) core R.next;
      own = subst (λ (h : Held). line.actor ≡ h.state.actor) core R.own;
      alone =
          subst (λ y. LineAlone y (world_in m) (index_of y line.actor)) (sym same)
          (begins_alone z (world_in m) (index_of z line.actor) sound (λ j there apart. rest j there) R.there
          (slice_get_within (hand_in mmu (world_in m) (index_of z line.actor)).lines (length (hand_in mmu (world_in m) (index_of z line.actor)).answers) line
          R.next) R.idle).0;
    }

-- the same where the first lines have run since the machine was at its start
pub ready_between : (z : Sizes) (lines : List Line) (i : ℕ) (first here : Machine) (printed : List ℕ) → IsStart z lines (world_in first) → here.sizes ≡ z
    → length here.hands ≡ length first.hands → i < length lines → IsBetween z lines i (world_in first) (world_in here) printed
    → IsReadyOn here (get_or lines i no_line)
ready_between z lines i first here printed start same count lt B =
    ready_on z lines i here same (count ∙ hands_at_start z lines first start) lt (start.allowed i no_line lt) B.behind
    (sound_between z lines i (world_in first) (world_in here) printed start B) B.rest
