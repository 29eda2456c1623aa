-- What holds before any step, and of a hand after its last line.
use Rattle.std.proofs.Common.{◌≡◌, inl, ◌<◌, ◌≤◌, ℕ, List, [], ◌∷◌, length, refl, ap, arith}
use Rattle.std.proofs.Math.ListN.{length-map}
use Rattle.std.proofs.lemmas.Bool.Decides.{nat_tests}
use Rattle.std.proofs.lemmas.List.{length-take}
use Rattle.std.specs.Prelude.{false, take}
use Rattle.core_views.specs.declared.answer.AnsweredLine.{AnsweredLine}
use Rattle.core_views.specs.declared.kind.Kind.{Kind}
use Rattle.core_views.specs.declared.sizes.Sizes.{Sizes}
use Rattle.core_views.specs.declared.trace.Item.{Item}
use Rattle.core_views.specs.declared.trace.Line.{Line}
use Rattle.core_views.specs.declared.trace.Until.{Until}
use Rattle.core_views.specs.declared.trace.Until.TheVariants.{Turns}
use Rattle.core_views.specs.Held.{Held}
use Rattle.core_views.specs.Sizes.{actors_of}
use Rattle.mmu_core.specs.machine.Enabled.{mmu}
use Rattle.mmu_core.specs.machine.Machine.{Legal, Step, World, hand_in, run}
use Rattle.mmu_core.specs.machine.Steps.{has_line}
use Rattle.mmu_core.specs.machine.Worlds.{IsStart}
use Rattle.mmu_laws.proofs.flat.EveryAnswer.{start_follows}
use Rattle.turn_loops.specs.Turning.{ItemFits, RunsBySoFar, RunsItemsSoFar}
use Rattle.turn_loops.specs.Weaves.{RunsSomeRounds}

none_within : (until : Until) → ItemFits until []
none_within (Turns count) = omega arith
none_within _ = tt

-- An item of which no turn was made yet.
pub no_turns : (until : Until) (actor : ℕ) (w : World Held) → RunsBySoFar until actor w []
no_turns until actor w = record { turns = tt; none_ends = tt; within = none_within until }

pub none_so_far : (z : Sizes) (items : List Item) (w : World Held) → RunsItemsSoFar z items w [] []
none_so_far z [] w = (refl, refl)
none_so_far z (item ∷ items) w = inl (refl, refl)

pub no_rounds : (z : Sizes) (limit : ℕ) (w : World Held) → RunsSomeRounds z limit w []
no_rounds z limit w = record { next = 0; rounds = refl; few = omega arith }

-- A hand with no line left has answered all of its lines.
pub few_answers : (z : Sizes) (lines : List Line) (w : World Held) (ss : List (Step Kind)) (i : ℕ) → IsStart z lines w → Legal mmu w ss → i < actors_of z
    → length (hand_in mmu (run mmu w ss) i).answers ≤ length (hand_in mmu (run mmu w ss) i).lines
few_answers z lines w ss i start legal lt =
    let g : Held = hand_in mmu (run mmu w ss) i in
    let same = ap (λ (ns : List ℕ). length ns) ((start_follows z lines w ss i start legal lt).numbers refl) in
    let a = length-map g.answers (λ (x : AnsweredLine). x.number) in
    let b = length-map (take (length g.answers) g.lines) (λ (l : Line). l.number) in
    let c = length-take (length g.answers) g.lines in
    omega (arith, same, a, b, c)

pub no_line_all : (h : Held) → length h.answers ≤ length h.lines → has_line h ≡ false → length h.answers ≡ length h.lines
no_line_all h few none = let ge : length h.lines ≤ length h.answers = grind (arith, nat_tests) in omega (arith, few, ge)
