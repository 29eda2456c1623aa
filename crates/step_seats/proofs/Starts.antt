-- The machine that the words and the hands of a start are.
use Rattle.std.proofs.Common.{refl, zero, suc, slice_index_or, All, ◌≡◌, ◌<◌, ◌≤◌, ◌++◌, ◌⊎◌, inl, inr, ℕ, List, [], ◌∷◌, length}
use Rattle.std.proofs.Common.{◌∙◌, ap, sym, subst, arith}
use Rattle.std.proofs.Math.ListN.{get_or-append, length-map}
use Rattle.std.proofs.Math.Seq.{get_or-append_seam}
use Rattle.std.proofs.lemmas.Bool.{cases_lt}
use Rattle.core_views.specs.declared.sizes.Sizes.{Sizes}
use Rattle.core_views.specs.declared.trace.Line.{Line}
use Rattle.core_views.specs.declared.trace.Trace.{Trace}
use Rattle.core_views.specs.Held.{Held, Handful, first_held}
use Rattle.core_views.specs.declared.place.Place.TheVariants.{Between}
use Rattle.mmu_core.specs.lines.Rests.{IsUnderWay}
use Rattle.core_views.specs.Sizes.{AreSizes, actor_at, actors_of, sizes_of}
use Rattle.core_views.specs.Traces.{IsCommandFor, IsTrace}
use Rattle.core_views.specs.Whole.{lines_of}
use Rattle.core_views.proofs.HeaderSizes.{header_sizes}
use Rattle.mmu_core.specs.machine.Enabled.{mmu}
use Rattle.mmu_core.specs.machine.Worlds.{AreStartWords, IsStart, start_hands}
use Rattle.mmu_core.proofs.machine.Extend.{stays}
use Rattle.mmu_core.proofs.machine.Sized.{count_at_start}
use Rattle.mmu_core.specs.machine.Steps.{nobody}
use Rattle.step_seats.proofs.Worlds.{core_at}
use Rattle.step_seats.specs.Machines.{IsMachine}
use Rattle.step_seats.specs.Moves.{EachHasRoom, core_of, cores_of, handful_in, world_of}

hand_among : (z : Sizes) (lines : List Line) (n i : ℕ) (d : Held) → i < n
    → slice_index_or (start_hands z lines n) i d ≡ first_held z (actor_at z i) (lines_of (actor_at z i) lines)
hand_among z lines zero i d lt = absurd (omega arith)
hand_among z lines (suc n) i d lt = order (λ below. hand_among z lines n i d below) (cases_lt i n)
  where
    before : List Held
    before = start_hands z lines n

    hand_at : ℕ → Held
    hand_at k = first_held z (actor_at z k) (lines_of (actor_at z k) lines)

    last : i ≡ length before → slice_index_or (before ++ hand_at n ∷ []) i d ≡ hand_at n
    last e = ap (λ k. slice_index_or (before ++ hand_at n ∷ []) k d) e ∙ get_or-append_seam before (hand_at n) [] d

    order : (i < n → slice_index_or before i d ≡ hand_at i) → (i < n) ⊎ (n ≤ i) → slice_index_or (before ++ hand_at n ∷ []) i d ≡ hand_at i
    order so_far (inl below) = get_or-append before (hand_at n ∷ []) d i (omega (arith, below, count_at_start z lines n)) ∙ so_far below
    order so_far (inr above) =
        let same : i ≡ n = omega (arith, lt, above) in
        last (omega (arith, same, count_at_start z lines n)) ∙ ap hand_at (sym same)

-- At the start each actor holds its lines, and nothing else.
pub hand_at_start : (z : Sizes) (lines : List Line) (words : List ℕ) (hands : List Handful) (i : ℕ) → IsStart z lines (world_of words hands)
    → i < actors_of z → core_of (handful_in hands i) ≡ first_held z (actor_at z i) (lines_of (actor_at z i) lines)
hand_at_start z lines words hands i start there =
    core_at words hands i ∙ (ap (λ (x : List Held). slice_index_or x i nobody) start.hands ∙ hand_among z lines (actors_of z) i nobody there)

-- At the start no line is under way.
none_under_way : (z : Sizes) (lines : List Line) (words : List ℕ) (hands : List Handful) → IsStart z lines (world_of words hands) → EachHasRoom hands
none_under_way z lines words hands start = λ i there.
    let count : length hands ≡ actors_of z =
    sym (length-map hands core_of) ∙ ap (λ (hs : List Held). length hs) start.hands ∙ count_at_start z lines (actors_of z) in
    let idle : (handful_in hands i).core.state.place ≡ Between =
    ap (λ (h : Held). h.state.place) (hand_at_start z lines words hands i start (omega (arith, count, there))) in
    λ under. absurd (subst IsUnderWay idle under)

-- The words and hands of a trace's start are a start with its lines.
pub start_of : (t : Trace) (z : Sizes) (words : List ℕ) (hands : List Handful) → IsTrace t → z ≡ sizes_of t.header → AreStartWords z words
    → cores_of hands ≡ start_hands z t.lines (actors_of z) → IsStart z t.lines (world_of words hands)
start_of t z words hands trace sizes made dealt = record {
  sizes = subst AreSizes (sym sizes) (header_sizes t.header trace.header);
  allowed = subst (λ x. All (λ line. IsCommandFor x line.actor line.command) t.lines) (sym sizes) trace.lines;
  few = trace.few;
  words = made;
  hands = dealt;
}

-- The words and hands of a trace's start are a machine.
pub machine_at_start : (t : Trace) (z : Sizes) (words : List ℕ) (hands : List Handful) → IsTrace t → z ≡ sizes_of t.header → AreStartWords z words
    → cores_of hands ≡ start_hands z t.lines (actors_of z) → IsMachine z words hands
machine_at_start t z words hands trace sizes made dealt = record {
  reached = record { sizes = z; lines = t.lines; start = world_of words hands; is_start = starts; leads = stays mmu (world_of words hands) };
  sizes = refl;
  room = none_under_way z t.lines words hands starts;
}
  where
    starts : IsStart z t.lines (world_of words hands)
    starts = start_of t z words hands trace sizes made dealt
