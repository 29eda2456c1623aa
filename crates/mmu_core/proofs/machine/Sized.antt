-- The sizes of a machine stay as they are in each hand, and the words and hands are as many as the sizes say.
use Rattle.std.proofs.Common.{◌≡◌, ◌<◌, ◌⊎◌, inl, inr, ℕ, zero, suc, List, [], ◌∷◌, All, length, length-append, refl, ◌∙◌, ap, subst, sym, arith}
use Rattle.std.proofs.lemmas.List.Elements.{All-append, All-cons, All-get_or, All-nil, All-set}
use Rattle.core_views.specs.declared.kind.Kind.{Kind}
use Rattle.core_views.specs.declared.place.AccessPlace.{AccessPlace}
use Rattle.core_views.specs.declared.place.AccessPlace.TheVariants.{Enter}
use Rattle.core_views.specs.declared.place.Place.{Place}
use Rattle.core_views.specs.declared.place.Place.TheVariants as place
use Rattle.core_views.specs.declared.sizes.Sizes.{Sizes}
use Rattle.core_views.specs.declared.trace.Command.{Command}
use Rattle.core_views.specs.declared.trace.Command.TheVariants.{Access}
use Rattle.core_views.specs.declared.trace.Line.{Line}
use Rattle.core_views.specs.declared.trace.Op.{Op}
use Rattle.core_views.specs.Held.{Held, first_held}
use Rattle.core_views.specs.Sizes.{actor_at, actors_of}
use Rattle.core_views.specs.Whole.{lines_of}
use Rattle.std.specs.Prelude.{Bool, true, false}
use Rattle.spte_words.specs.declared.area.Area.{Area}
use Rattle.spte_words.specs.Areas.{size_of, total}
use Rattle.spte_words.proofs.Places.{place_below}
use Rattle.part_steps.specs.declared.task.Task.{Task}
use Rattle.part_steps.specs.PartTasks.{own_index, part_task}
use Rattle.mmu_core.proofs.words.PartIndex.{index_same}
use Rattle.mmu_core.specs.forms.access.AccessSteps.{access_loads}
use Rattle.mmu_core.specs.machine.Enabled.{Enabled, IsNext, IsPartStep, mmu}
use Rattle.mmu_core.specs.machine.Machine.{World, Step, effect, run, hand_in, May, Legal, Leads}
use Rattle.mmu_core.specs.machine.Steps.{has_line, line_at, next, next_by, place_at}
use Rattle.mmu_core.specs.lines.Forms.{loads_at}
use Rattle.part_steps.specs.Tasks.{map_of}
use Rattle.mmu_core.specs.machine.Worlds.{IsStart, Reachable, start_hands}
use Rattle.mmu_core.proofs.machine.Extend.{as_many_hands, as_many_words}

access_keeps_sizes : (p : AccessPlace) (h : Held) (gfn : ℕ) (op : Op) (v : ℕ) → (access_loads p h gfn op v).sizes ≡ h.state.sizes
access_keeps_sizes (Enter again) h gfn op v = refl
access_keeps_sizes _ h gfn op v = refl

pub loads_keep_sizes : (p : Place) (command : Command) (h : Held) (v : ℕ) → (loads_at p command h v).sizes ≡ h.state.sizes
loads_keep_sizes (place.Access p) (Access gfn word op) h v = access_keeps_sizes p h gfn op v
loads_keep_sizes _ _ h v = refl

-- A step leaves the sizes in its hand.
pub next_keeps_sizes : (h : Held) (k : Kind) (v : ℕ) → (next h k v).state.sizes ≡ h.state.sizes
unfolding next
next_keeps_sizes h k v = by (has_line h)
  where
    by : (b : Bool) → (next_by b h k v).state.sizes ≡ h.state.sizes
    by true = loads_keep_sizes (place_at h.state.place h) (line_at h.state.place h).command h v
    by false = refl

-- The hand is of a machine of these sizes.
abbrev HasSizes : Sizes → Held → Type 0
HasSizes z h = h.state.sizes ≡ z

effect_keeps_sizes : (z : Sizes) (w : World Held) (s : Step Kind) → May mmu w s → All (HasSizes z) w.hands → All (HasSizes z) (effect mmu w s).hands
unfolding effect
effect_keeps_sizes z w s may all =
    All-set (HasSizes z) w.hands s.actor _
    (next_keeps_sizes (hand_in mmu w s.actor) s.kind _ ∙ All-get_or (HasSizes z) w.hands s.actor mmu.nobody may.there all) all

run_keeps_sizes : (z : Sizes) (w : World Held) (ss : List (Step Kind)) → Legal mmu w ss → All (HasSizes z) w.hands → All (HasSizes z) (run mmu w ss).hands
run_keeps_sizes z w [] legal all = all
run_keeps_sizes z w (s ∷ ss) legal all = run_keeps_sizes z (effect mmu w s) ss legal.1 (effect_keeps_sizes z w s legal.0 all)

-- the hand of the actor at a place, at the start
abbrev hand_at : Sizes → List Line → ℕ → Held
hand_at z lines i = first_held z (actor_at z i) (lines_of (actor_at z i) lines)

start_has_sizes : (z : Sizes) (lines : List Line) (n : ℕ) → All (HasSizes z) (start_hands z lines n)
start_has_sizes z lines zero = All-nil (HasSizes z)
start_has_sizes z lines (suc n) =
    All-append (HasSizes z) (start_hands z lines n) _ (start_has_sizes z lines n) (All-cons (HasSizes z) (hand_at z lines n) [] refl (All-nil (HasSizes z)))

-- There is a hand for each actor at the start.
pub count_at_start : (z : Sizes) (lines : List Line) (n : ℕ) → length (start_hands z lines n) ≡ n
count_at_start z lines zero = refl
count_at_start z lines (suc n) = omega (arith, length-append (start_hands z lines n) (hand_at z lines n ∷ []), count_at_start z lines n)

-- A world reached from a start has a hand for each actor, and the words of its sizes.
pub as_many_as_actors : (z : Sizes) (lines : List Line) (w t : World Held) → IsStart z lines w → Leads mmu w t → length t.hands ≡ actors_of z
as_many_as_actors z lines w t start leads = as_many_hands mmu w t leads ∙ (ap length start.hands ∙ count_at_start z lines (actors_of z))

pub as_many_as_mapped : (z : Sizes) (lines : List Line) (w t : World Held) → IsStart z lines w → Leads mmu w t → length t.words ≡ total (map_of z)
as_many_as_mapped z lines w t start leads = as_many_words mmu w t leads ∙ start.words.count

-- Each hand of a reachable world has the sizes of the start.
pub reached_has_sizes : (w : World Held) (r : Reachable w) (actor : ℕ) → actor < length w.hands → (hand_in mmu w actor).state.sizes ≡ r.sizes
reached_has_sizes w r actor there =
    let start : All (HasSizes r.sizes) r.start.hands =
    subst (All (HasSizes r.sizes)) (sym r.is_start.hands) (start_has_sizes r.sizes r.lines (actors_of r.sizes)) in
    let all : All (HasSizes r.sizes) w.hands =
    subst (λ (x : World Held). All (HasSizes r.sizes) x.hands) r.leads.ends (run_keeps_sizes r.sizes r.start r.leads.steps r.leads.legal start) in
    All-get_or (HasSizes r.sizes) w.hands actor mmu.nobody there all

-- A step of a part is at one of the words.
part_inside : (h : Held) (k : Kind) → IsPartStep h k → k.word < total (map_of h.state.sizes)
part_inside h k N =
    let t : Task = part_task N.step (own_index h) h.topics N.note in
    let at = index_same N.step (own_index h) h.topics N.note in
    let within : t.index < size_of (map_of h.state.sizes) t.area =
    subst (λ (b : Area). t.index < size_of (map_of h.state.sizes) b) (sym at.1)
    (subst (λ i. i < size_of (map_of h.state.sizes) (part_task N.step (own_index h) h.topics 0).area) (sym at.0) N.within) in
    subst (λ (x : Kind). x.word < total (map_of h.state.sizes)) (sym N.is) (place_below (map_of h.state.sizes) t.area t.index within)

-- A step that a reachable world's hand allows is at one of its words.
pub enabled_inside : (w : World Held) (r : Reachable w) (actor : ℕ) (k : Kind) → actor < length w.hands → Enabled (hand_in mmu w actor) k
    → k.word < length w.words
unfolding Enabled
enabled_inside w r actor k there enabled =
    let size = ap (λ z. total (map_of z)) (reached_has_sizes w r actor there) in
    let count = as_many_as_mapped r.sizes r.lines r.start w r.is_start r.leads in
    by enabled size count
  where
    by : IsNext (hand_in mmu w actor) k ⊎ IsPartStep (hand_in mmu w actor) k
        → total (map_of (hand_in mmu w actor).state.sizes) ≡ total (map_of r.sizes) → length w.words ≡ total (map_of r.sizes) → k.word < length w.words
    by (inl e) size count = omega (arith, e.inside, size, count)
    by (inr e) size count = let inside = part_inside (hand_in mmu w actor) k e in omega (arith, inside, size, count)
