-- What the step of a part leaves of a word that its actor knows, and that it begins and ends no section.
use Rattle.std.proofs.Common.{◌≡◌, ◌≢◌, ◌⊎◌, inl, inr, ◌<◌, ◌≤◌, ◌+◌, ◌*◌, ◌^◌, ℕ, refl, sym, subst, ap, ◌∙◌, arith}
use Rattle.std.specs.Prelude.{◌-◌, Some}
use Rattle.core_views.specs.declared.kind.StepKind.TheVariants as kind
use Rattle.core_views.specs.declared.sizes.Sizes.{Sizes}
use Rattle.core_views.specs.declared.topics.Topics.{Topics}
use Rattle.core_views.specs.Held.{Held}
use Rattle.core_views.specs.Kinds.{after, answer, code_of}
use Rattle.spte_words.specs.declared.area.Area.{Area}
use Rattle.spte_words.specs.declared.spte_kind.SpteKind.TheVariants as entry_kind
use Rattle.spte_words.specs.Areas.{place as place_of, size_of}
use Rattle.spte_words.specs.Entries.{kind_of}
use Rattle.spte_words.proofs.Places.{places_apart}
use Rattle.spte_words.proofs.ReadsEntries.{kind_of_absent, kind_of_table}
use Rattle.part_steps.specs.declared.part_step.PartStep.{PartStep}
use Rattle.part_steps.specs.declared.part_step.PartStep.TheVariants as part
use Rattle.part_steps.specs.PartTasks.{own_index, part_kind, part_task}
use Rattle.part_steps.specs.PartSteps.{PartNeeds}
use Rattle.part_steps.specs.PartBounds.{PartRests}
use Rattle.part_steps.specs.Tasks.{map_of}
use Rattle.mmu_core.specs.invariant.TreePart.{EntryPart, Position, TreePart, Use, at, stands}
use Rattle.mmu_core.proofs.pages.TreePlaces.{link_stands}
use Rattle.mmu_core.proofs.words.PartFits.{part_within_by}

-- The step begins no section and ends none.
abbrev pub IsAmid : PartStep → Type 0
IsAmid part.Begin = ⊥
IsAmid part.End = ⊥
IsAmid _ = Unit {0}

abbrev IsNoEdge : ℕ → Type 0
IsNoEdge code = (code ≢ code_of kind.Begin) × (code ≢ code_of kind.End)

pub amid : (step : PartStep) (own : ℕ) (t : Topics) (note : ℕ) → IsAmid step → IsNoEdge (code_of (part_task step own t note).kind)
amid part.Begin own t note is = absurd is
amid part.End own t note is = absurd is
amid _ own t note is = (λ e. absurd (omega (arith, e)), λ e. absurd (omega (arith, e)))

-- The step loads its word: it leaves what it finds, and answers it.
abbrev pub IsLoad : PartStep → Type 0
IsLoad part.Pause = Unit {0}
IsLoad (part.Map word) = Unit {0}
IsLoad (part.FrameMap word) = Unit {0}
IsLoad part.Slots = Unit {0}
IsLoad part.Slot = Unit {0}
IsLoad part.Seq = Unit {0}
IsLoad part.Count = Unit {0}
IsLoad part.RangeStart = Unit {0}
IsLoad part.RangeEnd = Unit {0}
IsLoad part.Root = Unit {0}
IsLoad (part.Walk gfn) = Unit {0}
IsLoad (part.Host page) = Unit {0}
IsLoad (part.Copy index) = Unit {0}
IsLoad (part.Watch index) = Unit {0}
IsLoad (part.Await index) = Unit {0}
IsLoad _ = ⊥

pub load_leaves : (step : PartStep) (h : Held) (note n : ℕ) → IsLoad step → (after (part_kind h step note) n ≡ n) × (answer (part_kind h step note) n ≡ n)
unfolding after answer
load_leaves part.Pause h note n is = (refl, refl)
load_leaves (part.Await index) h note n is = (refl, refl)
load_leaves (part.Map word) h note n is = (refl, refl)
load_leaves (part.FrameMap word) h note n is = (refl, refl)
load_leaves part.Slots h note n is = (refl, refl)
load_leaves part.Slot h note n is = (refl, refl)
load_leaves part.Seq h note n is = (refl, refl)
load_leaves part.Count h note n is = (refl, refl)
load_leaves part.RangeStart h note n is = (refl, refl)
load_leaves part.RangeEnd h note n is = (refl, refl)
load_leaves part.Root h note n is = (refl, refl)
load_leaves (part.Walk gfn) h note n is = (refl, refl)
load_leaves (part.Host page) h note n is = (refl, refl)
load_leaves (part.Copy index) h note n is = (refl, refl)
load_leaves (part.Watch index) h note n is = (refl, refl)
load_leaves _ h note n is = absurd is

-- An exchange of an entry or of a host word, a try to share the lock or to have it alone, and a try for a page or a frame answer what they find.
abbrev pub IsExchange : PartStep → Type 0
IsExchange part.Share = Unit {0}
IsExchange part.Exclude = Unit {0}
IsExchange part.Claim = Unit {0}
IsExchange part.Frame = Unit {0}
IsExchange part.Bring = Unit {0}
IsExchange (part.Link gfn) = Unit {0}
IsExchange (part.Leaf gfn write) = Unit {0}
IsExchange (part.Fix gfn) = Unit {0}
IsExchange _ = ⊥

pub exchange_answers : (step : PartStep) (h : Held) (note n : ℕ) → IsExchange step → answer (part_kind h step note) n ≡ n
unfolding answer
exchange_answers part.Share h note n is = refl
exchange_answers part.Exclude h note n is = refl
exchange_answers part.Claim h note n is = refl
exchange_answers part.Frame h note n is = refl
exchange_answers part.Bring h note n is = refl
exchange_answers (part.Link gfn) h note n is = refl
exchange_answers (part.Leaf gfn write) h note n is = refl
exchange_answers (part.Fix gfn) h note n is = refl
exchange_answers _ h note n is = absurd is

-- The step leaves word i of the area: it is a load, or on another word.
abbrev pub Spares : Area → ℕ → Held → PartStep → ℕ → Type 0
Spares a i h step note = IsLoad step ⊎ ((part_task step (own_index h) h.topics note).area ≡ a → (part_task step (own_index h) h.topics note).index ≢ i)

pub spared : (z : Sizes) (a : Area) (i : ℕ) (h : Held) (step : PartStep) (note n : ℕ) → h.state.sizes ≡ z → i < size_of (map_of z) a
    → PartNeeds step h → PartRests h → Spares a i h step note
    → (part_kind h step note).word ≡ place_of (map_of z) a i → after (part_kind h step note) n ≡ n
spared z a i h step note n same inside N R (inl loads) at = (load_leaves step h note n loads).0
spared z a i h step note n same inside N R (inr apart) at =
    let P =
    places_apart (map_of h.state.sizes) (part_task step (own_index h) h.topics note).area a (part_task step (own_index h) h.topics note).index i
    (part_within_by step h note N R)
    (subst (λ y. i < size_of (map_of y) a) (sym same) inside) (at ∙ ap (λ y. place_of (map_of y) a i) (sym same)) in
    absurd (apart P.0 P.1)

-- No entry of a table is frozen.
pub entry_unfrozen : {pages root : ℕ} {role pool : ℕ → ℕ} {up : ℕ → Use} {spot : ℕ → Position} (T : TreePart pages root role pool up spot)
    (k : ℕ) (p : Position) (j w : ℕ) → pages ≤ 2 ^ 32 → stands up spot k ≡ Some p → EntryPart up k p j w
    → kind_of p.level w ≢ entry_kind.Frozen
entry_unfrozen T k p j w small at_k (inl e) =
    let none : kind_of p.level w ≡ entry_kind.Absent = ap (kind_of p.level) e ∙ kind_of_absent p.level in λ frozen. cc (none, frozen)
entry_unfrozen T k p j w small at_k (inr (inl L)) =
    let there = T.there L.page (at (p.level - 1) (p.prefix * 512 + j)) (link_stands T k p j w at_k L) in
    let links : kind_of p.level w ≡ entry_kind.Table L.page =
    ap (kind_of p.level) L.is ∙ kind_of_table p.level L.page L.upper (omega (arith, small, there.0)) in
    λ frozen. cc (links, frozen)
entry_unfrozen T k p j w small at_k (inr (inr leaf)) = λ frozen. cc (leaf, frozen)
