-- Each leaf that a walk holds is of a frame that is a page's, or kept for the walk's actor: in sections and stays, and under the lock, shared or alone.
use Rattle.std.proofs.Common.{◌≡◌, ◌⊎◌, inl, inr, ◌<◌, ℕ, List, refl, sym, subst, ap, ◌∙◌, arith}
use Rattle.std.specs.Prelude.{Bool, true, false, if◌then◌else◌, nat_lt, slice_index}
use Rattle.std.proofs.lemmas.Bool.Decides.{nat_tests}
use Rattle.core_views.specs.declared.kind.Kind.{Kind}
use Rattle.core_views.specs.declared.sizes.Sizes.{Sizes}
use Rattle.core_views.specs.declared.topics.Hold.{Hold}
use Rattle.core_views.specs.declared.topics.Hold.TheVariants.{Exclusive, Loose, Owing, Shared}
use Rattle.core_views.specs.declared.topics.Stay.{Stay}
use Rattle.core_views.specs.declared.topics.Stay.TheVariants.{Guest, Outside, Section}
use Rattle.core_views.specs.declared.topics.TableWalk.{TableWalk}
use Rattle.core_views.specs.declared.topics.Topics.{Topics}
use Rattle.core_views.specs.declared.trace.Line.{Line}
use Rattle.core_views.specs.Held.{Held}
use Rattle.core_views.specs.Sizes.{actors_of}
use Rattle.spte_words.specs.declared.area.Area.TheVariants as area
use Rattle.spte_words.specs.Areas.{place, pool_index}
use Rattle.spte_words.specs.Entries.{mapped_frame, without_write}
use Rattle.spte_words.specs.HostWords.{host_present}
use Rattle.spte_words.proofs.FixedEntries.{fixed_back}
use Rattle.part_steps.specs.PartTasks.{table_page}
use Rattle.part_steps.specs.SlotWords.{page_of}
use Rattle.part_steps.specs.StayTopics.{is_outside, may_walk}
use Rattle.part_steps.specs.Tasks.{map_of}
use Rattle.mmu_core.specs.invariant.CachedPart.{IsLeafFor}
use Rattle.mmu_core.specs.invariant.FramesPart.{IsNamed}
use Rattle.mmu_core.specs.invariant.InvalidationsPart.{IsEntryStill}
use Rattle.mmu_core.specs.invariant.Laws.{IsSound}
use Rattle.mmu_core.specs.machine.Enabled.{mmu}
use Rattle.mmu_core.specs.machine.Machine.{Legal, Step, World, hand_in, run}
use Rattle.mmu_core.specs.machine.View.{view, word_in}
use Rattle.mmu_core.specs.machine.Worlds.{IsStart}
use Rattle.mmu_core.proofs.machine.Worlds.{good_run}
use Rattle.mmu_core.proofs.pages.EntryStill.{still_leaf}
use Rattle.mmu_core.proofs.pages.LeavesOver.{leaf_for, left_leaf_for}
use Rattle.mmu_core.proofs.start.Starts.{hand_is, start_good}
use Rattle.mmu_core.proofs.words.HostFrames.{leaf_maps}
use Rattle.mmu_laws.specs.leaves.LoadedLeaves.{HasLeafTo, IsKeptFor, LoadedLeavesPart}
use Rattle.mmu_laws.proofs.leaves.LoadedLeaves.{InsidePart, OwnNamed, loaded_part}
use Rattle.mmu_laws.proofs.leaves.SharedLeaves.{SharedOwn, SharedPart, shared_kept, shared_own}
use Rattle.mmu_laws.proofs.leaves.TopicRuns.{SaidOf, said_after}
use Rattle.mmu_core.proofs.pages.Linked.{walk_linked}

-- ---- what stands in a table

none_present : host_present 0 ≡ false
unfolding host_present
none_present = refl

-- A page that is present is one of the machine.
pub present_there : (z : Sizes) (u : World Held) (page : ℕ) → host_present (word_in z u area.Host page) ≡ true → page < z.pages
present_there z u page present = by (nat_lt page z.pages) refl present
  where
    by : (b : Bool) → nat_lt page z.pages ≡ b → host_present (if b then slice_index u.words (place (map_of z) area.Host page) else 0) ≡ true
        → page < z.pages
    by true low is = grind (arith, nat_tests)
    by false high is = let none = none_present in absurd (cc (none, is))

-- In this world slots and host give the leaf.
abbrev IsLeafIn : Sizes → World Held → ℕ → ℕ → ℕ → Type 0
IsLeafIn z u level gfn leaf = IsLeafFor (word_in z u area.Pool) (word_in z u area.Host) (word_in z u area.Slots 0) level gfn leaf

-- So it is of a page's frame.
given_named : (z : Sizes) (u : World Held) (level gfn leaf frame : ℕ) → IsLeafIn z u level gfn leaf → mapped_frame level leaf gfn ≡ frame
    → IsNamed z.pages (word_in z u area.Host) frame
given_named z u level gfn leaf frame L is = (
  page_of L.slot gfn,
  present_there z u (page_of L.slot gfn) L.present,
  sym (leaf_maps (word_in z u area.Pool) (word_in z u area.Host) (word_in z u area.Slots 0) level gfn leaf L) ∙ is,
)

-- So is one that an actor's walk has loaded, and that stands in its table still, but for what a fast fault allows.
still_named : (z : Sizes) (u : World Held) (a frame : ℕ) → IsSound z u → a < actors_of z → (H : HasLeafTo frame (hand_in mmu u a).topics.walk)
    → IsEntryStill (hand_in mmu u a).topics.walk.level
    (word_in z u area.Pool (pool_index (table_page (hand_in mmu u a).topics.walk) (hand_in mmu u a).topics.walk.index)) (hand_in mmu u a).topics.walk.entry
    → IsNamed z.pages (word_in z u area.Host) frame
still_named z u a frame G lt H still =
    given_named z u walk.level H.gfn walk.entry frame (as_seen still (leaf_for z (view z u) G.topics (table_page walk) walk.level walk.prefix walk.index H.gfn
    (walk_linked z (view z u) G.topics a lt H.from) ((G.topics.held a lt).table H.from) H.loaded H.over
    (still_leaf walk.level found walk.entry still H.leaf))) H.of_frame
  where
    walk : TableWalk
    walk = (hand_in mmu u a).topics.walk

    found : ℕ
    found = word_in z u area.Pool (pool_index (table_page walk) walk.index)

    as_seen : IsEntryStill walk.level found walk.entry → IsLeafIn z u walk.level H.gfn found → IsLeafIn z u walk.level H.gfn walk.entry
    as_seen (inl same) L = subst (IsLeafIn z u walk.level H.gfn) same L
    as_seen (inr A) L =
        subst (IsLeafIn z u walk.level H.gfn) (ap without_write A.is ∙ fixed_back walk.entry A.denied)
        (left_leaf_for (word_in z u area.Pool) (word_in z u area.Host) (word_in z u area.Slots 0) walk.level H.gfn found L)

-- At the start nobody holds a table.
no_walk : (z : Sizes) (lines : List Line) (w : World Held) (i : ℕ) → IsStart z lines w → i < actors_of z → (hand_in mmu w i).topics.walk.level ≡ 0
no_walk z lines w i start lt = ap (λ (h : Held). h.topics.walk.level) (hand_is z lines w i start lt)

own_named : (z : Sizes) (u : World Held) (a : ℕ) → IsSound z u → a < actors_of z
    → OwnNamed z (word_in z u area.Pool) (word_in z u area.Host) (hand_in mmu u a).topics
own_named z u a G lt frame H found = still_named z u a frame G lt H (inl found)

-- ---- after each list of steps

loaded_in : (z : Sizes) (lines : List Line) (w : World Held) (ss : List (Step Kind)) → IsStart z lines w → Legal mmu w ss
    → InsidePart z (word_in z (run mmu w ss) area.Host) (λ i. (hand_in mmu (run mmu w ss) i).topics)
loaded_in z lines w ss start legal =
    said_after z (λ pool host set topics. InsidePart z host topics) (λ a pool host set topics. OwnNamed z pool host (topics a)) (own_named z)
    (loaded_part z) w ss (start_good z lines w start) legal
    (λ i frame lt inside H. let from = H.from in let none = no_walk z lines w i start lt in absurd (omega (arith, none, from)))

shared_in : (z : Sizes) (lines : List Line) (w : World Held) (ss : List (Step Kind)) → IsStart z lines w → Legal mmu w ss
    → SaidOf (SharedPart z) (view z (run mmu w ss))
shared_in z lines w ss start legal =
    said_after z (SharedPart z) (SharedOwn z) (shared_own z) (shared_kept z) w ss (start_good z lines w start) legal
    (λ i gfn lt H. let from = H.from in let none = no_walk z lines w i start lt in absurd (omega (arith, none, from)))

-- Each leaf that a walk holds, in a section or stay or under the lock.
pub loaded_leaves_are_kept : (z : Sizes) (lines : List Line) (w : World Held) (ss : List (Step Kind)) → IsStart z lines w → Legal mmu w ss
    → LoadedLeavesPart z (word_in z (run mmu w ss) area.Host) (λ i. (hand_in mmu (run mmu w ss) i).topics)
loaded_leaves_are_kept z lines w ss start legal i frame lt H = by t.stay t.hold refl refl
  where
    u : World Held
    u = run mmu w ss

    G : IsSound z u
    G = good_run z w ss (start_good z lines w start) legal

    t : Topics
    t = (hand_in mmu u i).topics

    none_held : may_walk t.stay t.hold ≡ false → ⊥
    none_held not_ = let none = (G.topics.held i lt).no_table not_ in let from = H.from in omega (arith, none, from)

    by : (stay : Stay) (hold : Hold) → t.stay ≡ stay → t.hold ≡ hold
        → IsNamed z.pages (word_in z u area.Host) frame ⊎ IsKeptFor (actors_of z) (λ j. (hand_in mmu u j).topics) i frame
    by Guest hold is holds = loaded_in z lines w ss start legal i frame lt (ap is_outside is) H
    by Section hold is holds = loaded_in z lines w ss start legal i frame lt (ap is_outside is) H
    by Outside Exclusive is holds = inl (still_named z u i frame G lt H (G.topics.loaded i lt holds is H.from H.loaded))
    by Outside Shared is holds =
        let shared = shared_in z lines w ss start legal i H.gfn lt
        (record { shares = holds; outside = is; from = H.from; loaded = H.loaded; leaf = H.leaf; over = H.over }) in
        inl (given_named z u t.walk.level H.gfn t.walk.entry frame shared.given H.of_frame)
    by Outside Loose is holds = absurd (none_held (ap (λ (s : Stay). may_walk s t.hold) is ∙ ap (may_walk Outside) holds))
    by Outside (Owing word) is holds = absurd (none_held (ap (λ (s : Stay). may_walk s t.hold) is ∙ ap (may_walk Outside) holds))
