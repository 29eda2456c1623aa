-- After every list of steps each table is the root, or for a span that some slot line of the trace wants. So it was as the table was linked, since
-- the fault's slot was live then; and a table stays where it is.
use Rattle.std.proofs.Math.Nat.{div-div-eq-div-mul}
use Rattle.std.proofs.Common.{◌≡◌, ◌⊎◌, inl, inr, ◌+◌, ◌-◌, ◌*◌, ◌/◌, ◌%◌, ◌≤◌, ℕ, List, [], ◌∷◌, refl, sym, subst, ap, ◌∙◌, arith}
use Rattle.std.proofs.lemmas.Bool.Decides.{nat_tests}
use Rattle.std.specs.Prelude.{Option, Some}
use Rattle.core_views.specs.declared.actor.Actor.{Actor}
use Rattle.core_views.specs.declared.actor.Actor.TheVariants.{Manager}
use Rattle.core_views.specs.declared.kind.Kind.{Kind}
use Rattle.core_views.specs.declared.sizes.Sizes.{Sizes}
use Rattle.core_views.specs.declared.topics.Topics.{Topics}
use Rattle.core_views.specs.declared.trace.Header.{Header}
use Rattle.core_views.specs.declared.trace.Line.{Line}
use Rattle.core_views.specs.declared.trace.Op.TheVariants.{Read}
use Rattle.core_views.specs.Held.{Held}
use Rattle.core_views.specs.Sizes.{actor_at, sizes_of}
use Rattle.core_views.specs.Whole.{lines_of}
use Rattle.spte_words.specs.declared.area.Area.{Area}
use Rattle.spte_words.specs.declared.area.Area.TheVariants as area
use Rattle.spte_words.specs.declared.spte_kind.SpteKind.TheVariants as entry_kind
use Rattle.spte_words.specs.Areas.{pool_index}
use Rattle.spte_words.specs.Entries.{absent_word, level_span, kind_of}
use Rattle.spte_words.proofs.ReadsEntries.{table_not_absent}
use Rattle.spte_words.proofs.Spans.{span_above}
use Rattle.part_steps.specs.declared.part_step.PartStep.{PartStep}
use Rattle.part_steps.specs.declared.part_step.PartStep.TheVariants as part
use Rattle.part_steps.specs.declared.task.Task.{Task}
use Rattle.part_steps.specs.PartHoldings.{MayEnter}
use Rattle.mmu_core.specs.invariant.Laws.{IsSound}
use Rattle.mmu_core.specs.invariant.TopicsInvariant.{TopicsInvariant}
use Rattle.mmu_core.specs.invariant.TreePart.{Position, TreePart, Use, stands}
use Rattle.mmu_core.specs.machine.Enabled.{mmu}
use Rattle.mmu_core.specs.machine.Machine.{Legal, May, Step, World, effect, hand_in, run}
use Rattle.mmu_core.specs.machine.Steps.{line_at, place_at}
use Rattle.mmu_core.specs.machine.View.{View, part_stepped, view, word_in, words_after}
use Rattle.mmu_core.specs.machine.Worlds.{IsStart}
use Rattle.mmu_core.proofs.lines.StepIn.{StepIn, step_in, Makes, Touches}
use Rattle.mmu_core.proofs.machine.PartStepping.{IsPart}
use Rattle.mmu_core.proofs.machine.Worlds.{Takes, TakesPart, are_small, good_step, takes}
use Rattle.mmu_core.proofs.held.FreshFrames.{found_live}
use Rattle.mmu_core.proofs.pages.TreeKept.{tree_kept}
use Rattle.mmu_core.proofs.pages.TreePlaces.{stands_in_both, table_or}
use Rattle.mmu_core.proofs.pages.UsesStay.{IsLinkedAt, stood_or_linked}
use Rattle.mmu_core.proofs.start.Starts.{hand_is, start_good}
use Rattle.mmu_core.proofs.start.StartWords.{pool_word}
use Rattle.mmu_core.proofs.words.PartWords.{areas_stay}
use Rattle.mmu_laws.proofs.flat.EveryAnswer.{step_follows}
use Rattle.mmu_laws.proofs.pool.WantedSpans.{HasOwnLines, IsForSlot, IsWantedSpan, manager_place, wanted_by_line}
use Rattle.mmu_core.proofs.pages.LinkMade.{takes_one}
use Rattle.mmu_core.proofs.pages.LeavesOver.{leaf_for}
use Rattle.mmu_core.proofs.pages.Standing.{entry_now, position_below}
use Rattle.mmu_core.proofs.machine.ColumnsTell.{tells}
use Rattle.part_steps.specs.PartTasks.{entry_index, table_page}
use Rattle.mmu_core.proofs.pages.Linked.{walk_linked}

-- What is known of each table: it is the root, or for a span that is wanted.
abbrev pub AreWanted : Header → List Line → ℕ → (ℕ → Option Position) → Type 0
AreWanted h lines root stands = (k : ℕ) (p : Position) → stands k ≡ Some p → (k ≡ root) ⊎ IsWantedSpan h lines p

-- So it is of these words, in each account of what the pages are.
abbrev pub TablesAreWanted : Header → List Line → (Area → ℕ → ℕ) → Type 0
TablesAreWanted h lines words =
    (up : ℕ → Use) (spot : ℕ → Position) → TreePart h.pool (words area.Root 0) (words area.Role) (words area.Pool) up spot
    → AreWanted h lines (words area.Root 0) (stands up spot)

-- ---- what a step links

-- The span of the guest frame's entry, one level below the table that it is in.
span_below : (gfn level prefix : ℕ) → 2 ≤ level → gfn / level_span level / 512 ≡ prefix
    → gfn / level_span (level - 1) / 512 ≡ prefix * 512 + gfn / level_span level % 512
span_below gfn level prefix upper over =
    let up : level - 1 + 1 ≡ level = omega (arith, upper) in
    let span : level_span level ≡ 512 * level_span (level - 1) = ap level_span (sym up) ∙ span_above (level - 1) (omega (arith, upper)) in
    let whole : gfn / level_span (level - 1) / 512 ≡ gfn / level_span level =
    div-div-eq-div-mul gfn (level_span (level - 1)) 512 ∙ ap (λ n. gfn / n) (omega (arith, span)) in
    omega (arith, whole, over)

-- A table is linked for the guest frame of a fault, whose slot is live; or in place of a leaf, which is of a live slot.
linked_for : (z : Sizes) (v : View) (a : ℕ) (step : PartStep) (p : Position) → IsPart z v a step → TopicsInvariant z v
    → IsLinkedAt step (v.hand a).topics v p → IsForSlot (v.words area.Pool) (v.words area.Slots 0) p
linked_for z v a (part.Link gfn) p S I is = subst (IsForSlot (v.words area.Pool) (v.words area.Slots 0)) is.1 (by (takes_one _ S.needs.0.takes))
  where
    t : Topics
    t = (v.hand a).topics

    span : gfn / level_span (t.walk.level - 1) / 512 ≡ t.walk.prefix * 512 + gfn / level_span t.walk.level % 512
    span = span_below gfn t.walk.level t.walk.prefix S.needs.0.upper S.needs.0.saw.over.span

    by : (kind_of t.walk.level t.walk.entry ≡ entry_kind.Absent) ⊎ (kind_of t.walk.level t.walk.entry ≡ entry_kind.Leaf)
        → IsForSlot (v.words area.Pool) (v.words area.Slots 0) (position_below gfn t)
    by (inl none) =
        let may : MayEnter gfn t = S.needs.0.enters none in
        record {
          gfn = gfn;
          id = t.search.id - 1;
          slot = t.search.slot;
          live = found_live z v a gfn S.there I may;
          holds = may.looked_up.found.holds;
          span = span;
        }
    by (inr leaf) =
        let at_walk = (I.held a S.there).table S.needs.0.saw.over.there in
        let found : kind_of t.walk.level (entry_now gfn t v) ≡ entry_kind.Leaf =
        ap (kind_of t.walk.level) (tells (entry_now gfn t v) t.walk.entry is.0) ∙ leaf in
        let L = leaf_for z v I (table_page t.walk) t.walk.level t.walk.prefix (entry_index gfn t.walk.level) gfn
        (walk_linked z v I a S.there S.needs.0.saw.over.there) at_walk (omega arith)
        (let over = S.needs.0.saw.over.span in omega (arith, over)) found in
        record { gfn = gfn; id = L.id; slot = L.slot; live = L.live; holds = L.holds; span = span }
linked_for z v a _ p S I is = absurd is

-- ---- from world to world

module _ (h : Header) (lines : List Line) (v : View) (a : ℕ) (I : TopicsInvariant (sizes_of h) v)
    (line_wants : (p : Position) → 1 ≤ p.level → p.level ≤ 4 → IsForSlot (v.words area.Pool) (v.words area.Slots 0) p → IsWantedSpan h lines p)
    (A : TablesAreWanted h lines v.words) where
  part_wanted : (step : PartStep) (note : ℕ) → IsPart (sizes_of h) v a step → TablesAreWanted h lines (part_stepped a step note v).words
  part_wanted step note S up spot T k p is =
      by (stood_or_linked (sizes_of h) v a step S I k p (stands_in_both T (tree_kept (sizes_of h) v a step note S I) k p is))
    where
      by : (stands I.up I.spot k ≡ Some p) ⊎ IsLinkedAt step (v.hand a).topics v p
          → (k ≡ (part_stepped a step note v).words area.Root 0) ⊎ IsWantedSpan h lines p
      by (inl stood) =
          subst (λ (root : ℕ → ℕ). (k ≡ root 0) ⊎ IsWantedSpan h lines p) (sym (areas_stay v a step note area.Root refl)) (A I.up I.spot I.tree k p stood)
      by (inr linked) =
          let there = T.there k p is in
          inr (line_wants p there.1 there.2 (linked_for (sizes_of h) v a step p S I linked))

  -- a step of a line is one of a part, or a touch, which leaves the tables
  task_wanted : (task : Task) → StepIn (sizes_of h) v a task → TablesAreWanted h lines (words_after task v.words)
  task_wanted _ (Makes step note S) = part_wanted step note S
  task_wanted _ (Touches Read index) = A
  task_wanted _ (Touches _ index) = A

-- What each step keeps: the tables are wanted, and the manager has its lines of the trace.
record IsKept (h : Header) (lines : List Line) (w : World Held) : Type 0 where
  own : HasOwnLines (sizes_of h) lines w
  tables : TablesAreWanted h lines (word_in (sizes_of h) w)

step_wanted : (h : Header) (lines : List Line) (w : World Held) (s : Step Kind) → IsSound (sizes_of h) w → May mmu w s → IsKept h lines w
    → IsKept h lines (effect mmu w s)
step_wanted h lines w s G may P =
    let F = step_follows z w s (z.vcpus + z.hosts) G may (manager_place z) in
    record { own = record { actor = F.actor ∙ P.own.actor; own = F.lines ∙ P.own.own }; tables = by (takes z w s G may) }
  where
    z : Sizes
    z = sizes_of h

    g : Held
    g = hand_in mmu w s.actor

    line_wants : (p : Position) → 1 ≤ p.level → p.level ≤ 4 → IsForSlot (word_in z w area.Pool) (word_in z w area.Slots 0) p → IsWantedSpan h lines p
    line_wants p some most W = wanted_by_line h lines w p G P.own some most W

    by : Takes z w s g ⊎ TakesPart z w s g → TablesAreWanted h lines (word_in z (effect mmu w s))
    by (inl T) =
        subst (λ (v : View). TablesAreWanted h lines v.words) (sym T.leads)
        (task_wanted h lines (view z w) s.actor G.topics line_wants P.tables _
        (step_in z (view z w) s.actor (line_at g.state.place g) (line_at g.state.place g).command (place_at g.state.place g) (are_small z w G) T.is_step
        G.holds G.topics))
    by (inr T) =
        subst (λ (v : View). TablesAreWanted h lines v.words) (sym T.leads)
        (part_wanted h lines (view z w) s.actor G.topics line_wants P.tables T.step T.note T.is_part)

span_wanted : (h : Header) (lines : List Line) (w : World Held) (ss : List (Step Kind)) → IsSound (sizes_of h) w → Legal mmu w ss → IsKept h lines w
    → IsKept h lines (run mmu w ss)
span_wanted h lines w [] G legal P = P
span_wanted h lines w (s ∷ ss) G legal P =
    span_wanted h lines (effect mmu w s) ss (good_step (sizes_of h) w s G legal.0) legal.1 (step_wanted h lines w s G legal.0 P)

-- ---- at a start

manager_at : (z : Sizes) → actor_at z (z.vcpus + z.hosts) ≡ Manager
manager_at z = grind (arith, nat_tests)

absent_is : 0 ≡ absent_word
unfolding absent_word
absent_is = refl

-- At a start the root is the only table, since nothing links another one.
start_wanted : (h : Header) (lines : List Line) (w : World Held) → IsStart (sizes_of h) lines w → IsKept h lines w
start_wanted h lines w start =
    let z : Sizes = sizes_of h in
    let hand = hand_is z lines w (z.vcpus + z.hosts) start (manager_place z) in
    record {
      own = record {
        actor = ap (λ (x : Held). x.state.actor) hand ∙ manager_at z;
        own = ap (λ (x : Held). x.lines) hand ∙ ap (λ (actor : Actor). lines_of actor lines) (manager_at z);
      };
      tables = λ up spot T k p is. table_or T k p is (λ top. inl (T.only k top))
          (λ m j below V. absurd (table_not_absent k (sym V.link ∙ pool_word z w (pool_index m j) start.words ∙ absent_is)));
    }

-- Each table of a run is the root, or for a span of guest frames that is wanted, in each account of the pages.
pub tables_are_wanted : (h : Header) (lines : List Line) (w : World Held) (ss : List (Step Kind)) → IsStart (sizes_of h) lines w → Legal mmu w ss
    → TablesAreWanted h lines (word_in (sizes_of h) (run mmu w ss))
tables_are_wanted h lines w ss start legal =
    (span_wanted h lines w ss (start_good (sizes_of h) lines w start) legal (start_wanted h lines w start)).tables
