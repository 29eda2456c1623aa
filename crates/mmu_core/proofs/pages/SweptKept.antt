-- A sweep under the lock has left no leaf of the frames of its invalidation up to where it has come: each step of a part keeps it.
use Rattle.std.proofs.Common.{◌≡◌, ◌≢◌, ◌⊎◌, inl, inr, ◌+◌, ◌*◌, ◌<◌, ◌≤◌, ℕ, refl, sym, subst, ap, ◌∙◌, arith}
use Rattle.std.specs.Prelude.{Bool, true, false, ◌&&◌, ◌||◌, nat_lt, if◌then◌else◌, is_some, Some, None}
use Rattle.core_views.specs.declared.sizes.Sizes.{Sizes}
use Rattle.core_views.specs.declared.topics.Hold.{Hold}
use Rattle.core_views.specs.declared.topics.Hold.TheVariants.{Shared, Owing, Exclusive}
use Rattle.core_views.specs.declared.topics.Invalidated.{Invalidated}
use Rattle.core_views.specs.declared.topics.Stay.{Stay}
use Rattle.core_views.specs.declared.topics.Stay.TheVariants.{Outside}
use Rattle.core_views.specs.declared.topics.TableWalk.{TableWalk}
use Rattle.core_views.specs.declared.topics.Topics.{Topics}
use Rattle.core_views.specs.Held.{Held}
use Rattle.core_views.specs.Sizes.{actors_of}
use Rattle.spte_words.specs.declared.area.Area.TheVariants as area
use Rattle.spte_words.specs.Areas.{pool_index}
use Rattle.spte_words.specs.Entries.{can_write, kind_of, level_span}
use Rattle.spte_words.proofs.ReadsEntries.{kind_of_absent, kind_of_table}
use Rattle.part_steps.specs.declared.part_step.PartStep.{PartStep}
use Rattle.part_steps.specs.declared.part_step.PartStep.TheVariants as part
use Rattle.part_steps.specs.ControlBits.{has_writer}
use Rattle.part_steps.specs.ControlTopics.{at_root}
use Rattle.part_steps.specs.PartTasks.{entry_index, part_task, table_page}
use Rattle.part_steps.specs.PartTopics.{part_topics}
use Rattle.part_steps.specs.StayTopics.{has_lock, may_walk}
use Rattle.part_steps.specs.SweepTopics.{entry_end, entry_start, gone_up, has_done, has_entry, is_done, swept_to}
use Rattle.part_steps.specs.WalkTopics.{gone_down}
use Rattle.mmu_core.specs.invariant.AllOver.{AllOver}
use Rattle.mmu_core.specs.invariant.InvalidatedPart.{IsIn, IsNoLeafBelow, SweptPart}
use Rattle.mmu_core.specs.invariant.TopicsInvariant.{TopicsInvariant}
use Rattle.mmu_core.specs.invariant.TreePart.{at, is_table, stands}
use Rattle.mmu_core.specs.machine.View.{View, answer_in, part_stepped}
use Rattle.mmu_core.proofs.held.InvalidationsKept.{alone_holds}
use Rattle.mmu_core.proofs.held.OpenFrames.{opened_by}
use Rattle.mmu_core.proofs.machine.Columns.{at_upd, upd_same}
use Rattle.mmu_core.proofs.machine.PartStepping.{IsPart}
use Rattle.mmu_core.proofs.pages.AllOver.{IsInherited, IsLight, absent_is}
use Rattle.mmu_core.proofs.pages.OverSteps.{OfNewLeaf, over_step}
use Rattle.mmu_core.proofs.pages.Paths.{up_stands}
use Rattle.mmu_core.proofs.pages.Standing.{spot_after, up_after}
use Rattle.mmu_core.proofs.pages.Linked.{alone_linked, alone_up_linked}
use Rattle.mmu_core.proofs.pages.NoneBelow.{leads_on}
use Rattle.mmu_core.proofs.pages.SweptEntries.{below_swept, both_true, comes_to, loaded_swept, past_entry, starts_at}
use Rattle.mmu_core.proofs.pages.TreeKept.{tree_kept}
use Rattle.mmu_core.proofs.words.PartTopics.{behind_step, sweeps}
use Rattle.mmu_core.proofs.words.PartWords.{areas_stay}

-- It says nothing of what is no leaf.
below_light : (own_ : Invalidated) (to : ℕ) → IsLight (IsNoLeafBelow own_ to)
below_light own_ to = record {
  absent = λ level gfn is_in below leaf. let none = kind_of_absent level in cc (none, leaf);
  link = λ level gfn page upper small is_in below leaf. let links = kind_of_table level page upper small in cc (links, leaf);
}

-- Where a leaf is none, its child is none.
pub below_inherited : (own_ : Invalidated) (to : ℕ) → IsInherited (IsNoLeafBelow own_ to)
below_inherited own_ to level gfn leaf upper most is so is_in below child = so is_in below is

-- ---- The actor's own.

pub shared_never : (b : Bool) (word : ℕ) → ◌≡◌ {A = Hold} (if b then Owing word else Shared) Exclusive → ⊥
shared_never true word e = cc e
shared_never false word e = cc e

module _ (z : Sizes) (v : View) (a note : ℕ) (step : PartStep) (S : IsPart z v a step) (I : TopicsInvariant z v) where
  -- No links lead to a leaf of its frames below a guest frame: before the step, and after it.
  abbrev WasBelow : Invalidated → ℕ → Type 0
  WasBelow own_ to = AllOver I.up I.spot (v.words area.Pool) (v.words area.Root 0) (IsNoLeafBelow own_ to)

  abbrev NowBelow : Invalidated → ℕ → Type 0
  NowBelow own_ to =
      AllOver (up_after step a (v.hand a).topics v I.up) (spot_after step (v.hand a).topics v I.spot) ((part_stepped a step note v).words area.Pool)
      ((part_stepped a step note v).words area.Root 0) (IsNoLeafBelow own_ to)

  still_below : (own_ : Invalidated) (to : ℕ) → OfNewLeaf step (v.hand a).topics v (IsNoLeafBelow own_ to) → WasBelow own_ to → NowBelow own_ to
  still_below own_ to new_ A =
      subst (λ root. AllOver (up_after step a (v.hand a).topics v I.up) (spot_after step (v.hand a).topics v I.spot)
      ((part_stepped a step note v).words area.Pool) root (IsNoLeafBelow own_ to)) (sym (ap (λ (r : ℕ → ℕ). r 0) (areas_stay v a step note area.Root refl)))
      (over_step z v a step note S I (v.words area.Root 0) (IsNoLeafBelow own_ to) (ap is_table I.tree.top)
      (below_light own_ to) (below_inherited own_ to) new_ A)

-- of the actor itself, after its step
abbrev OwnSwept : (z : Sizes) (v : View) (a note : ℕ) (step : PartStep) (S : IsPart z v a step) → TopicsInvariant z v → Topics → Type 0
OwnSwept z v a note step S I t =
    t.hold ≡ Exclusive → t.stay ≡ Outside → t.invalidations.opened ≡ true → 1 ≤ t.walk.level
    → NowBelow z v a note step S I t.invalidations.own (swept_to true t.invalidations.own.start t.walk)

-- A walk begins at the root, before all its frames.
root_swept : (own_ : Invalidated) (b : Bool) (walk : TableWalk) (root gfn : ℕ) → IsIn own_ gfn → gfn < swept_to true own_.start (at_root b walk root) → ⊥
root_swept own_ b walk root gfn is_in below = by (below_swept true own_.start (at_root b walk root) gfn is_in.0 below)
  where
    by : (((has_entry (at_root b walk root) && is_done true (at_root b walk root)) ≡ true) × (gfn < entry_end (at_root b walk root)))
        ⊎ (gfn < entry_start (at_root b walk root)) → ⊥
    by (inl none) = let e = (both_true (has_entry (at_root b walk root)) (is_done true (at_root b walk root)) none.0).0 in cc e
    by (inr lt) = omega (arith, lt)

root_own : (z : Sizes) (v : View) (a note : ℕ) (S : IsPart z v a part.Root) (I : TopicsInvariant z v)
    → OwnSwept z v a note part.Root S I (part_topics part.Root (v.hand a).topics (v.words area.Root 0))
root_own z v a note S I alone out opened from l j gfn R O is_in below =
    absurd (root_swept (v.hand a).topics.invalidations.own (may_walk (v.hand a).topics.stay (v.hand a).topics.hold) (v.hand a).topics.walk
    (v.words area.Root 0) gfn is_in below)

sweep_own : (z : Sizes) (v : View) (a note gfn : ℕ) (S : IsPart z v a (part.Sweep gfn)) (I : TopicsInvariant z v)
    → OwnSwept z v a note (part.Sweep gfn) S I (part_topics (part.Sweep gfn) (v.hand a).topics
    (v.words area.Pool (pool_index (table_page (gone_up (v.hand a).topics.walk)) (entry_index gfn (gone_up (v.hand a).topics.walk).level))))
sweep_own z v a note gfn S I alone out opened from =
    still_below z v a note (part.Sweep gfn) S I t.invalidations.own _ tt
    (loaded_swept I.tree t.invalidations.own up (alone_up_linked z v I a S.there S.needs.alone S.needs.outside S.needs.there) at_up gfn _
    S.needs.over.span before from)
  where
    t : Topics
    t = (v.hand a).topics

    up : TableWalk
    up = gone_up t.walk

    level : t.walk.level ≤ 4
    level = (I.tree.there _ _ ((I.held a S.there).table S.needs.there)).2

    at_up : stands I.up I.spot (table_page up) ≡ Some (at up.level up.prefix)
    at_up = up_stands (stands I.up I.spot) t (I.held a S.there) (I.paths a S.there) S.needs.there level

    before : WasBelow z v a note (part.Sweep gfn) S I t.invalidations.own gfn
    before =
        let of_own = S.needs.of_own opened in
        subst (WasBelow z v a note (part.Sweep gfn) S I t.invalidations.own)
        (sym of_own.0)
        (I.swept a S.there S.needs.alone S.needs.outside opened S.needs.there)

zap_own : (z : Sizes) (v : View) (a note gfn : ℕ) (S : IsPart z v a (part.Zap gfn)) (I : TopicsInvariant z v)
    → OwnSwept z v a note (part.Zap gfn) S I (part_topics (part.Zap gfn) (v.hand a).topics 0)
zap_own z v a note gfn S I alone out opened from l j other R O is_in below leaf =
    by (below_swept true t.invalidations.own.start after other is_in.0 below)
  where
    t : Topics
    t = (v.hand a).topics

    index : ℕ
    index = entry_index gfn t.walk.level

    after : TableWalk
    after = gone_down None t.walk index 0

    came : ℕ
    came = swept_to true t.invalidations.own.start t.walk

    pool : ℕ → ℕ
    pool = (part_stepped a (part.Zap gfn) note v).words area.Pool

    was : NowBelow z v a note (part.Zap gfn) S I t.invalidations.own came
    was =
        still_below z v a note (part.Zap gfn) S I t.invalidations.own came tt
        (I.swept a S.there S.needs.alone S.needs.outside S.needs.opened S.needs.saw.over.there)

    start : (t.walk.prefix * 512 + index) * level_span t.walk.level ≤ came
    start =
        let leads : is_done true t.walk ≡ false = ap (has_done true (can_write t.walk.entry)) S.needs.leaf in
        let same =
        ap (λ i. (t.walk.prefix * 512 + (if nat_lt i 512 then i else 0)) * level_span t.walk.level) S.needs.saw.loaded ∙ starts_at t.walk gfn 0 in
        let comes = comes_to t.invalidations.own.start t.walk leads in
        omega (arith, same, comes)

    nowhere : leads_on (kind_of t.walk.level (pool (pool_index (table_page t.walk) index))) ≡ false
    nowhere =
        ap (λ w. leads_on (kind_of t.walk.level w)) (upd_same (v.words area.Pool) (pool_index (table_page t.walk) index) 0 ∙ absent_is)
        ∙ ap leads_on (kind_of_absent t.walk.level)

    past : NowBelow z v a note (part.Zap gfn) S I t.invalidations.own (entry_end after)
    past =
        past_entry (tree_kept z v a (part.Zap gfn) note S I) t.invalidations.own t.walk
        (alone_linked z v I a S.there S.needs.alone S.needs.outside S.needs.saw.over.there)
        ((I.held a S.there).table S.needs.saw.over.there) index came (omega arith) nowhere start was

    by : (((has_entry after && is_done true after) ≡ true) × (other < entry_end after)) ⊎ (other < entry_start after) → ⊥
    by (inl none) = past l j other R O is_in none.1 leaf
    by (inr lt) =
        let same = starts_at t.walk gfn 0 in
        was l j other R O is_in (omega (arith, lt, start, same)) leaf

own_swept : (z : Sizes) (v : View) (a note : ℕ) (step : PartStep) (S : IsPart z v a step) (I : TopicsInvariant z v)
    → OwnSwept z v a note step S I (part_topics step (v.hand a).topics (answer_in (part_task step a (v.hand a).topics note) v.words))
own_swept z v a note part.Enter S I = λ alone out. absurd (cc out)
own_swept z v a note part.Begin S I = λ alone out. absurd (cc out)
own_swept z v a note part.Leave S I = λ alone out opened from. absurd (omega (arith, from))
own_swept z v a note part.End S I = λ alone out opened from. absurd (omega (arith, from))
own_swept z v a note part.Share S I = λ alone. absurd (shared_never (has_writer (v.words area.Lock 0)) (v.words area.Lock 0) alone)
own_swept z v a note part.Unshare S I = λ alone. absurd (cc alone)
own_swept z v a note part.Release S I = λ alone. absurd (cc alone)
own_swept z v a note part.Exclude S I = λ alone out opened from.
    let t : Topics = (v.hand a).topics in
    let none = (I.held a S.there).no_table (ap (λ (s : Stay). may_walk s t.hold) out ∙ ap (may_walk Outside) S.needs) in
    absurd (omega (arith, from, none))
own_swept z v a note part.Root S I = root_own z v a note S I
own_swept z v a note (part.Walk gfn) S I = λ alone out opened. absurd
    (let idle = S.needs.1 in let busy = sweeps (v.hand a).topics out alone (ap (λ (b : Bool). b || is_some (v.hand a).topics.retired) opened) in cc
    (idle, busy))
own_swept z v a note (part.Sweep gfn) S I = sweep_own z v a note gfn S I
own_swept z v a note (part.WalkAnew gfn) S I = λ alone out opened. absurd
    (let neither = S.needs.sweeps_not in let open_ = ap (λ (b : Bool). b || is_some (v.hand a).topics.retired) opened in cc (neither, open_))
own_swept z v a note (part.Link gfn) S I = λ alone. absurd (let shared = S.needs.0.shares in cc (alone, shared))
own_swept z v a note (part.Leaf gfn write) S I = λ alone. absurd (let shared = S.needs.0.shares in cc (alone, shared))
own_swept z v a note (part.Fix gfn) S I = λ alone out. absurd (let section = S.needs.section in cc (out, section))
own_swept z v a note (part.Zap gfn) S I = zap_own z v a note gfn S I
own_swept z v a note (part.Protect gfn) S I = λ alone out opened. absurd (let none = S.needs.none_open in cc (none, opened))
own_swept z v a note (part.SetStart first gfn) S I = λ alone out opened. absurd (let closed = S.needs.0.opening.closed in cc (closed, opened))
own_swept z v a note (part.SetEnd last gfn) S I = λ alone out opened. absurd (let closed = S.needs.0.opening.closed in cc (closed, opened))
own_swept z v a note (part.SetCount count) S I = λ alone out more from.
    let none = (S.needs.0.opens (opened_by z v a I S.there (v.hand a).topics.invalidations.opened count refl S.needs.0.is more)).no_table in
    absurd (omega (arith, none, from))
own_swept z v a note step S I = λ alone out opened from.
    still_below z v a note step S I (v.hand a).topics.invalidations.own _ tt (I.swept a S.there alone out opened from)

-- ---- Those of others.

-- Nobody else has the lock, so none stores a leaf, but in place of one.
others_leaf : (z : Sizes) (v : View) (a i : ℕ) (step : PartStep) → IsPart z v a step → TopicsInvariant z v → i < actors_of z → i ≢ a
    → (v.hand i).topics.hold ≡ Exclusive → (own_ : Invalidated) (to : ℕ) → OfNewLeaf step (v.hand a).topics v (IsNoLeafBelow own_ to)
others_leaf z v a i (part.Fix gfn) S I lt ne alone own_ to = λ won other over none from below leaf. none from below S.needs.leaf
others_leaf z v a i (part.Protect gfn) S I lt ne alone own_ to = λ found other was none from below leaf. none from below was
others_leaf z v a i (part.Leaf gfn write) S I lt ne alone own_ to =
    absurd (let none = alone_holds (actors_of z) (v.words area.Lock 0) (λ j. (v.hand j).topics.hold) i a lt S.there (λ e. ne (sym e)) I.lock_part alone in
    let lock = ap has_lock S.needs.0.shares in cc (none, lock))
others_leaf z v a i _ S I lt ne alone own_ to = tt

pub swept_kept : (z : Sizes) (v : View) (a : ℕ) (step : PartStep) (note : ℕ) → IsPart z v a step → (I : TopicsInvariant z v)
    → SweptPart (actors_of z) (up_after step a (v.hand a).topics v I.up) (spot_after step (v.hand a).topics v I.spot)
    ((part_stepped a step note v).words area.Pool) ((part_stepped a step note v).words area.Root 0) (λ i. ((part_stepped a step note v).hand i).topics)
swept_kept z v a step note S I =
    behind_step (λ (w : View). (i : ℕ) → IsKept i (w.hand i)) z v a step note S
    (at_upd IsKept v.hand a _ (λ lt. own_swept z v a note step S I)
    (λ i ne lt alone out opened from.
    still_below z v a note step S I (v.hand i).topics.invalidations.own _ (others_leaf z v a i step S I lt ne alone (v.hand i).topics.invalidations.own _)
    (I.swept i lt alone out opened from)))
  where
    IsKept : ℕ → Held → Type 0
    IsKept i h = i < actors_of z → OwnSwept z v a note step S I h.topics
