-- The entry that an actor has loaded that has the lock alone, outside of every section, stays in its table: each step of a part keeps it.
use Rattle.std.proofs.Common.{◌≡◌, ◌≢◌, ◌⊎◌, inl, inr, ◌<◌, ◌≤◌, ℕ, refl, sym, subst, ap, ◌∙◌, arith}
use Rattle.std.specs.Prelude.{Bool, true, false, if◌then◌else◌, Option, Some, None, ◌==◌, not}
use Rattle.core_views.specs.declared.sizes.Sizes.{Sizes}
use Rattle.core_views.specs.declared.topics.Hold.{Hold}
use Rattle.core_views.specs.declared.topics.Hold.TheVariants.{Shared, Owing, Exclusive}
use Rattle.core_views.specs.declared.topics.Stay.{Stay}
use Rattle.core_views.specs.declared.topics.Stay.TheVariants.{Outside}
use Rattle.core_views.specs.declared.topics.TableWalk.{TableWalk}
use Rattle.core_views.specs.declared.topics.Topics.{Topics}
use Rattle.core_views.specs.Held.{Held}
use Rattle.core_views.specs.Sizes.{actors_of}
use Rattle.spte_words.specs.declared.area.Area.TheVariants as area
use Rattle.spte_words.specs.Areas.{pool_index}
use Rattle.spte_words.specs.Entries.{can_write, kind_of, with_write, without_write}
use Rattle.spte_words.proofs.FixedEntries.{fixed_can_write}
use Rattle.part_steps.specs.declared.part_step.PartStep.{PartStep}
use Rattle.part_steps.specs.declared.part_step.PartStep.TheVariants as part
use Rattle.part_steps.specs.PartTasks.{entry_index, part_task, table_page, leaf_fixed}
use Rattle.part_steps.specs.ControlBits.{has_writer}
use Rattle.part_steps.specs.PartTopics.{part_topics}
use Rattle.part_steps.specs.StayTopics.{has_lock, may_walk}
use Rattle.part_steps.specs.SweepTopics.{at_top, gone_up}
use Rattle.part_steps.specs.WalkTopics.{gone_down, linked_page}
use Rattle.mmu_core.specs.invariant.InvalidationsPart.{LoadedPart, IsEntryStill}
use Rattle.mmu_core.specs.invariant.TopicsInvariant.{TopicsInvariant}
use Rattle.mmu_core.specs.machine.View.{View, answer_in, part_stepped, upd}
use Rattle.mmu_core.proofs.held.InvalidationsKept.{alone_holds}
use Rattle.mmu_core.proofs.machine.Columns.{at_upd, upd_same, same_or, upd_other}
use Rattle.mmu_core.proofs.machine.PartStepping.{IsPart}
use Rattle.mmu_core.proofs.pages.PoolPages.{table_not_owned}
use Rattle.mmu_core.proofs.words.PartTopics.{behind_step, part_behind}
use Rattle.mmu_core.proofs.words.PartWords.{IsElsewhere, page_stays}
use Rattle.spte_words.specs.declared.spte_kind.SpteKind.TheVariants.{Leaf}
use Rattle.mmu_core.specs.invariant.TreePart.{Position, stands}
use Rattle.mmu_core.proofs.pages.ProtectedLeaf.{found_same, pool_protected}
use Rattle.mmu_core.proofs.pages.Standing.{entry_now, one_position}
use Rattle.mmu_core.proofs.machine.ColumnsTell.{tells}
use Rattle.mmu_core.proofs.forms.access.FaultSame.{both, is_not}
use Rattle.spte_words.proofs.Indices.{same_pool_word}

-- of a view, whose words of the pool are these
abbrev LoadedIn : Sizes → (ℕ → ℕ) → View → Type 0
LoadedIn z pool v = (i : ℕ) → i < actors_of z → LoadedPart pool (v.hand i).topics

-- ---- The actor's own.

shared_never : (b : Bool) (word : ℕ) → ◌≡◌ {A = Hold} (if b then Owing word else Shared) Exclusive → ⊥
shared_never true word e = cc e
shared_never false word e = cc e

-- An entry was loaded: the walk stays where it is no link, and goes down to a table of which it has loaded none yet.
gone_loaded : (pool : ℕ → ℕ) (walk : TableWalk) (j : ℕ) (o : Option ℕ)
    → (gone_down o walk j (pool (pool_index (table_page walk) j))).index < 512
    → IsEntryStill (gone_down o walk j (pool (pool_index (table_page walk) j))).level
    (pool (pool_index (table_page (gone_down o walk j (pool (pool_index (table_page walk) j))))
    (gone_down o walk j (pool (pool_index (table_page walk) j))).index)) (gone_down o walk j (pool (pool_index (table_page walk) j))).entry
gone_loaded pool walk j None low = inl refl
gone_loaded pool walk j (Some page) low = absurd (omega (arith, low))

own_loaded : (z : Sizes) (v : View) (a note : ℕ) (step : PartStep) → IsPart z v a step → TopicsInvariant z v
    → LoadedPart ((part_stepped a step note v).words area.Pool) (part_topics step (v.hand a).topics
    (answer_in (part_task step a (v.hand a).topics note) v.words))
own_loaded z v a note part.Enter S I = λ alone out. absurd (cc out)
own_loaded z v a note part.Begin S I = λ alone out. absurd (cc out)
own_loaded z v a note part.Leave S I = λ alone out from low. absurd (omega (arith, from))
own_loaded z v a note part.End S I = λ alone out from low. absurd (omega (arith, from))
own_loaded z v a note part.Share S I = λ alone. absurd (shared_never (has_writer (v.words area.Lock 0)) (v.words area.Lock 0) alone)
own_loaded z v a note part.Unshare S I = λ alone. absurd (cc alone)
own_loaded z v a note part.Release S I = λ alone. absurd (cc alone)
own_loaded z v a note part.Exclude S I = λ alone out from low.
    let t : Topics = (v.hand a).topics in
    let none = (I.held a S.there).no_table (ap (λ (s : Stay). may_walk s t.hold) out ∙ ap (may_walk Outside) S.needs) in
    absurd (omega (arith, from, none))
own_loaded z v a note part.Root S I = λ alone out from low. absurd (omega (arith, low))
own_loaded z v a note (part.Walk gfn) S I = λ alone out from low.
    let walk : TableWalk = (v.hand a).topics.walk in
    let j : ℕ = entry_index gfn walk.level in
    gone_loaded (v.words area.Pool) walk j (linked_page (kind_of walk.level (v.words area.Pool (pool_index (table_page walk) j)))) low
own_loaded z v a note (part.Sweep gfn) S I = λ alone out from low.
    let walk : TableWalk = gone_up (v.hand a).topics.walk in
    let j : ℕ = entry_index gfn walk.level in
    gone_loaded (v.words area.Pool) walk j (linked_page (kind_of walk.level (v.words area.Pool (pool_index (table_page walk) j)))) low
own_loaded z v a note (part.WalkAnew gfn) S I = λ alone out from low.
    let walk : TableWalk = at_top (v.hand a).topics.walk in
    let j : ℕ = entry_index gfn 4 in
    gone_loaded (v.words area.Pool) walk j (linked_page (kind_of 4 (v.words area.Pool (pool_index (table_page walk) j)))) low
own_loaded z v a note (part.Link gfn) S I = λ alone. absurd (let shared = S.needs.0.shares in cc (alone, shared))
own_loaded z v a note (part.Leaf gfn write) S I = λ alone. absurd (let shared = S.needs.0.shares in cc (alone, shared))
own_loaded z v a note (part.Fix gfn) S I = λ alone out. absurd (let section = S.needs.section in cc (out, section))
own_loaded z v a note (part.Zap gfn) S I = λ alone out from low. inl (upd_same (v.words area.Pool)
    (pool_index (table_page (v.hand a).topics.walk) (entry_index gfn (v.hand a).topics.walk.level)) 0)
own_loaded z v a note (part.Protect gfn) S I = λ alone out from low.
    let here : ℕ = pool_index (table_page (v.hand a).topics.walk) (entry_index gfn (v.hand a).topics.walk.level) in
    inl (ap (λ (pool : ℕ → ℕ). pool here) (pool_protected z v a gfn S note)
    ∙ upd_same (v.words area.Pool) here (without_write (entry_now gfn (v.hand a).topics v)) ∙ ap without_write (found_same z v a gfn S I))
own_loaded z v a note (part.Fill value) S I = λ alone out from low.
    let walk : TableWalk = (v.hand a).topics.walk in
    subst (λ (w : ℕ). IsEntryStill walk.level w walk.entry)
    (sym (page_stays z v a (part.Fill value) note S (table_page walk) (λ o is. table_not_owned I.uses I.spot (table_page walk) _
    ((I.held a S.there).table from) a o S.there is) walk.index low))
    (I.loaded a S.there alone out from low)
own_loaded z v a note _ S I = I.loaded a S.there

-- ---- Those of others.

-- A fast fault changes an entry without the lock.
abbrev fixes : PartStep → Bool
fixes (part.Fix gfn) = true
fixes _ = false

-- Nobody else has the lock, so none else exchanges or zaps an entry; and who fills a page fills one that is no table.
others_apart : (z : Sizes) (v : View) (a i : ℕ) (step : PartStep) → fixes step ≡ false → IsPart z v a step → TopicsInvariant z v → i < actors_of z → i ≢ a
    → (v.hand i).topics.hold ≡ Exclusive → 1 ≤ (v.hand i).topics.walk.level → IsElsewhere step (v.hand a).topics (table_page (v.hand i).topics.walk)
others_apart z v a i step never S I lt ne alone from = by step never S
  where
    none : has_lock (v.hand a).topics.hold ≡ false
    none = alone_holds (actors_of z) (v.words area.Lock 0) (λ j. (v.hand j).topics.hold) i a lt S.there (λ e. ne (sym e)) I.lock_part alone

    by : (step : PartStep) → fixes step ≡ false → IsPart z v a step → IsElsewhere step (v.hand a).topics (table_page (v.hand i).topics.walk)
    by (part.Fill value) n T = λ o is. table_not_owned I.uses I.spot (table_page (v.hand i).topics.walk) _ ((I.held i lt).table from) a o S.there is
    by (part.Link gfn) n T = absurd (let lock = ap has_lock T.needs.0.shares in cc (none, lock))
    by (part.Leaf gfn write) n T = absurd (let lock = ap has_lock T.needs.0.shares in cc (none, lock))
    by (part.Fix gfn) n T = absurd (cc n)
    by (part.Zap gfn) n T = absurd (let lock = ap has_lock T.needs.alone in cc (none, lock))
    by (part.Protect gfn) n T = absurd (let lock = ap has_lock T.needs.alone in cc (none, lock))
    by _ n T = tt

-- Writes are allowed once in a leaf that was seen: where they were allowed since, it doesn't forbid them now.
fixed_once : (level now_ after seen : ℕ) → kind_of level now_ ≡ Leaf → can_write now_ ≡ false → after ≡ with_write now_
    → IsEntryStill level now_ seen → IsEntryStill level after seen
fixed_once level now_ after seen leaf denied is (inl same) = inr (record {
  leaf = ap (kind_of level) (sym same) ∙ leaf;
  denied = ap can_write (sym same) ∙ denied;
  is = is ∙ ap with_write same;
})
fixed_once level now_ after seen leaf denied is (inr A) = absurd (let may = ap can_write A.is ∙ fixed_can_write seen A.denied in cc (may, denied))

-- In the entry that was loaded a fast fault allows writes.
fixed_loaded : (z : Sizes) (v : View) (a i gfn : ℕ) → IsPart z v a (part.Fix gfn) → TopicsInvariant z v → i < actors_of z
    → 1 ≤ (v.hand i).topics.walk.level → (v.hand i).topics.walk.index < 512 → (won : Bool)
    → (entry_now gfn (v.hand a).topics v == (v.hand a).topics.walk.entry) ≡ won
    → IsEntryStill (v.hand i).topics.walk.level
    (v.words area.Pool (pool_index (table_page (v.hand i).topics.walk) (v.hand i).topics.walk.index)) (v.hand i).topics.walk.entry
    → IsEntryStill (v.hand i).topics.walk.level
    (upd (v.words area.Pool) (pool_index (table_page (v.hand a).topics.walk) (entry_index gfn (v.hand a).topics.walk.level))
    (if won then leaf_fixed (v.hand a).topics else entry_now gfn (v.hand a).topics v)
    (pool_index (table_page (v.hand i).topics.walk) (v.hand i).topics.walk.index)) (v.hand i).topics.walk.entry
fixed_loaded z v a i gfn S I lt from low won is E = by won is (same_or at here)
  where
    t : Topics
    t = (v.hand a).topics

    walk : TableWalk
    walk = (v.hand i).topics.walk

    pool : ℕ → ℕ
    pool = v.words area.Pool

    at : ℕ
    at = pool_index (table_page walk) walk.index

    here : ℕ
    here = pool_index (table_page t.walk) (entry_index gfn t.walk.level)

    -- two walks that have come to one table have come to one level
    one_level : table_page walk ≡ table_page t.walk → walk.level ≡ t.walk.level
    one_level e =
        let mine = (I.held i lt).table from in
        let other = (I.held a S.there).table S.needs.saw.over.there in
        ap (λ (p : Position). p.level) (one_position (sym mine ∙ ap (stands I.up I.spot) e ∙ other))

    by : (w : Bool) → (entry_now gfn t v == t.walk.entry) ≡ w → (at ≡ here) ⊎ (at ≢ here)
        → IsEntryStill walk.level (upd pool here (if w then leaf_fixed t else entry_now gfn t v) at) walk.entry
    by w at_w (inr ne) = subst (λ n. IsEntryStill walk.level n walk.entry) (sym (upd_other pool here at _ ne)) E
    by false at_w (inl e) =
        subst (λ n. IsEntryStill walk.level n walk.entry)
        (ap pool e ∙ sym (upd_same pool here (entry_now gfn t v)) ∙ ap (upd pool here (entry_now gfn t v)) (sym e)) E
    by true at_w (inl e) =
        let s = same_pool_word (table_page walk) (table_page t.walk) walk.index (entry_index gfn t.walk.level) low (omega arith) e in
        let level : walk.level ≡ t.walk.level = one_level s.0 in
        let found : pool at ≡ t.walk.entry = ap pool e ∙ tells (entry_now gfn t v) t.walk.entry at_w in
        fixed_once walk.level (pool at) (upd pool here (leaf_fixed t) at) walk.entry
        (ap (λ l. kind_of l (pool at)) level ∙ ap (kind_of t.walk.level) found ∙ S.needs.leaf)
        (ap can_write found ∙ is_not (can_write t.walk.entry) (both (not (can_write t.walk.entry)) _ S.needs.fixable).0)
        (ap (upd pool here (leaf_fixed t)) e ∙ upd_same pool here (leaf_fixed t) ∙ ap with_write (sym found)) E

-- An entry that another actor has loaded, under the lock alone.
others_loaded : (z : Sizes) (v : View) (a i : ℕ) (step : PartStep) (note : ℕ) → IsPart z v a step → TopicsInvariant z v → i < actors_of z → i ≢ a
    → LoadedPart ((part_stepped a step note v).words area.Pool) (v.hand i).topics
others_loaded z v a i (part.Fix gfn) note S I lt ne alone out from low =
    fixed_loaded z v a i gfn S I lt from low (entry_now gfn (v.hand a).topics v == (v.hand a).topics.walk.entry) refl (I.loaded i lt alone out from low)
others_loaded z v a i step note S I lt ne alone out from low =
    let walk : TableWalk = (v.hand i).topics.walk in
    subst (λ (w : ℕ). IsEntryStill walk.level w walk.entry)
    (sym (page_stays z v a step note S (table_page walk) (others_apart z v a i step refl S I lt ne alone from) walk.index low))
    (I.loaded i lt alone out from low)

pub loaded_kept : (z : Sizes) (v : View) (a : ℕ) (step : PartStep) (note : ℕ) → IsPart z v a step → TopicsInvariant z v
    → LoadedIn z ((part_stepped a step note v).words area.Pool) (part_stepped a step note v)
loaded_kept z v a step note S I = behind_step (LoadedIn z after) z v a step note S behind
  where
    after : ℕ → ℕ
    after = (part_stepped a step note v).words area.Pool

    behind : LoadedIn z after (part_behind a step note v)
    behind =
        at_upd (λ i (h : Held). i < actors_of z → LoadedPart after h.topics) v.hand a _ (λ lt. own_loaded z v a note step S I)
        (λ i ne lt. others_loaded z v a i step note S I lt ne)
