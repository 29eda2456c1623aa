-- Each table that a walk has gone through is a table, down to the one that it has come to.
use Rattle.std.proofs.Common.{◌≡◌, ◌+◌, ◌*◌, ◌/◌, ◌^◌, ◌<◌, ◌≤◌, ℕ, zero, suc, refl, ap, ◌∙◌, arith}
use Rattle.std.specs.Prelude.{◌-◌, ◌%◌, Bool, true, false, ◌==◌, ◌&&◌, nat_lt, not, if◌then◌else◌, Option, Some, None}
use Rattle.std.proofs.lemmas.Bool.Decides.{nat_tests}
use Rattle.core_views.specs.declared.topics.TableWalk.{TableWalk}
use Rattle.core_views.specs.declared.topics.Topics.{Topics}
use Rattle.spte_words.specs.Entries.{kind_of, without_write}
use Rattle.part_steps.specs.declared.part_step.PartStep.{PartStep}
use Rattle.part_steps.specs.declared.part_step.PartStep.TheVariants as part
use Rattle.part_steps.specs.PartTasks.{leaf_written, link_written, table_page}
use Rattle.part_steps.specs.PartSteps.{PartNeeds}
use Rattle.part_steps.specs.PartTopics.{part_topics}
use Rattle.part_steps.specs.StayTopics.{is_outside, may_walk}
use Rattle.part_steps.specs.SweepTopics.{at_top, gone_up, gone_up_once}
use Rattle.part_steps.specs.WalkTopics.{gone_down, linked_page, swapped, walked}
use Rattle.core_views.specs.declared.sizes.Sizes.{Sizes}
use Rattle.core_views.specs.Held.{Held}
use Rattle.core_views.specs.Sizes.{actors_of}
use Rattle.mmu_core.specs.invariant.HeldPart.{HeldPart, PathPart, span_at, table_at}
use Rattle.mmu_core.specs.invariant.TopicsInvariant.{TopicsInvariant}
use Rattle.mmu_core.specs.invariant.TreePart.{Position, TreePart, Use, at, stands}
use Rattle.mmu_core.proofs.pages.TreePlaces.{root_stands, table_or}
use Rattle.mmu_core.specs.machine.View.{View, answer_in, part_stepped}
use Rattle.part_steps.specs.PartTasks.{entry_index, part_task, leaf_fixed}
use Rattle.std.proofs.lemmas.Bool.{cases_lt}
use Rattle.std.proofs.Common.{◌⊎◌, inl, inr, sym, subst}
use Rattle.mmu_core.proofs.machine.Columns.{at_upd}
use Rattle.mmu_core.proofs.machine.PartStepping.{IsPart}
use Rattle.mmu_core.proofs.words.PartTopics.{behind_step, part_behind}
use Rattle.mmu_core.proofs.pages.Standing.{one_position, spot_after, up_after}
use Rattle.mmu_core.proofs.pages.UsesStay.{stays_standing}

-- Above the table that a walk has come to, it has gone through the tables that it had gone through or come to before, for the same spans.
pub record GoesOnAt (before after : TableWalk) (level : ℕ) : Type 0 where
  pub from : 1 ≤ before.level
  pub down : before.level ≤ level
  pub table : table_at level after ≡ table_at level before
  pub span : span_at level after ≡ span_at level before

abbrev pub GoesOn : TableWalk → TableWalk → Type 0
GoesOn before after = (level : ℕ) → 1 ≤ after.level → after.level < level → level ≤ 4 → GoesOnAt before after level

pub stays : (walk : TableWalk) → GoesOn walk walk
stays walk level from above most = record { from = from; down = omega (arith, above); table = refl; span = refl }

kept_goes : (b : Bool) (walk : TableWalk) → GoesOn walk (record walk { level = if b then walk.level else 0 })
kept_goes true walk level from above most = record { from = from; down = omega (arith, above); table = refl; span = refl }
kept_goes false walk level from above most = absurd (omega (arith, from))

rooted_goes : (b : Bool) (walk : TableWalk) (v : ℕ) → GoesOn walk (record walk { level = if b then 4 else 0; prefix = 0; root = v; index = 512 })
rooted_goes true walk v level from above most = absurd (omega (arith, above, most))
rooted_goes false walk v level from above most = absurd (omega (arith, from))

-- A span of one level lower lies in the same spans above.
same_run : (n prefix index : ℕ) → n ≤ 3 → index < 512 → (prefix * 512 + index) / 512 ^ (n + 1) ≡ prefix / 512 ^ n
same_run zero prefix index few low = omega (arith, low)
same_run (suc zero) prefix index few low = omega (arith, low)
same_run (suc (suc zero)) prefix index few low = omega (arith, low)
same_run (suc (suc (suc zero))) prefix index few low = omega (arith, low)
same_run (suc (suc (suc (suc n)))) prefix index few low = absurd (omega (arith, few))

down_goes : (to : Option ℕ) (walk : TableWalk) (index v : ℕ) → index < 512 → GoesOn walk (gone_down to walk index v)
down_goes None walk index v low level from above most = record { from = from; down = omega (arith, above); table = refl; span = refl }
down_goes (Some page) walk index v low level from above most =
    record { from = omega (arith, from); down = omega (arith, from, above); table = same; span = span }
  where
    span : span_at level (gone_down (Some page) walk index v) ≡ span_at level walk
    span =
        let lower : level - (walk.level - 1) ≡ (level - walk.level) + 1 = omega (arith, from, above) in
        ap (λ n. (walk.prefix * 512 + index) / 512 ^ n) lower ∙ same_run (level - walk.level) walk.prefix index (omega (arith, from, most)) low

    third : level ≡ 3 → (walk.level == 4) ≡ false
    third e = grind (arith, nat_tests)

    second : level ≡ 2 → (walk.level == 3) ≡ false
    second e = grind (arith, nat_tests)

    same : table_at level (gone_down (Some page) walk index v) ≡ table_at level walk
    same =
        by (level == 4) (level == 3) (level == 2) (λ e. third (grind (arith, nat_tests))) (λ e. second (grind (arith, nat_tests)))
        (λ e. grind (arith, nat_tests))
      where
        by : (four three two : Bool) → (three ≡ true → (walk.level == 4) ≡ false) → (two ≡ true → (walk.level == 3) ≡ false)
            → ((four ≡ false) × (three ≡ false) × (two ≡ false) → ⊥)
            → (if four then walk.root else if three then (if walk.level == 4 then page else walk.third) else if two
            then (if walk.level == 3 then page else walk.second) else if walk.level == 2 then page else walk.first)
            ≡ (if four then walk.root else if three then walk.third else if two then walk.second else walk.first)
        by true three two a b c = refl
        by false true two a b c = ap (λ (x : Bool). if x then page else walk.third) (a refl)
        by false false true a b c = ap (λ (x : Bool). if x then page else walk.second) (b refl)
        by false false false a b c = absurd (c (refl, refl, refl))

swap_goes : (won : Bool) (walk : TableWalk) (index new_ v : ℕ) → index < 512 → GoesOn walk (swapped won walk index new_ v)
swap_goes true walk index new_ v low = down_goes (linked_page (kind_of walk.level new_)) walk index new_ low
swap_goes false walk index new_ v low = down_goes None walk index v low

-- ---- A walk goes up to a table that it has gone through.

on_up : {before between after : TableWalk} {level : ℕ} → GoesOnAt before between level → GoesOnAt between after level → GoesOnAt before after level
on_up A B = record { from = A.from; down = A.down; table = B.table ∙ A.table; span = B.span ∙ A.span }

-- The span of one level higher lies in the same spans above.
up_run : (n prefix : ℕ) → n ≤ 3 → prefix / 512 / 512 ^ n ≡ prefix / 512 ^ (n + 1)
up_run zero prefix few = omega arith
up_run (suc zero) prefix few = omega arith
up_run (suc (suc zero)) prefix few = omega arith
up_run (suc (suc (suc zero))) prefix few = omega arith
up_run (suc (suc (suc (suc n)))) prefix few = absurd (omega (arith, few))

once_higher : (walk : TableWalk) → walk.level ≤ (gone_up_once walk).level
once_higher walk = by ((walk.index == 511) && nat_lt walk.level 4)
  where
    by : (b : Bool) → walk.level ≤ (if b then walk.level + 1 else walk.level)
    by true = omega arith
    by false = omega arith

once_level : (walk : TableWalk) → walk.level ≤ 4 → (gone_up_once walk).level ≤ 4
once_level walk most = by (walk.index == 511) (nat_lt walk.level 4) refl
  where
    by : (last lower : Bool) → nat_lt walk.level 4 ≡ lower → (if last && lower then walk.level + 1 else walk.level) ≤ 4
    by true true is = grind (arith, nat_tests)
    by true false is = most
    by false lower is = most

once_goes : (walk : TableWalk) (level : ℕ) → 1 ≤ walk.level → (gone_up_once walk).level ≤ level → level ≤ 4 → GoesOnAt walk (gone_up_once walk) level
once_goes walk level from down most = by ((walk.index == 511) && nat_lt walk.level 4) down
  where
    moved : Bool → TableWalk
    moved b = record walk {
      level = if b then walk.level + 1 else walk.level;
      prefix = if b then walk.prefix / 512 else walk.prefix;
      index = if b then walk.prefix % 512 else walk.index;
    }

    by : (b : Bool) → (moved b).level ≤ level → GoesOnAt walk (moved b) level
    by false at_least = record { from = from; down = at_least; table = refl; span = refl }
    by true at_least =
        let lower : level - walk.level ≡ (level - (walk.level + 1)) + 1 = omega (arith, at_least) in
        record {
          from = from;
          down = omega (arith, at_least);
          table = refl;
          span = up_run (level - (walk.level + 1)) walk.prefix (omega (arith, from, most)) ∙ ap (λ n. walk.prefix / 512 ^ n) (sym lower);
        }

pub up_level : (walk : TableWalk) → walk.level ≤ 4 → (gone_up walk).level ≤ 4
up_level walk most = once_level (gone_up_once (gone_up_once walk)) (once_level (gone_up_once walk) (once_level walk most))

pub up_goes : (walk : TableWalk) (level : ℕ) → 1 ≤ walk.level → (gone_up walk).level ≤ level → level ≤ 4 → GoesOnAt walk (gone_up walk) level
up_goes walk level from down most =
    let one = once_higher walk in
    let two = once_higher (gone_up_once walk) in
    let three = once_higher (gone_up_once (gone_up_once walk)) in
    on_up (once_goes walk level from (omega (arith, two, three, down)) most)
    (on_up (once_goes (gone_up_once walk) level (omega (arith, from, one)) (omega (arith, three, down)) most)
    (once_goes (gone_up_once (gone_up_once walk)) level (omega (arith, from, one, two)) down most))

-- And goes on from there.
sweep_goes : (walk : TableWalk) (index v : ℕ) → 1 ≤ walk.level → index < 512
    → GoesOn walk (gone_down (linked_page (kind_of (gone_up walk).level v)) (gone_up walk) index v)
sweep_goes walk index v from low level there above most =
    let on = down_goes (linked_page (kind_of (gone_up walk).level v)) (gone_up walk) index v low level there above most in
    on_up (up_goes walk level from on.down most) on

-- A walk that begins anew goes on from the root.
anew_goes : (walk : TableWalk) (index v : ℕ) → index < 512 → 1 ≤ walk.level → walk.level ≤ 4 → span_at 4 walk ≡ 0
    → GoesOn walk (walked (at_top walk) index v)
anew_goes walk index v low there most top = by (linked_page (kind_of 4 v))
  where
    by : (o : Option ℕ) → GoesOn walk (gone_down o (at_top walk) index v)
    by None level from above few = absurd (omega (arith, above, few))
    by (Some page) level from above few =
        let four : level ≡ 4 = omega (arith, above, few) in
        let none : (0 * 512 + index) / 512 ≡ 0 = omega (arith, low) in
        subst (GoesOnAt walk (gone_down (Some page) (at_top walk) index v)) (sym four)
        (record { from = there; down = most; table = refl; span = none ∙ sym top })

-- ---- After each step of a part.

-- A sweep goes on from a table.
abbrev pub IsInTable : PartStep → TableWalk → Type 0
IsInTable (part.Sweep gfn) walk = 1 ≤ walk.level
IsInTable (part.WalkAnew gfn) walk = (1 ≤ walk.level) × (walk.level ≤ 4) × (span_at 4 walk ≡ 0)
IsInTable _ walk = Unit {0}

pub in_table : (step : PartStep) (h : Held) → PartNeeds step h → (1 ≤ h.topics.walk.level → (h.topics.walk.level ≤ 4) × (span_at 4 h.topics.walk ≡ 0))
    → IsInTable step h.topics.walk
in_table (part.Sweep gfn) h N top = N.there
in_table (part.WalkAnew gfn) h N top = let T = top N.there in (N.there, T.0, T.1)
in_table _ h N top = tt

pub part_goes : (step : PartStep) (t : Topics) (v : ℕ) → IsInTable step t.walk → GoesOn t.walk (part_topics step t v).walk
part_goes part.Enter t v from = kept_goes false t.walk
part_goes part.Leave t v from = kept_goes false t.walk
part_goes part.Begin t v from = kept_goes false t.walk
part_goes part.End t v from = kept_goes false t.walk
part_goes part.Unshare t v from = kept_goes (not (is_outside t.stay)) t.walk
part_goes part.Release t v from = kept_goes (not (is_outside t.stay)) t.walk
part_goes part.Root t v from = rooted_goes (may_walk t.stay t.hold) t.walk v
part_goes (part.Walk gfn) t v from = down_goes (linked_page (kind_of t.walk.level v)) t.walk _ v (omega arith)
part_goes (part.Sweep gfn) t v from = sweep_goes t.walk _ v from (omega arith)
part_goes (part.WalkAnew gfn) t v from = anew_goes t.walk (entry_index gfn 4) v (omega arith) from.0 from.1 from.2
part_goes (part.Link gfn) t v from = swap_goes (v == t.walk.entry) t.walk _ (link_written t) v (omega arith)
part_goes (part.Leaf gfn write) t v from = swap_goes (v == t.walk.entry) t.walk _ (leaf_written gfn write t) v (omega arith)
part_goes (part.Fix gfn) t v from = swap_goes (v == t.walk.entry) t.walk _ (leaf_fixed t) v (omega arith)
part_goes (part.Zap gfn) t v from = down_goes None t.walk _ 0 (omega arith)
part_goes (part.Protect gfn) t v from = down_goes None t.walk _ (without_write t.walk.entry) (omega arith)
part_goes _ t v from = stays t.walk

-- ---- The tables of a walk stand after each step.

own_span : (walk : TableWalk) → walk.prefix ≡ span_at walk.level walk
own_span walk = let none : walk.level - walk.level ≡ 0 = omega arith in sym (ap (λ n. walk.prefix / 512 ^ n) none ∙ omega arith)

-- The table that the walk has come to stands so as those that it has gone through.
pub whole_path : (stands : ℕ → Option Position) (t : Topics) → HeldPart stands t → PathPart stands t.walk → (level : ℕ) → 1 ≤ t.walk.level
    → t.walk.level ≤ level → level ≤ 4 → stands (table_at level t.walk) ≡ Some (at level (span_at level t.walk))
whole_path stands t H P level from down most = by (cases_lt t.walk.level level)
  where
    by : (t.walk.level < level) ⊎ (level ≤ t.walk.level) → stands (table_at level t.walk) ≡ Some (at level (span_at level t.walk))
    by (inl above) = P level from above most
    by (inr not_above) =
        let here : t.walk.level ≡ level = omega (arith, down, not_above) in
        subst (λ l. stands (table_at l t.walk) ≡ Some (at l (span_at l t.walk))) here
        (H.table from ∙ ap (λ r. Some (at t.walk.level r)) (own_span t.walk))

-- The root of a walk is the table at the top.
pub top_span : {pages root : ℕ} {role pool : ℕ → ℕ} {up : ℕ → Use} {spot : ℕ → Position} → TreePart pages root role pool up spot → (t : Topics)
    → HeldPart (stands up spot) t → PathPart (stands up spot) t.walk → 1 ≤ t.walk.level → (t.walk.level ≤ 4) × (span_at 4 t.walk ≡ 0)
top_span {up = up} {spot = spot} T t H P from =
    let most = (T.there _ _ (H.table from)).2 in
    let at_4 = whole_path (stands up spot) t H P 4 from most (omega arith) in (
      most,
      table_or T (table_at 4 t.walk) (at 4 (span_at 4 t.walk)) at_4
          (λ e. ap (λ (p : Position). p.prefix) (one_position (sym at_4 ∙ ap (stands up spot) (T.only _ e) ∙ root_stands T)))
          (λ m j e V. absurd (let lower = V.lower in omega (arith, lower))),
    )

pub top_stands : {pages root : ℕ} {role pool : ℕ → ℕ} {up : ℕ → Use} {spot : ℕ → Position} → TreePart pages root role pool up spot → (t : Topics)
    → HeldPart (stands up spot) t → PathPart (stands up spot) t.walk → 1 ≤ t.walk.level → stands up spot t.walk.root ≡ Some (at 4 0)
top_stands {up = up} {spot = spot} T t H P from =
    let S = top_span T t H P from in
    whole_path (stands up spot) t H P 4 from S.0 (omega arith) ∙ ap (λ r. Some (at 4 r)) S.1

-- So does the one to which it goes up.
pub up_stands : (stands : ℕ → Option Position) (t : Topics) → HeldPart stands t → PathPart stands t.walk → 1 ≤ t.walk.level → t.walk.level ≤ 4
    → stands (table_page (gone_up t.walk)) ≡ Some (at (gone_up t.walk).level (gone_up t.walk).prefix)
up_stands stands t H P from most =
    let up : TableWalk = gone_up t.walk in
    let on = up_goes t.walk up.level from (omega arith) (up_level t.walk most) in
    ap stands on.table ∙ whole_path stands t H P up.level from on.down (up_level t.walk most)
    ∙ ap (λ r. Some (at up.level r)) (sym (own_span up ∙ on.span))

-- A walk that went on is at tables where those stand that it had come to.
path_on : (before after : ℕ → Option Position) (t s : Topics) → ((k : ℕ) (p : Position) → before k ≡ Some p → after k ≡ Some p) → GoesOn t.walk s.walk
    → HeldPart before t → PathPart before t.walk → PathPart after s.walk
path_on before after t s stay goes H P level from above most =
    let on = goes level from above most in
    stay (table_at level s.walk) (at level (span_at level s.walk))
    (ap before on.table ∙ whole_path before t H P level on.from on.down most ∙ ap (λ r. Some (at level r)) (sym on.span))

-- what is said of the paths of all walks, of a view
abbrev PathsAt : Sizes → (ℕ → Option Position) → View → Type 0
PathsAt z stands v = (i : ℕ) → i < actors_of z → PathPart stands (v.hand i).topics.walk

pub paths_kept : (z : Sizes) (v : View) (a : ℕ) (step : PartStep) (note : ℕ) → IsPart z v a step → (I : TopicsInvariant z v)
    → PathsAt z (stands (up_after step a (v.hand a).topics v I.up) (spot_after step (v.hand a).topics v I.spot)) (part_stepped a step note v)
paths_kept z v a step note S I = behind_step (PathsAt z after) z v a step note S behind
  where
    after : ℕ → Option Position
    after = stands (up_after step a (v.hand a).topics v I.up) (spot_after step (v.hand a).topics v I.spot)

    behind : PathsAt z after (part_behind a step note v)
    behind =
        at_upd (λ i (h : Held). i < actors_of z → PathPart after h.topics.walk) v.hand a _
        (λ lt. path_on (stands I.up I.spot) after (v.hand a).topics
        (part_topics step (v.hand a).topics (answer_in (part_task step a (v.hand a).topics note) v.words)) (stays_standing z v a step S I)
        (part_goes step (v.hand a).topics _ (in_table step (v.hand a) S.needs (top_span I.tree (v.hand a).topics (I.held a lt) (I.paths a lt))))
        (I.held a lt) (I.paths a lt))
        (λ i apart lt level from above most. stays_standing z v a step S I (table_at level (v.hand i).topics.walk)
        (at level (span_at level (v.hand i).topics.walk)) (I.paths i lt level from above most))
