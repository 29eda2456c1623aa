-- Where a walk stands after a link, and which word it loaded.
use Rattle.std.proofs.Common.{◌≡◌, ◌+◌, ◌-◌, ◌*◌, ◌/◌, ◌<◌, ◌≤◌, ℕ, zero, suc, Option, Some, None, refl, sym, subst, ap, ◌∙◌, arith}
use Rattle.std.specs.Prelude.{Bool, true, false, ◌==◌, if◌then◌else◌, ◌%◌, ◌^◌}
use Rattle.std.proofs.lemmas.Bool.Decides.{nat_tests}
use Rattle.core_views.specs.declared.topics.TableWalk.{TableWalk}
use Rattle.core_views.specs.declared.topics.Topics.{Topics}
use Rattle.core_views.specs.Held.{Held}
use Rattle.spte_words.specs.declared.spte_kind.SpteKind.{SpteKind}
use Rattle.spte_words.specs.declared.spte_kind.SpteKind.TheVariants as entry_kind
use Rattle.spte_words.specs.Bits.{has_bit}
use Rattle.spte_words.specs.Entries.{frame_in, frozen_word, is_leaf_at, kind_of, level_span}
use Rattle.spte_words.proofs.Spans.{span_1, span_2, span_3, span_4}
use Rattle.part_steps.specs.declared.part_step.PartStep.TheVariants as part
use Rattle.part_steps.specs.PartTasks.{entry_index, table_page}
use Rattle.part_steps.specs.PartHoldings.{IsOver, SawEntry}
use Rattle.part_steps.specs.PartSteps.{PartNeeds}
use Rattle.part_steps.specs.PartTopics.{part_topics}
use Rattle.part_steps.specs.StayTopics.{may_walk}
use Rattle.part_steps.specs.WalkTopics.{gone_down, linked_page}
use Rattle.part_steps.specs.ControlTopics.{at_root}
use Rattle.step_seats.specs.Seats.{Seat}
use Rattle.step_seats.specs.PartTurns.{MadePart, WherePartMade}
use Rattle.tdp_walk.specs.declared.walk.Walk.{Walk}
use Rattle.tdp_walk.specs.Walks.{FoundNext, GoesDown, StandsAtRoot, StopsAt, walk_step}
use Rattle.mmu_core.proofs.held.HeldTopics.{page_below}
use Rattle.step_seats.proofs.Where.{telling, where_made}
use Rattle.step_seats.proofs.Found.{found_told}

-- At level 1 no entry is a link.
lowest : (v page : ℕ) → kind_of 1 v ≡ entry_kind.Table page → ⊥
unfolding kind_of is_leaf_at
lowest v page is = by (v == frozen_word) (has_bit 11 v) is
  where
    by : (a b : Bool)
        → (if a then entry_kind.Frozen else if b then (if true then entry_kind.Leaf else entry_kind.Table (frame_in v % 2 ^ 32))
        else entry_kind.Absent) ≡ entry_kind.Table page
        → ⊥
    by true b e = absurd (cc e)
    by false true e = absurd (cc e)
    by false false e = absurd (cc e)

above : (level v page : ℕ) → kind_of level v ≡ entry_kind.Table page → 1 ≤ level → 2 ≤ level
above level v page is from = by (level == 1) (λ e. grind (arith, nat_tests)) (λ e. grind (arith, nat_tests))
  where
    by : (b : Bool) → (b ≡ true → level ≡ 1) → (b ≡ false → 2 ≤ level) → 2 ≤ level
    by true one more = absurd (lowest v page (subst (λ l. kind_of l v ≡ entry_kind.Table page) (one refl) is))
    by false one more = more refl

-- The guest frame's span one level down: its number among the spans of this level, and its place in that one.
span_below : (level gfn prefix : ℕ) → 2 ≤ level → level ≤ 4 → gfn / level_span level / 512 ≡ prefix
    → gfn / level_span (level - 1) / 512 ≡ prefix * 512 + gfn / level_span level % 512
span_below zero gfn prefix from to is = absurd (omega arith)
span_below (suc zero) gfn prefix from to is = absurd (omega arith)
span_below (suc (suc zero)) gfn prefix from to is =
    let span : gfn / 512 / 512 ≡ prefix = sym (ap (λ n. gfn / n / 512) span_2) ∙ is in
    let below : gfn / 1 / 512 ≡ prefix * 512 + gfn / 512 % 512 = omega (arith, span) in
    ap (λ n. gfn / n / 512) span_1 ∙ below ∙ ap (λ n. prefix * 512 + gfn / n % 512) (sym span_2)
span_below (suc (suc (suc zero))) gfn prefix from to is =
    let span : gfn / 262144 / 512 ≡ prefix = sym (ap (λ n. gfn / n / 512) span_3) ∙ is in
    let below : gfn / 512 / 512 ≡ prefix * 512 + gfn / 262144 % 512 = omega (arith, span) in
    ap (λ n. gfn / n / 512) span_2 ∙ below ∙ ap (λ n. prefix * 512 + gfn / n % 512) (sym span_3)
span_below (suc (suc (suc (suc zero)))) gfn prefix from to is =
    let span : gfn / 134217728 / 512 ≡ prefix = sym (ap (λ n. gfn / n / 512) span_4) ∙ is in
    let below : gfn / 262144 / 512 ≡ prefix * 512 + gfn / 134217728 % 512 = omega (arith, span) in
    ap (λ n. gfn / n / 512) span_3 ∙ below ∙ ap (λ n. prefix * 512 + gfn / n % 512) (sym span_4)
span_below (suc (suc (suc (suc (suc level))))) gfn prefix from to is = absurd (omega arith)

-- The root is over every guest frame below 2 ^ 36.
pub stands_at_root : (before after : Topics) (gfn v : ℕ) → gfn < 2 ^ 36 → may_walk before.stay before.hold ≡ true
    → after ≡ part_topics part.Root before v → StandsAtRoot gfn before after
stands_at_root before after gfn v small may made = record {
  over = subst (IsOver gfn) (sym walk) over;
  others = same ∙ ap (λ root. record before { walk = record before.walk { level = 4; prefix = 0; root = root; index = 512 } })
      (sym (ap (λ (x : TableWalk). x.root) walk));
}
  where
    same : after ≡ record before { walk = at_root true before.walk v }
    same = made ∙ ap (λ (b : Bool). record before { walk = at_root b before.walk v }) may

    walk : after.walk ≡ at_root true before.walk v
    walk = ap (λ (t : Topics). t.walk) same

    over : IsOver gfn (at_root true before.walk v)
    over = record { small = small; there = omega arith; span = ap (λ n. gfn / n / 512) span_4 ∙ omega (arith, small) }

pub goes_down : (before after : Topics) (gfn v page : ℕ) → IsOver gfn before.walk → before.walk.level ≤ 4
    → kind_of before.walk.level v ≡ entry_kind.Table page → after ≡ part_topics (part.Walk gfn) before v → GoesDown gfn before after
goes_down before after gfn v page over to is made =
    let two = above before.walk.level v page is over.there in
    let j : ℕ = entry_index gfn before.walk.level in
    let w : TableWalk = gone_down (Some page) before.walk j v in
    let walk : after.walk ≡ w = ap (λ (t : Topics). t.walk) made ∙ ap (λ (k : SpteKind). gone_down (linked_page k) before.walk j v) is in
    let level : after.walk.level ≡ before.walk.level - 1 = ap (λ (x : TableWalk). x.level) walk in
    record {
      page = page;
      link = ap (kind_of before.walk.level) (ap (λ (x : TableWalk). x.entry) walk) ∙ is;
      down = omega (arith, level, two);
      there = ap table_page walk ∙ page_below before.walk.level before.walk.root before.walk.third before.walk.second before.walk.first page two to;
      over =
          subst (IsOver gfn) (sym walk)
          (record { small = over.small; there = omega (arith, two); span = span_below before.walk.level gfn before.walk.prefix two to over.span });
      others = made ∙ ap (λ (x : TableWalk). record before { walk = x }) (sym (ap (λ (t : Topics). t.walk) made));
    }

-- Where the entry is no link the walk stays, and has seen it.
pub stops_at : (kind : SpteKind) (before after : Topics) (gfn v level : ℕ) → linked_page kind ≡ None → IsOver gfn before.walk
    → level ≡ before.walk.level → kind_of level v ≡ kind → after ≡ part_topics (part.Walk gfn) before v
    → (v ≡ after.walk.entry) × StopsAt kind level gfn before after
stops_at kind before after gfn v level none over here is made = (
  sym entry,
  record {
    is = ap (kind_of level) entry ∙ is;
    here = here;
    saw = subst (SawEntry gfn) (sym walk) (record { over = record { small = over.small; there = over.there; span = over.span }; loaded = refl });
    others =
        made ∙ ap (λ (x : TableWalk). record before { walk = x }) (sym (ap (λ (t : Topics). t.walk) made) ∙ walk)
        ∙ ap (λ (x : TableWalk). record before { walk = record before.walk { index = x.index; entry = x.entry } }) (sym walk);
  },
)
  where
    walk : after.walk ≡ gone_down None before.walk (entry_index gfn before.walk.level) v
    walk =
        ap (λ (t : Topics). t.walk) made ∙ ap (λ (k : SpteKind). gone_down (linked_page k) before.walk (entry_index gfn before.walk.level) v)
        (ap (λ l. kind_of l v) (sym here) ∙ is) ∙ ap (λ (o : Option ℕ). gone_down o before.walk (entry_index gfn before.walk.level) v) none

    entry : after.walk.entry ≡ v
    entry = ap (λ (x : TableWalk). x.entry) walk

keeps_entry : (to : Option ℕ) (w : TableWalk) (j v : ℕ) → (gone_down to w j v).entry ≡ v
keeps_entry None w j v = refl
keeps_entry (Some page) w j v = refl

pub root_found : (walk : Walk) (note found : ℕ) (before after : Seat) → walk.rooted ≡ false → MadePart part.Root note found before after
    → WherePartMade (walk_step walk) note before after (λ w t. FoundNext walk before.hand after.hand w)
root_found walk note found before after not_yet made =
    subst (λ (b : Bool). WherePartMade (if b then part.Walk walk.gfn else part.Root) note before after (λ w t. FoundNext walk before.hand after.hand w))
    (sym not_yet)
    (where_made made (λ w at has. rw (not_yet) (ap (λ (t : Topics). t.walk.root) made.topics ∙ found_told part.Root note found (telling w before) _ at tt)))

-- the walk has come to a table with the guest frame's entry
pub is_over : (walk : Walk) (h : Held) → walk.rooted ≡ true → PartNeeds (walk_step walk) h → IsOver walk.gfn h.topics.walk
is_over walk h already needs = let both = rw already at needs in both.0

pub entry_found : (walk : Walk) (note found : ℕ) (before after : Seat) → walk.rooted ≡ true → PartNeeds (walk_step walk) before.hand
    → MadePart (part.Walk walk.gfn) note found before after
    → WherePartMade (walk_step walk) note before after (λ w t. FoundNext walk before.hand after.hand w)
entry_found walk note found before after already needs made =
    let loaded = keeps_entry (linked_page (kind_of before.hand.topics.walk.level found)) before.hand.topics.walk
    (entry_index walk.gfn before.hand.topics.walk.level) found in
    subst (λ (b : Bool). WherePartMade (if b then part.Walk walk.gfn else part.Root) note before after (λ w t. FoundNext walk before.hand after.hand w))
    (sym already)
    (where_made made (λ w at has. rw (already)
    (ap (λ (t : Topics). t.walk.entry) made.topics ∙ loaded
    ∙ found_told (part.Walk walk.gfn) note found (telling w before) _ at (rw already at needs))))
