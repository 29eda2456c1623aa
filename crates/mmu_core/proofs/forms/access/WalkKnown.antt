-- Walks: which guest frame the table is over that a walk comes to, and what a loaded entry tells.
use Rattle.std.proofs.Common.{◌≡◌, ◌+◌, ◌-◌, ◌*◌, ◌/◌, ◌%◌, ◌^◌, ◌<◌, ◌≤◌, ℕ, refl, subst, ap, ◌∙◌, arith}
use Rattle.std.specs.Prelude.{Bool, true, false, ◌==◌, if◌then◌else◌, Some, None}
use Rattle.std.proofs.lemmas.Bool.Decides.{nat_tests}
use Rattle.core_views.specs.declared.topics.TableWalk.{TableWalk}
use Rattle.spte_words.specs.declared.spte_kind.SpteKind.TheVariants as entry_kind
use Rattle.spte_words.specs.Bits.{has_bit}
use Rattle.spte_words.specs.Entries.{frozen_word, is_leaf_at, kind_of, level_span}
use Rattle.spte_words.proofs.Spans.{span_1, span_2, span_3, span_4}
use Rattle.part_steps.specs.PartTasks.{entry_index}
use Rattle.part_steps.specs.PartHoldings.{IsOver, SawEntry}
use Rattle.part_steps.specs.WalkTopics.{gone_down}
use Rattle.part_steps.specs.ControlTopics.{at_root}

-- the walk: a link leads down to the table that has the guest frame's entry of the level below
span_down : (gfn level : ℕ) → 2 ≤ level → level ≤ 4 → gfn / level_span (level - 1) / 512 ≡ gfn / level_span level / 512 * 512 + gfn / level_span level % 512
span_down gfn level from to = by (level == 2) (level == 3) refl refl
  where
    by : (two three : Bool) → (level == 2) ≡ two → (level == 3) ≡ three
        → gfn / level_span (level - 1) / 512 ≡ gfn / level_span level / 512 * 512 + gfn / level_span level % 512
    by true three is other = let e : level ≡ 2 = grind (arith, nat_tests) in rw e (rw (span_1, span_2) (omega arith))
    by false true is other = let e : level ≡ 3 = grind (arith, nat_tests) in rw e (rw (span_2, span_3) (omega arith))
    by false false is other = let e : level ≡ 4 = grind (arith, nat_tests) in rw e (rw (span_3, span_4) (omega arith))

-- At the lowest level nothing is a link.
no_link : (w page : ℕ) → kind_of 1 w ≡ entry_kind.Table page → ⊥
unfolding kind_of is_leaf_at
no_link w page e = by (w == frozen_word) (has_bit 11 w) e
  where
    by : (frozen present : Bool) → (if frozen then entry_kind.Frozen else if present then entry_kind.Leaf else entry_kind.Absent) ≡ entry_kind.Table page → ⊥
    by true present f = cc f
    by false true f = cc f
    by false false f = cc f

pub above_lowest : (level w page : ℕ) → 1 ≤ level → kind_of level w ≡ entry_kind.Table page → 2 ≤ level
above_lowest level w page from e = by (level == 1) refl
  where
    by : (b : Bool) → (level == 1) ≡ b → 2 ≤ level
    by true is = let one : level ≡ 1 = grind (arith, nat_tests) in absurd (no_link w page (subst (λ l. kind_of l w ≡ entry_kind.Table page) one e))
    by false is = grind (arith, nat_tests)

pub gone_over : (gfn page v : ℕ) (walk : TableWalk) → 2 ≤ walk.level → walk.level ≤ 4 → IsOver gfn walk
    → IsOver gfn (gone_down (Some page) walk (entry_index gfn walk.level) v)
gone_over gfn page v walk from to O = record {
  small = O.small;
  there = omega arith;
  span = span_down gfn walk.level from to ∙ ap (λ n. n * 512 + gfn / level_span walk.level % 512) O.span;
}

pub root_over : (gfn v : ℕ) (walk : TableWalk) → gfn < 2 ^ 36 → IsOver gfn (at_root true walk v)
root_over gfn v walk small = record { small = small; there = omega arith; span = rw span_4 (omega arith) }

-- the guest frame's entry was loaded
pub saw_it : (gfn v : ℕ) (walk : TableWalk) → IsOver gfn walk → SawEntry gfn (gone_down None walk (entry_index gfn walk.level) v)
saw_it gfn v walk O = record { over = record { small = O.small; there = O.there; span = O.span }; loaded = refl }
