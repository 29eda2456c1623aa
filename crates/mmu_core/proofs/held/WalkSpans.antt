-- The span of a walk's table is one of those of its level, after each step of the walk.
use Rattle.std.proofs.Common.{◌≡◌, ◌+◌, ◌*◌, ◌/◌, ◌%◌, ◌^◌, ◌<◌, ◌≤◌, ℕ, subst, ap, ◌∙◌, arith}
use Rattle.std.specs.Prelude.{Bool, true, false, Option, Some, None}
use Rattle.core_views.specs.declared.topics.Stay.{Stay}
use Rattle.core_views.specs.declared.topics.Stay.TheVariants.{Outside}
use Rattle.core_views.specs.declared.topics.TableWalk.{TableWalk}
use Rattle.core_views.specs.declared.topics.Topics.{Topics}
use Rattle.spte_words.specs.Entries.{kind_of, level_span}
use Rattle.spte_words.proofs.Spans.{span_1, span_4}
use Rattle.part_steps.specs.ControlTopics.{at_root}
use Rattle.part_steps.specs.PartHoldings.{IsOver}
use Rattle.part_steps.specs.PartTasks.{entry_index}
use Rattle.part_steps.specs.StayTopics.{let_go}
use Rattle.part_steps.specs.SweepTopics.{at_top}
use Rattle.part_steps.specs.WalkTopics.{gone_down, linked_page, swapped}

-- An entry of the lowest level is over one guest frame.
pub one_frame : (level other gfn : ℕ) → level ≡ 1 → other / level_span level ≡ gfn / level_span level → other ≡ gfn
one_frame level other gfn lowest over =
    let one : level_span level ≡ 1 = ap level_span lowest ∙ span_1 in
    let frames : other / 1 ≡ gfn / 1 = subst (λ n. other / n ≡ gfn / n) one over in
    omega (arith, frames)

-- The span of a walk's table is one of those of its level.
abbrev pub SpanFits : TableWalk → Type 0
SpanFits walk = 1 ≤ walk.level → walk.prefix < 2 ^ 36

-- A walk that is let go has no span.
pub let_go_span : (stay : Stay) (t : Topics) → SpanFits t.walk → SpanFits (let_go (record t { stay = stay })).walk
let_go_span Outside t span = λ from. absurd (omega (arith, from))
let_go_span _ t span = span

pub root_span : (b : Bool) (walk : TableWalk) (v : ℕ) → SpanFits (at_root b walk v)
root_span true walk v = λ from. omega arith
root_span false walk v = λ from. absurd (omega (arith, from))

-- A walk that stands at its root has each guest frame's entry there.
pub over_top : (gfn : ℕ) (walk : TableWalk) → gfn < 2 ^ 36 → IsOver gfn (at_top walk)
over_top gfn walk small = record { small = small; there = omega arith; span = rw span_4 (omega arith) }

-- The guest frame's entry leads to a span that it is in itself, one level down.
span_below : (gfn span prefix : ℕ) → gfn < 2 ^ 36 → gfn / span / 512 ≡ prefix → prefix * 512 + gfn / span % 512 < 2 ^ 36
span_below gfn span prefix small is = let le : gfn / span ≤ gfn = grind arith in omega (arith, small, is, le)

pub gone_span : (gfn v : ℕ) (walk : TableWalk) (o : Option ℕ) → IsOver gfn walk → SpanFits (gone_down o walk (entry_index gfn walk.level) v)
gone_span gfn v walk None over = λ from. omega (arith, span_below gfn (level_span walk.level) walk.prefix over.small over.span)
gone_span gfn v walk (Some page) over = λ from. span_below gfn (level_span walk.level) walk.prefix over.small over.span

pub exchanged_span : (gfn v new_ : ℕ) (walk : TableWalk) (won : Bool) → IsOver gfn walk → SpanFits (swapped won walk (entry_index gfn walk.level) new_ v)
exchanged_span gfn v new_ walk true over = gone_span gfn new_ walk (linked_page (kind_of walk.level new_)) over
exchanged_span gfn v new_ walk false over = gone_span gfn v walk None over

-- The entry that is kept is a number of 64 bits.
pub gone_entry : (o : Option ℕ) (walk : TableWalk) (j v : ℕ) → v < 2 ^ 64 → (gone_down o walk j v).entry < 2 ^ 64
gone_entry None walk j v small = small
gone_entry (Some page) walk j v small = small

pub exchanged_entry : (won : Bool) (walk : TableWalk) (j new_ v : ℕ) → new_ < 2 ^ 64 → v < 2 ^ 64 → (swapped won walk j new_ v).entry < 2 ^ 64
exchanged_entry true walk j new_ v few small = gone_entry (linked_page (kind_of walk.level new_)) walk j new_ few
exchanged_entry false walk j new_ v few small = small
