-- Outside of a section no mark is owed: each step of a part keeps it. A mark comes to be owed in a section alone, and no section ends with one.
use Rattle.std.proofs.Common.{◌≡◌, ◌+◌, ◌*◌, ◌/◌, ◌%◌, ◌<◌, ℕ, refl, subst, ap, ◌∙◌, arith}
use Rattle.std.specs.Prelude.{Bool, true, false, ◌==◌, Option, Some, None}
use Rattle.std.proofs.lemmas.Bool.Decides.{nat_tests}
use Rattle.core_views.specs.declared.topics.TableWalk.{TableWalk}
use Rattle.spte_words.specs.Entries.{can_write, level_span}
use Rattle.part_steps.specs.PartHoldings.{IsOver}
use Rattle.part_steps.specs.PartTasks.{entry_index}
use Rattle.part_steps.specs.WalkTopics.{owed_after}
use Rattle.core_views.specs.declared.topics.Stay.TheVariants.{Section}
use Rattle.core_views.specs.declared.topics.Topics.{Topics}
use Rattle.core_views.specs.declared.sizes.Sizes.{Sizes}
use Rattle.core_views.specs.Held.{Held}
use Rattle.core_views.specs.Sizes.{actors_of}
use Rattle.part_steps.specs.declared.part_step.PartStep.{PartStep}
use Rattle.part_steps.specs.declared.part_step.PartStep.TheVariants as part
use Rattle.part_steps.specs.PartSteps.{PartNeeds}
use Rattle.part_steps.specs.PartTopics.{part_topics}
use Rattle.part_steps.specs.StayTopics.{is_section}
use Rattle.mmu_core.specs.invariant.HeldPart.{OwedPart}
use Rattle.mmu_core.specs.invariant.TopicsInvariant.{TopicsInvariant}
use Rattle.mmu_core.specs.machine.View.{View, part_stepped}
use Rattle.mmu_core.proofs.machine.Columns.{at_upd}
use Rattle.mmu_core.proofs.machine.PartStepping.{IsPart}
use Rattle.mmu_core.proofs.words.PartTopics.{behind_step}

-- In a section any mark may be owed.
inside : (t : Topics) → t.stay ≡ Section → OwedPart t
inside t section out = absurd (let is = ap is_section section in cc (is, out))

owed_behind : (step : PartStep) (h : Held) (v : ℕ) → PartNeeds step h → OwedPart h.topics → OwedPart (part_topics step h.topics v)
owed_behind part.Enter h v needs owes = λ out. owes (ap is_section needs.1)
owed_behind part.Leave h v needs owes = λ out. owes (ap is_section needs)
owed_behind part.Begin h v needs owes = λ out. absurd (cc out)
owed_behind part.End h v needs owes = λ out. needs.1
owed_behind (part.Link gfn) h v needs owes = inside (part_topics (part.Link gfn) h.topics v) needs.0.section
owed_behind (part.Leaf gfn write) h v needs owes = inside (part_topics (part.Leaf gfn write) h.topics v) needs.0.section
owed_behind (part.Fix gfn) h v needs owes = inside (part_topics (part.Fix gfn) h.topics v) needs.section
owed_behind part.Mark h v needs owes = λ out. refl
owed_behind _ h v needs owes = owes

abbrev OwedAt : Sizes → View → Type 0
OwedAt z v = (i : ℕ) → i < actors_of z → OwedPart (v.hand i).topics

pub owed_kept : (z : Sizes) (v : View) (a : ℕ) (step : PartStep) (note : ℕ) → IsPart z v a step → TopicsInvariant z v → OwedAt z (part_stepped a step note v)
owed_kept z v a step note S I =
    behind_step (OwedAt z) z v a step note S
    (at_upd (λ i (h : Held). i < actors_of z → OwedPart h.topics) v.hand a _ (λ lt. owed_behind step (v.hand a) _ S.needs (I.owed a lt))
    (λ i ne lt. I.owed i lt))

-- ---- how a mark becomes owed

-- An exchange that is won and puts a leaf which allows writes, where the search has found the log, leaves a mark owed for the guest frame.
pub mark_owed : (won logged : Bool) (walk : TableWalk) (gfn new_ : ℕ) (owed : Option ℕ) → won ≡ true → logged ≡ true → walk.level ≡ 1 → IsOver gfn walk
    → can_write new_ ≡ true → owed_after won logged walk (entry_index gfn walk.level) new_ owed ≡ Some gfn
unfolding level_span
mark_owed won logged walk gfn new_ owed wins finds lowest over writes =
    let low : (walk.level == 1) ≡ true = grind (arith, nat_tests) in
    rw (wins, low, finds, writes) (ap Some frame)
  where
    at_lowest : gfn / 1 / 512 ≡ walk.prefix → walk.prefix * 512 + gfn / 1 % 512 ≡ gfn
    at_lowest is = omega (arith, is)

    frame : walk.prefix * 512 + entry_index gfn walk.level ≡ gfn
    frame =
        ap (λ l. walk.prefix * 512 + entry_index gfn l) lowest
        ∙ at_lowest (subst (λ l. gfn / level_span l / 512 ≡ walk.prefix) lowest over.span)

-- ---- how long a mark is owed

-- The step marks a page.
abbrev pub is_mark : PartStep → Bool
is_mark part.Mark = true
is_mark _ = false

not_both : (gfn : ℕ) (t : Topics) → t.owed ≡ Some gfn → t.owed ≡ None → ⊥
not_both gfn t owed none = cc (owed, none)

-- What is owed stays owed but for the mark.
pub owed_stays : (step : PartStep) (h : Held) (v gfn : ℕ) → PartNeeds step h → is_mark step ≡ false → h.topics.owed ≡ Some gfn
    → (part_topics step h.topics v).owed ≡ Some gfn
owed_stays part.Mark h v gfn needs other owed = absurd (cc other)
owed_stays (part.Link frame) h v gfn needs other owed = absurd (not_both gfn h.topics owed needs.0.owes_none)
owed_stays (part.Leaf frame write) h v gfn needs other owed = absurd (not_both gfn h.topics owed needs.0.owes_none)
owed_stays (part.Fix frame) h v gfn needs other owed = absurd (not_both gfn h.topics owed needs.owes_none)
owed_stays _ h v gfn needs other owed = owed
