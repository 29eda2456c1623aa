use Rattle.std.proofs.Common.{◌≡◌, ◌+◌, ◌-◌, ◌%◌, ◌≤◌, ℕ, Bool, true, ap, sym, ◌∙◌, arith, nat_eq}
use Rattle.std.specs.Prelude.{◌&&◌, ◌==◌, nat_le}
use Rattle.std.proofs.lemmas.Bool.Decides.{nat_tests}
use Rattle.std.proofs.Math.Nat.{mod-add-mod, mod-le}
use Rattle.core_views.specs.declared.trace.Slot.{Slot as SlotOf}
use Rattle.spte_words.specs.Entries.{level_span}
use Rattle.part_steps.specs.RunHoldings.{has_run}
use Rattle.part_steps.specs.SlotWords.{page_of}
use Rattle.part_twins.proofs.runs.has_run.Goals.{then-slot-first, else-slot-first}
use Rattle.part_twins.proofs.runs.has_run.Goals as goal

-- Where the slot has the whole run, what is left to tell is how far the page is from the first of its run.
run_within : (level gfn : ℕ) (slot : SlotOf) → slot.base ≤ gfn - gfn % level_span level
    → gfn - gfn % level_span level - slot.base + level_span level ≤ slot.pages
    → (page_of slot gfn % level_span level == gfn % level_span level) ≡ has_run level gfn slot
run_within level gfn slot from to =
    let offset : gfn % level_span level ≤ gfn = mod-le gfn (level_span level) in
    let begins : nat_le (slot.base + gfn % level_span level) gfn ≡ true = grind (arith, nat_tests) in
    let ends : nat_le (gfn + level_span level) (slot.base + slot.pages + gfn % level_span level) ≡ true = grind (arith, nat_tests) in
    sym (ap (λ (b : Bool). b && (nat_le (gfn + level_span level) (slot.base + slot.pages + gfn % level_span level)
    && page_of slot gfn % level_span level == gfn % level_span level)) begins
    ∙ ap (λ (b : Bool). b && page_of slot gfn % level_span level == gfn % level_span level) ends)

pub returns-then-first-slot : goal.returns-then-first-slot
returns-then-first-slot c =
    let s = c.level_span-span.result in
    let first = c.args.gfn - c.args.gfn % s in
    let from : c.args.slot.now.base ≤ first = elim c.if-slot-first.branch [
      | then-slot-first w ↦ w.if-slot-first.true
      | else-slot-first w ↦ grind (arith, nat_tests, w.value-is, c.if-first-slot.true, w.if-slot-first.false)
    ] in
    let to : first - c.args.slot.now.base + s ≤ c.args.slot.now.pages = elim c.if-slot-first.branch [
      | then-slot-first w ↦ grind (arith, nat_tests, w.value-is, c.if-first-slot.true)
      | else-slot-first w ↦ grind (arith, nat_tests, w.value-is, c.if-first-slot.true, w.if-slot-first.false)
    ] in
    let near = mod-add-mod c.args.slot.now.host s (c.args.gfn - c.args.slot.now.base) in
    ap (λ (n : ℕ). nat_eq n (c.args.gfn % s)) near
    ∙ (rw c.level_span-span.ensures (run_within c.args.level c.args.gfn c.args.slot.now
    (rw c.level_span-span.ensures at from) (rw c.level_span-span.ensures at to)))
