use Rattle.std.proofs.Common.{◌∙◌, ap, subst, sym}
use Rattle.core_views.specs.Held.{Held}
use Rattle.spte_words.specs.declared.word_map.WordMap.{WordMap}
use Rattle.mmu_core.specs.machine.Enabled.{Enabled}
use Rattle.step_seats.specs.Machines.{world_in}
use Rattle.step_printing.specs.Rows.{place_in}
use Rattle.step_printing.proofs.Rows.{row_is, row_made}
use Rattle.step_printing.proofs.row.next_row.Goals as goal

pub returns : goal.returns
returns c = λ k enabled.
    let w = world_in c.args.machine.now in
    let own = c.next_kind-kind.result in
    let has = c.hand-hand.ensures.has.is in
    row_made c.args.sizes.now c.args.number w c.args.index own c.progress.result.now.actor c.place_in-place.result c.role_shown.result
    c.word-found.result c.after.result
    (ap (λ p. p.actor) c.progress.ensures ∙ ap (λ h. h.core.state.actor) c.hand-hand.ensures.hand ∙ ap (λ (h : Held). h.state.actor) (sym has))
    (c.place_in-place.ensures ∙ ap (λ (m : WordMap). place_in m own.word) c.map_of.ensures.is)
    c.role_shown.ensures c.word-found.ensures c.after.ensures
    ∙ row_is c.args.sizes.now c.args.number w c.args.index own k c.requires.left
    (subst (λ (h : Held). Enabled h own) (sym has) (rw c.hand-hand.ensures.hand at c.next_kind-kind.ensures)) enabled
