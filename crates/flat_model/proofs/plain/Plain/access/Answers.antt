use Rattle.std.proofs.Common.{◌≡◌, ◌&&◌, not, Some, false, ap, ap₂, sym, subst, rules}
use Rattle.core_views.specs.Host.{is_denied}
use Rattle.core_views.specs.Slots.{page_behind}
use Rattle.core_views.specs.SlotSets.{flat_slots}
use Rattle.core_views.specs.Migrations.{is_paused}
use Rattle.flat_model.specs.Steps.{AccessesUnlessPaused}
use Rattle.flat_model.specs.Kept.{Kept, memory_of}
use Rattle.flat_model.proofs.Words.{reached}
use Rattle.flat_model.proofs.plain.Plain.access.Goals as goal
use Rattle.flat_model.proofs.plain.Plain.access.Goals.{else-is_write-via-then-is_write+else-not-entry, else-is_write-via-else-is_write}

pub returns-clause-reached : goal.returns-clause-reached
returns-clause-reached c =
    let page = c.in-Some.page in
    let op = c.args.op in
    let entry = c.entry_of-entry.result in
    let before : Kept =
    record {
      sizes = c.self.inside.host.sizes;
      slots = c.self.inside.slots;
      changed = c.self.inside.host.changed;
      words = c.self.inside.memory.entries;
      dirty = c.self.inside.dirty;
      copies = c.self.inside.copies;
    } in
    let unpaused : false ≡ is_paused before.copies.state = search rules in
    let behind : Some page ≡ page_behind (flat_slots before.slots) c.args.gfn op = rw (← c.self.view_is) at c.in-Some.ensures in
    let allows : is_denied op entry ≡ false = elim c.else-is_write.branch [
      | else-is_write-via-then-is_write+else-not-entry w ↦ ap₂ (λ a b. a && b) (sym w.if-is_write.ensures) w.if-not-entry.false
      | else-is_write-via-else-is_write w ↦ ap (λ a. a && not entry.writable) (sym w.if-is_write.ensures)
    ] in
    let value_is : c.in_ok-value.value ≡ memory_of before.words page c.args.word = rw (← c.self.view_is) at c.in_ok-value.ensures.value in
    let stored = rw (← c.self.view_is, ← c.self-2.view_is) at c.in_ok-value.ensures.stored in
    rw (← c.self.view_is) (subst (AccessesUnlessPaused c.args.gfn c.args.word op before _ _) unpaused
    (reached c.args.gfn c.args.word op before _ page c.in_ok-value.value entry behind c.entry_of-entry.ensures allows value_is
    stored.slots stored.copies (rw stored.changed at c.bring_in.ensures.present) stored.words stored.dirty))
