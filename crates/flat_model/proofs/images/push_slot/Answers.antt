use Rattle.std.proofs.Common.{◌<◌, ◌+◌, ◌-◌, ℕ, arith}
use Rattle.std.specs.List.{range_with_len}
use Rattle.core_views.specs.Migrations.{page_words}
use Rattle.flat_model.specs.Copying.{is_printed}
use Rattle.flat_model.specs.Kept.{memory_of}
use Rattle.flat_model.proofs.Held.{range_next, tested_next}
use Rattle.flat_model.proofs.images.push_slot.Goals as goal

pub loop-page-preserved : goal.loop-page-preserved
loop-page-preserved c =
    let entry = c.args.entry.now in
    let page = c.loop-page.page in
    let pages = entry.1.slot.pages in
    let f = λ (n : ℕ). page_words c.args.words entry.0 n (memory_of c.args.image.now.entries (entry.1.slot.host + n)) in
    let lt : page < pages = omega (arith, c.loop-page-test.true) in
    tested_next is_printed f page (range_with_len (page + 1) (pages - (page + 1))) (range_with_len page (pages - page)) c.loop-page.found.items _ _
    (range_next page pages lt) c.in_ok-push_page.ensures c.loop-page.invariant
