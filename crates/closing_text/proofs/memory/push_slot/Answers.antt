use Rattle.std.proofs.Common.{◌+◌, ℕ, string_bytes}
use Rattle.core_views.specs.Migrations.{page_words}
use Rattle.closing_text.specs.MemoryText.{memory_in}
use Rattle.closing_text.proofs.ImageTexts.{page_put}
use Rattle.closing_text.proofs.memory.push_slot.Goals as goal

pub loop-page-preserved : goal.loop-page-preserved
loop-page-preserved c =
    let z = c.args.sizes.now in
    let f = λ (n : ℕ). page_words z.words c.args.id n (memory_in z c.args.words.now (c.args.slot.now.host + n)) in
    page_put f c.loop-page.page (string_bytes c.args.text.now) (string_bytes c.loop-page.text) (string_bytes c.push_page.new.text) c.loop-page.invariant
    c.in_ok-push_page.ensures
