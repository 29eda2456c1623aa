use Rattle.std.proofs.Common.{◌∙◌, ap, arith}
use Rattle.spte_words.specs.Areas.{total}
use Rattle.machine_start.proofs.Starts.{all_made, one_more}
use Rattle.machine_start.proofs.start.start_words.Goals as goal

pub loop-word-preserved : goal.loop-word-preserved
loop-word-preserved c =
    let at = rw c.map_of-map.ensures.is at c.area_of-area.ensures.at in
    let within = rw c.map_of-map.ensures.is at c.area_of-area.ensures.within in
    rw c.in_ok-push.ensures.items (one_more c.args.sizes.now c.loop-word.word c.loop-word.words.items c.area_of-area.result.0 c.area_of-area.result.1
    c.start_word.result c.loop-word.invariant within at c.start_word.ensures)

pub returns : goal.returns
returns c =
    let size = c.total-word-end.ensures ∙ ap total c.map_of-map.ensures.is in
    all_made c.args.sizes.now c.loop-word.word c.loop-word.words.items (omega (arith, size, c.loop-word-test.false, c.loop-word.auto.word-end))
    c.loop-word.invariant
