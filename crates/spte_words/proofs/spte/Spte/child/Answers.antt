use Rattle.std.proofs.Common.{arith}
use Rattle.spte_words.specs.Entries.{child_word}
use Rattle.spte_words.proofs.ChildEntries.{frame_small}
use Rattle.spte_words.proofs.Spans.{child_within}
use Rattle.spte_words.proofs.spte.Spte.child.Goals as goal

pub overflow_mul-frame : goal.overflow_mul-frame
overflow_mul-frame c =
    let h = child_within c.args.level c.args.i c.requires.level_from c.requires.level_to c.requires.i_in in let frame = frame_small c.args.self in
    rw c.level_span.ensures (omega (arith, h, frame))

pub overflow_add-frame : goal.overflow_add-frame
overflow_add-frame c =
    let h = child_within c.args.level c.args.i c.requires.level_from c.requires.level_to c.requires.i_in in let frame = frame_small c.args.self in
    rw c.level_span.ensures (omega (arith, h, frame))

pub leaf-requires : goal.leaf-requires
leaf-requires c = let h = child_within c.args.level c.args.i c.requires.level_from c.requires.level_to c.requires.i_in in let frame = frame_small c.args.self in
    rw c.level_span.ensures (omega (arith, h, frame))

pub returns : goal.returns
unfolding child_word
returns c = cc
