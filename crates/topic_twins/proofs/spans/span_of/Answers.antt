use Rattle.spte_words.proofs.Spans.{span_positive}
use Rattle.topic_twins.proofs.spans.span_of.Goals as goal

pub nonzero_div-result : goal.nonzero_div-result
nonzero_div-result c = rw c.level_span.ensures (span_positive c.args.level c.requires.from c.requires.to)
