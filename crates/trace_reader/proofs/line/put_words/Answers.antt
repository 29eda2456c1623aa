use Rattle.std.proofs.Common.{arith}
use Rattle.std.proofs.lemmas.Grind.{common_steps}
use Rattle.std.proofs.lemmas.List.{take_rest}
use Rattle.trace_reader.specs.Forms.{words_of}
use Rattle.trace_reader.proofs.Loop.{an_end, no_end}
use Rattle.trace_reader.proofs.WordsPut.{put_last, put_more}
use Rattle.trace_reader.proofs.line.put_words.Goals as goal

pub loop-end-preserved : goal.loop-end-preserved
loop-end-preserved c = record {
  words =
      rw (c.in_ok-push.ensures.items, take_rest) (put_more (λ w. w.now) c.loop-end.words.items _ (words_of c.loop-end.rest.now) _
      (words_of c.args.line.now) c.loop-end.invariant.words (an_end 32 c.loop-end.rest.now c.in-Some.end c.in-Some.ensures));
  shorter = grind (arith, common_steps);
}

pub returns : goal.returns
returns c =
    rw c.in_ok-push-2.ensures.items (put_last (λ w. w.now) c.loop-end.words.items _ (words_of c.loop-end.rest.now) (words_of c.args.line.now)
    c.loop-end.invariant.words (no_end 32 c.loop-end.rest.now (cc (c.in_default.is, c.in_default.ensures))))
