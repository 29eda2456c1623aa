use Rattle.std.proofs.Common.{◌≡◌, ◌<◌, ◌++◌, ◌∙◌, ℕ, List, ap, arith, length}
use Rattle.core_views.specs.declared.actor.Actor.TheVariants.{Manager}
use Rattle.core_views.specs.declared.migration.ImageWord.{ImageWord}
use Rattle.core_views.specs.declared.sizes.Sizes.{Sizes}
use Rattle.core_views.specs.Held.{Handful}
use Rattle.core_views.specs.Migrations.{image_words}
use Rattle.core_views.specs.Sizes.{actors_of, index_of, sizes_of}
use Rattle.core_views.specs.Text.{lines_text}
use Rattle.closing_text.specs.MemoryText.{memory_in, memory_text}
use Rattle.live_engine.proofs.AnswersShown.{all_answered, count, in_file_order}
use Rattle.live_engine.proofs.ClosingShown.{closing_image, closing_pages, closing_words, manager_slots, there}
use Rattle.live_engine.proofs.gathering.text_of.Goals as goal

pub bounds-hands-index_of : goal.bounds-hands-index_of
bounds-hands-index_of c =
    let trace = c.args.trace.now in
    let closing = c.args.closing.now in
    let z : Sizes = sizes_of trace.header in
    let at : c.index_of.result ≡ index_of z Manager = c.index_of.ensures ∙ ap (λ (y : Sizes). index_of y Manager) c.of-sizes.ensures in
    let many : length c.as_slice-hands.result.now ≡ actors_of z =
    ap (λ (l : List Handful). length l) c.as_slice-hands.ensures ∙ count trace closing.words closing.hands c.requires.lives in
    let lt : index_of z Manager < actors_of z = there trace closing.words closing.hands c.requires.lives in
    omega (arith, at, many, lt)

pub push_by_line-requires : goal.push_by_line-requires
push_by_line-requires c =
    let closing = c.args.closing.now in
    record {
      answered =
          rw (c.of-sizes.ensures, c.as_slice.ensures, c.as_slice-hands.ensures)
          (all_answered c.args.trace.now closing.words closing.hands c.requires.lives);
    }

pub push_memory-requires-clause-words : goal.push_memory-requires-clause-words
push_memory-requires-clause-words c =
    let closing = c.args.closing.now in
    rw (c.of-sizes.ensures, c.as_slice-2.ensures) (closing_words c.args.trace.now closing.words closing.hands c.requires.lives)

pub push_memory-requires-clause-slots : goal.push_memory-requires-clause-slots
push_memory-requires-clause-slots c =
    let trace = c.args.trace.now in
    let closing = c.args.closing.now in
    let z : Sizes = sizes_of trace.header in
    let at : c.index_of.result ≡ index_of z Manager = c.index_of.ensures ∙ ap (λ (y : Sizes). index_of y Manager) c.of-sizes.ensures in
    let lt : index_of z Manager < actors_of z = there trace closing.words closing.hands c.requires.lives in
    let many : length closing.hands ≡ actors_of z = count trace closing.words closing.hands c.requires.lives in
    let read = rw c.as_slice-hands.ensures at c.index-hands-index_of.is in
    rw c.of-sizes.ensures
    (closing_pages trace closing.words closing.hands c.requires.lives c.slots.result.now
    (c.slots.ensures ∙ manager_slots trace closing.words closing.hands c.requires.lives c.index_of.result c.index-hands-index_of.result at
    (omega (arith, at, lt, many)) read))

pub returns : goal.returns
returns c = record {
  text = λ lives.
      let trace = c.args.trace.now in
      let closing = c.args.closing.now in
      let z : Sizes = sizes_of trace.header in
      let at : c.index_of.result ≡ index_of z Manager = c.index_of.ensures ∙ ap (λ (y : Sizes). index_of y Manager) c.of-sizes.ensures in
      let lt : index_of z Manager < actors_of z = there trace closing.words closing.hands lives in
      let many : length closing.hands ≡ actors_of z = count trace closing.words closing.hands lives in
      let read = rw c.as_slice-hands.ensures at c.index-hands-index_of.is in
      let slots =
      c.slots.ensures ∙ manager_slots trace closing.words closing.hands lives c.index_of.result c.index-hands-index_of.result at
      (omega (arith, at, lt, many)) read in
      let put = rw (c.of-sizes.ensures, c.as_slice.ensures, c.as_slice-hands.ensures) at (c.in_ok-push_by_line.ensures {u = tt}) in
      let memory = rw (c.of-sizes.ensures, c.as_slice-2.ensures) at (c.in_ok-push_memory.ensures {u = tt}) in
      record {
        answers = put.0;
        by_line = in_file_order trace closing.words closing.hands lives put.0 put.1;
        prints =
            memory
            ∙ (ap (λ (t : List ℕ). t ++ memory_text (image_words z.words (memory_in z closing.words) c.slots.result.now))
            (put.2 ∙ ap (λ (t : List ℕ). t ++ lines_text put.0) c.new-text.ensures.bytes)
            ∙ ap (λ (ws : List ImageWord). lines_text put.0 ++ memory_text ws)
            (closing_image trace closing.words closing.hands lives c.slots.result.now slots));
      };
}
