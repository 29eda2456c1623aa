-- What a run writes whose steps are printed.
use Rattle.std.proofs.Common.{◌≡◌, inl, inr, ℕ, List, [], ◌∷◌, ◌++◌, Result, Ok, Err, refl, sym, ap, subst, ◌∙◌}
use Rattle.std.proofs.lemmas.List.{append-nil}
use Rattle.std.specs.Prelude.{Some, None}
use Rattle.std.specs.declared.option.Option.{Option}
use Rattle.std.specs.Io.KnownBytes.{Appends}
use Rattle.core_views.specs.declared.no_memory.NoMemory.{NoMemory as Refusal}
use Rattle.core_views.specs.declared.sizes.Sizes.{Sizes}
use Rattle.core_views.specs.declared.trace.Line.{Line}
use Rattle.core_views.specs.declared.trace.Trace.{Trace}
use Rattle.core_views.specs.Held.{Held}
use Rattle.core_views.specs.Sizes.{sizes_of}
use Rattle.mmu_core.specs.machine.Machine.{World}
use Rattle.step_seats.specs.Moves.{world_of}
use Rattle.tdp_io.specs.Ends.{AppendsPrefix}
use Rattle.tdp_io.specs.declared.sink.Stop.{Stop}
use Rattle.tdp_io.specs.declared.sink.Stop.TheVariants.{Failed, NoMemory as Full}
use Rattle.turn_loops.specs.Marks.{Mark, Over, turns_from}
use Rattle.weave_engine.specs.Printed.{PrintsBy, PrintsReplay, PrintsReplayed, PrintsUntil, PrintsWeave, ReplayPrinted}
use Rattle.weave_engine.specs.PrinterLaws.{over_append}
use Rattle.weave_engine.specs.declared.ran.How.{How}
use Rattle.weave_engine.specs.declared.ran.How.TheVariants.{Done, Unfinished, WriteFault}
use Rattle.weave_engine.specs.declared.ran.OpenLine.{OpenLine}
use Rattle.weave_engine.specs.declared.ran.Ran.{Ran}
use Rattle.step_printing.specs.Coming.{coming_text, first_lines}
use Rattle.step_printing.specs.Lines.{steps_text}
use Rattle.step_printing.specs.declared.lines.Lines.{Lines}
use Rattle.step_printing.specs.declared.view.View.{View}
use Rattle.step_printing.specs.Puts.{Printed, PutsSteps, StopsSteps}
use Rattle.step_printing.specs.Run.{IsRunSoFar, WritesSome, WritesSteps}
use Rattle.weave_engine.specs.Statuses.{status_by, status_how}
use Rattle.show_options.specs.declared.asked.Command.TheVariants.{Replay, Weave}

-- The printer has printed nothing, and prints for a machine of these sizes.
pub record IsFresh (p : Printed) (v : View) (z : Sizes) : Type 0 where
  pub waits : p.waits ≡ []
  pub lines : p.lines ≡ first_lines v z

-- What it will print of marks is their whole text.
coming : (p : Printed) (v : View) (z : Sizes) → IsFresh p v z → (ms : List Mark) → p.waits ++ coming_text p.lines ms ≡ steps_text v z ms
coming p v z f ms = ap (λ (x : List ℕ). x ++ coming_text p.lines ms) f.waits ∙ ap (λ (l : Lines). coming_text l ms) f.lines

-- At the end all of it was written.
pub whole_written : (p q : Printed) (v : View) (z : Sizes) → IsFresh p v z → (ms : List Mark) (open_ : Option Line) → PutsSteps p (ms ++ Over open_ ∷ []) q
    → Appends p.given q.given (steps_text v z (ms ++ Over open_ ∷ []))
whole_written p q v z f ms open_ put =
    let all : List Mark = ms ++ Over open_ ∷ [] in
    let none_waits = put.at_end (over_append ms [] (Over open_)) in
    let is = sym (append-nil put.written) ∙ ap (λ (x : List ℕ). put.written ++ x) (sym none_waits) ∙ put.whole []
    ∙ ap (λ (x : List Mark). p.waits ++ coming_text p.lines x) (append-nil all) ∙ coming p v z f all in
    subst (Appends p.given q.given) is put.appends

-- Where it stopped a prefix was, whatever marks would have followed.
pub part_written : (p q : Printed) (v : View) (z : Sizes) → IsFresh p v z → (ms : List Mark) (stop : Stop) → StopsSteps p ms stop q → (more : List Mark)
    → AppendsPrefix p.given q.given (steps_text v z (ms ++ more))
part_written p q v z f ms stop S more = subst (AppendsPrefix p.given q.given) (coming p v z f (ms ++ more)) (S.written more)

module _ {V : Type 0} (prints : V → List Mark → V → Type 0) (stops : V → List Mark → Stop → V → Type 0) (given : V → Option (List ℕ)) (v : View) (trace : Trace) (p q : V)
    (puts : (ms : List Mark) (open_ : Option Line) → prints p (ms ++ Over open_ ∷ []) q
    → Appends (given p) (given q) (steps_text v (sizes_of trace.header) (ms ++ Over open_ ∷ [])))
    (ends : (ms : List Mark) (stop : Stop) → stops p ms stop q → (more : List Mark)
    → AppendsPrefix (given p) (given q) (steps_text v (sizes_of trace.header) (ms ++ more))) where
  module _ (limit : ℕ) where
    weave_until : (closing : World Held) (stop : Stop) → PrintsUntil prints stops stop trace limit closing p q
        → WritesSome (IsRunSoFar Weave trace limit) v trace (given p) (given q)
    weave_until closing stop (inl (bytes, W, part)) = (W.follows.marks, inl (closing, bytes, W, refl), ends W.follows.marks stop part)
    weave_until closing stop (inr (inl (bytes, W, part))) =
        let ms : List Mark = W.weaves.so_far.follows.marks ++ Over None ∷ [] in
        (ms, inr (inl (closing, bytes, W, refl)), ends ms stop part)
    weave_until closing stop (inr (inr (bytes, line, W, part))) =
        let ms : List Mark = W.weaves.so_far.follows.marks ++ Over (Some line) ∷ [] in
        (ms, inr (inr (line.actor, line.number, (closing, bytes, line, W, refl, refl, refl))), ends ms stop part)

    weave_by : (closing : World Held) (how : How) → PrintsBy prints stops trace limit closing p q how
        → WritesSteps Weave v trace limit (given p) (given q) (status_how how)
    weave_by closing Done (bytes, W, put) =
        let ms = W.weaves.so_far.follows.marks in
        (ms ++ Over None ∷ [], (closing, bytes, W, refl), puts ms None put)
    weave_by closing (Unfinished actor number) (line, is, bytes, W, put) =
        let ms = W.weaves.so_far.follows.marks in (
          ms ++ Over (Some line) ∷ [],
          (closing, bytes, line, W, ap (λ (x : OpenLine). x.actor) is, ap (λ (x : OpenLine). x.number) is, refl),
          puts ms (Some line) put,
        )
    weave_by closing WriteFault until = weave_until closing Failed until

    pub weave_writes : (ran : Result Ran Refusal) → PrintsWeave prints stops trace limit p q ran
        → WritesSteps Weave v trace limit (given p) (given q) (status_by ran)
    weave_writes (Ok ran) printed = weave_by (world_of ran.closing.words ran.closing.hands) ran.how printed
    weave_writes (Err e) (closing, until) = weave_until closing Full until

    replay_until : (closing : World Held) (stop : Stop) → PrintsReplayed prints stops trace closing p q (Err stop)
        → WritesSome (IsRunSoFar Replay trace limit) v trace (given p) (given q)
    replay_until closing stop (inl (count, bytes, R, part)) =
        let ms : List Mark = turns_from R.start R.runs.steps in
        (ms, inl (closing, count, bytes, R, refl), ends ms stop part)
    replay_until closing stop (inr (bytes, R, part)) =
        let ms : List Mark = turns_from R.start R.runs.steps ++ Over None ∷ [] in
        (ms, inr (closing, bytes, R, refl), ends ms stop part)

    replay_by : (closing : World Held) (how : How) → ReplayPrinted prints stops trace closing p q how
        → WritesSteps Replay v trace limit (given p) (given q) (status_how how)
    replay_by closing Done (bytes, R, put) =
        let ms : List Mark = turns_from R.start R.runs.steps in
        (ms ++ Over None ∷ [], (closing, bytes, R, refl), puts ms None put)
    replay_by closing (Unfinished actor number) none = absurd none
    replay_by closing WriteFault until = replay_until closing Failed until

    pub replay_writes : (ran : Result Ran Refusal) → PrintsReplay prints stops trace p q ran
        → WritesSteps Replay v trace limit (given p) (given q) (status_by ran)
    replay_writes (Ok ran) printed = replay_by (world_of ran.closing.words ran.closing.hands) ran.how printed
    replay_writes (Err e) (closing, until) = replay_until closing Full until
