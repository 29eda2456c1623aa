-- What a run writes whose answers are printed.
use Rattle.std.proofs.Common.{◌≡◌, ◌≤◌, inl, inr, ℕ, List, [], ◌∷◌, ◌++◌, Result, Ok, Err, arith, length, refl, take, sym, ap, subst, ◌∙◌}
use Rattle.std.proofs.lemmas.List.{append-nil}
use Rattle.std.specs.Prelude.{Bool, Some, None}
use Rattle.std.specs.declared.option.Option.{Option}
use Rattle.std.specs.Io.KnownBytes.{Appends}
use Rattle.core_views.specs.declared.no_memory.NoMemory.{NoMemory as Refused}
use Rattle.core_views.specs.declared.trace.Line.{Line}
use Rattle.core_views.specs.declared.trace.Trace.{Trace}
use Rattle.core_views.specs.Held.{Held}
use Rattle.core_views.specs.Traces.{IsTrace}
use Rattle.mmu_core.specs.machine.Machine.{World}
use Rattle.step_seats.specs.Moves.{world_of}
use Rattle.tdp_io.specs.declared.sink.Stop.{Stop}
use Rattle.tdp_io.specs.declared.sink.Stop.TheVariants.{Failed, NoMemory}
use Rattle.weave_engine.specs.AnswerTexts.{FailedBy, MayStopAt, NoneFailed, PutsAnswers, StopsAnswers, answers_text}
use Rattle.turn_loops.specs.Marks.{Mark, Over, turns_from}
use Rattle.weave_engine.specs.Pieces.{WritesMost, most_waiting}
use Rattle.weave_engine.specs.Printed.{PrintsBy, PrintsReplayOn, PrintsReplayed, PrintsUntil, PrintsWeave, ReplayPrinted}
use Rattle.turn_loops.specs.Replays.{Replays}
use Rattle.turn_loops.specs.Weaves.{WeavesSoFar, open_text, unfinished_text}
use Rattle.weave_engine.specs.Woven.{EndFaults, RanFaults, RoseBy, WritesBy, WritesUntil, WritesWeave, end_failed, ended_by_write_fault, ran_failed}
use Rattle.weave_engine.specs.Writes.{ReplaysBy, WritesLines, WritesReplayOn}
use Rattle.weave_engine.specs.declared.ran.How.{How}
use Rattle.weave_engine.specs.declared.ran.How.TheVariants.{Done, Unfinished, WriteFault}
use Rattle.weave_engine.specs.declared.ran.Ran.{Ran}
use Rattle.weave_engine.specs.PrinterLaws.{answers_append, none_stopped}
use Rattle.weave_engine.proofs.AnswerTexts.{may_stop, text_of_marks, wrote_all}
use Rattle.turn_loops.proofs.Marks.{follows_are, turns_are}
use Rattle.weave_engine.proofs.Outputs.{none_replayed}

-- A printer is known by what its sink was given, what waits, and whether and how often writing failed.
module _ {V : Type 0} (prints : V → List Mark → V → Type 0) (stops : V → List Mark → Stop → V → Type 0) (given : V → Option (List ℕ)) (waits : V → List ℕ)
    (faults : V → ℕ) (failed : V → Bool) (Same : V → V → Type 0)
    (puts : (p q : V) (ms : List Mark) → prints p ms q
    → PutsAnswers (given p) (given q) (waits p) (waits q) ms × NoneFailed (faults p) (faults q) (failed q) × Same p q)
    (ends : (p q : V) (ms : List Mark) (stop : Stop) → stops p ms stop q
    → StopsAnswers (given p) (given q) (waits p) ms stop × FailedBy (faults p) (faults q) (failed q) stop × Same p q)
    (trace : Trace) (p q : V) (fresh : waits p ≡ []) where
  -- All marks and the end were printed.
  all_written : (ms : List Mark) (open_ : Option Line) → prints p (ms ++ Over open_ ∷ []) q → Appends (given p) (given q) (answers_text ms ++ open_text open_)
  all_written ms open_ put =
      wrote_all (given p) (given q) (waits q) ms open_
      (subst (λ (x : List ℕ). PutsAnswers (given p) (given q) x (waits q) (ms ++ Over open_ ∷ [])) fresh (puts p q (ms ++ Over open_ ∷ []) put).0)

  -- Most of these marks was written.
  most_written : (ms : List Mark) (stop : Stop) → stops p ms stop q → WritesMost (given p) (given q) (answers_text ms) × MayStopAt stop ms
  most_written ms stop most =
      let S = (ends p q ms stop most).0 in
      (subst (λ (x : List ℕ). WritesMost (given p) (given q) (x ++ answers_text ms)) fresh S.most, S.may)

  with_open : (ms : List Mark) (open_ : Option Line) → answers_text (ms ++ Over open_ ∷ []) ≡ answers_text ms ++ open_text open_
  with_open ms open_ = answers_append ms (Over open_ ∷ []) ∙ ap (λ (x : List ℕ). answers_text ms ++ x) (append-nil (open_text open_))

  module _ (limit : ℕ) (closing : World Held) where
    bytes_are : (bytes : List ℕ) (W : WeavesSoFar trace limit bytes closing) → answers_text W.follows.marks ≡ bytes
    bytes_are bytes W =
        text_of_marks W.start W.steps W.follows.marks (follows_are trace limit W.start W.steps W.follows) ∙ sym W.prints

    until_writes : (stop : Stop) → PrintsUntil prints stops stop trace limit closing p q → WritesUntil stop trace limit closing (given p) (given q)
    until_writes stop (inl (bytes, W, most)) =
        let M = most_written W.follows.marks stop most in (
          bytes,
          inl (W, may_stop stop W.start W.steps W.follows.marks (follows_are trace limit W.start W.steps W.follows) M.1),
          subst (WritesMost (given p) (given q)) (bytes_are bytes W) M.0,
        )
    until_writes stop (inr (inl (bytes, W, most))) =
        let ms = W.weaves.so_far.follows.marks in (
          bytes,
          inr (inl W),
          subst (WritesMost (given p) (given q)) (with_open ms None ∙ append-nil (answers_text ms) ∙ bytes_are bytes W.weaves.so_far)
              (most_written (ms ++ Over None ∷ []) stop most).0,
        )
    until_writes stop (inr (inr (bytes, line, W, most))) =
        let ms = W.weaves.so_far.follows.marks in (
          bytes ++ unfinished_text line,
          inr (inr (bytes, line, W, refl)),
          subst (WritesMost (given p) (given q))
              (with_open ms (Some line) ∙ ap (λ (x : List ℕ). x ++ unfinished_text line) (bytes_are bytes W.weaves.so_far))
              (most_written (ms ++ Over (Some line) ∷ []) stop most).0,
        )

    pub weave_by : (how : How) → PrintsBy prints stops trace limit closing p q how → WritesBy trace limit closing (given p) (given q) how
    weave_by Done (bytes, W, put) =
        let ms = W.weaves.so_far.follows.marks in
        (bytes, W, subst (Appends (given p) (given q)) (append-nil (answers_text ms) ∙ bytes_are bytes W.weaves.so_far) (all_written ms None put))
    weave_by (Unfinished actor number) (line, is, bytes, W, put) =
        let ms = W.weaves.so_far.follows.marks in (
          line,
          is,
          (
            bytes,
            W,
            subst (Appends (given p) (given q)) (ap (λ (x : List ℕ). x ++ unfinished_text line) (bytes_are bytes W.weaves.so_far))
                (all_written ms (Some line) put),
          ),
        )
    weave_by WriteFault until = until_writes Failed until

    until_fails : (stop : Stop) → PrintsUntil prints stops stop trace limit closing p q
        → FailedBy (faults p) (faults q) (failed q) stop × Same p q
    until_fails stop (inl (bytes, W, most)) = let E = ends p q W.follows.marks stop most in (E.1, E.2)
    until_fails stop (inr (inl (bytes, W, most))) = let E = ends p q (W.weaves.so_far.follows.marks ++ Over None ∷ []) stop most in (E.1, E.2)
    until_fails stop (inr (inr (bytes, line, W, most))) =
        let E = ends p q (W.weaves.so_far.follows.marks ++ Over (Some line) ∷ []) stop most in (E.1, E.2)

    -- how often writing failed, and whether it did
    pub weave_fails : (how : How) → PrintsBy prints stops trace limit closing p q how
        → (RoseBy (faults p) (faults q) how × (failed q ≡ ended_by_write_fault how)) × Same p q
    weave_fails Done (bytes, W, put) = let P = puts p q (W.weaves.so_far.follows.marks ++ Over None ∷ []) put in (P.1, P.2)
    weave_fails (Unfinished actor number) (line, is, bytes, W, put) =
        let P = puts p q (W.weaves.so_far.follows.marks ++ Over (Some line) ∷ []) put in (P.1, P.2)
    weave_fails WriteFault until = let P = until_fails Failed until in (P.0, P.1)

  pub weave_writes : (limit : ℕ) (ran : Result Ran Refused) → PrintsWeave prints stops trace limit p q ran
      → WritesWeave trace limit (given p) (given q) ran × RanFaults (faults p) (faults q) ran × (failed q ≡ ran_failed ran) × Same p q
  weave_writes limit (Ok ran) printed =
      let closing = world_of ran.closing.words ran.closing.hands in
      let F = weave_fails limit closing ran.how printed in
      (weave_by limit closing ran.how printed, F.0.0, F.0.1, F.1)
  weave_writes limit (Err e) (closing, until) =
      let F = until_fails limit closing NoMemory until in
      ((closing, until_writes limit closing NoMemory until), F.0.0, F.0.1, F.1)

  -- The same of a replay.
  module _ (closing : World Held) where
    replayed_text : (lines : List Line) (bytes : List ℕ) (R : Replays trace lines bytes closing) → answers_text (turns_from R.start R.runs.steps) ≡ bytes
    replayed_text lines bytes R =
        text_of_marks R.start R.runs.steps (turns_from R.start R.runs.steps) (turns_are R.start R.runs.steps) ∙ sym R.prints

    replay_until : (stop : Stop) → PrintsReplayed prints stops trace closing p q (Err stop) → WritesLines trace closing (given p) (given q) (Err stop)
    replay_until stop (inl (count, bytes, R, most)) =
        let M = most_written (turns_from R.start R.runs.steps) stop most in (
          bytes,
          inl (
            count,
            R,
            may_stop stop R.start R.runs.steps (turns_from R.start R.runs.steps) (turns_are R.start R.runs.steps) M.1,
          ),
          subst (WritesMost (given p) (given q)) (replayed_text (take count trace.lines) bytes R) M.0,
        )
    replay_until stop (inr (bytes, R, most)) =
        let ms = turns_from R.start R.runs.steps in (
          bytes,
          inr R,
          subst (WritesMost (given p) (given q)) (with_open ms None ∙ append-nil (answers_text ms) ∙ replayed_text trace.lines bytes R)
              (most_written (ms ++ Over None ∷ []) stop most).0,
        )

    replay_fails_until : (stop : Stop) → PrintsReplayed prints stops trace closing p q (Err stop)
        → FailedBy (faults p) (faults q) (failed q) stop × Same p q
    replay_fails_until stop (inl (count, bytes, R, most)) = let E = ends p q (turns_from R.start R.runs.steps) stop most in (E.1, E.2)
    replay_fails_until stop (inr (bytes, R, most)) = let E = ends p q (turns_from R.start R.runs.steps ++ Over None ∷ []) stop most in (E.1, E.2)

    replay_by : (how : How) → ReplayPrinted prints stops trace closing p q how → ReplaysBy trace closing (given p) (given q) how
    replay_by Done (bytes, R, put) =
        let ms = turns_from R.start R.runs.steps in
        (bytes, R, subst (Appends (given p) (given q)) (append-nil (answers_text ms) ∙ replayed_text trace.lines bytes R) (all_written ms None put))
    replay_by (Unfinished actor number) none = none
    replay_by WriteFault until = replay_until Failed until

    replay_fails : (how : How) → ReplayPrinted prints stops trace closing p q how
        → (RoseBy (faults p) (faults q) how × (failed q ≡ ended_by_write_fault how)) × Same p q
    replay_fails Done (bytes, R, put) = let P = puts p q (turns_from R.start R.runs.steps ++ Over None ∷ []) put in (P.1, P.2)
    replay_fails (Unfinished actor number) none = absurd none
    replay_fails WriteFault until = let P = replay_fails_until Failed until in (P.0, P.1)

    pub replay_writes : (r : Result How Refused) → PrintsReplayOn prints stops trace closing p q r
        → WritesReplayOn trace closing (given p) (given q) r × EndFaults (faults p) (faults q) r × (failed q ≡ end_failed r) × Same p q
    replay_writes (Ok how) printed = let F = replay_fails how printed in (replay_by how printed, F.0.0, F.0.1, F.1)
    replay_writes (Err e) until = let F = replay_fails_until NoMemory until in (replay_until NoMemory until, F.0.0, F.0.1, F.1)

-- Nothing ran, and nothing was written.
pub nothing_replayed : (trace : Trace) → IsTrace trace → (before : Option (List ℕ))
    → (closing : World Held) × WritesLines trace closing before before (Err NoMemory)
nothing_replayed trace good before =
    let N = none_replayed trace good in
    let few : length empty ≤ most_waiting = omega arith in
    (N.0, ([], inl (0, N.1, tt), (none_stopped before [] few).most))
  where
    empty : List ℕ
    empty = []
