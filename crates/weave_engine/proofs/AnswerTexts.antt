-- What is printed where only answers are: the text of what the steps tell.
use Rattle.std.proofs.Common.{◌≡◌, ◌≤◌, ◌⊎◌, inl, inr, ℕ, List, [], ◌∷◌, ◌++◌, length, refl, sym, ap, subst, ◌∙◌, arith}
use Rattle.std.proofs.lemmas.List.{append-nil}
use Rattle.std.specs.Prelude.{Bool, true, false, Ok, Err, None, Some}
use Rattle.std.specs.declared.option.Option.{Option}
use Rattle.std.specs.Io.KnownBytes.{Appends}
use Rattle.core_views.specs.declared.actor.Actor.{Actor}
use Rattle.core_views.specs.declared.answer.Answer.{Answer}
use Rattle.core_views.specs.declared.kind.Kind.{Kind}
use Rattle.core_views.specs.declared.sizes.Sizes.{Sizes}
use Rattle.core_views.specs.declared.trace.Line.{Line}
use Rattle.core_views.specs.Held.{Held}
use Rattle.core_views.specs.Sizes.{index_of}
use Rattle.core_views.specs.Text.{line_text, lines_text, text}
use Rattle.core_views.proofs.Texts.{text_append}
use Rattle.mmu_core.specs.machine.Enabled.{mmu}
use Rattle.mmu_core.specs.machine.Machine.{Step, World, effect, run}
use Rattle.mmu_core.specs.machine.Worlds.{history}
use Rattle.mmu_core.proofs.machine.LineRuns.{history_append}
use Rattle.tdp_io.specs.Ends.{AppendsPrefix}
use Rattle.tdp_io.specs.declared.sink.Stop.{Stop}
use Rattle.tdp_io.specs.declared.sink.Stop.TheVariants.{Failed, NoMemory}
use Rattle.weave_engine.specs.AnswerTexts.{MayStopAt, PutsAnswers, PutsText, StopsAnswers, answers_text, ends_over}
use Rattle.turn_loops.specs.Marks.{Mark, Made, Begins, Rounds, Over, turns_from}
use Rattle.weave_engine.specs.Pieces.{IsPrintedLine, WritesMost, most_waiting}
use Rattle.weave_engine.specs.PrinterLaws.{answers_append, few_last, over_append}
use Rattle.turn_loops.specs.Replays.{RanOn}
use Rattle.turn_loops.specs.Turned.{MakesTurn}
use Rattle.turn_loops.specs.Turning.{AnswersLine, EndsWithAnswer, MayStop}
use Rattle.turn_loops.specs.Weaves.{open_text}
use Rattle.weave_engine.specs.Writes.{Buffers}
use Rattle.turn_loops.proofs.Marks.{AreOf, turns_append, turns_are}
use Rattle.turn_loops.proofs.Stopping.{answer_behind}

-- The text of the marks of steps is the text of what these tell.
pub text_of_marks : (w : World Held) (ss : List (Step Kind)) (ms : List Mark) → AreOf w ss ms → answers_text ms ≡ text (history w ss)
text_of_marks w ss [] none = ap (λ (l : List (Step Kind)). text (history w l)) (sym none)
text_of_marks w ss (Made u s ∷ ms) (rest, are, same, of) =
    ap (λ (x : World Held). text (history x (s ∷ [])) ++ answers_text ms) same
    ∙ ap (λ (x : List ℕ). text (history w (s ∷ [])) ++ x) (text_of_marks (effect mmu w s) rest ms of)
    ∙ sym (ap text (history_append w (s ∷ []) rest) ∙ text_append (history w (s ∷ [])) (history (effect mmu w s) rest))
    ∙ ap (λ (l : List (Step Kind)). text (history w l)) (sym are)
text_of_marks w ss (Begins item ∷ ms) of = text_of_marks w ss ms of
text_of_marks w ss (Rounds ∷ ms) of = text_of_marks w ss ms of
text_of_marks w ss (Over open_ ∷ ms) of = absurd of

-- Where something is put at the last of them, their last step answers its line.
ends_answer : (w : World Held) (ss : List (Step Kind)) (before : List Mark) (last : Mark) → AreOf w ss (before ++ last ∷ []) → PutsText last
    → EndsWithAnswer w ss
ends_answer w ss [] (Made u s) (rest, are, same, of) puts =
    record { before = []; last = s; are = are ∙ ap (λ (l : List (Step Kind)). s ∷ l) of; answers = subst (λ (x : World Held). AnswersLine x s) same puts }
ends_answer w ss [] (Begins item) of puts = absurd puts
ends_answer w ss [] Rounds of puts = absurd puts
ends_answer w ss [] (Over open_) of puts = absurd of
ends_answer w ss (Made u s ∷ before) last (rest, are, same, of) puts =
    subst (EndsWithAnswer w) (sym are) (answer_behind w (s ∷ []) rest (ends_answer (effect mmu w s) rest before last of puts))
ends_answer w ss (Begins item ∷ before) last of puts = ends_answer w ss before last of puts
ends_answer w ss (Rounds ∷ before) last of puts = ends_answer w ss before last of puts
ends_answer w ss (Over open_ ∷ before) last of puts = absurd of

pub may_stop : (stop : Stop) (w : World Held) (ss : List (Step Kind)) (ms : List Mark) → AreOf w ss ms → MayStopAt stop ms → MayStop stop w ss
may_stop Failed w ss ms of E = ends_answer w ss E.before E.last (subst (λ (l : List Mark). AreOf w ss l) E.are of) E.puts
may_stop NoMemory w ss ms of E = tt

-- A turn, with what it prints.
module _ (actor : ℕ) (w t : World Held) (line_stops : Bool) (bytes : List ℕ) (M : MakesTurn actor w t line_stops bytes) (before after : Option (List ℕ))
    (waited waits : List ℕ) where
  turn_text_is : answers_text (Made w M.step ∷ []) ≡ bytes
  turn_text_is = append-nil (text (history w (M.step ∷ []))) ∙ sym M.comes.prints

  pub turn_put : Buffers before after waited waits (Ok tt) bytes → PutsAnswers before after waited waits (Made w M.step ∷ [])
  turn_put (written, appends, is, few) =
      (written, appends, is ∙ ap (λ (x : List ℕ). waited ++ x) (sym turn_text_is), few, λ e. absurd (cc e))

  pub turn_stopped : (stop : Stop) (number : ℕ) (whose : Actor) (answer : Answer) → bytes ≡ line_text number whose answer → AnswersLine w M.step
      → length waited ≤ most_waiting → Buffers before after waited waits (Err stop) bytes → StopsAnswers before after waited (Made w M.step ∷ []) stop
  turn_stopped stop number whose answer is answers few prefix = record {
    most = subst (λ (x : List ℕ). WritesMost before after (waited ++ x)) (sym turn_text_is)
        (few_last before after waited bytes few (inr (inl (number, whose, answer, is))) prefix);
    may = by stop;
  }
    where
      by : (stop : Stop) → MayStopAt stop (Made w M.step ∷ [])
      by Failed = record { before = []; last = Made w M.step; are = refl; puts = answers }
      by NoMemory = tt

-- A line that ran alone, with what it prints.
module _ (z : Sizes) (line : Line) (answer : Answer) (w t : World Held) (R : RanOn z line answer (index_of z line.actor) w t)
    (before after : Option (List ℕ)) (waited waits : List ℕ) where
  line_text_is : answers_text (turns_from w R.steps) ≡ line_text line.number line.actor answer
  line_text_is =
      text_of_marks w R.steps (turns_from w R.steps) (turns_are w R.steps) ∙ ap lines_text R.alone.runs.answers
      ∙ append-nil (line_text line.number line.actor answer)

  not_over : (x : World Held) (ss : List (Step Kind)) → ends_over (turns_from x ss) ≡ false
  not_over x [] = refl
  not_over x (s ∷ []) = refl
  not_over x (s ∷ k ∷ ss) = not_over (effect mmu x s) (k ∷ ss)

  pub line_put : Buffers before after waited waits (Ok tt) (line_text line.number line.actor answer)
      → PutsAnswers before after waited waits (turns_from w R.steps)
  line_put (written, appends, is, few) = (
    written,
    appends,
    is ∙ ap (λ (x : List ℕ). waited ++ x) (sym line_text_is),
    few,
    λ e. let f : false ≡ true = sym (not_over w R.steps) ∙ e in absurd (cc f),
  )

  pub line_stopped : (stop : Stop) → length waited ≤ most_waiting → Buffers before after waited waits (Err stop) (line_text line.number line.actor answer)
      → StopsAnswers before after waited (turns_from w R.steps) stop
  line_stopped stop few prefix = record {
    most = subst (λ (x : List ℕ). WritesMost before after (waited ++ x)) (sym line_text_is)
        (few_last before after waited (line_text line.number line.actor answer) few (inr (inl (line.number, line.actor, answer, refl))) prefix);
    may = by stop;
  }
    where
      by : (stop : Stop) → MayStopAt stop (turns_from w R.steps)
      by Failed =
          let E : EndsWithAnswer w R.steps = R.alone.last in
          record {
            before = turns_from w E.before;
            last = Made (run mmu w E.before) E.last;
            are = ap (turns_from w) E.are ∙ turns_append w E.before (E.last ∷ []);
            puts = E.answers;
          }
      by NoMemory = tt

-- The end of the run.
module _ (open_ : Option Line) (before after : Option (List ℕ)) (waited : List ℕ) (few : length waited ≤ most_waiting) where
  pub over_put : Appends before after (waited ++ open_text open_) → PutsAnswers before after waited [] (Over open_ ∷ [])
  over_put wrote = (
    waited ++ open_text open_,
    wrote,
    append-nil (waited ++ open_text open_) ∙ ap (λ (x : List ℕ). waited ++ x) (sym (append-nil (open_text open_))),
    omega arith,
    λ e. refl,
  )

  pub over_stopped : (stop : Stop) → AppendsPrefix before after (waited ++ open_text open_) → StopsAnswers before after waited (Over open_ ∷ []) stop
  over_stopped stop prefix = record {
    most = subst (λ (x : List ℕ). WritesMost before after (waited ++ x)) (sym (append-nil (open_text open_)))
        (few_last before after waited (open_text open_) few (one open_) prefix);
    may = by stop;
  }
    where
      one : (o : Option Line) → (open_text o ≡ []) ⊎ IsPrintedLine (open_text o)
      one None = inl refl
      one (Some line) = inr (inr (line, refl))

      by : (stop : Stop) → MayStopAt stop (Over open_ ∷ [])
      by Failed = record { before = []; last = Over open_; are = refl; puts = tt }
      by NoMemory = tt

-- All is written at the end.
pub wrote_all : (before after : Option (List ℕ)) (waits : List ℕ) (ms : List Mark) (open_ : Option Line)
    → PutsAnswers before after [] waits (ms ++ Over open_ ∷ []) → Appends before after (answers_text ms ++ open_text open_)
wrote_all before after waits ms open_ (written, appends, is, few, over) =
    let none : waits ≡ [] = over (over_append ms [] (Over open_)) in
    let all : written ≡ answers_text ms ++ open_text open_ =
    sym (append-nil written) ∙ ap (λ (x : List ℕ). written ++ x) (sym none) ∙ is ∙ answers_append ms (Over open_ ∷ [])
    ∙ ap (λ (x : List ℕ). answers_text ms ++ x) (append-nil (open_text open_)) in
    subst (Appends before after) all appends
