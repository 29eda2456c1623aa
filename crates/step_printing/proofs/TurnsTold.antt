-- A turn that was made, and what is put of it.
use Rattle.std.proofs.Common.{◌≡◌, ℕ, List, [], ◌∷◌, ◌++◌, Ok, Err, append_assoc, refl, sym, ap, subst, ◌∙◌}
use Rattle.std.proofs.lemmas.List.{append-nil}
use Rattle.std.specs.Prelude.{true, false, Some, None}
use Rattle.std.specs.declared.option.Option.{Option}
use Rattle.core_views.specs.declared.actor.Actor.{Actor}
use Rattle.core_views.specs.declared.answer.Answer.{Answer}
use Rattle.core_views.specs.declared.kind.Kind.{Kind}
use Rattle.core_views.specs.declared.sizes.Sizes.{Sizes}
use Rattle.core_views.specs.Held.{Held}
use Rattle.mmu_core.specs.machine.Enabled.{Enabled, mmu}
use Rattle.mmu_core.specs.machine.Machine.{Step, World, answered, hand_in}
use Rattle.mmu_core.specs.machine.Turns.{line_of}
use Rattle.step_seats.specs.declared.turn.Turn.{Turn}
use Rattle.step_seats.specs.declared.turn.Turn.TheVariants.{More, Wait, Retry, Done}
use Rattle.step_seats.specs.LineTurns.{AnswersBy}
use Rattle.step_seats.specs.Moves.{step_by}
use Rattle.step_text.specs.declared.row.Row.{Row}
use Rattle.tdp_io.specs.Ends.{AppendsPrefix, WroteFaults, is_failed}
use Rattle.tdp_io.specs.declared.sink.Stop.{Stop}
use Rattle.tdp_io.specs.declared.sink.Stop.TheVariants.{NoMemory}
use Rattle.weave_engine.specs.AnswerTexts.{ends_over}
use Rattle.turn_loops.specs.Given.{given_in, told_in}
use Rattle.turn_loops.specs.Marks.{Mark, Made}
use Rattle.turn_loops.specs.Turned.{IsTurnOf, MakesTurn, turn_text}
use Rattle.weave_engine.specs.Writes.{Buffers}
use Rattle.step_printing.specs.Coming.{PutsTurn, after_kept, coming_text}
use Rattle.step_printing.specs.Lines.{entries, lines_text, placed, turn_entry}
use Rattle.step_printing.specs.PutLaws.{longer, none_written}
use Rattle.step_printing.specs.Puts.{MayPrint, Printed, PutsSteps, StopsSteps}
use Rattle.step_printing.specs.Rows.{hand_turn, row_of, turn_in}
use Rattle.step_printing.specs.Views.{after_turn, made_by, shows}
use Rattle.step_printing.specs.declared.lines.Lines.{Lines}
use Rattle.step_printing.specs.declared.view.MadeTurn.{MadeTurn}
use Rattle.step_printing.specs.declared.view.Reach.{Reach}
use Rattle.step_printing.specs.declared.view.View.{View}
use Rattle.step_printing.specs.Tells.{TellsAll, is_going}

-- How a turn ended is how its hand's turn does.
answers_turn : (turn : Turn Answer) (h : Held) (v : ℕ) → AnswersBy turn h v → turn ≡ hand_turn h v
answers_turn More h v a = rw a.0 a.1
answers_turn (Wait seen) h v a = rw a.0 (ap (λ s. Wait s) a.1)
answers_turn (Retry cause) h v a = rw a.0 a.1
answers_turn (Done answer) h v a = rw a.0 a.1

module _ (number : ℕ) (whose : Actor) (actor : ℕ) (w t : World Held) where
  pub turn_is : (turn : Turn Answer) (T : IsTurnOf number whose turn actor w t) → turn ≡ turn_in w T.makes.step
  turn_is turn T =
      let s = T.makes.step in
      answers_turn turn (hand_in mmu w actor) (answered mmu w s.kind) T.answers
      ∙ ap (λ (a : ℕ). hand_turn (hand_in mmu w a) (answered mmu w s.kind)) (sym T.makes.turn.own)

  -- What the turn says, and the hand that has its answer.
  pub tells_all : (turn : Turn (Unit {0})) → IsTurnOf number whose (told_in turn actor w t) actor w t
      → TellsAll turn (told_in turn actor w t) (hand_in mmu t actor)
  tells_all More T = refl
  tells_all (Wait seen) T = refl
  tells_all (Retry cause) T = refl
  tells_all (Done u) T = (given_in actor w t, line_of (hand_in mmu w actor), hand_in mmu w actor, refl, T.says)

  -- The row that was made before the turn is the turn's.
  pub row_of_turn : (z : Sizes) (next : ℕ) (row : Row) (turn : Turn Answer) (T : IsTurnOf number whose turn actor w t)
      → ((k : Kind) → Enabled (hand_in mmu w actor) k → row ≡ row_of z next w (step_by actor k)) → row ≡ row_of z next w T.makes.step
  row_of_turn z next row turn T is =
      let s = T.makes.step in
      let own = T.makes.turn.own in
      is s.kind (subst (λ (a : ℕ). Enabled (hand_in mmu w a) s.kind) own T.makes.comes.legal.0.enabled)
      ∙ ap (λ (a : ℕ). row_of z next w (step_by a s.kind)) (sym own)

  -- The line is that of the hand that makes the step.
  pub line_of_turn : (turn : Turn Answer) (T : IsTurnOf number whose turn actor w t) → number ≡ (line_of (hand_in mmu w T.makes.step.actor)).number
  line_of_turn turn T = T.number_is ∙ ap (λ (a : ℕ). (line_of (hand_in mmu w a)).number) (sym T.makes.turn.own)

  -- The turn, by what became of it.
  pub goes_made : (turn : Turn (Unit {0})) → is_going turn ≡ true → (T : IsTurnOf number whose (told_in turn actor w t) actor w t)
      → (M : MakesTurn actor w t false []) × (M.step ≡ T.makes.step)
  goes_made More is T = (T.makes, refl)
  goes_made (Wait seen) is T = absurd (cc is)
  goes_made (Retry cause) is T = absurd (cc is)
  goes_made (Done u) is T = absurd (cc is)

  pub stops_made : (turn : Turn (Unit {0})) → is_going turn ≡ false → (T : IsTurnOf number whose (told_in turn actor w t) actor w t)
      → (bytes : List ℕ) × (M : MakesTurn actor w t true bytes) × (M.step ≡ T.makes.step)
  stops_made More is T = absurd (cc is)
  stops_made (Wait seen) stop T = ([], T.makes, refl)
  stops_made (Retry cause) stop T = ([], T.makes, refl)
  stops_made (Done u) stop T = (turn_text number whose (told_in (Done u) actor w t), T.makes, refl)

-- What a turn says tells how it ended.
pub made_same : (row : Row) (line : ℕ) (turn : Turn (Unit {0})) (told : Turn Answer) (h : Held) → TellsAll turn told h
    → made_by row line turn ≡ made_by row line told
made_same row line More told h tells = rw tells refl
made_same row line (Wait seen) told h tells = rw tells refl
made_same row line (Retry cause) told h tells = rw tells refl
made_same row line (Done u) told h (answer, given, before, is, rest) = rw is refl

-- What a printer puts.
module _ (p q : Printed) (text : List ℕ) where
  -- A text was put, and is written or waits.
  module _ (mark : Mark) (after : Lines) (puts : (more : List Mark) → text ++ coming_text after more ≡ p.waits ++ coming_text p.lines (mark ∷ more)) where
    pub mark_put : q.lines ≡ after → ends_over (mark ∷ []) ≡ false → MayPrint q → q.faults ≡ p.faults
        → Buffers p.given q.given text q.waits (Ok tt) [] → PutsSteps p (mark ∷ []) q
    mark_put lines not_over may faults (written, appends, is, few) = record {
      written = written;
      appends = appends;
      whole = λ more. sym (append_assoc written q.waits (coming_text q.lines more))
          ∙ ap (λ (x : List ℕ). x ++ coming_text q.lines more) (is ∙ append-nil text)
          ∙ ap (λ (l : Lines). text ++ coming_text l more) lines
          ∙ puts more;
      at_end = λ e. let f : false ≡ true = sym not_over ∙ e in absurd (cc f);
      may = may;
      faults = faults;
    }

    pub mark_stopped : (stop : Stop) → AppendsPrefix p.given q.given (text ++ []) → WroteFaults {A = Unit {0}} p.faults q.faults (Err stop)
        → q.failed ≡ is_failed {A = Unit {0}} (Err stop) → StopsSteps p (mark ∷ []) stop q
    mark_stopped stop prefix faults failed = record {
      written = λ more. subst (AppendsPrefix p.given q.given) (puts more)
          (longer p.given q.given text (coming_text after more) (subst (AppendsPrefix p.given q.given) (append-nil text) prefix));
      faults = faults;
      failed = failed;
    }

  -- The turn was put as it is told.
  pub put_told : (row : Row) (line : ℕ) (turn : Turn (Unit {0})) (told : Turn Answer) (h : Held) (m : MadeTurn) (after : Lines)
      → m ≡ made_by row line turn → TellsAll turn told h → PutsTurn p.lines p.waits m told after text
      → PutsTurn p.lines p.waits (made_by row line told) told after text
  put_told row line turn told h m after is tells puts =
      subst (λ (x : MadeTurn). PutsTurn p.lines p.waits x told after text) (is ∙ made_same row line turn told h tells) puts

  -- The turn's line was put.
  pub turn_puts : (w : World Held) (s : Step Kind) (row : Row) (line : ℕ) (told : Turn Answer) (after : Lines)
      → row ≡ row_of p.lines.sizes p.lines.reach.number w s → line ≡ (line_of (hand_in mmu w s.actor)).number → told ≡ turn_in w s
      → PutsTurn p.lines p.waits (made_by row line told) told after text
      → (more : List Mark) → text ++ coming_text after more ≡ p.waits ++ coming_text p.lines (Made w s ∷ more)
  turn_puts w s row line told after row_is line_is told_is puts more =
      let z = p.lines.sizes in
      let v = p.lines.view in
      let r = p.lines.reach in
      let whole : Row → ℕ → Turn Answer → List ℕ = λ x n t. p.waits ++ lines_text z (after_kept v z p.lines.kept (placed v z (shows v r (made_by x n t))
      (turn_entry z x t) (entries v z (after_turn v r (made_by x n t)) more))) in
      ap (λ (y : Sizes). text ++ lines_text y (after_kept after.view y after.kept (entries after.view y after.reach more))) puts.sizes
      ∙ ap (λ (y : View). text ++ lines_text z (after_kept y z after.kept (entries y z after.reach more))) puts.view
      ∙ ap (λ (y : Reach). text ++ lines_text z (after_kept v z after.kept (entries v z y more))) puts.reach
      ∙ puts.puts (entries v z (after_turn v r (made_by row line told)) more)
      ∙ ap (λ (x : Row). whole x line told) row_is
      ∙ ap (λ (n : ℕ). whole (row_of z r.number w s) n told) line_is
      ∙ ap (λ (t : Turn Answer). whole (row_of z r.number w s) (line_of (hand_in mmu w s.actor)).number t) told_is

-- Where memory was refused, nothing was written.
pub nothing_written : (p q : Printed) (marks : List Mark) → q.given ≡ p.given → q.faults ≡ p.faults → q.failed ≡ false → StopsSteps p marks NoMemory q
nothing_written p q marks given faults failed = record {
  written = λ more. subst (λ (x : Option (List ℕ)). AppendsPrefix p.given x (p.waits ++ coming_text p.lines (marks ++ more))) (sym given)
      (none_written p.given (p.waits ++ coming_text p.lines (marks ++ more)));
  faults = faults;
  failed = failed;
}
