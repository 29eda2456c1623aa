-- The first lines ran, and their turns were printed: one line more, and what the run of them owes.
use Rattle.std.proofs.Common.{◌≡◌, ◌<◌, ◌+◌, inl, inr, ℕ, List, [], ◌++◌, Ok, Err, length, get_or, ap, refl, subst, sym, ◌∙◌, arith}
use Rattle.std.proofs.lemmas.List.{append-nil}
use Rattle.core_views.specs.declared.kind.Kind.{Kind}
use Rattle.core_views.specs.declared.sizes.Sizes.{Sizes}
use Rattle.core_views.specs.declared.trace.Line.{Line}
use Rattle.core_views.specs.Flat.{no_line}
use Rattle.core_views.specs.Held.{Held}
use Rattle.core_views.specs.Text.{line_text}
use Rattle.core_views.specs.Traces.{IsCommandFor}
use Rattle.mmu_core.specs.machine.Machine.{Step, World}
use Rattle.tdp_io.specs.declared.sink.Stop.{Stop}
use Rattle.turn_loops.specs.Marks.{Mark, turns_from}
use Rattle.turn_loops.specs.Printed.{PrintsLines}
use Rattle.turn_loops.specs.Turned.{PrintsLine}
use Rattle.turn_loops.proofs.Coming.{Printing}
use Rattle.turn_loops.proofs.LinesRun.{IsBetween, between_more}
use Rattle.turn_loops.proofs.Marks.{marks_append}

module _ {V : Type 0} (prints : V → List Mark → V → Type 0) (stops : V → List Mark → Stop → V → Type 0) (L : Printing prints stops) where
  -- So many lines of the trace have run, and their turns were printed.
  pub record LinesPut (z : Sizes) (lines : List Line) (n : ℕ) (start w : World Held) (p q : V) : Type 0 where
    pub printed : List ℕ
    pub between : IsBetween z lines n start w printed
    pub put : prints p (turns_from start between.ran.steps) q

  module _ (z : Sizes) (lines : List Line) (n : ℕ) (start w t : World Held) (p q r : V) (F : LinesPut z lines n start w p q) (lt : n < length lines)
      (may : IsCommandFor z (get_or lines n no_line).actor (get_or lines n no_line).command) where
    abbrev line : Line
    line = get_or lines n no_line

    -- the marks of one line more
    marks_of : (all own : List (Step Kind)) → all ≡ F.between.ran.steps ++ own
        → turns_from start F.between.ran.steps ++ turns_from w own ≡ turns_from start all
    marks_of all own are =
        marks_append [] (turns_from start F.between.ran.steps) (turns_from w own) start w F.between.ran.steps own refl F.between.ran.ends refl
        ∙ ap (turns_from start) (sym are)

    pub one_line_put : PrintsLine prints stops z line w t q r (Ok tt) → LinesPut z lines (n + 1) start t p r
    one_line_put (answer, R, put) =
        let more = between_more z lines n start w t F.printed answer lt may R F.between in
        record {
          printed = F.printed ++ line_text line.number line.actor answer;
          between = more.0;
          put =
              subst (λ (ms : List Mark). prints p ms r) (marks_of more.0.ran.steps R.steps more.2)
              (L.both p q r (turns_from start F.between.ran.steps) (turns_from w R.steps) F.put put);
        }

    pub lines_stop : (count : ℕ) (stop : Stop) → n < count → PrintsLine prints stops z line w t q r (Err stop)
        → PrintsLines prints stops z start lines count t p r (Err stop)
    lines_stop count stop few (inl (same, most)) =
        subst (λ (x : World Held). PrintsLines prints stops z start lines count x p r (Err stop)) (sym same) (
          n,
          omega (arith, few),
          F.between.ran,
          subst (λ (ms : List Mark). stops p ms stop r) (append-nil (turns_from start F.between.ran.steps))
              (L.stopped p q r (turns_from start F.between.ran.steps) [] stop F.put most),
        )
    lines_stop count stop few (inr (answer, R, most)) =
        let more = between_more z lines n start w t F.printed answer lt may R F.between in (
          n + 1,
          omega (arith, few),
          more.0.ran,
          subst (λ (ms : List Mark). stops p ms stop r) (marks_of more.0.ran.steps R.steps more.2)
              (L.stopped p q r (turns_from start F.between.ran.steps) (turns_from w R.steps) stop F.put most),
        )

  pub lines_end : (z : Sizes) (lines : List Line) (n count : ℕ) (start w : World Held) (p q : V) → n ≡ count → LinesPut z lines n start w p q
      → PrintsLines prints stops z start lines count w p q (Ok tt)
  lines_end z lines n count start w p q same F =
      subst (λ (m : ℕ). PrintsLines prints stops z start lines m w p q (Ok tt)) same (F.between.ran, F.put)
