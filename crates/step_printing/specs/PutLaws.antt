-- What is printed after what was printed before: the laws of a printer of steps.
use Rattle.std.proofs.Common.{◌≡◌, ◌+◌, ℕ, List, [], ◌∷◌, ◌++◌, Err, append_assoc, length, length-append, take, refl, sym, ap, subst, ◌∙◌, arith}
use Rattle.std.proofs.lemmas.List.{append-nil, take-append-le}
use Rattle.std.proofs.Math.Seq.{take-append-add, take-append_seam}
use Rattle.std.specs.Prelude.{true}
use Rattle.std.specs.declared.option.Option.{Option}
use Rattle.std.specs.Io.KnownBytes.{Appends}
use Rattle.std.proofs.KnownBytes.{Appends-nil, Appends-trans}
use Rattle.tdp_io.specs.Ends.{AppendsPrefix, WroteFaults}
use Rattle.tdp_io.specs.declared.sink.Stop.{Stop}
use Rattle.tdp_io.specs.declared.sink.Stop.TheVariants.{NoMemory}
use Rattle.weave_engine.specs.AnswerTexts.{ends_over}
use Rattle.turn_loops.specs.Marks.{Mark}
use Rattle.weave_engine.specs.PrinterLaws.{over_append}
use Rattle.step_printing.specs.Coming.{coming_text}
use Rattle.step_printing.specs.Puts.{MayPrint, Printed, PutsSteps, StopsSteps}

-- What is written is a prefix of more, too.
pub longer : (before after : Option (List ℕ)) (text more : List ℕ) → AppendsPrefix before after text → AppendsPrefix before after (text ++ more)
longer before after text more (n, le, p) = (
  n,
  let l = length-append text more in omega (arith, l, le),
  subst (Appends before after) (sym (take-append-le n text more le)) p,
)

-- It is one of the text before it and itself.
pub later : (start before after : Option (List ℕ)) (w text : List ℕ) → Appends start before w → AppendsPrefix before after text
    → AppendsPrefix start after (w ++ text)
later start before after w text p (n, le, q) = (
  length w + n,
  let l = length-append w text in omega (arith, l, le),
  subst (Appends start after) (sym (take-append-add w text n)) (Appends-trans start before after w (take n text) p q),
)

pub none_written : (before : Option (List ℕ)) (text : List ℕ) → AppendsPrefix before before text
none_written before text = (length empty, omega arith, subst (Appends before before) (sym (take-append_seam empty text)) (Appends-nil before))
  where
    empty : List ℕ
    empty = []

none_left : (xs ys : List ℕ) → xs ++ ys ≡ [] → ys ≡ []
none_left [] ys is = is
none_left (x ∷ xs) ys is = absurd (cc is)

pub nothing_put : (p : Printed) → MayPrint p → PutsSteps p [] p
nothing_put p may =
    record { written = []; appends = Appends-nil p.given; whole = λ more. refl; at_end = λ e. absurd (cc e); may = may; faults = refl }

pub nothing_stopped : (p : Printed) → MayPrint p → StopsSteps p [] NoMemory p
nothing_stopped p may = record {
  written = λ more. none_written p.given (p.waits ++ coming_text p.lines more);
  faults = refl;
  failed = may.unfailed;
}

pub both_put : (p q r : Printed) (marks more : List Mark) → PutsSteps p marks q → PutsSteps q more r → PutsSteps p (marks ++ more) r
both_put p q r marks more A B = record {
  written = A.written ++ B.written;
  appends = Appends-trans p.given q.given r.given A.written B.written A.appends B.appends;
  whole = λ others. append_assoc A.written B.written (r.waits ++ coming_text r.lines others)
      ∙ ap (λ (x : List ℕ). A.written ++ x) (B.whole others) ∙ A.whole (more ++ others)
      ∙ ap (λ (ms : List Mark). p.waits ++ coming_text p.lines ms) (sym (append_assoc marks more others));
  at_end = by more B;
  may = B.may;
  faults = B.faults ∙ A.faults;
}
  where
    by : (more : List Mark) → PutsSteps q more r → ends_over (marks ++ more) ≡ true → r.waits ++ coming_text r.lines [] ≡ []
    by [] C ends =
        let none = A.at_end (ap ends_over (sym (append-nil marks)) ∙ ends) in
        none_left C.written (r.waits ++ coming_text r.lines []) (C.whole [] ∙ none)
    by (m ∷ ms) C ends = C.at_end (sym (over_append marks ms m) ∙ ends)

pub then_stopped : (p q r : Printed) (marks more : List Mark) (stop : Stop) → PutsSteps p marks q → StopsSteps q more stop r
    → StopsSteps p (marks ++ more) stop r
then_stopped p q r marks more stop A S = record {
  written = λ others. subst (AppendsPrefix p.given r.given)
      (A.whole (more ++ others) ∙ ap (λ (ms : List Mark). p.waits ++ coming_text p.lines ms) (sym (append_assoc marks more others)))
      (later p.given q.given r.given A.written (q.waits ++ coming_text q.lines (more ++ others)) A.appends (S.written others));
  faults = subst (λ (n : ℕ). WroteFaults {A = Unit {0}} n r.faults (Err stop)) A.faults S.faults;
  failed = S.failed;
}

-- Who stopped at some marks stopped at more.
pub stopped_at_more : (p q : Printed) (marks more : List Mark) (stop : Stop) → StopsSteps p marks stop q → StopsSteps p (marks ++ more) stop q
stopped_at_more p q marks more stop S = record {
  written = λ others. subst (λ (ms : List Mark). AppendsPrefix p.given q.given (p.waits ++ coming_text p.lines ms))
      (sym (append_assoc marks more others)) (S.written (more ++ others));
  faults = S.faults;
  failed = S.failed;
}
