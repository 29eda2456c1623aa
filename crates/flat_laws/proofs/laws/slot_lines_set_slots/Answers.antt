use Rattle.std.proofs.Common.{◌≡◌, ◌/◌, ◌%◌, ◌+◌, ◌<◌, ◌≤◌, ◌==◌, ℕ, List, [], ◌∷◌, refl, sym, ap, ◌∙◌, arith, lit<, lit≤}
use Rattle.std.specs.Prelude.{Bool, Option, Some, None, codes}
use Rattle.std.specs.Fmt.{decimal}
use Rattle.std.proofs.lemmas.Bool.{cond-true, cond-false, eq-eqb, ne_eqb}
use Rattle.std.proofs.lemmas.Fmt.{decimal_digit, decimal_step}
use Rattle.core_views.specs.Flat.{first_facts}
use Rattle.core_views.specs.declared.actor.Actor.{Actor}
use Rattle.core_views.specs.declared.actor.Actor.TheVariants.{Vcpu, Manager}
use Rattle.core_views.specs.declared.answer.Answer.{Answer}
use Rattle.core_views.specs.declared.answer.Answer.TheVariants.{Reached, Mmio, Done, Refused}
use Rattle.core_views.specs.declared.answer.AnsweredLine.{AnsweredLine}
use Rattle.core_views.specs.declared.answer.Refusal.TheVariants.{BadId, Fixed, Missing, Resize, TooLarge}
use Rattle.core_views.specs.FlatHistory.{one_by_one}
use Rattle.flat_laws.specs.Laws.{example_sizes}
use Rattle.core_views.specs.declared.memory_slot.MemorySlot.{MemorySlot}
use Rattle.core_views.specs.Refusals.{is_logged}
use Rattle.core_views.specs.Slots.{is_some_and}
use Rattle.flat_laws.specs.SlotLines.{fitting_lines, fitting_bytes, has_log, whole_lines, whole_bytes}
use Rattle.core_views.specs.SlotSets.{slot_of_id}
use Rattle.core_views.specs.Text.{answers_of, line_text, lines_text}
use Rattle.core_views.proofs.SlotLines.{log_elsewhere, log_here, set_elsewhere, set_here, taken_at}
use Rattle.flat_laws.proofs.laws.slot_lines_set_slots.Goals as goal

pub returns-clause-record : goal.returns-clause-record
returns-clause-record c id slot slots = refl

pub returns-clause-set : goal.returns-clause-set
returns-clause-set c id slot slots =
    set_here id (record { slot = slot; logged = is_logged id slots }) slots
    ∙ ap (λ (on : Bool). Some (record { slot = slot; logged = on })) (by (slot_of_id id slots))
  where
    by : (was : Option MemorySlot) → is_some_and (λ (x : MemorySlot). x.logged) was ≡ has_log was
    by None = refl
    by (Some x) = refl

pub returns-clause-deleted : goal.returns-clause-deleted
returns-clause-deleted c id slots = taken_at id id slots ∙ cond-true (id == id) None (slot_of_id id slots) (eq-eqb id id refl)

pub returns-clause-logged : goal.returns-clause-logged
returns-clause-logged c id on slots = log_here id on slots

pub returns-clause-others : goal.returns-clause-others
returns-clause-others c id slot on = (
  λ other slots apart. set_elsewhere id other (record { slot = slot; logged = is_logged id slots }) slots apart,
  λ other slots apart. taken_at other id slots ∙ cond-false (id == other) None (slot_of_id other slots) (ne_eqb id other (λ e. apart (sym e))),
  λ other slots apart. log_elsewhere id other on slots apart,
)

-- the numbers that the trace prints, in digits
two_digits : (n : ℕ) → 10 ≤ n → n < 100 → decimal n ≡ (48 + n / 10) ∷ (48 + n % 10) ∷ []
two_digits n low high = rw (decimal_step n low (omega arith), decimal_digit (n / 10) (omega arith)) refl

last_page : decimal 127 ≡ codes "127"
last_page = rw (decimal_step 127 (lit≤ tt) (lit< tt), two_digits 12 (lit≤ tt) (lit< tt)) refl

abbrev answered : ℕ → Actor → Answer → AnsweredLine
answered number actor answer = record { number = number; actor = actor; answer = answer }

abbrev fitting_answers : List AnsweredLine
fitting_answers =
    answered 2 Manager (Refused TooLarge)
    ∷ answered 3 Manager Done
    ∷ answered 4 (Vcpu 0) (Reached 2 0)
    ∷ answered 5 (Vcpu 1) (Reached 2 5)
    ∷ answered 6 Manager (Refused TooLarge)
    ∷ answered 7 Manager Done
    ∷ answered 8 (Vcpu 0) (Reached 127 0)
    ∷ answered 9 (Vcpu 1) (Reached 127 7)
    ∷ answered 10 (Vcpu 0) Mmio
    ∷ []

answers_are : answers_of (one_by_one example_sizes fitting_lines first_facts) ≡ fitting_answers
answers_are = refl

answers_print : lines_text fitting_answers ≡ fitting_bytes
unfolding line_text
answers_print = simp (
  decimal_digit 0 (lit< tt),
  decimal_digit 1 (lit< tt),
  decimal_digit 2 (lit< tt),
  decimal_digit 3 (lit< tt),
  decimal_digit 4 (lit< tt),
  decimal_digit 5 (lit< tt),
  decimal_digit 6 (lit< tt),
  decimal_digit 7 (lit< tt),
  decimal_digit 8 (lit< tt),
  decimal_digit 9 (lit< tt),
  two_digits 10 (lit≤ tt) (lit< tt),
  last_page,
)

pub returns-clause-fits : goal.returns-clause-fits
returns-clause-fits c = ap lines_text answers_are ∙ answers_print

abbrev whole_answers : List AnsweredLine
whole_answers =
    answered 2 Manager Done
    ∷ answered 3 Manager (Refused Resize)
    ∷ answered 4 Manager (Refused Fixed)
    ∷ answered 5 Manager Done
    ∷ answered 6 Manager (Refused Missing)
    ∷ answered 7 Manager (Refused BadId)
    ∷ answered 8 (Vcpu 0) (Reached 66 0)
    ∷ answered 9 Manager Done
    ∷ answered 10 (Vcpu 0) Mmio
    ∷ answered 11 (Vcpu 0) (Reached 66 7)
    ∷ answered 12 Manager Done
    ∷ answered 13 (Vcpu 0) Mmio
    ∷ answered 14 Manager Done
    ∷ answered 15 (Vcpu 0) (Reached 3 0)
    ∷ []

whole_answers_are : answers_of (one_by_one example_sizes whole_lines first_facts) ≡ whole_answers
whole_answers_are = refl

whole_print : lines_text whole_answers ≡ whole_bytes
unfolding line_text
whole_print = simp (
  decimal_digit 0 (lit< tt),
  decimal_digit 2 (lit< tt),
  decimal_digit 3 (lit< tt),
  decimal_digit 4 (lit< tt),
  decimal_digit 5 (lit< tt),
  decimal_digit 6 (lit< tt),
  decimal_digit 7 (lit< tt),
  decimal_digit 8 (lit< tt),
  decimal_digit 9 (lit< tt),
  two_digits 10 (lit≤ tt) (lit< tt),
  two_digits 11 (lit≤ tt) (lit< tt),
  two_digits 12 (lit≤ tt) (lit< tt),
  two_digits 13 (lit≤ tt) (lit< tt),
  two_digits 14 (lit≤ tt) (lit< tt),
  two_digits 15 (lit≤ tt) (lit< tt),
  two_digits 66 (lit≤ tt) (lit< tt),
)

pub returns-clause-whole : goal.returns-clause-whole
returns-clause-whole c = ap lines_text whole_answers_are ∙ whole_print
