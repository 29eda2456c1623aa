-- A line that sets a run of host pages, alone: it looks at the run, and is refused, or sets its pages one after another.
use Rattle.std.proofs.Common.{◌≡◌, ◌==◌, ◌+◌, ◌++◌, ◌∷◌, [], ℕ, zero, suc, List, Bool, true, false, refl, sym, ap, ◌∙◌, if◌then◌else◌}
use Rattle.std.specs.Prelude.{Option, Some, None}
use Rattle.core_views.specs.declared.answer.Answer.{Answer}
use Rattle.core_views.specs.declared.answer.Answer.TheVariants.{Done}
use Rattle.core_views.specs.declared.answer.AnsweredLine.{AnsweredLine}
use Rattle.core_views.specs.declared.answer.Refusal.{Refusal}
use Rattle.core_views.specs.declared.event.Event.{Event}
use Rattle.core_views.specs.declared.event.EventKind.TheVariants.{Begun, LookedAtHost}
use Rattle.core_views.specs.declared.trace.Command.{Command}
use Rattle.core_views.specs.declared.trace.Command.TheVariants.{ChangeRun}
use Rattle.core_views.specs.declared.trace.Line.{Line}
use Rattle.core_views.specs.declared.trace.RunChange.{RunChange}
use Rattle.core_views.specs.declared.trace.RunChange.TheVariants.{Huge, Small}
use Rattle.core_views.specs.declared.sizes.Sizes.{Sizes}
use Rattle.core_views.specs.Events.{facts_after_all}
use Rattle.core_views.specs.Flat.{Facts}
use Rattle.core_views.specs.FlatHistory.{alone, by, doing, doing_by, looking_around, looking_at_run, looking_on, looks, setting_run, unless_refused}
use Rattle.core_views.specs.Host.{HostMap, is_huge, mapping}
use Rattle.core_views.specs.HostRuns.{level_set, owns_run, run_count, run_first, run_pages, run_refusal}
use Rattle.core_views.specs.Text.{answers_of}
use Rattle.core_views.proofs.HostLines.{owned_answer}
use Rattle.flat_model.specs.HostPages.{Changed, SetsUnless, at_level, host_of, with_levels}
use Rattle.flat_model.specs.Kept.{GivesLine, Kept, facts_of}
use Rattle.flat_model.specs.Steps.{ChangesRun}
use Rattle.flat_model.proofs.SameFacts.{with_host}

-- ---- what it looks at changes no fact and answers no line

record AreLooks (xs : List Event) : Type 0 where
  facts : (es : List Event) (f : Facts) → facts_after_all (xs ++ es) f ≡ facts_after_all es f
  answers : (es : List Event) → answers_of (xs ++ es) ≡ answers_of es

no_looks : AreLooks []
no_looks = record { facts = λ es f. refl; answers = λ es. refl }

one_look : (line : Line) (page : ℕ) (xs : List Event) → AreLooks xs → AreLooks (by line (LookedAtHost page) ∷ xs)
one_look line page xs L = record { facts = λ es f. L.facts es f; answers = λ es. L.answers es }

either : (b : Bool) (xs ys : List Event) → AreLooks xs → AreLooks ys → AreLooks (if b then xs else ys)
either true xs ys X Y = X
either false xs ys X Y = Y

looks_on : (line : Line) (host : HostMap) (page n : ℕ) → AreLooks (looking_on line host page n)
looks_on line host page zero = no_looks
looks_on line host page (suc n) =
    one_look line page (if is_huge (host page) then [] else looking_on line host (page + 1) n)
    (either (is_huge (host page)) [] (looking_on line host (page + 1) n) no_looks (looks_on line host (page + 1) n))

looks_around : (line : Line) (page other n : ℕ) → AreLooks (looking_around line page other n)
looks_around line page other zero = no_looks
looks_around line page other (suc n) =
    let more = looks_around line page (other + 1) n in
    either (page == other) (looking_around line page (other + 1) n) (by line (LookedAtHost other) ∷ looking_around line page (other + 1) n) more
    (one_look line other (looking_around line page (other + 1) n) more)

looks_at_run : (line : Line) (page : ℕ) (change : RunChange) (host : HostMap) → AreLooks (looking_at_run line page change host)
looks_at_run line page (Huge level) host = looks_on line host page (run_pages level)
looks_at_run line page Small host =
    one_look line page (looking_around line page (run_first Small page (host page)) (run_pages (host page).level))
    (looks_around line page (run_first Small page (host page)) (run_pages (host page).level))

-- ---- it sets the pages, and is done

-- the facts, with this host
abbrev hosted : Facts → HostMap → Facts
hosted f host = record f { host = host }

abbrev answered : Line → Answer → List AnsweredLine
answered line answer = record { number = line.number; actor = line.actor; answer = answer } ∷ []

sets : (line : Line) (page n level : ℕ) (host : HostMap) (f : Facts)
    → facts_after_all (setting_run line page n level (hosted f host)) (hosted f host) ≡ hosted f (with_levels page n level host)
sets line page zero level host f = refl
sets line page (suc n) level host f = sets line (page + 1) n level (mapping page (at_level level (host page)) host) f

says : (line : Line) (page n level : ℕ) (host : HostMap) (f : Facts) → answers_of (setting_run line page n level (hosted f host)) ≡ answered line Done
says line page zero level host f = refl
says line page (suc n) level host f = says line (page + 1) n level (mapping page (at_level level (host page)) host) f

-- ---- the whole line

-- by whether the pages that it names are the actor's own
abbrev whole_of : Sizes → Line → ℕ → RunChange → Facts → Bool → List Event
whole_of z line page change f own =
    by line (Begun line) ∷ ((if own then looking_at_run line page change f.host else []) ++ doing_by z line (ChangeRun page change) f (owned_answer own))

module _ (line : Line) (page : ℕ) (change : RunChange) (before after : Kept) (answer : Answer) where
  abbrev f : Facts
  f = facts_of before

  -- what it does to so many pages, from the first on, where it is refused so, or isn't
  abbrev rest : ℕ → ℕ → ℕ → Option Refusal → List Event
  rest first count level refusal = unless_refused line refusal (setting_run line first count level f)

  does : (first count level : ℕ) (refusal : Option Refusal) → SetsUnless first count level before.changed after.changed answer refusal
      → after.slots ≡ before.slots → after.words ≡ before.words → after.dirty ≡ before.dirty → after.copies ≡ before.copies
      → (facts_of after ≡ facts_after_all (rest first count level refusal) f) × (answers_of (rest first count level refusal) ≡ answered line answer)
  does first count level (Some refusal) done slots words dirty copies = (
    with_host before after (host_of before.changed) (λ p. ap (λ (c : Changed). host_of c p) done.1) slots words dirty copies,
    ap (answered line) (sym done.0),
  )
  does first count level None done slots words dirty copies = (
    with_host before after (with_levels first count level (host_of before.changed)) (λ p. ap (λ (h : HostMap). h p) done.1) slots words dirty copies
        ∙ sym (sets line first count level (host_of before.changed) f),
    says line first count level (host_of before.changed) f ∙ ap (answered line) (sym done.0),
  )

  by_owner : (own : Bool) → alone before.sizes line f ≡ whole_of before.sizes line page change f own → ChangesRun page change before after answer own
      → GivesLine before.sizes line f (facts_of after) answer
  by_owner false whole done = record {
    leads = ap facts_of done.1 ∙ sym (ap (λ (es : List Event). facts_after_all es f) whole);
    tells = ap answers_of whole ∙ ap (answered line) (sym done.0);
  }
  by_owner true whole done =
      let first = run_first change page (f.host page) in
      let count = run_count change (f.host page) in
      let refusal = run_refusal f.host page change in
      let es = rest first count (level_set change) refusal in
      let L = looks_at_run line page change f.host in
      let D = does first count (level_set change) refusal done.0 done.1 done.2 done.3 done.4 in
      record {
        leads = D.0 ∙ sym (L.facts es f) ∙ sym (ap (λ (xs : List Event). facts_after_all xs f) whole);
        tells = ap answers_of whole ∙ L.answers es ∙ D.1;
      }

  pub host_run_line : line.command ≡ ChangeRun page change → ChangesRun page change before after answer (owns_run before.sizes line.actor page change)
      → GivesLine before.sizes line f (facts_of after) answer
  host_run_line is changes = by_owner (owns_run before.sizes line.actor page change)
      (ap (λ (command : Command). by line (Begun line) ∷ (looks before.sizes line command f ++ doing before.sizes line command f)) is) changes
