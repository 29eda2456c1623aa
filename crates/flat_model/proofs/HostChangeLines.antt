-- A line that changes a host page, alone: it is refused, or makes its change.
use Rattle.std.proofs.Common.{◌≡◌, ◌++◌, ◌∷◌, ℕ, List, [], Bool, true, false, cond, refl, sym, ap, ◌∙◌}
use Rattle.std.specs.Prelude.{Option, Some, None}
use Rattle.std.specs.Option.{option_map}
use Rattle.core_views.specs.declared.answer.Answer.{Answer}
use Rattle.core_views.specs.declared.answer.Answer.TheVariants.{Refused}
use Rattle.core_views.specs.declared.answer.AnsweredLine.{AnsweredLine}
use Rattle.core_views.specs.declared.answer.Refusal.TheVariants.{NoFrame}
use Rattle.core_views.specs.declared.event.Event.{Event}
use Rattle.core_views.specs.declared.event.EventKind.TheVariants.{Begun, Exited, HostChanged, LookedAtHost}
use Rattle.core_views.specs.declared.host.HostEntry.{HostEntry}
use Rattle.core_views.specs.declared.trace.Command.{Command}
use Rattle.core_views.specs.declared.trace.Command.TheVariants.{ChangeHost}
use Rattle.core_views.specs.declared.trace.HostChange.{HostChange}
use Rattle.core_views.specs.declared.trace.HostChange.TheVariants.{Move, Evict, Protect, Allow}
use Rattle.core_views.specs.declared.trace.Line.{Line}
use Rattle.core_views.specs.declared.sizes.Sizes.{Sizes}
use Rattle.core_views.specs.Events.{facts_after_all}
use Rattle.core_views.specs.Flat.{Facts}
use Rattle.core_views.specs.FlatHistory.{alone, answers, by, changing_host, doing, doing_by, looks, moving, unless_huge}
use Rattle.core_views.specs.Host.{is_huge, mapping}
use Rattle.core_views.specs.HostChanges.{host_answer, is_own, lowest_free}
use Rattle.core_views.specs.Text.{answers_of}
use Rattle.core_views.proofs.HostLines.{owned_answer}
use Rattle.flat_model.specs.HostPages.{Changed, ChangesTo, ChangesUnlessHuge, entry_after, host_of}
use Rattle.flat_model.specs.Kept.{GivesLine, Kept, facts_of}
use Rattle.flat_model.specs.Steps.{ChangesHost}
use Rattle.flat_model.proofs.SameFacts.{with_host}

-- what the line does once it has looked, by the entry that it gives the page
abbrev events_of : Line → ℕ → HostChange → Option HostEntry → List Event
events_of line page change None = by line (Exited (Refused NoFrame)) ∷ answers line (Refused NoFrame)
events_of line page change (Some entry) = by line (HostChanged page entry) ∷ answers line (host_answer (ChangeHost page change) entry)

-- A line of the page's owner gives the page that entry.
by_entry : (z : Sizes) (line : Line) (page : ℕ) (change : HostChange) (f : Facts)
    → changing_host z line page change f ≡ events_of line page change (entry_after z f.host page change)
by_entry z line page Evict f = refl
by_entry z line page Protect f = refl
by_entry z line page Allow f = refl
by_entry z line page Move f = by_frame (lowest_free z f.host)
  where
    by_frame : (o : Option ℕ) → moving line page f o ≡ events_of line page Move (option_map (λ frame. record (f.host page) { frame = frame }) o)
    by_frame None = refl
    by_frame (Some frame) = refl

-- the whole line, by whether the page is the actor's own
abbrev whole_of : Sizes → Line → ℕ → HostChange → Facts → Bool → List Event
whole_of z line page change f own =
    by line (Begun line) ∷ (cond own (by line (LookedAtHost page) ∷ []) [] ++ doing_by z line (ChangeHost page change) f (owned_answer own))

abbrev answered : Line → Answer → List AnsweredLine
answered line answer = record { number = line.number; actor = line.actor; answer = answer } ∷ []

module _ (line : Line) (page : ℕ) (change : HostChange) (before after : Kept) (answer : Answer) where
  by_change : (o : Option HostEntry) → ChangesTo page change before.changed after.changed answer o → after.slots ≡ before.slots → after.words ≡ before.words
      → after.dirty ≡ before.dirty → after.copies ≡ before.copies
      → alone before.sizes line (facts_of before) ≡ by line (Begun line) ∷ by line (LookedAtHost page) ∷ events_of line page change o
      → GivesLine before.sizes line (facts_of before) (facts_of after) answer
  by_change None done slots words dirty copies whole = record {
    leads = with_host before after (host_of before.changed) (λ p. ap (λ (c : Changed). host_of c p) done.1) slots words dirty copies
        ∙ sym (ap (λ (es : List Event). facts_after_all es (facts_of before)) whole);
    tells = ap answers_of whole ∙ ap (answered line) (sym done.0);
  }
  by_change (Some entry) done slots words dirty copies whole = record {
    leads = with_host before after (mapping page entry (host_of before.changed)) done.1 slots words dirty copies
        ∙ sym (ap (λ (es : List Event). facts_after_all es (facts_of before)) whole);
    tells = ap answers_of whole ∙ ap (answered line) (sym done.0);
  }

  -- by whether the page is part of a large one
  by_size : (huge : Bool) → ChangesUnlessHuge before.sizes page change before.changed after.changed answer huge → after.slots ≡ before.slots
      → after.words ≡ before.words → after.dirty ≡ before.dirty → after.copies ≡ before.copies
      → alone before.sizes line (facts_of before) ≡ by line (Begun line) ∷ by line (LookedAtHost page)
      ∷ unless_huge line huge (changing_host before.sizes line page change (facts_of before))
      → GivesLine before.sizes line (facts_of before) (facts_of after) answer
  by_size true done slots words dirty copies whole = record {
    leads = with_host before after (host_of before.changed) (λ p. ap (λ (c : Changed). host_of c p) done.1) slots words dirty copies
        ∙ sym (ap (λ (es : List Event). facts_after_all es (facts_of before)) whole);
    tells = ap answers_of whole ∙ ap (answered line) (sym done.0);
  }
  by_size false done slots words dirty copies whole =
      by_change (entry_after before.sizes (host_of before.changed) page change) done slots words dirty copies
      (whole ∙ ap (λ (es : List Event). by line (Begun line) ∷ by line (LookedAtHost page) ∷ es) (by_entry before.sizes line page change (facts_of before)))

  by_owner : (own : Bool) → alone before.sizes line (facts_of before) ≡ whole_of before.sizes line page change (facts_of before) own
      → ChangesHost page change before after answer own
      → GivesLine before.sizes line (facts_of before) (facts_of after) answer
  by_owner false whole done = record {
    leads = ap facts_of done.1 ∙ sym (ap (λ (es : List Event). facts_after_all es (facts_of before)) whole);
    tells = ap answers_of whole ∙ ap (answered line) (sym done.0);
  }
  by_owner true whole done = by_size (is_huge (host_of before.changed page)) done.0 done.1 done.2 done.3 done.4 whole

  pub host_line : line.command ≡ ChangeHost page change → ChangesHost page change before after answer (is_own before.sizes line.actor page)
      → GivesLine before.sizes line (facts_of before) (facts_of after) answer
  host_line is changes = by_owner (is_own before.sizes line.actor page)
      (ap (λ (command : Command). by line (Begun line) ∷ (looks before.sizes line command (facts_of before) ++ doing before.sizes line command
      (facts_of before))) is) changes
