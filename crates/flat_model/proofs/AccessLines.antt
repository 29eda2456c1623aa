-- An access, alone: it leaves the guest, or reaches its word.
use Rattle.std.proofs.Common.{◌≡◌, ◌++◌, ◌∷◌, ℕ, List, [], Bool, true, false, inl, inr, refl, sym, ap, ◌∙◌}
use Rattle.std.proofs.lemmas.Bool.Decides.{eqb_tells}
use Rattle.std.specs.Prelude.{Option, Some, None, if◌then◌else◌}
use Rattle.core_views.specs.declared.answer.Answer.{Answer}
use Rattle.core_views.specs.declared.answer.Answer.TheVariants.{Reached}
use Rattle.core_views.specs.declared.answer.AnsweredLine.{AnsweredLine}
use Rattle.core_views.specs.declared.event.Event.{Event}
use Rattle.core_views.specs.declared.event.EventKind.TheVariants.{Accessed, Begun}
use Rattle.core_views.specs.declared.host.HostEntry.{HostEntry}
use Rattle.core_views.specs.declared.trace.Command.{Command}
use Rattle.core_views.specs.declared.trace.Command.TheVariants.{Access}
use Rattle.core_views.specs.declared.trace.Line.{Line}
use Rattle.core_views.specs.declared.trace.Op.{Op}
use Rattle.core_views.specs.Events.{facts_after_all, marked, touched}
use Rattle.core_views.specs.Flat.{Facts}
use Rattle.core_views.specs.FlatHistory.{accessing, answers, bringing, by, doing, looks, looks_behind, reaching, unless_paused}
use Rattle.core_views.specs.Host.{HostMap, brought_in, is_denied, mapping}
use Rattle.core_views.specs.Migrations.{is_paused}
use Rattle.core_views.specs.Refusals.{is_logged}
use Rattle.core_views.specs.Slots.{page_behind}
use Rattle.core_views.specs.SlotSets.{flat_slots}
use Rattle.core_views.specs.Text.{answers_of}
use Rattle.flat_model.specs.Dirty.{is_frame_logged}
use Rattle.flat_model.specs.HostPages.{host_of}
use Rattle.flat_model.specs.Kept.{GivesLine, Kept, facts_of, memory_of}
use Rattle.flat_model.specs.Steps.{Accesses, AccessesEntry, AccessesPage, AccessesUnlessPaused}
use Rattle.flat_model.proofs.SameFacts.{facts_with, same_facts}

-- A page that is present stays as it is where it is brought in.
stays : (host : HostMap) (page other : ℕ) → (host page).present ≡ true → mapping page (brought_in (host page)) host other ≡ host other
stays host page other is = elim (eqb_tells page other) [
  | inl same ↦ ap (λ (b : Bool). if b then brought_in (host page) else host other) same.0
      ∙ ap (λ (b : Bool). let entry : HostEntry = record (host page) { present = b } in entry) (sym is) ∙ ap host same.1
  | inr unlike ↦ ap (λ (b : Bool). if b then brought_in (host page) else host other) unlike.0
]

-- the events of an access to a page that the host allows
abbrev reaching_so : Line → ℕ → ℕ → Op → Facts → ℕ → Bool → List Event
reaching_so line gfn word op f page present =
    bringing line page present
    ++ (by line (Accessed gfn word op (f.host page).frame (f.memory page word)) ∷ answers line (Reached (f.host page).frame (f.memory page word)))

module _ (line : Line) (gfn word : ℕ) (op : Op) (before after : Kept) (answer : Answer) where
  abbrev f : Facts
  f = facts_of before

  abbrev answered : Answer → List AnsweredLine
  answered x = record { number = line.number; actor = line.actor; answer = x } ∷ []

  -- What the events make of the facts, and what answer they tell.
  abbrev Does : List Event → Type 0
  Does events = (facts_of after ≡ facts_after_all events f) × (answers_of events ≡ answered answer)

  by_entry : (page : ℕ) (denied : Bool) → page_behind (flat_slots before.slots) gfn op ≡ Some page
      → AccessesEntry gfn page word op before after answer (f.host page) denied → Does (reaching line gfn word op f page denied)
  by_entry page true behind done = (ap facts_of done.1, ap answered (sym done.0))
  by_entry page false behind done = by_present (f.host page).present refl
    where
      -- The page is there, and stays as it is, or is brought in.
      memory_is : (p w : ℕ) → memory_of after.words p w ≡ touched (page_behind (flat_slots before.slots) gfn op) word op f.memory p w
      memory_is p w = done.4 p w ∙ sym (ap (λ (o : Option ℕ). touched o word op f.memory p w) behind)

      facts_are : (host : HostMap) → ((other : ℕ) → host_of after.changed other ≡ host other) → facts_of after
          ≡ facts_with before.slots host (touched (page_behind (flat_slots before.slots) gfn op) word op f.memory) f.armed
          (marked (is_frame_logged before.slots gfn) gfn op f.pending) before.copies
      facts_are host maps = same_facts _ _ _ _ _ _ _ _ _ _ _ _ done.1 maps memory_is (λ id. ap (is_logged id) done.1) done.5 done.2

      by_present : (present : Bool) → (f.host page).present ≡ present → Does (reaching_so line gfn word op f page present)
      by_present true is = (facts_are f.host (λ other. done.3 other ∙ stays f.host page other is), ap answered (sym done.0))
      by_present false is = (facts_are (mapping page (brought_in (f.host page)) f.host) done.3, ap answered (sym done.0))

  by_page : (o : Option ℕ) → page_behind (flat_slots before.slots) gfn op ≡ o → AccessesPage gfn word op before after answer o
      → Does (looks_behind line o ++ accessing line gfn word op f o)
  by_page None behind done = (ap facts_of done.1, ap answered (sym done.0))
  by_page (Some page) behind done = by_entry page (is_denied op (f.host page)) behind done

  -- A line that is paused has looked at the same.
  paused : (o : Option ℕ) → AccessesUnlessPaused gfn word op before after answer true
      → Does (looks_behind line o ++ unless_paused line true (accessing line gfn word op f o))
  paused None done = (ap facts_of done.1, ap answered (sym done.0))
  paused (Some page) done = (ap facts_of done.1, ap answered (sym done.0))

  by_pause : (b : Bool) → AccessesUnlessPaused gfn word op before after answer b
      → Does (looks_behind line (page_behind (flat_slots before.slots) gfn op)
      ++ unless_paused line b (accessing line gfn word op f (page_behind (flat_slots before.slots) gfn op)))
  by_pause true done = paused (page_behind (flat_slots before.slots) gfn op) done
  by_pause false done = by_page (page_behind (flat_slots before.slots) gfn op) refl done

  pub access_line : line.command ≡ Access gfn word op → Accesses gfn word op before after answer
      → GivesLine before.sizes line (facts_of before) (facts_of after) answer
  access_line is made =
      let all = ap (λ (c : Command). by line (Begun line) ∷ (looks before.sizes line c f ++ doing before.sizes line c f)) is in
      let D = by_pause (is_paused before.copies.state) made in
      record { leads = D.0 ∙ sym (ap (λ (es : List Event). facts_after_all es f) all); tells = ap answers_of all ∙ D.1 }
