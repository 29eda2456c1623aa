-- A line that reads a dirty log, alone: it is refused, or reads the log.
use Rattle.std.proofs.Common.{◌≡◌, ◌&&◌, ◌||◌, ◌∷◌, ℕ, List, [], Bool, true, false, refl, sym, ap, subst, ◌∙◌}
use Rattle.std.proofs.lemmas.Option.{same_Some}
use Rattle.std.specs.Prelude.{Option, Some, None, is_some}
use Rattle.std.specs.Option.{option_map}
use Rattle.core_views.specs.declared.answer.Answer.{Answer}
use Rattle.core_views.specs.declared.answer.Answer.TheVariants.{Bits, Refused}
use Rattle.core_views.specs.declared.answer.AnsweredLine.{AnsweredLine}
use Rattle.core_views.specs.declared.answer.Refusal.{Refusal}
use Rattle.core_views.specs.declared.event.Event.{Event}
use Rattle.core_views.specs.declared.event.EventKind.TheVariants.{Begun, Taken}
use Rattle.core_views.specs.declared.trace.Command.{Command}
use Rattle.core_views.specs.declared.trace.Command.TheVariants.{Access, ChangeHost, ChangeRun, ClearLog, DeleteSlot, GetLog, Migrate, SetLog, SetSlot, Split}
use Rattle.core_views.specs.declared.trace.Line.{Line}
use Rattle.core_views.specs.Events.{facts_after_all}
use Rattle.core_views.specs.Flat.{Facts}
use Rattle.core_views.specs.FlatHistory.{alone, answers, by, doing_by, harvest, working}
use Rattle.core_views.specs.Lawful.{slot_at}
use Rattle.core_views.specs.LogCommands.{asked_frames, bits_for, log_read, read_refusal, takes_out}
use Rattle.core_views.specs.Refusals.{is_logged}
use Rattle.core_views.specs.SlotSets.{slot_of_id}
use Rattle.core_views.specs.Text.{answers_of}
use Rattle.flat_model.specs.Dirty.{left_dirty}
use Rattle.flat_model.specs.HostPages.{Changed, host_of}
use Rattle.core_views.specs.LogCommands.{is_among}
use Rattle.core_views.specs.Migrations.{is_migrating}
use Rattle.flat_model.proofs.FreeLines.{IsFree, free_events, is_free, none_migrates}
use Rattle.flat_model.specs.Kept.{ContentWords, GivesLine, Kept, facts_of, memory_of}
use Rattle.flat_model.specs.LogSteps.{ReadsLog, ReadsSlot}
use Rattle.flat_model.proofs.SameFacts.{same_facts}

module _ (line : Line) (before after : Kept) (answer : Answer) where
  abbrev f : Facts
  f = facts_of before

  abbrev answered : Answer → List AnsweredLine
  answered x = record { number = line.number; actor = line.actor; answer = x } ∷ []

  -- what the line reads
  abbrev frames_of : Command → ℕ → List ℕ
  frames_of command id = asked_frames f.pending command (slot_of_id id before.slots)

  -- what the line does, where it is refused so, or isn't
  abbrev events_of : Command → ℕ → Option Refusal → List Event
  events_of command id None =
      by line (Begun line) ∷ by line (Taken id) ∷ by line (harvest (takes_out before.sizes.mode command) id (frames_of command id))
      ∷ answers line (Bits (bits_for command (slot_of_id id before.slots) (frames_of command id)))
  events_of command id (Some refusal) = by line (Begun line) ∷ answers line (Refused refusal)

  -- What was read is taken out, or isn't.
  out_by : (out : Bool) (id : ℕ) (frames : List ℕ) (rest : List Event) (facts : Facts) → is_migrating facts.migration ≡ false
      → facts_after_all (by line (harvest out id frames) ∷ rest) facts
      ≡ facts_after_all rest (let now : Facts = record facts { pending = left_dirty out frames facts.pending } in now)
  out_by true id frames rest facts still =
      ap (λ (b : Bool). facts_after_all rest (let now : Facts = record facts {
        pending = left_dirty true frames facts.pending;
        to_copy = λ gfn. (b && is_among gfn frames) || facts.to_copy gfn;
      } in now)) still
  out_by false id frames rest facts still = refl

  said_by : (out : Bool) (id : ℕ) (frames : List ℕ) (rest : List Event) → answers_of (by line (harvest out id frames) ∷ rest) ≡ answers_of rest
  said_by true id frames rest = refl
  said_by false id frames rest = refl

  does : (command : Command) (id : ℕ) (r : Option Refusal) → log_read command ≡ Some id → IsFree command before → ReadsLog command before after answer r
      → (facts_of after ≡ facts_after_all (events_of command id r) f) × (answers_of (events_of command id r) ≡ answered answer)
  does command id (Some refusal) reads free done = (ap facts_of done.1, ap answered (sym done.0))
  does command id None reads free made =
      let done = subst (λ (o : Option ℕ). ReadsSlot command before after answer (slot_at before.slots o)) reads made in
      let rest = answers line (Bits (bits_for command (slot_of_id id before.slots) (frames_of command id))) in
      let out = takes_out before.sizes.mode command in (
        same_facts _ _ _ _ _ _ _ _ _ _ _ _ done.1 (λ p. ap (λ (c : Changed). host_of c p) done.2)
            (λ p w. ap (λ (ws : ContentWords). memory_of ws p w) done.3) (λ id. ap (is_logged id) done.1) done.5 done.4
            ∙ sym (out_by out id (frames_of command id) rest f (none_migrates command id before reads free)),
        said_by out id (frames_of command id) rest ∙ ap answered (sym done.0),
      )

  opened : (command : Command) (id : ℕ) (r : Option Refusal)
      → by line (Begun line) ∷ working before.sizes line command f ≡ events_of command id None
      → by line (Begun line) ∷ doing_by before.sizes line command f (option_map (λ refusal. Refused refusal) r) ≡ events_of command id r
  opened command id None works = works
  opened command id (Some refusal) works = refl

  abbrev opens : Command → List Event
  opens command = free_events before.sizes line command f

  -- It makes no other events.
  whole : (command : Command) (id : ℕ) → line.command ≡ command → log_read command ≡ Some id → IsFree line.command before
      → alone before.sizes line f ≡ events_of command id (read_refusal command before.slots)
  whole (GetLog i) id is reads free =
      let r = read_refusal (GetLog i) before.slots in
      is_free line before free ∙ ap opens is ∙ opened (GetLog i) i r refl ∙ ap (λ (k : ℕ). events_of (GetLog i) k r) (same_Some i id reads)
  whole (ClearLog i first count words) id is reads free =
      let r = read_refusal (ClearLog i first count words) before.slots in
      is_free line before free ∙ ap opens is ∙ opened (ClearLog i first count words) i r refl
      ∙ ap (λ (k : ℕ). events_of (ClearLog i first count words) k r) (same_Some i id reads)
  whole (Access gfn word op) id is reads free = absurd (cc reads)
  whole (ChangeHost page change) id is reads free = absurd (cc reads)
  whole (ChangeRun page change) id is reads free = absurd (cc reads)
  whole (SetSlot i slot) id is reads free = absurd (cc reads)
  whole (DeleteSlot i) id is reads free = absurd (cc reads)
  whole (SetLog i on) id is reads free = absurd (cc reads)
  whole (Migrate call) id is reads free = absurd (cc reads)
  whole (Split gfn) id is reads free = absurd (cc reads)

  pub log_line : (id : ℕ) → log_read line.command ≡ Some id → IsFree line.command before
      → ReadsLog line.command before after answer (read_refusal line.command before.slots)
      → GivesLine before.sizes line f (facts_of after) answer
  log_line id reads free made =
      let all = whole line.command id refl reads free in
      let D = does line.command id (read_refusal line.command before.slots) reads free made in
      record { leads = D.0 ∙ sym (ap (λ (es : List Event). facts_after_all es f) all); tells = ap answers_of all ∙ D.1 }

  -- A line that reads some log.
  pub some_log_line : is_some (log_read line.command) ≡ true → IsFree line.command before
      → ReadsLog line.command before after answer (read_refusal line.command before.slots)
      → GivesLine before.sizes line f (facts_of after) answer
  some_log_line some free made = by (log_read line.command) refl some
    where
      by : (o : Option ℕ) → log_read line.command ≡ o → is_some o ≡ true → GivesLine before.sizes line f (facts_of after) answer
      by None is e = absurd (cc e)
      by (Some id) is e = log_line id is free made
