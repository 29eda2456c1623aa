-- A line of a migration, alone: it has nothing to do, starts the migration, copies pages, or ends it.
use Rattle.std.proofs.Common.{◌≡◌, ◌+◌, ◌&&◌, ◌||◌, ◌∷◌, [], not, ℕ, List, Bool, true, false, refl, sym, ap, arith, length, ◌∙◌}
use Rattle.std.specs.Map.{keys_of}
use Rattle.std.specs.Prelude.{Option, Some, None}
use Rattle.core_views.specs.declared.answer.Answer.{Answer}
use Rattle.core_views.specs.declared.answer.Answer.TheVariants.{Copied}
use Rattle.core_views.specs.declared.answer.AnsweredLine.{AnsweredLine}
use Rattle.core_views.specs.declared.event.Event.{Event}
use Rattle.core_views.specs.declared.migration.Migration.{Migration}
use Rattle.core_views.specs.declared.migration.Migration.TheVariants.{Unstarted, Running, Pausing, Stopped}
use Rattle.core_views.specs.declared.sizes.Sizes.{Sizes}
use Rattle.core_views.specs.declared.trace.Command.{Command}
use Rattle.core_views.specs.declared.trace.Command.TheVariants.{Migrate}
use Rattle.core_views.specs.declared.trace.Line.{Line}
use Rattle.core_views.specs.declared.trace.MigrationCall.{MigrationCall}
use Rattle.core_views.specs.declared.trace.MigrationCall.TheVariants.{Start, Round, Finish, Resume}
use Rattle.core_views.specs.Events.{facts_after_all}
use Rattle.core_views.specs.Flat.{Facts}
use Rattle.core_views.specs.FlatHistory.{doing_by, reading_logs}
use Rattle.core_views.specs.Lawful.{copied_answer}
use Rattle.core_views.specs.Memory.{Memory}
use Rattle.core_views.specs.Migrations.{call_answer, frames_to_copy, is_migrating, is_running, round_answer}
use Rattle.core_views.specs.Refusals.{is_logged}
use Rattle.core_views.specs.Text.{answers_of}
use Rattle.flat_model.specs.Copying.{Calls, CopiesPages, Migrates, copying_answer, frames_left, is_either, is_held, state_after}
use Rattle.flat_model.specs.Dirty.{is_dirty}
use Rattle.flat_model.specs.HostPages.{host_of}
use Rattle.flat_model.specs.Kept.{GivesLine, Kept, facts_of, memory_of}
use Rattle.flat_model.proofs.FreeLines.{IsFree, free_events, is_free}
use Rattle.flat_model.proofs.MigrationWords.{among_frames, copied_facts, copies, frames_same, harvested, reads}
use Rattle.flat_model.proofs.SlotsById.{all_theirs}

-- A round goes on only while a migration runs.
runs : (state : Migration) (none : Bool) → round_answer (is_running state) none ≡ None → is_migrating state ≡ true
runs Unstarted none is = absurd (cc is)
runs Running none is = refl
runs Pausing none is = absurd (cc is)
runs Stopped none is = absurd (cc is)

-- What is of no slot is left to be copied.
left_to_copy : (h p t : Bool) → (not h && t) ≡ (not (h && (p || t)) && ((h && p) || t))
left_to_copy true true t = refl
left_to_copy true false true = refl
left_to_copy true false false = refl
left_to_copy false p t = refl

-- The answer that the events tell is the one that is given.
says : (z : Sizes) (n : ℕ) (call : MigrationCall) (g : Facts) → copied_answer z (Migrate call) (0 + n) g ≡ copying_answer z.words call g.image g.slots n
says z n Finish g = refl
says z n Start g = ap Copied (omega arith)
says z n Round g = ap Copied (omega arith)
says z n Resume g = ap Copied (omega arith)

module _ (line : Line) (before after : Kept) (answer : Answer) where
  abbrev f : Facts
  f = facts_of before

  abbrev answered : Answer → List AnsweredLine
  answered x = record { number = line.number; actor = line.actor; answer = x } ∷ []

  -- What the events make of these facts, and what answer they tell.
  abbrev Does : List Event → Facts → Type 0
  Does events g = (facts_of after ≡ facts_after_all events g) × (answers_of events ≡ answered answer)

  -- The logs are read, and the pages copied, while the migration has come so far.
  copying_does : (call : MigrationCall) (state : Migration) → is_migrating state ≡ true → state_after call before.copies.state ≡ state
      → CopiesPages call before after answer
      → (let g : Facts = record f { migration = state } in Does (reading_logs before.sizes line (Migrate call) (keys_of before.slots) g) g)
  copying_does call state migrates state_is C =
      let z = before.sizes in
      let g : Facts = record f { migration = state } in
      let h : Facts = harvested before.slots g in
      let frames = frames_left before in
      let same : frames_to_copy h.to_copy before.slots ≡ frames =
      frames_same h.to_copy (is_either before.dirty before.copies.to_copy) before.slots
      (λ gfn held. ap (λ (b : Bool). (b && f.pending gfn) || f.to_copy gfn) held) in
      let R = reads z line call before.slots g (all_theirs before.slots C.sound) migrates in
      let W = copies z line (Migrate call) (frames_to_copy h.to_copy before.slots) 0 h in
      let made : facts_of after ≡ copied_facts z frames h =
      λ i. record {
        slots = C.copied.slots i;
        host = host_of (C.copied.changed i);
        memory = memory_of (C.copied.words i);
        migration = (C.copied.state ∙ state_is) i;
        armed = λ id. is_logged id (C.copied.slots i);
        pending = λ gfn. C.copied.dirty gfn i;
        image = C.image i;
        to_copy = λ gfn. (C.copied.to_copy gfn ∙ left_to_copy (is_held before.slots gfn) (f.pending gfn) (f.to_copy gfn)
            ∙ sym (ap (λ (b : Bool). not b && ((is_held before.slots gfn && f.pending gfn) || f.to_copy gfn))
            (among_frames (is_either before.dirty before.copies.to_copy) gfn before.slots))) i;
      } in (
        made ∙ sym (R.0 ∙ W.0 ∙ ap (λ (fs : List ℕ). copied_facts z fs h) same),
        R.1 ∙ W.1 ∙ ap (λ (fs : List ℕ). answered (copied_answer z (Migrate call) (0 + length fs) (copied_facts z fs h))) same
            ∙ ap answered (says z (length frames) call (copied_facts z frames h)
            ∙ sym (ap (λ (image : Memory). copying_answer z.words call image before.slots (length frames)) C.image) ∙ sym C.tells),
      )

  -- What each call does that has something to do.
  calls : (call : MigrationCall) → call_answer before.slots before.copies.state call ≡ None → Calls call before after answer
      → Does (doing_by before.sizes line (Migrate call) f None) f
  calls Start works made = (
    λ i. record {
      slots = made.1.slots i;
      host = host_of (made.1.changed i);
      memory = memory_of (made.1.words i);
      migration = made.1.state i;
      armed = λ id. is_logged id (made.1.slots i);
      pending = is_dirty (made.1.dirty i);
      image = memory_of (made.1.image i);
      to_copy = λ gfn. made.1.to_copy gfn i;
    },
    ap answered (sym made.0),
  )
  calls Round works made = copying_does Round before.copies.state (runs before.copies.state _ works) refl made
  calls Finish works made = copying_does Finish Stopped refl refl made
  calls Resume works made = (ap facts_of made.1, ap answered (sym made.0))

  by_answer : (call : MigrationCall) (o : Option Answer) → call_answer before.slots before.copies.state call ≡ o → Migrates call before after answer o
      → Does (doing_by before.sizes line (Migrate call) f o) f
  by_answer call None works made = calls call works made
  by_answer call (Some told) says_ made = (ap facts_of made.1, ap answered (sym made.0))

  pub migration_line : (call : MigrationCall) → line.command ≡ Migrate call → IsFree line.command before
      → Migrates call before after answer (call_answer before.slots before.copies.state call) → GivesLine before.sizes line f (facts_of after) answer
  migration_line call is free made =
      let all = is_free line before free ∙ ap (λ (c : Command). free_events before.sizes line c f) is in
      let D = by_answer call (call_answer before.slots before.copies.state call) refl made in
      record { leads = D.0 ∙ sym (ap (λ (es : List Event). facts_after_all es f) all); tells = ap answers_of all ∙ D.1 }
