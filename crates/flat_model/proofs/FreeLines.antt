-- A line that a migration bars is refused; the events of any other one. A split is done.
use Rattle.std.proofs.Common.{◌≡◌, ◌&&◌, ◌++◌, ◌∷◌, [], ℕ, List, Bool, true, false, refl, sym, ap, ◌∙◌}
use Rattle.std.specs.Prelude.{Some}
use Rattle.core_views.specs.declared.answer.Answer.{Answer}
use Rattle.core_views.specs.declared.answer.Answer.TheVariants.{Done, Refused}
use Rattle.core_views.specs.declared.answer.AnsweredLine.{AnsweredLine}
use Rattle.core_views.specs.declared.answer.Refusal.TheVariants.{Migrating}
use Rattle.core_views.specs.declared.event.Event.{Event}
use Rattle.core_views.specs.declared.event.EventKind.TheVariants.{Begun}
use Rattle.core_views.specs.declared.sizes.Sizes.{Sizes}
use Rattle.core_views.specs.declared.trace.Command.{Command}
use Rattle.core_views.specs.declared.trace.Command.TheVariants.{Access, ChangeHost, ChangeRun, ClearLog, GetLog, Split}
use Rattle.core_views.specs.declared.trace.Line.{Line}
use Rattle.core_views.specs.Events.{facts_after_all}
use Rattle.core_views.specs.Flat.{Facts}
use Rattle.core_views.specs.FlatHistory.{alone, answers, by, doing, doing_by, looks}
use Rattle.core_views.specs.Lawful.{answer_unbarred}
use Rattle.core_views.specs.LogCommands.{log_read}
use Rattle.core_views.specs.Migrations.{is_barred, is_migrating, or_barred}
use Rattle.core_views.specs.Text.{answers_of}
use Rattle.flat_model.specs.Kept.{GivesLine, Kept, facts_of}

-- No migration bars the command.
abbrev pub IsFree : Command → Kept → Type 0
IsFree command before = (is_barred command && is_migrating before.copies.state) ≡ false

-- the events of a line with such a command
abbrev pub free_events : Sizes → Line → Command → Facts → List Event
free_events z line command f =
    by line (Begun line) ∷ (looks z line command f ++ doing_by z line command f (answer_unbarred z f.slots f.migration line.actor command))

pub is_free : (line : Line) (before : Kept) → IsFree line.command before
    → alone before.sizes line (facts_of before) ≡ free_events before.sizes line line.command (facts_of before)
is_free line before free =
    let f = facts_of before in
    ap (λ (b : Bool). by line (Begun line) ∷ (looks before.sizes line line.command f
    ++ doing_by before.sizes line line.command f (or_barred b (answer_unbarred before.sizes f.slots f.migration line.actor line.command)))) free

-- A line that reads a log is one that a migration bars.
pub none_migrates : (command : Command) (id : ℕ) (before : Kept) → log_read command ≡ Some id → IsFree command before
    → is_migrating before.copies.state ≡ false
none_migrates (GetLog i) id before reads free = free
none_migrates (ClearLog i first count words) id before reads free = free
none_migrates _ id before reads free = absurd (cc reads)

-- Such a line looks at nothing.
looks_none : (z : Sizes) (line : Line) (command : Command) (f : Facts) → is_barred command ≡ true → looks z line command f ++ answers line (Refused Migrating)
    ≡ answers line (Refused Migrating)
looks_none z line (Access gfn word op) f barred = absurd (cc barred)
looks_none z line (ChangeHost page change) f barred = absurd (cc barred)
looks_none z line (ChangeRun page change) f barred = absurd (cc barred)
looks_none z line _ f barred = refl

both : (b c : Bool) → (b && c) ≡ true → b ≡ true
both true c is = refl
both false c is = absurd (cc is)

pub barred_line : (line : Line) (before after : Kept) (answer : Answer) → (is_barred line.command && is_migrating before.copies.state) ≡ true
    → answer ≡ Refused Migrating → after ≡ before → GivesLine before.sizes line (facts_of before) (facts_of after) answer
barred_line line before after answer barred refused same = record {
  leads = ap facts_of same ∙ sym (ap (λ (es : List Event). facts_after_all es f) whole);
  tells = ap answers_of whole ∙ ap told (sym refused);
}
  where
    f : Facts
    f = facts_of before

    told : Answer → List AnsweredLine
    told x = record { number = line.number; actor = line.actor; answer = x } ∷ []

    whole : alone before.sizes line f ≡ by line (Begun line) ∷ answers line (Refused Migrating)
    whole =
        ap (λ (b : Bool). by line (Begun line) ∷ (looks before.sizes line line.command f
        ++ doing_by before.sizes line line.command f (or_barred b (answer_unbarred before.sizes f.slots f.migration line.actor line.command)))) barred
        ∙ ap (λ (es : List Event). by line (Begun line) ∷ es) (looks_none before.sizes line line.command f (both _ _ barred))

-- A line that splits a large leaf changes nothing, and is done.
pub split_line : (line : Line) (before : Kept) (gfn : ℕ) → line.command ≡ Split gfn
    → GivesLine before.sizes line (facts_of before) (facts_of before) Done
split_line line before gfn is = record {
  leads = sym (ap (λ (es : List Event). facts_after_all es f) whole);
  tells = ap answers_of whole;
}
  where
    f : Facts
    f = facts_of before

    whole : alone before.sizes line f ≡ by line (Begun line) ∷ answers line Done
    whole = ap (λ (c : Command). by line (Begun line) ∷ (looks before.sizes line c f ++ doing before.sizes line c f)) is
