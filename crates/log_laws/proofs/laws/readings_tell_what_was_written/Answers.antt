use Rattle.std.proofs.Common.{◌≡◌, ◌⊎◌, inl, inr, List, [], ◌∷◌, ◌++◌, true, sym, ap, ◌∙◌, subst}
use Rattle.core_views.specs.declared.event.Event.{Event}
use Rattle.core_views.specs.declared.event.EventKind.TheVariants.{Accessed}
use Rattle.core_views.specs.Flat.{Flat, first_flat}
use Rattle.core_views.specs.Events.{after, after_all}
use Rattle.flat_laws.proofs.WrittenSince.{after_append}
use Rattle.log_laws.specs.HarvestLaws.{IsMadeClean, MakesClean, made_by}
use Rattle.log_laws.proofs.OneReader.{apart, lone_complete, stopped_complete}
use Rattle.log_laws.proofs.Pending.{Cleaned, dirty_until, makes_clean, write_marks}
use Rattle.flat_laws.proofs.PendingArmed.{all_armed, armed_found, first_armed}
use Rattle.log_laws.proofs.Readings.{caused, complete}
use Rattle.log_laws.proofs.Rules.{arming, such_may, such_may_next}
use Rattle.log_laws.proofs.laws.readings_tell_what_was_written.Goals as goal

pub returns-clause-dirty : goal.returns-clause-dirty
returns-clause-dirty c before since actor gfn word op frame value writes armed =
    by (dirty_until since (after access (after_all before first_flat)) gfn (write_marks gfn _ op (after_all before first_flat).facts armed writes))
  where
    access : Event
    access = made_by actor (Accessed gfn word op frame value)

    whole : after_all (before ++ (access ∷ since)) first_flat ≡ after_all since (after access (after_all before first_flat))
    whole = after_append before (access ∷ since) first_flat

    here : (until : List Event)
        → after_all ((before ++ (access ∷ [])) ++ until) first_flat ≡ after_all until (after access (after_all before first_flat))
    here until =
        after_append (before ++ (access ∷ [])) until first_flat ∙ ap (after_all until) (after_append before (access ∷ []) first_flat)

    by : ((after_all since (after access (after_all before first_flat))).facts.pending gfn ≡ true)
        ⊎ Cleaned (after access (after_all before first_flat)) since gfn
        → ((after_all (before ++ (access ∷ since)) first_flat).facts.pending gfn ≡ true) ⊎ IsMadeClean (before ++ (access ∷ [])) since gfn
    by (inl dirty) = inl (ap (λ (f : Flat). f.facts.pending gfn) whole ∙ dirty)
    by (inr C) =
        inr (record {
          before = C.before;
          event = C.event;
          rest = C.rest;
          since_is = C.since_is;
          cleans = subst (λ (f : Flat). MakesClean gfn f.facts C.event.kind) (sym (here C.before)) C.cleans;
        })

pub returns-clause-clean : goal.returns-clause-clean
returns-clause-clean c = makes_clean

pub returns-clause-armed : goal.returns-clause-armed
returns-clause-armed c z history lawful gfn dirty =
    let A = all_armed z history first_flat lawful first_armed in armed_found (after_all history first_flat).facts gfn A.rising A.apart (A.armed gfn dirty)

-- These stand on what is kept of a history.

pub returns-clause-complete : goal.returns-clause-complete
returns-clause-complete c = complete c.writes_are_kept.ensures.due

pub returns-clause-caused : goal.returns-clause-caused
returns-clause-caused c = caused c.writes_are_kept.ensures.written

pub returns-clause-such : goal.returns-clause-such
returns-clause-such c = such_may c.writes_are_kept.ensures.due c.writes_are_kept.ensures.written

pub returns-clause-arms : goal.returns-clause-arms
returns-clause-arms c = arming

pub returns-clause-apart : goal.returns-clause-apart
returns-clause-apart c = apart

pub returns-clause-lone : goal.returns-clause-lone
returns-clause-lone c = lone_complete c.writes_are_kept.ensures.due

pub returns-clause-stopped : goal.returns-clause-stopped
returns-clause-stopped c = stopped_complete c.writes_are_kept.ensures.due

pub returns-clause-next : goal.returns-clause-next
returns-clause-next c = such_may_next c.writes_are_kept.ensures.due c.writes_are_kept.ensures.written
