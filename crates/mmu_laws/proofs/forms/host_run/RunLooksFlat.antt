-- What the looks of a line at a run of host pages owe flat memory: what it has noted of them, and that it is refused for what it saw.
use Rattle.std.proofs.Common.{◌≡◌, inl, ◌≤◌, ℕ, ◌∷◌, ◌++◌, refl, sym, subst, ap, arith}
use Rattle.std.specs.Prelude.{Bool, true, false, ◌&&◌, nat_lt}
use Rattle.std.proofs.lemmas.Bool.Decides.{nat_tests}
use Rattle.core_views.specs.declared.answer.Answer.TheVariants.{Refused}
use Rattle.core_views.specs.declared.answer.Refusal.{Refusal}
use Rattle.core_views.specs.declared.answer.Refusal.TheVariants.{IsHuge, NotAligned}
use Rattle.core_views.specs.declared.event.EventKind.TheVariants.{LookedAtHost}
use Rattle.core_views.specs.declared.host.HostEntry.{HostEntry}
use Rattle.core_views.specs.declared.place.BeginPlace.TheVariants as begins
use Rattle.core_views.specs.declared.place.HostRunPlace.{HostRunPlace}
use Rattle.core_views.specs.declared.place.HostRunPlace.TheVariants.{Begin, LookOn}
use Rattle.core_views.specs.declared.place.Place.TheVariants as place
use Rattle.core_views.specs.declared.sizes.Sizes.{Sizes}
use Rattle.core_views.specs.declared.topics.HostRow.{HostRow}
use Rattle.core_views.specs.declared.topics.Topics.{Topics}
use Rattle.core_views.specs.declared.trace.Command.{Command}
use Rattle.core_views.specs.declared.trace.Command.TheVariants.{ChangeRun}
use Rattle.core_views.specs.declared.trace.Line.{Line}
use Rattle.core_views.specs.declared.trace.RunChange.{RunChange}
use Rattle.core_views.specs.declared.trace.RunChange.TheVariants.{Huge, Small}
use Rattle.core_views.specs.Events.{under_after}
use Rattle.core_views.specs.Flat.{Facts, Fresh, LineUnderWay, Notes}
use Rattle.core_views.specs.Held.{Held}
use Rattle.core_views.specs.HostRuns.{IsAmong, run_count, run_pages}
use Rattle.core_views.specs.Lawful.{HasWork, MayLeave, may_look}
use Rattle.core_views.specs.Past.{Past}
use Rattle.core_views.specs.SeenRuns.{SawHugeOne, SawUnaligned}
use Rattle.core_views.specs.Traces.{IsRunChange}
use Rattle.part_steps.specs.PartTasks.{word_looked}
use Rattle.mmu_core.specs.declared.outcome.Outcome.{Outcome}
use Rattle.mmu_core.specs.declared.outcome.Outcome.TheVariants.{Ends, Goes}
use Rattle.mmu_core.specs.forms.access.AccessSteps.{exiting}
use Rattle.mmu_core.specs.forms.host.HostSteps.{entry_of, maps_large}
use Rattle.mmu_core.specs.forms.host_run.HostRunSteps.{after_run_look, fits, wants_small}
use Rattle.mmu_core.specs.machine.Outcomes.{answering, place_after}
use Rattle.mmu_core.specs.machine.View.{View}
use Rattle.mmu_core.proofs.forms.access.FaultSame.{both}
use Rattle.mmu_core.proofs.lines.EitherPlace.{one_place}
use Rattle.mmu_laws.specs.flat.FlatInvariant.{HostRunUnder}
use Rattle.mmu_laws.specs.forms.host_run.HostRunStages.{HasSeenGap, HasSeenRow, HasSeenRun, IsLooked, SeenBy, in_order, seen_row}
use Rattle.mmu_laws.proofs.flat.FlatSteps.{GoesBy, RefinesBy, leaves_by}
use Rattle.mmu_laws.proofs.forms.host_run.HostRunReady.{RunTask, run_after}
use Rattle.mmu_laws.proofs.forms.host_run.RunNotes.{own_among}
use Rattle.mmu_laws.proofs.forms.host_run.RunRefusals.{gap_unfit, row_fits, row_unfit}
use Rattle.mmu_laws.proofs.forms.host_run.SeenRows.{all_looked}

-- ---- what is noted, once all pages of the run were looked at

module _ (page word : ℕ) (row : HostRow) (notes : Notes) where
  -- A run that isn't refused was seen in a row.
  pub seen_run : (change : RunChange) → IsRunChange change → (wants_small change ≡ true → maps_large word ≡ false)
      → row.looked ≡ run_count change (entry_of word)
      → fits change (record { page = page; word = word }) row ≡ true → SeenBy (in_order change row) change page row.looked word notes
      → HasSeenRun page change word notes
  seen_run Small in_range small all fit seen = record { row = subst (λ n. HasSeenRow Small page n word notes) all seen; fits = refl }
  seen_run (Huge level) in_range small all fit seen = record {
    row = subst (λ n. HasSeenRow (Huge level) page n word notes) all (subst (λ (b : Bool). SeenBy b (Huge level) page row.looked word notes) alike seen);
    fits = row_fits page level word row in_range.0 in_range.1 (small refl) fit;
  }
    where
      alike : row.alike ≡ true
      alike = (both row.alike _ (both (row.alike && _) _ fit).0).0

  -- One that is refused couldn't be mapped as one.
  pub seen_unaligned : (change : RunChange) → IsRunChange change → (wants_small change ≡ true → maps_large word ≡ false)
      → row.looked ≡ run_count change (entry_of word) → fits change (record { page = page; word = word }) row ≡ false
      → SeenBy (in_order change row) change page row.looked word notes → SawUnaligned notes page change
  seen_unaligned Small in_range small all unfit seen = absurd (cc unfit)
  seen_unaligned (Huge level) in_range small all unfit seen = by row.alike refl seen
    where
      own_in : (entry : HostEntry) → IsAmong page (run_pages level) page
      own_in entry = own_among (Huge level) page entry

      by : (alike : Bool) → row.alike ≡ alike → SeenBy alike (Huge level) page row.looked word notes → SawUnaligned notes page (Huge level)
      by true is R = record {
        seen = seen_row word page;
        saw = record {
          own = R page (inl refl);
          looked = λ other among. R other (subst (λ n. IsLooked page page n other) (sym all) (all_looked page (run_pages level) page other
              (own_in (entry_of word)) among));
        };
        refused = row_unfit page level word row in_range.0 in_range.1 (small refl) is all unfit;
      }
      by false is G =
          let W : HasSeenGap page (run_pages level) word notes = subst (λ n. HasSeenGap page n word notes) all G in record {
            seen = W.seen;
            saw = record {
              own = (W.noted page (inl refl)).0;
              looked = λ other among. (W.noted other (all_looked page (run_pages level) page other (own_in (entry_of word)) among)).0;
            };
            refused = gap_unfit page level word notes in_range.0 in_range.1 W;
          }

-- ---- after a look

module _ (z : Sizes) (v : View) (a : ℕ) (line : Line) (page : ℕ) (change : RunChange) (facts : Facts) (past : Past) (u : LineUnderWay) where
  abbrev command : Command
  command = ChangeRun page change

  abbrev h : Held
  h = v.hand a

  -- what is noted after a look at this page
  abbrev pub noted_then : ℕ → Notes
  noted_then at = (under_after (LookedAtHost at) facts u).notes

  -- what a look at a page owes, by how the line goes on
  module _ (p : HostRunPlace) (at : ℕ) (own : u.line ≡ line) (fresh : u.stage ≡ Fresh) (asked : u.line.command ≡ command)
      (stands : RefinesBy z v (RunTask z v a line page change facts past u p) facts) where
    abbrev pub t : Topics
    t = run_after z v a line page change facts past u p

    abbrev pub Owes : Outcome → Type 0
    Owes o =
        GoesBy z v a line command (RunTask z v a line page change facts past u p) (place_after o)
        (LookedAtHost at ∷ (exiting o ++ answering o line)) facts past u

    goes : (next : HostRunPlace) → HostRunUnder next page change t (under_after (LookedAtHost at) facts u) → Owes (Goes (place.HostRun next))
    goes next under = record { allowed = (ap may_look fresh, tt); refines = stands; under = (own, under) }

    leaves : (refusal : Refusal) → MayLeave z facts h.state.actor command (noted_then at) (Refused refusal) → Owes (Ends (Refused refusal))
    leaves refusal may = record {
      allowed = (
        ap may_look fresh,
        (leaves_by z v a line command (RunTask z v a line page change facts past u p) facts past
            (under_after (LookedAtHost at) facts u) stands (Refused refusal)
            own fresh (subst (λ c. MayLeave z facts h.state.actor c (noted_then at) (Refused refusal)) (sym asked) may)).allowed,
      );
      refines = stands;
      under = refl;
    }

    all_of : (looked : ℕ) (word : ℕ) → looked ≤ run_count change (entry_of word) → nat_lt looked (run_count change (entry_of word)) ≡ false
        → looked ≡ run_count change (entry_of word)
    all_of looked word most last = grind (arith, nat_tests)

    -- It goes on to the next look, or to the invalidation, or the line is refused.
    pub look_owes : (word found : ℕ) (row : HostRow) → HasWork z facts h.state.actor command → IsRunChange change → word_looked t.host ≡ word → t.row ≡ row
        → row.looked ≤ run_count change (entry_of word)
        → ((wants_small change && maps_large found) ≡ false → wants_small change ≡ true → maps_large word ≡ false)
        → ((wants_small change && maps_large found) ≡ true → SawHugeOne (noted_then at) page change)
        → ((wants_small change && maps_large found) ≡ false → SeenBy (in_order change row) change page row.looked word (noted_then at))
        → Owes (after_run_look change (record { page = page; word = word }) row found)
    look_owes word found row works in_range host_is row_is most small huge seen =
        one_place Owes (wants_small change && maps_large found) (Ends (Refused IsHuge)) _ (λ large. leaves IsHuge (works, huge large))
        (λ other. one_place Owes (nat_lt row.looked (run_count change (entry_of word))) (Goes (place.HostRun LookOn)) _
        (λ more. goes LookOn (
          fresh,
          subst (λ (r : HostRow). SeenBy (in_order change r) change page r.looked (word_looked t.host) (noted_then at)) (sym row_is)
              (subst (λ w. SeenBy (in_order change row) change page row.looked w (noted_then at)) (sym host_is) (seen other)),
        ))
        (λ last. one_place Owes (fits change (record { page = page; word = word }) row)
        (Goes (place.HostRun (Begin begins.Exclude))) (Ends (Refused NotAligned))
        (λ fit. goes (Begin begins.Exclude) (
          fresh,
          subst (λ w. HasSeenRun page change w (noted_then at)) (sym host_is)
              (seen_run page word row (noted_then at) change in_range (small other) (all_of row.looked word most last) fit (seen other)),
        ))
        (λ unfit. leaves NotAligned
        (works, seen_unaligned page word row (noted_then at) change in_range (small other) (all_of row.looked word most last) unfit (seen other)))))
