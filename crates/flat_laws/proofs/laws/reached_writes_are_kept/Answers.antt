use Rattle.std.proofs.Common.{◌≡◌, ℕ, List, ◌∷◌, Bool, true, refl, ap, ◌∙◌, subst}
use Rattle.std.proofs.lemmas.Option.{same_Some}
use Rattle.std.specs.Prelude.{Contains, Some, None, false, if◌then◌else◌}
use Rattle.core_views.specs.declared.actor.Actor.{Actor}
use Rattle.core_views.specs.declared.event.Event.{Event}
use Rattle.core_views.specs.declared.event.EventKind.TheVariants.{Accessed}
use Rattle.core_views.specs.declared.sizes.Sizes.{Sizes}
use Rattle.core_views.specs.declared.trace.Command.TheVariants.{Access}
use Rattle.core_views.specs.declared.trace.Op.{Op}
use Rattle.core_views.specs.declared.trace.Op.TheVariants.{Read, Write, Add}
use Rattle.core_views.specs.Slots.{is_write}
use Rattle.core_views.specs.Past.{written_frame}
use Rattle.core_views.specs.Flat.{first_flat}
use Rattle.core_views.specs.Events.{after_all}
use Rattle.core_views.specs.Lawful.{IsLawful}
use Rattle.flat_laws.specs.Writes.{NoneIsTaken, NoneReadsOut}
use Rattle.flat_laws.specs.ReachedWrites.{WasReached, WritesFrame}
use Rattle.flat_laws.proofs.AloneIsLawful.{lawful_parts}
use Rattle.flat_laws.proofs.WrittenSince.{WasSince, cause_stands, recent_stands}
use Rattle.flat_laws.proofs.Writes.{all_of_lines, first_of_lines, none_at_first}
use Rattle.flat_laws.proofs.laws.reached_writes_are_kept.Goals as goal

-- Right before a write reaches its frame, it is among those under way.
under_way : (Since : List Event → Type 0) (z : Sizes) (history : List Event) → IsLawful z first_flat history → (gfn : ℕ)
    → (W : WasReached Since history gfn) → Contains (after_all W.before first_flat).past.writes (W.actor, gfn)
under_way Since z history lawful gfn W =
    let access : Event = record { actor = W.actor; kind = Accessed gfn W.word W.op W.frame W.value } in
    let parts = lawful_parts z W.before (access ∷ W.since) first_flat (subst (IsLawful z first_flat) W.history_is lawful) in
    let may = parts.1.0 in
    let fresh = may.0 in
    let frame_is : (if is_write W.op then Some gfn else None) ≡ Some gfn = ap (λ (b : Bool). if b then Some gfn else None) W.writes in
    (all_of_lines z W.before first_flat parts.0 first_of_lines).is_in W.actor gfn
    (λ idle. absurd (cc (fresh, idle)), ap written_frame may.1 ∙ frame_is)

-- So the frame was being written right before the access. By `goes` the events since stay such with the access before them.
was_since : (Since : List Event → Type 0)
    → ((actor : Actor) (gfn word : ℕ) (op : Op) (frame value : ℕ) (es : List Event) → Since es
    → Since (record { actor = actor; kind = Accessed gfn word op frame value } ∷ es))
    → (z : Sizes) (history : List Event) → IsLawful z first_flat history → (gfn : ℕ) → WasReached Since history gfn → WasSince Since gfn history first_flat
was_since Since goes z history lawful gfn W = record {
  before = W.before;
  since = record { actor = W.actor; kind = Accessed gfn W.word W.op W.frame W.value } ∷ W.since;
  are = W.history_is;
  actor = W.actor;
  writes = under_way Since z history lawful gfn W;
  kept = (tt, W.kept);
  are_such = goes W.actor gfn W.word W.op W.frame W.value W.since W.are_such;
}

pub returns-clause-reached : goal.returns-clause-reached
returns-clause-reached c z history lawful gfn = (
  λ W. recent_stands gfn history first_flat (λ actor has. none_at_first actor gfn has)
      (was_since NoneIsTaken (λ actor g word op frame value es none. (tt, none)) z history lawful gfn W),
  λ W. cause_stands gfn history first_flat (λ actor has. none_at_first actor gfn has)
      (was_since (NoneReadsOut gfn) (λ actor g word op frame value es left. left) z history lawful gfn W),
)

pub returns-clause-others : goal.returns-clause-others
returns-clause-others c Read before is = refl
returns-clause-others c (Write x) before is = absurd (cc is)
returns-clause-others c (Add x) before is = absurd (cc is)

pub returns-clause-only : goal.returns-clause-only
returns-clause-only c (Access g word op) gfn is = by (is_write op) refl is
  where
    by : (b : Bool) → is_write op ≡ b → (if b then Some g else None) ≡ Some gfn → WritesFrame (Access g word op) gfn
    by true writes is = record { word = word; op = op; command_is = ap (λ n. Access n word op) (same_Some g gfn is); writes = writes }
    by false writes is = absurd (cc is)
returns-clause-only c _ gfn is = absurd (cc is)
