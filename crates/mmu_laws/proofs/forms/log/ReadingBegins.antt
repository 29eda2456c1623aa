-- A line begins to read a dirty log: what must not be left out is marked then, in the words that are to come.
use Rattle.core_views.specs.Migrations.{is_stopped}
use Rattle.std.proofs.Common.{ap, ◌∙◌, ◌≡◌, ◌≢◌, ◌⊎◌, inl, inr, ◌<◌, [], ◌∷◌, ℕ, refl, sym, subst}
use Rattle.std.proofs.lemmas.Bool.{and_parts, not-true}
use Rattle.std.specs.Prelude.{◌||◌, Bool, true, false, not, Some}
use Rattle.core_views.specs.declared.actor.Actor.{Actor}
use Rattle.core_views.specs.declared.actor.Actor.TheVariants.{Manager}
use Rattle.core_views.specs.declared.event.EventKind.TheVariants.{Begun, Taken}
use Rattle.core_views.specs.declared.place.Place.{Place}
use Rattle.core_views.specs.declared.place.Place.TheVariants as place
use Rattle.core_views.specs.declared.sizes.Sizes.{Sizes}
use Rattle.core_views.specs.declared.trace.Command.{Command}
use Rattle.core_views.specs.declared.trace.Line.{Line}
use Rattle.core_views.specs.declared.trace.Slot.{Slot as SlotOf}
use Rattle.core_views.specs.Events.{after, after_all, past_after}
use Rattle.core_views.specs.Flat.{Flat, Idle}
use Rattle.core_views.specs.Past.{is_being_written}
use Rattle.core_views.specs.Sizes.{actors_of}
use Rattle.core_views.specs.Slots.{contains}
use Rattle.flat_laws.specs.Writes.{IsWriting}
use Rattle.flat_laws.proofs.Writes.{AreOfLines, are_after}
use Rattle.flat_laws.proofs.Written.{is_written}
use Rattle.spte_words.specs.declared.area.Area.TheVariants as area
use Rattle.part_steps.specs.SlotWords.{page_of}
use Rattle.mmu_core.specs.invariant.Invariant.{Invariant}
use Rattle.mmu_core.specs.forms.log.LogSteps.{first_word, slot_asked}
use Rattle.mmu_core.specs.machine.Steps.{beginning}
use Rattle.mmu_core.specs.machine.View.{View}
use Rattle.mmu_core.proofs.machine.Columns.{same_or}
use Rattle.mmu_core.proofs.machine.Stepping.{IsStep}
use Rattle.log_invariant.specs.Covered.{IsCovered, is_marked}
use Rattle.log_invariant.specs.LogInvariant.{IsMarkingAt, LogInvariant}
use Rattle.log_invariant.specs.forms.log.LogReads.{HasTakenOut}
use Rattle.mmu_laws.specs.flat.FlatInvariant.{FlatInvariant, UnderIs}
use Rattle.mmu_laws.specs.flat.FlatLogs.{FlatLogs, IsCoveredOrTaken, IsDirtyIn}
use Rattle.mmu_laws.proofs.flat.FlatKept.{other_actor}
use Rattle.mmu_laws.proofs.flat.LogsStill.{writes_frame}
use Rattle.mmu_laws.proofs.flat.QuietKinds.{begins_quiet, quiet_told}
use Rattle.mmu_laws.specs.forms.log.ReadSoFar.{HasReadTo}
use Rattle.mmu_laws.proofs.forms.log.Readings.{asked_from, none_read}
use Rattle.mmu_laws.proofs.forms.log.ReadSlots.{ReadsOf, one_slot, taken_is}
use Rattle.mmu_laws.proofs.flat.Told.{told, told_others}

-- ---- flat memory once the line has begun

-- the flat state after the begin of the line, if it begins
abbrev pub begun_flat : Actor → Place → Line → Flat → Flat
begun_flat actor q line f = after_all (told actor (beginning q line)) f

pub begun_facts : (actor : Actor) (q : Place) (line : Line) (f : Flat) → (begun_flat actor q line f).facts ≡ f.facts
begun_facts actor place.Between line f = refl
begun_facts actor _ line f = refl

-- The frame of each mark that is owed is being written.
abbrev pub AreWritten : Sizes → View → Flat → Type 0
AreWritten z v f = (i gfn : ℕ) → i < actors_of z → (v.hand i).topics.owed ≡ Some gfn → is_being_written f.past.writes gfn ≡ true

pub are_written : (z : Sizes) (v : View) (a : ℕ) (line : Line) (command : Command) (p : Place) (f : Flat) → IsStep z v a line command p → Invariant z v
    → LogInvariant z v → FlatInvariant z v f → AreOfLines f → AreWritten z v (begun_flat (v.hand a).state.actor (v.hand a).state.place line f)
are_written z v a line command p f S I G F lines = by (v.hand a).state.place refl
  where
    actor : Actor
    actor = (v.hand a).state.actor

    writes : (i gfn : ℕ) → i < actors_of z → (v.hand i).topics.owed ≡ Some gfn → IsWriting (f.under (v.hand i).state.actor) gfn
    writes i gfn lt owed =
        writes_frame z (v.words area.Pool) (v.hand i).state.place (v.hand i).state.line.command (v.hand i) (f.under (v.hand i).state.actor) gfn
        (G.marks i gfn lt owed) (F.under i lt) refl

    begun : Flat
    begun = after (record { actor = actor; kind = Begun line }) f

    by : (q : Place) → (v.hand a).state.place ≡ q → AreWritten z v (begun_flat actor q line f)
    by place.Between at i gfn lt owed = in_begun (same_or i a)
      where
        idle : (f.under actor).stage ≡ Idle
        idle = subst (λ q. UnderIs z (v.words area.Pool) q (v.hand a).state.line.command (v.hand a) (f.under actor)) at (F.under a S.there)

        are : AreOfLines begun
        are = are_after z (record { actor = actor; kind = Begun line }) f (idle, S.own) lines

        in_begun : (i ≡ a) ⊎ (i ≢ a) → is_being_written begun.past.writes gfn ≡ true
        in_begun (inl e) =
            absurd (subst (λ q. IsMarkingAt q (v.hand a).state.line.command gfn) at
            (subst (λ k. IsMarkingAt (v.hand k).state.place (v.hand k).state.line.command gfn) e (G.marks i gfn lt owed)))
        in_begun (inr apart) =
            is_written begun.past.writes (v.hand i).state.actor gfn
            (are.is_in (v.hand i).state.actor gfn
            (subst (λ u. IsWriting u gfn) (sym (told_others actor (v.hand i).state.actor (Begun line ∷ []) f (other_actor z v a i I S.there lt apart)))
            (writes i gfn lt owed)))
    by _ at i gfn lt owed =
        is_written f.past.writes (v.hand i).state.actor gfn (lines.is_in (v.hand i).state.actor gfn (writes i gfn lt owed))

-- Its logs are those from before.
pub begun_logs : (z : Sizes) (v : View) (actor : Actor) (q : Place) (line : Line) (f : Flat) → FlatLogs z v f → FlatLogs z v (begun_flat actor q line f)
begun_logs z v actor q line f L =
    quiet_told (actors_of z) (v.words area.Log) (v.words area.Pool) (v.words area.Slots 0) v.hand actor (beginning q line) f (begins_quiet q line) L

-- ---- the log begins to be read

module _ (z : Sizes) (v : View) (a : ℕ) (command : Command) (I : Invariant z v) (there : a < actors_of z) (manager : (v.hand a).state.actor ≡ Manager)
    (none_taken : (gfn : ℕ) → HasTakenOut (v.hand a) gfn → ⊥) (R : ReadsOf v (v.hand a) command) (g : Flat) (L : FlatLogs z v g) (W : AreWritten z v g) where
  abbrev slot : SlotOf
  slot = slot_asked (v.hand a) command

  abbrev log : ℕ → ℕ
  log = v.words area.Log

  -- What is dirty then, and isn't being written, is marked.
  due_is_marked : (gfn : ℕ) → contains gfn slot ≡ true → g.facts.pending gfn ≡ true → is_being_written g.past.writes gfn ≡ false
      → is_marked log (page_of slot gfn) ≡ true
  due_is_marked gfn has dirty unwritten = by D.covered
    where
      D : IsDirtyIn (actors_of z) log (v.words area.Pool) (v.words area.Slots 0) v.hand g.facts.armed gfn
      D = L.dirty gfn dirty

      same : D.slot ≡ slot
      same = one_slot z v gfn R.id D.id slot D.slot I R.logged D.logged has D.has

      covered : IsCovered (actors_of z) log (λ i. (v.hand i).topics) D.slot gfn → is_marked log (page_of slot gfn) ≡ true
      covered (inl marked) = subst (λ s. is_marked log (page_of s gfn) ≡ true) same marked
      covered (inr (i, lt, owed)) = let written = W i gfn lt owed in absurd (cc (unwritten, written))

      by : IsCoveredOrTaken (actors_of z) log v.hand D.slot gfn → is_marked log (page_of slot gfn) ≡ true
      by (inl is) = covered is
      by (inr (j, lt, taken)) =
          absurd (none_taken gfn (subst (λ k. HasTakenOut (v.hand k) gfn) (taken_is z v a j gfn I there manager lt taken) taken))

  pub begins_reading : (actor : Actor) (id : ℕ) (out : Bool) → is_stopped g.facts.migration ≡ false
      → HasReadTo log slot command out [] (first_word slot command) (past_after actor (Taken id) g.facts g.past)
  begins_reading actor id out goes = record {
    due = λ gfn has asks due.
        let parts = and_parts (g.facts.pending gfn) (is_stopped g.facts.migration || not (is_being_written g.past.writes gfn)) due in
        let unwritten = ap (λ (b : Bool). b || not (is_being_written g.past.writes gfn)) (sym goes) ∙ parts.1 in
        inr (due_is_marked gfn has parts.0 (not-true (is_being_written g.past.writes gfn) unwritten), asked_from slot command R.whole gfn has asks);
    caused = λ gfn read. absurd (none_read slot command gfn read);
    recent = λ takes gfn read marked. absurd (none_read slot command gfn read);
  }
