-- What is dirty as a line that is alone begins to read a log must not be left out: no write is under way then.
use Rattle.core_views.specs.Migrations.{is_stopped}
use Rattle.std.proofs.Common.{◌≡◌, ◌≢◌, ◌⊎◌, inl, inr, ◌<◌, List, ℕ, refl, sym, subst, ap, ◌∙◌}
use Rattle.std.specs.Prelude.{Bool, true, false, not, ◌&&◌, ◌||◌, Some}
use Rattle.core_views.specs.declared.actor.Actor.{Actor}
use Rattle.core_views.specs.declared.event.EventKind.{EventKind}
use Rattle.core_views.specs.declared.event.EventKind.TheVariants.{Taken}
use Rattle.core_views.specs.declared.place.Place.TheVariants as place
use Rattle.core_views.specs.declared.sizes.Sizes.{Sizes}
use Rattle.core_views.specs.declared.trace.Command.{Command}
use Rattle.core_views.specs.declared.trace.Command.TheVariants.{ClearLog, GetLog}
use Rattle.core_views.specs.Actors.{is_same}
use Rattle.core_views.specs.Events.{after, after_all}
use Rattle.core_views.specs.Flat.{Facts, Flat, Idle, LineUnderWay}
use Rattle.core_views.specs.Lawful.{IsAllowed, IsLawful}
use Rattle.core_views.specs.LogCommands.{log_read}
use Rattle.core_views.specs.Past.{Past, is_being_written, written_frame}
use Rattle.core_views.specs.Sizes.{actors_of}
use Rattle.core_views.proofs.SameActor.{is_same_self, same_is}
use Rattle.flat_laws.specs.Writes.{IsWriting}
use Rattle.flat_laws.proofs.Written.{WritesNow, some_writes}
use Rattle.flat_laws.proofs.Writes.{AreOfLines, all_of_lines}
use Rattle.spte_words.specs.declared.area.Area.TheVariants as area
use Rattle.mmu_core.specs.machine.View.{View}
use Rattle.mmu_core.proofs.machine.Columns.{same_or}
use Rattle.mmu_laws.specs.forms.log.ReadingsAlone.{LogsAreExact}
use Rattle.mmu_laws.specs.flat.FlatInvariant.{FlatInvariant, UnderIs}
use Rattle.mmu_laws.proofs.flat.Told.{told, told_others}

-- A line that reads a log writes nothing.
reads_write_none : (command : Command) (id gfn : ℕ) → log_read command ≡ Some id → written_frame command ≡ Some gfn → ⊥
reads_write_none (GetLog i) id gfn reads writes = cc writes
reads_write_none (ClearLog i first count words) id gfn reads writes = cc writes
reads_write_none _ id gfn reads writes = cc reads

-- Nor does any line that begins to read one.
taken_writes_none : (z : Sizes) (f : Facts) (past : Past) (actor : Actor) (u : LineUnderWay) (id gfn : ℕ) → IsAllowed z f past actor u (Taken id)
    → written_frame u.line.command ≡ Some gfn → ⊥
taken_writes_none z f past actor u id gfn (inl alone) writes = reads_write_none u.line.command id gfn alone.2 writes
taken_writes_none z f past actor u id gfn (inr next) writes = cc (sym (ap written_frame next.asked) ∙ writes)

-- No other line of the hands is under way.
abbrev pub NoneElse : Sizes → View → ℕ → Type 0
NoneElse z v a = (i : ℕ) → i < actors_of z → i ≢ a → (v.hand i).state.place ≡ place.Between

module _ (z : Sizes) (v : View) (f : Flat) (a : ℕ) (F : FlatInvariant z v f) (E : LogsAreExact z v f) (idle : NoneElse z v a) where
  abbrev actor : Actor
  actor = (v.hand a).state.actor

  -- So none is in flat memory.
  pub others_idle : (x : Actor) → is_same actor x ≡ false → (f.under x).stage ≢ Idle → ⊥
  others_idle x apart under = by (same_or W.0 a)
    where
      W : (i : ℕ) × (i < actors_of z) × (x ≡ (v.hand i).state.actor)
      W = E.under x under

      by : (W.0 ≡ a) ⊎ (W.0 ≢ a) → ⊥
      by (inl e) =
          let same : x ≡ actor = W.2 ∙ ap (λ i. (v.hand i).state.actor) e in
          let one : is_same actor x ≡ true = ap (is_same actor) same ∙ is_same_self actor in cc (apart, one)
      by (inr ne) =
          let rests = subst (λ q. UnderIs z (v.words area.Pool) q (v.hand W.0).state.line.command (v.hand W.0) (f.under (v.hand W.0).state.actor))
          (idle W.0 W.1 ne) (F.under W.0 W.1) in
          under (ap (λ (y : Actor). (f.under y).stage) W.2 ∙ rests)

  module _ (kinds : List EventKind) (id : ℕ) (lines : AreOfLines f) (lawful : IsLawful z f (told actor kinds))
      (takes : IsAllowed z (after_all (told actor kinds) f).facts (after_all (told actor kinds) f).past actor ((after_all (told actor kinds) f).under actor)
      (Taken id)) where
    abbrev g : Flat
    g = after_all (told actor kinds) f

    -- After what its actor tells no line writes that is under way, where its own one reads a log.
    pub none_written : (gfn : ℕ) → is_being_written g.past.writes gfn ≡ false
    none_written gfn = by (is_being_written g.past.writes gfn) refl
      where
        by : (b : Bool) → is_being_written g.past.writes gfn ≡ b → b ≡ false
        by false is = refl
        by true is = absurd (which (is_same actor W.actor) refl)
          where
            W : WritesNow g.past.writes gfn
            W = some_writes g.past.writes gfn is

            writes : IsWriting (g.under W.actor) gfn
            writes = (all_of_lines z (told actor kinds) f lawful lines).is_writing W.actor gfn W.has

            which : (same : Bool) → is_same actor W.actor ≡ same → ⊥
            which true same =
                taken_writes_none z g.facts g.past actor (g.under actor) id gfn takes
                (ap (λ (y : Actor). written_frame (g.under y).line.command) (same_is actor W.actor same) ∙ writes.1)
            which false apart =
                others_idle W.actor apart
                (λ e. writes.0 (ap (λ (u : LineUnderWay). u.stage) (told_others actor W.actor kinds f apart) ∙ e))

    -- So what is dirty there is due once the reading begins.
    pub taken_due : (gfn : ℕ) → g.facts.pending gfn ≡ true → (after (record { actor = actor; kind = Taken id }) g).past.due gfn ≡ true
    taken_due gfn is = both (g.facts.pending gfn) (is_stopped g.facts.migration) (is_being_written g.past.writes gfn) is (none_written gfn)
      where
        both : (b s c : Bool) → b ≡ true → c ≡ false → (b && (s || not c)) ≡ true
        both true true false is none = refl
        both true false false is none = refl
        both true s true is none = absurd (cc none)
        both false s c is none = absurd (cc is)
