-- The turn that answers a line ends the line's history.
use Rattle.std.proofs.Common.{◌≡◌, ◌≢◌, ◌⊎◌, inl, inr, ◌<◌, ℕ, Bool, true, false, List, [], ◌∷◌, ◌++◌, length, refl, sym, ap, ◌∙◌, subst, append_assoc}
use Rattle.std.proofs.lemmas.List.{map-append}
use Rattle.std.specs.Prelude.{Some}
use Rattle.core_views.specs.declared.actor.Actor.{Actor}
use Rattle.core_views.specs.declared.answer.Answer.{Answer}
use Rattle.core_views.specs.declared.event.Event.{Event}
use Rattle.core_views.specs.declared.event.EventKind.{EventKind}
use Rattle.core_views.specs.declared.event.EventKind.TheVariants.{Answered, Begun}
use Rattle.core_views.specs.declared.kind.Kind.{Kind}
use Rattle.core_views.specs.declared.place.Place.{Place}
use Rattle.core_views.specs.declared.place.Place.TheVariants as place
use Rattle.core_views.specs.declared.sizes.Sizes.{Sizes}
use Rattle.core_views.specs.declared.topics.Topics.{Topics}
use Rattle.core_views.specs.declared.trace.Command.{Command}
use Rattle.core_views.specs.declared.trace.Command.TheVariants.{Access}
use Rattle.core_views.specs.declared.trace.Line.{Line}
use Rattle.core_views.specs.declared.trace.Op.{Op}
use Rattle.core_views.specs.Events.{after_all, facts_after, under_after}
use Rattle.core_views.specs.Flat.{Facts, Flat, Idle, LineUnderWay, first_flat}
use Rattle.core_views.specs.Held.{Held}
use Rattle.core_views.specs.HostChanges.{changes_host}
use Rattle.core_views.specs.HostRuns.{sets_run}
use Rattle.core_views.specs.Lawful.{IsLawful, Tells}
use Rattle.core_views.specs.SlotCommands.{changes_slot}
use Rattle.spte_words.specs.declared.area.Area.TheVariants as area
use Rattle.flat_laws.specs.Writes.{StaysWithin}
use Rattle.flat_laws.proofs.AloneIsLawful.{lawful_parts}
use Rattle.mmu_core.specs.declared.outcome.Outcome.{Outcome}
use Rattle.mmu_core.specs.declared.outcome.Outcome.TheVariants.{Ends}
use Rattle.mmu_core.specs.invariant.Laws.{IsSound}
use Rattle.mmu_core.specs.lines.Forms.{outcome_at, tells_at}
use Rattle.mmu_core.specs.machine.Enabled.{mmu}
use Rattle.mmu_core.specs.machine.Machine.{Legal, Step, World, answered, hand_in, run}
use Rattle.mmu_core.specs.machine.Outcomes.{answering}
use Rattle.mmu_core.specs.machine.Steps.{beginning, events_of, line_at, place_at}
use Rattle.mmu_core.specs.machine.Turns.{line_of}
use Rattle.mmu_core.specs.machine.View.{word_in}
use Rattle.mmu_core.specs.machine.Worlds.{IsStart, history}
use Rattle.mmu_core.proofs.machine.LineRuns.{history_one_more, legal_one_more}
use Rattle.mmu_core.proofs.machine.Which.{events_of_line, has_line_is}
use Rattle.mmu_laws.proofs.EachForm.{line_under}
use Rattle.mmu_laws.specs.flat.FlatInvariant.{UnderAt}
use Rattle.mmu_laws.proofs.flat.EveryHistory.{after_append, every_flat, every_history}
use Rattle.mmu_laws.proofs.flat.Told.{line_behind, told, told_line}
use Rattle.mmu_laws.proofs.flat.Within.{AllWithin, tells_within}
use Rattle.slot_laws.specs.DoneLines.{by}
use Rattle.slot_laws.specs.OneChange.{HasBegunLine, HostLineTells, OfAnswered, SlotLineTells}
use Rattle.slot_laws.proofs.BegunLines.{lines_under_way_have_begun, same_line}
use Rattle.slot_laws.specs.RunLines.{RunLineTells}
use Rattle.slot_laws.proofs.ChangesAnswered.{host_lines_tell, slot_lines_tell}
use Rattle.slot_laws.proofs.RunLines.{run_lines_tell}
use Rattle.step_seats.specs.LineTurns.{TurnsLine}
use Rattle.step_seats.specs.Moves.{step_by}
use Rattle.step_seats.specs.Seats.{Seat}
use Rattle.step_seats.specs.Where.{IsMadeIn}
use Rattle.step_seats.specs.declared.turn.Turn.TheVariants.{Done}
use Rattle.job_laws.proofs.Turned.{ends_of, is_access}
use Rattle.job_laws.proofs.Turned as turned
use Rattle.job_laws.specs.OneChange.{EndsWithLine, HostJobsChangeOnce, HostRunJobsTell, SlotJobsChangeOnce}

-- Within a line the line under way stays the same.
same_behind : (kinds : List EventKind) (f : Facts) (u : LineUnderWay) → AllWithin kinds → (line_behind kinds f u).line ≡ u.line
same_behind [] f u all = refl
same_behind (k ∷ ks) f u all = same_behind ks (facts_after k f) (under_after k f u) all.1 ∙ same_line k f u all.0

-- The flat line under way is the hand's, from its begin on.
under_line : (stood : Place) (z : Sizes) (pool : ℕ → ℕ) (line other : Line) (command : Command) (t : Topics) (kinds : List EventKind) (f : Facts)
    (u : LineUnderWay) → UnderAt z pool stood other command t u → (stood ≡ place.Between ⊎ (line ≡ other)) → AllWithin kinds
    → (line_behind (beginning stood line ++ kinds) f u).line ≡ line
under_line place.Between z pool line other command t kinds f u at is all =
    same_behind kinds (facts_after (Begun line) f) (under_after (Begun line) f u) all
under_line stood z pool line other command t kinds f u at (inl between) all = absurd (cc between)
under_line stood z pool line other command t kinds f u at (inr is) all = same_behind kinds f u all ∙ line_under stood z pool other command t u tt at ∙ sym is

-- ---- the line's history

module _ (z : Sizes) (lines : List Line) (start : World Held) (ss : List (Step Kind)) (before after : Seat) (answer : Answer)
    (is_start : IsStart z lines start) (legal : Legal mmu start ss) (world : before.tells.world ≡ Some (run mmu start ss))
    (left : length before.hand.answers < length before.hand.lines) (other_form : is_access (line_of before.hand).command ≡ false)
    (turns : TurnsLine (Done answer) before after) where
  abbrev h : Held
  h = before.hand

  abbrev line : Line
  line = line_of h

  abbrev s : Step Kind
  s = step_by before.actor turns.makes.kind

  abbrev v : ℕ
  v = turns.makes.found

  abbrev p : Place
  p = place_at h.state.place h

  made : IsMadeIn turns.makes.kind before.actor h after.hand (run mmu start ss) × (answered mmu (run mmu start ss) turns.makes.kind ≡ v)
  made = turned.made z lines start ss before after is_start legal world left turns.makes

  sound : IsSound z (run mmu start ss)
  sound = turned.sound z lines start ss before after is_start legal world left turns.makes

  own : line.actor ≡ h.state.actor
  own = turned.own z lines start ss before after is_start legal world left turns.makes

  abbrev kinds : List EventKind
  kinds = tells_at p line.command h v

  abbrev early : List EventKind
  early = beginning h.state.place line ++ kinds

  abbrev so_far : List Event
  so_far = history start ss ++ told h.state.actor early

  ends : outcome_at p line.command h v ≡ Ends answer
  ends = ends_of p line.command h v answer other_form turns.gives.1

  step_told : events_of h v ≡ told h.state.actor early ++ told h.state.actor (Answered line.number answer ∷ [])
  step_told =
      events_of_line h v (has_line_is h left)
      ∙ ap (λ (o : Outcome). told h.state.actor (beginning h.state.place line ++ (kinds ++ answering o line))) ends
      ∙ ap (told h.state.actor) (sym (append_assoc (beginning h.state.place line) kinds (Answered line.number answer ∷ [])))
      ∙ map-append (λ kind. record { actor = h.state.actor; kind = kind }) early (Answered line.number answer ∷ [])

  whole : history start (ss ++ s ∷ []) ≡ so_far ++ told h.state.actor (Answered line.number answer ∷ [])
  whole =
      history_one_more start ss s
      ∙ ap (λ (es : List Event). history start ss ++ es)
      (ap (λ (x : ℕ). events_of (hand_in mmu (run mmu start ss) before.actor) x) made.1 ∙ ap (λ (g : Held). events_of g v) made.0.has.is ∙ step_told)
      ∙ sym (append_assoc (history start ss) (told h.state.actor early) (told h.state.actor (Answered line.number answer ∷ [])))

  lawful : IsLawful z first_flat (so_far ++ told h.state.actor (Answered line.number answer ∷ []))
  lawful =
      subst (IsLawful z first_flat) whole
      (every_history z lines start (ss ++ s ∷ []) is_start (legal_one_more start ss s legal made.0.may))

  parts : IsLawful z first_flat so_far × IsLawful z (after_all so_far first_flat) (told h.state.actor (Answered line.number answer ∷ []))
  parts = lawful_parts z so_far (told h.state.actor (Answered line.number answer ∷ [])) first_flat lawful

  abbrev under_now : LineUnderWay
  under_now = (after_all so_far first_flat).under h.state.actor

  busy : under_now.stage ≢ Idle
  busy idle =
      subst (λ stage. Tells z (after_all so_far first_flat).facts h.state.actor under_now.line.command stage answer) idle parts.1.0.1

  line_now : under_now.line ≡ line
  line_now =
      ap (λ (f : Flat). (f.under h.state.actor).line) (after_append (history start ss) (told h.state.actor early) first_flat)
      ∙ ap (λ (u : LineUnderWay). u.line) (told_line h.state.actor early f)
      ∙ under_line h.state.place z (word_in z (run mmu start ss) area.Pool) line h.state.line h.state.line.command h.topics kinds f.facts
      (f.under h.state.actor)
      (subst (λ (g : Held). UnderAt z (word_in z (run mmu start ss) area.Pool) g.state.place g.state.line g.state.line.command g.topics
      (f.under g.state.actor))
      made.0.has.is ((every_flat z lines start ss is_start legal).under before.actor (subst (λ n. before.actor < n) sound.hands made.0.has.there)))
      (is_line h.state.place refl) (tells_within p line.command h v)
    where
      f : Flat
      f = after_all (history start ss) first_flat

      is_line : (q : Place) → h.state.place ≡ q → (h.state.place ≡ place.Between) ⊎ (line ≡ h.state.line)
      is_line place.Between is = inl is
      is_line _ is = inr (ap (λ (x : Place). line_at x h) is)

  begun : HasBegunLine so_far h.state.actor line
  begun =
      subst (HasBegunLine so_far h.state.actor) line_now
      (lines_under_way_have_begun z so_far h.state.actor parts.0 busy)

  told_is : history start (ss ++ s ∷ []) ≡ begun.before ++ (by line (Begun line) ∷ (begun.since ++ (by line (Answered line.number answer) ∷ [])))
  told_is =
      whole ∙ ap (λ (es : List Event). es ++ told h.state.actor (Answered line.number answer ∷ [])) begun.history_is
      ∙ append_assoc begun.before (record { actor = h.state.actor; kind = Begun line } ∷ begun.since) (told h.state.actor (Answered line.number answer ∷ []))
      ∙ ap (λ (a : Actor). begun.before
      ++ (record { actor = a; kind = Begun line } ∷ (begun.since ++ (record { actor = a; kind = Answered line.number answer } ∷ []))))
      (sym own)

  ends_with : (has : Command → Bool) (Tells_ : Sizes → Line → Answer → Flat → List Event → Type 0) → OfAnswered has Tells_ → has line.command ≡ true
      → EndsWithLine line answer (Tells_ z line answer) (history start (ss ++ s ∷ []))
  ends_with has Tells_ law is = record {
    before = begun.before;
    between = begun.since;
    told_is = told_is;
    within = within;
    tells = law z begun.before begun.since line answer is
        (subst (IsLawful z first_flat) told_is
        (every_history z lines start (ss ++ s ∷ []) is_start (legal_one_more start ss s legal made.0.may)))
        within;
  }
    where
      within : StaysWithin line.actor begun.since
      within = subst (λ (a : Actor). StaysWithin a begun.since) (sym own) begun.within

-- A line with such a command is no access.
no_access : (has : Command → Bool) → ((gfn word : ℕ) (op : Op) → has (Access gfn word op) ≡ false) → (command : Command) → has command ≡ true
    → is_access command ≡ false
no_access has none (Access gfn word op) is = absurd (let not_ = none gfn word op in cc (is, not_))
no_access has none _ is = refl

pub slot_jobs_change_once : SlotJobsChangeOnce
slot_jobs_change_once z lines start ss before after answer is_start legal world left is turns =
    ends_with z lines start ss before after answer is_start legal world left
    (no_access changes_slot (λ gfn word op. refl) (line_of before.hand).command is) turns changes_slot SlotLineTells slot_lines_tell is

pub host_jobs_change_once : HostJobsChangeOnce
host_jobs_change_once z lines start ss before after answer is_start legal world left is turns =
    ends_with z lines start ss before after answer is_start legal world left
    (no_access changes_host (λ gfn word op. refl) (line_of before.hand).command is) turns changes_host HostLineTells host_lines_tell is

pub host_run_jobs_tell : HostRunJobsTell
host_run_jobs_tell z lines start ss before after answer is_start legal world left is turns =
    ends_with z lines start ss before after answer is_start legal world left
    (no_access sets_run (λ gfn word op. refl) (line_of before.hand).command is) turns sets_run RunLineTells run_lines_tell is
