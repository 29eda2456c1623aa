-- A line that moves its page while all other actors rest takes the lowest frame that no page names; and it is refused one only where each frame is a page's.
use Rattle.std.proofs.Common.{◌≡◌, ◌≢◌, ◌⊎◌, inl, inr, ◌/◌, ◌%◌, ◌<◌, ℕ, List, [], ◌∷◌, ◌++◌, refl, sym, subst, ap, ◌∙◌, arith}
use Rattle.std.specs.Prelude.{Bool, true, false, ◌==◌, if◌then◌else◌, Option, Some, None, is_some}
use Rattle.std.proofs.lemmas.Nat.Bits.{bit_at-zero}
use Rattle.core_views.specs.declared.actor.Actor.{Actor}
use Rattle.core_views.specs.declared.answer.Answer.TheVariants.{Refused}
use Rattle.core_views.specs.declared.answer.Refusal.TheVariants.{NoFrame}
use Rattle.core_views.specs.declared.event.Event.{Event}
use Rattle.core_views.specs.declared.event.EventKind.{EventKind}
use Rattle.core_views.specs.declared.event.EventKind.TheVariants.{Answered, Exited, HostChanged, LookedAtHost}
use Rattle.core_views.specs.declared.host.HostEntry.{HostEntry}
use Rattle.core_views.specs.declared.kind.Kind.{Kind}
use Rattle.core_views.specs.declared.place.HostPlace.TheVariants as host
use Rattle.core_views.specs.declared.place.HostRunPlace.TheVariants as host_run
use Rattle.core_views.specs.declared.place.Place.{Place}
use Rattle.core_views.specs.declared.place.Place.TheVariants as place
use Rattle.core_views.specs.declared.sizes.Sizes.{Sizes}
use Rattle.core_views.specs.declared.topics.OwnedFrame.{OwnedFrame}
use Rattle.core_views.specs.declared.trace.Command.{Command}
use Rattle.core_views.specs.declared.trace.Command.TheVariants.{ChangeHost, ChangeRun}
use Rattle.core_views.specs.declared.trace.HostChange.{HostChange}
use Rattle.core_views.specs.declared.trace.HostChange.TheVariants.{Move}
use Rattle.core_views.specs.declared.trace.Line.{Line}
use Rattle.core_views.specs.declared.trace.RunChange.{RunChange}
use Rattle.core_views.specs.Alone.{TakeLowest, TakesLowest}
use Rattle.core_views.specs.Events.{after_all}
use Rattle.core_views.specs.Flat.{Facts, Flat, first_flat}
use Rattle.core_views.specs.Held.{Held}
use Rattle.core_views.specs.Host.{HostMap}
use Rattle.core_views.specs.HostChanges.{is_taken, lowest_free}
use Rattle.core_views.specs.Sizes.{actors_of}
use Rattle.flat_laws.proofs.FallsAsFlat.{lowest_append}
use Rattle.core_views.proofs.LowestFrames.{lowest_is, none_left, taken_by, untaken}
use Rattle.spte_words.specs.declared.area.Area.TheVariants as area
use Rattle.spte_words.specs.Areas.{words_of_bits}
use Rattle.spte_words.specs.Bits.{has_bit}
use Rattle.part_steps.specs.FrameTopics.{frame_owned}
use Rattle.part_steps.specs.PartTasks.{word_looked}
use Rattle.mmu_core.specs.alone.AloneKnows.{FormAlone, OwnsLowest}
use Rattle.mmu_core.specs.alone.LineAlone.{AllRest, ComesNearer, LineAlone}
use Rattle.mmu_core.specs.alone.OthersRest.{OthersRest}
use Rattle.mmu_core.specs.alone.SeenStands.{NoneFreeBefore}
use Rattle.mmu_core.specs.declared.claim.ClaimNext.{ClaimNext}
use Rattle.mmu_core.specs.declared.claim.ClaimNext.TheVariants as claims
use Rattle.mmu_core.specs.declared.outcome.Outcome.{Outcome}
use Rattle.mmu_core.specs.declared.outcome.Outcome.TheVariants.{Ends}
use Rattle.mmu_core.specs.invariant.FramesPart.{FrameUse}
use Rattle.mmu_core.specs.invariant.Laws.{IsSound}
use Rattle.mmu_core.specs.invariant.PoolPart.{is_free}
use Rattle.mmu_core.specs.forms.access.AccessSteps.{exiting}
use Rattle.mmu_core.specs.declared.claim.FreeMap.TheVariants.{Frames}
use Rattle.mmu_core.specs.orders.ClaimSteps.{claim_next}
use Rattle.mmu_core.specs.lines.Forms.{KnowsPart, outcome_at, tells_at}
use Rattle.mmu_core.specs.forms.host.HostKnows.{HostKnows}
use Rattle.mmu_core.specs.forms.host.HostSteps.{after_frame_claim, entry_of, word_put}
use Rattle.mmu_core.specs.machine.Enabled.{mmu}
use Rattle.mmu_core.specs.machine.Machine.{Legal, May, Step, World, answered, effect, hand_in, run}
use Rattle.mmu_core.specs.machine.Outcomes.{answering}
use Rattle.mmu_core.specs.machine.Steps.{beginning, events_of, line_at, place_at}
use Rattle.mmu_core.specs.machine.Turns.{line_of, outcome_of}
use Rattle.mmu_core.specs.machine.View.{view, word_in}
use Rattle.mmu_core.specs.machine.Worlds.{IsStart, history}
use Rattle.mmu_core.proofs.lines.KnowsKept.{knows_at}
use Rattle.mmu_core.proofs.machine.Columns.{same_or}
use Rattle.mmu_core.proofs.machine.ColumnsTell.{outside_tells}
use Rattle.mmu_core.proofs.machine.LineRuns.{history_one_more, legal_one_more, run_one_more, told_last}
use Rattle.mmu_core.proofs.machine.Which.{events_of_line, has_line_is}
use Rattle.mmu_core.proofs.pages.FrameUses.{frame_use_is, has_frame_owner, has_page, owned_frame_there, owned_of_no_page}
use Rattle.mmu_core.proofs.pages.Uses.{told_so}
use Rattle.mmu_core.proofs.words.HostStays.{moved_frame}
use Rattle.mmu_laws.specs.flat.FlatInvariant.{FlatInvariant, UnderIs}
use Rattle.mmu_laws.proofs.alone.AloneRuns.{steps_alone}
use Rattle.mmu_laws.proofs.alone.NoMoves.{first_moves_not, moves_at, no_moves_take, refused_no_move, tells_no_move, whole_no_move}
use Rattle.mmu_laws.proofs.flat.EveryHistory.{after_append, every_flat}
use Rattle.mmu_laws.proofs.forms.host_run.RunEvents.{run_tells_so}
use Rattle.mmu_laws.proofs.flat.Told.{facts_behind, told, told_facts}

-- ---- the frames of a sound world

module _ (z : Sizes) (w : World Held) (mapped : HostMap) (sound : IsSound z w)
    (maps : (p : ℕ) → p < z.pages → mapped p ≡ entry_of (word_in z w area.Host p)) where
  abbrev map : ℕ → ℕ
  map = word_in z w area.FrameMap

  abbrev owned : ℕ → Option OwnedFrame
  owned i = (hand_in mmu w i).topics.frames.owned

  -- A frame of the machine is a page's, where it isn't free and nobody owns it.
  of_page : (frame : ℕ) → frame < z.frames → is_free map frame ≡ false
      → ((i : ℕ) (o : OwnedFrame) → i < actors_of z → owned i ≡ Some o → o.frame ≢ frame) → is_taken z.pages mapped frame ≡ true
  of_page frame lt taken none = by (sound.topics.use_of frame) refl
    where
      by : (u : FrameUse) → sound.topics.use_of frame ≡ u → is_taken z.pages mapped frame ≡ true
      by FrameUse.Free is =
          let free : is_free map frame ≡ true = told_so frame_use_is sound.topics.frames.told frame FrameUse.Free is FrameUse.Free in absurd (cc (free, taken))
      by FrameUse.Outside is =
          let out = outside_tells frame z.frames (told_so frame_use_is sound.topics.frames.told frame FrameUse.Outside is FrameUse.Outside) in
          absurd (omega (arith, out, lt))
      by (FrameUse.Page p) is =
          let P = has_page sound.topics.frames p frame is in
          taken_by z.pages mapped p frame P.0 (ap (λ (e : HostEntry). e.frame) (maps p P.0) ∙ P.1)
      by (FrameUse.Owned i) is =
          let O = has_frame_owner sound.topics.frames i frame is in absurd (none i O.held O.there O.is O.of_number)

  -- Where all actors rest, and each word of the map is 0, each frame is a page's.
  no_frame_left : AllRest w → NoneFreeBefore map (words_of_bits z.frames) → lowest_free z mapped ≡ None
  no_frame_left rest none = none_left z mapped (λ frame lt. of_page frame lt (taken frame lt) (λ i o i_in is. absurd (owns_none i o i_in is)))
    where
      taken : (frame : ℕ) → frame < z.frames → is_free map frame ≡ false
      taken frame lt = ap (has_bit (frame % 64)) (none (frame / 64) (omega (arith, lt))) ∙ ap (λ b. b == 1) (bit_at-zero (frame % 64))

      owns_none : (i : ℕ) (o : OwnedFrame) → i < actors_of z → owned i ≡ Some o → ⊥
      owns_none i o i_in is = let owns = (rest i (subst (λ n. i < n) (sym sound.hands) i_in)).owns_no_frame in cc (is, owns)

  -- Where all other actors rest, a frame that is owned, below which none is free, is the lowest that no page names.
  lowest_owned : (a : ℕ) (o : OwnedFrame) → a < actors_of z → OthersRest a w → owned a ≡ Some o → OwnsLowest map (owned a)
      → lowest_free z mapped ≡ Some o.frame
  lowest_owned a o there others is L =
      lowest_is z mapped o.frame low
      (untaken z.pages mapped o.frame
      (λ p lt e. owned_of_no_page sound.topics.frames a o p there is lt (sym (ap (λ (x : HostEntry). x.frame) (maps p lt)) ∙ e)))
      (λ lower lt. of_page lower (omega (arith, lt, low)) (L o is lower lt) (λ i x i_in owns. above lower lt i x i_in owns (same_or i a)))
    where
      low : o.frame < z.frames
      low = owned_frame_there sound.topics.frames a o there is

      above : (lower : ℕ) → lower < o.frame → (i : ℕ) (x : OwnedFrame) → i < actors_of z → owned i ≡ Some x → (i ≡ a) ⊎ (i ≢ a) → x.frame ≢ lower
      above lower lt i x i_in owns (inl e) at =
          let same : x.frame ≡ o.frame = ap frame_owned (sym owns ∙ ap owned e ∙ is) in absurd (omega (arith, lt, at, same))
      above lower lt i x i_in owns (inr ne) at =
          let none = (others i (subst (λ n. i < n) (sym sound.hands) i_in) ne).owns_no_frame in absurd (cc (owns, none))

-- ---- what a step tells

-- There is a frame, where one is owned.
some_frame : (owned : Option OwnedFrame) → is_some owned ≡ true → (o : OwnedFrame) × (owned ≡ Some o)
some_frame None some = absurd (cc some)
some_frame (Some o) some = (o, refl)

module _ (z : Sizes) (u : World Held) (s : Step Kind) (f : Flat) (L : LineAlone z u s.actor) (may : May mmu u s) (F : FlatInvariant z (view z u) f)
    (B : FlatInvariant z (view z (effect mmu u s)) (after_all (told_last u s) f)) where
  abbrev h : Held
  h = hand_in mmu u s.actor

  abbrev v : ℕ
  v = answered mmu u s.kind

  abbrev actor : Actor
  actor = h.state.actor

  abbrev kinds_at : Place → Command → List EventKind
  kinds_at stood command =
      beginning stood (line_at stood h) ++ (tells_at (place_at stood h) command h v ++ answering (outcome_at (place_at stood h) command h v) (line_at stood h))

  -- The line stands here, with this command.
  record Stands (stood : Place) (command : Command) : Type 0 where
    command_is : (line_at stood h).command ≡ command
    tells : events_of h v ≡ told actor (kinds_at stood command)
    comes : outcome_of h v ≡ outcome_at (place_at stood h) command h v
    knows : KnowsPart (place_at stood h) command h
    form : FormAlone stood command (word_in z u) h.topics
    under : UnderIs z (word_in z u area.Pool) stood h.state.line.command h (f.under actor)

  -- It is refused a frame only where there is none.
  refused : (kinds : List EventKind) → events_of h v ≡ told actor kinds → facts_behind kinds f.facts ≡ f.facts → outcome_of h v ≡ Ends (Refused NoFrame)
      → lowest_free z f.facts.host ≡ None
  refused kinds tells same is =
      no_frame_left z (effect mmu u s) f.facts.host N.0 (λ p lt. ap (λ (x : Facts). x.host p) (sym facts_are) ∙ B.refines.host p lt) N.1 (N.2 Frames refl)
    where
      N : ComesNearer (Ends (Refused NoFrame)) z s.actor u (effect mmu u s)
      N = subst (λ (o : Outcome). ComesNearer o z s.actor u (effect mmu u s)) is (steps_alone z u s L may).nearer

      facts_are : (after_all (told_last u s) f).facts ≡ f.facts
      facts_are = ap (λ (es : List Event). (after_all es f).facts) tells ∙ told_facts actor kinds f ∙ same

  claim_takes : (next : ClaimNext) (line : Line) → events_of h v ≡ told actor (exiting (after_frame_claim next) ++ answering (after_frame_claim next) line)
      → outcome_of h v ≡ after_frame_claim next
      → TakeLowest z f (told actor (exiting (after_frame_claim next) ++ answering (after_frame_claim next) line))
  claim_takes claims.Goes line tells is = tt
  claim_takes claims.Got line tells is = tt
  claim_takes claims.Empty line tells is =
      (refused (Exited (Refused NoFrame) ∷ Answered line.number (Refused NoFrame) ∷ []) tells refl is, (tt, tt))

  -- Its exchange puts the lowest frame.
  changed_takes : (page : ℕ) (change : HostChange) → HostKnows host.Change page change h → OwnsLowest (word_in z u area.FrameMap) h.topics.frames.owned
      → TakesLowest z f.facts (ChangeHost page change) (HostChanged page (entry_of (word_put change h.topics)))
  changed_takes page Move K lowest =
      let o = some_frame h.topics.frames.owned K.2.owns in
      lowest_owned z u f.facts.host L.sound F.refines.host s.actor o.0 L.there L.others o.1 lowest
      ∙ ap (λ (n : ℕ). Some n) (sym (moved_frame (word_looked h.topics.host) (frame_owned h.topics.frames.owned) ∙ ap frame_owned o.1))
  changed_takes page _ K lowest = tt

  change_takes : (won : Bool) (page : ℕ) (entry : HostEntry) → TakesLowest z f.facts (f.under actor).line.command (HostChanged page entry)
      → TakeLowest z f (told actor ((if won then HostChanged page entry ∷ [] else []) ++ []))
  change_takes true page entry takes = (takes, tt)
  change_takes false page entry takes = tt

  -- A line that sets a run moves no page.
  run_takes : (page : ℕ) (change : RunChange) → (f.under actor).line.command ≡ ChangeRun page change
      → TakeLowest z f (told actor (kinds_at (place.HostRun host_run.Change) (ChangeRun page change)))
  run_takes page change is =
      run_tells_so (λ kinds. TakeLowest z f (told actor (kinds ++ []))) tt (λ other. (tt, tt))
      (λ other refusal no_frame.
      no_moves_take z f actor (LookedAtHost other ∷ Exited (Refused refusal) ∷ []) (tt, (refused_no_move refusal no_frame, tt))) host_run.Change
      (λ at other entry. (subst (λ c. TakesLowest z f.facts c (HostChanged other entry)) (sym is) tt, tt)) page change h v

  takes_by : (stood : Place) (command : Command) → Stands stood command → TakeLowest z f (told actor (kinds_at stood command))
  takes_by (place.Host (host.Claim begun)) (ChangeHost page change) S =
      claim_takes (claim_next Frames begun h.state.sizes h.topics.frames.claim v) (line_at (place.Host (host.Claim begun)) h) S.tells S.comes
  takes_by (place.Host host.Change) (ChangeHost page change) S =
      let under = subst (λ c. UnderIs z (word_in z u area.Pool) (place.Host host.Change) c h (f.under actor)) S.command_is S.under in
      change_takes (v == word_looked h.topics.host) page (entry_of (word_put change h.topics))
      (subst (λ c. TakesLowest z f.facts c (HostChanged page (entry_of (word_put change h.topics))))
      (sym (ap (λ (l : Line). l.command) under.0 ∙ S.command_is)) (changed_takes page change S.knows S.form))
  takes_by (place.HostRun host_run.Change) (ChangeRun page change) S =
      let under = subst (λ c. UnderIs z (word_in z u area.Pool) (place.HostRun host_run.Change) c h (f.under actor)) S.command_is S.under in
      run_takes page change (ap (λ (l : Line). l.command) under.0 ∙ S.command_is)
  takes_by place.Between command S =
      let p : Place = place_at place.Between h in
      no_moves_take z f actor (kinds_at place.Between command)
      (whole_no_move place.Between (line_at place.Between h) (tells_at p command h v) (outcome_at p command h v)
      (tells_no_move p command h v (subst (λ c. moves_at p c ≡ false) S.command_is
      (first_moves_not h.state.sizes h.slots (line_at place.Between h).command))))
  takes_by stood command S =
      no_moves_take z f actor (kinds_at stood command)
      (whole_no_move stood (line_at stood h) (tells_at (place_at stood h) command h v) (outcome_at (place_at stood h) command h v)
      (tells_no_move (place_at stood h) command h v refl))

  step_takes : TakeLowest z f (told_last u s)
  step_takes = subst (TakeLowest z f) (sym S.tells) (takes_by h.state.place (line_of h).command S)
    where
      S : Stands h.state.place (line_of h).command
      S = record {
        command_is = refl;
        tells = events_of_line h v (has_line_is h L.left);
        comes = refl;
        knows = knows_at z (view z u) s.actor L.sound.holds L.there L.left;
        form = L.knows.form;
        under = F.under s.actor L.there;
      }

pub moves_take_lowest : (z : Sizes) (lines : List Line) (w : World Held) (ss : List (Step Kind)) (s : Step Kind) → IsStart z lines w → Legal mmu w ss
    → LineAlone z (run mmu w ss) s.actor → May mmu (run mmu w ss) s → TakeLowest z first_flat (history w ss)
    → TakeLowest z first_flat (history w (ss ++ s ∷ []))
moves_take_lowest z lines w ss s start legal L may so_far =
    let u : World Held = run mmu w ss in
    let f : Flat = after_all (history w ss) first_flat in
    let behind = every_flat z lines w (ss ++ s ∷ []) start (legal_one_more w ss s legal may) in
    let told_is : after_all (history w (ss ++ s ∷ [])) first_flat ≡ after_all (told_last u s) f =
    ap (λ (es : List Event). after_all es first_flat) (history_one_more w ss s) ∙ after_append (history w ss) (told_last u s) first_flat in
    let B : FlatInvariant z (view z (effect mmu u s)) (after_all (told_last u s) f) =
    subst (λ (x : World Held). FlatInvariant z (view z x) (after_all (told_last u s) f)) (run_one_more w ss s)
    (subst (FlatInvariant z (view z (run mmu w (ss ++ s ∷ [])))) told_is behind) in
    subst (TakeLowest z first_flat) (sym (history_one_more w ss s))
    (lowest_append z (history w ss) (told_last u s) first_flat so_far (step_takes z u s f L may (every_flat z lines w ss start legal) B))
