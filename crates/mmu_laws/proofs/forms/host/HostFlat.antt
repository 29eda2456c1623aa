-- What the steps of a host line owe flat memory.
use Rattle.core_views.specs.Lawful.{may_look}
use Rattle.std.proofs.Common.{◌≡◌, ℕ, [], ◌∷◌, ◌++◌, Bool, true, false, refl, sym, subst, ap, ◌∙◌, eqb-true, ◌<◌, ◌≤◌, arith}
use Rattle.std.specs.Prelude.{◌+◌, ◌==◌, if◌then◌else◌, nat_lt}
use Rattle.core_views.specs.declared.answer.Answer.{Answer}
use Rattle.core_views.specs.declared.answer.Answer.TheVariants.{Done, Moved, Refused}
use Rattle.core_views.specs.declared.answer.Refusal.TheVariants.{IsHuge, NoFrame, OutOfRange}
use Rattle.core_views.specs.declared.event.EventKind.TheVariants.{HostChanged, LookedAtHost}
use Rattle.core_views.specs.declared.host.HostEntry.{HostEntry}
use Rattle.core_views.specs.declared.place.BeginPlace.TheVariants as begins
use Rattle.core_views.specs.declared.place.EndPlace.{EndPlace}
use Rattle.core_views.specs.declared.place.EndPlace.TheVariants as ends
use Rattle.core_views.specs.declared.place.HostPlace.{HostPlace}
use Rattle.core_views.specs.declared.place.HostPlace.TheVariants.{Look, Claim, Begin, Copy, Store, Change, End, Watch, Free}
use Rattle.core_views.specs.declared.place.Place.TheVariants as place
use Rattle.core_views.specs.declared.sizes.Sizes.{Sizes}
use Rattle.core_views.specs.declared.topics.Topics.{Topics}
use Rattle.core_views.specs.declared.trace.Command.{Command}
use Rattle.core_views.specs.declared.trace.Command.TheVariants.{ChangeHost}
use Rattle.core_views.specs.declared.trace.HostChange.{HostChange}
use Rattle.core_views.specs.declared.trace.HostChange.TheVariants.{Move}
use Rattle.core_views.specs.declared.trace.Line.{Line}
use Rattle.core_views.specs.Flat.{Facts, HasChangedHost, LineUnderWay, Notes}
use Rattle.core_views.specs.Held.{Held}
use Rattle.core_views.specs.HostChanges.{host_answer, is_own}
use Rattle.core_views.specs.Lawful.{HasWork, MayLeave, Tells}
use Rattle.core_views.specs.Past.{Past}
use Rattle.spte_words.specs.declared.area.Area.TheVariants as area
use Rattle.spte_words.specs.HostWords.{host_frame}
use Rattle.part_steps.specs.declared.invalidations.Target.TheVariants as aim
use Rattle.part_steps.specs.declared.part_step.PartStep.{PartStep}
use Rattle.part_steps.specs.declared.part_step.PartStep.TheVariants as part
use Rattle.part_steps.specs.declared.task.Task.{Task}
use Rattle.part_steps.specs.FrameTopics.{words_moved}
use Rattle.part_steps.specs.PartTasks.{own_index, page_looked, part_task, word_looked}
use Rattle.part_steps.specs.PartTopics.{part_topics}
use Rattle.mmu_core.specs.declared.claim.ClaimNext.{ClaimNext}
use Rattle.mmu_core.specs.declared.claim.ClaimNext.TheVariants as claims
use Rattle.mmu_core.specs.declared.invalidate.BeginNext.{BeginNext}
use Rattle.mmu_core.specs.declared.invalidate.BeginNext.TheVariants as begins_next
use Rattle.mmu_core.specs.declared.invalidate.EndNext.{EndNext}
use Rattle.mmu_core.specs.declared.invalidate.EndNext.TheVariants as ends_next
use Rattle.mmu_core.specs.declared.outcome.Outcome.{Outcome}
use Rattle.mmu_core.specs.declared.outcome.Outcome.TheVariants.{Ends, Goes}
use Rattle.mmu_core.specs.invariant.Invariant.{Invariant}
use Rattle.mmu_core.specs.invariant.TopicsInvariant.{TopicsInvariant}
use Rattle.mmu_core.specs.forms.access.AccessSteps.{exiting}
use Rattle.mmu_core.specs.declared.claim.FreeMap.TheVariants.{Frames}
use Rattle.mmu_core.specs.orders.ClaimSteps.{claim_next}
use Rattle.mmu_core.specs.forms.host.HostKnows.{HostKnows, is_move}
use Rattle.mmu_core.specs.forms.host.HostSteps.{after_begin, after_end, after_frame_claim, after_frame_watch, entry_of, host_part, moves, word_put}
use Rattle.mmu_core.specs.orders.InvalidateSteps.{begin_next, end_next}
use Rattle.mmu_core.specs.orders.WatchSteps.{watch_next}
use Rattle.mmu_core.specs.machine.Outcomes.{answering, place_after}
use Rattle.mmu_core.specs.machine.View.{View, answer_in}
use Rattle.mmu_core.proofs.held.CopiedSteps.{CopiedAt}
use Rattle.mmu_core.proofs.orders.ClaimMade.{claim_looks, claim_made}
use Rattle.mmu_core.proofs.lines.EitherPlace.{each_watch, either_place, one_place}
use Rattle.mmu_core.proofs.forms.host.HostKept.{is_change}
use Rattle.mmu_core.proofs.orders.RunsAimed.{begin_leaves_looks, end_leaves_looks}
use Rattle.mmu_core.proofs.machine.PartStepping.{IsPart}
use Rattle.mmu_core.proofs.machine.Stepping.{IsStep}
use Rattle.mmu_laws.specs.flat.FlatInvariant.{HasNoted, HostUnder}
use Rattle.mmu_laws.proofs.forms.access.FaultNotes.{entry_noted}
use Rattle.mmu_laws.proofs.flat.FlatSteps.{GoesBy, RefinesBy, StepGoes, answers_by, leaves_by}
use Rattle.mmu_laws.proofs.forms.host.HostChangeFlat.{change_lost, change_won}
use Rattle.mmu_laws.proofs.forms.host.HostEntries.{answers_done, answers_moved, same_agree}
use Rattle.mmu_laws.proofs.forms.host.HostReady.{HasLooked, HostTask, ReadyHost, host_after, host_after_is, host_at_once, host_page_low, host_still}
use Rattle.mmu_laws.proofs.forms.host.HostReady.{host_tells_none}
use Rattle.mmu_laws.proofs.forms.host.HostReady.{looked_still, noted_still}
use Rattle.core_views.specs.Host.{is_huge}
use Rattle.mmu_core.specs.forms.host.HostSteps.{maps_large}
use Rattle.std.proofs.lemmas.Bool.Decides.{nat_tests}
use Rattle.core_views.specs.Sizes.{actors_of}
use Rattle.core_views.specs.Events.{under_after}

-- A line that moves its page, which is small, and has work, may be given up where no frame is free.
gives_up : (z : Sizes) (facts : Facts) (h : Held) (page : ℕ) (change : HostChange) (notes : Notes) (t : Topics) → is_move change ≡ true
    → HasWork z facts h.state.actor (ChangeHost page change) → HasNoted page t notes
    → MayLeave z facts h.state.actor (ChangeHost page change) notes (Refused NoFrame)
gives_up z facts h page Move notes t moves works N = (works, record { entry = N.0; looked = N.1; small = ap (nat_lt 1) N.3 })
gives_up z facts h page _ notes t moves works N = absurd (cc moves)

-- An entry that is no part of a large page is of level 1.
at_level_1 : (e : HostEntry) → is_huge e ≡ false → 1 ≤ e.level → e.level ≡ 1
at_level_1 e small least = grind (arith, nat_tests)

module _ (z : Sizes) (v : View) (a : ℕ) (line : Line) (page : ℕ) (change : HostChange) (facts : Facts) (past : Past) (u : LineUnderWay) where
  abbrev command : Command
  command = ChangeHost page change

  abbrev h : Held
  h = v.hand a

  abbrev task : HostPlace → Task
  task p = HostTask z v a line page change facts past u p

  abbrev ReadyAt : HostPlace → Type 0
  ReadyAt p = ReadyHost z v a line page change facts past u p

  abbrev after : HostPlace → Topics
  after p = host_after z v a line page change facts past u p

  abbrev Made : HostPlace → Type 0
  Made p = IsPart z v a (host_part p page change h)

  abbrev found : HostPlace → ℕ
  found p = answer_in (task p) v.words

  -- what is held after the step of a place, written out
  abbrev behind : HostPlace → Topics
  behind p = part_topics (host_part p page change h) h.topics (found p)

  own_command : (p : HostPlace) → IsStep z v a line command (place.Host p) → u.line ≡ line → u.line.command ≡ command
  own_command p S under = ap (λ (l : Line). l.command) under ∙ S.command_is

  -- ---- the look

  abbrev looked_next : Bool → Bool → Bool → Outcome
  looked_next moving own large =
      if own then (if large then Ends (Refused IsHuge) else Goes (place.Host (if moving then Claim false else Begin begins.Exclude)))
      else Ends (Refused OutOfRange)

  looks_under : (moving : Bool) (t : Topics) (w : LineUnderWay) → HasLooked page t w → HostUnder (if moving then Claim false else Begin begins.Exclude) page t w
  looks_under true t w L = L
  looks_under false t w L = L

  -- The page's entry is what the look found, where the page is its actor's own.
  entry_found : (moving : Bool) → Invariant z v → a < actors_of z → is_own h.state.sizes h.state.actor page ≡ true → ReadyAt (Look moving)
      → facts.host page ≡ entry_of (found (Look moving))
  entry_found moving I there is R =
      R.refines.host page (host_page_low z v a line page change facts past u I there is)
      ∙ ap entry_of (sym (ap (λ (b : Bool). answer_in (part_task (if b then part.Host page else part.Seq) (own_index h) h.topics 1) v.words) is))

  -- It looks at its page, or is refused: at once, or since the page is part of a large one.
  look_goes : (moving own large : Bool) → is_own h.state.sizes h.state.actor page ≡ own → maps_large (found (Look moving)) ≡ large
      → IsStep z v a line command (place.Host (Look moving)) → Invariant z v → TopicsInvariant z v → ReadyAt (Look moving)
      → RefinesBy z v (task (Look moving)) facts
      → (own ≡ true → word_looked (after (Look moving)).host ≡ v.words area.Host page)
      → GoesBy z v a line command (task (Look moving)) (place_after (looked_next moving own large))
      ((if own then LookedAtHost page ∷
      exiting (if large then Ends (Refused IsHuge) else Goes (place.Host (if moving then Claim false else Begin begins.Exclude)))
      else []) ++ answering (looked_next moving own large) line) facts past u
  look_goes moving true true is large S I P R stands looked = record {
    allowed = (
      ap may_look R.under.1,
      (leaves_by z v a line command (task (Look moving)) facts past (under_after (LookedAtHost page) facts u) stands (Refused IsHuge) R.under.0 R.under.1
          (subst (λ c. MayLeave z facts h.state.actor c (under_after (LookedAtHost page) facts u).notes (Refused IsHuge)) (sym
          (own_command (Look moving) S R.under.0)) (
            subst (HasWork z facts h.state.actor) (own_command (Look moving) S R.under.0)
                (host_at_once z v a line page change facts past u (Look moving) true S I R.under.0 is),
            record {
              entry = facts.host page;
              looked = entry_noted page (facts.host page) u.notes.host;
              huge = ap is_huge (entry_found moving I S.there is R) ∙ large;
            },
          ))).allowed,
    );
    refines = stands;
    under = refl;
  }
  look_goes moving true false is small S I P R stands looked = record {
    allowed = (ap may_look R.under.1, tt);
    refines = stands;
    under = (
      R.under.0,
      looks_under moving (after (Look moving)) _ (
        R.under.1,
        (
          facts.host page,
          entry_noted page (facts.host page) u.notes.host,
          same_agree (facts.host page) (entry_of (word_looked (after (Look moving)).host))
              (R.refines.host page (host_page_low z v a line page change facts past u I S.there is) ∙ ap entry_of (sym (looked refl))),
          at_level_1 (facts.host page) (ap is_huge (entry_found moving I S.there is R) ∙ small)
              (subst (λ (e : HostEntry). 1 ≤ e.level) (sym (R.refines.host page (host_page_low z v a line page change facts past u I S.there is)))
              (P.hosts page (host_page_low z v a line page change facts past u I S.there is)).2),
        ),
      ),
    );
  }
  look_goes moving false large is size S I P R stands looked =
      answers_by z v a line command (task (Look moving)) facts past u stands (Refused OutOfRange) R.under.0
      (subst (λ s. Tells z facts h.state.actor u.line.command s (Refused OutOfRange)) (sym R.under.1)
      (host_at_once z v a line page change facts past u (Look moving) false S I R.under.0 is))

  -- What it holds after it has looked at its page.
  looked_now : (moving : Bool) → Made (Look moving) → is_own h.state.sizes h.state.actor page ≡ true
      → word_looked (after (Look moving)).host ≡ v.words area.Host page
  looked_now moving M is =
      ap (λ (t : Topics). word_looked t.host) (host_after_is z v a line page change facts past u (Look moving) M)
      ∙ ap (λ (b : Bool). looked_by (if b then part.Host page else part.Seq)) is
    where
      looked_by : PartStep → ℕ
      looked_by s = word_looked (part_topics s h.topics (answer_in (part_task s (own_index h) h.topics 1) v.words)).host

  -- ---- the claim

  claim_goes : (begun : Bool) (next : ClaimNext) → HostKnows (Claim begun) page change h → IsStep z v a line command (place.Host (Claim begun))
      → Invariant z v → TopicsInvariant z v → Made (Claim begun) → ReadyAt (Claim begun) → HasLooked page (after (Claim begun)) u
      → GoesBy z v a line command (task (Claim begun)) (place_after (after_frame_claim next))
      (exiting (after_frame_claim next) ++ answering (after_frame_claim next) line) facts past u
  claim_goes begun claims.Goes K S I P M R L = host_tells_none z v a line page change facts past u (Claim begun) (Claim true) refl M P R (R.under.0, L)
  claim_goes begun claims.Got K S I P M R L =
      host_tells_none z v a line page change facts past u (Claim begun) (Begin begins.Exclude) refl M P R (R.under.0, L)
  claim_goes begun claims.Empty K S I P M R L =
      let own : u.line.command ≡ command = own_command (Claim begun) S R.under.0 in
      leaves_by z v a line command (task (Claim begun)) facts past u (host_still z v a line page change facts past u (Claim begun) refl M P R) (Refused NoFrame)
      R.under.0 R.under.1.0
      (subst (λ c. MayLeave z facts h.state.actor c u.notes (Refused NoFrame)) (sym own) (gives_up z facts h page change u.notes (after (Claim begun)) K.2.moves
      (subst (HasWork z facts h.state.actor) own (host_at_once z v a line page change facts past u (Claim begun) true S I R.under.0 K.1.own_)) L.1))

  -- ---- the end

  -- After its change the line is answered what its page's entry says.
  answered : (p : HostPlace) (answer : Answer) → IsStep z v a line command (place.Host p) → TopicsInvariant z v → Made p → ReadyAt p → is_change p ≡ false
      → u.stage ≡ HasChangedHost (entry_of (word_looked h.topics.host)) → host_answer command (entry_of (word_looked h.topics.host)) ≡ answer
      → GoesBy z v a line command (task p) place.Between (answering (Ends answer) line) facts past u
  answered p answer S P M R other stage is =
      answers_by z v a line command (task p) facts past u (host_still z v a line page change facts past u p other M P R) answer R.under.0
      (subst (λ s. Tells z facts h.state.actor u.line.command s answer) (sym stage)
      (sym (ap (λ (c : Command). host_answer c (entry_of (word_looked h.topics.host))) (own_command p S R.under.0) ∙ is)))

  end_goes : (p : EndPlace) (next : EndNext) → HostKnows (End p) page change h → IsStep z v a line command (place.Host (End p)) → TopicsInvariant z v
      → Made (End p) → ReadyAt (End p) → u.stage ≡ HasChangedHost (entry_of (word_looked (after (End p)).host))
      → GoesBy z v a line command (task (End p)) (place_after (after_end (moves h.topics) next)) (answering (after_end (moves h.topics) next) line) facts past u
  end_goes p (ends_next.Goes q) K S P M R stage = host_tells_none z v a line page change facts past u (End p) (End q) refl M P R (R.under.0, stage)
  end_goes p ends_next.Ended K S P M R stage =
      one_place (λ o. GoesBy z v a line command (task (End p)) (place_after o) (answering o line) facts past u) (moves h.topics) (Goes (place.Host Watch))
      (Ends Done)
      (λ e. host_tells_none z v a line page change facts past u (End p) Watch refl M P R (R.under.0, stage))
      (λ e. answered (End p) Done S P M R refl R.under.1 (answers_done change page (entry_of (word_looked h.topics.host)) (sym K.2.owns ∙ e)))

  -- ---- each place

  -- A step that looks at nothing leaves what the line has noted, and what its change has told.
  noted : (p : HostPlace) → Made p → (behind p).host ≡ h.topics.host → HasLooked page h.topics u → HasLooked page (after p) u
  noted p M same L =
      noted_still z v a line page change facts past u p (looked_still z v a line page change facts past u p M same) L

  changed : (p : HostPlace) → Made p → (behind p).host ≡ h.topics.host → u.stage ≡ HasChangedHost (entry_of (word_looked h.topics.host))
      → u.stage ≡ HasChangedHost (entry_of (word_looked (after p).host))
  changed p M same stage =
      stage ∙ ap (λ (w : ℕ). HasChangedHost (entry_of w)) (sym (looked_still z v a line page change facts past u p M same))

  begun_under : (moving : Bool) (next : BeginNext) (t : Topics) → HasLooked page t u → HostUnder (after_begin moving next) page t u
  begun_under moving (begins_next.Goes q) t L = L
  begun_under true begins_next.Begun t L = L
  begun_under false begins_next.Begun t L = L

  pub host_goes_on : (p : HostPlace) → HostKnows p page change h → IsStep z v a line command (place.Host p) → Invariant z v → TopicsInvariant z v
      → CopiedAt z v → Made p → ReadyAt p → StepGoes z v a line command (place.Host p) facts past u
  host_goes_on (Look moving) K S I P C M R =
      look_goes moving (is_own h.state.sizes h.state.actor page) (maps_large (found (Look moving))) refl refl S I P R
      (host_still z v a line page change facts past u (Look moving) refl M P R)
      (looked_now moving M)
  host_goes_on (Claim begun) K S I P C M R =
      let x : ℕ = found (Claim begun) in
      claim_goes begun (claim_next Frames begun h.state.sizes h.topics.frames.claim x) K S I P M R
      (noted (Claim begun) M (claim_looks h.state.sizes Frames begun h.topics x _ _ _ (claim_made h.state.sizes Frames begun h.topics x)).host R.under.1)
  host_goes_on (Begin p) K S I P C M R =
      let next : BeginNext = begin_next p h.state.sizes (aim.Page page) h.topics (found (Begin p)) in
      host_tells_none z v a line page change facts past u (Begin p) (after_begin (moves h.topics) next) refl M P R (
        R.under.0,
        begun_under (moves h.topics) next (after (Begin p))
            (noted (Begin p) M (begin_leaves_looks p (aim.Page page) h.topics (found (Begin p))).host R.under.1),
      )
  host_goes_on Copy K S I P C M R =
      host_tells_none z v a line page change facts past u Copy Store refl M P R (R.under.0, noted Copy M refl R.under.1)
  host_goes_on Store K S I P C M R =
      let more : Bool = nat_lt (words_moved h.topics.frames.owned + 1) h.state.sizes.words in
      let L = noted Store M refl R.under.1 in
      host_tells_none z v a line page change facts past u Store (if more then Copy else Change) refl M P R
      (R.under.0, either_place (λ q. HostUnder q page (after Store) u) more Copy Change L L)
  host_goes_on Change K S I P C M R = by (v.words area.Host at_page == looked) refl
    where
      looked : ℕ
      looked = word_looked h.topics.host

      at_page : ℕ
      at_page = page_looked h.topics.host

      by : (won : Bool) → (v.words area.Host at_page == looked) ≡ won
          → GoesBy z v a line command (task Change) (place.Host (if won then End ends.Exclude else Change))
          ((if won then HostChanged page (entry_of (word_put change h.topics)) ∷ [] else []) ++ []) facts past u
      by true won = change_won z v a line page change facts past u K S I P C M won (eqb-true (v.words area.Host at_page) looked won) R
      by false lost = change_lost z v a line page change facts past u K P C M lost R
  host_goes_on (End p) K S I P C M R =
      end_goes p (end_next p (found (End p))) K S P M R (changed (End p) M (end_leaves_looks p h.topics (found (End p)) K.1).host R.under.1)
  host_goes_on Watch K S I P C M R =
      let stage = changed Watch M refl R.under.1 in
      host_tells_none z v a line page change facts past u Watch (after_frame_watch (watch_next h (found Watch))) refl M P R
      (R.under.0, each_watch (λ q. HostUnder q page (after Watch) u) (watch_next h (found Watch)) Watch Free stage stage)
  host_goes_on Free K S I P C M R =
      answered Free (Moved (host_frame (word_looked h.topics.host))) S P M R refl R.under.1
      (answers_moved change page (entry_of (word_looked h.topics.host)) K.2.moves)
