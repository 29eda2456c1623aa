-- Each step of a part keeps what is said of the leaves that walks have loaded: their frames are pages', or kept by owners that haven't watched the walks'
-- actors.
use Rattle.std.proofs.Common.{◌≡◌, ◌≢◌, ◌⊎◌, inl, inr, ◌<◌, ◌≤◌, ℕ, refl, sym, subst, ap, ◌∙◌, arith}
use Rattle.std.specs.Prelude.{Bool, true, false, ◌==◌, ◌&&◌, not, if◌then◌else◌, Option, Some, None, is_some}
use Rattle.std.proofs.lemmas.Bool.{and_parts, eqb-true, ne_eqb}
use Rattle.core_views.specs.declared.place.HostPlace.TheVariants as host
use Rattle.core_views.specs.declared.place.Place.{Place}
use Rattle.core_views.specs.declared.place.Place.TheVariants as place
use Rattle.core_views.specs.declared.sizes.Sizes.{Sizes}
use Rattle.core_views.specs.declared.topics.OwnedFrame.{OwnedFrame}
use Rattle.core_views.specs.declared.topics.Stay.TheVariants.{Outside}
use Rattle.core_views.specs.declared.topics.Topics.{Topics}
use Rattle.core_views.specs.declared.trace.Command.{Command}
use Rattle.core_views.specs.declared.trace.Command.TheVariants.{ChangeHost}
use Rattle.core_views.specs.Held.{Held}
use Rattle.core_views.specs.Sizes.{actors_of}
use Rattle.spte_words.specs.declared.area.Area.TheVariants as area
use Rattle.spte_words.specs.HostWords.{host_frame, with_presence}
use Rattle.part_steps.specs.declared.part_step.PartStep.{PartStep}
use Rattle.part_steps.specs.declared.part_step.PartStep.TheVariants as part
use Rattle.part_steps.specs.FrameHoldings.{revises}
use Rattle.part_steps.specs.FrameTopics.{is_uncopied}
use Rattle.part_steps.specs.PageRuns.{word_given}
use Rattle.part_steps.specs.PartTasks.{page_looked, word_looked}
use Rattle.part_steps.specs.StayTopics.{is_outside}
use Rattle.mmu_core.specs.invariant.FramesPart.{IsNamed, number_owned}
use Rattle.mmu_core.specs.invariant.Invariant.{Invariant, KnowsPart}
use Rattle.mmu_core.specs.invariant.TopicsInvariant.{TopicsInvariant}
use Rattle.mmu_core.specs.machine.View.{View, part_stepped, upd}
use Rattle.mmu_core.proofs.held.InSection.{all_passed, watch_passes_nobody}
use Rattle.mmu_core.proofs.held.LookedFrames.{Turns, changed_turns, copied_number, stored_number}
use Rattle.mmu_core.proofs.held.LooksKept.{page_there}
use Rattle.mmu_core.proofs.held.NextPages.{next_page, next_words_behind}
use Rattle.mmu_core.proofs.words.HostStays.{given_frame}
use Rattle.mmu_core.proofs.forms.host.MovingPlaces.{CopiesAt, copies_at, is_moving}
use Rattle.mmu_core.proofs.machine.Columns.{at_upd, same_or, upd_other, upd_same}
use Rattle.mmu_core.proofs.machine.ColumnsTell.{tells}
use Rattle.mmu_core.proofs.machine.PartStepping.{IsPart}
use Rattle.mmu_core.proofs.pages.FramesKept.{brought_frame, is_as_looked, same_word}
use Rattle.mmu_core.proofs.words.PartTopics.{behind_step, part_behind, stepped_hand}
use Rattle.mmu_laws.specs.leaves.LoadedLeaves.{HasLeafTo, IsKeptFor}
use Rattle.mmu_laws.proofs.leaves.OwnLeaves.{StandsThere, never, own_leaf}

-- The frame to which a leaf leads that an actor has loaded, in the section or stay that it is in, is a page's, or kept for the actor.
abbrev pub InsidePart : Sizes → (ℕ → ℕ) → (ℕ → Topics) → Type 0
InsidePart z host topics =
    (i frame : ℕ) → i < actors_of z → is_outside (topics i).stay ≡ false → HasLeafTo frame (topics i).walk
    → IsNamed z.pages host frame ⊎ IsKeptFor (actors_of z) topics i frame

-- ---- who moves a page is outside

moving_outside : (p : Place) (command : Command) (h : Held) → KnowsPart p command h → is_moving p ≡ true → h.topics.stay ≡ Outside
moving_outside (place.Host host.Copy) (ChangeHost page change) h K moving = K.1.opened.rests.outside
moving_outside (place.Host host.Store) (ChangeHost page change) h K moving = K.1.opened.rests.outside
moving_outside (place.Host host.Change) (ChangeHost page change) h K moving = K.1.opened.rests.outside
moving_outside (place.Host host.Copy) _ h K moving = absurd K
moving_outside (place.Host host.Store) _ h K moving = absurd K
moving_outside (place.Host host.Change) _ h K moving = absurd K
moving_outside _ command h K moving = absurd (cc moving)

-- Who has copied something of a page, with its invalidation open, is outside.
mover_outside : (z : Sizes) (v : View) (a : ℕ) → Invariant z v → a < actors_of z → (v.hand a).topics.invalidations.opened ≡ true
    → is_uncopied (v.hand a).topics.frames.owned ≡ false → (v.hand a).topics.stay ≡ Outside
mover_outside z v a I there opened copied =
    by (copies_at (v.hand a).state.place (v.hand a).state.line.command (v.hand a) (I.knows a there) (I.leaves a there) opened)
  where
    by : CopiesAt (v.hand a).state.place (v.hand a) → (v.hand a).topics.stay ≡ Outside
    by (inl none) = absurd (cc (none, copied))
    by (inr M) = moving_outside (v.hand a).state.place (v.hand a).state.line.command (v.hand a) (I.knows a there) M.0

-- A page is moved into a frame only once all of its words are copied.
copied_all : (words : ℕ) (owned : Option OwnedFrame) (word new_ k : ℕ) → 1 ≤ words → revises words owned word new_ ≡ true → number_owned owned ≡ Some k
    → is_uncopied owned ≡ false
copied_all words None word new_ k some is had = absurd (cc had)
copied_all words (Some o) word new_ k some is had =
    let all : o.filled ≡ words = eqb-true o.filled words (and_parts (o.filled == words) _ is).0 in
    ap (λ (b : Bool). b && not (is_some o.copied)) (ne_eqb o.filled 0 (λ none. omega (arith, all, none, some)))

-- ---- what one step does to the frames

module _ (z : Sizes) (v : View) (a note : ℕ) where
  abbrev t : Topics
  t = (v.hand a).topics

  abbrev now : PartStep → Topics
  now step = (stepped_hand a step note v).topics

  abbrev host_now : PartStep → ℕ → ℕ
  host_now step = (part_behind a step note v).words area.Host

  -- The actor has moved a page out of this frame, which it owns then, from outside of every section and of the guest.
  record MovesOut (step : PartStep) (frame : ℕ) : Type 0 where
    pub owns : number_owned (now step).frames.owned ≡ Some frame
    pub unwatched : (now step).watched ≡ 0
    pub outside : t.stay ≡ Outside

  abbrev Now : PartStep → ℕ → Type 0
  Now step frame = IsNamed z.pages (host_now step) frame

  -- A frame that a page names is a page's after the step, or its page was moved out of it.
  turned : (new_ frame : ℕ) → IsPart z v a (part.Change new_) → Invariant z v → (N : IsNamed z.pages (v.words area.Host) frame)
      → Turns (host_frame (v.words area.Host (page_looked t.host))) (host_frame (host_now (part.Change new_) (page_looked t.host)))
      (number_owned t.frames.owned) (number_owned (now (part.Change new_)).frames.owned) 0
      → (N.0 ≡ page_looked t.host) ⊎ (N.0 ≢ page_looked t.host) → Now (part.Change new_) frame ⊎ MovesOut (part.Change new_) frame
  turned new_ frame S I N T (inr ne) =
      inl (N.0, N.1, ap host_frame (upd_other (v.words area.Host) (page_looked t.host) N.0 _ ne) ∙ N.2)
  turned new_ frame S I N (inl stays) (inl e) =
      inl (
        page_looked t.host,
        subst (λ p. p < z.pages) e N.1,
        stays.0 ∙ ap (λ p. host_frame (v.words area.Host p)) (sym e) ∙ N.2,
      )
  turned new_ frame S I N (inr turns) (inl e) =
      inr (record {
        owns = turns.0 ∙ ap Some (ap (λ p. host_frame (v.words area.Host p)) (sym e) ∙ N.2);
        unwatched = refl;
        outside = mover_outside z v a I S.there S.needs.0.opened
            (copied_all (v.hand a).state.sizes.words t.frames.owned (word_looked t.host) new_ _
            (subst (λ (y : Sizes). 1 ≤ y.words) (sym S.sizes) S.is_sizes.words.0) S.needs.1 turns.1);
      })

  change_turns : (new_ : ℕ) → IsPart z v a (part.Change new_)
      → Turns (host_frame (v.words area.Host (page_looked t.host))) (host_frame (host_now (part.Change new_) (page_looked t.host)))
      (number_owned t.frames.owned) (number_owned (now (part.Change new_)).frames.owned) 0
  change_turns new_ S =
      subst (λ w. Turns (host_frame (v.words area.Host (page_looked t.host))) (host_frame w) (number_owned t.frames.owned)
      (number_owned (now (part.Change new_)).frames.owned) 0) (sym (upd_same (v.words area.Host) (page_looked t.host) _))
      (changed_turns z v a new_ S t.frames.owned (is_as_looked t v) refl
      (λ e. tells (v.words area.Host (page_looked t.host)) (word_looked t.host) e))

  named_goes : (step : PartStep) (frame : ℕ) → IsPart z v a step → Invariant z v → TopicsInvariant z v → IsNamed z.pages (v.words area.Host) frame
      → Now step frame ⊎ MovesOut step frame
  named_goes part.Bring frame S I P N = inl (N.0, N.1, by (same_or N.0 (page_looked t.host)) ∙ N.2)
    where
      put : ℕ
      put = if v.words area.Host (page_looked t.host) == word_looked t.host then with_presence true (word_looked t.host)
          else v.words area.Host (page_looked t.host)

      same : host_frame put ≡ host_frame (v.words area.Host (page_looked t.host))
      same = same_word (v.words area.Host (page_looked t.host)) (word_looked t.host) (with_presence true (word_looked t.host))
          (brought_frame (word_looked t.host) true)

      by : (N.0 ≡ page_looked t.host) ⊎ (N.0 ≢ page_looked t.host) → host_frame (host_now part.Bring N.0) ≡ host_frame (v.words area.Host N.0)
      by (inl e) =
          ap (λ p. host_frame (host_now part.Bring p)) e ∙ ap host_frame (upd_same (v.words area.Host) (page_looked t.host) put) ∙ same
          ∙ ap (λ p. host_frame (v.words area.Host p)) (sym e)
      by (inr ne) = ap host_frame (upd_other (v.words area.Host) (page_looked t.host) N.0 put ne)
  named_goes (part.Change new_) frame S I P N = turned new_ frame S I N (change_turns new_ S) (same_or N.0 (page_looked t.host))
  named_goes part.ChangeNext frame S I P N =
      inl (N.0, N.1, ap (λ (host : ℕ → ℕ). host_frame (host N.0)) (next_words_behind z v a S P note) ∙ same N.0 ∙ N.2)
    where
      same : (q : ℕ) → host_frame (upd (v.words area.Host) (next_page z v a S P) (word_given S.needs.run (next_page z v a S P)) q)
          ≡ host_frame (v.words area.Host q)
      same =
          at_upd (λ (q w : ℕ). host_frame w ≡ host_frame (v.words area.Host q)) (v.words area.Host) (next_page z v a S P) _ (given_frame z v a S P)
          (λ q ne. refl)
  named_goes _ frame S I P N = inl N

  -- A frame that the actor keeps for actor i is a page's after the step, or kept for it.
  keeps : (step : PartStep) (i frame : ℕ) → IsPart z v a step → TopicsInvariant z v → i ≢ a → i < actors_of z → is_outside (v.hand i).topics.stay ≡ false
      → number_owned t.frames.owned ≡ Some frame → t.watched ≤ i
      → Now step frame ⊎ (number_owned (now step).frames.owned ≡ Some frame) × ((now step).watched ≤ i)
  keeps (part.Watch index) i frame S I ne lt inside owns unwatched = inr (owns, watch_passes_nobody z v a index S I i ne lt inside unwatched)
  keeps part.Publish i frame S I ne lt inside owns unwatched = inr (owns, omega arith)
  keeps part.Frame i frame S I ne lt inside owns unwatched = absurd (let none = ap number_owned S.needs.0 in cc (none, owns))
  keeps (part.Copy index) i frame S I ne lt inside owns unwatched = inr (copied_number t.frames.owned _ ∙ owns, unwatched)
  keeps (part.Store index) i frame S I ne lt inside owns unwatched = inr (stored_number t.frames.owned ∙ owns, unwatched)
  keeps part.GiveFrame i frame S I ne lt inside owns unwatched =
      absurd (all_passed z (v.hand a) a i S.sizes S.own_place S.needs.watched lt ne unwatched)
  keeps (part.Change new_) i frame S I ne lt inside owns unwatched = by (change_turns new_ S)
    where
      by : Turns (host_frame (v.words area.Host (page_looked t.host))) (host_frame (host_now (part.Change new_) (page_looked t.host)))
          (number_owned t.frames.owned) (number_owned (now (part.Change new_)).frames.owned) 0
          → Now (part.Change new_) frame ⊎ (number_owned (now (part.Change new_)).frames.owned ≡ Some frame) × (0 ≤ i)
      by (inl stays) = inr (stays.1 ∙ owns, omega arith)
      by (inr turns) = inl (page_looked t.host, page_there z v a I S.there S.needs.0.looked, cc (turns.1, owns))
  keeps _ i frame S I ne lt inside owns unwatched = inr (owns, unwatched)

-- ---- each step of a part

-- A leaf that the actor's walk has loaded, and that stands in its table, is of a page's frame.
abbrev pub OwnNamed : Sizes → (ℕ → ℕ) → (ℕ → ℕ) → Topics → Type 0
OwnNamed z pool host t = (frame : ℕ) → HasLeafTo frame t.walk → StandsThere pool t.walk → IsNamed z.pages host frame

module _ (z : Sizes) (v : View) (a note : ℕ) (step : PartStep) (S : IsPart z v a step) (I : Invariant z v) (P : TopicsInvariant z v)
    (L : InsidePart z (v.words area.Host) (λ i. (v.hand i).topics)) where
  abbrev after : ℕ → Topics
  after i = (upd v.hand a (stepped_hand a step note v) i).topics

  abbrev Kept : ℕ → ℕ → Type 0
  Kept i frame = IsNamed z.pages (host_now z v a note step) frame ⊎ IsKeptFor (actors_of z) after i frame

  -- What another actor keeps it keeps.
  others_keep : (i frame : ℕ) → (K : IsKeptFor (actors_of z) (λ j. (v.hand j).topics) i frame) → K.by ≢ a → Kept i frame
  others_keep i frame K ne =
      let same = upd_other v.hand a K.by (stepped_hand a step note v) ne in
      inr (record {
        by = K.by;
        there = K.there;
        other = K.other;
        owns = ap (λ (h : Held). number_owned h.topics.frames.owned) same ∙ K.owns;
        unwatched = subst (λ (h : Held). h.topics.watched ≤ i) (sym same) K.unwatched;
      })

  own_keeps : (i frame : ℕ) → a ≢ i → number_owned (now z v a note step).frames.owned ≡ Some frame → (now z v a note step).watched ≤ i → Kept i frame
  own_keeps i frame ne owns unwatched =
      let same = upd_same v.hand a (stepped_hand a step note v) in
      inr (record {
        by = a;
        there = S.there;
        other = ne;
        owns = ap (λ (h : Held). number_owned h.topics.frames.owned) same ∙ owns;
        unwatched = subst (λ (h : Held). h.topics.watched ≤ i) (sym same) unwatched;
      })

  mine : OwnNamed z ((part_behind a step note v).words area.Pool) (host_now z v a note step) (now z v a note step) → (frame : ℕ)
      → is_outside (now z v a note step).stay ≡ false → HasLeafTo frame (now z v a note step).walk → Kept a frame
  mine named frame inside H = by (own_leaf z v a note step S frame inside H)
    where
      held : is_outside (v.hand a).topics.stay ≡ false
          → IsNamed z.pages (v.words area.Host) frame ⊎ IsKeptFor (actors_of z) (λ j. (v.hand j).topics) a frame → Kept a frame
      held within (inl N) = goes (named_goes z v a note step frame S I P N)
        where
          goes : IsNamed z.pages (host_now z v a note step) frame ⊎ MovesOut z v a note step frame → Kept a frame
          goes (inl is) = inl is
          goes (inr M) = never (v.hand a).topics M.outside within
      held within (inr K) = others_keep a frame K K.other

      by : (HasLeafTo frame (v.hand a).topics.walk × (is_outside (v.hand a).topics.stay ≡ false))
          ⊎ StandsThere ((part_behind a step note v).words area.Pool) (now z v a note step).walk → Kept a frame
      by (inl was) = held was.1 (L a frame S.there was.1 was.0)
      by (inr found) = inl (named frame H found)

  theirs : (i frame : ℕ) → i ≢ a → i < actors_of z → is_outside (v.hand i).topics.stay ≡ false → HasLeafTo frame (v.hand i).topics.walk → Kept i frame
  theirs i frame ne lt inside H = by (L i frame lt inside H)
    where
      by : IsNamed z.pages (v.words area.Host) frame ⊎ IsKeptFor (actors_of z) (λ j. (v.hand j).topics) i frame → Kept i frame
      by (inl N) = goes (named_goes z v a note step frame S I P N)
        where
          goes : IsNamed z.pages (host_now z v a note step) frame ⊎ MovesOut z v a note step frame → Kept i frame
          goes (inl is) = inl is
          goes (inr M) = own_keeps i frame (λ e. ne (sym e)) M.owns (let none = M.unwatched in omega (arith, none))
      by (inr K) = keeper (same_or K.by a)
        where
          keeper : (K.by ≡ a) ⊎ (K.by ≢ a) → Kept i frame
          keeper (inr other) = others_keep i frame K other
          keeper (inl e) =
              goes (keeps z v a note step i frame S P ne lt inside (ap (λ j. number_owned (v.hand j).topics.frames.owned) (sym e) ∙ K.owns)
              (subst (λ j. (v.hand j).topics.watched ≤ i) e K.unwatched))
            where
              goes : IsNamed z.pages (host_now z v a note step) frame
                  ⊎ (number_owned (now z v a note step).frames.owned ≡ Some frame) × ((now z v a note step).watched ≤ i) → Kept i frame
              goes (inl is) = inl is
              goes (inr K) = own_keeps i frame (λ same. ne (sym same)) K.0 K.1

  loaded_behind : OwnNamed z ((part_behind a step note v).words area.Pool) (host_now z v a note step) (now z v a note step)
      → InsidePart z (host_now z v a note step) after
  loaded_behind named i frame =
      at_upd (λ j (h : Held). j < actors_of z → is_outside h.topics.stay ≡ false → HasLeafTo frame h.topics.walk → Kept j frame) v.hand a
      (stepped_hand a step note v) (λ lt. mine named frame) (λ j ne lt. theirs j frame ne lt) i

-- where what the actor loads is named after it
pub loaded_part : (z : Sizes) (v : View) (a note : ℕ) (step : PartStep) → IsPart z v a step → Invariant z v → TopicsInvariant z v
    → OwnNamed z ((part_stepped a step note v).words area.Pool) ((part_stepped a step note v).words area.Host) ((part_stepped a step note v).hand a).topics
    → InsidePart z (v.words area.Host) (λ i. (v.hand i).topics)
    → InsidePart z ((part_stepped a step note v).words area.Host) (λ i. ((part_stepped a step note v).hand i).topics)
loaded_part z v a note step S I P named L =
    behind_step (λ w. OwnNamed z (w.words area.Pool) (w.words area.Host) (w.hand a).topics
    → InsidePart z (w.words area.Host) (λ i. (w.hand i).topics)) z v a step note S
    (λ own. loaded_behind z v a note step S I P L
    (subst (λ (h : Held). OwnNamed z ((part_behind a step note v).words area.Pool) ((part_behind a step note v).words area.Host) h.topics)
    (upd_same v.hand a (stepped_hand a step note v)) own)) named
