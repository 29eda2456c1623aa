-- What a line knows that maps a run of host pages as one, or its pages by themselves, after each of its steps.
use Rattle.std.proofs.lemmas.Bool.Decides.{nat_tests}
use Rattle.std.proofs.Common.{◌≡◌, ◌+◌, ◌<◌, ◌≤◌, ℕ, Bool, true, false, refl, sym, subst, ap, ◌∙◌, arith}
use Rattle.std.specs.Option.{IfSome}
use Rattle.std.specs.Prelude.{◌==◌, if◌then◌else◌, nat_lt, Option, Some, None, is_some}
use Rattle.circular_buffer.specs.Buffer.{Buffer}
use Rattle.core_views.specs.declared.cache.Translation.{Translation}
use Rattle.core_views.specs.declared.place.BeginPlace.{BeginPlace}
use Rattle.core_views.specs.declared.place.EndPlace.{EndPlace}
use Rattle.core_views.specs.declared.place.EndPlace.TheVariants as ends
use Rattle.core_views.specs.declared.place.HostRunPlace.{HostRunPlace}
use Rattle.core_views.specs.declared.place.HostRunPlace.TheVariants.{Look, LookOn, Begin, Change, End}
use Rattle.core_views.specs.declared.place.Place.TheVariants as place
use Rattle.core_views.specs.declared.topics.Frames.{Frames as HeldFrames}
use Rattle.core_views.specs.declared.topics.HostLook.{HostLook}
use Rattle.core_views.specs.declared.topics.OwnedFrame.{OwnedFrame}
use Rattle.core_views.specs.declared.topics.PageRun.{PageRun}
use Rattle.core_views.specs.declared.topics.Topics.{Topics}
use Rattle.core_views.specs.declared.trace.Command.TheVariants.{ChangeRun}
use Rattle.core_views.specs.declared.trace.Line.{Line}
use Rattle.core_views.specs.declared.trace.RunChange.{RunChange}
use Rattle.core_views.specs.declared.trace.RunChange.TheVariants.{Huge, Small}
use Rattle.core_views.specs.Held.{Held}
use Rattle.core_views.specs.HostRuns.{owns_run, run_count}
use Rattle.spte_words.specs.Entries.{level_span}
use Rattle.spte_words.specs.HostWords.{host_frame}
use Rattle.part_steps.specs.declared.invalidations.Target.{Target}
use Rattle.part_steps.specs.declared.part_step.PartStep.TheVariants as part
use Rattle.part_steps.specs.FrameTopics.{frame_after}
use Rattle.part_steps.specs.InvalidationRange.{run_of_target}
use Rattle.part_steps.specs.PageRuns.{changed_more, is_several, one_look}
use Rattle.part_steps.specs.PartBounds.{PartRests}
use Rattle.part_steps.specs.PartTasks.{page_looked, word_looked, word_next}
use Rattle.part_steps.specs.PartTopics.{part_topics}
use Rattle.part_steps.specs.StayTopics.{is_section}
use Rattle.mmu_core.specs.declared.invalidate.BeginNext.{BeginNext}
use Rattle.mmu_core.specs.declared.invalidate.BeginNext.TheVariants as begins_next
use Rattle.mmu_core.specs.declared.invalidate.EndNext.{EndNext}
use Rattle.mmu_core.specs.declared.invalidate.EndNext.TheVariants as ends_next
use Rattle.mmu_core.specs.forms.access.FaultLaws.{CanAnswer}
use Rattle.mmu_core.specs.forms.host.HostSteps.{entry_of, maps_large}
use Rattle.mmu_core.specs.forms.host_run.HostRunKnows.{ChangesPages, ChangesRun, HasFlushedRun, HasLookedAtAll, HostRunKnows, fits_looked, looks_wanted}
use Rattle.mmu_core.specs.forms.host_run.HostRunSteps.{after_page, after_run_begin, after_run_end, as_it_is, fits, host_run_outcome, host_run_part, run_target}
use Rattle.mmu_core.specs.lines.Forms.{KnowsPart, may_open}
use Rattle.mmu_core.specs.orders.InvalidateKnows.{BeginKnows, HasChangedAll, IsOpen}
use Rattle.mmu_core.specs.orders.InvalidateSteps.{begin_next, begin_part, end_next, end_part}
use Rattle.mmu_core.proofs.forms.host.HostMoves.{free_rests, open_still}
use Rattle.mmu_core.proofs.forms.host_run.HostRunLooks.{look_known, look_on_known}
use Rattle.mmu_core.proofs.forms.host_run.RunChanges.{pages_to_change}
use Rattle.mmu_core.proofs.forms.host_run.RunTargets.{run_is_aimed, same_target, target_is_small}
use Rattle.mmu_core.proofs.lines.EitherPlace.{one_place}
use Rattle.mmu_core.proofs.lines.KnowsKept.{KnowsBehind}
use Rattle.mmu_core.proofs.machine.HandWith.{hand_with}
use Rattle.mmu_core.proofs.orders.InvalidateKnown.{BeginComes, EndComes, begin_known, ending_known}
use Rattle.mmu_core.proofs.orders.InvalidatePlaces.{LeavesPages, begin_leaves_pages, end_leaves_pages}
use Rattle.mmu_core.proofs.orders.RunsAimed.{LeavesLooks, begin_leaves_looks, one_changed}

-- No frame is owned after an exchange of a page that isn't moved.
pub none_after : (won : Bool) (frame : ℕ) (owned : Option OwnedFrame) → owned ≡ None → frame_after won frame owned ≡ None
none_after true frame None none = refl
none_after false frame None none = refl
none_after won frame (Some o) none = absurd (cc none)

module _ (line : Line) (h : Held) (page : ℕ) (change : RunChange) (cached : Buffer Translation) (v : ℕ) where
  -- the hand after the step of a place, with these topics
  abbrev behind : HostRunPlace → Topics → Held
  behind p t = hand_with line (ChangeRun page change) (place.HostRun p) h t cached v

  abbrev Knows : HostRunPlace → Held → Type 0
  Knows p g = KnowsPart (place.HostRun p) (ChangeRun page change) g

  -- What it has looked up stays.
  looks_still : (p : HostRunPlace) (u : Topics) → LeavesLooks h.topics u → HasLookedAtAll page change h → HasLookedAtAll page change (behind p u)
  looks_still p u same L = record {
    looks = record {
      in_range = L.looks.in_range;
      own_ = L.looks.own_;
      looked = ap is_some same.host ∙ L.looks.looked;
      at = ap page_looked same.host ∙ L.looks.at;
      some = subst (λ n. 1 ≤ n) (sym same.looked) L.looks.some;
      most = subst (λ n. n ≤ looks_wanted change u) (sym all) le_itself;
      small = λ wants. ap (λ (o : Option HostLook). maps_large (word_looked o)) same.host ∙ L.looks.small wants;
    };
    all = all;
    fit = same_fit h.topics.host refl ∙ L.fit;
  }
    where
      all : u.row.looked ≡ looks_wanted change u
      all = same.looked ∙ (L.all ∙ ap (λ (o : Option HostLook). run_count change (entry_of (word_looked o))) (sym same.host))

      le_itself : looks_wanted change u ≤ looks_wanted change u
      le_itself = omega arith

      same_row : (c : RunChange) (o : Option HostLook) → fits_looked c o u.row ≡ fits_looked c o h.topics.row
      same_row c None = refl
      same_row Small (Some look) = refl
      same_row (Huge level) (Some look) = λ i. row_by (same.looked i) (same.alike i)
        where
          row_by : ℕ → Bool → Bool
          row_by looked alike = fits (Huge level) look (record { looked = looked; alike = alike; start = 0; end = 0 })

      same_fit : (o : Option HostLook) → h.topics.host ≡ o → fits_looked change u.host u.row ≡ fits_looked change h.topics.host h.topics.row
      same_fit o is = ap (λ (x : Option HostLook). fits_looked change x u.row) same.host ∙ same_row change h.topics.host

  -- ---- the invalidation

  begin_comes : (p : BeginPlace) (next : BeginNext) (u : Topics) → LeavesLooks h.topics u → LeavesPages h.topics u → HasLookedAtAll page change h
      → h.topics.owned ≡ None → h.topics.frames.owned ≡ None → BeginComes next h.state.sizes (run_target page h.topics) u
      → Knows (after_run_begin next) (behind (Begin p) u)
  begin_comes p (begins_next.Goes q) u same leaves L none no_frame C = (
    looks_still (Begin p) u same L,
    subst (λ (target : Target). BeginKnows q h.state.sizes target u) (same_target page h.topics u same) C,
    leaves.owned ∙ none,
    ap (λ (f : HeldFrames). f.owned) leaves.frames ∙ no_frame,
  )
  begin_comes p begins_next.Begun u same leaves L none no_frame C =
      let owns_none = leaves.owned ∙ none in (
        record { owns_none = owns_none; opened = C.0; asked = C.2; awaited = C.3 },
        ap (λ (f : HeldFrames). f.owned) leaves.frames ∙ no_frame,
        pages_to_change page (behind (Begin p) u) change (looks_still (Begin p) u same L) owns_none
            (C.1 ∙ ap run_of_target (same_target page h.topics u same)),
        L.looks.own_,
      )

  end_comes : (p : EndPlace) (next : EndNext) (u : Topics) → PartRests h → LeavesPages h.topics u → HostRunKnows (End p) page change h → EndComes next u
      → KnowsBehind (after_run_end next) (ChangeRun page change) (behind (End p) u)
  end_comes p (ends_next.Goes q) u R leaves K C = (C, leaves.owned ∙ K.1, ap (λ (f : HeldFrames). f.owned) leaves.frames ∙ K.2)
  end_comes p ends_next.Ended u R leaves K C =
      free_rests u (leaves.owned ∙ K.1) (leaves.owed ∙ R.owes (ap is_section (sym leaves.stay ∙ C.0.outside))) C.0

  -- ---- the changes

  -- the topics after an exchange of the next page of a run
  abbrev run_behind : Option PageRun → Bool → Topics
  run_behind o won = record h.topics {
    host = None;
    invalidations = record h.topics.invalidations { own = record h.topics.invalidations.own { pages = changed_more won o } };
  }

  still_open : (o : Option PageRun) (won : Bool) → IsOpen h.topics → IsOpen (run_behind o won)
  still_open o won O = record {
    rests = record { outside = O.rests.outside; loose = O.rests.loose; no_table = O.rests.no_table; no_set = O.rests.no_set };
    opened = O.opened;
    unraised = O.unraised;
  }

  -- One more page of the run is changed, or none: then all are, or it goes on.
  next_changed : (o : Option PageRun) → is_several o ≡ true → IfSome o (ChangesRun page change) → HasFlushedRun h → h.topics.frames.owned ≡ None
      → owns_run h.state.sizes h.state.actor page change ≡ true → (won : Bool) → Knows (if won then after_page o else Change) (behind Change (run_behind o won))
  next_changed None several C F none own_ won = absurd (cc several)
  next_changed (Some run) several C F none own_ false = (
    record { owns_none = F.owns_none; opened = still_open (Some run) false F.opened; asked = F.asked; awaited = F.awaited },
    none,
    subst (λ b. ChangesPages b page change (behind Change (run_behind (Some run) false))) (sym several)
        (record { level = C.level; first = C.first; left = C.left; huge = C.huge; small = C.small }),
    own_,
  )
  next_changed (Some run) several C F none own_ true =
      let u : Topics = run_behind (Some run) true in
      one_place (λ q. Knows q (behind Change u)) (nat_lt (run.changed + 1) (level_span run.level)) Change (End ends.Exclude)
      (λ more. (
        record { owns_none = F.owns_none; opened = still_open (Some run) true F.opened; asked = F.asked; awaited = F.awaited },
        none,
        subst (λ b. ChangesPages b page change (behind Change u)) (sym several)
            (record { level = C.level; first = C.first; left = grind (arith, nat_tests); huge = C.huge; small = C.small }),
        own_,
      ))
      (λ last. ((still_open (Some run) true F.opened, all_changed last C.left), F.owns_none, none))
    where
      all_changed : nat_lt (run.changed + 1) (level_span run.level) ≡ false → run.changed < level_span run.level
          → HasChangedAll (run_behind (Some run) true)
      all_changed last left other is more =
          let all : run.changed + 1 ≡ level_span run.level = grind (arith, nat_tests) in
          subst (λ (r : PageRun). r.changed ≡ level_span r.level) (same_run is) all
        where
          same_run : Some (record run { changed = run.changed + 1 }) ≡ Some other → record run { changed = run.changed + 1 } ≡ other
          same_run e = cc e

  -- The one page is changed, or, where an access has brought it in, not yet.
  page_changed : is_several h.topics.invalidations.own.pages ≡ false → ChangesPages false page change h → HasFlushedRun h → h.topics.frames.owned ≡ None
      → owns_run h.state.sizes h.state.actor page change ≡ true → (won : Bool)
      → Knows (if won then End ends.Exclude else Change) (behind Change (record h.topics {
        host = Some (record { page = page_looked h.topics.host; word = if won then as_it_is (word_looked h.topics.host) else v });
        row = one_look;
        watched = 0;
        frames = record h.topics.frames { owned = frame_after won (host_frame (word_looked h.topics.host)) h.topics.frames.owned };
      }))
  page_changed one C F none own_ true = (
    (open_still h.topics _ refl refl refl refl refl F.opened, one_changed page h.topics C.is),
    F.owns_none,
    none_after true (host_frame (word_looked h.topics.host)) h.topics.frames.owned none,
  )
  page_changed one C F none own_ false = (
    record { owns_none = F.owns_none; opened = open_still h.topics _ refl refl refl refl refl F.opened; asked = F.asked; awaited = F.awaited },
    none,
    subst (λ b. ChangesPages b page change (behind Change (record h.topics {
      host = Some (record { page = page_looked h.topics.host; word = v });
      row = one_look;
      watched = 0;
      frames = record h.topics.frames { owned = h.topics.frames.owned };
    }))) (sym one) (record { is = C.is; looks = record { own_ = C.looks.own_; looked = refl; at = C.looks.at; alone = refl }; asked = C.asked }),
    own_,
  )

  change_known : (b : Bool) → is_several h.topics.invalidations.own.pages ≡ b → ChangesPages b page change h → HasFlushedRun h
      → h.topics.frames.owned ≡ None → owns_run h.state.sizes h.state.actor page change ≡ true
      → Knows (if b then (if v == word_next h.topics.invalidations.own.pages then after_page h.topics.invalidations.own.pages else Change) else
      if v == word_looked h.topics.host then End ends.Exclude else
      Change)
      (behind Change (part_topics (if b then part.ChangeNext else part.Change (as_it_is (word_looked h.topics.host))) h.topics v))
  change_known true several C F none own_ =
      next_changed h.topics.invalidations.own.pages several C F none own_ (v == word_next h.topics.invalidations.own.pages)
  change_known false one C F none own_ = page_changed one C F none own_ (v == word_looked h.topics.host)

  -- ---- all steps

  pub host_run_known : (p : HostRunPlace) → PartRests h → HostRunKnows p page change h
      → (may_open (place.HostRun p) ≡ false → h.topics.invalidations.opened ≡ false) → CanAnswer (host_run_part p page change h) v
      → KnowsBehind (host_run_outcome p page change h v) (ChangeRun page change) (behind p (part_topics (host_run_part p page change h) h.topics v))
  host_run_known Look R K closed A = look_known line h page change cached v K (closed refl)
  host_run_known LookOn R K closed A = look_on_known line h page change cached v K (closed refl)
  host_run_known (Begin p) R K closed A =
      let target : Target = run_target page h.topics in
      begin_comes p (begin_next p h.state.sizes target h.topics v) (part_topics (begin_part p target h.topics) h.topics v)
      (begin_leaves_looks p target h.topics v) (begin_leaves_pages p target h.topics v) K.0 K.2 K.3
      (begin_known p h.state.sizes target h.topics v R.sizes (target_is_small page h.topics)
      (run_is_aimed page h K.0.looks.looked K.0.looks.at K.2) R.frames R.row R.level K.1 A)
  host_run_known Change R K closed A = change_known (is_several h.topics.invalidations.own.pages) refl K.2 K.0 K.1 K.3
  host_run_known (End p) R K closed A =
      end_comes p (end_next p v) (part_topics (end_part p h.topics) h.topics v) R (end_leaves_pages p h.topics v) K (ending_known p h.topics v K.0 A)
