-- What the exchange of a host word owes flat memory: its page is changed so, and memory stays, since a page that is moved has its words in its new frame.
use Rattle.std.proofs.Common.{◌≡◌, inl, ◌<◌, ℕ, [], ◌∷◌, Bool, true, false, refl, sym, subst, ap, ◌∙◌}
use Rattle.std.specs.Prelude.{◌==◌, if◌then◌else◌, Some, nat_lt}
use Rattle.core_views.specs.declared.event.EventKind.TheVariants.{HostChanged}
use Rattle.core_views.specs.declared.place.EndPlace.TheVariants as ends
use Rattle.core_views.specs.declared.place.HostPlace.TheVariants.{Change, End}
use Rattle.core_views.specs.declared.place.Place.TheVariants as place
use Rattle.core_views.specs.declared.sizes.Sizes.{Sizes}
use Rattle.core_views.specs.declared.topics.OwnedFrame.{OwnedFrame}
use Rattle.core_views.specs.declared.topics.Topics.{Topics}
use Rattle.core_views.specs.declared.trace.Command.TheVariants.{ChangeHost}
use Rattle.core_views.specs.declared.trace.HostChange.{HostChange}
use Rattle.core_views.specs.declared.trace.Line.{Line}
use Rattle.core_views.specs.declared.host.HostEntry.{HostEntry}
use Rattle.core_views.specs.Flat.{Facts, HasChangedHost, LineUnderWay}
use Rattle.core_views.specs.Held.{Held}
use Rattle.core_views.specs.Host.{mapping}
use Rattle.core_views.specs.HostChanges.{Agree, is_taken}
use Rattle.core_views.specs.Past.{Past}
use Rattle.core_views.specs.Sizes.{actors_of}
use Rattle.core_views.proofs.LowestFrames.{untaken}
use Rattle.spte_words.specs.declared.area.Area.TheVariants as area
use Rattle.spte_words.specs.Areas.{content_index}
use Rattle.spte_words.specs.HostWords.{host_frame}
use Rattle.part_steps.specs.declared.task.Task.{Task}
use Rattle.part_steps.specs.FrameTopics.{frame_owned, words_moved}
use Rattle.part_steps.specs.PartTasks.{page_looked, word_looked}
use Rattle.part_steps.specs.Tasks.{map_of}
use Rattle.mmu_core.specs.invariant.FramesPart.{IsCopied}
use Rattle.mmu_core.specs.invariant.Invariant.{Invariant}
use Rattle.mmu_core.specs.invariant.TopicsInvariant.{TopicsInvariant}
use Rattle.mmu_core.specs.forms.host.HostKnows.{HostKnows, is_move}
use Rattle.mmu_core.specs.forms.host.HostSteps.{entry_of, host_part, word_put}
use Rattle.mmu_core.specs.machine.View.{View, words_after}
use Rattle.mmu_core.proofs.held.CopiedSteps.{CopiedAt}
use Rattle.mmu_core.proofs.machine.ColumnsTell.{some_is}
use Rattle.mmu_core.proofs.forms.host.HostMakes.{change_finds}
use Rattle.mmu_core.proofs.machine.PartStepping.{IsPart}
use Rattle.mmu_core.proofs.machine.Stepping.{IsStep}
use Rattle.mmu_core.proofs.pages.FrameUses.{owned_frame_there, owned_of_no_page}
use Rattle.mmu_laws.proofs.forms.host.ExchangeFlat.{lost_maps, memory_moves, won_maps}
use Rattle.mmu_laws.proofs.flat.FlatSteps.{GoesBy, RefinesBy, goes_by}
use Rattle.mmu_laws.proofs.forms.host.HostEntries.{moved_to, revised_entry, revised_frame, still_agree}
use Rattle.mmu_laws.proofs.forms.host.HostReady.{HostTask, ReadyHost, host_after, host_after_is, host_at_once, host_page_low}
use Rattle.core_views.proofs.RunStages.{changed_one}

-- The words of the frame into which all was copied are those of the page.
all_copied : (z : Sizes) (content : ℕ → ℕ) (t : Topics) (o : OwnedFrame) (j : ℕ) → IsCopied z.words content t o → o.filled ≡ z.words → j < z.words
    → content (content_index (map_of z) o.frame j) ≡ content (content_index (map_of z) (host_frame (word_looked t.host)) j)
unfolding content_index
all_copied z content t o j C full below = C.stored j (subst (λ n. j < n) (sym full) below)

module _ (z : Sizes) (v : View) (a : ℕ) (line : Line) (page : ℕ) (change : HostChange) (facts : Facts) (past : Past) (u : LineUnderWay) where
  abbrev h : Held
  h = v.hand a

  abbrev task : Task
  task = HostTask z v a line page change facts past u Change

  abbrev ReadyHere : Type 0
  ReadyHere = ReadyHost z v a line page change facts past u Change

  abbrev Made : Type 0
  Made = IsPart z v a (host_part Change page change h)

  abbrev looked : ℕ
  looked = word_looked h.topics.host

  abbrev at_page : ℕ
  at_page = page_looked h.topics.host

  abbrev put : ℕ
  put = word_put change h.topics

  -- the frame that is owned
  abbrev frame : ℕ
  frame = frame_owned h.topics.frames.owned

  owns : HostKnows Change page change h → is_move change ≡ true → (o : OwnedFrame) × (h.topics.frames.owned ≡ Some o)
  owns K moves = some_is h.topics.frames.owned (K.2.owns ∙ moves)

  -- Where the page is moved, the frame is one of the machine's that no page names.
  frame_free : HostKnows Change page change h → a < actors_of z → TopicsInvariant z v → ReadyHere → is_move change ≡ true
      → (frame < z.frames) × (is_taken z.pages facts.host frame ≡ false)
  frame_free K there P R moves =
      let o = owns K moves in
      subst (λ (x : ℕ). (x < z.frames) × (is_taken z.pages facts.host x ≡ false)) (sym (ap frame_owned o.1)) (
        owned_frame_there P.frames a o.0 there o.1,
        untaken z.pages facts.host o.0.frame (λ p low e.
            owned_of_no_page P.frames a o.0 p there o.1 low (sym (ap (λ (x : HostEntry). x.frame) (R.refines.host p low)) ∙ e)),
      )

  -- The words of the frame that the new word names are those of the page.
  same_words : HostKnows Change page change h → Made → CopiedAt z v → (moves : Bool) → is_move change ≡ moves → (j : ℕ) → j < z.words
      → v.words area.Content (content_index (map_of z) (host_frame put) j) ≡ v.words area.Content (content_index (map_of z) (host_frame looked) j)
  same_words K M C false other j below = ap (λ n. v.words area.Content (content_index (map_of z) n j)) (revised_frame change frame looked other)
  same_words K M C true moves j below =
      let o = owns K moves in
      let full : o.0.filled ≡ z.words = sym (ap words_moved o.1) ∙ (K.2.all moves ∙ ap (λ (y : Sizes). y.words) M.sizes) in
      ap (λ n. v.words area.Content (content_index (map_of z) n j)) (moved_to change frame looked moves ∙ ap frame_owned o.1)
      ∙ all_copied z (v.words area.Content) h.topics o.0 j (C a o.0 M.there K.1.opened.opened o.1) full below

  -- So memory stays.
  same_memory : HostKnows Change page change h → Made → CopiedAt z v → ReadyHere → (p j : ℕ) → p < z.pages → j < z.words → facts.memory p j
      ≡ v.words area.Content (content_index (map_of z) (host_frame (words_after task v.words area.Host p)) j)
  same_memory K M C R =
      memory_moves z (v.words area.Host) facts.host R.refines.host at_page looked put facts.memory (v.words area.Content)
      (λ found j below. same_words K M C (is_move change) refl j below) R.refines.memory

  -- The words after it stand for the facts with it.
  changed_refines : HostKnows Change page change h → Made → CopiedAt z v → v.words area.Host at_page ≡ looked → ReadyHere
      → RefinesBy z v task (record facts { host = mapping page (entry_of put) facts.host })
  changed_refines K M C won R = record {
    slots = R.refines.slots;
    host = λ p lt. subst (λ q. mapping q (entry_of put) facts.host p ≡ entry_of (words_after task v.words area.Host p)) K.0.at
        (won_maps z (v.words area.Host) facts.host R.refines.host at_page looked put (entry_of put) won refl p lt);
    memory = same_memory K M C R;
    paused = R.refines.paused;
    idle = R.refines.idle;
  }

  -- What its actor has looked up then: the word that it has put, or the one that it has found.
  looked_now : Made → (won : Bool) → (v.words area.Host at_page == looked) ≡ won
      → word_looked (host_after z v a line page change facts past u Change).host ≡ (if won then put else v.words area.Host at_page)
  looked_now M won is =
      ap (λ (t : Topics). word_looked t.host) (host_after_is z v a line page change facts past u Change M)
      ∙ ap (λ (b : Bool). if b then put else v.words area.Host at_page) is

  -- It changes its page, which was as it looked at it.
  pub change_won : HostKnows Change page change h → IsStep z v a line (ChangeHost page change) (place.Host Change) → Invariant z v → TopicsInvariant z v
      → CopiedAt z v → Made → (v.words area.Host at_page == looked) ≡ true → v.words area.Host at_page ≡ looked → ReadyHere
      → GoesBy z v a line (ChangeHost page change) task (place.Host (End ends.Exclude)) (HostChanged page (entry_of put) ∷ []) facts past u
  change_won K S I P C M is won R =
      let now_ : facts.host page ≡ entry_of looked =
      R.refines.host page (host_page_low z v a line page change facts past u I S.there K.0.own_) ∙ ap entry_of (ap (v.words area.Host) (sym K.0.at) ∙ won) in
      let asked : u.line.command ≡ ChangeHost page change = ap (λ (l : Line). l.command) R.under.0 ∙ S.command_is in
      record {
        allowed = (
          inl (
            R.under.1.0,
            record {
              change = change;
              asked = asked;
              works = host_at_once z v a line page change facts past u Change true S I R.under.0 K.0.own_;
              seen = R.under.1.1.0;
              looked = R.under.1.1.1;
              small = ap (nat_lt 1) R.under.1.1.3;
              agrees = subst (Agree R.under.1.1.0) (sym now_) R.under.1.1.2;
              changes = revised_entry change frame looked z facts.host page now_ (frame_free K S.there P R);
            },
          ),
          tt,
        );
        refines = changed_refines K M C won R;
        under = (
          R.under.0,
          changed_one u.line.command facts.host u.stage page (entry_of put) page change R.under.1.0 asked
              ∙ ap (λ (w : ℕ). HasChangedHost (entry_of w)) (sym (looked_now M true is)),
        );
      }

  -- Where the page was brought in meanwhile it has changed nothing, and tries again.
  pub change_lost : HostKnows Change page change h → TopicsInvariant z v → CopiedAt z v → Made → (v.words area.Host at_page == looked) ≡ false → ReadyHere
      → GoesBy z v a line (ChangeHost page change) task (place.Host Change) [] facts past u
  change_lost K P C M lost R =
      goes_by z v a line (ChangeHost page change) task facts past u (record {
        slots = R.refines.slots;
        host = lost_maps z (v.words area.Host) facts.host R.refines.host at_page looked put lost;
        memory = same_memory K M C R;
        paused = R.refines.paused;
        idle = R.refines.idle;
      }) (place.Host Change) (
        R.under.0,
        (
          R.under.1.0,
          (
            R.under.1.1.0,
            R.under.1.1.1,
            subst (λ w. Agree R.under.1.1.0 (entry_of w)) (sym (looked_now M false lost))
                (still_agree R.under.1.1.0 looked (v.words area.Host at_page) R.under.1.1.2 (change_finds z v a page change P M)),
            R.under.1.1.3,
          ),
        ),
      )
