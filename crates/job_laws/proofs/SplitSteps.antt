-- How a line that splits a large leaf comes to an end that tells of its exchange: by this exchange alone, which was made in the line.
use Rattle.std.proofs.Common.{◌≡◌, ◌≢◌, ◌⊎◌, inl, inr, ◌+◌, ℕ, List, length, refl, sym, ap, ◌∙◌, subst, arith}
use Rattle.std.proofs.lemmas.Bool.Decides.{nat_tests}
use Rattle.std.specs.Prelude.{Bool, true, false, ◌==◌, nat_le, nat_lt}
use Rattle.core_views.specs.declared.answer.AnsweredLine.{AnsweredLine}
use Rattle.core_views.specs.declared.kind.Kind.{Kind}
use Rattle.core_views.specs.declared.place.Place.{Place}
use Rattle.core_views.specs.declared.place.Place.TheVariants as place
use Rattle.core_views.specs.declared.place.SplitEnd.{SplitEnd}
use Rattle.core_views.specs.declared.place.SplitEnd.TheVariants as end_of
use Rattle.core_views.specs.declared.place.SplitPlace.{SplitPlace}
use Rattle.core_views.specs.declared.place.SplitPlace.TheVariants.{Begin, Share, Walk, Claim, Fill, Role, Link, Give, Unshare, End}
use Rattle.core_views.specs.declared.sizes.Sizes.{Sizes}
use Rattle.core_views.specs.declared.topics.Topics.{Topics}
use Rattle.core_views.specs.declared.trace.Command.{Command}
use Rattle.core_views.specs.declared.trace.Command.TheVariants as command
use Rattle.core_views.specs.declared.trace.Line.{Line}
use Rattle.core_views.specs.Held.{Held, State}
use Rattle.core_views.specs.SlotSets.{MemorySlots}
use Rattle.spte_words.specs.declared.spte_kind.SpteKind.{SpteKind}
use Rattle.spte_words.specs.declared.spte_kind.SpteKind.TheVariants as entry_kind
use Rattle.spte_words.specs.Entries.{kind_of}
use Rattle.part_steps.specs.PartTasks.{words_filled}
use Rattle.part_steps.specs.Tasks.{kind_of_task}
use Rattle.mmu_core.specs.declared.claim.ClaimNext.{ClaimNext}
use Rattle.mmu_core.specs.declared.claim.ClaimNext.TheVariants as claims
use Rattle.mmu_core.specs.declared.claim.FreeMap.TheVariants.{Pages}
use Rattle.mmu_core.specs.declared.share.ShareNext.{ShareNext}
use Rattle.mmu_core.specs.declared.share.ShareNext.TheVariants as shares
use Rattle.mmu_core.specs.forms.split.SplitSteps.{after_claim, after_share, entry_next, split_outcome}
use Rattle.mmu_core.specs.invariant.Laws.{IsSound}
use Rattle.mmu_core.specs.declared.outcome.Outcome.{Outcome}
use Rattle.mmu_core.specs.declared.outcome.Outcome.TheVariants.{Ends, Goes}
use Rattle.mmu_core.specs.lines.Forms.{KnowsPart, first_place, outcome_at}
use Rattle.mmu_core.specs.lines.PartAt.{task_at}
use Rattle.mmu_core.specs.lines.Rests.{IsUnderWay}
use Rattle.mmu_core.specs.machine.Enabled.{mmu}
use Rattle.mmu_core.specs.machine.Machine.{May, Step, World, effect, hand_in}
use Rattle.mmu_core.specs.machine.Outcomes.{answers_after, place_after}
use Rattle.mmu_core.specs.machine.Steps.{line_at, place_at, task_of}
use Rattle.mmu_core.specs.machine.View.{View, answer_in, hand_after, view, word_in}
use Rattle.mmu_core.specs.orders.ClaimSteps.{claim_next}
use Rattle.mmu_core.specs.orders.ShareSteps.{share_next}
use Rattle.mmu_core.proofs.lines.Forms.{knows_for}
use Rattle.mmu_core.proofs.held.Grace.{hand_there}
use Rattle.mmu_core.proofs.lines.EitherPlace.{either_place, one_place}
use Rattle.mmu_core.proofs.lines.KnowsKept.{step_knows}
use Rattle.mmu_core.proofs.machine.Columns.{same_or, upd_same}
use Rattle.mmu_core.proofs.machine.Which.{is_next}
use Rattle.mmu_core.proofs.machine.Worlds.{Takes, TakesPart, takes}
use Rattle.job_laws.specs.Splits.{Exchanges}

-- ---- the ends that tell of an exchange

abbrev pub tells_exchange : SplitEnd → Bool
tells_exchange end_of.Split = true
tells_exchange (end_of.Changed seen) = true
tells_exchange _ = false

-- It tells of one that read and found these words.
abbrev pub IsOf : SplitEnd → ℕ → ℕ → Type 0
IsOf end_of.Split read found = found ≡ read
IsOf (end_of.Changed seen) read found = (found ≡ seen) × (read ≢ found)
IsOf _ read found = ⊥

-- The line stands between its exchange and its answer, with this end.
abbrev pub ToEnd : SplitEnd → Place → Type 0
ToEnd e (place.Split (Give f)) = f ≡ e
ToEnd e (place.Split (Unshare f)) = f ≡ e
ToEnd e (place.Split (End f)) = f ≡ e
ToEnd e _ = ⊥

-- ---- where its steps lead there

module _ (e : SplitEnd) (exchange : tells_exchange e ≡ true) where
  abbrev Not : SplitPlace → Type 0
  Not p = ToEnd e (place.Split p) → ⊥

  no_such : (f : SplitEnd) → tells_exchange f ≡ false → f ≡ e → ⊥
  no_such f none is = let same = ap tells_exchange is in cc (none, same, exchange)

  not_by_share : (next : ShareNext) → Not (after_share next)
  not_by_share shares.Tries = λ at. at
  not_by_share shares.Shares = λ at. at

  not_by_claim : (next : ClaimNext) → Not (after_claim next)
  not_by_claim claims.Goes = λ at. at
  not_by_claim claims.Got = λ at. at
  not_by_claim claims.Empty = no_such end_of.Starved refl

  not_by_entry : (k : SpteKind) (level v : ℕ) → Not (entry_next k level v)
  not_by_entry (entry_kind.Table page) level v = λ at. at
  not_by_entry entry_kind.Leaf level v =
      either_place Not (nat_le 2 level) (Claim false) (Unshare (end_of.Nothing v)) (λ at. at) (no_such (end_of.Nothing v) refl)
  not_by_entry entry_kind.Absent level v = no_such (end_of.Nothing v) refl
  not_by_entry entry_kind.Frozen level v = no_such (end_of.Nothing v) refl

  -- A step leads there from there, or it is the exchange.
  abbrev From : SplitPlace → ℕ → ℕ → Type 0
  From p read v = ToEnd e (place.Split p) ⊎ ((p ≡ Link) × IsOf e read v)

  won : (read v : ℕ) → (v == read) ≡ true → end_of.Split ≡ e → From Link read v
  won read v is same = inr (refl, subst (λ f. IsOf f read v) same (grind (arith, nat_tests)))

  lost : (read v : ℕ) → (v == read) ≡ false → end_of.Changed v ≡ e → From Link read v
  lost read v is same = inr (refl, subst (λ f. IsOf f read v) same (refl, grind (arith, nat_tests)))

  pub comes_from : (p : SplitPlace) (z : Sizes) (t : Topics) (v : ℕ) → ToEnd e (place_after (split_outcome p z t v)) → From p t.walk.entry v
  comes_from Begin z t v at = absurd at
  comes_from Share z t v at = absurd (not_by_share (share_next t.hold v) at)
  comes_from (Walk rooted) z t v at =
      absurd (either_place Not rooted (entry_next (kind_of t.walk.level v) t.walk.level v) (Walk true)
      (not_by_entry (kind_of t.walk.level v) t.walk.level v) (λ x. x) at)
  comes_from (Claim begun) z t v at = absurd (not_by_claim (claim_next Pages begun z t.claim v) at)
  comes_from Fill z t v at = absurd (either_place Not (nat_lt (words_filled t.owned + 1) 512) Fill Role (λ x. x) (λ x. x) at)
  comes_from Role z t v at = absurd at
  comes_from Link z t v at =
      one_place (λ q. ToEnd e (place.Split q) → From Link t.walk.entry v) (v == t.walk.entry) (Unshare end_of.Split) (Give (end_of.Changed v))
      (λ is. won t.walk.entry v is) (λ is. lost t.walk.entry v is) at
  comes_from (Give f) z t v at = inl at
  comes_from (Unshare f) z t v at = inl at
  comes_from (End f) z t v at = absurd at

  -- ---- one step of the machine

  -- The hand stands there, in a line that splits the leaf over the guest frame.
  pub record Stands (gfn : ℕ) (h : Held) : Type 0 where
    pub at : ToEnd e h.state.place
    pub command_is : h.state.line.command ≡ command.Split gfn

  -- The first place of such a line is its begin.
  first_place_is : (z : Sizes) (slots : MemorySlots) (c : Command) (gfn : ℕ) → c ≡ command.Split gfn → first_place z slots c ≡ place.Split Begin
  first_place_is z slots (command.Split g) gfn is = refl
  first_place_is z slots _ gfn is = absurd (cc is)

  -- So a line that stands further on had begun, and its hand stands there.
  stands_there : (q : Place) (h : Held) (gfn : ℕ) → (line_at q h).command ≡ command.Split gfn → ToEnd e (place_at q h) → q ≡ h.state.place → Stands gfn h
  stands_there place.Between h gfn is at same =
      absurd (subst (ToEnd e) (first_place_is h.state.sizes h.slots (line_at place.Between h).command gfn is) at)
  stands_there _ h gfn is at same = record { at = subst (ToEnd e) same at; command_is = is }

  links_there : (q : Place) (h : Held) (gfn : ℕ) → (line_at q h).command ≡ command.Split gfn → place_at q h ≡ place.Split Link → q ≡ place.Split Link
  links_there place.Between h gfn is at =
      absurd (let first = first_place_is h.state.sizes h.slots (line_at place.Between h).command gfn is in cc (first, at))
  links_there _ h gfn is at = at

  -- where the line stood whose step leads there, and what it found
  pub record Led (p : Place) (h : Held) (v : ℕ) : Type 0 where
    pub stood : SplitPlace
    pub is : p ≡ place.Split stood
    pub from : From stood h.topics.walk.entry v

  led : (p : Place) (c : Command) (h : Held) (v gfn : ℕ) → c ≡ command.Split gfn → IsUnderWay p → KnowsPart p c h
      → ToEnd e (place_after (outcome_at p c h v)) → Led p h v
  led (place.Split q) (command.Split g) h v gfn is under K at =
      record { stood = q; is = refl; from = comes_from q h.state.sizes h.topics v at }
  led place.Between (command.Split g) h v gfn is under K at = absurd under
  led p (command.Split g) h v gfn is under K at = absurd (let mine = knows_for p (command.Split g) h under K in cc mine)
  led p _ h v gfn is under K at = absurd (cc is)

  -- Such a step answers no line.
  no_answer : (o : Outcome) (line : Line) (answers : List AnsweredLine) → ToEnd e (place_after o) → answers_after o line answers ≡ answers
  no_answer (Goes p) line answers at = refl
  no_answer (Ends answer) line answers at = absurd at

  -- a step that leads there: its actor stood there, or this is its exchange
  abbrev pub Before : ℕ → World Held → Step Kind → ℕ → Type 0
  Before gfn w s a =
      (Stands gfn (hand_in mmu w a) ⊎ ((read : ℕ) × (found : ℕ) × IsOf e read found × (s.actor ≡ a) × Exchanges gfn read found w s))
      × (length (hand_in mmu w a).answers ≡ length (hand_in mmu (effect mmu w s) a).answers)

  module _ (z : Sizes) (w : World Held) (s : Step Kind) (G : IsSound z w) (may : May mmu w s) (gfn : ℕ) where
    abbrev h : Held
    h = hand_in mmu w s.actor

    abbrev stands_at : Place
    stands_at = place_at h.state.place h

    abbrev line : Line
    line = line_at h.state.place h

    abbrev found : ℕ
    found = answer_in (task_of h) (word_in z w)

    abbrev outcome : Outcome
    outcome = outcome_at stands_at line.command h found

    by_led : Takes z w s h → line.command ≡ command.Split gfn → KnowsPart stands_at line.command h → Led stands_at h found
        → Stands gfn h ⊎ ((read : ℕ) × (found : ℕ) × IsOf e read found × (s.actor ≡ s.actor) × Exchanges gfn read found w s)
    by_led T is K L = by L.from
      where
        by : From L.stood h.topics.walk.entry found
            → Stands gfn h ⊎ ((read : ℕ) × (found : ℕ) × IsOf e read found × (s.actor ≡ s.actor) × Exchanges gfn read found w s)
        by (inl at) = inl (stands_there h.state.place h gfn is (subst (ToEnd e) (sym L.is) at) refl)
        by (inr (links, of)) =
            inr (
              h.topics.walk.entry,
              found,
              of,
              refl,
              record {
                at = links_there h.state.place h gfn is (L.is ∙ ap place.Split links);
                large = (subst (λ c. KnowsPart (place.Split Link) c h) is
                    (subst (λ p. KnowsPart p line.command h) (L.is ∙ ap place.Split links) K)).0.large;
                loaded = refl;
                is = (is_next h s.kind may.enabled T.has).is
                    ∙ ap (λ (p : Place). kind_of_task h.state.sizes (task_at p line.command h)) (L.is ∙ ap place.Split links)
                    ∙ ap (λ (c : Command). kind_of_task h.state.sizes (task_at (place.Split Link) c h)) is;
                finds = T.answers;
              },
            )

    by_line : Takes z w s h → Stands gfn (hand_in mmu (effect mmu w s) s.actor) → Before gfn w s s.actor
    by_line T S =
        let here : hand_in mmu (effect mmu w s) s.actor ≡ hand_after line line.command stands_at h found =
        ap (λ (v : View). v.hand s.actor) T.leads ∙ upd_same (hand_in mmu w) s.actor (hand_after line line.command stands_at h found) in
        let after : Stands gfn (hand_after line line.command stands_at h found) = subst (Stands gfn) here S in
        let K : KnowsPart stands_at line.command h = step_knows z (view z w) s.actor line line.command stands_at T.is_step G.holds in (
          by_led T after.command_is K (led stands_at line.command h found gfn after.command_is T.is_step.begun K after.at),
          ap length (sym (no_answer outcome line h.answers after.at)) ∙ ap (λ (x : Held). length x.answers) (sym here),
        )

    by_part : TakesPart z w s h → Stands gfn (hand_in mmu (effect mmu w s) s.actor) → Before gfn w s s.actor
    by_part T S =
        let state : (hand_in mmu (effect mmu w s) s.actor).state ≡ h.state =
        ap (λ (v : View). (v.hand s.actor).state) T.leads ∙ ap (λ (x : Held). x.state) (upd_same (hand_in mmu w) s.actor _) in (
          inl (record {
            at = subst (λ (x : State). ToEnd e x.place) state S.at;
            command_is = subst (λ (x : State). x.line.command ≡ command.Split gfn) state S.command_is;
          }),
          ap (λ (x : Held). length x.answers) (sym (ap (λ (v : View). v.hand s.actor) T.leads ∙ upd_same (hand_in mmu w) s.actor _)),
        )

    own_step : Stands gfn (hand_in mmu (effect mmu w s) s.actor) → Before gfn w s s.actor
    own_step S = by (takes z w s G may)
      where
        by : Takes z w s h ⊎ TakesPart z w s h → Before gfn w s s.actor
        by (inl T) = by_line T S
        by (inr T) = by_part T S

    pub step_back : (a : ℕ) → Stands gfn (hand_in mmu (effect mmu w s) a) → Before gfn w s a
    step_back a S = by (same_or s.actor a)
      where
        by : (s.actor ≡ a) ⊎ (s.actor ≢ a) → Before gfn w s a
        by (inl same) = subst (λ i. Stands gfn (hand_in mmu (effect mmu w s) i) → Before gfn w s i) same own_step S
        by (inr other) =
            let kept : hand_in mmu (effect mmu w s) a ≡ hand_in mmu w a = hand_there w s a (λ e. other (sym e)) in
            (inl (subst (Stands gfn) kept S), ap (λ (x : Held). length x.answers) (sym kept))
