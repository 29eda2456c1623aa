-- A line that changes a host page makes at each place a step of a part that its actor may make.
use Rattle.core_views.specs.Sizes.{actors_of}
use Rattle.std.proofs.Common.{◌≡◌, ◌<◌, ℕ, true, refl, sym, ap, ◌∙◌}
use Rattle.std.specs.Prelude.{Option, Some, None, is_some}
use Rattle.core_views.specs.declared.place.BeginPlace.TheVariants as begins
use Rattle.core_views.specs.declared.place.EndPlace.TheVariants as ends
use Rattle.core_views.specs.declared.place.HostPlace.{HostPlace}
use Rattle.core_views.specs.declared.place.HostPlace.TheVariants.{Look, Claim, Begin, Change, End}
use Rattle.core_views.specs.declared.place.Place.TheVariants as place
use Rattle.core_views.specs.declared.sizes.Sizes.{Sizes}
use Rattle.core_views.specs.declared.topics.HostLook.{HostLook}
use Rattle.core_views.specs.declared.topics.Invalidated.{Invalidated}
use Rattle.core_views.specs.declared.topics.Topics.{Topics}
use Rattle.core_views.specs.declared.trace.Command.TheVariants.{ChangeHost}
use Rattle.core_views.specs.declared.trace.HostChange.{HostChange}
use Rattle.core_views.specs.declared.trace.Line.{Line}
use Rattle.core_views.specs.HostChanges.{is_own}
use Rattle.spte_words.specs.declared.area.Area.TheVariants as area
use Rattle.part_steps.specs.declared.part_step.PartStep.{PartStep}
use Rattle.part_steps.specs.declared.part_step.PartStep.TheVariants as part
use Rattle.part_steps.specs.PartTasks.{page_looked, word_looked}
use Rattle.mmu_core.specs.invariant.HostWordsPart.{IsStill, owns_page}
use Rattle.mmu_core.specs.invariant.Invariant.{Invariant}
use Rattle.mmu_core.specs.invariant.TopicsInvariant.{TopicsInvariant}
use Rattle.mmu_core.specs.forms.host.HostKnows.{HostKnows}
use Rattle.mmu_core.specs.forms.host.HostSteps.{host_part, word_put}
use Rattle.mmu_core.specs.machine.View.{View}
use Rattle.mmu_core.proofs.invariant.PartBounded.{part_rests_at}
use Rattle.mmu_core.proofs.forms.access.AccessParts.{may_make, AreSmall}
use Rattle.mmu_core.proofs.lines.EitherPlace.{either_place}
use Rattle.mmu_core.specs.orders.ClaimSteps.{Frames}
use Rattle.mmu_core.proofs.orders.ClaimMade.{claim_is}
use Rattle.mmu_core.proofs.forms.host.HostNeeds.{host_needs}
use Rattle.mmu_core.proofs.lines.Raised.{few_raised}
use Rattle.mmu_core.proofs.lines.KnowsKept.{step_knows}
use Rattle.mmu_core.proofs.machine.PartStepping.{IsPart, MayInvalidate, Replaces, AreApart}
use Rattle.mmu_core.proofs.machine.Stepping.{IsStep}
use Rattle.mmu_core.specs.invariant.SlotSetPart.{SlotSetPart}
use Rattle.core_views.specs.Slots.{has_host_page}
use Rattle.part_steps.specs.SlotWords.{slot_at}
use Rattle.mmu_core.proofs.held.OwnPages.{changes_own}

-- No two slots that are published share a host page.
pub slots_apart : (z : Sizes) (set : ℕ) (role pool : ℕ → ℕ) → SlotSetPart z set role pool → AreApart pool set
slots_apart z set role pool P page i j slot other live also has too =
    let same : i ≡ j =
    P.slots.host_apart page i j live.low also.low live.live also.live (ap (has_host_page page) live.is ∙ has) (ap (has_host_page page) also.is ∙ too) in
    sym live.is ∙ ap (slot_at pool set) same ∙ also.is

-- Who ends an invalidation counts none more.
pub closes_own : (pool : ℕ → ℕ) (slots : ℕ) (t : Topics) → AreApart pool slots → t.invalidations.opened ≡ true → MayInvalidate pool slots t
closes_own pool slots t apart opened = record { apart = apart; of_slot = λ closed of_none. absurd (cc (opened, closed)) }

module _ (z : Sizes) (v : View) (a : ℕ) (page : ℕ) (change : HostChange) where
  abbrev Says : PartStep → Type 0
  Says step = Replaces z step (v.words area.Pool) (v.words area.Slots 0) (v.hand a).topics

  host_says : (p : HostPlace) → AreSmall v → Invariant z v → TopicsInvariant z v → a < actors_of z → HostKnows p page change (v.hand a)
      → Says (host_part p page change (v.hand a))
  host_says (Claim begun) small I P there K = claim_is Says Frames begun (v.hand a).topics.frames.claim tt (λ word. tt)
  host_says (Look moving) small I P there K = either_place Says (is_own (v.hand a).state.sizes (v.hand a).state.actor page) (part.Host page) part.Seq tt tt
  host_says (Begin (begins.Find begun)) small I P there K = either_place Says begun part.Slot part.Slots tt tt
  host_says (Begin (begins.Walk rooted)) small I P there K = either_place Says rooted (part.Sweep _) part.Root tt tt
  host_says (Begin begins.SetCount) small I P there K = record {
    apart = slots_apart z (v.words area.Slots 0) (v.words area.Role) (v.words area.Pool) I.set_part;
    of_slot = λ closed of_none. absurd (let is = ap (λ (n : Invalidated). n.pages) K.1.2 in cc (is, of_none));
  }
  host_says (Begin _) small I P there K = tt
  host_says (End ends.SetCount) small I P there K =
      closes_own (v.words area.Pool) (v.words area.Slots 0) (v.hand a).topics
      (slots_apart z (v.words area.Slots 0) (v.words area.Role) (v.words area.Pool) I.set_part) K.1.0.is
  host_says (End ends.SetSeq) small I P there K = few_raised z v a small P there K.1.0.alone.alone K.1.1
  host_says (End ends.Exclude) small I P there K = tt
  host_says (End _) small I P there K = tt
  host_says _ small I P there K = tt

pub makes_host : (z : Sizes) (v : View) (a : ℕ) (line : Line) (p : HostPlace) (page : ℕ) (change : HostChange) → AreSmall v
    → IsStep z v a line (ChangeHost page change) (place.Host p) → Invariant z v → TopicsInvariant z v → IsPart z v a (host_part p page change (v.hand a))
makes_host z v a line p page change small S I P =
    let K = step_knows z v a line (ChangeHost page change) (place.Host p) S I in
    may_make z v a (host_part p page change (v.hand a)) small I P S.there (host_needs p (v.hand a) page change (part_rests_at z v a I P S.there) K).0
    (host_says z v a page change p small I P S.there K)

-- Whose change of one page is next finds the word that it looked up, or this word with the page present, which it saw absent: nobody else has changed it
-- since, but by bringing the page in.
pub page_finds : (z : Sizes) (v : View) (a new_ : ℕ) → TopicsInvariant z v → IsPart z v a (part.Change new_)
    → IsStill (word_looked (v.hand a).topics.host) (v.words area.Host (page_looked (v.hand a).topics.host))
page_finds z v a new_ P S = looked (v.hand a).topics.host refl S.needs.0.looked (changes_own z v a new_ S)
  where
    looked : (o : Option HostLook) → (v.hand a).topics.host ≡ o → is_some o ≡ true → owns_page z a (page_looked o) ≡ true
        → IsStill (word_looked o) (v.words area.Host (page_looked o))
    looked None is some own_ = absurd (cc some)
    looked (Some look) is some own_ = P.own_looks a look S.there is own_

pub change_finds : (z : Sizes) (v : View) (a page : ℕ) (change : HostChange) → TopicsInvariant z v → IsPart z v a (host_part Change page change (v.hand a))
    → IsStill (word_looked (v.hand a).topics.host) (v.words area.Host (page_looked (v.hand a).topics.host))
change_finds z v a page change P S = page_finds z v a (word_put change (v.hand a).topics) P S
