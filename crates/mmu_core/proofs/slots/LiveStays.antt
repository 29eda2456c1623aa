-- The words of live slots, which no step changes.
use Rattle.std.proofs.Common.{◌≡◌, ◌+◌, ◌*◌, ◌<◌, ◌≤◌, ℕ, refl, sym, ap, ◌∙◌, arith, false, Bool}
use Rattle.std.specs.Prelude.{true, Option, Some, None, Bool, false}
use Rattle.core_views.specs.declared.place.AccessPlace.{AccessPlace}
use Rattle.core_views.specs.declared.place.AccessPlace.TheVariants as access
use Rattle.core_views.specs.declared.place.CheckStage.TheVariants as stage
use Rattle.core_views.specs.declared.place.FaultPlace.{FaultPlace}
use Rattle.core_views.specs.declared.place.FaultPlace.TheVariants as fault
use Rattle.core_views.specs.declared.topics.Topics.{Topics}
use Rattle.part_steps.specs.declared.part_step.PartStep.TheVariants as part
use Rattle.core_views.specs.declared.place.Place.TheVariants as place
use Rattle.core_views.specs.declared.place.SlotField.{SlotField}
use Rattle.core_views.specs.declared.place.SlotField.TheVariants.{Base, Pages, Host, Flags}
use Rattle.core_views.specs.declared.sizes.Sizes.{Sizes}
use Rattle.core_views.specs.declared.trace.Command.TheVariants.{Access}
use Rattle.core_views.specs.declared.trace.Line.{Line}
use Rattle.core_views.specs.declared.trace.Op.{Op}
use Rattle.core_views.specs.declared.trace.Op.TheVariants.{Read}
use Rattle.core_views.specs.declared.trace.Slot.{Slot as SlotOf}
use Rattle.core_views.specs.declared.topics.OwnedPage.{OwnedPage}
use Rattle.core_views.specs.Held.{Held}
use Rattle.spte_words.specs.declared.area.Area.{Area}
use Rattle.spte_words.specs.declared.area.Area.TheVariants as area
use Rattle.spte_words.specs.Areas.{content_index, pool_index}
use Rattle.spte_words.specs.Flags.{flags_live, flags_read_only}
use Rattle.part_steps.specs.declared.part_step.PartStep.{PartStep}
use Rattle.mmu_core.specs.forms.access.Cached.{frame_used}
use Rattle.mmu_core.specs.forms.access.AccessSteps.{access_note, access_part, task_by, touch_of}
use Rattle.mmu_core.specs.forms.access.FaultSteps.{fault_part}
use Rattle.mmu_core.specs.declared.claim.FreeMap.TheVariants as free
use Rattle.part_steps.specs.SlotWords.{field_number, live_at, slot_at, slot_index}
use Rattle.part_steps.specs.Tasks.{map_of}
use Rattle.mmu_core.specs.invariant.TopicsInvariant.{TopicsInvariant}
use Rattle.mmu_core.specs.invariant.SlotSetPart.{IsLiveIn}
use Rattle.mmu_core.specs.machine.View.{View, part_stepped, stepped, words_after}
use Rattle.mmu_core.proofs.orders.ClaimMade.{claim_is}
use Rattle.mmu_core.proofs.lines.EitherPlace.{either_place}
use Rattle.mmu_core.proofs.machine.PartStepping.{IsPart, brings, is_publish, is_told, never_told, changes_word, quiet_told}
use Rattle.mmu_core.proofs.words.PartWords.{fill_elsewhere}
use Rattle.mmu_core.proofs.orders.ShareMade.{share_is}
use Rattle.mmu_core.proofs.words.SlotFields.{is_number, same_slot}

-- Each word of a slot that is live in the slot set of a page stays as it is.
pub record LiveStays (set : ℕ) (before after : ℕ → ℕ) : Type 0 where
  pub each : (id : ℕ) (f : SlotField) → id ≤ 31 → live_at before set id ≡ true → after (slot_index set id f) ≡ before (slot_index set id f)

-- A slot that is live stays live, and the same.
module _ (set : ℕ) (before after : ℕ → ℕ) (id : ℕ) (stays : LiveStays set before after) (low : id ≤ 31) (live : live_at before set id ≡ true) where
  pub still_live : live_at after set id ≡ true
  still_live = ap flags_live (stays.each id Flags low live) ∙ live

  pub slot_stays : slot_at after set id ≡ slot_at before set id
  slot_stays =
      same_slot (slot_at after set id) (slot_at before set id) (stays.each id Base low live) (stays.each id Pages low live)
      (stays.each id Host low live) (ap flags_read_only (stays.each id Flags low live))

pub live_in_stays : (set : ℕ) (before after : ℕ → ℕ) (id : ℕ) (slot : SlotOf) → LiveStays set before after → IsLiveIn before set id slot
    → IsLiveIn after set id slot
live_in_stays set before after id slot stays L =
    record { low = L.low; live = still_live set before after id stays L.low L.live; is = slot_stays set before after id stays L.low L.live ∙ L.is }

-- Each word of a page is as it was.
abbrev pub SetStays : ℕ → (ℕ → ℕ) → (ℕ → ℕ) → Type 0
SetStays set before after = (j : ℕ) → j < 512 → after (pool_index set j) ≡ before (pool_index set j)

pub words_live : (set : ℕ) (before after : ℕ → ℕ) → SetStays set before after → LiveStays set before after
words_live set before after stays = record { each = λ id f low live. let small = is_number f in stays (4 * id + field_number f) (omega (arith, low, small)) }

-- The words of the page that an actor owns stay.
abbrev pub OwnedStays : (ℕ → ℕ) → (ℕ → ℕ) → Held → Type 0
OwnedStays before after h = (o : OwnedPage) → h.topics.owned ≡ Some o → SetStays o.page before after

-- No step of a part stores in the published slot set.
pub published_stays : (z : Sizes) (v : View) (a : ℕ) (step : PartStep) (note : ℕ) → IsPart z v a step → TopicsInvariant z v
    → SetStays (v.words area.Slots 0) (v.words area.Pool) ((part_stepped a step note v).words area.Pool)
published_stays z v a step note S I = fill_elsewhere z v a step note S I

pub part_live_stays : (z : Sizes) (v : View) (a : ℕ) (step : PartStep) (note : ℕ) → IsPart z v a step → TopicsInvariant z v
    → LiveStays (v.words area.Slots 0) (v.words area.Pool) ((part_stepped a step note v).words area.Pool)
part_live_stays z v a step note S I =
    words_live (v.words area.Slots 0) (v.words area.Pool) ((part_stepped a step note v).words area.Pool) (published_stays z v a step note S I)

-- The step of a part that an access makes at a place, if it makes one, is one that its actor may make.
abbrev pub MakesParts : Sizes → View → ℕ → AccessPlace → ℕ → Type 0
MakesParts z v a p gfn = (step : PartStep) → access_part p gfn (v.hand a).topics ≡ Some step → IsPart z v a step

-- What is so of the words after the step of a part, and after a touch, is so after each step of an access.
pub behind_access : (P : (Area → ℕ → ℕ) → Type 0) (v : View) (a : ℕ) (line : Line) (p : AccessPlace) (gfn word : ℕ) (op : Op)
    → ((step : PartStep) (note : ℕ) → access_part p gfn (v.hand a).topics ≡ Some step → P (part_stepped a step note v).words)
    → ((index : ℕ) → P (words_after (touch_of op index) v.words))
    → P (stepped a line (Access gfn word op) (place.Access p) v).words
behind_access P v a line p gfn word op part touch = by (access_part p gfn h.topics) (λ step is. part step (access_note p) is)
  where
    h : Held
    h = v.hand a

    index : ℕ
    index = content_index (map_of h.state.sizes) (frame_used gfn h.state) word

    by : (o : Option PartStep) → ((step : PartStep) → o ≡ Some step → P (part_stepped a step (access_note p) v).words)
        → P (words_after (task_by o h (access_note p) (touch_of op index)) v.words)
    by None each = touch index
    by (Some step) each = each step refl

-- A touch stores in the content alone.
pub touch_leaves_pool : (words : Area → ℕ → ℕ) (op : Op) (index : ℕ) → words_after (touch_of op index) words area.Pool ≡ words area.Pool
touch_leaves_pool words Read index = refl
touch_leaves_pool words _ index = refl

pub touch_leaves_slots : (words : Area → ℕ → ℕ) (op : Op) (index : ℕ) → words_after (touch_of op index) words area.Slots ≡ words area.Slots
touch_leaves_slots words Read index = refl
touch_leaves_slots words _ index = refl

pub touch_leaves_role : (words : Area → ℕ → ℕ) (op : Op) (index : ℕ) → words_after (touch_of op index) words area.Role ≡ words area.Role
touch_leaves_role words Read index = refl
touch_leaves_role words _ index = refl

pub touch_leaves_host : (words : Area → ℕ → ℕ) (op : Op) (index : ℕ) → words_after (touch_of op index) words area.Host ≡ words area.Host
touch_leaves_host words Read index = refl
touch_leaves_host words _ index = refl

-- A step of an access brings its page in at one place alone.
abbrev pub is_bring : AccessPlace → Bool
is_bring (access.Fault fault.Bring) = true
is_bring _ = false

-- No step of an access is a publication.
abbrev IsPlain : PartStep → Type 0
IsPlain step = (is_told step ≡ false) × (brings step ≡ false)

plain_by_fault : (p : FaultPlace) (gfn : ℕ) (t : Topics) → is_bring (access.Fault p) ≡ false → IsPlain (fault_part p gfn t)
plain_by_fault fault.Bring gfn t other = absurd (cc other)
plain_by_fault (fault.Find begun) gfn t other = either_place IsPlain begun part.Slot part.Slots (refl, refl) (refl, refl)
plain_by_fault fault.Share gfn t other = share_is IsPlain t.hold (refl, refl) (refl, refl)
plain_by_fault (fault.Check stage.Count) gfn t other = (refl, refl)
plain_by_fault (fault.Check stage.Start) gfn t other = (refl, refl)
plain_by_fault (fault.Check stage.End) gfn t other = (refl, refl)
plain_by_fault (fault.Check stage.Seq) gfn t other = (refl, refl)
plain_by_fault (fault.Walk rooted) gfn t other = either_place IsPlain rooted (part.Walk gfn) part.Root (refl, refl) (refl, refl)
plain_by_fault (fault.FastFind begun) gfn t other = either_place IsPlain begun part.Slot part.Slots (refl, refl) (refl, refl)
plain_by_fault (fault.FastWalk rooted) gfn t other = either_place IsPlain rooted (part.Walk gfn) part.Root (refl, refl) (refl, refl)
plain_by_fault (fault.Claim begun) gfn t other = claim_is IsPlain free.Pages begun t.claim (refl, refl) (λ word. (refl, refl))
plain_by_fault _ gfn t other = (refl, refl)

untold_by_fault : (p : FaultPlace) (gfn : ℕ) (t : Topics) → is_told (fault_part p gfn t) ≡ false
untold_by_fault fault.Bring gfn t = refl
untold_by_fault p gfn t = (plain_by_fault p gfn t refl).0

pub access_untold : (p : AccessPlace) (gfn : ℕ) (t : Topics) (step : PartStep) → access_part p gfn t ≡ Some step → is_told step ≡ false
access_untold p gfn t step is = by (access_part p gfn t) step is (none p)
  where
    never : Option PartStep → Bool
    never None = false
    never (Some step) = is_told step

    by : (o : Option PartStep) (step : PartStep) → o ≡ Some step → never o ≡ false → is_told step ≡ false
    by o step is e = sym (ap never is) ∙ e

    none : (p : AccessPlace) → never (access_part p gfn t) ≡ false
    none (access.Fault p) = untold_by_fault p gfn t
    none _ = refl

pub access_never : (p : AccessPlace) (gfn : ℕ) (t : Topics) (step : PartStep) → access_part p gfn t ≡ Some step → is_publish step ≡ false
access_never p gfn t step is = never_told step (access_untold p gfn t step is)

-- Nor does one change a host word, but the one that brings the page in.
pub access_quiet : (p : AccessPlace) (gfn : ℕ) (t : Topics) (step : PartStep) → access_part p gfn t ≡ Some step → is_bring p ≡ false → changes_word step ≡ false
access_quiet p gfn t step is other = quiet_told step (access_untold p gfn t step is) (sym (ap some_brings is) ∙ none p other)
  where
    some_brings : Option PartStep → Bool
    some_brings None = false
    some_brings (Some step) = brings step

    none : (p : AccessPlace) → is_bring p ≡ false → some_brings (access_part p gfn t) ≡ false
    none (access.Fault p) other = (plain_by_fault p gfn t other).1
    none _ other = refl
