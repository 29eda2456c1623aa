-- A line that changes a host page at its places: where it goes on to and ends, and how many steps it has left.
use Rattle.part_steps.specs.PartTasks.{word_looked}
use Rattle.std.proofs.Props.{props}
use Rattle.mmu_core.proofs.forms.access.AccessEnds.{AreFed}
use Rattle.std.proofs.Common.{◌≡◌, ◌≤◌, ◌<◌, ◌+◌, ◌-◌, ◌*◌, ◌∷◌, [], ℕ, Bool, true, false, refl, arith, inl, inr}
use Rattle.std.specs.Prelude.{◌==◌, if◌then◌else◌, None}
use Rattle.core_views.specs.declared.answer.Answer.{Answer}
use Rattle.core_views.specs.declared.answer.Answer.TheVariants.{Done, Refused}
use Rattle.core_views.specs.declared.answer.Refusal.TheVariants.{NoFrame, OutOfRange, IsHuge}
use Rattle.core_views.specs.declared.event.EventKind.TheVariants.{HostChanged, LookedAtHost}
use Rattle.core_views.specs.declared.place.BeginPlace.TheVariants as begins
use Rattle.core_views.specs.declared.place.EndPlace.TheVariants as ends
use Rattle.core_views.specs.declared.place.HostPlace.{HostPlace}
use Rattle.core_views.specs.declared.place.HostPlace.TheVariants.{Look, Claim, Begin, Copy, Store, Change, End, Watch, Free}
use Rattle.core_views.specs.declared.place.Place.TheVariants as place
use Rattle.core_views.specs.declared.place.SlotField.{SlotField}
use Rattle.core_views.specs.declared.place.SlotField.TheVariants as field
use Rattle.core_views.specs.declared.sizes.Sizes.{Sizes}
use Rattle.core_views.specs.declared.topics.SlotSearch.{SlotSearch}
use Rattle.core_views.specs.declared.topics.Topics.{Topics}
use Rattle.core_views.specs.declared.trace.HostChange.{HostChange}
use Rattle.core_views.specs.Held.{Held}
use Rattle.core_views.specs.HostChanges.{is_own}
use Rattle.part_steps.specs.declared.invalidations.Target.TheVariants as aim
use Rattle.part_steps.specs.declared.part_step.PartStep.TheVariants as part
use Rattle.part_steps.specs.SweepTopics.{has_entry, swept_to}
use Rattle.spte_words.specs.HostWords.{host_present}
use Rattle.mmu_core.specs.declared.outcome.Outcome.{Outcome}
use Rattle.mmu_core.specs.declared.outcome.Outcome.TheVariants.{Goes, Ends}
use Rattle.mmu_core.specs.forms.access.FaultLeft.{find_left}
use Rattle.mmu_core.specs.forms.host.HostKnows.{HostKnows, HostRests}
use Rattle.mmu_core.specs.forms.host.HostSteps.{moves, host_outcome, host_part, host_tells, entry_of, word_put}
use Rattle.mmu_core.specs.forms.host.HostLeft.{copies_left, frees_left, host_left}
use Rattle.mmu_core.specs.lines.PartWaits.{part_waits}
use Rattle.mmu_core.specs.forms.access.SearchLeft.{look_left}
use Rattle.mmu_core.specs.forms.access.AccessSteps.{exiting}
use Rattle.mmu_core.specs.orders.ClaimSteps.{Frames, claim_next, tries_one}
use Rattle.mmu_core.specs.orders.InvalidateKnows.{BeginKnows}
use Rattle.mmu_core.specs.orders.InvalidateLeft.{begin_left, end_left}
use Rattle.spte_words.specs.Areas.{words_of_bits}
use Rattle.core_views.specs.Sizes.{actors_of}
use Rattle.core_views.specs.declared.place.BeginPlace.{BeginPlace}
use Rattle.core_views.specs.declared.place.EndPlace.{EndPlace}
use Rattle.mmu_core.proofs.orders.ClaimMade.{claim_free, claim_made}
use Rattle.mmu_core.proofs.lines.EitherPlace.{each_claim, either_place}
use Rattle.mmu_core.proofs.lines.PartsWait.{neither_waits}
use Rattle.mmu_core.proofs.machine.GoesOn.{GoesUnderWay, GoesWithin}
use Rattle.core_views.specs.declared.trace.Command.{Command}
use Rattle.core_views.specs.declared.trace.Command.TheVariants.{ChangeHost}
use Rattle.mmu_core.proofs.lines.FormLaws.{FormLaws}
use Rattle.mmu_core.proofs.lines.SimplePlaces.{Nothing, OfHost}
use Rattle.mmu_core.specs.forms.host.HostSteps.{after_look, maps_large}

-- ---- where it goes on to

abbrev GoesOn : Outcome → Type 0
GoesOn o = GoesUnderWay o × GoesWithin (place.Host Watch) o

host_goes : (p : HostPlace) (page : ℕ) (h : Held) (v : ℕ) → GoesOn (host_outcome p page h v)
host_goes (Look moving) page h v =
    either_place GoesOn (is_own h.state.sizes h.state.actor page) (after_look moving v) (Ends (Refused OutOfRange))
    (either_place GoesOn (maps_large v) (Ends (Refused IsHuge)) (Goes (place.Host (if moving then Claim false else Begin begins.Exclude)))
    (tt, tt) (tt, λ c. refl)) (tt, tt)
host_goes (Claim begun) page h v =
    each_claim GoesOn (claim_next Frames begun h.state.sizes h.topics.frames.claim v) (place.Host (Claim true)) (place.Host (Begin begins.Exclude))
    (Refused NoFrame) (tt, λ c. refl) (tt, λ c. refl) (tt, tt)
host_goes (End ends.Release) page h v = either_place GoesOn (moves h.topics) (Goes (place.Host Watch)) (Ends Done) (tt, λ c. refl) (tt, tt)
host_goes (End _) page h v = (tt, λ c. refl)
host_goes Free page h v = (tt, tt)
host_goes _ page h v = (tt, λ c. refl)

-- ---- how many steps it has left

look_few : (f : SlotField) → look_left f ≤ 4
look_few field.Flags = omega arith
look_few field.Base = omega arith
look_few field.Pages = omega arith
look_few field.Host = omega arith

pub find_few : (begun : Bool) (search : SlotSearch) → find_left begun search ≤ 129
find_few true search = let few = look_few search.next in omega (arith, few)
find_few false search = omega arith

pub look_some : (f : SlotField) → 0 < look_left f
look_some field.Flags = omega arith
look_some field.Base = omega arith
look_some field.Pages = omega arith
look_some field.Host = omega arith

-- The exchange is made once more where its page was seen absent.
change_few : (present : Bool) → 7 + (if present then 0 else 1) ≤ 8
change_few true = omega arith
change_few false = omega arith

-- What a move has left besides.
frees_few : (moving : Bool) (z : Sizes) → frees_left moving z ≤ 1 + actors_of z
frees_few true z = omega arith
frees_few false z = omega arith

copies_few : (moving : Bool) (z : Sizes) → (if moving then copies_left z None else 0) ≤ 2 * z.words
copies_few true z = omega arith
copies_few false z = omega arith

look_left_few : (moving : Bool) (z : Sizes)
    → (if moving then words_of_bits z.frames + 1 + copies_left z None + frees_left true z else 0) ≤ words_of_bits z.frames + 2 + 2 * z.words + actors_of z
look_left_few true z = omega arith
look_left_few false z = omega arith

tries_few : (tries begun : Bool) (words at : ℕ) → (if tries then 1 else words - (if begun then at else 0) + 1) ≤ words + 1
tries_few true begun words at = omega arith
tries_few false true words at = omega arith
tries_few false false words at = omega arith

-- A sweep of one guest frame has no more left than an entry of each level and the zap of a leaf.
sweep_few : (has : Bool) (start end_ come level : ℕ) → level ≤ 4 → end_ ≤ start + 1 → start ≤ come
    → (if has then 5 * (end_ - come) else 5 * (end_ - come) + level - 4) ≤ 5
sweep_few true start end_ come level most one from = omega (arith, one, from)
sweep_few false start end_ come level most one from = omega (arith, most, one, from)

begin_few : (p : BeginPlace) (y z : Sizes) (page : ℕ) (t : Topics) → t.walk.level ≤ 4 → BeginKnows p y (aim.Page page) t
    → begin_left p z 1 t ≤ 2 * z.vcpus + 143
begin_few (begins.Find begun) y z page t most K = let few = find_few begun t.search in omega (arith, few)
begin_few (begins.Walk true) y z page t most K =
    let own_ = t.invalidations.own in
    let few =
    sweep_few (has_entry t.walk) own_.start own_.end (swept_to true own_.start t.walk) t.walk.level most K.0.of_own.few.0 (K.1 refl).on.from in
    omega (arith, few)
begin_few (begins.Walk false) y z page t most K = let one = K.0.of_own.few.0 in omega (arith, one)
begin_few begins.Zap y z page t most K = let one = K.0.of_own.few.0 in let from = K.1.from in omega (arith, one, from)
begin_few _ y z page t most K = omega arith

end_few : (p : EndPlace) → end_left p ≤ 6
end_few ends.Release = omega arith
end_few _ = omega arith

-- Few beside those of the claim of a frame, of the search of a slot, of the sweep of a guest frame, of two looks at each virtual processor, of the copy, and of
-- a look at each other actor.
pub host_few : (p : HostPlace) (z : Sizes) (page : ℕ) (change : HostChange) (h : Held) → h.topics.walk.level ≤ 4 → HostKnows p page change h
    → host_left p z h.topics ≤ 2 * z.vcpus + 154 + words_of_bits z.frames + 2 * z.words + actors_of z
host_few (Look moving) z page change h most K = let few = look_left_few moving z in omega (arith, few)
host_few (Claim begun) z page change h most K =
    let claim = h.topics.frames.claim in
    let few = tries_few (tries_one begun claim) begun (words_of_bits z.frames) claim.at in omega (arith, few)
host_few (Begin p) z page change h most K =
    let few = begin_few p h.state.sizes z page h.topics most K.1 in
    let copies = copies_few (moves h.topics) z in
    let frees = frees_few (moves h.topics) z in
    omega (arith, few, copies, frees)
host_few Copy z page change h most K = omega arith
host_few Store z page change h most K = omega arith
host_few Change z page change h most K =
    let few = change_few (host_present (word_looked h.topics.host)) in let frees = frees_few (moves h.topics) z in omega (arith, few, frees)
host_few (End p) z page change h most K = let few = end_few p in let frees = frees_few (moves h.topics) z in omega (arith, few, frees)
host_few _ z page change h most K = omega arith

pub some_host_left : (p : HostPlace) (z : Sizes) (t : Topics) → 0 < host_left p z t
some_host_left (Begin p) z t = omega arith
some_host_left (End ends.Release) z t = omega arith
some_host_left (End _) z t = omega arith
some_host_left _ z t = omega arith

-- ---- how it ends

-- Its first step doesn't wait.
look_goes : (moving : Bool) (page : ℕ) (change : HostChange) (h : Held) (v : ℕ) → part_waits (host_part (Look moving) page change h) h.topics v ≡ false
look_goes moving page change h v = neither_waits (is_own h.state.sizes h.state.actor page) (part.Host page) part.Seq h.topics v refl refl

-- Nor does the step that ends it.
pub host_free : (p : HostPlace) (page : ℕ) (change : HostChange) (h : Held) (v : ℕ) (answer : Answer) → HostRests p h → host_outcome p page h v ≡ Ends answer
    → part_waits (host_part p page change h) h.topics v ≡ false
host_free (Look moving) page change h v answer R e = look_goes moving page change h v
host_free (Claim begun) page change h v answer R e =
    claim_free h.state.sizes Frames begun h.topics v _ _ _ (claim_made h.state.sizes Frames begun h.topics v) (place.Host (Claim true))
    (place.Host (Begin begins.Exclude)) (Refused NoFrame) answer e
host_free (Begin p) page change h v answer R e = absurd (cc e)
host_free Change page change h v answer R e = absurd (cc e)
host_free (End ends.Release) page change h v answer R e = R
host_free (End _) page change h v answer R e = absurd (cc e)
host_free Free page change h v answer R e = refl
host_free _ page change h v answer R e = absurd (cc e)

-- It tells no exit for want of a page.
pub host_fed : (p : HostPlace) (page : ℕ) (change : HostChange) (h : Held) (v : ℕ) → AreFed (host_tells p page change h v)
host_fed (Claim begun) page change h v =
    each_claim (λ o. AreFed (exiting o)) (claim_next Frames begun h.state.sizes h.topics.frames.claim v) (place.Host (Claim true))
    (place.Host (Begin begins.Exclude)) (Refused NoFrame) tt tt (λ e. absurd (cc e), tt)
host_fed (Look moving) page change h v = either_place AreFed (is_own h.state.sizes h.state.actor page) (LookedAtHost page ∷ exiting (after_look moving v)) [] (
  λ e. absurd (cc e),
  either_place (λ o. AreFed (exiting o)) (maps_large v) (Ends (Refused IsHuge))
      (Goes (place.Host (if moving then Claim false else Begin begins.Exclude))) (λ e. absurd (cc e), tt) tt,
) tt
host_fed Change page change h v =
    either_place AreFed (v == word_looked h.topics.host) (HostChanged page (entry_of (word_put change h.topics)) ∷ []) [] (λ e. absurd (cc e), tt) tt
host_fed _ page change h v = tt

-- ---- what it knows is a proposition

pub host_knows_prop : (p : HostPlace) (page : ℕ) (change : HostChange) (h : Held) → IsProp (HostKnows p page change h)
host_knows_prop (Begin begins.Exclude) page change h = hlevel props
host_knows_prop (Begin (begins.Find begun)) page change h = hlevel props
host_knows_prop (Begin (begins.Walk rooted)) page change h = hlevel props
host_knows_prop (Begin _) page change h = hlevel props
host_knows_prop (End ends.Exclude) page change h = hlevel props
host_knows_prop (End _) page change h = hlevel props
host_knows_prop _ page change h = hlevel props

pub host_rests_prop : (p : HostPlace) (h : Held) → IsProp (HostRests p h)
host_rests_prop (End ends.Release) h = hlevel props
host_rests_prop (End _) h = hlevel props
host_rests_prop _ h = hlevel props

-- ---- all that laws ask of it

pub host_laws : (p : HostPlace) (c : Command) → FormLaws (place.Host p) c
host_laws p (ChangeHost page change) = record {
  goes = λ h v begun. (host_goes p page h v).0;
  within = λ h v. (host_goes p page h v).1;
  knows_for = λ h begun K. refl;
  rests_for = λ h begun R. refl;
  simple = λ h v is. absurd is;
  rests = λ h other. inr (record {
    step = host_part p page change h;
    at = refl;
    more = HostRests p h;
    more_prop = host_rests_prop p h;
    needs = λ R. R;
    rests = λ N M. (N, M);
  });
  knows_prop = λ h other. host_knows_prop p page change h;
  stays = λ z before set after other h own e. tt;
  accepts = λ z pool set h e. tt;
  accepts_prop = λ z slots. hlevel props;
  free = λ h v answer R e. host_free p page change h v answer R.1 e;
  told = λ h v. OfHost p page change;
  few = λ z pool set h holds K S most.
      let few = host_few p h.state.sizes page change h most K in let actors = S.actors in let words = S.words.1 in omega (arith, few, actors, words);
  some = λ z t begun. some_host_left p z t;
}
host_laws p _ = record {
  goes = λ h v begun. tt;
  within = λ h v command. refl;
  knows_for = λ h begun K. absurd K;
  rests_for = λ h begun R. absurd R;
  simple = λ h v is. absurd is;
  rests = λ h other. inl (λ R. absurd R);
  knows_prop = λ h other. hlevel props;
  stays = λ z before set after other h own e. absurd e;
  accepts = λ z pool set h e. tt;
  accepts_prop = λ z slots. hlevel props;
  free = λ h v answer R e. absurd R;
  told = λ h v. Nothing;
  few = λ z pool set h holds K S most. absurd K;
  some = λ z t begun. some_host_left p z t;
}
