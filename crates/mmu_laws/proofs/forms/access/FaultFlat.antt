-- What the steps of a fault owe flat memory.
use Rattle.core_views.specs.Lawful.{may_look}
use Rattle.std.proofs.Common.{◌≡◌, ◌+◌, ◌<◌, ℕ, [], refl, sym, subst, ap, ◌∙◌, arith}
use Rattle.std.specs.Prelude.{Bool, true, false, ◌==◌, ◌&&◌, nat_lt, not, if◌then◌else◌, Some}
use Rattle.core_views.specs.declared.place.FaultPlace.{FaultPlace}
use Rattle.core_views.specs.declared.place.FaultPlace.TheVariants.{Begin, Snapshot, Find, Host, Bring, Share, Check, Walk, Claim, Fill}
use Rattle.core_views.specs.declared.place.FaultPlace.TheVariants.{Role, Link, Give, Leaf, Unshare, End, FastBegin, FastFind, FastWalk, Fix, Mark}
use Rattle.core_views.specs.declared.place.AccessPlace.TheVariants.{Fault}
use Rattle.core_views.specs.declared.place.Place.TheVariants as place
use Rattle.core_views.specs.declared.sizes.Sizes.{Sizes}
use Rattle.core_views.specs.declared.topics.Topics.{Topics}
use Rattle.core_views.specs.declared.trace.Command.TheVariants.{Access}
use Rattle.core_views.specs.declared.trace.Line.{Line}
use Rattle.core_views.specs.declared.trace.Op.{Op}
use Rattle.core_views.specs.Flat.{Facts, LineUnderWay, Notes}
use Rattle.core_views.specs.Past.{Past}
use Rattle.core_views.specs.Host.{is_denied, with_entry}
use Rattle.core_views.specs.Lawful.{SawPage, SawForbidden}
use Rattle.core_views.specs.Slots.{is_write, contains}
use Rattle.spte_words.specs.declared.area.Area.{Area}
use Rattle.spte_words.specs.declared.area.Area.TheVariants as area
use Rattle.spte_words.specs.Entries.{kind_of}
use Rattle.spte_words.specs.HostWords.{host_allows_write}
use Rattle.part_steps.specs.declared.part_step.PartStep.TheVariants as part
use Rattle.mmu_core.specs.declared.claim.ClaimNext.{ClaimNext}
use Rattle.mmu_core.specs.declared.share.ShareNext.{ShareNext}
use Rattle.mmu_core.specs.forms.access.AccessSteps.{access_note, access_task}
use Rattle.mmu_core.specs.forms.access.FaultKnows.{FaultKnows}
use Rattle.mmu_core.specs.declared.claim.FreeMap.TheVariants.{Pages}
use Rattle.mmu_core.specs.forms.access.FaultSteps.{after_claim, after_share, check_next, claim_next, fault_part, find_next}
use Rattle.mmu_core.specs.forms.access.FaultSteps.{share_next, walk_next, exchange_lost, fast_find_next, fast_walk_next, is_last_word, over_next, put_next}
use Rattle.mmu_laws.specs.flat.FlatInvariant.{NotedAt, NotedLook, NotedPage}
use Rattle.mmu_core.specs.forms.host.HostSteps.{entry_of}
use Rattle.mmu_core.specs.invariant.Invariant.{Invariant}
use Rattle.part_steps.specs.PartTasks.{own_index, words_filled}
use Rattle.part_steps.specs.Tasks.{kind_of_task}
use Rattle.mmu_core.specs.invariant.TopicsInvariant.{TopicsInvariant}
use Rattle.mmu_core.specs.machine.View.{View, answer_in, words_after}
use Rattle.mmu_laws.proofs.forms.access.BringFlat.{brings}
use Rattle.mmu_laws.proofs.forms.access.FindFlat.{find_noted}
use Rattle.mmu_core.proofs.lines.EitherPlace.{either_place}
use Rattle.mmu_laws.proofs.flat.FlatSteps.{Goes, Ready, StepGoes, goes_by, part_refines, refined_slots}
use Rattle.mmu_core.proofs.machine.PartStepping.{IsPart}
use Rattle.mmu_core.proofs.words.PartTopics.{part_topics_is}
use Rattle.mmu_core.proofs.machine.Stepping.{IsStep}
use Rattle.part_steps.specs.SlotWords.{page_of}
use Rattle.part_steps.specs.StayTopics.{may_search}
use Rattle.part_steps.specs.PageTopics.{searched}
use Rattle.part_steps.specs.ControlTopics.{at_set}
use Rattle.part_steps.specs.TopicSteps.{topics_after}
use Rattle.core_views.specs.declared.topics.SlotSearch.{SlotSearch}
use Rattle.core_views.specs.declared.topics.Stay.{Stay}
use Rattle.mmu_core.proofs.slots.LiveStays.{access_never, access_quiet, is_bring}
use Rattle.mmu_core.proofs.held.OldSets.{held_are_slots}
use Rattle.mmu_laws.proofs.forms.access.FaultNotes.{Noted, check_noted, claim_noted, entry_noted, host_noted, share_noted, walk_noted}
use Rattle.mmu_laws.proofs.forms.access.FaultEnds.{ends}
use Rattle.mmu_laws.proofs.forms.access.FaultNotes.{fast_find_noted, fast_walk_noted, over_noted, put_noted}

module _ (z : Sizes) (v : View) (a : ℕ) (line : Line) (gfn word : ℕ) (op : Op) (facts : Facts) (past : Past) (u : LineUnderWay) where
  abbrev held : Topics
  held = (v.hand a).topics

  -- what the step of a fault's place makes of the words, what it answers, and what is held after it
  abbrev words_behind : FaultPlace → Area → ℕ → ℕ
  words_behind p = words_after (access_task (Fault p) (v.hand a) gfn word op) v.words

  abbrev answered : FaultPlace → ℕ
  answered p = answer_in (access_task (Fault p) (v.hand a) gfn word op) v.words

  abbrev held_behind : FaultPlace → Topics
  held_behind p = topics_after (v.hand a).state.sizes (kind_of_task (v.hand a).state.sizes (access_task (Fault p) (v.hand a) gfn word op)) held (answered p)

  -- A step that tells nothing, after which the line has noted what its next place asks.
  quiet : (p next : FaultPlace) → is_bring (Fault p) ≡ false → IsPart z v a (fault_part p gfn held) → Invariant z v → TopicsInvariant z v
      → Ready z v line (Access gfn word op) (place.Access (Fault p)) held facts u
      → NotedAt (words_behind p area.Pool) next gfn op (held_behind p) u.notes
      → Goes z (v.hand a).state.actor line (Access gfn word op) (words_behind p) (place.Access (Fault next)) (held_behind p) [] facts past u
  quiet p next other S I P R noted =
      goes_by z v a line (Access gfn word op) (access_task (Fault p) (v.hand a) gfn word op) facts past u
      (part_refines z v a (fault_part p gfn held) (access_note (Fault p)) facts S P (access_never (Fault p) gfn held (fault_part p gfn held) refl)
      (access_quiet (Fault p) gfn held (fault_part p gfn held) refl other) R.refines) (place.Access (Fault next)) (R.under.0, (R.under.1.0, noted))

  -- After an exchange for a leaf, won or lost.
  puts : (p : FaultPlace) (fast marks : Bool) (lost : FaultPlace) (won : Bool) → is_bring (Fault p) ≡ false → IsPart z v a (fault_part p gfn held)
      → Invariant z v → TopicsInvariant z v → Ready z v line (Access gfn word op) (place.Access (Fault p)) held facts u
      → NotedAt (words_behind p area.Pool) lost gfn op (held_behind p) u.notes
      → Goes z (v.hand a).state.actor line (Access gfn word op) (words_behind p)
      (place.Access (Fault (if won then put_next fast marks else lost))) (held_behind p) [] facts past u
  puts p fast marks lost won other S I P R noted =
      quiet p (if won then put_next fast marks else lost) other S I P R
      (either_place (Noted (words_behind p area.Pool) gfn op (held_behind p) u.notes) won (put_next fast marks) lost
      (put_noted (words_behind p area.Pool) gfn op (held_behind p) u.notes fast marks) noted)

  -- The line looks at the slots: those of the published set, which its search holds now, and none of them is passed yet.
  looks : FaultKnows (Find false) (v.hand a).state.sizes gfn (is_write op) held
      → Ready z v line (Access gfn word op) (place.Access (Fault (Find false))) held facts u
      → StepGoes z v a line (Access gfn word op) (place.Access (Fault (Find false))) facts past u
  looks K R = record {
    allowed = (R.under.1.0.0, tt);
    refines = R.refines;
    under = (
      R.under.0,
      (
        R.under.1.0,
        record {
          set = v.words area.Slots 0;
          held = set_is;
          noted = ap Some
              (refined_slots z (v.words area.Slots 0) (v.words area.Pool) (v.words area.Host) (v.words area.Content) (v.words area.Pause 0) facts R.refines);
          passed = λ k d lt low. absurd (omega (arith, first, low));
        },
      ),
    );
  }
    where
      behind : (held_behind (Find false)).search ≡ at_set (may_search held.stay held.hold) held.search (v.words area.Slots 0)
      behind = ap (λ (t : Topics). t.search) (part_topics_is (v.hand a).state.sizes part.Slots (own_index (v.hand a)) held 0 (answered (Find false)) tt)

      first : (held_behind (Find false)).search.id ≡ 0
      first = ap (λ (s : SlotSearch). s.id) behind

      may : may_search held.stay held.hold ≡ true
      may = ap (λ (stay : Stay). may_search stay held.hold) K.0.inside.section

      set_is : (held_behind (Find false)).search.set ≡ Some (v.words area.Slots 0)
      set_is = ap (λ (s : SlotSearch). s.set) behind ∙ ap (λ b. (at_set b held.search (v.words area.Slots 0)).set) may

  -- The search loads the next word of a slot.
  searches : IsStep z v a line (Access gfn word op) (place.Access (Fault (Find true))) → IsPart z v a part.Slot → Invariant z v → TopicsInvariant z v
      → FaultKnows (Find true) (v.hand a).state.sizes gfn (is_write op) held
      → Ready z v line (Access gfn word op) (place.Access (Fault (Find true))) held facts u
      → StepGoes z v a line (Access gfn word op) (place.Access (Fault (Find true))) facts past u
  searches S part_ I P K R =
      quiet (Find true) (find_next gfn (is_write op) held.search.next (searched held.search (answered (Find true)))) refl part_ I P R
      (find_noted z (v.words area.Pool) gfn (answered (Find true)) op held.search.next held.search (held_behind (Find true)) u.notes
      (λ k is. held_are_slots z v a k S.there P I.set_part.slots is) (P.searches a S.there).loaded (K.1 refl).1 refl search R.under.1.0.1 R.under.1.1)
    where
      search : (held_behind (Find true)).search ≡ searched held.search (answered (Find true))
      search =
          ap (λ (t : Topics). t.search) (part_topics_is (v.hand a).state.sizes part.Slot (own_index (v.hand a)) held 0 (answered (Find true)) tt)
          ∙ ap (λ b. if b then searched held.search (answered (Find true)) else held.search) (K.1 refl).0

  -- The page that it has found, and the notes once it looks at the host's entry of it.
  abbrev page_found : ℕ
  page_found = page_of held.search.slot gfn

  abbrev noted_entry : Notes
  noted_entry = record u.notes { host = with_entry page_found (facts.host page_found) u.notes.host }

  -- Whether the host's entry denies the operation, its word says.
  denied_is : Ready z v line (Access gfn word op) (place.Access (Fault Host)) held facts u → page_found < z.pages
      → is_denied op (facts.host page_found) ≡ (is_write op && not (host_allows_write (v.words area.Host page_found)))
  denied_is R low = ap (is_denied op) (R.refines.host page_found low)

  sees_page : Ready z v line (Access gfn word op) (place.Access (Fault Host)) held facts u → is_denied op (facts.host page_found) ≡ false
      → SawPage noted_entry gfn op
  sees_page R allows =
      let N = R.under.1.1 in
      record {
        runs = R.under.1.0.1;
        slots = N.slots;
        noted = N.noted;
        page = page_found;
        behind = N.behind;
        entry = facts.host page_found;
        looked = entry_noted page_found (facts.host page_found) u.notes.host;
        allows = allows;
      }

  sees_forbidden : Ready z v line (Access gfn word op) (place.Access (Fault Host)) held facts u → is_denied op (facts.host page_found) ≡ true
      → SawForbidden noted_entry gfn op
  sees_forbidden R forbids =
      let N = R.under.1.1 in
      record {
        runs = R.under.1.0.1;
        slots = N.slots;
        noted = N.noted;
        page = page_found;
        behind = N.behind;
        entry = facts.host page_found;
        looked = entry_noted page_found (facts.host page_found) u.notes.host;
        forbids = forbids;
      }

  -- The word that it has noted is the one that it holds.
  sees_look : IsPart z v a (part.Host page_found) → Ready z v line (Access gfn word op) (place.Access (Fault Host)) held facts u → page_found < z.pages
      → is_denied op (facts.host page_found) ≡ false → NotedLook noted_entry (held_behind Host).host gfn op
  sees_look S R low allows =
      subst (λ host. NotedLook noted_entry host gfn op) (sym at) (record {
        slots = N.slots;
        noted = N.noted;
        behind = N.behind;
        looked = entry_noted page_found (facts.host page_found) u.notes.host ∙ ap Some is;
        allows = ap (is_denied op) (sym is) ∙ allows;
      })
    where
      N : NotedPage u.notes held.search gfn op
      N = R.under.1.1

      is : facts.host page_found ≡ entry_of (v.words area.Host page_found)
      is = R.refines.host page_found low

      at : (held_behind Host).host ≡ Some (record { page = page_found; word = v.words area.Host page_found })
      at = ap (λ (t : Topics). t.host) (part_topics_is (v.hand a).state.sizes (part.Host page_found) (own_index (v.hand a)) held 0 (answered Host) tt)

  -- The line looks at the host word of the page, which allows the access or forbids the write.
  looks_at_host : IsPart z v a (part.Host page_found) → Ready z v line (Access gfn word op) (place.Access (Fault Host)) held facts u
      → StepGoes z v a line (Access gfn word op) (place.Access (Fault Host)) facts past u
  looks_at_host S R =
      let low : page_found < z.pages = subst (λ (y : Sizes). page_found < y.pages) S.sizes S.needs.0 in
      record {
        allowed = (ap may_look R.under.1.0.0, tt);
        refines = R.refines;
        under = (
          R.under.0,
          (
            R.under.1.0,
            host_noted (v.words area.Pool) gfn op (held_behind Host) noted_entry (is_write op) (answered Host)
                (λ e. sees_page R (denied_is R low ∙ e)) (λ e. sees_forbidden R (denied_is R low ∙ e)) (λ e. sees_look S R low (denied_is R low ∙ e)),
          ),
        );
      }

  pub fault_goes : (p : FaultPlace) → IsStep z v a line (Access gfn word op) (place.Access (Fault p)) → IsPart z v a (fault_part p gfn held)
      → Invariant z v → TopicsInvariant z v
      → FaultKnows p (v.hand a).state.sizes gfn (is_write op) held → Ready z v line (Access gfn word op) (place.Access (Fault p)) held facts u
      → StepGoes z v a line (Access gfn word op) (place.Access (Fault p)) facts past u
  fault_goes Begin S part_ I P K R = quiet Begin Snapshot refl part_ I P R tt
  fault_goes Snapshot S part_ I P K R = quiet Snapshot (Find false) refl part_ I P R tt
  fault_goes (Find false) S part_ I P K R = looks K R
  fault_goes (Find true) S part_ I P K R = searches S part_ I P K R
  fault_goes Host S part_ I P K R = looks_at_host part_ R
  fault_goes Bring S part_ I P K R = brings z v a line gfn word op facts past u S.command_is K part_ P R
  fault_goes Share S part_ I P K R =
      let next : ShareNext = share_next held.hold (answered Share) in
      quiet Share (after_share next) refl part_ I P R (share_noted (words_behind Share area.Pool) gfn op (held_behind Share) u.notes R.under.1.1 next)
  fault_goes (Check at) S part_ I P K R =
      quiet (Check at) (check_next at gfn held (answered (Check at))) refl part_ I P R
      (check_noted (words_behind (Check at) area.Pool) gfn op (held_behind (Check at)) u.notes R.under.1.1 at held (answered (Check at)))
  fault_goes (Walk false) S part_ I P K R = quiet (Walk false) (Walk true) refl part_ I P R R.under.1.1
  fault_goes (Walk true) S part_ I P K R =
      quiet (Walk true)
      (walk_next (kind_of held.walk.level (answered (Walk true))) (v.hand a).state.sizes gfn (is_write op) held (answered (Walk true))) refl part_ I P R
      (walk_noted (words_behind (Walk true) area.Pool) gfn op (held_behind (Walk true)) u.notes R.under.1.1 (kind_of held.walk.level (answered (Walk true)))
      (v.hand a).state.sizes (is_write op) held (answered (Walk true)))
  fault_goes (Claim begun) S part_ I P K R =
      let next : ClaimNext = claim_next Pages begun (v.hand a).state.sizes held.claim (answered (Claim begun)) in
      quiet (Claim begun) (after_claim next) refl part_ I P R
      (claim_noted (words_behind (Claim begun) area.Pool) gfn op (held_behind (Claim begun)) u.notes R.under.1.1 next)
  fault_goes Fill S part_ I P K R =
      quiet Fill (if nat_lt (words_filled held.owned + 1) 512 then Fill else Role) refl part_ I P R
      (either_place (Noted (words_behind Fill area.Pool) gfn op (held_behind Fill) u.notes) (nat_lt (words_filled held.owned + 1) 512) Fill Role R.under.1.1
      R.under.1.1)
  fault_goes Role S part_ I P K R = quiet Role Link refl part_ I P R R.under.1.1
  fault_goes Link S part_ I P K R =
      let x : ℕ = answered Link in
      let lost : FaultPlace = Give (exchange_lost false (v.hand a).state.sizes gfn held.walk x) in
      quiet Link (if x == held.walk.entry then Walk true else lost) refl part_ I P R
      (either_place (Noted (words_behind Link area.Pool) gfn op (held_behind Link) u.notes) (x == held.walk.entry) (Walk true) lost R.under.1.1 tt)
  fault_goes (Give e) S part_ I P K R = quiet (Give e) (Unshare e) refl part_ I P R R.under.1.1
  fault_goes (Leaf writes) S part_ I P K R =
      let x : ℕ = answered (Leaf writes) in
      puts (Leaf writes) false (writes && held.search.logged) (Unshare (exchange_lost false (v.hand a).state.sizes gfn held.walk x)) (x == held.walk.entry)
      refl part_ I P R tt
  fault_goes FastBegin S part_ I P K R = quiet FastBegin (FastFind false) refl part_ I P R tt
  fault_goes (FastFind false) S part_ I P K R = record { allowed = (R.under.1.0.0, tt); refines = R.refines; under = (R.under.0, (R.under.1.0, tt)) }
  fault_goes (FastFind true) S part_ I P K R =
      let s : SlotSearch = searched held.search (answered (FastFind true)) in
      quiet (FastFind true) (fast_find_next gfn held.search.next s) refl part_ I P R
      (fast_find_noted (words_behind (FastFind true) area.Pool) gfn op (held_behind (FastFind true)) u.notes
      (is_last_word held.search.next && contains gfn s.slot) (s.id == 32))
  fault_goes (FastWalk false) S part_ I P K R = quiet (FastWalk false) (FastWalk true) refl part_ I P R tt
  fault_goes (FastWalk true) S part_ I P K R =
      let x : ℕ = answered (FastWalk true) in
      quiet (FastWalk true) (fast_walk_next (kind_of held.walk.level x) held.walk.level held.search.logged x) refl part_ I P R
      (fast_walk_noted (words_behind (FastWalk true) area.Pool) gfn op (held_behind (FastWalk true)) u.notes (kind_of held.walk.level x) held.walk.level
      held.search.logged x)
  fault_goes Fix S part_ I P K R =
      let x : ℕ = answered Fix in
      puts Fix true held.search.logged (End (exchange_lost true (v.hand a).state.sizes gfn held.walk x)) (x == held.walk.entry) refl part_ I P R tt
  fault_goes (Mark fast) S part_ I P K R =
      quiet (Mark fast) (over_next fast true) refl part_ I P R
      (over_noted (words_behind (Mark fast) area.Pool) gfn op (held_behind (Mark fast)) u.notes fast true)
  fault_goes (Unshare e) S part_ I P K R = quiet (Unshare e) (End e) refl part_ I P R R.under.1.1
  fault_goes (End e) S part_ I P K R = ends z v a line gfn word op facts past u e S.command_is part_ I P R
