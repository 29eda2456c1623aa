-- What an actor aims at under the lock alone, and what it has searched for it, it has before each step that loads no word of the slots, too.
use Rattle.std.proofs.Common.{◌≡◌, ℕ, refl, sym, subst, ap, ◌∙◌}
use Rattle.std.specs.Prelude.{Bool, true, false, if◌then◌else◌, Option, Some, None, is_some}
use Rattle.core_views.specs.declared.sizes.Sizes.{Sizes}
use Rattle.core_views.specs.declared.topics.Hold.{Hold}
use Rattle.core_views.specs.declared.topics.Hold.TheVariants.{Shared, Owing, Exclusive}
use Rattle.core_views.specs.declared.topics.OwnedPage.{OwnedPage}
use Rattle.core_views.specs.declared.topics.PageRun.{PageRun}
use Rattle.core_views.specs.declared.topics.Stay.{Stay}
use Rattle.core_views.specs.declared.topics.Stay.TheVariants.{Outside}
use Rattle.core_views.specs.declared.topics.Topics.{Topics}
use Rattle.spte_words.specs.declared.area.Area.TheVariants as area
use Rattle.part_steps.specs.declared.part_step.PartStep.{PartStep}
use Rattle.part_steps.specs.declared.part_step.PartStep.TheVariants as part
use Rattle.part_steps.specs.ControlBits.{has_writer}
use Rattle.part_steps.specs.InvalidationRange.{page_looked, run_aimed, run_of_look}
use Rattle.part_steps.specs.PageTopics.{claimed, filled_more}
use Rattle.part_steps.specs.PartTasks.{part_task}
use Rattle.part_steps.specs.PartTopics.{sequenced}
use Rattle.part_steps.specs.StayTopics.{is_loose, may_search}
use Rattle.mmu_core.specs.invariant.TopicsInvariant.{TopicsInvariant}
use Rattle.mmu_core.specs.machine.View.{View, answer_in}
use Rattle.mmu_core.proofs.held.Invalidating.{topics_now}
use Rattle.mmu_core.proofs.machine.PartStepping.{IsPart}

-- The step loads which slot set is published, or a word of it.
abbrev pub searches_slots : PartStep → Bool
searches_slots part.Slots = true
searches_slots part.Slot = true
searches_slots _ = false

-- An actor that holds `u` now has aimed at the run, and searched for it, as it does now.
pub record WasAimed (t u : Topics) (run : PageRun) : Type 0 where
  pub alone : t.hold ≡ Exclusive
  pub out : t.stay ≡ Outside
  pub aimed : run_aimed t ≡ Some run
  pub search : u.search ≡ t.search
  pub row : u.row ≡ t.row
  pub looked : page_looked u.host ≡ page_looked t.host

-- So is whoever aims at one under the lock alone, and holds a slot set.
abbrev pub IfAimed : Topics → Topics → Type 0
IfAimed t u =
    u.hold ≡ Exclusive → u.stay ≡ Outside → (run : PageRun) → run_aimed u ≡ Some run → (set : ℕ) → u.search.set ≡ Some set → WasAimed t u run

-- Who shares the lock, or tries to, doesn't have it alone.
shares_not : (tried : Bool) (word : ℕ) → ◌≡◌ {A = Hold} (if tried then Owing word else Shared) Exclusive → ⊥
shares_not true word e = cc e
shares_not false word e = cc e

-- What an actor may change after its step it might before, where it owned no page, and where it filled more of the page that it owns.
aimed_before : (owned now_ : Option OwnedPage) (run : Option PageRun) (r : PageRun) → owned ≡ None → (if is_some now_ then None else run) ≡ Some r
    → (if is_some owned then None else run) ≡ Some r
aimed_before (Some o) now_ run r none aimed = absurd (cc none)
aimed_before None (Some n) run r none aimed = absurd (cc aimed)
aimed_before None None run r none aimed = aimed

aimed_filled : (owned : Option OwnedPage) (run : Option PageRun) (value : ℕ) (r : PageRun)
    → (if is_some (filled_more owned value) then None else run) ≡ Some r → (if is_some owned then None else run) ≡ Some r
aimed_filled (Some o) run value r aimed = absurd (cc aimed)
aimed_filled None run value r aimed = aimed

same_aim : (t : Topics) (run : PageRun) → t.hold ≡ Exclusive → t.stay ≡ Outside → run_aimed t ≡ Some run → WasAimed t t run
same_aim t run alone out aimed = record { alone = alone; out = out; aimed = aimed; search = refl; row = refl; looked = refl }

owned_aim : (t : Topics) (run : PageRun) (owned : Option OwnedPage) (retired : Option ℕ) → t.hold ≡ Exclusive → t.stay ≡ Outside → run_aimed t ≡ Some run
    → (u : Topics) → u.search ≡ t.search → u.row ≡ t.row → u.host ≡ t.host → WasAimed t u run
owned_aim t run owned retired alone out aimed u search row host =
    record { alone = alone; out = out; aimed = aimed; search = search; row = row; looked = ap page_looked host }

-- what the step finds
abbrev answer : View → ℕ → ℕ → PartStep → ℕ
answer v a note step = answer_in (part_task step a (v.hand a).topics note) v.words

pub aimed_stays : (z : Sizes) (v : View) (a note : ℕ) (step : PartStep) → searches_slots step ≡ false → IsPart z v a step → TopicsInvariant z v
    → IfAimed (v.hand a).topics (topics_now v a note step)
aimed_stays z v a note part.Slots other S I = absurd (cc other)
aimed_stays z v a note part.Slot other S I = absurd (cc other)
aimed_stays z v a note part.Enter other S I = λ alone out run aimed set held. absurd (cc held)
aimed_stays z v a note part.Leave other S I = λ alone out run aimed set held. absurd (cc held)
aimed_stays z v a note part.Begin other S I = λ alone out run aimed set held. absurd (cc held)
aimed_stays z v a note part.End other S I = λ alone out run aimed set held. absurd (cc held)
aimed_stays z v a note part.Publish other S I = λ alone out run aimed set held. absurd (cc held)
aimed_stays z v a note part.Unshare other S I = λ alone. absurd (cc alone)
aimed_stays z v a note part.Release other S I = λ alone. absurd (cc alone)
aimed_stays z v a note part.Share other S I = λ alone. absurd (shares_not (has_writer (v.words area.Lock 0)) (v.words area.Lock 0) alone)
aimed_stays z v a note part.Exclude other S I = λ alone out run aimed set held.
    let t : Topics = (v.hand a).topics in
    let none = (I.held a S.there).no_set (ap (λ (s : Stay). may_search s t.hold) out ∙ ap (may_search Outside) S.needs) in
    absurd (cc (held, none))
aimed_stays z v a note part.Seq other S I = λ alone out.
    let t : Topics = (v.hand a).topics in
    subst (λ (b : Bool). (run : PageRun) → run_aimed (sequenced b t (v.words area.Seq 0)) ≡ Some run → (set : ℕ)
    → (sequenced b t (v.words area.Seq 0)).search.set ≡ Some set → WasAimed t (sequenced b t (v.words area.Seq 0)) run) (sym (ap is_loose alone))
    (λ run aimed set held. record { alone = alone; out = out; aimed = aimed; search = refl; row = refl; looked = refl })
aimed_stays z v a note (part.Host page) other S I = λ alone. absurd (let none = S.needs.1 in cc (none, alone))
aimed_stays z v a note (part.HostOn page) other S I = λ alone. absurd (let none = S.needs.1 in cc (none, alone))
aimed_stays z v a note part.Bring other S I = λ alone out. absurd (let inside = S.needs.section in cc (inside, out))
aimed_stays z v a note (part.Change new_) other S I = λ alone. absurd (let none = S.needs.0.unlocked in cc (none, alone))
aimed_stays z v a note part.ChangeNext other S I = λ alone. absurd (let none = S.needs.unlocked in cc (none, alone))
aimed_stays z v a note part.Claim other S I = λ alone out run aimed set held.
    let t : Topics = (v.hand a).topics in
    owned_aim t run t.owned t.retired alone out
    (aimed_before t.owned (claimed t.walk t.claim (v.words area.PoolMap t.claim.at)) (run_of_look t.host t.row) run S.needs.0 aimed) _ refl refl refl
aimed_stays z v a note (part.Fill value) other S I = λ alone out run aimed set held.
    let t : Topics = (v.hand a).topics in
    owned_aim t run t.owned t.retired alone out (aimed_filled t.owned (run_of_look t.host t.row) (answer v a note (part.Fill value)) run aimed) _ refl refl refl
aimed_stays z v a note (part.Role value) other S I = λ alone out run aimed set held.
    let t : Topics = (v.hand a).topics in
    owned_aim t run t.owned t.retired alone out (aimed_filled t.owned (run_of_look t.host t.row) (answer v a note (part.Role value)) run aimed) _ refl refl refl
aimed_stays z v a note part.Clear other S I = λ alone out run aimed set held.
    let t : Topics = (v.hand a).topics in
    owned_aim t run t.owned t.retired alone out (aimed_filled t.owned (run_of_look t.host t.row) (answer v a note part.Clear) run aimed) _ refl refl refl
aimed_stays z v a note part.GiveOld other S I = λ alone out run aimed set held.
    let t : Topics = (v.hand a).topics in
    owned_aim t run t.owned t.retired alone out (aimed_before t.owned None (run_of_look t.host t.row) run S.needs.owns_none aimed) _ refl refl refl
aimed_stays z v a note part.Give other S I = λ alone. absurd (let no = S.needs.1 in cc (no, alone))
aimed_stays z v a note (part.Link gfn) other S I = λ alone. absurd (let shares = S.needs.0.shares in cc (shares, alone))
aimed_stays z v a note (part.Fix gfn) other S I = λ alone. absurd (let loose = S.needs.loose in cc (loose, alone))
aimed_stays z v a note (part.Leaf gfn write) other S I = λ alone. absurd (let shares = S.needs.0.shares in cc (shares, alone))
aimed_stays z v a note _ other S I = λ alone out run aimed set held.
    record { alone = alone; out = out; aimed = aimed; search = refl; row = refl; looked = refl }
