-- A line has copied as many pages as its stage counts.
use Rattle.std.proofs.Common.{◌≡◌, ◌⊎◌, inl, inr, ◌+◌, ◌&&◌, ℕ, Bool, true, false, List, [], ◌∷◌, ◌++◌, refl, ap, sym, subst, arith}
use Rattle.std.specs.Prelude.{Option, if◌then◌else◌}
use Rattle.core_views.specs.declared.actor.Actor.{Actor}
use Rattle.core_views.specs.declared.answer.Answer.TheVariants.{Copied}
use Rattle.core_views.specs.declared.event.Event.{Event}
use Rattle.core_views.specs.declared.event.EventKind.{EventKind}
use Rattle.core_views.specs.declared.event.EventKind.TheVariants.{Begun, BroughtIn, Exited, GuestStopped, Harvested, LookedAtHost, LookedAtPause}
use Rattle.core_views.specs.declared.event.EventKind.TheVariants.{HostChanged, LookedAtSlots, PauseSet, Taken, WordCopied}
use Rattle.core_views.specs.declared.sizes.Sizes.{Sizes}
use Rattle.core_views.specs.declared.trace.Command.{Command}
use Rattle.core_views.specs.declared.trace.Command.TheVariants.{Migrate}
use Rattle.core_views.specs.declared.trace.MigrationCall.TheVariants.{Finish}
use Rattle.std.specs.Map.{keys_of}
use Rattle.core_views.specs.Actors.{is_same}
use Rattle.core_views.specs.Events.{after, after_all, facts_after, logs_left, stage_copied, stage_read, stage_taken, to_read_or_copy, under_after}
use Rattle.core_views.specs.Flat.{Facts, Flat, Fresh, HasLeft, HasSetPause, HasTakenNext, HasToCopy, HasToRead, LineUnderWay, Stage, first_flat}
use Rattle.core_views.specs.Lawful.{IsAllowed, IsLawful, copied_answer}
use Rattle.core_views.specs.LogCommands.{log_read}
use Rattle.core_views.specs.Past.{Past}
use Rattle.core_views.specs.SlotSets.{MemorySlots}
use Rattle.core_views.proofs.SameActor.{changed_here, same_is}
use Rattle.flat_laws.specs.MigrationCounts.{BeginsNone, BeginsNot, CopiedTellsPages, answered, copies_page, pages_copied, tells_copies}
use Rattle.flat_laws.proofs.AloneIsLawful.{lawful_parts}
use Rattle.flat_laws.proofs.CopiesTold.{CopiesNone, HasCopied, copies_told}
use Rattle.flat_laws.proofs.ImageAnswers.{none_left}
use Rattle.core_views.proofs.RunStages.{each_change}

-- So many pages were copied, as the stage says: none before the line copies.
abbrev Counts : Stage → ℕ → Type 0
Counts Fresh n = n ≡ 0
Counts HasSetPause n = n ≡ 0
Counts (HasToRead ids) n = n ≡ 0
Counts (HasTakenNext id ids) n = n ≡ 0
Counts (HasToCopy frames count word) n = count ≡ n
Counts (HasLeft how) n = tells_copies how ≡ false
Counts _ n = Unit {0}

-- one more page, or no more
abbrev grown : Bool → ℕ → ℕ
grown true n = n + 1
grown false n = n

none_read : (slots : MemorySlots) (command : Command) (s : Stage) (id : ℕ) (ids : List ℕ) (n : ℕ) → logs_left slots command s ≡ id ∷ ids → Counts s n → n ≡ 0
none_read slots command Fresh id ids n left C = C
none_read slots command (HasToRead xs) id ids n left C = C
none_read slots command _ id ids n left C = absurd (cc left)

then_none : (ids : List ℕ) (f : Facts) (n : ℕ) → n ≡ 0 → Counts (to_read_or_copy ids f) n
then_none [] f n none = sym none
then_none (id ∷ ids) f n none = none

counts_after : (z : Sizes) (f : Facts) (past : Past) (a actor : Actor) (u : LineUnderWay) (kind : EventKind) (n : ℕ) → IsAllowed z f past a u kind
    → BeginsNot actor a kind → a ≡ actor → Counts u.stage n → Counts (under_after kind f u).stage (grown (copies_page kind) n)
counts_after z f past a actor u (Begun line) n may none mine C = absurd (none mine)
counts_after z f past a actor u LookedAtPause n may none mine C = C
counts_after z f past a actor u LookedAtSlots n may none mine C = C
counts_after z f past a actor u (LookedAtHost page) n may none mine C = C
counts_after z f past a actor u (BroughtIn page) n may none mine C = C
counts_after z f past a actor u (Exited answer) n may none mine C = none_left z f a u.line.command u.notes answer may.1
counts_after z f past a actor u (Taken id) n (inl may) none mine C =
    subst (λ (o : Option ℕ). Counts (stage_taken o (logs_left f.slots u.line.command u.stage) id) n) (sym may.2) tt
counts_after z f past a actor u (Taken id) n (inr may) none mine C =
    subst (λ (c : Command). Counts (stage_taken (log_read c) (logs_left f.slots u.line.command u.stage) id) n) (sym may.asked)
    (none_read f.slots u.line.command u.stage id may.ids n may.left C)
counts_after z f past a actor u (Harvested id frames) n (inl may) none mine C =
    subst (λ (s : Stage). Counts (stage_read s frames (facts_after (Harvested id frames) f)) n) (sym may.begun) tt
counts_after z f past a actor u (Harvested id frames) n (inr may) none mine C =
    subst (λ (s : Stage). Counts (stage_read s frames (facts_after (Harvested id frames) f)) n) (sym may.begun)
    (then_none may.ids (facts_after (Harvested id frames) f) n (subst (λ (s : Stage). Counts s n) may.begun C))
counts_after z f past a actor u PauseSet n may none mine C = subst (λ (s : Stage). Counts s n) may.0 C
counts_after z f past a actor u GuestStopped n may none mine C =
    then_none (keys_of f.slots) (facts_after GuestStopped f) n (subst (λ (s : Stage). Counts s n) may C)
counts_after z f past a actor u (WordCopied gfn page word value whole) n may none mine C =
    subst (λ (s : Stage). Counts (stage_copied whole s) (grown whole n)) (sym may.left) (by whole)
  where
    at : may.count ≡ n
    at = subst (λ (s : Stage). Counts s n) may.left C

    by : (b : Bool) → Counts (stage_copied b (HasToCopy (gfn ∷ may.frames) may.count word)) (grown b n)
    by true = ap (λ (x : ℕ). x + 1) at
    by false = at
counts_after z f past a actor u (HostChanged page entry) n may none mine C =
    each_change (λ s. Counts s n) (λ e. tt) (λ p l m. tt) u.line.command f.host u.stage page entry
counts_after z f past a actor u _ n may none mine C = tt

counts_then : (z : Sizes) (actor : Actor) (es : List Event) (f : Flat) (n total : ℕ) → IsLawful z f es → BeginsNone actor es
    → total ≡ pages_copied actor es + n → Counts (f.under actor).stage n → Counts ((after_all es f).under actor).stage total
counts_then z actor [] f n total lawful none is C = let same : n ≡ total = omega (arith, is) in subst (Counts (f.under actor).stage) same C
counts_then z actor (e ∷ es) f n total lawful none is C =
    counts_then z actor es (after e f) (grown (is_same e.actor actor && copies_page e.kind) n) total lawful.1 none.1
    (sums (is_same e.actor actor && copies_page e.kind) is) (step (is_same e.actor actor) refl)
  where
    sums : (b : Bool) → total ≡ (if b then 1 else 0) + pages_copied actor es + n → total ≡ pages_copied actor es + grown b n
    sums true e_is = omega (arith, e_is)
    sums false e_is = omega (arith, e_is)

    step : (b : Bool) → is_same e.actor actor ≡ b
        → Counts (if b then under_after e.kind f.facts (f.under e.actor) else f.under actor).stage (grown (b && copies_page e.kind) n)
    step false apart = C
    step true same =
        let mine : e.actor ≡ actor = same_is e.actor actor same in
        counts_after z f.facts f.past e.actor actor (f.under e.actor) e.kind n lawful.0 none.0 mine
        (subst (λ (x : Actor). Counts (f.under x).stage n) (sym mine) C)

told_count : (z : Sizes) (f : Facts) (command : Command) (pages count : ℕ) → Copied pages ≡ copied_answer z command count f → pages ≡ count
told_count z f (Migrate Finish) pages count told = absurd (cc told)
told_count z f _ pages count told = cc told

pub copied_tells_pages : CopiedTellsPages
copied_tells_pages z before since actor line number pages lawful none =
    by (copies_told z f.facts actor u.line.command u.stage (Copied pages) both.1.0.1 refl (λ how left. subst (λ (s : Stage). Counts s total) left C))
  where
    total : ℕ
    total = pages_copied actor since

    begun : Event
    begun = record { actor = actor; kind = Begun line }

    last : List Event
    last = answered actor number (Copied pages) ∷ []

    first : Flat
    first = after_all before first_flat

    f : Flat
    f = after_all since (after begun first)

    u : LineUnderWay
    u = f.under actor

    both : IsLawful z (after begun first) since × IsLawful z f last
    both = lawful_parts z since last (after begun first) (lawful_parts z before (begun ∷ (since ++ last)) first_flat lawful).1.1

    C : Counts u.stage total
    C = counts_then z actor since (after begun first) 0 total both.0 none (omega arith)
        (subst (λ (v : LineUnderWay). Counts v.stage 0) (sym (changed_here actor (under_after (Begun line) first.facts (first.under actor)) first.under)) refl)

    by : HasCopied z f.facts u.line.command u.stage (Copied pages) ⊎ CopiesNone f.facts u.stage (Copied pages) → pages ≡ total
    by (inl H) =
        let is : H.count ≡ total = subst (λ (s : Stage). Counts s total) H.copied C in
        let count_is = told_count z f.facts u.line.command pages H.count H.told in omega (arith, is, count_is)
    by (inr N) =
        let is : total ≡ 0 = subst (λ (s : Stage). Counts s total) N.fresh C in
        let zero_is : pages ≡ 0 = (let told = N.told in cc told) in omega (arith, is, zero_is)
