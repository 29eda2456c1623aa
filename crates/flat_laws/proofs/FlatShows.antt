-- The flat history, but for what its lines look at.
use Rattle.std.proofs.Common.{◌≡◌, ℕ, List, [], ◌∷◌, ◌++◌, Bool, true, false, cond, refl, ap, ◌∙◌}
use Rattle.std.specs.Prelude.{Option, Some, None}
use Rattle.core_views.specs.declared.event.Event.{Event}
use Rattle.core_views.specs.declared.event.EventKind.TheVariants.{Begun, LookedAtHost, SlotChanged, Taken}
use Rattle.core_views.specs.declared.answer.Answer.{Answer}
use Rattle.core_views.specs.declared.trace.Command.{Command}
use Rattle.core_views.specs.declared.trace.Command.TheVariants.{Access, ChangeHost, ChangeRun, ClearLog, GetLog, Migrate, SetLog, Split}
use Rattle.core_views.specs.declared.trace.HostChange.{HostChange}
use Rattle.core_views.specs.declared.trace.HostChange.TheVariants.{Move, Evict, Protect, Allow}
use Rattle.core_views.specs.declared.trace.Line.{Line}
use Rattle.core_views.specs.declared.trace.Op.{Op}
use Rattle.core_views.specs.declared.memory_slot.MemorySlot.{MemorySlot}
use Rattle.core_views.specs.declared.sizes.Sizes.{Sizes}
use Rattle.core_views.specs.Host.{is_denied, is_huge}
use Rattle.core_views.specs.HostChanges.{is_own, lowest_free}
use Rattle.core_views.specs.Slots.{page_behind}
use Rattle.core_views.specs.SlotSets.{flat_slots}
use Rattle.core_views.specs.Flat.{Facts, Fresh}
use Rattle.core_views.specs.Events.{facts_after_all}
use Rattle.core_views.specs.Lawful.{answer_at_once, slot_change}
use Rattle.core_views.specs.FlatHistory.{by, accessing, bringing, changing_host, moving, reaching, doing, doing_by, rest_of, looks, looks_behind, alone}
use Rattle.core_views.specs.FlatHistory.{answers, arming, harvest, one_by_one, reading, unless_huge, unless_paused, working}
use Rattle.core_views.specs.Migrations.{is_paused}
use Rattle.flat_laws.proofs.MigrationsStand.{migration_shows}
use Rattle.flat_laws.proofs.RunsStand.{run_shows}
use Rattle.core_views.specs.HostRuns.{owns_run}
use Rattle.core_views.specs.LogCommands.{takes_out}
use Rattle.core_views.specs.Alone.{without_looks}
use Rattle.core_views.proofs.HostLines.{owned_answer}
use Rattle.core_views.proofs.SlotChanges.{changes}
use Rattle.flat_laws.proofs.Looks.{without_looks_append, facts_without_looks}

-- An access is shown, whether it brings its page in or not.
bringing_shows : (line : Line) (page : ℕ) (present : Bool) (es : List Event) → without_looks es ≡ es
    → without_looks (bringing line page present ++ es) ≡ bringing line page present ++ es
bringing_shows line page true es is = is
bringing_shows line page false es is = ap (λ (xs : List Event). bringing line page false ++ xs) is

reaching_shows : (line : Line) (gfn word : ℕ) (op : Op) (f : Facts) (page : ℕ) (denied : Bool)
    → without_looks (reaching line gfn word op f page denied) ≡ reaching line gfn word op f page denied
reaching_shows line gfn word op f page true = refl
reaching_shows line gfn word op f page false = bringing_shows line page (f.host page).present _ refl

accessing_shows : (line : Line) (gfn word : ℕ) (op : Op) (f : Facts) (page : Option ℕ)
    → without_looks (looks_behind line page ++ accessing line gfn word op f page) ≡ accessing line gfn word op f page
accessing_shows line gfn word op f None = refl
accessing_shows line gfn word op f (Some page) = reaching_shows line gfn word op f page (is_denied op (f.host page))

unless_shows : (line : Line) (gfn word : ℕ) (op : Op) (f : Facts) (page : Option ℕ) (paused : Bool)
    → without_looks (looks_behind line page ++ unless_paused line paused (accessing line gfn word op f page))
    ≡ unless_paused line paused (accessing line gfn word op f page)
unless_shows line gfn word op f page false = accessing_shows line gfn word op f page
unless_shows line gfn word op f None true = refl
unless_shows line gfn word op f (Some page) true = refl

arming_shows : (z : Sizes) (line : Line) (command : Command) → without_looks (arming z line command) ≡ arming z line command
arming_shows z line (SetLog id true) = refl
arming_shows z line (SetLog id false) = refl
arming_shows z line (Access gfn word op) = refl
arming_shows z line _ = refl

change_shows : (z : Sizes) (line : Line) (command : Command) (f : Facts) (change : ℕ × Option MemorySlot) (answer : Option Answer)
    → slot_change f.slots command ≡ Some change
    → without_looks (doing_by z line command f answer) ≡ doing_by z line command f answer
change_shows z line command f change None is =
    rw (changes z line command f change is)
    (ap (λ (es : List Event). by line (SlotChanged change.0 change.1) ∷ es) (arming_shows z line command))
change_shows z line command f change (Some answer) is = refl

reading_shows : (z : Sizes) (line : Line) (command : Command) (id : ℕ) (f : Facts)
    → without_looks (reading z line command id f) ≡ reading z line command id f
reading_shows z line command id f = either (takes_out z.mode command) _ _
  where
    either : (takes : Bool) (frames : List ℕ) (answer : Answer)
        → without_looks (by line (harvest takes id frames) ∷ answers line answer) ≡ by line (harvest takes id frames) ∷ answers line answer
    either true frames answer = refl
    either false frames answer = refl

read_shows : (z : Sizes) (line : Line) (command : Command) (id : ℕ) (f : Facts) (answer : Option Answer)
    → working z line command f ≡ by line (Taken id) ∷ reading z line command id f
    → without_looks (doing_by z line command f answer) ≡ doing_by z line command f answer
read_shows z line command id f None does = rw does (ap (λ (es : List Event). by line (Taken id) ∷ es) (reading_shows z line command id f))
read_shows z line command id f (Some answer) does = refl

moving_shows : (line : Line) (page : ℕ) (f : Facts) (free : Option ℕ) → without_looks (moving line page f free) ≡ moving line page f free
moving_shows line page f None = refl
moving_shows line page f (Some frame) = refl

host_shows : (z : Sizes) (line : Line) (page : ℕ) (change : HostChange) (f : Facts)
    → without_looks (changing_host z line page change f) ≡ changing_host z line page change f
host_shows z line page Move f = moving_shows line page f (lowest_free z f.host)
host_shows z line page Evict f = refl
host_shows z line page Protect f = refl
host_shows z line page Allow f = refl

-- by whether the page is part of a large one
unless_huge_shows : (z : Sizes) (line : Line) (page : ℕ) (change : HostChange) (f : Facts) (huge : Bool)
    → without_looks (unless_huge line huge (changing_host z line page change f)) ≡ unless_huge line huge (changing_host z line page change f)
unless_huge_shows z line page change f true = refl
unless_huge_shows z line page change f false = host_shows z line page change f

-- by whether the page is the actor's own
owned_shows : (z : Sizes) (line : Line) (page : ℕ) (change : HostChange) (f : Facts) (own : Bool)
    → without_looks (cond own (by line (LookedAtHost page) ∷ []) [] ++ doing_by z line (ChangeHost page change) f (owned_answer own))
    ≡ doing_by z line (ChangeHost page change) f (owned_answer own)
owned_shows z line page change f true = unless_huge_shows z line page change f (is_huge (f.host page))
owned_shows z line page change f false = refl

doing_shows : (z : Sizes) (line : Line) (command : Command) (f : Facts)
    → without_looks (looks z line command f ++ doing z line command f) ≡ doing z line command f
doing_shows z line (Access gfn word op) f = unless_shows line gfn word op f (page_behind (flat_slots f.slots) gfn op) (is_paused f.migration)
doing_shows z line (ChangeHost page change) f = owned_shows z line page change f (is_own z line.actor page)
doing_shows z line (ChangeRun page change) f = run_shows z line page change f (owns_run z line.actor page change)
doing_shows z line (GetLog id) f = read_shows z line (GetLog id) id f (answer_at_once z f.slots f.migration line.actor (GetLog id)) refl
doing_shows z line (ClearLog id first count words) f =
    read_shows z line (ClearLog id first count words) id f (answer_at_once z f.slots f.migration line.actor (ClearLog id first count words)) refl
doing_shows z line (Migrate call) f = migration_shows z line call f (answer_at_once z f.slots f.migration line.actor (Migrate call))
doing_shows z line (Split gfn) f = refl
doing_shows z line command f = change_shows z line command f _ (answer_at_once z f.slots f.migration line.actor command) refl

alone_shows : (z : Sizes) (line : Line) (f : Facts) → without_looks (alone z line f) ≡ by line (Begun line) ∷ rest_of z line Fresh f
alone_shows z line f = ap (λ (es : List Event). by line (Begun line) ∷ es) (doing_shows z line line.command f)

pub flat_shows : (z : Sizes) (line : Line) (lines : List Line) (f : Facts)
    → without_looks (one_by_one z (line ∷ lines) f) ≡ by line (Begun line)
    ∷ (rest_of z line Fresh f ++ without_looks (one_by_one z lines (facts_after_all (rest_of z line Fresh f) f)))
flat_shows z line lines f =
    let facts_are : facts_after_all (alone z line f) f ≡ facts_after_all (rest_of z line Fresh f) f =
    facts_without_looks (alone z line f) f ∙ ap (λ (es : List Event). facts_after_all es f) (alone_shows z line f) in
    without_looks_append (alone z line f) (one_by_one z lines (facts_after_all (alone z line f) f))
    ∙ (ap (λ (es : List Event). es ++ without_looks (one_by_one z lines (facts_after_all (alone z line f) f))) (alone_shows z line f)
    ∙ ap (λ (g : Facts). by line (Begun line) ∷ (rest_of z line Fresh f ++ without_looks (one_by_one z lines g))) facts_are)
