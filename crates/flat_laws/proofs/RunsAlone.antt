-- A line that sets a run of host pages and runs alone, from a state in which no line is under way, is lawful, and leaves none under way.
use Rattle.std.proofs.Common.{◌≡◌, ◌≢◌, ◌+◌, ◌==◌, ◌||◌, inl, inr, ◌++◌, ◌∷◌, [], ℕ, zero, suc, List, Bool, true, false, not, refl, sym, ap, ◌∙◌}
use Rattle.std.proofs.Common.{subst, arith, cond}
use Rattle.std.specs.Prelude.{Option, Some, None, if◌then◌else◌}
use Rattle.std.proofs.lemmas.Bool.{eq-eqb, eqb-true}
use Rattle.core_views.specs.declared.answer.Answer.TheVariants.{Done, Refused}
use Rattle.core_views.specs.declared.answer.Refusal.{Refusal}
use Rattle.core_views.specs.declared.answer.Refusal.TheVariants.{IsHuge, NotAligned, OutOfRange}
use Rattle.core_views.specs.declared.event.Event.{Event}
use Rattle.core_views.specs.declared.event.EventKind.{EventKind}
use Rattle.core_views.specs.declared.event.EventKind.TheVariants.{Exited, LookedAtHost}
use Rattle.core_views.specs.declared.sizes.Sizes.{Sizes}
use Rattle.core_views.specs.declared.trace.Command.{Command}
use Rattle.core_views.specs.declared.trace.Command.TheVariants.{ChangeRun}
use Rattle.core_views.specs.declared.trace.Line.{Line}
use Rattle.core_views.specs.declared.trace.RunChange.{RunChange}
use Rattle.core_views.specs.declared.trace.RunChange.TheVariants.{Huge, Small}
use Rattle.core_views.specs.Events.{after, facts_after, stage_changed}
use Rattle.core_views.specs.Flat.{Facts, Flat, Fresh, HasToSet, LineUnderWay, Notes, Stage, no_notes}
use Rattle.core_views.specs.FlatHistory.{answers, by, doing_by, looking_around, looking_at_run, looking_on, setting_kind, setting_run, unless_refused}
use Rattle.core_views.specs.Host.{HostMap, HostNotes, is_huge, with_entry}
use Rattle.core_views.specs.HostRuns.{IsAmong, is_aligned, is_any_huge, level_set, owns_run, run_count, run_first, run_pages, run_refusal}
use Rattle.core_views.specs.Slots.{first_of}
use Rattle.core_views.specs.Lawful.{HasWork, MayLeave, MaySetRun, SawHuge, SawRun}
use Rattle.core_views.specs.Stages.{set_one}
use Rattle.core_views.proofs.HostLines.{owned_answer}
use Rattle.flat_laws.proofs.AloneSteps.{Closes, IsAt, allowed, answered, more, step}
use Rattle.flat_laws.proofs.HostAlone.{seen}
use Rattle.core_views.proofs.RunStages.{some_set}
use Rattle.flat_laws.proofs.RunsAgree.{first_among, later_among, one_is_huge, refused_huge}

abbrev looked : Line → HostNotes → LineUnderWay
looked line host = record { line = line; stage = Fresh; notes = record no_notes { host = host } }

-- what is noted once one page more was looked at
seen_more : (facts : Facts) (noted : HostNotes) (page other : ℕ) → (page ≢ other → noted other ≡ Some (facts.host other))
    → with_entry page (facts.host page) noted other ≡ Some (facts.host other)
seen_more facts noted page other before = by (page == other) refl
  where
    by : (b : Bool) → (page == other) ≡ b → cond b (Some (facts.host page)) (noted other) ≡ Some (facts.host other)
    by true at = ap (λ (p : ℕ). Some (facts.host p)) (eqb-true page other at)
    by false at = before (λ e. absurd (let same = eq-eqb page other e in cc (at, same)))

none_huge : (host : HostMap) (page n : ℕ) → ((other : ℕ) → IsAmong page n other → is_huge (host other) ≡ false) → is_any_huge host page n ≡ false
none_huge host page zero small = refl
none_huge host page (suc n) small =
    ap (λ (b : Bool). b || is_any_huge host (page + 1) n) (small page (first_among page n))
    ∙ none_huge host (page + 1) n (λ other among. small other (later_among page n other among))

-- It sets page after page.
setting_closes : (z : Sizes) (line : Line) (named : ℕ) (change : RunChange) (n page : ℕ) (facts : Facts) (notes : Notes) (f : Flat)
    → line.command ≡ ChangeRun named change → IsAt line.actor facts (record { line = line; stage = HasToSet page n (level_set change); notes = notes }) f
    → Closes z (setting_run line page n (level_set change) facts) f
setting_closes z line named change zero page facts notes f is at = answered z line Done facts _ f at refl (refl, refl)
setting_closes z line named change (suc n) page facts notes f is at =
    let kind : EventKind = setting_kind page (level_set change) facts in
    more z (by line kind) (setting_run line (page + 1) n (level_set change) (facts_after kind facts)) f
    (allowed z line.actor kind facts _ f at
    (inr (inr (record { at = named; change = change; asked = is; left = n; stands = refl; entry_is = refl }))))
    (setting_closes z line named change n (page + 1) (facts_after kind facts) notes (after (by line kind) f) is (step line.actor kind facts _ f at))

module _ (z : Sizes) (line : Line) (page : ℕ) (change : RunChange) (facts : Facts) (own : owns_run z line.actor page change ≡ true)
    (is : line.command ≡ ChangeRun page change) where
  abbrev first : ℕ
  first = run_first change page (facts.host page)

  abbrev count : ℕ
  count = run_count change (facts.host page)

  abbrev run : List Event
  run = setting_run line first count (level_set change) facts

  works : HasWork z facts line.actor line.command
  works = subst (HasWork z facts line.actor) (sym is) (rw own refl)

  works_so : HasWork z facts line.actor (ChangeRun page change)
  works_so = rw own refl

  -- It has looked at each page of the run, and isn't refused.
  first_closes : (noted : HostNotes) (f : Flat) → SawRun (looked line noted).notes page change facts.host → run_refusal facts.host page change ≡ None
      → IsAt line.actor facts (looked line noted) f → Closes z run f
  first_closes noted f saw fits at =
      let n = some_set change (facts.host page) in
      let level : ℕ = level_set change in
      let kind : EventKind = setting_kind first level facts in
      let may : MaySetRun z facts line.actor line.command (looked line noted).notes first (record (facts.host first) { level = level }) =
      record {
        at = page;
        change = change;
        asked = is;
        works = works;
        seen = facts.host;
        saw = saw;
        fits = fits;
        agrees = (refl, refl, refl, λ there. there);
        agree = λ other among. (refl, refl, refl, λ there. there);
        first = refl;
        entry_is = refl;
      } in
      let stage_is : stage_changed line.command facts.host Fresh first (record (facts.host first) { level = level }) ≡ HasToSet (first + 1) n.0 level =
      ap (λ (c : Command). stage_changed c facts.host Fresh first (record (facts.host first) { level = level })) is
      ∙ ap (λ (m : ℕ). set_one first m level) n.1 in
      subst (λ (m : ℕ). Closes z (setting_run line first m level facts) f) (sym n.1)
      (more z (by line kind) (setting_run line (first + 1) n.0 level (facts_after kind facts)) f
      (allowed z line.actor kind facts _ f at (inr (inl (refl, may))))
      (setting_closes z line page change n.0 (first + 1) (facts_after kind facts) (looked line noted).notes (after (by line kind) f) is
      (subst (λ (s : Stage). IsAt line.actor (facts_after kind facts) (record { line = line; stage = s; notes = (looked line noted).notes })
      (after (by line kind) f))
      stage_is (step line.actor kind facts _ f at))))

  -- It is refused.
  refused_closes : (noted : HostNotes) (f : Flat) (refusal : Refusal) → run_refusal facts.host page change ≡ Some refusal
      → MayLeave z facts line.actor (ChangeRun page change) (looked line noted).notes (Refused refusal) → IsAt line.actor facts (looked line noted) f
      → Closes z (unless_refused line (run_refusal facts.host page change) run) f
  refused_closes noted f refusal refused may at =
      subst (λ (o : Option Refusal). Closes z (unless_refused line o run) f) (sym refused)
      (more z (by line (Exited (Refused refusal))) (answers line (Refused refusal)) f
      (allowed z line.actor (Exited (Refused refusal)) facts _ f at
      (refl, subst (λ (c : Command). MayLeave z facts line.actor c (looked line noted).notes (Refused refusal)) (sym is) may))
      (answered z line (Refused refusal) facts _ _ (step line.actor (Exited (Refused refusal)) facts _ f at) refl refl))

  fits_closes : (noted : HostNotes) (f : Flat) → SawRun (looked line noted).notes page change facts.host → run_refusal facts.host page change ≡ None
      → IsAt line.actor facts (looked line noted) f → Closes z (unless_refused line (run_refusal facts.host page change) run) f
  fits_closes noted f saw fits at =
      subst (λ (o : Option Refusal). Closes z (unless_refused line o run) f) (sym fits) (first_closes noted f saw fits at)

-- ---- it is to make the run large

module _ (z : Sizes) (line : Line) (page level : ℕ) (facts : Facts) (own : owns_run z line.actor page (Huge level) ≡ true)
    (is : line.command ≡ ChangeRun page (Huge level)) where
  abbrev rest : List Event
  rest = unless_refused line (run_refusal facts.host page (Huge level)) (setting_run line page (run_pages level) level facts)

  -- It has looked at each page, of which none is part of a large one.
  judged : (noted : HostNotes) (f : Flat) (aligned : Bool) → is_aligned facts.host page level ≡ aligned
      → is_any_huge facts.host page (run_pages level) ≡ false → SawRun (looked line noted).notes page (Huge level) facts.host
      → IsAt line.actor facts (looked line noted) f → Closes z rest f
  judged noted f true aligned small saw at =
      fits_closes z line page (Huge level) facts own is noted f saw
      (ap (λ (b : Bool). first_of ((b, IsHuge) ∷ (not (is_aligned facts.host page level), NotAligned) ∷ [])) small
      ∙ ap (λ (b : Bool). first_of ((not b, NotAligned) ∷ [])) aligned)
      at
  judged noted f false aligned small saw at =
      let refused : run_refusal facts.host page (Huge level) ≡ Some NotAligned =
      ap (λ (b : Bool). first_of ((b, IsHuge) ∷ (not (is_aligned facts.host page level), NotAligned) ∷ [])) small
      ∙ ap (λ (b : Bool). first_of ((not b, NotAligned) ∷ [])) aligned in
      refused_closes z line page (Huge level) facts own is noted f NotAligned refused
      (works_so z line page (Huge level) facts own is, record { seen = facts.host; saw = saw; refused = refused }) at

  -- It looks at the next page, where those before it were noted, and are small.
  on_closes : (n next done : ℕ) (noted : HostNotes) (f : Flat) → next ≡ page + done → done + n ≡ run_pages level
      → ((other : ℕ) → IsAmong page done other → noted other ≡ Some (facts.host other))
      → ((other : ℕ) → IsAmong page done other → is_huge (facts.host other) ≡ false)
      → IsAt line.actor facts (looked line noted) f → Closes z (looking_on line facts.host next n ++ rest) f
  on_closes zero next done noted f there all saw small at =
      let n = some_set (Huge level) (facts.host page) in
      let span : ℕ = run_pages level in
      let whole : done ≡ span = omega (arith, all) in
      let saw_all : (other : ℕ) → IsAmong page span other → noted other ≡ Some (facts.host other)
      = subst (λ (m : ℕ). (other : ℕ) → IsAmong page m other → noted other ≡ Some (facts.host other)) whole saw in
      judged noted f (is_aligned facts.host page level) refl
      (none_huge facts.host page span (subst (λ (m : ℕ). (other : ℕ) → IsAmong page m other → is_huge (facts.host other) ≡ false) whole small))
      (record { own = saw_all page (subst (λ (m : ℕ). IsAmong page m page) (sym n.1) (first_among page n.0)); looked = saw_all }) at
  on_closes (suc n) next done noted f there all saw small at =
      more z (by line (LookedAtHost next)) _ f (allowed z line.actor (LookedAtHost next) facts _ f at refl)
      (by_size (is_huge (facts.host next)) refl
      (λ noted_ is_small. on_closes n (next + 1) (done + 1) (with_entry next (facts.host next) noted) (after (by line (LookedAtHost next)) f)
      (omega (arith, there)) (omega (arith, all)) noted_ is_small (step line.actor (LookedAtHost next) facts _ f at)))
    where
      then_ : Flat
      then_ = after (by line (LookedAtHost next)) f

      noted_more : (other : ℕ) → IsAmong page (done + 1) other → with_entry next (facts.host next) noted other ≡ Some (facts.host other)
      noted_more other among =
          seen_more facts noted next other (λ apart. saw other (let low = among.0 in let high = among.1 in (low, grind (arith, high, there, apart))))

      small_more : is_huge (facts.host next) ≡ false → (other : ℕ) → IsAmong page (done + 1) other → is_huge (facts.host other) ≡ false
      small_more here other among = either (next == other) refl
        where
          either : (b : Bool) → (next == other) ≡ b → is_huge (facts.host other) ≡ false
          either true same = ap (λ (p : ℕ). is_huge (facts.host p)) (sym (eqb-true next other same)) ∙ here
          either false apart =
              let unlike : next ≢ other = λ e. absurd (let same = eq-eqb next other e in cc (apart, same)) in
              small other (let low = among.0 in let high = among.1 in (low, grind (arith, high, there, unlike)))

      saw_huge : is_huge (facts.host next) ≡ true → SawHuge (looked line (with_entry next (facts.host next) noted)).notes next
      saw_huge huge = record { entry = facts.host next; looked = seen next (facts.host next) noted; huge = huge }

      next_among : IsAmong page (run_pages level) next
      next_among = (omega (arith, there), omega (arith, there, all))

      by_size : (b : Bool) → is_huge (facts.host next) ≡ b
          → (((other : ℕ) → IsAmong page (done + 1) other → with_entry next (facts.host next) noted other ≡ Some (facts.host other))
          → ((other : ℕ) → IsAmong page (done + 1) other → is_huge (facts.host other) ≡ false)
          → Closes z (looking_on line facts.host (next + 1) n ++ rest) then_)
          → Closes z ((if b then [] else looking_on line facts.host (next + 1) n) ++ rest) then_
      by_size true huge later =
          refused_closes z line page (Huge level) facts own is (with_entry next (facts.host next) noted) then_ IsHuge
          (refused_huge facts.host page level (one_is_huge facts.host page (run_pages level) next next_among huge))
          (works_so z line page (Huge level) facts own is, (next, next_among, saw_huge huge)) (step line.actor (LookedAtHost next) facts _ f at)
      by_size false here later = later noted_more (small_more here)

-- ---- it is to make the pages of a run small

module _ (z : Sizes) (line : Line) (page : ℕ) (facts : Facts) (own : owns_run z line.actor page Small ≡ true) (is : line.command ≡ ChangeRun page Small) where
  abbrev start : ℕ
  start = run_first Small page (facts.host page)

  abbrev span_ : ℕ
  span_ = run_pages (facts.host page).level

  around_closes : (n next done : ℕ) (noted : HostNotes) (f : Flat) → next ≡ start + done → done + n ≡ span_ → noted page ≡ Some (facts.host page)
      → ((other : ℕ) → IsAmong start done other → noted other ≡ Some (facts.host other)) → IsAt line.actor facts (looked line noted) f
      → Closes z (looking_around line page next n ++ setting_run line start span_ 1 facts) f
  around_closes zero next done noted f there all here saw at =
      let whole : done ≡ span_ = omega (arith, all) in
      first_closes z line page Small facts own is noted f
      (record { own = here; looked = subst (λ (m : ℕ). (other : ℕ) → IsAmong start m other → noted other ≡ Some (facts.host other)) whole saw }) refl at
  around_closes (suc n) next done noted f there all here saw at =
      by_place (page == next) refl
      (λ saw_more. around_closes n (next + 1) (done + 1) noted f (omega (arith, there)) (omega (arith, all)) here saw_more at)
      (λ saw_more here_. around_closes n (next + 1) (done + 1) (with_entry next (facts.host next) noted) (after (by line (LookedAtHost next)) f)
      (omega (arith, there)) (omega (arith, all)) here_ saw_more (step line.actor (LookedAtHost next) facts _ f at))
    where
      then_ : Flat
      then_ = after (by line (LookedAtHost next)) f

      before : (other : ℕ) → IsAmong start (done + 1) other → next ≢ other → noted other ≡ Some (facts.host other)
      before other among apart = saw other (let low = among.0 in let high = among.1 in (low, grind (arith, high, there, apart)))

      skipped : page ≡ next → (other : ℕ) → IsAmong start (done + 1) other → noted other ≡ Some (facts.host other)
      skipped same other among = either (next == other) refl
        where
          either : (b : Bool) → (next == other) ≡ b → noted other ≡ Some (facts.host other)
          either true at_ = subst (λ (p : ℕ). noted p ≡ Some (facts.host p)) (same ∙ eqb-true next other at_) here
          either false at_ = before other among (λ e. absurd (let same_ = eq-eqb next other e in cc (at_, same_)))

      Later : HostNotes → Flat → Type 0
      Later h g = Closes z (looking_around line page (next + 1) n ++ setting_run line start span_ 1 facts) g

      by_place : (b : Bool) → (page == next) ≡ b
          → (((other : ℕ) → IsAmong start (done + 1) other → noted other ≡ Some (facts.host other)) → Later noted f)
          → (((other : ℕ) → IsAmong start (done + 1) other → with_entry next (facts.host next) noted other ≡ Some (facts.host other))
          → with_entry next (facts.host next) noted page ≡ Some (facts.host page) → Later (with_entry next (facts.host next) noted) then_)
          → Closes z ((if b then looking_around line page (next + 1) n else by line (LookedAtHost next) ∷ looking_around line page (next + 1) n)
          ++ setting_run line start span_ 1 facts) f
      by_place true same skips looks = skips (skipped (eqb-true page next same))
      by_place false apart skips looks =
          more z (by line (LookedAtHost next)) _ f (allowed z line.actor (LookedAtHost next) facts _ f at refl)
          (looks (λ other among. seen_more facts noted next other (before other among)) (seen_more facts noted next page (λ apart_. here)))

-- the whole of the line after its begin, by whether the run is the actor's own
pub run_closes : (z : Sizes) (line : Line) (page : ℕ) (change : RunChange) (facts : Facts) (f : Flat) (own : Bool) → owns_run z line.actor page change ≡ own
    → line.command ≡ ChangeRun page change → IsAt line.actor facts (record { line = line; stage = Fresh; notes = no_notes }) f
    → Closes z ((if own then looking_at_run line page change facts.host else []) ++ doing_by z line (ChangeRun page change) facts (owned_answer own)) f
run_closes z line page change facts f false own is at = answered z line (Refused OutOfRange) facts _ f at refl (rw (is, own) refl)
run_closes z line page (Huge level) facts f true own is at =
    on_closes z line page level facts own is (run_pages level) page 0 no_notes.host f (omega arith) (omega arith)
    (λ other among. absurd (let low = among.0 in let high = among.1 in omega (arith, low, high)))
    (λ other among. absurd (let low = among.0 in let high = among.1 in omega (arith, low, high))) at
run_closes z line page Small facts f true own is at =
    more z (by line (LookedAtHost page)) _ f (allowed z line.actor (LookedAtHost page) facts _ f at refl)
    (around_closes z line page facts own is (run_pages (facts.host page).level) (run_first Small page (facts.host page)) 0
    (with_entry page (facts.host page) no_notes.host) (after (by line (LookedAtHost page)) f) (omega arith) (omega arith)
    (seen page (facts.host page) no_notes.host) (λ other among. absurd (let low = among.0 in let high = among.1 in omega (arith, low, high)))
    (step line.actor (LookedAtHost page) facts _ f at))
