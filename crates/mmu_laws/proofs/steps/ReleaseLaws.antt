-- Who gives back the lock that it has alone has none of the steps left that its line began.
use Rattle.std.proofs.Common.{◌≡◌, ◌<◌, ℕ, Bool, true, false, refl, ap, ◌∙◌, arith}
use Rattle.std.specs.Prelude.{◌||◌, not}
use Rattle.std.proofs.lemmas.Bool.Decides.{nat_tests}
use Rattle.core_views.specs.declared.topics.TableWalk.{TableWalk}
use Rattle.core_views.specs.declared.topics.Topics.{Topics}
use Rattle.core_views.specs.Held.{Held, has_line}
use Rattle.spte_words.specs.declared.spte_kind.SpteKind.{SpteKind}
use Rattle.spte_words.specs.Entries.{can_write}
use Rattle.part_steps.specs.declared.invalidations.Target.{Target}
use Rattle.part_steps.specs.InvalidationHoldings.{IsOpening, MayCount}
use Rattle.part_steps.specs.LockHoldings.{HasEndedWhole, HasOpenedWhole, MayRelease}
use Rattle.part_steps.specs.LogHoldings.{MayProtect}
use Rattle.part_steps.specs.PartHoldings.{SawEntry}
use Rattle.part_steps.specs.PartTasks.{entry_index}
use Rattle.part_steps.specs.SweepHoldings.{MayZap}
use Rattle.part_steps.specs.SweepTopics.{has_done, has_entry, is_clear, is_done}
use Rattle.mmu_laws.specs.steps.InvalidationLaws.{HasNoneLeft}

-- An entry was loaded.
saw_one : (gfn : ℕ) (w : TableWalk) → SawEntry gfn w → has_entry w ≡ true
saw_one gfn w S =
    let is : w.index ≡ entry_index gfn w.level = S.loaded in
    let low : entry_index gfn w.level < 512 = omega arith in
    grind (arith, nat_tests)

-- Who has opened an own invalidation, where it has searched the slots, opens none.
opens_none : (target : Target) (t : Topics) → HasOpenedWhole t → IsOpening target t → ⊥
opens_none target t whole O = let opened = whole O.holds_set in let closed = O.closed in cc (opened, closed)

-- Who has ended none halfway stores no count.
counts_none : (b : Bool) (count : ℕ) (t : Topics) → t.invalidations.opened ≡ b → HasEndedWhole t.invalidations → HasOpenedWhole t → MayCount count t → ⊥
counts_none true count t is ended whole C = let raised = C.closes is in let not_yet = ended is in cc (raised, not_yet)
counts_none false count t is ended whole C = let O = C.opens is in opens_none O.target t whole O.opening

zaps_none : (gfn : ℕ) (t : Topics) → is_clear t.invalidations.opened t.walk ≡ true → MayZap gfn t → ⊥
zaps_none gfn t clear Z =
    let left : is_clear t.invalidations.opened t.walk ≡ false =
    ap (λ (b : Bool). is_clear b t.walk) Z.opened ∙ ap (λ (b : Bool). not b || is_done true t.walk) (saw_one gfn t.walk Z.saw)
    ∙ ap (λ (k : SpteKind). has_done true (can_write t.walk.entry) k) Z.leaf in
    cc (clear, left)

protects_none : (gfn : ℕ) (t : Topics) → is_clear t.invalidations.opened t.walk ≡ true → MayProtect gfn t → ⊥
protects_none gfn t clear P =
    let left : is_clear t.invalidations.opened t.walk ≡ false =
    ap (λ (b : Bool). is_clear b t.walk) P.none_open ∙ ap (λ (b : Bool). not b || is_done false t.walk) (saw_one gfn t.walk P.saw)
    ∙ ap (λ (k : SpteKind). has_done false (can_write t.walk.entry) k) P.leaf ∙ ap (λ (b : Bool). not b) P.writes in
    cc (clear, left)

pub none_left : (h : Held) → MayRelease h → has_line h ≡ true → HasNoneLeft h.topics
none_left h M has = record {
  no_start = λ first gfn S. opens_none S.target h.topics (M.opened has) S.opening;
  no_end = λ last gfn S. opens_none S.target h.topics (M.opened has) S.opening;
  no_count = λ count C. counts_none h.topics.invalidations.opened count h.topics refl M.ended (M.opened has) C;
  no_zap = λ gfn Z. zaps_none gfn h.topics (M.done has Z.saw.over.there) Z;
  no_protect = λ gfn P. protects_none gfn h.topics (M.done has P.saw.over.there) P;
}
