-- Where the pool has as many pages as the trace needs, no line that runs alone is starved.
use Rattle.std.proofs.Common.{◌≡◌, ◌≢◌, ◌/◌, ◌%◌, ◌<◌, ◌≤◌, ℕ, List, [], ◌∷◌, ◌++◌, sym, subst, ap, ◌∙◌, arith}
use Rattle.std.specs.Prelude.{false, ◌==◌, None}
use Rattle.std.proofs.lemmas.Nat.Bits.{bit_at-zero}
use Rattle.core_views.specs.declared.answer.Answer.{Answer}
use Rattle.core_views.specs.declared.answer.Answer.TheVariants.{Starved}
use Rattle.core_views.specs.declared.kind.Kind.{Kind}
use Rattle.core_views.specs.declared.sizes.Sizes.{Sizes}
use Rattle.core_views.specs.declared.trace.Header.{Header}
use Rattle.core_views.specs.declared.trace.Line.{Line}
use Rattle.core_views.specs.Held.{Held}
use Rattle.core_views.specs.Need.{need}
use Rattle.core_views.specs.Sizes.{sizes_of}
use Rattle.spte_words.specs.declared.area.Area.TheVariants as area
use Rattle.spte_words.specs.Areas.{words_of_bits}
use Rattle.spte_words.specs.Bits.{has_bit}
use Rattle.mmu_core.specs.declared.outcome.Outcome.{Outcome}
use Rattle.mmu_core.specs.declared.outcome.Outcome.TheVariants.{Ends}
use Rattle.mmu_core.specs.declared.claim.FreeMap.TheVariants.{Pages}
use Rattle.mmu_core.specs.machine.Enabled.{mmu}
use Rattle.mmu_laws.specs.pool.Enough.{HasFreePage}
use Rattle.mmu_core.specs.alone.SeenStands.{NoneFreeBefore}
use Rattle.mmu_core.specs.alone.LineAlone.{ComesNearer, LineAlone}
use Rattle.mmu_core.specs.machine.Machine.{Legal, May, Step, World, answered, effect, hand_in, run}
use Rattle.mmu_core.specs.machine.Turns.{outcome_of}
use Rattle.mmu_core.specs.machine.View.{word_in}
use Rattle.mmu_core.specs.machine.Worlds.{IsStart}
use Rattle.mmu_laws.proofs.alone.AloneRuns.{steps_alone}
use Rattle.mmu_laws.proofs.pool.Enough.{enough_pages}
use Rattle.mmu_core.proofs.machine.LineRuns.{legal_one_more, run_one_more}

-- A map whose words are 0 has no free page.
pub none_free : (pages : ℕ) (map : ℕ → ℕ) → NoneFreeBefore map (words_of_bits pages) → HasFreePage pages map → ⊥
none_free pages map none F =
    let there = F.there in
    let empty : map (F.page / 64) ≡ 0 = none (F.page / 64) (omega (arith, there)) in
    let unset : has_bit (F.page % 64) (map (F.page / 64)) ≡ false = ap (has_bit (F.page % 64)) empty ∙ ap (λ b. b == 1) (bit_at-zero (F.page % 64)) in
    let set = F.free in
    cc (unset, set)

pub none_starved : (h : Header) (lines : List Line) (w : World Held) (ss : List (Step Kind)) (s : Step Kind) (answer : Answer)
    → IsStart (sizes_of h) lines w → Legal mmu w ss → need h lines ≤ h.pool
    → LineAlone (sizes_of h) (run mmu w ss) s.actor → May mmu (run mmu w ss) s
    → outcome_of (hand_in mmu (run mmu w ss) s.actor) (answered mmu (run mmu w ss) s.kind) ≡ Ends answer → answer ≢ Starved
none_starved h lines w ss s answer start legal enough L may is starved =
    let z : Sizes = sizes_of h in
    let N : ComesNearer (Ends answer) z s.actor (run mmu w ss) (effect mmu (run mmu w ss) s) =
    subst (λ (o : Outcome). ComesNearer o z s.actor (run mmu w ss) (effect mmu (run mmu w ss) s)) is (steps_alone z (run mmu w ss) s L may).nearer in
    let further : run mmu w (ss ++ s ∷ []) ≡ effect mmu (run mmu w ss) s = run_one_more w ss s in
    let F : HasFreePage h.pool (word_in z (run mmu w (ss ++ s ∷ [])) area.PoolMap) =
    enough_pages h lines w (ss ++ s ∷ []) start (legal_one_more w ss s legal may) enough
    (λ i lt. subst (λ (u : World Held). (hand_in mmu u i).topics.owned ≡ None) (sym further) (N.1 i (subst (λ n. i < n) (sym N.0.hands) lt)).rests.owns_none) in
    none_free h.pool (word_in z (effect mmu (run mmu w ss) s) area.PoolMap) (N.2 Pages starved)
    (subst (λ (u : World Held). HasFreePage h.pool (word_in z u area.PoolMap)) further F)
