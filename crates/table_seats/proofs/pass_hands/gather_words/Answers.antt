use Rattle.std.proofs.Common.{ℕ, ap, sym, ◌∙◌, List, [], ◌∷◌, ◌++◌, arith}
use Rattle.std.specs.Slots.{slots_items}
use Rattle.table_seats.proofs.HandLists.{take-more}
use Rattle.table_seats.proofs.pass_hands.gather_words.Goals as goal

pub loop-i-preserved : goal.loop-i-preserved
loop-i-preserved c =
    let e = c.in-Ok.ensures {u = tt} in let r = c.loop-i.invariant in let k = e.capacity in let l = e.len in (
      e.items ∙ (ap (λ (xs : List ℕ). xs ++ c.word-word.result ∷ []) r.0
          ∙ sym (take-more (slots_items c.args.closed.now.words) c.loop-i.i c.word-word.result c.word-word.ensures)),
      omega (arith, r.1, k),
      omega (arith, r.2, l),
    )
