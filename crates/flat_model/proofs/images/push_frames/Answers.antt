use Rattle.std.proofs.Common.{◌≡◌, ◌<◌, ◌+◌, ◌++◌, ◌∷◌, ◌||◌, [], Bool, true, false, arith, rules, ap, ap₂}
use Rattle.std.proofs.lemmas.Bool.{or_right}
use Rattle.flat_model.specs.Copying.{is_either}
use Rattle.flat_model.specs.Dirty.{is_dirty}
use Rattle.flat_model.proofs.Held.{fails_next, passes_next}
use Rattle.flat_model.proofs.images.push_frames.Goals as goal
use Rattle.flat_model.proofs.images.push_frames.Goals.{then-contains+in_ok-push, then-contains-via-then-contains}
use Rattle.flat_model.proofs.images.push_frames.Goals.{then-contains-via-else-contains+then-contains-2, else-contains+else-contains-2}

pub loop-gfn-preserved : goal.loop-gfn-preserved
loop-gfn-preserved c =
    let dirty = c.args.dirty.now in
    let to_copy = c.args.to_copy.now in
    let test = is_either dirty to_copy in
    let slot = c.args.entry.now.1.slot in
    let at = c.loop-gfn.gfn in
    let before = c.loop-gfn.frames.items in
    let lt : at < slot.base + slot.pages = omega (arith, c.loop-gfn-test.true) in
    elim c.if-contains.branch [
      | then-contains+in_ok-push w ↦
          let items : c.if-contains.frames.items ≡ before ++ at ∷ [] = search rules in
          let is : test at ≡ true = elim w.then-contains.branch [
            | then-contains-via-then-contains first ↦ let here : is_dirty dirty at ≡ true = search rules in ap (λ (b : Bool). b || is_dirty to_copy at) here
            | then-contains-via-else-contains+then-contains-2 second ↦
                let here : is_dirty to_copy at ≡ true = search rules in or_right (is_dirty dirty at) (is_dirty to_copy at) here
          ] in
          rw items (passes_next test at (slot.base + slot.pages) before _ lt is c.loop-gfn.invariant)
      | else-contains+else-contains-2 w ↦
          let items : c.if-contains.frames.items ≡ before = search rules in
          let first : is_dirty dirty at ≡ false = search rules in
          let second : is_dirty to_copy at ≡ false = search rules in
          rw items (fails_next test at (slot.base + slot.pages) before _ lt (ap₂ (λ (x y : Bool). x || y) first second) c.loop-gfn.invariant)
    ]
