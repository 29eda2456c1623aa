use Rattle.std.proofs.Common.{◌≡◌, ◌++◌, ◌+◌, All, length, take, drop, subst, sym, ◌∙◌}
use Rattle.std.proofs.lemmas.List.{take-append-drop}
use Rattle.std.proofs.lemmas.List.Elements.{All-drop}
use Rattle.access_twins.proofs.FirstUsable.{in_newer, in_older}
use Rattle.part_steps.specs.PartBounds.{IsAtLeafLevel}
use Rattle.access_twins.proofs.cached.first_usable.Goals as goal

pub loop-few-preserved : goal.loop-few-preserved
loop-few-preserved c =
    let left = c.loop-few.left.now in
    let cut : (c.in-Some.few.now ≡ take 8 left) × (c.in-Some.others.now ≡ drop 8 left) × (length c.in-Some.others.now + 8 ≡ length left) =
    c.in-Some.ensures.cases in
    let both : c.in-Some.few.now ++ c.in-Some.others.now ≡ left = rw (cut.0, cut.1) (take-append-drop 8 left) in
    record {
      same =
          c.loop-few.invariant.same
          ∙ sym (in_older c.args.gfn c.args.write c.in-Some.few.now c.in-Some.others.now (sym c.first_of_few.ensures ∙ c.in_default-first_of_few.is) both);
      levels = subst (All IsAtLeafLevel) (sym cut.1) (All-drop IsAtLeafLevel 8 left c.loop-few.invariant.levels);
    }

pub returns-in-Some-first_of_few : goal.returns-in-Some-first_of_few
returns-in-Some-first_of_few c =
    let left = c.loop-few.left.now in
    let cut : (c.in-Some.few.now ≡ take 8 left) × (c.in-Some.others.now ≡ drop 8 left) × (length c.in-Some.others.now + 8 ≡ length left) =
    c.in-Some.ensures.cases in
    let both : c.in-Some.few.now ++ c.in-Some.others.now ≡ left = rw (cut.0, cut.1) (take-append-drop 8 left) in
    in_newer c.args.gfn c.args.write c.in-Some.few.now c.in-Some.others.now c.in-Some-first_of_few.translation
    (sym c.first_of_few.ensures ∙ c.in-Some-first_of_few.is) both
    ∙ sym c.loop-few.invariant.same
