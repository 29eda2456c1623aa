use Rattle.std.proofs.Common.{All, length, subst, sym, ◌∙◌}
use Rattle.std.proofs.Math.Seq.{drop-append_seam}
use Rattle.std.proofs.lemmas.List.Elements.{All-drop}
use Rattle.access_twins.proofs.FirstUsable.{in_newer, in_older}
use Rattle.part_steps.specs.PartBounds.{IsAtLeafLevel}
use Rattle.access_twins.proofs.cached.lookup.Goals as goal

pub first_usable-requires-in-None : goal.first_usable-requires-in-None
first_usable-requires-in-None c =
    let newer = c.as_slices.result.0.now in
    subst (All IsAtLeafLevel) (drop-append_seam newer c.as_slices.result.1.now)
    (All-drop IsAtLeafLevel (length newer) _ (subst (All IsAtLeafLevel) (sym c.as_slices.ensures) c.requires))

pub returns-in-Some : goal.returns-in-Some
returns-in-Some c =
    in_newer c.args.gfn c.args.write c.as_slices.result.0.now c.as_slices.result.1.now c.in-Some.translation
    (sym c.first_usable.ensures ∙ c.in-Some.is) c.as_slices.ensures

pub returns-in-None : goal.returns-in-None
returns-in-None c =
    c.first_usable-in-None.ensures
    ∙ in_older c.args.gfn c.args.write c.as_slices.result.0.now c.as_slices.result.1.now (sym c.first_usable.ensures ∙ c.in-None.is) c.as_slices.ensures
