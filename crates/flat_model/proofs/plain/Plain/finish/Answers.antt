use Rattle.std.proofs.Common.{◌≡◌, ◌-◌, ◌^◌, rules, subst}
use Rattle.std.specs.Prelude.{All}
use Rattle.flat_model.specs.Copying.{FitsIn}
use Rattle.flat_model.proofs.SlotsById.{all_fit}
use Rattle.flat_model.proofs.plain.Plain.finish.Goals as goal

pub image_words-requires : goal.image_words-requires
image_words-requires c =
    let inside = c.self.inside in
    let is : inside.slots ≡ c.as_slice-2.result.now = search rules in
    subst (All (FitsIn (2 ^ 64 - 1))) is (all_fit inside.host.sizes.pages inside.slots c.self.invariant.0 c.self.invariant.1)
