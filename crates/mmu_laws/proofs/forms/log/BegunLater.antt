-- No line begins at a place of a reading that has begun to read.
use Rattle.std.proofs.Common.{◌≡◌, refl, ap}
use Rattle.std.specs.Prelude.{Some, true, false}
use Rattle.core_views.specs.declared.place.LogPlace.{LogPlace}
use Rattle.core_views.specs.declared.place.LogPlace.TheVariants as log
use Rattle.core_views.specs.declared.place.Place.{Place}
use Rattle.core_views.specs.declared.place.Place.TheVariants as place
use Rattle.core_views.specs.declared.trace.Command.{Command}
use Rattle.core_views.specs.Held.{Held}
use Rattle.mmu_core.specs.forms.log.Readings.{Reading, has_begun, reading_at}
use Rattle.mmu_core.specs.lines.Forms.{is_first}

pub begun_later : (p : Place) (command : Command) (h : Held) (r : Reading) → reading_at p command h ≡ Some r → has_begun r.place ≡ true → is_first p ≡ false
begun_later p command h r is begun = by p is
  where
    never : (q : LogPlace) → has_begun q ≡ false → Some (record { place = q; command = command }) ≡ Some r → ⊥
    never q none e = let same : q ≡ r.place = cc e in let is_so = ap has_begun same in cc (none, is_so, begun)

    by : (p : Place) → reading_at p command h ≡ Some r → is_first p ≡ false
    by (place.Log (log.AtOnce refusal)) e = absurd (never (log.AtOnce refusal) refl e)
    by (place.Log log.Exclude) e = absurd (never log.Exclude refl e)
    by (place.Log (log.Peek false)) e = absurd (never (log.Peek false) refl e)
    by (place.Log _) e = refl
    by _ e = absurd (cc e)
