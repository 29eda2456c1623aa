-- None of the translations so far is usable.
use Rattle.std.proofs.Common.{◌≡◌, drop}
use Rattle.mmu_core.specs.forms.access.Cached.{first_usable}
use Rattle.access_twins.proofs.cached.first_of_few.Given as goal

abbrev pub invariant-loop-translation : goal.invariant-loop-translation
invariant-loop-translation l = first_usable l.gfn l.write l.translations ≡ first_usable l.gfn l.write (drop l.translation-index l.translations)
