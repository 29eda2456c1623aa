-- A look-up goes through what is cached from the newest on: through the newer part first, and then through the older one.
use Rattle.std.proofs.Common.{◌≡◌, ℕ, List, ◌++◌, sym, ap, ◌∙◌}
use Rattle.std.proofs.lemmas.List.Folds.{find-append}
use Rattle.std.specs.Prelude.{Bool, Option, Some, None}
use Rattle.std.specs.Option.{option_or}
use Rattle.core_views.specs.declared.cache.Translation.{Translation}
use Rattle.mmu_core.specs.forms.access.Cached.{first_usable, is_usable}

-- Over both parts it finds what it finds in the newer one, and else what it finds in the older one.
over_both : (gfn : ℕ) (write : Bool) (newer older : List Translation) (found : Option Translation) → first_usable gfn write newer ≡ found
    → first_usable gfn write (newer ++ older) ≡ option_or found (first_usable gfn write older)
over_both gfn write newer older found is =
    find-append (is_usable gfn write) newer older
    ∙ ap (λ (o : Option Translation). option_or o (first_usable gfn write older)) is

pub in_newer : (gfn : ℕ) (write : Bool) (newer older : List Translation) (t : Translation) {cached : List Translation}
    → first_usable gfn write newer ≡ Some t → newer ++ older ≡ cached → Some t ≡ first_usable gfn write cached
in_newer gfn write newer older t is both = sym (over_both gfn write newer older (Some t) is) ∙ ap (first_usable gfn write) both

pub in_older : (gfn : ℕ) (write : Bool) (newer older : List Translation) {cached : List Translation}
    → first_usable gfn write newer ≡ None → newer ++ older ≡ cached → first_usable gfn write older ≡ first_usable gfn write cached
in_older gfn write newer older is both = sym (over_both gfn write newer older None is) ∙ ap (first_usable gfn write) both
