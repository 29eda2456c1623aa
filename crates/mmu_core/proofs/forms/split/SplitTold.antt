-- A line that splits a large leaf at its places, which are of a simple form: all that laws ask of it.
use Rattle.std.proofs.Common.{◌≡◌, inl, inr, ℕ, arith, refl}
use Rattle.std.proofs.Props.{props}
use Rattle.std.specs.Prelude.{List, [], ◌∷◌, false}
use Rattle.core_views.specs.declared.answer.Answer.{Answer}
use Rattle.core_views.specs.declared.answer.Answer.TheVariants.{Starved}
use Rattle.core_views.specs.declared.event.EventKind.{EventKind}
use Rattle.core_views.specs.declared.event.EventKind.TheVariants.{Exited}
use Rattle.core_views.specs.declared.place.Place.TheVariants as place
use Rattle.core_views.specs.declared.place.SplitEnd.TheVariants as end_of
use Rattle.core_views.specs.declared.place.SplitPlace.{SplitPlace}
use Rattle.core_views.specs.declared.place.SplitPlace.TheVariants.{Give, Unshare, End}
use Rattle.core_views.specs.declared.sizes.Sizes.{Sizes}
use Rattle.core_views.specs.declared.trace.Command.{Command}
use Rattle.core_views.specs.declared.trace.Command.TheVariants as command
use Rattle.core_views.specs.Held.{Held}
use Rattle.mmu_core.specs.declared.outcome.Outcome.TheVariants.{Ends, Goes}
use Rattle.mmu_core.specs.forms.split.SplitKnows.{SplitEndKnows, SplitKnows}
use Rattle.mmu_core.specs.forms.split.SplitSteps.{split_outcome, split_part, split_tells}
use Rattle.mmu_core.specs.lines.Delays.{line_waits}
use Rattle.core_views.specs.declared.place.SplitEnd.{SplitEnd}
use Rattle.core_views.specs.declared.topics.Topics.{Topics}
use Rattle.mmu_core.proofs.forms.split.SplitClaims.{split_claims_or_not}
use Rattle.mmu_core.proofs.forms.split.SplitPlaces.{some_split_left, split_few, split_goes, split_untold}
use Rattle.mmu_core.proofs.lines.FormLaws.{FormLaws}
use Rattle.mmu_core.proofs.lines.SimplePlaces.{Exit, Nothing, SimplePlace, Told, none_raised}
use Rattle.mmu_core.proofs.machine.PartStepping.{untold_rises}

-- It tells nothing but that it is starved: what is so of these two is so of what each step tells.
pub split_tells_so : (Q : List EventKind → Type 0) → Q [] → Q (Exited Starved ∷ []) → (p : SplitPlace) → Q (split_tells p)
split_tells_so Q none starved (End end_of.Starved) = starved
split_tells_so Q none starved (End end_of.Split) = none
split_tells_so Q none starved (End (end_of.Nothing word)) = none
split_tells_so Q none starved (End (end_of.Changed seen)) = none
split_tells_so Q none starved _ = none

split_told : (p : SplitPlace) (gfn : ℕ) (h : Held) (v : ℕ) → Told h v (place.Split p) (command.Split gfn) (split_tells p)
split_told (End end_of.Starved) gfn h v = Exit (λ e. cc e)
split_told (End end_of.Split) gfn h v = Nothing
split_told (End (end_of.Nothing word)) gfn h v = Nothing
split_told (End (end_of.Changed seen)) gfn h v = Nothing
split_told _ gfn h v = Nothing

-- The step that ends it doesn't wait.
split_free : (p : SplitPlace) (gfn : ℕ) (h : Held) (v : ℕ) (answer : Answer) → split_outcome p h.state.sizes h.topics v ≡ Ends answer
    → line_waits (place.Split p) (command.Split gfn) h v ≡ false
split_free (End end) gfn h v answer e = refl
split_free _ gfn h v answer e = absurd (cc e)

-- What it knows is a proposition.
end_prop : (e : SplitEnd) (z : Sizes) (gfn : ℕ) (t : Topics) → IsProp (SplitEndKnows e z gfn t)
end_prop end_of.Split z gfn t = hlevel props
end_prop (end_of.Nothing word) z gfn t = hlevel props
end_prop (end_of.Changed seen) z gfn t = hlevel props
end_prop end_of.Starved z gfn t = hlevel props

split_knows_prop : (p : SplitPlace) (z : Sizes) (gfn : ℕ) (t : Topics) → IsProp (SplitKnows p z gfn t)
split_knows_prop (Give end_of.Split) z gfn t = hlevel props
split_knows_prop (Give (end_of.Nothing word)) z gfn t = hlevel props
split_knows_prop (Give (end_of.Changed seen)) z gfn t = hlevel props
split_knows_prop (Give end_of.Starved) z gfn t = hlevel props
split_knows_prop (Unshare e) z gfn t = hlevel (props, end_prop)
split_knows_prop (End e) z gfn t = hlevel (props, end_prop)
split_knows_prop _ z gfn t = hlevel props

split_simple : (gfn : ℕ) (h : Held) (v : ℕ) (p : SplitPlace) → SimplePlace (place.Split p) (command.Split gfn) h v
split_simple gfn h v p = record {
  tells = split_told p gfn h v;
  raises = λ line.
      none_raised (split_outcome p h.state.sizes h.topics v) line h.answers _ (untold_rises (split_part p gfn h.topics) (split_untold p gfn h.topics));
  claims = λ R. split_claims_or_not gfn h v p;
}

pub split_laws : (p : SplitPlace) (c : Command) → FormLaws (place.Split p) c
split_laws p (command.Split gfn) = record {
  goes = λ h v begun. (split_goes p h.state.sizes h.topics v).0;
  within = λ h v. (split_goes p h.state.sizes h.topics v).1;
  knows_for = λ h begun K. refl;
  rests_for = λ h begun R. refl;
  simple = λ h v is. split_simple gfn h v p;
  rests = λ h other. inr (record {
    step = split_part p gfn h.topics;
    at = refl;
    more = Unit {0};
    more_prop = hlevel props;
    needs = λ R. (R, tt);
    rests = λ N M. N;
  });
  knows_prop = λ h other. split_knows_prop p h.state.sizes gfn h.topics;
  stays = λ z before set after other h own e. tt;
  accepts = λ z pool set h e. tt;
  accepts_prop = λ z slots. hlevel props;
  free = λ h v answer R e. split_free p gfn h v answer e;
  told = λ h v. split_told p gfn h v;
  few = λ z pool set h holds K S most. let few = split_few p h.state.sizes h.topics most in omega (arith, few);
  some = λ z t begun. some_split_left p z t;
}
split_laws p _ = record {
  goes = λ h v begun. tt;
  within = λ h v command. refl;
  knows_for = λ h begun K. absurd K;
  rests_for = λ h begun R. absurd R;
  simple = λ h v is. record {
    tells = Nothing;
    raises = λ line. none_raised (Goes (place.Split p)) line h.answers 0 refl;
    claims = λ R. absurd R;
  };
  rests = λ h other. inl (λ R. absurd R);
  knows_prop = λ h other. hlevel props;
  stays = λ z before set after other h own e. absurd e;
  accepts = λ z pool set h e. tt;
  accepts_prop = λ z slots. hlevel props;
  free = λ h v answer R e. absurd R;
  told = λ h v. Nothing;
  few = λ z pool set h holds K S most. absurd K;
  some = λ z t begun. some_split_left p z t;
}
