-- Lines in file order: what has run of each actor's lines, and what is next.
use Rattle.std.proofs.Common.{◌≡◌, ◌≢◌, ◌<◌, ◌+◌, ◌-◌, ℕ, suc, List, [], ◌∷◌, ◌++◌, length, take, drop, get_or, refl, sym, ap, subst, ◌∙◌, arith}
use Rattle.std.proofs.Common.{length-append, add-one}
use Rattle.std.proofs.Math.Seq.{drop-cons, get_or-append_seam, take-suc}
use Rattle.std.proofs.lemmas.List.{append-nil, take-append-drop}
use Rattle.std.proofs.lemmas.List.Elements.{filter-append}
use Rattle.std.proofs.lemmas.Option.{slice_get-get_or}
use Rattle.std.proofs.lemmas.Bool.Decides.{nat_tests}
use Rattle.std.specs.Prelude.{Bool, true, false, Some, ◌==◌, nat_lt, if◌then◌else◌, slice_get}
use Rattle.core_views.specs.declared.actor.Actor.{Actor}
use Rattle.core_views.specs.declared.actor.Actor.TheVariants.{Vcpu, Manager, Host, Worker}
use Rattle.core_views.specs.declared.sizes.Sizes.{Sizes}
use Rattle.core_views.specs.declared.trace.Command.{Command}
use Rattle.core_views.specs.declared.trace.Command.TheVariants.{Access, ChangeHost, ChangeRun, Split}
use Rattle.core_views.specs.declared.trace.Line.{Line}
use Rattle.core_views.specs.Actors.{is_same}
use Rattle.core_views.specs.Sizes.{actor_at, actors_of, index_of}
use Rattle.core_views.specs.Traces.{IsCommandFor}
use Rattle.core_views.specs.Whole.{lines_of}
use Rattle.core_views.proofs.SameActor.{is_same_self}
use Rattle.mmu_core.proofs.start.Starts.{place_of_actor, same_actor}

-- an actor's lines among two lists
lines_of_append : (actor : Actor) (xs ys : List Line) → lines_of actor (xs ++ ys) ≡ lines_of actor xs ++ lines_of actor ys
lines_of_append actor xs ys = filter-append (λ line. is_same actor line.actor) xs ys

pub one_more_line : (lines : List Line) (i : ℕ) (d : Line) → i < length lines → take (i + 1) lines ≡ take i lines ++ get_or lines i d ∷ []
one_more_line lines i d lt = rw add-one (take-suc lines i d lt)

-- one more line, of this actor or of another
own_more : (actor : Actor) (line : Line) (b : Bool) → is_same actor line.actor ≡ b → lines_of actor (line ∷ []) ≡ (if b then line ∷ [] else [])
own_more actor line b is = rw is refl

pub own_line : (actor : Actor) (lines : List Line) (i : ℕ) (d : Line) → i < length lines → actor ≡ (get_or lines i d).actor
    → lines_of actor (take (i + 1) lines) ≡ lines_of actor (take i lines) ++ get_or lines i d ∷ []
own_line actor lines i d lt is =
    let line : Line = get_or lines i d in
    let same : is_same actor line.actor ≡ true = subst (λ x. is_same actor x ≡ true) is (is_same_self actor) in
    ap (lines_of actor) (one_more_line lines i d lt) ∙ lines_of_append actor (take i lines) (line ∷ [])
    ∙ ap (λ xs. lines_of actor (take i lines) ++ xs) (own_more actor line true same)

pub other_line : (actor : Actor) (lines : List Line) (i : ℕ) (d : Line) → i < length lines → is_same actor (get_or lines i d).actor ≡ false
    → lines_of actor (take (i + 1) lines) ≡ lines_of actor (take i lines)
other_line actor lines i d lt apart =
    let line : Line = get_or lines i d in
    ap (lines_of actor) (one_more_line lines i d lt) ∙ lines_of_append actor (take i lines) (line ∷ [])
    ∙ ap (λ xs. lines_of actor (take i lines) ++ xs) (own_more actor line false apart) ∙ append-nil (lines_of actor (take i lines))

-- The next of an actor's lines, after those among the first i, is line i, where it is the actor's.
pub next_is : (actor : Actor) (lines : List Line) (i : ℕ) (d : Line) → i < length lines → actor ≡ (get_or lines i d).actor
    → slice_get (lines_of actor lines) (length (lines_of actor (take i lines))) ≡ Some (get_or lines i d)
next_is actor lines i d lt is =
    let line : Line = get_or lines i d in
    let front : List Line = lines_of actor (take i lines) in
    let back : List Line = lines_of actor (drop (suc i) lines) in
    let same : is_same actor line.actor ≡ true = subst (λ x. is_same actor x ≡ true) is (is_same_self actor) in
    let rest : lines_of actor (line ∷ drop (suc i) lines) ≡ line ∷ back = rw same refl in
    let whole : lines_of actor lines ≡ front ++ line ∷ back =
    ap (lines_of actor) (sym (take-append-drop i lines)) ∙ lines_of_append actor (take i lines) (drop i lines)
    ∙ ap (λ xs. front ++ lines_of actor xs) (drop-cons lines i d lt) ∙ ap (λ xs. front ++ xs) rest in
    let count : length (front ++ line ∷ back) ≡ length front + length (line ∷ back) = length-append front (line ∷ back) in
    let here : slice_get (front ++ line ∷ back) (length front) ≡ Some (get_or (front ++ line ∷ back) (length front) line) =
    slice_get-get_or (front ++ line ∷ back) (length front) line (omega (arith, count)) in
    subst (λ xs. slice_get xs (length front) ≡ Some line) (sym whole) (here ∙ ap Some (get_or-append_seam front line back line))

-- An actor that makes a line is one of the machine's.
pub maker_there : (z : Sizes) (actor : Actor) (command : Command) → IsCommandFor z actor command → index_of z actor < actors_of z
maker_there z (Vcpu n) (Access gfn word op) may = let lt = may.0 in omega (arith, lt)
maker_there z Manager command may = omega arith
maker_there z (Host n) (ChangeHost page change) may = omega (arith, may)
maker_there z (Host n) (ChangeRun page change) may = let lt = may.0 in omega (arith, lt)
maker_there z (Worker n) (Split gfn) may = let lt = may.0 in omega (arith, lt)
maker_there z _ _ may = absurd may

vcpu_at : (z : Sizes) (n : ℕ) → n < z.vcpus → actor_at z n ≡ Vcpu n
vcpu_at z n lt = let e : nat_lt n z.vcpus ≡ true = grind (arith, nat_tests) in rw e refl

manager_at : (z : Sizes) → actor_at z (z.vcpus + z.hosts) ≡ Manager
manager_at z =
    let past : nat_lt (z.vcpus + z.hosts) z.vcpus ≡ false = grind (arith, nat_tests) in
    let behind : nat_lt (z.vcpus + z.hosts - z.vcpus) z.hosts ≡ false = grind (arith, nat_tests) in
    let here : (z.vcpus + z.hosts == z.vcpus + z.hosts) ≡ true = grind (arith, nat_tests) in
    rw (past, behind, here) refl

host_at : (z : Sizes) (n : ℕ) → n < z.hosts → actor_at z (z.vcpus + n) ≡ Host n
host_at z n lt =
    let same : z.vcpus + n - z.vcpus ≡ n = omega arith in
    let past : nat_lt (z.vcpus + n) z.vcpus ≡ false = grind (arith, nat_tests) in
    let there : nat_lt (z.vcpus + n - z.vcpus) z.hosts ≡ true = grind (arith, same, lt, nat_tests) in
    rw (past, there) (ap Host same)

worker_at : (z : Sizes) (n : ℕ) → actor_at z (z.vcpus + z.hosts + 1 + n) ≡ Worker n
worker_at z n =
    let place : ℕ = z.vcpus + z.hosts + 1 + n in
    let same : place - z.vcpus - z.hosts - 1 ≡ n = omega arith in
    let past : nat_lt place z.vcpus ≡ false = grind (arith, nat_tests) in
    let behind : nat_lt (place - z.vcpus) z.hosts ≡ false = grind (arith, nat_tests) in
    let not_manager : (place == z.vcpus + z.hosts) ≡ false = grind (arith, nat_tests) in
    rw (past, behind, not_manager) (ap Worker same)

pub maker_is : (z : Sizes) (actor : Actor) (command : Command) → IsCommandFor z actor command → actor_at z (index_of z actor) ≡ actor
maker_is z (Vcpu n) (Access gfn word op) may = vcpu_at z n may.0
maker_is z Manager command may = manager_at z
maker_is z (Host n) (ChangeHost page change) may = host_at z n may
maker_is z (Host n) (ChangeRun page change) may = host_at z n may.0
maker_is z (Worker n) (Split gfn) may = worker_at z n
maker_is z _ _ may = absurd may

-- The actor at another place is another one.
pub other_place : (z : Sizes) (i : ℕ) (actor : Actor) → i < actors_of z → i ≢ index_of z actor → is_same (actor_at z i) actor ≡ false
other_place z i actor lt ne = by (is_same (actor_at z i) actor) refl
  where
    by : (b : Bool) → is_same (actor_at z i) actor ≡ b → is_same (actor_at z i) actor ≡ false
    by true e = absurd (ne (sym (place_of_actor z i lt) ∙ ap (index_of z) (sym (same_actor (actor_at z i) actor e))))
    by false e = e
