-- What `clap` answers for a simple command.
use Rattle.std.proofs.Common.{◌≡◌, ◌≢◌, ◌⊎◌, ◌&&◌, Bool, ap, refl, true, false, List, [], ◌∷◌, inl, inr, subst}
use Rattle.clap.specs.Words.{App, Text, HasKind, HasMatchesOf, IsAmong, Kinds, is_simple, is_simple_and_free, fault_of, found_of, rows_of, kind_of}
use Rattle.clap.specs.declared.parser.matches.ArgMatches.{ArgMatches}
use Rattle.clap.specs.declared.error.Error.{Error}
use Rattle.clap.specs.declared.error.kind.ErrorKind.{ErrorKind}
use Rattle.clap.specs.declared.error.kind.ErrorKind.TheVariants as kind
use Rattle.svc_commands.specs.Matches.{is_simple_app, rows_for, kinds_for, wait_app, listen_app, stat_app, permafail_app}
use Rattle.svc_commands.specs.Kinds.{usage_of, IsUsageFault}

some_kind : (k : ErrorKind) (kinds : Kinds) → IsAmong k kinds → kinds ≢ []
some_kind k [] h = absurd h
some_kind k (x ∷ xs) h = λ e. (let P : Kinds → Type 0 = λ ks. elim ks [ [] ↦ ⊥ | _ ∷ _ ↦ Unit {0} ] in subst P e tt)

as_fault : (k : ErrorKind) (kinds : Kinds) → (k ≡ kind.OutOfMemory) ⊎ IsAmong k kinds → IsUsageFault kinds (usage_of k)
as_fault k kinds (inl e) = inl (ap usage_of e)
as_fault kind.OutOfMemory kinds (inr h) = inl refl
as_fault k kinds (inr h) = inr (refl, some_kind k kinds h)

both : (a b : Bool) → (a && b) ≡ true → (a ≡ true) × (b ≡ true)
both true true e = (refl, refl)
both true false e = absurd (cc)
both false b e = absurd (cc)

pub rows_are : (app : App) (words : List Text) (m : ArgMatches) → is_simple_app app ≡ true → HasMatchesOf app words m
    → rows_of (found_of m) ≡ rows_for app words
unfolding rows_for is_simple_app
rows_are app words m e h = (h (both (is_simple app) (is_simple_and_free app) e).0).0

pub no_kind : (app : App) (words : List Text) → is_simple_app app ≡ true → (is_simple_and_free app ≡ true → fault_of app words ≡ [])
    → kinds_for app words ≡ []
unfolding kinds_for is_simple_app
no_kind app words e h = h (both (is_simple app) (is_simple_and_free app) e).1

pub fault_is : (app : App) (words : List Text) (e : Error) → is_simple_app app ≡ true
    → (is_simple_and_free app ≡ true → HasKind (fault_of app words) e) → IsUsageFault (kinds_for app words) (usage_of (kind_of e))
unfolding kinds_for is_simple_app
fault_is app words e is h = as_fault (kind_of e) (fault_of app words) (h (both (is_simple app) (is_simple_and_free app) is).1)

-- the four commands are simple
pub wait_is_simple : is_simple_app wait_app ≡ true
unfolding wait_app is_simple_app
wait_is_simple = refl

pub listen_is_simple : is_simple_app listen_app ≡ true
unfolding listen_app is_simple_app
listen_is_simple = refl

pub stat_is_simple : is_simple_app stat_app ≡ true
unfolding stat_app is_simple_app
stat_is_simple = refl

pub permafail_is_simple : is_simple_app permafail_app ≡ true
unfolding permafail_app is_simple_app
permafail_is_simple = refl
