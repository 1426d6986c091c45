-- What is remembered is so again once a subscription is ended, and what is shown of one.
use Rattle.std.proofs.Common.{◌≡◌, ℕ, suc, ◌<◌, ◌≤◌, ◌==◌, List, [], ◌∷◌, Bool, true, false, not, cond, map, filter, get_or, All, Option, None}
use Rattle.std.proofs.Common.{Some, refl, sym, ap, subst, ◌∙◌, arith}
use Rattle.std.proofs.lemmas.Option.{none-some, same_Some}
use Rattle.std.proofs.lemmas.List.Elements.{All-cons}
use Rattle.event_directory.specs.Directories.{WrittenDirectories, WrittenSubscription, is_same_source, with_text, subscriptions_to, place_now}
use Rattle.event_directory.specs.Directories.{subscriptions_without, list_named}
use Rattle.event_directory.specs.Register.{source_of, subscribers_without, followed_others, followed_if, without_subscription_at}
use Rattle.event_directory.specs.Register.{without_subscription_by}
use Rattle.event_directory.specs.RegisterChanges.{view_at, view_in}
use Rattle.event_directory.specs.Remembered.{Followed, DirectoriesShown, kept_at, AreHeard}
use Rattle.event_directory.specs.Sending.{TextSubscription, KeptSubscription, HaveHeard, left_without, kept_without, view_of}
use Rattle.event_directory.specs.Views.{list_of_subscription}
use Rattle.event_directory.specs.declared.source.Source.{Source}
use Rattle.event_directory.specs.declared.sub_view.State.{State}
use Rattle.event_directory.proofs.Firsts.{first_here, first_there, first_nowhere, first_gone}
use Rattle.event_directory.proofs.Joins.{hearing_alone, place_alone}
use Rattle.event_directory.proofs.Sends.{hears_left}
use Rattle.event_directory.proofs.Sources.{is_same_true, is_same_refl}
use Rattle.event_directory.proofs.Views.{list_stored}

abbrev pub subscribers_of : List WrittenSubscription → List (ℕ × Source)
subscribers_of ps = map (λ p. (p.id, p.source)) ps

others_by : (s source : Source) (f : Followed) (fs : List Followed) (b : Bool) → is_same_source source f.source ≡ b →
    kept_at s (followed_others source fs) ≡ cond (is_same_source s source) [] (kept_at s fs) →
    kept_at s (cond (not b) (f ∷ followed_others source fs) (followed_others source fs)) ≡ cond (is_same_source s source) [] (kept_at s (f ∷ fs))
others_by s source f fs true e ih =
    ih ∙ first_gone f.standing (kept_at s fs) (is_same_source s source)
    ∙ ap (λ t. cond (is_same_source s source) [] (cond (is_same_source s t) f.standing (kept_at s fs))) (is_same_true source f.source e)
others_by s source f fs false e ih = first_there (λ l. []) s source f.source f.standing _ (kept_at s fs) (is_same_source s f.source) refl e ih

others : (s source : Source) (fs : List Followed) → kept_at s (followed_others source fs) ≡ cond (is_same_source s source) [] (kept_at s fs)
others s source [] = first_nowhere (λ l. []) refl (is_same_source s source)
others s source (f ∷ fs) = others_by s source f fs (is_same_source source f.source) refl (others s source fs)

kept_if : (s source : Source) (standing : List KeptSubscription) (fs : List Followed)
    → kept_at s (followed_if source standing fs) ≡ cond (is_same_source s source) standing (kept_at s fs)
kept_if s source [] fs = others s source fs
kept_if s source (x ∷ xs) fs = refl

left_one : (id : ℕ) (s source : Source) (f : Followed) (fs : List Followed) (b : Bool) → is_same_source source f.source ≡ b →
    kept_at s (without_subscription_at id source fs) ≡ cond (is_same_source s source) (kept_without id (kept_at s fs)) (kept_at s fs) →
    kept_at s (cond b (followed_if f.source (kept_without id f.standing) fs) (f ∷ without_subscription_at id source fs))
    ≡ cond (is_same_source s source) (kept_without id (kept_at s (f ∷ fs))) (kept_at s (f ∷ fs))
left_one id s source f fs true e ih =
    kept_if s f.source (kept_without id f.standing) fs
    ∙ first_here (kept_without id) f.standing (kept_at s fs) (is_same_source s f.source)
    ∙ ap (λ t. cond (is_same_source s t) (kept_without id (kept_at s (f ∷ fs))) (kept_at s (f ∷ fs))) (sym (is_same_true source f.source e))
left_one id s source f fs false e ih = first_there (kept_without id) s source f.source f.standing _ (kept_at s fs)
    (is_same_source s f.source) refl e ih

standing_left : (id : ℕ) (s source : Source) (fs : List Followed)
    → kept_at s (without_subscription_at id source fs) ≡ cond (is_same_source s source) (kept_without id (kept_at s fs)) (kept_at s fs)
standing_left id s source [] = first_nowhere (kept_without id) refl (is_same_source s source)
standing_left id s source (f ∷ fs) = left_one id s source f fs (is_same_source source f.source) refl (standing_left id s source fs)

subscribers_by : (id : ℕ) (p : WrittenSubscription) (ps : List WrittenSubscription) (b : Bool)
    → subscribers_without id (subscribers_of ps) ≡ subscribers_of (subscriptions_without id ps) →
    cond b (subscribers_of ps) ((p.id, p.source) ∷ subscribers_without id (subscribers_of ps))
    ≡ subscribers_of (cond b ps (p ∷ subscriptions_without id ps))
subscribers_by id p ps true ih = refl
subscribers_by id p ps false ih = ap (λ l. (p.id, p.source) ∷ l) ih

subscribers_left : (id : ℕ) (ps : List WrittenSubscription)
    → subscribers_without id (subscribers_of ps) ≡ subscribers_of (subscriptions_without id ps)
subscribers_left id [] = refl
subscribers_left id (p ∷ ps) = subscribers_by id p ps (p.id == id) (subscribers_left id ps)

all_by : (P : WrittenSubscription → Type 0) (id : ℕ) (p : WrittenSubscription) (ps : List WrittenSubscription) (b : Bool) → All P (p ∷ ps)
    → All P (subscriptions_without id ps) → All P (cond b ps (p ∷ subscriptions_without id ps))
all_by P id p ps true all rest = λ k q lt. all (suc k) q (omega arith)
all_by P id p ps false all rest = All-cons P p (subscriptions_without id ps) (all 0 p (omega arith)) rest

all_left : (P : WrittenSubscription → Type 0) (id : ℕ) (ps : List WrittenSubscription) → All P ps → All P (subscriptions_without id ps)
all_left P id [] all = all
all_left P id (p ∷ ps) all = all_by P id p ps (p.id == id) all (all_left P id ps (λ k q lt. all (suc k) q (omega arith)))

-- the subscription of this serial is of that source, and no other source loses one
gone_by : (id : ℕ) (d : WrittenDirectories) (p : WrittenSubscription) (rest : List WrittenSubscription) (c : Bool) → (p.id == id) ≡ true →
    map (with_text d) rest ≡ cond c (left_without id (map (with_text d) (cond c (p ∷ rest) rest))) (map (with_text d) (cond c (p ∷ rest) rest))
gone_by id d p rest true e = rw e refl
gone_by id d p rest false e = refl

stays_here : (id : ℕ) (d : WrittenDirectories) (p : WrittenSubscription) (new old : List WrittenSubscription) (k : Bool) → (p.id == id) ≡ false
    → map (with_text d) new ≡ cond k (left_without id (map (with_text d) old)) (map (with_text d) old) →
    with_text d p ∷ map (with_text d) new ≡ cond k (left_without id (with_text d p ∷ map (with_text d) old)) (with_text d p ∷ map (with_text d) old)
stays_here id d p new old true e ih = rw e (ap (λ l. with_text d p ∷ l) ih)
stays_here id d p new old false e ih = ap (λ l. with_text d p ∷ l) ih

stays_by : (id : ℕ) (d : WrittenDirectories) (p : WrittenSubscription) (new old : List WrittenSubscription) (k c : Bool) → (p.id == id) ≡ false
    → map (with_text d) new ≡ cond k (left_without id (map (with_text d) old)) (map (with_text d) old) →
    map (with_text d) (cond c (p ∷ new) new) ≡ cond k (left_without id (map (with_text d) (cond c (p ∷ old) old)))
    (map (with_text d) (cond c (p ∷ old) old))
stays_by id d p new old k true e ih = stays_here id d p new old k e ih
stays_by id d p new old k false e ih = ih

hearing_by : (id : ℕ) (t source : Source) (d : WrittenDirectories) (p : WrittenSubscription) (ps : List WrittenSubscription) (b : Bool)
    → (p.id == id) ≡ b → cond b (Some p.source) (source_of id (subscribers_of ps)) ≡ Some source →
    (source_of id (subscribers_of ps) ≡ Some source → map (with_text d) (filter (λ p. is_same_source t p.source) (subscriptions_without id ps))
    ≡ cond (is_same_source t source) (left_without id (map (with_text d) (filter (λ p. is_same_source t p.source) ps)))
    (map (with_text d) (filter (λ p. is_same_source t p.source) ps))) →
    map (with_text d) (filter (λ p. is_same_source t p.source) (cond b ps (p ∷ subscriptions_without id ps)))
    ≡ cond (is_same_source t source) (left_without id (map (with_text d) (filter (λ p. is_same_source t p.source) (p ∷ ps))))
    (map (with_text d) (filter (λ p. is_same_source t p.source) (p ∷ ps)))
hearing_by id t source d p ps true e is ih =
    gone_by id d p (filter (λ p. is_same_source t p.source) ps) (is_same_source t p.source) e
    ∙ ap (λ u. cond (is_same_source t u) (left_without id (map (with_text d) (filter (λ p. is_same_source t p.source) (p ∷ ps))))
    (map (with_text d) (filter (λ p. is_same_source t p.source) (p ∷ ps)))) (same_Some p.source source is)
hearing_by id t source d p ps false e is ih =
    stays_by id d p (filter (λ p. is_same_source t p.source) (subscriptions_without id ps)) (filter (λ p. is_same_source t p.source) ps)
    (is_same_source t source) (is_same_source t p.source) e (ih is)

hearing_left : (id : ℕ) (t source : Source) (d : WrittenDirectories) (ps : List WrittenSubscription)
    → source_of id (subscribers_of ps) ≡ Some source →
    map (with_text d) (filter (λ p. is_same_source t p.source) (subscriptions_without id ps))
    ≡ cond (is_same_source t source) (left_without id (map (with_text d) (filter (λ p. is_same_source t p.source) ps)))
    (map (with_text d) (filter (λ p. is_same_source t p.source) ps))
hearing_left id t source d [] is = absurd (none-some source is)
hearing_left id t source d (p ∷ ps) is = hearing_by id t source d p ps (p.id == id) refl is (λ e. hearing_left id t source d ps e)

hears_by : (test : List ℕ → List ℕ → Bool) (id : ℕ) (standing : List KeptSubscription) (heard : List TextSubscription) (b : Bool)
    → HaveHeard test standing heard →
    HaveHeard test (cond b (kept_without id standing) standing) (cond b (left_without id heard) heard)
hears_by test id standing heard true h = hears_left test standing (kept_without id standing) id refl heard h
hears_by test id standing heard false h = h

pub left_heard : (test : List ℕ → List ℕ → Bool) (s : DirectoriesShown) (d : WrittenDirectories) (h : AreHeard test s d) (id : ℕ) (source : Source)
    → source_of id s.subscribers ≡ Some source →
    AreHeard test (without_subscription_by id source s) (record d { subscriptions = subscriptions_without id d.subscriptions })
left_heard test s d h id source is = record {
  names = h.names;
  subscribers = ap (subscribers_without id) h.subscribers ∙ subscribers_left id d.subscriptions;
  hears = λ t. subst (HaveHeard test (kept_at t (without_subscription_at id source s.followed)))
      (sym (hearing_alone d (subscriptions_without id d.subscriptions) d.next
      (filter (λ p. is_same_source t p.source) (subscriptions_without id d.subscriptions))
      ∙ hearing_left id t source d d.subscriptions (ap (source_of id) (sym h.subscribers) ∙ is)))
      (subst (λ z. HaveHeard test z (cond (is_same_source t source) (left_without id (subscriptions_to t d)) (subscriptions_to t d)))
      (sym (standing_left id t source s.followed))
      (hears_by test id (kept_at t s.followed) (subscriptions_to t d) (is_same_source t source) (h.hears t)));
  placed = all_left (λ (p : WrittenSubscription). p.place
      ≤ place_now p.source (record d { subscriptions = subscriptions_without id d.subscriptions })) id d.subscriptions
      (λ k q lt. omega (
        arith,
        h.placed k q lt,
        place_alone (get_or d.subscriptions k q).source d
            (subscriptions_without id d.subscriptions) d.next,
      ));
  below = all_left (λ (p : WrittenSubscription). p.id < d.next) id d.subscriptions h.below;
  next = h.next;
}

none_by : (id : ℕ) (p : WrittenSubscription) (ps : List WrittenSubscription) (b : Bool)
    → cond b (Some p.source) (source_of id (subscribers_of ps)) ≡ None
    → (source_of id (subscribers_of ps) ≡ None → subscriptions_without id ps ≡ ps) →
    cond b ps (p ∷ subscriptions_without id ps) ≡ p ∷ ps
none_by id p ps true is ih = absurd (none-some p.source (sym is))
none_by id p ps false is ih = ap (λ l. p ∷ l) (ih is)

pub none_left : (id : ℕ) (ps : List WrittenSubscription) → source_of id (subscribers_of ps) ≡ None → subscriptions_without id ps ≡ ps
none_left id [] is = refl
none_left id (p ∷ ps) is = none_by id p ps (p.id == id) is (λ e. none_left id ps e)

-- what is shown of a subscription is of its source
list_here : (test : List ℕ → List ℕ → Bool) (id : ℕ) (source : Source) (d : WrittenDirectories) (p : WrittenSubscription)
    (rest all : List WrittenSubscription) (c : Bool) → c ≡ true → (p.id == id) ≡ true →
    list_of_subscription test id (map (with_text d) (cond c (p ∷ rest) rest)) ≡ list_of_subscription test id (with_text d p ∷ map (with_text d) all)
list_here test id source d p rest all c same e = rw (same, e) refl

list_there : (test : List ℕ → List ℕ → Bool) (id : ℕ) (d : WrittenDirectories) (p : WrittenSubscription) (rest all : List WrittenSubscription)
    (c : Bool) → (p.id == id) ≡ false →
    list_of_subscription test id (map (with_text d) rest) ≡ list_of_subscription test id (map (with_text d) all) →
    list_of_subscription test id (map (with_text d) (cond c (p ∷ rest) rest)) ≡ list_of_subscription test id (with_text d p ∷ map (with_text d) all)
list_there test id d p rest all true e ih = rw e ih
list_there test id d p rest all false e ih = rw e ih

list_by : (test : List ℕ → List ℕ → Bool) (id : ℕ) (source : Source) (d : WrittenDirectories) (p : WrittenSubscription)
    (ps : List WrittenSubscription) (b : Bool) → (p.id == id) ≡ b → cond b (Some p.source) (source_of id (subscribers_of ps)) ≡ Some source →
    (source_of id (subscribers_of ps) ≡ Some source
    → list_of_subscription test id (map (with_text d) (filter (λ p. is_same_source source p.source) ps))
    ≡ list_of_subscription test id (map (with_text d) ps)) →
    list_of_subscription test id (map (with_text d) (filter (λ p. is_same_source source p.source) (p ∷ ps)))
    ≡ list_of_subscription test id (map (with_text d) (p ∷ ps))
list_by test id source d p ps true e is ih =
    list_here test id source d p (filter (λ p. is_same_source source p.source) ps) ps (is_same_source source p.source)
    (ap (is_same_source source) (same_Some p.source source is) ∙ is_same_refl source) e
list_by test id source d p ps false e is ih =
    list_there test id d p (filter (λ p. is_same_source source p.source) ps) ps (is_same_source source p.source) e (ih is)

list_hearing : (test : List ℕ → List ℕ → Bool) (id : ℕ) (source : Source) (d : WrittenDirectories) (ps : List WrittenSubscription)
    → source_of id (subscribers_of ps) ≡ Some source →
    list_of_subscription test id (map (with_text d) (filter (λ p. is_same_source source p.source) ps))
    ≡ list_of_subscription test id (map (with_text d) ps)
list_hearing test id source d [] is = refl
list_hearing test id source d (p ∷ ps) is = list_by test id source d p ps (p.id == id) refl is (λ e. list_hearing test id source d ps e)

nothing_by : (test : List ℕ → List ℕ → Bool) (id : ℕ) (d : WrittenDirectories) (p : WrittenSubscription) (ps : List WrittenSubscription) (b : Bool)
    (x : List ℕ × State) → cond b (Some p.source) (source_of id (subscribers_of ps)) ≡ None →
    (source_of id (subscribers_of ps) ≡ None → None ≡ list_of_subscription test id (map (with_text d) ps))
    → None ≡ cond b (Some x) (list_of_subscription test id (map (with_text d) ps))
nothing_by test id d p ps true x is ih = absurd (none-some p.source (sym is))
nothing_by test id d p ps false x is ih = ih is

list_nothing : (test : List ℕ → List ℕ → Bool) (id : ℕ) (d : WrittenDirectories) (ps : List WrittenSubscription)
    → source_of id (subscribers_of ps) ≡ None → None ≡ list_of_subscription test id (map (with_text d) ps)
list_nothing test id d [] is = refl
list_nothing test id d (p ∷ ps) is = nothing_by test id d p ps (p.id == id) _ is (λ e. list_nothing test id d ps e)

view_by : (test : List ℕ → List ℕ → Bool) (id : ℕ) (s : DirectoriesShown) (d : WrittenDirectories) → AreHeard test s d → (o : Option Source)
    → source_of id (subscribers_of d.subscriptions) ≡ o → view_at o id s ≡ list_named test id d
view_by test id s d h None is = list_nothing test id d d.subscriptions is
view_by test id s d h (Some source) is =
    ap (view_of id) (h.hears source).stored_is ∙ list_stored test id (subscriptions_to source d) ∙ list_hearing test id source d d.subscriptions is

pub view_written : (test : List ℕ → List ℕ → Bool) (id : ℕ) (s : DirectoriesShown) (d : WrittenDirectories) → AreHeard test s d
    → view_in id s ≡ list_named test id d
view_written test id s d h = ap (λ l. view_at (source_of id l) id s) h.subscribers
    ∙ view_by test id s d h (source_of id (subscribers_of d.subscriptions)) refl
