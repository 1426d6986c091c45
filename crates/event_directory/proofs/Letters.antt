-- What is remembered is so again after the letters of a step.
use Rattle.std.proofs.Common.{◌≡◌, ◌||◌, ℕ, ◌≤◌, List, [], ◌∷◌, ◌++◌, Bool, true, false, cond, map, get_or, bytes_eq, refl, sym, ap, subst, ◌∙◌}
use Rattle.std.proofs.Common.{arith}
use Rattle.std.specs.List.{list_any}
use Rattle.s6_events.specs.Mark.{letter_of}
use Rattle.s6_events.specs.declared.moment.Moment.{Moment}
use Rattle.s6_events.specs.declared.moment.Moment.TheVariants.{Clock, Event}
use Rattle.event_directory.specs.Directories.{WrittenDirectories, FreeDirectory, is_same_source, place_now, subscriptions_to}
use Rattle.event_directory.specs.Directories.{directories_after_moment, directories_after_moments, after_sent, after_message, free_with_letter}
use Rattle.event_directory.specs.Directories.{matches_at, matches_by, matches_sent, has_directory}
use Rattle.event_directory.specs.Hearing.{heard_more, heard_moment, heard_moments, hits_of_moment, hits_of_moments, heard_message, hits_of_message}
use Rattle.event_directory.specs.Register.{with_followed}
use Rattle.event_directory.specs.Remembered.{Followed, DirectoriesShown, kept_at, AreHeard}
use Rattle.event_directory.specs.Sending.{TextSubscription, KeptSubscription, HaveHeard, with_more_text, after_letter, hits_of_letter}
use Rattle.event_directory.specs.declared.source.Source.{Source}
use Rattle.event_directory.specs.declared.source.Source.TheVariants.{Service, Directory}
use Rattle.event_directory.proofs.Sends.{hears_after, hits_as_defined, grown-nothing}
use Rattle.event_directory.proofs.Firsts.{first_here, first_there, first_nowhere}
use Rattle.event_directory.proofs.Sources.{is_same_true}
use Rattle.event_directory.proofs.Texts.{letter_for, Grow, hearing_grown, moment_grows, moment_places, names_of, same_names, letter_grows}
use Rattle.event_directory.proofs.Texts.{letter_places}

heard_by : (test : List ℕ → List ℕ → Bool) (source : Source) (x : ℕ) (s : Source) (f : Followed) (fs : List Followed) (b : Bool)
    → is_same_source source f.source ≡ b →
    kept_at s (heard_more test source x fs) ≡ cond (is_same_source s source) (after_letter test x (kept_at s fs)) (kept_at s fs) →
    kept_at s (cond b (record { source = f.source; standing = after_letter test x f.standing } ∷ fs) (f ∷ heard_more test source x fs))
    ≡ cond (is_same_source s source) (after_letter test x (kept_at s (f ∷ fs))) (kept_at s (f ∷ fs))
heard_by test source x s f fs true e ih =
    first_here (after_letter test x) f.standing (kept_at s fs) (is_same_source s f.source)
    ∙ ap (λ t. cond (is_same_source s t) (after_letter test x (kept_at s (f ∷ fs))) (kept_at s (f ∷ fs))) (sym (is_same_true source f.source e))
heard_by test source x s f fs false e ih = first_there (after_letter test x) s source f.source f.standing _ (kept_at s fs)
    (is_same_source s f.source) refl e ih

pub standing_heard : (test : List ℕ → List ℕ → Bool) (source : Source) (x : ℕ) (s : Source) (fs : List Followed) →
    kept_at s (heard_more test source x fs) ≡ cond (is_same_source s source) (after_letter test x (kept_at s fs)) (kept_at s fs)
standing_heard test source x s [] = first_nowhere (after_letter test x) refl (is_same_source s source)
standing_heard test source x s (f ∷ fs) = heard_by test source x s f fs (is_same_source source f.source) refl (standing_heard test source x s fs)

hears_by : (test : List ℕ → List ℕ → Bool) (x : ℕ) (standing : List KeptSubscription) (subscribed : List TextSubscription) (b : Bool)
    → HaveHeard test standing subscribed →
    HaveHeard test (cond b (after_letter test x standing) standing) (map (with_more_text (cond b (x ∷ []) [])) subscribed)
hears_by test x standing subscribed true h = hears_after test standing (after_letter test x standing) x refl subscribed h
hears_by test x standing subscribed false h = subst (HaveHeard test standing) (sym (grown-nothing subscribed)) h

hears_letter : (test : List ℕ → List ℕ → Bool) (of : Source) (x : ℕ) (fs : List Followed) (s : Source) (subscribed : List TextSubscription)
    → HaveHeard test (kept_at s fs) subscribed →
    HaveHeard test (kept_at s (heard_more test of x fs)) (map (with_more_text (letter_for s of x)) subscribed)
hears_letter test of x fs s subscribed h =
    subst (λ z. HaveHeard test z (map (with_more_text (letter_for s of x)) subscribed)) (sym (standing_heard test of x s fs))
    (hears_by test x (kept_at s fs) subscribed (is_same_source s of) h)

module _ (test : List ℕ → List ℕ → Bool) (s : DirectoriesShown) (d : WrittenDirectories) (history : List Moment) (free : List FreeDirectory)
    (h : AreHeard test s d) where
  -- one letter more of a source
  letter_heard : (of : Source) (x : ℕ) → names_of free ≡ names_of d.free
      → Grow d (record d { history = history; free = free }) (λ t. letter_for t of x) →
      ((t : Source) → place_now t d ≤ place_now t (record d { history = history; free = free })) →
      AreHeard test (with_followed (heard_more test of x s.followed) s) (record d { history = history; free = free })
  letter_heard of x names grow more = record {
    names = h.names ∙ sym names;
    subscribers = h.subscribers;
    hears = λ t. subst (HaveHeard test (kept_at t (heard_more test of x s.followed)))
        (sym (hearing_grown d (record d { history = history; free = free }) (λ t. letter_for t of x) grow t d.subscriptions h.placed))
        (hears_letter test of x s.followed t (subscriptions_to t d) (h.hears t));
    placed = λ k p lt. omega (arith, h.placed k p lt, more (get_or d.subscriptions k p).source);
    below = h.below;
    next = h.next;
  }

  -- no letter more
  pub nothing_heard : (names : List (List ℕ)) → names ≡ names_of free → Grow d (record d { history = history; free = free }) (λ t. []) →
      ((t : Source) → place_now t d ≤ place_now t (record d { history = history; free = free })) →
      AreHeard test (record s { names = names }) (record d { history = history; free = free })
  nothing_heard names same grow more = record {
    names = same;
    subscribers = h.subscribers;
    hears = λ t. subst (HaveHeard test (kept_at t s.followed))
        (sym (grown-nothing (subscriptions_to t d))
        ∙ sym (hearing_grown d (record d { history = history; free = free }) (λ t. []) grow t d.subscriptions h.placed))
        (h.hears t);
    placed = λ k p lt. omega (arith, h.placed k p lt, more (get_or d.subscriptions k p).source);
    below = h.below;
    next = h.next;
  }

moment_heard : (test : List ℕ → List ℕ → Bool) (m : Moment) (s : DirectoriesShown) (d : WrittenDirectories) → AreHeard test s d
    → AreHeard test (with_followed (heard_moment test m s.followed) s) (directories_after_moment d m)
moment_heard test (Clock at) s d h =
    nothing_heard test s d (d.history ++ Clock at ∷ []) d.free h s.names h.names (moment_grows d (Clock at)) (moment_places d (Clock at))
moment_heard test (Event sid mark) s d h =
    letter_heard test s d (d.history ++ Event sid mark ∷ []) d.free h (Service sid) (letter_of mark) refl (moment_grows d (Event sid mark))
    (moment_places d (Event sid mark))

moment_hits : (test : List ℕ → List ℕ → Bool) (m : Moment) (s : DirectoriesShown) (d : WrittenDirectories) → AreHeard test s d
    → hits_of_moment test m s.followed ≡ matches_at test d m
moment_hits test (Clock at) s d h = refl
moment_hits test (Event sid mark) s d h =
    hits_as_defined test (kept_at (Service sid) s.followed) (letter_of mark) _ refl (subscriptions_to (Service sid) d) (h.hears (Service sid))

pub moments_heard : (test : List ℕ → List ℕ → Bool) (ms : List Moment) (s : DirectoriesShown) (d : WrittenDirectories) → AreHeard test s d →
    AreHeard test (with_followed (heard_moments test ms s.followed) s) (directories_after_moments d ms)
unfolding directories_after_moments
moments_heard test [] s d h = h
moments_heard test (m ∷ ms) s d h = moments_heard test ms (with_followed (heard_moment test m s.followed) s) (directories_after_moment d m)
    (moment_heard test m s d h)

pub moments_hits : (test : List ℕ → List ℕ → Bool) (ms : List Moment) (s : DirectoriesShown) (d : WrittenDirectories) → AreHeard test s d
    → hits_of_moments test ms s.followed ≡ matches_by test d ms
unfolding matches_by
moments_hits test [] s d h = refl
moments_hits test (m ∷ ms) s d h =
    ap (λ l. l ++ hits_of_moments test ms (heard_moment test m s.followed)) (moment_hits test m s d h)
    ∙ ap (λ l. matches_at test d m ++ l) (moments_hits test ms (with_followed (heard_moment test m s.followed) s) (directories_after_moment d m)
    (moment_heard test m s d h))

any_named : (name : List ℕ) (free : List FreeDirectory) → list_any (bytes_eq name) (names_of free) ≡ list_any (λ f. bytes_eq name f.name) free
any_named name [] = refl
any_named name (f ∷ fs) = ap (λ b. bytes_eq name f.name || b) (any_named name fs)

pub still_there : (name : List ℕ) (x : ℕ) (d : WrittenDirectories) → has_directory name d ≡ true → has_directory name (after_sent name d x) ≡ true
still_there name x d has =
    sym (any_named name (map (free_with_letter name x) d.free)) ∙ ap (list_any (bytes_eq name)) (same_names name x d.free) ∙ any_named name d.free
    ∙ has

sent_heard : (test : List ℕ → List ℕ → Bool) (name : List ℕ) (x : ℕ) (s : DirectoriesShown) (d : WrittenDirectories) → has_directory name d ≡ true
    → AreHeard test s d →
    AreHeard test (with_followed (heard_more test (Directory name) x s.followed) s) (after_sent name d x)
sent_heard test name x s d has h =
    letter_heard test s d d.history (map (free_with_letter name x) d.free) h (Directory name) x (same_names name x d.free)
    (letter_grows name x d has) (letter_places name x d has)

pub message_heard : (test : List ℕ → List ℕ → Bool) (name xs : List ℕ) (s : DirectoriesShown) (d : WrittenDirectories) → has_directory name d ≡ true
    → AreHeard test s d →
    AreHeard test (with_followed (heard_message test name xs s.followed) s) (after_message name d xs)
unfolding after_message
message_heard test name [] s d has h = h
message_heard test name (x ∷ xs) s d has h =
    message_heard test name xs (with_followed (heard_more test (Directory name) x s.followed) s) (after_sent name d x) (still_there name x d has)
    (sent_heard test name x s d has h)

pub message_hits : (test : List ℕ → List ℕ → Bool) (name xs : List ℕ) (s : DirectoriesShown) (d : WrittenDirectories) → has_directory name d ≡ true
    → AreHeard test s d →
    hits_of_message test name xs s.followed ≡ matches_sent test name d xs
unfolding matches_sent
message_hits test name [] s d has h = refl
message_hits test name (x ∷ xs) s d has h =
    ap (λ l. l ++ hits_of_message test name xs (heard_more test (Directory name) x s.followed))
    (hits_as_defined test (kept_at (Directory name) s.followed) x _ refl (subscriptions_to (Directory name) d) (h.hears (Directory name)))
    ∙ ap (λ l. hits_of_letter test x (subscriptions_to (Directory name) d) ++ l)
    (message_hits test name xs (with_followed (heard_more test (Directory name) x s.followed) s) (after_sent name d x) (still_there name x d has)
    (sent_heard test name x s d has h))

-- whether a directory is there, by the names
pub has_as_named : (test : List ℕ → List ℕ → Bool) (name : List ℕ) (s : DirectoriesShown) (d : WrittenDirectories) → AreHeard test s d
    → has_directory name d ≡ list_any (bytes_eq name) s.names
has_as_named test name s d h = sym (any_named name d.free) ∙ ap (list_any (bytes_eq name)) (sym h.names)
