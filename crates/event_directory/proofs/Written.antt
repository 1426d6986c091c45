-- A step by what is stored is the step that is written down.
use Rattle.std.proofs.Common.{◌≡◌, ◌||◌, ℕ, ◌+◌, ◌≤◌, ◌==◌, List, [], ◌∷◌, ◌++◌, Bool, true, false, cond, length, Option, None, Some, refl, sym}
use Rattle.std.proofs.Common.{ap, subst, ◌∙◌, arith}
use Rattle.std.specs.List.{list_any}
use Rattle.std.proofs.lemmas.List.{length-map}
use Rattle.std.proofs.lemmas.Option.{none-some}
use Rattle.s6_events.specs.declared.moment.Moment.{Moment}
use Rattle.event_directory.specs.Changes.{DirectoryRequest, Offer, is_there, directory_refusal, with_request_done, hits_of_request}
use Rattle.event_directory.specs.Changes.{answer_of_request, unless, refused_or, directories_after_change, matches_of, directory_answer}
use Rattle.event_directory.specs.Changes.DirectoryRequest.{no_directory_request, make_directory, send, subscribe, unsubscribe}
use Rattle.event_directory.specs.Directories.{WrittenDirectories, WrittenSubscription, directories_after_moments, matches_by, has_directory}
use Rattle.event_directory.specs.Directories.{subscriptions_without}
use Rattle.event_directory.specs.Hearing.{hits_of_moments}
use Rattle.event_directory.specs.Register.{source_of}
use Rattle.event_directory.specs.RegisterChanges.{is_source_named, without_subscription_of, stored_change, stored_given, stored_told}
use Rattle.event_directory.specs.RegisterChanges.{refusal_in, prepared_change, given_change, told_change, after_step}
use Rattle.event_directory.specs.Remembered.{DirectoriesShown, DirectoriesPrepared, AreHeard, directories_after_commit}
use Rattle.event_directory.specs.declared.directory_change.DirectoryAnswer.{DirectoryAnswer}
use Rattle.event_directory.specs.declared.directory_change.DirectoryAnswer.TheVariants as answer
use Rattle.event_directory.specs.declared.directory_change.DirectoryFault.{DirectoryFault}
use Rattle.event_directory.specs.declared.directory_change.DirectoryFault.TheVariants.{NoSuch}
use Rattle.event_directory.specs.declared.hit.Hit.{Hit}
use Rattle.event_directory.specs.declared.source.Source.{Source}
use Rattle.event_directory.specs.declared.source.Source.TheVariants.{Service, Directory}
use Rattle.event_directory.proofs.Joins.{joined_heard, made_heard}
use Rattle.event_directory.proofs.Leaves.{left_heard, none_left, subscribers_of}
use Rattle.event_directory.proofs.Letters.{moments_heard, moments_hits, message_heard, message_hits, has_as_named}

any_subscriber : (id : ℕ) (ps : List WrittenSubscription) → list_any (λ s. s.0 == id) (subscribers_of ps) ≡ list_any (λ p. p.id == id) ps
any_subscriber id [] = refl
any_subscriber id (p ∷ ps) = ap (λ b. p.id == id || b) (any_subscriber id ps)

module _ (test : List ℕ → List ℕ → Bool) (s : DirectoriesShown) (d : WrittenDirectories) (h : AreHeard test s d) where
  there : (source : Source) → is_there source d ≡ is_source_named source s.names
  there (Service sid) = refl
  there (Directory name) = has_as_named test name s d h

  so_many_names : length d.free ≡ length s.names
  so_many_names = sym (ap length h.names ∙ length-map d.free (λ f. f.name))

  so_many : length d.subscriptions ≡ length s.subscribers
  so_many = sym (ap length h.subscribers ∙ length-map d.subscriptions (λ p. (p.id, p.source)))

  pub refusal_written : (change : DirectoryRequest) → refusal_in change s ≡ directory_refusal change d
  refusal_written no_directory_request = refl
  refusal_written (make_directory name) = rw (has_as_named test name s d h, so_many_names) refl
  refusal_written (send name letters) = rw (has_as_named test name s d h) refl
  refusal_written (subscribe source) = rw (there source, so_many) refl
  refusal_written (unsubscribe id) =
      ap (λ l. cond (list_any (λ x. x.0 == id) l) None (Some NoSuch)) h.subscribers
      ∙ ap (λ b. cond b None (Some NoSuch)) (any_subscriber id d.subscriptions)

  is_there_by : (b : Bool) → ◌≡◌ {A = Option DirectoryFault} (cond b None (Some NoSuch)) None → b ≡ true
  is_there_by true e = refl
  is_there_by false e = absurd (none-some NoSuch (sym e))

  left_by_source : (id : ℕ) (o : Option Source) → source_of id s.subscribers ≡ o
      → AreHeard test (without_subscription_of o id s) (record d { subscriptions = subscriptions_without id d.subscriptions })
  left_by_source id None is =
      subst (λ (ps : List WrittenSubscription). AreHeard test s (record d { subscriptions = ps }))
      (sym (none_left id d.subscriptions (ap (source_of id) (sym h.subscribers) ∙ is))) h
  left_by_source id (Some source) is = left_heard test s d h id source is

  done_written : (change : DirectoryRequest) (offer : Offer) → directory_refusal change d ≡ None
      → AreHeard test (directories_after_commit (stored_change test change s) offer) (with_request_done change offer d)
  done_written no_directory_request offer e = h
  done_written (make_directory name) offer e = made_heard test s d h name
  done_written (send name letters) offer e = message_heard test name letters s d (is_there_by (has_directory name d) e) h
  done_written (subscribe source) None e = h
  done_written (subscribe source) (Some offer) e = joined_heard test s d h source offer
  done_written (unsubscribe id) offer e = left_by_source id (source_of id s.subscribers) refl

  after_by : (change : DirectoryRequest) (offer : Offer) (r : Option DirectoryFault) → directory_refusal change d ≡ r →
      AreHeard test (directories_after_commit (unless r (stored_change test change s) (record { shown = s; joins = None })) offer)
      (unless r (with_request_done change offer d) d)
  after_by change offer None e = done_written change offer e
  after_by change offer (Some fault) e = h

  pub after_written : (change : DirectoryRequest) (offer : Offer)
      → AreHeard test (directories_after_commit (prepared_change test change s) offer) (directories_after_change change offer d)
  after_written change offer =
      subst (λ (r : Option DirectoryFault). AreHeard test
      (directories_after_commit (unless r (stored_change test change s) (record { shown = s; joins = None })) offer)
      (directories_after_change change offer d))
      (sym (refusal_written change)) (after_by change offer (directory_refusal change d) refl)

  given_written : (change : DirectoryRequest) → directory_refusal change d ≡ None → stored_given test change s ≡ hits_of_request test change d
  given_written no_directory_request e = refl
  given_written (make_directory name) e = refl
  given_written (send name letters) e = message_hits test name letters s d (is_there_by (has_directory name d) e) h
  given_written (subscribe source) e = refl
  given_written (unsubscribe id) e = refl

  matches_by_refusal : (change : DirectoryRequest) (r : Option DirectoryFault) → directory_refusal change d ≡ r
      → unless r (stored_given test change s) [] ≡ unless r (hits_of_request test change d) []
  matches_by_refusal change None e = given_written change e
  matches_by_refusal change (Some fault) e = refl

  pub change_hits : (change : DirectoryRequest) → given_change test change s ≡ matches_of test change d
  change_hits change = ap (λ r. unless r (stored_given test change s) []) (refusal_written change)
      ∙ matches_by_refusal change (directory_refusal change d) refl

  told_written : (change : DirectoryRequest) → stored_told change s ≡ answer_of_request change d
  told_written no_directory_request = refl
  told_written (make_directory name) = refl
  told_written (send name letters) = refl
  told_written (subscribe source) = ap answer.Subscribed (sym h.next)
  told_written (unsubscribe id) = refl

  pub change_answer : (change : DirectoryRequest) → told_change change s ≡ directory_answer change d
  change_answer change = ap (λ r. refused_or r (stored_told change s)) (refusal_written change)
      ∙ ap (refused_or (directory_refusal change d)) (told_written change)

module _ (test : List ℕ → List ℕ → Bool) (ms : List Moment) (s : DirectoriesShown) (change : DirectoryRequest) where
  pub step_matches : (matches : List (ℕ × Hit)) → matches ≡ hits_of_moments test ms s.followed ++ given_change test change (after_step test ms s) →
      (d : WrittenDirectories) → AreHeard test s d → matches ≡ matches_by test d ms ++ matches_of test change (directories_after_moments d ms)
  step_matches matches e d h =
      e ∙ ap (λ l. l ++ given_change test change (after_step test ms s)) (moments_hits test ms s d h)
      ∙ ap (λ l. matches_by test d ms ++ l) (change_hits test (after_step test ms s) (directories_after_moments d ms)
      (moments_heard test ms s d h) change)

  pub step_answer : (answer_of_request : DirectoryAnswer) → answer_of_request ≡ told_change change (after_step test ms s) → (d : WrittenDirectories)
      → AreHeard test s d → answer_of_request ≡ directory_answer change (directories_after_moments d ms)
  step_answer answer_of_request e d h = e ∙ change_answer test (after_step test ms s) (directories_after_moments d ms)
      (moments_heard test ms s d h) change

  pub step_prepared : (p : DirectoriesPrepared) → p ≡ prepared_change test change (after_step test ms s) → (offer : Offer) (d : WrittenDirectories)
      → AreHeard test s d →
      AreHeard test (directories_after_commit p offer) (directories_after_change change offer (directories_after_moments d ms))
  step_prepared p e offer d h =
      subst (λ (q : DirectoriesPrepared). AreHeard test (directories_after_commit q offer)
      (directories_after_change change offer (directories_after_moments d ms))) (sym e)
      (after_written test (after_step test ms s) (directories_after_moments d ms) (moments_heard test ms s d h) change offer)

-- a step makes one serial at most
next_left : (id : ℕ) (s : DirectoriesShown) (o : Option Source) → (without_subscription_of o id s).next ≤ s.next + 1
next_left id s None = omega arith
next_left id s (Some source) = omega arith

next_done : (test : List ℕ → List ℕ → Bool) (change : DirectoryRequest) (offer : Offer) (s : DirectoriesShown)
    → (directories_after_commit (stored_change test change s) offer).next ≤ s.next + 1
next_done test no_directory_request offer s = omega arith
next_done test (make_directory name) offer s = omega arith
next_done test (send name letters) offer s = omega arith
next_done test (subscribe source) None s = omega arith
next_done test (subscribe source) (Some offer) s = omega arith
next_done test (unsubscribe id) offer s = next_left id s (source_of id s.subscribers)

next_by : (test : List ℕ → List ℕ → Bool) (change : DirectoryRequest) (offer : Offer) (s : DirectoriesShown) (r : Option DirectoryFault) →
    (directories_after_commit (unless r (stored_change test change s) (record { shown = s; joins = None })) offer).next ≤ s.next + 1
next_by test change offer s None = next_done test change offer s
next_by test change offer s (Some fault) = omega arith

pub step_serials : (test : List ℕ → List ℕ → Bool) (ms : List Moment) (s : DirectoriesShown) (change : DirectoryRequest) (p : DirectoriesPrepared)
    → p ≡ prepared_change test change (after_step test ms s) → (offer : Offer) →
    (directories_after_commit p offer).next ≤ s.next + 1
step_serials test ms s change p e offer =
    subst (λ (q : DirectoriesPrepared). (directories_after_commit q offer).next ≤ s.next + 1) (sym e)
    (next_by test change offer (after_step test ms s) (refusal_in change (after_step test ms s)))
