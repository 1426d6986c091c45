-- The waiters and the event directories, once the moments of a step have joined.
use Rattle.std.proofs.Common.{◌≡◌, ℕ, List, [], ◌∷◌, ◌++◌, refl, sym, ◌∙◌, append-nil, append_assoc}
use Rattle.std.specs.Prelude.{Option, Some, None}
use Rattle.event_directory.specs.Changes.{DirectoryRequest, Offer, directories_after_change, with_request_done, directory_refusal, unless}
use Rattle.event_directory.specs.Changes.DirectoryRequest.{no_directory_request, make_directory, send, subscribe, unsubscribe}
use Rattle.event_directory.specs.Directories.{WrittenDirectories, after_message, directories_after_moment, directories_after_moments, after_sent}
use Rattle.event_directory.specs.declared.directory_change.DirectoryFault.{DirectoryFault}
use Rattle.s6_events.specs.declared.moment.Moment.{Moment}
use Rattle.wait_conditions.specs.Steps.{waits_after_moments}
use Rattle.wait_conditions.specs.Watch.{Watch, waits_after_moment}
use Rattle.tree_core.specs.Listening.{Ask, watch_after}
use Rattle.tree_core.specs.Listening.Ask.{same, add_waiter, cancel_waiter}

-- moments join the history, and nothing else
pub moments_join : (w : Watch) (ms : List Moment) → waits_after_moments w ms ≡ record w { history = w.history ++ ms }
moments_join w [] = λ i. record { history = sym (append-nil w.history) i; waiters = w.waiters; next = w.next }
moments_join w (m ∷ ms) = moments_join (waits_after_moment w m) ms
    ∙ λ i. record { history = append_assoc w.history (m ∷ []) ms i; waiters = w.waiters; next = w.next }

-- what is asked of the waiters is no moment
pub history_stays : (ask : Ask) (w : Watch) → (watch_after ask w).history ≡ w.history
history_stays same w = refl
history_stays (add_waiter asked) w = refl
history_stays (cancel_waiter id) w = refl

pub directories_join : (d : WrittenDirectories) (ms : List Moment) → directories_after_moments d ms ≡ record d { history = d.history ++ ms }
unfolding directories_after_moments
directories_join d [] = λ i. record d { history = sym (append-nil d.history) i }
directories_join d (m ∷ ms) = directories_join (directories_after_moment d m) ms ∙ λ i. record d { history = append_assoc d.history (m ∷ []) ms i }

-- what is asked of the event directories is no moment either
message_stays : (name : List ℕ) (d : WrittenDirectories) (letters : List ℕ) → (after_message name d letters).history ≡ d.history
unfolding after_message
message_stays name d [] = refl
message_stays name d (x ∷ xs) = message_stays name (after_sent name d x) xs

done_stays : (ask : DirectoryRequest) (offer : Offer) (d : WrittenDirectories) → (with_request_done ask offer d).history ≡ d.history
done_stays no_directory_request offer d = refl
done_stays (make_directory name) offer d = refl
done_stays (send name letters) offer d = message_stays name d letters
done_stays (subscribe source) None d = refl
done_stays (subscribe source) (Some offer) d = refl
done_stays (unsubscribe id) offer d = refl

pub directories_stay : (ask : DirectoryRequest) (offer : Offer) (d : WrittenDirectories)
    → directories_after_change ask offer d ≡ record {
      history = d.history;
      free = (directories_after_change ask offer d).free;
      subscriptions =
          (directories_after_change ask offer d).subscriptions;
      next = (directories_after_change ask offer d).next;
    }
directories_stay ask offer d = λ i. record (directories_after_change ask offer d) { history = by (directory_refusal ask d) i }
  where
    by : (o : Option DirectoryFault) → (unless o (with_request_done ask offer d) d).history ≡ d.history
    by None = done_stays ask offer d
    by (Some fault) = refl
