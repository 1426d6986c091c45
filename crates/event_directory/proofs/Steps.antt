-- One moment more, or one letter more of a message.
use Rattle.std.proofs.Common.{◌≡◌, ℕ, ◌+◌, ◌<◌, List, [], ◌∷◌, ◌++◌, Bool, length, take, get_or, refl, sym, ap, ◌∙◌}
use Rattle.std.proofs.lemmas.List.{take_more, append_assoc, append-nil}
use Rattle.s6_events.specs.declared.moment.Moment.{Moment}
use Rattle.event_directory.specs.Hearing.{heard_more, heard_moment, hits_of_moment, heard_moments, hits_of_moments, heard_message, hits_of_message}
use Rattle.event_directory.specs.Remembered.{Followed, kept_at}
use Rattle.event_directory.specs.Sending.{hits_from}
use Rattle.event_directory.specs.declared.hit.Hit.{Hit}
use Rattle.event_directory.specs.declared.source.Source.TheVariants.{Directory}

taken : {X : Type 0} (xs : List X) (i : ℕ) (x d : X) → i < length xs → x ≡ get_or xs i d → take (i + 1) xs ≡ take i xs ++ x ∷ []
taken xs i x d lt is = take_more xs i d lt ∙ ap (λ y. take i xs ++ y ∷ []) (sym is)

module _ (test : List ℕ → List ℕ → Bool) where
  moments-more : (ms : List Moment) (m : Moment) (fs : List Followed)
      → heard_moments test (ms ++ m ∷ []) fs ≡ heard_moment test m (heard_moments test ms fs)
  moments-more [] m fs = refl
  moments-more (n ∷ ns) m fs = moments-more ns m (heard_moment test n fs)

  moment_hits-more : (ms : List Moment) (m : Moment) (fs : List Followed) →
      hits_of_moments test (ms ++ m ∷ []) fs ≡ hits_of_moments test ms fs ++ hits_of_moment test m (heard_moments test ms fs)
  moment_hits-more [] m fs = append-nil _
  moment_hits-more (n ∷ ns) m fs =
      ap (λ l. hits_of_moment test n fs ++ l) (moment_hits-more ns m (heard_moment test n fs)) ∙ sym (append_assoc (hits_of_moment test n fs) _ _)

  pub more_moments : (ms : List Moment) (i : ℕ) (m d : Moment) → i < length ms → m ≡ get_or ms i d → (start now then : List Followed) →
      now ≡ heard_moments test (take i ms) start → then ≡ heard_moment test m now → then ≡ heard_moments test (take (i + 1) ms) start
  more_moments ms i m d lt is start now then en et =
      et ∙ ap (heard_moment test m) en ∙ sym (moments-more (take i ms) m start) ∙ ap (λ l. heard_moments test l start) (sym (taken ms i m d lt is))

  pub more_moment_hits : (ms : List Moment) (i : ℕ) (m d : Moment) → i < length ms → m ≡ get_or ms i d
      → (start now : List Followed) (before hits then : List (ℕ × Hit)) →
      now ≡ heard_moments test (take i ms) start → hits ≡ before ++ hits_of_moments test (take i ms) start
      → then ≡ hits ++ hits_of_moment test m now →
      then ≡ before ++ hits_of_moments test (take (i + 1) ms) start
  more_moment_hits ms i m d lt is start now before hits then en eh et =
      et ∙ ap (λ l. l ++ hits_of_moment test m now) eh ∙ append_assoc before _ _
      ∙ ap (λ l. before ++ l) (ap (λ z. hits_of_moments test (take i ms) start ++ hits_of_moment test m z) en
      ∙ sym (moment_hits-more (take i ms) m start) ∙ ap (λ l. hits_of_moments test l start) (sym (taken ms i m d lt is)))

  message-more : (name xs : List ℕ) (x : ℕ) (fs : List Followed)
      → heard_message test name (xs ++ x ∷ []) fs ≡ heard_more test (Directory name) x (heard_message test name xs fs)
  message-more name [] x fs = refl
  message-more name (y ∷ ys) x fs = message-more name ys x (heard_more test (Directory name) y fs)

  message_hits-more : (name xs : List ℕ) (x : ℕ) (fs : List Followed) →
      hits_of_message test name (xs ++ x ∷ []) fs
      ≡ hits_of_message test name xs fs ++ hits_from test x (kept_at (Directory name) (heard_message test name xs fs))
  message_hits-more name [] x fs = append-nil _
  message_hits-more name (y ∷ ys) x fs =
      ap (λ l. hits_from test y (kept_at (Directory name) fs) ++ l) (message_hits-more name ys x (heard_more test (Directory name) y fs))
      ∙ sym (append_assoc (hits_from test y (kept_at (Directory name) fs)) _ _)

  pub more_message : (name xs : List ℕ) (i x d : ℕ) → i < length xs → x ≡ get_or xs i d → (start now then : List Followed) →
      now ≡ heard_message test name (take i xs) start → then ≡ heard_more test (Directory name) x now
      → then ≡ heard_message test name (take (i + 1) xs) start
  more_message name xs i x d lt is start now then en et =
      et ∙ ap (heard_more test (Directory name) x) en ∙ sym (message-more name (take i xs) x start)
      ∙ ap (λ l. heard_message test name l start) (sym (taken xs i x d lt is))

  pub more_message_hits : (name xs : List ℕ) (i x d : ℕ) → i < length xs → x ≡ get_or xs i d
      → (start now : List Followed) (before hits then : List (ℕ × Hit)) →
      now ≡ heard_message test name (take i xs) start → hits ≡ before ++ hits_of_message test name (take i xs) start
      → then ≡ hits ++ hits_from test x (kept_at (Directory name) now) →
      then ≡ before ++ hits_of_message test name (take (i + 1) xs) start
  more_message_hits name xs i x d lt is start now before hits then en eh et =
      et ∙ ap (λ l. l ++ hits_from test x (kept_at (Directory name) now)) eh ∙ append_assoc before _ _
      ∙ ap (λ l. before ++ l) (ap (λ z. hits_of_message test name (take i xs) start ++ hits_from test x (kept_at (Directory name) z)) en
      ∙ sym (message_hits-more name (take i xs) x start) ∙ ap (λ l. hits_of_message test name l start) (sym (taken xs i x d lt is)))
