-- What letters do to all event directories, by what is stored alone.
use Rattle.std.specs.Prelude.{ℕ, List, [], ◌∷◌, ◌++◌, Bool, if◌then◌else◌}
use Rattle.s6_events.specs.Mark.{letter_of}
use Rattle.s6_events.specs.declared.moment.Moment.{Moment}
use Rattle.s6_events.specs.declared.moment.Moment.TheVariants.{Clock, Event}
use Rattle.event_directory.specs.Directories.{is_same_source}
use Rattle.event_directory.specs.Remembered.{Followed, kept_at}
use Rattle.event_directory.specs.Sending.{after_letter, hits_from}
use Rattle.event_directory.specs.declared.hit.Hit.{Hit}
use Rattle.event_directory.specs.declared.source.Source.{Source}
use Rattle.event_directory.specs.declared.source.Source.TheVariants.{Service, Directory}

-- after one more letter of a source
abbrev pub heard_more : (List ℕ → List ℕ → Bool) → Source → ℕ → List Followed → List Followed
heard_more test source x [] = []
heard_more test source x (f ∷ fs) =
    if is_same_source source f.source then
    (record { source = f.source; standing = after_letter test x f.standing } ∷ fs)
    else (f ∷ heard_more test source x fs)

-- after one more moment
abbrev pub heard_moment : (List ℕ → List ℕ → Bool) → Moment → List Followed → List Followed
heard_moment test (Clock at) fs = fs
heard_moment test (Event sid mark) fs = heard_more test (Service sid) (letter_of mark) fs

-- the hits that it gives
abbrev pub hits_of_moment : (List ℕ → List ℕ → Bool) → Moment → List Followed → List (ℕ × Hit)
hits_of_moment test (Clock at) fs = []
hits_of_moment test (Event sid mark) fs = hits_from test (letter_of mark) (kept_at (Service sid) fs)

-- after several moments
abbrev pub heard_moments : (List ℕ → List ℕ → Bool) → List Moment → List Followed → List Followed
heard_moments test [] fs = fs
heard_moments test (m ∷ ms) fs = heard_moments test ms (heard_moment test m fs)

-- the hits that they give, one after the other
abbrev pub hits_of_moments : (List ℕ → List ℕ → Bool) → List Moment → List Followed → List (ℕ × Hit)
hits_of_moments test [] fs = []
hits_of_moments test (m ∷ ms) fs = hits_of_moment test m fs ++ hits_of_moments test ms (heard_moment test m fs)

-- after a message to the free directory of a name
abbrev pub heard_message : (List ℕ → List ℕ → Bool) → List ℕ → List ℕ → List Followed → List Followed
heard_message test name [] fs = fs
heard_message test name (x ∷ xs) fs = heard_message test name xs (heard_more test (Directory name) x fs)

-- the hits that it gives, letter by letter
abbrev pub hits_of_message : (List ℕ → List ℕ → Bool) → List ℕ → List ℕ → List Followed → List (ℕ × Hit)
hits_of_message test name [] fs = []
hits_of_message test name (x ∷ xs) fs =
    hits_from test x (kept_at (Directory name) fs)
    ++ hits_of_message test name xs (heard_more test (Directory name) x fs)
