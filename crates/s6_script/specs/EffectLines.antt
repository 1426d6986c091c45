-- How events, orders, matches and releases are printed, a line each.
use Rattle.std.specs.Prelude.{ℕ, List, [], ◌∷◌, ◌++◌, codes, decimal, None, Some}
use Rattle.event_directory.specs.declared.hit.Hit.{Hit}
use Rattle.event_directory.specs.declared.hit.Hit.TheVariants.{Matched, Overlong}
use Rattle.s6_events.specs.Mark.{letter_of}
use Rattle.s6_events.specs.declared.order.Order.{Order}
use Rattle.s6_events.specs.declared.order.Order.TheVariants.{Run, Finish, Signal, KillFinish}
use Rattle.svscan_core.specs.declared.event.Event.{Event}
use Rattle.tree_core.specs.declared.effect.Match.{Match}
use Rattle.tree_core.specs.declared.effect.Release.{Release}
use Rattle.wait_conditions.specs.declared.verdict.Verdict.{Verdict}
use Rattle.wait_conditions.specs.declared.verdict.Verdict.TheVariants.{Held, Failed, Gone, TimedOut}

-- the line of an event
abbrev pub event_line : Event → List ℕ
event_line e = codes "e " ++ (decimal e.sid ++ (32 ∷ letter_of e.mark ∷ 10 ∷ []))

-- the line of an order, with its descriptor where it has one
abbrev pub order_line : Order → List ℕ
order_line (Run sid generation name None) = codes "o run " ++ (decimal sid ++ (32 ∷ (decimal generation ++ (10 ∷ []))))
order_line (Run sid generation name (Some fd)) =
    codes "o run " ++ (decimal sid ++ (32 ∷ (decimal generation ++ (codes " fd " ++ (decimal fd ++ (10 ∷ []))))))
order_line (Finish sid generation name code signal) =
    codes "o finish " ++ (decimal sid ++
    (32 ∷ (decimal generation ++ (32 ∷ (decimal code ++ (32 ∷ (decimal signal ++ (10 ∷ []))))))))
order_line (Signal sid generation n) =
    codes "o signal " ++ (decimal sid ++ (32 ∷ (decimal generation ++ (32 ∷ (decimal n ++ (10 ∷ []))))))
order_line (KillFinish sid generation) =
    codes "o killfinish " ++ (decimal sid ++ (32 ∷ (decimal generation ++ (10 ∷ []))))

-- the letter of a hit, or that it was overlong
abbrev pub hit_text : Hit → List ℕ
hit_text (Matched letter) = letter ∷ 10 ∷ []
hit_text Overlong = codes "overlong\n"

-- the line of a match
abbrev pub match_line : Match → List ℕ
match_line m = (codes "m " ++ (decimal m.subscription ++ (32 ∷ []))) ++ hit_text m.hit

-- a verdict is printed by its word
abbrev pub verdict_text : Verdict → List ℕ
verdict_text Held = codes "held\n"
verdict_text Failed = codes "failed\n"
verdict_text Gone = codes "gone\n"
verdict_text TimedOut = codes "timedout\n"

-- the line of a release
abbrev pub release_line : Release → List ℕ
release_line r = (codes "r " ++ (decimal r.waiter ++ (32 ∷ []))) ++ verdict_text r.verdict
