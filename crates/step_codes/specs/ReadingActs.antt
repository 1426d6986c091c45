-- What bytes tell of an act.
use Rattle.std.specs.Prelude.{ℕ, ◌==◌, Option, Some, None, if◌then◌else◌}
use Rattle.std.specs.declared.alloc.Global.{Global}
use Rattle.s6_events.specs.declared.condition.Condition.{Condition}
use Rattle.s6_events.specs.declared.condition.Condition.TheVariants as condition
use Rattle.s6_events.specs.declared.condition.Mode.{Mode}
use Rattle.s6_events.specs.declared.condition.Mode.TheVariants as mode
use Rattle.s6_events.specs.declared.exit.Exit.{Exit}
use Rattle.s6_events.specs.declared.exit.Exit.TheVariants as exit
use Rattle.control_letters.specs.ControlLetter.{letter_of_byte}
use Rattle.control_letters.specs.declared.control_letter.ControlLetter.{ControlLetter}
use Rattle.control_letters.specs.declared.control_letter.ControlLetter.TheVariants.{Up}
use Rattle.svscan_core.specs.declared.entry.ScanOrder.{ScanOrder}
use Rattle.svscan_core.specs.declared.entry.ScanOrder.TheVariants.{Nuke, Terminate}
use Rattle.tree_core.specs.declared.input.Act.{Act}
use Rattle.tree_core.specs.declared.input.Act.TheVariants as act
use Rattle.tree_core.specs.declared.input.Target.{Target}
use Rattle.tree_core.specs.declared.input.Target.TheVariants as target
use Rattle.step_codes.specs.Reading.{Reads, gives, then_in, byte_in, number_in, text_in, list_in}

abbrev pub exit_in : Reads Exit
exit_in = then_in byte_in (λ kind. then_in byte_in (λ n. gives (if kind == 0 then exit.Code n else exit.Killed n)))

abbrev pub target_in : Reads Target
target_in = then_in byte_in (λ kind. then_in text_in (λ name. gives (if kind == 0 then target.Service name else target.Directory name)))

-- any letter, where there is none
abbrev pub letter_or : Option ControlLetter → ControlLetter
letter_or None = Up
letter_or (Some letter) = letter

abbrev pub order_of : ℕ → ScanOrder
order_of b = if b == 0 then Nuke else Terminate

abbrev pub condition_of : ℕ → Condition
condition_of b =
    if b == 0 then condition.Up else (if b == 1 then condition.Ready else (if b == 2 then condition.Down else (if b == 3 then condition.Finished
    else (if b == 4 then condition.Restarted else condition.RestartedReady))))

abbrev pub mode_of : ℕ → Mode
mode_of b = if b == 0 then mode.All else mode.One

-- what is told of a service and a generation
abbrev pub of_life : {X : Type 0} → (ℕ → ℕ → Reads X) → Reads X
of_life next = then_in number_in (λ sid. then_in number_in (λ generation. next sid generation))

abbrev pub letter_in : Reads ControlLetter
letter_in = then_in byte_in (λ b. gives (letter_or (letter_of_byte b)))

abbrev pub wait_in : Reads (Act Global)
wait_in =
    then_in byte_in (λ wanted. then_in byte_in (λ how. then_in number_in (λ timeout. then_in (list_in text_in) (λ names.
    gives (act.Wait (condition_of wanted) (mode_of how) timeout names)))))

abbrev pub act_behind : ℕ → Reads (Act Global)
act_behind kind =
    if kind == 0 then gives act.Tick
    else (if kind == 1 then of_life (λ sid generation. then_in number_in (λ pid. gives (act.Started sid generation pid)))
    else (if kind == 2 then of_life (λ sid generation. gives (act.StartFailed sid generation))
    else (if kind == 3 then of_life (λ sid generation. then_in (list_in byte_in) (λ bytes.
    gives (act.Notify sid generation (record { items = bytes }))))
    else (if kind == 4 then of_life (λ sid generation. then_in exit_in (λ ended. gives (act.Death sid generation ended)))
    else (if kind == 5 then of_life (λ sid generation. then_in exit_in (λ ended. gives (act.FinishEnded sid generation ended)))
    else (if kind == 6 then then_in text_in (λ name. gives (act.Status name))
    else (if kind == 7 then then_in text_in (λ name. gives (act.Tally name))
    else (if kind == 8 then then_in number_in (λ id. gives (act.Cancel id))
    else (if kind == 9 then then_in number_in (λ id. gives (act.Unsubscribe id))
    else (if kind == 10 then then_in target_in (λ whose. then_in (list_in byte_in) (λ message. gives (act.Send whose message)))
    else (if kind == 11 then then_in text_in (λ name. gives (act.MakeDir name))
    else (if kind == 12 then
    then_in text_in (λ name. then_in (list_in letter_in) (λ letters. gives (act.Svc name (record { items = letters }))))
    else (if kind == 13 then then_in byte_in (λ which. gives (act.Scanctl (order_of which))) else wait_in)))))))))))))

abbrev pub act_in : Reads (Act Global)
act_in = then_in byte_in act_behind
