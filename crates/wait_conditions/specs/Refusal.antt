-- Which waiters are not made, and the deadline of one that is made.
use Rattle.std.specs.Prelude.{◌+◌, ◌==◌, [], ◌∷◌, ◌||◌, if◌then◌else◌}
use Rattle.std.specs.Prelude.{ℕ, List, length, Bool, false, Option, Some, None, nat_lt, nat_le}
use Rattle.std.specs.List.{list_any}
use Rattle.wait_conditions.specs.declared.add_fault.AddFault.{AddFault}
use Rattle.wait_conditions.specs.declared.add_fault.AddFault.TheVariants as fault

-- the service is one of these
abbrev pub is_named_in : List ℕ → ℕ → Bool
is_named_in sids sid = list_any (λ other. other == sid) sids

-- a service is named twice
abbrev pub repeats_serial : List ℕ → Bool
repeats_serial [] = false
repeats_serial (sid ∷ sids) = is_named_in sids sid || repeats_serial sids

-- the most waiters that stand at one time
abbrev pub waiter_limit : ℕ
waiter_limit = 1024

-- no service, one named twice, over 16, or waiter_limit waiters that stand: what is found first
abbrev pub add_refusal : ℕ → List ℕ → Option AddFault
add_refusal standing sids =
    if length sids == 0 then Some fault.Empty
    else if repeats_serial sids then Some fault.Repeated
    else if nat_lt 16 (length sids) then Some fault.TooManyServices
    else if nat_le waiter_limit standing then Some fault.TooMany
    else None

-- the timeout counts from the start, and the timeout 0 is none
abbrev pub deadline_of : ℕ → ℕ → Option ℕ
deadline_of timeout start = if timeout == 0 then None else Some (start + timeout)

-- the fault of a waiter that is not made: the one that was found, else that memory was refused
abbrev pub fault_told : Option AddFault → AddFault
fault_told None = fault.NoMemory
fault_told (Some found) = found
