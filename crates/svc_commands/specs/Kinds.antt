-- What an error of clap becomes.
use Rattle.std.specs.Prelude.{◌≡◌, ◌≢◌, ◌⊎◌, []}
use Rattle.clap.specs.Words.{Kinds}
use Rattle.clap.specs.declared.error.kind.ErrorKind.{ErrorKind}
use Rattle.clap.specs.declared.error.kind.ErrorKind.TheVariants as kind
use Rattle.svc_commands.specs.declared.usage_fault.UsageFault.{UsageFault}
use Rattle.svc_commands.specs.declared.usage_fault.UsageFault.TheVariants.{Unknown, NoMemory}

-- want of memory, or words that it refuses
abbrev pub usage_of : ErrorKind → UsageFault
usage_of kind.OutOfMemory = NoMemory
usage_of _ = Unknown

-- Unknown comes only where clap refuses
abbrev pub IsUsageFault : Kinds → UsageFault → Type 0
IsUsageFault kinds fault = (fault ≡ NoMemory) ⊎ ((fault ≡ Unknown) × (kinds ≢ []))
