-- Which fault of a matcher each error of its parts becomes.
use Rattle.regex_compile.specs.declared.error.Error.{Error}
use Rattle.regex_compile.specs.declared.error.Error.TheVariants as compiler
use Rattle.regex_syntax.specs.declared.error.ErrorKind.{ErrorKind}
use Rattle.regex_syntax.specs.declared.error.ErrorKind.TheVariants.{OutOfMemory}
use Rattle.text_matcher.specs.declared.build_fault.BuildFault.{BuildFault}
use Rattle.text_matcher.specs.declared.build_fault.BuildFault.TheVariants.{Refused, NoMemory}

-- where memory was refused, the fault is NoMemory; for each other error the text is refused
abbrev pub of_parser : ErrorKind → BuildFault
of_parser OutOfMemory = NoMemory
of_parser _ = Refused

abbrev pub of_compiler : Error → BuildFault
of_compiler compiler.OutOfMemory = NoMemory
of_compiler _ = Refused
