-- How an answer is printed: Output, and then its line. This project's own.
use Rattle.std.specs.Prelude.{◌≡◌, Bool, true, false, Option, None}
use Rattle.tl_base.specs.declared.host.Out.TheVariants.{Output}
use Rattle.outside.specs.Answer.{Answer, done, refused, read_fault_line, write_fault_line}
use Rattle.outside.specs.Jobs.{Making, made, refused_by, unread, no_memory}
use Rattle.outside.specs.declared.status.Status.{Status}
use Rattle.outside.specs.declared.status.Status.TheVariants.{ReadFault, WriteFault}
use Rattle.outside.specs.Events.{HostState}
use Rattle.outside.specs.Begun.{Did}
use Rattle.outside.specs.Steps.{Step, Then}
use Rattle.outside.specs.Pieces.{Writes, Tells}

-- what follows Output, where it was written and where that failed
abbrev pub after_output : Answer → Bool → Step Status
after_output a true = Tells a.errors a.status
after_output a false = Tells write_fault_line WriteFault

-- the answer's Output is written, and its line is told
abbrev pub Prints : Answer → Step Status
Prints a = Then (Writes Output a.output) (after_output a)

-- an answer of this kind is printed
abbrev pub Answers : (Answer → Type 0) → Step Status
Answers Is t status = (a : Answer) × Is a × Prints a t status

-- a file that can't be read is told
abbrev pub Unread : Step Status
Unread = Tells read_fault_line ReadFault

-- ---- a text that is made for Output

-- what was made is an answer of this kind, where there was memory for it
abbrev pub Makes : (Answer → Type 0) → Making → Type 0
Makes Is (made text) = Is (done text)
Makes Is (refused_by line) = Is (refused line)
Makes Is unread = ⊥
Makes Is no_memory = Unit {0}

-- it is printed; out of memory is handed on
abbrev pub PrintsMade : Making → HostState → HostState → Option Status → Type 0
PrintsMade (made text) p q answer = Did (Prints (done text)) p q answer
PrintsMade (refused_by line) p q answer = Did (Prints (refused line)) p q answer
PrintsMade unread p q answer = Did Unread p q answer
PrintsMade no_memory p q answer = (answer ≡ None) × (q ≡ p)
