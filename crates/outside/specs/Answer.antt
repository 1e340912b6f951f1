-- What a command answers: its status, what it writes, and what it leaves. This project's own.
use Rattle.std.specs.Prelude.{ℕ, List, [], ◌++◌, Option, None, codes, decimal}
use Rattle.outside.specs.declared.status.Status.{Status}
use Rattle.outside.specs.declared.status.Status.TheVariants.{Done, Refused, Usage, ReadFault, WriteFault, Memory, LinkFault, PeerFault}

-- the number that a process ends with
abbrev pub status_number : Status → ℕ
status_number Done = 0
status_number Refused = 1
status_number Usage = 2
status_number ReadFault = 3
status_number WriteFault = 4
status_number Memory = 5
status_number LinkFault = 6
status_number PeerFault = 7

-- An answer: its status, what it adds to Output, and its lines on Errors. `state` is the name under which it creates State and the bytes that it
-- writes there, where it creates it; `taken` how many links it asks for, `links` what it writes to each that it takes, and `moments` how many moments it
-- asks for; `address` is the address that it uses last, where it uses one.
pub record Answer : Type 0 where
  pub status : Status
  pub output : List ℕ
  pub errors : List ℕ
  pub state : Option (List ℕ × List ℕ)
  pub taken : ℕ
  pub links : List (List ℕ)
  pub moments : ℕ
  pub address : Option (List ℕ)

-- an answer that writes to Output and Errors alone
abbrev pub printed : Status → List ℕ → List ℕ → Answer
printed status output line = record { status = status; output = output; errors = line; state = None; taken = 0; links = []; moments = 0; address = None }

abbrev pub done : List ℕ → Answer
done output = printed Done output []

abbrev pub refused : List ℕ → Answer
refused line = printed Refused [] line

-- a refusal after this was written
abbrev pub refused_after : List ℕ → List ℕ → Answer
refused_after output line = printed Refused output line

-- the line says how the program is used
abbrev pub misused : List ℕ → Answer
misused line = printed Usage [] line

-- ---- lines

-- what is refused, its offset, and the cause with its values
abbrev pub placed_line : List ℕ → ℕ → List ℕ → List ℕ
placed_line what place why = (((((codes "tlbox: " ++ what) ++ codes " ") ++ decimal place) ++ codes " ") ++ why) ++ codes "\n"

-- likewise, of a cause that has no offset
abbrev pub unplaced_line : List ℕ → List ℕ → List ℕ
unplaced_line what why = (((codes "tlbox: " ++ what) ++ codes " - ") ++ why) ++ codes "\n"

-- likewise, of a declaration that is refused, by its number
abbrev pub decl_line : List ℕ → ℕ → List ℕ → List ℕ
decl_line what decl why = (((((codes "tlbox: " ++ what) ++ codes " decl ") ++ decimal decl) ++ codes " ") ++ why) ++ codes "\n"

abbrev pub read_fault_line : List ℕ
read_fault_line = codes "tlbox: read fault\n"

abbrev pub write_fault_line : List ℕ
write_fault_line = codes "tlbox: write fault\n"

abbrev pub link_fault_line : List ℕ
link_fault_line = codes "tlbox: link fault\n"

abbrev pub memory_line : List ℕ
memory_line = codes "tlbox: memory\n"
