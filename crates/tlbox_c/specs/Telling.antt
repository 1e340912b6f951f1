-- What of what was made is told to C. This project's own.
use Rattle.std.specs.Prelude.{◌≡◌, ℕ, ◌<◌, ◌≤◌, List, [], ◌++◌, length, drop, Result, Ok, Err}
use Rattle.outside.specs.declared.stop.LoadError.{LoadError}
use Rattle.outside.specs.declared.stop.LoadError.TheVariants as load_error
use Rattle.tl_codec.specs.Codings.{Made}
use Rattle.tlbox_c.specs.declared.telling.TheConstants.{DONE, MEMORY, REFUSED}

-- the status of why nothing was made, and the bytes that are kept: the line of a refusal; a failed read, which no codec answers, is told as out of memory
abbrev pub TellsFault : LoadError → ℕ → List ℕ → Type 0
TellsFault (load_error.Refused line) status last = (status ≡ REFUSED) × (last ≡ line.items)
TellsFault load_error.ReadFault status last = (status ≡ MEMORY) × (last ≡ [])
TellsFault load_error.Memory status last = (status ≡ MEMORY) × (last ≡ [])

-- the status of what was made, and the bytes that are kept: what was made
abbrev pub Tells : Made → ℕ → List ℕ → Type 0
Tells (Ok bytes) status last = (status ≡ DONE) × (last ≡ bytes.items)
Tells (Err fault) status last = TellsFault fault status last

-- the same of a number, beside which nothing is kept
abbrev pub TellsNumber : Result ℕ LoadError → ℕ → ℕ → ℕ → List ℕ → Type 0
TellsNumber (Ok n) status old new last = (status ≡ DONE) × (new ≡ n) × (last ≡ [])
TellsNumber (Err fault) status old new last = (new ≡ old) × TellsFault fault status last

-- they begin what is behind the slice, where they all fit; else it is as it was
abbrev pub Fills : List ℕ → List ℕ → List ℕ → Type 0
Fills bytes old new = (length bytes ≤ length old → new ≡ bytes ++ drop (length bytes) old) × (length old < length bytes → new ≡ old)

-- what was made is handed out, or the line of a refusal; a failed read, which nothing here answers, is told as out of memory
abbrev pub HandsMade : Made → ℕ → List ℕ → List ℕ → ℕ → Type 0
HandsMade (Ok bytes) status old new len = (status ≡ DONE) × Fills bytes.items old new × (len ≡ length bytes.items)
HandsMade (Err (load_error.Refused line)) status old new len = (status ≡ REFUSED) × Fills line.items old new × (len ≡ length line.items)
HandsMade (Err load_error.ReadFault) status old new len = (status ≡ MEMORY) × (new ≡ old) × (len ≡ 0)
HandsMade (Err load_error.Memory) status old new len = (status ≡ MEMORY) × (new ≡ old) × (len ≡ 0)
