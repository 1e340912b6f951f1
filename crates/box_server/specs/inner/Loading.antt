-- How entries are loaded into a server. Private clauses cite this.
use Rattle.std.specs.Prelude.{◌≡◌, ℕ, List, length, take, true, false, Bool, Result, Ok, Err}
use Rattle.box_server.specs.Servers.{ServerState}
use Rattle.box_server.specs.declared.entry.Entry.{Entry}
use Rattle.box_server.specs.declared.store_fault.OpenFault.{OpenFault}
use Rattle.box_server.specs.declared.store_fault.OpenFault.TheVariants.{BadEntry, Failed, Memory}
use Rattle.box_server.specs.Rebuilding.{are_right, rebuilt, is_accepted, with_entry, IsBad}

-- the server after all entries, or the first that isn't accepted
abbrev pub Loads : {U : Type 0} → List Entry → ServerState → Result U OpenFault → Type 0
Loads es t (Ok u) = (are_right es ≡ true) × (t ≡ rebuilt es)
Loads es t (Err (BadEntry n)) = IsBad es n
Loads es t (Err Failed) = Unit {0}
Loads es t (Err Memory) = Unit {0}

-- the server after an entry, where it is accepted
abbrev pub Accepted : Bool → ServerState → Entry → ServerState → Type 0
Accepted true s e t = (is_accepted s e ≡ true) × (t ≡ with_entry s e)
Accepted false s e t = is_accepted s e ≡ false

-- of these entries, so many in all, the first n are right, and the server is what they rebuild
pub record Loaded (es : List Entry) (all n : ℕ) (s : ServerState) : Type 0 where
  pub count : all ≡ length es
  pub right : are_right (take n es) ≡ true
  pub server : s ≡ rebuilt (take n es)
