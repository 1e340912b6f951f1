-- Calls that were sent and answers that came, in any order, some lost, some twice; and the value that each answer gives. This project's own.
-- No table of open calls is kept here: what an answer gives is told by the events before it.
use Rattle.std.specs.Prelude.{◌≡◌, ℕ, zero, suc, ◌≤◌, List, [], ◌∷◌, ◌++◌, Bool, false, not, ◌||◌, ◌==◌, Option, Some, None, slice_get}
use Rattle.std.specs.List.{filter}
use Rattle.tl_schema.specs.Schemas.{Declared}
use Rattle.tl_types.specs.Values.{ValueView, depth}
use Rattle.tl_types.specs.Spelling.{Spells}
use Rattle.tl_types.specs.declared.value.TheConstants.{MAX_LEVELS}
use Rattle.tl_calls.specs.Results.{result_type}

-- a call was sent, or bytes came as the answer to the call with this number
pub data Event : Type 0 where
  sent : ValueView → Event
  came : ℕ → List ℕ → Event

-- an event, and the value that it gives, if it gives one
abbrev pub Logged : Type 0
Logged = Event × Option ValueView

-- events in time, the latest first
abbrev pub Log : Type 0
Log = List Logged

-- ---- calls by their numbers

-- the calls that were sent, in time
abbrev pub sent_in : Log → List ValueView
sent_in [] = []
sent_in ((sent v, given) ∷ past) = sent_in past ++ v ∷ []
sent_in ((came n b, given) ∷ past) = sent_in past

-- the k-th call that was sent has the number k
abbrev pub call_in : Log → ℕ → Option ValueView
call_in past zero = None
call_in past (suc k) = slice_get (sent_in past) k

-- an answer to the call with this number gave a value
abbrev pub is_given : Log → ℕ → Bool
is_given [] n = false
is_given ((sent v, given) ∷ past) n = is_given past n
is_given ((came m b, None) ∷ past) n = is_given past n
is_given ((came m b, Some v) ∷ past) n = (m == n) || is_given past n

-- the call with this number was sent, and no answer gave its value yet
pub record IsOpen (past : Log) (n : ℕ) (call : ValueView) : Type 0 where
  pub sent : call_in past n ≡ Some call
  pub left : is_given past n ≡ false

-- these values under the numbers from n on
abbrev pub numbered : ℕ → List ValueView → List (ℕ × ValueView)
numbered n [] = []
numbered n (v ∷ vs) = (n, v) ∷ numbered (suc n) vs

-- the calls that are open, each under its number, in time
abbrev pub open_in : Log → List (ℕ × ValueView)
open_in past = filter (λ p. not (is_given past p.0)) (numbered 1 (sent_in past))

-- ---- what answers give

-- the bytes are exactly a spelling of the value, in the result of the call
abbrev pub IsAnswer : Declared → ValueView → List ℕ → ValueView → Type 0
IsAnswer schema asked b v = Spells schema (result_type schema.decls asked) v b × (depth v ≤ MAX_LEVELS)

-- what an event gives after these: an answer its value where its call is open, and else nothing
abbrev pub Gives : Declared → Log → Event → Option ValueView → Type 0
Gives schema past (sent asked) given = given ≡ None
Gives schema past (came n b) (Some v) = (call : ValueView) × IsOpen past n call × IsAnswer schema call b v
Gives schema past (came n b) None = (call v : ValueView) → IsOpen past n call → IsAnswer schema call b v → ⊥

-- each event of the log gives what is said there
abbrev pub Given : Declared → Log → Type 0
Given schema [] = Unit {0}
Given schema (e ∷ past) = Gives schema past e.0 e.1 × Given schema past
