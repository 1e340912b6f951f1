-- What holds of all lists of events, and of results. This project's own.
use Rattle.std.specs.Prelude.{◌≡◌, ℕ, ◌<◌, List, [], ◌∷◌, map, get_or, replicate, Some, slice_get}
use Rattle.tl_numbers.specs.Bytes.{AreBytes}
use Rattle.tl_schema.specs.Types.{Shape}
use Rattle.tl_schema.specs.Types as type
use Rattle.tl_schema.specs.Schemas.{Slot, Declaration, Declared}
use Rattle.tl_schema.specs.CheckedPrograms.{IsSchema}
use Rattle.tl_schema.specs.Formed.{IsFormed, IsFunction}
use Rattle.tl_types.specs.Values.{ValueView, ValueViews, list_of}
use Rattle.tl_calls.specs.Results.{result_type, results, HasResult}
use Rattle.tl_calls.specs.Events.{Event, sent, came, Log, call_in, Given, IsAnswer}

-- ---- results

-- a call that is answered in its result has a formed one
abbrev pub AnsweredInFormed : Type 0
AnsweredInFormed = (schema : Declared) → IsSchema schema → (v : ValueView) → HasResult schema v → IsFormed schema (result_type schema.decls v)

-- field k of the declaration is a call of variable j
pub record IsCalledAt (d : Declaration) (j k : ℕ) : Type 0 where
  pub f : Slot
  pub there : slice_get d.fields k ≡ Some f
  pub var : f.var ≡ Some j

-- in a schema each variable of a function stands in one field `!X`
abbrev pub EachVariableIsCalled : Type 0
EachVariableIsCalled = (schema : Declared) → IsSchema schema → (i : ℕ) (d : Declaration) → IsFunction schema i d → (j : ℕ) → j < d.vars → (k : ℕ) × IsCalledAt d j k × ((m : ℕ) → IsCalledAt d j m → m ≡ k)

-- the result of a variable is that of the value of its field
abbrev pub ResultsAreTheCalls : Type 0
ResultsAreTheCalls =
    (schema : Declared) → IsSchema schema → (i : ℕ) (d : Declaration) → IsFunction schema i d → (vs : ValueViews) (j k : ℕ) → j < d.vars → IsCalledAt d j k
    → (v : ValueView) → slice_get (list_of vs) k ≡ Some v → get_or (results schema.decls (replicate d.vars type.call) d.fields vs) j type.call ≡ result_type schema.decls v

-- ---- events

-- what happened, without what it gave
abbrev pub events_of : Log → List Event
events_of past = map (λ e. e.0) past

-- a call that was sent is answered in its result; what came are bytes
abbrev pub IsProper : Declared → Event → Type 0
IsProper schema (sent v) = HasResult schema v
IsProper schema (came n b) = AreBytes b

abbrev pub AreProper : Declared → List Event → Type 0
AreProper schema [] = Unit {0}
AreProper schema (e ∷ past) = IsProper schema e × AreProper schema past

-- the log is what these events give
abbrev pub IsLogOf : Declared → List Event → Log → Type 0
IsLogOf schema es log = (events_of log ≡ es) × Given schema log

-- each list of events has one log: what each answer gives is told by the events alone
pub record HasOneLog (schema : Declared) (es : List Event) : Type 0 where
  pub one : (log : Log) × IsLogOf schema es log
  pub only : (a b : Log) → IsLogOf schema es a → IsLogOf schema es b → a ≡ b

abbrev pub EachHasOneLog : Type 0
EachHasOneLog = (schema : Declared) → IsSchema schema → (es : List Event) → AreProper schema es → HasOneLog schema es

-- event k of the log is an answer to call n, and gives the value
pub record GivesAt (log : Log) (k n : ℕ) (v : ValueView) : Type 0 where
  pub bytes : List ℕ
  pub there : slice_get log k ≡ Some (came n bytes, Some v)

-- what is handed out is the answer's value in the result of the call that has the number
pub record IsTyped (schema : Declared) (log : Log) (n : ℕ) (v : ValueView) : Type 0 where
  pub call : ValueView
  pub bytes : List ℕ
  pub sent : call_in log n ≡ Some call
  pub spelled : IsAnswer schema call bytes v

-- in each log that is so, each value is handed out in its call's own result, and each call's once
pub record GivesOnce (schema : Declared) (log : Log) : Type 0 where
  pub typed : (k n : ℕ) (v : ValueView) → GivesAt log k n v → IsTyped schema log n v
  pub once : (j k n : ℕ) (v w : ValueView) → GivesAt log j n v → GivesAt log k n w → j ≡ k

abbrev pub EachIsGivenOnce : Type 0
EachIsGivenOnce = (schema : Declared) (log : Log) → Given schema log → GivesOnce schema log
