-- Open calls, what sending and answering do to them, and the events that they stand for. This project's own.
use Rattle.std.specs.Prelude.{◌≡◌, ℕ, suc, ◌<◌, ◌≤◌, ◌^◌, List, [], ◌∷◌, ◌++◌, length, Bool, Option, Some, None, Result, Ok, Err, slice_get}
use Rattle.std.specs.Map.{lookup, remove_entry}
use Rattle.std.specs.Ordering.{is_eq, nat_cmp}
use Rattle.tl_schema.specs.Types.{Shape}
use Rattle.tl_schema.specs.Schemas.{Declared}
use Rattle.tl_types.specs.Values.{ValueView}
use Rattle.tl_types.specs.Seen.{view}
use Rattle.tl_types.specs.declared.value.Value.{Value}
use Rattle.tl_decode.specs.Wholes.{ReadsBytes}
use Rattle.tl_base.specs.declared.fault.Fault.{Fault}
use Rattle.tl_base.specs.declared.fault.Fault.TheVariants as fault
use Rattle.tl_decode.specs.declared.whole.WholeCause.{WholeCause}
use Rattle.tl_decode.specs.declared.whole.WholeCause.TheVariants as whole
use Rattle.tl_calls.specs.Results.{result_type, HasResult, ResultHas}
use Rattle.tl_calls.specs.Events.{Log, sent, came, sent_in, open_in, Given}
use Rattle.tl_calls.specs.declared.calls.TheConstants.{MAX_OPEN}
use Rattle.tl_calls.specs.declared.fault.SendFault.{SendFault}
use Rattle.tl_calls.specs.declared.fault.SendFault.TheVariants as send

-- the number of the next call, and the calls that are open, under their numbers, which ascend
pub record CallsView : Type 0 where
  pub next : ℕ
  pub calls : List (ℕ × ValueView)

-- whether it is this number
abbrev pub is_number : ℕ → ℕ → Bool
is_number n k = is_eq (nat_cmp n k)

-- the open call with the number
abbrev pub open_at : CallsView → ℕ → Option ValueView
open_at c n = lookup (is_number n) c.calls

-- each open call was sent before the next, and they are no more than the limit
pub record IsCalls (c : CallsView) : Type 0 where
  pub first : 1 ≤ c.next
  pub some_left : c.next ≤ 2 ^ 31
  pub few : length c.calls ≤ MAX_OPEN
  pub ascending : (j k : ℕ) (p q : ℕ × ValueView) → j < k → slice_get c.calls j ≡ Some p → slice_get c.calls k ≡ Some q → p.0 < q.0
  pub sent_before : (k : ℕ) (p : ℕ × ValueView) → slice_get c.calls k ≡ Some p → (1 ≤ p.0) × (p.0 < c.next)

-- in the schema each open call is answered in its result
abbrev pub AreOpenIn : Declared → CallsView → Type 0
AreOpenIn schema c = (k : ℕ) (p : ℕ × ValueView) → slice_get c.calls k ≡ Some p → HasResult schema p.1

-- ---- what calls do

-- the next number is the call's, and it is open
abbrev pub with_call : ValueView → CallsView → CallsView
with_call v c = record { next = suc c.next; calls = c.calls ++ (c.next, v) ∷ [] }

-- the call with the number is closed
abbrev pub without_call : ℕ → CallsView → CallsView
without_call n c = record c { calls = remove_entry (is_number n) c.calls }

-- What sending a call does; a refusal changes nothing. Out of memory is free.
abbrev pub Sends : Declared → CallsView → CallsView → ValueView → Result ℕ SendFault → Type 0
Sends schema old new v (Ok n) = (length old.calls < MAX_OPEN) × HasResult schema v × (n ≡ old.next) × (new ≡ with_call v old)
Sends schema old new v (Err send.Full) = (length old.calls ≡ MAX_OPEN) × (new ≡ old)
Sends schema old new v (Err (send.Result cause)) = (length old.calls < MAX_OPEN) × ResultHas schema (result_type schema.decls v) cause × (new ≡ old)
Sends schema old new v (Err send.Memory) = new ≡ old

-- What an answer to an open call does: the value closes it, and after a refusal it is still open.
abbrev pub ToCall : Declared → CallsView → CallsView → ℕ → ValueView → List ℕ → Result (Option Value) (Fault WholeCause) → Type 0
ToCall schema old new n asked b (Ok None) = ⊥
ToCall schema old new n asked b (Ok (Some v)) = ReadsBytes schema (result_type schema.decls asked) b (Ok v) × (new ≡ without_call n old)
ToCall schema old new n asked b (Err fault) = ReadsBytes schema (result_type schema.decls asked) b (Err fault) × (new ≡ old)

-- An answer to no open call gives nothing, and changes nothing.
abbrev pub ToNone : CallsView → CallsView → Result (Option Value) (Fault WholeCause) → Type 0
ToNone old new result = (result ≡ Ok None) × (new ≡ old)

abbrev pub AnswersTo : Declared → CallsView → CallsView → ℕ → List ℕ → Result (Option Value) (Fault WholeCause) → Option ValueView → Type 0
AnswersTo schema old new n b result None = ToNone old new result
AnswersTo schema old new n b result (Some asked) = ToCall schema old new n asked b result

abbrev pub Answers : Declared → CallsView → CallsView → ℕ → List ℕ → Result (Option Value) (Fault WholeCause) → Type 0
Answers schema old new n b result = AnswersTo schema old new n b result (open_at old n)

-- ---- events

-- The calls stand for this log: the next number is one more than the number of calls that were sent, and those are open whose value wasn't given.
pub record StandsFor (schema : Declared) (c : CallsView) (past : Log) : Type 0 where
  pub given : Given schema past
  pub next : c.next ≡ suc (length (sent_in past))
  pub calls : c.calls ≡ open_in past

-- from each log to the log with the call
abbrev pub LogsSent : Declared → CallsView → CallsView → ValueView → Result ℕ SendFault → Type 0
LogsSent schema old new v (Ok n) = (past : Log) → StandsFor schema old past → StandsFor schema new ((sent v, None) ∷ past)
LogsSent schema old new v (Err fault) = (past : Log) → StandsFor schema old past → StandsFor schema new past

-- from each log to the log with the answer, and what is handed out is what it gives; an answer that was refused gives nothing
abbrev pub LogsCame : Declared → CallsView → CallsView → ℕ → List ℕ → Result (Option Value) (Fault WholeCause) → Type 0
LogsCame schema old new n b (Ok None) = (past : Log) → StandsFor schema old past → StandsFor schema new ((came n b, None) ∷ past)
LogsCame schema old new n b (Ok (Some v)) = (past : Log) → StandsFor schema old past → StandsFor schema new ((came n b, Some (view v)) ∷ past)
LogsCame schema old new n b (Err (fault.Refused (whole.Refused place cause))) = (past : Log) → StandsFor schema old past → StandsFor schema new ((came n b, None) ∷ past)
LogsCame schema old new n b (Err (fault.Refused (whole.Trailing place))) = (past : Log) → StandsFor schema old past → StandsFor schema new ((came n b, None) ∷ past)
LogsCame schema old new n b (Err fault.Memory) = (past : Log) → StandsFor schema old past → StandsFor schema new past
