-- How posts are checked one by one. This project's own.
use Rattle.std.specs.Prelude.{◌≡◌, ℕ, List, length, Bool, false, eqb, ltb, Some, None, Result, Ok, Err}
use Rattle.box_events.specs.declared.limits.TheConstants.{MAX_IDS, MAX_BODY_BYTES, MAX_KEY_BYTES, MAX_VALUE_BYTES}
use Rattle.box_events.specs.Events.{count_of, body_of}
use Rattle.box_server.specs.declared.fault.PostFault.{PostFault}
use Rattle.box_server.specs.declared.fault.PostFault.TheVariants.{NoPosts, TooManyPosts, NoIds, TooManyIds, BodyTooLong, KeyTooLong, ValueTooLong, PostTooLarge, TooManyChannels, TooManySettings, BoxFull, Memory}
use Rattle.box_server.specs.Entries.{Entry, is_event, is_setting}
use Rattle.box_server.specs.Refusing.{first_cause}

-- nothing is wrong, or the first cause
abbrev pub Checks : List (Bool × PostFault) → Result (Unit {0}) PostFault → Type 0
Checks causes (Ok u) = first_cause causes ≡ None
Checks causes (Err f) = first_cause causes ≡ Some f

-- whether an entry by itself is refused by a cause
abbrev pub is_bad : PostFault → Entry → Bool
is_bad NoPosts x = false
is_bad TooManyPosts x = false
is_bad NoIds x = is_event (λ e. eqb (count_of e) 0) x
is_bad TooManyIds x = is_event (λ e. ltb MAX_IDS (count_of e)) x
is_bad BodyTooLong x = is_event (λ e. ltb MAX_BODY_BYTES (length (body_of e))) x
is_bad KeyTooLong x = is_setting (λ s. ltb MAX_KEY_BYTES (length s.key)) x
is_bad ValueTooLong x = is_setting (λ s. ltb MAX_VALUE_BYTES (length s.value)) x
is_bad PostTooLarge x = false
is_bad TooManyChannels x = false
is_bad TooManySettings x = false
is_bad (BoxFull lane at) x = false
is_bad Memory x = false

-- too few or too many ids by their number
pub record CountsIds (x : Entry) (n : ℕ) : Type 0 where
  pub none : eqb n 0 ≡ is_bad NoIds x
  pub many : ltb MAX_IDS n ≡ is_bad TooManyIds x

-- too long by the number of bytes
abbrev pub limit_of : PostFault → ℕ
limit_of BodyTooLong = MAX_BODY_BYTES
limit_of KeyTooLong = MAX_KEY_BYTES
limit_of f = MAX_VALUE_BYTES

abbrev pub CountsBytes : PostFault → Entry → ℕ → Type 0
CountsBytes cause x n = ltb (limit_of cause) n ≡ is_bad cause x
