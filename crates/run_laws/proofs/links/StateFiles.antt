-- What is answered to a state file's bytes, up to one past the limit, is answered to the file, and the other way round.
use Rattle.std.proofs.Common.{ℕ, ◌+◌, ◌<◌, ℤ, List, length, take, sym, ap, subst, inl, inr, arith}
use Rattle.std.proofs.lemmas.Bool.{cases_lt}
use Rattle.std.proofs.lemmas.List.{take_all, length-take}
use Rattle.box_client.specs.States.{ClientState}
use Rattle.wire_profile.specs.Indexes.{ProfileView}
use Rattle.outside.specs.Answer.{Answer}
use Rattle.session_commands.specs.Client.{HasClient, TellsNoClient, OfState, begins, loads, no_client, no_saved, not_loaded, too_long, too_many, watches}
use Rattle.session_commands.specs.declared.state.TheConstants.{MAX_STATE_BYTES}

module _ (p : ProfileView) (address name : List ℕ) (channels : List ℤ) where
  -- no client is in more bytes than a state has
  long_client : (bytes : List ℕ) (c : ClientState) → MAX_STATE_BYTES < length bytes → HasClient p bytes c → ⊥
  long_client bytes c long (begins is new) = let none = ap length is in omega (arith, long, none)
  long_client bytes c long (loads s has is) = let few = has.few in omega (arith, long, few)

  long_told : (bytes file line : List ℕ) → MAX_STATE_BYTES < length bytes → MAX_STATE_BYTES < length file → TellsNoClient p bytes line → TellsNoClient p file line
  long_told bytes file line long more (too_long far is) = too_long more is
  long_told bytes file line long more (no_saved fault some few refuses is) = absurd (omega (arith, long, few))
  long_told bytes file line long more (not_loaded s fault has cause is) = absurd (let few = has.few in omega (arith, long, few))

  long_state : (bytes file given : List ℕ) (x : Answer) → MAX_STATE_BYTES < length bytes → MAX_STATE_BYTES < length file → OfState p address name channels bytes given x → OfState p address name channels file given x
  long_state bytes file given x long more (no_client line tells is) = no_client line (long_told bytes file line long more tells) is
  long_state bytes file given x long more (too_many c has none is) = absurd (long_client bytes c long has)
  long_state bytes file given x long more (watches c d has is session) = absurd (long_client bytes c long has)

  pub state_stays : (file given : List ℕ) (x : Answer) → OfState p address name channels (take (MAX_STATE_BYTES + 1) file) given x → OfState p address name channels file given x
  state_stays file given x h =
      elim (cases_lt MAX_STATE_BYTES (length file)) [
        | inl long ↦ long_state (take (MAX_STATE_BYTES + 1) file) file given x (omega (arith, long, length-take (MAX_STATE_BYTES + 1) file)) long h
        | inr few ↦ subst (λ (l : List ℕ). OfState p address name channels l given x) (take_all (MAX_STATE_BYTES + 1) file (omega (arith, few))) h
      ]

  pub state_taken : (file given : List ℕ) (x : Answer) → OfState p address name channels file given x → OfState p address name channels (take (MAX_STATE_BYTES + 1) file) given x
  state_taken file given x h =
      elim (cases_lt MAX_STATE_BYTES (length file)) [
        | inl long ↦ long_state file (take (MAX_STATE_BYTES + 1) file) given x long (omega (arith, long, length-take (MAX_STATE_BYTES + 1) file)) h
        | inr few ↦ subst (λ (l : List ℕ). OfState p address name channels l given x) (sym (take_all (MAX_STATE_BYTES + 1) file (omega (arith, few)))) h
      ]
