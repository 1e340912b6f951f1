-- Where the first channel stands of which something holds. This project's own.
use Rattle.std.specs.Prelude.{◌≡◌, ℕ, zero, suc, List, [], ◌∷◌, Bool, true, false, Option, Some, None}
use Rattle.channel_box.specs.States.{ChannelState, ChannelView, states, first}

abbrev pub StandsAt : (ChannelState → Bool) → List ChannelView → ℕ → Type 0
StandsAt p [] i = ⊥
StandsAt p (v ∷ vs) zero = p v.state ≡ true
StandsAt p (v ∷ vs) (suc i) = (p v.state ≡ false) × StandsAt p vs i

-- at that index; none where there is none
abbrev pub IsFirst : (ChannelState → Bool) → List ChannelView → Option ℕ → Type 0
IsFirst p vs None = first p (states vs) ≡ None
IsFirst p vs (Some i) = StandsAt p vs i
