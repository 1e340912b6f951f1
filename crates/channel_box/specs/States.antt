-- The channels that a client watches, apart from the code.
-- From "Working with Updates" (core.telegram.org/api/updates): each channel has a box and a pts of its own. That a client keeps the messages
-- which it was told when it was too far behind is this project's own.
use Rattle.std.specs.Prelude.{◌≡◌, ℕ, ℤ, List, [], ◌∷◌, map, Bool, false, ◌||◌, Option, None, Some, cond, refl}
use Rattle.std.specs.Coded.{Coded, code_by, coded×, coded_ℕ, coded_ℤ, coded_bool, coded_list}
use Rattle.std.specs.Ordering.{int_eq}
use Rattle.box_events.specs.Events.{EventView}
use Rattle.box_events.specs.inner.EventCodes.{event_code}
use Rattle.pts_machine.specs.States.{LaneState, state_code}

-- a channel's id and lane, whether to ask about it though nothing is held, and the messages that were told in place of its older events
pub record ChannelState : Type 0 where
  pub id : ℤ
  pub lane : LaneState EventView
  pub flag : Bool
  pub recent : List (List ℕ)

-- what callers see of a channel: itself, and for how many further updates there is room
pub record ChannelView : Type 0 where
  pub state : ChannelState
  pub spare : ℕ

-- the channels without their room
abbrev pub states : List ChannelView → List ChannelState
states vs = map (λ v. v.state) vs

-- the channel has this id
abbrev pub has_id : ℤ → ChannelState → Bool
has_id id c = int_eq c.id id

-- the first channel of which something holds
abbrev pub first : (ChannelState → Bool) → List ChannelState → Option ChannelState
first p [] = None
first p (c ∷ cs) = cond (p c) (Some c) (first p cs)

-- their ids, in order
abbrev pub ids_of : List ChannelState → List ℤ
ids_of cs = map (λ c. c.id) cs

-- the id is one of these
abbrev pub is_in : ℤ → List ℤ → Bool
is_in id [] = false
is_in id (k ∷ ks) = int_eq k id || is_in id ks

-- no two ids are one
abbrev pub AreDistinct : List ℤ → Type 0
AreDistinct [] = Unit {0}
AreDistinct (k ∷ ks) = (is_in k ks ≡ false) × AreDistinct ks

-- for how many further updates of a channel there is room
abbrev pub spare_of : List ChannelView → ℤ → ℕ
spare_of [] id = 0
spare_of (v ∷ vs) id = cond (has_id id v.state) v.spare (spare_of vs id)

-- a channel, and what callers see of it, as rows of their parts
abbrev pub channel_code : Coded ChannelState
channel_code = code_by (ℤ × (LaneState EventView × (Bool × List (List ℕ))))
    (coded× coded_ℤ (coded× (state_code event_code) (coded× coded_bool (coded_list (coded_list coded_ℕ)))))
    (λ c. (c.id, (c.lane, (c.flag, c.recent)))) (λ p. record { id = p.0; lane = p.1.0; flag = p.1.1.0; recent = p.1.1.1 }) (λ _. refl)

abbrev pub view_code : Coded ChannelView
view_code = code_by (ChannelState × ℕ) (coded× channel_code coded_ℕ) (λ v. (v.state, v.spare)) (λ p. record { state = p.0; spare = p.1 }) (λ _. refl)
