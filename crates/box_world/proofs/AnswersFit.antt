-- The answers of a sound server fit.
use Rattle.std.specs.Prelude.{◌&&◌, ltb, pos, negsuc}
use Rattle.std.proofs.Common.{◌≡◌, ℕ, ◌+◌, ◌-◌, ◌≤◌, ℤ, List, [], ◌∷◌, length, Option, Some, None, Bool, true, false, refl, arith}
use Rattle.box_events.specs.declared.requests.Request.TheVariants.{State as StateRequest, Difference as DifferenceRequest, Channel as ChannelRequest, Post}
use Rattle.box_events.specs.declared.settings.Setting.{Setting}
use Rattle.box_events.specs.declared.replies.Frame.TheVariants.{Reply}
use Rattle.box_events.specs.Events.{EventView}
use Rattle.box_events.specs.Boxes.{ending}
use Rattle.box_events.specs.Weaving.{bodies, others_from}
use Rattle.box_server.specs.Servers.{ChannelBox, ServerState, channel_in, channel_end, state_of}
use Rattle.box_server.specs.Sound.{IsSound}
use Rattle.box_server.specs.LastEntries.{changed_since}
use Rattle.box_server.specs.Runs.{events_after, run_of, recent_of}
use Rattle.box_server.specs.Answers.{answer, is_whole, is_far, last_by, carried, reached, difference_by, difference_of, channel_part, channel_by, channel_difference, no_position}
use Rattle.box_world.specs.Fitting.{FrameFits, IsNumber}
use Rattle.box_world.specs.FrameLaws.{AnswersFit}
use Rattle.box_world.proofs.Carried.{Carries, Kept, run_carries, channel_carries, others_lie, kept_in, not_less, none_of_two}
use Rattle.box_world.proofs.ClearReplies.{InRange, state_fits, empty_fits, error_fits, last_fits, slice_fits, channel_empty_fits, channel_far_fits, channel_part_fits}

refused : (n : ℕ) → IsNumber n → FrameFits (Reply n no_position)
refused n num = error_fits n _ _ num

state_in : (s : ServerState) → IsSound s → InRange (state_of s)
state_in s h = record { pts = h.common.1; qts = h.secret.1; date = h.date; seq = h.seq }

last_fit : (b : Bool) (s : ServerState) (n p : ℕ) (news secrets : List EventView) (xs : List Setting) → IsSound s → IsNumber n → Carries p news → FrameFits (Reply n (last_by b s p news secrets xs))
last_fit true s n p news secrets xs h num c = empty_fits n s.date (length s.settings) num h.date h.seq
last_fit false s n p news secrets xs h num c = last_fits n (bodies news) (bodies secrets) (others_from p news) xs (state_of s) num (others_lie p news c.counts c.limit) (state_in s h)

carried_fit : (b : Bool) (s : ServerState) (n p q date : ℕ) (news secrets : List EventView) → IsSound s → IsNumber n → Carries p news → Carries q secrets → FrameFits (Reply n (carried b s p q date news secrets))
carried_fit true s n p q date news secrets h num c d = last_fit _ s n p news secrets (changed_since s.settings date) h num c
carried_fit false s n p q date news secrets h num c d =
    slice_fits n (bodies news) (bodies secrets) (others_from p news) (reached s p q news secrets) num (others_lie p news c.counts c.limit) (record { pts = c.limit; qts = d.limit; date = h.date; seq = h.seq })

difference_fit : (s : ServerState) (n p q date : ℕ) (a b : Option (List EventView)) → IsSound s → IsNumber n → events_after s.common p ≡ a → events_after s.secret q ≡ b → FrameFits (Reply n (difference_by s p q date a b))
difference_fit s n p q date None b h num x y = refused n num
difference_fit s n p q date (Some es) None h num x y = refused n num
difference_fit s n p q date (Some es) (Some fs) h num x y =
    carried_fit (is_whole es && is_whole fs) s n p q date (run_of es) (run_of fs) h num (run_carries s.common p es h.events.common h.common.1 x) (run_carries s.secret q fs h.events.secret h.secret.1 y)

differences_fit : (s : ServerState) (n : ℕ) (pts qts : ℤ) (date : ℕ) → IsSound s → IsNumber n → FrameFits (Reply n (difference_of s pts qts date))
differences_fit s n (negsuc p) qts date h num = refused n num
differences_fit s n (pos p) (negsuc q) date h num = refused n num
differences_fit s n (pos p) (pos q) date h num = difference_fit s n p q date (events_after s.common p) (events_after s.secret q) h num refl refl

part_fits : (c : ChannelBox) (n p : ℕ) (o : Option (List EventView)) → Kept c → IsNumber n → c.first ≤ p → p ≤ channel_end c → events_after c.events (p - c.first) ≡ o → FrameFits (Reply n (channel_part p o))
part_fits c n p None k num from to is = refused n num
part_fits c n p (Some []) k num from to is = channel_empty_fits n p true num (let limit = k.limit in omega (arith, to, limit))
part_fits c n p (Some (e ∷ es)) k num from to is =
    let run : List EventView = run_of (e ∷ es) in
    let carries : Carries p run = channel_carries c p (e ∷ es) k from is in
    channel_part_fits n (p + ending run) (bodies run) (others_from p run) (is_whole (e ∷ es)) num carries.limit (others_lie p run carries.counts carries.limit)

channel_fit : (past far : Bool) (c : ChannelBox) (n p : ℕ) → Kept c → IsNumber n → ltb (channel_end c) p ≡ past → is_far c p ≡ far → FrameFits (Reply n (channel_by past far c p))
channel_fit true far c n p k num x y = refused n num
channel_fit false true c n p k num x y = channel_far_fits n (channel_end c) (recent_of c.events) true num k.limit
channel_fit false false c n p k num x y = part_fits c n p (events_after c.events (p - c.first)) k num (not_less p c.first (none_of_two (ltb p c.first) _ y)) (not_less (channel_end c) p x) refl

channels_fit : (c : ChannelBox) (n : ℕ) (pts : ℤ) → Kept c → IsNumber n → FrameFits (Reply n (channel_difference c pts))
channels_fit c n (negsuc p) k num = refused n num
channels_fit c n (pos p) k num = channel_fit (ltb (channel_end c) p) (is_far c p) c n p k num refl refl

pub answers_fit : AnswersFit
unfolding answer
answers_fit s n StateRequest h num is = state_fits n (state_of s) num (state_in s h)
answers_fit s n (DifferenceRequest pts qts date) h num is = differences_fit s n pts qts date h num
answers_fit s n (ChannelRequest id pts) h num is = channels_fit (channel_in s.channels id) n pts (kept_in s.channels id h.channels h.events.channels) num
answers_fit s n (Post id posts) h num is = absurd is
