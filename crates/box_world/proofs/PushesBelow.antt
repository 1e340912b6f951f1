-- The pushes of a sound server stay below the limit, and so do warnings, receipts, refusals and what a client asks.
use Rattle.std.specs.Prelude.{◌==◌, pos}
use Rattle.std.proofs.Common.{◌≡◌, ℕ, suc, ◌+◌, ◌*◌, ◌≤◌, List, [], ◌∷◌, length, Bool, true, false, cond, refl, arith}
use Rattle.std.specs.List.{All, sum_by}
use Rattle.std.proofs.lemmas.List.Elements.{All-nil, All-cons}
use Rattle.std.proofs.lemmas.List.Sums.{sum_by-cons}
use Rattle.box_events.specs.declared.updates.Update.{Update}
use Rattle.box_events.specs.declared.updates.Push.TheVariants as push
use Rattle.box_events.specs.declared.replies.Frame.TheVariants as frame
use Rattle.box_server.specs.declared.fault.PostFault.{PostFault}
use Rattle.box_server.specs.declared.fault.PostFault.TheVariants.{NoPosts, TooManyPosts, NoIds, TooManyIds, BodyTooLong, KeyTooLong, ValueTooLong, PostTooLarge, TooManyChannels, TooManySettings, BoxFull, Memory}
use Rattle.box_server.specs.FaultNames.{name_of}
use Rattle.box_server.specs.Servers.{ServerState, lane_end}
use Rattle.box_server.specs.Entries.{Entry, to_common, to_secret, to_channel, to_settings, entries_of, lane_of, raise_of, size_of}
use Rattle.box_server.specs.Posting.{applied, update_of, updates_of, settings_of, first_number, last_number, push_of}
use Rattle.box_server.proofs.Soundness.{taken}
use Rattle.channel_box.specs.States.{ChannelState}
use Rattle.channel_box.specs.Steps.{Ticked, ticked, and_asks, and_waits, channel_is_due, ask_of}
use Rattle.box_client.specs.States.{ClientState}
use Rattle.box_client.specs.Asking.{group_is_due, group_asks, difference_of, channels_ticked}
use Rattle.wire_forms.specs.declared.form.Cell.TheVariants.{One}
use Rattle.wire_forms.specs.declared.numbers.TheConstants.{UPDATE_TYPE}
use Rattle.wire_forms.specs.Forms.{forms}
use Rattle.wire_forms.specs.Parts.{row}
use Rattle.wire_values.specs.Updates.{update_tree}
use Rattle.box_world.specs.Sizes.{call_size, frame_size, size_in, sizes_of}
use Rattle.box_world.specs.FrameLaws.{AsksAreBelow, PushesAreBelow, ReceiptsAreBelow, RefusalsAreBelow, WarningsAreBelow}
use Rattle.box_world.proofs.PartSizes.{channel_size, common_size, setting_size, text_size}
use Rattle.box_world.proofs.AnswersBelow.{error_size, receipt_size}

-- ---- updates

update_size : (s : ServerState) (x : Entry) → size_in (One UPDATE_TYPE) (update_tree (update_of s x)) ≤ size_of x + 28
unfolding forms
update_size s (to_common e) = let c = common_size e (lane_end s (lane_of (to_common e)) + raise_of (to_common e)) in omega (arith, c)
update_size s (to_secret body) = let t = text_size body in omega (arith, t)
update_size s (to_channel id e) = channel_size id e (lane_end s (lane_of (to_channel id e)) + raise_of (to_channel id e))
update_size s (to_settings x) = let t = setting_size x in omega (arith, t)

step : (u rest x sum n all : ℕ) → all ≡ x + sum → u ≤ x + 28 → rest ≤ sum + 28 * n → u + rest ≤ all + 28 * suc n
step u rest x sum n all is le more = omega (arith, is, le, more)

updates_size : (s : ServerState) (xs : List Entry) → sizes_of (One UPDATE_TYPE) (row update_tree (updates_of s xs)) ≤ sum_by size_of xs + 28 * length xs
updates_size s [] = omega arith
updates_size s (x ∷ xs) = step _ _ (size_of x) (sum_by size_of xs) (length xs) _ (sum_by-cons size_of x xs) (update_size s x) (updates_size (applied s x) xs)

-- ---- pushes

push_by : (us : List Update) (date start seq : ℕ) (b : Bool) → (start == seq) ≡ b → frame_size (frame.Push (push.Container us date start seq)) ≤ 28 + sizes_of (One UPDATE_TYPE) (row update_tree us)
unfolding forms
push_by us date start seq true is = rw is (omega arith)
push_by us date start seq false is = rw is (omega arith)

pub pushes_below : PushesAreBelow
unfolding push_of
pushes_below s posts h none =
    let xs : List Entry = entries_of posts in
    let k = taken s posts none in
    let start : ℕ = first_number (length s.settings) (settings_of xs) in
    let seq : ℕ = last_number (length s.settings) (settings_of xs) in
    let whole = push_by (updates_of s xs) s.date start seq (start == seq) refl in
    let all = updates_size s xs in
    let few = k.few in
    let bytes = k.bytes in
    record { sum = omega (arith, whole, all, few, bytes); limit = omega (arith, whole, all, few, bytes) }

pub warnings_below : WarningsAreBelow
unfolding forms
warnings_below id date = (refl, refl)

pub receipts_below : ReceiptsAreBelow
receipts_below n r = receipt_size n r

pub short_name : (fault : PostFault) → length (name_of fault) ≤ 60
short_name NoPosts = omega arith
short_name TooManyPosts = omega arith
short_name NoIds = omega arith
short_name TooManyIds = omega arith
short_name BodyTooLong = omega arith
short_name KeyTooLong = omega arith
short_name ValueTooLong = omega arith
short_name PostTooLarge = omega arith
short_name TooManyChannels = omega arith
short_name TooManySettings = omega arith
short_name (BoxFull lane at) = omega arith
short_name Memory = omega arith

pub refusals_below : RefusalsAreBelow
refusals_below n fault =
    let e = error_size n (pos 400) (name_of fault) in
    let short = short_name fault in
    omega (arith, e, short)

-- ---- asks

difference_asks : (c : ClientState) → call_size (difference_of c) ≡ 24
unfolding forms
difference_asks c = refl

channel_asks : (c : ChannelState) (n : ℕ) → call_size (ask_of c n) ≡ 24
unfolding forms
channel_asks c n = refl

over : (b : Bool) (n : ℕ) (c : ChannelState) (t u : Ticked) → All (λ a. call_size a ≡ 24) t.asks → All (λ a. call_size a ≡ 24) u.asks → All (λ a. call_size a ≡ 24) (cond b (and_asks n c t) (and_waits c u)).asks
over true n c t u short other = All-cons (λ a. call_size a ≡ 24) (ask_of c n) t.asks (channel_asks c n) short
over false n c t u short other = other

channels_short : (n : ℕ) (cs : List ChannelState) → All (λ a. call_size a ≡ 24) (ticked n cs).asks
channels_short n [] = All-nil (λ a. call_size a ≡ 24)
channels_short n (c ∷ cs) = over (channel_is_due c) n c (ticked (n + 1) cs) (ticked n cs) (channels_short (n + 1) cs) (channels_short n cs)

group_short : (b : Bool) (c : ClientState) → All (λ a. call_size a ≡ 24) (channels_ticked (cond b (record { client = group_asks c; asks = difference_of c ∷ [] }) (record { client = c; asks = [] }))).asks
group_short true c = All-cons (λ a. call_size a ≡ 24) (difference_of c) (ticked (c.next + 1) c.channels).asks (difference_asks c) (channels_short (c.next + 1) c.channels)
group_short false c = channels_short c.next c.channels

pub asks_below : AsksAreBelow
asks_below c = group_short (group_is_due c) c
