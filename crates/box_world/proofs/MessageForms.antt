-- The value of a message has forms alone, whatever stands in the message.
use Rattle.std.specs.Prelude.{if◌then◌else◌, ◌==◌}
use Rattle.std.proofs.Common.{◌≡◌, ℕ, ◌<◌, List, [], ◌∷◌, length, Bool, true, false, refl, arith}
use Rattle.tl_types.specs.Values.{ValueView, int, text, ValueViews, no_values, value}
use Rattle.box_events.specs.Events.{EventView, added, edited, deleted, read}
use Rattle.box_events.specs.declared.settings.Setting as settings
use Rattle.box_events.specs.declared.updates.Placed as placed
use Rattle.box_events.specs.declared.updates.Update.{Update}
use Rattle.box_events.specs.declared.updates.Update.TheVariants.{Common, Secret, Channel, ChannelTooLong, Setting}
use Rattle.box_events.specs.declared.updates.Push.{Push}
use Rattle.box_events.specs.declared.updates.Push.TheVariants as push
use Rattle.box_events.specs.declared.replies.ChannelReply.{ChannelReply}
use Rattle.box_events.specs.declared.replies.ChannelReply.TheVariants as channel
use Rattle.box_events.specs.declared.replies.Reply.{Reply}
use Rattle.box_events.specs.declared.replies.Reply.TheVariants as reply
use Rattle.box_events.specs.declared.replies.Frame.{Frame}
use Rattle.box_events.specs.declared.replies.Frame.TheVariants as frame
use Rattle.box_events.specs.declared.requests.Post.{Post}
use Rattle.box_events.specs.declared.requests.Post.TheVariants as post
use Rattle.box_events.specs.declared.requests.Request.{Request}
use Rattle.box_events.specs.declared.requests.Request.TheVariants as request
use Rattle.box_events.specs.declared.requests.Numbered.{Numbered}
use Rattle.box_events.specs.declared.steps.Step.{Step}
use Rattle.box_events.specs.declared.steps.Step.TheVariants as step
use Rattle.box_events.specs.declared.saved.Saved.{Saved}
use Rattle.box_events.specs.declared.saved.SavedLane.{SavedLane}
use Rattle.box_events.specs.declared.saved.SavedChannel.{SavedChannel}
use Rattle.wire_forms.specs.Forms.{forms}
use Rattle.wire_forms.specs.Parts.{row, flag}
use Rattle.wire_forms.specs.declared.numbers.TheConstants.{DIFFERENCE, DIFFERENCE_SLICE}
use Rattle.wire_forms.specs.declared.form.Cell.TheVariants.{Query}
use Rattle.wire_profile.specs.SpelledForms.{IsServed}
use Rattle.wire_profile.proofs.FormTable.{form_there}
use Rattle.wire_profile.proofs.Renamings.{IsNumber, HasForms, HaveForms}
use Rattle.wire_values.specs.Updates.{update_tree, common_tree, setting_tree, placed_tree}
use Rattle.wire_values.specs.Others.{joined}
use Rattle.wire_values.specs.Frames.{push_tree, frame_tree, reply_tree, channel_reply_tree, bodies_tree}
use Rattle.wire_values.specs.Posts.{post_tree}
use Rattle.wire_values.specs.Calls.{call_tree, request_tree}
use Rattle.wire_values.specs.Steps.{step_tree}
use Rattle.wire_values.specs.SavedClients.{event_tree, lane_tree, saved_setting_tree, saved_channel_tree, saved_tree}

-- ---- frames

many : length forms ≡ 61
unfolding forms
many = refl

-- a number of a form
form : (k : ℕ) → k < 61 → IsNumber k
form k less = form_there k (omega (arith, less, many))

rows : {A : Type 0} (f : A → ValueView) → ((x : A) → HasForms (f x)) → (xs : List A) → HaveForms (row f xs)
rows f each [] = tt
rows f each (x ∷ xs) = (each x, rows f each xs)

joins : (ts us : ValueViews) → HaveForms ts → HaveForms us → HaveForms (joined ts us)
joins no_values us h g = g
joins (value t ts) us h g = (h.0, joins ts us h.1 g)

common_has : (e : EventView) (pts : ℕ) → HasForms (common_tree e pts)
common_has (added body) pts = (form _ (omega arith), (tt, (tt, (tt, tt))))
common_has (edited body) pts = (form _ (omega arith), (tt, (tt, (tt, tt))))
common_has (deleted ids) pts = (form _ (omega arith), (rows int (λ i. tt) ids, (tt, (tt, tt))))
common_has (read id) pts = (form _ (omega arith), (tt, (tt, (tt, tt))))

update_has : (u : Update) → HasForms (update_tree u)
update_has (Common e pts) = common_has e pts
update_has (Secret body qts) = (form _ (omega arith), (tt, (tt, tt)))
update_has (Channel id (added body) pts) = (form _ (omega arith), (tt, (tt, (tt, (tt, tt)))))
update_has (Channel id (edited body) pts) = (form _ (omega arith), (tt, (tt, (tt, (tt, tt)))))
update_has (Channel id (deleted ids) pts) = (form _ (omega arith), (tt, (rows int (λ i. tt) ids, (tt, (tt, tt)))))
update_has (Channel id (read m) pts) = (form _ (omega arith), (tt, (tt, (tt, (tt, tt)))))
update_has (ChannelTooLong id) = (form _ (omega arith), (tt, tt))
update_has (Setting s) = (form _ (omega arith), (tt, (tt, tt)))

-- one record or another
either_has : (b : Bool) (v w : ValueView) → HasForms v → HasForms w → HasForms (if b then v else w)
either_has true v w h g = h
either_has false v w h g = g

push_has : (p : Push) → HasForms (push_tree p)
push_has push.TooLong = (form _ (omega arith), tt)
push_has (push.Container us date start seq) =
    let all = rows update_tree update_has us in
    either_has (start == seq) _ _ (form _ (omega arith), (all, (tt, (tt, tt)))) (form _ (omega arith), (all, (tt, (tt, (tt, tt)))))

bodies_have : (bs : List (List ℕ)) → HasForms (bodies_tree bs)
bodies_have bs = rows text (λ b. tt) bs

others_have : (os : List placed.Placed) → HaveForms (row placed_tree os)
others_have os = rows placed_tree (λ o. common_has o.event o.pts) os

settings_have : (xs : List settings.Setting) → HaveForms (row setting_tree xs)
settings_have xs = rows setting_tree (λ x. (form _ (omega arith), (tt, (tt, tt)))) xs

either_form : (b : Bool) → IsNumber (if b then DIFFERENCE else DIFFERENCE_SLICE)
either_form true = form _ (omega arith)
either_form false = form _ (omega arith)

flag_has : (b : Bool) → HasForms (flag b)
flag_has true = tt
flag_has false = tt

channel_has : (c : ChannelReply) → HasForms (channel_reply_tree c)
channel_has (channel.Empty pts last) = (form _ (omega arith), (tt, (flag_has last, (tt, tt))))
channel_has (channel.Part pts news others last) = (form _ (omega arith), (tt, (flag_has last, (tt, (bodies_have news, (others_have others, tt))))))
channel_has (channel.TooLong pts recent last) = (form _ (omega arith), (tt, (flag_has last, (tt, (bodies_have recent, tt)))))

reply_has : (n : ℕ) (r : Reply) → HasForms (reply_tree n r)
reply_has n (reply.State s) = (form _ (omega arith), (tt, ((form _ (omega arith), (tt, (tt, (tt, (tt, tt))))), tt)))
reply_has n (reply.Empty date seq) = (form _ (omega arith), (tt, ((form _ (omega arith), (tt, (tt, tt))), tt)))
reply_has n (reply.Difference news secrets others xs state last) =
    (form _ (omega arith), (tt, ((either_form last, (bodies_have news, (bodies_have secrets, (joins (row placed_tree others) (row setting_tree xs) (others_have others) (settings_have xs), ((form _ (omega arith), (tt, (tt, (tt, (tt, tt))))), tt))))), tt)))
reply_has n (reply.Channel c) = (form _ (omega arith), (tt, (channel_has c, tt)))
reply_has n (reply.Receipt r) = (form _ (omega arith), (tt, ((form _ (omega arith), (tt, (tt, (tt, (tt, tt))))), tt)))
reply_has n (reply.Error code message) = (form _ (omega arith), (tt, (tt, (tt, tt))))

pub frame_has : (f : Frame) → HasForms (frame_tree f)
frame_has (frame.Push p) = (form _ (omega arith), (push_has p, tt))
frame_has (frame.Reply n r) = reply_has n r

-- ---- posts, calls and steps

ids_have : (ids : List _) → HaveForms (row int ids)
ids_have ids = rows int (λ i. tt) ids

post_has : (p : Post) → HasForms (post_tree p)
post_has (post.Message body) = (form _ (omega arith), (tt, tt))
post_has (post.Edit body) = (form _ (omega arith), (tt, tt))
post_has (post.Delete ids) = (form _ (omega arith), (ids_have ids, tt))
post_has (post.Secret body) = (form _ (omega arith), (tt, tt))
post_has (post.ChannelMessage id body) = (form _ (omega arith), (tt, (tt, tt)))
post_has (post.ChannelEdit id body) = (form _ (omega arith), (tt, (tt, tt)))
post_has (post.ChannelDelete id ids) = (form _ (omega arith), (tt, (ids_have ids, tt)))
post_has (post.Setting key content) = (form _ (omega arith), (tt, (tt, tt)))
post_has (post.Read max_id) = (form _ (omega arith), (tt, tt))
post_has (post.ChannelRead id max_id) = (form _ (omega arith), (tt, (tt, tt)))

request_has : (r : Request) → HasForms (request_tree r)
request_has request.State = (form _ (omega arith), tt)
request_has (request.Difference pts qts date) = (form _ (omega arith), (tt, (tt, (tt, tt))))
request_has (request.Channel id pts) = (form _ (omega arith), (tt, (tt, tt)))
request_has (request.Post random_id posts) = (form _ (omega arith), (tt, (rows post_tree post_has posts, tt)))

pub call_has : (n : Numbered) → HasForms (call_tree n)
call_has n = (form _ (omega arith), (tt, (request_has n.request, tt)))

pub step_has : (s : Step) → HasForms (step_tree s)
step_has (step.Post random_id posts) = (form _ (omega arith), (tt, (rows post_tree post_has posts, tt)))
step_has (step.Date date) = (form _ (omega arith), (tt, tt))
step_has (step.Serve packet) = (form _ (omega arith), (tt, tt))
step_has (step.Hear client packet) = (form _ (omega arith), (tt, (tt, tt)))
step_has (step.Tick client) = (form _ (omega arith), (tt, tt))
step_has (step.Wake client) = (form _ (omega arith), (tt, tt))
step_has (step.Watch client id) = (form _ (omega arith), (tt, (tt, tt)))
step_has (step.Restart client) = (form _ (omega arith), (tt, tt))
step_has step.TooLong = (form _ (omega arith), tt)
step_has (step.ChannelTooLong id) = (form _ (omega arith), (tt, tt))

-- ---- saved clients

event_has : (e : EventView) → HasForms (event_tree e)
event_has (added body) = (form _ (omega arith), (tt, tt))
event_has (edited body) = (form _ (omega arith), (tt, tt))
event_has (deleted ids) = (form _ (omega arith), (ids_have ids, tt))
event_has (read id) = (form _ (omega arith), (tt, tt))

lane_has : (l : SavedLane) → HasForms (lane_tree l)
lane_has l = (form _ (omega arith), (tt, (tt, (rows event_tree event_has l.events, tt))))

kept_has : (x : settings.Setting) → HasForms (saved_setting_tree x)
kept_has x = (form _ (omega arith), (tt, (tt, tt)))

saved_channel_has : (c : SavedChannel) → HasForms (saved_channel_tree c)
saved_channel_has c = (form _ (omega arith), (tt, (lane_has c.lane, (bodies_have c.recent, tt))))

pub saved_has : (s : Saved) → HasForms (saved_tree s)
saved_has s =
    (form _ (omega arith), (tt, (tt, (lane_has s.common, (lane_has s.secret, (tt, (tt, (rows saved_setting_tree kept_has s.settings, (rows saved_channel_tree saved_channel_has s.channels, tt)))))))))

-- ---- a call asks one of the functions of the forms

request_served : (r : Request) → IsServed Query (request_tree r)
unfolding forms
request_served request.State = (refl, tt)
request_served (request.Difference pts qts date) = (refl, (tt, (tt, (tt, tt))))
request_served (request.Channel id pts) = (refl, (tt, (tt, tt)))
request_served (request.Post random_id posts) = (refl, (tt, (tt, tt)))

pub call_served : (n : Numbered) → IsServed Query (call_tree n)
unfolding forms
call_served n = (refl, (tt, (request_served n.request, tt)))
