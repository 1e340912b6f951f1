-- The small cases, by computing.
use Rattle.std.proofs.Common.{◌≡◌, ◌⊎◌, inl, inr, ℕ, zero, suc, ◌+◌, ◌*◌, ◌<◌, ◌≤◌, ℤ, pos, List, [], ◌∷◌, length, map as each, codes, true, eqb, ltb, Option, Some, None, refl, sym, ap, ◌∙◌, arith}
use Rattle.std.specs.Prelude.{slice_get, take}
use Rattle.std.specs.FinMap as map
use Rattle.std.specs.Ordering.{int_cmp, nat_cmp}
use Rattle.std.specs.Cmp.Lexicographic.{slice_cmp}
use Rattle.std.proofs.lemmas.Option.{none-some, same_Some}
use Rattle.std.proofs.lemmas.List.{length-append}
use Rattle.box_events.specs.Boxes.{AreCounted, Between, ending}
use Rattle.box_events.specs.Events.{EventView, added, body_of, deleted}
use Rattle.box_events.specs.SettingLists.{Dated, Values, last_of, or_else, value_of}
use Rattle.box_events.specs.declared.replies.Reply.{Reply}
use Rattle.box_events.specs.declared.limits.TheConstants.{MAX_CHANNELS, MAX_KEYS}
use Rattle.box_events.specs.declared.replies.Reply.TheVariants.{Difference, Empty}
use Rattle.box_events.specs.declared.replies.Reply.TheVariants as reply_of
use Rattle.box_events.specs.declared.requests.Post.{Post}
use Rattle.box_events.specs.declared.requests.Post.TheVariants.{Message}
use Rattle.box_events.specs.declared.requests.Request.{Request}
use Rattle.box_events.specs.declared.requests.Request.TheVariants as request
use Rattle.box_events.specs.declared.updates.Push.{Push}
use Rattle.box_events.specs.declared.updates.Push.TheVariants.{Container, TooLong}
use Rattle.box_events.specs.declared.updates.Update.{Update}
use Rattle.box_events.specs.declared.updates.Update.TheVariants.{Common, Secret, Channel, ChannelTooLong, Setting}
use Rattle.box_events.proofs.Boundaries.{boundary_past}
use Rattle.box_events.proofs.Stretches.{between_one, stops_at, stretch_counts}
use Rattle.pts_machine.specs.Latest.{latest}
use Rattle.pts_machine.proofs.Growing.{latest_is}
use Rattle.box_server.specs.Answers.{answer, last_by}
use Rattle.box_server.specs.LastEntries.{settings_since}
use Rattle.box_server.specs.Posting.{posted, push_of}
use Rattle.box_server.specs.Refusing.{first_cause, post_cause}
use Rattle.box_server.specs.Runs.{limited}
use Rattle.box_server.specs.Servers.{ServerState, new_server}
use Rattle.box_server.specs.declared.fault.PostFault.TheVariants.{TooManyChannels, TooManySettings}
use Rattle.box_client.specs.States.{new_client}
use Rattle.box_world.specs.Streams.{IsHonestPush, Past, begun, channel_too_long, first_past, of_post, past_of, posts, told_reply, too_long}
use Rattle.box_world.proofs.Streams.{new_post}
use Rattle.headline.specs.CatchingUp.{LastAnswer}
use Rattle.headline.specs.Instances.{ClientsHaveBoxes, StreamsAreSent, StretchesAreExact, box, history, one, server, two}

-- ---- stretches

weight : List EventView → ℕ
weight [] = 0
weight (e ∷ es) = 1 + length (body_of e) + 10 * weight es

counted : AreCounted box
counted = (omega arith, (omega arith, tt))

both_lie : Between box 0 2 (one ∷ two ∷ [])
both_lie = record { prefix = []; rest = []; whole = refl; start = refl; stop = refl }

first_lies : Between box 0 1 (one ∷ [])
first_lies = record { prefix = []; rest = two ∷ []; whole = refl; start = refl; stop = refl }

only_both : (xs : List EventView) → Between box 0 2 xs → weight (one ∷ two ∷ []) ≡ weight xs
only_both xs b = ap weight (between_one box 0 2 (one ∷ two ∷ []) xs counted both_lie b)

no_half : (xs : List EventView) → Between (deleted (pos 4 ∷ pos 5 ∷ []) ∷ []) 0 1 xs → ⊥
no_half xs b = let two_at_most = (boundary_past (deleted (pos 4 ∷ pos 5 ∷ [])) [] 1 (omega arith) (stops_at (deleted (pos 4 ∷ pos 5 ∷ []) ∷ []) 0 1 xs b)).0 in absurd (omega (arith, two_at_most))

pub stretches_are_exact : StretchesAreExact
unfolding weight
stretches_are_exact = record {
  both = both_lie;
  second = record { prefix = one ∷ []; rest = []; whole = refl; start = refl; stop = refl };
  lost_second = λ b. omega (arith, stretch_counts box 0 2 (one ∷ []) b);
  lost_first = λ b. omega (arith, stretch_counts box 0 2 (two ∷ []) b);
  turned = λ b. omega (arith, only_both (two ∷ one ∷ []) b);
  twice = λ b. omega (arith, only_both (one ∷ one ∷ []) b);
  changed = λ b. omega (arith, only_both (one ∷ added (codes "another") ∷ []) b);
  short = λ b. omega (arith, stretch_counts box 0 1 (one ∷ two ∷ []) b);
  cut = no_half;
}

-- ---- clients

none_lies : (xs : List EventView) → Between xs 0 0 []
none_lies xs = record { prefix = []; rest = xs; whole = refl; start = refl; stop = refl }

value_at : (s : ℕ) → map.get (latest server.settings s) (codes "color") ≡ value_of (last_of (take s server.settings) (codes "color"))
value_at s = latest_is server.settings s (codes "color")

length_in : Option (List ℕ) → ℕ
length_in None = 0
length_in (Some xs) = length xs

red : length_in (map.get (latest server.settings 1) (codes "color")) ≡ 3
unfolding length_in
red = ap length_in (value_at 1)

blue : length_in (map.get (latest server.settings 2) (codes "color")) ≡ 4
unfolding length_in
blue = ap length_in (value_at 2)

differ : latest server.settings 1 ≡ latest server.settings 2 → ⊥
differ e = omega (arith, red, blue, ap (λ (t : Values). length_in (map.get t (codes "color"))) e)

pub clients_have_boxes : ClientsHaveBoxes
clients_have_boxes = record {
  all = record { common = both_lie; secret = none_lies []; channels = tt; seq = omega arith; settings = refl };
  behind = record { common = first_lies; secret = none_lies []; channels = tt; seq = omega arith; settings = refl };
  begins = record { common = none_lies box; secret = none_lies []; channels = tt; seq = omega arith; settings = refl };
  lost_second = λ h. stretches_are_exact.lost_second h.common;
  lost_first = λ h. stretches_are_exact.lost_first h.common;
  old_setting = λ h. differ h.settings;
  new_setting = λ h. differ (sym h.settings);
  past_end = λ h. omega (arith, h.seq);
  up_to_date = record { common = omega arith; secret = omega arith; settings = omega arith };
  one_behind = λ h. omega (arith, h.common);
  seq_behind = λ h. omega (arith, h.settings);
  not_begun = λ h. omega (arith, h.common);
  past_nothing = record { common = omega arith; secret = omega arith; settings = omega arith };
}

-- ---- streams

abbrev post : List Post
post = Message (codes "one") ∷ []

no_items : {A : Type 0} (xs : List A) → length xs ≡ 0 → xs ≡ []
no_items [] e = refl
no_items (x ∷ xs) e = absurd (omega (arith, e))

no_entries : map.entries {K = List ℕ} {X = Dated} {R = slice_cmp nat_cmp} map.empty ≡ []
no_entries = no_items (map.entries map.empty) (sym (map.len-entries map.empty) ∙ map.len-empty (slice_cmp nat_cmp) Dated)

not_known : map.get new_server.receipts (pos 9) ≡ None
not_known = map.get-empty int_cmp (pos 9)

no_cause : post_cause new_server post ≡ None
unfolding post_cause
no_cause = ap (λ (n : ℕ). or_else (first_cause ((ltb MAX_CHANNELS 0, TooManyChannels) ∷ (ltb MAX_KEYS n, TooManySettings) ∷ [])) None) (map.len-empty (slice_cmp nat_cmp) Dated)

after : (past_of history 1).server ≡ posted new_server (pos 9) post
after = ap (λ (p : Past). p.server) (new_post first_past (pos 9) post not_known no_cause)

one_end : ending (posted new_server (pos 9) post).common ≡ 1
unfolding posted
one_end = refl

abbrev asks : Request
asks = request.Difference (pos 0) (pos 0) 0

abbrev answer_one : Reply
answer_one = Difference (codes "one" ∷ []) [] [] [] (record { pts = 1; qts = 0; date = 0; seq = 0 }) true

posted_answer : answer (posted new_server (pos 9) post) asks ≡ answer_one
unfolding answer posted limited
posted_answer = ap (λ (es : List (List ℕ × Dated)). Difference (codes "one" ∷ []) [] [] (settings_since 0 (each (λ e. e.1) es)) (record { pts = 1; qts = 0; date = 0; seq = 0 }) true) no_entries

one_answer : answer (past_of history 1).server asks ≡ answer_one
one_answer = ap (λ (s : ServerState). answer s asks) after ∙ posted_answer

new_answer : answer new_server asks ≡ Empty 0 0
unfolding answer limited
new_answer = ap (λ (es : List (List ℕ × Dated)). last_by (eqb (length (settings_since 0 (each (λ e. e.1) es))) 0) new_server 0 [] [] (settings_since 0 (each (λ e. e.1) es))) no_entries

push_is : Container (Common one 1 ∷ []) 0 0 0 ≡ push_of new_server post
unfolding push_of
push_is = refl

one_sent : IsHonestPush history 1 (Container (Common one 1 ∷ []) 0 0 0)
one_sent = of_post 0 (pos 9) post (omega arith) refl not_known no_cause push_is

-- what a push carries, by a number

abbrev sizes : List Update → ℕ
sizes [] = 0
sizes (Common e pts ∷ us) = length (body_of e) + 100 * pts + sizes us
sizes (Secret body qts ∷ us) = sizes us
sizes (Channel id e pts ∷ us) = sizes us
sizes (ChannelTooLong id ∷ us) = sizes us
sizes (Setting x ∷ us) = sizes us

abbrev size : Push → ℕ
size TooLong = 0
size (Container us date seq_start seq) = sizes us

post_size : (i : ℕ) (random_id : ℤ) (ps : List Post) (p : Push) → slice_get history i ≡ Some (posts random_id ps) → p ≡ push_of (past_of history i).server ps → size p ≡ 103
post_size zero random_id ps p at is =
    let same : posts (pos 9) post ≡ posts random_id ps = same_Some (posts (pos 9) post) (posts random_id ps) at in
    let own : post ≡ ps = cc in
    ap size (is ∙ ap (push_of new_server) (sym own) ∙ sym push_is)
post_size (suc i) random_id ps p at is = absurd (none-some (posts random_id ps) at)

honest_size : (k : ℕ) (p : Push) → IsHonestPush history k p → (size p ≡ 0) ⊎ (size p ≡ 103)
honest_size k p (of_post i random_id ps lt at new none is) = inr (post_size i random_id ps p at is)
honest_size k p (too_long is) = inl (ap size is)
honest_size k p (channel_too_long id date is) = inl (ap size is)

no_other : (k : ℕ) (p : Push) (n : ℕ) → size p ≡ n → 103 < n → IsHonestPush history k p → ⊥
no_other k p n e lt h = elim (honest_size k p h) [
  | inl none ↦ absurd (omega (arith, e, lt, none))
  | inr sent ↦ absurd (omega (arith, e, lt, sent))
]

-- the seq of an empty difference
abbrev seq_of : Reply → ℕ
seq_of (reply_of.State state) = 0
seq_of (Empty date seq) = seq
seq_of (Difference news secrets others settings state last) = 0
seq_of (reply_of.Channel r) = 0
seq_of (reply_of.Receipt r) = 0
seq_of (reply_of.Error code text) = 0

no_five : (k : ℕ) → k ≤ 1 → Empty 0 5 ≡ answer (past_of history k).server asks → ⊥
no_five zero le e = absurd (let w : 5 ≡ 0 = ap seq_of (e ∙ new_answer) in omega (arith, w))
no_five (suc zero) le e = absurd (let w : 5 ≡ 0 = ap seq_of (e ∙ one_answer) in omega (arith, w))
no_five (suc (suc k)) le e = absurd (omega (arith, le))

nothing : (m : ℕ) → LastAnswer history (begun new_client) m [] → ⊥
nothing m l = absurd (omega (arith, ap length l.parts, length-append l.before (told_reply l.number l.reply ∷ l.after)))

pub streams_are_sent : StreamsAreSent
streams_are_sent = record {
  posted = (1, omega arith, omega arith, one_sent, tt);
  answered = (1, omega arith, omega arith, λ r e. sym one_answer ∙ ap (answer (past_of history 1).server) (same_Some asks r e), tt);
  answered_before = (0, omega arith, omega arith, λ r e. sym new_answer ∙ ap (answer new_server) (same_Some asks r e), tt);
  unasked = (0, omega arith, omega arith, λ r e. absurd (none-some r e), tt);
  made_up = λ (k, up, inside, honest, rest). no_other k (Container (Common two 1 ∷ []) 0 0 0) 106 refl (omega arith) honest;
  misplaced = λ (k, up, inside, honest, rest). no_other k (Container (Common one 2 ∷ []) 0 0 0) 203 refl (omega arith) honest;
  wrong_answer = λ (k, up, inside, honest, rest). no_five k inside (honest asks refl);
  nothing_heard = nothing;
  not_up_to_date = λ u. absurd (omega (arith, u.past.common, ap (λ (s : ServerState). ending s.common) after, one_end));
}
