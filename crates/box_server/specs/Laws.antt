-- What the longer laws of servers say. This project's own.
use Rattle.std.specs.Prelude.{◌≡◌, ◌≤◌, ◌+◌, ◌-◌, ℤ, ℕ, List, ◌∷◌, ◌++◌, length, map, None, Some, Ok, true}
use Rattle.std.specs.FinMap as entries
use Rattle.box_events.specs.declared.positions.Receipt.{Receipt}
use Rattle.box_events.specs.declared.positions.State.{State}
use Rattle.box_events.specs.declared.replies.Reply.TheVariants.{Difference}
use Rattle.box_events.specs.declared.updates.Placed.{Placed}
use Rattle.box_events.specs.declared.requests.Post.{Post}
use Rattle.box_events.specs.declared.settings.Setting.{Setting}
use Rattle.box_events.specs.declared.updates.Update.{Update}
use Rattle.box_events.specs.Boxes.{ending, Between}
use Rattle.box_events.specs.Events.{EventView}
use Rattle.box_server.specs.Answers.{difference_of}
use Rattle.box_server.specs.Entries.{entries_of}
use Rattle.box_server.specs.Growing.{IsWhole, HasMore, channel_events, AllLie}
use Rattle.box_server.specs.Posting.{posted, updates_of, settings_of, first_number, last_number}
use Rattle.box_server.specs.Receiving.{post_answer, after_post}
use Rattle.box_server.specs.Runs.{events_after, run_of}
use Rattle.box_server.specs.Servers.{ChannelBox, ServerState, channel_in, state_of}

-- A channel's box has the post's events after those that it had.
abbrev pub ChannelsGetTheirEvents : Type 0
ChannelsGetTheirEvents =
    (s : ServerState) (random_id : ℤ) (posts : List Post) (id : ℤ)
    → HasMore (channel_in s.channels id) (channel_in (posted s random_id posts).channels id) (channel_events id (entries_of posts))

-- Each update of a push lies in its box after the post, a channel's in its whole box.
abbrev pub UpdatesLieInBoxes : Type 0
UpdatesLieInBoxes =
    (s : ServerState) (random_id : ℤ) (posts : List Post) (whole : ℤ → List EventView)
    → ((id : ℤ) → IsWhole (whole id) (channel_in s.channels id))
    → AllLie (posted s random_id posts) (λ id. whole id ++ channel_events id (entries_of posts)) (updates_of s (entries_of posts))

-- A post appends its settings, dated as the server is.
abbrev pub SettingsAreDated : Type 0
SettingsAreDated =
    (s : ServerState) (random_id : ℤ) (posts : List Post)
    → (posted s random_id posts).settings ≡ s.settings ++ map (λ x. record { setting = x; date = s.date }) (settings_of (entries_of posts))

-- The settings of a push are numbered from the one after the server's to the last that it has then.
abbrev pub SettingsAreNumbered : Type 0
SettingsAreNumbered =
    (s : ServerState) (random_id : ℤ) (posts : List Post) (x : Setting) (xs : List Setting)
    → settings_of (entries_of posts) ≡ x ∷ xs
    → (first_number (length s.settings) (settings_of (entries_of posts)) ≡ length s.settings + 1) × (last_number (length s.settings) (settings_of (entries_of posts)) ≡ length (posted s random_id posts).settings)

-- What lies in the boxes of a server still does when they have more events.
abbrev pub UpdatesStayInBoxes : Type 0
UpdatesStayInBoxes =
    (s t : ServerState) (whole later : ℤ → List EventView) (us : List Update)
    → (more : List EventView) × (t.common ≡ s.common ++ more)
    → (more : List EventView) × (t.secret ≡ s.secret ++ more)
    → ((id : ℤ) → (more : List EventView) × (later id ≡ whole id ++ more)) → AllLie s whole us → AllLie t later us

-- What a difference carries of a channel lies in its whole box from where the client stands.
abbrev pub ChannelRunsLie : Type 0
ChannelRunsLie =
    (whole : List EventView) (c : ChannelBox) (p : ℕ) (es : List EventView) → IsWhole whole c → c.first ≤ p
    → events_after c.events (p - c.first) ≡ Some es → Between whole p (p + ending (run_of es)) (run_of es)

-- A difference that says that it is the last part reaches where the server is.
abbrev pub LastPartsReachTheServer : Type 0
LastPartsReachTheServer =
    (s : ServerState) (pts qts : ℤ) (date : ℕ) (news secrets : List (List ℕ)) (others : List Placed) (settings : List Setting) (state : State)
    → difference_of s pts qts date ≡ Difference news secrets others settings state true → state ≡ state_of s

-- A random id that was received before posts nothing, and is answered by its receipt.
abbrev pub KnownIdsPostNothing : Type 0
KnownIdsPostNothing =
    (s : ServerState) (random_id : ℤ) (posts : List Post) (receipt : Receipt) → entries.get s.receipts random_id ≡ Some receipt
    → (after_post s random_id posts ≡ s) × (post_answer s random_id posts ≡ Ok (record { receipt = receipt; push = None }))
