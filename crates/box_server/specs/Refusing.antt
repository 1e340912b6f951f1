-- Why a server refuses a post: the first cause that holds, in their order. This project's own.
use Rattle.std.specs.Prelude.{◌+◌, List, [], ◌∷◌, length, Bool, eqb, ltb, if◌then◌else◌, Option, Some, None}
use Rattle.std.specs.List.{list_any, sum_by}
use Rattle.box_events.specs.declared.limits.TheConstants.{MAX_POSTS, MAX_IDS, MAX_BODY_BYTES, MAX_KEY_BYTES, MAX_VALUE_BYTES, MAX_POST_BYTES, MAX_CHANNELS, MAX_KEYS, MAX_END}
use Rattle.box_events.specs.declared.requests.Post.{Post}
use Rattle.box_events.specs.Events.{count_of, body_of}
use Rattle.box_events.specs.SettingLists.{or_else}
use Rattle.box_server.specs.declared.fault.PostFault.{PostFault}
use Rattle.box_server.specs.declared.fault.PostFault.TheVariants.{NoPosts, TooManyPosts, NoIds, TooManyIds, BodyTooLong, KeyTooLong, ValueTooLong, PostTooLarge, TooManyChannels, TooManySettings, BoxFull}
use Rattle.box_server.specs.Servers.{ServerState, lane_end}
use Rattle.box_server.specs.Entries.{Entry, entries_of, lane_of, raise_of, size_of, is_event, is_setting}
use Rattle.box_server.specs.LastEntries.{keys_in}
use Rattle.box_server.specs.Posting.{applied, applied_all}

-- the first cause whose test holds
abbrev pub first_cause : List (Bool × PostFault) → Option PostFault
first_cause [] = None
first_cause (c ∷ cs) = if c.0 then Some c.1 else first_cause cs

-- what is wrong with entries, whatever the server keeps
abbrev pub bad_entries : List Entry → List (Bool × PostFault)
bad_entries xs =
    (eqb (length xs) 0, NoPosts)
    ∷ (ltb MAX_POSTS (length xs), TooManyPosts)
    ∷ (list_any (is_event (λ e. eqb (count_of e) 0)) xs, NoIds)
    ∷ (list_any (is_event (λ e. ltb MAX_IDS (count_of e))) xs, TooManyIds)
    ∷ (list_any (is_event (λ e. ltb MAX_BODY_BYTES (length (body_of e)))) xs, BodyTooLong)
    ∷ (list_any (is_setting (λ x. ltb MAX_KEY_BYTES (length x.key))) xs, KeyTooLong)
    ∷ (list_any (is_setting (λ x. ltb MAX_VALUE_BYTES (length x.value))) xs, ValueTooLong)
    ∷ (ltb MAX_POST_BYTES (sum_by size_of xs), PostTooLarge)
    ∷ []

-- a server that would keep too much
abbrev pub too_many : ServerState → List (Bool × PostFault)
too_many s =
    (ltb MAX_CHANNELS (length s.channels), TooManyChannels)
    ∷ (ltb MAX_KEYS (keys_in s.settings), TooManySettings)
    ∷ []

-- the first entry whose box, or the seq, would pass 1,000,000, with the end there when it would be applied
abbrev pub box_full : ServerState → List Entry → Option PostFault
box_full s [] = None
box_full s (x ∷ xs) =
    if ltb MAX_END (lane_end s (lane_of x) + raise_of x) then Some (BoxFull (lane_of x) (lane_end s (lane_of x)))
    else box_full (applied s x) xs

-- the first cause, where there is one
unfoldable pub post_cause : ServerState → List Post → Option PostFault
post_cause s posts =
    let xs = entries_of posts in
    or_else (first_cause (bad_entries xs)) (or_else (first_cause (too_many (applied_all s xs))) (box_full s xs))
