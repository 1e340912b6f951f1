-- The values of posts and of a replay's steps, and back. This project's own.
use Rattle.std.specs.Prelude.{ℕ, ℤ, List, [], ◌∷◌, ◌==◌, if◌then◌else◌}
use Rattle.tl_types.specs.Values.{ValueView, int, long, text, list, node, ValueViews, values_of}
use Rattle.box_events.specs.declared.requests.Post.{Post}
use Rattle.box_events.specs.declared.requests.Post.TheVariants as post
use Rattle.wire_forms.specs.Parts.{at, parts_of, entry_of, text_of, int_of, long_of, row}
use Rattle.wire_forms.specs.declared.numbers.TheConstants.{POST_MESSAGE, POST_EDIT, POST_DELETE, POST_SECRET, POST_CHANNEL_MESSAGE, POST_CHANNEL_EDIT, POST_CHANNEL_DELETE, POST_SETTING, POST_READ, POST_CHANNEL_READ}
use Rattle.wire_values.specs.Updates.{ids_in}

-- a list of ids
abbrev pub ids_tree : List ℤ → ValueView
ids_tree ids = list (row int ids)

-- a post
abbrev pub post_tree : Post → ValueView
post_tree (post.Message body) = node POST_MESSAGE (values_of (text body ∷ []))
post_tree (post.Edit body) = node POST_EDIT (values_of (text body ∷ []))
post_tree (post.Delete ids) = node POST_DELETE (values_of (ids_tree ids ∷ []))
post_tree (post.Secret body) = node POST_SECRET (values_of (text body ∷ []))
post_tree (post.ChannelMessage id body) = node POST_CHANNEL_MESSAGE (values_of (long id ∷ text body ∷ []))
post_tree (post.ChannelEdit id body) = node POST_CHANNEL_EDIT (values_of (long id ∷ text body ∷ []))
post_tree (post.ChannelDelete id ids) = node POST_CHANNEL_DELETE (values_of (long id ∷ ids_tree ids ∷ []))
post_tree (post.Setting key content) = node POST_SETTING (values_of (text key ∷ text content ∷ []))
post_tree (post.Read max_id) = node POST_READ (values_of (int max_id ∷ []))
post_tree (post.ChannelRead id max_id) = node POST_CHANNEL_READ (values_of (long id ∷ int max_id ∷ []))

-- ---- back: the last form stands for whatever else there is

-- the post of a record of form k
abbrev pub post_at : ℕ → ValueViews → Post
post_at k ts =
    if k == POST_MESSAGE then post.Message (text_of (at 0 ts))
    else if k == POST_EDIT then post.Edit (text_of (at 0 ts))
    else if k == POST_DELETE then post.Delete (ids_in (at 0 ts))
    else if k == POST_SECRET then post.Secret (text_of (at 0 ts))
    else if k == POST_CHANNEL_MESSAGE then post.ChannelMessage (long_of (at 0 ts)) (text_of (at 1 ts))
    else if k == POST_CHANNEL_EDIT then post.ChannelEdit (long_of (at 0 ts)) (text_of (at 1 ts))
    else if k == POST_CHANNEL_DELETE then post.ChannelDelete (long_of (at 0 ts)) (ids_in (at 1 ts))
    else if k == POST_SETTING then post.Setting (text_of (at 0 ts)) (text_of (at 1 ts))
    else if k == POST_READ then post.Read (int_of (at 0 ts))
    else post.ChannelRead (long_of (at 0 ts)) (int_of (at 1 ts))

-- the post of a value
abbrev pub post_in : ValueView → Post
post_in t = post_at (entry_of t) (parts_of t)
