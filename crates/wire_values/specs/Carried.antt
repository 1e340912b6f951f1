-- Steps, calls and saved clients that are their value's again, and those whose parts have a spelling. This project's own.
use Rattle.std.specs.List.{All}
use Rattle.box_events.specs.Views.{HasCount}
use Rattle.box_events.specs.declared.requests.Post.{Post}
use Rattle.box_events.specs.declared.requests.Post.TheVariants as post
use Rattle.box_events.specs.declared.requests.Request.{Request}
use Rattle.box_events.specs.declared.requests.Request.TheVariants as request
use Rattle.box_events.specs.declared.requests.Numbered.{Numbered}
use Rattle.box_events.specs.declared.steps.Step.{Step}
use Rattle.box_events.specs.declared.steps.Step.TheVariants as step
use Rattle.box_events.specs.declared.saved.Saved.{Saved}
use Rattle.box_events.specs.declared.saved.SavedLane.{SavedLane}
use Rattle.box_events.specs.declared.saved.SavedChannel.{SavedChannel}
use Rattle.wire_forms.specs.IsOf.{IsInt, IsLong, IsText}
use Rattle.wire_values.specs.CarriedFrames.{IsWord, IsList, FitsEvent, FitsSetting}

-- ---- posts, steps and calls: each is its value's again

-- a post
abbrev pub FitsPost : Post → Type 0
FitsPost (post.Message body) = IsText body
FitsPost (post.Edit body) = IsText body
FitsPost (post.Delete ids) = IsList IsInt ids
FitsPost (post.Secret body) = IsText body
FitsPost (post.ChannelMessage id body) = IsLong id × IsText body
FitsPost (post.ChannelEdit id body) = IsLong id × IsText body
FitsPost (post.ChannelDelete id ids) = IsLong id × IsList IsInt ids
FitsPost (post.Setting key content) = IsText key × IsText content
FitsPost (post.Read max_id) = IsInt max_id
FitsPost (post.ChannelRead id max_id) = IsLong id × IsInt max_id

-- a step
abbrev pub FitsStep : Step → Type 0
FitsStep (step.Post random_id posts) = IsLong random_id × IsList FitsPost posts
FitsStep (step.Date date) = IsWord date
FitsStep (step.Serve packet) = IsWord packet
FitsStep (step.Hear client packet) = IsWord client × IsWord packet
FitsStep (step.Tick client) = IsWord client
FitsStep (step.Wake client) = IsWord client
FitsStep (step.Watch client id) = IsWord client × IsLong id
FitsStep (step.Restart client) = IsWord client
FitsStep step.TooLong = Unit {0}
FitsStep (step.ChannelTooLong id) = IsLong id

-- a request
abbrev pub FitsRequest : Request → Type 0
FitsRequest request.State = Unit {0}
FitsRequest (request.Difference pts qts date) = IsInt pts × IsInt qts × IsWord date
FitsRequest (request.Channel id pts) = IsLong id × IsInt pts
FitsRequest (request.Post random_id posts) = IsLong random_id × IsList FitsPost posts

-- a call
abbrev pub FitsCall : Numbered → Type 0
FitsCall n = IsWord n.number × FitsRequest n.request

-- ---- saved clients

-- its events count for 1 to 4,096 numbers each
abbrev pub IsLane : SavedLane → Type 0
IsLane l = All HasCount l.events

-- likewise its lane
abbrev pub IsSavedChannel : SavedChannel → Type 0
IsSavedChannel c = IsLane c.lane

-- likewise its lanes and channels
abbrev pub IsSaved : Saved → Type 0
IsSaved s = IsLane s.common × IsLane s.secret × All IsSavedChannel s.channels

-- a lane
abbrev pub FitsLane : SavedLane → Type 0
FitsLane l = IsWord l.restart × IsWord l.at × IsList FitsEvent l.events

-- a watched channel
abbrev pub FitsSavedChannel : SavedChannel → Type 0
FitsSavedChannel c = IsLong c.id × FitsLane c.lane × IsList IsText c.recent

-- a saved client
abbrev pub FitsSaved : Saved → Type 0
FitsSaved s = IsWord s.next × FitsLane s.common × FitsLane s.secret × IsWord s.date × IsWord s.seq × IsList FitsSetting s.settings × IsList FitsSavedChannel s.channels
