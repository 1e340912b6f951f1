-- Histories of servers to which each post came as bytes. This project's own.
use Rattle.std.specs.Prelude.{List, [], ◌∷◌}
use Rattle.std.specs.List.{All}
use Rattle.tl_numbers.specs.Bytes.{AreBytes}
use Rattle.box_events.specs.declared.requests.Post.{Post}
use Rattle.box_events.specs.declared.requests.Post.TheVariants.{Message, Edit, Delete, Secret, ChannelMessage, ChannelEdit, ChannelDelete, Setting, Read, ChannelRead}
use Rattle.box_world.specs.Streams.{Doing, dates, posts}
use Rattle.wire_values.specs.Carried.{FitsPost}

-- the texts of a post are of bytes
abbrev pub HasBytes : Post → Type 0
HasBytes (Message body) = AreBytes body
HasBytes (Edit body) = AreBytes body
HasBytes (Delete ids) = Unit {0}
HasBytes (Secret body) = AreBytes body
HasBytes (ChannelMessage id body) = AreBytes body
HasBytes (ChannelEdit id body) = AreBytes body
HasBytes (ChannelDelete id ids) = Unit {0}
HasBytes (Setting key content) = AreBytes key × AreBytes content
HasBytes (Read max_id) = Unit {0}
HasBytes (ChannelRead id max_id) = Unit {0}

-- each post of a history has a spelling, and texts of bytes
abbrev pub WereRead : List Doing → Type 0
WereRead [] = Unit {0}
WereRead (posts random_id ps ∷ h) = All FitsPost ps × All HasBytes ps × WereRead h
WereRead (dates date ∷ h) = WereRead h
