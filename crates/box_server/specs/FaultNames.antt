-- The names of refusals, as lines and errors tell them. This project's own.
use Rattle.std.specs.Prelude.{ℕ, List, codes}
use Rattle.box_server.specs.declared.fault.PostFault.{PostFault}
use Rattle.box_server.specs.declared.fault.PostFault.TheVariants.{NoPosts, TooManyPosts, NoIds, TooManyIds, BodyTooLong, KeyTooLong, ValueTooLong, PostTooLarge, TooManyChannels, TooManySettings, BoxFull, Memory}

abbrev pub name_of : PostFault → List ℕ
name_of NoPosts = codes "NoPosts"
name_of TooManyPosts = codes "TooManyPosts"
name_of NoIds = codes "NoIds"
name_of TooManyIds = codes "TooManyIds"
name_of BodyTooLong = codes "BodyTooLong"
name_of KeyTooLong = codes "KeyTooLong"
name_of ValueTooLong = codes "ValueTooLong"
name_of PostTooLarge = codes "PostTooLarge"
name_of TooManyChannels = codes "TooManyChannels"
name_of TooManySettings = codes "TooManySettings"
name_of (BoxFull lane at) = codes "BoxFull"
name_of Memory = codes "Memory"
