-- What each request takes, and the job that it is. This project's own.
use Rattle.std.specs.Prelude.{◌<◌, ◌^◌, ℕ, List, length}
use Rattle.std.specs.List.{AllByRecursion}
use Rattle.tl_base.specs.Contents.{Files, HoldBytes}
use Rattle.tl_base.specs.Outside.{View, ShowsBytes, IsFile}
use Rattle.outside.specs.Jobs.{Job}
use Rattle.call_commands.specs.Calls.{calls_job}
use Rattle.codec_commands.specs.Check.{check_job}
use Rattle.codec_commands.specs.Decode.{decode_job}
use Rattle.codec_commands.specs.Encode.{encode_job}
use Rattle.codec_commands.specs.Layers.{layers_job}
use Rattle.session_commands.specs.Client.{client_job}
use Rattle.session_commands.specs.Linked.{next_link}
use Rattle.session_commands.specs.Post.{post_job}
use Rattle.session_commands.specs.Serve.{serve_job}
use Rattle.update_commands.specs.Make.{make_job}
use Rattle.update_commands.specs.Replay.{replay_job}
use Rattle.commands.specs.Requests.{RequestText, check, decode, encode, replay, make, serve, post, client, layers, calls}

-- the files that the request names are there
abbrev pub HasFilesOf : Files → RequestText → Type 0
HasFilesOf files (check schema) = IsFile files schema
HasFilesOf files (decode schema type input) = IsFile files schema × IsFile files input
HasFilesOf files (encode schema type input) = IsFile files schema × IsFile files input
HasFilesOf files (replay schema journal clients) = IsFile files schema × IsFile files journal
HasFilesOf files (make schema number steps) = IsFile files schema
HasFilesOf files (serve schema address sessions) = IsFile files schema
HasFilesOf files (post schema address input) = IsFile files schema × IsFile files input
HasFilesOf files (client schema address state channels) = IsFile files schema × IsFile files state
HasFilesOf files (layers old new type) = IsFile files old × IsFile files new
HasFilesOf files (calls schema input) = IsFile files schema × IsFile files input

-- moments have 31 bits, as each host's have
abbrev pub AreMoments : List ℕ → Type 0
AreMoments moments = AllByRecursion (λ moment. moment < 2 ^ 31) moments

-- what has to be bytes, for the request to have one answer: files of which one item after another is read, and of requests over links all that is shown
abbrev pub ShowsBytesFor : View → RequestText → Type 0
ShowsBytesFor v (replay schema journal clients) = HoldBytes v.files
ShowsBytesFor v (serve schema address sessions) = ShowsBytes v
ShowsBytesFor v (post schema address input) = ShowsBytes v
ShowsBytesFor v (client schema address state channels) = ShowsBytes v
ShowsBytesFor v (calls schema input) = HoldBytes v.files
ShowsBytesFor v r = Unit {0}

-- what has to be bytes for its run to end so, whatever else is shown: the files of `calls`, which reads one packet after another
abbrev pub ReadsBytesFor : View → RequestText → Type 0
ReadsBytesFor v (calls schema input) = HoldBytes v.files
ReadsBytesFor v r = Unit {0}

-- what is to come is as the request takes it: for sessions such moments, and for a client fewer than 2^30 bytes from its link
abbrev pub HasComingOf : View → RequestText → Type 0
HasComingOf v (serve schema address sessions) = AreMoments v.moments
HasComingOf v (client schema address state channels) = length (next_link v) < 2 ^ 30
HasComingOf v r = Unit {0}

-- the job of a request
abbrev pub job_of : RequestText → Job
job_of (check schema) = check_job schema
job_of (decode schema type input) = decode_job schema type input
job_of (encode schema type input) = encode_job schema type input
job_of (replay schema journal clients) = replay_job schema journal clients
job_of (make schema number steps) = make_job schema number steps
job_of (serve schema address sessions) = serve_job schema address sessions
job_of (post schema address input) = post_job schema address input
job_of (client schema address state channels) = client_job schema address state channels
job_of (layers old new type) = layers_job old new type
job_of (calls schema input) = calls_job schema input
