use Rattle.std.proofs.Common.{◌≡◌, true, map, take, string_bytes}
use Rattle.commands.specs.CommandLine.{are_channels, channel_of}
use Rattle.commands.proofs.request.channels_of.Given as goal

abbrev pub invariant-loop-word : goal.invariant-loop-word
invariant-loop-word l =
    (are_channels (map string_bytes (take l.word-index l.words)) ≡ true) × (l.channels.items ≡ map channel_of (map string_bytes (take l.word-index l.words)))
