use Rattle.std.proofs.Common.{◌≡◌, ◌∙◌, ap, rules, List, ℕ, get_or, option_map, pos, string_bytes}
use Rattle.commands.specs.Numbers.{number_of}
use Rattle.commands.specs.Requests.{channel_range}
use Rattle.commands.proofs.Channels.{more_channels, never_channels}
use Rattle.commands.proofs.request.channels_of.Goals as goal

pub returns-in_default : goal.returns-in_default
returns-in_default c =
    let word : c.as_str.result.now ≡ string_bytes (get_or c.args.words.now c.loop-word.word-index c.word-item.result) = search rules in
    never_channels string_bytes c.args.words.now c.loop-word.word-index c.word-item.result (search rules) (c.in_default.ensures ∙ ap (λ (w : List ℕ). option_map pos (number_of channel_range w)) word)

pub loop-word-preserved : goal.loop-word-preserved
loop-word-preserved c =
    let word : c.as_str.result.now ≡ string_bytes (get_or c.args.words.now c.loop-word.word-index c.word-item.result) = search rules in
    more_channels string_bytes c.args.words.now c.loop-word.word-index c.word-item.result (search rules) c.loop-word.channels.items c.push.new.self.items c.in-Some.channel
    (c.in-Some.ensures ∙ ap (λ (w : List ℕ). option_map pos (number_of channel_range w)) word) c.loop-word.invariant (search rules)
