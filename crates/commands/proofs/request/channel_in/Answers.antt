use Rattle.std.proofs.Common.{refl, ap, pos, ◌∙◌, Some, None, option_map, arith, w64}
use Rattle.std.proofs.lemmas.Int.{to_z_pos}
use Rattle.commands.specs.Requests.{channel_range}
use Rattle.commands.proofs.NumberWords.{found_number}
use Rattle.commands.proofs.request.channel_in.Goals as goal

pub returns-in-Some : goal.returns-in-Some
returns-in-Some c =
    let most = c.in-Some.ensures.most in
    ap Some (to_z_pos w64 c.in-Some.channel (omega (arith, most))) ∙ ap (option_map pos) (found_number channel_range c.args.word.now (Some c.in-Some.channel) c.in-Some.ensures _ refl)

pub returns-in-None : goal.returns-in-None
returns-in-None c = ap (option_map pos) (found_number channel_range c.args.word.now None c.in-None.ensures _ refl)
