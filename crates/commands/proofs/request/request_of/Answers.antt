use Rattle.std.proofs.Common.{map, string_bytes, subst}
use Rattle.commands.specs.Requests.{FindsRequest, request_text}
use Rattle.commands.proofs.WordsParted.{finds_if_ok, finds_none}
use Rattle.commands.proofs.request.request_of.Goals as goal

pub returns-in-Some : goal.returns-in-Some
returns-in-Some c =
    let parts = c.parts_of.ensures in
    finds_if_ok (map string_bytes c.args.words.now) _ _ parts.fixed parts.more (request_text c.in-Some.request) c.with_channels.result
    (subst (FindsRequest (map string_bytes c.parts_of.result.0.now)) c.in-Some.is c.in_ok-request.ensures) c.with_channels.ensures

pub returns-in-None : goal.returns-in-None
returns-in-None c = finds_none (map string_bytes c.args.words.now) _ c.parts_of.ensures.fixed (subst (FindsRequest (map string_bytes c.parts_of.result.0.now)) c.in-None.is c.in_ok-request.ensures)
