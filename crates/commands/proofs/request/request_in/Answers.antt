use Rattle.std.proofs.Common.{codes}
use Rattle.commands.proofs.Found.{found_as}
use Rattle.commands.proofs.request.request_in.Goals as goal

pub returns-in-check : goal.returns-in-check
returns-in-check c =
    found_as c.args.matches.now c.in_ok-command.operands.now c.in_ok-command.command.now (codes "check") _ c.in_ok-command.ensures.name c.in_ok-command.ensures.rows c.in-check.is c.check_of.ensures

pub returns-in-decode : goal.returns-in-decode
returns-in-decode c =
    found_as c.args.matches.now c.in_ok-command.operands.now c.in_ok-command.command.now (codes "decode") _ c.in_ok-command.ensures.name c.in_ok-command.ensures.rows c.in-decode.is c.decode_of.ensures

pub returns-in-encode : goal.returns-in-encode
returns-in-encode c =
    found_as c.args.matches.now c.in_ok-command.operands.now c.in_ok-command.command.now (codes "encode") _ c.in_ok-command.ensures.name c.in_ok-command.ensures.rows c.in-encode.is c.encode_of.ensures

pub returns-in-replay : goal.returns-in-replay
returns-in-replay c =
    found_as c.args.matches.now c.in_ok-command.operands.now c.in_ok-command.command.now (codes "replay") _ c.in_ok-command.ensures.name c.in_ok-command.ensures.rows c.in-replay.is c.replay_of.ensures

pub returns-in-make : goal.returns-in-make
returns-in-make c =
    found_as c.args.matches.now c.in_ok-command.operands.now c.in_ok-command.command.now (codes "make") _ c.in_ok-command.ensures.name c.in_ok-command.ensures.rows c.in-make.is c.make_of.ensures

pub returns-in-serve : goal.returns-in-serve
returns-in-serve c =
    found_as c.args.matches.now c.in_ok-command.operands.now c.in_ok-command.command.now (codes "serve") _ c.in_ok-command.ensures.name c.in_ok-command.ensures.rows c.in-serve.is c.serve_of.ensures

pub returns-in-post : goal.returns-in-post
returns-in-post c =
    found_as c.args.matches.now c.in_ok-command.operands.now c.in_ok-command.command.now (codes "post") _ c.in_ok-command.ensures.name c.in_ok-command.ensures.rows c.in-post.is c.post_of.ensures

pub returns-in-client : goal.returns-in-client
returns-in-client c =
    found_as c.args.matches.now c.in_ok-command.operands.now c.in_ok-command.command.now (codes "client") _ c.in_ok-command.ensures.name c.in_ok-command.ensures.rows c.in-client.is c.client_of.ensures

pub returns-in-layers : goal.returns-in-layers
returns-in-layers c =
    found_as c.args.matches.now c.in_ok-command.operands.now c.in_ok-command.command.now (codes "layers") _ c.in_ok-command.ensures.name c.in_ok-command.ensures.rows c.in-layers.is c.layers_of.ensures

pub returns-in-calls : goal.returns-in-calls
returns-in-calls c =
    found_as c.args.matches.now c.in_ok-command.operands.now c.in_ok-command.command.now (codes "calls") _ c.in_ok-command.ensures.name c.in_ok-command.ensures.rows c.in-calls.is c.calls_of.ensures
