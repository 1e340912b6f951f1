use Rattle.std.proofs.Common.{◌≡◌, ◌∙◌, length, ap, arith}
use Rattle.box_server.proofs.NewServers.{sound_new}
use Rattle.update_world.specs.declared.parts.WorldParts.{WorldParts}
use Rattle.update_world.proofs.Steadying.{many_new, starts_steady}
use Rattle.update_world.proofs.world.World.new.Goals as goal

pub invariant_of-result : goal.invariant_of-result
invariant_of-result c =
    let a : WorldParts = record { server = c.new.result; clients = c.in_ok-new_clients.field-0; pool = c.new-2.result } in
    let many : length c.in_ok-new_clients.field-0.items ≡ c.args.clients = ap length c.in_ok-new_clients.ensures ∙ many_new c.args.clients in
    record {
      profile = c.schema-schema.ensures.sound;
      some = omega (arith, many, c.requires.some);
      few = omega (arith, many, c.requires.few);
      steady = λ fine. starts_steady c.args.profile a c.args.clients c.schema-schema.ensures.sound sound_new c.new.ensures c.in_ok-new_clients.ensures c.new-2.ensures;
    }
