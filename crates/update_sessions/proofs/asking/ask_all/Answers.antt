use Rattle.std.proofs.Common.{ap, ◌∙◌, arith, subst}
use Rattle.box_client.specs.Asking.{ticks}
use Rattle.box_client.specs.States.{ClientState}
use Rattle.update_sessions.specs.Packed.{Packed, SpellsCall}
use Rattle.std.specs.Prelude.{OnOk}
use Rattle.update_sessions.proofs.asking.ask_all.Goals as goal

pub put_asks-requires : goal.put_asks-requires
put_asks-requires c = let same = ap (λ (x : ClientState). x.next) c.wake.ensures.step in omega (arith, same, c.requires)

pub returns-clause-begins : goal.returns-clause-begins
returns-clause-begins c = c.put_asks.ensures.ticks ∙ ap (λ (x : ClientState). (ticks x).client) c.wake.ensures.step

pub returns-clause-next : goal.returns-clause-next
returns-clause-next c = let same = ap (λ (x : ClientState). x.next) c.wake.ensures.step in omega (arith, same, c.requires, c.put_asks.ensures.next)

pub returns-clause-asks : goal.returns-clause-asks
returns-clause-asks c = subst (λ (x : ClientState). OnOk c.put_asks.result (Packed (SpellsCall c.args.profile.now) (ticks x).asks c.put_asks.new.out)) c.wake.ensures.step c.put_asks.ensures.asks
