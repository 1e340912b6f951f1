use Rattle.std.proofs.Common.{Ok, ap, sym, ◌∙◌, List, ℕ, length, subst}
use Rattle.std.proofs.lemmas.Result.{err_from_is_err_and}
use Rattle.tl_base.specs.Packets.{IsPacketLength}
use Rattle.tl_base.specs.declared.host.Slot.TheVariants.{Input}
use Rattle.outside.specs.Jobs.{of_fault}
use Rattle.outside.specs.declared.status.Status.TheVariants.{Done}
use Rattle.outside.specs.Packets.{packet_view}
use Rattle.outside.specs.Packets as taken
use Rattle.outside.specs.Printing.{Unread}
use Rattle.outside.specs.Steps.{Ends}
use Rattle.outside.proofs.Growing.{did_nothing}
use Rattle.outside.proofs.TakenPackets.{packet_fits}
use Rattle.call_commands.specs.CallsWork.{so_far}
use Rattle.call_commands.specs.declared.turns.Turn.TheVariants.{Last}
use Rattle.call_commands.proofs.Going.{did_last, open_results, take_stopped}
use Rattle.call_commands.proofs.Taking.{refused_goes, taken_turn, wrong_turn}
use Rattle.call_commands.proofs.turns.tell_next.Goals as goal

pub returns-in_err-content-clause-does : goal.returns-in_err-content-clause-does
returns-in_err-content-clause-does g c = λ past stands.
    let S = c.args.schema.now in
    let p = err_from_is_err_and c.from_residual.result c.from_residual.ensures.1 in
    rw p.1 (take_stopped S c.requires.good (so_far past c.args.at) (open_results S c.args.calls.now past stands c.requires.fitting) _ _ c.in_err-content.ensures)

pub returns-in-Whole-clause-does : goal.returns-in-Whole-clause-does
returns-in-Whole-clause-does g c = λ past stands.
    taken_turn c.args.schema.now c.tell_whole.new.calls past c.args.at _ _ _ c.in_ok-content.field-0 (taken.whole c.deref.result.now) c.tell_whole.result (ap packet_view c.in-Whole.is ∙ sym (ap taken.whole c.deref.ensures.value)) c.in_ok-content.ensures
    (c.tell_whole.ensures.does past stands)

pub returns-in-None-clause-does : goal.returns-in-None-clause-does
returns-in-None-clause-does g c = λ past stands.
    taken_turn c.args.schema.now c.args.calls.now past c.args.at _ _ _ c.in_ok-content.field-0 taken.none (Ok (Last Done)) (ap packet_view c.in-None.is) c.in_ok-content.ensures (did_last (Ends Done) _ _ Done (did_nothing _ Done))

pub returns-in-Wrong-clause-does : goal.returns-in-Wrong-clause-does
returns-in-Wrong-clause-does g c = λ past stands.
    let S = c.args.schema.now in
    taken_turn S c.args.calls.now past c.args.at _ _ _ c.in_ok-content.field-0 (taken.wrong c.in-Wrong.cause) c.refuse.result (ap packet_view c.in-Wrong.is) c.in_ok-content.ensures
    (wrong_turn S c.args.calls.now past c.args.at _ _ c.in-Wrong.cause c.unpacked.result c.refuse.result c.unpacked.ensures c.refuse.ensures)

pub returns-in-Broken-clause-does : goal.returns-in-Broken-clause-does
returns-in-Broken-clause-does g c = λ past stands.
    taken_turn c.args.schema.now c.args.calls.now past c.args.at _ _ _ c.in_ok-content.field-0 taken.broken (Ok (Last c.unread.result)) (ap packet_view c.in-Broken.is) c.in_ok-content.ensures (did_last Unread _ _ c.unread.result c.unread.ensures)

pub tell_whole-requires-clause-whole : goal.tell_whole-requires-clause-whole
tell_whole-requires-clause-whole g c =
    subst (λ (x : List ℕ). IsPacketLength (length x)) (sym c.deref.ensures.value) (packet_fits Input _ _ c.in_ok-content.field-0 c.in-Whole.content c.in-Whole.is c.in_ok-content.ensures)

pub returns-in-Wrong-clause-on : goal.returns-in-Wrong-clause-on
returns-in-Wrong-clause-on g c = refused_goes c.args.at c.args.calls.now c.args.calls.now (of_fault c.unpacked.result) _ _ c.refuse.result c.refuse.ensures
