use Rattle.std.proofs.Common.{sym}
use Rattle.tl_schema.specs.Seen.{shape}
use Rattle.outside.specs.Jobs.{of_fault}
use Rattle.codec_rooms.proofs.Decoding.{fault_printed, value_printed}
use Rattle.codec_rooms.proofs.decode.print_verdict.Goals as goal

pub returns-in-Ok : goal.returns-in-Ok
returns-in-Ok g c = value_printed c.args.schema.now (shape c.args.of.now) c.args.got c.in-Ok.value _ _ _ c.in-Ok.is c.print_value.ensures

pub returns-in-Err : goal.returns-in-Err
returns-in-Err g c = fault_printed c.args.schema.now (shape c.args.of.now) c.args.got c.in-Err.fault (of_fault c.fault_error.result) _ _ _ c.in-Err.is c.fault_error.ensures c.print_made.ensures
