use Rattle.std.proofs.Common.{arith}
use Rattle.tl_schema.specs.declared.form.TypeForm.TheVariants as form
use Rattle.tl_decode.proofs.PlanTypes.{shown_type}
use Rattle.tl_decode.proofs.Opened.{opens_int, opens_long, opens_nat, opens_opaque, opens_str, opens_raw}
use Rattle.tl_decode.proofs.opening.item_of.Goals as goal

pub returns-in-Int : goal.returns-in-Int
returns-in-Int c = λ fs well. opens_int c.args.plan.now fs well c.args.of (shown_type c.args.plan.now c.args.of c.instance.result.now form.Int c.instance.ensures.shows c.in-Int.is)

pub returns-in-Long : goal.returns-in-Long
returns-in-Long c = λ fs well. opens_long c.args.plan.now fs well c.args.of (shown_type c.args.plan.now c.args.of c.instance.result.now form.Long c.instance.ensures.shows c.in-Long.is)

pub returns-in-Nat : goal.returns-in-Nat
returns-in-Nat c = λ fs well. opens_nat c.args.plan.now fs well c.args.of (shown_type c.args.plan.now c.args.of c.instance.result.now form.Nat c.instance.ensures.shows c.in-Nat.is)

pub returns-in-Double : goal.returns-in-Double
returns-in-Double c = λ fs well. opens_opaque c.args.plan.now fs well c.args.of 8 (omega arith) (shown_type c.args.plan.now c.args.of c.instance.result.now form.Double c.instance.ensures.shows c.in-Double.is)

pub returns-in-Int128 : goal.returns-in-Int128
returns-in-Int128 c = λ fs well. opens_opaque c.args.plan.now fs well c.args.of 16 (omega arith) (shown_type c.args.plan.now c.args.of c.instance.result.now form.Int128 c.instance.ensures.shows c.in-Int128.is)

pub returns-in-Int256 : goal.returns-in-Int256
returns-in-Int256 c = λ fs well. opens_opaque c.args.plan.now fs well c.args.of 32 (omega arith) (shown_type c.args.plan.now c.args.of c.instance.result.now form.Int256 c.instance.ensures.shows c.in-Int256.is)

pub returns-in-Str : goal.returns-in-Str
returns-in-Str c = λ fs well. opens_str c.args.plan.now fs well c.args.of (shown_type c.args.plan.now c.args.of c.instance.result.now form.Str c.instance.ensures.shows c.in-Str.is)

pub returns-in-Raw : goal.returns-in-Raw
returns-in-Raw c = λ fs well. opens_raw c.args.plan.now fs well c.args.of (shown_type c.args.plan.now c.args.of c.instance.result.now form.Raw c.instance.ensures.shows c.in-Raw.is)
