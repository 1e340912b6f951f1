use Rattle.std.proofs.Common.{arith, inl, inr}
use Rattle.tl_schema.specs.declared.form.TypeForm.TheVariants as form
use Rattle.tl_types.proofs.Views.{view-Truth, view-Absent}
use Rattle.tl_decode.proofs.PlanTypes.{shown_type}
use Rattle.tl_decode.proofs.Opened.{opens_int, opens_long, opens_nat, opens_opaque, opens_str, opens_raw, opens_flag, opens_var}
use Rattle.tl_decode.proofs.opening.open.Goals as goal

pub returns-in-Int : goal.returns-in-Int
returns-in-Int c = rw c.wants.ensures (opens_int c.args.plan.now c.args.frames.now.items c.requires.frames c.args.of (shown_type c.args.plan.now c.args.of c.instance.result.now form.Int c.instance.ensures.shows c.in-Int.is))

pub returns-in-Long : goal.returns-in-Long
returns-in-Long c = rw c.wants-in-Long.ensures (opens_long c.args.plan.now c.args.frames.now.items c.requires.frames c.args.of (shown_type c.args.plan.now c.args.of c.instance.result.now form.Long c.instance.ensures.shows c.in-Long.is))

pub returns-in-Nat : goal.returns-in-Nat
returns-in-Nat c = rw c.wants-in-Nat.ensures (opens_nat c.args.plan.now c.args.frames.now.items c.requires.frames c.args.of (shown_type c.args.plan.now c.args.of c.instance.result.now form.Nat c.instance.ensures.shows c.in-Nat.is))

pub returns-in-Double : goal.returns-in-Double
returns-in-Double c = rw c.wants-in-Double.ensures (opens_opaque c.args.plan.now c.args.frames.now.items c.requires.frames c.args.of 8 (omega arith) (shown_type c.args.plan.now c.args.of c.instance.result.now form.Double c.instance.ensures.shows c.in-Double.is))

pub returns-in-Int128 : goal.returns-in-Int128
returns-in-Int128 c = rw c.wants-in-Int128.ensures (opens_opaque c.args.plan.now c.args.frames.now.items c.requires.frames c.args.of 16 (omega arith) (shown_type c.args.plan.now c.args.of c.instance.result.now form.Int128 c.instance.ensures.shows c.in-Int128.is))

pub returns-in-Int256 : goal.returns-in-Int256
returns-in-Int256 c = rw c.wants-in-Int256.ensures (opens_opaque c.args.plan.now c.args.frames.now.items c.requires.frames c.args.of 32 (omega arith) (shown_type c.args.plan.now c.args.of c.instance.result.now form.Int256 c.instance.ensures.shows c.in-Int256.is))

pub returns-in-Str : goal.returns-in-Str
returns-in-Str c = rw c.wants-in-Str.ensures (opens_str c.args.plan.now c.args.frames.now.items c.requires.frames c.args.of (shown_type c.args.plan.now c.args.of c.instance.result.now form.Str c.instance.ensures.shows c.in-Str.is))

pub returns-in-Raw : goal.returns-in-Raw
returns-in-Raw c = rw c.wants-in-Raw.ensures (opens_raw c.args.plan.now c.args.frames.now.items c.requires.frames c.args.of (shown_type c.args.plan.now c.args.of c.instance.result.now form.Raw c.instance.ensures.shows c.in-Raw.is))

pub returns-in-Flag : goal.returns-in-Flag
returns-in-Flag c = rw c.closes.ensures (opens_flag c.args.plan.now c.args.frames.now.items c.requires.frames c.args.of _ (shown_type c.args.plan.now c.args.of c.instance.result.now form.Flag c.instance.ensures.shows c.in-Flag.is) view-Truth)

pub returns-in-Var : goal.returns-in-Var
returns-in-Var c = rw c.closes-in-Var.ensures (opens_var c.args.plan.now c.args.frames.now.items c.requires.frames c.args.of _ _ (shown_type c.args.plan.now c.args.of c.instance.result.now _ c.instance.ensures.shows c.in-Var.is) view-Absent)

pub open_list-requires-clause-list : goal.open_list-requires-clause-list
open_list-requires-clause-list c = (shown_type c.args.plan.now c.args.of c.instance.result.now (form.Vector c.in-Vector.boxed) c.instance.ensures.shows c.in-Vector.is)

pub open_numbered-requires-clause-numbered : goal.open_numbered-requires-clause-numbered
open_numbered-requires-clause-numbered c =
    let is = (shown_type c.args.plan.now c.args.of c.instance.result.now (form.Boxed c.in-Boxed.head) c.instance.ensures.shows c.in-Boxed.is) in
    inl (c.in-Boxed.head, is.0, is.1)

pub open_numbered-requires-in-Call-clause-numbered : goal.open_numbered-requires-in-Call-clause-numbered
open_numbered-requires-in-Call-clause-numbered c = inr (shown_type c.args.plan.now c.args.of c.instance.result.now form.Call c.instance.ensures.shows c.in-Call.is)

pub open_bare-requires-clause-bare : goal.open_bare-requires-clause-bare
open_bare-requires-clause-bare c = (shown_type c.args.plan.now c.args.of c.instance.result.now (form.Bare c.in-Bare.entry) c.instance.ensures.shows c.in-Bare.is)
