use Rattle.std.proofs.Common.{◌∙◌, List, ℕ, None, subst, length}
use Rattle.std.specs.Prelude.{IsErrOf}
use Rattle.std.proofs.lemmas.Result.{err_from_is_err_and}
use Rattle.tl_base.specs.Using.{Wrote}
use Rattle.tl_types.specs.Fitting.{misfit}
use Rattle.tl_types.specs.Seen.{view}
use Rattle.tl_types.specs.declared.value.TheConstants.{MAX_LEVELS}
use Rattle.tl_encode.specs.Encoding.{WritesSpelling}
use Rattle.tl_encode.specs.declared.fault.EncodeFault.TheVariants.{WriteFault}
use Rattle.tl_encode.specs.inner.Bytes.{spelling}
use Rattle.tl_encode.specs.inner.Walks.{type_at}
use Rattle.tl_encode.proofs.Refusals.{only_memory_given}
use Rattle.tl_encode.proofs.Walking.{fits_instance, whole_is}
use Rattle.tl_encode.proofs.encoder.encode.Goals as goal

pub returns-in_err-bytes-clause-spelled : goal.returns-in_err-bytes-clause-spelled
returns-in_err-bytes-clause-spelled g c = λ T spelled instance spells deep.
    let p = c.args.plan.now in
    let v = view c.args.value.now in
    let k = c.root.result in
    let written = (g.K.Sink.state c.args.to.now).written in
    let none = fits_instance p k c.args.root T v spelled c.root.ensures.root instance spells deep in
    let e = err_from_is_err_and c.from_residual.result c.from_residual.ensures.1 in
    rw (e.1, e.2) (only_memory_given (misfit p.schema.decls MAX_LEVELS None (type_at p k) v) (spelling p.schema.decls (type_at p k) v) c.in_err-bytes.field-0.0 written written spelled none c.in_err-bytes.ensures)

pub returns-clause-spelled : goal.returns-clause-spelled
returns-clause-spelled g c = λ T spelled instance spells deep.
    let whole = whole_is c.args.plan.now c.root.result c.args.root T (view c.args.value.now) c.in_ok-bytes.bytes.items spelled c.in_ok-bytes.ensures.1 c.root.ensures.root instance spells in
    subst (λ (b : List ℕ). WritesSpelling (g.K.Sink.state c.args.to.now).written (g.K.Sink.state c.write_bytes.new.to).written b c.write_bytes.result) (c.deref.ensures.value ∙ whole) c.write_bytes.ensures.written

pub returns-clause-room : goal.returns-clause-room
returns-clause-room g c = λ T spelled instance spells.
    let whole = whole_is c.args.plan.now c.root.result c.args.root T (view c.args.value.now) c.in_ok-bytes.bytes.items spelled c.in_ok-bytes.ensures.1 c.root.ensures.root instance spells in
    subst (λ (b : List ℕ). Wrote (g.K.Sink.state c.args.to.now) (g.K.Sink.state c.write_bytes.new.to) (length b) (IsErrOf c.write_bytes.result WriteFault)) (c.deref.ensures.value ∙ whole) c.write_bytes.ensures.room
