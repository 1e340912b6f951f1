use Rattle.std.proofs.Common.{◌∙◌, List, ℕ, None, length, subst}
use Rattle.std.specs.Prelude.{IsErrOf}
use Rattle.std.proofs.lemmas.Result.{err_from_is_err_and}
use Rattle.tl_base.specs.Using.{Wrote}
use Rattle.tl_schema.specs.Seen.{shape}
use Rattle.tl_types.specs.Seen.{view}
use Rattle.tl_types.specs.declared.value.TheConstants.{MAX_LEVELS}
use Rattle.tl_types.proofs.SpelledFits.{spelled_fits}
use Rattle.tl_encode.specs.Encoding.{WritesSpelling}
use Rattle.tl_encode.specs.declared.fault.EncodeFault.TheVariants.{WriteFault}
use Rattle.tl_encode.proofs.Refusals.{only_memory}
use Rattle.tl_encode.proofs.walk.encode_walk.Goals as goal

pub returns-in_err-bytes-clause-spelled : goal.returns-in_err-bytes-clause-spelled
returns-in_err-bytes-clause-spelled g c = λ spelling spells deep.
    let none = spelled_fits c.args.schema.now (view c.args.value.now) (shape c.args.of.now) MAX_LEVELS spelling spells deep in
    let p = err_from_is_err_and c.from_residual.result c.from_residual.ensures.1 in
    rw (p.1, p.2) (only_memory _ c.in_err-bytes.field-0.0 _ _ spelling none c.in_err-bytes.ensures.fits)

pub returns-clause-spelled : goal.returns-clause-spelled
returns-clause-spelled g c = λ spelling spells deep.
    subst (λ (b : List ℕ). WritesSpelling (g.K.Sink.state c.args.to.now).written (g.K.Sink.state c.write_bytes.new.to).written b c.write_bytes.result) (c.deref.ensures.value ∙ c.in_ok-bytes.ensures.spelled spelling spells) c.write_bytes.ensures.written

pub returns-clause-room : goal.returns-clause-room
returns-clause-room g c = λ spelling spells.
    subst (λ (b : List ℕ). Wrote (g.K.Sink.state c.args.to.now) (g.K.Sink.state c.write_bytes.new.to) (length b) (IsErrOf c.write_bytes.result WriteFault)) (c.deref.ensures.value ∙ c.in_ok-bytes.ensures.spelled spelling spells) c.write_bytes.ensures.room
