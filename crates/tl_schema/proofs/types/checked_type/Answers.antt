use Rattle.std.proofs.Common.{◌∙◌, ap, refl}
use Rattle.tl_program.specs.Trees.{view}
use Rattle.tl_schema.specs.AskedTypes.{asker}
use Rattle.tl_schema.specs.Meanings.{meant_shape}
use Rattle.tl_schema.proofs.TypeSteps.{stops, no_memory}
use Rattle.tl_schema.proofs.types.checked_type.Goals as goal

pub returns-in_err-meant : goal.returns-in_err-meant
returns-in_err-meant c = no_memory c.args.index.now (view c.args.tree.now) c.from_residual.result c.from_residual.ensures.1

pub returns-in_err-pass_type : goal.returns-in_err-pass_type
returns-in_err-pass_type c =
    stops c.args.index.now (view c.args.tree.now) c.in_err-pass_type.field-0.0 c.from_residual-in_err-pass_type.result (c.in_err-pass_type.ensures (view c.args.tree.now) (c.in_ok-meant.ensures asker refl)) c.from_residual-in_err-pass_type.ensures.1

pub returns-in_err-term : goal.returns-in_err-term
returns-in_err-term c = no_memory c.args.index.now (view c.args.tree.now) c.from_residual-in_err-term.result c.from_residual-in_err-term.ensures.1

pub returns : goal.returns
returns c =
    let meant = c.in_ok-meant.ensures asker refl in
    (c.in_ok-pass_type.ensures (view c.args.tree.now) meant, c.in_ok-term.ensures ∙ ap (meant_shape c.args.index.now) meant)
