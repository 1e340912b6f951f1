use Rattle.std.proofs.Common.{ℕ, List, Some, ◌∙◌, subst}
use Rattle.std.proofs.lemmas.Result.{err_from_is_err_and}
use Rattle.outside.specs.Answer.{done}
use Rattle.outside.specs.Printing.{Prints}
use Rattle.outside.specs.Begun.{Did}
use Rattle.outside.proofs.Growing.{did_none}
use Rattle.outside.proofs.Printed.{can_print}
use Rattle.codec_commands.specs.Check.{listing}
use Rattle.codec_rooms.proofs.check.check_listed.Goals as goal

pub returns-in_err-list : goal.returns-in_err-list
returns-in_err-list g c =
    let p = err_from_is_err_and c.from_residual.result c.from_residual.ensures.1 in
    rw p.1 (did_none _ _ (can_print (done (listing c.args.schema.now.decls))))

pub returns : goal.returns
returns g c =
    subst (λ (l : List ℕ). Did (Prints (done l)) (g.H.Host.state c.args.host.now) (g.H.Host.state c.print.new.host) (Some c.print.result))
    (c.deref.ensures.value ∙ c.in_ok-list.ensures) c.print.ensures
