use Rattle.std.proofs.Common.{sym, ap, ◌∙◌, subst, true, List}
use Rattle.std.proofs.lemmas.Result.{err_from_is_err_and}
use Rattle.box_events.specs.declared.settings.Setting.{Setting}
use Rattle.pts_machine.specs.Rows.{AreSorted, values_of}
use Rattle.pts_machine.specs.SeqStates.{loaded}
use Rattle.box_client.proofs.Orders.{sorted_of}
use Rattle.box_client.proofs.Loadings.{surplus_cause, loaded_as}
use Rattle.box_client.proofs.loading.load.Goals as goal

pub load-requires-clause-sorted : goal.load-requires-clause-sorted
load-requires-clause-sorted c = subst AreSorted (sym c.into_vec.ensures) (sorted_of c.args.saved.settings c.in_ok-check.ensures.ok.settings)

pub returns-in_err-load_channels-clause-err : goal.returns-in_err-load_channels-clause-err
returns-in_err-load_channels-clause-err c =
    let p = err_from_is_err_and c.from_residual-in_err-load_channels.result c.from_residual-in_err-load_channels.ensures.1 in
    rw (p.1, p.2) (surplus_cause c.args.saved c.in_err-load_channels.field-0.0 c.in_ok-check.ensures.ok c.in_err-load_channels.ensures.err)

pub returns-clause-ok : goal.returns-clause-ok
returns-clause-ok c =
    let settings = c.load.ensures ∙ ap (λ (l : List Setting). loaded c.args.saved.seq c.args.saved.date (values_of l)) c.into_vec.ensures in
    loaded_as c.args.saved _ c.in_ok-check.ensures.ok c.in_ok-load_channels.ensures.ids
    (λ i. record { next = c.args.saved.next; common = c.load_lane.ensures i; secret = c.load_lane-2.ensures i; settings = settings i; flag = true; channels = c.in_ok-load_channels.ensures.ok i })
