use Rattle.std.proofs.Common.{◌≡◌, length, arith}
use Rattle.std.proofs.lemmas.List.{map_push}
use Rattle.tl_graph.specs.Needs.{needs_in}
use Rattle.tl_names.proofs.BareFields.{needs_none, needs_more, needs_all}
use Rattle.tl_names.proofs.ResolvedDecls.{as_many, resolved_at}
use Rattle.tl_names.proofs.empty_constructors.needs_of.Goals as goal

pub loop-decl-init : goal.loop-decl-init
loop-decl-init c = rw c.new-needs.ensures.items (needs_none c.args.index.now)

pub loop-decl-preserved : goal.loop-decl-preserved
loop-decl-preserved c =
    let at = resolved_at c.args.index.now c.args.decls.now c.requires c.loop-decl.decl-index c.decl-item.result c.loop-decl-test.true c.decl-item.is in
    rw (c.in_ok-push.ensures.items, map_push) (needs_more c.args.index.now c.loop-decl.decl-index at.0 at.1 (needs_in c.loop-decl.needs.items) _ c.loop-decl.invariant (c.in_ok-bare_fields.ensures at.0 at.2))

pub returns : goal.returns
returns c =
    let all : c.loop-decl.decl-index ≡ length c.args.index.now = omega (arith, c.loop-decl-test.false, c.loop-decl.auto.decl-index-end, as_many c.args.index.now c.args.decls.now c.requires) in
    needs_all c.args.index.now c.loop-decl.decl-index (needs_in c.loop-decl.needs.items) c.loop-decl.invariant all
