use Rattle.std.proofs.Common.{◌≡◌, ◌∙◌, ap, length, arith}
use Rattle.std.proofs.lemmas.List.{map_push}
use Rattle.tl_graph.specs.Paths.{edges_in}
use Rattle.tl_names.proofs.ResolvedDecls.{as_many, resolved_at}
use Rattle.tl_names.proofs.ReferenceLists.{first_more, first_all}
use Rattle.tl_names.proofs.bare_references.references.Goals as goal

pub loop-decl-preserved : goal.loop-decl-preserved
loop-decl-preserved c =
    let at = resolved_at c.args.index.now c.args.decls.now c.requires c.loop-decl.decl-index c.decl-item.result c.loop-decl-test.true c.decl-item.is in
    rw (ap edges_in c.in_ok-push.ensures.items ∙ map_push (λ js. js.items) c.loop-decl.edges.items c.in_ok-referred_by.field-0)
    (first_more c.args.index.now c.loop-decl.decl-index (edges_in c.loop-decl.edges.items) at.0 c.in_ok-referred_by.field-0.items at.1 c.loop-decl.invariant (c.in_ok-referred_by.ensures at.0 at.2))

pub returns : goal.returns
returns c =
    let all : length c.args.index.now ≡ c.loop-decl.decl-index = omega (arith, c.loop-decl-test.false, c.loop-decl.auto.decl-index-end, as_many c.args.index.now c.args.decls.now c.requires) in
    first_all c.args.index.now c.loop-decl.decl-index (edges_in c.loop-decl.edges.items) all c.loop-decl.invariant
