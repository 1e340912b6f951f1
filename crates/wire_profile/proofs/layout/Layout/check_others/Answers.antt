use Rattle.std.proofs.Common.{◌∙◌, ap, sym, add-one}
use Rattle.std.specs.Prelude.{slice_get}
use Rattle.tl_schema.specs.Seen.{declaration}
use Rattle.wire_profile.specs.Indexes.{ProfileView}
use Rattle.wire_profile.proofs.Differences.{further_at, further_not}
use Rattle.wire_profile.proofs.layout.Layout.check_others.Goals as goal

pub returns-then-is_further-clause-fault : goal.returns-then-is_further-clause-fault
returns-then-is_further-clause-fault c =
    c.loop-i.invariant
    ∙ further_at c.args.self.now c.loop-i.i (declaration c.entry-entry.result.now) c.is_further.result c.in_ok-name.name
    (ap (λ (p : ProfileView). slice_get p.schema.decls c.loop-i.i) (sym c.self.view_is) ∙ c.entry-entry.ensures) c.is_further.ensures c.if-is_further.true c.in_ok-name.ensures

pub loop-i-preserved : goal.loop-i-preserved
loop-i-preserved c =
    rw add-one
    (c.loop-i.invariant
    ∙ further_not c.args.self.now c.loop-i.i (declaration c.entry-entry.result.now) c.is_further.result
    (ap (λ (p : ProfileView). slice_get p.schema.decls c.loop-i.i) (sym c.self.view_is) ∙ c.entry-entry.ensures) c.is_further.ensures c.if-is_further.false)
