use Rattle.std.proofs.Common.{◌∙◌, ap, subst, length, List, Bool, count_by, None}
use Rattle.tl_schema.specs.Seen.{shape}
use Rattle.tl_layers.specs.Counterparts.{image}
use Rattle.tl_layers.specs.inner.Pairs.{PairView}
use Rattle.tl_layers.specs.inner.Tables.{AreKept, IsFirstOf}
use Rattle.tl_layers.proofs.Verdicts.{is_made, few_marks}
use Rattle.tl_layers.proofs.comparing.compared.Goals as goal

pub count_of-count-requires : goal.count_of-count-requires
count_of-count-requires c = few_marks c.args.old.now (c.in_ok-pair.ensures.sound).0 c.deref-2.result.now (ap length c.deref-2.ensures.value ∙ c.in_ok-reached.ensures.count)

pub new-requires : goal.new-requires
new-requires c =
    let marks = c.in_ok-reached.reached.items in
    let told = subst (λ (ms : List Bool). AreKept c.in_ok-pair.pair ms (length c.in_ok-pair.pair.old.decls) c.in_ok-moved.moved.items × IsFirstOf c.in_ok-pair.pair ms (length c.in_ok-pair.pair.old.decls) None) c.deref.ensures.value c.in_ok-moved.ensures in
    let t = subst (λ (p : PairView). AreKept p marks (length p.old.decls) c.in_ok-moved.moved.items × IsFirstOf p marks (length p.old.decls) None) c.in_ok-pair.ensures.is told in
    is_made (record { old = c.args.old.now; new = c.args.new.now; of = shape c.args.of.now }) (c.in_ok-pair.ensures.sound).0 (c.in_ok-pair.ensures.sound).1 c.requires.formed marks c.in_ok-reached.ensures.marks c.in_ok-moved.moved.items
    t.0 t.1 (shape c.in_ok-image.image) (c.in_ok-image.ensures ∙ ap (λ (p : PairView). image p.old p.new (shape c.args.of.now)) c.in_ok-pair.ensures.is) c.count_of-count.result
    (c.count_of-count.ensures ∙ ap (count_by (λ (b : Bool). b)) c.deref-2.ensures.value)
