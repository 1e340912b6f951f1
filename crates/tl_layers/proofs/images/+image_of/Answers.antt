use Rattle.tl_layers.proofs.SameLists.{images_made}
use Rattle.tl_layers.proofs.images.+image_of.Goals as goal

pub images_of-returns : goal.images_of-returns
images_of-returns t c = images_made c.args.pair.now.old c.args.pair.now.new c.loop-of.images.items c.deref-of-items.result.now c.args.all.now.items c.loop-of.of-index c.loop-of.invariant c.loop-of-test.false c.deref-of-items.ensures.value
