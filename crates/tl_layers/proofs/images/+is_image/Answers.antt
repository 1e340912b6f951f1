use Rattle.std.proofs.Common.{refl, sym, ◌∙◌, arith, ◌≡◌, ◌<◌, ◌≤◌, length}
use Rattle.std.proofs.lemmas.Option.{slice_get_read, slice_get_within}
use Rattle.tl_layers.proofs.SameLists.{other_length, other_item, more_items, all_items}
use Rattle.tl_layers.proofs.images.+is_image.Goals as goal

pub are_images-returns-then-len : goal.are_images-returns-then-len
are_images-returns-then-len t c =
    other_length c.args.pair.now.old c.args.pair.now.new c.args.made.now.items c.args.all.now.items (λ e. c.if-len.true (omega (arith, e, c.len.ensures, c.len-2.ensures, c.args.all.now.ok.0, c.args.made.now.ok.0)))

pub are_images-returns-then-not-is_image : goal.are_images-returns-then-not-is_image
are_images-returns-then-not-is_image t c =
    let long : length c.args.all.now.items ≡ length c.args.made.now.items = omega (arith, c.if-len.false, c.len.ensures, c.len-2.ensures, c.args.all.now.ok.0, c.args.made.now.ok.0) in
    let low : c.loop-i.i < length c.args.all.now.items = rw (← c.deref-of-items.ensures.value) c.loop-i-test.true in
    other_item c.args.pair.now.old c.args.pair.now.new c.args.made.now.items c.args.all.now.items c.loop-i.i c.index.result.now c.of-item.result
    (slice_get_read c.args.made.now.items _ c.loop-i.i c.index.result.now refl (omega (arith, low, long)) c.index.ensures)
    (slice_get_read c.args.all.now.items _ c.loop-i.i c.of-item.result refl low (rw (← c.deref-of-items.ensures.value) c.of-item.is)) (sym c.is_image.ensures ∙ c.if-not-is_image.true)

pub are_images-loop-i-preserved : goal.are_images-loop-i-preserved
are_images-loop-i-preserved t c =
    let long : length c.args.all.now.items ≡ length c.args.made.now.items = omega (arith, c.if-len.false, c.len.ensures, c.len-2.ensures, c.args.all.now.ok.0, c.args.made.now.ok.0) in
    let low : c.loop-i.i < length c.args.all.now.items = rw (← c.deref-of-items.ensures.value) c.loop-i-test.true in
    more_items c.args.pair.now.old c.args.pair.now.new c.args.made.now.items c.args.all.now.items c.loop-i.i c.index.result.now c.of-item.result
    (slice_get_read c.args.made.now.items _ c.loop-i.i c.index.result.now refl (omega (arith, low, long)) c.index.ensures)
    (slice_get_read c.args.all.now.items _ c.loop-i.i c.of-item.result refl low (rw (← c.deref-of-items.ensures.value) c.of-item.is)) (sym c.is_image.ensures ∙ c.if-not-is_image.false) c.loop-i.invariant

pub are_images-returns : goal.are_images-returns
are_images-returns t c =
    let long : length c.args.all.now.items ≡ length c.args.made.now.items = omega (arith, c.if-len.false, c.len.ensures, c.len-2.ensures, c.args.all.now.ok.0, c.args.made.now.ok.0) in
    let past : length c.args.all.now.items ≤ c.loop-i.i = rw (← c.deref-of-items.ensures.value) c.loop-i-test.false in
    all_items c.args.pair.now.old c.args.pair.now.new c.args.made.now.items c.args.all.now.items long
    (λ k x y at there. c.loop-i.invariant k x y (let within = slice_get_within c.args.all.now.items k y there in omega (arith, within, past)) at there)
