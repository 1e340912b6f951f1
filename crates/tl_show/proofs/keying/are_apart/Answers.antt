use Rattle.std.proofs.Common.{sym, ◌∙◌}
use Rattle.tl_show.proofs.KeysApart.{first_held, key_held, keys_push}
use Rattle.tl_show.proofs.keying.are_apart.Goals as goal

pub loop-field-init : goal.loop-field-init
loop-field-init c =
    let insert = c.in_ok-insert.ensures in
    first_held c.new-keys.result c.insert.new.self _ c.in_ok-insert.field-0 tt c.new-keys.ensures.empty insert.old insert.updates

pub loop-field-preserved : goal.loop-field-preserved
loop-field-preserved c =
    let insert = c.in_ok-insert-2.ensures in
    let f = c.field-item.result in
    key_held c.loop-field.keys c.insert-in-loop-field.new.self _ c.in_ok-insert-2.field-0 tt _ _ c.loop-field.invariant insert.old (sym c.is_some.ensures ∙ c.if-is_some.false) insert.updates
    (keys_push c.args.fields.now c.loop-field.field-index f _ c.loop-field-test.true c.field-item.is c.as_str.ensures.value)
