use Rattle.std.proofs.Common.{Some, refl, ap, ◌∙◌, arith}
use Rattle.std.proofs.lemmas.Option.{slice_get_read}
use Rattle.tl_layers.proofs.FirstDeclarations.{noted_set, noted_past, noted_kept, no_first}
use Rattle.tl_layers.proofs.pairs.note_first.Goals as goal
use Rattle.tl_layers.proofs.pairs.note_first.Goals.{else-head-len-via-then-head-len+else-is_none, else-head-len-via-else-head-len}

pub returns-then-is_none : goal.returns-then-is_none
returns-then-is_none c =
    noted_set c.args.firsts.now.items c.args.head c.args.i
    (slice_get_read c.args.firsts.now.items _ c.args.head c.index.result.now refl (omega arith) c.index.ensures ∙ ap Some (no_first _ _ c.is_none.ensures c.if-is_none.true))

pub returns-else-head-len : goal.returns-else-head-len
returns-else-head-len c = elim c.else-head-len.branch [
  | else-head-len-via-then-head-len+else-is_none w ↦
      noted_kept c.args.firsts.now.items c.args.head c.args.i w.index.result.now
      (slice_get_read c.args.firsts.now.items _ c.args.head w.index.result.now refl (let below = w.if-head-len.true in omega (arith, below)) w.index.ensures) w.is_none.result w.is_none.ensures w.if-is_none.false
  | else-head-len-via-else-head-len w ↦ noted_past c.args.firsts.now.items c.args.head c.args.i (let past = w.if-head-len.false in omega (arith, past))
]
