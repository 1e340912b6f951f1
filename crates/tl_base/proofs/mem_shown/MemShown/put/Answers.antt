use Rattle.std.proofs.Common.{◌-◌, refl, arith, length}
use Rattle.std.specs.Vec.{with_items}
use Rattle.tl_base.specs.MemoryShown.{view_of}
use Rattle.tl_base.proofs.Opened.{same_length}
use Rattle.tl_base.proofs.Showing.{put_shown, put_counted, put_filled, written_back}
use Rattle.tl_base.proofs.mem_shown.MemShown.put.Goals as goal

pub returns-else-self-eq0-clause-taken : goal.returns-else-self-eq0-clause-taken
returns-else-self-eq0-clause-taken c =
    let s = c.args.self.now in
    let ls = s.links.items in
    let ws = c.put_at.new.links in
    let given = rw c.deref_mut.ensures.value at c.put_at.ensures.given in
    put_shown c.put_at.result c.args.out (view_of s) s.files.items s.readings ls (with_items s.links ws).items ws s.taken (s.taken - 1) c.args.piece.now (written_back s.links ws (same_length ls ws given)) c.in-Link.is refl refl refl
    (omega (arith, c.if-self-eq0.false)) (omega (arith, c.if-self-eq0.false, s.taken_there)) given (rw c.deref_mut.ensures.value at c.put_at.ensures.taken)

pub returns-else-self-eq0-clause-count : goal.returns-else-self-eq0-clause-count
returns-else-self-eq0-clause-count c =
    let s = c.args.self.now in
    put_counted c.put_at.result c.args.out (view_of s) s.links.items s.taken (s.taken - 1) (length c.args.piece.now) c.in-Link.is refl (omega (arith, c.if-self-eq0.false)) (omega (arith, c.if-self-eq0.false, s.taken_there)) (rw c.deref_mut.ensures.value at c.put_at.ensures.count)

pub returns-else-self-eq0-clause-full : goal.returns-else-self-eq0-clause-full
returns-else-self-eq0-clause-full c =
    let s = c.args.self.now in
    let ls = s.links.items in
    let ws = c.put_at.new.links in
    let given = rw c.deref_mut.ensures.value at c.put_at.ensures.given in
    put_filled c.put_at.result c.args.out (view_of s) s.files.items s.readings ls (with_items s.links ws).items ws s.taken (s.taken - 1) (written_back s.links ws (same_length ls ws given)) c.in-Link.is refl refl refl
    (omega (arith, c.if-self-eq0.false)) (omega (arith, c.if-self-eq0.false, s.taken_there)) given (rw c.deref_mut.ensures.value at c.put_at.ensures.full)
