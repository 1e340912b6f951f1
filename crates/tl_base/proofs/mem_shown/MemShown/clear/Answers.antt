use Rattle.std.proofs.Common.{◌-◌, ◌∙◌, [], ap, map, refl, arith}
use Rattle.std.specs.Vec.{with_items}
use Rattle.tl_base.specs.MemoryContents.{link_bytes, link_written}
use Rattle.tl_base.specs.MemoryShown.{view_of}
use Rattle.tl_base.proofs.Opened.{same_length}
use Rattle.tl_base.proofs.Showing.{link_shown, written_back}
use Rattle.tl_base.proofs.mem_shown.MemShown.clear.Goals as goal

pub returns-else-self-eq0 : goal.returns-else-self-eq0
returns-else-self-eq0 c =
    let s = c.args.self.now in
    let ls = s.links.items in
    let ws = c.clear_at.new.links in
    let given = rw c.deref_mut.ensures.value at c.clear_at.ensures.given in
    let one = written_back s.links ws (same_length ls ws given) in
    link_shown c.args.out (view_of s) s.files.items s.readings ls (with_items s.links ws).items s.taken (s.taken - 1) [] c.in-Link.is refl refl refl (omega (arith, c.if-self-eq0.false)) (omega (arith, c.if-self-eq0.false, s.taken_there))
    (ap (map link_bytes) one ∙ given) (ap (map link_written) one ∙ (rw c.deref_mut.ensures.value at c.clear_at.ensures.written))
