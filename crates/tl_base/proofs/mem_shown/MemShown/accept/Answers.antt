use Rattle.std.proofs.Common.{◌+◌, ◌∙◌, refl, ap, map, arith}
use Rattle.std.proofs.lemmas.Grind.{common_steps}
use Rattle.std.specs.Vec.{with_items}
use Rattle.tl_base.specs.MemoryContents.{link_bytes, link_written}
use Rattle.tl_base.specs.MemoryShown.{view_of, outs_of}
use Rattle.tl_base.proofs.Linked.{rest_coming, begun}
use Rattle.tl_base.proofs.Opened.{same_length}
use Rattle.tl_base.proofs.Showing.{these, with_links, link_left, has_coming, written_back}
use Rattle.tl_base.proofs.mem_shown.MemShown.accept.Goals as goal

pub returns-clause-view : goal.returns-clause-view
returns-clause-view c =
    let s = c.args.self.now in
    let t = s.taken in
    let ls = s.links.items in
    let ws = c.clear_at.new.links in
    let ms = (with_items s.links ws).items in
    let given = rw c.deref_mut.ensures.value at c.clear_at.ensures.given in
    let one = written_back s.links ws (same_length ls ws given) in
    let same = ap (map link_bytes) one ∙ given in
    let written = ap (map link_written) one ∙ (rw c.deref_mut.ensures.value at c.clear_at.ensures.written) in (
      has_coming ls t (grind (arith, common_steps, s.taken_there)),
      these (view_of s) _ _ _ _ _ _ _ _ refl (link_left s.files.items ls ms s.readings c.set.new.self t c.set.ensures same)
          (ap (with_links (outs_of s) s.unlinked.items) (begun ls ms t (t + 1) refl (grind (arith, common_steps, s.taken_there)) written))
          (rest_coming ls ms t (t + 1) refl same),
    )
