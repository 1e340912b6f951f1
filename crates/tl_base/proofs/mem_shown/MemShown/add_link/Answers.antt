use Rattle.std.proofs.Common.{refl, ap, ◌∙◌, List, map, take, drop}
use Rattle.tl_base.specs.MemoryContents.{lefts, link_bytes, link_written}
use Rattle.tl_base.specs.MemoryShown.{view_of, outs_of}
use Rattle.tl_base.specs.declared.mem_contents.MemLink.{MemLink}
use Rattle.tl_base.proofs.Linked.{coming_more, taken_more}
use Rattle.tl_base.proofs.Opened.{lefts_link}
use Rattle.tl_base.proofs.Showing.{these, with_links}
use Rattle.tl_base.proofs.mem_shown.MemShown.add_link.Goals as goal

pub returns-clause-ok : goal.returns-clause-ok
returns-clause-ok c =
    let s = c.args.self.now in
    let pushed = c.in_ok-push.ensures.items in
    these (view_of s) _ _ _ _ _ _ _ _ refl
    (ap (λ (l : List MemLink). lefts s.files.items l s.readings) pushed ∙ lefts_link s.files.items s.links.items _ s.readings s.opened)
    (ap (λ (l : List MemLink). with_links (outs_of s) s.unlinked.items (map link_written (take s.taken l))) pushed ∙ ap (with_links (outs_of s) s.unlinked.items) (taken_more s.links.items _ s.taken s.taken_there))
    (ap (λ (l : List MemLink). map link_bytes (drop s.taken l)) pushed ∙ coming_more s.links.items _ s.taken s.taken_there)
