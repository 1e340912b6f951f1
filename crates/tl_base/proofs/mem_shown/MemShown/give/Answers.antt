use Rattle.std.proofs.Common.{sym, ◌∙◌, refl}
use Rattle.tl_base.specs.MemoryShown.{view_of}
use Rattle.tl_base.proofs.Showing.{given}
use Rattle.tl_base.proofs.mem_shown.MemShown.give.Goals as goal

pub returns-clause-view : goal.returns-clause-view
returns-clause-view c =
    let s = c.args.self.now in
    let there = rw (c.deref.ensures.value, c.deref-2.ensures.value) at c.bytes_of-bytes.ensures in
    given c.args.slot s.files.items s.links.items s.readings c.set.new.self (view_of s) c.in-Some.reading.origin c.in-Some.reading.at c.give-count.new.at c.give-count.result c.give-count.new.into c.bytes_of-bytes.result.now
    refl (sym c.of.ensures ∙ c.in-Some.is) c.set.ensures there c.give-count.ensures.bytes c.give-count.ensures.end
