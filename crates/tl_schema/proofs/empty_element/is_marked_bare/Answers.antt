use Rattle.std.proofs.Common.{sym, true≢false}
use Rattle.tl_schema.proofs.MarkedArguments.{marked_bare, no_marked_bare}
use Rattle.tl_schema.proofs.empty_element.is_marked_bare.Goals as goal

pub returns-in-Some : goal.returns-in-Some
returns-in-Some c = λ d t same.
    marked_bare c.args.index.now c.args.marks.now d t c.in-Some.j c.is_marked.result (c.in-Some.ensures d t same) c.is_marked.ensures

pub returns-in-None : goal.returns-in-None
returns-in-None c = λ d t same.
    (λ h. absurd (true≢false (sym h)), λ m. absurd (no_marked_bare c.args.index.now c.args.marks.now d t (c.in-None.ensures d t same) m))
