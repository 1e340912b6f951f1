use Rattle.tl_names.proofs.Adding.{adds_bare, adds_no_bare}
use Rattle.tl_names.proofs.bare_references.add_own.Goals as goal

pub returns-in_ok-push-in-Some : goal.returns-in_ok-push-in-Some
returns-in_ok-push-in-Some c = λ d t same.
    rw c.in_ok-push-in-Some.ensures.items (adds_bare c.args.index.now d t c.args.nodes.now.items c.in-Some.j (c.in-Some.ensures d t same))

pub returns-in-None : goal.returns-in-None
returns-in-None c = λ d t same. adds_no_bare c.args.index.now d t c.args.nodes.now.items (c.in-None.ensures d t same)
