use Rattle.std.proofs.Common.{[], ◌∷◌, ◌++◌}
use Rattle.json.specs.Print.{escape}
use Rattle.tl_show.proofs.quoting.write_quoted.Goals as goal

pub returns : goal.returns
returns g c =
    let both = g.met.S.TextSink.puts_both in
    both _ _ _ (34 ∷ []) (escape c.args.text.now ++ 34 ∷ []) c.put.ensures (both _ _ _ (escape c.args.text.now) (34 ∷ []) c.write_escaped.ensures c.put-2.ensures)
