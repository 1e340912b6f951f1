use Rattle.std.proofs.Common.{[], ◌∷◌, ◌++◌}
use Rattle.hex.specs.Hex.{encode_lower}
use Rattle.json.specs.Print.{escape}
use Rattle.tl_show.proofs.texts.write_hex.Goals as goal

pub returns : goal.returns
returns g c =
    let both = g.met.S.TextSink.puts_both in
    let digits = escape (encode_lower c.args.bytes.now) in
    both _ _ _ (34 ∷ []) (digits ++ 34 ∷ []) c.put.ensures (both _ _ _ digits (34 ∷ []) c.write_digits.ensures c.put-2.ensures)
