use Rattle.std.proofs.Common.{[], ◌∷◌, ◌++◌, ◌∙◌}
use Rattle.serde_json.specs.Written.{compact_text}
use Rattle.tl_show.specs.Shown.{hex_data}
use Rattle.tl_show.proofs.Lines.{hex_opening, text_written}
use Rattle.tl_show.proofs.Putting.{same_put}
use Rattle.tl_show.proofs.texts.write_string.Goals as goal

pub returns-in-Ok : goal.returns-in-Ok
returns-in-Ok g c = text_written g.S.TextSink.puts c.args.out.now c.write_quoted.new.out c.args.bytes.now c.as_bytes.result.now (c.as_bytes.ensures.value ∙ c.in-Ok.ensures.cases.0) c.in-Ok.ensures.cases.1 c.write_quoted.ensures

pub returns-in-Err : goal.returns-in-Err
returns-in-Err g c =
    let both = g.met.S.TextSink.puts_both in
    let digits = compact_text (hex_data c.args.bytes.now) in
    same_put g.S.TextSink.puts c.args.out.now c.put-in-Err.new.self _ _ (hex_opening c.args.bytes.now c.in-Err.ensures.cases.0)
    (both _ _ _ (123 ∷ 34 ∷ 104 ∷ 101 ∷ 120 ∷ 34 ∷ 58 ∷ []) (digits ++ 125 ∷ []) c.put.ensures (both _ _ _ digits (125 ∷ []) c.write_hex.ensures c.put-in-Err.ensures))
