use Rattle.std.proofs.Common.{List, ℕ, ◌++◌, sym, ap₂, ◌∙◌}
use Rattle.hex.specs.Hex.{encode_lower}
use Rattle.json.specs.Print.{escape}
use Rattle.tl_show.proofs.Escapes.{digits_then}
use Rattle.tl_show.proofs.Putting.{leads_more}
use Rattle.tl_show.proofs.texts.write_digits.Goals as goal

pub loop-rest-preserved : goal.loop-rest-preserved
loop-rest-preserved g c =
    let digits = λ (xs : List ℕ). escape (encode_lower xs) in
    let rest = c.loop-rest.rest.now in
    let split = digits_then rest 64 ∙ ap₂ (λ (l m : List ℕ). digits l ++ digits m) (sym c.split_at.ensures.front) (sym c.split_at.ensures.back) in
    leads_more g.S.TextSink.puts g.met.S.TextSink.puts_both c.args.out.now c.loop-rest.out c.write_few.new.out (digits c.split_at.result.0.now) (digits rest) (digits c.split_at.result.1.now) (digits c.args.bytes.now)
    c.loop-rest.invariant c.write_few.ensures split
