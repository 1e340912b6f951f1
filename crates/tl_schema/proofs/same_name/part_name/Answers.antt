use Rattle.std.proofs.Common.{◌≡◌, ◌∙◌, ap, sym, Some, length, arith}
use Rattle.tl_schema.proofs.SameNames.{variable_or_field}
use Rattle.tl_schema.proofs.same_name.part_name.Goals as goal

pub returns-else-i-count : goal.returns-else-i-count
returns-else-i-count c =
    let vars = c.args.decl.now.vars in
    let count : c.len-count.result ≡ length vars.items = omega (arith, c.len-count.ensures, vars.ok.0) in
    variable_or_field vars.items c.args.decl.now.fields.items c.len-count.result c.args.i c.index-else-i-count.result.now count c.if-i-count.false c.requires c.index-else-i-count.ensures ∙ ap Some (sym c.as_slice-else-i-count.ensures.value)
