use Rattle.std.proofs.Common.{◌≡◌, length, sym, arith}
use Rattle.std.proofs.lemmas.Result.{on_ok_weaker}
use Rattle.tl_program.specs.Program.{decl_text}
use Rattle.tl_names.proofs.IndexSteps.{types_other, types_more}
use Rattle.tl_names.proofs.index.note_type.Goals as goal

pub returns-in-Some : goal.returns-in-Some
returns-in-Some c =
    let number : length (decl_text c.args.decl.now).vars ≡ c.len.result = omega (arith, c.len.ensures, c.args.decl.now.vars.ok.0) in
    on_ok_weaker c.add_type.result
    (λ changes ds e old. types_more ds (decl_text c.args.decl.now) c.args.types.now c.args.families.now.items c.add_type.new.types c.add_type.new.families.items c.in-Some.name.now c.args.at c.len.result (sym c.in-Some.ensures) e number changes old)
    c.add_type.ensures

pub returns-in-None : goal.returns-in-None
returns-in-None c = λ ds e old.
    types_other ds (decl_text c.args.decl.now) c.args.types.now c.args.families.now.items (sym c.in-None.ensures) old
