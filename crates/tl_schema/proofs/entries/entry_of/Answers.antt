use Rattle.std.proofs.Common.{◌≡◌, ◌∙◌, ap, length, map}
use Rattle.std.specs.Option.{unwrap_or}
use Rattle.tl_program.specs.Program.{decl_text}
use Rattle.tl_names.specs.Indexes.{types_of}
use Rattle.tl_names.specs.Writing.{own_type}
use Rattle.tl_names.specs.MeantDecls.{MeantDeclView}
use Rattle.tl_schema.specs.Seen.{shape, slot}
use Rattle.tl_schema.specs.Meanings.{head_in}
use Rattle.tl_schema.proofs.MeantEntries.{entry_is}
use Rattle.tl_schema.proofs.entries.entry_of.Goals as goal

pub returns-clause-entry : goal.returns-clause-entry
returns-clause-entry c =
    let ds = c.args.index.now in
    let d = decl_text c.args.decl.now in
    let vars : c.args.meant.now.vars ≡ length d.vars = ap (λ (m : MeantDeclView). m.vars) c.requires.same in
    let head : c.unwrap_or.result ≡ head_in ds (own_type d) =
    c.unwrap_or.ensures ∙ ap (λ n. unwrap_or c.args.meant.now.head n) c.type_count.ensures ∙ ap (λ (m : MeantDeclView). unwrap_or m.head (length (types_of ds))) c.requires.same in
    (c.entry_number.ensures, entry_is ds d c.entry_number.result c.in_ok-copy.field-0 c.args.meant.now.vars (map slot c.in_ok-slots_of.field-0.items) c.is_function.result c.unwrap_or.result (shape c.in_ok-result_of.field-0) c.in_ok-copy.ensures vars c.in_ok-slots_of.ensures c.is_function.ensures head c.in_ok-result_of.ensures)
