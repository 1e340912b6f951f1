use Rattle.std.proofs.Common.{◌≡◌, Some, length, sym, ap, ◌∙◌, arith}
use Rattle.tl_schema.specs.Schemas.{Declared}
use Rattle.tl_show.proofs.NamedDeclarations.{named_first, named_nowhere}
use Rattle.tl_show.proofs.keyed.KeyedSchema.search.Goals as goal

pub returns-then-is_named : goal.returns-then-is_named
returns-then-is_named c =
    sym (named_first c.args.function c.args.name.now c.args.self.now.decls c.loop-i.i 0 (sym c.is_named.ensures ∙ c.if-is_named.true) c.loop-i.invariant ∙ ap Some (omega arith))

pub returns : goal.returns
returns c =
    let same : length c.self.inside.schema.now.decls ≡ length c.args.self.now.decls = ap (λ (s : Declared). length s.decls) c.self.view_is in
    sym (named_nowhere c.args.function c.args.name.now c.args.self.now.decls 0 (λ k below. c.loop-i.invariant k (omega (arith, same, below))))
