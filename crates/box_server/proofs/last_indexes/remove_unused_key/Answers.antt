use Rattle.std.proofs.Common.{ap, sym, refl, None, ◌∙◌}
use Rattle.box_server.specs.inner.LastIndexes.{found}
use Rattle.box_server.proofs.LastKeys.{placed, kept}
use Rattle.box_server.proofs.last_indexes.remove_unused_key.Goals as goal

pub returns : goal.returns
returns c =
    kept c.args.key.now c.args.last.now.entries c.args.last.now.entries c.remove.new.self.entries None (λ q. placed c.args.key.now q c.args.last.now c.remove.new.self None c.remove.ensures.updates) refl
    (sym (ap found c.in-Some-None.ensures.value) ∙ c.in-Some-None.field-0-is) (λ q. refl)
