use Rattle.std.proofs.Common.{ap, sym, refl, None, Some, List, ℕ, ◌∙◌, ◌≡◌}
use Rattle.box_server.specs.inner.LastIndexes.{noted_in, index_in}
use Rattle.box_server.proofs.LastKeys.{placed, keys_kept, kept, not_found}
use Rattle.box_server.proofs.last_indexes.add_key.Goals as goal

pub returns-clause-same : goal.returns-clause-same
returns-clause-same c =
    let key : List ℕ = c.into_vec.result.items in
    let is : key ≡ c.as_slice.result.now = c.into_vec.ensures ∙ c.in_ok-copy.ensures ∙ sym c.as_slice.ensures.value in
    kept key c.args.last.now.entries c.args.last.now.entries c.insert.new.self.entries (Some None) (λ q. placed key q c.args.last.now c.insert.new.self (Some None) c.in_ok-insert.ensures.updates) refl
    (ap (index_in c.args.last.now.entries) is ∙ not_found (noted_in c.args.last.now.entries c.as_slice.result.now) (sym c.if-contains_key.false ∙ c.contains_key.ensures)) (λ q. refl)

pub returns-clause-others : goal.returns-clause-others
returns-clause-others c = λ more h.
    let key : List ℕ = c.into_vec.result.items in
    keys_kept key c.args.last.now.entries c.insert.new.self.entries None more (λ q. placed key q c.args.last.now c.insert.new.self (Some None) c.in_ok-insert.ensures.updates) h
