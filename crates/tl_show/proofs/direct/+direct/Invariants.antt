use Rattle.std.proofs.Common.{◌≡◌, ℕ, ◌+◌, ◌*◌, ◌≤◌, List, length, map, codes}
use Rattle.json.specs.Json.{items, members, value}
use Rattle.serde_json.specs.Data.{Members, member, no_members, string}
use Rattle.serde_json.specs.Read.{converted, of_items, of_members}
use Rattle.tl_schema.specs.Seen.{shape}
use Rattle.tl_show.specs.inner.Direct.{HasFields}
use Rattle.tl_show.proofs.ElementTurns.{Goes}
use Rattle.tl_show.proofs.direct.+direct.Given as goal

abbrev pub decreases-value_in : goal.decreases-value_in
decreases-value_in l = 8 * l.depth + 7

abbrev pub decreases-list_in : goal.decreases-list_in
decreases-list_in l = 8 * l.depth + 6

abbrev pub decreases-elements_in : goal.decreases-elements_in
decreases-elements_in l = 8 * l.depth + 8

abbrev pub decreases-object_in : goal.decreases-object_in
decreases-object_in l = 8 * l.depth + 6

abbrev pub decreases-record_in : goal.decreases-record_in
decreases-record_in l = 8 * l.depth + 11

abbrev pub decreases-named_in : goal.decreases-named_in
decreases-named_in l = 8 * l.depth + 10

abbrev pub decreases-fields_in : goal.decreases-fields_in
decreases-fields_in l = 8 * l.depth + 9

abbrev pub decreases-closed_in : goal.decreases-closed_in
decreases-closed_in l = 8 * l.depth + 8

abbrev pub invariant-elements_in-elements : goal.invariant-elements_in-elements
invariant-elements_in-elements l =
    (n : ℕ) × (length l.tokens ≤ n)
    × Goes l.schema.decls (shape l.of) (converted of_items (items (value l.depth) (length l.initial.tokens) l.initial.tokens)) (converted of_items (items (value l.depth) n l.tokens)) l.values.items
    × (length l.tokens ≤ length l.initial.tokens)

abbrev pub decreases-elements_in-elements : goal.decreases-elements_in-elements
decreases-elements_in-elements l = length l.tokens

abbrev pub invariant-fields_in-fields : goal.invariant-fields_in-fields
invariant-fields_in-fields l =
    record {
      goes : (name : List ℕ) (n : ℕ) → length l.initial.tokens ≤ n
          → (m : ℕ) × (ms : Members) × (length l.tokens ≤ m)
          × (converted (λ found. of_members found (member (codes "_") (string name) no_members)) (members (value l.depth) n l.initial.tokens) ≡ converted (λ found. of_members found ms) (members (value l.depth) m l.tokens))
          × HasFields l.schema.decls (map shape l.applied.args.now) l.applied.fields.now name ms l.values.items;
      shorter : length l.tokens ≤ length l.initial.tokens;
      long : length l.values.items ≡ length l.applied.fields.now;
    }

abbrev pub decreases-fields_in-fields : goal.decreases-fields_in-fields
decreases-fields_in-fields l = length l.tokens
