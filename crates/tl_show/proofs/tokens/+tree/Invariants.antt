use Rattle.std.proofs.Common.{◌≡◌, ℕ, ◌+◌, ◌*◌, ◌≤◌, length}
use Rattle.json.specs.Json.{items, members, value, parse_map}
use Rattle.serde_json.specs.Read.{of_items, of_members, converted}
use Rattle.serde_json.specs.View.{members_view}
use Rattle.tl_show.proofs.JsonTurns.{items_before}
use Rattle.tl_show.proofs.tokens.+tree.Given as goal

abbrev pub decreases-tree_of : goal.decreases-tree_of
decreases-tree_of l = 4 * l.depth

abbrev pub decreases-items_of : goal.decreases-items_of
decreases-items_of l = 4 * l.depth + 1

abbrev pub decreases-members_of : goal.decreases-members_of
decreases-members_of l = 4 * l.depth + 3

abbrev pub decreases-add_members : goal.decreases-add_members
decreases-add_members l = 4 * l.depth + 2

abbrev pub decreases-add_member : goal.decreases-add_member
decreases-add_member l = 4 * l.depth + 1

abbrev pub invariant-items_of-items : goal.invariant-items_of-items
invariant-items_of-items l =
    (n : ℕ) × (length l.reader ≤ n)
    × (converted of_items (items (value l.depth) (length l.initial.reader) l.initial.reader) ≡ parse_map (items_before l.found.items) (converted of_items (items (value l.depth) n l.reader)))
    × (length l.reader ≤ length l.initial.reader)

abbrev pub decreases-items_of-items : goal.decreases-items_of-items
decreases-items_of-items l = length l.reader

abbrev pub invariant-add_members-members : goal.invariant-add_members-members
invariant-add_members-members l =
    record {
      goes : (n : ℕ) → length l.initial.reader ≤ n
          → (m : ℕ) × (length l.reader ≤ m)
          × (converted (λ ms. of_members ms (members_view l.initial.found.entries)) (members (value l.depth) n l.initial.reader) ≡ converted (λ ms. of_members ms (members_view l.found.entries)) (members (value l.depth) m l.reader));
      shorter : length l.reader ≤ length l.initial.reader;
    }

abbrev pub decreases-add_members-members : goal.decreases-add_members-members
decreases-add_members-members l = length l.reader
