use Rattle.std.proofs.Common.{◌+◌, ◌*◌, List, drop, map}
use Rattle.serde_json.specs.Data.{array, object}
use Rattle.serde_json.specs.Written.{compact_text, items_text, members_text}
use Rattle.tl_schema.specs.Closing.{closed}
use Rattle.tl_schema.specs.Seen.{shape}
use Rattle.tl_types.specs.Seen.{view, views}
use Rattle.tl_types.specs.declared.value.Value.{Value}
use Rattle.tl_show.specs.declared.form.Key.{Key}
use Rattle.tl_show.specs.inner.Forms.{members_at, read_at, written_each}
use Rattle.tl_show.specs.inner.FormViews.{form_view, key_views}
use Rattle.tl_show.specs.inner.Scopes.{shapes_in}
use Rattle.tl_show.proofs.Putting.{Leads}
use Rattle.tl_show.proofs.Sizes.{size, size_of}
use Rattle.tl_show.proofs.writing.+write.Given as goal

abbrev pub decreases-write_value : goal.decreases-write_value
decreases-write_value g l = 8 * size (view l.value.now)

abbrev pub decreases-write_items : goal.decreases-write_items
decreases-write_items g l = 8 * size_of (views l.items.now) + 4

abbrev pub decreases-write_record : goal.decreases-write_record
decreases-write_record g l = 8 * size_of (views l.fields.now) + 6

abbrev pub decreases-write_members : goal.decreases-write_members
decreases-write_members g l = 8 * size_of (views l.fields.now) + 5

abbrev pub decreases-write_member : goal.decreases-write_member
decreases-write_member g l = 8 * size_of (views l.fields.now) + 4

abbrev pub decreases-write_field : goal.decreases-write_field
decreases-write_field g l = 8 * size (view l.value.now) + 2

abbrev pub invariant-write_items-loop-item : goal.invariant-write_items-loop-item
invariant-write_items-loop-item g l =
    let items = λ (vs : List Value). written_each (map form_view l.forms) (closed (shapes_in l.scope) (shape l.of)) (views vs) in
    Leads g.S.TextSink.puts l.fn.out l.out (items_text l.later (items (drop l.item-index l.items))) (compact_text (array (items l.items)))

abbrev pub invariant-write_members-loop-key : goal.invariant-write_members-loop-key
invariant-write_members-loop-key g l =
    let members = λ (ks : List Key). members_at (form_view l.form).name (shapes_in l.scope) (read_at (map form_view l.forms) (views l.fields)) (key_views ks) in
    Leads g.S.TextSink.puts l.fn.out l.out (members_text l.later (members (drop l.key-index l.form.keys.items))) (compact_text (object (members l.form.keys.items)))
