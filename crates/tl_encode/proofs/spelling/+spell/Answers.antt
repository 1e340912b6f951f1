use Rattle.std.proofs.Common.{rules, arith, map, ap, ◌∙◌, sym, subst, refl, ◌≡◌, ◌+◌, List, [], take, drop, get_or, ◌++◌}
use Rattle.std.specs.Prelude.{OnOk}
use Rattle.std.proofs.lemmas.Grind.{common_steps}
use Rattle.tl_schema.specs.Seen.{shape, slot, declaration}
use Rattle.tl_types.specs.Seen.{view, views}
use Rattle.tl_types.specs.Spelling.{Spells, SpellEach, SpellFields}
use Rattle.tl_types.specs.declared.value.Value.{Value, the_lemmas}
use Rattle.tl_types.proofs.Views.{view-Node, view-Absent, shape-Boxed, shape-Bare, shape-Vector}
use Rattle.tl_types.proofs.Closings.{no_arguments}
use Rattle.tl_encode.proofs.Joins.{puts_then}
use Rattle.tl_encode.proofs.Elements.{too_many, list_put}
use Rattle.tl_encode.proofs.Elements as element
use Rattle.tl_encode.proofs.Declared.{boxed_put, bare_put}
use Rattle.tl_encode.proofs.Fields.{closed_as_it_is, absent_put, there_put, fields_end}
use Rattle.tl_encode.proofs.Fields as field
use Rattle.tl_encode.proofs.spelling.+spell.Goals as goal

pub spell-returns-in-Node : goal.spell-returns-in-Node
spell-returns-in-Node t c = λ b s. c.spell_node.ensures b (subst (λ (v : _). Spells c.args.schema.now (shape c.args.of.now) v b) (ap view c.in-Node.is ∙ view-Node c.in-Node.entry c.in-Node.fields) s)

pub spell_list-returns-then-count-ge2147483648 : goal.spell_list-returns-then-count-ge2147483648
spell_list-returns-then-count-ge2147483648 t c = λ b s. too_many c.args.schema.now (shape c.args.of.now) c.args.items.now.items b (grind (arith, common_steps)) s

pub spell_list-returns-in-Vector : goal.spell_list-returns-in-Vector
spell_list-returns-in-Vector t c =
    list_put c.args.schema.now (shape c.args.of.now) c.args.items.now.items c.in-Vector.boxed (shape c.deref.result.now) c.len-count.result c.args.out.now.items _ _ _ c.spell_each.result (shape-Vector _ _ _ c.in-Vector.is ∙ rw c.deref.ensures refl) (grind (arith, common_steps))
    c.in_ok-put_vector_prefix.ensures c.in_ok-put_word.ensures c.spell_each.ensures

pub spell_each-loop-value-preserved : goal.spell_each-loop-value-preserved
spell_each-loop-value-preserved t c =
    let spells = SpellEach c.args.schema.now (shape c.args.item.now) in
    let items = c.deref-value-items.result.now in
    puts_then (spells (views items)) (spells (views (drop c.loop-value.value-index items))) (spells (views (drop (c.loop-value.value-index + 1) items))) c.args.out.now.items c.loop-value.out.items _ c.loop-value.invariant
    (element.next_put c.args.schema.now (shape c.args.item.now) items c.loop-value.value-index c.value-item.result c.loop-value.out.items _ (omega arith) c.value-item.is c.in_ok-spell.ensures)

pub spell_node-returns-in_ok-put_word-in-Boxed : goal.spell_node-returns-in_ok-put_word-in-Boxed
spell_node-returns-in_ok-put_word-in-Boxed t c =
    boxed_put c.args.schema.now (shape c.args.of.now) c.args.entry (views c.args.fields.now.items) (declaration c.entry-declared.result.now) (map slot c.deref-in-Boxed.result.now) c.in-Boxed.head (map shape c.deref.result.now) c.args.out.now.items _ _ c.spell_fields.result
    (shape-Boxed _ _ _ c.in-Boxed.is ∙ rw c.deref.ensures.value refl) c.entry-declared.ensures (sym (ap (map slot) c.deref-in-Boxed.ensures.value)) c.in_ok-put_word-in-Boxed.ensures c.spell_fields.ensures

pub spell_node-returns-in-Bare : goal.spell_node-returns-in-Bare
spell_node-returns-in-Bare t c =
    bare_put c.args.schema.now (shape c.args.of.now) c.args.entry c.in-Bare.entry (views c.args.fields.now.items) (declaration c.entry-declared.result.now) (map slot c.deref-in-Bare-2.result.now) (map shape c.deref-in-Bare.result.now) c.args.out.now.items _ c.spell_fields-in-Bare.result
    (shape-Bare _ _ _ c.in-Bare.is ∙ rw c.deref-in-Bare.ensures.value refl) c.entry-declared.ensures (sym (ap (map slot) c.deref-in-Bare-2.ensures.value)) c.spell_fields-in-Bare.ensures

pub spell_field-returns-in-Absent : goal.spell_field-returns-in-Absent
spell_field-returns-in-Absent t c = λ before b s.
    absent_put c.args.schema.now (map shape c.args.args.now) before (slot c.args.field.now) (view c.args.value.now) c.args.out.now.items (ap view c.in-Absent.is ∙ view-Absent) b s

pub spell_field-returns-in_default : goal.spell_field-returns-in_default
spell_field-returns-in_default t c = λ before b s.
    there_put {P = λ b. OnOk c.spell_there.result (c.spell_there.new.out.items ≡ c.args.out.now.items ++ b)} c.args.schema.now (map shape c.args.args.now) before (slot c.args.field.now) (view c.args.value.now) (search (rules, the_lemmas)) c.spell_there.ensures b s

pub spell_there-returns-then-is_empty : goal.spell_there-returns-then-is_empty
spell_there-returns-then-is_empty t c =
    let none = no_arguments c.args.args.now c.is_empty.result c.is_empty.ensures c.if-is_empty.true in
    λ b s. c.spell.ensures b (rw (closed_as_it_is (map shape c.args.args.now) (shape c.args.field.now.of) none) s)

pub spell_fields-loop-i-preserved : goal.spell_fields-loop-i-preserved
spell_fields-loop-i-preserved t c =
    let spells = SpellFields c.args.schema.now (map shape c.args.args.now) in
    let fields = c.args.fields.now.items in
    let slots = c.args.slots.now in
    puts_then (spells [] (map slot slots) (views fields)) (spells (map view (take c.loop-i.i fields)) (map slot (drop c.loop-i.i slots)) (views (drop c.loop-i.i fields)))
    (spells (map view (take (c.loop-i.i + 1) fields)) (map slot (drop (c.loop-i.i + 1) slots)) (views (drop (c.loop-i.i + 1) fields))) c.args.out.now.items c.loop-i.out.items _ c.loop-i.invariant
    (field.next_put c.args.schema.now (map shape c.args.args.now) fields slots c.loop-i.i c.value-item.result c.in-Some.field.now c.loop-i.out.items _ (grind (arith, common_steps)) (omega (arith, c.in-Some.ensures.lookup.3.0))
    (c.value-item.is ∙ ap (λ (l : List Value). get_or l c.loop-i.i c.value-item.result) c.deref-value-items.ensures.value) c.in-Some.ensures.lookup.1 (c.in_ok-spell_field.ensures (map view (take c.loop-i.i fields))))

pub spell_fields-returns : goal.spell_fields-returns
spell_fields-returns t c = fields_end c.args.schema.now (map shape c.args.args.now) _ c.args.fields.now.items _ c.loop-i.i _ c.args.out.now.items c.loop-i.out.items c.loop-i.invariant (grind (arith, common_steps))
