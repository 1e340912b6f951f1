use Rattle.std.proofs.Common.{◌≡◌, ℕ, List, [], ◌∷◌, ◌++◌, map, slice_get, Some, ap, ap₂, ◌∙◌, subst, arith}
use Rattle.tl_schema.specs.Types.{Shape}
use Rattle.tl_plan.specs.inner.Nodes.{AreBelow, key_of, levels_above, type_by, types_at}
use Rattle.tl_plan.specs.inner.Tables.{node_view, types_of_nodes}
use Rattle.tl_plan.specs.declared.table.Node.{Node}
use Rattle.tl_names.specs.NameIndexes.{indexes_in}
use Rattle.tl_plan.proofs.TableSteps.{found_type, nodes_count, table_push, told_index}
use Rattle.tl_plan.proofs.table.Table.number.Goals as goal

pub returns-in-Some-clause-number : goal.returns-in-Some-clause-number
returns-in-Some-clause-number c =
    let at = told_index c.self.inside.numbers.entries c.as_slice.result.now (key_of c.args.form c.args.parts.items) c.copied.result (c.as_slice.ensures.value ∙ c.in_ok-key.ensures ∙ ap (key_of c.args.form) c.deref.ensures.value) (c.copied.ensures ∙ c.get.ensures.value) ∙ c.in-Some.is in
    subst (λ (Ts : List Shape). slice_get Ts c.in-Some.number ≡ Some (type_by c.args.form (types_at Ts c.args.parts.items))) c.self.view_is
    (found_type (types_of_nodes c.self.inside.nodes.items) (map node_view c.self.inside.nodes.items) (indexes_in c.self.inside.numbers.entries) c.self.invariant c.args.form c.args.parts.items c.in-Some.number at)

pub levels_above-levels-requires : goal.levels_above-levels-requires
levels_above-levels-requires c =
    rw (c.deref-2.ensures.value, c.deref-3.ensures.value) (subst (λ (m : ℕ). AreBelow m c.args.parts.items) (nodes_count c.self.inside.nodes.items c.args.self.now c.self.view_is) c.requires.below)

pub invariant_of-self-2 : goal.invariant_of-self-2
invariant_of-self-2 c =
    (table_push c.self.inside.nodes.items c.push_reserved.new.self.items c.self.inside.numbers.entries c.insert.new.self.entries c.in_ok-key.key (record { form = c.args.form; parts = c.args.parts; levels = c.levels_above-levels.result }) c.len-count.result c.args.self.now
    c.self.view_is c.self.invariant c.requires.below c.requires.parts
    (c.levels_above-levels.ensures ∙ ap₂ (λ (ns : List Node) (ks : List ℕ). levels_above (map node_view ns) ks) c.deref-2.ensures.value c.deref-3.ensures.value)
    (c.in_ok-key.ensures ∙ ap (key_of c.args.form) c.deref.ensures.value)
    (told_index c.self.inside.numbers.entries c.as_slice.result.now (key_of c.args.form c.args.parts.items) c.copied.result (c.as_slice.ensures.value ∙ c.in_ok-key.ensures ∙ ap (key_of c.args.form) c.deref.ensures.value) (c.copied.ensures ∙ c.get.ensures.value) ∙ c.in-None.is)
    (omega arith) c.in_ok-insert.ensures.entries (c.push_reserved.ensures.items ∙ ap (λ (ns : List Node). ns ++ record { form = c.args.form; parts = c.args.parts; levels = c.levels_above-levels.result } ∷ []) c.in_ok-reserve.ensures.items)).table

pub returns-clause-grows : goal.returns-clause-grows
returns-clause-grows c =
    (table_push c.self.inside.nodes.items c.push_reserved.new.self.items c.self.inside.numbers.entries c.insert.new.self.entries c.in_ok-key.key (record { form = c.args.form; parts = c.args.parts; levels = c.levels_above-levels.result }) c.len-count.result c.args.self.now
    c.self.view_is c.self.invariant c.requires.below c.requires.parts
    (c.levels_above-levels.ensures ∙ ap₂ (λ (ns : List Node) (ks : List ℕ). levels_above (map node_view ns) ks) c.deref-2.ensures.value c.deref-3.ensures.value)
    (c.in_ok-key.ensures ∙ ap (key_of c.args.form) c.deref.ensures.value)
    (told_index c.self.inside.numbers.entries c.as_slice.result.now (key_of c.args.form c.args.parts.items) c.copied.result (c.as_slice.ensures.value ∙ c.in_ok-key.ensures ∙ ap (key_of c.args.form) c.deref.ensures.value) (c.copied.ensures ∙ c.get.ensures.value) ∙ c.in-None.is)
    (omega arith) c.in_ok-insert.ensures.entries (c.push_reserved.ensures.items ∙ ap (λ (ns : List Node). ns ++ record { form = c.args.form; parts = c.args.parts; levels = c.levels_above-levels.result } ∷ []) c.in_ok-reserve.ensures.items)).grows

pub returns-clause-number : goal.returns-clause-number
returns-clause-number c =
    (table_push c.self.inside.nodes.items c.push_reserved.new.self.items c.self.inside.numbers.entries c.insert.new.self.entries c.in_ok-key.key (record { form = c.args.form; parts = c.args.parts; levels = c.levels_above-levels.result }) c.len-count.result c.args.self.now
    c.self.view_is c.self.invariant c.requires.below c.requires.parts
    (c.levels_above-levels.ensures ∙ ap₂ (λ (ns : List Node) (ks : List ℕ). levels_above (map node_view ns) ks) c.deref-2.ensures.value c.deref-3.ensures.value)
    (c.in_ok-key.ensures ∙ ap (key_of c.args.form) c.deref.ensures.value)
    (told_index c.self.inside.numbers.entries c.as_slice.result.now (key_of c.args.form c.args.parts.items) c.copied.result (c.as_slice.ensures.value ∙ c.in_ok-key.ensures ∙ ap (key_of c.args.form) c.deref.ensures.value) (c.copied.ensures ∙ c.get.ensures.value) ∙ c.in-None.is)
    (omega arith) c.in_ok-insert.ensures.entries (c.push_reserved.ensures.items ∙ ap (λ (ns : List Node). ns ++ record { form = c.args.form; parts = c.args.parts; levels = c.levels_above-levels.result } ∷ []) c.in_ok-reserve.ensures.items)).type
