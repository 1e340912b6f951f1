-- Tables of types: a new type comes to the end, and one that is there is found.
use Rattle.std.proofs.Common.{◌≡◌, ℕ, zero, suc, ◌<◌, ◌≤◌, List, [], ◌∷◌, ◌++◌, length, map, slice_get, Option, Some, None, Bool, true, false, refl, ap, ap₂, sym, ◌∙◌, subst, arith, if◌then◌else◌, bytes_eq, get_or, Vec}
use Rattle.std.proofs.lemmas.Slice.Eq.{bytes_eq-Decides}
use Rattle.std.proofs.lemmas.Option.{slice_get-map, slice_get_read, slice_get_within}
use Rattle.std.proofs.lemmas.List.{length-map, map-append}
use Rattle.std.specs.Option.{option_map}
use Rattle.std.specs.Map.{lookup}
use Rattle.std.specs.Ordering.{is_eq, nat_cmp}
use Rattle.std.specs.Cmp.Lexicographic.{slice_cmp}
use Rattle.std.specs.BTreeMap.{insert_entry}
use Rattle.tl_names.specs.NameIndexes.{index_among, indexes_in}
use Rattle.tl_plan.proofs.OrderedEntries.{found_inserted, index_among_entries}
use Rattle.tl_schema.specs.Types.{Shape}
use Rattle.tl_plan.specs.Types.{levels}
use Rattle.tl_plan.specs.inner.Nodes.{AreBelow, AreDistinct, Grows, HasParts, NodeView, capped, key_of, levels_above, parts_of, type_at, type_by, types_after, types_at}
use Rattle.tl_schema.specs.Forms.{HasForm}
use Rattle.tl_plan.specs.inner.Tables.{AreKeys, AreNodes, IsNode, IsTable, node_view, types_of_nodes}
use Rattle.tl_plan.specs.declared.table.Node.{Node}
use Rattle.tl_schema.specs.declared.form.TypeForm.{TypeForm}
use Rattle.tl_plan.proofs.TypeLists.{by_test, none_some, some_is}
use Rattle.tl_plan.proofs.NodeTypes.{Pushed, earlier, last, below_more, count_after, form_by, get_last, get_pushed, get_within, levels_are, one_key, parts_by, push_after, same_key, type_got, types_more}

pub no_nodes : AreNodes [] [] []
no_nodes = record {
  each = λ k n at. absurd (none_some n at);
  keys = record { found = λ k n at. absurd (none_some n at); only = λ key k at. absurd (none_some k at) };
  distinct = λ i j T at other. absurd (none_some T at);
}

-- a type that has a key is the node's that is found by it
pub found_type : (Ts : List Shape) (ns : List NodeView) (numbers : List (List ℕ × ℕ)) → AreNodes Ts ns numbers → (f : TypeForm) (ks : List ℕ) (k : ℕ) → index_among numbers (key_of f ks) ≡ Some k → slice_get Ts k ≡ Some (type_by f (types_at Ts ks))
found_type Ts ns numbers are f ks k at =
    let p = are.keys.only (key_of f ks) k at in
    let same = same_key f p.0.form ks p.0.parts p.2 in
    (are.each k p.0 p.1).type ∙ ap Some (ap₂ (λ (g : TypeForm) (js : List ℕ). type_by g (types_at Ts js)) (sym same.0) (sym same.1))

module _ (ns : List NodeView) (numbers : List (List ℕ × ℕ)) (f : TypeForm) (ks : List ℕ) where
  abbrev Ts : List Shape
  Ts = types_after [] ns

  abbrev T : Shape
  T = type_by f (types_at Ts ks)

  abbrev new_node : NodeView
  new_node = record { form = f; parts = ks; levels = levels_above ns ks }

  module _ (are : AreNodes Ts ns numbers) (below : AreBelow (length Ts) ks) (parts : HasParts f ks) (none : index_among numbers (key_of f ks) ≡ None) where
    as_many : length Ts ≡ length ns
    as_many = let e = count_after ns [] in omega (arith, e)

    node_within : (k : ℕ) (n : NodeView) → slice_get ns k ≡ Some n → k < length Ts
    node_within k n at = let within = slice_get_within ns k n at in let e = as_many in omega (arith, within, e)

    is_new : (i : ℕ) → slice_get Ts i ≡ Some T → ⊥
    is_new i at =
        let within = slice_get_within Ts i T at in
        let e = as_many in
        let n = node_at i (omega (arith, within, e)) in
        let node = are.each i n.0 n.1 in
        let same : type_by f (types_at Ts ks) ≡ type_by n.0.form (types_at Ts n.0.parts) = some_is _ _ (sym at ∙ node.type) in
        let key = one_key Ts f n.0.form ks n.0.parts are.distinct below (below_more i (length Ts) n.0.parts (omega (arith, within)) node.below) parts node.parts same in
        none_some i (sym none ∙ ap (index_among numbers) key ∙ are.keys.found i n.0 n.1)
      where
        node_at : (k : ℕ) → k < length ns → (n : NodeView) × (slice_get ns k ≡ Some n)
        node_at k less = there ns k less
          where
            there : (ms : List NodeView) (k : ℕ) → k < length ms → (n : NodeView) × (slice_get ms k ≡ Some n)
            there [] k less = absurd (omega (arith, less))
            there (m ∷ ms) zero less = (m, refl)
            there (m ∷ ms) (suc k) less = there ms k (omega (arith, less))

    pub grows_by : Grows Ts (Ts ++ T ∷ [])
    grows_by = record { more = T ∷ []; extends = refl }

    still_distinct : AreDistinct (Ts ++ T ∷ [])
    still_distinct i j U p q = by (get_pushed Ts T i U p) (get_pushed Ts T j U q)
      where
        by : Pushed Ts T i U → Pushed Ts T j U → i ≡ j
        by (earlier a) (earlier b) = are.distinct i j U a b
        by (earlier a) (last count is) = absurd (is_new i (a ∙ ap Some is))
        by (last count is) (earlier b) = absurd (is_new j (b ∙ ap Some is))
        by (last count is) (last many same) = count ∙ sym many

    levels_are_so : levels_above ns ks ≡ capped (levels T)
    levels_are_so = levels_are Ts ns (λ k n at. (are.each k n at).levels ∙ ap (λ (U : Shape). capped (levels U)) (sym (type_got Ts k _ (are.each k n at).type))) f ks (subst (λ (m : ℕ). AreBelow m ks) as_many below) parts

    abbrev Us : List Shape
    Us = Ts ++ T ∷ []

    still : (k : ℕ) (n : NodeView) → IsNode Ts k n → k ≤ length Ts → IsNode Us k n
    still k n node within =
        let same : types_at Us n.parts ≡ types_at Ts n.parts = types_more Ts (T ∷ []) n.parts (below_more k (length Ts) n.parts within node.below) in
        record {
          below = node.below;
          parts = node.parts;
          type = get_within Ts (T ∷ []) k _ node.type ∙ ap (λ (Vs : List Shape). Some (type_by n.form Vs)) (sym same);
          levels = node.levels ∙ ap (λ (Vs : List Shape). capped (levels (type_by n.form Vs))) (sym same);
        }

    newest : IsNode Us (length ns) new_node
    newest =
        let same : types_at Us ks ≡ types_at Ts ks = types_more Ts (T ∷ []) ks below in
        record {
          below = subst (λ (m : ℕ). AreBelow m ks) as_many below;
          parts = parts;
          type = ap (slice_get Us) (sym as_many) ∙ get_last Ts T ∙ ap (λ (Vs : List Shape). Some (type_by f Vs)) (sym same);
          levels = levels_are_so ∙ ap (λ (Vs : List Shape). capped (levels (type_by f Vs))) (sym same);
        }

    module _ (after : List (List ℕ × ℕ)) (inserted : (key : List ℕ) → index_among after key ≡ (if bytes_eq key (key_of f ks) then Some (length ns) else index_among numbers key)) where
      new_keys : AreKeys (ns ++ new_node ∷ []) after
      new_keys = record { found = found; only = only }
        where
          found : (k : ℕ) (n : NodeView) → slice_get (ns ++ new_node ∷ []) k ≡ Some n → index_among after (key_of n.form n.parts) ≡ Some k
          found k n at = inserted (key_of n.form n.parts) ∙ by (get_pushed ns new_node k n at)
            where
              by : Pushed ns new_node k n → (if bytes_eq (key_of n.form n.parts) (key_of f ks) then Some (length ns) else index_among numbers (key_of n.form n.parts)) ≡ Some k
              by (earlier here) = by_test (bytes_eq (key_of n.form n.parts) (key_of f ks)) (λ is. absurd (none_some k (sym none ∙ ap (index_among numbers) (sym ((bytes_eq-Decides (key_of n.form n.parts) (key_of f ks)).0 is)) ∙ are.keys.found k n here))) (λ other. ap (λ b. if b then Some (length ns) else index_among numbers (key_of n.form n.parts)) other ∙ are.keys.found k n here)
              by (last count is) = ap (λ b. if b then Some (length ns) else index_among numbers (key_of n.form n.parts)) ((bytes_eq-Decides (key_of n.form n.parts) (key_of f ks)).1 (ap (λ (m : NodeView). key_of m.form m.parts) is)) ∙ ap Some (sym count)

          only : (key : List ℕ) (k : ℕ) → index_among after key ≡ Some k → (n : NodeView) × (slice_get (ns ++ new_node ∷ []) k ≡ Some n) × (key ≡ key_of n.form n.parts)
          only key k at = by (bytes_eq key (key_of f ks)) refl (sym (inserted key) ∙ at)
            where
              by : (b : Bool) → bytes_eq key (key_of f ks) ≡ b → (if b then Some (length ns) else index_among numbers key) ≡ Some k → (n : NodeView) × (slice_get (ns ++ new_node ∷ []) k ≡ Some n) × (key ≡ key_of n.form n.parts)
              by true is e = (new_node, ap (slice_get (ns ++ new_node ∷ [])) (sym (some_is (length ns) k e)) ∙ get_last ns new_node, (bytes_eq-Decides key (key_of f ks)).0 is)
              by false is e = let p = are.keys.only key k e in (p.0, get_within ns (new_node ∷ []) k p.0 p.1, p.2)

      pub nodes_push : AreNodes (types_after [] (ns ++ new_node ∷ [])) (ns ++ new_node ∷ []) after
      nodes_push = subst (λ (Vs : List Shape). AreNodes Vs (ns ++ new_node ∷ []) after) (sym (push_after ns new_node [])) (record { each = each; keys = new_keys; distinct = still_distinct })
        where
          each : (k : ℕ) (n : NodeView) → slice_get (ns ++ new_node ∷ []) k ≡ Some n → IsNode Us k n
          each k n at = by (get_pushed ns new_node k n at)
            where
              by : Pushed ns new_node k n → IsNode Us k n
              by (earlier here) = let within = node_within k n here in still k n (are.each k n here) (omega (arith, within))
              by (last count is) = subst (λ (m : NodeView). IsNode Us k m) (sym is) (subst (λ (j : ℕ). IsNode Us j new_node) (sym count) newest)

-- ---- the code's nodes

pub nodes_count : (nodes : List Node) (Ts : List Shape) → types_of_nodes nodes ≡ Ts → length Ts ≡ length nodes
nodes_count nodes Ts is = let a = count_after (map node_view nodes) [] in let b = length-map nodes node_view in let e : length (types_of_nodes nodes) ≡ length Ts = ap length is in omega (arith, a, b, e)

-- what is read of a node
pub record Read (Ts : List Shape) (k : ℕ) (n : Node) : Type 0 where
  pub form : HasForm (type_at Ts k) n.form
  pub parts : types_at Ts n.parts.items ≡ parts_of (type_at Ts k)
  pub below : AreBelow (length Ts) n.parts.items
  pub levels : n.levels ≡ capped (levels (type_at Ts k))

pub read_node : {A : Type 0} (nodes : List Node) (entries : List (Vec ℕ A × ℕ)) (Ts : List Shape) → types_of_nodes nodes ≡ Ts → IsTable nodes entries → (k : ℕ) → k < length Ts → (n : Node) → n ≡ get_or nodes k n → Read Ts k n
read_node nodes entries Ts is are k within n at =
    let many = nodes_count nodes Ts is in
    let there = slice_get_read nodes (length nodes) k n refl (omega (arith, many, within)) at in
    let node = subst (λ (Us : List Shape). IsNode Us k (node_view n)) is (are.each k (node_view n) (slice_get-map node_view nodes k ∙ ap (option_map node_view) there)) in
    let type : type_at Ts k ≡ type_by n.form (types_at Ts n.parts.items) = type_got Ts k _ node.type in
    record {
      form = subst (λ (T : Shape). HasForm T n.form) (sym type) (form_by n.form (types_at Ts n.parts.items));
      parts = sym (ap parts_of type ∙ parts_by Ts n.form n.parts.items node.parts);
      below = below_more k (length Ts) n.parts.items (omega (arith, within)) node.below;
      levels = node.levels ∙ ap (λ (T : Shape). capped (levels T)) (sym type);
    }

-- ---- a node comes to the end

-- the key is found, or not, as the map tells
pub told_index : {A : Type 0} (entries : List (Vec ℕ A × ℕ)) (read key : List ℕ) (got : Option ℕ) → read ≡ key → got ≡ lookup (λ (k : Vec ℕ A). is_eq (slice_cmp nat_cmp read k.items)) entries → index_among (indexes_in entries) key ≡ got
told_index entries read key got same told = ap (index_among (indexes_in entries)) (sym same) ∙ sym (told ∙ index_among_entries read entries)

pub record TablePushed {A : Type 0} (new : List Node) (after : List (Vec ℕ A × ℕ)) (Ts : List Shape) (node : Node) (number : ℕ) : Type 0 where
  pub table : IsTable new after
  pub grows : Grows Ts (types_of_nodes new)
  pub type : slice_get (types_of_nodes new) number ≡ Some (type_by node.form (types_at Ts node.parts.items))

module _ {A : Type 0} (nodes new : List Node) (entries after : List (Vec ℕ A × ℕ)) (key : Vec ℕ A) (node : Node) (number : ℕ) where
  as_new : node.levels ≡ levels_above (map node_view nodes) node.parts.items → new ≡ nodes ++ node ∷ [] → map node_view new ≡ map node_view nodes ++ new_node (map node_view nodes) [] node.form node.parts.items ∷ []
  as_new levels_is pushed =
      ap (map node_view) pushed ∙ map-append node_view nodes (node ∷ [])
      ∙ ap (λ (l : ℕ). map node_view nodes ++ record { form = node.form; parts = node.parts.items; levels = l } ∷ []) levels_is

  pub table_push : (Ts : List Shape) → types_of_nodes nodes ≡ Ts → IsTable nodes entries → AreBelow (length Ts) node.parts.items → HasParts node.form node.parts.items → node.levels ≡ levels_above (map node_view nodes) node.parts.items → key.items ≡ key_of node.form node.parts.items → index_among (indexes_in entries) (key_of node.form node.parts.items) ≡ None → number ≡ length nodes → after ≡ insert_entry (λ x y. slice_cmp nat_cmp x.items y.items) entries key number → new ≡ nodes ++ node ∷ [] → TablePushed new after Ts node number
  table_push Ts is are below parts levels_is keyed none count inserted pushed =
      subst (λ (Us : List Shape). TablePushed new after Us node number) is (record {
        table = subst (λ (ms : List NodeView). AreNodes (types_after [] ms) ms (indexes_in after)) (sym (as_new levels_is pushed)) (nodes_push (map node_view nodes) (indexes_in entries) node.form node.parts.items are here parts none (indexes_in after) placed);
        grows = subst (λ (ms : List NodeView). Grows (types_of_nodes nodes) (types_after [] ms)) (sym (as_new levels_is pushed)) (subst (Grows (types_of_nodes nodes)) (sym (push_after (map node_view nodes) (new_node (map node_view nodes) [] node.form node.parts.items) [])) (grows_by (map node_view nodes) (indexes_in entries) node.form node.parts.items are here parts none));
        type =
            ap (λ (ms : List NodeView). slice_get (types_after [] ms) number) (as_new levels_is pushed)
            ∙ ap (λ (Us : List Shape). slice_get Us number) (push_after (map node_view nodes) (new_node (map node_view nodes) [] node.form node.parts.items) [])
            ∙ ap (slice_get (types_of_nodes nodes ++ type_by node.form (types_at (types_of_nodes nodes) node.parts.items) ∷ [])) last_index
            ∙ get_last (types_of_nodes nodes) (type_by node.form (types_at (types_of_nodes nodes) node.parts.items));
      })
    where
      here : AreBelow (length (types_of_nodes nodes)) node.parts.items
      here = subst (λ (Us : List Shape). AreBelow (length Us) node.parts.items) (sym is) below

      many : number ≡ length (map node_view nodes)
      many = count ∙ sym (length-map nodes node_view)

      last_index : number ≡ length (types_of_nodes nodes)
      last_index = let a = count_after (map node_view nodes) [] in let b = many in omega (arith, a, b)

      placed : (k : List ℕ) → index_among (indexes_in after) k ≡ (if bytes_eq k (key_of node.form node.parts.items) then Some (length (map node_view nodes)) else index_among (indexes_in entries) k)
      placed k =
          ap (λ (es : List (Vec ℕ A × ℕ)). index_among (indexes_in es) k) inserted ∙ found_inserted key number k entries
          ∙ ap (λ (w : List ℕ). if bytes_eq k w then Some number else index_among (indexes_in entries) k) keyed
          ∙ ap (λ (m : ℕ). if bytes_eq k (key_of node.form node.parts.items) then Some m else index_among (indexes_in entries) k) many
