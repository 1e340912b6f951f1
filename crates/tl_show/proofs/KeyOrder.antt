-- What may stand at a key goes to its place among ordered keys: the members at them.
use Rattle.std.proofs.Common.{◌≡◌, ℕ, List, [], ◌∷◌, map, cond, Option, Some, None, String, Global, string_bytes, string_cmp, nat_cmp, Ordering, Less, Equal, Greater, refl, sym, ap, ◌∙◌}
use Rattle.std.specs.Prelude.{⊤}
use Rattle.std.specs.BTreeMap.{insert_entry, is_at}
use Rattle.std.specs.FinMap.{slice_cmp-IsAntisymmetric, nat_cmp-IsAntisymmetric}
use Rattle.std.specs.Cmp.Lexicographic.{slice_cmp}
use Rattle.std.specs.List.{AllByRecursion}
use Rattle.std.specs.List.Sorted.{IsStrictlySortedBy}
use Rattle.std.specs.Map.{keys_of, lookup, set_value}
use Rattle.std.specs.Option.{option_or}
use Rattle.std.specs.Ordering.{is_eq, match_ordering}
use Rattle.std.proofs.lemmas.Cmp.{nat_list_cmp_total}
use Rattle.std.proofs.lemmas.Map.Keys.{sorted_head, sorted_tail}
use Rattle.serde_json.specs.Data.{Data, Members, no_members, member, put}
use Rattle.tl_schema.specs.Types.{Shape}
use Rattle.tl_show.specs.inner.Forms.{PartView, Reads, last_of, members_at, part_of, put_part, with_part}
use Rattle.tl_show.specs.inner.FormViews.{entry_views, part_view, parts_view}
use Rattle.tl_show.specs.declared.form.Part.{Part}
use Rattle.tl_show.specs.declared.form.KeyParts.{KeyParts}

abbrev pub Entry : Type 0
Entry = String Global × KeyParts

-- the first key, if there is one, is above
abbrev IsAbove : List ℕ → Members → Type 0
IsAbove k no_members = ⊤
IsAbove k (member l e ms) = slice_cmp nat_cmp k l ≡ Less

above_with : (k l : List ℕ) (o : Option Data) (ms : Members) → slice_cmp nat_cmp k l ≡ Less → IsAbove k ms → IsAbove k (with_part l o ms)
above_with k l None ms below later = later
above_with k l (Some d) ms below later = below

-- the key is below each of these
abbrev IsBelow : String Global → List (String Global) → Type 0
IsBelow k ks = AllByRecursion (λ y. string_cmp k y ≡ Less) ks

below_all : (k l : String Global) (ks : List (String Global)) → string_cmp k l ≡ Less → IsBelow l ks → IsBelow k ks
below_all k l [] first later = tt
below_all k l (y ∷ ks) first later =
    (nat_list_cmp_total.trans (string_bytes k) (string_bytes l) (string_bytes y) first later.0, below_all k l ks first later.1)

put_first : (k : List ℕ) (o : Option Data) (ms : Members) → IsAbove k ms → with_part k o ms ≡ put_part k o ms
put_first k None ms above = refl
put_first k (Some d) no_members above = refl
put_first k (Some d) (member l e ms) above = rw above refl

put_later : (k l : List ℕ) (o p : Option Data) (ms : Members) → slice_cmp nat_cmp k l ≡ Greater → with_part l p (put_part k o ms) ≡ put_part k o (with_part l p ms)
put_later k l None p ms above = refl
put_later k l (Some d) None ms above = refl
put_later k l (Some d) (Some e) ms above = rw above refl

put_again : (k l : List ℕ) (o p : Option Data) (ms : Members) → slice_cmp nat_cmp k l ≡ Equal → IsAbove l ms → with_part l (option_or o p) ms ≡ put_part k o (with_part l p ms)
put_again k l None p ms same above = refl
put_again k l (Some d) None ms same above = put_first l (Some d) ms above ∙ ap (λ x. put x d ms) (sym (slice_cmp-IsAntisymmetric nat_cmp-IsAntisymmetric k l same))
put_again k l (Some d) (Some e) ms same above = rw same refl

-- no key below all has an entry
not_below : (k : String Global) (es : List Entry) → IsBelow k (keys_of es) → lookup (is_at (string_cmp k)) es ≡ None
not_below k [] below = refl
not_below k (e ∷ es) below = rw below.0 (not_below k es below.1)

-- in a record of this name, whose type is applied to these, with these values
module _ (n : List ℕ) (args : List Shape) (at : Reads) where
  abbrev standing : KeyParts → Option Data
  standing ps = last_of n args at (parts_view ps)

  -- the first part, where there is no later one
  pub one_part : (ps : KeyParts) → ps.later.items ≡ [] → standing ps ≡ part_of n args at (part_view ps.first)
  one_part ps none = ap (λ (l : List Part). last_of n args at (part_view ps.first ∷ map part_view l)) none

  abbrev members : List Entry → Members
  members es = members_at n args at (entry_views es)

  above_members : (k : String Global) (es : List Entry) → IsBelow k (keys_of es) → IsAbove (string_bytes k) (members es)
  above_members k [] below = tt
  above_members k (e ∷ es) below = above_with (string_bytes k) (string_bytes e.0) (standing e.1) _ below.0 (above_members k es below.1)

  inserted_at : (k : String Global) (ps : KeyParts) (e : Entry) (es : List Entry) (o : Ordering) → string_cmp k e.0 ≡ o → IsStrictlySortedBy string_cmp (keys_of (e ∷ es))
      → lookup (is_at (string_cmp k)) (e ∷ es) ≡ None
      → (lookup (is_at (string_cmp k)) es ≡ None → members (insert_entry string_cmp es k ps) ≡ put_part (string_bytes k) (standing ps) (members es))
      → members (match_ordering o ((k, ps) ∷ e ∷ es) ((e.0, ps) ∷ es) (e ∷ insert_entry string_cmp es k ps)) ≡ put_part (string_bytes k) (standing ps) (members (e ∷ es))
  inserted_at k ps e es Less is sorted new later =
      let below = below_all k e.0 (keys_of es) is (sorted_head string_cmp e.0 (keys_of es) sorted) in
      put_first (string_bytes k) (standing ps) (members (e ∷ es)) (above_members k (e ∷ es) (is, below))
  inserted_at k ps e es Equal is sorted new later = let found : Some e.1 ≡ None = rw is at new in cc
  inserted_at k ps e es Greater is sorted new later =
      let new_later : lookup (is_at (string_cmp k)) es ≡ None = rw is at new in
      ap (with_part (string_bytes e.0) (standing e.1)) (later new_later) ∙ put_later (string_bytes k) (string_bytes e.0) (standing ps) (standing e.1) (members es) is

  -- what stands at a new key is put among the members
  pub inserted : (k : String Global) (ps : KeyParts) (es : List Entry) → IsStrictlySortedBy string_cmp (keys_of es) → lookup (is_at (string_cmp k)) es ≡ None
      → members (insert_entry string_cmp es k ps) ≡ put_part (string_bytes k) (standing ps) (members es)
  inserted k ps [] sorted new = put_first (string_bytes k) (standing ps) no_members tt
  inserted k ps (e ∷ es) sorted new = inserted_at k ps e es (string_cmp k e.0) refl sorted new (inserted k ps es (sorted_tail string_cmp e.0 (keys_of es) sorted))

  module _ (k : String Global) (p : PartView) (was now : KeyParts) (more : standing now ≡ option_or (part_of n args at p) (standing was)) where
    added_at : (e : Entry) (es : List Entry) (o : Ordering) → string_cmp k e.0 ≡ o → IsStrictlySortedBy string_cmp (keys_of (e ∷ es)) → lookup (is_at (string_cmp k)) (e ∷ es) ≡ Some was
        → (lookup (is_at (string_cmp k)) es ≡ Some was → members (set_value (is_at (string_cmp k)) es now) ≡ put_part (string_bytes k) (part_of n args at p) (members es))
        → members (cond (is_eq o) ((e.0, now) ∷ es) (e ∷ set_value (is_at (string_cmp k)) es now)) ≡ put_part (string_bytes k) (part_of n args at p) (members (e ∷ es))
    added_at e es Less is sorted found later =
        let below = below_all k e.0 (keys_of es) is (sorted_head string_cmp e.0 (keys_of es) sorted) in
        let none : None ≡ Some was = sym (not_below k (e ∷ es) (is, below)) ∙ found in
        cc
    added_at e es Equal is sorted found later =
        let same : Some e.1 ≡ Some was = rw is at found in
        let old : standing now ≡ option_or (part_of n args at p) (standing e.1) = more ∙ ap (λ (o : Option KeyParts). option_or (part_of n args at p) (elim o as (λ _. Option Data) [ None ↦ None | Some x ↦ standing x ])) (sym same) in
        ap (λ o. with_part (string_bytes e.0) o (members es)) old
        ∙ put_again (string_bytes k) (string_bytes e.0) (part_of n args at p) (standing e.1) (members es) is (above_members e.0 es (sorted_head string_cmp e.0 (keys_of es) sorted))
    added_at e es Greater is sorted found later =
        let found_later : lookup (is_at (string_cmp k)) es ≡ Some was = rw is at found in
        ap (with_part (string_bytes e.0) (standing e.1)) (later found_later) ∙ put_later (string_bytes k) (string_bytes e.0) (part_of n args at p) (standing e.1) (members es) is

    -- one more of what may stand at a key is put among the members
    pub added : (es : List Entry) → IsStrictlySortedBy string_cmp (keys_of es) → lookup (is_at (string_cmp k)) es ≡ Some was
        → members (set_value (is_at (string_cmp k)) es now) ≡ put_part (string_bytes k) (part_of n args at p) (members es)
    added [] sorted found = cc
    added (e ∷ es) sorted found = added_at e es (string_cmp k e.0) refl sorted found (added es (sorted_tail string_cmp e.0 (keys_of es) sorted))
