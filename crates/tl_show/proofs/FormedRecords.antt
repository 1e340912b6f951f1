-- A value by the forms of its schema's declarations is the value as it is shown.
use Rattle.std.proofs.Common.{◌≡◌, ℕ, zero, suc, List, [], ◌∷◌, ◌++◌, Option, Some, None, refl, ap, ap₂, ◌∙◌}
use Rattle.std.specs.Prelude.{⊤, slice_get}
use Rattle.std.specs.Option.{option_or}
use Rattle.serde_json.specs.Data.{array, object, item}
use Rattle.tl_schema.specs.Types.{Shape}
use Rattle.tl_schema.specs.Closing.{closed}
use Rattle.tl_schema.specs.Schemas.{Declaration}
use Rattle.tl_types.specs.Values.{ValueView, int, long, nat, opaque, text, truth, absent, list, node, call, ValueViews, no_values, value}
use Rattle.tl_types.specs.Parts.{arguments_of, fields_in, is_absent, item_of, name_in}
use Rattle.tl_show.specs.Shown.{named, shown, shown_each, with_fields}
use Rattle.tl_show.specs.inner.Forms.{AreForms, FormView, IsForm, Keys, PartView, Reads, form_in, last_of, members_at, members_of, part_of, read_at, shown_at, unless_missing, with_part, written, written_each}
use Rattle.tl_show.specs.inner.Forms as form

pub forms_push : (ds : List Declaration) (fs : List FormView) (d : Declaration) (f : FormView) → AreForms ds fs → IsForm d f → AreForms (ds ++ d ∷ []) (fs ++ f ∷ [])
forms_push [] [] d f before next = (next, tt)
forms_push [] (g ∷ fs) d f before next = absurd before
forms_push (e ∷ ds) [] d f before next = absurd before
forms_push (e ∷ ds) (g ∷ fs) d f before next = (before.0, forms_push ds fs d f before.1 next)

abbrev AtOneIndex : Option Declaration → Option FormView → Type 0
AtOneIndex None None = ⊤
AtOneIndex None (Some f) = ⊥
AtOneIndex (Some d) None = ⊥
AtOneIndex (Some d) (Some f) = IsForm d f

at_index : (ds : List Declaration) (fs : List FormView) → AreForms ds fs → (i : ℕ) → AtOneIndex (slice_get ds i) (slice_get fs i)
at_index [] [] are i = tt
at_index [] (f ∷ fs) are i = absurd are
at_index (d ∷ ds) [] are i = absurd are
at_index (d ∷ ds) (f ∷ fs) are zero = are.0
at_index (d ∷ ds) (f ∷ fs) are (suc i) = at_index ds fs are.1 i

same_part : (n : List ℕ) (args : List Shape) (at to : Reads) → ((i : ℕ) (T : Shape) → at i T ≡ to i T) → (p : PartView) → part_of n args at p ≡ part_of n args to p
same_part n args at to same form.name = refl
same_part n args at to same (form.field i T) = same i (closed args T)

same_last : (n : List ℕ) (args : List Shape) (at to : Reads) → ((i : ℕ) (T : Shape) → at i T ≡ to i T) → (ps : List PartView) → last_of n args at ps ≡ last_of n args to ps
same_last n args at to same [] = refl
same_last n args at to same (p ∷ ps) = ap₂ option_or (same_last n args at to same ps) (same_part n args at to same p)

same_members : (n : List ℕ) (args : List Shape) (at to : Reads) → ((i : ℕ) (T : Shape) → at i T ≡ to i T) → (ks : Keys)
    → members_at n args at ks ≡ members_at n args to ks
same_members n args at to same [] = refl
same_members n args at to same (k ∷ ks) = ap₂ (with_part k.0) (same_last n args at to same k.1) (same_members n args at to same ks)

record_as_shown : (all : List Declaration) (d : Option Declaration) (f : Option FormView) → AtOneIndex d f → (args : List Shape) (at : Reads) (vs : ValueViews)
    → ((i : ℕ) (T : Shape) → at i T ≡ shown_at all vs i T) → members_of (form_in f) args at ≡ with_fields all args (named (name_in d)) (fields_in d) vs
record_as_shown all None None is args at no_values same = refl
record_as_shown all None None is args at (value v vs) same = refl
record_as_shown all None (Some f) is args at vs same = absurd is
record_as_shown all (Some d) None is args at vs same = absurd is
record_as_shown all (Some d) (Some f) is args at vs same =
    same_members f.name args at (shown_at all vs) same f.keys ∙ rw is.text (is.puts all d.name args vs)

mutual
  pub as_shown : (ds : List Declaration) (fs : List FormView) → AreForms ds fs → (T : Shape) (v : ValueView) → written fs T v ≡ shown ds T v
  as_shown ds fs are T (int z) = refl
  as_shown ds fs are T (long z) = refl
  as_shown ds fs are T (nat n) = refl
  as_shown ds fs are T (opaque bytes) = refl
  as_shown ds fs are T (text bytes) = refl
  as_shown ds fs are T truth = refl
  as_shown ds fs are T absent = refl
  as_shown ds fs are T (list vs) = ap array (each_as_shown ds fs are (item_of T) vs)
  as_shown ds fs are T (node i vs) =
      ap object (record_as_shown ds (slice_get ds i) (slice_get fs i) (at_index ds fs are i) (arguments_of T) (read_at fs vs) vs (index_as_shown ds fs are vs))
  as_shown ds fs are T (call i vs) =
      ap object (record_as_shown ds (slice_get ds i) (slice_get fs i) (at_index ds fs are i) [] (read_at fs vs) vs (index_as_shown ds fs are vs))

  each_as_shown : (ds : List Declaration) (fs : List FormView) → AreForms ds fs → (T : Shape) (vs : ValueViews) → written_each fs T vs ≡ shown_each ds T vs
  each_as_shown ds fs are T no_values = refl
  each_as_shown ds fs are T (value v vs) = ap₂ item (as_shown ds fs are T v) (each_as_shown ds fs are T vs)

  index_as_shown : (ds : List Declaration) (fs : List FormView) → AreForms ds fs → (vs : ValueViews) (i : ℕ) (T : Shape) → read_at fs vs i T ≡ shown_at ds vs i T
  index_as_shown ds fs are no_values i T = refl
  index_as_shown ds fs are (value v vs) zero T = ap (unless_missing (is_absent v)) (as_shown ds fs are T v)
  index_as_shown ds fs are (value v vs) (suc i) T = index_as_shown ds fs are vs i T
