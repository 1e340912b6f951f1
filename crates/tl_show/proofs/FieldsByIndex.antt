-- The values of a record by their indexes, and its form by its declaration's.
use Rattle.std.proofs.Common.{◌≡◌, ℕ, zero, suc, ◌<◌, ◌≤◌, List, [], ◌∷◌, length, get_or, map, Option, None, refl, sym, ap, ◌∙◌, arith}
use Rattle.std.specs.Prelude.{slice_get}
use Rattle.std.proofs.lemmas.Option.{slice_get_past}
use Rattle.std.proofs.lemmas.List.{length-map}
use Rattle.serde_json.specs.Data.{Data}
use Rattle.tl_names.proofs.Maps.{slice_get_item}
use Rattle.tl_schema.specs.Types.{Shape}
use Rattle.tl_schema.specs.Closing.{closed}
use Rattle.tl_schema.specs.Seen.{shape}
use Rattle.tl_schema.specs.declared.schema.TypeRef.{TypeRef}
use Rattle.tl_types.specs.Values.{ValueView, ValueViews, node, call}
use Rattle.tl_types.specs.Seen.{view, views}
use Rattle.tl_types.specs.declared.value.Value.{Value}
use Rattle.tl_types.specs.Parts.{arguments_of, is_absent}
use Rattle.tl_show.specs.inner.Forms.{FormView, form_in, part_of, read_at, record_by, unless_missing, written}
use Rattle.tl_show.specs.inner.FormViews.{form_view, part_view}
use Rattle.tl_show.specs.declared.form.JsonForm.{JsonForm}
use Rattle.tl_show.specs.declared.form.Part.{Part}
use Rattle.tl_show.specs.declared.form.Part.TheVariants.{Field}

-- a value of a type, unless it is that of a field that isn't there
abbrev there : List FormView → Shape → Value → Option Data
there fs T v = unless_missing (is_absent (view v)) (written fs T (view v))

read_within : (fs : List FormView) (T : Shape) (vs : List Value) (i : ℕ) (d : Value) → i < length vs → read_at fs (views vs) i T ≡ there fs T (get_or vs i d)
read_within fs T [] i d within = absurd (omega arith)
read_within fs T (v ∷ vs) zero d within = refl
read_within fs T (v ∷ vs) (suc i) d within = read_within fs T vs i d (omega arith)

read_past : (fs : List FormView) (T : Shape) (vs : List Value) (i : ℕ) → length vs ≤ i → read_at fs (views vs) i T ≡ None
read_past fs T [] i past = refl
read_past fs T (v ∷ vs) zero past = absurd (omega arith)
read_past fs T (v ∷ vs) (suc i) past = read_past fs T vs i (omega arith)

pub field_there : (fs : List FormView) (n : List ℕ) (args : List Shape) (vs : List Value) (p : Part) (i : ℕ) (of : TypeRef) (v : Value) → p ≡ Field i of
    → i < length vs → v ≡ get_or vs i v
    → part_of n args (read_at fs (views vs)) (part_view p) ≡ unless_missing (is_absent (view v)) (written fs (closed args (shape of)) (view v))
field_there fs n args vs p i of v is within at =
    rw is (read_within fs (closed args (shape of)) vs i v within ∙ ap (there fs (closed args (shape of))) (sym at))

pub field_past : (fs : List FormView) (n : List ℕ) (args : List Shape) (vs : List Value) (p : Part) (i : ℕ) (of : TypeRef) → p ≡ Field i of → length vs ≤ i
    → part_of n args (read_at fs (views vs)) (part_view p) ≡ None
field_past fs n args vs p i of is past = rw is (read_past fs (closed args (shape of)) vs i past)

pub form_there : (forms : List JsonForm) (i : ℕ) (f : JsonForm) → i < length forms → f ≡ get_or forms i f → form_in (slice_get (map form_view forms) i) ≡ form_view f
form_there forms i f within at = ap form_in (slice_get_item form_view forms i f within at)

pub form_past : (forms : List JsonForm) (i : ℕ) → length forms ≤ i → slice_get (map form_view forms) i ≡ None
form_past forms i past = slice_get_past (map form_view forms) i (rw (length-map forms form_view) past)

pub node_written : (fs : List FormView) (T : Shape) (v : ValueView) (i : ℕ) (vs : ValueViews) (args : List Shape) → v ≡ node i vs → args ≡ arguments_of T
    → written fs T v ≡ record_by fs i args (read_at fs vs)
node_written fs T v i vs args is same = rw (is, same) refl

pub call_written : (fs : List FormView) (T : Shape) (v : ValueView) (i : ℕ) (vs : ValueViews) (args : List Shape) → v ≡ call i vs → args ≡ []
    → written fs T v ≡ record_by fs i args (read_at fs vs)
call_written fs T v i vs args is same = rw (is, same) refl
