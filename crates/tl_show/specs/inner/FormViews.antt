-- The forms that the code's own stand for. This project's own.
use Rattle.std.specs.Prelude.{ℕ, List, ◌∷◌, map, String, string_bytes}
use Rattle.std.specs.declared.alloc.Global.{Global}
use Rattle.tl_schema.specs.Seen.{shape}
use Rattle.tl_show.specs.inner.Forms.{PartView, Keys, FormView}
use Rattle.tl_show.specs.inner.Forms as form
use Rattle.tl_show.specs.declared.form.Part.{Part}
use Rattle.tl_show.specs.declared.form.Part.TheVariants.{Name, Field}
use Rattle.tl_show.specs.declared.form.KeyParts.{KeyParts}
use Rattle.tl_show.specs.declared.form.Key.{Key}
use Rattle.tl_show.specs.declared.form.JsonForm.{JsonForm}

abbrev pub part_view : Part → PartView
part_view Name = form.name
part_view (Field i of) = form.field i (shape of)

abbrev pub parts_view : KeyParts → List PartView
parts_view p = part_view p.first ∷ map part_view p.later.items

abbrev pub entry_view : String Global × KeyParts → List ℕ × List PartView
entry_view e = (string_bytes e.0, parts_view e.1)

abbrev pub entry_views : List (String Global × KeyParts) → Keys
entry_views es = map entry_view es

abbrev pub key_view : Key → List ℕ × List PartView
key_view k = (string_bytes k.name, parts_view k.parts)

abbrev pub key_views : List Key → Keys
key_views ks = map key_view ks

abbrev pub form_view : JsonForm → FormView
form_view f = record { name = string_bytes f.name; keys = key_views f.keys.items }
