-- What an entry takes from a resolved declaration.
use Rattle.std.proofs.Common.{◌≡◌, Bool, ℕ, List, length, map, slice_get, Some, refl, ap, sym, ◌∙◌}
use Rattle.std.proofs.lemmas.List.{length-map}
use Rattle.std.proofs.lemmas.Option.{same_Some}
use Rattle.tl_program.specs.Program.{DeclText}
use Rattle.tl_names.specs.Writing.{is_function, own_type}
use Rattle.tl_names.proofs.Maps.{slice_get_made}
use Rattle.tl_schema.specs.Meanings.{declaration_of, head_in, result_shape, slot_of}
use Rattle.tl_schema.specs.Schemas.{Declaration, Slot}
use Rattle.tl_schema.specs.Types.{Shape}

-- lists of which the same is made have the same length, and the same is made of each two elements
module _ {X Y Z : Type 0} (f : X → Z) (g : Y → Z) (xs : List X) (ys : List Y) (same : map f xs ≡ map g ys) where
  pub same_length : length xs ≡ length ys
  same_length = sym (length-map xs f) ∙ ap length same ∙ length-map ys g

  pub same_made : (i : ℕ) (x : X) (y : Y) → slice_get xs i ≡ Some x → slice_get ys i ≡ Some y → f x ≡ g y
  same_made i x y x_at y_at =
      same_Some (f x) (g y) (sym (slice_get_made f xs i x x_at) ∙ ap (λ zs. slice_get zs i) same ∙ slice_get_made g ys i y y_at)

-- an entry by its parts
pub entry_is : (ds : List DeclText) (d : DeclText) (n : ℕ) (name : List ℕ) (vars : ℕ) (fields : List Slot) (function : Bool) (head : ℕ) (result : Shape) → name ≡ d.name → vars ≡ length d.vars → fields ≡ map (slot_of ds d) d.fields → function ≡ is_function d → head ≡ head_in ds (own_type d) → result ≡ result_shape ds d → ◌≡◌ {A = Declaration} (record { name = name; number = n; vars = vars; fields = fields; function = function; head = head; result = result }) (declaration_of ds d n)
entry_is ds d n name vars fields function head result name_is vars_are fields_are function_is head_is result_is = rw (name_is, vars_are, fields_are, function_is, head_is, result_is) refl
