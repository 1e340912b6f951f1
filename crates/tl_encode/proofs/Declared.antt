-- The spelling of a record and of a call.
use Rattle.std.proofs.Common.{◌≡◌, ℕ, List, [], ◌++◌, slice_get, Some, Result, sym, ap, ◌∙◌, subst}
use Rattle.std.specs.Prelude.{OnOk}
use Rattle.tl_numbers.specs.Numbers.{word}
use Rattle.tl_schema.specs.Types.{Shape, Shapes, no_shapes, shapes_of}
use Rattle.tl_schema.specs.Types as type
use Rattle.tl_schema.specs.Closing.{list_of_shapes}
use Rattle.tl_schema.specs.Schemas.{Declaration, Slot, Declared}
use Rattle.tl_types.specs.Values.{ValueViews, node}
use Rattle.tl_types.specs.Parts.{arguments_of}
use Rattle.tl_types.specs.Spelling.{Spells, SpellFields}
use Rattle.tl_types.specs.Spelling as begins
use Rattle.tl_types.proofs.DeclaredParts.{list_again}
use Rattle.tl_types.proofs.Members.{some_is}
use Rattle.tl_encode.proofs.ShapeParts.{never_both_kinds}
use Rattle.tl_encode.proofs.Joins.{on_ok, joined}

fields_again : (schema : Declared) (own args : List Shape) (d e : Declaration) (slots : List Slot) (vs : ValueViews) (b : List ℕ) → own ≡ args → d ≡ e → e.fields ≡ slots → SpellFields schema own [] d.fields vs b → SpellFields schema args [] slots vs b
fields_again schema own args d e slots vs b same one kinds fields =
    subst (λ (us : List Shape). SpellFields schema us [] slots vs b) same (subst (λ (l : List Slot). SpellFields schema own [] l vs b) (ap (λ (x : Declaration). x.fields) one ∙ kinds) fields)

-- declaration i is e
pub boxed_put : {E : Type 0} (schema : Declared) (T : Shape) (i : ℕ) (vs : ValueViews) (e : Declaration) (slots : List Slot) (h : ℕ) (args : List Shape) (old mid new : List ℕ) (res : Result (Unit {0}) E)
    → T ≡ type.boxed h (shapes_of args) → slice_get schema.decls i ≡ Some e → e.fields ≡ slots → mid ≡ old ++ word e.number
    → ((b : List ℕ) → SpellFields schema args [] slots vs b → OnOk res (new ≡ mid ++ b)) → (b : List ℕ) → Spells schema T (node i vs) b → OnOk res (new ≡ old ++ b)
boxed_put schema T i vs e slots h args old mid new res is at kinds number fields b (d, own, prefix, rest, begins.boxed g same m first, split, inner) =
    let one : d ≡ e = some_is d e (sym m.there ∙ at) in
    let own_is : list_of_shapes own ≡ args = sym (ap arguments_of same) ∙ ap arguments_of is ∙ list_again args in
    let prefix_is : prefix ≡ word e.number = first ∙ ap (λ (x : Declaration). word x.number) one in
    on_ok res (λ n. joined old mid prefix rest b new (number ∙ ap (λ (z : List ℕ). old ++ z) (sym prefix_is)) split n) (fields rest (fields_again schema (list_of_shapes own) args d e slots vs rest own_is one kinds inner))
boxed_put schema T i vs e slots h args old mid new res is at kinds number fields b (d, own, prefix, rest, begins.bare same there first, split, inner) =
    never_both_kinds T h i (shapes_of args) own is same

pub bare_put : {E : Type 0} (schema : Declared) (T : Shape) (i j : ℕ) (vs : ValueViews) (e : Declaration) (slots : List Slot) (args : List Shape) (old new : List ℕ) (res : Result (Unit {0}) E)
    → T ≡ type.bare j (shapes_of args) → slice_get schema.decls i ≡ Some e → e.fields ≡ slots
    → ((b : List ℕ) → SpellFields schema args [] slots vs b → OnOk res (new ≡ old ++ b)) → (b : List ℕ) → Spells schema T (node i vs) b → OnOk res (new ≡ old ++ b)
bare_put schema T i j vs e slots args old new res is at kinds fields b (d, own, prefix, rest, begins.bare same there first, split, inner) =
    let own_is : list_of_shapes own ≡ args = sym (ap arguments_of same) ∙ ap arguments_of is ∙ list_again args in
    let b_is : b ≡ rest = split ∙ ap (λ (z : List ℕ). z ++ rest) first in
    on_ok res (λ n. n ∙ ap (λ (z : List ℕ). old ++ z) (sym b_is)) (fields rest (fields_again schema (list_of_shapes own) args d e slots vs rest own_is (some_is d e (sym there ∙ at)) kinds inner))
bare_put schema T i j vs e slots args old new res is at kinds fields b (d, own, prefix, rest, begins.boxed g same m first, split, inner) =
    never_both_kinds T g j own (shapes_of args) same is
