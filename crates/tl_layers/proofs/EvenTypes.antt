-- The constructors of a type have one number of variables.
use Rattle.std.proofs.Common.{◌≡◌, ℕ, length, Some, refl, ap, sym, ◌∙◌, arith}
use Rattle.std.specs.Option.{unwrap_or}
use Rattle.tl_names.specs.Writing.{is_constructor, result_head, own_type}
use Rattle.tl_names.specs.Indexes.{types_of}
use Rattle.tl_names.proofs.NameMeanings.{type_number}
use Rattle.tl_schema.specs.CheckedPrograms.{IsSchema}
use Rattle.tl_schema.specs.Formed.{IsMember, AppliesType}
use Rattle.tl_schema.specs.Meanings.{head_in}
use Rattle.tl_schema.specs.Schemas.{Declaration, Declared}
use Rattle.tl_schema.proofs.Members.{applies_type, declaration_at, own_by_head, own_of, type_made}

pub even : (schema : Declared) → IsSchema schema → (h i j : ℕ) (d e : Declaration) → IsMember schema h i d → IsMember schema h j e → d.vars ≡ e.vars
even schema good h i j d e m n =
    let ds = schema.program in
    let t = declaration_at schema good j e n.there in
    let head : e.head ≡ head_in ds (own_type t.0) = ap (λ (x : Declaration). x.head) t.2.1 in
    let own = own_by_head ds (is_constructor t.0) (result_head t.0) (let a = n.head in let b = n.known in omega (arith, head, a, b)) in
    let made = type_made schema good j t.0 t.1 own in
    let number = type_number ds made.0 j t.0 made.1 in
    let same : h ≡ number.0 = sym n.head ∙ head ∙ ap (head_in ds) (own_of ds made.0 j t.0 made.1) ∙ ap (λ o. unwrap_or o (length (types_of ds))) number.1 in
    let all : AppliesType schema h (length (t.0).vars) = applies_type schema good made.0 j t.0 made.1 h (length (t.0).vars) (number.1 ∙ ap Some (sym same)) refl in
    all.arity i d m ∙ sym (all.arity j e n)
