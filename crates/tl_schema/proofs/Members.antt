-- The entries of a schema's declarations: own constructors are members of their types, which have one number of variables.
use Rattle.std.proofs.Common.{◌≡◌, inl, inr, ℕ, ◌<◌, Bool, true, false, not, ◌&&◌, List, length, slice_get, Option, Some, None, refl, ap, ap₂, sym, ◌∙◌, arith, if◌then◌else◌}
use Rattle.std.specs.Option.{unwrap_or}
use Rattle.std.proofs.lemmas.Bool.{cases_eq}
use Rattle.std.proofs.lemmas.Option.{none-some, slice_get_within, slice_get_cases}
use Rattle.tl_program.specs.Program.{DeclText}
use Rattle.tl_names.specs.Writing.{At, is_constructor, result_head, own_type, IsConstructorOf}
use Rattle.tl_names.specs.Writing as writing
use Rattle.tl_schema.specs.BadResult.{IsGoodResult}
use Rattle.tl_schema.specs.CheckCauses.{NoneHas}
use Rattle.tl_schema.specs.declared.fault.CheckCause.TheVariants as cause
use Rattle.tl_schema.specs.CheckedPrograms.{IsSchema}
use Rattle.tl_schema.specs.Schemas.{Declaration, Declared}
use Rattle.tl_schema.specs.Meanings.{IsEntry, head_in}
use Rattle.tl_names.specs.Indexes.{types_of}
use Rattle.tl_names.specs.What.{type_named}
use Rattle.tl_names.proofs.NameMeanings.{type_number}
use Rattle.tl_names.proofs.TypeNumbers.{index_apart, type_at}
use Rattle.tl_schema.specs.Formed.{IsMember, AppliesType, AppliesBare}

-- ---- the type of a constructor

made_by : (type : List ℕ) (b : Bool) (o : Option (List ℕ)) → (if b then o else None) ≡ Some type → (b ≡ true) × (o ≡ Some type)
made_by type true o e = (refl, e)
made_by type false o e = absurd (none-some type e)

module _ (ds : List DeclText) (type : List ℕ) (i : ℕ) (d : DeclText) where
  pub own_of : IsConstructorOf ds type i d → own_type d ≡ Some type
  own_of c = ap (λ b. if b then result_head d else None) c.own ∙ c.head

  made_of : At ds i d → own_type d ≡ Some type → IsConstructorOf ds type i d
  made_of at own = let made = made_by type (is_constructor d) (result_head d) own in record { there = at; own = made.0; head = made.1 }

good_head : (d : DeclText) (g : IsGoodResult d) → result_head d ≡ Some g.type
good_head d g = ap (writing.head_in d) g.applied ∙ ap₂ (λ a b. if a && not b then Some g.type else None) g.upper g.no_variable

-- the head of any other is the number of types
pub own_by_head : (ds : List DeclText) (own : Bool) (head : Option (List ℕ)) → head_in ds (if own then head else None) < length (types_of ds) → own ≡ true
own_by_head ds true head below = refl
own_by_head ds false head below = absurd (omega (arith, below))

module _ (schema : Declared) (good : IsSchema schema) where
  -- ---- declarations and their entries

  pub declaration_at : (i : ℕ) (e : Declaration) → slice_get schema.decls i ≡ Some e → (d : DeclText) × At schema.program i d × IsEntry schema.program d e
  declaration_at i e there = elim (slice_get_cases schema.program i).1 [
    | inl (d, below, here, is) ↦ (d, here, good.entries i d e here there)
    | inr (past, none) ↦ absurd (let within = slice_get_within schema.decls i e there in omega (arith, within, past, good.count))
  ]

  pub entry_at : (i : ℕ) (d : DeclText) → At schema.program i d → (e : Declaration) × (slice_get schema.decls i ≡ Some e) × IsEntry schema.program d e
  entry_at i d at = elim (slice_get_cases schema.decls i).1 [
    | inl (e, below, here, is) ↦ (e, here, good.entries i d e at here)
    | inr (past, none) ↦ absurd (let within = slice_get_within schema.program i d at in omega (arith, within, past, good.count))
  ]

  -- ---- members of a type

  even : NoneHas schema.program cause.WrongArity
  even = good.passes.1.1.1.0

  good_results : NoneHas schema.program cause.BadResult
  good_results = good.passes.1.1.1.1.0

  module _ (type : List ℕ) where
    module _ (h : ℕ) (numbered : type_named schema.program type ≡ Some h) where
      below : h < length (types_of schema.program)
      below = slice_get_within (types_of schema.program) h type (type_at schema.program type h numbered)

      pub member : (i : ℕ) (d : DeclText) (e : Declaration) → IsConstructorOf schema.program type i d → slice_get schema.decls i ≡ Some e → IsEntry schema.program d e → IsMember schema h i e
      member i d e c there is = record {
        there = there;
        head = ap (λ (x : Declaration). x.head) is.1 ∙ ap (head_in schema.program) (own_of schema.program type i d c) ∙ ap (λ o. unwrap_or o (length (types_of schema.program))) numbered;
        known = below;
      }

      -- an entry with the number of the type is that of a constructor of it
      constructs : (i : ℕ) (d : DeclText) → At schema.program i d → (o : Option (List ℕ)) → own_type d ≡ o → head_in schema.program o ≡ h → IsConstructorOf schema.program type i d
      constructs i d at None own e = absurd (omega (arith, below, e))
      constructs i d at (Some other) own e =
          let number = type_number schema.program other i d (made_of schema.program other i d at own) in
          let is : number.0 ≡ h = sym (ap (λ o. unwrap_or o (length (types_of schema.program))) number.1) ∙ e in
          let same : other ≡ type = index_apart (types_of schema.program) other type h (number.1 ∙ ap Some is) numbered in
          made_of schema.program type i d at (own ∙ ap Some same)

    module _ (j : ℕ) (c : DeclText) (one : IsConstructorOf schema.program type j c) where
      same_count : (i : ℕ) (d : DeclText) → IsConstructorOf schema.program type i d → length d.vars ≡ length c.vars
      same_count i d made = elim (cases_eq (length d.vars) (length c.vars)) [
        | inl e ↦ e
        | inr other ↦ absurd (even i (record {
          d = d;
          here = made.there;
          has = inr (record { type = type; own = own_of schema.program type i d made; uneven = record { i = i; b = d; j = j; c = c; one = made; other = one; apart = other } });
        }))
      ]

      -- the type is applied to as many types as one of its constructors has variables
      pub applies_type : (h n : ℕ) → type_named schema.program type ≡ Some h → n ≡ length c.vars → AppliesType schema h n
      applies_type h n numbered count = record { known = below h numbered; arity = λ i e m. member_count i e m ∙ sym count }
        where
          member_count : (i : ℕ) (e : Declaration) → IsMember schema h i e → e.vars ≡ length c.vars
          member_count i e m =
              let d = declaration_at i e m.there in
              let head = sym (ap (λ (x : Declaration). x.head) d.2.1) ∙ m.head in
              ap (λ (x : Declaration). x.vars) d.2.1 ∙ same_count i d.0 (constructs h numbered i d.0 d.1 (own_type d.0) refl head)

      -- so the constructor is too
      pub applies_one : (h n : ℕ) → type_named schema.program type ≡ Some h → AppliesType schema h n → AppliesBare schema j n
      applies_one h n numbered applies =
          let e = entry_at j c one.there in
          let m = member h numbered j c e.0 one e.1 e.2 in
          record { h = h; d = e.0; member = m; arity = applies.arity j e.0 m }

      pub applies_bare : (n : ℕ) → n ≡ length c.vars → AppliesBare schema j n
      applies_bare n count = let number = type_number schema.program type j c one in applies_one number.0 n number.1 (applies_type number.0 n number.1 count)

  -- an own constructor is one of a type
  pub type_made : (i : ℕ) (d : DeclText) → At schema.program i d → is_constructor d ≡ true → (type : List ℕ) × IsConstructorOf schema.program type i d
  type_made i d at own = by (result_head d) refl
    where
      by : (o : Option (List ℕ)) → result_head d ≡ o → (type : List ℕ) × IsConstructorOf schema.program type i d
      by (Some type) e = (type, record { there = at; own = own; head = e })
      by None e =
          absurd (good_results i (record { d = d; here = at; has = record { own = own; bad = λ g. none-some g.type (sym e ∙ good_head d g) } }))
