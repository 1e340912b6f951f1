-- The declaration with a number is the only one that is found by it.
use Rattle.std.proofs.Common.{◌≡◌, inl, inr, ℕ, ◌<◌, length, slice_get, Option, Some, None, ap, sym, ◌∙◌, subst, true, false, true≢false, arith, IfSome}
use Rattle.std.proofs.lemmas.Bool.{and_parts, and_from, cases_order, eqb-true, eq-eqb}
use Rattle.std.proofs.lemmas.Option.{same_Some, slice_get_within}
use Rattle.tl_names.specs.Indexes.{types_of}
use Rattle.tl_schema.specs.Numbers.{IsNumbered}
use Rattle.tl_schema.specs.Schemas.{Declaration, Declared}
use Rattle.tl_schema.specs.Meanings.{IsNumberWhere}
use Rattle.tl_schema.specs.SameNumber.{SameNumber, earlier}
use Rattle.tl_schema.specs.CheckedPrograms.{IsSchema, FindsNumber}
use Rattle.tl_schema.specs.Formed.{IsMember, IsFunction, IsOwn}
use Rattle.tl_types.proofs.Members.{NumbersTell, member_found, function_found, no_member, no_function}
use Rattle.tl_types.proofs.SchemaNumbers.{numbers_tell}
use Rattle.tl_types.specs.inner.Reading.{first_from, is_member, is_function}

module _ (schema : Declared) (good : IsSchema schema) where
  tell : NumbersTell schema
  tell = numbers_tell schema good

  -- the number of an own declaration is that of its entry
  own_number : (i n : ℕ) (e : Declaration) → slice_get schema.decls i ≡ Some e → IsOwn schema i → e.number ≡ n → IsNumbered schema.program i n
  own_number i n e there (d, at, own) same =
      subst (IsNumbered schema.program i) same (record { d = d; here = at; own = own; number = subst (λ b. IsNumberWhere b d e.number) own (good.entries i d e at there).0 })

  free : (k : ℕ) → SameNumber schema.program k → ⊥
  free = good.passes.1.1.1.1.1.1.1.0

  one_index : (j k n : ℕ) → IsNumbered schema.program j n → IsNumbered schema.program k n → j ≡ k
  one_index j k n first second = elim (cases_order j k) [
    | inl e ↦ e
    | inr (inl less) ↦ absurd (free k (earlier j n less first second))
    | inr (inr more) ↦ absurd (free j (earlier k n more second first))
  ]

  -- what a map gives
  module _ (n : ℕ) where
    pub numbered_within : (result : Option ℕ) → FindsNumber schema.program n result → IfSome result (λ i. i < length schema.decls)
    numbered_within (Some i) x = let below = slice_get_within schema.program i x.d x.here in omega (arith, below, good.count)
    numbered_within None none = tt

    -- no own declaration has the number
    abbrev IsFree : Type 0
    IsFree = (i : ℕ) → IsNumbered schema.program i n → ⊥

    -- declaration i has it, and its entry is e
    module _ (i : ℕ) (e : Declaration) (there : slice_get schema.decls i ≡ Some e) (x : IsNumbered schema.program i n) where
      is_that : (j : ℕ) (d : Declaration) → slice_get schema.decls j ≡ Some d → IsNumbered schema.program j n → d ≡ e
      is_that j d at y = same_Some d e (sym at ∙ ap (slice_get schema.decls) (one_index j i n y x) ∙ there)

      pub function_other : is_function n e ≡ false → None ≡ first_from (is_function n) 0 schema.decls
      function_other other = sym (no_function schema tell n none)
        where
          none : (j : ℕ) × (d : Declaration) × IsFunction schema j d × (d.number ≡ n) → ⊥
          none (j, d, m, same) =
              let one = is_that j d m.there (own_number j n d m.there (tell.own_functions j d m) same) in
              true≢false (sym (and_from _ _ m.function (eq-eqb _ _ same)) ∙ ap (is_function n) one ∙ other)

      module _ (h : ℕ) (known : h < length (types_of schema.program)) where
        pub member_other : is_member h n e ≡ false → None ≡ first_from (is_member h n) 0 schema.decls
        member_other other = sym (no_member schema tell h n known none)
          where
            none : (j : ℕ) × (d : Declaration) × IsMember schema h j d × (d.number ≡ n) → ⊥
            none (j, d, m, same) =
                let one = is_that j d m.there (own_number j n d m.there (tell.own_members h j d m) same) in
                true≢false (sym (and_from _ _ (eq-eqb _ _ m.head) (eq-eqb _ _ same)) ∙ ap (is_member h n) one ∙ other)

    pub function_none : IsFree → None ≡ first_from (is_function n) 0 schema.decls
    function_none none = sym (no_function schema tell n (λ m. none m.0 (own_number m.0 n m.1 m.2.there (tell.own_functions m.0 m.1 m.2) m.3)))

    pub function_here : (i : ℕ) (e : Declaration) → slice_get schema.decls i ≡ Some e → is_function n e ≡ true → Some i ≡ first_from (is_function n) 0 schema.decls
    function_here i e there is =
        let both = and_parts _ _ is in
        sym (subst (λ w. first_from (is_function w) 0 schema.decls ≡ Some i) (eqb-true _ _ both.1) (function_found schema tell i e (record { there = there; function = both.0 })))

    module _ (h : ℕ) (known : h < length (types_of schema.program)) where
      pub member_none : IsFree → None ≡ first_from (is_member h n) 0 schema.decls
      member_none none = sym (no_member schema tell h n known (λ m. none m.0 (own_number m.0 n m.1 m.2.there (tell.own_members h m.0 m.1 m.2) m.3)))

      pub member_here : (i : ℕ) (e : Declaration) → slice_get schema.decls i ≡ Some e → is_member h n e ≡ true → Some i ≡ first_from (is_member h n) 0 schema.decls
      member_here i e there is =
          let both = and_parts _ _ is in
          sym (subst (λ w. first_from (is_member h w) 0 schema.decls ≡ Some i) (eqb-true _ _ both.1) (member_found schema tell h i e (record { there = there; head = eqb-true _ _ both.0; known = known })))
