-- Numbers of a schema's entries: those of own declarations are apart, and none is that of a packed value.
use Rattle.std.proofs.Common.{◌≡◌, ◌≢◌, inl, inr, ℕ, ◌<◌, ◌&&◌, not, Bool, true, false, List, length, bytes_eq, codes, slice_get, Option, Some, None, refl, ap, sym, ◌∙◌, subst, true≢false, arith, if◌then◌else◌}
use Rattle.std.proofs.lemmas.Bool.{cases_Bool, cases_order}
use Rattle.std.proofs.lemmas.Option.{slice_get_cases, slice_get_within}
use Rattle.tl_program.specs.Program.{DeclText}
use Rattle.tl_names.specs.Writing.{At, is_constructor, result_head, own_type}
use Rattle.tl_schema.specs.Numbers.{IsNumbered}
use Rattle.tl_schema.specs.Schemas.{Declaration, Declared, vector_number, packed_number}
use Rattle.tl_names.specs.Indexes.{types_of}
use Rattle.tl_schema.specs.Meanings.{head_in, IsNumberWhere, IsEntry, line_number}
use Rattle.tl_schema.specs.SameNumber.{SameNumber, earlier, packed}
use Rattle.tl_schema.specs.CheckedPrograms.{IsSchema}
use Rattle.tl_schema.specs.Formed.{IsMember, IsFunction, IsOwn}
use Rattle.tl_schema.proofs.Members.{own_by_head}
use Rattle.tl_types.proofs.Members.{NumbersTell}

-- ---- which entries are of own declarations

own_constructor : (function built : Bool) → (not function && not built) ≡ true → (function ≡ false) × (built ≡ false)
own_constructor false false e = (refl, refl)
own_constructor false true e = absurd (true≢false (sym e))
own_constructor true built e = absurd (true≢false (sym e))

no_line : (function built : Bool) → (function && not built) ≡ true → built ≡ false
no_line true false e = refl
no_line true true e = absurd (true≢false (sym e))
no_line false built e = absurd (true≢false (sym e))

line_unpacked : (name : List ℕ) → line_number name ≢ packed_number
line_unpacked name e = by (bytes_eq name (codes "vector")) e
  where
    by : (b : Bool) → (if b then vector_number else 0) ≡ packed_number → ⊥
    by true is = omega (arith, is)
    by false is = omega (arith, is)

-- ---- numbers of a program's declarations

module _ (ds : List DeclText) (free : (k : ℕ) → SameNumber ds k → ⊥) where
  one_place : (j k n : ℕ) → IsNumbered ds j n → IsNumbered ds k n → j ≡ k
  one_place j k n first second = elim (cases_order j k) [
    | inl e ↦ e
    | inr (inl less) ↦ absurd (free k (earlier j n less first second))
    | inr (inr more) ↦ absurd (free j (earlier k n more second first))
  ]

  module _ (k : ℕ) (d : DeclText) (e : Declaration) (there : At ds k d) (entry : IsEntry ds d e) where
    own_number : d.builtin ≡ false → IsNumbered ds k e.number
    own_number own = record { d = d; here = there; own = own; number = subst (λ b. IsNumberWhere b d e.number) own entry.0 }

    own_of : e.head < length (types_of ds) → (d.function ≡ false) × (d.builtin ≡ false)
    own_of below =
        let head : e.head ≡ head_in ds (own_type d) = ap (λ (x : Declaration). x.head) entry.1 in
        own_constructor d.function d.builtin (own_by_head ds (is_constructor d) (result_head d) (omega (arith, below, head)))

    constructor_entry : e.head < length (types_of ds) → e.function ≡ false
    constructor_entry below = ap (λ (x : Declaration). x.function) entry.1 ∙ ap (λ (b : Bool). b && not d.builtin) (own_of below).0

    unpacked : e.number ≢ packed_number
    unpacked is = elim (cases_Bool d.builtin) [
      | inl line ↦ line_unpacked d.name (sym (subst (λ b. IsNumberWhere b d e.number) line entry.0) ∙ is)
      | inr own ↦ free k (packed (subst (IsNumbered ds k) is (own_number own)))
    ]

    own_of_function : e.function ≡ true → d.builtin ≡ false
    own_of_function is = no_line d.function d.builtin (sym (ap (λ (x : Declaration). x.function) entry.1) ∙ is)

-- ---- numbers of a schema's entries

module _ (schema : Declared) (good : IsSchema schema) where
  free : (k : ℕ) → SameNumber schema.program k → ⊥
  free = good.passes.1.1.1.1.1.1.1.0

  declared : (k : ℕ) (e : Declaration) → slice_get schema.decls k ≡ Some e → (d : DeclText) × At schema.program k d
  declared k e at = elim (slice_get_cases schema.program k).1 [
    | inl (d, below, here, is) ↦ (d, here)
    | inr (past, none) ↦ absurd (let within = slice_get_within schema.decls k e at in omega (arith, within, past, good.count))
  ]

  below_types : (h i : ℕ) (e : Declaration) → IsMember schema h i e → e.head < length (types_of schema.program)
  below_types h i e m = omega (arith, m.head, m.known)

  member_own : (h i : ℕ) (e : Declaration) → IsMember schema h i e → (e.function ≡ false) × IsOwn schema i × IsNumbered schema.program i e.number
  member_own h i e m =
      let t = declared i e m.there in
      let entry = good.entries i t.0 e t.1 m.there in
      let own = (own_of schema.program free i t.0 e t.1 entry (below_types h i e m)).1 in
      (constructor_entry schema.program free i t.0 e t.1 entry (below_types h i e m), (t.0, t.1, own), own_number schema.program free i t.0 e t.1 entry own)

  function_own : (i : ℕ) (e : Declaration) → IsFunction schema i e → IsOwn schema i × IsNumbered schema.program i e.number
  function_own i e m =
      let t = declared i e m.there in
      let entry = good.entries i t.0 e t.1 m.there in
      let own = own_of_function schema.program free i t.0 e t.1 entry m.function in
      ((t.0, t.1, own), own_number schema.program free i t.0 e t.1 entry own)

  entry_unpacked : (i : ℕ) (e : Declaration) → slice_get schema.decls i ≡ Some e → e.number ≢ packed_number
  entry_unpacked i e at = let t = declared i e at in unpacked schema.program free i t.0 e t.1 (good.entries i t.0 e t.1 at)

  pub numbers_tell : NumbersTell schema
  numbers_tell =
      record {
        members = λ h i j d e m k same. one_place schema.program free i j e.number (subst (IsNumbered schema.program i) same (member_own h i d m).2) (member_own h j e k).2;
        functions = λ i j d e m k same. one_place schema.program free i j e.number (subst (IsNumbered schema.program i) same (function_own i d m).1) (function_own j e k).1;
        fits = good.fits;
        unpacked = entry_unpacked;
        constructs = λ h i d m. (member_own h i d m).0;
        own_members = λ h i d m. (member_own h i d m).1;
        own_functions = λ i d m. (function_own i d m).0;
      }
