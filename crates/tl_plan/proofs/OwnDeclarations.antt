-- Constructors of a type and functions are no lines of built-in types.
use Rattle.std.proofs.Common.{◌≡◌, ℕ, ◌<◌, Bool, true, false, not, ◌&&◌, List, length, Option, None, refl, ap, sym, ◌∙◌, true≢false, arith, if◌then◌else◌}
use Rattle.tl_names.specs.Indexes.{types_of}
use Rattle.tl_names.specs.Writing.{is_constructor, own_type, result_head}
use Rattle.tl_schema.specs.CheckedPrograms.{IsSchema}
use Rattle.tl_schema.specs.Formed.{IsFunction, IsMember, IsOwn}
use Rattle.tl_schema.specs.Meanings.{head_in}
use Rattle.tl_schema.specs.Schemas.{Declaration, Declared}
use Rattle.tl_schema.proofs.Members.{declaration_at}

own_constructor : (function built : Bool) → (not function && not built) ≡ true → (function ≡ false) × (built ≡ false)
own_constructor false false e = (refl, refl)
own_constructor false true e = absurd (true≢false (sym e))
own_constructor true built e = absurd (true≢false (sym e))

no_line : (function built : Bool) → (function && not built) ≡ true → built ≡ false
no_line true false e = refl
no_line true true e = absurd (true≢false (sym e))
no_line false built e = absurd (true≢false (sym e))

module _ (S : Declared) (good : IsSchema S) where
  -- the head of any other is the number of types
  constructs : (own : Bool) (head : Option (List ℕ)) → head_in S.program (if own then head else None) < length (types_of S.program) → own ≡ true
  constructs true head below = refl
  constructs false head below = absurd (omega (arith, below))

  pub member_own : (h i : ℕ) (e : Declaration) → IsMember S h i e → (e.function ≡ false) × IsOwn S i
  member_own h i e m =
      let t = declaration_at S good i e m.there in
      let head : e.head ≡ head_in S.program (own_type t.0) = ap (λ (x : Declaration). x.head) t.2.1 in
      let below : e.head < length (types_of S.program) = omega (arith, m.head, m.known) in
      let own = own_constructor t.0.function t.0.builtin (constructs (is_constructor t.0) (result_head t.0) (omega (arith, below, head))) in
      (ap (λ (x : Declaration). x.function) t.2.1 ∙ ap (λ (b : Bool). b && not t.0.builtin) own.0, (t.0, t.1, own.1))

  pub function_own : (i : ℕ) (e : Declaration) → IsFunction S i e → IsOwn S i
  function_own i e m =
      let t = declaration_at S good i e m.there in
      (t.0, t.1, no_line t.0.function t.0.builtin (sym (ap (λ (x : Declaration). x.function) t.2.1) ∙ m.function))
