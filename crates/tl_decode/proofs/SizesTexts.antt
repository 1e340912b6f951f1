-- The schema of a text: each declaration has few fields, and each flag a condition.
use Rattle.std.proofs.Common.{◌≡◌, ℕ, Bool, true, false, List, [], length, slice_get, true≢false, Option, Some, None, IsSome, All, refl, sym, ap, ◌∙◌, subst, arith}
use Rattle.std.specs.Option.{option_map}
use Rattle.std.proofs.lemmas.List.{length-map}
use Rattle.std.proofs.lemmas.List.Elements.{All-nil, All-push, All-get_or}
use Rattle.std.proofs.lemmas.Option.{none-some, same_Some, slice_get-map, get_or_from_slice_get, slice_get_within}
use Rattle.tl_lexer.specs.Rule.{Rule}
use Rattle.tl_lexer.specs.declared.token.Token.{Token}
use Rattle.tl_combinators.specs.declared.fault.SyntaxFault.{SyntaxFault}
use Rattle.tl_program.specs.declared.built_in.BuiltIn.{BuiltIn}
use Rattle.tl_program.specs.declared.built_in.BuiltIn.TheVariants.{Int, Long, Double, Str, Bytes, Vector, Int128, Int256}
use Rattle.tl_combinators.specs.Names.{NameText}
use Rattle.tl_program.specs.Trees.{Tree, named, percent, any_call}
use Rattle.tl_program.specs.Program.{KindText, DeclText, FieldText, HasFewParts}
use Rattle.tl_program.specs.Program as kind
use Rattle.tl_combinators.specs.Description.{Piece}
use Rattle.tl_combinators.specs.Fields.{HeldText, called, in_condition, held, FieldsText, field, field_too_many, one_field, fields, where_field}
use Rattle.tl_combinators.specs.BuiltInLines.{built_in_line}
use Rattle.tl_combinators.specs.Declarations.{combinator, named_declaration, declaration, where_declaration, declaration_too_many}
use Rattle.tl_combinators.specs.Sentences.{ProgramText, item, one_declaration, program}
use Rattle.tl_combinators.proofs.Values.{Only, only_gives, only_fails, only_chain, only_choice, only_loop, only_taken}
use Rattle.tl_combinators.proofs.WithinLimits.{within_limits}
use Rattle.tl_names.specs.MeantDecls.{cond_by}
use Rattle.tl_names.specs.What.{field_named, what_of}
use Rattle.tl_names.specs.declared.what.What.{What}
use Rattle.tl_schema.specs.Types.{Shape, Shapes}
use Rattle.tl_schema.specs.Types as type
use Rattle.tl_schema.specs.Schemas.{Slot, Declaration, Declared}
use Rattle.tl_schema.specs.CheckedPrograms.{IsSchema}
use Rattle.tl_schema.specs.Meanings.{built_in_shape, condition_of, meaning, named_shape, slot_of}
use Rattle.tl_schema.proofs.BareShapes.{form_by}
use Rattle.tl_schema.proofs.MeantTypes.{held_shape, meanings}
use Rattle.tl_schema.proofs.Members.{declaration_at}
use Rattle.tl_decode.specs.Sizes.{HasFewFields, FlagsHaveConditions, HoldsOfTexts}

-- ---- texts

-- what is held is a flag only after a condition
abbrev IsHeldSo : HeldText → Type 0
IsHeldSo h = h.kind ≡ kind.flag → IsSome h.cond

-- likewise of a field
abbrev IsFieldSo : FieldText → Type 0
IsFieldSo f = f.kind ≡ kind.flag → IsSome f.cond

abbrev IsDeclSo : DeclText → Type 0
IsDeclSo d = All IsFieldSo d.fields

abbrev AreFieldsSo : FieldsText → Type 0
AreFieldsSo s = All IsFieldSo s.fields

abbrev AreDeclsSo : ProgramText → Type 0
AreDeclsSo p = All IsDeclSo p.decls

no_flag_nat : kind.nat ≡ kind.flag → ⊥
no_flag_nat e = cc

no_flag_call : (var : List ℕ) → kind.call var ≡ kind.flag → ⊥
no_flag_call var e = cc

no_flag_of : (t : Tree) → kind.of t ≡ kind.flag → ⊥
no_flag_of t e = cc

module _ (text : List ℕ) where
  called_so : (function : Bool) → Only (called text function) IsHeldSo
  unfolding called
  called_so function =
      only_choice _ _ _ _ (λ _ _. only_chain _ _ _ (λ b _ _ _. only_chain _ _ _ (λ w _ _ _. only_gives IsHeldSo _ (λ e. absurd (no_flag_call _ e))))) (λ _ _. only_fails _ _)

  in_condition_so : Only (in_condition text) IsHeldSo
  unfolding in_condition
  in_condition_so = only_chain _ _ _ (λ c _ _ _. only_chain _ _ _ (λ t _ _ _. only_gives IsHeldSo _ (λ e. refl)))

  held_so : (function : Bool) → Only (held text function) IsHeldSo
  unfolding held
  held_so function =
      only_choice _ _ _ _ (λ _ _. only_chain _ _ _ (λ h _ _ _. only_gives IsHeldSo _ (λ e. absurd (no_flag_nat e))))
      (λ _ _. only_choice _ _ _ _ (λ _ _. called_so function)
      (λ _ _. only_choice _ _ _ _ (λ _ _. in_condition_so) (λ _ _. only_chain _ _ _ (λ t _ _ _. only_gives IsHeldSo _ (λ e. absurd (no_flag_of t e))))))

  where_field_only : {A : Type 0} (I : A → Type 0) (r : Rule Token SyntaxFault A) → Only r I → Only (where_field text r) I
  unfolding where_field
  where_field_only I r k = only_choice _ _ _ _ (λ _ _. only_fails _ _) (λ _ _. only_choice _ _ _ _ (λ _ _. only_fails _ _) (λ _ _. k))

  no_field_more : {A : Type 0} (I : A → Type 0) → Only {A = A} (field_too_many text) I
  unfolding field_too_many
  no_field_more I = where_field_only I _ (only_choice _ _ _ _ (λ _ _. only_fails _ _) (λ _ _. only_fails _ _))

  field_so : (function : Bool) → Only (field text function) IsFieldSo
  unfolding field
  field_so function =
      where_field_only IsFieldSo _ (only_chain _ _ _ (λ w _ _ _. only_chain _ _ _ (λ c _ _ _. only_chain _ _ _ (λ h ts mid reads.
      only_gives IsFieldSo _ ((held_so function).each ts mid h reads)))))

  one_field_so : (function : Bool) (vars : ℕ) (s : FieldsText) → AreFieldsSo s → Only (one_field text function vars s) AreFieldsSo
  unfolding one_field
  one_field_so function vars s all =
      only_choice _ _ _ _ (λ _ _. no_field_more AreFieldsSo)
      (λ _ _. only_chain _ _ _ (λ f ts mid reads.
      only_gives AreFieldsSo _ (All-push IsFieldSo s.fields f.0 all ((only_taken IsFieldSo _ (field_so function)).each ts mid f reads))))

  fields_so : (function : Bool) (vars : ℕ) (ps : List Piece) → Only (fields text function vars ps) AreFieldsSo
  unfolding fields
  fields_so function vars ps = only_loop _ _ _ (one_field_so function vars) _ (All-nil IsFieldSo)

  combinator_so : (function : Bool) (n : NameText) (ps : List Piece) → Only (combinator text function n ps) IsDeclSo
  unfolding combinator
  combinator_so function n ps =
      only_chain _ _ _ (λ i _ _ _. only_chain _ _ _ (λ vs _ _ _. only_chain _ _ _ (λ fs ts mid reads.
      let all : AreFieldsSo fs = (fields_so function (length vs.0) _).each ts mid fs reads in
      only_chain _ _ _ (λ t _ _ _. only_chain _ _ _ (λ s _ _ _. only_chain _ _ _ (λ described _ _ _. only_gives IsDeclSo _ all))))))

  -- the line of a built-in type has no fields
  line_so : (b : BuiltIn) (n : NameText) → Only (built_in_line text b n) IsDeclSo
  unfolding built_in_line
  line_so b n = only_chain _ _ _ (λ i _ _ _. only_chain _ _ _ (λ _ _ _ _. only_gives IsDeclSo _ (All-nil IsFieldSo)))

  named_so : (function : Bool) (n : NameText) (ps : List Piece) (o : Option BuiltIn) → Only (named_declaration text function n ps o) IsDeclSo
  named_so function n ps (Some b) = line_so b n
  named_so function n ps None = combinator_so function n ps

  declaration_so : (function : Bool) → Only (declaration text function) IsDeclSo
  unfolding declaration
  declaration_so function = only_chain _ _ _ (λ n _ _ _. named_so function n.0 _ _)

  where_only : {A : Type 0} (I : A → Type 0) (r : Rule Token SyntaxFault A) → Only r I → Only (where_declaration text r) I
  unfolding where_declaration
  where_only I r k = only_choice _ _ _ _ (λ _ _. only_fails _ _) (λ _ _. only_choice _ _ _ _ (λ _ _. only_fails _ _) (λ _ _. only_choice _ _ _ _ (λ _ _. only_fails _ _) (λ _ _. k)))

  none_more : Only (declaration_too_many text) AreDeclsSo
  unfolding declaration_too_many
  none_more = where_only AreDeclsSo _ (only_choice _ _ _ _ (λ _ _. only_fails _ _) (λ _ _. only_fails _ _))

  one_so : (p : ProgramText) → AreDeclsSo p → Only (one_declaration text p) AreDeclsSo
  unfolding one_declaration
  one_so p all = only_choice _ _ _ _ (λ _ _. none_more) (λ _ _. only_chain _ _ _ (λ d ts mid reads.
      only_gives AreDeclsSo _ (All-push IsDeclSo p.decls d all ((where_only IsDeclSo _ (declaration_so p.function)).each ts mid d reads))))

  item_so : (p : ProgramText) → AreDeclsSo p → Only (item text p) AreDeclsSo
  unfolding item
  item_so p all = only_choice _ _ _ _ (λ _ _. only_chain _ _ _ (λ f _ _ _. only_gives AreDeclsSo _ all)) (λ _ _. one_so p all)

  program_so : Only (program text) AreDeclsSo
  unfolding program
  program_so = only_loop _ _ _ item_so _ (All-nil IsDeclSo)

-- ---- schemas

-- one of the elements
one_of : {A : Type 0} (P : A → Type 0) (xs : List A) (k : ℕ) (x : A) → All P xs → slice_get xs k ≡ Some x → P x
one_of P xs k x all at = subst P (get_or_from_slice_get xs k x x at) (All-get_or P xs k x (slice_get_within xs k x at) all)

-- what is written means no flag
abbrev is_flag : Shape → Bool
is_flag type.flag = true
is_flag s = false

built_in_plain : (b : BuiltIn) → is_flag (built_in_shape b) ≡ false
built_in_plain Int = refl
built_in_plain Long = refl
built_in_plain Double = refl
built_in_plain Str = refl
built_in_plain Bytes = refl
built_in_plain Vector = refl
built_in_plain Int128 = refl
built_in_plain Int256 = refl

named_plain : (w : What) (args : Shapes) → is_flag (named_shape w args) ≡ false
named_plain (What.Variable i) args = refl
named_plain (What.Base b) args = built_in_plain b
named_plain (What.Vector is_boxed) args = refl
named_plain (What.Type n) args = refl
named_plain (What.Constructor i) args = refl
named_plain What.Unknown args = refl

meaning_plain : (ds : List DeclText) (d : DeclText) (t : Tree) → is_flag (meaning ds d t) ≡ false
meaning_plain ds d (named name ts) = named_plain (what_of ds d name) (meanings ds d ts)
meaning_plain ds d (percent t) = form_by ds (λ s. is_flag s ≡ false) (meaning ds d t) (meaning_plain ds d t) (λ b u e. refl) (λ h args e. refl)
meaning_plain ds d any_call = refl

flag_kind : (ds : List DeclText) (d : DeclText) (k : KindText) → held_shape ds d k ≡ type.flag → k ≡ kind.flag
flag_kind ds d kind.nat e = absurd cc
flag_kind ds d kind.flag e = refl
flag_kind ds d (kind.call var) e = absurd cc
flag_kind ds d (kind.of t) e = absurd (true≢false (sym (ap is_flag e) ∙ meaning_plain ds d t))

mapped_some : (d : DeclText) (o : Option kind.CondText) → IsSome o → IsSome (option_map (condition_of (length d.fields)) (option_map (cond_by (field_named d)) o))
mapped_some d (Some c) is = refl
mapped_some d None is = is

field_so_of : (ds : List DeclText) (d : DeclText) (f : Slot) (k : ℕ) (o : Option FieldText) → slice_get d.fields k ≡ o → All IsFieldSo d.fields → option_map (slot_of ds d) o ≡ Some f → f.of ≡ type.flag → IsSome f.cond
field_so_of ds d f k None at all e flag = absurd (none-some f e)
field_so_of ds d f k (Some g) at all e flag =
    let same : slot_of ds d g ≡ f = same_Some (slot_of ds d g) f e in
    let is : g.kind ≡ kind.flag = flag_kind ds d g.kind (ap (λ (x : Slot). x.of) same ∙ flag) in
    subst (λ (x : Slot). IsSome x.cond) same (mapped_some d g.cond (one_of IsFieldSo d.fields k g all at is))

module _ (schema : Declared) (good : IsSchema schema) where
  few_fields : All HasFewParts schema.program → HasFewFields schema
  few_fields all i e there =
      let t = declaration_at schema good i e there in
      let few : HasFewParts t.0 = one_of HasFewParts schema.program i t.0 all t.1 in
      let same : length e.fields ≡ length t.0.fields = ap (λ (x : Declaration). length x.fields) t.2.1 ∙ length-map t.0.fields (slot_of schema.program t.0) in
      omega (arith, same, few)

  flags_so : All IsDeclSo schema.program → FlagsHaveConditions schema
  flags_so all i k e f there at flag =
      let t = declaration_at schema good i e there in
      field_so_of schema.program t.0 f k (slice_get t.0.fields k) refl (one_of IsDeclSo schema.program i t.0 all t.1)
      (sym (slice_get-map (slot_of schema.program t.0) t.0.fields k) ∙ sym (ap (λ (x : Declaration). slice_get x.fields k) t.2.1) ∙ at) flag

pub texts_have_few_fields : HoldsOfTexts HasFewFields
texts_have_few_fields text tokens ds read schema is = few_fields schema is.0 (subst (All HasFewParts) (sym is.1) (within_limits text tokens ds read).parts)

pub texts_have_conditions : HoldsOfTexts FlagsHaveConditions
texts_have_conditions text tokens ds read schema is = flags_so schema is.0 (subst (All IsDeclSo) (sym is.1) ((program_so text).each tokens [] _ read.1))
