-- A program that is read is within the limits.
use Rattle.std.proofs.Common.{◌≢◌, ℕ, ◌+◌, ◌≤◌, Bool, List, [], ◌∷◌, ◌++◌, length, length-append, Option, Some, None, arith}
use Rattle.std.proofs.lemmas.List.Elements.{All-nil, All-push}
use Rattle.tl_lexer.specs.Rule.{Rule}
use Rattle.tl_lexer.specs.declared.token.Token.{Token}
use Rattle.tl_combinators.specs.declared.fault.SyntaxFault.{SyntaxFault}
use Rattle.tl_program.specs.declared.built_in.BuiltIn.{BuiltIn}
use Rattle.tl_combinators.specs.Names.{NameText}
use Rattle.tl_program.specs.Program.{declaration_limit, part_limit, DeclText, HasFewParts, IsWithinLimits}
use Rattle.tl_combinators.specs.Description.{Piece}
use Rattle.tl_combinators.specs.Fields.{FieldsText, where_field, field_too_many, one_field, fields}
use Rattle.tl_combinators.specs.BuiltInLines.{built_in_line}
use Rattle.tl_combinators.specs.Declarations.{one_variable, variables, combinator, named_declaration, declaration, where_declaration, declaration_too_many}
use Rattle.tl_combinators.specs.Sentences.{ProgramText, one_declaration, item, program, Reads}
use Rattle.tl_combinators.proofs.Values.{Only, only_gives, only_fails, only_chain, only_choice, only_loop, only_taken}

-- one more, where the limit is not yet reached
one_more : {A : Type 0} (limit : ℕ) (xs : List A) (x : A) → length xs ≤ limit → length xs ≢ limit → length (xs ++ (x ∷ [])) ≤ limit
one_more limit xs x few other = omega (arith, few, other, length-append xs (x ∷ []))

-- likewise, after others
one_more_after : {A : Type 0} (before limit : ℕ) (xs : List A) (x : A) → before + length xs ≤ limit → before + length xs ≢ limit → before + length (xs ++ (x ∷ [])) ≤ limit
one_more_after before limit xs x few other = omega (arith, few, other, length-append xs (x ∷ []))

-- ---- a declaration

abbrev FewVariables : List (List ℕ) → Type 0
FewVariables vs = length vs ≤ part_limit

-- with so many variables before the fields
abbrev FewFields : ℕ → FieldsText → Type 0
FewFields vars s = vars + length s.fields ≤ part_limit

module _ (text : List ℕ) where
  one_variable_few : (vs : List (List ℕ)) → FewVariables vs → Only (one_variable text vs) FewVariables
  unfolding one_variable
  one_variable_few vs few = only_choice _ _ _ _ (λ _ _. only_fails _ _) (λ ts other. only_chain _ _ _ (λ v _ _ _. only_gives FewVariables _ (one_more part_limit vs v few other)))

  variables_few : Only (variables text) FewVariables
  unfolding variables
  variables_few = only_loop _ _ _ one_variable_few _ (omega arith)

  where_field_only : {A : Type 0} (I : A → Type 0) (r : Rule Token SyntaxFault A) → Only r I → Only (where_field text r) I
  unfolding where_field
  where_field_only I r k = only_choice _ _ _ _ (λ _ _. only_fails _ _) (λ _ _. only_choice _ _ _ _ (λ _ _. only_fails _ _) (λ _ _. k))

  no_field_more : {A : Type 0} (I : A → Type 0) → Only {A = A} (field_too_many text) I
  unfolding field_too_many
  no_field_more I = where_field_only I _ (only_choice _ _ _ _ (λ _ _. only_fails _ _) (λ _ _. only_fails _ _))

  one_field_few : (function : Bool) (vars : ℕ) (s : FieldsText) → FewFields vars s → Only (one_field text function vars s) (FewFields vars)
  unfolding one_field
  one_field_few function vars s few =
      only_choice _ _ _ _ (λ _ _. no_field_more (FewFields vars)) (λ ts other. only_chain _ _ _ (λ f _ _ _. only_gives (FewFields vars) _ (one_more_after vars part_limit s.fields f.0 few other)))

  fields_few : (function : Bool) (vars : ℕ) (d : List Piece) → vars ≤ part_limit → Only (fields text function vars d) (FewFields vars)
  unfolding fields
  fields_few function vars d few = only_loop _ _ _ (one_field_few function vars) _ (omega (arith, few))

  combinator_few : (function : Bool) (n : NameText) (d : List Piece) → Only (combinator text function n d) HasFewParts
  unfolding combinator
  combinator_few function n d =
      only_chain _ _ _ (λ i _ _ _. only_chain _ _ _ (λ vs ts mid reads.
      let few : FewVariables vs.0 = (only_taken FewVariables _ variables_few).each ts mid vs reads in
      only_chain _ _ _ (λ fs us end more.
      let both : FewFields (length vs.0) fs = (fields_few function (length vs.0) _ (omega (arith, few))).each us end fs more in
      only_chain _ _ _ (λ t _ _ _. only_chain _ _ _ (λ s _ _ _. only_chain _ _ _ (λ _ _ _ _. only_gives HasFewParts _ both))))))

  -- the line of a built-in type has no parts
  line_few : (b : BuiltIn) (n : NameText) → Only (built_in_line text b n) HasFewParts
  unfolding built_in_line
  line_few b n = only_chain _ _ _ (λ i _ _ _. only_chain _ _ _ (λ _ _ _ _. only_gives HasFewParts _ (omega arith)))

  named_few : (function : Bool) (n : NameText) (d : List Piece) (o : Option BuiltIn) → Only (named_declaration text function n d o) HasFewParts
  named_few function n d (Some b) = line_few b n
  named_few function n d None = combinator_few function n d

  declaration_few : (function : Bool) → Only (declaration text function) HasFewParts
  unfolding declaration
  declaration_few function = only_chain _ _ _ (λ n _ _ _. named_few function n.0 _ _)

-- ---- a program

abbrev Few : ProgramText → Type 0
Few p = IsWithinLimits p.decls

module _ (text : List ℕ) where
  where_only : {A : Type 0} (I : A → Type 0) (r : Rule Token SyntaxFault A) → Only r I → Only (where_declaration text r) I
  unfolding where_declaration
  where_only I r k = only_choice _ _ _ _ (λ _ _. only_fails _ _) (λ _ _. only_choice _ _ _ _ (λ _ _. only_fails _ _) (λ _ _. only_choice _ _ _ _ (λ _ _. only_fails _ _) (λ _ _. k)))

  none_more : Only (declaration_too_many text) Few
  unfolding declaration_too_many
  none_more = where_only Few _ (only_choice _ _ _ _ (λ _ _. only_fails _ _) (λ _ _. only_fails _ _))

  one_few : (p : ProgramText) → Few p → Only (one_declaration text p) Few
  unfolding one_declaration
  one_few p few = only_choice _ _ _ _ (λ _ _. none_more) (λ _ other. only_chain _ _ _ (λ d ts mid reads.
      let parts : HasFewParts d = (where_only HasFewParts _ (declaration_few text p.function)).each ts mid d reads in
      only_gives Few _ (record { declarations = one_more declaration_limit p.decls d few.declarations other; parts = All-push HasFewParts p.decls d few.parts parts })))

  item_few : (p : ProgramText) → Few p → Only (item text p) Few
  unfolding item
  item_few p few = only_choice _ _ _ _ (λ _ _. only_chain _ _ _ (λ f _ _ _. only_gives Few _ (record { declarations = few.declarations; parts = few.parts }))) (λ _ _. one_few p few)

  program_few : Only (program text) Few
  unfolding program
  program_few = only_loop _ _ _ item_few _ (record { declarations = omega arith; parts = All-nil HasFewParts })

-- what is read is within the limits
pub within_limits : (text : List ℕ) (tokens : List Token) (ds : List DeclText) → Reads text tokens ds → IsWithinLimits ds
within_limits text tokens ds r = (program_few text).each tokens [] _ r.1
