-- What fields, declarations and programs are like that the tokens of a text read as.
use Rattle.std.proofs.Common.{◌≡◌, ℕ, ◌+◌, ◌*◌, ◌-◌, ◌<◌, ◌≤◌, List, [], ◌∷◌, length, Bool, Option, Some, None, refl, sym, ap, subst, inl, inr, arith}
use Rattle.std.specs.Prelude.{codes, bytes_eq, if◌then◌else◌}
use Rattle.std.proofs.lemmas.Bool.{cases_Bool}
use Rattle.std.proofs.lemmas.Bool.Decides.{nat_tests}
use Rattle.std.proofs.lemmas.List.{length_push}
use Rattle.tl_lexer.specs.Rule.{Rule}
use Rattle.tl_lexer.specs.declared.token.Token.{Token}
use Rattle.tl_lexer.proofs.SpelledPieces.{tokens_spell}
use Rattle.tl_combinators.specs.declared.fault.SyntaxFault.{SyntaxFault}
use Rattle.tl_program.specs.declared.built_in.BuiltIn.{BuiltIn}
use Rattle.tl_program.specs.declared.built_in.BuiltIn.TheVariants.{Int, Long, Double, Str, Bytes, Vector, Int128, Int256}
use Rattle.tl_program.specs.Letters.{is_digit, is_letter, is_lower}
use Rattle.tl_combinators.specs.Tokens.{bytes_of}
use Rattle.tl_combinators.specs.Names.{NameText}
use Rattle.tl_program.specs.Trees.{Tree, named, percent, any_call, no_trees, tree}
use Rattle.tl_program.specs.Program.{flag, of, CondText, DeclText}
use Rattle.tl_combinators.specs.Description.{Piece, description}
use Rattle.tl_combinators.specs.Fields.{digit, two_digits, bit_value, bit, condition, conditional, called, in_condition, held, where_field, field, field_too_many, FieldsText, one_field, fields}
use Rattle.tl_program.specs.BuiltIns.{built_in}
use Rattle.tl_combinators.specs.BuiltInLines.{this_type, sort, boxed, opaque, bracketed, repeated, element, vector_result, vector, line_form, line_number, built_in_line}
use Rattle.tl_combinators.specs.Declarations.{variable, one_variable, variables, result_type, combinator, named_declaration, declaration, where_declaration, declaration_too_many}
use Rattle.tl_combinators.specs.Sentences.{ProgramText, program_so_far, section, mark, one_declaration, item, program}
use Rattle.tl_print.specs.Printed.{CanBeRead}
use Rattle.tl_print.proofs.Givens.{EachIs, all_push, Gives, gives_gives, gives_fails, gives_chain, gives_choice, gives_if, gives_taken, gives_loop}
use Rattle.tl_print.proofs.PrintableForm.{IsWordOf, IsName, IsLineNumber, IsTree, IsCond, IsHeld, IsField, IsDeclaration, line, combined, IsPrintable}
use Rattle.tl_print.proofs.PrintableParts.{IsSpelt, row_spelt, any_token, any_this, letter_given, declared_given, number_given, vector_given, term_of_given, expression_given}

-- ---- conditions

digit_is : (b n : ℕ) → digit b ≡ Some n → n < 10
digit_is b n e = elim (cases_Bool (is_digit b)) [
  | inl y ↦ let f : Some (b - 48) ≡ Some n = subst (λ (c : Bool). (if c then Some (b - 48) else None) ≡ Some n) y e in
      let g : b - 48 ≡ n = cc in
      grind (arith, nat_tests)
  | inr y ↦ let f : ◌≡◌ {A = Option ℕ} None (Some n) = subst (λ (c : Bool). (if c then Some (b - 48) else None) ≡ Some n) y e in absurd cc
]

two_small : (o p : Option ℕ) (n : ℕ) → ((a : ℕ) → o ≡ Some a → a < 10) → ((a : ℕ) → p ≡ Some a → a < 10) → two_digits o p ≡ Some n → n < 100
two_small (Some a) (Some b) n f g e = let i : a * 10 + b ≡ n = cc in omega (arith, f a refl, g b refl, i)
two_small (Some a) None n f g e = let i : a ≡ n = cc in omega (arith, f a refl, i)
two_small None p n f g e = let i : ◌≡◌ {A = Option ℕ} None (Some n) = e in absurd cc

bit_small : (bytes : List ℕ) (n : ℕ) → bit_value bytes ≡ Some n → n < 100
bit_small [] n e = let i : ◌≡◌ {A = Option ℕ} None (Some n) = e in absurd cc
bit_small (a ∷ []) n e = omega (arith, digit_is a n e)
bit_small (a ∷ b ∷ []) n e = two_small (digit a) (digit b) n (digit_is a) (digit_is b) e
bit_small (a ∷ b ∷ c ∷ more) n e = let i : ◌≡◌ {A = Option ℕ} None (Some n) = e in absurd cc

-- after a condition a type is a flag, or itself
held_of : (function : Bool) (c : CondText) (t : Tree) → IsCond c → IsTree 16 t → IsHeld function (Some c) (conditional t)
held_of function c (named bytes no_trees) i h = elim (cases_Bool (bytes_eq bytes (codes "true"))) [
  | inl y ↦
      let same : conditional (named bytes no_trees) ≡ flag = ap (λ (b : Bool). if b then flag else of (named bytes no_trees)) y in
      subst (IsHeld function (Some c)) (sym same) i
  | inr y ↦
      let same : conditional (named bytes no_trees) ≡ of (named bytes no_trees) = ap (λ (b : Bool). if b then flag else of (named bytes no_trees)) y in
      subst (IsHeld function (Some c)) (sym same) (i, h, same)
]
held_of function c (named bytes (tree t ts)) i h = (i, h, refl)
held_of function c (percent t) i h = (i, h, refl)
held_of function c any_call i h = (i, h, refl)

module _ (text : List ℕ) where
  bit_given : Gives (IsSpelt text) (bit text) (λ n. n < 100)
  unfolding bit
  bit_given = record {
    has = λ ts rest n a p. bit_small (bytes_of text p.0) n p.2.digits;
    behind = λ ts rest n a p. record { front = p.0 ∷ []; whole = p.1 };
  }

  condition_given : Gives (IsSpelt text) (condition text) IsCond
  unfolding condition
  condition_given =
      gives_chain _ _ (letter_given text) (λ w h. gives_chain _ _ (any_token text _) (λ d u. gives_chain _ _ bit_given (λ n small. gives_chain _ _ (any_token text _) (λ q v.
      gives_gives _ _ _ (record { flags = h; small = small })))))

  -- ---- fields

  module _ (function : Bool) where
    called_given : Gives (IsSpelt text) (called text function) (λ h. IsHeld function h.cond h.kind)
    unfolding called
    called_given =
        gives_if _ _ (λ yes. gives_chain _ _ (any_token text _) (λ b u. gives_chain _ _ (letter_given text) (λ w h. gives_gives _ _ _ (yes, h)))) (λ none. gives_fails _ _ _)

    held_given : Gives (IsSpelt text) (held text function) (λ h. IsHeld function h.cond h.kind)
    unfolding held in_condition
    held_given =
        gives_choice _ _ (gives_chain _ _ (any_token text _) (λ h u. gives_gives _ _ _ tt))
        (gives_choice _ _ called_given
        (gives_choice _ _ (gives_chain _ _ condition_given (λ c i. gives_chain _ _ (term_of_given text) (λ t h. gives_gives _ _ _ (held_of function c t i h))))
        (gives_chain _ _ (term_of_given text) (λ t h. gives_gives _ _ _ h))))

  where_given : {A : Type 0} {P : A → Type 0} (r : Rule Token SyntaxFault A) → Gives (IsSpelt text) r P → Gives (IsSpelt text) (where_field text r) P
  unfolding where_field
  where_given r g = gives_choice _ _ (gives_fails _ _ _) (gives_choice _ _ (gives_fails _ _ _) g)

  pub field_given : (function : Bool) → Gives (IsSpelt text) (field text function) (IsField function)
  unfolding field
  field_given function =
      where_given _ (gives_chain _ _ (letter_given text) (λ w i. gives_chain _ _ (any_token text _) (λ c u. gives_chain _ _ (held_given function) (λ h holds.
      gives_gives _ _ _ (record { name = i; holds = holds })))))

  none_more : {A : Type 0} (P : A → Type 0) → Gives (IsSpelt text) (field_too_many text) P
  unfolding field_too_many
  none_more P = where_given _ (gives_choice _ _ (gives_fails _ _ _) (gives_fails _ _ _))

  -- so many fields, after so many variables
  FewFields : Bool → ℕ → FieldsText → Type 0
  FewFields function vars s = EachIs (IsField function) s.fields × (vars + length s.fields ≤ 256)

  one_given : (function : Bool) (vars : ℕ) (s : FieldsText) → FewFields function vars s → Gives (IsSpelt text) (one_field text function vars s) (FewFields function vars)
  unfolding one_field FewFields
  one_given function vars s h =
      gives_if _ _ (λ full. none_more _)
      (λ room. gives_chain _ _ (gives_taken _ (field_given function)) (λ f i.
      gives_gives _ _ _ (all_push (IsField function) s.fields f.0 h.0 i, omega (arith, h.1, room, length_push s.fields f.0))))

  fields_given : (function : Bool) (vars : ℕ) (d : List Piece) → vars ≤ 256 → Gives (IsSpelt text) (fields text function vars d) (FewFields function vars)
  unfolding fields FewFields
  fields_given function vars d w = gives_loop _ _ _ _ (λ s h. one_given function vars s h) _ (tt, omega (arith, w))

  -- ---- declarations

  sort_any : Gives (IsSpelt text) (sort text) (λ t. Unit {0})
  unfolding sort
  sort_any = gives_choice _ _ (gives_fails _ _ _) (any_this text _)

  variable_given : Gives (IsSpelt text) (variable text) (IsWordOf is_letter)
  unfolding variable
  variable_given =
      gives_chain _ _ (any_token text _) (λ l u. gives_chain _ _ (letter_given text) (λ w h. gives_chain _ _ (any_token text _) (λ c v. gives_chain _ _ sort_any (λ s x.
      gives_chain _ _ (any_token text _) (λ r y. gives_gives _ _ _ h)))))

  pub variables_given : Gives (IsSpelt text) (variables text) (λ vs. EachIs (IsWordOf is_letter) vs × (length vs ≤ 256))
  unfolding variables one_variable
  variables_given =
      gives_loop _ _ _ _ (λ vs h. gives_if _ _ (λ full. gives_fails _ _ _) (λ room. gives_chain _ _ variable_given (λ v i.
      gives_gives _ _ _ (all_push (IsWordOf is_letter) vs v h.0 i, omega (arith, h.1, room, length_push vs v))))) _ (tt, omega arith)

  pub result_given : Gives (IsSpelt text) (result_type text) (IsTree 16)
  unfolding result_type
  result_given = gives_chain _ _ (any_token text _) (λ e u. expression_given text)

  description_any : (d : List Piece) → Gives (IsSpelt text) (description d) (λ x. Unit {0})
  unfolding description
  description_any d = record { has = λ ts rest x w p. tt; behind = λ ts rest x w p. record { front = []; whole = sym p.1 } }

  combinator_given : (function : Bool) (n : NameText) (d : List Piece) → IsName is_lower n.bytes → built_in n.bytes ≡ None → Gives (IsSpelt text) (combinator text function n d) IsDeclaration
  unfolding combinator FewFields
  combinator_given function n d i free =
      gives_chain _ _ (gives_taken _ (number_given text n.end)) (λ o small.
      gives_chain _ _ (gives_taken _ variables_given) (λ vs are.
      gives_chain _ _ (fields_given function (length vs.0) _ are.1) (λ fs few.
      gives_chain _ _ (gives_taken _ result_given) (λ t tree.
      gives_chain _ _ (any_token text _) (λ s u.
      gives_chain _ _ (description_any _) (λ described v.
      gives_gives _ _ _ (combined (record { free = free; written = refl; name = i; number = small; vars = are.0; fields = few.0; few = few.1; result = tree }))))))))

  -- ---- lines of built-in types

  this_any : (bytes : List ℕ) → Gives (IsSpelt text) (this_type text bytes) (λ t. Unit {0})
  unfolding this_type
  this_any bytes = gives_choice _ _ (gives_fails _ _ _) (any_this text _)

  boxed_any : (bytes : List ℕ) → Gives (IsSpelt text) (boxed text bytes) (λ u. Unit {0})
  unfolding boxed
  boxed_any bytes = gives_chain _ _ (any_token text _) (λ e u. gives_chain _ _ (this_any _) (λ t v. gives_chain _ _ (any_token text _) (λ s w. gives_gives _ _ _ tt)))

  opaque_any : (bytes : List ℕ) → Gives (IsSpelt text) (opaque text bytes) (λ u. Unit {0})
  unfolding opaque
  opaque_any bytes = gives_chain _ _ (any_token text _) (λ e u. boxed_any _)

  bracketed_any : (bytes : List ℕ) → Gives (IsSpelt text) (bracketed text bytes) (λ u. Unit {0})
  unfolding bracketed
  bracketed_any bytes = gives_chain _ _ (any_token text _) (λ e u. gives_chain _ _ (any_this text _) (λ t v. gives_chain _ _ (any_token text _) (λ s w. gives_gives _ _ _ tt)))

  repeated_any : (count bytes : List ℕ) → Gives (IsSpelt text) (repeated text count bytes) (λ u. Unit {0})
  unfolding repeated
  repeated_any count bytes = gives_chain _ _ (any_this text _) (λ w u. gives_chain _ _ (any_token text _) (λ s v. gives_chain _ _ (bracketed_any _) (λ b x. boxed_any _)))

  element_any : Gives (IsSpelt text) (element text) (λ u. Unit {0})
  unfolding element
  element_any =
      gives_chain _ _ (any_token text _) (λ l u. gives_chain _ _ (any_this text _) (λ w v. gives_chain _ _ (any_token text _) (λ c x. gives_chain _ _ sort_any (λ s y.
      gives_chain _ _ (any_token text _) (λ r z. gives_gives _ _ _ tt)))))

  vector_any : Gives (IsSpelt text) (vector text) (λ u. Unit {0})
  unfolding vector vector_result
  vector_any =
      gives_chain _ _ element_any (λ e u. gives_chain _ _ (any_token text _) (λ h v. gives_chain _ _ (bracketed_any _) (λ b w.
      gives_chain _ _ (any_token text _) (λ q x. gives_chain _ _ (this_any _) (λ t y. gives_chain _ _ (any_this text _) (λ s z. gives_chain _ _ (any_token text _) (λ r k. gives_gives _ _ _ tt)))))))

  form_any : (b : BuiltIn) → Gives (IsSpelt text) (line_form text b) (λ u. Unit {0})
  form_any Int = opaque_any _
  form_any Long = opaque_any _
  form_any Double = opaque_any _
  form_any Str = opaque_any _
  form_any Bytes = boxed_any _
  form_any Vector = vector_any
  form_any Int128 = repeated_any _ _
  form_any Int256 = repeated_any _ _

  line_number_given : (b : BuiltIn) (edge : ℕ) → Gives (IsSpelt text) (line_number text b edge) (IsLineNumber b)
  line_number_given Int edge = number_given text edge
  line_number_given Long edge = number_given text edge
  line_number_given Double edge = number_given text edge
  line_number_given Str edge = number_given text edge
  line_number_given Bytes edge = number_given text edge
  line_number_given Vector edge = vector_given text (IsLineNumber Vector) edge tt (λ n e. e)
  line_number_given Int128 edge = number_given text edge
  line_number_given Int256 edge = number_given text edge

  line_given : (b : BuiltIn) (n : NameText) → Gives (IsSpelt text) (built_in_line text b n) IsDeclaration
  unfolding built_in_line
  line_given b n = gives_chain _ _ (line_number_given b n.end) (λ i h. gives_chain _ _ (form_any b) (λ u v. gives_gives _ _ _ (line b i refl h)))

  -- ---- programs

  named_given : (function : Bool) (n : NameText) (d : List Piece) (o : Option BuiltIn) → IsName is_lower n.bytes → built_in n.bytes ≡ o → Gives (IsSpelt text) (named_declaration text function n d o) IsDeclaration
  named_given function n d None i e = combinator_given function n d i e
  named_given function n d (Some b) i e = line_given b n

  declaration_given : (function : Bool) → Gives (IsSpelt text) (declaration text function) IsDeclaration
  unfolding declaration
  declaration_given function =
      gives_chain _ _ (gives_taken _ (declared_given text)) (λ n i. named_given function n.0 _ (built_in n.0.bytes) i refl)

  where_declared : {A : Type 0} {P : A → Type 0} (r : Rule Token SyntaxFault A) → Gives (IsSpelt text) r P → Gives (IsSpelt text) (where_declaration text r) P
  unfolding where_declaration
  where_declared r g = gives_choice _ _ (gives_fails _ _ _) (gives_choice _ _ (gives_fails _ _ _) (gives_choice _ _ (gives_fails _ _ _) g))

  pub expected_given : (function : Bool) → Gives (IsSpelt text) (where_declaration text (declaration text function)) IsDeclaration
  expected_given function = where_declared _ (declaration_given function)

  no_declaration : {A : Type 0} (P : A → Type 0) → Gives (IsSpelt text) (declaration_too_many text) P
  unfolding declaration_too_many
  no_declaration P = where_declared _ (gives_choice _ _ (gives_fails _ _ _) (gives_fails _ _ _))

  pub mark_any : Gives (IsSpelt text) (mark text) (λ b. Unit {0})
  unfolding mark section
  mark_any =
      gives_chain _ _ (any_token text _) (λ a u. gives_choice _ _
      (gives_chain _ _ (any_this text _) (λ w v. gives_chain _ _ (any_token text _) (λ b x. gives_gives _ _ _ tt)))
      (gives_chain _ _ (any_this text _) (λ w v. gives_chain _ _ (any_token text _) (λ b x. gives_gives _ _ _ tt))))

  item_given : (p : ProgramText) → IsPrintable p.decls → Gives (IsSpelt text) (item text p) (λ q. IsPrintable q.decls)
  unfolding item one_declaration
  item_given p h =
      gives_choice _ _ (gives_chain _ _ mark_any (λ function u. gives_gives _ _ _ h))
      (gives_if _ _ (λ full. no_declaration _) (λ room. gives_chain _ _ (expected_given p.function) (λ d i.
      gives_gives _ _ _ (record { each = all_push IsDeclaration p.decls d h.each i; few = omega (arith, h.few, room, length_push p.decls d) }))))

  pub program_given : Gives (IsSpelt text) (program text) (λ p. IsPrintable p.decls)
  unfolding program
  program_given = gives_loop _ _ _ _ item_given _ (record { each = tt; few = omega arith })

pub printable : (ds : List DeclText) → CanBeRead ds → IsPrintable ds
printable ds (text, tokens, spelt, (function, reads)) =
    (program_given text).has tokens [] (program_so_far ds function) (row_spelt text 0 (length text) tokens (tokens_spell text tokens spelt)) reads
