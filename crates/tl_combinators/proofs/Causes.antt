-- Out of memory is no fault of a text.
use Rattle.std.proofs.Common.{ℕ, zero, suc, Bool, true, false, List, Option, Some, None, inl, inr, subst, sym}
use Rattle.tl_lexer.specs.Rule.{Rule, gives, fails, one, chain, choice, loop}
use Rattle.tl_lexer.specs.declared.token.Token.{Token}
use Rattle.tl_lexer.specs.declared.token.TokenKind.{TokenKind}
use Rattle.tl_combinators.specs.declared.fault.SyntaxFault.{SyntaxFault}
use Rattle.tl_combinators.specs.declared.fault.SyntaxFault.TheVariants.{Unexpected, NotProfile, TooMany, Memory}
use Rattle.tl_program.specs.declared.built_in.BuiltIn.{BuiltIn}
use Rattle.tl_program.specs.declared.built_in.BuiltIn.TheVariants.{Int, Long, Double, Str, Bytes, Vector, Int128, Int256}
use Rattle.tl_combinators.specs.Taken.{taken}
use Rattle.tl_combinators.specs.Tokens.{token, letter_word, this_word}
use Rattle.tl_combinators.specs.Names.{NameText, name_from, name, declared_name, type_name, hex, vector_hex, number_by, number, vector_line_number}
use Rattle.tl_program.specs.Trees.{Tree}
use Rattle.tl_combinators.specs.Types.{level_limit, one_opens, opens, closes, in_parens, one_term, terms, one_listed, listed, applied, application, no_level, after_percent, bare, core, term, expression, at_end, whole_type}
use Rattle.tl_combinators.specs.Description.{Piece, description}
use Rattle.tl_combinators.specs.Fields.{bit, condition, called, in_condition, held, where_field, field, field_too_many, one_field, fields}
use Rattle.tl_combinators.specs.BuiltInLines.{this_type, sort, boxed, opaque, bracketed, repeated, element, vector_result, vector, line_form, line_number, built_in_line}
use Rattle.tl_combinators.specs.Declarations.{variable, one_variable, variables, result_type, combinator, named_declaration, declaration, where_declaration, declaration_too_many}
use Rattle.tl_combinators.specs.Sentences.{ProgramText, section, mark, one_declaration, item, program, SyntaxRefused, TypeRefused}

-- a fault of a text has a place
abbrev IsPlaced : SyntaxFault → Type 0
IsPlaced (Unexpected at) = Unit {0}
IsPlaced (NotProfile at form) = Unit {0}
IsPlaced (TooMany at) = Unit {0}
IsPlaced Memory = ⊥

-- the rule refuses for such faults alone
record Placed {A : Type 0} (r : Rule Token SyntaxFault A) : Type 0 where
  each : (ts : List Token) (f : SyntaxFault) → r.refused ts f → IsPlaced f

at_gives : {A : Type 0} (a : A) → Placed (gives a)
unfolding gives
at_gives a = record { each = λ ts f h. absurd h }

at_description : (ps : List Piece) → Placed (description ps)
unfolding description
at_description ps = record { each = λ ts f h. absurd h }

at_fails : {A : Type 0} (fault_at : List Token → SyntaxFault) → ((ts : List Token) → IsPlaced (fault_at ts)) → Placed {A = A} (fails fault_at)
unfolding fails
at_fails fault_at k = record { each = λ ts f h. subst IsPlaced (sym h) (k ts) }

at_one : (fault_at : List Token → SyntaxFault) (P : Token → Type 0) → ((ts : List Token) → IsPlaced (fault_at ts)) → Placed (one fault_at P)
unfolding one
at_one fault_at P k = record { each = λ ts f h. subst IsPlaced (sym h.1) (k ts) }

module _ {A B : Type 0} (r : Rule Token SyntaxFault A) (s : A → Rule Token SyntaxFault B) (first : Placed r) (behind : (x : A) → Placed (s x)) where
  chain_each : (ts : List Token) (f : SyntaxFault) → (chain r s).refused ts f → IsPlaced f
  unfolding chain
  chain_each ts f (inl h) = first.each ts f h
  chain_each ts f (inr (x, mid, p, h)) = (behind x).each mid f h

  at_chain : Placed (chain r s)
  at_chain = record { each = chain_each }

module _ {A : Type 0} (P : List Token → Type 0) (r s : Rule Token SyntaxFault A) (one : Placed r) (two : Placed s) where
  choice_each : (ts : List Token) (f : SyntaxFault) → (choice P r s).refused ts f → IsPlaced f
  unfolding choice
  choice_each ts f (inl h) = one.each ts f h.1
  choice_each ts f (inr h) = two.each ts f h.1

  at_choice : Placed (choice P r s)
  at_choice = record { each = choice_each }

at_loop : {S : Type 0} (P : List Token → Type 0) (r : S → Rule Token SyntaxFault S) (s : S) → ((x : S) → Placed (r x)) → Placed (loop P r s)
unfolding loop
at_loop P r s k = record { each = λ ts f h. (k h.1).each h.2 f h.5 }

at_taken : {A : Type 0} (r : Rule Token SyntaxFault A) → Placed r → Placed (taken r)
unfolding taken
at_taken r k = record { each = λ ts f h. k.each ts f h }

-- ---- the rules

module _ (text : List ℕ) where
  at_token : (kind : TokenKind) → Placed (token text kind)
  unfolding token
  at_token kind = at_one _ _ (λ ts. tt)

  at_letter_word : Placed (letter_word text)
  unfolding letter_word
  at_letter_word = at_one _ _ (λ ts. tt)

  at_this_word : (bytes : List ℕ) → Placed (this_word text bytes)
  unfolding this_word
  at_this_word bytes = at_one _ _ (λ ts. tt)

  at_name_from : (test : ℕ → Bool) (w : Token) → Placed (name_from text test w)
  unfolding name_from
  at_name_from test w = at_choice _ _ _ (at_chain _ _ (at_token _) (λ _. at_chain _ _ (at_one _ _ (λ ts. tt)) (λ _. at_gives _))) (at_gives _)

  at_name : Placed (name text)
  unfolding name
  at_name = at_chain _ _ at_letter_word (at_name_from _)

  at_declared_name : Placed (declared_name text)
  unfolding declared_name
  at_declared_name = at_chain _ _ (at_one _ _ (λ ts. tt)) (at_name_from _)

  at_type_name : Placed (type_name text)
  unfolding type_name
  at_type_name = at_choice _ _ _ (at_fails _ (λ ts. tt)) at_name

  at_hex : (edge : ℕ) → Placed (hex text edge)
  unfolding hex
  at_hex edge = at_chain _ _ (at_one _ _ (λ ts. tt)) (λ _. at_gives _)

  at_vector_hex : (edge : ℕ) → Placed (vector_hex text edge)
  unfolding vector_hex
  at_vector_hex edge = at_choice _ _ _ (at_fails _ (λ ts. tt)) (at_hex edge)

  at_number_by : (digits : ℕ → Rule Token SyntaxFault ℕ) → ((edge : ℕ) → Placed (digits edge)) → (edge : ℕ) → Placed (number_by text digits edge)
  unfolding number_by
  at_number_by digits k edge = at_choice _ _ _ (at_chain _ _ (at_token _) (λ _. at_chain _ _ (k _) (λ _. at_gives _))) (at_gives _)

  at_number : (edge : ℕ) → Placed (number text edge)
  unfolding number
  at_number edge = at_number_by _ at_hex edge

  at_vector_line_number : (edge : ℕ) → Placed (vector_line_number text edge)
  unfolding vector_line_number
  at_vector_line_number edge = at_number_by _ at_vector_hex edge

  -- ---- types

  at_opens : Placed (opens text)
  unfolding opens one_opens
  at_opens = at_loop _ _ _ (λ _. at_chain _ _ (at_token _) (λ _. at_gives _))

  at_closes : (n : ℕ) → Placed (closes text n)
  at_closes zero = at_gives _
  at_closes (suc n) = at_chain _ _ (at_token _) (λ _. at_closes n)

  at_in_parens : (inner : Bool → Rule Token SyntaxFault Tree) → ((head : Bool) → Placed (inner head)) → (head : Bool) → Placed (in_parens text inner head)
  unfolding in_parens
  at_in_parens inner k head = at_chain _ _ at_opens (λ n. at_chain _ _ (k _) (λ _. at_chain _ _ (at_closes n) (λ _. at_gives _)))

  at_one_term : (r : Rule Token SyntaxFault Tree) (ts : List Tree) → Placed r → Placed (one_term r ts)
  unfolding one_term
  at_one_term r ts k = at_chain _ _ k (λ _. at_gives _)

  at_terms : (r : Rule Token SyntaxFault Tree) → Placed r → Placed (terms r)
  unfolding terms
  at_terms r k = at_loop _ _ _ (λ ts. at_one_term r ts k)

  at_listed : (r : Rule Token SyntaxFault Tree) → Placed r → Placed (listed text r)
  unfolding listed one_listed
  at_listed r k = at_chain _ _ k (λ _. at_loop _ _ _ (λ ts. at_chain _ _ (at_token _) (λ _. at_one_term r ts k)))

  module _ (below : Bool → Rule Token SyntaxFault Tree) (k : (head : Bool) → Placed (below head)) where
    at_applied : (head : Bool) (n : List ℕ) → Placed (applied text below head n)
    unfolding applied
    at_applied head n =
        at_choice _ _ _ (at_chain _ _ (at_token _) (λ _. at_chain _ _ (at_listed _ (k true)) (λ _. at_chain _ _ (at_token _) (λ _. at_gives _))))
        (at_choice _ _ _ (at_chain _ _ (at_terms _ (k false)) (λ _. at_gives _)) (at_gives _))

    at_application : (head : Bool) → Placed (application text below head)
    unfolding application
    at_application head = at_chain _ _ at_type_name (λ n. at_applied head n.bytes)

  at_no_level : Placed (no_level text)
  unfolding no_level
  at_no_level = at_choice _ _ _ (at_fails _ (λ ts. tt)) (at_choice _ _ _ (at_fails _ (λ ts. tt)) (at_fails _ (λ ts. tt)))

  module _ (deeper below : Bool → Rule Token SyntaxFault Tree) (k : (head : Bool) → Placed (deeper head)) (l : (head : Bool) → Placed (below head)) where
    at_after_percent : (head : Bool) → Placed (after_percent text deeper below head)
    unfolding after_percent
    at_after_percent head = at_choice _ _ _ (k head) (at_application below l head)

    at_bare : Placed (bare text deeper below)
    unfolding bare
    at_bare = at_chain _ _ (at_token _) (λ _. at_chain _ _ (at_in_parens _ at_after_percent false) (λ _. at_gives _))

  at_core : (n : ℕ) (head : Bool) → Placed (core text n head)
  at_core zero head = at_no_level
  at_core (suc n) head = at_choice _ _ _ (at_bare _ _ (at_core n) (at_in_parens _ (at_core n))) (at_application _ (at_in_parens _ (at_core n)) head)

  at_term : Placed (term text)
  unfolding term
  at_term = at_in_parens _ (at_core level_limit) false

  at_expression : Placed (expression text)
  unfolding expression
  at_expression = at_in_parens _ (at_core level_limit) true

  at_at_end : Placed (at_end text)
  unfolding at_end
  at_at_end = at_choice _ _ _ (at_gives _) (at_fails _ (λ ts. tt))

  at_whole_type : Placed (whole_type text)
  unfolding whole_type
  at_whole_type =
      at_choice _ _ _ (at_chain _ _ (at_token _) (λ _. at_chain _ _ at_at_end (λ _. at_gives _)))
      (at_chain _ _ at_expression (λ _. at_chain _ _ at_at_end (λ _. at_gives _)))

  -- ---- fields

  at_bit : Placed (bit text)
  unfolding bit
  at_bit = record { each = λ ts f h. subst IsPlaced (sym h.1) tt }

  at_condition : Placed (condition text)
  unfolding condition
  at_condition = at_chain _ _ at_letter_word (λ _. at_chain _ _ (at_token _) (λ _. at_chain _ _ at_bit (λ _. at_chain _ _ (at_token _) (λ _. at_gives _))))

  at_called : (function : Bool) → Placed (called text function)
  unfolding called
  at_called function = at_choice _ _ _ (at_chain _ _ (at_token _) (λ _. at_chain _ _ at_letter_word (λ _. at_gives _))) (at_fails _ (λ ts. tt))

  at_held : (function : Bool) → Placed (held text function)
  unfolding held in_condition
  at_held function =
      at_choice _ _ _ (at_chain _ _ (at_token _) (λ _. at_gives _)) (at_choice _ _ _ (at_called function)
      (at_choice _ _ _ (at_chain _ _ at_condition (λ _. at_chain _ _ at_term (λ _. at_gives _))) (at_chain _ _ at_term (λ _. at_gives _))))

  at_where_field : {A : Type 0} (r : Rule Token SyntaxFault A) → Placed r → Placed (where_field text r)
  unfolding where_field
  at_where_field r k = at_choice _ _ _ (at_fails _ (λ ts. tt)) (at_choice _ _ _ (at_fails _ (λ ts. tt)) k)

  at_field : (function : Bool) → Placed (field text function)
  unfolding field
  at_field function = at_where_field _ (at_chain _ _ at_letter_word (λ _. at_chain _ _ (at_token _) (λ _. at_chain _ _ (at_held function) (λ _. at_gives _))))

  at_field_too_many : {A : Type 0} → Placed (field_too_many {A = A} text)
  unfolding field_too_many
  at_field_too_many = at_where_field _ (at_choice _ _ _ (at_fails _ (λ ts. tt)) (at_fails _ (λ ts. tt)))

  at_fields : (function : Bool) (vars : ℕ) (d : List Piece) → Placed (fields text function vars d)
  unfolding fields one_field
  at_fields function vars d = at_loop _ _ _ (λ s. at_choice _ _ _ at_field_too_many (at_chain _ _ (at_taken _ (at_field function)) (λ _. at_gives _)))

  -- ---- lines of built-in types

  at_this_type : (bytes : List ℕ) → Placed (this_type text bytes)
  unfolding this_type
  at_this_type bytes = at_choice _ _ _ (at_fails _ (λ ts. tt)) (at_this_word bytes)

  at_sort : Placed (sort text)
  unfolding sort
  at_sort = at_choice _ _ _ (at_fails _ (λ ts. tt)) (at_this_word _)

  at_boxed : (n : List ℕ) → Placed (boxed text n)
  unfolding boxed
  at_boxed n = at_chain _ _ (at_token _) (λ _. at_chain _ _ (at_this_type n) (λ _. at_chain _ _ (at_token _) (λ _. at_gives _)))

  at_opaque : (n : List ℕ) → Placed (opaque text n)
  unfolding opaque
  at_opaque n = at_chain _ _ (at_token _) (λ _. at_boxed n)

  at_bracketed : (n : List ℕ) → Placed (bracketed text n)
  unfolding bracketed
  at_bracketed n = at_chain _ _ (at_token _) (λ _. at_chain _ _ (at_this_word n) (λ _. at_chain _ _ (at_token _) (λ _. at_gives _)))

  at_repeated : (count n : List ℕ) → Placed (repeated text count n)
  unfolding repeated
  at_repeated count n = at_chain _ _ (at_this_word count) (λ _. at_chain _ _ (at_token _) (λ _. at_chain _ _ (at_bracketed _) (λ _. at_boxed n)))

  at_element : Placed (element text)
  unfolding element
  at_element =
      at_chain _ _ (at_token _) (λ _. at_chain _ _ (at_this_word _) (λ _. at_chain _ _ (at_token _) (λ _. at_chain _ _ at_sort (λ _.
      at_chain _ _ (at_token _) (λ _. at_gives _)))))

  at_vector_result : Placed (vector_result text)
  unfolding vector_result
  at_vector_result =
      at_chain _ _ (at_token _) (λ _. at_chain _ _ (at_this_type _) (λ _. at_chain _ _ (at_this_word _) (λ _. at_chain _ _ (at_token _) (λ _. at_gives _))))

  at_vector : Placed (vector text)
  unfolding vector
  at_vector = at_chain _ _ at_element (λ _. at_chain _ _ (at_token _) (λ _. at_chain _ _ (at_bracketed _) (λ _. at_vector_result)))

  at_line_form : (b : BuiltIn) → Placed (line_form text b)
  at_line_form Int = at_opaque _
  at_line_form Long = at_opaque _
  at_line_form Double = at_opaque _
  at_line_form Str = at_opaque _
  at_line_form Bytes = at_boxed _
  at_line_form Vector = at_vector
  at_line_form Int128 = at_repeated _ _
  at_line_form Int256 = at_repeated _ _

  at_line_number : (b : BuiltIn) (edge : ℕ) → Placed (line_number text b edge)
  at_line_number Int edge = at_number edge
  at_line_number Long edge = at_number edge
  at_line_number Double edge = at_number edge
  at_line_number Str edge = at_number edge
  at_line_number Bytes edge = at_number edge
  at_line_number Vector edge = at_vector_line_number edge
  at_line_number Int128 edge = at_number edge
  at_line_number Int256 edge = at_number edge

  -- ---- declarations

  at_variables : Placed (variables text)
  unfolding variables one_variable variable
  at_variables = at_loop _ _ _ (λ vs. at_choice _ _ _ (at_fails _ (λ ts. tt))
      (at_chain _ _ (at_chain _ _ (at_token _) (λ _. at_chain _ _ at_letter_word (λ _. at_chain _ _ (at_token _) (λ _. at_chain _ _ at_sort (λ _.
      at_chain _ _ (at_token _) (λ _. at_gives _)))))) (λ _. at_gives _)))

  at_result_type : Placed (result_type text)
  unfolding result_type
  at_result_type = at_chain _ _ (at_token _) (λ _. at_expression)

  at_combinator : (function : Bool) (n : NameText) (d : List Piece) → Placed (combinator text function n d)
  unfolding combinator
  at_combinator function n d =
      at_chain _ _ (at_taken _ (at_number _)) (λ _. at_chain _ _ (at_taken _ at_variables) (λ _. at_chain _ _ (at_fields _ _ _) (λ _.
      at_chain _ _ (at_taken _ at_result_type) (λ _. at_chain _ _ (at_token _) (λ _. at_chain _ _ (at_description _) (λ _. at_gives _))))))

  at_named : (function : Bool) (n : NameText) (d : List Piece) (o : Option BuiltIn) → Placed (named_declaration text function n d o)
  unfolding built_in_line
  at_named function n d (Some b) = at_chain _ _ (at_line_number b _) (λ _. at_chain _ _ (at_line_form b) (λ _. at_gives _))
  at_named function n d None = at_combinator function n d

  at_declaration : (function : Bool) → Placed (declaration text function)
  unfolding declaration
  at_declaration function = at_chain _ _ (at_taken _ at_declared_name) (λ n. at_named function n.0 _ _)

  at_where : {A : Type 0} (r : Rule Token SyntaxFault A) → Placed r → Placed (where_declaration text r)
  unfolding where_declaration
  at_where r k = at_choice _ _ _ (at_fails _ (λ ts. tt)) (at_choice _ _ _ (at_fails _ (λ ts. tt)) (at_choice _ _ _ (at_fails _ (λ ts. tt)) k))

  at_declaration_too_many : {A : Type 0} → Placed (declaration_too_many {A = A} text)
  unfolding declaration_too_many
  at_declaration_too_many = at_where _ (at_choice _ _ _ (at_fails _ (λ ts. tt)) (at_fails _ (λ ts. tt)))

  -- ---- programs

  at_section : Placed (section text)
  unfolding section
  at_section =
      at_choice _ _ _ (at_chain _ _ (at_this_word _) (λ _. at_chain _ _ (at_token _) (λ _. at_gives _)))
      (at_chain _ _ (at_this_word _) (λ _. at_chain _ _ (at_token _) (λ _. at_gives _)))

  at_mark : Placed (mark text)
  unfolding mark
  at_mark = at_chain _ _ (at_token _) (λ _. at_section)

  at_one_declaration : (p : ProgramText) → Placed (one_declaration text p)
  unfolding one_declaration
  at_one_declaration p = at_choice _ _ _ at_declaration_too_many (at_chain _ _ (at_where _ (at_declaration _)) (λ _. at_gives _))

  at_program : Placed (program text)
  unfolding program item
  at_program = at_loop _ _ _ (λ p. at_choice _ _ _ (at_chain _ _ at_mark (λ _. at_gives _)) (at_one_declaration p))

pub no_memory : (text : List ℕ) (tokens : List Token) → SyntaxRefused text tokens Memory → ⊥
no_memory text tokens h = (at_program text).each tokens Memory h

pub no_memory_of_type : (text : List ℕ) (tokens : List Token) → TypeRefused text tokens Memory → ⊥
no_memory_of_type text tokens h = (at_whole_type text).each tokens Memory h
