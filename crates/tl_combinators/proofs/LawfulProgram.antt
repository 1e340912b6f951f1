-- Each rule of programs and types is lawful.
use Rattle.std.specs.Prelude.{codes}
use Rattle.std.proofs.lemmas.Bool.{cases_eq}
use Rattle.std.proofs.Common.{◌≡◌, ◌∙◌, sym, subst, inl, inr, refl, length, ◌+◌, ℕ, zero, suc, List, [], ◌∷◌, Bool, true, false, Option, Some, None}
use Rattle.tl_lexer.specs.Rule.{Rule, Next}
use Rattle.tl_lexer.specs.declared.token.Token.{Token}
use Rattle.tl_lexer.specs.declared.token.TokenKind.{TokenKind}
use Rattle.tl_lexer.specs.declared.token.TokenKind.TheVariants.{Dashes, Hash, Equals, Bang, Percent, LBrace, Less, LParen, Comma}
use Rattle.tl_lexer.proofs.Sure.{Sure}
use Rattle.tl_lexer.proofs.Whole.{Outcome, Decided, next_decided}
use Rattle.tl_combinators.specs.declared.fault.SyntaxFault.{SyntaxFault}
use Rattle.tl_program.specs.declared.built_in.BuiltIn.{BuiltIn}
use Rattle.tl_program.specs.declared.built_in.BuiltIn.TheVariants.{Int, Long, Double, Str, Bytes, Vector, Int128, Int256}
use Rattle.tl_program.specs.Letters.{is_letter, is_lower, is_upper}
use Rattle.tl_combinators.specs.Tokens.{bytes_of, unexpected, token, letter_word, this_word}
use Rattle.tl_combinators.specs.Names.{NameText, IsObject, name_from, name, declared_name, type_name, hex, vector_hex, number_by, number, vector_line_number}
use Rattle.tl_program.specs.Trees.{Tree}
use Rattle.tl_combinators.specs.Types.{level_limit, one_opens, opens, closes, in_parens, one_term, terms, one_listed, listed, applied, application, no_level, after_percent, bare, core, type_in, term, expression, at_end, whole_type}
use Rattle.tl_combinators.specs.Description.{Piece}
use Rattle.tl_program.specs.Program.{declaration_limit, part_limit}
use Rattle.tl_combinators.specs.Fields.{bit_value, IsBit, HasBit, bit, condition, called, in_condition, held, where_field, field, field_too_many, FieldsText, fields_text, one_field, fields}
use Rattle.tl_program.specs.BuiltIns.{built_in}
use Rattle.tl_combinators.specs.BuiltInLines.{this_type, sort, boxed, opaque, bracketed, repeated, element, vector_result, vector, line_form, line_number, built_in_line}
use Rattle.tl_combinators.specs.Declarations.{variable, one_variable, variables, result_type, combinator, named_declaration, declaration, where_declaration, declaration_too_many}
use Rattle.tl_combinators.specs.Sentences.{ProgramText, program_so_far, section, mark, one_declaration, item, program}
use Rattle.tl_combinators.proofs.Rows.{Shorter, shorter_one, shorter_fails, shorter_choice, shorter_taken}
use Rattle.tl_combinators.proofs.Lawful.{Lawful, lawful_gives, lawful_fails, lawful_one, lawful_chain, lawful_choice, lawful_loop, lawful_taken, shorter_first, shorter_then}
use Rattle.tl_combinators.proofs.DescribedRule.{lawful_description}
use Rattle.tl_combinators.proofs.Decided.{decided_not, true_decided}
use Rattle.tl_combinators.proofs.DecidedTokens.{kind_decided, begins_decided, place_decided, word_decided, this_decided, space_decided, last_decided, lifecycle_decided, hex_decided, other_number_decided, bit_decided, condition_decided, term_decided, type_decided, multiplicity_decided, unnamed_decided, end_decided}

-- ---- tokens

lawful_token : (text : List ℕ) (kind : TokenKind) → Lawful (token text kind)
unfolding token
lawful_token text kind = lawful_one _ _ (kind_decided kind)

lawful_letter_word : (text : List ℕ) → Lawful (letter_word text)
unfolding letter_word
lawful_letter_word text = lawful_one _ _ (word_decided text is_letter)

shorter_token : (text : List ℕ) (kind : TokenKind) → Shorter (token text kind)
unfolding token
shorter_token text kind = shorter_one _ _

shorter_letter_word : (text : List ℕ) → Shorter (letter_word text)
unfolding letter_word
shorter_letter_word text = shorter_one _ _

lawful_this_word : (text bytes : List ℕ) → Lawful (this_word text bytes)
unfolding this_word
lawful_this_word text bytes = lawful_one _ _ (this_decided text bytes)

-- ---- names and numbers

lawful_name_from : (text : List ℕ) (test : ℕ → Bool) (w : Token) → Lawful (name_from text test w)
unfolding name_from
lawful_name_from text test w = lawful_choice _ _ _ (space_decided text w) (lawful_chain _ _ (lawful_token _ _) (λ d. lawful_chain _ _ (lawful_one _ _ (last_decided text test d.end)) (λ v. lawful_gives _))) (lawful_gives _)

lawful_name : (text : List ℕ) → Lawful (name text)
unfolding name
lawful_name text = lawful_chain _ _ (lawful_letter_word _) (λ w. lawful_name_from _ _ _)

lawful_declared_name : (text : List ℕ) → Lawful (declared_name text)
unfolding declared_name
lawful_declared_name text = lawful_chain _ _ (lawful_one _ _ (word_decided text is_lower)) (λ w. lawful_name_from _ _ _)

object_decided : (text : List ℕ) (ts : List Token) → Decided (Next (IsObject text) ts)
object_decided text ts = next_decided (IsObject text) (this_decided text (codes "Object")) ts

lawful_type_name : (text : List ℕ) → Lawful (type_name text)
unfolding type_name
lawful_type_name text = lawful_choice _ _ _ (object_decided text) (lawful_fails _) (lawful_name _)

shorter_type_name : (text : List ℕ) → Shorter (type_name text)
unfolding type_name name
shorter_type_name text = shorter_choice _ _ _ (shorter_fails _) (shorter_first _ _ (shorter_letter_word _) (λ w. lawful_name_from _ _ _))

shorter_declared_name : (text : List ℕ) → Shorter (declared_name text)
unfolding declared_name
shorter_declared_name text = shorter_first _ _ (shorter_one _ _) (λ w. lawful_name_from _ _ _)

lawful_hex : (text : List ℕ) (edge : ℕ) → Lawful (hex text edge)
unfolding hex
lawful_hex text edge = lawful_chain _ _ (lawful_one _ _ (hex_decided text edge)) (λ t. lawful_gives _)

lawful_vector_hex : (text : List ℕ) (edge : ℕ) → Lawful (vector_hex text edge)
unfolding vector_hex
lawful_vector_hex text edge = lawful_choice _ _ _ (next_decided _ (other_number_decided text edge)) (lawful_fails _) (lawful_hex _ _)

lawful_number_by : (text : List ℕ) (digits : ℕ → Rule Token SyntaxFault ℕ) (edge : ℕ) → ((e : ℕ) → Lawful (digits e)) → Lawful (number_by text digits edge)
unfolding number_by
lawful_number_by text digits edge s = lawful_choice _ _ _ (next_decided _ (place_decided edge Hash)) (lawful_chain _ _ (lawful_token _ _) (λ h. lawful_chain _ _ (s _) (λ n. lawful_gives _))) (lawful_gives _)

lawful_number : (text : List ℕ) (edge : ℕ) → Lawful (number text edge)
unfolding number
lawful_number text edge = lawful_number_by _ _ _ (lawful_hex _)

lawful_vector_line_number : (text : List ℕ) (edge : ℕ) → Lawful (vector_line_number text edge)
unfolding vector_line_number
lawful_vector_line_number text edge = lawful_number_by _ _ _ (lawful_vector_hex _)

-- ---- types

shorter_one_opens : (text : List ℕ) (n : ℕ) → Shorter (one_opens text n)
unfolding one_opens
shorter_one_opens text n = shorter_first _ _ (shorter_token _ _) (λ t. lawful_gives _)

lawful_opens : (text : List ℕ) → Lawful (opens text)
unfolding opens one_opens
lawful_opens text = lawful_loop _ (one_opens text) (begins_decided LParen) (λ n. lawful_chain _ _ (lawful_token _ _) (λ t. lawful_gives _)) (shorter_one_opens text) 0

lawful_closes : (text : List ℕ) (n : ℕ) → Lawful (closes text n)
lawful_closes text zero = lawful_gives _
lawful_closes text (suc n) = lawful_chain _ _ (lawful_token _ _) (λ t. lawful_closes text n)

lawful_in_parens : (text : List ℕ) (inner : Bool → Rule Token SyntaxFault Tree) (head : Bool) → ((h : Bool) → Lawful (inner h)) → Lawful (in_parens text inner head)
unfolding in_parens
lawful_in_parens text inner head s = lawful_chain _ _ (lawful_opens _) (λ n. lawful_chain _ _ (s _) (λ t. lawful_chain _ _ (lawful_closes text n) (λ u. lawful_gives _)))

lawful_one_term : (r : Rule Token SyntaxFault Tree) (ts : List Tree) → Lawful r → Lawful (one_term r ts)
unfolding one_term
lawful_one_term r ts s = lawful_chain _ _ s (λ t. lawful_gives _)

shorter_one_term : (r : Rule Token SyntaxFault Tree) (ts : List Tree) → Shorter r → Shorter (one_term r ts)
unfolding one_term
shorter_one_term r ts s = shorter_first _ _ s (λ t. lawful_gives _)

lawful_terms : (r : Rule Token SyntaxFault Tree) → Lawful r → Shorter r → Lawful (terms r)
unfolding terms
lawful_terms r s less = lawful_loop _ (one_term r) term_decided (λ ts. lawful_one_term r ts s) (λ ts. shorter_one_term r ts less) []

lawful_one_listed : (text : List ℕ) (r : Rule Token SyntaxFault Tree) (ts : List Tree) → Lawful r → Lawful (one_listed text r ts)
unfolding one_listed
lawful_one_listed text r ts s = lawful_chain _ _ (lawful_token _ _) (λ c. lawful_one_term r ts s)

shorter_one_listed : (text : List ℕ) (r : Rule Token SyntaxFault Tree) (ts : List Tree) → Lawful r → Shorter (one_listed text r ts)
unfolding one_listed
shorter_one_listed text r ts s = shorter_first _ _ (shorter_token _ _) (λ c. lawful_one_term r ts s)

lawful_listed : (text : List ℕ) (r : Rule Token SyntaxFault Tree) → Lawful r → Lawful (listed text r)
unfolding listed
lawful_listed text r s = lawful_chain _ _ s (λ t. lawful_loop _ (one_listed text r) (begins_decided Comma) (λ ts. lawful_one_listed text r ts s) (λ ts. shorter_one_listed text r ts s) (t ∷ []))

module _ (text : List ℕ) (below : Bool → Rule Token SyntaxFault Tree) (deep : (h : Bool) → Lawful (below h)) (less : (h : Bool) → Shorter (below h)) where
  lawful_applied : (head : Bool) (name : List ℕ) → Lawful (applied text below head name)
  unfolding applied
  lawful_applied head name =
      lawful_choice _ _ _ (begins_decided Less) (lawful_chain _ _ (lawful_token _ _) (λ l. lawful_chain _ _ (lawful_listed text _ (deep _)) (λ ts. lawful_chain _ _ (lawful_token _ _) (λ g. lawful_gives _))))
      (lawful_choice _ _ _ (λ ts. true_decided head) (lawful_chain _ _ (lawful_terms _ (deep _) (less _)) (λ ts. lawful_gives _)) (lawful_gives _))

  lawful_application : (head : Bool) → Lawful (application text below head)
  unfolding application
  lawful_application head = lawful_chain _ _ (lawful_type_name _) (λ n. lawful_applied head _)

  shorter_application : (head : Bool) → Shorter (application text below head)
  unfolding application
  shorter_application head = shorter_first _ _ (shorter_type_name _) (λ n. lawful_applied head _)

  module _ (deeper : Bool → Rule Token SyntaxFault Tree) (in_it : (h : Bool) → Lawful (deeper h)) where
    lawful_after_percent : (head : Bool) → Lawful (after_percent text deeper below head)
    unfolding after_percent
    lawful_after_percent head = lawful_choice _ _ _ (begins_decided Percent) (in_it head) (lawful_application head)

    lawful_bare : Lawful (bare text deeper below)
    unfolding bare
    lawful_bare = lawful_chain _ _ (lawful_token _ _) (λ p. lawful_chain _ _ (lawful_in_parens text _ _ lawful_after_percent) (λ t. lawful_gives _))

    shorter_bare : Shorter (bare text deeper below)
    unfolding bare
    shorter_bare = shorter_first _ _ (shorter_token _ _) (λ p. lawful_chain _ _ (lawful_in_parens text _ _ lawful_after_percent) (λ t. lawful_gives _))

lawful_no_level : (text : List ℕ) → Lawful (no_level text)
unfolding no_level
lawful_no_level text = lawful_choice _ _ _ (object_decided text) (lawful_fails _) (lawful_choice _ _ _ (type_decided text) (lawful_fails _) (lawful_fails _))

shorter_no_level : (text : List ℕ) → Shorter (no_level text)
unfolding no_level
shorter_no_level text = shorter_choice _ _ _ (shorter_fails _) (shorter_choice _ _ _ (shorter_fails _) (shorter_fails _))

shorter_in_parens : (text : List ℕ) (inner : Bool → Rule Token SyntaxFault Tree) (head : Bool) → ((h : Bool) → Shorter (inner h)) → Shorter (in_parens text inner head)
unfolding in_parens
shorter_in_parens text inner head s = shorter_then _ _ (lawful_opens _) (λ n. shorter_first _ _ (s _) (λ t. lawful_chain _ _ (lawful_closes text n) (λ u. lawful_gives _)))

-- a type with n levels left
record AtLevel (text : List ℕ) (n : ℕ) : Type 0 where
  lawful : (head : Bool) → Lawful (core text n head)
  shorter : (head : Bool) → Shorter (core text n head)

module _ (text : List ℕ) (n : ℕ) (at : AtLevel text n) where
  lawful_below : (head : Bool) → Lawful (type_in text n head)
  lawful_below head = lawful_in_parens text (core text n) head at.lawful

  shorter_below : (head : Bool) → Shorter (type_in text n head)
  shorter_below head = shorter_in_parens text (core text n) head at.shorter

  above : AtLevel text (suc n)
  above = record {
    lawful = λ head. lawful_choice _ _ _ (begins_decided Percent) (lawful_bare text _ lawful_below shorter_below _ at.lawful) (lawful_application text _ lawful_below shorter_below head);
    shorter = λ head. shorter_choice _ _ _ (shorter_bare text _ lawful_below shorter_below _ at.lawful) (shorter_application text _ lawful_below shorter_below head);
  }

each_level : (text : List ℕ) (n : ℕ) → AtLevel text n
each_level text zero = record { lawful = λ head. lawful_no_level text; shorter = λ head. shorter_no_level text }
each_level text (suc n) = above text n (each_level text n)

lawful_type_in : (text : List ℕ) (n : ℕ) (head : Bool) → Lawful (type_in text n head)
lawful_type_in text n head = lawful_below text n (each_level text n) head

lawful_term : (text : List ℕ) → Lawful (term text)
unfolding term
lawful_term text = lawful_type_in text level_limit false

lawful_expression : (text : List ℕ) → Lawful (expression text)
unfolding expression
lawful_expression text = lawful_type_in text level_limit true

lawful_at_end : (text : List ℕ) → Lawful (at_end text)
unfolding at_end
lawful_at_end text = lawful_choice _ _ _ end_decided (lawful_gives _) (lawful_fails _)

pub lawful_whole_type : (text : List ℕ) → Lawful (whole_type text)
unfolding whole_type
lawful_whole_type text =
    lawful_choice _ _ _ (begins_decided Bang) (lawful_chain _ _ (lawful_token _ _) (λ b. lawful_chain _ _ (lawful_at_end _) (λ u. lawful_gives _)))
    (lawful_chain _ _ (lawful_expression _) (λ t. lawful_chain _ _ (lawful_at_end _) (λ u. lawful_gives _)))

-- ---- fields

bit_at : (text : List ℕ) (t : Token) (ts : List Token) → Decided (HasBit text t) → Outcome (bit text) (t ∷ ts)
unfolding bit
bit_at text t ts (inl h) = inl (h.0, ts, (t, refl, h.1))
bit_at text t ts (inr n) = inr (unexpected text (t ∷ ts), (n, refl))

bit_given : (text : List ℕ) (ts : List Token) → Outcome (bit text) ts
unfolding bit
bit_given text [] = inr (unexpected text [], ((λ h. h), refl))
bit_given text (t ∷ ts) = bit_at text t ts (bit_decided text t)

heads : {t u : Token} {a b : List Token} → t ∷ a ≡ u ∷ b → (t ≡ u) × (a ≡ b)
heads e = (cc, cc)

same_value : (o : Option ℕ) (n m : ℕ) → o ≡ Some n → o ≡ Some m → n ≡ m
same_value o n m p q = cc

same_bit : (text : List ℕ) (n m : ℕ) (ts rest more : List Token) (t u : Token) → ts ≡ t ∷ rest → IsBit text n t → ts ≡ u ∷ more → IsBit text m u → (n ≡ m) × (rest ≡ more)
same_bit text n m ts rest more t u e p f q =
    let both = heads (sym e ∙ f) in
    (same_value (bit_value (bytes_of text t)) n m p.digits (subst (IsBit text m) (sym both.0) q).digits, both.1)

sure_bit : (text : List ℕ) → Sure (bit text)
unfolding bit
sure_bit text = record {
  same = λ ts rest more n m p q. same_bit text n m ts rest more p.0 q.0 p.1 p.2 q.1 q.2;
  apart = λ ts rest n f p q. q.0 (subst (Next (HasBit text)) (sym p.1) (n, p.2));
  fault = λ ts f g p q. p.1 ∙ sym q.1;
}

lawful_bit : (text : List ℕ) → Lawful (bit text)
unfolding bit
lawful_bit text = record {
  sure = sure_bit text;
  rows = record { given = λ ts rest n h. (h.0 ∷ [], h.1) };
  whole = record { given = bit_given text };
}

lawful_condition : (text : List ℕ) → Lawful (condition text)
unfolding condition
lawful_condition text = lawful_chain _ _ (lawful_letter_word _) (λ w. lawful_chain _ _ (lawful_token _ _) (λ d. lawful_chain _ _ (lawful_bit _) (λ n. lawful_chain _ _ (lawful_token _ _) (λ q. lawful_gives _))))

lawful_called : (text : List ℕ) (function : Bool) → Lawful (called text function)
unfolding called
lawful_called text function = lawful_choice _ _ _ (λ ts. true_decided function) (lawful_chain _ _ (lawful_token _ _) (λ b. lawful_chain _ _ (lawful_letter_word _) (λ w. lawful_gives _))) (lawful_fails _)

lawful_in_condition : (text : List ℕ) → Lawful (in_condition text)
unfolding in_condition
lawful_in_condition text = lawful_chain _ _ (lawful_condition _) (λ c. lawful_chain _ _ (lawful_term _) (λ t. lawful_gives _))

lawful_held : (text : List ℕ) (function : Bool) → Lawful (held text function)
unfolding held
lawful_held text function =
    lawful_choice _ _ _ (begins_decided Hash) (lawful_chain _ _ (lawful_token _ _) (λ h. lawful_gives _)) (lawful_choice _ _ _ (begins_decided Bang) (lawful_called _ _)
    (lawful_choice _ _ _ (condition_decided text) (lawful_in_condition _)
    (lawful_chain _ _ (lawful_term _) (λ t. lawful_gives _))))

lawful_where_field : {A : Type 0} (text : List ℕ) (r : Rule Token SyntaxFault A) → Lawful r → Lawful (where_field text r)
unfolding where_field
lawful_where_field text r s = lawful_choice _ _ _ (multiplicity_decided text) (lawful_fails _) (lawful_choice _ _ _ (unnamed_decided text) (lawful_fails _) s)

lawful_field : (text : List ℕ) (function : Bool) → Lawful (field text function)
unfolding field
lawful_field text function =
    lawful_where_field _ _ (lawful_chain _ _ (lawful_letter_word _) (λ w. lawful_chain _ _ (lawful_token _ _) (λ c. lawful_chain _ _ (lawful_held _ _) (λ h. lawful_gives _))))

lawful_field_too_many : {A : Type 0} (text : List ℕ) → Lawful (field_too_many {A = A} text)
unfolding field_too_many
lawful_field_too_many text = lawful_where_field _ _ (lawful_choice _ _ _ (next_decided _ (word_decided text is_letter)) (lawful_fails _) (lawful_fails _))

shorter_where_field : {A : Type 0} (text : List ℕ) (r : Rule Token SyntaxFault A) → Shorter r → Shorter (where_field text r)
unfolding where_field
shorter_where_field text r s = shorter_choice _ _ _ (shorter_fails _) (shorter_choice _ _ _ (shorter_fails _) s)

shorter_field : (text : List ℕ) (function : Bool) → Shorter (field text function)
unfolding field
shorter_field text function =
    shorter_where_field _ _ (shorter_first _ _ (shorter_letter_word _) (λ w. lawful_chain _ _ (lawful_token _ _) (λ c. lawful_chain _ _ (lawful_held _ _) (λ h. lawful_gives _))))

shorter_field_too_many : {A : Type 0} (text : List ℕ) → Shorter (field_too_many {A = A} text)
unfolding field_too_many
shorter_field_too_many text = shorter_where_field _ _ (shorter_choice _ _ _ (shorter_fails _) (shorter_fails _))

lawful_one_field : (text : List ℕ) (function : Bool) (vars : ℕ) (s : FieldsText) → Lawful (one_field text function vars s)
unfolding one_field
lawful_one_field text function vars s = lawful_choice _ _ _ (λ ts. cases_eq (vars + length s.fields) part_limit) (lawful_field_too_many _) (lawful_chain _ _ (lawful_taken _ (lawful_field _ _)) (λ f. lawful_gives _))

shorter_one_field : (text : List ℕ) (function : Bool) (vars : ℕ) (s : FieldsText) → Shorter (one_field text function vars s)
unfolding one_field
shorter_one_field text function vars s = shorter_choice _ _ _ (shorter_field_too_many _) (shorter_first _ _ (shorter_taken _ (shorter_field _ _)) (λ f. lawful_gives _))

lawful_fields : (text : List ℕ) (function : Bool) (vars : ℕ) (d : List Piece) → Lawful (fields text function vars d)
unfolding fields
lawful_fields text function vars d = lawful_loop _ (one_field text function vars) (λ ts. decided_not (begins_decided Equals ts)) (lawful_one_field text function vars) (shorter_one_field text function vars) (fields_text [] d)

-- ---- lines of built-in types

lawful_this_type : (text bytes : List ℕ) → Lawful (this_type text bytes)
unfolding this_type
lawful_this_type text bytes = lawful_choice _ _ _ (object_decided text) (lawful_fails _) (lawful_this_word _ _)

lawful_sort : (text : List ℕ) → Lawful (sort text)
unfolding sort
lawful_sort text = lawful_choice _ _ _ (begins_decided Hash) (lawful_fails _) (lawful_this_word _ _)

lawful_boxed : (text name : List ℕ) → Lawful (boxed text name)
unfolding boxed
lawful_boxed text name = lawful_chain _ _ (lawful_token _ _) (λ e. lawful_chain _ _ (lawful_this_type _ _) (λ t. lawful_chain _ _ (lawful_token _ _) (λ s. lawful_gives _)))

lawful_opaque : (text name : List ℕ) → Lawful (opaque text name)
unfolding opaque
lawful_opaque text name = lawful_chain _ _ (lawful_token _ _) (λ q. lawful_boxed _ _)

lawful_bracketed : (text item : List ℕ) → Lawful (bracketed text item)
unfolding bracketed
lawful_bracketed text item = lawful_chain _ _ (lawful_token _ _) (λ l. lawful_chain _ _ (lawful_this_word _ _) (λ t. lawful_chain _ _ (lawful_token _ _) (λ r. lawful_gives _)))

lawful_repeated : (text count name : List ℕ) → Lawful (repeated text count name)
unfolding repeated
lawful_repeated text count name = lawful_chain _ _ (lawful_this_word _ _) (λ w. lawful_chain _ _ (lawful_token _ _) (λ s. lawful_chain _ _ (lawful_bracketed _ _) (λ u. lawful_boxed _ _)))

lawful_element : (text : List ℕ) → Lawful (element text)
unfolding element
lawful_element text =
    lawful_chain _ _ (lawful_token _ _) (λ l. lawful_chain _ _ (lawful_this_word _ _) (λ w. lawful_chain _ _ (lawful_token _ _) (λ c. lawful_chain _ _ (lawful_sort _) (λ s.
    lawful_chain _ _ (lawful_token _ _) (λ r. lawful_gives _)))))

lawful_vector_result : (text : List ℕ) → Lawful (vector_result text)
unfolding vector_result
lawful_vector_result text =
    lawful_chain _ _ (lawful_token _ _) (λ e. lawful_chain _ _ (lawful_this_type _ _) (λ v. lawful_chain _ _ (lawful_this_word _ _) (λ t. lawful_chain _ _ (lawful_token _ _) (λ s. lawful_gives _))))

lawful_vector : (text : List ℕ) → Lawful (vector text)
unfolding vector
lawful_vector text = lawful_chain _ _ (lawful_element _) (λ u. lawful_chain _ _ (lawful_token _ _) (λ h. lawful_chain _ _ (lawful_bracketed _ _) (λ v. lawful_vector_result _)))

lawful_line_form : (text : List ℕ) (b : BuiltIn) → Lawful (line_form text b)
lawful_line_form text Int = lawful_opaque _ _
lawful_line_form text Long = lawful_opaque _ _
lawful_line_form text Double = lawful_opaque _ _
lawful_line_form text Str = lawful_opaque _ _
lawful_line_form text Bytes = lawful_boxed _ _
lawful_line_form text Vector = lawful_vector _
lawful_line_form text Int128 = lawful_repeated _ _ _
lawful_line_form text Int256 = lawful_repeated _ _ _

lawful_line_number : (text : List ℕ) (b : BuiltIn) (edge : ℕ) → Lawful (line_number text b edge)
lawful_line_number text Int edge = lawful_number _ _
lawful_line_number text Long edge = lawful_number _ _
lawful_line_number text Double edge = lawful_number _ _
lawful_line_number text Str edge = lawful_number _ _
lawful_line_number text Bytes edge = lawful_number _ _
lawful_line_number text Vector edge = lawful_vector_line_number _ _
lawful_line_number text Int128 edge = lawful_number _ _
lawful_line_number text Int256 edge = lawful_number _ _

lawful_built_in_line : (text : List ℕ) (b : BuiltIn) (n : NameText) → Lawful (built_in_line text b n)
unfolding built_in_line
lawful_built_in_line text b n = lawful_chain _ _ (lawful_line_number text b _) (λ i. lawful_chain _ _ (lawful_line_form text b) (λ u. lawful_gives _))

-- ---- declarations

lawful_variable : (text : List ℕ) → Lawful (variable text)
unfolding variable
lawful_variable text =
    lawful_chain _ _ (lawful_token _ _) (λ l. lawful_chain _ _ (lawful_letter_word _) (λ w. lawful_chain _ _ (lawful_token _ _) (λ c. lawful_chain _ _ (lawful_sort _) (λ s.
    lawful_chain _ _ (lawful_token _ _) (λ r. lawful_gives _)))))

shorter_variable : (text : List ℕ) → Shorter (variable text)
unfolding variable
shorter_variable text =
    shorter_first _ _ (shorter_token _ _) (λ l. lawful_chain _ _ (lawful_letter_word _) (λ w. lawful_chain _ _ (lawful_token _ _) (λ c. lawful_chain _ _ (lawful_sort _) (λ s.
    lawful_chain _ _ (lawful_token _ _) (λ r. lawful_gives _)))))

lawful_one_variable : (text : List ℕ) (vs : List (List ℕ)) → Lawful (one_variable text vs)
unfolding one_variable
lawful_one_variable text vs = lawful_choice _ _ _ (λ ts. cases_eq (length vs) part_limit) (lawful_fails _) (lawful_chain _ _ (lawful_variable _) (λ v. lawful_gives _))

shorter_one_variable : (text : List ℕ) (vs : List (List ℕ)) → Shorter (one_variable text vs)
unfolding one_variable
shorter_one_variable text vs = shorter_choice _ _ _ (shorter_fails _) (shorter_first _ _ (shorter_variable _) (λ v. lawful_gives _))

lawful_variables : (text : List ℕ) → Lawful (variables text)
unfolding variables
lawful_variables text = lawful_loop _ (one_variable text) (begins_decided LBrace) (lawful_one_variable text) (shorter_one_variable text) []

lawful_result_type : (text : List ℕ) → Lawful (result_type text)
unfolding result_type
lawful_result_type text = lawful_chain _ _ (lawful_token _ _) (λ e. lawful_expression _)

lawful_combinator : (text : List ℕ) (function : Bool) (n : NameText) (d : List Piece) → Lawful (combinator text function n d)
unfolding combinator
lawful_combinator text function n d =
    lawful_chain _ _ (lawful_taken _ (lawful_number _ _)) (λ i. lawful_chain _ _ (lawful_taken _ (lawful_variables _)) (λ vs. lawful_chain _ _ (lawful_fields _ _ _ _) (λ fs.
    lawful_chain _ _ (lawful_taken _ (lawful_result_type _)) (λ t. lawful_chain _ _ (lawful_token _ _) (λ s. lawful_chain _ _ (lawful_description _) (λ d. lawful_gives _))))))

lawful_named_declaration : (text : List ℕ) (function : Bool) (n : NameText) (d : List Piece) (o : Option BuiltIn) → Lawful (named_declaration text function n d o)
lawful_named_declaration text function n d (Some b) = lawful_built_in_line text b n
lawful_named_declaration text function n d None = lawful_combinator text function n d

lawful_declaration : (text : List ℕ) (function : Bool) → Lawful (declaration text function)
unfolding declaration
lawful_declaration text function = lawful_chain _ _ (lawful_taken _ (lawful_declared_name _)) (λ n. lawful_named_declaration text function n.0 _ (built_in n.0.bytes))

shorter_declaration : (text : List ℕ) (function : Bool) → Shorter (declaration text function)
unfolding declaration
shorter_declaration text function =
    shorter_first _ _ (shorter_taken _ (shorter_declared_name _)) (λ n. lawful_named_declaration text function n.0 _ (built_in n.0.bytes))

lawful_where_declaration : {A : Type 0} (text : List ℕ) (r : Rule Token SyntaxFault A) → Lawful r → Lawful (where_declaration text r)
unfolding where_declaration
lawful_where_declaration text r s = lawful_choice _ _ _ (next_decided _ (lifecycle_decided text)) (lawful_fails _) (lawful_choice _ _ _ (next_decided _ (word_decided text is_upper)) (lawful_fails _)
    (lawful_choice _ _ _ (next_decided _ (this_decided text (codes "_"))) (lawful_fails _) s))

shorter_where_declaration : {A : Type 0} (text : List ℕ) (r : Rule Token SyntaxFault A) → Shorter r → Shorter (where_declaration text r)
unfolding where_declaration
shorter_where_declaration text r s = shorter_choice _ _ _ (shorter_fails _) (shorter_choice _ _ _ (shorter_fails _) (shorter_choice _ _ _ (shorter_fails _) s))

lawful_declaration_too_many : {A : Type 0} (text : List ℕ) → Lawful (declaration_too_many {A = A} text)
unfolding declaration_too_many
lawful_declaration_too_many text = lawful_where_declaration _ _ (lawful_choice _ _ _ (next_decided _ (word_decided text is_lower)) (lawful_fails _) (lawful_fails _))

shorter_declaration_too_many : {A : Type 0} (text : List ℕ) → Shorter (declaration_too_many {A = A} text)
unfolding declaration_too_many
shorter_declaration_too_many text = shorter_where_declaration _ _ (shorter_choice _ _ _ (shorter_fails _) (shorter_fails _))

-- ---- programs

lawful_section : (text : List ℕ) → Lawful (section text)
unfolding section
lawful_section text =
    lawful_choice _ _ _ (next_decided _ (this_decided text (codes "functions"))) (lawful_chain _ _ (lawful_this_word _ _) (λ w. lawful_chain _ _ (lawful_token _ _) (λ b. lawful_gives _)))
    (lawful_chain _ _ (lawful_this_word _ _) (λ w. lawful_chain _ _ (lawful_token _ _) (λ b. lawful_gives _)))

lawful_mark : (text : List ℕ) → Lawful (mark text)
unfolding mark
lawful_mark text = lawful_chain _ _ (lawful_token _ _) (λ a. lawful_section _)

shorter_mark : (text : List ℕ) → Shorter (mark text)
unfolding mark
shorter_mark text = shorter_first _ _ (shorter_token _ _) (λ a. lawful_section _)

lawful_one_declaration : (text : List ℕ) (p : ProgramText) → Lawful (one_declaration text p)
unfolding one_declaration
lawful_one_declaration text p = lawful_choice _ _ _ (λ ts. cases_eq (length p.decls) declaration_limit) (lawful_declaration_too_many _) (lawful_chain _ _ (lawful_where_declaration _ _ (lawful_declaration _ _)) (λ d. lawful_gives _))

shorter_one_declaration : (text : List ℕ) (p : ProgramText) → Shorter (one_declaration text p)
unfolding one_declaration
shorter_one_declaration text p = shorter_choice _ _ _ (shorter_declaration_too_many _) (shorter_first _ _ (shorter_where_declaration _ _ (shorter_declaration _ _)) (λ d. lawful_gives _))

lawful_item : (text : List ℕ) (p : ProgramText) → Lawful (item text p)
unfolding item
lawful_item text p = lawful_choice _ _ _ (begins_decided Dashes) (lawful_chain _ _ (lawful_mark _) (λ f. lawful_gives _)) (lawful_one_declaration text p)

shorter_item : (text : List ℕ) (p : ProgramText) → Shorter (item text p)
unfolding item
shorter_item text p = shorter_choice _ _ _ (shorter_first _ _ (shorter_mark _) (λ f. lawful_gives _)) (shorter_one_declaration text p)

pub lawful_program : (text : List ℕ) → Lawful (program text)
unfolding program
lawful_program text = lawful_loop _ (item text) (λ ts. decided_not (end_decided ts)) (lawful_item text) (shorter_item text) (program_so_far [] false)
