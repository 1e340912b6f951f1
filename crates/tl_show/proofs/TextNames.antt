-- The names in a text's declarations: each field's name begins with a letter, and no line of a built-in type is a function.
use Rattle.std.proofs.Common.{◌≡◌, inl, inr, ℕ, Bool, true, false, List, [], ◌∷◌, ◌++◌, Option, Some, None, refl, sym, subst}
use Rattle.tl_lexer.specs.Rule.{Rule, gives, fails, one, chain, choice, loop, Turns}
use Rattle.tl_lexer.specs.declared.token.Token.{Token}
use Rattle.tl_program.specs.BuiltIns.{built_in}
use Rattle.tl_combinators.specs.BuiltInLines.{built_in_line, line_text}
use Rattle.tl_program.specs.declared.built_in.BuiltIn.{BuiltIn}
use Rattle.tl_combinators.specs.declared.fault.SyntaxFault.{SyntaxFault}
use Rattle.tl_combinators.specs.Declarations.{combinator, declaration, declaration_too_many, named_declaration, where_declaration}
use Rattle.tl_combinators.specs.Description.{Piece}
use Rattle.tl_combinators.specs.Fields.{FieldsText, field, field_too_many, fields, fields_text, one_field, where_field}
use Rattle.tl_combinators.specs.Names.{NameText}
use Rattle.tl_program.specs.Program.{DeclText, FieldText}
use Rattle.tl_combinators.specs.Sentences.{ProgramText, Reads, item, one_declaration, program, program_so_far}
use Rattle.tl_combinators.specs.Taken.{taken}
use Rattle.tl_program.specs.Letters.{first_is, is_letter}
use Rattle.tl_combinators.specs.Tokens.{IsWord, letter_word}

-- each of the list is such
abbrev pub EachIs : {A : Type 0} → (A → Type 0) → List A → Type 0
EachIs Is [] = Unit {0}
EachIs Is (x ∷ xs) = Is x × EachIs Is xs

each_push : {A : Type 0} (Is : A → Type 0) (xs : List A) (x : A) → EachIs Is xs → Is x → EachIs Is (xs ++ x ∷ [])
each_push Is [] x all is = (is, tt)
each_push Is (y ∷ xs) x all is = (all.0, each_push Is xs x all.1 is)

-- ---- what a rule gives

-- all that the rule reads is such
abbrev Gives : {A : Type 0} → Rule Token SyntaxFault A → (A → Type 0) → Type 0
Gives {A} r Is = (ts rest : List Token) (x : A) → r.reads ts x rest → Is x

gives_this : {A : Type 0} (Is : A → Type 0) (a : A) → Is a → Gives (gives a) Is
unfolding gives
gives_this Is a is ts rest x read = subst Is (sym read.0) is

gives_nothing : {A : Type 0} (Is : A → Type 0) (fault_at : List Token → SyntaxFault) → Gives (fails fault_at) Is
unfolding fails
gives_nothing Is fault_at ts rest x read = absurd read

gives_then : {A B : Type 0} (P : A → Type 0) (Is : B → Type 0) (r : Rule Token SyntaxFault A) (s : A → Rule Token SyntaxFault B)
    → Gives r P → ((a : A) → P a → Gives (s a) Is) → Gives (chain r s) Is
unfolding chain
gives_then P Is r s first more ts rest x read = more read.0 (first ts read.1 read.0 read.2) read.1 rest x read.3

gives_after : {A B : Type 0} (Is : B → Type 0) (r : Rule Token SyntaxFault A) (s : A → Rule Token SyntaxFault B) → ((a : A) → Gives (s a) Is) → Gives (chain r s) Is
gives_after {A} Is r s more = gives_then (λ (a : A). Unit {0}) Is r s (λ ts rest a read. tt) (λ a any. more a)

gives_either : {A : Type 0} (Is : A → Type 0) (P : List Token → Type 0) (r s : Rule Token SyntaxFault A) → Gives r Is → Gives s Is → Gives (choice P r s) Is
unfolding choice
gives_either Is P r s first second ts rest x (inl read) = first ts rest x read.1
gives_either Is P r s first second ts rest x (inr read) = second ts rest x read.1

gives_taken : {A : Type 0} (Is : A → Type 0) (r : Rule Token SyntaxFault A) → Gives r Is → Gives (taken r) (λ x. Is x.0)
unfolding taken
gives_taken Is r first ts rest x read = first ts rest x.0 read.0

turns_give : {S : Type 0} (Is : S → Type 0) (P : List Token → Type 0) (r : S → Rule Token SyntaxFault S) → ((s : S) → Is s → Gives (r s) Is)
    → (s : S) (ts mid : List Token) (xs : List S) (a : S) → Is s → Turns P r s ts xs a mid → Is a
turns_give Is P r turn s ts mid [] a is turns = subst Is (sym turns.0) is
turns_give Is P r turn s ts mid (x ∷ xs) a is (p, next, read, more) = turns_give Is P r turn x next mid xs a (turn s is ts next x read) more

gives_loop : {S : Type 0} (Is : S → Type 0) (P : List Token → Type 0) (r : S → Rule Token SyntaxFault S) → ((s : S) → Is s → Gives (r s) Is) → (s : S) → Is s → Gives (loop P r s) Is
unfolding loop
gives_loop Is P r turn s is ts rest x read = turns_give Is P r turn s ts rest read.0 x is read.1

-- ---- fields and declarations

-- a field's name begins with a letter
abbrev pub IsNamed : FieldText → Type 0
IsNamed f = first_is is_letter f.name ≡ true

-- each field of the declaration is named so, and where it is the line of a built-in type it is no function
pub record IsNamedSo (d : DeclText) : Type 0 where
  pub fields : EachIs IsNamed d.fields
  pub line : d.builtin ≡ true → d.function ≡ false

module _ (text : List ℕ) where
  letter_given : Gives (letter_word text) (IsWord text is_letter)
  unfolding letter_word one
  letter_given ts rest w read = read.1

  where_given : {A : Type 0} (Is : A → Type 0) (r : Rule Token SyntaxFault A) → Gives r Is → Gives (where_field text r) Is
  unfolding where_field
  where_given Is r read = gives_either Is _ _ _ (gives_nothing Is _) (gives_either Is _ _ r (gives_nothing Is _) read)

  field_given : (function : Bool) → Gives (field text function) IsNamed
  unfolding field
  field_given function =
      where_given IsNamed _ (gives_then (IsWord text is_letter) IsNamed (letter_word text) _ letter_given (λ w is.
      gives_after IsNamed _ _ (λ c. gives_after IsNamed _ _ (λ h. gives_this IsNamed _ is.first))))

  too_many_given : {A : Type 0} (Is : A → Type 0) → Gives (field_too_many {A = A} text) Is
  unfolding field_too_many
  too_many_given Is = where_given Is _ (gives_either Is _ _ _ (gives_nothing Is _) (gives_nothing Is _))

  AreNamed : FieldsText → Type 0
  AreNamed s = EachIs IsNamed s.fields

  one_given : (function : Bool) (vars : ℕ) (s : FieldsText) → AreNamed s → Gives (one_field text function vars s) AreNamed
  unfolding one_field AreNamed
  one_given function vars s all =
      gives_either AreNamed _ _ _ (too_many_given AreNamed)
      (gives_then (λ f. IsNamed f.0) AreNamed _ _ (gives_taken IsNamed _ (field_given function)) (λ f is. gives_this AreNamed _ (each_push IsNamed s.fields f.0 all is)))

  fields_given : (function : Bool) (vars : ℕ) (ps : List Piece) → Gives (fields text function vars ps) AreNamed
  unfolding fields AreNamed
  fields_given function vars ps = gives_loop AreNamed _ _ (one_given function vars) (fields_text [] ps) tt

  combinator_given : (function : Bool) (n : NameText) (ps : List Piece) → Gives (combinator text function n ps) IsNamedSo
  unfolding combinator AreNamed
  combinator_given function n ps =
      gives_after IsNamedSo _ _ (λ i. gives_after IsNamedSo _ _ (λ vs. gives_then AreNamed IsNamedSo _ _ (fields_given function _ _) (λ fs all.
      gives_after IsNamedSo _ _ (λ t. gives_after IsNamedSo _ _ (λ s. gives_after IsNamedSo _ _ (λ described.
      gives_this IsNamedSo _ (record { fields = all; line = λ is. let never : false ≡ true = is in cc })))))))

  line_given : (b : BuiltIn) (n : NameText) → Gives (built_in_line text b n) IsNamedSo
  unfolding built_in_line
  line_given b n = gives_after IsNamedSo _ _ (λ i. gives_after IsNamedSo _ _ (λ u. gives_this IsNamedSo (line_text b i) (record { fields = tt; line = λ is. refl })))

  named_given : (function : Bool) (n : NameText) (ps : List Piece) (o : Option BuiltIn) → Gives (named_declaration text function n ps o) IsNamedSo
  named_given function n ps (Some b) = line_given b n
  named_given function n ps None = combinator_given function n ps

  declaration_given : (function : Bool) → Gives (declaration text function) IsNamedSo
  unfolding declaration
  declaration_given function = gives_after IsNamedSo _ _ (λ n. named_given function n.0 _ (built_in n.0.bytes))

  where_declaration_given : {A : Type 0} (Is : A → Type 0) (r : Rule Token SyntaxFault A) → Gives r Is → Gives (where_declaration text r) Is
  unfolding where_declaration
  where_declaration_given Is r read =
      gives_either Is _ _ _ (gives_nothing Is _) (gives_either Is _ _ _ (gives_nothing Is _) (gives_either Is _ _ r (gives_nothing Is _) read))

  AreNamedSo : ProgramText → Type 0
  AreNamedSo p = EachIs IsNamedSo p.decls

  one_more_given : (p : ProgramText) → AreNamedSo p → Gives (one_declaration text p) AreNamedSo
  unfolding one_declaration declaration_too_many AreNamedSo
  one_more_given p all =
      gives_either AreNamedSo _ _ _ (where_declaration_given AreNamedSo _ (gives_either AreNamedSo _ _ _ (gives_nothing AreNamedSo _) (gives_nothing AreNamedSo _)))
      (gives_then IsNamedSo AreNamedSo _ _ (where_declaration_given IsNamedSo _ (declaration_given p.function)) (λ d is. gives_this AreNamedSo _ (each_push IsNamedSo p.decls d all is)))

  item_given : (p : ProgramText) → AreNamedSo p → Gives (item text p) AreNamedSo
  unfolding item AreNamedSo
  item_given p all = gives_either AreNamedSo _ _ _ (gives_after AreNamedSo _ _ (λ function. gives_this AreNamedSo (program_so_far p.decls function) all)) (one_more_given p all)

  program_given : Gives (program text) AreNamedSo
  unfolding program AreNamedSo
  program_given = gives_loop AreNamedSo _ _ item_given (program_so_far [] false) tt

  pub text_named : (tokens : List Token) (ds : List DeclText) → Reads text tokens ds → EachIs IsNamedSo ds
  unfolding AreNamedSo
  text_named tokens ds read = program_given tokens [] (program_so_far ds read.0) read.1
