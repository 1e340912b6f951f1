-- Program text: declarations.
-- From "TL language" (core.telegram.org/mtproto/TL) and "Formal description of TL" (core.telegram.org/mtproto/TL-formal), its combinator declarations.
use Rattle.std.specs.Prelude.{◌≡◌, ◌⊎◌, ℕ, List, [], ◌∷◌, ◌++◌, length, Bool, false, Option, Some, None, codes}
use Rattle.tl_lexer.specs.Rule.{Rule, gives, fails, chain, choice, loop, Next}
use Rattle.tl_lexer.specs.declared.token.Token.{Token}
use Rattle.tl_lexer.specs.declared.token.TokenKind.TheVariants.{Colon, Semi, Equals, LBrace, RBrace}
use Rattle.tl_combinators.specs.declared.fault.SyntaxFault.{SyntaxFault}
use Rattle.tl_combinators.specs.declared.fault.UnsupportedForm.TheVariants.{Lifecycle, PartialApplication, Anonymous}
use Rattle.tl_program.specs.declared.built_in.BuiltIn.{BuiltIn}
use Rattle.tl_combinators.specs.Taken.{taken}
use Rattle.tl_program.specs.Letters.{is_lower, is_upper}
use Rattle.tl_combinators.specs.Tokens.{bytes_of, unexpected, not_profile, too_many, Begins, token, IsWord, IsThis, letter_word}
use Rattle.tl_combinators.specs.Names.{NameText, declared_name, number}
use Rattle.tl_program.specs.Trees.{Tree}
use Rattle.tl_combinators.specs.Types.{expression}
use Rattle.tl_program.specs.Program.{part_limit, DeclText}
use Rattle.tl_combinators.specs.Description.{Piece, pieces, left_out, description}
use Rattle.tl_combinators.specs.Fields.{fields}
use Rattle.tl_program.specs.BuiltIns.{built_in}
use Rattle.tl_combinators.specs.BuiltInLines.{sort, built_in_line}

-- ---- variables

-- `{X:Type}`
unfoldable pub variable : List ℕ → Rule Token SyntaxFault (List ℕ)
variable text =
    chain (token text LBrace) (λ l. chain (letter_word text) (λ w. chain (token text Colon) (λ c. chain (sort text) (λ s.
    chain (token text RBrace) (λ r. gives (bytes_of text w))))))

-- one more variable
unfoldable pub one_variable : List ℕ → List (List ℕ) → Rule Token SyntaxFault (List (List ℕ))
one_variable text vs = choice (λ ts. length vs ≡ part_limit) (fails (too_many text)) (chain (variable text) (λ v. gives (vs ++ (v ∷ []))))

-- variables, as long as one begins
unfoldable pub variables : List ℕ → Rule Token SyntaxFault (List (List ℕ))
variables text = loop (Begins LBrace) (one_variable text) []

-- ---- combinators

-- `= result`
unfoldable pub result_type : List ℕ → Rule Token SyntaxFault Tree
result_type text = chain (token text Equals) (λ e. expression text)

-- a constructor or a function, after its name, which is these pieces
unfoldable pub combinator : List ℕ → Bool → NameText → List Piece → Rule Token SyntaxFault DeclText
combinator text function n ps =
    chain (taken (number text n.end)) (λ i.
    chain (taken (variables text)) (λ vs.
    chain (fields text function (length vs.0) ((ps ++ left_out i.1) ++ pieces text vs.1)) (λ fs.
    chain (taken (result_type text)) (λ t.
    chain (token text Semi) (λ s.
    chain (description (fs.pieces ++ pieces text t.1)) (λ described.
    gives (record {
      name = n.bytes;
      number = i.0;
      vars = vs.0;
      fields = fs.fields;
      result = t.0;
      function = function;
      builtin = false;
      text = described;
    })))))))

-- what its name makes of a declaration: the line of a built-in type, or a combinator
abbrev pub named_declaration : List ℕ → Bool → NameText → List Piece → Option BuiltIn → Rule Token SyntaxFault DeclText
named_declaration text function n ps (Some b) = built_in_line text b n
named_declaration text function n ps None = combinator text function n ps

-- a declaration; function says whether it stands in a section of functions
unfoldable pub declaration : List ℕ → Bool → Rule Token SyntaxFault DeclText
declaration text function =
    chain (taken (declared_name text)) (λ n. named_declaration text function n.0 (pieces text n.1) (built_in n.0.bytes))

-- ---- where a declaration is expected

-- the Word `New`, `Final` or `Empty`
abbrev pub IsLifecycle : List ℕ → Token → Type 0
IsLifecycle text t = IsThis text (codes "New") t ⊎ IsThis text (codes "Final") t ⊎ IsThis text (codes "Empty") t

-- the three forms that are left out, or what r reads
unfoldable pub where_declaration : {A : Type 0} → List ℕ → Rule Token SyntaxFault A → Rule Token SyntaxFault A
where_declaration text r =
    choice (Next (IsLifecycle text)) (fails (not_profile text Lifecycle))
    (choice (Next (IsWord text is_upper)) (fails (not_profile text PartialApplication))
    (choice (Next (IsThis text (codes "_"))) (fails (not_profile text Anonymous)) r))

-- one declaration more than there may be
unfoldable pub declaration_too_many : {A : Type 0} → List ℕ → Rule Token SyntaxFault A
declaration_too_many text = where_declaration text (choice (Next (IsWord text is_lower)) (fails (too_many text)) (fails (unexpected text)))
