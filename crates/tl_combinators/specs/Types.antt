-- Program text: types.
-- From "Formal description of TL" (core.telegram.org/mtproto/TL-formal), its terms and expressions.
use Rattle.std.specs.Prelude.{◌≡◌, ◌⊎◌, ℕ, zero, suc, List, [], ◌∷◌, ◌++◌, Bool, true, false, IsTrue, ◌||◌, nat_lt}
use Rattle.tl_lexer.specs.Rule.{Rule, gives, fails, chain, choice, loop, Next}
use Rattle.tl_lexer.specs.declared.token.Token.{Token}
use Rattle.tl_lexer.specs.declared.token.TokenKind.TheVariants.{Word, Less, Greater, Comma, LParen, RParen, Percent, Bang}
use Rattle.tl_combinators.specs.declared.fault.SyntaxFault.{SyntaxFault}
use Rattle.tl_combinators.specs.declared.fault.UnsupportedForm.TheVariants.{ObjectType}
use Rattle.tl_program.specs.Letters.{is_letter}
use Rattle.tl_combinators.specs.Tokens.{unexpected, not_profile, too_many, Begins, token, IsWord}
use Rattle.tl_combinators.specs.Names.{type_name, IsObject}
use Rattle.tl_program.specs.Trees.{Tree, named, percent, any_call, trees_of, plain}

-- a type has at most so many levels
abbrev pub level_limit : ℕ
level_limit = 16

-- ---- parentheses, of which there may be any number

-- one more parenthesis opens
unfoldable pub one_opens : List ℕ → ℕ → Rule Token SyntaxFault ℕ
one_opens text n = chain (token text LParen) (λ _. gives (suc n))

-- how many parentheses open here
unfoldable pub opens : List ℕ → Rule Token SyntaxFault ℕ
opens text = loop (Begins LParen) (one_opens text) 0

-- that many parentheses close
abbrev pub closes : List ℕ → ℕ → Rule Token SyntaxFault (Unit {0})
closes text zero = gives tt
closes text (suc n) = chain (token text RParen) (λ _. closes text n)

-- what stands in as many parentheses as there are; in them a name may be a head with terms after it
unfoldable pub in_parens : List ℕ → (Bool → Rule Token SyntaxFault Tree) → Bool → Rule Token SyntaxFault Tree
in_parens text inner head =
    chain (opens text) (λ n. chain (inner (head || nat_lt 0 n)) (λ t. chain (closes text n) (λ _. gives t)))

-- ---- applications

-- a further term begins here
abbrev pub BeginsTerm : List Token → Type 0
BeginsTerm ts = Begins Word ts ⊎ Begins LParen ts ⊎ Begins Percent ts

-- one more term
unfoldable pub one_term : Rule Token SyntaxFault Tree → List Tree → Rule Token SyntaxFault (List Tree)
one_term r ts = chain r (λ t. gives (ts ++ (t ∷ [])))

-- terms, as long as one begins
unfoldable pub terms : Rule Token SyntaxFault Tree → Rule Token SyntaxFault (List Tree)
terms r = loop BeginsTerm (one_term r) []

-- `,` and one more type
unfoldable pub one_listed : List ℕ → Rule Token SyntaxFault Tree → List Tree → Rule Token SyntaxFault (List Tree)
one_listed text r ts = chain (token text Comma) (λ _. one_term r ts)

-- types with `,` between them, one at least
unfoldable pub listed : List ℕ → Rule Token SyntaxFault Tree → Rule Token SyntaxFault (List Tree)
listed text r = chain r (λ t. loop (Begins Comma) (one_listed text r) (t ∷ []))

-- what may stand after a name: `<..>`, or further terms where the name may be a head.
-- below reads what stands a level deeper, where true says that a name in it may be a head.
unfoldable pub applied : List ℕ → (Bool → Rule Token SyntaxFault Tree) → Bool → List ℕ → Rule Token SyntaxFault Tree
applied text below head name =
    choice (Begins Less)
    (chain (token text Less) (λ _. chain (listed text (below true)) (λ ts. chain (token text Greater) (λ _. gives (named name (trees_of ts))))))
    (choice (λ _. IsTrue head) (chain (terms (below false)) (λ ts. gives (named name (trees_of ts))))
    (gives (plain name)))

-- a name and what it is applied to
unfoldable pub application : List ℕ → (Bool → Rule Token SyntaxFault Tree) → Bool → Rule Token SyntaxFault Tree
application text below head = chain (type_name text) (λ n. applied text below head n.bytes)

-- ---- levels

-- a type begins here
abbrev pub BeginsType : List ℕ → List Token → Type 0
BeginsType text ts = Next (IsWord text is_letter) ts ⊎ Begins Percent ts

-- where no level is left
unfoldable pub no_level : List ℕ → Rule Token SyntaxFault Tree
no_level text =
    choice (Next (IsObject text)) (fails (not_profile text ObjectType))
    (choice (BeginsType text) (fails (too_many text)) (fails (unexpected text)))

-- after `%` another `%` is a level deeper, and a name is on the same level, applied to what is below
unfoldable pub after_percent : List ℕ → (Bool → Rule Token SyntaxFault Tree) → (Bool → Rule Token SyntaxFault Tree) → Bool → Rule Token SyntaxFault Tree
after_percent text deeper below head = choice (Begins Percent) (deeper head) (application text below head)

-- `%` and a term
unfoldable pub bare : List ℕ → (Bool → Rule Token SyntaxFault Tree) → (Bool → Rule Token SyntaxFault Tree) → Rule Token SyntaxFault Tree
bare text deeper below = chain (token text Percent) (λ _. chain (in_parens text (after_percent text deeper below) false) (λ t. gives (percent t)))

-- a type with n levels left, outside of parentheses
abbrev pub core : List ℕ → ℕ → Bool → Rule Token SyntaxFault Tree
core text zero head = no_level text
core text (suc n) head =
    choice (Begins Percent) (bare text (core text n) (in_parens text (core text n)))
    (application text (in_parens text (core text n)) head)

-- a type with n levels left; whether its name may be a head with terms after it
abbrev pub type_in : List ℕ → ℕ → Bool → Rule Token SyntaxFault Tree
type_in text n head = in_parens text (core text n) head

-- one term: the type of a field
unfoldable pub term : List ℕ → Rule Token SyntaxFault Tree
term text = type_in text level_limit false

-- a term, or a name with the terms that it is applied to: a result
unfoldable pub expression : List ℕ → Rule Token SyntaxFault Tree
expression text = type_in text level_limit true

-- ---- a type that is the whole text

-- no token is left
unfoldable pub at_end : List ℕ → Rule Token SyntaxFault (Unit {0})
at_end text = choice (λ ts. ts ≡ []) (gives tt) (fails (unexpected text))

-- `!` alone is any call
unfoldable pub whole_type : List ℕ → Rule Token SyntaxFault Tree
whole_type text =
    choice (Begins Bang) (chain (token text Bang) (λ _. chain (at_end text) (λ _. gives any_call)))
    (chain (expression text) (λ t. chain (at_end text) (λ _. gives t)))
