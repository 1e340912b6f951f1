-- Program text: fields.
-- From "TL language" (core.telegram.org/mtproto/TL) and "Formal description of TL" (core.telegram.org/mtproto/TL-formal), its arguments.
use Rattle.std.specs.Prelude.{◌≡◌, ◌⊎◌, ℕ, ◌+◌, ◌*◌, ◌-◌, List, [], ◌∷◌, ◌++◌, length, Bool, IsTrue, Option, Some, None, if◌then◌else◌, codes}
use Rattle.tl_lexer.specs.Rule.{Rule, gives, fails, chain, choice, loop, Next}
use Rattle.tl_lexer.specs.declared.token.Token.{Token}
use Rattle.tl_lexer.specs.declared.token.TokenKind.TheVariants.{Word, Hash, Colon, Equals, Query, Dot, Bang, Percent, LBracket, LParen, Star}
use Rattle.tl_combinators.specs.declared.fault.SyntaxFault.{SyntaxFault}
use Rattle.tl_combinators.specs.declared.fault.UnsupportedForm.TheVariants.{Multiplicity, UnnamedField, CallInConstructor}
use Rattle.tl_combinators.specs.Taken.{taken}
use Rattle.tl_program.specs.Letters.{is_letter, is_digit}
use Rattle.tl_combinators.specs.Tokens.{bytes_of, unexpected, not_profile, too_many, Begins, token, IsWord, letter_word}
use Rattle.tl_program.specs.Trees.{Tree, is_plain}
use Rattle.tl_combinators.specs.Types.{term}
use Rattle.tl_combinators.specs.declared.fields.Held.{Held}
use Rattle.tl_program.specs.Program.{part_limit, KindText, nat, flag, call, of, CondText, FieldText, cond_texts, kind_text}
use Rattle.tl_combinators.specs.Description.{Piece, field_pieces}

-- ---- conditions

-- a decimal digit
abbrev pub digit : ℕ → Option ℕ
digit b = if is_digit b then Some (b - 48) else None

-- two digits, where both are ones
abbrev pub two_digits : Option ℕ → Option ℕ → Option ℕ
two_digits (Some a) (Some b) = Some (a * 10 + b)
two_digits (Some a) None = None
two_digits None o = None

-- one or two decimal digits
abbrev pub bit_value : List ℕ → Option ℕ
bit_value [] = None
bit_value (a ∷ []) = digit a
bit_value (a ∷ b ∷ []) = two_digits (digit a) (digit b)
bit_value (a ∷ b ∷ c ∷ more) = None

-- a Word of digits that are this number
pub record IsBit (text : List ℕ) (n : ℕ) (t : Token) : Type 0 where
  pub word : t.kind ≡ Word
  pub digits : bit_value (bytes_of text t) ≡ Some n

-- a Word of one or two digits
abbrev pub HasBit : List ℕ → Token → Type 0
HasBit text t = (n : ℕ) × IsBit text n t

-- the number of a bit
unfoldable pub bit : List ℕ → Rule Token SyntaxFault ℕ
bit text = record {
  reads = λ ts n rest. (t : Token) × (ts ≡ t ∷ rest) × IsBit text n t;
  refused = λ ts fault. (Next (HasBit text) ts → ⊥) × (fault ≡ unexpected text ts);
}

-- `.` and a Word that begins with a digit
abbrev pub BeginsBit : List ℕ → List Token → Type 0
BeginsBit text [] = ⊥
BeginsBit text (d ∷ ts) = (d.kind ≡ Dot) × Next (IsWord text is_digit) ts

-- a condition begins here: a Word, `.` and a Word that begins with a digit
abbrev pub BeginsCondition : List ℕ → List Token → Type 0
BeginsCondition text [] = ⊥
BeginsCondition text (t ∷ ts) = IsWord text is_letter t × BeginsBit text ts

-- `F.N?`
unfoldable pub condition : List ℕ → Rule Token SyntaxFault CondText
condition text =
    chain (letter_word text) (λ w. chain (token text Dot) (λ d. chain (bit text) (λ n. chain (token text Query) (λ q.
    gives (record { flags = bytes_of text w; bit = n })))))

-- ---- what a field holds

-- after a condition the type `true` is a flag
abbrev pub conditional : Tree → KindText
conditional t = if is_plain (codes "true") t then flag else of t

-- a condition or none, and what the field holds
pub record HeldText : Type 0 where
  pub cond : Option CondText
  pub kind : KindText

-- what the code keeps of it, as its text
abbrev pub held_text : Held → HeldText
held_text h = record { cond = cond_texts h.cond; kind = kind_text h.kind }

-- `!X`, which functions alone may have
unfoldable pub called : List ℕ → Bool → Rule Token SyntaxFault HeldText
called text function =
    choice (λ _. IsTrue function)
    (chain (token text Bang) (λ b. chain (letter_word text) (λ w. gives (record { cond = None; kind = call (bytes_of text w) }))))
    (fails (not_profile text CallInConstructor))

-- `F.N?type`
unfoldable pub in_condition : List ℕ → Rule Token SyntaxFault HeldText
in_condition text = chain (condition text) (λ c. chain (term text) (λ t. gives (record { cond = Some c; kind = conditional t })))

-- what stands after the colon of a field
unfoldable pub held : List ℕ → Bool → Rule Token SyntaxFault HeldText
held text function =
    choice (Begins Hash) (chain (token text Hash) (λ h. gives (record { cond = None; kind = nat })))
    (choice (Begins Bang) (called text function)
    (choice (BeginsCondition text) (in_condition text)
    (chain (term text) (λ t. gives (record { cond = None; kind = of t })))))

-- ---- fields

-- a multiplicity begins here
abbrev pub BeginsMultiplicity : List ℕ → List Token → Type 0
BeginsMultiplicity text ts = Begins LBracket ts ⊎ Begins Star ts ⊎ Next (IsWord text is_digit) ts

-- a Word without a `:` after it
abbrev pub IsLone : List ℕ → List Token → Type 0
IsLone text [] = ⊥
IsLone text (t ∷ ts) = IsWord text is_letter t × (Begins Colon ts → ⊥)

-- a field without a name begins here
abbrev pub BeginsUnnamed : List ℕ → List Token → Type 0
BeginsUnnamed text ts = Begins Bang ts ⊎ Begins Percent ts ⊎ Begins LParen ts ⊎ Begins Hash ts ⊎ IsLone text ts

-- where a field is expected: the two forms that are left out, or what r reads
unfoldable pub where_field : {A : Type 0} → List ℕ → Rule Token SyntaxFault A → Rule Token SyntaxFault A
where_field text r =
    choice (BeginsMultiplicity text) (fails (not_profile text Multiplicity))
    (choice (BeginsUnnamed text) (fails (not_profile text UnnamedField)) r)

-- `name:type`, `name:#`, `name:F.N?type`, or in a function `name:!X`
unfoldable pub field : List ℕ → Bool → Rule Token SyntaxFault FieldText
field text function =
    where_field text (chain (letter_word text) (λ w. chain (token text Colon) (λ c. chain (held text function) (λ h.
    gives (record { name = bytes_of text w; cond = h.cond; kind = h.kind })))))

-- one field more than there may be
unfoldable pub field_too_many : {A : Type 0} → List ℕ → Rule Token SyntaxFault A
field_too_many text = where_field text (choice (Next (IsWord text is_letter)) (fails (too_many text)) (fails (unexpected text)))

-- fields, and the pieces of the declaration's description up to their end
pub record FieldsText : Type 0 where
  pub fields : List FieldText
  pub pieces : List Piece

-- these fields, with these pieces
abbrev pub fields_text : List FieldText → List Piece → FieldsText
fields_text fs ps = record { fields = fs; pieces = ps }

-- one more field, with so many variables before all of them
unfoldable pub one_field : List ℕ → Bool → ℕ → FieldsText → Rule Token SyntaxFault FieldsText
one_field text function vars s =
    choice (λ ts. vars + length s.fields ≡ part_limit) (field_too_many text)
    (chain (taken (field text function)) (λ f.
    gives (fields_text (s.fields ++ (f.0 ∷ [])) (s.pieces ++ field_pieces text f.0 f.1))))

-- fields up to `=`
unfoldable pub fields : List ℕ → Bool → ℕ → List Piece → Rule Token SyntaxFault FieldsText
fields text function vars ps = loop (λ ts. Begins Equals ts → ⊥) (one_field text function vars) (fields_text [] ps)
