-- Program text: names and numbers.
-- From "TL language" (core.telegram.org/mtproto/TL) and "Formal description of TL" (core.telegram.org/mtproto/TL-formal), its identifiers.
use Rattle.std.specs.Prelude.{◌≡◌, ◌≢◌, ℕ, List, [], ◌∷◌, ◌++◌, Bool, Option, Some, None, codes}
use Rattle.tl_numbers.specs.HexText.{IsHexText, hex_value}
use Rattle.tl_numbers.specs.declared.numbers.TheConstants.{BOXED_VECTOR}
use Rattle.tl_lexer.specs.Rule.{Rule, gives, fails, one, chain, choice, Next}
use Rattle.tl_lexer.specs.declared.token.Token.{Token}
use Rattle.tl_lexer.specs.declared.token.TokenKind.TheVariants.{Word, Hash, Dot}
use Rattle.tl_combinators.specs.declared.fault.SyntaxFault.{SyntaxFault}
use Rattle.tl_combinators.specs.declared.fault.UnsupportedForm.TheVariants.{ObjectType, VectorNumber}
use Rattle.tl_combinators.specs.declared.names.Name.{Name}
use Rattle.tl_program.specs.Letters.{is_lower, is_letter}
use Rattle.tl_combinators.specs.Tokens.{bytes_of, unexpected, not_profile, token, IsAt, IsWord, IsThis, letter_word}

-- ---- names

-- a name, and the byte after it
pub record NameText : Type 0 where
  pub bytes : List ℕ
  pub end : ℕ

-- a name that the code keeps, as its text
abbrev pub name_text : Name → NameText
name_text n = record { bytes = n.bytes; end = n.end }

-- two Words joined by `.`
abbrev pub joined : List ℕ → List ℕ → List ℕ
joined space last = (space ++ (46 ∷ [])) ++ last

-- after the Word w, which begins in lower case, a `.` adjoins
pub record IsSpace (text : List ℕ) (w : Token) (ts : List Token) : Type 0 where
  pub lower : IsWord text is_lower w
  pub dot : Next (IsAt w.end Dot) ts

-- a Word that adjoins the `.` before it, and begins with such a letter
pub record IsLast (text : List ℕ) (test : ℕ → Bool) (edge : ℕ) (t : Token) : Type 0 where
  pub word : IsWord text test t
  pub adjoins : t.start ≡ edge

-- the Word w is a name, or the namespace of one whose last Word begins with such a letter
unfoldable pub name_from : List ℕ → (ℕ → Bool) → Token → Rule Token SyntaxFault NameText
name_from text test w =
    choice (IsSpace text w)
    (chain (token text Dot) (λ d. chain (one (unexpected text) (IsLast text test d.end)) (λ v.
    gives (record { bytes = joined (bytes_of text w) (bytes_of text v); end = v.end }))))
    (gives (record { bytes = bytes_of text w; end = w.end }))

-- a name: a Word that begins with a letter, or a namespace and one
unfoldable pub name : List ℕ → Rule Token SyntaxFault NameText
name text = chain (letter_word text) (name_from text is_letter)

-- a name that a declaration may have: it begins in lower case, and so does its last Word
unfoldable pub declared_name : List ℕ → Rule Token SyntaxFault NameText
declared_name text = chain (one (unexpected text) (IsWord text is_lower)) (name_from text is_lower)

-- the Word `Object`
abbrev pub IsObject : List ℕ → Token → Type 0
IsObject text t = IsThis text (codes "Object") t

-- the name of a type or of a constructor; `Object` is left out
unfoldable pub type_name : List ℕ → Rule Token SyntaxFault NameText
type_name text = choice (Next (IsObject text)) (fails (not_profile text ObjectType)) (name text)

-- ---- numbers

-- a Word of one to eight lower-case hexadecimal digits that adjoins the `#` before it
pub record IsHex (text : List ℕ) (edge : ℕ) (t : Token) : Type 0 where
  pub at : IsAt edge Word t
  pub digits : IsHexText (bytes_of text t)

-- the digits of a number, which adjoin what ends at this byte
unfoldable pub hex : List ℕ → ℕ → Rule Token SyntaxFault ℕ
hex text edge = chain (one (unexpected text) (IsHex text edge)) (λ t. gives (hex_value (bytes_of text t)))

-- the number of a boxed vector
abbrev pub vector_number : ℕ
vector_number = BOXED_VECTOR

-- a Word of digits that is another number than a boxed vector's
pub record IsOtherNumber (text : List ℕ) (edge : ℕ) (t : Token) : Type 0 where
  pub hex_is : IsHex text edge t
  pub other : hex_value (bytes_of text t) ≢ vector_number

-- the number of the vector line can't be another
unfoldable pub vector_hex : List ℕ → ℕ → Rule Token SyntaxFault ℕ
vector_hex text edge = choice (Next (IsOtherNumber text edge)) (fails (not_profile text VectorNumber)) (hex text edge)

-- `#` and digits that adjoin what ends at this byte, or nothing; digits reads those after the `#`
unfoldable pub number_by : List ℕ → (ℕ → Rule Token SyntaxFault ℕ) → ℕ → Rule Token SyntaxFault (Option ℕ)
number_by text digits edge =
    choice (Next (IsAt edge Hash)) (chain (token text Hash) (λ h. chain (digits h.end) (λ n. gives (Some n)))) (gives None)

-- a number, or none
unfoldable pub number : List ℕ → ℕ → Rule Token SyntaxFault (Option ℕ)
number text edge = number_by text (hex text) edge

-- that of the vector line
unfoldable pub vector_line_number : List ℕ → ℕ → Rule Token SyntaxFault (Option ℕ)
vector_line_number text edge = number_by text (vector_hex text) edge
