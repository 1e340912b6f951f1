-- A written number has at most eight hexadecimal digits, so it fits 32 bits.
use Rattle.std.proofs.Common.{◌≡◌, ℕ, zero, suc, ◌+◌, ◌*◌, ◌<◌, ◌≤◌, ◌^◌, Bool, true, List, [], ◌∷◌, length, Option, Some, None, refl, subst, arith, All}
use Rattle.std.specs.List.{AllPass, fold}
use Rattle.std.proofs.lemmas.List.Elements.{All-nil, All-push, All-head, All-tail}
use Rattle.tl_numbers.specs.HexText.{is_digit, digit_value, with_digit, IsHexText, hex_value}
use Rattle.tl_numbers.proofs.Digits.{digit_below}
use Rattle.tl_lexer.specs.Rule.{Rule, one}
use Rattle.tl_lexer.specs.declared.token.Token.{Token}
use Rattle.tl_combinators.specs.declared.fault.SyntaxFault.{SyntaxFault}
use Rattle.tl_program.specs.declared.built_in.BuiltIn.{BuiltIn}
use Rattle.tl_program.specs.declared.built_in.BuiltIn.TheVariants.{Int, Long, Double, Str, Bytes, Vector, Int128, Int256}
use Rattle.tl_combinators.specs.Tokens.{bytes_of}
use Rattle.tl_combinators.specs.Names.{NameText, hex, vector_hex, number_by, number, vector_line_number}
use Rattle.tl_program.specs.Program.{DeclText}
use Rattle.tl_combinators.specs.Description.{Piece}
use Rattle.tl_combinators.specs.BuiltInLines.{line_number, built_in_line}
use Rattle.tl_combinators.specs.Declarations.{combinator, named_declaration, declaration, where_declaration, declaration_too_many}
use Rattle.tl_combinators.specs.Sentences.{ProgramText, one_declaration, item, program, Reads}
use Rattle.tl_combinators.proofs.Values.{Only, only_gives, only_fails, only_chain, only_choice, only_loop, only_taken}

-- ---- digits

abbrev IsDigit : ℕ → Type 0
IsDigit b = is_digit b ≡ true

-- one more digit
more_below : (k n d : ℕ) → n < 16 ^ k → d < 16 → n * 16 + d < 16 ^ suc k
more_below k n d below small = omega (arith, below, small)

same_power : (n j k : ℕ) → n < 16 ^ j → j ≡ k → n < 16 ^ k
same_power n j k below e = subst (λ (i : ℕ). n < 16 ^ i) e below

-- digits after a number below 16 ^ k
digits_below : (text : List ℕ) (k n : ℕ) → AllPass is_digit text → n < 16 ^ k → fold with_digit n text < 16 ^ (length text + k)
digits_below [] k n all below = same_power n k (0 + k) below (omega arith)
digits_below (b ∷ bs) k n all below =
    same_power _ (length bs + suc k) _ (digits_below bs (suc k) (with_digit n b) (All-tail IsDigit b bs all) (more_below k n (digit_value b) below (digit_below b (digit_value b) (All-head IsDigit b bs all) refl))) (omega arith)

power_below : (n : ℕ) → n ≤ 8 → 16 ^ (n + 0) ≤ 2 ^ 32
power_below zero w = omega arith
power_below (suc zero) w = omega arith
power_below (suc (suc zero)) w = omega arith
power_below (suc (suc (suc zero))) w = omega arith
power_below (suc (suc (suc (suc zero)))) w = omega arith
power_below (suc (suc (suc (suc (suc zero))))) w = omega arith
power_below (suc (suc (suc (suc (suc (suc zero)))))) w = omega arith
power_below (suc (suc (suc (suc (suc (suc (suc zero))))))) w = omega arith
power_below (suc (suc (suc (suc (suc (suc (suc (suc zero)))))))) w = omega arith
power_below (suc (suc (suc (suc (suc (suc (suc (suc (suc n))))))))) w = absurd (omega (arith, w))

hex_below : (text : List ℕ) → IsHexText text → hex_value text < 2 ^ 32
hex_below text h = omega (arith, digits_below text 0 0 h.digits (omega arith), power_below (length text) h.most)

-- ---- rules

abbrev Small : ℕ → Type 0
Small n = n < 2 ^ 32

abbrev pub IsSmall : Option ℕ → Type 0
IsSmall None = Unit {0}
IsSmall (Some n) = n < 2 ^ 32

abbrev HasSmall : DeclText → Type 0
HasSmall d = IsSmall d.number

module _ (text : List ℕ) where
  hex_small : (edge : ℕ) → Only (hex text edge) Small
  unfolding hex one
  hex_small edge = only_chain _ _ _ (λ t ts mid h. only_gives Small _ (hex_below (bytes_of text t) h.1.digits))

  vector_hex_small : (edge : ℕ) → Only (vector_hex text edge) Small
  unfolding vector_hex
  vector_hex_small edge = only_choice _ _ _ _ (λ _ _. only_fails _ _) (λ _ _. hex_small edge)

  number_by_small : (digits : ℕ → Rule Token SyntaxFault ℕ) → ((edge : ℕ) → Only (digits edge) Small) → (edge : ℕ) → Only (number_by text digits edge) IsSmall
  unfolding number_by
  number_by_small digits small edge =
      only_choice _ _ _ _ (λ _ _. only_chain _ _ _ (λ h _ _ _. only_chain _ _ _ (λ n ts mid p. only_gives IsSmall _ ((small h.end).each ts mid n p)))) (λ _ _. only_gives IsSmall _ tt)

  number_small : (edge : ℕ) → Only (number text edge) IsSmall
  unfolding number
  number_small edge = number_by_small _ hex_small edge

  vector_number_small : (edge : ℕ) → Only (vector_line_number text edge) IsSmall
  unfolding vector_line_number
  vector_number_small edge = number_by_small _ vector_hex_small edge

  line_number_small : (b : BuiltIn) (edge : ℕ) → Only (line_number text b edge) IsSmall
  line_number_small Int edge = number_small edge
  line_number_small Long edge = number_small edge
  line_number_small Double edge = number_small edge
  line_number_small Str edge = number_small edge
  line_number_small Bytes edge = number_small edge
  line_number_small Vector edge = vector_number_small edge
  line_number_small Int128 edge = number_small edge
  line_number_small Int256 edge = number_small edge

  built_in_small : (b : BuiltIn) (n : NameText) → Only (built_in_line text b n) HasSmall
  unfolding built_in_line
  built_in_small b n = only_chain _ _ _ (λ i ts mid p. only_chain _ _ _ (λ _ _ _ _. only_gives HasSmall _ ((line_number_small b n.end).each ts mid i p)))

  combinator_small : (function : Bool) (n : NameText) (d : List Piece) → Only (combinator text function n d) HasSmall
  unfolding combinator
  combinator_small function n d =
      only_chain _ _ _ (λ i ts mid p. only_chain _ _ _ (λ vs _ _ _. only_chain _ _ _ (λ fs _ _ _. only_chain _ _ _ (λ t _ _ _. only_chain _ _ _ (λ s _ _ _. only_chain _ _ _ (λ _ _ _ _.
      only_gives HasSmall _ ((only_taken IsSmall _ (number_small n.end)).each ts mid i p)))))))

  named_small : (function : Bool) (n : NameText) (d : List Piece) (o : Option BuiltIn) → Only (named_declaration text function n d o) HasSmall
  named_small function n d (Some b) = built_in_small b n
  named_small function n d None = combinator_small function n d

  declaration_small : (function : Bool) → Only (declaration text function) HasSmall
  unfolding declaration
  declaration_small function = only_chain _ _ _ (λ n _ _ _. named_small function n.0 _ _)

  where_small : {A : Type 0} (I : A → Type 0) (r : Rule Token SyntaxFault A) → Only r I → Only (where_declaration text r) I
  unfolding where_declaration
  where_small I r k = only_choice _ _ _ _ (λ _ _. only_fails _ _) (λ _ _. only_choice _ _ _ _ (λ _ _. only_fails _ _) (λ _ _. only_choice _ _ _ _ (λ _ _. only_fails _ _) (λ _ _. k)))

  too_many_small : {A : Type 0} (I : A → Type 0) → Only {A = A} (declaration_too_many text) I
  unfolding declaration_too_many
  too_many_small I = where_small I _ (only_choice _ _ _ _ (λ _ _. only_fails _ _) (λ _ _. only_fails _ _))

  abbrev AllSmall : ProgramText → Type 0
  AllSmall p = All HasSmall p.decls

  one_small : (p : ProgramText) → AllSmall p → Only (one_declaration text p) AllSmall
  unfolding one_declaration
  one_small p all = only_choice _ _ _ _ (λ _ _. too_many_small AllSmall) (λ _ _. only_chain _ _ _ (λ d ts mid h.
      only_gives AllSmall _ (All-push HasSmall p.decls d all ((where_small HasSmall _ (declaration_small p.function)).each ts mid d h))))

  item_small : (p : ProgramText) → AllSmall p → Only (item text p) AllSmall
  unfolding item
  item_small p all = only_choice _ _ _ _ (λ _ _. only_chain _ _ _ (λ f _ _ _. only_gives AllSmall _ all)) (λ _ _. one_small p all)

  program_small : Only (program text) AllSmall
  unfolding program
  program_small = only_loop _ _ _ item_small _ (All-nil HasSmall)

-- each number that a program writes fits 32 bits
pub numbers_fit : (text : List ℕ) (tokens : List Token) (ds : List DeclText) → Reads text tokens ds → All (λ d. IsSmall d.number) ds
numbers_fit text tokens ds r = (program_small text).each tokens [] _ r.1
