-- How clap reads the words after a command, by how many operands its row has.
use Rattle.std.proofs.Common.{◌≡◌, ◌∙◌, ℕ, List, [], ◌∷◌, true, false, eqb, refl, sym, Some, None}
use Rattle.std.specs.Str.{bytes_eq}
use Rattle.std.proofs.lemmas.Bool.{ne_eqb}
use Rattle.std.proofs.lemmas.Slice.Eq.{bytes_eq-Decides}
use Rattle.clap.specs.Words.{Row, Shape, Text, Kinds}
use Rattle.clap.specs.Walk.{nothing_held, walk_from}
use Rattle.clap.specs.Simple.{built_leaf, inherited, rows_at}
use Rattle.clap.specs.Kinds.{or_else}
use Rattle.clap.specs.Faults.{level_fault, walk_fault}
use Rattle.clap.specs.declared.error.kind.ErrorKind.TheVariants.{UnknownArgument, MissingRequiredArgument}
use Rattle.clap.specs.declared.parser.matches.ValueSource.TheVariants.{CommandLine}
use Rattle.clap.specs.declared.builder.value_parser.Reading.TheVariants.{AsWritten}
use Rattle.clap.proofs.OnLiterals.{clap_on_literals}
use Rattle.commands.specs.Requests.{IsOperand}
use Rattle.commands.specs.CommandLine.{row, program}

-- a row as clap builds it
abbrev pub leaf : Text → List Text → Shape
leaf command operands = built_leaf (inherited program.top (row command operands).top)

-- the kinds by which it refuses the words after its command
abbrev pub faults : Shape → List Text → Kinds
faults leaf words = level_fault leaf [] nothing_held words false []

-- an operand and its word
abbrev pub given : Text → Text → Row
given operand word = record { id = operand; values = word ∷ []; count = None; source = Some CommandLine; reading = AsWritten }

abbrev pub Operands : List Text → Type 0
Operands [] = Unit {0}
Operands (w ∷ ws) = IsOperand w × Operands ws

-- words that clap takes are fit
never : {P : Type 0} (ks : Kinds) (k : _) → ks ≡ k ∷ [] → ks ≡ [] → P
never ks k is none = let bad = sym is ∙ none in absurd cc

pub first_none : (ks next : Kinds) → or_else ks next ≡ [] → ks ≡ []
first_none [] next e = refl
first_none (k ∷ ks) next e = absurd cc

same : (a : Text) → bytes_eq a a ≡ true
same a = (bytes_eq-Decides a a).1 refl

-- ---- a row of one operand

module _ (command a : Text) where
  abbrev one : Shape
  one = leaf command (a ∷ [])

  pub one_fits : (s : Text) → IsOperand s → faults one (s ∷ []) ≡ []
  unfolding clap_on_literals
  one_fits [] os = absurd os
  one_fits (x ∷ xs) os = simp (ne_eqb x 45 os, same a)

  pub one_read : (s : Text) → IsOperand s → rows_at one (s ∷ []) ≡ (command, given a s ∷ [])
  unfolding clap_on_literals
  one_read [] os = absurd os
  one_read (x ∷ xs) os = simp (ne_eqb x 45 os, same a)

  none_missing : faults one [] ≡ MissingRequiredArgument ∷ []
  unfolding clap_on_literals
  none_missing = refl

  two_unknown : (x y : ℕ) (xs ys : Text) (rest : List Text) → eqb x 45 ≡ false → eqb y 45 ≡ false → walk_fault one [] (walk_from nothing_held) ((x ∷ xs) ∷ (y ∷ ys) ∷ rest) ≡ UnknownArgument ∷ []
  unfolding clap_on_literals
  two_unknown x y xs ys rest e f = simp (e, f)

  -- words that are taken are one operand
  pub one_only : (P : List Text → Type 0) (words : List Text) → Operands words → faults one words ≡ [] → ((s : Text) → IsOperand s → P (s ∷ [])) → P words
  one_only P [] o none p = never _ _ none_missing none
  one_only P (s ∷ []) o none p = p s o.0
  one_only P ([] ∷ t ∷ rest) o none p = absurd o.0
  one_only P ((x ∷ xs) ∷ [] ∷ rest) o none p = absurd o.1.0
  one_only P ((x ∷ xs) ∷ (y ∷ ys) ∷ rest) o none p = never _ _ (two_unknown x y xs ys rest (ne_eqb x 45 o.0) (ne_eqb y 45 o.1.0)) (first_none _ _ none)

-- ---- a row of two operands

module _ (command a b : Text) (ab : bytes_eq a b ≡ false) where
  abbrev two : Shape
  two = leaf command (a ∷ b ∷ [])

  pub two_fit : (s t : Text) → IsOperand s → IsOperand t → faults two (s ∷ t ∷ []) ≡ []
  unfolding clap_on_literals
  two_fit [] t os ot = absurd os
  two_fit (x ∷ xs) [] os ot = absurd ot
  two_fit (x ∷ xs) (y ∷ ys) os ot = simp (ne_eqb x 45 os, ne_eqb y 45 ot, ab, same a, same b)

  pub two_read : (s t : Text) → IsOperand s → IsOperand t → rows_at two (s ∷ t ∷ []) ≡ (command, given a s ∷ given b t ∷ [])
  unfolding clap_on_literals
  two_read [] t os ot = absurd os
  two_read (x ∷ xs) [] os ot = absurd ot
  two_read (x ∷ xs) (y ∷ ys) os ot = simp (ne_eqb x 45 os, ne_eqb y 45 ot, ab, same a, same b)

  both_missing : faults two [] ≡ MissingRequiredArgument ∷ []
  unfolding clap_on_literals
  both_missing = refl

  second_missing : (x : ℕ) (xs : Text) → eqb x 45 ≡ false → faults two ((x ∷ xs) ∷ []) ≡ MissingRequiredArgument ∷ []
  unfolding clap_on_literals
  second_missing x xs e = simp (e, ab, same a)

  three_unknown : (x y z : ℕ) (xs ys zs : Text) (rest : List Text) → eqb x 45 ≡ false → eqb y 45 ≡ false → eqb z 45 ≡ false
      → walk_fault two [] (walk_from nothing_held) ((x ∷ xs) ∷ (y ∷ ys) ∷ (z ∷ zs) ∷ rest) ≡ UnknownArgument ∷ []
  unfolding clap_on_literals
  three_unknown x y z xs ys zs rest e f g = simp (e, f, g, ab, same a)

  -- words that are taken are two operands
  pub two_only : (P : List Text → Type 0) (words : List Text) → Operands words → faults two words ≡ [] → ((s t : Text) → IsOperand s → IsOperand t → P (s ∷ t ∷ [])) → P words
  two_only P [] o none p = never _ _ both_missing none
  two_only P ([] ∷ rest) o none p = absurd o.0
  two_only P ((x ∷ xs) ∷ []) o none p = never _ _ (second_missing x xs (ne_eqb x 45 o.0)) none
  two_only P ((x ∷ xs) ∷ t ∷ []) o none p = p (x ∷ xs) t o.0 o.1.0
  two_only P ((x ∷ xs) ∷ [] ∷ u ∷ rest) o none p = absurd o.1.0
  two_only P ((x ∷ xs) ∷ (y ∷ ys) ∷ [] ∷ rest) o none p = absurd o.1.1.0
  two_only P ((x ∷ xs) ∷ (y ∷ ys) ∷ (z ∷ zs) ∷ rest) o none p =
      never _ _ (three_unknown x y z xs ys zs rest (ne_eqb x 45 o.0) (ne_eqb y 45 o.1.0) (ne_eqb z 45 o.1.1.0)) (first_none _ _ none)

-- ---- a row of three operands

module _ (command a b c : Text) (ab : bytes_eq a b ≡ false) (ac : bytes_eq a c ≡ false) (bc : bytes_eq b c ≡ false) where
  abbrev three : Shape
  three = leaf command (a ∷ b ∷ c ∷ [])

  pub three_fit : (s t u : Text) → IsOperand s → IsOperand t → IsOperand u → faults three (s ∷ t ∷ u ∷ []) ≡ []
  unfolding clap_on_literals
  three_fit [] t u os ot ou = absurd os
  three_fit (x ∷ xs) [] u os ot ou = absurd ot
  three_fit (x ∷ xs) (y ∷ ys) [] os ot ou = absurd ou
  three_fit (x ∷ xs) (y ∷ ys) (z ∷ zs) os ot ou = simp (ne_eqb x 45 os, ne_eqb y 45 ot, ne_eqb z 45 ou, ab, ac, bc, same a, same b, same c)

  pub three_read : (s t u : Text) → IsOperand s → IsOperand t → IsOperand u → rows_at three (s ∷ t ∷ u ∷ []) ≡ (command, given a s ∷ given b t ∷ given c u ∷ [])
  unfolding clap_on_literals
  three_read [] t u os ot ou = absurd os
  three_read (x ∷ xs) [] u os ot ou = absurd ot
  three_read (x ∷ xs) (y ∷ ys) [] os ot ou = absurd ou
  three_read (x ∷ xs) (y ∷ ys) (z ∷ zs) os ot ou = simp (ne_eqb x 45 os, ne_eqb y 45 ot, ne_eqb z 45 ou, ab, ac, bc, same a, same b, same c)

  all_missing : faults three [] ≡ MissingRequiredArgument ∷ []
  unfolding clap_on_literals
  all_missing = refl

  two_missing : (x : ℕ) (xs : Text) → eqb x 45 ≡ false → faults three ((x ∷ xs) ∷ []) ≡ MissingRequiredArgument ∷ []
  unfolding clap_on_literals
  two_missing x xs e = simp (e, ab, ac, same a)

  one_missing : (x y : ℕ) (xs ys : Text) → eqb x 45 ≡ false → eqb y 45 ≡ false → faults three ((x ∷ xs) ∷ (y ∷ ys) ∷ []) ≡ MissingRequiredArgument ∷ []
  unfolding clap_on_literals
  one_missing x y xs ys e f = simp (e, f, ab, ac, bc, same a, same b)

  four_unknown : (x y z v : ℕ) (xs ys zs vs : Text) (rest : List Text) → eqb x 45 ≡ false → eqb y 45 ≡ false → eqb z 45 ≡ false → eqb v 45 ≡ false
      → walk_fault three [] (walk_from nothing_held) ((x ∷ xs) ∷ (y ∷ ys) ∷ (z ∷ zs) ∷ (v ∷ vs) ∷ rest) ≡ UnknownArgument ∷ []
  unfolding clap_on_literals
  four_unknown x y z v xs ys zs vs rest e f g h = simp (e, f, g, h, ab, bc, same a, same b)

  -- words that are taken are three operands
  pub three_only : (P : List Text → Type 0) (words : List Text) → Operands words → faults three words ≡ [] → ((s t u : Text) → IsOperand s → IsOperand t → IsOperand u → P (s ∷ t ∷ u ∷ [])) → P words
  three_only P [] o none p = never _ _ all_missing none
  three_only P ([] ∷ rest) o none p = absurd o.0
  three_only P ((x ∷ xs) ∷ []) o none p = never _ _ (two_missing x xs (ne_eqb x 45 o.0)) none
  three_only P ((x ∷ xs) ∷ [] ∷ rest) o none p = absurd o.1.0
  three_only P ((x ∷ xs) ∷ (y ∷ ys) ∷ []) o none p = never _ _ (one_missing x y xs ys (ne_eqb x 45 o.0) (ne_eqb y 45 o.1.0)) none
  three_only P ((x ∷ xs) ∷ (y ∷ ys) ∷ u ∷ []) o none p = p (x ∷ xs) (y ∷ ys) u o.0 o.1.0 o.1.1.0
  three_only P ((x ∷ xs) ∷ (y ∷ ys) ∷ [] ∷ v ∷ rest) o none p = absurd o.1.1.0
  three_only P ((x ∷ xs) ∷ (y ∷ ys) ∷ (z ∷ zs) ∷ [] ∷ rest) o none p = absurd o.1.1.1.0
  three_only P ((x ∷ xs) ∷ (y ∷ ys) ∷ (z ∷ zs) ∷ (v ∷ vs) ∷ rest) o none p =
      never _ _ (four_unknown x y z v xs ys zs vs rest (ne_eqb x 45 o.0) (ne_eqb y 45 o.1.0) (ne_eqb z 45 o.1.1.0) (ne_eqb v 45 o.1.1.1.0)) (first_none _ _ none)
