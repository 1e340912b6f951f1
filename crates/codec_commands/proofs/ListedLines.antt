-- The list of a schema's declarations, from its lines so far.
use Rattle.std.proofs.Common.{◌≡◌, ℕ, ◌+◌, Bool, true, false, not, ◌&&◌, List, [], ◌∷◌, ◌++◌, append_assoc, append-nil, take, slice_get, Some, sym, ap, ap₂, ◌∙◌, arith}
use Rattle.std.specs.List.{count_by, flat_map}
use Rattle.std.proofs.lemmas.List.{take_more}
use Rattle.std.proofs.lemmas.List.Concat.{flat_map-append}
use Rattle.std.proofs.lemmas.List.Sums.{count_by_more_yes, count_by_more_no}
use Rattle.std.proofs.lemmas.Option.{get_or_from_slice_get, slice_get_within}
use Rattle.tl_schema.specs.Schemas.{Declaration}
use Rattle.codec_commands.specs.Check.{is_listed, entry_line, is_listed_constructor, is_listed_function}

take_push : {X : Type 0} (xs : List X) (i : ℕ) (x : X) → slice_get xs i ≡ Some x → take (i + 1) xs ≡ take i xs ++ x ∷ []
take_push xs i x at = take_more xs i x (slice_get_within xs i x at) ∙ ap (λ y. take i xs ++ y ∷ []) (get_or_from_slice_get xs i x x at)

-- the first i declarations are listed
pub record Listed (es : List Declaration) (i : ℕ) (text : List ℕ) (constructors functions : ℕ) : Type 0 where
  pub lines : text ≡ flat_map entry_line (take i es)
  pub constructors_are : constructors ≡ count_by is_listed_constructor (take i es)
  pub functions_are : functions ≡ count_by is_listed_function (take i es)

module _ (es : List Declaration) (i : ℕ) (text : List ℕ) (constructors functions : ℕ) (so_far : Listed es i text constructors functions) where
  module _ (e : Declaration) (at : slice_get es i ≡ Some e) where
    one_line : text ++ entry_line e ≡ flat_map entry_line (take (i + 1) es)
    one_line =
        ap (λ (x : List ℕ). x ++ entry_line e) so_far.lines ∙ ap (λ (x : List ℕ). flat_map entry_line (take i es) ++ x) (sym (append-nil (entry_line e)))
        ∙ sym (flat_map-append entry_line (take i es) (e ∷ [])) ∙ sym (ap (flat_map entry_line) (take_push es i e at))

    counted : (test : Declaration → Bool) (n : ℕ) → n ≡ count_by test (take i es) → test e ≡ true → n + 1 ≡ count_by test (take (i + 1) es)
    counted test n is here =
        omega (arith, is, count_by_more_yes test es i e (slice_get_within es i e at) (ap test (get_or_from_slice_get es i e e at) ∙ here))

    not_counted : (test : Declaration → Bool) (n : ℕ) → n ≡ count_by test (take i es) → test e ≡ false → n ≡ count_by test (take (i + 1) es)
    not_counted test n is here =
        omega (arith, is, count_by_more_no test es i e (slice_get_within es i e at) (ap test (get_or_from_slice_get es i e e at) ∙ here))

    pub unlisted : is_listed e ≡ false → Listed es (i + 1) (text ++ entry_line e) constructors functions
    unlisted none = record {
      lines = one_line;
      constructors_are = not_counted is_listed_constructor constructors so_far.constructors_are (ap (λ b. b && not e.function) none);
      functions_are = not_counted is_listed_function functions so_far.functions_are (ap (λ b. b && e.function) none);
    }

    pub listed_function : is_listed e ≡ true → e.function ≡ true → Listed es (i + 1) (text ++ entry_line e) constructors (functions + 1)
    listed_function one function = record {
      lines = one_line;
      constructors_are = not_counted is_listed_constructor constructors so_far.constructors_are (ap₂ (λ b c. b && not c) one function);
      functions_are = counted is_listed_function functions so_far.functions_are (ap₂ (λ b c. b && c) one function);
    }

    pub listed_constructor : is_listed e ≡ true → e.function ≡ false → Listed es (i + 1) (text ++ entry_line e) (constructors + 1) functions
    listed_constructor one function = record {
      lines = one_line;
      constructors_are = counted is_listed_constructor constructors so_far.constructors_are (ap₂ (λ b c. b && not c) one function);
      functions_are = not_counted is_listed_function functions so_far.functions_are (ap₂ (λ b c. b && c) one function);
    }

-- a line of five pieces, as it is written and as it is read
pub regrouped : (a b c d e : List ℕ) → a ++ (b ++ (c ++ (d ++ e))) ≡ (((a ++ b) ++ c) ++ d) ++ e
regrouped a b c d e = sym (append_assoc ((a ++ b) ++ c) d e ∙ append_assoc (a ++ b) c (d ++ e) ∙ append_assoc a b (c ++ (d ++ e)))
