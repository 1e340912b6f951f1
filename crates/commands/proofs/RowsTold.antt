-- A row is told operand by operand.
use Rattle.std.proofs.Common.{◌≡◌, ◌∙◌, ◌<◌, ◌+◌, refl, ℕ, List, [], ◌∷◌, ◌++◌, get_or, length, map, take, sym, ap, ap₂}
use Rattle.std.specs.Borrow.{Bor}
use Rattle.std.proofs.lemmas.List.{map-append, take_more}
use Rattle.clap.specs.Words.{App, Rule, Text, new_app, with_rule, with_subcommand}
use Rattle.commands.specs.declared.table.Row.{Row}
use Rattle.commands.specs.CommandLine.{RowText, operand, program, row, row_text, with_row, with_rows}

row_push : (command : Text) (names : List Text) (name : Text) → with_rule (row command names) (operand name) ≡ row command (names ++ name ∷ [])
row_push command names name = ap (λ (rules : List Rule). let a = new_app command in record a { top = record a.top { rules = rules } }) (sym (map-append operand names (name ∷ [])))

-- one more operand, x
pub one_more : (command : Text) (xs : List (Bor Text)) (i : ℕ) (x d : Bor Text) (old new : App) (r : Rule) → i < length xs → x ≡ get_or xs i d → r ≡ operand x.now
    → old ≡ row command (map (λ s. s.now) (take i xs)) → new ≡ with_rule old r → new ≡ row command (map (λ s. s.now) (take (i + 1) xs))
one_more command xs i x d old new r lt at is was told =
    let taken : take (i + 1) xs ≡ take i xs ++ x ∷ [] = take_more xs i d lt ∙ ap (λ y. take i xs ++ y ∷ []) (sym at) in
    let names = ap (map (λ (s : Bor Text). s.now)) taken ∙ map-append (λ (s : Bor Text). s.now) (take i xs) (x ∷ []) in
    told ∙ ap₂ with_rule was is ∙ row_push command (map (λ s. s.now) (take i xs)) x.now ∙ ap (row command) (sym names)

-- ---- the table, row by row

fold_more : (a : App) (rs : List RowText) (r : RowText) → with_rows a (rs ++ r ∷ []) ≡ with_row (with_rows a rs) r
fold_more a [] r = refl
fold_more a (q ∷ rs) r = fold_more (with_row a q) rs r

-- one more row
pub one_more_row : (xs : List Row) (i : ℕ) (d : Row) (old new leaf : App) → i < length xs → leaf ≡ row (get_or xs i d).command.now (map (λ s. s.now) (get_or xs i d).operands.now)
    → old ≡ with_rows program (map row_text (take i xs)) → new ≡ with_subcommand old leaf.top → new ≡ with_rows program (map row_text (take (i + 1) xs))
one_more_row xs i d old new leaf lt is was told =
    let texts = ap (map row_text) (take_more xs i d lt) ∙ map-append row_text (take i xs) (get_or xs i d ∷ []) in
    told ∙ ap₂ with_subcommand was (ap (λ (a : App). a.top) is) ∙ sym (fold_more program (map row_text (take i xs)) (row_text (get_or xs i d))) ∙ ap (with_rows program) (sym texts)
