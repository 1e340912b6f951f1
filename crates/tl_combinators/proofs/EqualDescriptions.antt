-- Rules at equal descriptions, counts and lines of built-in types.
use Rattle.std.proofs.Common.{◌≡◌, ℕ, take, drop, List, [], ◌++◌, map, Bool, Option, Result, append_assoc, refl, ◌∙◌, sym, ap, subst}
use Rattle.std.specs.List.{fold}
use Rattle.std.proofs.lemmas.List.Sums.{fold-append}
use Rattle.std.proofs.lemmas.List.Folds.{fold-map}
use Rattle.tl_lexer.specs.Rule.{Parses}
use Rattle.tl_lexer.specs.declared.token.Token.{Token}
use Rattle.tl_lexer.proofs.Turns.{Came}
use Rattle.tl_combinators.specs.declared.description.FieldShowing.{FieldShowing}
use Rattle.tl_combinators.specs.declared.description.FieldShowing.TheVariants.{Hidden, WithString, Written}
use Rattle.tl_program.specs.declared.built_in.BuiltIn.{BuiltIn}
use Rattle.tl_combinators.specs.declared.fault.SyntaxFault.{SyntaxFault}
use Rattle.tl_program.specs.declared.program.Decl.{Decl}
use Rattle.tl_lexer.specs.declared.token.TokenKind.TheVariants.{Equals}
use Rattle.tl_combinators.specs.Tokens.{fault_of, Begins}
use Rattle.tl_combinators.specs.Names.{NameText}
use Rattle.tl_program.specs.Program.{FieldText, decl_text}
use Rattle.tl_combinators.specs.Description.{Piece, omitted, piece, pieces, string_piece, string_pieces, left_out, field_showing, before_type, field_pieces, field_pieces_by}
use Rattle.tl_combinators.specs.DescriptionSoFar.{Described, put, so_far, all_shown, all_as_string, all_left_out, field_shown, field_shown_by}
use Rattle.tl_combinators.specs.Fields.{one_field, fields, fields_text, FieldsText}
use Rattle.tl_combinators.specs.Declarations.{named_declaration}

-- ---- what is described so far, with more pieces

more_so_far : {T : Type 0} (f : T → Piece) (ps : List Piece) (ts : List T) → fold (λ d t. put d (f t)) (so_far ps) ts ≡ so_far (ps ++ map f ts)
more_so_far f ps ts = sym (fold-map put f (so_far ps) ts) ∙ sym (fold-append put _ ps (map f ts))

module _ (text : List ℕ) where
  pub shown_on : (ps : List Piece) (ts : List Token) {d e : Described} → d ≡ so_far ps → e ≡ all_shown text ts d → e ≡ so_far (ps ++ pieces text ts)
  shown_on ps ts p q = q ∙ ap (all_shown text ts) p ∙ more_so_far (piece text) ps ts

  string_on : (ps : List Piece) (ts : List Token) {d e : Described} → d ≡ so_far ps → e ≡ all_as_string text ts d → e ≡ so_far (ps ++ string_pieces text ts)
  string_on ps ts p q = q ∙ ap (all_as_string text ts) p ∙ more_so_far (string_piece text) ps ts

pub left_on : (ps : List Piece) (ts : List Token) {d e : Described} → d ≡ so_far ps → e ≡ all_left_out ts d → e ≡ so_far (ps ++ left_out ts)
left_on ps ts p q = q ∙ ap (all_left_out ts) p ∙ more_so_far (λ t. omitted t) ps ts

module _ (text : List ℕ) (front : ℕ) (ps : List Piece) (ts : List Token) where
  field_on_by : (s : FieldShowing) {d e : Described} → d ≡ so_far ps → e ≡ field_shown_by s text front ts d → e ≡ so_far (ps ++ field_pieces_by s text front ts)
  field_on_by Hidden p q = left_on ps ts p q
  field_on_by WithString {d = d} p q =
      string_on text (ps ++ pieces text (take front ts)) (drop front ts) (shown_on text ps (take front ts) {e = all_shown text (take front ts) d} p refl) q
      ∙ ap so_far (append_assoc ps (pieces text (take front ts)) (string_pieces text (drop front ts)))
  field_on_by Written p q = shown_on text ps ts p q

pub field_on : (text : List ℕ) (f : FieldText) (ps : List Piece) (ts : List Token) {d e : Described} → d ≡ so_far ps → e ≡ field_shown text f ts d → e ≡ so_far (ps ++ field_pieces text f ts)
field_on text f ps ts p q = field_on_by text (before_type f.cond) ps ts (field_showing f.kind) p q

-- ---- fields that came so far

-- from these pieces to others, which are described
pub record CameDescribed (text : List ℕ) (function : Bool) (vars : ℕ) (ps : List Piece) (ts : List Token) (fs : List FieldText) (now : Described) (mid : List Token) : Type 0 where
  pub all : List Piece
  pub described : now ≡ so_far all
  pub came : Came (λ us. Begins Equals us → ⊥) (one_field text function vars) (fields_text [] ps) ts (fields_text fs all) mid

-- ---- rules at equal parts

module _ (text : List ℕ) (function : Bool) where
  pub fields_as : {X : Type 0} {see : X → FieldsText} {n m : ℕ} (ps : List Piece) {ts rest : List Token} {res : Result X SyntaxFault} → n ≡ m → Parses fault_of see (fields text function n ps) ts rest res → Parses fault_of see (fields text function m ps) ts rest res
  fields_as {see = see} ps {ts = ts} {rest = rest} {res = res} p h = subst (λ k. Parses fault_of see (fields text function k ps) ts rest res) p h

  pub named_as : (n : NameText) (ps : List Piece) (o : Option BuiltIn) {p : Option BuiltIn} {ts rest : List Token} {res : Result Decl SyntaxFault} → o ≡ p → Parses fault_of decl_text (named_declaration text function n ps p) ts rest res → Parses fault_of decl_text (named_declaration text function n ps o) ts rest res
  named_as n ps o {ts = ts} {rest = rest} {res = res} q h = subst (λ (x : Option BuiltIn). Parses fault_of decl_text (named_declaration text function n ps x) ts rest res) (sym q) h
