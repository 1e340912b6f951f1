-- No reading matter: how far the code has come with a description. What a description is stands in `Description`.
use Rattle.std.specs.Prelude.{◌≡◌, ℕ, List, [], ◌∷◌, ◌++◌, take, drop, nat_lt, ◌||◌, ◌&&◌, Bool, true, false, if◌then◌else◌, Result, OnOk}
use Rattle.std.specs.List.{fold}
use Rattle.tl_lexer.specs.Rule.{Parses}
use Rattle.tl_lexer.specs.declared.token.Token.{Token}
use Rattle.tl_combinators.specs.declared.fault.SyntaxFault.{SyntaxFault}
use Rattle.tl_combinators.specs.declared.description.FieldShowing.{FieldShowing}
use Rattle.tl_combinators.specs.declared.description.FieldShowing.TheVariants.{Hidden, WithString, Written}
use Rattle.tl_combinators.specs.Tokens.{fault_of}
use Rattle.tl_program.specs.Program.{FieldText}
use Rattle.tl_combinators.specs.Description.{Piece, kept, omitted, spaced, piece, string_piece, field_showing, before_type}
use Rattle.tl_combinators.specs.Fields.{fields, fields_text}

-- the bytes, where the last token ends, whether a space is due before the next one that is kept, and whether one is kept
pub record Described : Type 0 where
  pub bytes : List ℕ
  pub edge : ℕ
  pub gap : Bool
  pub begun : Bool

abbrev pub undescribed : Described
undescribed = record { bytes = []; edge = 0; gap = false; begun = false }

abbrev pub gap_before : Described → Token → Bool
gap_before d t = d.gap || nat_lt d.edge t.start

abbrev pub space : Bool → List ℕ
space gap = if gap then 32 ∷ [] else []

-- one more piece
abbrev pub put : Described → Piece → Described
put d (kept t bytes) = record { bytes = (d.bytes ++ space (d.begun && gap_before d t)) ++ bytes; edge = t.end; gap = false; begun = true }
put d (omitted t) = record { bytes = d.bytes; edge = t.end; gap = gap_before d t; begun = d.begun }
put d (spaced t) = record { bytes = d.bytes; edge = t.end; gap = true; begun = d.begun }

-- these pieces
abbrev pub so_far : List Piece → Described
so_far ps = fold put undescribed ps

abbrev pub shown : List ℕ → Described → Token → Described
shown text d t = put d (piece text t)

abbrev pub shown_as_string : List ℕ → Described → Token → Described
shown_as_string text d t = put d (string_piece text t)

abbrev pub one_left_out : Described → Token → Described
one_left_out d t = put d (omitted t)

abbrev pub all_shown : List ℕ → List Token → Described → Described
all_shown text ts d = fold (shown text) d ts

abbrev pub all_as_string : List ℕ → List Token → Described → Described
all_as_string text ts d = fold (shown_as_string text) d ts

abbrev pub all_left_out : List Token → Described → Described
all_left_out ts d = fold one_left_out d ts

abbrev pub field_shown_by : FieldShowing → List ℕ → ℕ → List Token → Described → Described
field_shown_by Hidden text first ts d = all_left_out ts d
field_shown_by WithString text first ts d = all_as_string text (drop first ts) (all_shown text (take first ts) d)
field_shown_by Written text first ts d = all_shown text ts d

abbrev pub field_shown : List ℕ → FieldText → List Token → Described → Described
field_shown text f ts d = field_shown_by (field_showing f.kind) text (before_type f.cond) ts d

-- fields are parsed, and then these pieces are described
pub record ParsesFields {X : Type 0} (view : X → List FieldText) (text : List ℕ) (function : Bool) (vars : ℕ) (ps : List Piece) (ts rest : List Token) (new : Described) (result : Result X SyntaxFault) : Type 0 where
  pub all : List Piece
  pub described : OnOk result (new ≡ so_far all)
  pub read : Parses fault_of (λ x. fields_text (view x) all) (fields text function vars ps) ts rest result
