-- Printed declarations and programs are read back.
use Rattle.std.proofs.Common.{◌≡◌, ℕ, ◌+◌, ◌≤◌, List, [], ◌∷◌, ◌++◌, append_assoc, length, map, Bool, true, false, Option, Some, None, refl, sym, ◌∙◌, ap, subst, inl, inr, arith}
use Rattle.std.specs.Prelude.{◌⊎◌, codes, bytes_eq, if◌then◌else◌}
use Rattle.std.proofs.lemmas.Bool.{both_ways}
use Rattle.std.proofs.lemmas.Bool.Decides.{nat_tests}
use Rattle.std.proofs.lemmas.List.{append-nil, length_push}
use Rattle.tl_lexer.specs.Rule.{Rule, gives, chain, choice, loop}
use Rattle.tl_lexer.specs.declared.token.Token.{Token}
use Rattle.tl_lexer.specs.declared.token.TokenKind.{TokenKind}
use Rattle.tl_lexer.specs.declared.token.TokenKind.TheVariants.{Word, Dashes, Hash, Colon, Semi, Equals, Query, Dot, LBrace, RBrace, LBracket, RBracket, Star}
use Rattle.tl_combinators.specs.declared.fault.SyntaxFault.{SyntaxFault}
use Rattle.tl_program.specs.declared.built_in.BuiltIn.{BuiltIn}
use Rattle.tl_program.specs.declared.built_in.BuiltIn.TheVariants.{Int, Long, Double, Str, Bytes, Vector, Int128, Int256}
use Rattle.tl_combinators.specs.Taken.{taken}
use Rattle.tl_program.specs.Letters.{first_is, is_lower, is_upper, is_letter}
use Rattle.tl_combinators.specs.Tokens.{Begins, OfKind, IsWord, IsThis}
use Rattle.tl_combinators.specs.Names.{IsObject, declared_name, number, vector_number}
use Rattle.tl_program.specs.Trees.{Tree}
use Rattle.tl_combinators.specs.Types.{expression}
use Rattle.tl_program.specs.Program.{FieldText, DeclText}
use Rattle.tl_combinators.specs.Description.{Piece as DescribedPiece, pieces, left_out}
use Rattle.tl_combinators.specs.Fields.{FieldsText, fields_text, fields}
use Rattle.tl_program.specs.BuiltIns.{own_name, built_in}
use Rattle.tl_combinators.specs.BuiltInLines.{this_type, sort, boxed, opaque, bracketed, repeated, element, vector_result, vector, line_form, line_number, line_text, built_in_line}
use Rattle.tl_combinators.specs.Declarations.{variable, one_variable, variables, result_type, combinator, named_declaration, declaration, IsLifecycle, where_declaration}
use Rattle.tl_combinators.specs.Sentences.{ProgramText, program_so_far, section, mark, one_declaration, item, program}
use Rattle.tl_combinators.proofs.Describing.{has_description}
use Rattle.tl_combinators.proofs.DescribedRule.{describes_here}
use Rattle.tl_print.specs.Printed.{CanBeRead, ReadsBack, without_description}
use Rattle.tl_print.specs.Written.{written_tree, written_fields, written_number, written_variable, written_variables, written_line, written_rest, written_declaration, section_after, written_mark, written_program}
use Rattle.tl_print.proofs.Givens.{EachIs, Behind, rest_of}
use Rattle.tl_print.proofs.PrintedPieces.{Piece, word, sign, dashes, white, bytes_in, is_run, Good, first_kind, Front, Stands, tokens_at, pieces_spell, pieces_stand}
use Rattle.tl_print.proofs.PrintableForm.{IsWordOf, IsName, one_word, IsLineNumber, IsCombinator, IsDeclaration, line, combined}
use Rattle.tl_print.proofs.PrintableParts.{IsSpelt, row_spelt, declared_given, number_given}
use Rattle.tl_print.proofs.PrintableProgram.{variables_given, result_given, expected_given, mark_any, printable}
use Rattle.tl_print.proofs.PrintedParts.{Left, loop_turn, next_at, not_next, other_kind, one_kind, kind_first, token_reads, this_is, this_reads, letter_reads, first_apart, NameLeft, NameStarts, PrintedName, declared_printed}
use Rattle.tl_print.proofs.PrintedTypes.{Follows, PrintedTree, expression_printed}
use Rattle.tl_print.proofs.PrintedFields.{PrintedNumber, number_printed, vector_printed, PrintedFields, fields_printed}

-- ---- variables

sort_reads : (text : List ℕ) (p : ℕ) (ts rest : List Token) (t : Token) → ts ≡ t ∷ rest → Front text p Word (codes "Type") t → (sort text).reads ts t rest
unfolding sort choice
sort_reads text p ts rest t e f = inr (other_kind Word Hash ts rest t e f.kind_is (λ e. absurd cc), this_reads text p (codes "Type") ts rest t e f)

abbrev variable_pieces : List ℕ → List Piece → List Piece
variable_pieces v k = sign LBrace ∷ word v ∷ sign Colon ∷ word (codes "Type") ∷ sign RBrace ∷ white 32 ∷ k

variable_reads : (text : List ℕ) (v : List ℕ) (k : List Piece) → IsWordOf is_letter v → (p : ℕ) (ts : List Token) → Stands text p (variable_pieces v k) ts → Left text (variable text) ts v k
unfolding variable chain gives
variable_reads text v k h p ts (l, a, e, f, (w, b, e1, f1, (c, d, e2, f2, (s, g, e3, f3, (r, rest, e4, f4, st))))) = record {
  at = r.end + 1;
  rest = rest;
  stands = st;
  reads = (
    l,
    a,
    token_reads text LBrace ts a l e f.kind_is,
    (
      w,
      b,
      letter_reads text l.end v a b w e1 f1 h,
      (
        c,
        d,
        token_reads text Colon b d c e2 f2.kind_is,
        (s, g, sort_reads text c.end d g s e3 f3, (r, rest, token_reads text RBrace g rest r e4 f4.kind_is, (sym f1.bytes_are, refl))),
      ),
    ),
  );
}

record PrintedVariables (vs : List (List ℕ)) (k : List Piece) : Type 0 where
  pieces : List Piece
  bytes_are : bytes_in pieces ≡ written_variables vs ++ bytes_in k
  good : Good k → Good pieces
  kind : (first_kind pieces ≡ Some LBrace) ⊎ (first_kind pieces ≡ first_kind k)
  reads : (so : List (List ℕ)) → length so + length vs ≤ 256 → (text : List ℕ) (p : ℕ) (ts : List Token) → Stands text p pieces ts → Left text (loop (Begins LBrace) (one_variable text) so) ts (so ++ vs) k

variables_end : (k : List Piece) → (first_kind k ≡ Some LBrace → ⊥) → (so : List (List ℕ)) (text : List ℕ) (p : ℕ) (ts : List Token) → Stands text p k ts → Left text (loop (Begins LBrace) (one_variable text) so) ts (so ++ []) k
unfolding loop
variables_end k n so text p ts st = record { at = p; rest = ts; stands = st; reads = ([], (append-nil so, refl), λ h. n (kind_first text p k ts LBrace st h)) }

variable_turn : (text : List ℕ) (so : List (List ℕ)) (v : List ℕ) (ts mid : List Token) → (length so ≡ 256 → ⊥) → (variable text).reads ts v mid → (one_variable text so).reads ts (so ++ (v ∷ [])) mid
unfolding one_variable choice chain gives
variable_turn text so v ts mid n h = inr (n, (v, mid, h, (refl, refl)))

variables_more : (v : List ℕ) (vs : List (List ℕ)) (k : List Piece) → IsWordOf is_letter v → (r : PrintedVariables vs k) → (so : List (List ℕ)) → length so + length (v ∷ vs) ≤ 256
    → (text : List ℕ) (p : ℕ) (ts : List Token) → Stands text p (variable_pieces v r.pieces) ts → Left text (loop (Begins LBrace) (one_variable text) so) ts (so ++ (v ∷ vs)) k
variables_more v vs k h r so w text p ts st =
    let l = variable_reads text v r.pieces h p ts st in
    let room : length (so ++ (v ∷ [])) + length vs ≤ 256 = omega (arith, w, length_push so v) in
    let m = r.reads (so ++ (v ∷ [])) room text l.at l.rest l.stands in
    record {
      at = m.at;
      rest = m.rest;
      stands = m.stands;
      reads = subst (λ (end : List (List ℕ)). (loop (Begins LBrace) (one_variable text) so).reads ts end m.rest) (append_assoc so (v ∷ []) vs)
          (loop_turn (Begins LBrace) (one_variable text) so (so ++ (v ∷ [])) ((so ++ (v ∷ [])) ++ vs) ts l.rest m.rest
          (next_at (OfKind LBrace) ts st.1 st.0 st.2 st.3.kind_is) (variable_turn text so v ts l.rest (λ e. absurd (omega (arith, w, e))) l.reads) m.reads);
    }

variables_printed : (vs : List (List ℕ)) (k : List Piece) → EachIs (IsWordOf is_letter) vs → (first_kind k ≡ Some LBrace → ⊥) → PrintedVariables vs k
variables_printed [] k h n = record { pieces = k; bytes_are = refl; good = λ g. g; kind = inr refl; reads = λ so w text p ts st. variables_end k n so text p ts st }
variables_printed (v ∷ vs) k h n =
    let r = variables_printed vs k h.1 n in
    record {
      pieces = variable_pieces v r.pieces;
      bytes_are = sym (append_assoc (123 ∷ v) (codes ":Type} ") (bytes_in r.pieces)) ∙ ap (λ (b : List ℕ). written_variable v ++ b) r.bytes_are ∙ sym (append_assoc (written_variable v) (written_variables vs) (bytes_in k));
      good = λ g. (refl, (h.0.run, (λ e. absurd cc), (refl, (refl, (λ e. absurd cc), (refl, (refl, r.good g))))));
      kind = inl refl;
      reads = variables_more v vs k h.0 r;
    }

-- ---- the lines of built-in types

not_object : (bytes : List ℕ) → bytes_eq bytes (codes "Object") ≡ false → bytes ≡ codes "Object" → ⊥
not_object bytes h e = both_ways (bytes_eq bytes (codes "Object")) h (subst (λ (b : List ℕ). bytes_eq b (codes "Object") ≡ true) (sym e) refl)

this_type_reads : (text : List ℕ) (p : ℕ) (bytes : List ℕ) (ts rest : List Token) (t : Token) → bytes_eq bytes (codes "Object") ≡ false → ts ≡ t ∷ rest → Front text p Word bytes t → (this_type text bytes).reads ts t rest
unfolding this_type choice
this_type_reads text p bytes ts rest t n e f =
    inr (not_next (IsObject text) ts rest t e (λ h. not_object bytes n (sym f.bytes_are ∙ h.bytes_are)), this_reads text p bytes ts rest t e f)

abbrev boxed_pieces : List ℕ → List Piece → List Piece
boxed_pieces bytes k = sign Equals ∷ white 32 ∷ word bytes ∷ sign Semi ∷ white 10 ∷ k

boxed_reads : (text : List ℕ) (bytes : List ℕ) (k : List Piece) → bytes_eq bytes (codes "Object") ≡ false → (p : ℕ) (ts : List Token) → Stands text p (boxed_pieces bytes k) ts → Left text (boxed text bytes) ts tt k
unfolding boxed chain gives
boxed_reads text bytes k n p ts (q, a, e, f, (t, b, e1, f1, (s, rest, e2, f2, st))) = record {
  at = s.end + 1;
  rest = rest;
  stands = st;
  reads = (q, a, token_reads text Equals ts a q e f.kind_is, (t, b, this_type_reads text (q.end + 1) bytes a b t n e1 f1, (s, rest, token_reads text Semi b rest s e2 f2.kind_is, (refl, refl))));
}

opaque_reads : (text : List ℕ) (bytes : List ℕ) (k : List Piece) → bytes_eq bytes (codes "Object") ≡ false → (p : ℕ) (ts : List Token) → Stands text p (sign Query ∷ white 32 ∷ boxed_pieces bytes k) ts → Left text (opaque text bytes) ts tt k
unfolding opaque chain
opaque_reads text bytes k n p ts (q, a, e, f, st) =
    let l = boxed_reads text bytes k n (q.end + 1) a st in
    record { at = l.at; rest = l.rest; stands = l.stands; reads = (q, a, token_reads text Query ts a q e f.kind_is, l.reads) }

abbrev bracket_pieces : List ℕ → List Piece → List Piece
bracket_pieces bytes k = sign LBracket ∷ white 32 ∷ word bytes ∷ white 32 ∷ sign RBracket ∷ white 32 ∷ k

bracket_reads : (text : List ℕ) (bytes : List ℕ) (k : List Piece) → (p : ℕ) (ts : List Token) → Stands text p (bracket_pieces bytes k) ts → Left text (bracketed text bytes) ts tt k
unfolding bracketed chain gives
bracket_reads text bytes k p ts (q, a, e, f, (t, b, e1, f1, (s, rest, e2, f2, st))) = record {
  at = s.end + 1;
  rest = rest;
  stands = st;
  reads = (q, a, token_reads text LBracket ts a q e f.kind_is, (t, b, this_reads text (q.end + 1) bytes a b t e1 f1, (s, rest, token_reads text RBracket b rest s e2 f2.kind_is, (refl, refl))));
}

repeated_reads : (text : List ℕ) (count bytes : List ℕ) (k : List Piece) → bytes_eq bytes (codes "Object") ≡ false → (p : ℕ) (ts : List Token)
    → Stands text p (word count ∷ sign Star ∷ bracket_pieces (codes "int") (boxed_pieces bytes k)) ts → Left text (repeated text count bytes) ts tt k
unfolding repeated chain
repeated_reads text count bytes k n p ts (w, a, e, f, (s, b, e1, f1, st)) =
    let l = bracket_reads text (codes "int") (boxed_pieces bytes k) s.end b st in
    let m = boxed_reads text bytes k n l.at l.rest l.stands in
    record {
      at = m.at;
      rest = m.rest;
      stands = m.stands;
      reads = (w, a, this_reads text p count ts a w e f, (s, b, token_reads text Star a b s e1 f1.kind_is, (tt, l.rest, l.reads, m.reads)));
    }

element_reads : (text : List ℕ) (k : List Piece) (p : ℕ) (ts : List Token) → Stands text p (variable_pieces (codes "t") k) ts → Left text (element text) ts tt k
unfolding element chain gives
element_reads text k p ts (l, a, e, f, (w, b, e1, f1, (c, d, e2, f2, (s, g, e3, f3, (r, rest, e4, f4, st))))) = record {
  at = r.end + 1;
  rest = rest;
  stands = st;
  reads = (
    l,
    a,
    token_reads text LBrace ts a l e f.kind_is,
    (
      w,
      b,
      this_reads text l.end (codes "t") a b w e1 f1,
      (
        c,
        d,
        token_reads text Colon b d c e2 f2.kind_is,
        (s, g, sort_reads text c.end d g s e3 f3, (r, rest, token_reads text RBrace g rest r e4 f4.kind_is, (refl, refl))),
      ),
    ),
  );
}

abbrev vector_end : List Piece → List Piece
vector_end k = sign Equals ∷ white 32 ∷ word (codes "Vector") ∷ white 32 ∷ word (codes "t") ∷ sign Semi ∷ white 10 ∷ k

vector_end_reads : (text : List ℕ) (k : List Piece) (p : ℕ) (ts : List Token) → Stands text p (vector_end k) ts → Left text (vector_result text) ts tt k
unfolding vector_result chain gives
vector_end_reads text k p ts (q, a, e, f, (v, b, e1, f1, (t, d, e2, f2, (s, rest, e3, f3, st)))) = record {
  at = s.end + 1;
  rest = rest;
  stands = st;
  reads = (
    q,
    a,
    token_reads text Equals ts a q e f.kind_is,
    (
      v,
      b,
      this_type_reads text (q.end + 1) (codes "Vector") a b v refl e1 f1,
      (t, d, this_reads text (v.end + 1) (codes "t") b d t e2 f2, (s, rest, token_reads text Semi d rest s e3 f3.kind_is, (refl, refl))),
    ),
  );
}

vector_reads : (text : List ℕ) (k : List Piece) (p : ℕ) (ts : List Token) → Stands text p (variable_pieces (codes "t") (sign Hash ∷ white 32 ∷ bracket_pieces (codes "t") (vector_end k))) ts → Left text (vector text) ts tt k
unfolding vector chain
vector_reads text k p ts st =
    let x = element_reads text (sign Hash ∷ white 32 ∷ bracket_pieces (codes "t") (vector_end k)) p ts st in
    let h = x.stands in
    let b = bracket_reads text (codes "t") (vector_end k) (h.0.end + 1) h.1 h.4 in
    let v = vector_end_reads text k b.at b.rest b.stands in
    record {
      at = v.at;
      rest = v.rest;
      stands = v.stands;
      reads = (tt, x.rest, x.reads, (h.0, h.1, token_reads text Hash x.rest h.1 h.0 h.2 h.3.kind_is, (tt, b.rest, b.reads, v.reads)));
    }

abbrev line_pieces : BuiltIn → List Piece → List Piece
line_pieces Int k = sign Query ∷ white 32 ∷ boxed_pieces (codes "Int") k
line_pieces Long k = sign Query ∷ white 32 ∷ boxed_pieces (codes "Long") k
line_pieces Double k = sign Query ∷ white 32 ∷ boxed_pieces (codes "Double") k
line_pieces Str k = sign Query ∷ white 32 ∷ boxed_pieces (codes "String") k
line_pieces Bytes k = boxed_pieces (codes "Bytes") k
line_pieces Vector k = variable_pieces (codes "t") (sign Hash ∷ white 32 ∷ bracket_pieces (codes "t") (vector_end k))
line_pieces Int128 k = word (codes "4") ∷ sign Star ∷ bracket_pieces (codes "int") (boxed_pieces (codes "Int128") k)
line_pieces Int256 k = word (codes "8") ∷ sign Star ∷ bracket_pieces (codes "int") (boxed_pieces (codes "Int256") k)

line_reads : (b : BuiltIn) (k : List Piece) (text : List ℕ) (p : ℕ) (ts : List Token) → Stands text p (line_pieces b k) ts → Left text (line_form text b) ts tt k
line_reads Int k text p ts st = opaque_reads text (codes "Int") k refl p ts st
line_reads Long k text p ts st = opaque_reads text (codes "Long") k refl p ts st
line_reads Double k text p ts st = opaque_reads text (codes "Double") k refl p ts st
line_reads Str k text p ts st = opaque_reads text (codes "String") k refl p ts st
line_reads Bytes k text p ts st = boxed_reads text (codes "Bytes") k refl p ts st
line_reads Vector k text p ts st = vector_reads text k p ts st
line_reads Int128 k text p ts st = repeated_reads text (codes "4") (codes "Int128") k refl p ts st
line_reads Int256 k text p ts st = repeated_reads text (codes "8") (codes "Int256") k refl p ts st

line_bytes : (b : BuiltIn) (k : List Piece) → bytes_in (line_pieces b k) ≡ written_line b ++ bytes_in k
line_bytes Int k = refl
line_bytes Long k = refl
line_bytes Double k = refl
line_bytes Str k = refl
line_bytes Bytes k = refl
line_bytes Vector k = refl
line_bytes Int128 k = refl
line_bytes Int256 k = refl

boxed_good : (bytes : List ℕ) (k : List Piece) → is_run bytes ≡ true → Good k → Good (boxed_pieces bytes k)
boxed_good bytes k r g = (refl, (refl, (r, (λ e. absurd cc), (refl, (refl, g)))))

bracket_good : (bytes : List ℕ) (k : List Piece) → is_run bytes ≡ true → Good k → Good (bracket_pieces bytes k)
bracket_good bytes k r g = (refl, (refl, (r, (λ e. absurd cc), (refl, (refl, (refl, g))))))

vector_good : (k : List Piece) → Good k → Good (vector_end k)
vector_good k g = (refl, (refl, (refl, (λ e. absurd cc), (refl, (refl, (λ e. absurd cc), (refl, (refl, g)))))))

line_good : (b : BuiltIn) (k : List Piece) → Good k → Good (line_pieces b k)
line_good Int k g = (refl, (refl, boxed_good (codes "Int") k refl g))
line_good Long k g = (refl, (refl, boxed_good (codes "Long") k refl g))
line_good Double k g = (refl, (refl, boxed_good (codes "Double") k refl g))
line_good Str k g = (refl, (refl, boxed_good (codes "String") k refl g))
line_good Bytes k g = boxed_good (codes "Bytes") k refl g
line_good Vector k g =
    (refl, (refl, (λ e. absurd cc), (refl, (refl, (λ e. absurd cc), (refl, (refl, (refl, (refl, bracket_good (codes "t") (vector_end k) refl (vector_good k g)))))))))
line_good Int128 k g = (refl, (λ e. absurd cc), (refl, bracket_good (codes "int") (boxed_pieces (codes "Int128") k) refl (boxed_good (codes "Int128") k refl g)))
line_good Int256 k g = (refl, (λ e. absurd cc), (refl, bracket_good (codes "int") (boxed_pieces (codes "Int256") k) refl (boxed_good (codes "Int256") k refl g)))

line_starts : (b : BuiltIn) (k : List Piece) → (first_kind (line_pieces b k) ≡ Some Hash → ⊥) × (first_kind (line_pieces b k) ≡ Some Dot → ⊥)
line_starts Int k = ((λ e. absurd cc), (λ e. absurd cc))
line_starts Long k = ((λ e. absurd cc), (λ e. absurd cc))
line_starts Double k = ((λ e. absurd cc), (λ e. absurd cc))
line_starts Str k = ((λ e. absurd cc), (λ e. absurd cc))
line_starts Bytes k = ((λ e. absurd cc), (λ e. absurd cc))
line_starts Vector k = ((λ e. absurd cc), (λ e. absurd cc))
line_starts Int128 k = ((λ e. absurd cc), (λ e. absurd cc))
line_starts Int256 k = ((λ e. absurd cc), (λ e. absurd cc))

own_is : (b : BuiltIn) → IsName is_lower (own_name b)
own_is Int = one_word (record { run = refl; first = refl })
own_is Long = one_word (record { run = refl; first = refl })
own_is Double = one_word (record { run = refl; first = refl })
own_is Str = one_word (record { run = refl; first = refl })
own_is Bytes = one_word (record { run = refl; first = refl })
own_is Vector = one_word (record { run = refl; first = refl })
own_is Int128 = one_word (record { run = refl; first = refl })
own_is Int256 = one_word (record { run = refl; first = refl })

own_built_in : (b : BuiltIn) → built_in (own_name b) ≡ Some b
own_built_in Int = refl
own_built_in Long = refl
own_built_in Double = refl
own_built_in Str = refl
own_built_in Bytes = refl
own_built_in Vector = refl
own_built_in Int128 = refl
own_built_in Int256 = refl

vector_only : (i : Option ℕ) → IsLineNumber Vector i → (n : ℕ) → i ≡ Some n → n ≡ vector_number
vector_only None h n e = absurd cc
vector_only (Some m) h n e = let f : m ≡ n = cc in sym f ∙ h

line_number_printed : (b : BuiltIn) (i : Option ℕ) (k : List Piece) → IsLineNumber b i → (first_kind k ≡ Some Hash → ⊥) → PrintedNumber (λ text edge. line_number text b edge) i k
line_number_printed Int i k h n = number_printed i k h n
line_number_printed Long i k h n = number_printed i k h n
line_number_printed Double i k h n = number_printed i k h n
line_number_printed Str i k h n = number_printed i k h n
line_number_printed Bytes i k h n = number_printed i k h n
line_number_printed Vector i k h n = vector_printed i k (vector_only i h) n
line_number_printed Int128 i k h n = number_printed i k h n
line_number_printed Int256 i k h n = number_printed i k h n

-- ---- declarations

-- a declaration that is read, its description aside
pub record DeclarationLeft (text : List ℕ) (r : Rule Token SyntaxFault DeclText) (ts : List Token) (d : DeclText) (k : List Piece) : Type 0 where
  pub value : DeclText
  pub same : without_description value ≡ without_description d
  pub at : ℕ
  pub rest : List Token
  pub reads : r.reads ts value rest
  pub stands : Stands text at k rest

pub record PrintedDeclaration (function : Bool) (d : DeclText) (k : List Piece) : Type 0 where
  pub pieces : List Piece
  pub bytes_are : bytes_in pieces ≡ written_declaration d ++ bytes_in k
  pub good : Good k → Good pieces
  pub starts : (text : List ℕ) (p : ℕ) (ts : List Token) → Stands text p pieces ts → Begins Word ts
  pub reads : (text : List ℕ) (p : ℕ) (ts : List Token) → EachIs (IsSpelt text) ts → Stands text p pieces ts → DeclarationLeft text (where_declaration text (declaration text function)) ts d k

lower_no_upper : (b : ℕ) → is_lower b ≡ true → is_upper b ≡ true → ⊥
lower_no_upper b h g = grind (arith, nat_tests)

-- a name that a declaration may have comes first
module _ (text : List ℕ) (p : ℕ) (first : List ℕ) (ts : List Token) (low : first_is is_lower first ≡ true) (b : NameStarts text p first ts) where
  not_this : (bytes : List ℕ) → first_is is_lower bytes ≡ false → IsThis text bytes b.token → ⊥
  not_this bytes h g = both_ways (first_is is_lower bytes) h (subst (λ (x : List ℕ). first_is is_lower x ≡ true) (sym b.front.bytes_are ∙ g.bytes_are) low)

  no_lifecycle : IsLifecycle text b.token → ⊥
  no_lifecycle (inl h) = not_this (codes "New") refl h
  no_lifecycle (inr (inl h)) = not_this (codes "Final") refl h
  no_lifecycle (inr (inr h)) = not_this (codes "Empty") refl h

  where_reads : (d : DeclText) (k : List Piece) (r : Rule Token SyntaxFault DeclText) → DeclarationLeft text r ts d k → DeclarationLeft text (where_declaration text r) ts d k
  unfolding where_declaration choice
  where_reads d k r l = record {
    value = l.value;
    same = l.same;
    at = l.at;
    rest = l.rest;
    stands = l.stands;
    reads = inr (
      not_next (IsLifecycle text) ts b.behind b.token b.whole no_lifecycle,
      inr (
        not_next (IsWord text is_upper) ts b.behind b.token b.whole (λ w. first_apart is_lower is_upper lower_no_upper first low (subst (λ (x : List ℕ). first_is is_upper x ≡ true) b.front.bytes_are w.first)),
        inr (not_next (IsThis text (codes "_")) ts b.behind b.token b.whole (not_this (codes "_") refl), l.reads),
      ),
    );
  }

-- after its name
declaration_reads : (text : List ℕ) (function : Bool) (d : DeclText) (k more : List Piece) (ts : List Token) → EachIs (IsSpelt text) ts → NameLeft text (declared_name text) ts d.name more
    → ((q : ℕ) (us : List Token) (x : List DescribedPiece) → EachIs (IsSpelt text) us → Stands text q more us → DeclarationLeft text (named_declaration text function (record { bytes = d.name; end = q }) x (built_in d.name)) us d k)
    → DeclarationLeft text (declaration text function) ts d k
unfolding declaration chain taken
declaration_reads text function d k more ts a l f =
    let b = (declared_given text).behind ts l.rest (record { bytes = d.name; end = l.at }) a l.reads in
    let r = f l.at l.rest (pieces text b.front) (rest_of (IsSpelt text) ts l.rest b a) l.stands in
    record {
      value = r.value;
      same = r.same;
      at = r.at;
      rest = r.rest;
      stands = r.stands;
      reads = ((record { bytes = d.name; end = l.at }, b.front), l.rest, (l.reads, b.whole), r.reads);
    }

-- ---- a line

module _ (b : BuiltIn) (i : Option ℕ) (k : List Piece) where
  line_left : (text : List ℕ) (q : ℕ) (us : List Token) (n : PrintedNumber (λ text edge. line_number text b edge) i (white 32 ∷ line_pieces b k))
      → Stands text q n.pieces us → DeclarationLeft text (built_in_line text b (record { bytes = own_name b; end = q })) us (line_text b i) k
  unfolding built_in_line chain gives
  line_left text q us n st =
      let m = n.reads text q us st in
      let f = line_reads b k text (m.at + 1) m.rest m.stands in
      record { value = line_text b i; same = refl; at = f.at; rest = f.rest; stands = f.stands; reads = (i, m.rest, m.reads, (tt, f.rest, f.reads, (refl, refl))) }

  line_named : (text : List ℕ) (function : Bool) (q : ℕ) (us : List Token) (x : List DescribedPiece) (n : PrintedNumber (λ text edge. line_number text b edge) i (white 32 ∷ line_pieces b k))
      → Stands text q n.pieces us → DeclarationLeft text (named_declaration text function (record { bytes = own_name b; end = q }) x (built_in (own_name b))) us (line_text b i) k
  line_named text function q us x n st =
      subst (λ (o : Option BuiltIn). DeclarationLeft text (named_declaration text function (record { bytes = own_name b; end = q }) x o) us (line_text b i) k) (sym (own_built_in b)) (line_left text q us n st)

  line_join : (x y z K : List ℕ) → x ++ (y ++ (32 ∷ (z ++ K))) ≡ (x ++ (y ++ (32 ∷ z))) ++ K
  line_join x y z K = simp append_assoc

  line_printed : (function : Bool) → IsLineNumber b i → PrintedDeclaration function (line_text b i) k
  line_printed function h =
      let s = line_starts b k in
      let n = line_number_printed b i (white 32 ∷ line_pieces b k) h s.0 in
      let w = declared_printed (own_name b) n.pieces (n.dot s.1) (own_is b) in
      record {
        pieces = w.pieces;
        bytes_are = w.bytes_are ∙ ap (λ (x : List ℕ). own_name b ++ x) (n.bytes_are ∙ ap (λ (x : List ℕ). written_number i ++ (32 ∷ x)) (line_bytes b k))
            ∙ line_join (own_name b) (written_number i) (written_line b) (bytes_in k)
            ∙ ap (λ (o : Option BuiltIn). (own_name b ++ (written_number i ++ (32 ∷ written_rest o (line_text b i)))) ++ bytes_in k) (sym (own_built_in b));
        good = λ g. w.good (n.stops (λ e. absurd cc)) (n.good (λ e. absurd cc) (refl, line_good b k g));
        starts = λ text p ts st. let t = w.starts text p ts st in next_at (OfKind Word) ts t.behind t.token t.whole t.front.kind_is;
        reads = λ text p ts a st.
            where_reads text p w.first ts w.first_passes (w.starts text p ts st) (line_text b i) k (declaration text function)
            (declaration_reads text function (line_text b i) k n.pieces ts a (w.reads text p ts st) (λ q us x v z. line_named text function q us x n z));
      }

-- ---- a combinator

result_reads : (text : List ℕ) (t : Tree) (k more : List Piece) (p : ℕ) (ts : List Token) → ((q : ℕ) (us : List Token) → Stands text q more us → Left text (expression text) us t k) → Stands text p (sign Equals ∷ white 32 ∷ more) ts → Left text (result_type text) ts t k
unfolding result_type chain
result_reads text t k more p ts f (q, a, e, g, st) =
    let l = f (q.end + 1) a st in
    record { at = l.at; rest = l.rest; stands = l.stands; reads = (q, a, token_reads text Equals ts a q e g.kind_is, l.reads) }

-- a combinator, its description aside
abbrev with_description : DeclText → List FieldText → List ℕ → DeclText
with_description d fs text = record {
  name = d.name;
  number = d.number;
  vars = d.vars;
  fields = fs;
  result = d.result;
  function = d.function;
  builtin = false;
  text = text;
}

module _ (text : List ℕ) (d : DeclText) (q : ℕ) (x : List DescribedPiece) where
  combinator_row : (us ns bs cs es rest : List Token) (s : FieldsText) (t : Token) (i : Behind us ns) (v : Behind ns bs) (r : Behind cs es) → (number text q).reads us d.number ns → (variables text).reads ns d.vars bs
      → (fields text d.function (length d.vars) ((x ++ left_out i.front) ++ pieces text v.front)).reads bs s cs → (result_type text).reads cs d.result es → es ≡ t ∷ rest → t.kind ≡ Semi
      → (combinator text d.function (record { bytes = d.name; end = q }) x).reads us (with_description d s.fields (has_description (s.pieces ++ pieces text r.front)).0) rest
  unfolding combinator chain taken gives
  combinator_row us ns bs cs es rest s t i v r a b c g e k = (
    (d.number, i.front),
    ns,
    (a, i.whole),
    (
      (d.vars, v.front),
      bs,
      (b, v.whole),
      (
        s,
        cs,
        c,
        ((d.result, r.front), es, (g, r.whole), (t, rest, token_reads text Semi es rest t e k, (_, rest, describes_here (s.pieces ++ pieces text r.front) rest, (refl, refl)))),
      ),
    ),
  )

  parts_left : (k : List Piece) → d.builtin ≡ false → (us ns bs cs es : List Token) (s : FieldsText) (st : (p : ℕ) × Stands text p (sign Semi ∷ white 10 ∷ k) es) (i : Behind us ns) (v : Behind ns bs) (r : Behind cs es)
      → (number text q).reads us d.number ns → (variables text).reads ns d.vars bs → (fields text d.function (length d.vars) ((x ++ left_out i.front) ++ pieces text v.front)).reads bs s cs → (result_type text).reads cs d.result es
      → s.fields ≡ d.fields → DeclarationLeft text (combinator text d.function (record { bytes = d.name; end = q }) x) us d k
  parts_left k w us ns bs cs es s (p, (t, rest, e, f, st)) i v r a b c g are = record {
    value = with_description d s.fields (has_description (s.pieces ++ pieces text r.front)).0;
    same = ap (λ (y : List FieldText). with_description d y []) are
        ∙ ap (λ (y : Bool). record { name = d.name; number = d.number; vars = d.vars; fields = d.fields; result = d.result; function = d.function; builtin = y; text = [] }) (sym w);
    at = t.end + 1;
    rest = rest;
    stands = st;
    reads = combinator_row us ns bs cs es rest s t i v r a b c g e f.kind_is;
  }

fields_other : (k : List Piece) → (first_kind k ≡ Some Word) ⊎ (first_kind k ≡ Some Equals) → (j : TokenKind) → (Word ≡ j → ⊥) → (Equals ≡ j → ⊥) → first_kind k ≡ Some j → ⊥
fields_other k (inl e) j w q h = let f : Some Word ≡ Some j = sym e ∙ h in w cc
fields_other k (inr e) j w q h = let f : Some Equals ≡ Some j = sym e ∙ h in q cc

parts_other : (k more : List Piece) → (first_kind k ≡ Some LBrace) ⊎ (first_kind k ≡ first_kind more) → (first_kind more ≡ Some Word) ⊎ (first_kind more ≡ Some Equals)
    → (j : TokenKind) → (LBrace ≡ j → ⊥) → (Word ≡ j → ⊥) → (Equals ≡ j → ⊥) → first_kind k ≡ Some j → ⊥
parts_other k more (inl e) o j l w q h = let f : Some LBrace ≡ Some j = sym e ∙ h in l cc
parts_other k more (inr e) o j l w q h = fields_other more o j w q (sym e ∙ h)

module _ (d : DeclText) (h : IsCombinator d) (k : List Piece) where
  fields_few : length d.vars + 0 + length d.fields ≤ 256
  fields_few = omega (arith, h.few)

  variables_few : 0 + length d.vars ≤ 256
  variables_few = omega (arith, h.few)

  module _ (t : PrintedTree (λ text. expression text) d.result (sign Semi ∷ white 10 ∷ k)) (f : PrintedFields d.function (length d.vars) d.fields (sign Equals ∷ white 32 ∷ t.row.pieces))
      (v : PrintedVariables d.vars f.pieces) (n : PrintedNumber (λ text edge. number text edge) d.number (white 32 ∷ v.pieces)) where
    combinator_left : (text : List ℕ) (q : ℕ) (us : List Token) (x : List DescribedPiece) → EachIs (IsSpelt text) us → Stands text q n.pieces us → DeclarationLeft text (combinator text d.function (record { bytes = d.name; end = q }) x) us d k
    unfolding variables fields
    combinator_left text q us x a st =
        let i = n.reads text q us st in
        let ib = (number_given text q).behind us i.rest d.number a i.reads in
        let ia = rest_of (IsSpelt text) us i.rest ib a in
        let vs = v.reads [] variables_few text (i.at + 1) i.rest i.stands in
        let vb = (variables_given text).behind i.rest vs.rest d.vars ia vs.reads in
        let va = rest_of (IsSpelt text) i.rest vs.rest vb ia in
        let fs = f.reads (fields_text [] ((x ++ left_out ib.front) ++ pieces text vb.front)) fields_few text vs.at vs.rest va vs.stands in
        let r = result_reads text d.result (sign Semi ∷ white 10 ∷ k) t.row.pieces fs.at fs.rest (t.row.reads text) fs.stands in
        let rb = (result_given text).behind fs.rest r.rest d.result fs.spelt r.reads in
        parts_left text d q x k h.written us i.rest vs.rest fs.rest r.rest fs.state (r.at, r.stands) ib vb rb i.reads vs.reads fs.reads r.reads fs.fields_are

    combinator_named : (text : List ℕ) (q : ℕ) (us : List Token) (x : List DescribedPiece) → EachIs (IsSpelt text) us → Stands text q n.pieces us
        → DeclarationLeft text (named_declaration text d.function (record { bytes = d.name; end = q }) x (built_in d.name)) us d k
    combinator_named text q us x a st =
        subst (λ (o : Option BuiltIn). DeclarationLeft text (named_declaration text d.function (record { bytes = d.name; end = q }) x o) us d k) (sym h.free) (combinator_left text q us x a st)

  semi_follows : Follows true (sign Semi ∷ white 10 ∷ k)
  semi_follows = record { less = λ e. absurd cc; dot = λ e. absurd cc; terms = λ h. ((λ e. absurd cc), (λ e. absurd cc), (λ e. absurd cc)) }

  parts_join : (x y v f t K : List ℕ) → x ++ (y ++ (32 ∷ (v ++ (f ++ (61 ∷ 32 ∷ (t ++ (59 ∷ 10 ∷ K))))))) ≡ (x ++ (y ++ (32 ∷ (v ++ (f ++ (codes "= " ++ (t ++ codes ";\n"))))))) ++ K
  parts_join x y v f t K = simp append_assoc

  combinator_whole : (t : PrintedTree (λ text. expression text) d.result (sign Semi ∷ white 10 ∷ k)) (f : PrintedFields d.function (length d.vars) d.fields (sign Equals ∷ white 32 ∷ t.row.pieces)) (v : PrintedVariables d.vars f.pieces)
      (n : PrintedNumber (λ text edge. number text edge) d.number (white 32 ∷ v.pieces)) (w : PrintedName is_lower (λ text. declared_name text) d.name n.pieces) → PrintedDeclaration d.function d k
  combinator_whole t f v n w = record {
    pieces = w.pieces;
    bytes_are = w.bytes_are ∙ ap (λ (b : List ℕ). d.name ++ b) (n.bytes_are ∙ ap (λ (b : List ℕ). written_number d.number ++ (32 ∷ b)) (v.bytes_are
        ∙ ap (λ (b : List ℕ). written_variables d.vars ++ b) (f.bytes_are ∙ ap (λ (b : List ℕ). written_fields d.fields ++ (61 ∷ 32 ∷ b)) t.row.bytes_are)))
        ∙ parts_join d.name (written_number d.number) (written_variables d.vars) (written_fields d.fields) (written_tree d.result) (bytes_in k)
        ∙ ap (λ (o : Option BuiltIn). (d.name ++ (written_number d.number ++ (32 ∷ written_rest o d))) ++ bytes_in k) (sym h.free);
    good = λ g. w.good (n.stops (λ e. absurd cc)) (n.good (λ e. absurd cc) (refl, v.good (f.good (refl, (refl, t.row.good (λ e. absurd cc) (refl, (refl, g)))))));
    starts = λ text p ts st. let b = w.starts text p ts st in next_at (OfKind Word) ts b.behind b.token b.whole b.front.kind_is;
    reads = λ text p ts a st.
        where_reads text p w.first ts w.first_passes (w.starts text p ts st) d k (declaration text d.function)
        (declaration_reads text d.function d k n.pieces ts a (w.reads text p ts st) (λ q us x y z. combinator_named t f v n text q us x y z));
  }

  combinator_printed : PrintedDeclaration d.function d k
  combinator_printed =
      let t = expression_printed d.result (sign Semi ∷ white 10 ∷ k) h.result semi_follows in
      let f = fields_printed d.function (length d.vars) d.fields (white 32 ∷ t.row.pieces) h.fields in
      let v = variables_printed d.vars f.pieces h.vars (fields_other f.pieces f.kind LBrace (λ e. absurd cc) (λ e. absurd cc)) in
      let n = number_printed d.number (white 32 ∷ v.pieces) h.number (parts_other v.pieces f.pieces v.kind f.kind Hash (λ e. absurd cc) (λ e. absurd cc) (λ e. absurd cc)) in
      combinator_whole t f v n (declared_printed d.name n.pieces (n.dot (parts_other v.pieces f.pieces v.kind f.kind Dot (λ e. absurd cc) (λ e. absurd cc) (λ e. absurd cc))) h.name)

pub declaration_printed : (d : DeclText) → IsDeclaration d → (function : Bool) (k : List Piece) → PrintedDeclaration (section_after function d) d k
declaration_printed d (line b i e h) function k = subst (λ (c : DeclText). PrintedDeclaration (section_after function c) c k) (sym e) (line_printed b i k function h)
declaration_printed d (combined h) function k =
    let same : section_after function d ≡ d.function = ap (λ (b : Bool). if b then function else d.function) h.written in
    subst (λ (b : Bool). PrintedDeclaration b d k) (sym same) (combinator_printed d h k)

-- ---- programs

pub record ItemsLeft (text : List ℕ) (s : ProgramText) (ts : List Token) (ds : List DeclText) : Type 0 where
  pub state : ProgramText
  pub more : List DeclText
  pub decls_are : state.decls ≡ s.decls ++ more
  pub same : map without_description more ≡ map without_description ds
  pub reads : (loop (λ us. us ≡ [] → ⊥) (item text) s).reads ts state []

-- declarations in a section, to the end of the text
pub record PrintedItems (function : Bool) (bytes : List ℕ) (ds : List DeclText) : Type 0 where
  pub pieces : List Piece
  pub bytes_are : bytes_in pieces ≡ bytes
  pub good : Good pieces
  pub reads : (s : ProgramText) → s.function ≡ function → length s.decls + length ds ≤ 16384 → (text : List ℕ) (p : ℕ) (ts : List Token) → EachIs (IsSpelt text) ts → Stands text p pieces ts → ItemsLeft text s ts ds

not_empty : (ts : List Token) (j : TokenKind) → Begins j ts → ts ≡ [] → ⊥
not_empty ts j h e = subst (Begins j) e h

end_reads : (s : ProgramText) (text : List ℕ) (ts : List Token) → ts ≡ [] → ItemsLeft text s ts []
unfolding loop
end_reads s text ts e = record { state = s; more = []; decls_are = sym (append-nil s.decls); same = refl; reads = ([], (refl, sym e), λ n. n refl) }

module _ (text : List ℕ) (s : ProgramText) where
  declaration_turn : (ts mid : List Token) (d : DeclText) → Begins Word ts → (length s.decls ≡ 16384 → ⊥) → (where_declaration text (declaration text s.function)).reads ts d mid → (item text s).reads ts (program_so_far (s.decls ++ (d ∷ [])) s.function) mid
  unfolding item one_declaration choice chain gives
  declaration_turn ts mid d b n h = inr ((λ g. let e : Word ≡ Dashes = one_kind Word Dashes ts b g in absurd cc), inr (n, (d, mid, h, (refl, refl))))

  declaration_more : (d : DeclText) (ds : List DeclText) (ts : List Token) (k : List Piece) → EachIs (IsSpelt text) ts → length s.decls + length (d ∷ ds) ≤ 16384 → Begins Word ts
      → (l : DeclarationLeft text (where_declaration text (declaration text s.function)) ts d k) → ((t : ProgramText) → t ≡ program_so_far (s.decls ++ (l.value ∷ [])) s.function → length t.decls + length ds ≤ 16384 → EachIs (IsSpelt text) l.rest → ItemsLeft text t l.rest ds)
      → ItemsLeft text s ts (d ∷ ds)
  declaration_more d ds ts k a w b l f =
      let next = program_so_far (s.decls ++ (l.value ∷ [])) s.function in
      let room : length next.decls + length ds ≤ 16384 = omega (arith, w, length_push s.decls l.value) in
      let turn = declaration_turn ts l.rest l.value b (λ e. absurd (omega (arith, w, e))) l.reads in
      let m = f next refl room (rest_of (IsSpelt text) ts l.rest ((expected_given text s.function).behind ts l.rest l.value a l.reads) a) in
      record {
        state = m.state;
        more = l.value ∷ m.more;
        decls_are = m.decls_are ∙ append_assoc s.decls (l.value ∷ []) m.more;
        same = ap (λ (c : DeclText). c ∷ map without_description m.more) l.same ∙ ap (λ (cs : List DeclText). without_description d ∷ cs) m.same;
        reads = loop_turn (λ us. us ≡ [] → ⊥) (item text) s next m.state ts l.rest [] (not_empty ts Word b) turn m.reads;
      }

declaration_first : (d : DeclText) (ds : List DeclText) (section : Bool) (bytes : List ℕ) (r : PrintedItems section bytes ds) → PrintedDeclaration section d r.pieces → PrintedItems section (written_declaration d ++ bytes) (d ∷ ds)
declaration_first d ds section bytes r x = record {
  pieces = x.pieces;
  bytes_are = x.bytes_are ∙ ap (λ (b : List ℕ). written_declaration d ++ b) r.bytes_are;
  good = x.good r.good;
  reads = λ s e w text p ts a st.
      let l = subst (λ (b : Bool). DeclarationLeft text (where_declaration text (declaration text b)) ts d r.pieces) (sym e) (x.reads text p ts a st) in
      declaration_more text s d ds ts r.pieces a w (x.starts text p ts st) l (λ t i room b. r.reads t (ap (λ (u : ProgramText). u.function) i ∙ e) room text l.at l.rest b l.stands);
}

-- ---- marks

abbrev mark_word : Bool → List ℕ
mark_word true = codes "functions"
mark_word false = codes "types"

abbrev mark_pieces : Bool → List Piece → List Piece
mark_pieces section k = dashes ∷ word (mark_word section) ∷ dashes ∷ white 10 ∷ k

mark_run : (section : Bool) → is_run (mark_word section) ≡ true
mark_run true = refl
mark_run false = refl

not_functions : (text : List ℕ) (p : ℕ) (t : Token) → Front text p Word (codes "types") t → IsThis text (codes "functions") t → ⊥
not_functions text p t f h =
    let e : bytes_eq (codes "types") (codes "functions") ≡ true = subst (λ (b : List ℕ). bytes_eq b (codes "functions") ≡ true) (sym (sym f.bytes_are ∙ h.bytes_are)) refl in
    both_ways (bytes_eq (codes "types") (codes "functions")) refl e

mark_reads : (text : List ℕ) (section : Bool) (k : List Piece) (p : ℕ) (ts : List Token) → Stands text p (mark_pieces section k) ts → Left text (mark text) ts section k
unfolding mark section chain choice gives
mark_reads text true k p ts (a, us, e, f, (w, vs, e1, f1, (b, rest, e2, f2, st))) = record {
  at = b.end + 1;
  rest = rest;
  stands = st;
  reads = (
    a,
    us,
    token_reads text Dashes ts us a e f.kind_is,
    inl (
      next_at (IsThis text (codes "functions")) us vs w e1 (this_is text a.end (codes "functions") w f1),
      (w, vs, this_reads text a.end (codes "functions") us vs w e1 f1, (b, rest, token_reads text Dashes vs rest b e2 f2.kind_is, (refl, refl))),
    ),
  );
}
mark_reads text false k p ts (a, us, e, f, (w, vs, e1, f1, (b, rest, e2, f2, st))) = record {
  at = b.end + 1;
  rest = rest;
  stands = st;
  reads = (
    a,
    us,
    token_reads text Dashes ts us a e f.kind_is,
    inr (
      not_next (IsThis text (codes "functions")) us vs w e1 (not_functions text a.end w f1),
      (w, vs, this_reads text a.end (codes "types") us vs w e1 f1, (b, rest, token_reads text Dashes vs rest b e2 f2.kind_is, (refl, refl))),
    ),
  );
}

mark_turn : (text : List ℕ) (s : ProgramText) (ts mid : List Token) (section : Bool) → Begins Dashes ts → (mark text).reads ts section mid → (item text s).reads ts (program_so_far s.decls section) mid
unfolding item choice chain gives
mark_turn text s ts mid section b h = inl (b, (section, mid, h, (refl, refl)))

mark_more : (text : List ℕ) (s : ProgramText) (ts : List Token) (section : Bool) (ds : List DeclText) (k : List Piece) → EachIs (IsSpelt text) ts → Begins Dashes ts → (l : Left text (mark text) ts section k)
    → (EachIs (IsSpelt text) l.rest → ItemsLeft text (program_so_far s.decls section) l.rest ds) → ItemsLeft text s ts ds
mark_more text s ts section ds k a b l f =
    let m = f (rest_of (IsSpelt text) ts l.rest ((mark_any text).behind ts l.rest section a l.reads) a) in
    record {
      state = m.state;
      more = m.more;
      decls_are = m.decls_are;
      same = m.same;
      reads = loop_turn (λ us. us ≡ [] → ⊥) (item text) s (program_so_far s.decls section) m.state ts l.rest [] (not_empty ts Dashes b) (mark_turn text s ts l.rest section b l.reads) m.reads;
    }

mark_first : (before function : Bool) (mark_line bytes : List ℕ) (ds : List DeclText) → mark_line ≡ (45 ∷ 45 ∷ 45 ∷ mark_word function) ++ (45 ∷ 45 ∷ 45 ∷ 10 ∷ []) → PrintedItems function bytes ds → PrintedItems before (mark_line ++ bytes) ds
mark_first before function mark_line bytes ds e r = record {
  pieces = mark_pieces function r.pieces;
  bytes_are = ap (λ (b : List ℕ). 45 ∷ 45 ∷ 45 ∷ (mark_word function ++ (45 ∷ 45 ∷ 45 ∷ 10 ∷ b))) r.bytes_are
      ∙ sym (append_assoc (45 ∷ 45 ∷ 45 ∷ mark_word function) (45 ∷ 45 ∷ 45 ∷ 10 ∷ []) bytes) ∙ ap (λ (b : List ℕ). b ++ bytes) (sym e);
  good = (mark_run function, (λ e. absurd cc), (refl, r.good));
  reads = λ s i w text p ts a st.
      let l = mark_reads text function r.pieces p ts st in
      mark_more text s ts function ds r.pieces a (next_at (OfKind Dashes) ts st.1 st.0 st.2 st.3.kind_is) l (λ b. r.reads (program_so_far s.decls function) refl w text l.at l.rest b l.stands);
}

marked : (before section : Bool) (bytes : List ℕ) (ds : List DeclText) → PrintedItems section bytes ds → PrintedItems before (written_mark before section ++ bytes) ds
marked true true bytes ds r = r
marked true false bytes ds r = mark_first true false (codes "---types---\n") bytes ds refl r
marked false true bytes ds r = mark_first false true (codes "---functions---\n") bytes ds refl r
marked false false bytes ds r = r

items_printed : (ds : List DeclText) (function : Bool) → EachIs IsDeclaration ds → PrintedItems function (written_program function ds) ds
items_printed [] function h = record { pieces = []; bytes_are = refl; good = tt; reads = λ s e w text p ts a st. end_reads s text ts st }
items_printed (d ∷ ds) function h =
    let r = items_printed ds (section_after function d) h.1 in
    marked function (section_after function d) (written_declaration d ++ written_program (section_after function d) ds) (d ∷ ds)
    (declaration_first d ds (section_after function d) (written_program (section_after function d) ds) r (declaration_printed d h.0 function r.pieces))

-- what is printed of declarations that some text reads as, reads as them
pub reads_back : (ds : List DeclText) → CanBeRead ds → ReadsBack (written_program false ds) ds
unfolding program
reads_back ds c =
    let h = printable ds c in
    let r = items_printed ds false h.each in
    let text = written_program false ds in
    let row = pieces_spell text 0 r.pieces (omega arith) (sym r.bytes_are) r.good in
    let spelt = row_spelt text 0 (length text) (tokens_at 0 r.pieces) row in
    let i = r.reads (program_so_far [] false) refl (omega (arith, h.few)) text 0 (tokens_at 0 r.pieces) spelt (pieces_stand text 0 r.pieces (omega arith) (sym r.bytes_are)) in (
      tokens_at 0 r.pieces,
      i.more,
      row,
      (i.state.function, subst (λ (es : List DeclText). (loop (λ us. us ≡ [] → ⊥) (item text) (program_so_far [] false)).reads (tokens_at 0 r.pieces) (program_so_far es i.state.function) []) i.decls_are i.reads),
      i.same,
    )
