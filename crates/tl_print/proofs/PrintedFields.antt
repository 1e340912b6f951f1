-- Printed numbers, conditions and fields are read back.
use Rattle.std.proofs.Common.{◌≡◌, ℕ, zero, suc, ◌+◌, ◌^◌, ◌<◌, ◌≤◌, List, [], ◌∷◌, ◌++◌, append_assoc, length, Bool, true, false, IsTrue, Option, Some, None, refl, sym, ◌∙◌, ap, subst, inl, inr, arith}
use Rattle.std.specs.Prelude.{◌⊎◌, ◌&&◌, ◌==◌, codes}
use Rattle.std.specs.Int.{w32, to_be_bytes}
use Rattle.std.specs.List.{list_all}
use Rattle.std.proofs.lemmas.Bool.{and_parts, and_from, cases_lt, eqb-true}
use Rattle.std.proofs.lemmas.Bool.Decides.{nat_tests}
use Rattle.std.proofs.lemmas.List.{append-nil, length_push}
use Rattle.std.proofs.lemmas.List.Sums.{list_all-from_AllPass}
use Rattle.hex.specs.Hex.{encode_lower}
use Rattle.tl_numbers.specs.HexText.{IsHexText, hex_value}
use Rattle.tl_numbers.specs.HexText.{is_digit as is_hex_digit}
use Rattle.tl_numbers.proofs.Printed.{printed_text, printed_value}
use Rattle.tl_lexer.specs.Rule.{Rule, Next, gives, one, chain, choice, loop}
use Rattle.tl_lexer.specs.declared.token.Token.{Token}
use Rattle.tl_lexer.specs.declared.token.TokenKind.TheVariants.{Word, Hash, Colon, Equals, Query, Dot, Bang, Percent, LBracket, LParen, Star, Less}
use Rattle.tl_lexer.specs.Tokens.{is_word}
use Rattle.tl_combinators.specs.declared.fault.SyntaxFault.{SyntaxFault}
use Rattle.tl_combinators.specs.Taken.{taken}
use Rattle.tl_program.specs.Letters.{first_is, is_letter, is_digit}
use Rattle.tl_combinators.specs.Tokens.{bytes_of, Begins, OfKind, IsAt, IsWord}
use Rattle.tl_combinators.specs.Names.{IsHex, hex, number_by, number, vector_number, IsOtherNumber, vector_hex, vector_line_number}
use Rattle.tl_program.specs.Trees.{Tree, named, percent, any_call, no_trees}
use Rattle.tl_combinators.specs.Types.{term}
use Rattle.tl_program.specs.Program.{KindText, nat, flag, call, of, CondText, FieldText}
use Rattle.tl_combinators.specs.Description.{field_pieces}
use Rattle.tl_combinators.specs.Fields.{bit_value, bit, BeginsBit, BeginsCondition, condition, conditional, HeldText, called, in_condition, held, BeginsMultiplicity, IsLone, BeginsUnnamed, where_field, field, FieldsText, fields_text, one_field}
use Rattle.tl_print.specs.Written.{written_tree, written_bit, written_condition, written_kind, written_field, written_fields, written_number}
use Rattle.tl_print.proofs.Givens.{EachIs, Behind, rest_of}
use Rattle.tl_print.proofs.PrintedPieces.{Piece, word, sign, white, bytes_in, is_run, run_from, Stops, Good, first_kind, Front, Stands}
use Rattle.tl_print.proofs.PrintableForm.{IsWordOf, one_word, IsSmall, IsShape, IsTree, IsCond, IsHeld, IsField}
use Rattle.tl_print.proofs.PrintableParts.{IsSpelt}
use Rattle.tl_print.proofs.PrintableProgram.{field_given}
use Rattle.tl_print.proofs.PrintedParts.{Left, Printed, loop_turn, left_no, next_at, not_next, next_so, other_kind, one_kind, kind_first, token_reads, word_is, letter_reads, letter_no_digit, first_apart}
use Rattle.tl_print.proofs.PrintedTypes.{Follows, tree_kind, PrintedTree, term_printed}

-- ---- numbers

digit_word : (b : ℕ) → is_hex_digit b ≡ true → is_word b ≡ true
digit_word b h = grind (arith, nat_tests)

digits_run : (xs : List ℕ) → list_all is_hex_digit xs ≡ true → list_all is_word xs ≡ true
digits_run [] h = refl
digits_run (b ∷ bs) h = let p = and_parts (is_hex_digit b) (list_all is_hex_digit bs) h in and_from (is_word b) (list_all is_word bs) (digit_word b p.0) (digits_run bs p.1)

hex_run : (xs : List ℕ) → IsHexText xs → is_run xs ≡ true
hex_run xs h = run_from xs h.some (digits_run xs (list_all-from_AllPass is_hex_digit xs h.digits))

-- a number that stands directly after what ends at p
pub record PrintedNumber (r : List ℕ → ℕ → Rule Token SyntaxFault (Option ℕ)) (i : Option ℕ) (k : List Piece) : Type 0 where
  pub pieces : List Piece
  pub bytes_are : bytes_in pieces ≡ written_number i ++ bytes_in k
  pub good : Stops k → Good k → Good pieces
  pub stops : Stops k → Stops pieces
  pub dot : (first_kind k ≡ Some Dot → ⊥) → first_kind pieces ≡ Some Dot → ⊥
  pub reads : (text : List ℕ) (p : ℕ) (ts : List Token) → Stands text p pieces ts → Left text (r text p) ts i k

abbrev hex_of : ℕ → List ℕ
hex_of n = encode_lower (to_be_bytes w32 n)

module _ (k : List Piece) where
  none_reads : (first_kind k ≡ Some Hash → ⊥) → (digits : ℕ → Rule Token SyntaxFault ℕ) (text : List ℕ) (p : ℕ) (ts : List Token) → Stands text p k ts → Left text (number_by text digits p) ts None k
  unfolding number_by choice gives
  none_reads n digits text p ts s = record {
    at = p;
    rest = ts;
    stands = s;
    reads = inr (λ h. n (kind_first text p k ts Hash s (next_so (IsAt p Hash) (OfKind Hash) ts (λ t i. i.kind_is) h)), (refl, refl));
  }

  some_reads : (n : ℕ) (text : List ℕ) (digits : ℕ → Rule Token SyntaxFault ℕ) → ((q : ℕ) (us : List Token) → Stands text q (word (hex_of n) ∷ k) us → Left text (digits q) us n k)
      → (p : ℕ) (ts : List Token) → Stands text p (sign Hash ∷ word (hex_of n) ∷ k) ts → Left text (number_by text digits p) ts (Some n) k
  unfolding number_by choice chain gives
  some_reads n text digits d p ts (t, rest, e, f, s) =
      let l = d t.end rest s in
      record {
        at = l.at;
        rest = l.rest;
        stands = l.stands;
        reads = inl (
          next_at (IsAt p Hash) ts rest t e (record { kind_is = f.kind_is; edge_is = f.start_is }),
          (t, rest, token_reads text Hash ts rest t e f.kind_is, (n, l.rest, l.reads, (refl, refl))),
        );
      }

  hex_is : (n : ℕ) → n < 2 ^ 32 → (text : List ℕ) (q : ℕ) (t : Token) → Front text q Word (hex_of n) t → IsHex text q t
  hex_is n w text q t f = record { at = record { kind_is = f.kind_is; edge_is = f.start_is }; digits = subst IsHexText (sym f.bytes_are) (printed_text n w) }

  value_is : (n : ℕ) → n < 2 ^ 32 → (text : List ℕ) (q : ℕ) (t : Token) → Front text q Word (hex_of n) t → hex_value (bytes_of text t) ≡ n
  value_is n w text q t f = ap hex_value f.bytes_are ∙ printed_value n w

  hex_reads : (n : ℕ) → n < 2 ^ 32 → (text : List ℕ) (q : ℕ) (us : List Token) → Stands text q (word (hex_of n) ∷ k) us → Left text (hex text q) us n k
  unfolding hex chain one gives
  hex_reads n w text q us (t, rest, e, f, s) = record {
    at = t.end;
    rest = rest;
    stands = s;
    reads = (t, rest, (e, hex_is n w text q t f), (sym (value_is n w text q t f), refl));
  }

  vector_reads : (n : ℕ) → n < 2 ^ 32 → n ≡ vector_number → (text : List ℕ) (q : ℕ) (us : List Token) → Stands text q (word (hex_of n) ∷ k) us → Left text (vector_hex text q) us n k
  unfolding vector_hex
  vector_reads n w same text q us (t, rest, e, f, s) =
      left_no text (Next (IsOtherNumber text q)) _ (hex text q) us n k
      (not_next (IsOtherNumber text q) us rest t e (λ o. o.other (value_is n w text q t f ∙ same)))
      (hex_reads n w text q us (t, rest, e, f, s))

  -- none, or some digits that are read
  none_printed : (first_kind k ≡ Some Hash → ⊥) → (digits : List ℕ → ℕ → Rule Token SyntaxFault ℕ) → PrintedNumber (λ text edge. number_by text (digits text) edge) None k
  none_printed n digits = record { pieces = k; bytes_are = refl; good = λ s g. g; stops = λ h. h; dot = λ h. h; reads = λ text p ts s. none_reads n (digits text) text p ts s }

  some_printed : (n : ℕ) → n < 2 ^ 32 → (digits : List ℕ → ℕ → Rule Token SyntaxFault ℕ) → ((text : List ℕ) (q : ℕ) (us : List Token) → Stands text q (word (hex_of n) ∷ k) us → Left text (digits text q) us n k)
      → PrintedNumber (λ text edge. number_by text (digits text) edge) (Some n) k
  some_printed n w digits d = record {
    pieces = sign Hash ∷ word (hex_of n) ∷ k;
    bytes_are = refl;
    good = λ s g. (refl, (hex_run (hex_of n) (printed_text n w), s, g));
    stops = λ s h. absurd cc;
    dot = λ h e. absurd cc;
    reads = λ text p ts s. some_reads n text (digits text) (d text) p ts s;
  }

pub number_printed : (i : Option ℕ) (k : List Piece) → IsSmall i → (first_kind k ≡ Some Hash → ⊥) → PrintedNumber (λ text edge. number text edge) i k
unfolding number
number_printed None k h n = none_printed k n (λ text edge. hex text edge)
number_printed (Some m) k h n = some_printed k m h (λ text edge. hex text edge) (hex_reads k m h)

pub vector_printed : (i : Option ℕ) (k : List Piece) → ((n : ℕ) → i ≡ Some n → n ≡ vector_number) → (first_kind k ≡ Some Hash → ⊥) → PrintedNumber (λ text edge. vector_line_number text edge) i k
unfolding vector_line_number
vector_printed None k h n = none_printed k n (λ text edge. vector_hex text edge)
vector_printed (Some m) k h n =
    let w : m < 2 ^ 32 = omega (arith, h m refl) in
    some_printed k m w (λ text edge. vector_hex text edge) (vector_reads k m w (h m refl))

-- ---- conditions

abbrev is_some_bit : Option ℕ → ℕ → Bool
is_some_bit None n = false
is_some_bit (Some m) n = m == n

abbrev is_good_bit : ℕ → Bool
is_good_bit n = is_run (written_bit n) && (first_is is_digit (written_bit n) && is_some_bit (bit_value (written_bit n)) n)

abbrev are_good_bits : ℕ → Bool
are_good_bits zero = true
are_good_bits (suc n) = is_good_bit n && are_good_bits n

good_at : (n d : ℕ) → are_good_bits n ≡ true → d < n → is_good_bit d ≡ true
good_at zero d h w = absurd (omega (arith, w))
good_at (suc n) d h w =
    let parts = and_parts (is_good_bit n) (are_good_bits n) h in
    elim (cases_lt d n) [ inl a ↦ good_at n d parts.1 a | inr b ↦ let e : n ≡ d = omega (arith, w, b) in subst (λ (k : ℕ). is_good_bit k ≡ true) e parts.0 ]

some_bit : (o : Option ℕ) (n : ℕ) → is_some_bit o n ≡ true → o ≡ Some n
some_bit None n h = absurd cc
some_bit (Some m) n h = ap Some (eqb-true m n h)

record GoodBit (n : ℕ) : Type 0 where
  run : is_run (written_bit n) ≡ true
  first : first_is is_digit (written_bit n) ≡ true
  value : bit_value (written_bit n) ≡ Some n

good_bit : (n : ℕ) → n < 100 → GoodBit n
good_bit n w =
    let a = and_parts (is_run (written_bit n)) (first_is is_digit (written_bit n) && is_some_bit (bit_value (written_bit n)) n) (good_at 100 n refl w) in
    let b = and_parts (first_is is_digit (written_bit n)) (is_some_bit (bit_value (written_bit n)) n) a.1 in
    record { run = a.0; first = b.0; value = some_bit (bit_value (written_bit n)) n b.1 }

abbrev condition_pieces : CondText → List Piece → List Piece
condition_pieces c k = word c.flags ∷ sign Dot ∷ word (written_bit c.bit) ∷ sign Query ∷ k

condition_bytes : (c : CondText) (k : List Piece) → bytes_in (condition_pieces c k) ≡ written_condition (Some c) ++ bytes_in k
condition_bytes c k =
    sym (append_assoc (c.flags ++ (46 ∷ [])) (written_bit c.bit ++ (63 ∷ [])) (bytes_in k)
    ∙ append_assoc c.flags (46 ∷ []) ((written_bit c.bit ++ (63 ∷ [])) ++ bytes_in k)
    ∙ ap (λ (b : List ℕ). c.flags ++ (46 ∷ b)) (append_assoc (written_bit c.bit) (63 ∷ []) (bytes_in k)))

condition_good : (c : CondText) (k : List Piece) → IsCond c → Good k → Good (condition_pieces c k)
condition_good c k h g = (h.flags.run, (λ e. absurd cc), (refl, ((good_bit c.bit h.small).run, (λ e. absurd cc), (refl, g))))

condition_begins : (c : CondText) (k : List Piece) → IsCond c → (text : List ℕ) (p : ℕ) (ts : List Token) → Stands text p (condition_pieces c k) ts → BeginsCondition text ts
condition_begins c k h text p ts (t, rest, e, f, (d, more, e', f', (n, end, e'', f'', s))) =
    subst (BeginsCondition text) (sym e) (
      word_is text p c.flags is_letter t f h.flags.first,
      subst (BeginsBit text) (sym e')
          (f'.kind_is, next_at (IsWord text is_digit) more end n e'' (word_is text d.end (written_bit c.bit) is_digit n f'' (good_bit c.bit h.small).first)),
    )

condition_reads : (c : CondText) (k : List Piece) → IsCond c → (text : List ℕ) (p : ℕ) (ts : List Token) → Stands text p (condition_pieces c k) ts → Left text (condition text) ts c k
unfolding condition chain gives bit
condition_reads c k h text p ts (t, rest, e, f, (d, more, e', f', (n, end, e'', f'', (q, last, e''', f''', s)))) = record {
  at = q.end;
  rest = last;
  stands = s;
  reads = (
    t,
    rest,
    letter_reads text p c.flags ts rest t e f h.flags,
    (
      d,
      more,
      token_reads text Dot rest more d e' f'.kind_is,
      (
        c.bit,
        end,
        (n, e'', record { word = f''.kind_is; digits = ap bit_value f''.bytes_are ∙ (good_bit c.bit h.small).value }),
        (
          q,
          last,
          token_reads text Query end last q e''' f'''.kind_is,
          (ap (λ (b : List ℕ). record { flags = b; bit = c.bit }) (sym f.bytes_are), refl),
        ),
      ),
    ),
  );
}

-- ---- what a field holds

abbrev holds : Option CondText → KindText → HeldText
holds cond kind = record { cond = cond; kind = kind }

PrintedHeld : Bool → Option CondText → KindText → List Piece → Type 0
PrintedHeld function cond kind k = Printed (λ text. held text function) (holds cond kind) (written_condition cond ++ written_kind kind) k

module _ (function : Bool) (k : List Piece) where
  nat_reads : (text : List ℕ) (p : ℕ) (ts : List Token) → Stands text p (sign Hash ∷ k) ts → Left text (held text function) ts (holds None nat) k
  unfolding held choice chain gives
  nat_reads text p ts (t, rest, e, f, s) = record {
    at = t.end;
    rest = rest;
    stands = s;
    reads = inl (next_at (OfKind Hash) ts rest t e f.kind_is, (t, rest, token_reads text Hash ts rest t e f.kind_is, (refl, refl)));
  }

  call_reads : (var : List ℕ) → IsTrue function → IsWordOf is_letter var → (text : List ℕ) (p : ℕ) (ts : List Token) → Stands text p (sign Bang ∷ word var ∷ k) ts → Left text (held text function) ts (holds None (call var)) k
  unfolding held choice chain gives called
  call_reads var may h text p ts (t, rest, e, f, (v, more, e', f', s)) = record {
    at = v.end;
    rest = more;
    stands = s;
    reads = inr (
      other_kind Bang Hash ts rest t e f.kind_is (λ e. absurd cc),
      inl (
        next_at (OfKind Bang) ts rest t e f.kind_is,
        inl (
          may,
          (
            t,
            rest,
            token_reads text Bang ts rest t e f.kind_is,
            (
              v,
              more,
              letter_reads text t.end var rest more v e' f' h,
              (ap (λ (b : List ℕ). holds None (call b)) (sym f'.bytes_are), refl),
            ),
          ),
        ),
      ),
    );
  }

  kind_other : (t : Tree) → IsShape t → (tree_kind t ≡ Hash → ⊥) × (tree_kind t ≡ Bang → ⊥)
  kind_other (named bytes args) h = ((λ e. absurd cc), (λ e. absurd cc))
  kind_other (percent t) h = ((λ e. absurd cc), (λ e. absurd cc))
  kind_other any_call h = absurd h

  of_reads : (t : Tree) → IsShape t → (r : PrintedTree (λ text. term text) t k) → (text : List ℕ) (p : ℕ) (ts : List Token) → Stands text p r.row.pieces ts → Left text (held text function) ts (holds None (of t)) k
  unfolding held choice chain gives
  of_reads t h r text p ts s =
      let l = r.row.reads text p ts s in
      let b = r.starts text p ts s in
      record {
        at = l.at;
        rest = l.rest;
        stands = l.stands;
        reads = inr (
          λ g. (kind_other t h).0 (one_kind (tree_kind t) Hash ts b g),
          inr (
            λ g. (kind_other t h).1 (one_kind (tree_kind t) Bang ts b g),
            inr (
              r.no_condition text p ts s,
              (t, l.rest, l.reads, (refl, refl)),
            ),
          ),
        );
      }

  in_reads : (c : CondText) (t : Tree) → IsCond c → (r : PrintedTree (λ text. term text) t k) → (text : List ℕ) (p : ℕ) (ts : List Token) → Stands text p (condition_pieces c r.row.pieces) ts → Left text (held text function) ts (holds (Some c) (conditional t)) k
  unfolding held choice chain gives in_condition
  in_reads c t h r text p ts s =
      let a = condition_reads c r.row.pieces h text p ts s in
      let l = r.row.reads text a.at a.rest a.stands in
      record {
        at = l.at;
        rest = l.rest;
        stands = l.stands;
        reads = inr (
          other_kind Word Hash ts s.1 s.0 s.2 s.3.kind_is (λ e. absurd cc),
          inr (
            other_kind Word Bang ts s.1 s.0 s.2 s.3.kind_is (λ e. absurd cc),
            inl (condition_begins c r.row.pieces h text p ts s, (c, a.rest, a.reads, (t, l.rest, l.reads, (refl, refl)))),
          ),
        );
      }

  in_printed : (c : CondText) (t : Tree) → IsCond c → IsTree 16 t → Follows false k → Printed (λ text. held text function) (holds (Some c) (conditional t)) (written_condition (Some c) ++ written_tree t) k
  in_printed c t h i f =
      let r = term_printed t k i f in
      record {
        pieces = condition_pieces c r.row.pieces;
        bytes_are = condition_bytes c r.row.pieces ∙ ap (λ (b : List ℕ). written_condition (Some c) ++ b) r.row.bytes_are ∙ sym (append_assoc (written_condition (Some c)) (written_tree t) (bytes_in k));
        good = λ s g. condition_good c r.row.pieces h (r.row.good s g);
        reads = in_reads c t h r;
      }

  true_is : IsTree 16 (named (codes "true") no_trees)
  true_is = record { shape = (record { name = one_word (record { run = refl; first = refl }); other = λ e. absurd cc }, tt); few = omega arith }

  held_printed : (cond : Option CondText) (kind : KindText) → IsHeld function cond kind → Follows false k → PrintedHeld function cond kind k
  unfolding PrintedHeld
  held_printed None nat h f = record { pieces = sign Hash ∷ k; bytes_are = refl; good = λ s g. (refl, g); reads = nat_reads }
  held_printed None flag h f = absurd h
  held_printed None (call var) h f = record {
    pieces = sign Bang ∷ word var ∷ k;
    bytes_are = refl;
    good = λ s g. (refl, (h.1.run, s, g));
    reads = call_reads var h.0 h.1;
  }
  held_printed None (of t) h f =
      let r = term_printed t k h f in
      record { pieces = r.row.pieces; bytes_are = r.row.bytes_are; good = r.row.good; reads = of_reads t h.shape r }
  held_printed (Some c) nat h f = absurd h
  held_printed (Some c) flag h f = in_printed c (named (codes "true") no_trees) h true_is f
  held_printed (Some c) (call var) h f = absurd h
  held_printed (Some c) (of t) h f = subst (λ (o : KindText). Printed (λ text. held text function) (holds (Some c) o) (written_condition (Some c) ++ written_tree t) k) h.2 (in_printed c t h.0 h.1 f)

-- ---- fields

field_bytes : (f : FieldText) (rest more : List ℕ) → rest ≡ (written_condition f.cond ++ written_kind f.kind) ++ (32 ∷ more) → f.name ++ (58 ∷ rest) ≡ written_field f ++ more
field_bytes f rest more e =
    ap (λ (b : List ℕ). f.name ++ (58 ∷ b)) (e ∙ append_assoc (written_condition f.cond) (written_kind f.kind) (32 ∷ more))
    ∙ sym (append_assoc (f.name ++ (58 ∷ [])) (written_condition f.cond ++ (written_kind f.kind ++ (32 ∷ []))) more
    ∙ append_assoc f.name (58 ∷ []) ((written_condition f.cond ++ (written_kind f.kind ++ (32 ∷ []))) ++ more)
    ∙ ap (λ (b : List ℕ). f.name ++ (58 ∷ b)) (append_assoc (written_condition f.cond) (written_kind f.kind ++ (32 ∷ [])) more
    ∙ ap (λ (b : List ℕ). written_condition f.cond ++ b) (append_assoc (written_kind f.kind) (32 ∷ []) more)))

-- a field's name and `:`
module _ (text : List ℕ) (p : ℕ) (bytes : List ℕ) (h : IsWordOf is_letter bytes) (ts rest more : List Token) (t c : Token) (e : ts ≡ t ∷ rest) (f : Front text p Word bytes t) (e' : rest ≡ c ∷ more) (g : c.kind ≡ Colon) where
  no_multiplicity : BeginsMultiplicity text ts → ⊥
  no_multiplicity (inl b) = other_kind Word LBracket ts rest t e f.kind_is (λ e. absurd cc) b
  no_multiplicity (inr (inl b)) = other_kind Word Star ts rest t e f.kind_is (λ e. absurd cc) b
  no_multiplicity (inr (inr b)) =
      let w : IsWord text is_digit t = subst (Next (IsWord text is_digit)) e b in
      first_apart is_letter is_digit letter_no_digit bytes h.first (subst (λ (x : List ℕ). first_is is_digit x ≡ true) f.bytes_are w.first)

  no_unnamed : BeginsUnnamed text ts → ⊥
  no_unnamed (inl b) = other_kind Word Bang ts rest t e f.kind_is (λ e. absurd cc) b
  no_unnamed (inr (inl b)) = other_kind Word Percent ts rest t e f.kind_is (λ e. absurd cc) b
  no_unnamed (inr (inr (inl b))) = other_kind Word LParen ts rest t e f.kind_is (λ e. absurd cc) b
  no_unnamed (inr (inr (inr (inl b)))) = other_kind Word Hash ts rest t e f.kind_is (λ e. absurd cc) b
  no_unnamed (inr (inr (inr (inr b)))) = (subst (IsLone text) e b).1 (next_at (OfKind Colon) rest more c e' g)

module _ (function : Bool) (x : FieldText) (k more : List Piece) (i : IsField function x) where
  field_reads : (text : List ℕ) → ((q : ℕ) (us : List Token) → Stands text q more us → Left text (held text function) us (holds x.cond x.kind) k)
      → (p : ℕ) (ts : List Token) → Stands text p (word x.name ∷ sign Colon ∷ more) ts → Left text (field text function) ts x k
  unfolding field where_field choice chain gives
  field_reads text r p ts (t, rest, e, f, (c, us, e', f', s)) =
      let l = r c.end us s in
      record {
        at = l.at;
        rest = l.rest;
        stands = l.stands;
        reads = inr (
          no_multiplicity text p x.name i.name ts rest us t c e f e' f'.kind_is,
          inr (
            no_unnamed text p x.name i.name ts rest us t c e f e' f'.kind_is,
            (
              t,
              rest,
              letter_reads text p x.name ts rest t e f i.name,
              (
                c,
                us,
                token_reads text Colon rest us c e' f'.kind_is,
                (
                  holds x.cond x.kind,
                  l.rest,
                  l.reads,
                  (ap (λ (b : List ℕ). record { name = b; cond = x.cond; kind = x.kind }) (sym f.bytes_are), refl),
                ),
              ),
            ),
          ),
        );
      }

-- fields up to `=`
pub record FieldsLeft (text : List ℕ) (function : Bool) (vars : ℕ) (s : FieldsText) (ts : List Token) (fs : List FieldText) (k : List Piece) : Type 0 where
  pub state : FieldsText
  pub fields_are : state.fields ≡ s.fields ++ fs
  pub at : ℕ
  pub rest : List Token
  pub reads : (loop (λ us. Begins Equals us → ⊥) (one_field text function vars) s).reads ts state rest
  pub spelt : EachIs (IsSpelt text) rest
  pub stands : Stands text at k rest

pub record PrintedFields (function : Bool) (vars : ℕ) (fs : List FieldText) (k : List Piece) : Type 0 where
  pub pieces : List Piece
  pub bytes_are : bytes_in pieces ≡ written_fields fs ++ bytes_in k
  pub good : Good k → Good pieces
  pub kind : (first_kind pieces ≡ Some Word) ⊎ (first_kind pieces ≡ Some Equals)
  pub reads : (s : FieldsText) → vars + length s.fields + length fs ≤ 256 → (text : List ℕ) (p : ℕ) (ts : List Token) → EachIs (IsSpelt text) ts → Stands text p pieces ts → FieldsLeft text function vars s ts fs k

-- the next token is a Word or `=`
kind_follows : (k : List Piece) → (first_kind k ≡ Some Word) ⊎ (first_kind k ≡ Some Equals) → Follows false k
kind_follows k (inl e) = record {
  less = λ h. let g : Some Word ≡ Some Less = sym e ∙ h in absurd cc;
  dot = λ h. let g : Some Word ≡ Some Dot = sym e ∙ h in absurd cc;
  terms = λ h. absurd cc;
}
kind_follows k (inr e) = record {
  less = λ h. let g : Some Equals ≡ Some Less = sym e ∙ h in absurd cc;
  dot = λ h. let g : Some Equals ≡ Some Dot = sym e ∙ h in absurd cc;
  terms = λ h. absurd cc;
}

module _ (function : Bool) (vars : ℕ) where
  fields_end : (k : List Piece) (s : FieldsText) (text : List ℕ) (p : ℕ) (ts : List Token) → EachIs (IsSpelt text) ts → Stands text p (sign Equals ∷ k) ts → FieldsLeft text function vars s ts [] (sign Equals ∷ k)
  unfolding loop
  fields_end k s text p ts a (t, rest, e, f, st) = record {
    state = s;
    fields_are = sym (append-nil s.fields);
    at = p;
    rest = ts;
    spelt = a;
    stands = (t, rest, e, f, st);
    reads = ([], (refl, refl), λ n. n (next_at (OfKind Equals) ts rest t e f.kind_is));
  }

  field_turn : (text : List ℕ) (s : FieldsText) (ts mid : List Token) (x : FieldText) → (vars + length s.fields ≡ 256 → ⊥) → (b : Behind ts mid) → (field text function).reads ts x mid
      → (one_field text function vars s).reads ts (fields_text (s.fields ++ (x ∷ [])) (s.pieces ++ field_pieces text x b.front)) mid
  unfolding one_field choice chain taken gives
  field_turn text s ts mid x room b h = inr (room, ((x, b.front), mid, (h, b.whole), (refl, refl)))

  fields_more : (x : FieldText) (fs : List FieldText) (k more : List Piece) → (i : IsField function x) → (r : PrintedFields function vars fs k)
      → ((text : List ℕ) (p : ℕ) (ts : List Token) → Stands text p more ts → Left text (held text function) ts (holds x.cond x.kind) (white 32 ∷ r.pieces))
      → (s : FieldsText) → vars + length s.fields + length (x ∷ fs) ≤ 256 → (text : List ℕ) (p : ℕ) (ts : List Token) → EachIs (IsSpelt text) ts → Stands text p (word x.name ∷ sign Colon ∷ more) ts → FieldsLeft text function vars s ts (x ∷ fs) k
  fields_more x fs k more i r h s w text p ts a st =
      let l = field_reads function x (white 32 ∷ r.pieces) more i text (h text) p ts st in
      let b = (field_given text function).behind ts l.rest x a l.reads in
      let next = fields_text (s.fields ++ (x ∷ [])) (s.pieces ++ field_pieces text x b.front) in
      let room : vars + length next.fields + length fs ≤ 256 = omega (arith, w, length_push s.fields x) in
      let e = r.reads next room text (l.at + 1) l.rest (rest_of (IsSpelt text) ts l.rest b a) l.stands in
      record {
        state = e.state;
        fields_are = e.fields_are ∙ append_assoc s.fields (x ∷ []) fs;
        at = e.at;
        rest = e.rest;
        spelt = e.spelt;
        stands = e.stands;
        reads = loop_turn (λ us. Begins Equals us → ⊥) (one_field text function vars) s next e.state ts l.rest e.rest
            (other_kind Word Equals ts st.1 st.0 st.2 st.3.kind_is (λ e. absurd cc)) (field_turn text s ts l.rest x (λ e. absurd (omega (arith, w, e))) b l.reads) e.reads;
      }

  pub fields_printed : (fs : List FieldText) (k : List Piece) → EachIs (IsField function) fs → PrintedFields function vars fs (sign Equals ∷ k)
  unfolding PrintedHeld
  fields_printed [] k h = record {
    pieces = sign Equals ∷ k;
    bytes_are = refl;
    good = λ g. g;
    kind = inr refl;
    reads = λ s w text p ts a st. fields_end k s text p ts a st;
  }
  fields_printed (x ∷ fs) k h =
      let r = fields_printed fs k h.1 in
      let d = held_printed function (white 32 ∷ r.pieces) x.cond x.kind h.0.holds (kind_follows (white 32 ∷ r.pieces) r.kind) in
      record {
        pieces = word x.name ∷ sign Colon ∷ d.pieces;
        bytes_are = field_bytes x (bytes_in d.pieces) (bytes_in r.pieces) d.bytes_are ∙ ap (λ (b : List ℕ). written_field x ++ b) r.bytes_are
            ∙ sym (append_assoc (written_field x) (written_fields fs) (bytes_in (sign Equals ∷ k)));
        good = λ g. (h.0.name.run, (λ e. absurd cc), (refl, d.good (λ e. absurd cc) (refl, r.good g)));
        kind = inl refl;
        reads = fields_more x fs (sign Equals ∷ k) d.pieces h.0 r d.reads;
      }
