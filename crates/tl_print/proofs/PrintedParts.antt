-- Printed names and numbers are read back.
use Rattle.std.proofs.Common.{◌≡◌, ℕ, ◌+◌, List, [], ◌∷◌, ◌++◌, append_assoc, Bool, true, false, Some, refl, sym, ◌∙◌, ap, subst, inl, inr, arith}
use Rattle.std.specs.Prelude.{◌⊎◌, codes}
use Rattle.std.proofs.lemmas.Bool.{both_ways, or_left}
use Rattle.std.proofs.lemmas.Bool.Decides.{nat_tests}
use Rattle.tl_lexer.specs.Rule.{Rule, Next, gives, one, chain, choice, loop}
use Rattle.tl_lexer.specs.declared.token.Token.{Token}
use Rattle.tl_lexer.specs.declared.token.TokenKind.{TokenKind}
use Rattle.tl_lexer.specs.declared.token.TokenKind.TheVariants.{Word, Dot}
use Rattle.tl_combinators.specs.declared.fault.SyntaxFault.{SyntaxFault}
use Rattle.tl_program.specs.Letters.{first_is, is_lower, is_upper, is_letter, is_digit}
use Rattle.tl_combinators.specs.Tokens.{bytes_of, unexpected, OfKind, Begins, token, IsAt, letter_word, this_word, IsWord, IsThis}
use Rattle.tl_combinators.specs.Names.{NameText, joined, IsObject, name_from, name, declared_name, type_name}
use Rattle.tl_combinators.specs.Fields.{BeginsBit, BeginsCondition}
use Rattle.tl_print.proofs.PrintedPieces.{Piece, word, sign, dashes, white, bytes_in, Stops, Good, first_kind, Front, Stands}
use Rattle.tl_print.proofs.PrintableForm.{IsWordOf, IsName, one_word, two_words, IsTypeName}

-- what the rule reads, and which pieces the tokens after stand for
pub record Left {A : Type 0} (text : List ℕ) (r : Rule Token SyntaxFault A) (ts : List Token) (x : A) (k : List Piece) : Type 0 where
  pub at : ℕ
  pub rest : List Token
  pub reads : r.reads ts x rest
  pub stands : Stands text at k rest

-- pieces of these bytes, with k after them, that a rule reads as x
pub record Printed {A : Type 0} (r : List ℕ → Rule Token SyntaxFault A) (x : A) (bytes : List ℕ) (k : List Piece) : Type 0 where
  pub pieces : List Piece
  pub bytes_are : bytes_in pieces ≡ bytes ++ bytes_in k
  pub good : Stops k → Good k → Good pieces
  pub reads : (text : List ℕ) (p : ℕ) (ts : List Token) → Stands text p pieces ts → Left text (r text) ts x k

pub left_yes : {A : Type 0} (text : List ℕ) (P : List Token → Type 0) (r s : Rule Token SyntaxFault A) (ts : List Token) (x : A) (k : List Piece) → P ts → Left text r ts x k → Left text (choice P r s) ts x k
unfolding choice
left_yes text P r s ts x k h l = record { at = l.at; rest = l.rest; stands = l.stands; reads = inl (h, l.reads) }

pub left_no : {A : Type 0} (text : List ℕ) (P : List Token → Type 0) (r s : Rule Token SyntaxFault A) (ts : List Token) (x : A) (k : List Piece) → (P ts → ⊥) → Left text s ts x k → Left text (choice P r s) ts x k
unfolding choice
left_no text P r s ts x k h l = record { at = l.at; rest = l.rest; stands = l.stands; reads = inr (h, l.reads) }

-- one turn of a loop, and the rest of it
pub loop_turn : {T F S : Type 0} (P : List T → Type 0) (r : S → Rule T F S) (s x end : S) (ts mid rest : List T) → P ts → (r s).reads ts x mid → (loop P r x).reads mid end rest → (loop P r s).reads ts end rest
unfolding loop
loop_turn P r s x end ts mid rest h g (xs, turns, over) = (x ∷ xs, (h, mid, g, turns), over)

-- ---- tokens

pub next_at : (P : Token → Type 0) (ts rest : List Token) (t : Token) → ts ≡ t ∷ rest → P t → Next P ts
next_at P ts rest t e h = subst (Next P) (sym e) h

pub not_next : (P : Token → Type 0) (ts rest : List Token) (t : Token) → ts ≡ t ∷ rest → (P t → ⊥) → Next P ts → ⊥
not_next P ts rest t e n h = n (subst (Next P) e h)

pub next_so : (P Q : Token → Type 0) (ts : List Token) → ((t : Token) → P t → Q t) → Next P ts → Next Q ts
next_so P Q [] f h = h
next_so P Q (t ∷ ts) f h = f t h

-- a token is of one kind
pub one_kind : (a b : TokenKind) (ts : List Token) → Begins a ts → Begins b ts → a ≡ b
one_kind a b [] h g = absurd h
one_kind a b (t ∷ ts) h g = sym h ∙ g

pub other_kind : (a b : TokenKind) (ts rest : List Token) (t : Token) → ts ≡ t ∷ rest → t.kind ≡ a → (a ≡ b → ⊥) → Begins b ts → ⊥
other_kind a b ts rest t e k n h = n (one_kind a b ts (next_at (OfKind a) ts rest t e k) h)

pub kind_first : (text : List ℕ) (p : ℕ) (k : List Piece) (ts : List Token) (j : TokenKind) → Stands text p k ts → Begins j ts → first_kind k ≡ Some j
kind_first text p [] ts j e h = absurd (subst (Begins j) e h)
kind_first text p (word w ∷ k) ts j (t, rest, e, f, s) h = ap Some (sym f.kind_is ∙ subst (Begins j) e h)
kind_first text p (sign i ∷ k) ts j (t, rest, e, f, s) h = ap Some (sym f.kind_is ∙ subst (Begins j) e h)
kind_first text p (dashes ∷ k) ts j (t, rest, e, f, s) h = ap Some (sym f.kind_is ∙ subst (Begins j) e h)
kind_first text p (white b ∷ k) ts j s h = kind_first text (p + 1) k ts j s h

pub token_reads : (text : List ℕ) (kind : TokenKind) (ts rest : List Token) (t : Token) → ts ≡ t ∷ rest → t.kind ≡ kind → (token text kind).reads ts t rest
unfolding token one
token_reads text kind ts rest t e k = (e, k)

pub this_is : (text : List ℕ) (p : ℕ) (bytes : List ℕ) (t : Token) → Front text p Word bytes t → IsThis text bytes t
this_is text p bytes t f = record { word = f.kind_is; bytes_are = f.bytes_are }

pub this_reads : (text : List ℕ) (p : ℕ) (bytes : List ℕ) (ts rest : List Token) (t : Token) → ts ≡ t ∷ rest → Front text p Word bytes t → (this_word text bytes).reads ts t rest
unfolding this_word one
this_reads text p bytes ts rest t e f = (e, this_is text p bytes t f)

pub word_is : (text : List ℕ) (p : ℕ) (bytes : List ℕ) (test : ℕ → Bool) (t : Token) → Front text p Word bytes t → first_is test bytes ≡ true → IsWord text test t
word_is text p bytes test t f h = record { word = f.kind_is; first = subst (λ (b : List ℕ). first_is test b ≡ true) (sym f.bytes_are) h }

pub letter_reads : (text : List ℕ) (p : ℕ) (bytes : List ℕ) (ts rest : List Token) (t : Token) → ts ≡ t ∷ rest → Front text p Word bytes t → IsWordOf is_letter bytes → (letter_word text).reads ts t rest
unfolding letter_word one
letter_reads text p bytes ts rest t e f h = (e, word_is text p bytes is_letter t f h.first)

-- ---- first bytes

pub lower_letter : (b : ℕ) → is_lower b ≡ true → is_letter b ≡ true
lower_letter b h = or_left (is_lower b) (is_upper b) h

pub letter_no_digit : (b : ℕ) → is_letter b ≡ true → is_digit b ≡ true → ⊥
letter_no_digit b h g = grind (arith, nat_tests)

pub first_so : (test other : ℕ → Bool) → ((b : ℕ) → test b ≡ true → other b ≡ true) → (bytes : List ℕ) → first_is test bytes ≡ true → first_is other bytes ≡ true
first_so test other f [] h = h
first_so test other f (b ∷ bs) h = f b h

pub first_apart : (test other : ℕ → Bool) → ((b : ℕ) → test b ≡ true → other b ≡ true → ⊥) → (bytes : List ℕ) → first_is test bytes ≡ true → first_is other bytes ≡ true → ⊥
first_apart test other f [] h g = absurd cc
first_apart test other f (b ∷ bs) h g = f b h g

-- ---- names

-- a name that is read, and where it ends
pub record NameLeft (text : List ℕ) (r : Rule Token SyntaxFault NameText) (ts : List Token) (bytes : List ℕ) (k : List Piece) : Type 0 where
  pub at : ℕ
  pub rest : List Token
  pub reads : r.reads ts (record { bytes = bytes; end = at }) rest
  pub stands : Stands text at k rest

-- the first Word of a name, and that no condition begins here
pub record NameStarts (text : List ℕ) (p : ℕ) (first : List ℕ) (ts : List Token) : Type 0 where
  pub token : Token
  pub behind : List Token
  pub whole : ts ≡ token ∷ behind
  pub front : Front text p Word first token
  pub no_condition : BeginsCondition text ts → ⊥

pub record PrintedName (test : ℕ → Bool) (r : List ℕ → Rule Token SyntaxFault NameText) (bytes : List ℕ) (k : List Piece) : Type 0 where
  pub pieces : List Piece
  pub bytes_are : bytes_in pieces ≡ bytes ++ bytes_in k
  pub good : Stops k → Good k → Good pieces
  pub first : List ℕ
  pub first_passes : first_is test first ≡ true
  pub first_from : (bytes ≡ first) ⊎ (first_is is_lower first ≡ true)
  pub starts : (text : List ℕ) (p : ℕ) (ts : List Token) → Stands text p pieces ts → NameStarts text p first ts
  pub reads : (text : List ℕ) (p : ℕ) (ts : List Token) → Stands text p pieces ts → NameLeft text (r text) ts bytes k

-- a name that begins with such a letter
abbrev pub name_by : (ℕ → Bool) → List ℕ → Rule Token SyntaxFault NameText
name_by test text = chain (one (unexpected text) (IsWord text test)) (name_from text test)

bit_dot : (text : List ℕ) (ts : List Token) → BeginsBit text ts → Begins Dot ts
bit_dot text [] h = h
bit_dot text (t ∷ ts) h = h.0

pub not_condition : (text : List ℕ) (ts rest : List Token) (t : Token) → ts ≡ t ∷ rest → (t.kind ≡ Word → ⊥) → BeginsCondition text ts → ⊥
not_condition text ts rest t e n h = n (subst (BeginsCondition text) e h).0.word

condition_bit : (text : List ℕ) (ts rest : List Token) (t : Token) → ts ≡ t ∷ rest → BeginsCondition text ts → BeginsBit text rest
condition_bit text ts rest t e h = (subst (BeginsCondition text) e h).1

bit_digit : (text : List ℕ) (ts rest : List Token) (d : Token) → ts ≡ d ∷ rest → BeginsBit text ts → Next (IsWord text is_digit) rest
bit_digit text ts rest d e h = (subst (BeginsBit text) e h).1

module _ (test : ℕ → Bool) (low : (b : ℕ) → is_lower b ≡ true → test b ≡ true) (apart : (b : ℕ) → test b ≡ true → is_digit b ≡ true → ⊥) (k : List Piece) (no_dot : first_kind k ≡ Some Dot → ⊥) where
  module _ (text : List ℕ) (p : ℕ) (bytes : List ℕ) where
    one_starts : (ts : List Token) → Stands text p (word bytes ∷ k) ts → NameStarts text p bytes ts
    one_starts ts (t, rest, e, f, s) = record {
      token = t;
      behind = rest;
      whole = e;
      front = f;
      no_condition = λ h. no_dot (kind_first text t.end k rest Dot s (bit_dot text rest (condition_bit text ts rest t e h)));
    }

    one_reads : (ts : List Token) → IsWordOf test bytes → Stands text p (word bytes ∷ k) ts → NameLeft text (name_by test text) ts bytes k
    unfolding chain one name_from choice gives
    one_reads ts h (t, rest, e, f, s) = record {
      at = t.end;
      rest = rest;
      stands = s;
      reads = (
        t,
        rest,
        (e, word_is text p bytes test t f h.first),
        inr (
          λ sp. no_dot (kind_first text t.end k rest Dot s (next_so (IsAt t.end Dot) (OfKind Dot) rest (λ u i. i.kind_is) sp.dot)),
          (ap (λ (b : List ℕ). record { bytes = b; end = t.end }) (sym f.bytes_are), refl),
        ),
      );
    }

  module _ (text : List ℕ) (p : ℕ) (space last : List ℕ) (i : IsWordOf is_lower space) (j : IsWordOf test last) where
    two_starts : (ts : List Token) → Stands text p (word space ∷ sign Dot ∷ word last ∷ k) ts → NameStarts text p space ts
    two_starts ts (t, rest, e, f, (d, more, e', f', (v, end, e'', f'', s))) = record {
      token = t;
      behind = rest;
      whole = e;
      front = f;
      no_condition = λ h.
          let n : Next (IsWord text is_digit) more = bit_digit text rest more d e' (condition_bit text ts rest t e h) in
          let w : IsWord text is_digit v = subst (Next (IsWord text is_digit)) e'' n in
          first_apart test is_digit apart last j.first (subst (λ (b : List ℕ). first_is is_digit b ≡ true) f''.bytes_are w.first);
    }

    two_reads : (ts : List Token) → Stands text p (word space ∷ sign Dot ∷ word last ∷ k) ts → NameLeft text (name_by test text) ts (joined space last) k
    unfolding chain one name_from choice gives token
    two_reads ts (t, rest, e, f, (d, more, e', f', (v, end, e'', f'', s))) = record {
      at = v.end;
      rest = end;
      stands = s;
      reads = (
        t,
        rest,
        (e, word_is text p space test t f (first_so is_lower test low space i.first)),
        inl (
          record { lower = word_is text p space is_lower t f i.first; dot = next_at (IsAt t.end Dot) rest more d e' (record { kind_is = f'.kind_is; edge_is = f'.start_is }) },
          (
            d,
            more,
            (e', f'.kind_is),
            (
              v,
              end,
              (e'', record { word = word_is text d.end last test v f'' j.first; adjoins = f''.start_is }),
              (ap (λ (b : List ℕ). record { bytes = joined b last; end = v.end }) (sym f.bytes_are) ∙ ap (λ (b : List ℕ). record { bytes = joined (bytes_of text t) b; end = v.end }) (sym f''.bytes_are), refl),
            ),
          ),
        ),
      );
    }

  pub name_printed : (bytes : List ℕ) → IsName test bytes → PrintedName test (name_by test) bytes k
  name_printed bytes (one_word h) = record {
    pieces = word bytes ∷ k;
    bytes_are = refl;
    good = λ n g. (h.run, n, g);
    first = bytes;
    first_passes = h.first;
    first_from = inl refl;
    starts = λ text p ts s. one_starts text p bytes ts s;
    reads = λ text p ts s. one_reads text p bytes ts h s;
  }
  name_printed bytes (two_words space last e i j) = record {
    pieces = word space ∷ sign Dot ∷ word last ∷ k;
    bytes_are = sym (ap (λ (b : List ℕ). b ++ bytes_in k) e ∙ append_assoc (space ++ (46 ∷ [])) last (bytes_in k) ∙ append_assoc space (46 ∷ []) (last ++ bytes_in k));
    good = λ n g. (i.run, (λ h. absurd cc), (refl, (j.run, n, g)));
    first = space;
    first_passes = first_so is_lower test low space i.first;
    first_from = inr i.first;
    starts = λ text p ts s. two_starts text p space last i j ts s;
    reads = λ text p ts s. subst (λ (b : List ℕ). NameLeft text (name_by test text) ts b k) (sym e) (two_reads text p space last i j ts s);
  }

pub declared_printed : (bytes : List ℕ) (k : List Piece) → (first_kind k ≡ Some Dot → ⊥) → IsName is_lower bytes → PrintedName is_lower (λ text. declared_name text) bytes k
unfolding declared_name
declared_printed bytes k n i = name_printed is_lower (λ b h. h) (λ b h g. letter_no_digit b (lower_letter b h) g) k n bytes i

letters_printed : (bytes : List ℕ) (k : List Piece) → (first_kind k ≡ Some Dot → ⊥) → IsName is_letter bytes → PrintedName is_letter (λ text. name text) bytes k
unfolding name letter_word
letters_printed bytes k n i = name_printed is_letter lower_letter letter_no_digit k n bytes i

-- the first Word of a type's name isn't `Object`
first_other : (bytes first other : List ℕ) → first_is is_lower other ≡ false → (bytes ≡ other → ⊥) → (bytes ≡ first) ⊎ (first_is is_lower first ≡ true) → first ≡ other → ⊥
first_other bytes first other low n (inl e) same = n (e ∙ same)
first_other bytes first other low n (inr h) same = both_ways (first_is is_lower other) low (subst (λ (b : List ℕ). first_is is_lower b ≡ true) same h)

type_name_reads : (text : List ℕ) (ts : List Token) (bytes : List ℕ) (k : List Piece) → (Next (IsObject text) ts → ⊥) → NameLeft text (name text) ts bytes k → NameLeft text (type_name text) ts bytes k
unfolding type_name choice
type_name_reads text ts bytes k n l = record { at = l.at; rest = l.rest; stands = l.stands; reads = inr (n, l.reads) }

pub type_name_printed : (bytes : List ℕ) (k : List Piece) → (first_kind k ≡ Some Dot → ⊥) → IsTypeName bytes → PrintedName is_letter (λ text. type_name text) bytes k
type_name_printed bytes k n i =
    let r = letters_printed bytes k n i.name in
    record {
      pieces = r.pieces;
      bytes_are = r.bytes_are;
      good = r.good;
      first = r.first;
      first_passes = r.first_passes;
      first_from = r.first_from;
      starts = r.starts;
      reads = λ text p ts s.
          let b = r.starts text p ts s in
          type_name_reads text ts bytes k
          (not_next (IsObject text) ts b.behind b.token b.whole (λ h. first_other bytes r.first (codes "Object") refl i.other r.first_from (sym b.front.bytes_are ∙ h.bytes_are)))
          (r.reads text p ts s);
    }
