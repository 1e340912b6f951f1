-- The rules of a text's pieces are sure, and what `lex` answers is what they say.
use Rattle.std.proofs.Common.{◌≡◌, ℕ, ◌≤◌, List, [], length, drop, length-drop, Option, Some, Result, Ok, Err, refl, sym, ap, ◌∙◌, arith, inl, inr}
use Rattle.tl_lexer.specs.Rule.{Parses}
use Rattle.tl_lexer.proofs.Sure.{Sure, sure_gives, sure_fails, sure_here, sure_one, sure_chain, sure_choice, sure_loop}
use Rattle.tl_lexer.specs.declared.token.Token.{Token}
use Rattle.tl_lexer.specs.declared.fault.LexFault.{LexFault}
use Rattle.tl_lexer.specs.declared.fault.LexFault.TheVariants.{TextTooLong, BadByte, OpenComment, Memory}
use Rattle.tl_lexer.specs.Tokens.{any_byte, two_bytes, bytes_while, white_byte, word, line, closes, block, dashes, single_byte, piece, more, pieces, place, fault_of, Tokens, LexRefused}
use Rattle.tl_lexer.specs.Lexed.{Lexes, Accepts, Refuses}
use Rattle.tl_lexer.proofs.Spans.{pieces_spans}

sure_any : (size : ℕ) → Sure (any_byte size)
unfolding any_byte
sure_any size = sure_one _ _

sure_two : (size : ℕ) → Sure (two_bytes size)
unfolding two_bytes
sure_two size = sure_chain _ _ (sure_any _) (λ a. sure_chain _ _ (sure_any _) (λ b. sure_gives _))

sure_while : (size : ℕ) (P : List ℕ → Type 0) → Sure (bytes_while size P)
unfolding bytes_while
sure_while size P = sure_loop _ _ (λ u. sure_chain _ _ (sure_any _) (λ b. sure_gives _)) _

sure_block : (size : ℕ) → Sure (block size)
unfolding block closes
sure_block size =
    sure_chain _ _ (sure_here _) (λ start. sure_chain _ _ (sure_two _) (λ u. sure_chain _ _ (sure_while _ _)
    (λ v. sure_choice _ _ _ (sure_chain _ _ (sure_two _) (λ w. sure_gives _)) (sure_fails _))))

sure_piece : (size : ℕ) → Sure (piece size)
unfolding piece white_byte word line dashes single_byte
sure_piece size =
    sure_choice _ _ _ (sure_chain _ _ (sure_any _) (λ b. sure_gives _))
    (sure_choice _ _ _ (sure_chain _ _ (sure_any _) (λ b. sure_chain _ _ (sure_while _ _) (λ u. sure_gives _)))
    (sure_choice _ _ _ (sure_chain _ _ (sure_two _) (λ u. sure_chain _ _ (sure_while _ _) (λ v. sure_gives _)))
    (sure_choice _ _ _ (sure_block _)
    (sure_choice _ _ _ (sure_chain _ _ (sure_two _) (λ u. sure_chain _ _ (sure_any _) (λ b. sure_gives _)))
    (sure_choice _ _ _ (sure_chain _ _ (sure_any _) (λ b. sure_gives _)) (sure_fails _))))))

pub sure_pieces : (size : ℕ) → Sure (pieces size)
unfolding pieces more
sure_pieces size = sure_loop _ _ (λ ts. sure_chain _ _ (sure_here _) (λ s. sure_chain _ _ (sure_piece _) (λ o. sure_chain _ _ (sure_here _) (λ e. sure_gives _)))) _

pub place_is : (text : List ℕ) (i : ℕ) → i ≤ length text → i ≡ place (length text) (drop i text)
place_is text i h = omega (arith, length-drop i text)

pub fault_place : (text : List ℕ) (i : ℕ) → i ≤ length text → ◌≡◌ {A = Option LexFault} (Some (BadByte i)) (Some (BadByte (place (length text) (drop i text))))
fault_place text i h = ap (λ (p : ℕ). Some (BadByte p)) (place_is text i h)

module _ {X : Type 0} (see : X → List Token) (text : List ℕ) (small : length text ≤ 4194304) where
  pub gives_lexes : (x : Result X LexFault) → Parses fault_of see (pieces (length text)) text [] x → Lexes see text x
  gives_lexes (Ok x) h = (small, h.given, pieces_spans text [] (see x) h.given)
  gives_lexes (Err TextTooLong) h = inr (small, h.given)
  gives_lexes (Err (BadByte at)) h = inr (small, h.given)
  gives_lexes (Err (OpenComment at)) h = inr (small, h.given)
  gives_lexes (Err Memory) h = tt

pub never_both : (text : List ℕ) (ts : List Token) (fault : LexFault) → Tokens text ts → LexRefused text fault → ⊥
never_both text ts fault t (inl r) = absurd (omega (arith, t.0, r.0))
never_both text ts fault t (inr r) = (sure_pieces _).apart text [] ts fault t.1 r.1

pub one_fault : (text : List ℕ) (fault other : LexFault) → LexRefused text fault → LexRefused text other → fault ≡ other
one_fault text fault other (inl p) (inl q) = p.1 ∙ sym q.1
one_fault text fault other (inl p) (inr q) = absurd (omega (arith, p.0, q.0))
one_fault text fault other (inr p) (inl q) = absurd (omega (arith, p.0, q.0))
one_fault text fault other (inr p) (inr q) = (sure_pieces _).fault text fault other p.1 q.1

module _ {X : Type 0} (see : X → List Token) (text : List ℕ) where
  -- tokens of a text are all that it has, and what is refused has none
  pub lexes_reads : (x : Result X LexFault) → Lexes see text x → (ts : List Token) → Tokens text ts → Accepts see ts x
  lexes_reads (Ok x) h ts t = ((sure_pieces _).same text [] [] (see x) ts h.1 t.1).0
  lexes_reads (Err TextTooLong) h ts t = absurd (never_both text ts TextTooLong t h)
  lexes_reads (Err (BadByte at)) h ts t = absurd (never_both text ts (BadByte at) t h)
  lexes_reads (Err (OpenComment at)) h ts t = absurd (never_both text ts (OpenComment at) t h)
  lexes_reads (Err Memory) h ts t = refl

  pub lexes_refuses : (x : Result X LexFault) → Lexes see text x → (fault : LexFault) → LexRefused text fault → Refuses fault x
  lexes_refuses (Ok x) h fault r = never_both text (see x) fault h r
  lexes_refuses (Err TextTooLong) h fault r = inr (ap Some (one_fault text TextTooLong fault h r))
  lexes_refuses (Err (BadByte at)) h fault r = inr (ap Some (one_fault text (BadByte at) fault h r))
  lexes_refuses (Err (OpenComment at)) h fault r = inr (ap Some (one_fault text (OpenComment at) fault h r))
  lexes_refuses (Err Memory) h fault r = inl refl
