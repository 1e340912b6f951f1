-- The first declaration with a number that is taken.
use Rattle.std.proofs.Common.{◌≡◌, ◌⊎◌, inl, inr, ℕ, ◌<◌, false, List, Option, Some, None, refl, sym, ◌∙◌, subst}
use Rattle.std.proofs.lemmas.Bool.{cases_eq}
use Rattle.tl_lexer.proofs.Whole.{Decided}
use Rattle.tl_numbers.proofs.Division.{some_crc, one_crc}
use Rattle.tl_combinators.proofs.Decided.{decided_as, decided_and, decided_or}
use Rattle.tl_program.specs.Program.{DeclText}
use Rattle.tl_graph.specs.Firsts.{First}
use Rattle.tl_names.specs.Writing.{At}
use Rattle.tl_schema.specs.Schemas.{packed_number, vector_number}
use Rattle.tl_schema.specs.Numbers.{IsWrittenOrCrc, IsNumberOf}
use Rattle.tl_schema.specs.SameNumber.{SameNumber, earlier, packed, vector}
use Rattle.tl_schema.proofs.IndexesDecided.{bool_decided, less_decided}
use Rattle.tl_schema.proofs.WritingDecided.{somewhere_decided}
use Rattle.tl_schema.proofs.Firsts.{first_declaration}

-- ---- a declaration has one number

pub some_number : (written : Option ℕ) (text : List ℕ) → (n : ℕ) × IsWrittenOrCrc written text n
some_number (Some n) text = (n, refl)
some_number None text = some_crc text

pub one_number : (written : Option ℕ) (text : List ℕ) (m n : ℕ) → IsWrittenOrCrc written text m → IsWrittenOrCrc written text n → m ≡ n
one_number (Some w) text m n e f = e ∙ sym f
one_number None text m n e f = one_crc text m n e f

number_of : (d : DeclText) → (n : ℕ) × IsNumberOf d n
number_of d = some_number d.number d.text

number_decided : (d : DeclText) (n : ℕ) → Decided (IsNumberOf d n)
number_decided d n = let own = number_of d in decided_as (λ e. subst (IsNumberOf d) e own.1) (λ h. one_number d.number d.text own.0 n own.1 h) (cases_eq own.0 n)

-- two declarations have the same one
abbrev ShareNumber : DeclText → DeclText → Type 0
ShareNumber c d = (n : ℕ) × IsNumberOf c n × IsNumberOf d n

share_decided : (c d : DeclText) → Decided (ShareNumber c d)
share_decided c d =
    let own = number_of c in
    decided_as (λ h. (own.0, own.1, h)) (λ h. subst (IsNumberOf d) (one_number c.number c.text h.0 own.0 h.1 own.1) h.2) (number_decided d own.0)

-- ---- the first that has one that is taken

abbrev SharesEarlier : List DeclText → ℕ → DeclText → Type 0
SharesEarlier ds k d = (j : ℕ) × (c : DeclText) × At ds j c × ((j < k) × ((c.builtin ≡ false) × ShareNumber c d))

abbrev TakenIn : List DeclText → ℕ → DeclText → Type 0
TakenIn ds k d = (d.builtin ≡ false) × (SharesEarlier ds k d ⊎ (IsNumberOf d packed_number ⊎ IsNumberOf d vector_number))

module _ (ds : List DeclText) where
  taken : (k : ℕ) (d : DeclText) → At ds k d → TakenIn ds k d → SameNumber ds k
  taken k d here (own, inl (j, c, there, (before, (other, (n, p, q))))) =
      earlier j n before (record { d = c; here = there; own = other; number = p }) (record { d = d; here = here; own = own; number = q })
  taken k d here (own, inr (inl p)) = packed (record { d = d; here = here; own = own; number = p })
  taken k d here (own, inr (inr p)) = vector (record { d = d; here = here; own = own; number = p })

  of_taken : (k : ℕ) → SameNumber ds k → (d : DeclText) × At ds k d × TakenIn ds k d
  of_taken k (earlier j n before first second) =
      (second.d, second.here, (second.own, inl (j, first.d, first.here, (before, (first.own, (n, first.number, second.number))))))
  of_taken k (packed here) = (here.d, here.here, (here.own, inr (inl here.number)))
  of_taken k (vector here) = (here.d, here.here, (here.own, inr (inr here.number)))

  shares_decided : (k : ℕ) (d : DeclText) → Decided (SharesEarlier ds k d)
  shares_decided k d =
      somewhere_decided ds (λ j c. (j < k) × ((c.builtin ≡ false) × ShareNumber c d)) (λ j c. decided_and (less_decided j k) (decided_and (bool_decided c.builtin false) (share_decided c d)))

  taken_decided : (k : ℕ) (d : DeclText) → Decided (TakenIn ds k d)
  taken_decided k d = decided_and (bool_decided d.builtin false) (decided_or (shares_decided k d) (decided_or (number_decided d packed_number) (number_decided d vector_number)))

  pub same_number_first : (o : Option ℕ) × First (SameNumber ds) o
  same_number_first = first_declaration ds (SameNumber ds) (TakenIn ds) taken of_taken taken_decided
