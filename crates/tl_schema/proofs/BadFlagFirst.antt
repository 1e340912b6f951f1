-- The first declaration with a condition on no earlier `#` field, or on a bit above 31.
use Rattle.std.proofs.Common.{◌≡◌, inl, inr, ℕ, ◌<◌, List, Option, Some, None, refl}
use Rattle.tl_lexer.proofs.Whole.{Decided}
use Rattle.tl_combinators.proofs.Decided.{decided_as, decided_not, decided_and, decided_or, text_decided}
use Rattle.tl_program.specs.Program.{KindText, nat, flag, call, of, CondText, DeclText}
use Rattle.tl_graph.specs.Firsts.{First}
use Rattle.tl_schema.specs.BadFlag.{IsFlagsBefore, IsBadCondition, HasBadCondition, BadFlag}
use Rattle.tl_schema.proofs.IndexesDecided.{less_decided, some_decided}
use Rattle.tl_schema.proofs.Firsts.{first_that}

nat_decided : (kind : KindText) → Decided (kind ≡ nat)
nat_decided nat = inl refl
nat_decided flag = inr (λ e. absurd cc)
nat_decided (call var) = inr (λ e. absurd cc)
nat_decided (of t) = inr (λ e. absurd cc)

pub flags_before_decided : (d : DeclText) (i : ℕ) (flags : List ℕ) → Decided (IsFlagsBefore d i flags)
flags_before_decided d i flags =
    decided_as (λ h. record { earlier = h.0; f = h.1; before = h.3.0; there = h.2; number = h.3.1.0; name = h.3.1.1 }) (λ r. (r.earlier, r.f, r.there, (r.before, (r.number, r.name))))
    (some_decided d.fields (λ j f. (j < i) × ((f.kind ≡ nat) × (f.name ≡ flags))) (λ j f. decided_and (less_decided j i) (decided_and (nat_decided f.kind) (text_decided f.name flags))))

bad_condition_decided : (d : DeclText) (i : ℕ) (o : Option CondText) → Decided (IsBadCondition d i o)
bad_condition_decided d i None = inr (λ h. h)
bad_condition_decided d i (Some c) = decided_or (less_decided 31 c.bit) (decided_not (flags_before_decided d i c.flags))

has_bad_decided : (d : DeclText) → Decided (HasBadCondition d)
has_bad_decided d =
    decided_as (λ h. record { i = h.0; f = h.1; field = h.2; bad = h.3 }) (λ r. (r.i, r.f, r.field, r.bad)) (some_decided d.fields (λ i f. IsBadCondition d i f.cond) (λ i f. bad_condition_decided d i f.cond))

pub bad_flag_first : (ds : List DeclText) → (o : Option ℕ) × First (BadFlag ds) o
bad_flag_first ds = first_that ds HasBadCondition has_bad_decided
