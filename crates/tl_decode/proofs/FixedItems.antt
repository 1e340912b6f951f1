-- Four bytes, as the source gives them.
use Rattle.std.proofs.Common.{◌≡◌, ℕ, List, length, Option, Some, None, Ok, Err, refl, ap, sym, ◌∙◌, arith}
use Rattle.std.specs.Prelude.{IfSome}
use Rattle.std.specs.Int.{w32, from_le_bytes}
use Rattle.tl_base.specs.Taking.{TakesBytes}
use Rattle.tl_base.specs.declared.source.TakeFault.TheVariants as took
use Rattle.tl_types.specs.Offsets.{moved}
use Rattle.tl_types.specs.inner.Reading.{Spot, spot, Read, exact_at, word_at}
use Rattle.tl_types.specs.declared.cause.Cause.TheVariants.{Truncated}
use Rattle.tl_types.proofs.Numbers.{exact_again, exact_short}
use Rattle.tl_decode.specs.declared.fault.DecodeFault.TheVariants.{Refused}
use Rattle.tl_decode.specs.inner.Steps.{ReadsAs}
use Rattle.tl_decode.proofs.Steps.{makes, then_fails}

-- the next four bytes
abbrev four_at : Spot → Read (List ℕ)
four_at s = exact_at s.place 4 s

four_taken : (a b : Option (List ℕ)) (p q : ℕ) (xs : List ℕ) → length xs ≡ 4 → IfSome a (λ bytes. TakesBytes 4 bytes b (Ok xs)) → q ≡ moved p 4 → ReadsAs (λ (w : List ℕ). w) a b p q (Ok xs) four_at
four_taken None b p q xs len h at = tt
four_taken (Some bytes) None p q xs len h at = absurd h.1
four_taken (Some bytes) (Some rest) p q xs len h at = (rest, refl, ap (λ (z : List ℕ). exact_at p 4 (spot p z)) h.1 ∙ exact_again p p xs rest 4 len ∙ ap (λ (z : ℕ). Ok (xs, spot z rest)) (sym at))

four_short : (a b : Option (List ℕ)) (p q had : ℕ) → IfSome a (λ bytes. TakesBytes 4 bytes b (Err (took.Ended had))) → ReadsAs {X = List ℕ} (λ (w : List ℕ). w) a b p q (Err (Refused p Truncated)) four_at
four_short None b p q had h = tt
four_short (Some bytes) b p q had h = exact_short p p 4 bytes (omega (arith, h.0, h.1))

pub word_read : (a b : Option (List ℕ)) (p q w : ℕ) (xs : List ℕ) → length xs ≡ 4 → IfSome a (λ bytes. TakesBytes 4 bytes b (Ok xs)) → q ≡ moved p 4 → w ≡ from_le_bytes w32 xs → ReadsAs (λ (w : ℕ). w) a b p q (Ok w) word_at
unfolding word_at
word_read a b p q w xs len h at is = makes (λ (w : List ℕ). w) (λ (w : ℕ). w) a b p q xs w four_at (from_le_bytes w32) (four_taken a b p q xs len h at) is

pub word_ended : (a b : Option (List ℕ)) (p q had : ℕ) → IfSome a (λ bytes. TakesBytes 4 bytes b (Err (took.Ended had))) → ReadsAs {X = ℕ} (λ (w : ℕ). w) a b p q (Err (Refused p Truncated)) word_at
unfolding word_at
word_ended a b p q had h = then_fails (λ (w : List ℕ). w) (λ (w : ℕ). w) a b p q q (Refused p Truncated) four_at (λ _ x. Ok (from_le_bytes w32 x.0, x.1)) (four_short a b p q had h)
