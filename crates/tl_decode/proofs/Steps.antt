-- One step of reading, and then another.
use Rattle.std.proofs.Common.{◌≡◌, ℕ, List, Option, Some, None, Result, Ok, Err, refl, subst, ap, sym, ◌∙◌}
use Rattle.tl_types.specs.inner.Reading.{Spot, spot, Read, ◌>>=◌}
use Rattle.tl_decode.specs.declared.fault.DecodeFault.{DecodeFault}
use Rattle.tl_decode.specs.declared.fault.DecodeFault.TheVariants.{Refused, ReadFault, Memory}
use Rattle.tl_decode.specs.inner.Steps.{ReadsAs}

-- the step before succeeded
pub then_read : {X Y Z W : Type 0} (see : X → Y) (look : Z → W) (a b c : Option (List ℕ)) (p q r : ℕ) (x : X) (res : Result Z DecodeFault) (f : Spot → Read Y) (g : ℕ → Y × Spot → Read W)
    → ReadsAs see a b p q (Ok x) f → ReadsAs look b c q r res (λ s. g p (see x, s)) → ReadsAs look a c p r res (λ s. f s >>= g s.place)
then_read see look None b c p q r x res f g h k = tt
then_read {Z = Z} see look (Some bytes) b c p q r x (Ok z) f g h k =
    let there = subst (λ (o : Option (List ℕ)). ReadsAs {X = Z} look o c q r (Ok z) (λ s. g p (see x, s))) h.1 k in
    (there.0, there.1, rw h.2 there.2)
then_read {Z = Z} see look (Some bytes) b c p q r x (Err (Refused place cause)) f g h k =
    let there = subst (λ (o : Option (List ℕ)). ReadsAs {X = Z} look o c q r (Err (Refused place cause)) (λ s. g p (see x, s))) h.1 k in
    rw h.2 there
then_read see look (Some bytes) b c p q r x (Err ReadFault) f g h k = tt
then_read see look (Some bytes) b c p q r x (Err Memory) f g h k = tt

-- the step before failed
pub then_fails : {X Y Z W : Type 0} (see : X → Y) (look : Z → W) (a b : Option (List ℕ)) (p q r : ℕ) (e : DecodeFault) (f : Spot → Read Y) (g : ℕ → Y × Spot → Read W)
    → ReadsAs {X = X} see a b p q (Err e) f → ReadsAs {X = Z} look a b p r (Err e) (λ s. f s >>= g s.place)
then_fails see look None b p q r e f g h = tt
then_fails see look (Some bytes) b p q r (Refused place cause) f g h = rw h refl
then_fails see look (Some bytes) b p q r ReadFault f g h = tt
then_fails see look (Some bytes) b p q r Memory f g h = tt

-- nothing more is read
pub gives : {Z W : Type 0} (look : Z → W) (a : Option (List ℕ)) (p : ℕ) (z : Z) (w : W) → look z ≡ w → ReadsAs look a a p p (Ok z) (λ s. Ok (w, s))
gives look None p z w e = tt
gives look (Some bytes) p z w e = (bytes, refl, ap (λ (x : _). Ok (x, spot p bytes)) (sym e))

pub refuses : {Z W : Type 0} (look : Z → W) (a : Option (List ℕ)) (p q place : ℕ) (cause : _) → ReadsAs {X = Z} look a a p q (Err (Refused place cause)) (λ s. Err (place, cause))
refuses look None p q place cause = tt
refuses look (Some bytes) p q place cause = refl

-- what was read is made into something else
pub makes : {X Y Z W : Type 0} (see : X → Y) (look : Z → W) (a b : Option (List ℕ)) (p q : ℕ) (x : X) (z : Z) (f : Spot → Read Y) (make : Y → W)
    → ReadsAs see a b p q (Ok x) f → look z ≡ make (see x) → ReadsAs look a b p q (Ok z) (λ s. f s >>= λ y. Ok (make y.0, y.1))
makes see look None b p q x z f make h e = tt
makes see look (Some bytes) b p q x z f make h e = (h.0, h.1, rw (h.2, e) refl)

-- a reading is the same as another
pub as_read : {Z W : Type 0} (look : Z → W) (a b : Option (List ℕ)) (p q : ℕ) (res : Result Z DecodeFault) (f g : Spot → Read W) → ReadsAs look a b p q res f → ((s : Spot) → g s ≡ f s) → ReadsAs look a b p q res g
as_read look None b p q res f g h e = tt
as_read look (Some bytes) b p q (Ok z) f g h e = (h.0, h.1, e (spot p bytes) ∙ h.2)
as_read look (Some bytes) b p q (Err (Refused place cause)) f g h e = e (spot p bytes) ∙ h
as_read look (Some bytes) b p q (Err ReadFault) f g h e = tt
as_read look (Some bytes) b p q (Err Memory) f g h e = tt

-- the whole is what is read on from here
unfoldable pub Continues : {Y : Type 0} → (Spot → Read Y) → Option (List ℕ) → Option (List ℕ) → ℕ → ℕ → (Spot → Read Y) → Type 0
Continues whole None b p q on = Unit {0}
Continues whole (Some bytes) b p q on = (rest : List ℕ) × (b ≡ Some rest) × (on (spot q rest) ≡ whole (spot p bytes))

pub continues_none : {W : Type 0} (whole on : Spot → Read W) (a : Option (List ℕ)) (p : ℕ) → ((s : Spot) → on s ≡ whole s) → Continues whole a a p p on
unfolding Continues
continues_none whole on None p e = tt
continues_none whole on (Some bytes) p e = (bytes, refl, e _)

pub continues_more : {X Y W : Type 0} (see : X → Y) (whole on next : Spot → Read W) (a b c : Option (List ℕ)) (p q r : ℕ) (x : X) (f : Spot → Read Y) (g : Y × Spot → Read W)
    → Continues whole a b p q on → ReadsAs see b c q r (Ok x) f → ((s : Spot) → on s ≡ (f s >>= g)) → ((s : Spot) → next s ≡ g (see x, s)) → Continues whole a c p r next
unfolding Continues
continues_more see whole on next None b c p q r x f g h got e n = tt
continues_more {X = X} see whole on next (Some bytes) b c p q r x f g h got e n =
    let there = subst (λ (o : Option (List ℕ)). ReadsAs {X = X} see o c q r (Ok x) f) h.1 got in
    (there.0, there.1, n _ ∙ (sym (e (spot q h.0) ∙ rw there.2 refl) ∙ h.2))

pub continues_fails : {X Y Z W : Type 0} (see : X → Y) (look : Z → W) (whole on : Spot → Read W) (a b c : Option (List ℕ)) (p q r s : ℕ) (e : DecodeFault) (f : Spot → Read Y) (g : Y × Spot → Read W)
    → Continues whole a b p q on → ReadsAs {X = X} see b c q r (Err e) f → ((s : Spot) → on s ≡ (f s >>= g)) → ReadsAs {X = Z} look a c p s (Err e) whole
unfolding Continues
continues_fails see look whole on None b c p q r s e f g h got is = tt
continues_fails {X = X} see look whole on (Some bytes) b c p q r s (Refused place cause) f g h got is =
    let there = subst (λ (o : Option (List ℕ)). ReadsAs {X = X} see o c q r (Err (Refused place cause)) f) h.1 got in
    sym h.2 ∙ (is (spot q h.0) ∙ rw there refl)
continues_fails see look whole on (Some bytes) b c p q r s ReadFault f g h got is = tt
continues_fails see look whole on (Some bytes) b c p q r s Memory f g h got is = tt

pub continues_done : {Z W : Type 0} (look : Z → W) (whole on : Spot → Read W) (a b : Option (List ℕ)) (p q : ℕ) (z : Z) → Continues whole a b p q on → ((s : Spot) → on s ≡ Ok (look z, s)) → ReadsAs look a b p q (Ok z) whole
unfolding Continues
continues_done look whole on None b p q z h e = tt
continues_done look whole on (Some bytes) b p q z h e = (h.0, h.1, sym h.2 ∙ e (spot q h.0))
